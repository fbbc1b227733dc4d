use Rattle.std.proofs.Common.{◌≡◌, drop}
use Rattle.std.specs.List.{flat_map}
use Rattle.desk.specs.Settings.{set_all}
use Rattle.desk.specs.Texts.{numbers_of}
use Rattle.desk.specs.Words.{texts}
use Rattle.desk.proofs.settings.set_numbers.Given as goal

abbrev pub invariant-loop-word : goal.invariant-loop-word
invariant-loop-word l =
    set_all (texts (drop l.word-index l.words)) (flat_map numbers_of l.cells)
    ≡ set_all (texts l.fn.words) (flat_map numbers_of l.fn.cells)
