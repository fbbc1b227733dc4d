use Rattle.std.proofs.Common.{◌∙◌, rules}
use Rattle.std.specs.List.{flat_map}
use Rattle.desk.specs.Texts.{numbers_of}
use Rattle.desk.proofs.WordByWord.{one_more_set}
use Rattle.desk.proofs.settings.set_numbers.Goals as goal

pub loop-word-preserved : goal.loop-word-preserved
loop-word-preserved c =
    one_more_set c.args.words.now c.loop-word.word-index _ c.in_ok-setting.setting (flat_map numbers_of c.loop-word.cells) (flat_map numbers_of c.apply.new.cells) _
    c.loop-word-test.true c.in_ok-setting.ensures.value c.apply.ensures (search rules)
    ∙ c.loop-word.invariant
