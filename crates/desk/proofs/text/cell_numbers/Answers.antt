use Rattle.std.proofs.Common.{rules, ◌∙◌}
use Rattle.std.proofs.lemmas.Iterator.{YieldsList-from_slice, items_from_collect}
use Rattle.std.proofs.lemmas.Iterator.Adapters.{YieldsList-from_flat_map}
use Rattle.desk.specs.Texts.{numbers_of}
use Rattle.desk.proofs.Arrays.{YieldsList-from_array}
use Rattle.desk.proofs.text.cell_numbers.Goals as goal

pub returns : goal.returns
returns c = items_from_collect _ c.collect.ensures.ran
    (YieldsList-from_flat_map _ _ _ (λ x. x) numbers_of _
    (λ x u q k. (search rules, λ j b. YieldsList-from_array _ (b.0 ∙ search rules)))
    (YieldsList-from_slice c.args.cells.now cc)
    c.flat_map.ensures.closure c.flat_map.ensures.front c.flat_map.ensures.back c.flat_map.ensures.done)
