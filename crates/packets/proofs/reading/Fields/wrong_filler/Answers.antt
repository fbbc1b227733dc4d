use Rattle.std.proofs.Common.{eqb, not, ap, rules, tests}
use Rattle.std.proofs.lemmas.Iterator.{YieldsList-from_slice}
use Rattle.std.proofs.lemmas.Iterator.Adapters.{YieldsList-from_skip}
use Rattle.std.proofs.lemmas.Iterator.Search.{all_from_yields_List}
use Rattle.packets.proofs.reading.Fields.wrong_filler.Goals as goal

pub returns : goal.returns
returns c =
    ap not
    (all_from_yields_List (λ x. eqb x 0) _ _ c.all.result c.all.ensures.ran
    (YieldsList-from_skip c.args.self.total (YieldsList-from_slice c.args.block.now cc) (cc))
    (λ x b q k. search (rules, tests)))
