use Rattle.std.proofs.Common.{◌+◌, take, sym, ap, ◌∙◌, rules, tests}
use Rattle.std.proofs.lemmas.Iterator.{YieldsList-from_slice}
use Rattle.std.proofs.lemmas.Iterator.Search.{all_from_yields_List}
use Rattle.messages.specs.CollectorCalls.{none_missing}
use Rattle.messages.specs.Endings.{last_of}
use Rattle.messages.proofs.pieces.Pieces.none_missing.Goals as goal

pub returns : goal.returns
returns c =
    all_from_yields_List (λ b. b) _ _ c.all.result c.all.ensures.ran
    (YieldsList-from_slice (take (c.in-Some.ending.id + 1) c.args.self.now.there) cc)
    (λ x b q k. search (rules, tests))
    ∙ sym (ap (λ e. none_missing c.args.self.now.there (last_of e)) c.in-Some.is)
