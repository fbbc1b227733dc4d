use Rattle.std.proofs.Common.{◌≡◌, ◌+◌, drop, rules, tests}
use Rattle.std.proofs.lemmas.Iterator.{YieldsList-from_slice}
use Rattle.std.proofs.lemmas.Iterator.Adapters.{YieldsList-from_skip}
use Rattle.std.proofs.lemmas.Iterator.Search.{any_from_yields_List}
use Rattle.messages.specs.CollectorCalls.{any_true}
use Rattle.messages.proofs.pieces.Pieces.misplaced.Goals as goal

pub returns-then-header : goal.returns-then-header
returns-then-header c =
    let cuts : c.any.result ≡ any_true (drop (c.from-after.result + 1) c.args.self.now.there) =
    any_from_yields_List (λ b. b) _ _ c.any.result c.any.ensures.ran
    (YieldsList-from_skip (c.from-after.result + 1) (YieldsList-from_slice c.args.self.now.there cc) (cc))
    (λ x b q k. search (rules, tests)) in
    search rules
