use Rattle.messages.proofs.Runs.{pair_promised}
use Rattle.messages.proofs.Shows.{pair_shown}
use Rattle.messages.proofs.together.pair.Goals as goal

pub returns : goal.returns
returns c =
    let s = c.in_ok-sender.ensures in
    let k = c.in_ok-collector.ensures in
    let p = pair_promised c.args.piece_length _ _ s k in
    record { new = (s, k); promise = p; shown = pair_shown c.args.piece_length _ _ s p }
