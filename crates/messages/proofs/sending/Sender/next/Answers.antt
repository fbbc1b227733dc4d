use Rattle.std.proofs.Common.{◌≡◌, ◌-◌, ◌*◌, ◌<◌, true, min, length, vec_items, arith, rules}
use Rattle.messages.specs.Pieces.{piece_count}
use Rattle.messages.specs.SenderCalls.{is_loaded, next_piece}
use Rattle.messages.proofs.Cutting.{length-piece, next_reached, starts_within}
use Rattle.messages.proofs.sending.Sender.next.Goals as goal

pub returns-clause-fits : goal.returns-clause-fits
returns-clause-fits c =
    let s = c.args.self.now in
    let d = s.piece_length.bytes in
    let message = vec_items s.message in
    let id = c.in_ok-id.id in
    let loaded : is_loaded s.progress ≡ true = search rules in
    let is : id ≡ next_piece s.progress = search rules in
    let before = next_reached s.progress loaded in
    let sound = s.sound in
    let few = s.few in
    let least = s.piece_length.least in
    let within : id < piece_count d (length message) = omega arith in
    let starts = starts_within d least (length message) id within in
    let size = length-piece d id message in
    let answer : c.write_piece-length.result ≡ min d (length message - id * d) = search (rules, size) in
    (omega arith, omega arith, omega arith)
