use Rattle.std.proofs.Common.{◌≡◌, ℕ, ◌*◌, List, length, length-take, replicate, take, vec_items, true, ap, ◌∙◌, arith, rules}
use lib.ListN.{length-replicate}
use Rattle.std.proofs.lemmas.Bool.{eq-eqb}
use Rattle.lineup.specs.Layouts.{block_length_of}
use Rattle.lineup.specs.declared.kind.CellKind.{CellKind}
use Rattle.messages.specs.SenderCalls.{is_loaded}
use Rattle.radio.specs.ExciterCalls.{with_sender}
use Rattle.radio.specs.ExciterStates.{exciter_state}
use Rattle.radio.proofs.Calls.{passes_send}
use Rattle.radio.proofs.exciter.Exciter.send.Goals as goal

-- two numbers for each cell
abbrev twice : List CellKind → ℕ
twice plan = 2 * length plan

pub write_frame-requires-clause-cells : goal.write_frame-requires-clause-cells
write_frame-requires-clause-cells g c = c.if-numbers-layout.false

pub returns : goal.returns
returns g c =
    let s = c.args.self.now in
    let layout = c.in-Some.layout in
    let k = g.D.SendingCode.message_length in
    let parts = c.in-Some.ensures.parts in
    let block = c.in-Some.ensures.block in
    let station = c.in-Some-station.is in
    let loaded : is_loaded s.sender.progress ≡ true = search rules in
    let two : length c.args.numbers.now ≡ 2 * length (vec_items s.line_up.plan) = c.if-numbers-layout.false ∙ ap twice parts.1 in
    let most = layout.roomy.most in
    let size : length (take c.block_length.result (replicate {A = ℕ} 1440 0)) ≡ block_length_of layout.mode (k layout.code.now) = rw (length-take, length-replicate) (omega arith) in
    let next = c.in_ok-write_next.ensures in
    let frame = c.write_frame.ensures in (
      passes_send s.line_up.mode (is_loaded s.sender.progress) s.station _ layout.mode c.in-Some-station.station parts.0 loaded station (eq-eqb _ _ two),
      record {
        mode = layout.mode;
        station = c.in-Some-station.station;
        has_mode = parts.0;
        has_station = station;
        is_frame = rw (next.2, size, parts.1, parts.2) at frame;
        fits = rw (size, block) at next.1;
      },
      ap (with_sender (exciter_state s)) next.3,
    )
