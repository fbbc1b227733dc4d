use Rattle.std.proofs.Common.{◌≡◌, Err, Result, refl, sym, ap, ◌∙◌, rules}
use Rattle.refusals.specs.declared.Refusal.{Refusal}
use Rattle.frames.specs.Faults.{refusal_of}
use Rattle.frames.specs.Frames.{Sending, sending_on}
use Rattle.frames.specs.Reading.{Mending, Told, mending_on}
use Rattle.frames.specs.Tellings.{told}
use Rattle.frames.specs.declared.channel.Channel.{Channel}
use Rattle.frames.specs.declared.fault.FrameFault.{FrameFault}
use Rattle.frames.specs.declared.reading.Heard.{Heard}
use Rattle.radio.specs.ReceiverCalls.{read_as}
use Rattle.radio.specs.ReceiverStates.{heard, receiver_state}
use Rattle.radio.proofs.Hearings.{hears_other_length, hears_read, reads_copy, two_each}
use Rattle.radio.proofs.receiver.Receiver.read.Given as given
use Rattle.radio.proofs.receiver.Receiver.read.Goals as goal

-- what is heard, by what was read
abbrev read_told : Result Heard FrameFault → Result Told Refusal
read_told a = read_as (told a)

module _ (g : given.Over) (channel : Channel g.row.M.Denot g.row.T.Denot g.row.A.Denot g.row.B.Denot g.row.C.Denot) where
  abbrev sends : g.row.D.Denot → Sending
  sends = sending_on g.M.SendingCode g.T.SendingCode g.D.SendingCode g.A.Constellation g.B.Constellation g.C.Constellation channel

  abbrev mends : g.row.D.Denot → Mending
  mends = mending_on g.M.MendingCode g.T.MendingCode g.D.MendingCode g.A.Constellation g.B.Constellation g.C.Constellation channel

pub returns-in_default-new : goal.returns-in_default-new
returns-in_default-new g c =
    let s = c.args.self.now in
    let layout = c.in-Some.layout in
    let parts = c.in-Some.ensures.parts in
    hears_other_length (receiver_state s) layout.mode c.args.numbers.now layout.plan.now parts.0 parts.1 c.in_default-new.ensures

pub returns-in_err-read_frame : goal.returns-in_err-read_frame
returns-in_err-read_frame g c =
    let s = c.args.self.now in
    let layout = c.in-Some.layout in
    let received = c.in-Some-new.received in
    let answer = c.read_frame.result in
    let parts = c.in-Some.ensures.parts in
    let same = c.in-Some-new.ensures in
    let is : c.from_residual.result ≡ Err (refusal_of c.in_err-read_frame.field-0.0) = search rules in
    let e = c.read_frame.ensures in
    hears_read (receiver_state s) layout.mode c.args.numbers.now (told answer) _ parts.0 (two_each same.0 parts.1 same.1 received.pairs)
    (reads_copy (sends g s.channel.now) (mends g s.channel.now) layout.mode (told answer) _ s.line_up.code layout.code.now layout.plan.now c.args.numbers.now received.numbers.now refl parts.2 parts.1 same.1 e.answer e.reads_sent e.has_frame)
    (ap heard is ∙ sym (ap read_told c.in_err-read_frame.was))

pub returns : goal.returns
returns g c =
    let s = c.args.self.now in
    let layout = c.in-Some.layout in
    let received = c.in-Some-new.received in
    let answer = c.read_frame.result in
    let parts = c.in-Some.ensures.parts in
    let same = c.in-Some-new.ensures in
    let e = c.read_frame.ensures in
    hears_read (receiver_state s) layout.mode c.args.numbers.now (told answer) _ parts.0 (two_each same.0 parts.1 same.1 received.pairs)
    (reads_copy (sends g s.channel.now) (mends g s.channel.now) layout.mode (told answer) _ s.line_up.code layout.code.now layout.plan.now c.args.numbers.now received.numbers.now refl parts.2 parts.1 same.1 e.answer e.reads_sent e.has_frame)
    (sym (ap read_told c.in_ok-read_frame.was))
