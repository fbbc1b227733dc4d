use Rattle.std.proofs.Common.{◌≡◌, vec_items, refl, sym, ap, ◌∙◌}
use Rattle.frames.specs.Frames.{Sending, sending_on}
use Rattle.frames.specs.Reading.{Mending, mending_on}
use Rattle.frames.specs.declared.channel.Channel.{Channel}
use Rattle.frames.proofs.Apart.{Distant, frames_apart}
use Rattle.frames.proofs.FrameAnswers.{Known}
use Rattle.frames.proofs.Sent.{stream_known}
use Rattle.lineup.specs.Views.{Alike, block_length}
use Rattle.lineup.specs.declared.line_up.LineUp.{LineUp}
use Rattle.radio.specs.ExciterCalls.{new_exciter}
use Rattle.radio.specs.ExciterStates.{exciter_state}
use Rattle.radio.specs.Lines.{line_on}
use Rattle.radio.specs.ReceiverStates.{receiver_state}
use Rattle.lineup.proofs.Rooms.{roomy}
use Rattle.radio.proofs.Promised.{blocks_held, runs_promised, same_line}
use Rattle.radio.proofs.Reached.{Apart}
use Rattle.radio.proofs.RunsShown.{runs_shown}
use Rattle.radio.proofs.together.pair.Given as given
use Rattle.radio.proofs.together.pair.Goals as goal

module _ (g : given.Over) (channel : Channel g.row.M.Denot g.row.T.Denot g.row.A.Denot g.row.B.Denot g.row.C.Denot) (code : g.row.D.Denot) where
  abbrev sends : Sending
  sends = sending_on g.M.SendingCode g.T.SendingCode g.D.SendingCode g.A.Constellation g.B.Constellation g.C.Constellation channel code

  abbrev mends : Mending
  mends = mending_on g.M.MendingCode g.T.MendingCode g.D.MendingCode g.A.Constellation g.B.Constellation g.C.Constellation channel code

  known : Known sends mends
  known =
      record {
        mis = stream_known (g.met.M.FixedCode.message channel.mis) (g.met.M.FixedCode.word channel.mis) (g.met.M.SendingCode.sized channel.mis) (g.met.M.SendingCode.below channel.mis)
            (g.met.A.Constellation.sized channel.mis_points) (g.met.A.Constellation.steady channel.mis_points);
        tis = stream_known (g.met.T.FixedCode.message channel.tis) (g.met.T.FixedCode.word channel.tis) (g.met.T.SendingCode.sized channel.tis) (g.met.T.SendingCode.below channel.tis)
            (g.met.B.Constellation.sized channel.tis_points) (g.met.B.Constellation.steady channel.tis_points);
        «data» = record { sized = g.met.D.SendingCode.sized code; bits = g.met.C.Constellation.sized channel.data_points; steady = g.met.C.Constellation.steady channel.data_points };
      }

  distant : Distant sends (g.M.SendingCode.distance channel.mis) (g.T.SendingCode.distance channel.tis) (g.D.SendingCode.distance code)
  distant =
      record {
        mis = λ x y h i p q l. g.met.M.SendingCode.distant channel.mis x y (h ∙ sym (g.met.M.FixedCode.message channel.mis)) (i ∙ sym (g.met.M.FixedCode.message channel.mis)) p q l;
        tis = λ x y h i p q l. g.met.T.SendingCode.distant channel.tis x y (h ∙ sym (g.met.T.FixedCode.message channel.tis)) (i ∙ sym (g.met.T.FixedCode.message channel.tis)) p q l;
        «data» = λ x y h i p q l. g.met.D.SendingCode.distant code x y h i p q l;
      }

-- the line of a copy is the line-up's own
line_of_copy : (g : given.Over) (channel : Channel g.row.M.Denot g.row.T.Denot g.row.A.Denot g.row.B.Denot g.row.C.Denot) {bits : _} (up copy : LineUp g.row.D.Denot g.D.DataCode g.D.SendingCode bits g.D.Clone) → Alike up copy
    → line_on (sends g channel copy.code) copy ≡ line_on (sends g channel up.code) up
line_of_copy g channel up copy same = same_line same.word same.message_length same.word_length same.mode same.plan (ap block_length same.view)

pub returns-clause-exciter : goal.returns-clause-exciter
returns-clause-exciter g c = c.in_ok-exciter.ensures ∙ ap new_exciter (line_of_copy g c.args.channel.now c.args.line_up c.in_ok-copy.copy c.in_ok-copy.ensures.cases)

pub returns-clause-frames : goal.returns-clause-frames
returns-clause-frames g c =
    let channel = c.args.channel.now in
    let code = c.args.line_up.code in
    let air = ap (λ x. x.line.air) (returns-clause-exciter g c) in
    let ear = ap (λ x. x.ear) c.in_ok-receiver.ensures in
    rw (air, ear) (frames_apart (sends g channel code) (mends g channel code) _ _ _ (known g channel code) (distant g channel code))

pub returns-clause-runs : goal.returns-clause-runs
returns-clause-runs g c =
    let channel = c.args.channel.now in
    let up = c.args.line_up in
    let l = line_on (sends g channel up.code) up in
    runs_promised l (mends g channel up.code) (exciter_state c.in_ok-exciter.exciter) (receiver_state c.in_ok-receiver.receiver) (returns-clause-exciter g c) c.in_ok-receiver.ensures
    (blocks_held up.mode (vec_items up.plan) (g.D.DataCode.shape up.code) (g.D.DataCode.exponents up.code) (g.D.SendingCode.message_length up.code) (g.met.D.DataCode.message_sized up.code))

-- the codes of the TIS and of the data tell words apart
module _ (g : given.Over) (channel : Channel g.row.M.Denot g.row.T.Denot g.row.A.Denot g.row.B.Denot g.row.C.Denot) (code : g.row.D.Denot) where
  apart : Apart (sends g channel code) (mends g channel code)
  apart =
      record {
        tis_distance = g.T.SendingCode.distance channel.tis;
        tis_distant = λ x y p q. g.met.T.SendingCode.distant channel.tis x y (p ∙ sym (g.met.T.FixedCode.message channel.tis)) (q ∙ sym (g.met.T.FixedCode.message channel.tis));
        tis_unique = g.met.T.MendingCode.unique channel.tis;
        data_distance = g.D.SendingCode.distance code;
        data_distant = λ x y p q i j few. g.met.D.SendingCode.distant code x y p q i j few;
        data_unique = g.met.D.MendingCode.unique code;
      }

pub returns-clause-shown : goal.returns-clause-shown
returns-clause-shown g c m is =
    let channel = c.args.channel.now in
    let up = c.args.line_up in
    let l = line_on (sends g channel up.code) up in
    let ear = mends g channel up.code in
    let blocks = blocks_held up.mode (vec_items up.plan) (g.D.DataCode.shape up.code) (g.D.DataCode.exponents up.code) (g.D.SendingCode.message_length up.code) (g.met.D.DataCode.message_sized up.code) in
    let exciter = exciter_state c.in_ok-exciter.exciter in
    let receiver = receiver_state c.in_ok-receiver.receiver in
    runs_shown l ear exciter receiver (returns-clause-exciter g c) c.in_ok-receiver.ensures m is (blocks m is) (known g channel up.code) (apart g channel up.code)
    (roomy m (vec_items up.plan) (g.D.DataCode.shape up.code) (g.D.DataCode.exponents up.code) up.mode (vec_items up.plan) (g.D.SendingCode.message_length up.code) (g.D.SendingCode.word_length up.code) up.passed is refl (g.met.D.DataCode.message_sized up.code)
    (g.met.D.DataCode.word_sized up.code) (g.met.D.SendingCode.short up.code))
    (runs_promised l ear exciter receiver (returns-clause-exciter g c) c.in_ok-receiver.ensures blocks)
