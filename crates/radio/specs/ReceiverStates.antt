-- What the contracts say of the receiver's private fields, and of what it hears.
use Rattle.std.specs.Prelude.{Ok, Err, Result}
use Rattle.frames.specs.Frames.{sending_on}
use Rattle.frames.specs.Reading.{Told, mending_on}
use Rattle.frames.specs.Tellings.{told_of}
use Rattle.frames.specs.declared.reading.Heard.{Heard}
use Rattle.messages.specs.Views.{collector_state}
use Rattle.radio.specs.Lines.{line_on}
use Rattle.radio.specs.ReceiverCalls.{ReceiverState}
use Rattle.radio.specs.declared.receiver.Receiver.{Receiver}
use Rattle.refusals.specs.declared.Refusal.{Refusal}

-- all that a receiver is made of
abbrev pub receiver_state : {M T D A B C : Type 0} {mis : _} {seven : _} {mis_mending : _} {tis : _} {tis_mending : _} {code : _} {«data» : _} {bits : _} {clones : _} {data_mending : _} {p : _} {q : _} {r : _} →
    Receiver M T D A B C mis seven mis_mending tis tis_mending code «data» bits clones data_mending p q r → ReceiverState
receiver_state {mis = mis} {mis_mending = mm} {tis = tis} {tis_mending = tm} {«data» = d} {data_mending = dm} {p = p} {q = q} {r = r} e =
    record {
      line = line_on (sending_on mis tis d p q r e.channel.now e.line_up.code) e.line_up;
      ear = mending_on mm tm dm p q r e.channel.now e.line_up.code;
      collector = collector_state e.collector;
    }

-- what is heard of a frame, by the values that it refers to
abbrev pub heard : Result Heard Refusal → Result Told Refusal
heard (Ok h) = Ok (told_of h)
heard (Err e) = Err e
