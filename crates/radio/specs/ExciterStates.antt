-- What the contracts say of the exciter's private fields.
use Rattle.frames.specs.Frames.{sending_on}
use Rattle.messages.specs.Views.{sender_state}
use Rattle.radio.specs.Lines.{line_on}
use Rattle.radio.specs.ExciterCalls.{ExciterState}
use Rattle.radio.specs.declared.exciter.Exciter.{Exciter}

-- all that an exciter is made of
abbrev pub exciter_state : {M T D A B C : Type 0} {mis : _} {seven : _} {tis : _} {code : _} {«data» : _} {bits : _} {clones : _} {p : _} {q : _} {r : _} →
    Exciter M T D A B C mis seven tis code «data» bits clones p q r → ExciterState
exciter_state {mis = mis} {tis = tis} {«data» = d} {p = p} {q = q} {r = r} e =
    record {
      line = line_on (sending_on mis tis d p q r e.channel.now e.line_up.code) e.line_up;
      station = e.station;
      sender = sender_state e.sender;
    }
