use Rattle.std.proofs.Common.{◌≡◌, Ok, Err, refl, sym, ap, ◌∙◌, rules}
use Rattle.frames.specs.Tellings.{told_of}
use Rattle.messages.specs.Views.{collector_state}
use Rattle.radio.specs.ReceiverCalls.{taken_as}
use Rattle.radio.proofs.Takings.{taking_keeps}
use Rattle.radio.proofs.receiver.Receiver.take.Goals as goal

pub invariant_of-self : goal.invariant_of-self
invariant_of-self g c =
    let kept = taking_keeps (collector_state c.args.self.now.collector) (collector_state c.take.new.self) _ c.take.result c.take.ensures in
    record { cut = kept ∙ c.args.self.now.cut }

pub returns-in_err-heard : goal.returns-in_err-heard
returns-in_err-heard g c =
    let e = c.in_err-heard.field-0.0 in
    let refused : c.from_residual.result ≡ Err e = search rules in
    (Err e, c.in_err-heard.ensures, (refused, refl))

pub returns-in_err-placing : goal.returns-in_err-placing
returns-in_err-placing g c =
    let got = told_of c.in_ok-heard.heard in
    let refused : c.from_residual-in_err-placing.result ≡ Err c.in_err-placing.field-0.0 = search rules in
    (Ok got, c.in_ok-heard.ensures, (c.take.result, c.take.ensures, refl, refused ∙ sym (ap (taken_as got) (c.in_err-placing.was))))

pub returns : goal.returns
returns g c =
    let got = told_of c.in_ok-heard.heard in
    (Ok got, c.in_ok-heard.ensures, (c.take.result, c.take.ensures, refl, sym (ap (taken_as got) (c.in_ok-placing.was))))
