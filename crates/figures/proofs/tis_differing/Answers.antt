use Rattle.std.proofs.Common.{◌≡◌, ℕ, ◌<◌, ap, ◌∙◌, subst}
use Rattle.codes.specs.Symbols.{differing}
use Rattle.figures.specs.Printed.{tis_word}
use Rattle.modem.specs.TisStream.{tis_message}
use Rattle.modem.specs.declared.stream.Trace.{Trace}
use Rattle.figures.proofs.tis_differing.Goals as goal

pub returns : goal.returns
returns c =
    let a = ap (λ (t : Trace 63 9 29 102). t.word) c.write_tis-first.ensures.steps in
    let b = ap (λ (t : Trace 63 9 29 102). t.word) c.write_tis-second.ensures.steps in
    let count : c.count_differing.result ≡ differing (λ (x : ℕ). x) (tis_word (tis_message c.args.one)) (tis_word (tis_message c.args.other)) =
    c.count_differing.ensures ∙ ap (λ l. differing (λ (x : ℕ). x) l c.write_tis-second.result.word) a ∙ ap (differing (λ (x : ℕ). x) (tis_word (tis_message c.args.one))) b in
    record { count = count; apart = λ few. c.write_tis-first.ensures.apart c.args.other (subst (λ (n : ℕ). n < 21) count few) }
