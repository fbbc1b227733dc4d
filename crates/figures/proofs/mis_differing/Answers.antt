use Rattle.std.proofs.Common.{◌≡◌, ℕ, ◌<◌, ap, ◌∙◌, subst}
use Rattle.bits.specs.Scrambling.{scrambled}
use Rattle.codes.specs.Symbols.{bit_number, differing}
use Rattle.figures.specs.Printed.{mis_word}
use Rattle.modem.specs.MisStream.{mis_message}
use Rattle.modem.specs.declared.stream.Trace.{Trace}
use Rattle.streams.specs.Mis.{mis_record}
use Rattle.figures.proofs.mis_differing.Goals as goal

pub returns : goal.returns
returns c =
    let a = ap (λ (t : Trace 14 2 4 14). t.word) c.write_mis-first.ensures.steps in
    let b = ap (λ (t : Trace 14 2 4 14). t.word) c.write_mis-second.ensures.steps in
    let p = ap (λ (t : Trace 14 2 4 14). t.scrambled) c.write_mis-first.ensures.steps in
    let q = ap (λ (t : Trace 14 2 4 14). t.scrambled) c.write_mis-second.ensures.steps in
    let count : c.count_differing-2.result ≡ differing (λ (x : ℕ). x) (mis_word (mis_message c.args.one)) (mis_word (mis_message c.args.other)) =
    c.count_differing-2.ensures ∙ ap (λ l. differing (λ (x : ℕ). x) l c.write_mis-second.result.word) a ∙ ap (differing (λ (x : ℕ). x) (mis_word (mis_message c.args.one))) b in
    record {
      bits = c.count_differing.ensures ∙ ap (λ l. differing bit_number l c.write_mis-second.result.scrambled) p ∙ ap (differing bit_number (scrambled 0 (mis_record c.args.one))) q;
      symbols = count;
      apart = λ few. c.write_mis-first.ensures.apart c.args.other (subst (λ (n : ℕ). n < 3) count few);
    }
