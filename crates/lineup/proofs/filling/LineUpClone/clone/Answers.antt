use Rattle.std.proofs.Common.{◌≡◌, ◌+◌, ◌*◌, vec_items, refl, sym, ap, ◌∙◌, rules}
use Rattle.lineup.specs.Judging.{held}
use Rattle.lineup.specs.LineUps.{Pass8}
use Rattle.lineup.proofs.Views.{held_same, holds_same}
use Rattle.lineup.proofs.filling.LineUpClone.clone.Goals as goal

pub invariant_of-result-clause-passed : goal.invariant_of-result-clause-passed
invariant_of-result-clause-passed g c =
    let self = c.args.self.now in
    let code = c.in_ok-code.code in
    let law = g.met.D.DataCode in
    let same = c.in_ok-code.ensures.cases in
    let plan = vec_items c.extend_from_slice.new.self in
    let written : plan ≡ vec_items self.plan = search rules in
    let view = held_same self.mode written (law.same_shape self.code code same) (law.same_exponents self.code code same) in
    holds_same (held self.mode plan (g.D.DataCode.shape code) (g.D.DataCode.exponents code)) (held self.mode (vec_items self.plan) (g.D.DataCode.shape self.code) (g.D.DataCode.exponents self.code)) Pass8 view self.passed

pub returns : goal.returns
returns g c =
    let self = c.args.self.now in
    let code = c.in_ok-code.code in
    let law = g.met.D.DataCode in
    let same = c.in_ok-code.ensures.cases in
    let plan = vec_items c.extend_from_slice.new.self in
    let written : plan ≡ vec_items self.plan = search rules in
    let shape = law.same_shape self.code code same in
    let exponents = law.same_exponents self.code code same in
    record {
      cases = record {
        mode = refl;
        plan = written;
        clone = same;
        shape = shape;
        exponents = exponents;
        view = held_same self.mode written shape exponents;
        message_length = law.message_sized code ∙ ap (λ s. s.columns * s.lift) shape ∙ sym (law.message_sized self.code);
        word_length = law.word_sized code ∙ ap (λ s. (s.columns + s.rows) * s.lift) shape ∙ sym (law.word_sized self.code);
        word = law.same_words self.code code same;
      };
    }
