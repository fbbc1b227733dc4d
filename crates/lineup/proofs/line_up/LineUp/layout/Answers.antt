use Rattle.std.proofs.Common.{vec_items}
use Rattle.lineup.proofs.Rooms.{roomy}
use Rattle.lineup.proofs.line_up.LineUp.layout.Goals as goal

pub invariant_of-result : goal.invariant_of-result
invariant_of-result g c =
    let self = c.args.self.now in
    let code = self.code in
    let law = g.met.D in
    record {
      roomy = roomy c.in_ok-self.field-0 (vec_items self.plan) (g.D.DataCode.shape code) (g.D.DataCode.exponents code)
          self.mode c.as_slice.result.now (g.D.SendingCode.message_length code) (g.D.SendingCode.word_length code)
          self.passed c.in_ok-self.was c.as_slice.ensures.value (law.DataCode.message_sized code) (law.DataCode.word_sized code) (law.SendingCode.short code);
    }
