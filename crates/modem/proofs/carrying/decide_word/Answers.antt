use Rattle.std.proofs.Common.{◌≡◌, ◌*◌, length, ◌∙◌, rules}
use Rattle.modem.proofs.Carries.{cut_taken}
use Rattle.modem.proofs.carrying.decide_word.Goals as goal

pub returns : goal.returns
returns g c =
    let n = length c.args.word.now in
    let size : length c.decide_bits.new.bits ≡ length c.args.word.now * 7 = search rules in
    c.cut.ensures ∙ cut_taken n _ c.decide_bits.new.bits _ c.decide_bits.ensures.value size
