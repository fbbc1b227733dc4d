use Rattle.std.proofs.Common.{◌≡◌, length, refl, ◌∙◌, rules}
use Rattle.std.proofs.lemmas.Result.{err_from_is_err_and}
use Rattle.bits.proofs.Bits.{cut-below_128}
use Rattle.modem.proofs.ReadBack.{given_symbols, within_given}
use Rattle.modem.proofs.carrying.mend_record.Goals as goal

pub mend-requires : goal.mend-requires
mend-requires g c =
    let size : length c.decide_word.new.word ≡ c.word_length.result = search rules in
    record {
      size = size ∙ c.word_length.ensures;
      below = rw c.decide_word.ensures (cut-below_128 _ _);
      room = c.requires.size;
    }

pub returns-in_err-mended : goal.returns-in_err-mended
returns-in_err-mended g c =
    let p = err_from_is_err_and c.from_residual.result c.from_residual.ensures.1 in
    let size : length c.decide_word.new.word ≡ c.word_length.result = search rules in
    let same = given_symbols _ _ _ c.decide_word.new.word c.args.cells.now c.decide_word.ensures (size ∙ c.word_length.ensures) in
    let none = c.in_err-mended.ensures in
    rw p.1 (none.0, refl, λ m e w. none.1 m e (within_given _ _ _ _ _ m e same w))
