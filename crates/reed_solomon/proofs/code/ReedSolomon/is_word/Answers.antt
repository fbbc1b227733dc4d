use Rattle.std.proofs.Common.{◌≡◌, ◌-◌, length, take, replicate, sym, ◌∙◌, arith}
use Rattle.std.proofs.lemmas.Bool.Decides.{Decides-eqb}
use Rattle.std.proofs.lemmas.Slice.Eq.{slice_eq-Decides}
use Rattle.reed_solomon.specs.Generators.{generator_of}
use Rattle.reed_solomon.specs.GeneratorsLemmas.{generator_is}
use Rattle.reed_solomon.specs.ValuesLemmas.{symbols_take}
use Rattle.reed_solomon.specs.Words.{divided}
use Rattle.reed_solomon.proofs.Steps.{word_from_rest, rest_from_word}
use Rattle.reed_solomon.proofs.code.ReedSolomon.is_word.Goals as goal

pub new-requires : goal.new-requires
new-requires g c = rw c.split_at.ensures.front (symbols_take _ c.args.symbols.now c.requires.below)

pub returns : goal.returns
returns g c =
    let k = g.row.MESSAGE in
    let generator = generator_of g.row.ROOTS in
    let w = c.args.symbols.now in
    let size = (generator_is g.row.ROOTS).size in
    let behind : length w - c.roots.result ≡ k = omega arith in
    let front : c.split_at.result.0.now ≡ take k w = rw behind at c.split_at.ensures.front in
    let rest : c.as_slice.result.now ≡ divided generator (replicate g.row.ROOTS 0) (take k w) =
    rw (c.new.ensures, front) at (c.as_slice.ensures ∙ c.remainder-rest.ensures) in
    let back = rw behind at c.split_at.ensures.back in
    let same = slice_eq-Decides Decides-eqb c.as_slice.result.now c.split_at.result.1.now c.eq.result c.eq.ensures in (
      λ yes. word_from_rest generator w g.row.ROOTS k size (sym back ∙ sym (same.0 yes) ∙ rest),
      λ own. same.1 (rest ∙ sym (back ∙ rest_from_word generator w g.row.ROOTS k size (omega arith) own)),
    )
