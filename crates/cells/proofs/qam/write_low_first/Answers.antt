use Rattle.std.proofs.Common.{◌≡◌, ℕ, suc, ◌+◌, ◌-◌, ◌/◌, ◌%◌, Bool, eqb, List, [], ◌∷◌, ◌++◌, length, take, sym, ap, ◌∙◌, arith}
use Rattle.std.proofs.lemmas.List.{append_assoc, take_more_set}
use Rattle.cells.specs.Qam.{low_bits}
use Rattle.cells.proofs.qam.write_low_first.Goals as goal

pub loop-bit-preserved : goal.loop-bit-preserved
loop-bit-preserved c =
    let i = c.loop-bit.bit-index in
    let n = length c.args.bits.now in
    let v = c.loop-bit.rest in
    let front = take i c.loop-bit.bits in
    let back = low_bits (n - (i + 1)) (v / 2) in
    let e : n - i ≡ suc (n - (i + 1)) = omega arith in
    let t = take_more_set c.loop-bit.bits i (eqb (v % 2) 1) (omega arith) in
    ap (λ (r : List Bool). r ++ back) t ∙
    append_assoc front (eqb (v % 2) 1 ∷ []) back ∙
    ap (λ (k : ℕ). front ++ low_bits k v) (sym e) ∙
    c.loop-bit.invariant
