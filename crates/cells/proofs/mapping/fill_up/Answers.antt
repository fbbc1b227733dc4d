use Rattle.std.proofs.Common.{ℕ, min, ap, ◌≡◌, ◌-◌, false, length, take, replicate, ◌∙◌, arith}
use Rattle.std.proofs.lemmas.List.{drop-replicate, take_min}
use Rattle.cells.proofs.mapping.fill_up.Goals as goal

pub returns : goal.returns
returns c =
    let bits = c.args.bits.now in
    let width = length c.args.cell.now in
    let k = c.min-present.result in
    let present : k ≡ min width (length bits) = omega arith in
    let front : c.copy_from_slice.new.self ≡ take width bits =
    c.copy_from_slice.ensures.after ∙ ap (λ (n : ℕ). take n bits) present ∙ take_min width bits in
    let zeros : c.fill.new.self ≡ replicate width false = cc (c.fill.ensures.after (λ y e. e)) in
    let left : width - k ≡ width - length bits = omega arith in
    rw (front, zeros, drop-replicate, left)
