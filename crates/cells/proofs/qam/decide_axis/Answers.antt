use Rattle.std.proofs.Common.{◌≡◌, ◌/◌, pos, ◌+ℤ◌, ◌-ℤ◌, nat_abs, arith, w32, to_z, of_z}
use lib.Signed.{quot_z}
use Rattle.std.proofs.lemmas.Int.{ints, clamps}
use Rattle.cells.specs.Cells.{axis_bits}
use Rattle.cells.specs.Qam.{amplitude, decided_number, floor_at0}
use Rattle.cells.specs.Axis.{nearest, floor_at0_is}
use Rattle.cells.proofs.qam.decide_axis.Goals as goal

pub overflow_cast-result : goal.overflow_cast-result
overflow_cast-result c = (omega (arith, ints, clamps), omega (arith, ints, clamps))

pub returns : goal.returns
returns c =
    let m = axis_bits c.args.order in
    let x = c.args.x in
    let deep = (amplitude m 0 -ℤ x) +ℤ pos 255 in
    let f = floor_at0_is deep in
    let b : c.max.result ≡ pos (floor_at0 deep) = omega (arith, ints, clamps) in
    let q : to_z w32 (of_z w32 (quot_z (to_z w32 (of_z w32 c.max.result)) (pos 512))) ≡ pos (floor_at0 deep / 512) = omega (arith, ints) in
    let e : nat_abs (to_z w32 (of_z w32 c.min.result)) ≡ decided_number m x = omega (arith, ints, clamps) in
    record { number = e; nearest = nearest m _ x (omega arith) e }
