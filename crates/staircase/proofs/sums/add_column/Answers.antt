use Rattle.std.proofs.Common.{Bool, false, length, get_or, pos, ◌<ℤ◌, sym, refl, ap, ◌∙◌, arith, w16}
use Rattle.std.proofs.lemmas.Int.{ints, to_z-of_z}
use Rattle.staircase.specs.Staircase.{◌⊕◌}
use Rattle.staircase.specs.Places.{places_is, sum_none}
use Rattle.staircase.proofs.Rows.{moved_none}
use Rattle.staircase.proofs.sums.add_column.Goals as goal

pub returns-in_default : goal.returns-in_default
returns-in_default c =
    let e = c.args.exponent in
    let sums = c.args.sums.now in
    let few : e <ℤ pos 32768 = omega (arith, ints) in
    let none = moved_none (length sums) e c.args.group.now in
    places_is sums (length sums) _ refl
    (λ r h. sym (ap (λ (b : Bool). get_or sums r false ⊕ b) (none r few (rw (to_z-of_z w16 e c.ranges.exponent) at c.in_default.ensures)) ∙ sum_none (get_or sums r false)))
