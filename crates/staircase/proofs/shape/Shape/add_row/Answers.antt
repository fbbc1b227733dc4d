use Rattle.std.proofs.Common.{◌≡◌, ℕ, Bool, false, length, get_or, sym, ap, ◌∙◌, ⊎_elim, arith, rules, w16, SFits, to_z, of_z}
use Rattle.std.specs.Iterator.Adapters.{zip_first, zip_second}
use Rattle.std.specs.Slice.Iter.{iter_rest, chunks_rest}
use Rattle.std.proofs.lemmas.Int.{to_z-of_z}
use Rattle.std.proofs.lemmas.List.{length-append}
use Rattle.staircase.specs.Staircase.{moved, places, row_sum, ◌⊕◌}
use Rattle.staircase.specs.Places.{places_is, sum_none}
use Rattle.staircase.proofs.Rows.{column_sizes, no_columns, row_more, row_sum_none}
use Rattle.staircase.proofs.shape.Shape.add_row.Goals as goal

pub loop-exponent-init : goal.loop-exponent-init
loop-exponent-init c = search rules

pub loop-exponent-preserved : goal.loop-exponent-preserved
loop-exponent-preserved c =
    let shape = c.args.self in
    let before = c.loop-exponent.exponent-iterator in
    let after = c.next.new.self in
    let e = c.in-Some.exponent.now in
    let group = c.in-Some.group.now in
    let sums = c.loop-exponent.sums in
    let es = iter_rest (zip_first after) in
    let rest = chunks_rest (zip_second after) in
    let total : ℕ → Bool = λ r. get_or c.args.sums.now r false ⊕ row_sum shape.lift c.args.exponents.now c.args.message.now r in
    let inv = c.loop-exponent.invariant in
    let steps = c.in-Some.ensures.steps in
    let one = ap length steps.0 in
    let parts = ap length steps.1.1.0 ∙ length-append group rest in
    let sizes = column_sizes shape.lift (length (iter_rest (zip_first before))) (length es) (length group) (length rest) (length (chunks_rest (zip_second before))) (omega arith) inv.size parts (omega arith) in
    let size = sizes.0 in
    let fits : SFits w16 e = search rules in
    let added : c.add_column.new.sums ≡ places (length sums) (λ r. get_or sums r false ⊕ moved (length sums) (to_z w16 (of_z w16 e)) group r) = c.add_column.ensures in
    record {
      lift = omega arith;
      size = sizes.1;
      sums = row_more shape.lift e es group rest sums c.add_column.new.sums total (omega arith) (omega arith) size (rw (steps.0, steps.1.1.0) at inv.sums) (simp (to_z-of_z w16 e fits) at added);
    }

pub returns : goal.returns
returns c =
    let shape = c.args.self in
    let sums = c.loop-exponent.sums in
    let left = c.loop-exponent.exponent-iterator in
    let inv = c.loop-exponent.invariant in
    let none : length (iter_rest (zip_first left)) ≡ 0 = ⊎_elim (λ first. omega arith) (λ second. no_columns shape.lift _ _ (omega arith) inv.size (omega arith)) c.in-None.ensures.steps in
    places_is sums shape.lift _ (omega arith)
    (λ r h. sym (sum_none (get_or sums r false)) ∙ (rw (row_sum_none shape.lift (iter_rest (zip_first left)) (chunks_rest (zip_second left)) r none) at (inv.sums r h)))
