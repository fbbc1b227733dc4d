-- What the iterator of an array gives.
use Rattle.std.proofs.Common.{ℕ, ◌≡◌, List, subst}
use Rattle.std.proofs.lemmas.Iterator.{YieldsList}
use Rattle.std.proofs.lemmas.Iterator.Consumers.{YieldsList-from_shown}
use Rattle.std.specs.Array.Iter.{array_into_iter_items, array_steps}
use Rattle.std.specs.declared.array.IntoIter.{IntoIter}

-- each element of the array, in order
pub YieldsList-from_array : {A : Type 0} {n : ℕ} {s : IntoIter A n} (xs : List A) → array_into_iter_items s ≡ xs → YieldsList (array_steps {n = n}) (λ x. x) s xs
YieldsList-from_array {n = n} {s = s} xs e =
    subst (YieldsList (array_steps {n = n}) (λ x. x) s) e (YieldsList-from_shown array_steps (λ x. x) array_into_iter_items (λ t u h. h.0) (λ t x u h. h) s)
