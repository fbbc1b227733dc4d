-- The count of differing places, over the pairs of two lists. Assumes nothing.
use Rattle.std.proofs.Common.{◌≡◌, ℕ, ◌+◌, ◌-◌, List, [], ◌∷◌, length, refl, arith, rules}
use Rattle.std.proofs.lemmas.List.Sums.{sum_by-cons}
use Rattle.std.proofs.lemmas.Bool.Decides.{nat_tests}
use Rattle.std.specs.Prelude.{cond, not, ◌==◌, count_by, zip}
use Rattle.codes.specs.Symbols.{apart, differing}

apart_not : (a b : ℕ) → apart a b ≡ cond (not (a == b)) 1 0
apart_not a b = search (rules, nat_tests)

module _ {S : Type 0} (number : S → ℕ) where
  cons-apart : (x y : S) (xs ys : List S) → differing number (x ∷ xs) (y ∷ ys) ≡ apart (number x) (number y) + differing number xs ys
  unfolding differing
  cons-apart x y xs ys = refl

  nil_left : (ys : List S) → differing number [] ys ≡ length ys
  unfolding differing
  nil_left ys = refl

  nil_right : (x : S) (xs : List S) → differing number (x ∷ xs) [] ≡ length (x ∷ xs)
  unfolding differing
  nil_right x xs = refl

  -- the places that both lists have, and those that only the longer one has
  pub differing_pairs : (xs ys : List S) → differing number xs ys ≡ count_by (λ p. not (number p.0 == number p.1)) (zip xs ys) + ((length xs - length ys) + (length ys - length xs))
  differing_pairs [] ys = omega (arith, nil_left ys)
  differing_pairs (x ∷ xs) [] = omega (arith, nil_right x xs)
  differing_pairs (x ∷ xs) (y ∷ ys) =
      omega (
        arith,
        cons-apart x y xs ys,
        apart_not (number x) (number y),
        sum_by-cons (λ p. cond (not (number p.0 == number p.1)) 1 0) (x, y) (zip xs ys),
        differing_pairs xs ys,
      )
