-- What `!=` tells of two lists of bits. Assumes nothing.
use Rattle.std.proofs.Common.{◌≡◌, Bool, true, false, not, List, sym, refl, ◌∙◌}
use Rattle.std.proofs.Math.Bool.{beq}
use Rattle.std.specs.Cmp.{booleans_Decides}
use Rattle.std.specs.Cmp.Lexicographic.{pointwise}
use Rattle.std.proofs.lemmas.Slice.Eq.{slice_eq-Decides}
use Rattle.std.proofs.lemmas.Bool.{both_ways, not-false, not-true}

module _ (xs ys : List Bool) (r : Bool) (told : r ≡ not (pointwise beq xs ys)) where
  pub same_from_ne : r ≡ false → xs ≡ ys
  same_from_ne e = (slice_eq-Decides booleans_Decides xs ys (pointwise beq xs ys) refl).0 (not-false (pointwise beq xs ys) (sym told ∙ e))

  pub apart_from_ne : r ≡ true → xs ≡ ys → ⊥
  apart_from_ne e same =
      both_ways (pointwise beq xs ys) (not-true (pointwise beq xs ys) (sym told ∙ e))
      ((slice_eq-Decides booleans_Decides xs ys (pointwise beq xs ys) refl).1 same)
