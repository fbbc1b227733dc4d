-- Laws of the places in which lists of symbols differ. Assumes nothing.
use Rattle.std.specs.Prelude.{◌≡◌, ℕ, ◌+◌, ◌≤◌, Bool, true, false, cond, ◌⊎◌, List, [], ◌∷◌, length, ◌≢◌, refl}
use Rattle.std.proofs.Common.{sym, ap, ap₂, ◌∙◌, inl, inr, ⊎_elim, lit<, arith}
use Rattle.std.proofs.lemmas.Bool.{eq-eqb, ne_eqb, cases_eq}
use Rattle.codes.specs.Symbols.{Below128, apart, bit_number, differing}

pub apart-same : (a b : ℕ) → a ≡ b → apart a b ≡ 0
apart-same a b e = ap (λ (t : Bool). cond t 0 1) (eq-eqb a b e)

pub apart_other : (a b : ℕ) → (a ≢ b) → apart a b ≡ 1
apart_other a b f = ap (λ (t : Bool). cond t 0 1) (ne_eqb a b f)

-- two numbers are the same, or they differ
pub apart_cases : (a b : ℕ) → ((a ≡ b) × (apart a b ≡ 0)) ⊎ ((a ≢ b) × (apart a b ≡ 1))
apart_cases a b = ⊎_elim (λ e. inl (e, apart-same a b e)) (λ f. inr (f, apart_other a b f)) (cases_eq a b)

pub apart-le : (a b : ℕ) → apart a b ≤ 1
apart-le a b = ⊎_elim (λ e. omega (arith, e.1)) (λ f. omega (arith, f.1)) (apart_cases a b)

apart_comm : (a b : ℕ) → apart a b ≡ apart b a
apart_comm a b =
    ⊎_elim (λ e. e.1 ∙ sym (apart-same b a (sym e.0))) (λ f. f.1 ∙ sym (apart_other b a (λ e. f.0 (sym e)))) (apart_cases a b)

apart_through : (a b c : ℕ) → apart a c ≤ apart a b + apart b c
apart_through a b c =
    ⊎_elim (λ e. omega (arith, ap (λ (x : ℕ). apart x c) e.0)) (λ f. omega (arith, f.1, apart-le a c)) (apart_cases a b)

module _ {S : Type 0} (number : S → ℕ) where
  pub differing_comm : (xs ys : List S) → differing number xs ys ≡ differing number ys xs
  unfolding differing
  differing_comm [] [] = refl
  differing_comm [] (y ∷ ys) = refl
  differing_comm (x ∷ xs) [] = refl
  differing_comm (x ∷ xs) (y ∷ ys) = ap₂ ◌+◌ (apart_comm (number x) (number y)) (differing_comm xs ys)

  pub differing_self : (xs : List S) → differing number xs xs ≡ 0
  unfolding differing
  differing_self [] = refl
  differing_self (x ∷ xs) = ap₂ ◌+◌ (apart-same (number x) (number x) refl) (differing_self xs)

  pub differing-le : (xs ys : List S) → length xs ≡ length ys → differing number xs ys ≤ length xs
  unfolding differing
  differing-le [] ys e = omega arith
  differing-le (x ∷ xs) [] e = absurd (omega arith)
  differing-le (x ∷ xs) (y ∷ ys) e = omega (arith, apart-le (number x) (number y), differing-le xs ys (omega arith))

  -- from one list to a third it is no further than by way of a second
  pub differing_through : (xs ys zs : List S) → length xs ≡ length ys → length ys ≡ length zs → differing number xs zs ≤ differing number xs ys + differing number ys zs
  unfolding differing
  differing_through [] ys zs d e = omega arith
  differing_through (x ∷ xs) [] zs d e = absurd (omega arith)
  differing_through (x ∷ xs) (y ∷ ys) [] d e = absurd (omega arith)
  differing_through (x ∷ xs) (y ∷ ys) (z ∷ zs) d e =
      omega (arith, apart_through (number x) (number y) (number z), differing_through xs ys zs (omega arith) (omega arith))

  -- lists that differ in no place are the same, where numbers tell symbols apart
  pub same_from_none : ((a b : S) → number a ≡ number b → a ≡ b) → (xs ys : List S) → differing number xs ys ≡ 0 → xs ≡ ys
  unfolding differing
  same_from_none tell [] [] e = refl
  same_from_none tell [] (y ∷ ys) e = absurd (omega arith)
  same_from_none tell (x ∷ xs) [] e = absurd (omega arith)
  same_from_none tell (x ∷ xs) (y ∷ ys) e =
      ⊎_elim (λ s. ap₂ ◌∷◌ (tell x y s.0) (same_from_none tell xs ys (omega arith))) (λ f. absurd (omega (arith, f.1))) (apart_cases (number x) (number y))

-- so do those of bits
pub tell_bits : (a b : Bool) → bit_number a ≡ bit_number b → a ≡ b
tell_bits true true e = refl
tell_bits true false e = absurd (omega arith)
tell_bits false true e = absurd (omega arith)
tell_bits false false e = refl

-- a bit's number is below 128
pub below-bits : (bits : List Bool) → Below128 bit_number bits
unfolding Below128
below-bits [] = tt
below-bits (true ∷ bits) = (lit< tt, below-bits bits)
below-bits (false ∷ bits) = (lit< tt, below-bits bits)
