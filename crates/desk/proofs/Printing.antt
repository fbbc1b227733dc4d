-- The text of a `String`, by what was written to it.
use Rattle.std.proofs.Common.{◌≡◌, true, ℕ, ◌+◌, ◌<◌, List, [], ◌∷◌, ◌++◌, length, take, get_or, All, Option, Some, None, IsSome, unwrap_or, Result, Ok, Err, IfOk, sym, refl, ap, ◌∙◌, subst, arith, ℤ}
use Rattle.std.specs.Fmt.{AppendsText, ◌++?◌}
use Rattle.std.specs.List.{flat_map}
use Rattle.std.proofs.lemmas.List.{append-nil, take_more}
use Rattle.std.proofs.lemmas.Grind.{flat_map-append}

-- what is printed is appended, behind a space
behind_space : (text : Option (List ℕ)) (before after : List ℕ) → IsSome text → AppendsText before after (Some (32 ∷ []) ++? text) → after ≡ before ++ 32 ∷ unwrap_or text []
behind_space None before after some e = grind arith
behind_space (Some bs) before after some e = e

module _ {X : Type 0} (output : X → Option (List ℕ)) where
  abbrev spaced : X → List ℕ
  spaced x = 32 ∷ unwrap_or (output x) []

  -- one more item is printed
  pub one_more_printed : (xs : List X) (i : ℕ) (x : X) (before after : List ℕ) → i < length xs → x ≡ get_or xs i x → All (λ y. IsSome (output y)) xs
      → before ≡ flat_map spaced (take i xs) → AppendsText before after (Some (32 ∷ []) ++? output x) → after ≡ flat_map spaced (take (i + 1) xs)
  one_more_printed xs i x before after there is all e appended =
      behind_space (output x) before after (subst (λ y. IsSome (output y)) (sym is) (all i x there)) appended
      ∙ ap (λ l. l ++ spaced x) e
      ∙ ap (λ l. flat_map spaced (take i xs) ++ l) (sym (append-nil (spaced x)))
      ∙ sym (flat_map-append spaced (take i xs) (x ∷ []))
      ∙ ap (λ y. flat_map spaced (take i xs ++ y ∷ [])) is
      ∙ ap (flat_map spaced) (sym (take_more xs i x there))

module _ {T E : Type 0} (view : T → List ℕ) where
  -- each number of a list is printed
  pub numbers_written : (out : ℤ → List ℕ) (r : Result T E) (xs ys : List ℤ) → IfOk r (λ text. All (λ (n : ℤ). true ≡ true) xs → view text ≡ flat_map (λ n. 32 ∷ out n) xs)
      → xs ≡ ys → IfOk r (λ text. view text ≡ flat_map (λ n. 32 ∷ out n) ys)
  numbers_written out (Ok text) xs ys written same = written (λ k d h. refl) ∙ ap (flat_map (λ n. 32 ∷ out n)) same
  numbers_written out (Err e) xs ys written same = written
