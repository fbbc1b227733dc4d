-- A list of frames, each of which holds numbers, when one of them is changed.
use Rattle.std.proofs.Common.{◌≡◌, ℕ, ◌-◌, ◌<◌, ◌++◌, List, [], length, map, get_or, set, take, replicate, Result, Ok, sym, refl, ap, ◌∙◌, ℤ, pos}
use Rattle.std.proofs.lemmas.Bool.{lt-ltb}
use Rattle.std.proofs.lemmas.List.{get_or-map, map-set, length-map}
use Rattle.std.proofs.Math.Seq.{map-set_same}
use Rattle.desk.specs.declared.trouble.Trouble.{Trouble}
use Rattle.desk.specs.Changes.{Does}
use Rattle.desk.specs.Frames.{numbers_at, resized, set_in, where_there}

module _ {X : Type 0} (f : X → List ℤ) (xs : List X) (i : ℕ) (x : X) (there : i < length xs) (here : x ≡ get_or xs i x) where
  numbers_there : numbers_at i (map f xs) ≡ f x
  numbers_there = get_or-map f xs i x [] there ∙ ap f (sym here)

  there_is : {A : Type 0} (made : Result A Trouble) → where_there i (map f xs) made ≡ made
  there_is made = rw (lt-ltb i (length (map f xs)) (simp length-map there)) refl

  pub resized_there : (size old : ℕ) (y : X) → old ≡ length (f x) → f y ≡ take size (f x) ++ replicate (size - old) (pos 0) → resized i size (map f xs) ≡ Ok (map f (set xs i y))
  resized_there size old y long e = there_is _ ∙ rw (numbers_there, ← long, ← e) (ap Ok (sym (map-set f xs i y)))

  pub kept_there : (y : X) → f y ≡ f x → map f (set xs i y) ≡ map f xs
  kept_there y e = map-set_same f xs i y x (e ∙ ap f here)

  pub set_there : (place : ℕ) (value written : ℤ) (y : X) → place < length (f x) → written ≡ value → f y ≡ set (f x) place written
      → Does (set_in i place value (map f xs)) (map f xs) (map f (set xs i y)) (Ok tt)
  set_there place value written y inside same e =
      let made : set_in i place value (map f xs) ≡ Ok (map f (set xs i y)) =
      there_is _ ∙ rw (numbers_there, lt-ltb place (length (f x)) inside, ← same, ← e) (ap Ok (sym (map-set f xs i y))) in
      rw made (refl, refl)
