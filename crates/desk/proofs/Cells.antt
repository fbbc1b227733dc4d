-- The numbers of cells, two a cell, when one is set.
use Rattle.std.proofs.Common.{◌≡◌, ℕ, ◌+◌, ◌*◌, ◌<◌, ◌≤◌, ◌/◌, ◌%◌, List, [], ◌∷◌, length, get_or, set, zero, suc, Result, Ok, Err, refl, ap, ◌∙◌, arith, ℤ}
use Rattle.std.specs.List.{flat_map}
use Rattle.std.proofs.lemmas.Bool.{lt-ltb, le-ltb}
use Rattle.cells.specs.declared.cell.Cell.{Cell}
use Rattle.desk.specs.declared.settings.Setting.{Setting}
use Rattle.desk.specs.declared.trouble.Trouble.{Trouble}
use Rattle.desk.specs.declared.trouble.Trouble.TheVariants.{NotThere}
use Rattle.desk.specs.Changes.{Does, with_number}
use Rattle.desk.specs.Texts.{numbers_of}

pub length-numbers : (cells : List Cell) → length (flat_map numbers_of cells) ≡ 2 * length cells
length-numbers [] = refl
length-numbers (x ∷ xs) = let e = length-numbers xs in omega arith

set_real : (cells : List Cell) (i : ℕ) (v : ℤ) (d : Cell) → flat_map numbers_of (set cells i (record { real = v; imaginary = (get_or cells i d).imaginary })) ≡ set (flat_map numbers_of cells) (2 * i) v
set_real [] i v d = refl
set_real (x ∷ xs) zero v d = refl
set_real (x ∷ xs) (suc i) v d = let e : 2 * suc i ≡ suc (suc (2 * i)) = omega arith in rw e (ap (λ zs. x.real ∷ x.imaginary ∷ zs) (set_real xs i v d))

set_imaginary : (cells : List Cell) (i : ℕ) (v : ℤ) (d : Cell) → flat_map numbers_of (set cells i (record { real = (get_or cells i d).real; imaginary = v })) ≡ set (flat_map numbers_of cells) (2 * i + 1) v
set_imaginary [] i v d = refl
set_imaginary (x ∷ xs) zero v d = refl
set_imaginary (x ∷ xs) (suc i) v d = let e : 2 * suc i + 1 ≡ suc (suc (2 * i + 1)) = omega arith in rw e (ap (λ zs. x.real ∷ x.imaginary ∷ zs) (set_imaginary xs i v d))

-- What setting a number does to cells, by their numbers.
abbrev pub Sets : Setting → List Cell → List Cell → Result (Unit {0}) Trouble → Type 0
Sets s before after r = let numbers = flat_map numbers_of before in Does (with_number s.place s.value numbers) numbers (flat_map numbers_of after) r

Sets-there : (s : Setting) (before after : List Cell) → s.place / 2 < length before → flat_map numbers_of after ≡ set (flat_map numbers_of before) s.place s.value → Sets s before after (Ok tt)
Sets-there s before after there e = rw (lt-ltb s.place (length (flat_map numbers_of before)) (omega (arith, length-numbers before))) (refl, e)

pub Sets-none : (s : Setting) (cells : List Cell) → length cells ≤ s.place / 2 → Sets s cells cells (Err NotThere)
Sets-none s cells past = rw (le-ltb s.place (length (flat_map numbers_of cells)) (omega (arith, length-numbers cells))) (refl, refl)

pub Sets-real : (s : Setting) (cells : List Cell) (d : Cell) → s.place / 2 < length cells → s.place % 2 ≡ 0 → Sets s cells (set cells (s.place / 2) (record { real = s.value; imaginary = (get_or cells (s.place / 2) d).imaginary })) (Ok tt)
Sets-real s cells d there even =
    Sets-there s cells _ there (set_real cells (s.place / 2) s.value d ∙ ap (λ place. set (flat_map numbers_of cells) place s.value) (omega arith))

pub Sets-imaginary : (s : Setting) (cells : List Cell) (d : Cell) → s.place / 2 < length cells → s.place % 2 ≡ 1 → Sets s cells (set cells (s.place / 2) (record { real = (get_or cells (s.place / 2) d).real; imaginary = s.value })) (Ok tt)
Sets-imaginary s cells d there odd =
    Sets-there s cells _ there (set_imaginary cells (s.place / 2) s.value d ∙ ap (λ place. set (flat_map numbers_of cells) place s.value) (omega arith))
