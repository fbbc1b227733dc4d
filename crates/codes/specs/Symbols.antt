-- Symbols by their numbers, and the places in which two lists of symbols differ.
use Rattle.std.specs.Prelude.{ℕ, suc, ◌+◌, ◌<◌, Bool, cond, List, [], ◌∷◌, length, ◌==◌}

-- the number of a bit
abbrev pub bit_number : Bool → ℕ
bit_number b = cond b 1 0

-- 1 where two numbers differ, else 0
abbrev pub apart : ℕ → ℕ → ℕ
apart a b = cond (a == b) 0 1

-- In how many places two lists of symbols differ, by the symbols' numbers.
-- A place that only one of them has is a place in which they differ.
unfoldable pub differing : {S : Type 0} → (S → ℕ) → List S → List S → ℕ
differing number [] ys = length ys
differing number (x ∷ xs) [] = suc (length xs)
differing number (x ∷ xs) (y ∷ ys) = apart (number x) (number y) + differing number xs ys

-- every symbol has a number below 128
unfoldable pub Below128 : {S : Type 0} → (S → ℕ) → List S → Type 0
Below128 number [] = Unit {0}
Below128 number (x ∷ xs) = (number x < 128) × Below128 number xs
