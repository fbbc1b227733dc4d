-- A small code, worked out: L 4, a row with the exponents 1 and −1, and one with 0 and 2. Assumes nothing.
use Rattle.std.proofs.Common.{◌≡◌, Bool, true, false, List, [], ◌∷◌, ◌++◌, ℤ, pos, negsuc, refl}
use Rattle.staircase.specs.Staircase.{check_at, row_sum, word_of}

abbrev exponents : List ℤ
exponents = pos 1 ∷ negsuc 0 ∷ pos 0 ∷ pos 2 ∷ []

-- the message 1000 0100 and its check groups 0001 1000
abbrev message : List Bool
message = true ∷ false ∷ false ∷ false ∷ false ∷ true ∷ false ∷ false ∷ []

abbrev checks : List Bool
checks = false ∷ false ∷ false ∷ true ∷ true ∷ false ∷ false ∷ false ∷ []

pub worked : word_of 4 2 2 exponents message ≡ message ++ checks
unfolding check_at row_sum
worked = refl
