-- Why numbers are not the exponents of a code.
use Rattle.std.specs.Prelude.{◌≢◌, ◌≡◌, ℕ, ◌*◌, List, length, ℤ}
use Rattle.staircase.specs.declared.exponents.ExponentsFault.{ExponentsFault}
use Rattle.staircase.specs.declared.exponents.ExponentsFault.TheVariants.{Count, OutOfRange}
use Rattle.staircase.specs.Staircase.{BadExponent}

-- what is wrong with the numbers: there are not M × K of them, or else the place named has one that is out of range
abbrev pub Faulty : (lift rows columns : ℕ) → List ℤ → ExponentsFault → Type 0
Faulty lift rows columns exponents Count = length exponents ≢ rows * columns
Faulty lift rows columns exponents (OutOfRange place) = (length exponents ≡ rows * columns) × BadExponent lift exponents place
