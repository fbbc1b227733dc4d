-- Quadrature amplitude modulation: the amplitudes of an axis, and the one that a number is decided for.
use Rattle.std.specs.Prelude.{◌≡◌, ℕ, zero, suc, ◌+◌, ◌-◌, ◌*◌, ◌/◌, ◌%◌, ◌^◌, ◌<◌, min, Bool, cond, ◌⊎◌, List, [], ◌∷◌, ◌++◌, take, drop, ℤ, pos, negsuc, ◌+ℤ◌, ◌-ℤ◌, ◌*ℤ◌, ◌<ℤ◌, Some, None, Option, ◌==◌, ◌≢◌, nat_lt}
use Rattle.cells.specs.declared.cell.Cell.{Cell}
use Rattle.cells.specs.declared.cell.Order.{Order}
use Rattle.cells.specs.Cells.{axis_bits, apart}

-- the number that bits form, the first being the lowest
abbrev pub low_first : List Bool → ℕ
low_first [] = 0
low_first (b ∷ bits) = cond b 1 0 + 2 * low_first bits

-- the m lowest bits of a number, the lowest first
abbrev pub low_bits : ℕ → ℕ → List Bool
low_bits zero v = []
low_bits (suc m) v = (v % 2 == 1) ∷ low_bits m (v / 2)

-- the amplitude of the number v on an axis of m bits: (2^m - 1 - 2v) units of 256
abbrev pub amplitude : ℕ → ℕ → ℤ
amplitude m v = (pos (2 ^ m - 1) -ℤ pos (2 * v)) *ℤ pos 256

-- the same where v is a number of m bits
abbrev pub amplitude_of : ℕ → ℕ → Option ℤ
amplitude_of m v = cond (nat_lt v (2 ^ m)) (Some (amplitude m v)) None

-- a number, or 0 where it is negative
abbrev pub floor_at0 : ℤ → ℕ
floor_at0 (pos n) = n
floor_at0 (negsuc n) = 0

-- the number that x is decided for on an axis of m bits: the steps of 512 by which x lies below the largest amplitude, to the nearest, half a step counting as none
abbrev pub decided_number : ℕ → ℤ → ℕ
decided_number m x = min (floor_at0 ((amplitude m 0 -ℤ x) +ℤ pos 255) / 512) (2 ^ m - 1)

-- the amplitude a is nearer to x than b is, or as near and larger
abbrev pub Preferred : ℤ → ℤ → ℤ → Type 0
Preferred x a b = (apart x a < apart x b) ⊎ ((apart x a ≡ apart x b) × (b <ℤ a))

-- v is the number of the amplitude nearest to x, a tie going to the larger
abbrev pub Nearest : ℕ → ℤ → ℕ → Type 0
Nearest m x v =
    (v < 2 ^ m) × ((w : ℕ) → w < 2 ^ m → (w ≢ v) → Preferred x (amplitude m v) (amplitude m w))

-- the point of 2m bits: m bits for the real axis, then m for the imaginary one
abbrev pub qam_point : Order → List Bool → Cell
qam_point o bits =
    record {
      real = amplitude (axis_bits o) (low_first (take (axis_bits o) bits));
      imaginary = amplitude (axis_bits o) (low_first (drop (axis_bits o) bits));
    }

-- the bits that a cell is decided for, in the same order
abbrev pub qam_decided : Order → Cell → List Bool
qam_decided o x =
    low_bits (axis_bits o) (decided_number (axis_bits o) x.real) ++
    low_bits (axis_bits o) (decided_number (axis_bits o) x.imaginary)
