-- Cyclic redundancy checks. A number stands for a polynomial with coefficients modulo 2: its bit of 2 ^ k is the coefficient of x ^ k,
-- and bit_xor is the sum. The generator is x ^ w + p, where p is below 2 ^ w.
use Rattle.std.specs.Prelude.{◌≡◌, ℕ, ◌+◌, ◌-◌, ◌*◌, ◌%◌, ◌^◌, ◌<◌, Bool, List, [], ◌∷◌, length, bit_xor}
use Rattle.codes.specs.Symbols.{bit_number}
use Rattle.bits.specs.Bits.{◌⊕◌, bit_at, number_of}

-- what is fed back as a bit comes in: that bit plus the bit that leaves the register
abbrev pub feedback : ℕ → ℕ → Bool → Bool
feedback w register b = bit_at w (register * 2) ⊕ b

-- the register after one bit more
abbrev pub stepped : ℕ → ℕ → ℕ → Bool → ℕ
stepped w p register b = bit_xor (register * 2 % 2 ^ w) (bit_number (feedback w register b) * p)

-- the register after bits
unfoldable pub registered : ℕ → ℕ → ℕ → List Bool → ℕ
registered w p register [] = register
registered w p register (b ∷ bs) = registered w p (stepped w p register b) bs

-- the check of bits: the register starts from all ones and is sent inverted
unfoldable pub crc_of : ℕ → ℕ → List Bool → ℕ
crc_of w p bits = 2 ^ w - 1 - registered w p (2 ^ w - 1) bits

-- the check of eight bits, by x^8 + x^4 + x^3 + x^2 + 1
abbrev pub crc8_of : List Bool → ℕ
crc8_of bits = crc_of 8 29 bits

-- the check of sixteen bits, by x^16 + x^12 + x^5 + 1
abbrev pub crc16_of : List Bool → ℕ
crc16_of bits = crc_of 16 4129 bits

-- the product of two polynomials, the first by its coefficients, the highest first
unfoldable pub times : List Bool → ℕ → ℕ
times [] g = 0
times (b ∷ q) g = bit_xor (bit_number b * g * 2 ^ length q) (times q g)

-- r is what the division by the generator leaves of x ^ w times the polynomial of the bits, of which the first w coefficients are inverted
pub record IsRemainder (w p : ℕ) (bits : List Bool) (r : ℕ) : Type 0 where
  pub quotient : List Bool
  pub divided : bit_xor ((2 ^ w - 1) * 2 ^ length bits) (number_of bits * 2 ^ w) ≡ bit_xor (times quotient (2 ^ w + p)) r
  pub below : r < 2 ^ w
