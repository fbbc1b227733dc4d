-- Numbers as bits. Fields, symbols and bytes go highest bit first.
use Rattle.std.specs.Prelude.{ℕ, zero, suc, ◌+◌, ◌*◌, ◌/◌, ◌%◌, ◌^◌, ◌<◌, Bool, not, List, [], ◌∷◌, ◌++◌, length, take, drop, ◌==◌}
use Rattle.std.specs.Bool.{beq}
use Rattle.codes.specs.Symbols.{bit_number}

infixl 20 ◌⊕◌
-- the sum of two bits modulo 2
abbrev pub ◌⊕◌ : Bool → Bool → Bool
a ⊕ b = not (beq a b)

-- the bit of v that counts 2 ^ k
abbrev pub bit_at : ℕ → ℕ → Bool
bit_at k v = v / 2 ^ k % 2 == 1

-- v in w bits
unfoldable pub bits_of : ℕ → ℕ → List Bool
bits_of zero v = []
bits_of (suc w) v = bit_at w v ∷ bits_of w v

-- the number that bits write
unfoldable pub number_of : List Bool → ℕ
number_of [] = 0
number_of (b ∷ bs) = bit_number b * 2 ^ length bs + number_of bs

-- a field of w bits, from a place on
abbrev pub field_at : ℕ → ℕ → List Bool → ℕ
field_at place w bits = number_of (take w (drop place bits))

-- n numbers of w bits each, one after the other; further bits are ignored
unfoldable pub cut : ℕ → ℕ → List Bool → List ℕ
cut w zero bs = []
cut w (suc n) bs = number_of (take w bs) ∷ cut w n (drop w bs)

-- the bits of numbers of w bits each, one after the other
unfoldable pub spread : ℕ → List ℕ → List Bool
spread w [] = []
spread w (x ∷ xs) = bits_of w x ++ spread w xs

-- every number is below a limit
abbrev pub AllBelow : ℕ → List ℕ → Type 0
AllBelow limit [] = Unit {0}
AllBelow limit (x ∷ xs) = (x < limit) × AllBelow limit xs
