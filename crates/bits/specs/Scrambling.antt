-- Scrambling: a sequence of bits is added to a stream.
use Rattle.std.specs.Prelude.{◌≡◌, ℕ, zero, suc, ◌+◌, ◌<◌, Bool, true, false, List, [], ◌∷◌, length, take, replicate, slice_index_or}
use Rattle.bits.specs.Bits.{◌⊕◌}

-- the value that follows nine earlier ones, given newest first: the sum of the values five and nine places before it
abbrev pub following : List Bool → Bool
following values = slice_index_or values 4 false ⊕ slice_index_or values 8 false

-- the nine values before a_n, newest first; before the first of the sequence all are 1
unfoldable pub earlier : ℕ → List Bool
earlier zero = replicate 9 true
earlier (suc n) = following (earlier n) ∷ take 8 (earlier n)

-- bits with the sequence added from a_n on
unfoldable pub scrambled : ℕ → List Bool → List Bool
scrambled n [] = []
scrambled n (b ∷ bs) = (b ⊕ following (earlier n)) ∷ scrambled (suc n) bs

-- What scrambling is: to the k-th bit is added a_k, where a_n = a_(n - 5) + a_(n - 9) modulo 2 and the nine values before a_0 are 1.
-- The sequence is given from those nine on, so a_n is its value at n + 9.
pub record Scrambling (before after : List Bool) : Type 0 where
  pub sequence : ℕ → Bool
  pub ones : (k : ℕ) → k < 9 → sequence k ≡ true
  pub sums : (n : ℕ) → sequence (n + 9) ≡ sequence (n + 4) ⊕ sequence n
  pub size : length after ≡ length before
  pub bits : (k : ℕ) → k < length before → slice_index_or after k false ≡ slice_index_or before k false ⊕ sequence (k + 9)
