-- Reed-Solomon words, by their roots and by division.
use Rattle.std.specs.Prelude.{◌≡◌, ℕ, ◌+◌, ◌*◌, ◌≤◌, List, [], ◌∷◌, ◌++◌, map, length, take, drop, replicate, bit_xor, slice_index}
use Rattle.codes.specs.Symbols.{Below128}
use Rattle.reed_solomon.specs.Field.{raised, times}

-- the value at α^j of the polynomial c0·X^(n−1) + … + c(n−1)
unfoldable pub value_at : ℕ → List ℕ → ℕ
value_at j [] = 0
value_at j (c ∷ cs) = bit_xor (raised (length cs * j) c) (value_at j cs)

-- that polynomial is zero at α, α^2, …, α^r
abbrev pub Roots : ℕ → List ℕ → Type 0
Roots r cs = (j : ℕ) → 1 ≤ j → j ≤ r → value_at j cs ≡ 0

abbrev pub Symbols : List ℕ → Type 0
Symbols cs = Below128 (λ (x : ℕ). x) cs

-- The words of the code with r roots: the message comes first, and the roots are α … α^r.
pub record IsWord (r : ℕ) (message word : List ℕ) : Type 0 where
  pub size : length word ≡ length message + r
  pub symbols : Symbols word
  pub begins : take (length message) word ≡ message
  pub roots : Roots r word

-- A generator: X^r + g1·X^(r−1) + … + gr has the roots α … α^r; it is given without its leading 1.
pub record Generator (r : ℕ) (g : List ℕ) : Type 0 where
  pub size : length g ≡ r
  pub symbols : Symbols g
  pub roots : Roots r (1 ∷ g)

-- symbol by symbol sums
unfoldable pub added : List ℕ → List ℕ → List ℕ
added [] ys = []
added (x ∷ xs) [] = x ∷ xs
added (x ∷ xs) (y ∷ ys) = bit_xor x y ∷ added xs ys

-- The remainder's register takes one more symbol of the message: it moves up by one place,
-- and the generator times what leaves at the top is taken away.
unfoldable pub divide_step : List ℕ → List ℕ → ℕ → List ℕ
divide_step g rest c = added (drop 1 rest ++ (0 ∷ [])) (map (times (bit_xor c (slice_index rest 0))) g)

unfoldable pub divided : List ℕ → List ℕ → List ℕ → List ℕ
divided g rest [] = rest
divided g rest (c ∷ cs) = divided g (divide_step g rest c) cs

-- the word of a message: the message, then the remainder of its division by the generator
unfoldable pub word_of : List ℕ → List ℕ → List ℕ
word_of g message = message ++ divided g (replicate (length g) 0) message
