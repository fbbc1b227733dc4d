-- One wrong symbol, and what it does to the values at the roots.
use Rattle.std.specs.Prelude.{◌≡◌, ℕ, ◌-◌, ◌*◌, ◌<◌, ◌≤◌, List, length, bit_xor, slice_index, slice_set}
use Rattle.codes.specs.Mending.{Within}
use Rattle.codes.specs.Symbols.{differing}
use Rattle.reed_solomon.specs.Field.{raised}
use Rattle.reed_solomon.specs.Generators.{generator_of}
use Rattle.reed_solomon.specs.Words.{Symbols, value_at, word_of}

-- the symbols with e added at the place p, counted from the end
abbrev pub changed : List ℕ → ℕ → ℕ → List ℕ
changed cs p e = slice_set cs (length cs - 1 - p) (bit_xor (slice_index cs (length cs - 1 - p)) e)

-- The values at α … α^r are those of one symbol e, which is not 0, at the place p from the end.
-- So it is where a word with the roots α … α^r has e added there.
pub record OneWrong (r : ℕ) (cs : List ℕ) (p e : ℕ) : Type 0 where
  pub inside : p < length cs
  pub some : 0 < e
  pub symbol : e < 128
  pub values : (j : ℕ) → 1 ≤ j → j ≤ r → value_at j cs ≡ raised (p * j) e

-- The only symbols within t places of those given that may be a word of the code with r roots and k symbols:
-- they differ from them in n places.
pub record OnlyNear (r k t : ℕ) (given cs : List ℕ) (n : ℕ) : Type 0 where
  pub symbols : Symbols cs
  pub places : differing (λ (x : ℕ). x) cs given ≡ n
  pub near : n ≤ t
  pub only : (m : List ℕ) (e : ℕ) → Within (λ (x : ℕ). x) k (word_of (generator_of r)) t given m e → word_of (generator_of r) m ≡ cs
