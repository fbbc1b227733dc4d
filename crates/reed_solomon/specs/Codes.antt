-- What each code of the family owes, over the number r of roots and the length k of a message. Assumes nothing.
use Rattle.std.specs.Prelude.{◌≡◌, ℕ, ◌+◌, ◌<◌, ◌≤◌, List, length}
use Rattle.std.proofs.Common.{arith}
use Rattle.codes.specs.Symbols.{differing}
use Rattle.reed_solomon.specs.Words.{Symbols, word_of}
use Rattle.reed_solomon.specs.Generators.{generator_of}
use Rattle.reed_solomon.specs.Theorems.{WordsByRoots}
use Rattle.reed_solomon.specs.Division.{word_is}
use Rattle.reed_solomon.specs.Distance.{only_word, word-distance}
use Rattle.reed_solomon.specs.Division.{length-word_of, symbols_word_of}
use Rattle.reed_solomon.specs.GeneratorsLemmas.{generator_is}

module _ (r k : ℕ) (some : 0 < r) (short : k + r ≤ 127) where
  pub code_sized : (m : List ℕ) → length m ≡ k → length (word_of (generator_of r) m) ≡ k + r
  code_sized m h = omega (arith, length-word_of (generator_of r) m (omega (arith, (generator_is r).size)), (generator_is r).size)

  pub code_below : (m : List ℕ) → Symbols m → Symbols (word_of (generator_of r) m)
  code_below m s = symbols_word_of (generator_of r) m (generator_is r).symbols s

  pub code_distant : (m o : List ℕ) → length m ≡ k → length o ≡ k → Symbols m → Symbols o
      → differing (λ (x : ℕ). x) (word_of (generator_of r) m) (word_of (generator_of r) o) < r + 1 → m ≡ o
  code_distant m o h l s t d = word-distance r (generator_of r) m o (generator_is r) (omega arith) (omega arith) s t d

  pub code_by_roots : WordsByRoots r k (word_of (generator_of r))
  code_by_roots m h s = (
    word_is r (generator_of r) m (generator_is r) some s,
    λ w is. only_word r (generator_of r) m w (generator_is r) some (omega arith) s is,
  )
