-- What is promised of the words.
use Rattle.std.specs.Prelude.{◌≡◌, ℕ, List, length}
use Rattle.reed_solomon.specs.Words.{Symbols, IsWord}

-- Each message of k symbols has one word: its word begins with the message and has the roots α … α^r,
-- and no other list of symbols of that length does.
abbrev pub WordsByRoots : ℕ → ℕ → (List ℕ → List ℕ) → Type 0
WordsByRoots r k word = (m : List ℕ) → length m ≡ k → Symbols m → IsWord r m (word m) × ((w : List ℕ) → IsWord r m w → w ≡ word m)
