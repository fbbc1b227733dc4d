-- Data words that follow one another: their messages have k bits each, and they n.
use Rattle.std.specs.Prelude.{◌≡◌, ℕ, zero, suc, ◌*◌, ◌<◌, ◌≤◌, Bool, List, [], ◌++◌, length, take, drop, Ok, Err, Result}
use Rattle.codes.specs.Symbols.{bit_number, differing}
use Rattle.codes.specs.Mending.{Within}
use Rattle.frames.specs.declared.fault.LostWord.{LostWord}

-- the words of the first `count` messages
unfoldable pub coded : (List Bool → List Bool) → (k count : ℕ) → List Bool → List Bool
coded word k zero messages = []
coded word k (suc count) messages = word (take k messages) ++ coded word k count (drop k messages)

-- the part number i of bits, where each has w
abbrev pub part : (w i : ℕ) → List Bool → List Bool
part w i bits = take w (drop (w * i) bits)

-- in how many places the word number i of some bits differs from that of others
abbrev pub wrong_bits : (n i : ℕ) → List Bool → List Bool → ℕ
wrong_bits n i sent bits = differing bit_number (part n i sent) (part n i bits)

module _ (word : List Bool → List Bool) (reach k n : ℕ) where
  -- a message is within reach of some bits
  abbrev pub WordWithin : List Bool → List Bool → Type 0
  WordWithin bits message = (e : ℕ) × Within bit_number k word reach bits message e

  -- each of the first `count` messages is within reach of its word's bits
  unfoldable pub WordsWithin : ℕ → (bits messages : List Bool) → Type 0
  WordsWithin zero bits messages = Unit {0}
  WordsWithin (suc count) bits messages =
      WordWithin (take n bits) (take k messages) × WordsWithin count (drop n bits) (drop k messages)

  -- no message is within reach of the word number i
  abbrev pub WordLost : ℕ → List Bool → Type 0
  WordLost i bits = (message : List Bool) (e : ℕ) → Within bit_number k word reach (part n i bits) message e → ⊥

  -- the messages within reach of so many words, or a word that has none
  abbrev pub DataMended : ℕ → (bits messages : List Bool) → Result (Unit {0}) LostWord → Type 0
  DataMended count bits messages (Ok done) = WordsWithin count bits messages
  DataMended count bits messages (Err lost) = (lost.word < count) × WordLost lost.word bits

  -- messages whose words differ in no more places than the reach are mended as sent
  abbrev pub DataAsSent : ℕ → (bits messages : List Bool) → Result (Unit {0}) LostWord → Type 0
  DataAsSent count bits messages answer =
      (sent : List Bool) → length sent ≡ count * k → ((i : ℕ) → i < count → wrong_bits n i (coded word k count sent) bits ≤ reach)
      → (answer ≡ Ok tt) × (messages ≡ sent)
