-- The block that is read is the one that was sent. Assumes nothing.
use Rattle.std.proofs.Common.{◌≡◌, ℕ, ◌*◌, ◌<◌, ◌≤◌, Bool, List, length, Ok, Err, Result, refl, sym, ap, ◌∙◌}
use Rattle.codes.specs.Symbols.{bit_number, differing, Below128}
use Rattle.bits.specs.Bits.{AllBelow, cut, spread}
use Rattle.bits.specs.Scrambling.{scrambled}
use Rattle.bits.proofs.Bits.{cut-spread}
use Rattle.bits.proofs.Sequences.{scrambled-scrambled}
use Rattle.frames.specs.Words.{DataMended, coded, wrong_bits}
use Rattle.frames.specs.declared.fault.LostWord.{LostWord}
use Rattle.frames.proofs.Within.{one_words, words_at, words_sent}

module _ (word : List Bool → List Bool) (reach k n : ℕ) (sized : (x : List Bool) → length x ≡ k → length (word x) ≡ n) (distance : ℕ)
    (distant : (a b : List Bool) → length a ≡ k → length b ≡ k → Below128 bit_number a → Below128 bit_number b → differing bit_number (word a) (word b) < distance → a ≡ b)
    (unique : 2 * reach < distance) where
  pub messages_sent : (count : ℕ) (bits messages sent : List Bool) (r : Result (Unit {0}) LostWord) → count * n ≤ length bits → length messages ≡ count * k → length sent ≡ count * k
      → ((i : ℕ) → i < count → wrong_bits n i (coded word k count sent) bits ≤ reach) → DataMended word reach k n count bits messages r → (r ≡ Ok tt) × (messages ≡ sent)
  messages_sent count bits messages sent (Ok tt) room size long near w =
      (refl, one_words word reach k n sized distance distant unique count bits messages sent room size long w (words_sent word reach k n sized count bits sent long near))
  messages_sent count bits messages sent (Err lost) room size long near w =
      let one = words_at word reach k n count lost.word bits sent (words_sent word reach k n sized count bits sent long near) w.0 in
      absurd (w.1 _ one.0 one.1)

-- the bytes that are cut from the messages sent are those of the block
pub block_forth : (size : ℕ) (messages : List Bool) (sent : List ℕ) → length sent ≡ size → AllBelow 256 sent → messages ≡ scrambled 0 (spread 8 sent) → cut 8 size (scrambled 0 messages) ≡ sent
block_forth size messages sent long below e =
    ap (λ m. cut 8 size (scrambled 0 m)) e ∙ ap (cut 8 size) (scrambled-scrambled 0 (spread 8 sent)) ∙ ap (λ j. cut 8 j (spread 8 sent)) (sym long) ∙ cut-spread 8 sent below
