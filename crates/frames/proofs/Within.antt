-- What is read of cells: words within reach by their numbers, and that a frame within reach is the frame that is read. Assumes nothing.
use Rattle.std.proofs.Common.{◌≡◌, ℕ, zero, suc, ◌+◌, ◌*◌, ◌<◌, ◌≤◌, Bool, List, ◌++◌, length, take, drop, sym, ap, ◌∙◌, suc-mul, zero-mul, arith}
use Rattle.std.proofs.lemmas.List.{length-drop, length-take-le, nil_from_length, take-append-drop}
use Rattle.codes.specs.Symbols.{Below128, bit_number, differing}
use Rattle.codes.proofs.Mends.{one_within}
use Rattle.codes.specs.SymbolsLemmas.{below-bits}
use Rattle.frames.specs.Words.{WordWithin, WordsWithin, coded, part, wrong_bits}
use Rattle.frames.proofs.Sent.{coded_part, part_first, part_next}

pub part_size : (k count i : ℕ) (messages : List Bool) → i < count → length messages ≡ count * k → length (part k i messages) ≡ k
part_size k zero i messages h e = absurd (omega arith)
part_size k (suc count) zero messages h e =
    let more : suc count * k ≡ count * k + k = suc-mul count k in
    ap length (part_first k messages) ∙ length-take-le k messages (omega arith)
part_size k (suc count) (suc i) messages h e =
    let more : suc count * k ≡ count * k + k = suc-mul count k in
    ap length (part_next k i messages) ∙ part_size k count i (drop k messages) (omega arith) (length-drop k messages ∙ omega arith)

-- bits with the same parts are the same
pub same_parts : (k count : ℕ) (a b : List Bool) → length a ≡ count * k → length b ≡ count * k → ((i : ℕ) → i < count → part k i a ≡ part k i b) → a ≡ b
same_parts k zero a b p q same = nil_from_length a (omega (arith, zero-mul k)) ∙ sym (nil_from_length b (omega (arith, zero-mul k)))
same_parts k (suc count) a b p q same =
    let more : suc count * k ≡ count * k + k = suc-mul count k in
    let front : take k a ≡ take k b = rw (part_first k a, part_first k b) at (same 0 (omega arith)) in
    let back : drop k a ≡ drop k b =
    same_parts k count (drop k a) (drop k b) (length-drop k a ∙ omega arith) (length-drop k b ∙ omega arith)
    (λ i h. rw (part_next k i a, part_next k i b) at (same (suc i) (omega arith))) in
    sym (take-append-drop k a) ∙ ap (λ l. l ++ drop k a) front ∙ ap (λ l. take k b ++ l) back ∙ take-append-drop k b

module _ (word : List Bool → List Bool) (reach k n : ℕ) where
  -- the word of each number is within reach
  pub words_at : (count i : ℕ) (bits messages : List Bool) → WordsWithin word reach k n count bits messages → i < count → WordWithin word reach k n (part n i bits) (part k i messages)
  unfolding WordsWithin
  words_at zero i bits messages w h = absurd (omega arith)
  words_at (suc count) zero bits messages w h = rw (part_first n bits, part_first k messages) w.0
  words_at (suc count) (suc i) bits messages w h =
      rw (part_next n i bits, part_next k i messages) (words_at count i (drop n bits) (drop k messages) w.1 (omega arith))

  pub words_from : (count : ℕ) (bits messages : List Bool) → ((i : ℕ) → i < count → WordWithin word reach k n (part n i bits) (part k i messages)) → WordsWithin word reach k n count bits messages
  unfolding WordsWithin
  words_from zero bits messages w = tt
  words_from (suc count) bits messages w = (
    rw (part_first n bits, part_first k messages) at (w 0 (omega arith)),
    words_from count (drop n bits) (drop k messages) (λ i h. rw (part_next n i bits, part_next k i messages) at (w (suc i) (omega arith))),
  )

  module _ (sized : (x : List Bool) → length x ≡ k → length (word x) ≡ n) where
    -- words that differ from those sent in no more places than the reach
    pub words_sent : (count : ℕ) (bits messages : List Bool) → length messages ≡ count * k
        → ((i : ℕ) → i < count → wrong_bits n i (coded word k count messages) bits ≤ reach) → WordsWithin word reach k n count bits messages
    words_sent count bits messages size near =
        words_from count bits messages (λ i h. (
          wrong_bits n i (coded word k count messages) bits,
          record {
            size = part_size k count i messages h size;
            below = below-bits (part k i messages);
            places = ap (λ l. differing bit_number l (part n i bits)) (sym (coded_part word k n sized count i messages h size));
            near = near i h;
          },
        ))

    pub words_wrong : (count : ℕ) (bits messages : List Bool) → length messages ≡ count * k → WordsWithin word reach k n count bits messages
        → (i : ℕ) → i < count → wrong_bits n i (coded word k count messages) bits ≤ reach
    words_wrong count bits messages size w i h =
        let one = words_at count i bits messages w h in
        let same : wrong_bits n i (coded word k count messages) bits ≡ one.0 =
        ap (λ l. differing bit_number l (part n i bits)) (coded_part word k n sized count i messages h size) ∙ one.1.places in
        omega (arith, same, one.1.near)

    -- no other messages are within reach of the same bits
    module _ (distance : ℕ)
        (distant : (a b : List Bool) → length a ≡ k → length b ≡ k → Below128 bit_number a → Below128 bit_number b → differing bit_number (word a) (word b) < distance → a ≡ b)
        (unique : 2 * reach < distance) where
      pub one_words : (count : ℕ) (bits a b : List Bool) → count * n ≤ length bits → length a ≡ count * k → length b ≡ count * k
          → WordsWithin word reach k n count bits a → WordsWithin word reach k n count bits b → a ≡ b
      unfolding WordsWithin
      one_words zero bits a b room p q v w = nil_from_length a (omega (arith, zero-mul k)) ∙ sym (nil_from_length b (omega (arith, zero-mul k)))
      one_words (suc count) bits a b room p q v w =
          let wide : suc count * n ≡ count * n + n = suc-mul count n in
          let more : suc count * k ≡ count * k + k = suc-mul count k in
          let front : take k a ≡ take k b =
          one_within bit_number k n distance reach word sized distant unique (take n bits) (take k a) (take k b) v.0.0 w.0.0 (length-take-le n bits (omega arith)) v.0.1 w.0.1 in
          let back : drop k a ≡ drop k b =
          one_words count (drop n bits) (drop k a) (drop k b) (omega (arith, length-drop n bits)) (length-drop k a ∙ omega arith) (length-drop k b ∙ omega arith) v.1 w.1 in
          sym (take-append-drop k a) ∙ ap (λ l. l ++ drop k a) front ∙ ap (λ l. take k b ++ l) back ∙ take-append-drop k b
