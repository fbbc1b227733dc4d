-- Data words, one more at the front. Assumes nothing.
use Rattle.std.proofs.Common.{◌≡◌, ℕ, zero, suc, ◌+◌, ◌-◌, ◌*◌, ◌<◌, ◌≤◌, Bool, List, [], ◌∷◌, ◌++◌, length, take, drop, Ok, Err, Result, refl, sym, ap, ◌∙◌, subst, mul_comm, suc-mul, zero-mul, arith}
use Rattle.std.specs.Result.{is_ok}
use Rattle.std.proofs.lemmas.List.{drop-append-le, drop-take, length-drop, length-take-le, take-append-drop, take-append-le, take_all, take-take}
use Rattle.bits.specs.Bits.{cut, spread}
use Rattle.bits.specs.Scrambling.{scrambled}
use Rattle.bits.proofs.Bits.{spread_cut}
use Rattle.bits.proofs.Sequences.{length-scrambled, scrambled-scrambled}
use Rattle.frames.proofs.Sent.{part_front}
use Rattle.codes.specs.Symbols.{bit_number}
use Rattle.codes.specs.Mending.{Mended, Within}
use Rattle.frames.specs.Words.{coded, DataMended, WordLost, WordWithin, WordsWithin, part}
use Rattle.frames.specs.declared.fault.LostWord.{LostWord}

pub coded_none : (word : List Bool → List Bool) (k n count : ℕ) (messages words : List Bool) → count ≡ 0 → length words ≡ count * n → words ≡ coded word k count messages
unfolding coded
coded_none word k n zero messages [] e size = refl
coded_none word k n zero messages (b ∷ words) e size = absurd (omega (arith, zero-mul n))
coded_none word k n (suc count) messages words e size = absurd (omega arith)

pub coded_more : (word : List Bool → List Bool) (k count : ℕ) (messages : List Bool) → 0 < count →
    word (take k messages) ++ coded word k (count - 1) (drop k messages) ≡ coded word k count messages
unfolding coded
coded_more word k zero messages h = absurd (omega arith)
coded_more word k (suc count) messages h = let e : suc count - 1 ≡ count = omega arith in rw e refl

one_less : (count n : ℕ) → 0 < count → count * n ≡ (count - 1) * n + n
one_less zero n h = absurd (omega arith)
one_less (suc count) n h = let e : suc count - 1 ≡ count = omega arith in rw e (suc-mul count n)

module _ (word : List Bool → List Bool) (reach k n : ℕ) where
  pub within_none : (count : ℕ) (bits messages : List Bool) → count ≡ 0 → WordsWithin word reach k n count bits messages
  unfolding WordsWithin
  within_none zero bits messages e = tt
  within_none (suc count) bits messages e = absurd (omega arith)

  -- one word more at the end
  within_last : (count : ℕ) (bits last messages message : List Bool) → length bits ≡ count * n → length messages ≡ count * k → length last ≡ n → length message ≡ k →
      WordsWithin word reach k n count bits messages → WordWithin word reach k n last message → WordsWithin word reach k n (suc count) (bits ++ last) (messages ++ message)
  unfolding WordsWithin
  within_last zero [] last [] message p q r s v w = (rw (take_all n last (omega arith), take_all k message (omega arith)) w, tt)
  within_last zero (b ∷ bits) last messages message p q r s v w = absurd (omega (arith, zero-mul n))
  within_last zero bits last (b ∷ messages) message p q r s v w = absurd (omega (arith, zero-mul k))
  within_last (suc count) bits last messages message p q r s v w =
      let wide : suc count * n ≡ count * n + n = suc-mul count n in
      let more : suc count * k ≡ count * k + k = suc-mul count k in
      let front = within_last count (drop n bits) last (drop k messages) message (length-drop n bits ∙ omega arith) (length-drop k messages ∙ omega arith) r s v.1 w in (
        rw (take-append-le n bits last (omega arith), take-append-le k messages message (omega arith)) v.0,
        rw (drop-append-le n bits last (omega arith), drop-append-le k messages message (omega arith)) front,
      )

  -- a mended word, and a refused one
  pub mended_within : {F D : Type 0} (r : Result ℕ F) (s : Result ℕ D) (e : ℕ) (bits before message : List Bool) → s ≡ Ok e → is_ok s ≡ is_ok r → Mended bit_number k word reach bits before message r → WordWithin word reach k n bits message
  mended_within (Ok e) s x bits before message ok same w = (e, w)
  mended_within (Err f) s x bits before message ok same w = absurd (cc)

  pub refused_lost : {F D : Type 0} (r : Result ℕ F) (s : Result ℕ D) (lost : D) (bits before after : List Bool) → s ≡ Err lost → is_ok s ≡ is_ok r → Mended bit_number k word reach bits before after r →
      (message : List Bool) (e : ℕ) → Within bit_number k word reach bits message e → ⊥
  refused_lost (Ok e) s lost bits before after err same w = absurd (cc)
  refused_lost (Err f) s lost bits before after err same w = w.1

  -- what stands behind the words does not count
  pub within_taken : (count m : ℕ) (bits messages : List Bool) → count * n ≤ m → WordsWithin word reach k n count (take m bits) messages → WordsWithin word reach k n count bits messages
  unfolding WordsWithin
  within_taken zero m bits messages h w = tt
  within_taken (suc count) m bits messages h w =
      let more : suc count * n ≡ count * n + n = suc-mul count n in
      let le : n ≤ m = omega arith in
      let e : m ≡ n + (m - n) = omega arith in
      let front : take n (take m bits) ≡ take n bits = take-take n m bits le in
      let back : drop n (take m bits) ≡ take (m - n) (drop n bits) = ap (λ (j : ℕ). drop n (take j bits)) e ∙ drop-take n (m - n) bits in
      (rw front at w.0, within_taken count (m - n) (drop n bits) (drop k messages) (omega arith) (rw back at w.1))

  pub lost_taken : (count i : ℕ) (bits : List Bool) → i < count → WordLost word reach k n i (take (count * n) bits) → WordLost word reach k n i bits
  lost_taken count i bits h lost message e w =
      lost message e (subst (λ (b : List Bool). Within bit_number k word reach b message e) (sym (part_front n count i bits h)) w)

  -- the last of some words is cut off and mended behind the others
  module _ (count : ℕ) (words : List Bool) (some : 0 < count) (size : length words ≡ count * n) where
    pub others : length words - n ≡ (count - 1) * n
    others = omega (arith, one_less count n some, size)

    others_size : length (take (length words - n) words) ≡ (count - 1) * n
    others_size = length-take-le (length words - n) words (omega arith) ∙ others

    last_size : length (drop (length words - n) words) ≡ n
    last_size = length-drop (length words - n) words ∙ omega (arith, one_less count n some, size)

    pub within_behind : (messages message : List Bool) → length messages + k ≡ count * k → length message ≡ k →
        WordsWithin word reach k n (count - 1) (take (length words - n) words) messages → WordWithin word reach k n (drop (length words - n) words) message → WordsWithin word reach k n count words (messages ++ message)
    within_behind messages message p q v w =
        let all = within_last (count - 1) (take (length words - n) words) (drop (length words - n) words) messages message others_size (omega (arith, one_less count k some, p)) last_size q v w in
        let whole : suc (count - 1) ≡ count = omega arith in
        rw (whole, take-append-drop (length words - n) words) at all

    pub lost_before : (i : ℕ) → i < count - 1 → WordLost word reach k n i (take (length words - n) words) → WordLost word reach k n i words
    lost_before i h lost = lost_taken (count - 1) i words h (rw others at lost)

    pub lost_behind : ((message : List Bool) (e : ℕ) → Within bit_number k word reach (drop (length words - n) words) message e → ⊥) → WordLost word reach k n (count - 1) words
    lost_behind lost message e w =
        let same : part n (count - 1) words ≡ drop (length words - n) words =
        ap (λ j. take n (drop j words)) (mul_comm n (count - 1) ∙ sym others) ∙ take_all n (drop (length words - n) words) (omega (arith, last_size)) in
        lost message e (rw same at w)

  pub mended_taken : (count : ℕ) (bits messages : List Bool) (r : Result (Unit {0}) LostWord) → DataMended word reach k n count (take (count * n) bits) messages r → DataMended word reach k n count bits messages r
  mended_taken count bits messages (Ok done) w = within_taken count (count * n) bits messages (omega arith) w
  mended_taken count bits messages (Err lost) w = (w.0, lost_taken count lost.word bits w.0 w.1)

-- the bits of a block that is cut from mended messages are these messages
pub block_back : (size : ℕ) (messages : List Bool) → length messages ≡ size * 8 → scrambled 0 (spread 8 (cut 8 size (scrambled 0 messages))) ≡ messages
block_back size messages h =
    let long = length-scrambled 0 messages in
    ap (scrambled 0) (spread_cut 8 size (scrambled 0 messages) (omega arith) ∙ take_all (size * 8) (scrambled 0 messages) (omega arith)) ∙ scrambled-scrambled 0 messages
