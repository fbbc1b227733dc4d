-- The sequence of the scrambling, and that scrambling twice gives back the bits.
use Rattle.std.proofs.Common.{◌≡◌, ℕ, zero, suc, ◌+◌, ◌-◌, ◌<◌, ◌≤◌, Bool, true, false, List, [], ◌∷◌, ◌++◌, length, get_or, take, drop, set, sym, refl, ap, ◌∙◌, add-zero, add-suc, suc-add, zero-add, add-one, arith}
use Rattle.std.proofs.lemmas.List.{append_assoc, drop_more, get_or_at, get_or-replicate, get_or-take, length-take-le, set_at, take_more}
use Rattle.bits.specs.Bits.{◌⊕◌}
use Rattle.bits.specs.Scrambling.{following, earlier, scrambled, Scrambling}

-- a value stands k places on after k more values
shifted : (n j k : ℕ) → j + k ≤ 8 → get_or (earlier (n + k)) (j + k) false ≡ get_or (earlier n) j false
unfolding earlier
shifted n j zero h = simp add-zero
shifted n j (suc k) h =
    let less : j + k < 8 = omega (arith, add-suc j k) in
    let le : j + k ≤ 8 = omega arith in
    rw (add-suc n k, add-suc j k, get_or-take 8 (earlier (n + k)) (j + k) false less) (shifted n j k le)

-- the sequence from the nine values before it on: the oldest of the nine before a_k
abbrev oldest : ℕ → Bool
oldest k = get_or (earlier k) 8 false

oldest_one : (k : ℕ) → k < 9 → oldest k ≡ true
unfolding earlier
oldest_one k h =
    let e : 8 - k + k ≡ 8 = omega arith in
    rw (zero-add, e) at (shifted 0 (8 - k) k (omega arith)) ∙ get_or-replicate 9 (8 - k) true false (omega arith)

oldest_value : (n : ℕ) → oldest (n + 9) ≡ following (earlier n)
unfolding earlier
oldest_value n =
    let e : n + 1 + 8 ≡ n + 9 = omega arith in
    rw (e, add-one) at (shifted (n + 1) 0 8 (omega arith))

oldest-sum : (n : ℕ) → oldest (n + 9) ≡ oldest (n + 4) ⊕ oldest n
oldest-sum n = oldest_value n ∙ ap (λ b. b ⊕ oldest n) (sym (shifted n 4 4 (omega arith)))

-- adding a bit twice
twice : (a b : Bool) → a ⊕ b ⊕ b ≡ a
twice true true = refl
twice true false = refl
twice false true = refl
twice false false = refl

pub scrambled-scrambled : (n : ℕ) (bs : List Bool) → scrambled n (scrambled n bs) ≡ bs
unfolding scrambled
scrambled-scrambled n [] = refl
scrambled-scrambled n (b ∷ bs) = rw (twice b (following (earlier n)), scrambled-scrambled (suc n) bs)

pub length-scrambled : (n : ℕ) (bs : List Bool) → length (scrambled n bs) ≡ length bs
unfolding scrambled
length-scrambled n [] = refl
length-scrambled n (b ∷ bs) = ap suc (length-scrambled (suc n) bs)

-- the bit at a place
scrambled_at : (n k : ℕ) (bs : List Bool) → k < length bs → get_or (scrambled n bs) k false ≡ get_or bs k false ⊕ following (earlier (n + k))
unfolding scrambled
scrambled_at n k [] h = absurd (omega arith)
scrambled_at n zero (b ∷ bs) h = rw add-zero
scrambled_at n (suc k) (b ∷ bs) h = rw (add-suc n k, ← suc-add n k) (scrambled_at (suc n) k bs (omega arith))

pub scrambling : (bs : List Bool) → Scrambling bs (scrambled 0 bs)
scrambling bs =
    record {
      sequence = oldest;
      ones = oldest_one;
      sums = oldest-sum;
      size = length-scrambled 0 bs;
      bits = λ k h. rw (oldest_value k) (rw zero-add at (scrambled_at 0 k bs h));
    }

-- one bit more at the end
scrambled_push : (n : ℕ) (bs : List Bool) (b : Bool) → scrambled n (bs ++ b ∷ []) ≡ scrambled n bs ++ (b ⊕ following (earlier (n + length bs))) ∷ []
unfolding scrambled
scrambled_push n [] b = rw add-zero
scrambled_push n (x ∷ xs) b = rw (add-suc n (length xs), ← suc-add n (length xs)) (ap (λ l. (x ⊕ following (earlier n)) ∷ l) (scrambled_push (suc n) xs b))

-- one bit more, scrambled in its place
pub scrambled_more : (entry bits : List Bool) (i : ℕ) → i < length entry → bits ≡ scrambled 0 (take i entry) ++ drop i entry →
    set bits i (get_or bits i false ⊕ following (earlier i)) ≡ scrambled 0 (take (i + 1) entry) ++ drop (i + 1) entry
scrambled_more entry bits i h e =
    let front = scrambled 0 (take i entry) in
    let b = get_or entry i false in
    let n : length (take i entry) ≡ i = length-take-le i entry (omega arith) in
    let m : length front ≡ i = length-scrambled 0 (take i entry) ∙ n in
    let s : bits ≡ front ++ b ∷ drop (i + 1) entry = rw (drop_more entry i false h) at e in
    rw (
      s,
      get_or_at front b (drop (i + 1) entry) false i m,
      set_at front b (drop (i + 1) entry) (b ⊕ following (earlier i)) i m,
      take_more entry i false h,
      scrambled_push 0 (take i entry) b,
      n,
      zero-add,
      append_assoc,
    )

pub earlier_more : (n : ℕ) → following (earlier n) ∷ take 8 (earlier n) ≡ earlier (n + 1)
unfolding earlier
earlier_more n = rw add-one
