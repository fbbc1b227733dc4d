-- Few wrong places: a list with r roots and at most r places that are not 0 is 0 throughout, so words are far apart.
-- Assumes nothing.
use Rattle.std.specs.Prelude.{◌≡◌, ℕ, zero, suc, ◌+◌, ◌*◌, ◌<◌, ◌≤◌, List, [], ◌∷◌, length, take, drop, replicate, bit_xor, slice_index, refl}
use Rattle.std.proofs.Common.{sym, ap, ap₂, ◌∙◌, ⊎_elim, mul-suc, suc-ne-zero, le_refl, arith, length-take-le}
use Rattle.std.proofs.Math.Nat.{suc_inj}
use Rattle.codes.specs.Symbols.{Below128, apart, differing}
use Rattle.codes.specs.SymbolsLemmas.{apart-same, apart_other, apart_cases, apart-le, differing_comm, differing-le, differing_through, same_from_none}
use Rattle.reed_solomon.specs.Field.{raised}
use Rattle.reed_solomon.specs.Words.{value_at, Roots, Symbols, IsWord, Generator, added, word_of}
use Rattle.reed_solomon.specs.Powers.{xor_swap, xor_same, xor_none, xor_below, raised_lt, raised-xor, raised-zero, raised-add, raised_comm, raised_none, raised-apart}
use Rattle.reed_solomon.specs.ValuesLemmas.{symbols_head, symbols_tail, symbols_added, symbols_take, length-added, value_at-cons, value_at-zeros, value_at-added}
use Rattle.reed_solomon.specs.Division.{take-word_of, word_is}

-- ---- places in which two lists differ

apart-xor : (a b : ℕ) → apart (bit_xor a b) 0 ≡ apart a b
apart-xor a b =
    ⊎_elim (λ e. apart-same (bit_xor a b) 0 (xor_none a b e.0) ∙ sym e.1)
    (λ f. apart_other (bit_xor a b) 0 (λ e. f.0 (xor_same a b e)) ∙ sym f.1) (apart_cases a b)

-- the places of a list that are not 0
unfoldable pub weight : List ℕ → ℕ
weight [] = 0
weight (c ∷ cs) = apart c 0 + weight cs

abbrev pub differs : List ℕ → List ℕ → ℕ
differs xs ys = differing (λ (x : ℕ). x) xs ys

pub differs-weight : (xs ys : List ℕ) → length xs ≡ length ys → differs xs ys ≡ weight (added xs ys)
unfolding differing weight added
differs-weight [] [] e = refl
differs-weight [] (y ∷ ys) e = absurd (suc-ne-zero (length ys) (sym e))
differs-weight (x ∷ xs) [] e = absurd (suc-ne-zero (length xs) e)
differs-weight (x ∷ xs) (y ∷ ys) e = ap₂ ◌+◌ (sym (apart-xor x y)) (differs-weight xs ys (suc_inj e))

-- lists that begin alike differ behind that
pub differs_front : (n : ℕ) (xs ys : List ℕ) → length xs ≡ length ys → n ≤ length xs → take n xs ≡ take n ys → differs xs ys + n ≤ length xs
unfolding differing
differs_front zero xs ys e h t = omega (arith, differing-le (λ (x : ℕ). x) xs ys e)
differs_front (suc n) [] ys e h t = absurd (omega arith)
differs_front (suc n) (x ∷ xs) [] e h t = absurd (omega arith)
differs_front (suc n) (x ∷ xs) (y ∷ ys) e h t =
    omega
    (arith, apart-same x y (ap (λ (l : List ℕ). slice_index l 0) t), differs_front n xs ys (suc_inj e) (omega arith) (ap (λ (l : List ℕ). drop 1 l) t))

pub added_none : (xs ys : List ℕ) → length xs ≡ length ys → added xs ys ≡ replicate (length xs) 0 → xs ≡ ys
unfolding added
added_none [] [] d e = refl
added_none [] (y ∷ ys) d e = absurd (suc-ne-zero (length ys) (sym d))
added_none (x ∷ xs) [] d e = absurd (suc-ne-zero (length xs) d)
added_none (x ∷ xs) (y ∷ ys) d e =
    ap₂ ◌∷◌ (xor_same x y (ap (λ (l : List ℕ). slice_index l 0) e)) (added_none xs ys (suc_inj d) (ap (λ (l : List ℕ). drop 1 l) e))

-- ---- the tail without the head's place

-- Each entry is multiplied by α^n + α^k, k being its place: at n nothing would be left.
unfoldable pub scaled : ℕ → List ℕ → List ℕ
scaled n [] = []
scaled n (c ∷ cs) = bit_xor (raised n c) (raised (length cs) c) ∷ scaled n cs

pub length-scaled : (n : ℕ) (cs : List ℕ) → length (scaled n cs) ≡ length cs
unfolding scaled
length-scaled n [] = refl
length-scaled n (c ∷ cs) = ap suc (length-scaled n cs)

pub symbols_scaled : (n : ℕ) (cs : List ℕ) → Symbols cs → Symbols (scaled n cs)
unfolding scaled Below128
symbols_scaled n [] s = tt
symbols_scaled n (c ∷ cs) s =
    (xor_below (raised n c) (raised (length cs) c) (raised_lt n c s.0) (raised_lt (length cs) c s.0), symbols_scaled n cs s.1)

scaled-zero : (n k c : ℕ) → c ≡ 0 → bit_xor (raised n c) (raised k c) ≡ 0
scaled-zero n k c e =
    xor_none (raised n c) (raised k c) (ap (raised n) e ∙ raised-zero n ∙ sym (ap (raised k) e ∙ raised-zero k))

pub weight_scaled : (n : ℕ) (cs : List ℕ) → weight (scaled n cs) ≤ weight cs
unfolding scaled weight
weight_scaled n [] = le_refl 0
weight_scaled n (c ∷ cs) =
    let more : weight (scaled n cs) ≤ weight cs = weight_scaled n cs in
    let d : ℕ = bit_xor (raised n c) (raised (length cs) c) in
    ⊎_elim (λ e. omega (arith, apart-same d 0 (scaled-zero n (length cs) c e.0))) (λ f. omega (arith, apart-le d 0, f.1)) (apart_cases c 0)

pub scaled_none : (n : ℕ) (cs : List ℕ) → length cs ≤ n → n < 127 → Symbols cs → scaled n cs ≡ replicate (length cs) 0 → cs ≡ replicate (length cs) 0
unfolding scaled
scaled_none n [] h l s e = refl
scaled_none n (c ∷ cs) h l s e =
    ap₂ ◌∷◌
    (raised-apart (length cs) n c (symbols_head c cs s) h l
    (xor_same (raised n c) (raised (length cs) c) (ap (λ (x : List ℕ). slice_index x 0) e)))
    (scaled_none n cs (omega arith) l (symbols_tail c cs s) (ap (λ (x : List ℕ). drop 1 x) e))

pub value_at-scaled : (n j : ℕ) (cs : List ℕ) → value_at j (scaled n cs) ≡ bit_xor (raised n (value_at j cs)) (value_at (suc j) cs)
unfolding scaled value_at
value_at-scaled n j [] = sym (ap (λ (x : ℕ). bit_xor x 0) (raised-zero n))
value_at-scaled n j (c ∷ cs) =
    ap₂ bit_xor
    (ap (λ (k : ℕ). raised (k * j) (bit_xor (raised n c) (raised (length cs) c))) (length-scaled n cs)
    ∙ raised-xor (length cs * j) (raised n c) (raised (length cs) c)
    ∙ ap₂ bit_xor (raised_comm (length cs * j) n c)
    (sym (raised-add (length cs * j) (length cs) c) ∙ ap (λ (k : ℕ). raised k c) (sym (mul-suc (length cs) j))))
    (value_at-scaled n j cs)
    ∙ xor_swap (raised n (raised (length cs * j) c)) (raised (length cs * suc j) c) (raised n (value_at j cs)) (value_at (suc j) cs)
    ∙ ap (λ (x : ℕ). bit_xor x (bit_xor (raised (length cs * suc j) c) (value_at (suc j) cs)))
    (sym (raised-xor n (raised (length cs * j) c) (value_at j cs)))

-- ---- few places that are not 0

roots_tail : (r c : ℕ) (cs : List ℕ) → c ≡ 0 → Roots r (c ∷ cs) → Roots r cs
roots_tail r c cs e roots j h l =
    sym (ap (λ (x : ℕ). bit_xor x (value_at j cs)) (ap (raised (length cs * j)) e ∙ raised-zero (length cs * j)))
    ∙ sym (value_at-cons j c cs) ∙ roots j h l

roots_scaled : (r c : ℕ) (cs : List ℕ) → Roots (suc r) (c ∷ cs) → Roots r (scaled (length cs) cs)
roots_scaled r c cs roots j h l =
    value_at-scaled (length cs) j cs
    ∙ xor_none (raised (length cs) (value_at j cs)) (value_at (suc j) cs)
    (ap (raised (length cs)) (sym (head j h (omega arith)))
    ∙ sym (raised-add (length cs) (length cs * j) c)
    ∙ ap (λ (k : ℕ). raised k c) (omega (arith, mul-suc (length cs) j))
    ∙ head (suc j) (omega arith) (omega arith))
  where
    head : (i : ℕ) → 1 ≤ i → i ≤ suc r → raised (length cs * i) c ≡ value_at i cs
    head i p q = xor_same (raised (length cs * i) c) (value_at i cs) (sym (value_at-cons i c cs) ∙ roots i p q)

head_none : (c : ℕ) (cs : List ℕ) → c < 128 → cs ≡ replicate (length cs) 0 → value_at 1 (c ∷ cs) ≡ 0 → c ≡ 0
head_none c cs h e v =
    raised_none (length cs * 1) c h
    (xor_same (raised (length cs * 1) c) (value_at 1 cs) (sym (value_at-cons 1 c cs) ∙ v) ∙ ap (value_at 1) e ∙ value_at-zeros 1 (length cs))

few_by : (n r : ℕ) (cs : List ℕ) → length cs ≤ n → length cs ≤ 127 → Symbols cs → Roots r cs → weight cs ≤ r → cs ≡ replicate (length cs) 0
unfolding weight
few_by n r [] h b s roots w = refl
few_by zero r (c ∷ cs) h b s roots w = absurd (omega arith)
few_by (suc n) zero (c ∷ cs) h b s roots w =
    ⊎_elim
    (λ e. ap₂ ◌∷◌ e.0 (few_by n zero cs (omega arith) (omega arith) (symbols_tail c cs s) (roots_tail zero c cs e.0 roots) (omega arith)))
    (λ f. absurd (omega (arith, f.1)))
    (apart_cases c 0)
few_by (suc n) (suc r) (c ∷ cs) h b s roots w =
    ⊎_elim
    (λ e. ap₂ ◌∷◌ e.0 (few_by n (suc r) cs (omega arith) (omega arith) (symbols_tail c cs s) (roots_tail (suc r) c cs e.0 roots) (omega arith)))
    (λ f.
    let k : length (scaled (length cs) cs) ≡ length cs = length-scaled (length cs) cs in
    let z : scaled (length cs) cs ≡ replicate (length (scaled (length cs) cs)) 0 =
    few_by n r (scaled (length cs) cs) (omega arith) (omega arith) (symbols_scaled (length cs) cs (symbols_tail c cs s))
    (roots_scaled r c cs roots) (omega (arith, weight_scaled (length cs) cs, f.1))
    in
    let t : cs ≡ replicate (length cs) 0 =
    scaled_none (length cs) cs (le_refl (length cs)) (omega arith) (symbols_tail c cs s) (z ∙ ap (λ (m : ℕ). replicate m 0) k)
    in
    ap₂ ◌∷◌ (head_none c cs (symbols_head c cs s) t (roots 1 (omega arith) (omega arith))) t)
    (apart_cases c 0)

pub few : (r : ℕ) (cs : List ℕ) → length cs ≤ 127 → Symbols cs → Roots r cs → weight cs ≤ r → cs ≡ replicate (length cs) 0
few r cs = few_by (length cs) r cs (le_refl (length cs))

-- ---- words

pub roots_added : (r : ℕ) (xs ys : List ℕ) → length xs ≡ length ys → Roots r xs → Roots r ys → Roots r (added xs ys)
roots_added r xs ys e p q j h l = value_at-added j xs ys e ∙ ap₂ bit_xor (p j h l) (q j h l)

-- lists with the same r roots that differ in at most r places are equal
pub few-differing : (r : ℕ) (xs ys : List ℕ) → length xs ≡ length ys → length xs ≤ 127 → Symbols xs → Symbols ys → Roots r xs → Roots r ys → differs xs ys ≤ r → xs ≡ ys
few-differing r xs ys e b s t p q d =
    let n : length (added xs ys) ≡ length xs = length-added xs ys in
    added_none xs ys e
    (few r (added xs ys) (omega arith) (symbols_added xs ys s t) (roots_added r xs ys e p q) (omega (arith, differs-weight xs ys e))
    ∙ ap (λ (m : ℕ). replicate m 0) n)

pub only_word : (r : ℕ) (g m w : List ℕ) → Generator r g → 0 < r → length m + r ≤ 127 → Symbols m → IsWord r m w → w ≡ word_of g m
only_word r g m w gen p b s is =
    let other : IsWord r m (word_of g m) = word_is r g m gen p s in
    let n : length w ≡ length m + r = is.size in
    let k : length (word_of g m) ≡ length m + r = other.size in
    few-differing r w (word_of g m) (omega arith) (omega arith) is.symbols other.symbols is.roots other.roots
    (omega (arith, differs_front (length m) w (word_of g m) (omega arith) (omega arith) (is.begins ∙ sym other.begins)))

pub word_of-message : (g m o : List ℕ) → length m ≡ length o → word_of g m ≡ word_of g o → m ≡ o
word_of-message g m o n e =
    sym (take-word_of g m) ∙ ap₂ (λ (k : ℕ) (l : List ℕ). take k l) n e ∙ take-word_of g o

-- the distance of the code: words of different messages differ in more than r places
pub word-distance : (r : ℕ) (g m o : List ℕ) → Generator r g → length m ≡ length o → length m + r ≤ 127 → Symbols m → Symbols o → differing (λ (x : ℕ). x) (word_of g m) (word_of g o) < r + 1 → m ≡ o
word-distance zero g m o gen n b s t d = word_of-message g m o n (same_from_none (λ (x : ℕ). x) (λ a b e. e) (word_of g m) (word_of g o) (omega arith))
word-distance (suc r) g m o gen n b s t d =
    let p : IsWord (suc r) m (word_of g m) = word_is (suc r) g m gen (omega arith) s in
    let q : IsWord (suc r) o (word_of g o) = word_is (suc r) g o gen (omega arith) t in
    word_of-message g m o n
    (few-differing (suc r) (word_of g m) (word_of g o) (omega arith) (omega arith) p.symbols q.symbols p.roots q.roots (omega arith))

-- what has the roots is the word of its front
pub word_from_roots : (r : ℕ) (g : List ℕ) (k : ℕ) (w : List ℕ) → Generator r g → 0 < r → k + r ≤ 127 → length w ≡ k + r → Symbols w → Roots r w → w ≡ word_of g (take k w)
word_from_roots r g k w gen p b n s roots =
    let e : length (take k w) ≡ k = length-take-le k w (omega arith) in
    only_word r g (take k w) w gen p (omega arith) (symbols_take k w s)
    (record { size = n ∙ ap (λ (m : ℕ). m + r) (sym e); symbols = s; begins = ap (λ (m : ℕ). take m w) e; roots = roots })

-- within t places of what is given there is one such list, where 2·t ≤ r
pub only_near : (r t : ℕ) (w v given : List ℕ) → t + t ≤ r → length w ≡ length given → length v ≡ length given → length given ≤ 127 → Symbols w → Symbols v → Roots r w → Roots r v → differs w given ≤ t → differs v given ≤ t → w ≡ v
only_near r t w v given h e f b s u p q d k =
    few-differing r w v (omega arith) (omega arith) s u p q
    (omega (arith, differing_through (λ (x : ℕ). x) w given v e (omega arith), differing_comm (λ (x : ℕ). x) given v))
