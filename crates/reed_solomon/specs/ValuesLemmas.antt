-- The value of a polynomial at a power of α: of joined lists, sums and multiples. And lists whose entries are symbols.
-- Assumes nothing.
use Rattle.std.specs.Prelude.{◌≡◌, ℕ, zero, suc, ◌+◌, ◌*◌, ◌<◌, List, [], ◌∷◌, ◌++◌, map, length, take, drop, replicate, bit_xor, slice_index, slice_set, refl}
use Rattle.std.proofs.Common.{sym, ap, ap₂, ◌∙◌, add-mul, zero-mul, one-mul, suc-ne-zero, arith, lit<, length-append}
use Rattle.std.proofs.Math.Nat.{suc_inj}
use Rattle.std.specs.Int.Bits.{xor_assoc, xor_zero_r}
use Rattle.std.proofs.lemmas.List.{length-map}
use Rattle.codes.specs.Symbols.{Below128}
use Rattle.std.specs.Coded.{×_prop, Unit-prop, le_prop}
use Rattle.reed_solomon.specs.Field.{raised, times}
use Rattle.reed_solomon.specs.Words.{value_at, Symbols, added}
use Rattle.reed_solomon.specs.Powers.{xor_swap, xor_below, raised_lt, raised-xor, raised-zero, raised_none_of, raised-add, times-lt, times-xor, times-raised, times_zero}

-- ---- lists of symbols

pub symbols_none : Symbols []
unfolding Below128
symbols_none = tt

pub symbols_cons : (x : ℕ) (xs : List ℕ) → x < 128 → Symbols xs → Symbols (x ∷ xs)
unfolding Below128
symbols_cons x xs h s = (h, s)

pub symbols_head : (x : ℕ) (xs : List ℕ) → Symbols (x ∷ xs) → x < 128
unfolding Below128
symbols_head x xs s = s.0

pub symbols_tail : (x : ℕ) (xs : List ℕ) → Symbols (x ∷ xs) → Symbols xs
unfolding Below128
symbols_tail x xs s = s.1

pub symbols_append : (xs ys : List ℕ) → Symbols xs → Symbols ys → Symbols (xs ++ ys)
unfolding Below128
symbols_append [] ys s t = t
symbols_append (x ∷ xs) ys s t = (s.0, symbols_append xs ys s.1 t)

pub symbols_zeros : (n : ℕ) → Symbols (replicate n 0)
unfolding Below128
symbols_zeros zero = tt
symbols_zeros (suc n) = (lit< tt, symbols_zeros n)

pub symbols_take : (n : ℕ) (xs : List ℕ) → Symbols xs → Symbols (take n xs)
unfolding Below128
symbols_take zero xs s = tt
symbols_take (suc n) [] s = tt
symbols_take (suc n) (x ∷ xs) s = (s.0, symbols_take n xs s.1)

pub symbols_drop : (n : ℕ) (xs : List ℕ) → Symbols xs → Symbols (drop n xs)
unfolding Below128
symbols_drop zero xs s = s
symbols_drop (suc n) [] s = tt
symbols_drop (suc n) (x ∷ xs) s = symbols_drop n xs s.1

pub symbols_at : (xs : List ℕ) (i : ℕ) → Symbols xs → slice_index xs i < 128
unfolding Below128
symbols_at [] i s = lit< tt
symbols_at (x ∷ xs) zero s = s.0
symbols_at (x ∷ xs) (suc i) s = symbols_at xs i s.1

pub symbols_set : (xs : List ℕ) (i y : ℕ) → Symbols xs → y < 128 → Symbols (slice_set xs i y)
unfolding Below128
symbols_set [] i y s h = tt
symbols_set (x ∷ xs) zero y s h = (h, s.1)
symbols_set (x ∷ xs) (suc i) y s h = (s.0, symbols_set xs i y s.1 h)

pub symbols_added : (xs ys : List ℕ) → Symbols xs → Symbols ys → Symbols (added xs ys)
unfolding Below128 added
symbols_added [] ys s t = tt
symbols_added (x ∷ xs) [] s t = s
symbols_added (x ∷ xs) (y ∷ ys) s t = (xor_below x y s.0 t.0, symbols_added xs ys s.1 t.1)

pub symbols_times : (f : ℕ) (xs : List ℕ) → Symbols xs → Symbols (map (times f) xs)
unfolding Below128
symbols_times f [] s = tt
symbols_times f (x ∷ xs) s = (times-lt f x s.0, symbols_times f xs s.1)

pub length-added : (xs ys : List ℕ) → length (added xs ys) ≡ length xs
unfolding added
length-added [] ys = refl
length-added (x ∷ xs) [] = refl
length-added (x ∷ xs) (y ∷ ys) = ap suc (length-added xs ys)

-- ---- values

pub value_at_none : (j : ℕ) → value_at j [] ≡ 0
unfolding value_at
value_at_none j = refl

pub value_at-cons : (j c : ℕ) (cs : List ℕ) → value_at j (c ∷ cs) ≡ bit_xor (raised (length cs * j) c) (value_at j cs)
unfolding value_at
value_at-cons j c cs = refl

pub value_at_one : (j c : ℕ) → value_at j (c ∷ []) ≡ c
unfolding value_at
value_at_one j c = xor_zero_r (raised (0 * j) c) ∙ ap (λ (k : ℕ). raised k c) (zero-mul j) ∙ raised_none_of c

pub value_at-lt : (j : ℕ) (cs : List ℕ) → Symbols cs → value_at j cs < 128
unfolding value_at Below128
value_at-lt j [] s = lit< tt
value_at-lt j (c ∷ cs) s = xor_below (raised (length cs * j) c) (value_at j cs) (raised_lt (length cs * j) c s.0) (value_at-lt j cs s.1)

pub value_at-append : (j : ℕ) (xs ys : List ℕ) → value_at j (xs ++ ys) ≡ bit_xor (raised (length ys * j) (value_at j xs)) (value_at j ys)
unfolding value_at
value_at-append j [] ys = sym (ap (λ (x : ℕ). bit_xor x (value_at j ys)) (raised-zero (length ys * j)))
value_at-append j (x ∷ xs) ys =
    ap₂ bit_xor (ap (λ (k : ℕ). raised k x) places ∙ raised-add (length ys * j) (length xs * j) x) (value_at-append j xs ys)
    ∙ sym (xor_assoc (raised (length ys * j) (raised (length xs * j) x)) (raised (length ys * j) (value_at j xs)) (value_at j ys))
    ∙ ap (λ (z : ℕ). bit_xor z (value_at j ys)) (sym (raised-xor (length ys * j) (raised (length xs * j) x) (value_at j xs)))
  where
    places : length (xs ++ ys) * j ≡ length ys * j + length xs * j
    places = ap (λ (n : ℕ). n * j) (length-append xs ys ∙ omega arith) ∙ add-mul (length ys) (length xs) j

-- one step of Horner's rule
pub value_at_push : (j : ℕ) (xs : List ℕ) (x : ℕ) → value_at j (xs ++ x ∷ []) ≡ bit_xor (raised j (value_at j xs)) x
value_at_push j xs x =
    value_at-append j xs (x ∷ []) ∙ ap₂ bit_xor (ap (λ (k : ℕ). raised k (value_at j xs)) (one-mul j)) (value_at_one j x)

pub value_at-zeros : (j n : ℕ) → value_at j (replicate n 0) ≡ 0
unfolding value_at
value_at-zeros j zero = refl
value_at-zeros j (suc n) = ap₂ bit_xor (raised-zero (length (replicate {A = ℕ} n 0) * j)) (value_at-zeros j n)

pub value_at-added : (j : ℕ) (xs ys : List ℕ) → length xs ≡ length ys → value_at j (added xs ys) ≡ bit_xor (value_at j xs) (value_at j ys)
unfolding value_at added
value_at-added j [] [] e = refl
value_at-added j [] (y ∷ ys) e = absurd (suc-ne-zero (length ys) (sym e))
value_at-added j (x ∷ xs) [] e = absurd (suc-ne-zero (length xs) e)
value_at-added j (x ∷ xs) (y ∷ ys) e =
    ap₂ bit_xor
    (ap (λ (n : ℕ). raised (n * j) (bit_xor x y)) (length-added xs ys) ∙ raised-xor (length xs * j) x y
    ∙ ap (λ (n : ℕ). bit_xor (raised (length xs * j) x) (raised (n * j) y)) (suc_inj e))
    (value_at-added j xs ys (suc_inj e))
    ∙ xor_swap (raised (length xs * j) x) (raised (length ys * j) y) (value_at j xs) (value_at j ys)

pub value_at-times : (j f : ℕ) (cs : List ℕ) → value_at j (map (times f) cs) ≡ times f (value_at j cs)
unfolding value_at
value_at-times j f [] = sym (times_zero f)
value_at-times j f (c ∷ cs) =
    ap₂ bit_xor (ap (λ (n : ℕ). raised (n * j) (times f c)) (length-map cs (times f)) ∙ sym (times-raised f (length cs * j) c)) (value_at-times j f cs)
    ∙ sym (times-xor f (raised (length cs * j) c) (value_at j cs))

pub symbols_prop : (cs : List ℕ) → IsProp (Symbols cs)
unfolding Below128
symbols_prop [] = Unit-prop
symbols_prop (c ∷ cs) = ×_prop le_prop (symbols_prop cs)
