-- The encoder's division: a message followed by its remainder has the generator's roots.
-- Assumes nothing.
use Rattle.std.specs.Prelude.{◌≡◌, ℕ, ◌+◌, ◌*◌, ◌<◌, ◌≤◌, List, [], ◌∷◌, ◌++◌, map, length, take, drop, replicate, bit_xor, slice_index, refl}
use Rattle.std.proofs.Common.{sym, ap, ap₂, ◌∙◌, add-mul, zero-mul, suc-mul, arith, length-append}
use Rattle.std.proofs.lemmas.Nat.{xor_comm}
use Rattle.std.specs.Int.Bits.{xor_assoc, xor_self, xor_zero_r}
use Rattle.std.proofs.lemmas.List.{length-map, length-replicate}
use Rattle.std.proofs.Math.Seq.{take-append_seam}
use Rattle.reed_solomon.specs.Field.{raised, times}
use Rattle.reed_solomon.specs.Words.{value_at, Roots, Symbols, IsWord, Generator, divide_step, divided, word_of}
use Rattle.reed_solomon.specs.Powers.{xor_left, xor_same, xor_below, raised-xor, raised-zero, raised_none_of, raised-add, times_power}
use Rattle.reed_solomon.specs.ValuesLemmas.{symbols_head, symbols_tail, symbols_append, symbols_zeros, symbols_drop, symbols_added, symbols_times, length-added, value_at-cons, value_at_push, value_at-zeros, value_at-added, value_at-times}

-- ---- sizes and symbols

pub length_step : (g rest : List ℕ) (c : ℕ) → 0 < length rest → length (divide_step g rest c) ≡ length rest
unfolding divide_step
length_step g [] c h = absurd (omega arith)
length_step g (t ∷ ts) c h =
    length-added (ts ++ 0 ∷ []) (map (times (bit_xor c t)) g) ∙ length-append ts (0 ∷ []) ∙ omega arith

pub symbols_step : (g rest : List ℕ) (c : ℕ) → Symbols g → Symbols rest → Symbols (divide_step g rest c)
unfolding divide_step
symbols_step g rest c s t =
    symbols_added (drop 1 rest ++ 0 ∷ []) (map (times (bit_xor c (slice_index rest 0))) g)
    (symbols_append (drop 1 rest) (0 ∷ []) (symbols_drop 1 rest t) (symbols_zeros 1))
    (symbols_times (bit_xor c (slice_index rest 0)) g s)

pub divided_none : (g rest : List ℕ) → divided g rest [] ≡ rest
unfolding divided
divided_none g rest = refl

pub divided-cons : (g rest : List ℕ) (c : ℕ) (cs : List ℕ) → divided g rest (c ∷ cs) ≡ divided g (divide_step g rest c) cs
unfolding divided
divided-cons g rest c cs = refl

-- a message in two parts
pub divided-append : (g rest xs ys : List ℕ) → divided g rest (xs ++ ys) ≡ divided g (divided g rest xs) ys
unfolding divided
divided-append g rest [] ys = refl
divided-append g rest (x ∷ xs) ys = divided-append g (divide_step g rest x) xs ys

-- one more symbol at the end
pub divided_push : (g rest xs : List ℕ) (x : ℕ) → divided g rest (xs ++ x ∷ []) ≡ divide_step g (divided g rest xs) x
unfolding divided
divided_push g rest xs x = divided-append g rest xs (x ∷ [])

pub length-divided : (g rest ms : List ℕ) → 0 < length rest → length (divided g rest ms) ≡ length rest
unfolding divided
length-divided g rest [] h = refl
length-divided g rest (c ∷ cs) h =
    let e = length_step g rest c h in
    length-divided g (divide_step g rest c) cs (omega arith) ∙ e

pub symbols_divided : (g rest ms : List ℕ) → Symbols g → Symbols rest → Symbols (divided g rest ms)
unfolding divided
symbols_divided g rest [] s t = t
symbols_divided g rest (c ∷ cs) s t = symbols_divided g (divide_step g rest c) cs s (symbols_step g rest c s t)

pub length-word_of : (g m : List ℕ) → 0 < length g → length (word_of g m) ≡ length m + length g
unfolding word_of
length-word_of g m h =
    let z : length (replicate {A = ℕ} (length g) 0) ≡ length g = length-replicate (length g) 0 in
    length-append m (divided g (replicate (length g) 0) m)
    ∙ ap (λ (n : ℕ). length m + n) (length-divided g (replicate (length g) 0) m (omega arith) ∙ z)

pub symbols_word_of : (g m : List ℕ) → Symbols g → Symbols m → Symbols (word_of g m)
unfolding word_of
symbols_word_of g m s t =
    symbols_append m (divided g (replicate (length g) 0) m) t (symbols_divided g (replicate (length g) 0) m s (symbols_zeros (length g)))

pub take-word_of : (g m : List ℕ) → take (length m) (word_of g m) ≡ m
unfolding word_of
take-word_of g m = take-append_seam m (divided g (replicate (length g) 0) m)

-- ---- values

around : (a b c : ℕ) → bit_xor a (bit_xor b (bit_xor a c)) ≡ bit_xor c b
around a b c =
    xor_left a b (bit_xor a c)
    ∙ ap (λ (x : ℕ). bit_xor b x) (sym (xor_assoc a a c) ∙ ap (λ (x : ℕ). bit_xor x c) (xor_self a))
    ∙ xor_comm b c

generator_value : (r : ℕ) (g : List ℕ) → Generator r g → (j : ℕ) → 1 ≤ j → j ≤ r → value_at j g ≡ raised (r * j) 1
generator_value r g gen j h l =
    sym (xor_same (raised (length g * j) 1) (value_at j g) (sym (value_at-cons j 1 g) ∙ gen.roots j h l))
    ∙ ap (λ (n : ℕ). raised (n * j) 1) gen.size

step_value : (r : ℕ) (g rest : List ℕ) (c : ℕ) → Generator r g → length rest ≡ r → c < 128 → Symbols rest → (j : ℕ) → 1 ≤ j → j ≤ r
    → bit_xor (raised (r * j) c) (value_at j (divide_step g rest c)) ≡ raised j (value_at j rest)
unfolding divide_step
step_value r g [] c gen n hc s j h l = absurd (omega arith)
step_value r g (t ∷ ts) c gen n hc s j h l =
    ap (λ (x : ℕ). bit_xor (raised (r * j) c) x)
    (value_at-added j (ts ++ 0 ∷ []) (map (times (bit_xor c t)) g) sizes
    ∙ ap₂ bit_xor (value_at_push j ts 0 ∙ xor_zero_r (raised j (value_at j ts)))
    (value_at-times j (bit_xor c t) g ∙ ap (times (bit_xor c t)) (generator_value r g gen j h l)
    ∙ times_power (bit_xor c t) (r * j) (xor_below c t hc (symbols_head t ts s)) ∙ raised-xor (r * j) c t))
    ∙ around (raised (r * j) c) (raised j (value_at j ts)) (raised (r * j) t)
    ∙ ap (λ (x : ℕ). bit_xor x (raised j (value_at j ts)))
    (ap (λ (k : ℕ). raised k t) (ap (λ (m : ℕ). m * j) (sym n) ∙ suc-mul (length ts) j ∙ omega arith) ∙ raised-add j (length ts * j) t)
    ∙ sym (ap (raised j) (value_at-cons j t ts) ∙ raised-xor j (raised (length ts * j) t) (value_at j ts))
  where
    sizes : length (ts ++ 0 ∷ []) ≡ length (map (times (bit_xor c t)) g)
    sizes =
        let a : length (ts ++ 0 ∷ []) ≡ length ts + 1 = length-append ts (0 ∷ []) in
        let b : length (map (times (bit_xor c t)) g) ≡ length g = length-map g (times (bit_xor c t)) in
        let d = gen.size in
        omega arith

-- over any register: the message followed by what the register comes to has the register's value, as many places up
pub divided_value : (r : ℕ) (g rest ms : List ℕ) → Generator r g → length rest ≡ r → Symbols rest → Symbols ms → (j : ℕ) → 1 ≤ j → j ≤ r
    → value_at j (ms ++ divided g rest ms) ≡ raised (length ms * j) (value_at j rest)
unfolding divided
divided_value r g rest [] gen n s t j h l = sym (ap (λ (k : ℕ). raised k (value_at j rest)) (zero-mul j) ∙ raised_none_of (value_at j rest))
divided_value r g rest (c ∷ cs) gen n s t j h l =
    value_at-cons j c (cs ++ divided g next cs)
    ∙ ap₂ bit_xor (ap (λ (k : ℕ). raised k c) places ∙ raised-add (length cs * j) (r * j) c)
    (divided_value r g next cs gen size (symbols_step g rest c gen.symbols s) (symbols_tail c cs t) j h l)
    ∙ sym (raised-xor (length cs * j) (raised (r * j) c) (value_at j next))
    ∙ ap (raised (length cs * j)) (step_value r g rest c gen n (symbols_head c cs t) s j h l)
    ∙ sym (raised-add (length cs * j) j (value_at j rest))
    ∙ ap (λ (k : ℕ). raised k (value_at j rest)) (sym (suc-mul (length cs) j))
  where
    next : List ℕ
    next = divide_step g rest c

    size : length next ≡ r
    size = length_step g rest c (omega arith) ∙ n

    places : length (cs ++ divided g next cs) * j ≡ length cs * j + r * j
    places =
        ap (λ (m : ℕ). m * j) (length-append cs (divided g next cs) ∙ ap (λ (m : ℕ). length cs + m) (length-divided g next cs (omega (arith, size)) ∙ size))
        ∙ add-mul (length cs) r j

pub word_roots : (r : ℕ) (g m : List ℕ) → Generator r g → Symbols m → Roots r (word_of g m)
unfolding word_of
word_roots r g m gen s j h l =
    divided_value r g (replicate (length g) 0) m gen (length-replicate (length g) 0 ∙ gen.size) (symbols_zeros (length g)) s j h l
    ∙ ap (raised (length m * j)) (value_at-zeros j (length g))
    ∙ raised-zero (length m * j)

pub word_is : (r : ℕ) (g m : List ℕ) → Generator r g → 0 < r → Symbols m → IsWord r m (word_of g m)
word_is r g m gen p s =
    let n = gen.size in
    record {
      size = length-word_of g m (omega arith) ∙ ap (λ (k : ℕ). length m + k) n;
      symbols = symbols_word_of g m gen.symbols s;
      begins = take-word_of g m;
      roots = word_roots r g m gen s;
    }
