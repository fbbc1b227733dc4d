-- Laws of numbers as bits, highest bit first.
use Rattle.std.proofs.Common.{take-add, ◌≡◌, ℕ, zero, suc, ◌+◌, ◌*◌, ◌/◌, ◌%◌, ◌^◌, ◌<◌, ◌≤◌, Bool, true, false, eqb, List, [], ◌∷◌, ◌++◌, length, get_or, take, drop, set, sym, refl, ap, ◌∙◌, inl, inr, mod-lt, mod-eq_of_lt, mul_assoc, suc-mul, mul_comm, add-mul, add_comm, pow-suc, zero-add, zero-mul, mul-suc, add-one, one-add, arith, lit<, pow_mono, pow_pos, bit_or}
use native.Mathlib.Nat.{mod-one, mul-add-mod_self_right}
use borrow.Rule.Slice.PartMut.{put_mid}
use mir.Val.{bool_byte}
use lib.Pow.{mod-pow-add, high}
use Rattle.std.proofs.Math.Nat.{mul-le-mul_left, mul-le-mul_right}
use Rattle.std.specs.List.{fold}
use Rattle.std.proofs.lemmas.Nat.{or_shifted}
use Rattle.std.proofs.lemmas.List.{append_assoc, append-nil, take_more, drop_at, drop-drop, drop_more, set_at, length-append, length-drop, length_push, length-take, length-take-le, take_at}
use Rattle.std.proofs.lemmas.Bool.{cases_eq, ne_eqb, eq-eqb}
use Rattle.codes.specs.Symbols.{bit_number, Below128}
use Rattle.bits.specs.Bits.{AllBelow, bits_of, number_of, field_at, cut, spread}

pub length-bits_of : (w v : ℕ) → length (bits_of w v) ≡ w
unfolding bits_of
length-bits_of zero v = refl
length-bits_of (suc w) v = ap suc (length-bits_of w v)

number-below : (b : Bool) → bit_number b < 2
number-below true = lit< tt
number-below false = lit< tt

-- the number of a number's last bit
pub number_odd : (n : ℕ) → bit_number (eqb (n % 2) 1) ≡ n % 2
number_odd n =
    elim (cases_eq (n % 2) 1) [
      | inl e ↦ rw (eq-eqb (n % 2) 1 e) (sym e)
      | inr e ↦ rw (ne_eqb (n % 2) 1 e) (omega (arith, mod-lt n {m = 2} (lit< tt)))
    ]

pub number_of-below : (bs : List Bool) → number_of bs < 2 ^ length bs
unfolding number_of
number_of-below [] = lit< tt
number_of-below (b ∷ bs) =
    let h = number_of-below bs in
    rw pow-suc (elim b as (λ c. bit_number c * 2 ^ length bs + number_of bs < 2 ^ length bs * 2) [ true ↦ omega arith | false ↦ omega arith ])

-- a part of the bits has the length that is taken
pub part_length : (bits : List Bool) (place w : ℕ) → place + w ≤ length bits → length (take w (drop place bits)) ≡ w
part_length bits place w h = simp (length-take, length-drop) (omega arith)

-- a field fits its width
pub field_below : (place w : ℕ) (bits : List Bool) → field_at place w bits < 2 ^ w
field_below place w bits =
    let part = take w (drop place bits) in
    let q : length part ≤ w = rw length-take (omega arith) in
    let p : 2 ^ length part ≤ 2 ^ w = pow_mono q in
    omega (arith, number_of-below part)

-- w bits hold a number up to multiples of 2 ^ w
number_of-bits_of-mod : (w v : ℕ) → number_of (bits_of w v) ≡ v % 2 ^ w
unfolding number_of bits_of
number_of-bits_of-mod zero v = sym (mod-one v)
number_of-bits_of-mod (suc w) v =
    rw (length-bits_of w v, number_odd (v / 2 ^ w), number_of-bits_of-mod w v) (sym (rw one-add at (mod-pow-add v 1 w)))

pub number_of-bits_of : (w v : ℕ) → v < 2 ^ w → number_of (bits_of w v) ≡ v
number_of-bits_of w v h = number_of-bits_of-mod w v ∙ mod-eq_of_lt h

odd_bit : (c : ℕ) (b : Bool) → eqb ((c * 2 + bit_number b) % 2) 1 ≡ b
odd_bit c true = rw (mul-add-mod_self_right c 2 1)
odd_bit c false = rw (mul-add-mod_self_right c 2 0)

-- the bits of bs come back whatever stands above them
bits_of-above : (bs : List Bool) (c : ℕ) → bits_of (length bs) (c * 2 ^ length bs + number_of bs) ≡ bs
unfolding number_of bits_of
bits_of-above [] c = refl
bits_of-above (b ∷ bs) c =
    let e : c * 2 ^ suc (length bs) + (bit_number b * 2 ^ length bs + number_of bs) ≡ (c * 2 + bit_number b) * 2 ^ length bs + number_of bs =
    rw (pow-suc, add-mul (c * 2) (bit_number b) (2 ^ length bs)) (omega (arith, mul_assoc c 2 (2 ^ length bs), mul_comm 2 (2 ^ length bs))) in
    rw (e, high (c * 2 + bit_number b) (length bs) (number_of-below bs), odd_bit c b, bits_of-above bs (c * 2 + bit_number b))

pub bits_of-number_of : (bs : List Bool) → bits_of (length bs) (number_of bs) ≡ bs
bits_of-number_of bs = simp (zero-mul, zero-add) at (bits_of-above bs 0)

-- a field is written as it was read
pub field_back : (w n : ℕ) (part : List Bool) → length part ≡ w → number_of part ≡ n → bits_of w n ≡ part
field_back w n part size e = rw (size, e) at (bits_of-number_of part)

-- a field's number, written again
pub field_bits : (place w : ℕ) (bits : List Bool) → place + w ≤ length bits → bits_of w (field_at place w bits) ≡ take w (drop place bits)
field_bits place w bits h = field_back w (field_at place w bits) (take w (drop place bits)) (part_length bits place w h) refl

-- one bit more at the end
pub number_of_push : (bs : List Bool) (b : Bool) → number_of (bs ++ b ∷ []) ≡ number_of bs * 2 + bit_number b
unfolding number_of
number_of_push [] b = omega arith
number_of_push (x ∷ xs) b =
    rw (length_push xs b, add-one, pow-suc, number_of_push xs b)
    (omega (arith, mul_assoc (bit_number x) (2 ^ length xs) 2, add-mul (bit_number x * 2 ^ length xs) (number_of xs) 2))

-- a bit as the code widens it
bool_byte_number : (b : Bool) → bool_byte b ≡ bit_number b
bool_byte_number true = refl
bool_byte_number false = refl

-- one bit more behind a number, with p places still to come
one_more : (m n p : ℕ) (b : Bool) → 0 < p → (n + 1) * (p * 2) ≤ m → bit_or (n * 2 ^ 1 % m) (bool_byte b) ≡ n * 2 + bit_number b
one_more m n p b some h =
    let room = mul-le-mul_left (n + 1) some in
    let small : n * 2 ^ 1 < m = omega arith in
    rw (mod-eq_of_lt small, bool_byte_number b) (or_shifted n 1 (bit_number b) (number-below b))

-- reading bits behind a number
number_from : (m n : ℕ) (bs : List Bool) → (n + 1) * 2 ^ length bs ≤ m → fold (λ k b. bit_or (k * 2 ^ 1 % m) (bool_byte b)) n bs ≡ n * 2 ^ length bs + number_of bs
unfolding number_of
number_from m n [] h = omega arith
number_from m n (b ∷ bs) h =
    let p = 2 ^ length bs in
    let room : (n + 1) * (p * 2) ≤ m = rw pow-suc at h in
    let wide : n * 2 + bit_number b + 1 ≤ n * 2 + 2 = omega (arith, number-below b) in
    let next : (n * 2 + bit_number b + 1) * p ≤ m = omega (arith, mul-le-mul_right p wide, room) in
    rw (one_more m n p b (pow_pos (length bs)) room, number_from m (n * 2 + bit_number b) bs next, pow-suc) (omega arith)

pub number_read : (bs : List Bool) → length bs ≤ 32 → fold (λ k b. bit_or (k * 2 ^ 1 % 2 ^ 32) (bool_byte b)) 0 bs ≡ number_of bs
number_read bs h =
    let p : 2 ^ length bs ≤ 2 ^ 32 = pow_mono h in
    simp (zero-mul, zero-add) at (number_from (2 ^ 32) 0 bs (omega arith))

pub length_cut : (w n : ℕ) (bs : List Bool) → length (cut w n bs) ≡ n
unfolding cut
length_cut w zero bs = refl
length_cut w (suc n) bs = ap suc (length_cut w n (drop w bs))

pub length-spread : (w : ℕ) (xs : List ℕ) → length (spread w xs) ≡ length xs * w
unfolding spread
length-spread w [] = omega arith
length-spread w (x ∷ xs) =
    rw (length-append (bits_of w x) (spread w xs), length-bits_of w x, length-spread w xs, suc-mul (length xs) w) (omega arith)

-- cutting gives back what was spread, whatever follows
cut-spread_more : (w : ℕ) (xs : List ℕ) (more : List Bool) → AllBelow (2 ^ w) xs → cut w (length xs) (spread w xs ++ more) ≡ xs
unfolding cut spread
cut-spread_more w [] more h = refl
cut-spread_more w (x ∷ xs) more h =
    rw (
      append_assoc (bits_of w x) (spread w xs) more,
      take_at (bits_of w x) (spread w xs ++ more) w (length-bits_of w x),
      drop_at (bits_of w x) (spread w xs ++ more) w (length-bits_of w x),
      number_of-bits_of w x h.0,
      cut-spread_more w xs more h.1,
    )

pub cut-spread : (w : ℕ) (xs : List ℕ) → AllBelow (2 ^ w) xs → cut w (length xs) (spread w xs) ≡ xs
cut-spread w xs h = rw append-nil at (cut-spread_more w xs [] h)

-- spreading gives back the bits that were cut
pub spread_cut : (w n : ℕ) (bs : List Bool) → n * w ≤ length bs → spread w (cut w n bs) ≡ take (n * w) bs
unfolding cut spread
spread_cut w zero bs h = rw zero-mul
spread_cut w (suc n) bs h =
    let s = suc-mul n w in
    let e : length (take w bs) ≡ w = length-take-le w bs (omega arith) in
    let k : n * w ≤ length (drop w bs) = rw length-drop (omega arith) in
    let whole : bits_of w (number_of (take w bs)) ≡ take w bs = rw e at (bits_of-number_of (take w bs)) in
    rw (s, add_comm (n * w) w, take-add w (n * w) bs, whole, spread_cut w n (drop w bs) k)

-- every number that is cut fits its width
pub cut_below : (w n : ℕ) (bs : List Bool) → AllBelow (2 ^ w) (cut w n bs)
unfolding cut
cut_below w zero bs = tt
cut_below w (suc n) bs = (field_below 0 w bs, cut_below w n (drop w bs))

-- all below 128 are the symbols of seven bits
pub below_128 : (xs : List ℕ) → AllBelow 128 xs → Below128 (λ x. x) xs
unfolding Below128
below_128 [] h = tt
below_128 (x ∷ xs) h = (h.0, below_128 xs h.1)

from_below_128 : (xs : List ℕ) → Below128 (λ x. x) xs → AllBelow 128 xs
unfolding Below128
from_below_128 [] h = tt
from_below_128 (x ∷ xs) h = (h.0, from_below_128 xs h.1)

pub cut-below_128 : (n : ℕ) (bs : List Bool) → Below128 (λ x. x) (cut 7 n bs)
cut-below_128 n bs = below_128 (cut 7 n bs) (cut_below 7 n bs)

pub cut-spread_128 : (xs : List ℕ) (more : List Bool) → Below128 (λ x. x) xs → cut 7 (length xs) (spread 7 xs ++ more) ≡ xs
cut-spread_128 xs more h = cut-spread_more 7 xs more (from_below_128 xs h)

-- one number more at the end
cut_push : (w n : ℕ) (bs : List Bool) → cut w (n + 1) bs ≡ cut w n bs ++ number_of (take w (drop (n * w) bs)) ∷ []
unfolding cut
cut_push w zero bs = rw zero-mul
cut_push w (suc n) bs =
    rw (add-one, suc-mul n w, add_comm (n * w) w, ← drop-drop (n * w) w bs)
    (ap (λ l. number_of (take w bs) ∷ l) (rw add-one at (cut_push w n (drop w bs))))

spread_push : (w : ℕ) (xs : List ℕ) (x : ℕ) → spread w (xs ++ x ∷ []) ≡ spread w xs ++ bits_of w x
unfolding spread
spread_push w [] x = append-nil (bits_of w x)
spread_push w (y ∷ ys) x = rw (spread_push w ys x, append_assoc)

-- one number more, cut into its place
pub cut_more : (w : ℕ) (bs : List Bool) (entry xs : List ℕ) (i : ℕ) → i < length entry → xs ≡ cut w i bs ++ drop i entry →
    set xs i (number_of (take w (drop (w * i) bs))) ≡ cut w (i + 1) bs ++ drop (i + 1) entry
cut_more w bs entry xs i h e =
    rw (
      e,
      drop_more entry i 0 h,
      set_at (cut w i bs) (get_or entry i 0) (drop (i + 1) entry) (number_of (take w (drop (w * i) bs))) i (length_cut w i bs),
      cut_push w i bs,
      mul_comm i w,
      append_assoc,
    )

-- one part more, written behind what is written
pub put_more : {X : Type 0} (front entry now part more : List X) (a k b : ℕ) → length front ≡ a → a + k ≡ b → now ≡ front ++ drop a entry → part ≡ more →
    put_mid a k now part ≡ front ++ more ++ drop b entry
put_more front entry now part more a k b size end e same =
    rw (e, same, take_at front (drop a entry) a size, drop_at front (drop a entry) a size, drop-drop k a entry, end, append_assoc)

-- one field more, written behind what is written
pub field_more : (front entry bits part : List Bool) (a k v n : ℕ) → length front ≡ a → a + k ≤ length entry → bits ≡ front ++ drop a entry →
    part ≡ bits_of (length (take k (drop a bits))) n → n ≡ v → put_mid a k bits part ≡ front ++ bits_of k v ++ drop (a + k) entry
field_more front entry bits part a k v n size room e p same =
    let rest : drop a bits ≡ drop a entry = rw e (drop_at front (drop a entry) a size) in
    let long : length (take k (drop a entry)) ≡ k = part_length entry a k room in
    put_more front entry bits part (bits_of k v) a k (a + k) size refl e (rw (rest, long, same) at p)

-- one number more, written over its bits
pub spread_more : (w : ℕ) (xs : List ℕ) (entry bits part : List Bool) (i n : ℕ) → i < length xs → w * i + w ≤ length entry →
    bits ≡ spread w (take i xs) ++ drop (w * i) entry → part ≡ bits_of (length (take w (drop (w * i) bits))) n → n ≡ get_or xs i 0 →
    put_mid (w * i) w bits part ≡ spread w (take (i + 1) xs) ++ drop (w * (i + 1)) entry
spread_more w xs entry bits part i n h room e p same =
    let long : length (take i xs) ≡ i = length-take-le i xs (omega arith) in
    let size : length (spread w (take i xs)) ≡ w * i = length-spread w (take i xs) ∙ (ap (λ m. m * w) long ∙ mul_comm i w) in
    let on : w * (i + 1) ≡ w * i + w = rw add-one (mul-suc w i) in
    rw (take_more xs i 0 h, spread_push w (take i xs) (get_or xs i 0), on)
    (field_more (spread w (take i xs)) entry bits part (w * i) w (get_or xs i 0) n size room e p same)
