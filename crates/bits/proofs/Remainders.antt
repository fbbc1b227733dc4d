-- The register of a cyclic redundancy check is the remainder of a division.
use Rattle.std.proofs.Common.{◌≡◌, ℕ, suc, ◌+◌, ◌-◌, ◌*◌, ◌/◌, ◌%◌, ◌^◌, ◌<◌, ◌≤◌, Bool, true, false, List, [], ◌∷◌, ◌++◌, length, sym, refl, ap, ◌∙◌, add-zero, mod-lt, mod-eq_of_lt, mul_assoc, mul_comm, one-mul, zero-add, zero-mul, mul-one, arith, pow_pos}
use native.Mathlib.Nat.{pow-succ'}
use lib.Bits.{bit_xor, xor_assoc, xor_block, xor_comm, xor_lt, xor_self, xor_shifted, xor_zero_r}
use lib.Pow.{ones_lt, ones_sub-lt, split}
use Rattle.std.proofs.lemmas.Nat.{div_below, one_shl}
use Rattle.codes.specs.Symbols.{bit_number}
use Rattle.bits.specs.Bits.{◌⊕◌, bit_at, number_of}
use Rattle.bits.specs.Crc.{feedback, stepped, registered, crc_of, times, IsRemainder}
use Rattle.bits.proofs.Bits.{number_odd, number_of-below}

xor-number : (a b : Bool) → bit_xor (bit_number a) (bit_number b) ≡ bit_number (a ⊕ b)
xor-number true true = refl
xor-number true false = refl
xor-number false true = refl
xor-number false false = refl

-- shifting goes into a sum
xor-scaled : (n a b : ℕ) → bit_xor a b * 2 ^ n ≡ bit_xor (a * 2 ^ n) (b * 2 ^ n)
xor-scaled n a b = sym (simp add-zero at (xor_block n a b 0 0 (pow_pos n) (pow_pos n)))

number-times-below : (f : Bool) (p m : ℕ) → p < m → bit_number f * p < m
number-times-below true p m h = rw one-mul h
number-times-below false p m h = omega arith

stepped-below : (w p register : ℕ) (b : Bool) → p < 2 ^ w → stepped w p register b < 2 ^ w
stepped-below w p register b h =
    xor_lt w (register * 2 % 2 ^ w) (bit_number (feedback w register b) * p) (mod-lt (register * 2) (pow_pos w))
    (number-times-below (feedback w register b) p (2 ^ w) h)

-- the generator, fed back, takes out the bit that leaves
fed : (w p low : ℕ) (f : Bool) → p < 2 ^ w → low < 2 ^ w → bit_xor (bit_number f * (2 ^ w + p)) (bit_xor low (bit_number f * p)) ≡ bit_number f * 2 ^ w + low
fed w p low true h k =
    let e : bit_xor p (bit_xor low p) ≡ low = rw (xor_comm low p, ← xor_assoc p p low, xor_self p) in
    let blocks = simp (one-mul, zero-mul, zero-add) at (xor_block w 1 0 p (bit_xor low p) h (xor_lt w low p k h)) in
    simp one-mul (blocks ∙ ap (λ n. 2 ^ w + n) e)
fed w p low false h k = simp (zero-mul, zero-add, xor_zero_r)

-- one step of the division
step_divides : (w p register : ℕ) (b : Bool) → register < 2 ^ w → p < 2 ^ w →
    bit_xor (register * 2) (bit_number b * 2 ^ w) ≡ bit_xor (bit_number (feedback w register b) * (2 ^ w + p)) (stepped w p register b)
step_divides w p register b h k =
    let top = register * 2 / 2 ^ w in
    let low = register * 2 % 2 ^ w in
    let small : low < 2 ^ w = mod-lt (register * 2) (pow_pos w) in
    let bit : top < 2 = div_below (register * 2) (2 ^ w) 2 (pow_pos w) (omega arith) in
    let number : bit_number (bit_at w (register * 2)) ≡ top = number_odd top ∙ mod-eq_of_lt bit in
    let sum : bit_xor top (bit_number b) ≡ bit_number (feedback w register b) =
    ap (λ n. bit_xor n (bit_number b)) (sym number) ∙ xor-number (bit_at w (register * 2)) b in
    let blocks : bit_xor (top * 2 ^ w + low) (bit_number b * 2 ^ w) ≡ bit_xor top (bit_number b) * 2 ^ w + low =
    simp (add-zero, xor_zero_r) at (xor_block w top (bit_number b) low 0 small (pow_pos w)) in
    ap (λ n. bit_xor n (bit_number b * 2 ^ w)) (sym (split (register * 2) w)) ∙
    (blocks ∙ (ap (λ n. n * 2 ^ w + low) sum ∙ sym (fed w p low (feedback w register b) k small)))

-- a step of the division, with the bits behind it
carried : (n w r b m fg next t last : ℕ) → m < 2 ^ n → bit_xor r (b * 2 ^ w) ≡ bit_xor fg next → bit_xor (next * 2 ^ n) (m * 2 ^ w) ≡ bit_xor t last →
    bit_xor (r * 2 ^ n) ((b * 2 ^ n + m) * 2 ^ w) ≡ bit_xor (bit_xor (fg * 2 ^ n) t) last
carried n w r b m fg next t last h step rest =
    let swap : b * 2 ^ n * 2 ^ w ≡ b * 2 ^ w * 2 ^ n = mul_assoc b (2 ^ n) (2 ^ w) ∙ (ap (λ k. b * k) (mul_comm (2 ^ n) (2 ^ w)) ∙ sym (mul_assoc b (2 ^ w) (2 ^ n))) in
    rw (
      ← xor_shifted b n m h,
      xor-scaled w (b * 2 ^ n) m,
      swap,
      ← xor_assoc (r * 2 ^ n) (b * 2 ^ w * 2 ^ n) (m * 2 ^ w),
      ← xor-scaled n r (b * 2 ^ w),
      step,
      xor-scaled n fg next,
      xor_assoc (fg * 2 ^ n) (next * 2 ^ n) (m * 2 ^ w),
      rest,
      ← xor_assoc (fg * 2 ^ n) t last,
    )

-- the register after bits, from any start
pub record Divides (w p register : ℕ) (bits : List Bool) : Type 0 where
  pub quotient : List Bool
  pub size : length quotient ≡ length bits
  pub divided : bit_xor (register * 2 ^ length bits) (number_of bits * 2 ^ w) ≡ bit_xor (times quotient (2 ^ w + p)) (registered w p register bits)
  pub below : registered w p register bits < 2 ^ w

divides : (w p register : ℕ) (bits : List Bool) → p < 2 ^ w → register < 2 ^ w → Divides w p register bits
unfolding registered times number_of
divides w p register [] k h = record { quotient = []; size = refl; divided = simp (mul-one, zero-mul, xor_zero_r); below = h }
divides w p register (b ∷ bs) k h =
    let rest = divides w p (stepped w p register b) bs k (stepped-below w p register b k) in
    let shift : register * 2 ^ suc (length bs) ≡ register * 2 * 2 ^ length bs =
    ap (λ n. register * n) (pow-succ' 2 (length bs)) ∙ sym (mul_assoc register 2 (2 ^ length bs)) in
    record {
      quotient = feedback w register b ∷ rest.quotient;
      size = ap suc rest.size;
      divided =
          rw (shift, rest.size)
          (carried (length bs) w (register * 2) (bit_number b) (number_of bs) (bit_number (feedback w register b) * (2 ^ w + p)) (stepped w p register b)
          (times rest.quotient (2 ^ w + p)) (registered w p (stepped w p register b) bs) (number_of-below bs) (step_divides w p register b h k) rest.divided);
      below = rest.below;
    }

pub registered-below : (w p : ℕ) (bits : List Bool) → p < 2 ^ w → registered w p (2 ^ w - 1) bits < 2 ^ w
registered-below w p bits k = (divides w p (2 ^ w - 1) bits k (ones_lt w)).below

-- the check, inverted again, is the remainder
pub crc_remainder : (w p : ℕ) (bits : List Bool) → p < 2 ^ w → IsRemainder w p bits (2 ^ w - 1 - crc_of w p bits)
unfolding crc_of
crc_remainder w p bits k =
    let d = divides w p (2 ^ w - 1) bits k (ones_lt w) in
    let e : 2 ^ w - 1 - (2 ^ w - 1 - registered w p (2 ^ w - 1) bits) ≡ registered w p (2 ^ w - 1) bits = omega (arith, d.below) in
    rw e (record { quotient = d.quotient; divided = d.divided; below = d.below })

-- one bit more at the end
pub registered_push : (w p register : ℕ) (bits : List Bool) (b : Bool) → registered w p register (bits ++ b ∷ []) ≡ stepped w p (registered w p register bits) b
unfolding registered
registered_push w p register [] b = refl
registered_push w p register (x ∷ xs) b = registered_push w p (stepped w p register x) xs b

pub crc_below : (w p : ℕ) (bits : List Bool) → crc_of w p bits < 2 ^ w
unfolding crc_of
crc_below w p bits = ones_sub-lt w (registered w p (2 ^ w - 1) bits)

-- a power of two as the code shifts it
pub shifted_one : (w : ℕ) → w ≤ 31 → (1 * 2 ^ w) % 2 ^ 32 ≡ 2 ^ w
shifted_one w h = one_shl w 32 (omega arith)
