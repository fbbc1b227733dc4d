-- The number of a few bits, and its bits again.
use Rattle.std.specs.Prelude.{◌≡◌, ℕ, zero, suc, ◌+◌, ◌*◌, ◌/◌, ◌%◌, ◌^◌, ◌<◌, ◌≤◌, Bool, true, false, List, [], ◌∷◌, length, refl}
use Rattle.std.proofs.Common.{ap, sym, pow-suc, arith}
use Rattle.std.proofs.lemmas.Nat.{pow_pos}
use Rattle.cells.specs.Qam.{low_first, low_bits}

pub low_first-below : (k : ℕ) (bits : List Bool) → length bits ≤ k → low_first bits < 2 ^ k
low_first-below k [] h = pow_pos k
low_first-below zero (b ∷ bits) h = absurd (omega arith)
low_first-below (suc k) (true ∷ bits) h = let i = low_first-below k bits (omega arith) in omega (arith, pow-suc 2 k)
low_first-below (suc k) (false ∷ bits) h = let i = low_first-below k bits (omega arith) in omega (arith, pow-suc 2 k)

pub length-low_bits : (m v : ℕ) → length (low_bits m v) ≡ m
length-low_bits zero v = refl
length-low_bits (suc m) v = ap suc (length-low_bits m (v / 2))

-- the bits of the number of some bits are those bits
pub low_bits-low_first : (bits : List Bool) → low_bits (length bits) (low_first bits) ≡ bits
low_bits-low_first [] = refl
low_bits-low_first (true ∷ bits) =
    let odd : (1 + 2 * low_first bits) % 2 ≡ 1 = omega arith in
    let half : (1 + 2 * low_first bits) / 2 ≡ low_first bits = omega arith in
    rw (odd, half) (ap (λ (r : List Bool). true ∷ r) (low_bits-low_first bits))
low_bits-low_first (false ∷ bits) =
    let even : (0 + 2 * low_first bits) % 2 ≡ 0 = omega arith in
    let half : (0 + 2 * low_first bits) / 2 ≡ low_first bits = omega arith in
    rw (even, half) (ap (λ (r : List Bool). false ∷ r) (low_bits-low_first bits))

pub low_bits_of : (m : ℕ) (bits : List Bool) → length bits ≡ m → low_bits m (low_first bits) ≡ bits
low_bits_of m bits e = rw (sym e) (low_bits-low_first bits)
