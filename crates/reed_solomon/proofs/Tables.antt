-- What the tables of powers and logarithms hold. Assumes nothing.
use Rattle.std.proofs.Common.{◌≡◌, ℕ, zero, suc, ◌+◌, ◌-◌, ◌*◌, ◌/◌, ◌%◌, ◌<◌, List, map, length, get_or, drop, sym, ap, ◌∙◌, add_comm, arith}
use Rattle.std.specs.List.{range_with_len}
use Rattle.std.proofs.lemmas.List.{get_or-map, get_or-drop, length-drop, length-map}
use Rattle.std.proofs.lemmas.List.FromFn.{get_or-map-range_with_len, get_or-range_with_len, length-range_with_len}
use Rattle.std.proofs.lemmas.Nat.{div-add-mod'}
use Rattle.reed_solomon.specs.Field.{raised, times}
use Rattle.reed_solomon.specs.Powers.{raised-add, raised_cycle, raised_lt, zero-times, times_power}

turns : (q k a : ℕ) → a < 128 → raised (q * 127 + k) a ≡ raised k a
turns zero k a h = ap (λ n. raised n a) (omega arith)
turns (suc q) k a h =
    let e : suc q * 127 + k ≡ 127 + (q * 127 + k) = omega arith in
    ap (λ n. raised n a) e ∙ raised-add 127 (q * 127 + k) a ∙ raised_cycle _ (raised_lt (q * 127 + k) a h) ∙ turns q k a h

-- the powers come round after 127
raised-mod : (k a : ℕ) → a < 128 → raised (k % 127) a ≡ raised k a
raised-mod k a h = sym (turns (k / 127) (k % 127) a h) ∙ ap (λ n. raised n a) (div-add-mod' k 127)

-- from α^i up to α^j
pub raised_between : (i j : ℕ) → i < 127 → raised ((j + 127 - i) % 127) (raised i 1) ≡ raised j 1
raised_between i j h =
    raised-mod (j + 127 - i) (raised i 1) (raised_lt i 1 (omega arith))
    ∙ sym (raised-add (j + 127 - i) i 1)
    ∙ ap (λ n. raised n 1) (omega arith)
    ∙ raised-add 127 j 1
    ∙ raised_cycle (raised j 1) (raised_lt j 1 (omega arith))

-- products of powers, and with 0
pub times_powers : (a b i j : ℕ) → a < 128 → a ≡ raised i 1 → b ≡ raised j 1 → raised (i + j) 1 ≡ times a b
times_powers a b i j h e f =
    ap (λ n. raised n 1) (add_comm i j) ∙ raised-add j i 1 ∙ ap (raised j) (sym e) ∙ sym (times_power a j h) ∙ ap (times a) (sym f)

pub none_times : (a b : ℕ) → a ≡ 0 → times a b ≡ 0
none_times a b e = ap (λ n. times n b) e ∙ zero-times b

pub power_around : (k : ℕ) → raised (k % 127) 1 ≡ raised k 1
power_around k = raised-mod k 1 (omega arith)

pub power_there : (xs : List ℕ) (k : ℕ) → xs ≡ map (λ n. raised n 1) (range_with_len 0 254) → k < 254 → get_or xs k 0 ≡ raised k 1
power_there xs k e h =
    ap (λ (ys : List ℕ). get_or ys k 0) e ∙ get_or-map-range_with_len (λ n. raised n 1) 0 254 k k 0 h (omega arith)

module _ (xs : List ℕ) (a : ℕ) (e : map (λ x. raised x 1) (drop 1 xs) ≡ range_with_len 1 127) (within : a < 128) where
  sized : length (drop 1 xs) ≡ 127
  sized = sym (length-map (drop 1 xs) (λ x. raised x 1)) ∙ ap length e ∙ length-range_with_len 1 127

  pub logarithm_at : 0 < a → a ≡ raised (get_or xs a 0) 1
  logarithm_at h =
      let i : a - 1 < 127 = omega arith in
      let n : a - 1 < length (drop 1 xs) = omega (arith, sized) in
      let s : 1 + (a - 1) ≡ a = omega arith in
      sym s ∙ sym (get_or-range_with_len 1 127 (a - 1) 0 i) ∙ sym (ap (λ (ys : List ℕ). get_or ys (a - 1) 0) e)
      ∙ get_or-map (λ x. raised x 1) (drop 1 xs) (a - 1) 0 0 n
      ∙ ap (λ x. raised x 1) (get_or-drop 1 xs (a - 1) 0 ∙ ap (λ j. get_or xs j 0) s)

  pub logarithm_below : map (λ x. x % 127) xs ≡ xs → get_or xs a 0 < 127
  logarithm_below f =
      let n : a < length xs = omega (arith, sized, length-drop 1 xs) in
      let g : get_or xs a 0 ≡ get_or xs a 0 % 127 = sym (ap (λ (ys : List ℕ). get_or ys a 0) f) ∙ get_or-map (λ x. x % 127) xs a 0 0 n in
      omega arith
