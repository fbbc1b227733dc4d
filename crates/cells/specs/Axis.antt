-- What deciding an axis gives, at any number of bits.
use Rattle.std.specs.Prelude.{◌≡◌, ℕ, ◌-◌, ◌^◌, ◌<◌, ◌≤◌, ℤ, pos, negsuc, ◌+ℤ◌, ◌-ℤ◌}
use Rattle.std.proofs.Common.{inl, inr, arith}
use borrow.Author.Differences.{up, down}
use Rattle.std.proofs.lemmas.Int.{ints}
use Rattle.std.proofs.lemmas.Bool.{cases_lt, cases_order}
use Rattle.cells.specs.Cells.{apart}
use Rattle.cells.specs.Qam.{amplitude, floor_at0, decided_number, Nearest}

pub floor_at0_is : (z : ℤ) → floor_at0 z ≡ up z - down z
floor_at0_is (pos n) = omega (arith, ints)
floor_at0_is (negsuc n) = omega (arith, ints)

nearer_below : (m v : ℕ) (x : ℤ) → 2 ≤ 2 ^ m → v ≡ decided_number m x → (w : ℕ) → w < v → apart x (amplitude m v) < apart x (amplitude m w)
nearer_below m v x two e w h =
    let f = floor_at0_is ((amplitude m 0 -ℤ x) +ℤ pos 255) in
    omega (arith, ints)

nearer_above : (m v : ℕ) (x : ℤ) → 2 ≤ 2 ^ m → v ≡ decided_number m x → (w : ℕ) → v < w → w < 2 ^ m → apart x (amplitude m v) ≤ apart x (amplitude m w)
nearer_above m v x two e w h l =
    let f = floor_at0_is ((amplitude m 0 -ℤ x) +ℤ pos 255) in
    omega (arith, ints)

pub nearest : (m v : ℕ) (x : ℤ) → 2 ≤ 2 ^ m → v ≡ decided_number m x → Nearest m x v
nearest m v x two e = (
  omega arith,
  λ w l other. elim (cases_order w v) [
    | inl same ↦ absurd (other same)
    | inr (inl h) ↦ inl (nearer_below m v x two e w h)
    | inr (inr h) ↦ let near = nearer_above m v x two e w h l in
        elim (cases_lt (apart x (amplitude m v)) (apart x (amplitude m w))) [
          | inl less ↦ inl less
          | inr not-less ↦ inr (omega arith, omega (arith, ints))
        ]
  ],
)

-- an amplitude moved by at most 255 units is decided as sent
pub decided_near : (m v : ℕ) (x : ℤ) → 2 ≤ 2 ^ m → v < 2 ^ m → apart (amplitude m v) x ≤ 255 → decided_number m x ≡ v
decided_near m v x two l h =
    let f = floor_at0_is ((amplitude m 0 -ℤ x) +ℤ pos 255) in
    omega (arith, ints)
