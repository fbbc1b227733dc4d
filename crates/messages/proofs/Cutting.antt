-- Pieces: how many a message makes, where they begin and how long they are.
use Rattle.std.proofs.Common.{◌≡◌, ℕ, ◌+◌, ◌-◌, ◌*◌, ◌<◌, ◌≤◌, min, List, length, true, refl, add-mul, one-mul, le-div_iff_mul-le, arith}
use Rattle.std.proofs.lemmas.List.{length-take, length-drop}
use Rattle.messages.specs.SenderCalls.{is_loaded, next_piece, reached}
use Rattle.messages.specs.declared.states.Progress.{Progress}
use Rattle.messages.specs.declared.states.Progress.TheVariants.{Idle, Waiting, Sending}
use Rattle.messages.specs.Pieces.{piece_count, piece}

module _ (d : ℕ) (some : 1 ≤ d) where
  pub row : (i : ℕ) → (i + 1) * d ≡ i * d + d
  row i = rw (add-mul, one-mul)

  -- a piece of the message begins within it
  pub starts_within : (n i : ℕ) → i < piece_count d n → i * d < n
  starts_within n i h =
      let k : (i + 1) * d ≤ n + d - 1 = (le-div_iff_mul-le {k = d} {x = i + 1} {y = n + d - 1} (omega arith)).0 (omega arith) in
      omega (arith, row i)

  pub within_starts : (n i : ℕ) → i * d < n → i < piece_count d n
  within_starts n i h =
      let k : (i + 1) * d ≤ n + d - 1 = omega (arith, row i) in
      let l : i + 1 ≤ piece_count d n = (le-div_iff_mul-le {k = d} {x = i + 1} {y = n + d - 1} (omega arith)).1 k in
      omega arith

pub length-piece : (d i : ℕ) (message : List ℕ) → length (piece d message i) ≡ min d (length message - i * d)
length-piece d i message = simp (length-take, length-drop)

-- the piece that comes next is one of those that the sender reaches
pub next_reached : (p : Progress) → is_loaded p ≡ true → next_piece p + 1 ≡ reached p
next_reached Idle e = cc
next_reached Waiting e = refl
next_reached (Sending i) e = refl
