-- The block of the packet that a sender sends next.
use Rattle.std.specs.Prelude.{◌≡◌, ℕ, true, false, List, length, Ok, Err, Result}
use Rattle.refusals.specs.declared.Refusal.{Refusal}
use Rattle.refusals.specs.declared.Refusal.TheVariants.{NothingLoaded}
use Rattle.messages.specs.SenderCalls.{SenderState, advanced, is_loaded, next_packet}
use Rattle.packets.specs.Packets.{Fits, block_of}

-- the block of the packet that comes next; refused where nothing is loaded, and everything is as it was
abbrev pub WritesNext : (before after : SenderState) → (block block_after : List ℕ) → Result (Unit {0}) Refusal → Type 0
WritesNext s t xs ys (Ok done) =
    (is_loaded s.progress ≡ true) × Fits (length xs) (next_packet s) × (ys ≡ block_of (length xs) (next_packet s)) × (t ≡ advanced s)
WritesNext s t xs ys (Err e) = (is_loaded s.progress ≡ false) × (e ≡ NothingLoaded) × (t ≡ s) × (ys ≡ xs)
