-- What is heard of a frame, from what was read. Assumes nothing.
use Rattle.std.proofs.Common.{◌≡◌, ◌≢◌, ◌*◌, false, List, length, ℤ, Some, Err, Result, refl, sym, subst}
use Rattle.std.proofs.lemmas.Bool.{eq-eqb, ne_eqb}
use Rattle.refusals.specs.declared.Refusal.{Refusal}
use Rattle.refusals.specs.declared.Refusal.TheVariants.{SliceLength}
use Rattle.frames.specs.Frames.{Sending}
use Rattle.frames.specs.Laying.{cells_in}
use Rattle.frames.specs.Reading.{FrameAnswer, HasFrame, Mending, ReadsSent, Told}
use Rattle.frames.specs.declared.fault.FrameFault.{FrameFault}
use Rattle.lineup.specs.declared.kind.CellKind.{CellKind}
use Rattle.lineup.specs.declared.mode.Mode.{Mode}
use Rattle.radio.specs.Lines.{Line, paired}
use Rattle.radio.specs.ReceiverCalls.{Hears, HearsLine, HearsSlice, Reads, ReceiverState, read_as}

-- what was read by a copy of the plan, of the code and of the numbers
module _ {D : Type 0} (air : D → Sending) (ear : D → Mending) (mode : Mode) (answer : Result Told FrameFault) where
  pub reads_copy : (l : Line) (code d : D) (p : List CellKind) (numbers n : List ℤ) → l.air ≡ air code → d ≡ code → p ≡ l.plan → n ≡ numbers → FrameAnswer (air d) (ear d) p mode (cells_in n) answer
      → ReadsSent (air d) (ear d) p mode (cells_in n) answer → HasFrame (air d) (ear d) p mode (cells_in n) answer → Reads l (ear code) mode (cells_in numbers) answer
  reads_copy l code d p numbers n e same plan copy answered as_sent has_frame =
      rw (e, ← same, ← plan, ← copy) (record { answered = answered; as_sent = as_sent; has_frame = has_frame })

-- a filled line-up and two numbers for each cell
pub hears_read : (s : ReceiverState) (m : Mode) (numbers : List ℤ) (answer : Result Told FrameFault) (r : Result Told Refusal) → s.line.mode ≡ Some m → length numbers ≡ 2 * length s.line.plan
    → Reads s.line s.ear m (cells_in numbers) answer → r ≡ read_as answer → Hears s numbers r
hears_read s m numbers answer r e two reads is =
    record {
      hears =
          subst (λ o. HearsLine o s numbers r) (sym e)
          (subst (λ b. HearsSlice b m s numbers r) (sym (eq-eqb _ _ two)) (answer, reads, is));
    }

-- a filled line-up and another number of numbers
pub hears_other_length : (s : ReceiverState) (m : Mode) (numbers : List ℤ) (p : List CellKind) → s.line.mode ≡ Some m → p ≡ s.line.plan → length numbers ≢ 2 * length p → Hears s numbers (Err SliceLength)
hears_other_length s m numbers p e plan other =
    let not : paired s.line (length numbers) ≡ false = ne_eqb _ _ (rw plan at other) in
    record { hears = subst (λ o. HearsLine o s numbers (Err SliceLength)) (sym e) (subst (λ b. HearsSlice b m s numbers (Err SliceLength)) (sym not) refl) }

-- two numbers for each cell of a copy of the plan
pub two_each : {p q l : List CellKind} {n numbers : List ℤ} → p ≡ q → q ≡ l → n ≡ numbers → length n ≡ 2 * length p → length numbers ≡ 2 * length l
two_each a b c two = rw (← b, ← a, ← c) two
