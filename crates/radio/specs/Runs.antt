-- Runs of one exciter and one receiver: station, load, send, clear, take and fetch one after another, in any order and number.
use Rattle.std.specs.Prelude.{◌≡◌, ℕ, true, List, [], ◌∷◌, length, ℤ, Some, Ok, Err, Result}
use Rattle.refusals.specs.declared.Refusal.{Refusal}
use Rattle.cells.specs.declared.cell.Cell.{Cell}
use Rattle.frames.specs.Laying.{cells_in}
use Rattle.frames.specs.Reading.{WithinReach}
use Rattle.lineup.specs.declared.mode.Mode.{Mode}
use Rattle.messages.specs.Histories.{Due, History, In, Sent, after_load, after_next, after_take, nothing}
use Rattle.messages.specs.SenderCalls.{next_packet}
use Rattle.messages.specs.declared.content.Placing.{Placing}
use Rattle.modes.specs.declared.station.Station.{Station}
use Rattle.packets.specs.Packets.{Content}
use Rattle.radio.specs.ExciterCalls.{Clears, ExciterState, Loads, Sends, Stations}
use Rattle.radio.specs.Lines.{paired}
use Rattle.radio.specs.ReceiverCalls.{Fetches, ReceiverState, Takes}
use Rattle.radio.specs.declared.answer.Taken.{Taken}

-- a sent frame: its message and its place in that message's sending order, with its packet; the station that it names; and its cells
pub record Aired : Type 0 where
  pub sent : Sent
  pub station : Station
  pub cells : List Cell

-- the messages that were loaded and the packets that were sent and taken, as `messages` counts them; and the sent frames, newest first
pub record RadioHistory : Type 0 where
  pub packets : History
  pub aired : List Aired

-- before the first call
abbrev pub no_history : RadioHistory
no_history = record { packets = nothing; aired = [] }

-- one more message
abbrev pub with_load : RadioHistory → List ℕ → RadioHistory
with_load h message = record { packets = after_load h.packets message; aired = h.aired }

-- a packet of the newest message, at the next place in its sending order
abbrev pub next_sent : History → Content → Sent
next_sent h packet = record { number = h.loads; place = h.sends; message = h.message; packet = packet }

-- one more frame, which brings a packet of the newest message
abbrev pub with_send : RadioHistory → Content → Station → List Cell → RadioHistory
with_send h packet station cells = record {
  packets = after_next h.packets packet;
  aired = record { sent = next_sent h.packets packet; station = station; cells = cells } ∷ h.aired;
}

-- what became of the packet of a taken frame
abbrev pub placing_of : Result Taken Refusal → Result Placing Refusal
placing_of (Ok taken) = Ok taken.placing
placing_of (Err e) = Err e

-- one more taken frame
abbrev pub with_take : RadioHistory → Aired → Result Taken Refusal → RadioHistory
with_take h f answer = record { packets = after_take h.packets f.sent (placing_of answer); aired = h.aired }

-- a slice holds cells, two numbers each, and they are within reach of a sent frame's
pub record Near (r : ReceiverState) (f : Aired) (numbers : List ℤ) : Type 0 where
  pub mode : Mode
  pub has_mode : r.line.mode ≡ Some mode
  pub two : paired r.line (length numbers) ≡ true
  pub within : WithinReach r.ear r.line.plan mode r.line.air.n f.cells (cells_in numbers)

-- a frame may be taken next: it was sent, later than all frames that were taken, and no message with sent frames is missing between
abbrev pub MayTake : RadioHistory → Aired → Type 0
MayTake h f = In f h.aired × Due h.packets.sent h.packets.taken f.sent

-- Every history from an exciter and a receiver. Its steps are the calls, refused or not, by the definitions that their contracts cite.
pub data RadioRun (e₀ : ExciterState) (r₀ : ReceiverState) : ExciterState → ReceiverState → RadioHistory → Type 0 where
  start : RadioRun e₀ r₀ e₀ r₀ no_history
  station : {e : ExciterState} {r : ReceiverState} {h : RadioHistory} → RadioRun e₀ r₀ e r h → (n hour minute duration : ℕ) (t : ExciterState) (answer : Result (Unit {0}) Refusal) → Stations e t n hour minute duration answer → RadioRun e₀ r₀ t r h
  load : {e : ExciterState} {r : ReceiverState} {h : RadioHistory} → RadioRun e₀ r₀ e r h → (message : List ℕ) (t : ExciterState) → Loads e t message (Ok tt) → RadioRun e₀ r₀ t r (with_load h message)
  load_refused : {e : ExciterState} {r : ReceiverState} {h : RadioHistory} → RadioRun e₀ r₀ e r h → (message : List ℕ) (t : ExciterState) (x : Refusal) → Loads e t message (Err x) → RadioRun e₀ r₀ t r h
  -- the new frame brings the packet that comes next, with the exciter's station, and its cells are those of the slice
  send : {e : ExciterState} {r : ReceiverState} {h : RadioHistory} → RadioRun e₀ r₀ e r h → (numbers numbers_after : List ℤ) (t : ExciterState) (step : Sends e t numbers numbers_after (Ok tt)) → RadioRun e₀ r₀ t r (with_send h (next_packet e.sender) step.1.station (cells_in numbers_after))
  send_refused : {e : ExciterState} {r : ReceiverState} {h : RadioHistory} → RadioRun e₀ r₀ e r h → (numbers numbers_after : List ℤ) (t : ExciterState) (x : Refusal) → Sends e t numbers numbers_after (Err x) → RadioRun e₀ r₀ t r h
  clear : {e : ExciterState} {r : ReceiverState} {h : RadioHistory} → RadioRun e₀ r₀ e r h → (t : ExciterState) (answer : Result (Unit {0}) Refusal) → Clears e t answer → RadioRun e₀ r₀ t r h
  -- cells within reach of a sent frame take that frame, whatever the answer
  take_sent : {e : ExciterState} {r : ReceiverState} {h : RadioHistory} → RadioRun e₀ r₀ e r h → (f : Aired) → MayTake h f → (numbers : List ℤ) → Near r f numbers → (u : ReceiverState) (answer : Result Taken Refusal) → Takes r u numbers answer → RadioRun e₀ r₀ e u (with_take h f answer)
  -- cells that are refused take none
  take_refused : {e : ExciterState} {r : ReceiverState} {h : RadioHistory} → RadioRun e₀ r₀ e r h → (numbers : List ℤ) (u : ReceiverState) (x : Refusal) → Takes r u numbers (Err x) → RadioRun e₀ r₀ e u h
  fetch : {e : ExciterState} {r : ReceiverState} {h : RadioHistory} → RadioRun e₀ r₀ e r h → (bytes bytes_after : List ℕ) (answer : Result ℕ Refusal) → Fetches r bytes bytes_after answer → RadioRun e₀ r₀ e r h
