-- The exciter: what station, load, send and clear do.
use Rattle.std.specs.Prelude.{◌≡◌, ℕ, ◌-◌, Bool, true, false, List, length, ℤ, Some, None, Ok, Err, Option, Result}
use Rattle.refusals.specs.declared.Refusal.{Refusal}
use Rattle.refusals.specs.declared.Refusal.TheVariants.{EmptyLineUp, NothingLoaded, NoStation, SliceLength, StationOutOfRange}
use Rattle.frames.specs.Frames.{frame_of}
use Rattle.frames.specs.Laying.{numbers_of}
use Rattle.lineup.specs.declared.mode.Mode.{Mode}
use Rattle.messages.specs.SenderCalls.{Clearing, SenderState, advanced, is_loaded, load_refusal, loaded, new_sender, next_packet}
use Rattle.modes.specs.Station.{Allowed}
use Rattle.modes.specs.declared.station.Station.{Station}
use Rattle.packets.specs.Packets.{Fits}
use Rattle.radio.specs.Lines.{Line, paired}

-- the line-up, the station of the frames that are sent from now on, and the message with the toggle and the next piece
pub record ExciterState : Type 0 where
  pub line : Line
  pub station : Option Station
  pub sender : SenderState

-- no station and no message
abbrev pub new_exciter : Line → ExciterState
new_exciter l = record { line = l; station = None; sender = new_sender (l.block - 6) }

abbrev pub with_station : ExciterState → Station → ExciterState
with_station s x = record { line = s.line; station = Some x; sender = s.sender }

abbrev pub with_sender : ExciterState → SenderState → ExciterState
with_sender s x = record { line = s.line; station = s.station; sender = x }

-- a station record has these numbers
abbrev pub HasNumbers : Station → (station hour minute duration : ℕ) → Type 0
HasNumbers x n h m d = (x.number ≡ n) × (x.hour ≡ h) × (x.minute ≡ m) × (x.duration ≡ d)

-- station: the record of the frames from now on, or a number is out of range and everything is as it was
abbrev pub Stations : (before after : ExciterState) → (station hour minute duration : ℕ) → Result (Unit {0}) Refusal → Type 0
Stations s t n h m d (Ok done) = (x : Station) × HasNumbers x n h m d × (t ≡ with_station s x)
Stations s t n h m d (Err e) = (Allowed n h m d → ⊥) × (e ≡ StationOutOfRange) × (t ≡ s)

-- the first refusal that holds of loading so many bytes
abbrev pub first_of_load : Option Mode → SenderState → ℕ → Option Refusal
first_of_load None s n = Some EmptyLineUp
first_of_load (Some m) s n = load_refusal s.progress s.piece_length n

-- load: the message is copied, or it is refused and everything is as it was
abbrev pub Loads : (before after : ExciterState) → List ℕ → Result (Unit {0}) Refusal → Type 0
Loads s t message (Ok done) =
    (first_of_load s.line.mode s.sender (length message) ≡ None) × (t ≡ with_sender s (loaded s.sender message))
Loads s t message (Err e) = (first_of_load s.line.mode s.sender (length message) ≡ Some e) × (t ≡ s)

-- the first refusal that holds of sending: of the mode, whether a message is loaded, the station, and whether the slice has two numbers a cell
abbrev pub first_of_send : Option Mode → Bool → Option Station → Bool → Option Refusal
first_of_send None loaded station two = Some EmptyLineUp
first_of_send (Some m) false station two = Some NothingLoaded
first_of_send (Some m) true None two = Some NoStation
first_of_send (Some m) true (Some x) false = Some SliceLength
first_of_send (Some m) true (Some x) true = None

abbrev pub send_refusal : ExciterState → ℕ → Option Refusal
send_refusal s count = first_of_send s.line.mode (is_loaded s.sender.progress) s.station (paired s.line count)

-- the frame of the packet that comes next, which fits its block
pub record NextFrame (s : ExciterState) (numbers : List ℤ) : Type 0 where
  pub mode : Mode
  pub station : Station
  pub has_mode : s.line.mode ≡ Some mode
  pub has_station : s.station ≡ Some station
  pub is_frame : numbers ≡ numbers_of (frame_of s.line.air s.line.plan mode station (next_packet s.sender))
  pub fits : Fits s.line.block (next_packet s.sender)

-- send: the slice is the next frame, and the piece behind it comes next; or it is refused, and everything is as it was
abbrev pub Sends : (before after : ExciterState) → (numbers numbers_after : List ℤ) → Result (Unit {0}) Refusal → Type 0
Sends s t xs ys (Ok done) =
    (send_refusal s (length xs) ≡ None) × NextFrame s ys × (t ≡ with_sender s (advanced s.sender))
Sends s t xs ys (Err e) = (send_refusal s (length xs) ≡ Some e) × (t ≡ s) × (ys ≡ xs)

-- clear: the message is dropped, or none is loaded and everything is as it was
abbrev pub Clears : (before after : ExciterState) → Result (Unit {0}) Refusal → Type 0
Clears s t r = Clearing s.sender t.sender r × (t ≡ with_sender s t.sender)
