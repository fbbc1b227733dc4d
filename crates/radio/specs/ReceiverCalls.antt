-- The receiver: what take and fetch do.
use Rattle.std.specs.Prelude.{◌≡◌, ℕ, ◌-◌, Bool, true, false, List, length, ℤ, Some, None, Ok, Err, Option, Result}
use Rattle.refusals.specs.declared.Refusal.{Refusal}
use Rattle.refusals.specs.declared.Refusal.TheVariants.{EmptyLineUp, SliceLength}
use Rattle.cells.specs.declared.cell.Cell.{Cell}
use Rattle.frames.specs.Faults.{refusal_of}
use Rattle.frames.specs.Laying.{cells_in}
use Rattle.frames.specs.Reading.{FrameAnswer, HasFrame, Mending, ReadsSent, Told}
use Rattle.frames.specs.declared.fault.FrameFault.{FrameFault}
use Rattle.lineup.specs.declared.mode.Mode.{Mode}
use Rattle.messages.specs.CollectorCalls.{CollectorState, Fetching, Taking, new_collector}
use Rattle.messages.specs.declared.content.Placing.{Placing}
use Rattle.radio.specs.Lines.{Line, paired}
use Rattle.radio.specs.declared.answer.Taken.{Taken}

-- the line-up, how its streams are read, and the message that is collected
pub record ReceiverState : Type 0 where
  pub line : Line
  pub ear : Mending
  pub collector : CollectorState

-- empty
abbrev pub new_receiver : Line → Mending → ReceiverState
new_receiver l ear = record { line = l; ear = ear; collector = new_collector (l.block - 6) }

abbrev pub with_collector : ReceiverState → CollectorState → ReceiverState
with_collector s x = record { line = s.line; ear = s.ear; collector = x }

-- what reading a frame answers; what was sent is read as sent, and what is read has its frame within reach
pub record Reads (l : Line) (ear : Mending) (mode : Mode) (cells : List Cell) (answer : Result Told FrameFault) : Type 0 where
  pub answered : FrameAnswer l.air ear l.plan mode cells answer
  pub as_sent : ReadsSent l.air ear l.plan mode cells answer
  pub has_frame : HasFrame l.air ear l.plan mode cells answer

-- what take answers of a frame, by what became of its packet
abbrev pub taken_as : Told → Result Placing Refusal → Result Taken Refusal
taken_as t (Ok placing) =
    Ok (record { placing = placing; mode = t.stated.mode; station = t.stated.station; mended = record { mis = t.mis_mended; tis = t.tis_mended } })
taken_as t (Err e) = Err e

-- what reading answers, a fault being a refusal
abbrev pub read_as : Result Told FrameFault → Result Told Refusal
read_as (Ok got) = Ok got
read_as (Err fault) = Err (refusal_of fault)

-- by whether the slice has two numbers a cell
abbrev pub HearsSlice : Bool → Mode → ReceiverState → List ℤ → Result Told Refusal → Type 0
HearsSlice false mode s numbers heard = heard ≡ Err SliceLength
HearsSlice true mode s numbers heard =
    (answer : Result Told FrameFault) × Reads s.line s.ear mode (cells_in numbers) answer × (heard ≡ read_as answer)

-- by the mode of the line-up
abbrev pub HearsLine : Option Mode → ReceiverState → List ℤ → Result Told Refusal → Type 0
HearsLine None s numbers heard = heard ≡ Err EmptyLineUp
HearsLine (Some mode) s numbers heard = HearsSlice (paired s.line (length numbers)) mode s numbers heard

-- what is heard of a frame: what it states, or the first refusal that holds
pub record Hears (s : ReceiverState) (numbers : List ℤ) (heard : Result Told Refusal) : Type 0 where
  pub hears : HearsLine s.line.mode s numbers heard

-- a frame that is heard gives its packet to the collector; one that is refused leaves everything as it was
abbrev pub TakesHeard : (before after : ReceiverState) → Result Told Refusal → Result Taken Refusal → Type 0
TakesHeard s t (Ok got) r =
    (placing : Result Placing Refusal) × Taking s.collector t.collector got.stated.packet placing
    × (t ≡ with_collector s t.collector) × (r ≡ taken_as got placing)
TakesHeard s t (Err e) r = (r ≡ Err e) × (t ≡ s)

-- take
abbrev pub Takes : (before after : ReceiverState) → List ℤ → Result Taken Refusal → Type 0
Takes s t numbers r = (heard : Result Told Refusal) × Hears s numbers heard × TakesHeard s t heard r

-- fetch
abbrev pub Fetches : ReceiverState → (bytes bytes_after : List ℕ) → Result ℕ Refusal → Type 0
Fetches s xs ys r = Fetching s.collector xs ys r
