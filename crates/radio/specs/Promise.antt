-- The promise on runs of frames.
use Rattle.std.specs.Prelude.{◌≡◌, ℕ, List, length, map, ℤ, Some, Ok, Result}
use Rattle.refusals.specs.declared.Refusal.{Refusal}
use Rattle.cells.specs.declared.cell.Cell.{Cell}
use Rattle.frames.specs.Frames.{frame_of}
use Rattle.frames.specs.Laying.{cells_in}
use Rattle.frames.specs.Reading.{wrong_mis, wrong_tis}
use Rattle.lineup.specs.declared.mode.Mode.{Mode}
use Rattle.messages.specs.Histories.{In, Took}
use Rattle.messages.specs.Pieces.{piece_count}
use Rattle.messages.specs.Promise.{GivesBack, SendsPieces, Told}
use Rattle.messages.specs.declared.content.Placing.TheVariants.{Complete}
use Rattle.radio.specs.ExciterCalls.{ExciterState}
use Rattle.radio.specs.Lines.{Line}
use Rattle.radio.specs.ReceiverCalls.{ReceiverState, Takes}
use Rattle.radio.specs.Runs.{Aired, MayTake, Near, RadioHistory, RadioRun}
use Rattle.radio.specs.declared.answer.Taken.{Taken}

-- a sent frame's cells are the frame of the mode, the station and the packet
pub record IsFrame (l : Line) (f : Aired) : Type 0 where
  pub mode : Mode
  pub has_mode : l.mode ≡ Some mode
  pub is_frame : f.cells ≡ frame_of l.air l.plan mode f.station f.sent.packet

-- the sent packets are those of the sent frames, in their order; each frame is that of its packet, and its data the piece that it brings
pub record SendsFrames (d : ℕ) (l : Line) (h : RadioHistory) : Type 0 where
  pub packets : h.packets.sent ≡ map (λ f. f.sent) h.aired
  pub frames : (f : Aired) → In f h.aired → IsFrame l f
  pub pieces : SendsPieces d h.packets.sent

-- What take answers of cells that take a frame. They are not refused, and complete exactly where the frame brings the last outstanding
-- piece; the answer names the exciter's mode and the frame's station, and as mended exactly the symbols that differ from the sent ones.
pub record Answered (d : ℕ) (l : Line) (r : ReceiverState) (taken : List Took) (f : Aired) (cells : List Cell) (answer : Result Taken Refusal) : Type 0 where
  pub what : Taken
  pub accepted : answer ≡ Ok what
  pub told : Told d taken f.sent (Ok what.placing)
  pub mode : l.mode ≡ Some what.mode
  pub station : what.station ≡ f.station
  pub mis : what.mended.mis ≡ wrong_mis r.ear r.line.plan what.mode f.cells cells
  pub tis : what.mended.tis ≡ wrong_tis r.ear r.line.plan what.mode f.cells cells

-- that, of every frame that may be taken and all cells within reach of it
abbrev pub TakesFrames : ℕ → Line → ReceiverState → RadioHistory → Type 0
TakesFrames d l r h =
    (f : Aired) → MayTake h f → (numbers : List ℤ) → Near r f numbers
    → (u : ReceiverState) (answer : Result Taken Refusal) → Takes r u numbers answer → Answered d l r h.packets.taken f (cells_in numbers) answer

-- Over every run of this exciter and this receiver, with d bytes in a piece. Fetch into enough space gives the loaded bytes from the frame
-- that is answered complete on, until one of another message is taken.
abbrev pub RunsPromise : ℕ → ExciterState → ReceiverState → Type 0
RunsPromise d e₀ r₀ =
    (e : ExciterState) (r : ReceiverState) (h : RadioHistory) → RadioRun e₀ r₀ e r h
    → SendsFrames d e₀.line h × TakesFrames d e₀.line r h × GivesBack r.collector h.packets

-- there is such a run: a message in two pieces that is reported complete
pub record RunsShown (d : ℕ) (e₀ : ExciterState) (r₀ : ReceiverState) : Type 0 where
  pub e : ExciterState
  pub r : ReceiverState
  pub h : RadioHistory
  pub run : RadioRun e₀ r₀ e r h
  pub t : Took
  pub was_taken : In t h.packets.taken
  pub two_pieces : piece_count d (length t.what.message) ≡ 2
  pub is_complete : t.answer ≡ Ok Complete
