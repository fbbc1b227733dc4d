-- The promise on runs of frames, by the promise on runs of packets.
use Rattle.std.proofs.Common.{◌≡◌, ℕ, ◌-◌, ◌*◌, ◌/◌, Bool, List, [], ℤ, Some, Ok, Err, Option, Result, sym, refl, ap, ◌∙◌, subst}
use Rattle.refusals.specs.declared.Refusal.{Refusal}
use Rattle.cells.specs.declared.cell.Cell.{Cell}
use Rattle.cells.specs.declared.cell.Order.{Order}
use Rattle.frames.specs.Frames.{sending}
use Rattle.frames.specs.Laying.{cells_in}
use Rattle.frames.specs.Reading.{Mending}
use Rattle.lineup.specs.Judging.{held}
use Rattle.lineup.specs.Layouts.{block_length_of, words_of}
use Rattle.lineup.specs.Views.{block_length}
use Rattle.lineup.specs.declared.kind.CellKind.{CellKind}
use Rattle.lineup.specs.declared.mode.Mode.{Mode}
use Rattle.messages.specs.Histories.{Took}
use Rattle.messages.specs.Pieces.{piece_length_of}
use Rattle.messages.specs.Promise.{Promise, Told}
use Rattle.messages.specs.declared.content.Placing.{Placing}
use Rattle.messages.proofs.Runs.{pair_promised}
use Rattle.staircase.specs.declared.shape.Shape.{Shape}
use Rattle.radio.specs.ExciterCalls.{ExciterState, new_exciter}
use Rattle.radio.specs.Lines.{Line, line}
use Rattle.radio.specs.Promise.{Answered, RunsPromise, SendsFrames, TakesFrames}
use Rattle.radio.specs.ReceiverCalls.{ReceiverState, new_receiver, taken_as}
use Rattle.radio.specs.Runs.{Aired, Near, RadioHistory, RadioRun}
use Rattle.radio.specs.declared.answer.Taken.{Taken}
use Rattle.radio.proofs.RunsLift.{Blocks, Known, Lifted, Sound, lifted, taken, told}

-- what is answered of a taken frame, by what became of its packet
answered : (d : ℕ) (l : Line) (r u : ReceiverState) (before : List Took) (f : Aired) (numbers : List ℤ) (answer : Result Taken Refusal) (near : Near r f numbers) (placing : Result Placing Refusal) → l.mode ≡ Some near.mode → answer ≡ taken_as (told r f numbers near f.cells) placing → Told d before f.sent placing → Answered d l r before f (cells_in numbers) answer
answered d l r u before f numbers answer near (Ok placing) mode is told =
    record { what = _; accepted = is; told = told; mode = mode; station = refl; mis = refl; tis = refl }
answered d l r u before f numbers answer near (Err x) mode is told = let no = told.accepted in cc

module _ (d : ℕ) (e₀ : ExciterState) (r₀ : ReceiverState) (l : Line) (ear : Mending) (blocks : Blocks l) (begins : Known l ear e₀.line r₀.line r₀.ear [] []) (promise : Promise d e₀.sender r₀.collector) where
  module _ (e : ExciterState) (r : ReceiverState) (h : RadioHistory) (run : RadioRun e₀ r₀ e r h) where
    abbrev g : Lifted e₀ r₀ l ear e r h
    g = lifted e₀ r₀ l ear blocks begins run

    sends : SendsFrames d e₀.line h
    sends = record {
      packets = g.1.packets;
      frames = λ f i. (subst (λ x. Sound x f) (sym begins.exciter_line) (g.1.frames f i)).frame;
      pieces = (promise e.sender r.collector h.packets g.0).0;
    }

    takes : TakesFrames d e₀.line r h
    takes f may numbers near u answer step =
        let same = sym g.1.receiver_line in
        let took = taken r u f numbers answer (subst Blocks same blocks) (subst (λ x. Sound x f) same (g.1.frames f may.0)) near step in
        answered d e₀.line r u h.packets.taken f numbers answer near _
        (ap (λ x. x.mode) (begins.exciter_line ∙ same) ∙ near.has_mode)
        took.answers
        ((promise e.sender r.collector h.packets g.0).1 f.sent may.1 u.collector _ took.packet)

  pub promised : RunsPromise d e₀ r₀
  promised e r h run =
      (sends e r h run, takes e r h run, (promise e.sender r.collector h.packets (lifted e₀ r₀ l ear blocks begins run).0).2)

-- lines are the same where their data codes and their line-ups are alike, on one channel
pub same_line : {mis tis : List ℕ → List ℕ} {p q r : Order → List Bool → Cell} {w v : List Bool → List Bool} {k i n j : ℕ} {m o : Option Mode} {plan kinds : List CellKind} {block size : ℕ}
    → v ≡ w → i ≡ k → j ≡ n → o ≡ m → kinds ≡ plan → size ≡ block
    → line (sending mis tis v p q r i j) o kinds size ≡ line (sending mis tis w p q r k n) m plan block
same_line a b c d e f = cc

-- what a line-up holds has the block of its mode
pub blocks_held : (mode : Option Mode) (plan : List CellKind) (shape : Shape) (exponents : List ℤ) (k : ℕ) → k ≡ shape.columns * shape.lift
    → (m : Mode) → mode ≡ Some m → block_length_of m k ≡ block_length (held mode plan shape exponents)
blocks_held mode plan shape exponents k long m e =
    subst (λ o. block_length_of m k ≡ block_length (held o plan shape exponents)) (sym e) (ap (λ x. words_of m * x / 8) long)

-- the promise on a new exciter and a new receiver on one line-up
pub runs_promised : (l : Line) (ear : Mending) (e₀ : ExciterState) (r₀ : ReceiverState) → e₀ ≡ new_exciter l → r₀ ≡ new_receiver l ear → Blocks l → RunsPromise (piece_length_of (l.block - 6)) e₀ r₀
runs_promised l ear e₀ r₀ e f blocks =
    promised (piece_length_of (l.block - 6)) e₀ r₀ l ear blocks
    (record {
      exciter_line = ap (λ x. x.line) e;
      receiver_line = ap (λ x. x.line) f;
      ear_is = ap (λ x. x.ear) f;
      packets = refl;
      frames = λ x i. absurd i;
    })
    (pair_promised (l.block - 6) e₀.sender r₀.collector (ap (λ x. x.sender) e) (ap (λ x. x.collector) f))
