-- A run of frames is a run of packets: cells within reach of a sent frame bring that frame's packet.
use Rattle.std.proofs.Common.{◌≡◌, ℕ, ◌⊎◌, Bool, true, false, List, [], ◌∷◌, length, map, ℤ, Some, None, Ok, Err, Option, Result, sym, refl, ap, ◌∙◌, subst, inl, inr}
use Rattle.refusals.specs.declared.Refusal.{Refusal}
use Rattle.cells.specs.declared.cell.Cell.{Cell}
use Rattle.frames.specs.Frames.{frame_of}
use Rattle.frames.specs.Laying.{cells_in, numbers_of}
use Rattle.frames.specs.Reading.{Mending, Told, WithinReach, wrong_mis, wrong_tis}
use Rattle.lineup.specs.Layouts.{block_length_of}
use Rattle.lineup.specs.declared.mode.Mode.{Mode}
use Rattle.messages.specs.CollectorCalls.{Taking}
use Rattle.messages.specs.Histories.{In, Run, Sent, start as begin, load as load_message, clear as clear_message, clear_refused, take_sent as take_packet, take_refused as take_refused_packet}
use Rattle.messages.specs.SenderCalls.{SenderState, is_loaded, load_refusal, loaded, next_packet}
use Rattle.messages.specs.declared.content.Placing.{Placing}
use Rattle.messages.proofs.Runs.{next_run}
use Rattle.modes.specs.declared.station.Station.{Station}
use Rattle.packets.specs.Packets.{Content, Fits}
use Rattle.radio.specs.ExciterCalls.{ExciterState, NextFrame, first_of_load, first_of_send}
use Rattle.radio.specs.Lines.{Line, paired}
use Rattle.radio.specs.Promise.{IsFrame}
use Rattle.radio.specs.ReceiverCalls.{HearsLine, HearsSlice, ReceiverState, Takes, TakesHeard, read_as, taken_as, with_collector}
use Rattle.radio.specs.Runs.{Aired, Near, RadioHistory, RadioRun, start, station, load, load_refused, send, send_refused, clear, take_sent, take_refused, fetch, next_sent, placing_of, with_load, with_send, with_take}
use Rattle.radio.specs.declared.answer.Taken.{Taken}

-- the cells of the numbers of some cells are these cells
pub cells_back : (cells : List Cell) → cells_in (numbers_of cells) ≡ cells
unfolding cells_in
cells_back [] = refl
cells_back (x ∷ xs) = ap (λ l. x ∷ l) (cells_back xs)

-- a sent frame is that of its packet, which fits
pub record Sound (l : Line) (f : Aired) : Type 0 where
  pub frame : IsFrame l f
  pub fits : Fits l.block f.sent.packet

load_passes : (o : Option Mode) (s : SenderState) (n : ℕ) → first_of_load o s n ≡ None → load_refusal s.progress s.piece_length n ≡ None
load_passes None s n e = cc
load_passes (Some m) s n e = e

send_loaded : (o : Option Mode) (b : Bool) (x : Option Station) (two : Bool) → first_of_send o b x two ≡ None → b ≡ true
send_loaded None b x two e = cc
send_loaded (Some m) false x two e = cc
send_loaded (Some m) true x two e = refl

placing_back : (t : Told) (p : Result Placing Refusal) → placing_of (taken_as t p) ≡ p
placing_back t (Ok p) = refl
placing_back t (Err e) = refl

same_mode : (m n : Mode) → Some m ≡ Some n → m ≡ n
same_mode m n e = cc

-- the block of the mode is the block of the line
abbrev pub Blocks : Line → Type 0
Blocks l = (m : Mode) → l.mode ≡ Some m → block_length_of m l.air.k ≡ l.block

-- what is read of a frame's cells where they were sent as these
abbrev pub told : (r : ReceiverState) (f : Aired) (numbers : List ℤ) → Near r f numbers → List Cell → Told
told r f numbers near sent = record {
  stated = record { mode = near.mode; station = f.station; packet = f.sent.packet };
  mis_mended = wrong_mis r.ear r.line.plan near.mode sent (cells_in numbers);
  tis_mended = wrong_tis r.ear r.line.plan near.mode sent (cells_in numbers);
}

-- cells within reach of a sent frame are read as it
module _ (r u : ReceiverState) (f : Aired) (numbers : List ℤ) (answer : Result Taken Refusal) (blocks : Blocks r.line) (sound : Sound r.line f) (near : Near r f numbers) (step : Takes r u numbers answer) where
  -- the packet is given to the collector, and the answer is by what became of it
  pub record TookFrame : Type 0 where
    pub packet : Taking r.collector u.collector f.sent.packet (placing_of answer)
    pub state : u ≡ with_collector r u.collector
    pub answers : answer ≡ taken_as (told r f numbers near f.cells) (placing_of answer)

  cells_are : f.cells ≡ frame_of r.line.air r.line.plan near.mode f.station f.sent.packet
  cells_are =
      sound.frame.is_frame
      ∙ ap (λ m. frame_of r.line.air r.line.plan m f.station f.sent.packet) (same_mode sound.frame.mode near.mode (sym sound.frame.has_mode ∙ near.has_mode))

  slice : HearsSlice true near.mode r numbers step.0
  slice =
      subst (λ b. HearsSlice b near.mode r numbers step.0) near.two
      (subst (λ o. HearsLine o r numbers step.0) near.has_mode step.1.hears)

  read : slice.0 ≡ Ok (told r f numbers near f.cells)
  read =
      subst (λ x. slice.0 ≡ Ok (told r f numbers near x)) (sym cells_are)
      (slice.1.as_sent f.station f.sent.packet
      (subst (λ b. Fits b f.sent.packet) (sym (blocks near.mode near.has_mode)) sound.fits)
      (subst (λ x. WithinReach r.ear r.line.plan near.mode r.line.air.n x (cells_in numbers)) cells_are near.within))

  pub taken : TookFrame
  taken =
      let took = subst (λ x. TakesHeard r u x answer) (slice.2 ∙ ap read_as read) step.2 in
      let what : placing_of answer ≡ took.0 = ap placing_of took.3 ∙ placing_back (told r f numbers near f.cells) took.0 in
      let same = sym what in
      record {
        packet = subst (λ x. Taking r.collector u.collector f.sent.packet x) same took.1;
        state = took.2;
        answers = subst (λ x. answer ≡ taken_as (told r f numbers near f.cells) x) same took.3;
      }

-- a take that is refused leaves everything as it was, or its packet is refused
abbrev pub Refused : ReceiverState → ReceiverState → Type 0
Refused r u =
    (u ≡ r) ⊎ ((p : Content) × (x : Refusal) × Taking r.collector u.collector p (Err x) × (u ≡ with_collector r u.collector))

module _ (r u : ReceiverState) (x : Refusal) where
  refused_as : (got : Told) (placing : Result Placing Refusal) → Taking r.collector u.collector got.stated.packet placing → u ≡ with_collector r u.collector → Err x ≡ taken_as got placing → Refused r u
  refused_as got (Ok p) step e q = cc
  refused_as got (Err y) step e q = inr (got.stated.packet, y, step, e)

  refused_heard : (heard : Result Told Refusal) → TakesHeard r u heard (Err x) → Refused r u
  refused_heard (Ok got) step = refused_as got step.0 step.1 step.2 step.3
  refused_heard (Err e) step = inl step.1

-- what is known of the line-ups and of the sent frames after a run, whatever else the calls change
pub record Known (l : Line) (ear : Mending) (exciter receiver : Line) (hears : Mending) (sent : List Sent) (aired : List Aired) : Type 0 where
  pub exciter_line : exciter ≡ l
  pub receiver_line : receiver ≡ l
  pub ear_is : hears ≡ ear
  pub packets : sent ≡ map (λ f. f.sent) aired
  pub frames : (f : Aired) → In f aired → Sound l f

module _ (e₀ : ExciterState) (r₀ : ReceiverState) (l : Line) (ear : Mending) where
  -- a run of frames is a run of packets
  abbrev pub Lifted : ExciterState → ReceiverState → RadioHistory → Type 0
  Lifted e r h =
      Run e₀.sender r₀.collector e.sender r.collector h.packets
      × Known l ear e.line r.line r.ear h.packets.sent h.aired

  refused_run : (e : ExciterState) (r u : ReceiverState) (h : RadioHistory) → Lifted e r h → Refused r u → Lifted e u h
  refused_run e r u h g (inl q) = subst (λ x. Lifted e x h) (sym q) g
  refused_run e r u h g (inr q) =
      subst (λ x. Lifted e x h) (sym q.3) (take_refused_packet g.0 q.0 u.collector q.1 q.2, g.1)

  -- a sent frame
  module _ (e : ExciterState) (r : Line) (hears : Mending) (h : RadioHistory) (numbers : List ℤ) (next : NextFrame e numbers) (known : Known l ear e.line r hears h.packets.sent h.aired) where
    abbrev new : Aired
    new = record { sent = next_sent h.packets (next_packet e.sender); station = next.station; cells = cells_in numbers }

    sound : Sound l new
    sound = subst (λ x. Sound x new) known.exciter_line (record {
      frame = record { mode = next.mode; has_mode = next.has_mode; is_frame = ap cells_in next.is_frame ∙ cells_back _ };
      fits = next.fits;
    })

    sound_frames : (f : Aired) → In f (new ∷ h.aired) → Sound l f
    sound_frames f (inl e) = subst (Sound l) e sound
    sound_frames f (inr i) = known.frames f i

    sent_known : Known l ear e.line r hears (new.sent ∷ h.packets.sent) (new ∷ h.aired)
    sent_known = record {
      exciter_line = known.exciter_line;
      receiver_line = known.receiver_line;
      ear_is = known.ear_is;
      packets = ap (λ xs. new.sent ∷ xs) known.packets;
      frames = sound_frames;
    }

  module _ (blocks : Blocks l) (begins : Known l ear e₀.line r₀.line r₀.ear [] []) where
    pub lifted : {e : ExciterState} {r : ReceiverState} {h : RadioHistory} → RadioRun e₀ r₀ e r h → Lifted e r h
    lifted start = (begin, begins)
    lifted (station {e} {r} {h} run a b c d t (Ok done) step) = subst (λ x. Lifted x r h) (sym step.2) (lifted run)
    lifted (station {e} {r} {h} run a b c d t (Err x) step) = subst (λ y. Lifted y r h) (sym step.2) (lifted run)
    lifted (load {e} {r} {h} run m t step) =
        let g = lifted run in
        let may = load_passes e.line.mode e.sender (length m) step.0 in
        subst (λ x. Lifted x r (with_load h m)) (sym step.1) (load_message g.0 m (loaded e.sender m) (may, refl), g.1)
    lifted (load_refused {e} {r} {h} run m t x step) = subst (λ y. Lifted y r h) (sym step.1) (lifted run)
    lifted (send {e} {r} {h} run xs ys t step) =
        let g = lifted run in
        let loads = send_loaded e.line.mode (is_loaded e.sender.progress) e.station (paired e.line (length xs)) step.0 in
        subst (λ x. Lifted x r (with_send h (next_packet e.sender) step.1.station (cells_in ys))) (sym step.2)
        (next_run g.0 loads, sent_known e r.line r.ear h ys step.1 g.1)
    lifted (send_refused {e} {r} {h} run xs ys t x step) = subst (λ y. Lifted y r h) (sym step.1) (lifted run)
    lifted (clear {e} {r} {h} run t (Ok done) step) =
        let g = lifted run in
        subst (λ x. Lifted x r h) (sym step.1) (clear_message g.0 t.sender step.0, g.1)
    lifted (clear {e} {r} {h} run t (Err x) step) =
        let g = lifted run in
        subst (λ x. Lifted x r h) (sym step.1) (clear_refused g.0 t.sender x step.0, g.1)
    lifted (take_sent {e} {r} {h} run f may numbers near u answer step) =
        let g = lifted run in
        let took = taken r u f numbers answer (subst Blocks (sym g.1.receiver_line) blocks) (subst (λ x. Sound x f) (sym g.1.receiver_line) (g.1.frames f may.0)) near step in
        subst (λ x. Lifted e x (with_take h f answer)) (sym took.state) (take_packet g.0 f.sent may.1 u.collector (placing_of answer) took.packet, g.1)
    lifted (take_refused {e} {r} {h} run numbers u x step) =
        refused_run e r u h (lifted run) (refused_heard r u x step.0 step.2)
    lifted (fetch run xs ys answer step) = lifted run
