-- A run that is reported complete: a message in two pieces is loaded, sent and taken.
use Rattle.std.proofs.Common.{◌≡◌, ℕ, suc, ◌+◌, ◌-◌, ◌*◌, ◌<◌, Bool, true, List, [], ◌∷◌, length, ℤ, Some, None, Ok, Result, sym, refl, ap, ◌∙◌, subst, inl, lit<, lit≤, mod-lt, arith}
use Rattle.std.proofs.lemmas.Bool.{eq-eqb}
use Rattle.refusals.specs.declared.Refusal.{Refusal}
use Rattle.codes.specs.SymbolsLemmas.{differing_self}
use Rattle.codes.specs.Symbols.{bit_number}
use Rattle.bits.proofs.ByteLaws.{below-drop, below-replicate, below-take}
use Rattle.cells.specs.declared.cell.Cell.{Cell}
use Rattle.frames.specs.Frames.{frame_of}
use Rattle.frames.specs.Laying.{cells_in, laid, left, numbers_of}
use Rattle.frames.specs.Reading.{Mending, WithinReach, mis_symbols, tis_symbols, data_stream}
use Rattle.frames.specs.Words.{part}
use Rattle.frames.proofs.FrameAnswers.{Known}
use Rattle.lineup.specs.Layouts.{Roomy, block_length_of}
use Rattle.lineup.specs.declared.kind.CellKind.{CellKind}
use Rattle.lineup.specs.declared.kind.CellKind.TheVariants.{Mis, Tis, Data}
use Rattle.lineup.specs.declared.mode.Mode.{Mode}
use Rattle.messages.specs.CollectorCalls.{CollectorState, new_collector}
use Rattle.messages.specs.Histories.{Due, Took}
use Rattle.messages.specs.Packets.{packet_of}
use Rattle.messages.specs.Pieces.{piece_count, piece_length_of}
use Rattle.messages.specs.Promise.{LastOutstanding}
use Rattle.messages.specs.SenderCalls.{SenderState, advanced, is_loaded, loaded, new_sender, next_packet}
use Rattle.messages.specs.declared.content.Placing.TheVariants.{Complete}
use Rattle.messages.proofs.Cutting.{length-piece, starts_within}
use Rattle.messages.proofs.TwoPieces.{collects, due_first, due_second, long_message, may_load, in_two_pieces, long_size, second_is_last}
use Rattle.modes.specs.declared.station.Station.{Station}
use Rattle.packets.specs.Packets.{Content, Fits}
use Rattle.radio.specs.ExciterCalls.{ExciterState, Loads, Sends, new_exciter, send_refusal}
use Rattle.radio.specs.Lines.{Line, paired}
use Rattle.radio.specs.Promise.{RunsPromise, RunsShown}
use Rattle.radio.specs.ReceiverCalls.{HearsLine, HearsSlice, ReceiverState, Takes, new_receiver, taken_as}
use Rattle.radio.specs.Runs.{Aired, Near, RadioHistory, RadioRun, load, next_sent, no_history, placing_of, send, start, station, take_sent, with_load, with_send, with_take}
use Rattle.radio.specs.declared.answer.Taken.{Taken}
use Rattle.radio.proofs.Reached.{Apart, reads_near, stating}
use Rattle.radio.proofs.RunsLift.{cells_back}

length-laid : (plan : List CellKind) (m t d : List Cell) → length (laid plan m t d) ≡ length plan
unfolding laid
length-laid [] m t d = refl
length-laid (kind ∷ plan) m t d = ap suc (length-laid plan (left Mis kind m) (left Tis kind t) (left Data kind d))

length-numbers : (cells : List Cell) → length (numbers_of cells) ≡ 2 * length cells
length-numbers [] = refl
length-numbers (x ∷ xs) = omega (arith, length-numbers xs)

-- a station record
abbrev first_station : Station
first_station =
    record { number = 0; hour = 0; minute = 0; duration = 0; allowed = (lit≤ tt, lit≤ tt, lit≤ tt, lit≤ tt) }

module _ (l : Line) (ear : Mending) (mode : Mode) (has_mode : l.mode ≡ Some mode) (blocks : block_length_of mode l.air.k ≡ l.block)
    (known : Known l.air ear) (apart : Apart l.air ear) (roomy : Roomy mode l.plan l.air.k l.air.n) where
  -- the two in the midst of a run
  abbrev sender : SenderState → ExciterState
  sender s = record { line = l; station = Some first_station; sender = s }

  abbrev receiver : CollectorState → ReceiverState
  receiver c = record { line = l; ear = ear; collector = c }

  abbrev frame : Content → List Cell
  frame p = frame_of l.air l.plan mode first_station p

  abbrev numbers : Content → List ℤ
  numbers p = numbers_of (frame p)

  long : (p : Content) → length (numbers p) ≡ 2 * length l.plan
  long p = length-numbers (frame p) ∙ ap (λ n. 2 * n) (length-laid l.plan _ _ _)

  two : (p : Content) → paired l (length (numbers p)) ≡ true
  two p = eq-eqb (length (numbers p)) (2 * length l.plan) (long p)

  may_send : (s : SenderState) → is_loaded s.progress ≡ true → send_refusal (sender s) (length (numbers (next_packet s))) ≡ None
  may_send s loads = rw (has_mode, loads, two (next_packet s)) refl

  abbrev sends : (s : SenderState) → is_loaded s.progress ≡ true → Fits l.block (next_packet s) → Sends (sender s) (sender (advanced s)) (numbers (next_packet s)) (numbers (next_packet s)) (Ok tt)
  sends s loads fits = (
    may_send s loads,
    record { mode = mode; station = first_station; has_mode = has_mode; has_station = refl; is_frame = refl; fits = fits },
    refl,
  )

  -- cells that are taken as they were sent
  unmoved : (cells : List Cell) → WithinReach ear l.plan mode l.air.n cells cells
  unmoved cells = record {
    mis = omega (arith, differing_self (λ (x : ℕ). x) (mis_symbols ear l.plan mode cells));
    tis = omega (arith, differing_self (λ (x : ℕ). x) (tis_symbols ear l.plan mode cells));
    words = λ i h. omega (arith, differing_self bit_number (part l.air.n i (data_stream ear l.plan mode cells)));
  }

  near : (c : CollectorState) (f : Aired) (p : Content) → f.cells ≡ cells_in (numbers p) → Near (receiver c) f (numbers p)
  near c f p e = record {
    mode = mode;
    has_mode = has_mode;
    two = two p;
    within = subst (λ x. WithinReach ear l.plan mode l.air.n x (cells_in (numbers p))) (sym e) (unmoved (cells_in (numbers p)));
  }

  takes : (c : CollectorState) (p : Content) → Fits l.block p → (u : CollectorState) × (answer : Result Taken Refusal) × Takes (receiver c) (receiver u) (numbers p) answer
  takes c p fits =
      let cells = cells_in (numbers p) in
      let sized : length cells ≡ length l.plan = ap length (cells_back (frame p)) ∙ length-laid l.plan _ _ _ in
      let told = stating l.air ear l.plan mode cells first_station p in
      let within = subst (λ x. WithinReach ear l.plan mode l.air.n x cells) (cells_back (frame p)) (unmoved cells) in
      let reads = reads_near l ear known apart mode roomy cells sized first_station p (subst (λ b. Fits b p) (sym blocks) fits) within in
      let t = collects c p in
      let answer = taken_as told t.1 in (
        t.0,
        answer,
        (
          Ok told,
          record {
            hears =
                subst (λ o. HearsLine o (receiver c) (numbers p) (Ok told)) (sym has_mode)
                (subst (λ b. HearsSlice b mode (receiver c) (numbers p) (Ok told)) (sym (two p)) (Ok told, reads, refl));
          },
          (t.1, t.2, refl, refl),
        ),
      )

  abbrev d : ℕ
  d = piece_length_of (l.block - 6)

  abbrev message : List ℕ
  message = long_message (l.block - 6)

  pieces : piece_count d (length message) ≡ 2
  pieces = in_two_pieces (l.block - 6)

  -- each of its packets fits
  fits_piece : (toggle : Bool) (i : ℕ) → i < piece_count d (length message) → Fits l.block (packet_of d message toggle i)
  fits_piece toggle i h =
      let least = roomy.least in
      let most = roomy.most in
      let long = length-piece d i message in
      let sized = long_size (l.block - 6) in
      let starts = starts_within d (omega arith) (length message) i h in
      record {
        least = omega (arith, blocks);
        most = omega (arith, blocks);
        numbered = omega (arith, pieces);
        some = omega arith;
        within = omega (arith, blocks);
        octets = below-take 256 d _ (below-drop 256 (i * d) message (below-replicate 256 (d + 1) 7 (lit< tt)));
      }

  abbrev s₀ : SenderState
  s₀ = new_sender (l.block - 6)

  abbrev s₁ : SenderState
  s₁ = loaded s₀ message

  abbrev s₂ : SenderState
  s₂ = advanced s₁

  loads : Loads (sender s₀) (sender s₁) message (Ok tt)
  loads = (rw has_mode (may_load (l.block - 6)), refl)

  abbrev p₀ : Content
  p₀ = next_packet s₁

  abbrev p₁ : Content
  p₁ = next_packet s₂

  fits₀ : Fits l.block p₀
  fits₀ = fits_piece _ 0 (omega (arith, pieces))

  fits₁ : Fits l.block p₁
  fits₁ = fits_piece _ _ (mod-lt 1 (omega (arith, pieces)))

  module _ (promise : RunsPromise d (new_exciter l) (new_receiver l ear)) where
    abbrev e₀ : ExciterState
    e₀ = new_exciter l

    abbrev r₀ : ReceiverState
    r₀ = new_receiver l ear

    abbrev c₀ : CollectorState
    c₀ = new_collector (l.block - 6)

    abbrev h₁ : RadioHistory
    h₁ = with_load no_history message

    run₁ : RadioRun e₀ r₀ (sender s₁) r₀ h₁
    run₁ =
        load (station start 0 0 0 0 (sender s₀) (Ok tt) (first_station, (refl, refl, refl, refl), refl)) message (sender s₁) loads

    abbrev f₀ : Aired
    f₀ = record { sent = next_sent h₁.packets p₀; station = first_station; cells = cells_in (numbers p₀) }

    abbrev h₂ : RadioHistory
    h₂ = with_send h₁ p₀ first_station f₀.cells

    run₂ : RadioRun e₀ r₀ (sender s₂) r₀ h₂
    run₂ = send run₁ (numbers p₀) (numbers p₀) (sender s₂) (sends s₁ refl fits₀)

    abbrev c₁ : CollectorState
    c₁ = (takes c₀ p₀ fits₀).0

    abbrev a₀ : Result Taken Refusal
    a₀ = (takes c₀ p₀ fits₀).1

    abbrev t₀ : Took
    t₀ = record { what = f₀.sent; answer = placing_of a₀ }

    abbrev h₃ : RadioHistory
    h₃ = with_take h₂ f₀ a₀

    run₃ : RadioRun e₀ r₀ (sender s₂) (receiver c₁) h₃
    run₃ = take_sent run₂ f₀ (inl refl, due_first f₀.sent) (numbers p₀) (near c₀ f₀ p₀ refl) (receiver c₁) a₀ (takes c₀ p₀ fits₀).2

    abbrev f₁ : Aired
    f₁ = record { sent = next_sent h₃.packets p₁; station = first_station; cells = cells_in (numbers p₁) }

    abbrev h₄ : RadioHistory
    h₄ = with_send h₃ p₁ first_station f₁.cells

    run₄ : RadioRun e₀ r₀ (sender (advanced s₂)) (receiver c₁) h₄
    run₄ = send run₃ (numbers p₁) (numbers p₁) (sender (advanced s₂)) (sends s₂ refl fits₁)

    due₁ : Due (f₁.sent ∷ f₀.sent ∷ []) (t₀ ∷ []) f₁.sent
    due₁ = due_second f₀.sent f₁.sent refl refl refl t₀.answer

    last₁ : LastOutstanding d (t₀ ∷ []) f₁.sent
    last₁ = second_is_last f₀.sent f₁.sent refl refl refl t₀.answer d pieces pieces

    abbrev c₂ : CollectorState
    c₂ = (takes c₁ p₁ fits₁).0

    abbrev a₁ : Result Taken Refusal
    a₁ = (takes c₁ p₁ fits₁).1

    complete : placing_of a₁ ≡ Ok Complete
    complete =
        let answered = (promise (sender (advanced s₂)) (receiver c₁) h₄ run₄).1 f₁ (inl refl, due₁) (numbers p₁) (near c₁ f₁ p₁ refl) (receiver c₂) a₁ (takes c₁ p₁ fits₁).2 in
        ap placing_of answered.accepted ∙ answered.told.last_is last₁

    pub shown : RunsShown d e₀ r₀
    shown = record {
      e = sender (advanced s₂);
      r = receiver c₂;
      h = with_take h₄ f₁ a₁;
      run = take_sent run₄ f₁ (inl refl, due₁) (numbers p₁) (near c₁ f₁ p₁ refl) (receiver c₂) a₁ (takes c₁ p₁ fits₁).2;
      t = record { what = f₁.sent; answer = placing_of a₁ };
      was_taken = inl refl;
      two_pieces = pieces;
      is_complete = complete;
    }

-- there is such a run of a new exciter and a new receiver on one line-up that is filled
pub runs_shown : (l : Line) (ear : Mending) (e₀ : ExciterState) (r₀ : ReceiverState) → e₀ ≡ new_exciter l → r₀ ≡ new_receiver l ear
    → (mode : Mode) → l.mode ≡ Some mode → block_length_of mode l.air.k ≡ l.block → Known l.air ear → Apart l.air ear → Roomy mode l.plan l.air.k l.air.n
    → RunsPromise (piece_length_of (l.block - 6)) e₀ r₀ → RunsShown (piece_length_of (l.block - 6)) e₀ r₀
runs_shown l ear x y e f mode has_mode blocks known apart roomy promise =
    let d = piece_length_of (l.block - 6) in
    subst (λ i. RunsShown d i y) (sym e) (subst (λ j. RunsShown d (new_exciter l) j) (sym f)
    (shown l ear mode has_mode blocks known apart roomy
    (subst (λ j. RunsPromise d (new_exciter l) j) f (subst (λ i. RunsPromise d i y) e promise))))
