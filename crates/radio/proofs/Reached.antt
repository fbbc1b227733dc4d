-- Cells within reach of a sent frame have an answer: what that frame states. Assumes nothing.
use Rattle.std.proofs.Common.{◌≡◌, ℕ, ◌*◌, ◌<◌, ◌≤◌, Bool, false, List, length, take, Some, Ok, sym, refl, ap, ◌∙◌, subst, arith}
use Rattle.std.proofs.lemmas.Bool.{le-ltb}
use Rattle.codes.specs.Symbols.{Below128, bit_number, differing}
use Rattle.codes.proofs.Mends.{one_within}
use Rattle.bits.specs.Bits.{spread}
use Rattle.bits.specs.Scrambling.{scrambled}
use Rattle.bits.proofs.Bits.{cut-below_128, length_cut}
use Rattle.cells.specs.Cells.{cell_bits}
use Rattle.cells.specs.declared.cell.Cell.{Cell}
use Rattle.lineup.specs.Layouts.{Roomy, block_length_of, kind_count, words_of}
use Rattle.lineup.specs.Stated.{stated_tis}
use Rattle.lineup.specs.declared.kind.CellKind.{CellKind}
use Rattle.lineup.specs.declared.kind.CellKind.TheVariants.{Data}
use Rattle.lineup.specs.declared.mode.Mode.{Mode}
use Rattle.modem.specs.Carrying.{record_of}
use Rattle.modem.specs.TisStream.{tis_message}
use Rattle.modem.proofs.Carries.{record_back}
use Rattle.modes.specs.declared.station.Station.{Station}
use Rattle.modes.specs.declared.station.Tis.{Tis}
use Rattle.packets.specs.Packets.{Content, Fits, block_of, packet_in, wrong_size}
use Rattle.packets.proofs.Exact.{exact}
use Rattle.streams.specs.Tis.{length-tis_fields, tis_fields, tis_record, tis_stated}
use Rattle.streams.proofs.RecordLaws.{fields_front, length-with_check}
use Rattle.streams.proofs.TisLaws.{tis_stated_back}
use Rattle.frames.specs.Frames.{Sending, data_order, frame_of}
use Rattle.frames.specs.Laying.{picked}
use Rattle.frames.specs.Reading.{FrameAnswer, Mending, ReadsSent, Told, WithinReach, data_stream, mis_symbols, tis_symbols, wrong_mis, wrong_tis}
use Rattle.frames.specs.Words.{part}
use Rattle.frames.proofs.BlockSent.{block_forth}
use Rattle.frames.proofs.FrameAnswers.{block_octets, block_size, has_frame}
use Rattle.frames.proofs.OnPlans.{length_picked}
use Rattle.frames.proofs.OnStreams.{length-decided, words_enough}
use Rattle.frames.proofs.FrameAnswers.{Known}
use Rattle.frames.proofs.Sent.{message_bits, mis_word_sent, part_sent, tis_word_sent}
use Rattle.frames.proofs.Within.{one_words, words_sent}
use Rattle.radio.specs.Lines.{Line}
use Rattle.radio.specs.ReceiverCalls.{Reads}

-- a message of the TIS states one thing
tis_size : (t : Tis) → length (tis_record t) ≡ 9 * 7
tis_size t = omega (arith, length-with_check (tis_fields t), length-tis_fields t)

fields_size : (t : Tis) → length (tis_fields t) ≡ 55
fields_size t = omega (arith, length-tis_fields t)

one_tis : (a b : Tis) → tis_message a ≡ tis_message b → a ≡ b
one_tis a b e =
    let whole : tis_record a ≡ tis_record b =
    sym (record_back 9 (tis_record a) (tis_size a)) ∙ ap record_of e ∙ record_back 9 (tis_record b) (tis_size b) in
    let fields : tis_fields a ≡ tis_fields b =
    sym (fields_front (tis_fields a) 55 (fields_size a)) ∙ ap (take 55) whole ∙ fields_front (tis_fields b) 55 (fields_size b) in
    let stated = sym (tis_stated_back a) ∙ ap tis_stated fields ∙ tis_stated_back b in
    cc

-- a block holds one packet
sized_right : (size : ℕ) → 7 ≤ size → size ≤ 1440 → wrong_size size ≡ false
sized_right size least most = rw (le-ltb size 7 least, le-ltb 1440 size most) refl

one_packet : (size : ℕ) (a b : Content) → Fits size a → Fits size b → block_of size a ≡ block_of size b → a ≡ b
one_packet size a b p q e =
    let long = block_size size a p in
    let reads = exact (block_of size a) (block_octets size a) (rw long (sized_right size p.least p.most)) in
    let first : packet_in (block_of size a) ≡ Some a = (reads a).1 (rw long p) (rw long refl) in
    let second : packet_in (block_of size a) ≡ Some b = (reads b).1 (rw long q) (rw long e) in
    cc

-- words of different messages are too far apart for both to be within reach
pub record Apart (s : Sending) (m : Mending) : Type 0 where
  pub tis_distance : ℕ
  pub tis_distant : (a b : List ℕ) → length a ≡ 9 → length b ≡ 9 → Below128 (λ (x : ℕ). x) a → Below128 (λ (x : ℕ). x) b → differing (λ (x : ℕ). x) (s.tis_word a) (s.tis_word b) < tis_distance → a ≡ b
  pub tis_unique : 2 * m.tis_reach < tis_distance
  pub data_distance : ℕ
  pub data_distant : (a b : List Bool) → length a ≡ s.k → length b ≡ s.k → Below128 bit_number a → Below128 bit_number b → differing bit_number (s.data_word a) (s.data_word b) < data_distance → a ≡ b
  pub data_unique : 2 * m.data_reach < data_distance

-- what a frame states, and in how many places some cells differ from it
abbrev pub stating : Sending → Mending → List CellKind → Mode → List Cell → Station → Content → Told
stating s m plan mode cells station packet = record {
  stated = record { mode = mode; station = station; packet = packet };
  mis_mended = wrong_mis m plan mode (frame_of s plan mode station packet) cells;
  tis_mended = wrong_tis m plan mode (frame_of s plan mode station packet) cells;
}

module _ (s : Sending) (m : Mending) (known : Known s m) (apart : Apart s m) (plan : List CellKind) (mode : Mode) (roomy : Roomy mode plan s.k s.n) (cells : List Cell) (long : length cells ≡ length plan) where
  abbrev size : ℕ
  size = block_length_of mode s.k

  -- what states a frame within reach is an answer
  answers : (station : Station) (packet : Content) → Fits size packet → WithinReach m plan mode s.n (frame_of s plan mode station packet) cells → FrameAnswer s m plan mode cells (Ok (stating s m plan mode cells station packet))
  answers station packet fits near =
      let block = block_of size packet in
      let mis = mis_word_sent s m plan mode station block known.mis roomy.mis in
      let tis = tis_word_sent s m plan mode station block known.tis roomy.tis in
      let sized = block_size size packet fits in (
        refl,
        record {
          size = length_cut 7 2 _;
          below = cut-below_128 2 _;
          places = ap (λ l. differing (λ (x : ℕ). x) l (mis_symbols m plan mode cells)) (sym mis);
          near = near.mis;
        },
        record {
          size = length_cut 7 9 _;
          below = cut-below_128 9 _;
          places = ap (λ l. differing (λ (x : ℕ). x) l (tis_symbols m plan mode cells)) (sym tis);
          near = near.tis;
        },
        fits,
        words_sent s.data_word m.data_reach s.k s.n known.«data».sized (words_of mode) (data_stream m plan mode cells) (scrambled 0 (spread 8 block))
            (message_bits s m plan mode station block known.«data» roomy sized)
            (λ i l. subst (λ (x : ℕ). x ≤ m.data_reach) (ap (λ w. differing bit_number w (part s.n i (data_stream m plan mode cells))) (part_sent s m plan mode station block known.«data» roomy sized i l)) (near.words i l)),
      )

  room : words_of mode * s.n ≤ length (data_stream m plan mode cells)
  room =
      let o = data_order mode.«data» in
      let bits = length-decided (m.data_decided o) (cell_bits o) (known.«data».bits o) (picked Data plan cells) in
      let count = length_picked Data plan cells long in
      rw (bits, count) (words_enough mode.«data» s.n (kind_count Data plan) roomy.pairs roomy.«data»)

  -- and the only one
  module _ (station other : Station) (packet another : Content) (fits : Fits size packet) (fits_also : Fits size another)
      (near : WithinReach m plan mode s.n (frame_of s plan mode station packet) cells) (near_also : WithinReach m plan mode s.n (frame_of s plan mode other another) cells) where
    same_station : station ≡ other
    same_station =
        let message =
        one_within (λ (x : ℕ). x) 9 29 apart.tis_distance m.tis_reach s.tis_word known.tis.sized apart.tis_distant apart.tis_unique (tis_symbols m plan mode cells)
        (tis_message (stated_tis mode station)) (tis_message (stated_tis mode other)) _ _ (length_cut 7 29 _)
        (answers station packet fits near).2 (answers other another fits_also near_also).2 in
        ap (λ t. t.station) (one_tis (stated_tis mode station) (stated_tis mode other) message)

    same_packet : packet ≡ another
    same_packet =
        let first = block_of size packet in
        let second = block_of size another in
        let messages =
        one_words s.data_word m.data_reach s.k s.n known.«data».sized apart.data_distance apart.data_distant apart.data_unique (words_of mode) (data_stream m plan mode cells)
        (scrambled 0 (spread 8 first)) (scrambled 0 (spread 8 second)) room
        (message_bits s m plan mode station first known.«data» roomy (block_size size packet fits)) (message_bits s m plan mode other second known.«data» roomy (block_size size another fits_also))
        (answers station packet fits near).4 (answers other another fits_also near_also).4 in
        one_packet size packet another fits fits_also
        (sym (block_forth size (scrambled 0 (spread 8 first)) first (block_size size packet fits) (block_octets size packet) refl)
        ∙ block_forth size (scrambled 0 (spread 8 first)) second (block_size size another fits_also) (block_octets size another) messages)

    same_told : stating s m plan mode cells station packet ≡ stating s m plan mode cells other another
    same_told =
        ap (λ x. stating s m plan mode cells x packet) same_station ∙ ap (stating s m plan mode cells other) same_packet

  reads_sent : (station : Station) (packet : Content) → Fits size packet → WithinReach m plan mode s.n (frame_of s plan mode station packet) cells → ReadsSent s m plan mode cells (Ok (stating s m plan mode cells station packet))
  reads_sent station packet fits near other another fits_also near_also =
      ap Ok (same_told station other packet another fits fits_also near near_also)

-- cells within reach of a frame are read as what that states
pub reads_near : (l : Line) (m : Mending) → Known l.air m → Apart l.air m → (mode : Mode) → Roomy mode l.plan l.air.k l.air.n → (cells : List Cell) → length cells ≡ length l.plan
    → (station : Station) (packet : Content) → Fits (block_length_of mode l.air.k) packet → WithinReach m l.plan mode l.air.n (frame_of l.air l.plan mode station packet) cells
    → Reads l m mode cells (Ok (stating l.air m l.plan mode cells station packet))
reads_near l m known apart mode roomy cells long station packet fits near =
    let answer = answers l.air m known apart l.plan mode roomy cells long station packet fits near in
    record {
      answered = answer;
      as_sent = reads_sent l.air m known apart l.plan mode roomy cells long station packet fits near;
      has_frame = has_frame l.air m known l.plan mode roomy cells _ answer;
    }
