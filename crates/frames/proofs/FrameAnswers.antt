-- What is read of the streams is what is read of the frame. Assumes nothing.
use Rattle.std.proofs.Common.{◌≡◌, ℕ, ◌-◌, ◌<◌, List, length, Some, None, Ok, Err, Result, refl, sym, ap, ◌∙◌, subst, arith, lit<}
use Rattle.std.proofs.lemmas.List.{length-append, length-replicate}
use Rattle.codes.specs.Symbols.{bit_number, differing}
use Rattle.bits.specs.Bits.{AllBelow, spread}
use Rattle.bits.specs.Scrambling.{scrambled}
use Rattle.bits.proofs.Bits.{cut_below, length_cut}
use Rattle.bits.proofs.ByteLaws.{below-append, below-replicate}
use Rattle.cells.specs.declared.cell.Cell.{Cell}
use Rattle.cells.specs.declared.cell.Order.TheVariants.{Four}
use Rattle.lineup.specs.Layouts.{Roomy, block_length_of, words_of}
use Rattle.lineup.specs.Stated.{stated_mis, stated_tis}
use Rattle.lineup.specs.declared.kind.CellKind.{CellKind}
use Rattle.lineup.specs.declared.kind.CellKind.TheVariants.{Mis, Tis}
use Rattle.lineup.specs.declared.mode.Mode.{Mode}
use Rattle.modes.specs.declared.station.Station.{Station}
use Rattle.modem.specs.MisStream.{mis_cells}
use Rattle.modem.specs.Reading.{wrong_symbols}
use Rattle.modem.specs.TisStream.{tis_cells, tis_order}
use Rattle.modem.specs.declared.carrying.Reading.{Reading}
use Rattle.packets.specs.Packets.{Content, Fits, Reads, block_of, packet_bits, packet_bytes, packet_length}
use Rattle.frames.specs.Frames.{Sending, block_frame, data_bits, frame_of}
use Rattle.frames.specs.Laying.{picked}
use Rattle.frames.specs.Reading.{BlockAsSent, BlockWithin, FrameAnswer, HasFrame, Mending, ModeAsSent, ReadsSent, StationAsSent, Told, WithinReach, data_stream, mis_symbols, tis_symbols, wrong_mis, wrong_tis}
use Rattle.frames.specs.Words.{part, wrong_bits}
use Rattle.frames.specs.declared.fault.FrameFault.{FrameFault}
use Rattle.frames.proofs.Sent.{DataKnown, StreamKnown, message_bits, mis_sent, mis_word_sent, part_sent, tis_sent, tis_word_sent}
use Rattle.frames.proofs.Within.{words_wrong}

-- the block of a packet that fits
pub block_size : (size : ℕ) (packet : Content) → Fits size packet → length (block_of size packet) ≡ size
unfolding block_of
block_size size packet fits = simp (length-append, length_cut, length-replicate) (omega (arith, fits.least, fits.within))

pub block_octets : (size : ℕ) (packet : Content) → AllBelow 256 (block_of size packet)
unfolding block_of
block_octets size packet =
    below-append 256 (packet_bytes packet) _ (cut_below 8 (packet_length packet) (packet_bits packet)) (below-replicate 256 (size - packet_length packet) 0 (lit< tt))

-- what is known of all codes and constellations
pub record Known (s : Sending) (m : Mending) : Type 0 where
  pub mis : StreamKnown 2 4 s.mis_word s.mis_point m.mis_decided
  pub tis : StreamKnown 9 29 s.tis_word s.tis_point m.tis_decided
  pub «data» : DataKnown s.k s.n s.data_word s.data_point m.data_decided

module _ (s : Sending) (m : Mending) (known : Known s m) (plan : List CellKind) (mode : Mode) (roomy : Roomy mode plan s.k s.n) (cells : List Cell) where
  -- in how many places the cells differ from a frame, by the cells and bits of its streams
  module _ (station : Station) (block : List ℕ) where
    mis_wrong : wrong_mis m plan mode (block_frame s plan mode station block) cells
        ≡ wrong_symbols (m.mis_decided Four) 4 (mis_cells s.mis_word (s.mis_point Four) (stated_mis mode)) (picked Mis plan cells)
    mis_wrong = ap (λ l. differing (λ (x : ℕ). x) l (mis_symbols m plan mode cells)) (mis_sent s m plan mode station block known.mis roomy.mis)

    tis_wrong : wrong_tis m plan mode (block_frame s plan mode station block) cells
        ≡ wrong_symbols (m.tis_decided (tis_order mode.tis)) 29 (tis_cells s.tis_word s.tis_point mode.tis (stated_tis mode station)) (picked Tis plan cells)
    tis_wrong = ap (λ l. differing (λ (x : ℕ). x) l (tis_symbols m plan mode cells)) (tis_sent s m plan mode station block known.tis roomy.tis)

    bits_wrong : length block ≡ block_length_of mode s.k → (i : ℕ) → i < words_of mode →
        wrong_bits s.n i (data_stream m plan mode (block_frame s plan mode station block)) (data_stream m plan mode cells) ≡ wrong_bits s.n i (data_bits s mode block) (data_stream m plan mode cells)
    bits_wrong size i h =
        ap (λ l. differing bit_number l (part s.n i (data_stream m plan mode cells))) (part_sent s m plan mode station block known.«data» roomy size i h)

  -- the frame of a packet is within reach
  module _ (station : Station) (packet : Content) (fits : Fits (block_length_of mode s.k) packet) (near : WithinReach m plan mode s.n (frame_of s plan mode station packet) cells) where
    abbrev sent : List ℕ
    sent = block_of (block_length_of mode s.k) packet

    sent_size : length sent ≡ block_length_of mode s.k
    sent_size = block_size (block_length_of mode s.k) packet fits

    mis_read : (r : Result ℕ FrameFault) → ModeAsSent s m plan mode cells r → r ≡ Ok (wrong_mis m plan mode (frame_of s plan mode station packet) cells)
    mis_read r h = let e = mis_wrong station sent in rw e (h (rw e at near.mis))

    tis_read : (r : Result (Reading Station) FrameFault) → StationAsSent s m plan mode cells r → r ≡ Ok (record { stated = station; mended = wrong_tis m plan mode (frame_of s plan mode station packet) cells })
    tis_read r h = let e = tis_wrong station sent in rw e (h station (rw e at near.tis))

    block_read : (r : Result (Unit {0}) FrameFault) (block : List ℕ) → BlockAsSent s m plan mode cells block r → (r ≡ Ok tt) × (block ≡ sent)
    block_read r block h = h sent sent_size (block_octets (block_length_of mode s.k) packet) (λ i l. rw (bits_wrong station sent sent_size i l) at (near.words i l))

    -- and the packet is that of its block
    packet_read : (block : List ℕ) (c : _) → BlockAsSent s m plan mode cells block (Ok tt) → Reads block c → c ≡ Some packet
    packet_read block c h reads =
        let same = (block_read (Ok tt) block h).1 in
        let size : length block ≡ block_length_of mode s.k = ap length same ∙ sent_size in
        (reads packet).1 (rw size fits) (rw size same)

  -- where a stream or the packet is refused no frame is within reach
  pub mis_refused : (f : FrameFault) (r : Result Told FrameFault) → ModeAsSent s m plan mode cells (Err f) → ReadsSent s m plan mode cells r
  mis_refused f r h station packet fits near = let e = mis_read station packet fits near (Err f) h in cc

  pub tis_refused : (f : FrameFault) (r : Result Told FrameFault) → StationAsSent s m plan mode cells (Err f) → ReadsSent s m plan mode cells r
  tis_refused f r h station packet fits near = let e = tis_read station packet fits near (Err f) h in cc

  pub data_refused : (f : FrameFault) (block : List ℕ) (r : Result Told FrameFault) → BlockAsSent s m plan mode cells block (Err f) → ReadsSent s m plan mode cells r
  data_refused f block r h station packet fits near = let e = (block_read station packet fits near (Err f) block h).0 in cc

  pub packet_refused : (block : List ℕ) (r : Result Told FrameFault) → BlockAsSent s m plan mode cells block (Ok tt) → Reads block None → ReadsSent s m plan mode cells r
  packet_refused block r h reads station packet fits near = let e = packet_read station packet fits near block None h reads in cc

  -- what is read of the streams is what was sent
  pub reads_sent : (x : ℕ) (got : Reading Station) (block : List ℕ) (c : Content) → ModeAsSent s m plan mode cells (Ok x) → StationAsSent s m plan mode cells (Ok got)
      → BlockAsSent s m plan mode cells block (Ok tt) → Reads block (Some c)
      → ReadsSent s m plan mode cells (Ok (record { stated = record { mode = mode; station = got.stated; packet = c }; mis_mended = x; tis_mended = got.mended }))
  reads_sent x got block c h i j reads station packet fits near =
      let e = mis_read station packet fits near (Ok x) h in
      let f = tis_read station packet fits near (Ok got) i in
      let k = packet_read station packet fits near block (Some c) j reads in
      cc

  -- the packet of the block that was read
  pub packet_told : (block : List ℕ) (c : Content) → length block ≡ block_length_of mode s.k → Reads block (Some c) → BlockWithin s m plan mode cells block
      → Fits (block_length_of mode s.k) c × BlockWithin s m plan mode cells (block_of (block_length_of mode s.k) c)
  packet_told block c size reads within =
      let both = rw size at ((reads c).0 refl) in
      (both.0, rw both.1 at within)

  -- what is read has its frame within reach
  frame_within : (t : Told) → FrameAnswer s m plan mode cells (Ok t)
      → WithinReach m plan mode s.n (frame_of s plan mode t.stated.station t.stated.packet) cells
      × (t.mis_mended ≡ wrong_mis m plan mode (frame_of s plan mode t.stated.station t.stated.packet) cells)
      × (t.tis_mended ≡ wrong_tis m plan mode (frame_of s plan mode t.stated.station t.stated.packet) cells)
  frame_within t h =
      let station = t.stated.station in
      let block = block_of (block_length_of mode s.k) t.stated.packet in
      let size = block_size (block_length_of mode s.k) t.stated.packet h.3 in
      let mis : wrong_mis m plan mode (block_frame s plan mode station block) cells ≡ t.mis_mended =
      ap (λ l. differing (λ (x : ℕ). x) l (mis_symbols m plan mode cells)) (mis_word_sent s m plan mode station block known.mis roomy.mis) ∙ h.1.places in
      let tis : wrong_tis m plan mode (block_frame s plan mode station block) cells ≡ t.tis_mended =
      ap (λ l. differing (λ (x : ℕ). x) l (tis_symbols m plan mode cells)) (tis_word_sent s m plan mode station block known.tis roomy.tis) ∙ h.2.places in
      let words = words_wrong s.data_word m.data_reach s.k s.n known.«data».sized (words_of mode) (data_stream m plan mode cells) (scrambled 0 (spread 8 block)) (message_bits s m plan mode station block known.«data» roomy size) h.4 in (
        record {
          mis = omega (arith, mis, h.1.near);
          tis = omega (arith, tis, h.2.near);
          words = λ i l. rw (bits_wrong station block size i l) (words i l);
        },
        sym mis,
        sym tis,
      )

  pub has_frame : (r : Result Told FrameFault) → FrameAnswer s m plan mode cells r → HasFrame s m plan mode cells r
  has_frame (Ok u) h t e = let same : u ≡ t = cc in frame_within t (subst (λ x. FrameAnswer s m plan mode cells (Ok x)) same h)
  has_frame (Err f) h t e = cc
