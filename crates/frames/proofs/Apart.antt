-- Frames that differ in few places state the same. Assumes nothing.
use Rattle.std.proofs.Common.{◌≡◌, ℕ, ◌*◌, ◌<◌, ◌≤◌, Bool, List, length, take, Some, Ok, Result, refl, sym, ap, ◌∙◌, arith, lit≤}
use Rattle.codes.specs.Symbols.{Below128, bit_number, differing}
use Rattle.codes.specs.SymbolsLemmas.{below-bits}
use Rattle.bits.specs.Bits.{spread}
use Rattle.bits.specs.Scrambling.{scrambled}
use Rattle.bits.proofs.Bits.{length-spread}
use Rattle.bits.proofs.ByteLaws.{same_from_spread}
use Rattle.bits.proofs.Sequences.{scrambled-scrambled}
use Rattle.lineup.specs.Layouts.{block_length_of, words_of}
use Rattle.lineup.specs.Stated.{coding_of, stated_mis, stated_tis}
use Rattle.modes.specs.Modes.{data_number, data_of, occupancy_number, occupancy_of, rate_number, rate_of}
use Rattle.modes.specs.declared.mode.DataConstellation.{DataConstellation}
use Rattle.modes.specs.declared.mode.Mis.{Mis}
use Rattle.modes.specs.declared.mode.Occupancy.{Occupancy}
use Rattle.modes.specs.declared.rate.Rate.{Rate}
use Rattle.modes.specs.declared.rate.Rate.TheVariants.{Half, ThreeQuarters}
use Rattle.modes.specs.declared.station.Tis.{Tis}
use Rattle.modes.specs.declared.unknown.UnknownNumber.{UnknownNumber}
use Rattle.streams.specs.Mis.{length-mis_fields, mis_fields, mis_record, mis_stated}
use Rattle.streams.specs.Tis.{length-tis_fields, tis_fields, tis_record, tis_stated}
use Rattle.streams.proofs.MisLaws.{data_found, mis_stated_back, occupancy_found}
use Rattle.streams.proofs.RecordLaws.{fields_front, length-with_check, told_by_fields}
use Rattle.streams.proofs.TisLaws.{tis_stated_back}
use Rattle.modem.specs.Carrying.{message_of}
use Rattle.modem.proofs.ReadBack.{told_apart}
use Rattle.packets.specs.Packets.{block_of, packet_in}
use Rattle.packets.proofs.Exact.{written_read}
use Rattle.frames.specs.Apart.{FramesApart, OfData, OfMis, OfTis, SameInMis, SameInTis, SentFrame, Sendable, DataNear, MisNear, TisNear, bits_sent, mis_sent, tis_sent}
use Rattle.frames.specs.Frames.{Sending}
use Rattle.frames.specs.Reading.{Mending}
use Rattle.frames.specs.Words.{part}
use Rattle.frames.proofs.FrameAnswers.{Known, block_octets, block_size}
use Rattle.frames.proofs.Sent.{DataKnown, StreamKnown, message_bits, mis_word_sent, tis_word_sent, word_sent}
use Rattle.frames.proofs.Within.{part_size, same_parts}

-- records tell apart what is stated
mis_size : (r : Mis) → length (mis_record r) ≡ 2 * 7
mis_size r = omega (arith, length-with_check (mis_fields r), length-mis_fields r)

mis_only : (a b : Mis) → mis_record a ≡ mis_record b → a ≡ b
mis_only a b e =
    let p = fields_front (mis_fields a) 6 (omega (arith, length-mis_fields a)) in
    let q = fields_front (mis_fields b) 6 (omega (arith, length-mis_fields b)) in
    told_by_fields mis_fields mis_stated mis_stated_back a b (sym p ∙ ap (take 6) e ∙ q)

tis_size : (r : Tis) → length (tis_record r) ≡ 9 * 7
tis_size r = omega (arith, length-with_check (tis_fields r), length-tis_fields r)

tis_only : (a b : Tis) → tis_record a ≡ tis_record b → a ≡ b
tis_only a b e =
    let p = fields_front (tis_fields a) 55 (omega (arith, length-tis_fields a)) in
    let q = fields_front (tis_fields b) 55 (omega (arith, length-tis_fields b)) in
    told_by_fields tis_fields tis_stated tis_stated_back a b (sym p ∙ ap (take 55) e ∙ q)

-- numbers tell apart what they are of
same_occupancy : (a b : Occupancy) → occupancy_number a ≡ occupancy_number b → a ≡ b
same_occupancy a b e =
    let p = (occupancy_found a).1 in
    let q = (occupancy_found b).1 in
    let f = ap occupancy_of e in
    let same : ◌≡◌ {A = Result Occupancy UnknownNumber} (Ok a) (Ok b) = cc in
    cc

same_data : (a b : DataConstellation) → data_number a ≡ data_number b → a ≡ b
same_data a b e =
    let p = (data_found a).2 in
    let q = (data_found b).2 in
    let f = ap data_of e in
    let same : ◌≡◌ {A = Result DataConstellation UnknownNumber} (Ok a) (Ok b) = cc in
    cc

rate_found : (r : Rate) → (rate_number r ≤ 1) × (rate_of (rate_number r) ≡ Ok r)
rate_found Half = (lit≤ tt, refl)
rate_found ThreeQuarters = (lit≤ tt, refl)

same_rate : (a b : Rate) → rate_number a ≡ rate_number b → a ≡ b
same_rate a b e =
    let p = (rate_found a).1 in
    let q = (rate_found b).1 in
    let f = ap rate_of e in
    let same : ◌≡◌ {A = Result Rate UnknownNumber} (Ok a) (Ok b) = cc in
    cc

module _ (s : Sending) (m : Mending) where
  -- the symbols of a stream are the word of what it states, by the code and the constellation that it has
  mis_told : StreamKnown 2 4 s.mis_word s.mis_point m.mis_decided → (f : SentFrame) → Sendable f → OfMis s f → mis_sent m f ≡ s.mis_word (message_of 2 (mis_record (stated_mis f.stated.mode)))
  mis_told known f good own =
      mis_word_sent f.sends m f.plan f.stated.mode f.stated.station _ (rw (own.0, own.1) known) good.roomy.mis
      ∙ ap (λ w. w (message_of 2 (mis_record (stated_mis f.stated.mode)))) own.0

  tis_told : StreamKnown 9 29 s.tis_word s.tis_point m.tis_decided → (f : SentFrame) → Sendable f → OfTis s f → tis_sent m f ≡ s.tis_word (message_of 9 (tis_record (stated_tis f.stated.mode f.stated.station)))
  tis_told known f good own =
      tis_word_sent f.sends m f.plan f.stated.mode f.stated.station _ (rw (own.0, own.1) known) good.roomy.tis
      ∙ ap (λ w. w (message_of 9 (tis_record (stated_tis f.stated.mode f.stated.station)))) own.0

  pub mis_apart : StreamKnown 2 4 s.mis_word s.mis_point m.mis_decided → (distance : ℕ)
      → ((a b : List ℕ) → length a ≡ 2 → length b ≡ 2 → Below128 (λ (z : ℕ). z) a → Below128 (λ (z : ℕ). z) b → differing (λ (z : ℕ). z) (s.mis_word a) (s.mis_word b) < distance → a ≡ b)
      → (x y : SentFrame) → Sendable x → Sendable y → OfMis s x → OfMis s y → MisNear m x y distance → SameInMis x y
  mis_apart known distance distant x y p q a b near =
      let same = told_apart 2 mis_record mis_size s.mis_word distance distant (stated_mis x.stated.mode) (λ other e. mis_only other (stated_mis x.stated.mode) e) (stated_mis y.stated.mode)
      (rw (mis_told known x p a, mis_told known y q b) at near) in
      (ap (λ r. r.occupancy) (sym same), ap (λ r. r.tis) (sym same), ap (λ r. r.«data») (sym same))

  pub tis_apart : StreamKnown 9 29 s.tis_word s.tis_point m.tis_decided → (distance : ℕ)
      → ((a b : List ℕ) → length a ≡ 9 → length b ≡ 9 → Below128 (λ (z : ℕ). z) a → Below128 (λ (z : ℕ). z) b → differing (λ (z : ℕ). z) (s.tis_word a) (s.tis_word b) < distance → a ≡ b)
      → (x y : SentFrame) → Sendable x → Sendable y → OfTis s x → OfTis s y → TisNear m x y distance → SameInTis x y
  tis_apart known distance distant x y p q a b near =
      let sent = stated_tis x.stated.mode x.stated.station in
      let same = told_apart 9 tis_record tis_size s.tis_word distance distant sent (λ other e. tis_only other sent e) (stated_tis y.stated.mode y.stated.station)
      (rw (tis_told known x p a, tis_told known y q b) at near) in
      let coding : coding_of x.stated.mode ≡ coding_of y.stated.mode = ap (λ r. r.coding) (sym same) in
      let dx = (data_found x.stated.mode.«data»).0 in
      let dy = (data_found y.stated.mode.«data»).0 in
      let rx = (rate_found x.stated.mode.rate).0 in
      let ry = (rate_found y.stated.mode.rate).0 in (
        same_occupancy x.stated.mode.occupancy y.stated.mode.occupancy (omega arith),
        same_data x.stated.mode.«data» y.stated.mode.«data» (omega arith),
        same_rate x.stated.mode.rate y.stated.mode.rate (omega arith),
        ap (λ r. r.station) (sym same),
      )

  module _ (known : DataKnown s.k s.n s.data_word s.data_point m.data_decided) where
    abbrev block : SentFrame → List ℕ
    block f = block_of (block_length_of f.stated.mode f.sends.k) f.stated.packet

    abbrev messages : SentFrame → List Bool
    messages f = scrambled 0 (spread 8 (block f))

    messages_size : (f : SentFrame) → Sendable f → OfData s f → length (messages f) ≡ words_of f.stated.mode * s.k
    messages_size f good own =
        message_bits f.sends m f.plan f.stated.mode f.stated.station (block f) (rw (own.0, own.1, own.2, own.3) known) good.roomy (block_size _ f.stated.packet good.fits)
        ∙ ap (λ k. words_of f.stated.mode * k) own.2

    word_told : (f : SentFrame) → Sendable f → OfData s f → (i : ℕ) → i < words_of f.stated.mode → part s.n i (bits_sent m f) ≡ s.data_word (part s.k i (messages f))
    word_told f good own i h =
        ap (λ n. part n i (bits_sent m f)) (sym own.3)
        ∙ word_sent f.sends m f.plan f.stated.mode f.stated.station (block f) (rw (own.0, own.1, own.2, own.3) known) good.roomy (block_size _ f.stated.packet good.fits) i h
        ∙ ap (λ w. w (part f.sends.k i (messages f))) own.0
        ∙ ap (λ k. s.data_word (part k i (messages f))) own.2

    same_packets : (x y : SentFrame) → Sendable x → Sendable y → messages x ≡ messages y → x.stated.packet ≡ y.stated.packet
    same_packets x y p q e =
        let bits : spread 8 (block x) ≡ spread 8 (block y) =
        sym (scrambled-scrambled 0 (spread 8 (block x))) ∙ ap (scrambled 0) e ∙ scrambled-scrambled 0 (spread 8 (block y)) in
        let size : length (block x) ≡ length (block y) = omega (arith, ap length bits, length-spread 8 (block x), length-spread 8 (block y)) in
        let same : block x ≡ block y = same_from_spread 8 (block x) (block y) (block_octets _ x.stated.packet) (block_octets _ y.stated.packet) size bits in
        let a = written_read (block_length_of x.stated.mode x.sends.k) x.stated.packet p.fits in
        let b = written_read (block_length_of y.stated.mode y.sends.k) y.stated.packet q.fits in
        let some : Some x.stated.packet ≡ Some y.stated.packet = sym a ∙ ap packet_in same ∙ b in
        cc

    pub data_apart : (distance : ℕ)
        → ((a b : List Bool) → length a ≡ s.k → length b ≡ s.k → Below128 bit_number a → Below128 bit_number b → differing bit_number (s.data_word a) (s.data_word b) < distance → a ≡ b)
        → (x y : SentFrame) → Sendable x → Sendable y → OfData s x → OfData s y → x.stated.mode ≡ y.stated.mode → DataNear m x y s.n distance → x.stated.packet ≡ y.stated.packet
    data_apart distance distant x y p q a b one near =
        let count : words_of x.stated.mode ≡ words_of y.stated.mode = ap words_of one in
        let long : length (messages y) ≡ words_of x.stated.mode * s.k = messages_size y q b ∙ ap (λ n. n * s.k) (sym count) in
        let parts : (i : ℕ) → i < words_of x.stated.mode → part s.k i (messages x) ≡ part s.k i (messages y) =
        λ i h.
        distant (part s.k i (messages x)) (part s.k i (messages y))
        (part_size s.k (words_of x.stated.mode) i (messages x) h (messages_size x p a)) (part_size s.k (words_of x.stated.mode) i (messages y) h long)
        (below-bits (part s.k i (messages x))) (below-bits (part s.k i (messages y)))
        (rw (word_told x p a i h, word_told y q b i (omega arith)) at (near i h)) in
        same_packets x y p q (same_parts s.k (words_of x.stated.mode) (messages x) (messages y) (messages_size x p a) long parts)

-- what is known of the codes' distances
pub record Distant (s : Sending) (mis_distance tis_distance data_distance : ℕ) : Type 0 where
  pub mis : (a b : List ℕ) → length a ≡ 2 → length b ≡ 2 → Below128 (λ (z : ℕ). z) a → Below128 (λ (z : ℕ). z) b → differing (λ (z : ℕ). z) (s.mis_word a) (s.mis_word b) < mis_distance → a ≡ b
  pub tis : (a b : List ℕ) → length a ≡ 9 → length b ≡ 9 → Below128 (λ (z : ℕ). z) a → Below128 (λ (z : ℕ). z) b → differing (λ (z : ℕ). z) (s.tis_word a) (s.tis_word b) < tis_distance → a ≡ b
  pub «data» : (a b : List Bool) → length a ≡ s.k → length b ≡ s.k → Below128 bit_number a → Below128 bit_number b → differing bit_number (s.data_word a) (s.data_word b) < data_distance → a ≡ b

pub frames_apart : (s : Sending) (m : Mending) (a b c : ℕ) → Known s m → Distant s a b c → FramesApart s m a b c
frames_apart s m a b c known distant =
    record {
      mis = mis_apart s m known.mis a distant.mis;
      tis = tis_apart s m known.tis b distant.tis;
      «data» = data_apart s m known.«data» c distant.«data»;
      whole =
          λ x y p q d e f g h i near close few.
          let in_mis = mis_apart s m known.mis a distant.mis x y p q d e near in
          let in_tis = tis_apart s m known.tis b distant.tis x y p q f g close in
          let mode : x.stated.mode ≡ y.stated.mode = λ j. record { occupancy = in_mis.0 j; tis = in_mis.1 j; «data» = in_mis.2 j; rate = in_tis.2 j } in
          let packet = data_apart s m known.«data» c distant.«data» x y p q h i mode few in
          λ j. record { mode = mode j; station = in_tis.3 j; packet = packet j };
    }
