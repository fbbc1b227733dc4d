-- What frames tell apart: frames that differ in few places of a stream state the same in it.
use Rattle.std.specs.Prelude.{◌≡◌, ℕ, ◌<◌, Bool, List}
use Rattle.codes.specs.Symbols.{differing}
use Rattle.cells.specs.declared.cell.Cell.{Cell}
use Rattle.lineup.specs.Layouts.{Roomy, block_length_of, words_of}
use Rattle.lineup.specs.declared.kind.CellKind.{CellKind}
use Rattle.packets.specs.Packets.{Fits}
use Rattle.frames.specs.Frames.{Sending, frame_of}
use Rattle.frames.specs.Reading.{Mending, Stated, data_stream, mis_symbols, tis_symbols}
use Rattle.frames.specs.Words.{wrong_bits}

-- a frame that is sent: how its streams are sent, on which plan, and what it states
pub record SentFrame : Type 0 where
  pub sends : Sending
  pub plan : List CellKind
  pub stated : Stated

-- the plan has cells enough, and the block holds the packet
pub record Sendable (f : SentFrame) : Type 0 where
  pub roomy : Roomy f.stated.mode f.plan f.sends.k f.sends.n
  pub fits : Fits (block_length_of f.stated.mode f.sends.k) f.stated.packet

-- its cells
abbrev pub cells_sent : SentFrame → List Cell
cells_sent f = frame_of f.sends f.plan f.stated.mode f.stated.station f.stated.packet

module _ (m : Mending) (f : SentFrame) where
  -- the symbols and bits that its cells are decided for
  abbrev pub mis_sent : List ℕ
  mis_sent = mis_symbols m f.plan f.stated.mode (cells_sent f)

  abbrev pub tis_sent : List ℕ
  tis_sent = tis_symbols m f.plan f.stated.mode (cells_sent f)

  abbrev pub bits_sent : List Bool
  bits_sent = data_stream m f.plan f.stated.mode (cells_sent f)

module _ (s : Sending) (f : SentFrame) where
  -- a stream of the frame has this code and this constellation; whatever the other streams have
  abbrev pub OfMis : Type 0
  OfMis = (f.sends.mis_word ≡ s.mis_word) × (f.sends.mis_point ≡ s.mis_point)

  abbrev pub OfTis : Type 0
  OfTis = (f.sends.tis_word ≡ s.tis_word) × (f.sends.tis_point ≡ s.tis_point)

  abbrev pub OfData : Type 0
  OfData =
      (f.sends.data_word ≡ s.data_word) × (f.sends.data_point ≡ s.data_point) × (f.sends.k ≡ s.k) × (f.sends.n ≡ s.n)

module _ (m : Mending) (x y : SentFrame) where
  -- they differ in fewer places than the code's distance; of the data, in each word
  abbrev pub MisNear : ℕ → Type 0
  MisNear distance = differing (λ (z : ℕ). z) (mis_sent m x) (mis_sent m y) < distance

  abbrev pub TisNear : ℕ → Type 0
  TisNear distance = differing (λ (z : ℕ). z) (tis_sent m x) (tis_sent m y) < distance

  abbrev pub DataNear : (n distance : ℕ) → Type 0
  DataNear n distance = (i : ℕ) → i < words_of x.stated.mode → wrong_bits n i (bits_sent m x) (bits_sent m y) < distance

module _ (x y : SentFrame) where
  -- what the MIS states of the mode is the same
  abbrev pub SameInMis : Type 0
  SameInMis =
      (x.stated.mode.occupancy ≡ y.stated.mode.occupancy)
      × (x.stated.mode.tis ≡ y.stated.mode.tis)
      × (x.stated.mode.«data» ≡ y.stated.mode.«data»)

  -- what the TIS states of the mode, and the station
  abbrev pub SameInTis : Type 0
  SameInTis =
      (x.stated.mode.occupancy ≡ y.stated.mode.occupancy)
      × (x.stated.mode.«data» ≡ y.stated.mode.«data»)
      × (x.stated.mode.rate ≡ y.stated.mode.rate)
      × (x.stated.station ≡ y.stated.station)

-- What the streams of frames tell apart by codes of these distances, each of any two frames that have its code and constellation.
pub record FramesApart (s : Sending) (m : Mending) (mis_distance tis_distance data_distance : ℕ) : Type 0 where
  pub mis : (x y : SentFrame) → Sendable x → Sendable y → OfMis s x → OfMis s y → MisNear m x y mis_distance → SameInMis x y
  pub tis : (x y : SentFrame) → Sendable x → Sendable y → OfTis s x → OfTis s y → TisNear m x y tis_distance → SameInTis x y
  -- under one mode
  pub «data» : (x y : SentFrame) → Sendable x → Sendable y → OfData s x → OfData s y → x.stated.mode ≡ y.stated.mode → DataNear m x y s.n data_distance → x.stated.packet ≡ y.stated.packet
  -- so that frames near in all streams state the same
  pub whole : (x y : SentFrame) → Sendable x → Sendable y → OfMis s x → OfMis s y → OfTis s x → OfTis s y → OfData s x → OfData s y
      → MisNear m x y mis_distance → TisNear m x y tis_distance → DataNear m x y s.n data_distance → x.stated ≡ y.stated
