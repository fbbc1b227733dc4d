-- Reading a frame: what its cells are decided for, what is within reach, and what is answered.
use Rattle.std.specs.Prelude.{◌≡◌, ℕ, ◌<◌, ◌≤◌, Bool, List, length, None, Ok, Err, MatchResult, Result}
use Rattle.codes.specs.Symbols.{differing}
use Rattle.bits.specs.Bits.{AllBelow, spread}
use Rattle.bits.specs.Scrambling.{scrambled}
use Rattle.cells.specs.Mapping.{decided_bits}
use Rattle.cells.specs.declared.cell.Cell.{Cell}
use Rattle.cells.specs.declared.cell.Order.{Order}
use Rattle.cells.specs.declared.cell.Order.TheVariants.{Four}
use Rattle.cells.specs.declared.constellation.Constellation.{Ghosts as Points}
use Rattle.codes.specs.declared.words.MendingCode.{Ghosts as Mender}
use Rattle.lineup.specs.Layouts.{block_length_of, words_of}
use Rattle.lineup.specs.Stated.{coding_of, stated_mis, stated_tis}
use Rattle.lineup.specs.declared.kind.CellKind.{CellKind}
use Rattle.lineup.specs.declared.kind.CellKind.TheVariants.{Mis as MisKind, Tis as TisKind, Data as DataKind}
use Rattle.lineup.specs.declared.mode.Mode.{Mode}
use Rattle.modem.specs.Carrying.{symbols_of}
use Rattle.modem.specs.Reading.{wrong_symbols}
use Rattle.modem.specs.MisStream.{MisAnswer, mis_cells}
use Rattle.modem.specs.TisStream.{TisAnswer, tis_cells, tis_order}
use Rattle.modem.specs.declared.carrying.Reading.{Reading}
use Rattle.modem.specs.declared.fault.StreamFault.{StreamFault}
use Rattle.modes.specs.declared.mode.Mis.{Mis}
use Rattle.modes.specs.declared.station.Station.{Station}
use Rattle.modes.specs.declared.station.Tis.{Tis}
use Rattle.packets.specs.Packets.{Content, Fits, block_of, packet_in}
use Rattle.frames.specs.Frames.{Sending, data_bits, data_order, frame_of}
use Rattle.frames.specs.Laying.{picked}
use Rattle.frames.specs.Words.{WordLost, WordsWithin, wrong_bits}
use Rattle.frames.specs.declared.channel.Channel.{Channel}
use Rattle.frames.specs.declared.fault.FrameFault.{FrameFault}
use Rattle.frames.specs.declared.fault.FrameFault.TheVariants.{Mis as MisFault, OtherMode, Tis as TisFault, OtherDataCoding, Data as DataFault, Packet as PacketFault}

-- how the streams are read: the reach of their codes, and what cells are decided for
pub record Mending : Type 0 where
  pub mis_reach : ℕ
  pub tis_reach : ℕ
  pub data_reach : ℕ
  pub mis_decided : Order → Cell → List Bool
  pub tis_decided : Order → Cell → List Bool
  pub data_decided : Order → Cell → List Bool

-- the same by its parts
abbrev pub mending : (mis_reach tis_reach data_reach : ℕ) → (mis_decided tis_decided data_decided : Order → Cell → List Bool) → Mending
mending a b c x y z =
    record { mis_reach = a; tis_reach = b; data_reach = c; mis_decided = x; tis_decided = y; data_decided = z }

-- that of a channel and a data code, by what their types' codes and constellations mean
abbrev pub mending_on : {M T D A B C : Type 0} → Mender M ℕ → Mender T ℕ → Mender D Bool → Points A → Points B → Points C → Channel M T A B C → D → Mending
mending_on mis tis «data» p q r channel code =
    mending (mis.reach channel.mis) (tis.reach channel.tis) («data».reach code) (p.decided channel.mis_points) (q.decided channel.tis_points) (r.decided channel.data_points)

-- what a frame states: the mode, the station and the packet
pub record Stated : Type 0 where
  pub mode : Mode
  pub station : Station
  pub packet : Content

-- what is read of a frame: what it states, and the mended symbols of the MIS and of the TIS
pub record Told : Type 0 where
  pub stated : Stated
  pub mis_mended : ℕ
  pub tis_mended : ℕ

module _ (m : Mending) (plan : List CellKind) (mode : Mode) where
  -- the symbols and bits that cells are decided for; fixed, empty and further cells and missing bits are ignored
  abbrev pub mis_symbols : List Cell → List ℕ
  mis_symbols cells = symbols_of (m.mis_decided Four) 4 (picked MisKind plan cells)

  abbrev pub tis_symbols : List Cell → List ℕ
  tis_symbols cells = symbols_of (m.tis_decided (tis_order mode.tis)) 29 (picked TisKind plan cells)

  abbrev pub data_stream : List Cell → List Bool
  data_stream cells = decided_bits (m.data_decided (data_order mode.«data»)) (picked DataKind plan cells)

  -- in how many places the decided symbols of some cells differ from those of the cells sent
  abbrev pub wrong_mis : (sent cells : List Cell) → ℕ
  wrong_mis sent cells = differing (λ (x : ℕ). x) (mis_symbols sent) (mis_symbols cells)

  abbrev pub wrong_tis : (sent cells : List Cell) → ℕ
  wrong_tis sent cells = differing (λ (x : ℕ). x) (tis_symbols sent) (tis_symbols cells)

  -- each decided word differs from the sent one in no more places than the code's reach; a data word has n bits
  pub record WithinReach (n : ℕ) (sent cells : List Cell) : Type 0 where
    pub mis : wrong_mis sent cells ≤ m.mis_reach
    pub tis : wrong_tis sent cells ≤ m.tis_reach
    pub words : (i : ℕ) → i < words_of mode → wrong_bits n i (data_stream sent) (data_stream cells) ≤ m.data_reach

module _ (s : Sending) (m : Mending) (plan : List CellKind) (mode : Mode) (cells : List Cell) where
  -- what reading each stream answers
  abbrev pub MisTold : Result (Reading Mis) StreamFault → Type 0
  MisTold = MisAnswer s.mis_word m.mis_reach (m.mis_decided Four) (picked MisKind plan cells)

  abbrev pub TisTold : Result (Reading Tis) StreamFault → Type 0
  TisTold = TisAnswer s.tis_word m.tis_reach m.tis_decided mode.tis (picked TisKind plan cells)

  -- the MIS states the mode, and e symbols of it are mended
  abbrev pub MisPasses : ℕ → Type 0
  MisPasses e = MisTold (Ok (record { stated = stated_mis mode; mended = e }))

  -- the TIS states the mode's data coding and the station, and e symbols of it are mended
  abbrev pub TisPasses : Station → ℕ → Type 0
  TisPasses station e = TisTold (Ok (record { stated = stated_tis mode station; mended = e }))

  -- the MIS and the TIS pass
  abbrev pub Passes : Type 0
  Passes = (x : ℕ) × (station : Station) × (y : ℕ) × MisPasses x × TisPasses station y

  -- the words of the block are within reach
  abbrev pub BlockWithin : List ℕ → Type 0
  BlockWithin block =
      WordsWithin s.data_word m.data_reach s.k s.n (words_of mode) (data_stream m plan mode cells) (scrambled 0 (spread 8 block))

  -- What the streams that are within reach state, with the symbols mended; or the first fault that holds.
  abbrev pub FrameAnswer : Result Told FrameFault → Type 0
  FrameAnswer (Ok t) =
      (t.stated.mode ≡ mode) × MisPasses t.mis_mended × TisPasses t.stated.station t.tis_mended
      × Fits (block_length_of mode s.k) t.stated.packet × BlockWithin (block_of (block_length_of mode s.k) t.stated.packet)
  FrameAnswer (Err (MisFault f)) = MisTold (Err f)
  FrameAnswer (Err (OtherMode other)) =
      (e : ℕ) × MisTold (Ok (record { stated = other; mended = e })) × (other ≡ stated_mis mode → ⊥)
  FrameAnswer (Err (TisFault f)) = (e : ℕ) × MisPasses e × TisTold (Err f)
  FrameAnswer (Err OtherDataCoding) =
      (x : ℕ) × MisPasses x × (t : Tis) × (y : ℕ) × TisTold (Ok (record { stated = t; mended = y })) × (t.coding ≡ coding_of mode → ⊥)
  FrameAnswer (Err (DataFault lost)) =
      Passes × (lost.word < words_of mode) × WordLost s.data_word m.data_reach s.k s.n lost.word (data_stream m plan mode cells)
  FrameAnswer (Err (PacketFault f)) =
      Passes × (block : List ℕ) × (length block ≡ block_length_of mode s.k) × AllBelow 256 block × BlockWithin block × (packet_in block ≡ None)

  -- what is read of the MIS, of the TIS and of the data, one after the other, and that it is what was sent
  abbrev pub ModeTold : Result ℕ FrameFault → Type 0
  ModeTold answer = MatchResult answer MisPasses (λ f. FrameAnswer (Err f))

  abbrev pub ModeAsSent : Result ℕ FrameFault → Type 0
  ModeAsSent answer =
      let e = wrong_symbols (m.mis_decided Four) 4 (mis_cells s.mis_word (s.mis_point Four) (stated_mis mode)) (picked MisKind plan cells) in
      e ≤ m.mis_reach → answer ≡ Ok e

  abbrev pub StationTold : Result (Reading Station) FrameFault → Type 0
  StationTold answer =
      MatchResult answer (λ got. TisPasses got.stated got.mended) (λ f. (x : ℕ) → MisPasses x → FrameAnswer (Err f))

  abbrev pub StationAsSent : Result (Reading Station) FrameFault → Type 0
  StationAsSent answer =
      (station : Station)
      → let e = wrong_symbols (m.tis_decided (tis_order mode.tis)) 29 (tis_cells s.tis_word s.tis_point mode.tis (stated_tis mode station)) (picked TisKind plan cells) in
      e ≤ m.tis_reach → answer ≡ Ok (record { stated = station; mended = e })

  abbrev pub BlockTold : List ℕ → Result (Unit {0}) FrameFault → Type 0
  BlockTold block answer = MatchResult answer (λ done. BlockWithin block) (λ f. Passes → FrameAnswer (Err f))

  abbrev pub BlockAsSent : List ℕ → Result (Unit {0}) FrameFault → Type 0
  BlockAsSent block answer =
      (sent : List ℕ) → length sent ≡ block_length_of mode s.k → AllBelow 256 sent
      → ((i : ℕ) → i < words_of mode → wrong_bits s.n i (data_bits s mode sent) (data_stream m plan mode cells) ≤ m.data_reach)
      → (answer ≡ Ok tt) × (block ≡ sent)

  -- cells within reach of a frame of the mode are read as what that frame states, and exactly the wrong symbols are mended
  abbrev pub ReadsSent : Result Told FrameFault → Type 0
  ReadsSent answer =
      (station : Station) (packet : Content) → Fits (block_length_of mode s.k) packet
      → WithinReach m plan mode s.n (frame_of s plan mode station packet) cells
      → answer ≡ Ok (record {
        stated = record { mode = mode; station = station; packet = packet };
        mis_mended = wrong_mis m plan mode (frame_of s plan mode station packet) cells;
        tis_mended = wrong_tis m plan mode (frame_of s plan mode station packet) cells;
      })

  -- what is read has its frame within reach, and the mended symbols are the places in which the two differ
  abbrev pub HasFrame : Result Told FrameFault → Type 0
  HasFrame answer =
      (t : Told) → answer ≡ Ok t
      → WithinReach m plan mode s.n (frame_of s plan mode t.stated.station t.stated.packet) cells
      × (t.mis_mended ≡ wrong_mis m plan mode (frame_of s plan mode t.stated.station t.stated.packet) cells)
      × (t.tis_mended ≡ wrong_tis m plan mode (frame_of s plan mode t.stated.station t.stated.packet) cells)
