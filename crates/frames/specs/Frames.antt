-- Frames: the cells that a mode, a station and a packet make on a plan.
use Rattle.std.specs.Prelude.{ℕ, ◌/◌, Bool, List}
use Rattle.bits.specs.Bits.{spread}
use Rattle.bits.specs.Scrambling.{scrambled}
use Rattle.cells.specs.Cells.{cell_bits}
use Rattle.cells.specs.Mapping.{mapped}
use Rattle.cells.specs.declared.cell.Cell.{Cell}
use Rattle.cells.specs.declared.cell.Order.{Order}
use Rattle.cells.specs.declared.cell.Order.TheVariants.{Four, Sixteen, SixtyFour}
use Rattle.cells.specs.declared.constellation.Constellation.{Ghosts as Points}
use Rattle.codes.specs.declared.words.SendingCode.{Ghosts as Code}
use Rattle.lineup.specs.Layouts.{block_length_of, words_of}
use Rattle.lineup.specs.Stated.{stated_mis, stated_tis}
use Rattle.lineup.specs.declared.kind.CellKind.{CellKind}
use Rattle.lineup.specs.declared.mode.Mode.{Mode}
use Rattle.modem.specs.MisStream.{mis_cells}
use Rattle.modem.specs.TisStream.{tis_cells}
use Rattle.modes.specs.declared.mode.DataConstellation.{DataConstellation}
use Rattle.modes.specs.declared.mode.DataConstellation.TheVariants.{Qam4, Qam16, Qam64}
use Rattle.modes.specs.declared.station.Station.{Station}
use Rattle.packets.specs.Packets.{Content, block_of}
use Rattle.frames.specs.declared.channel.Channel.{Channel}
use Rattle.frames.specs.Laying.{laid}
use Rattle.frames.specs.Words.{coded}

-- How the streams are sent: the words of their codes and the points of their constellations. A data word has n bits for a message of k.
pub record Sending : Type 0 where
  pub mis_word : List ℕ → List ℕ
  pub tis_word : List ℕ → List ℕ
  pub data_word : List Bool → List Bool
  pub mis_point : Order → List Bool → Cell
  pub tis_point : Order → List Bool → Cell
  pub data_point : Order → List Bool → Cell
  pub k : ℕ
  pub n : ℕ

-- the same by its parts
abbrev pub sending : (mis_word tis_word : List ℕ → List ℕ) → (List Bool → List Bool) → (mis_point tis_point data_point : Order → List Bool → Cell) → (k n : ℕ) → Sending
sending m t d p q r k n =
    record { mis_word = m; tis_word = t; data_word = d; mis_point = p; tis_point = q; data_point = r; k = k; n = n }

-- that of a channel and a data code, by what their types' codes and constellations mean
abbrev pub sending_on : {M T D A B C : Type 0} → Code M ℕ → Code T ℕ → Code D Bool → Points A → Points B → Points C → Channel M T A B C → D → Sending
sending_on mis tis «data» p q r channel code =
    sending (mis.word channel.mis) (tis.word channel.tis) («data».word code) (p.point channel.mis_points) (q.point channel.tis_points) (r.point channel.data_points) («data».message_length code) («data».word_length code)

-- the order of each constellation of the data
abbrev pub data_order : DataConstellation → Order
data_order Qam4 = Four
data_order Qam16 = Sixteen
data_order Qam64 = SixtyFour

-- the bits of the data words: the block is scrambled as one run, and then cut into messages
abbrev pub data_bits : Sending → Mode → List ℕ → List Bool
data_bits s mode block = coded s.data_word s.k (words_of mode) (scrambled 0 (spread 8 block))

-- the cells of the data: a data word has two bits in every cell, as many as there are words
abbrev pub data_cells : Sending → Mode → List ℕ → List Cell
data_cells s mode block =
    mapped (s.data_point (data_order mode.«data»)) (cell_bits (data_order mode.«data»)) (s.n / 2) (data_bits s mode block)

-- the frame of a block: the MIS is always at 4-QAM, the TIS and the data as the mode has it
abbrev pub block_frame : Sending → List CellKind → Mode → Station → List ℕ → List Cell
block_frame s plan mode station block =
    laid plan (mis_cells s.mis_word (s.mis_point Four) (stated_mis mode)) (tis_cells s.tis_word s.tis_point mode.tis (stated_tis mode station)) (data_cells s mode block)

-- the frame of a packet: that of the block that holds it
abbrev pub frame_of : Sending → List CellKind → Mode → Station → Content → List Cell
frame_of s plan mode station packet = block_frame s plan mode station (block_of (block_length_of mode s.k) packet)
