-- The printed figures, as facts about the definitions that the contracts use.
use Rattle.std.specs.Prelude.{◌≡◌, ℕ, ◌-◌, true, false, List, [], ◌∷◌, take, replicate, pos, negsuc}
use Rattle.cells.specs.Qam.{decided_number, qam_point}
use Rattle.cells.specs.declared.cell.Cell.{Cell}
use Rattle.cells.specs.declared.cell.Order.TheVariants.{Four}
use Rattle.reed_solomon.specs.Field.{times}
use Rattle.reed_solomon.specs.Generators.{generator_of}
use Rattle.reed_solomon.specs.Words.{word_of as rooted_word}
use Rattle.bits.specs.Bits.{cut}
use Rattle.bits.specs.Crc.{crc8_of}
use Rattle.messages.specs.Packets.{packet_of}
use Rattle.messages.specs.Pieces.{piece_count, piece_length_of}
use Rattle.packets.specs.Packets.{header_bits, packet_length}
use Rattle.staircase.specs.Staircase.{word_of}
use Rattle.bits.specs.Scrambling.{scrambled}
use Rattle.modes.specs.declared.mode.DataConstellation.TheVariants.{Qam4 as DataQam4}
use Rattle.modes.specs.declared.mode.Mis.{Mis}
use Rattle.modes.specs.declared.mode.Occupancy.TheVariants.{Khz1}
use Rattle.modes.specs.declared.mode.TisConstellation.TheVariants.{Qam4 as TisQam4}
use Rattle.modem.specs.MisStream.{mis_message, mis_cells}

-- a cell by its two numbers, whose sizes are 256
abbrev plus_plus : Cell
plus_plus = record { real = pos 256; imaginary = pos 256 }

abbrev plus_minus : Cell
plus_minus = record { real = pos 256; imaginary = negsuc 255 }

-- occupancy 0 with both constellations 0
abbrev pub zero_mis : Mis
zero_mis = record { occupancy = Khz1; tis = TisQam4; «data» = DataQam4 }

-- RS(4,2)
abbrev pub mis_word : List ℕ → List ℕ
mis_word = rooted_word (generator_of 2)

-- RS(29,9)
abbrev pub tis_word : List ℕ → List ℕ
tis_word = rooted_word (generator_of 20)

pub record Printed : Type 0 where
  -- 64 times 2 in the field is 9
  pub product : times 64 2 ≡ 9
  -- the scrambling sequence begins 0000 0111 1011 1110
  pub sequence : scrambled 0 (replicate 16 false)
      ≡ false ∷ false ∷ false ∷ false ∷ false ∷ true ∷ true ∷ true ∷ true ∷ false ∷ true ∷ true ∷ true ∷ true ∷ true ∷ false ∷ []
  -- CRC-8 of six zero bits is 206
  pub check : crc8_of (replicate 6 false) ≡ 206
  -- RS(4,2) of (0,1) is (0,1,6,8), and of (1,0) it is (1,0,28,48)
  pub word_01 : mis_word (0 ∷ 1 ∷ []) ≡ 0 ∷ 1 ∷ 6 ∷ 8 ∷ []
  pub word_10 : mis_word (1 ∷ 0 ∷ []) ≡ 1 ∷ 0 ∷ 28 ∷ 48 ∷ []
  -- occupancy 0 with both constellations 0 gives the MIS word (2,33,119,122), whose first cells are (256,256), (256,256), (256,-256)
  pub mis_word_lem : mis_word (mis_message zero_mis) ≡ 2 ∷ 33 ∷ 119 ∷ 122 ∷ []
  pub mis_cells_lem : take 3 (mis_cells mis_word (qam_point Four) zero_mis) ≡ plus_plus ∷ plus_plus ∷ plus_minus ∷ []
  -- on an axis of 64-QAM 1536 decides 0, 1535 decides 1, 0 decides 3, and -32768 decides 7
  pub axis_1536 : decided_number 3 (pos 1536) ≡ 0
  pub axis_1535 : decided_number 3 (pos 1535) ≡ 1
  pub axis_0 : decided_number 3 (pos 0) ≡ 3
  pub axis_lowest : decided_number 3 (negsuc 32767) ≡ 7
  -- with L 4 and the exponents 1, -1 and 0, 2, the message 1000 0100 has the checks 0001 1000
  pub checks : word_of 4 2 2 (pos 1 ∷ negsuc 0 ∷ pos 0 ∷ pos 2 ∷ []) (true ∷ false ∷ false ∷ false ∷ false ∷ true ∷ false ∷ false ∷ [])
      ≡ true ∷ false ∷ false ∷ false ∷ false ∷ true ∷ false ∷ false ∷ false ∷ false ∷ false ∷ true ∷ true ∷ false ∷ false ∷ false ∷ []
  -- length 7, toggle 1, last 1, id 1 is the header 00 7A 00 80 (hexadecimal)
  pub header : cut 8 4 (header_bits (record { toggle = true; last = true; id = 1; bytes = 0 ∷ [] })) ≡ 0x00 ∷ 0x7A ∷ 0x00 ∷ 0x80 ∷ []
  -- at a block of 320 bytes, of which 6 stand around the data, 314 bytes make one piece; 315 make two, the second of length 7
  pub one_piece : piece_count (piece_length_of (320 - 6)) 314 ≡ 1
  pub two_pieces : piece_count (piece_length_of (320 - 6)) 315 ≡ 2
  pub second_piece : packet_length (packet_of (piece_length_of (320 - 6)) (replicate 315 0) false 1) ≡ 7
