-- What words ask of a packet and of a block.
use Rattle.std.specs.Prelude.{ℕ, Bool, ◌&&◌, ◌==◌, cond, List, length, Result, Ok, Err, nat_le, vec_items}
use Rattle.hex.specs.Hex.{decode_of}
use Rattle.packets.specs.declared.parts.Header.{Header}
use Rattle.desk.specs.declared.blocks.PacketAsked.{PacketAsked}
use Rattle.desk.specs.declared.trouble.Trouble.{Trouble}
use Rattle.desk.specs.declared.trouble.Trouble.TheVariants.{OutOfRange}
use Rattle.desk.specs.Loads.{decoded}
use Rattle.desk.specs.Numbers.{natural_of}
use Rattle.desk.specs.Troubles.{◌>>=◌}
use Rattle.desk.specs.Words.{counted, word_at}

-- 0 or 1
abbrev pub flag_of : List ℕ → Result Bool Trouble
flag_of word = do
  n ← natural_of 1 word
  Ok (n == 1)

-- the header of three words
abbrev pub header_asked : (toggle last id : List ℕ) → Result Header Trouble
header_asked toggle last id = do
  t ← flag_of toggle
  l ← flag_of last
  n ← natural_of 1023 id
  Ok (record { toggle = t; last = l; id = n })

-- header, size of the block and data
abbrev pub asked_parts : PacketAsked → Header × ℕ × List ℕ
asked_parts a = (a.header, a.size, vec_items a.«data»)

-- the packet that words ask for: toggle, last, id, the bytes of the block, and the data
abbrev pub packet_asked : List (List ℕ) → Result (Header × ℕ × List ℕ) Trouble
packet_asked words = counted 5 words (do
  header ← header_asked (word_at words 0) (word_at words 1) (word_at words 2)
  size ← natural_of 1440 (word_at words 3)
  bytes ← decoded (decode_of (word_at words 4))
  Ok (header, size, bytes))

-- the bytes of a block, which are 7 to 1440
abbrev pub block_asked : List (List ℕ) → Result (List ℕ) Trouble
block_asked words = counted 1 words (do
  bytes ← decoded (decode_of (word_at words 0))
  cond (nat_le 7 (length bytes) && nat_le (length bytes) 1440) (Ok bytes) (Err OutOfRange))
