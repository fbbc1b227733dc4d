-- Packets: a header of 32 bits, data and a check of 16 bits, one packet to a block.
use Rattle.std.specs.Prelude.{◌≡◌, ℕ, ◌+◌, ◌-◌, ◌*◌, ◌<◌, ◌≤◌, Bool, false, cond, not, ◌&&◌, ◌||◌, List, [], ◌∷◌, ◌++◌, length, take, drop, replicate, Some, None, Ok, Err, Option, Result, ◌==◌, nat_eq, nat_le, nat_lt, slice_index_or}
use Rattle.std.specs.List.{list_all}
use Rattle.bits.specs.Bits.{◌⊕◌, AllBelow, bits_of, field_at, cut, spread}
use Rattle.bits.specs.Crc.{crc16_of}
use Rattle.packets.specs.declared.parts.Header.{Header}
use Rattle.packets.specs.declared.parts.Packet.{Packet}
use Rattle.packets.specs.declared.parts.BadPacket.{BadPacket}
use Rattle.packets.specs.declared.reading.Fields.{Fields}

-- What a packet carries: its message's toggle, whether it is the message's last, its number in the message, and data.
pub record Content : Type 0 where
  pub toggle : Bool
  pub last : Bool
  pub id : ℕ
  pub bytes : List ℕ

-- a packet's length in bytes: four of the header, the data, two of the check
abbrev pub packet_length : Content → ℕ
packet_length c = length c.bytes + 6

-- The header, highest bit first: packet length 12 bits, toggle, first, last, id 10, fill indicator 1 and reserved 6.
-- First is 1 exactly where the id is 0; fill indicator and reserved are zero.
unfoldable pub header_bits : Content → List Bool
header_bits c = bits_of 12 (packet_length c) ++ c.toggle ∷ (c.id == 0) ∷ c.last ∷ [] ++ bits_of 10 c.id ++ bits_of 1 0 ++ bits_of 6 0

-- what the check covers: header and data
abbrev pub covered_bits : Content → List Bool
covered_bits c = header_bits c ++ spread 8 c.bytes

-- the bits of a packet: header and data, and behind them their check
unfoldable pub packet_bits : Content → List Bool
packet_bits c = covered_bits c ++ bits_of 16 (crc16_of (covered_bits c))

-- the bytes of a packet
abbrev pub packet_bytes : Content → List ℕ
packet_bytes c = cut 8 (packet_length c) (packet_bits c)

-- the block of so many bytes that holds a packet: the packet, then zeros
unfoldable pub block_of : ℕ → Content → List ℕ
block_of size c = packet_bytes c ++ replicate (size - packet_length c) 0

-- A packet fits a block of so many bytes.
pub record Fits (size : ℕ) (c : Content) : Type 0 where
  pub least : 7 ≤ size
  pub most : size ≤ 1440
  pub numbered : c.id < 1024
  pub some : 1 ≤ length c.bytes
  pub within : length c.bytes ≤ size - 6
  pub octets : AllBelow 256 c.bytes

-- the same as a test on the block's size, the id and the count of data bytes, which are bytes by their type
abbrev pub has_room : ℕ → ℕ → ℕ → Bool
has_room size id count = nat_le 7 size && (nat_le size 1440 && (nat_lt id 1024 && (nat_le 1 count && nat_le count (size - 6))))

-- the content that a header and data make
abbrev pub content_of : Header → List ℕ → Content
content_of h bytes = record { toggle = h.toggle; last = h.last; id = h.id; bytes = bytes }

-- what a packet carries
abbrev pub carried : Packet → Content
carried p = content_of p.header p.«data».now

-- What writing does: the block of the content where that fits, else nothing.
abbrev pub Written : {A E : Type 0} → Content → (before after : List ℕ) → Result A E → Type 0
Written c before after (Ok _) = Fits (length before) c × (after ≡ block_of (length before) c)
Written c before after (Err _) = (Fits (length before) c → ⊥) × (after ≡ before)

-- the header's fields as they stand in the bits of a block
unfoldable pub fields_in : List Bool → Fields
fields_in bits =
    record {
      total = field_at 0 12 bits;
      header = record { toggle = slice_index_or bits 12 false; last = slice_index_or bits 14 false; id = field_at 15 10 bits };
      first = slice_index_or bits 13 false;
      indicator = slice_index_or bits 25 false;
      reserved = field_at 26 6 bits;
    }

-- every byte is zero
abbrev pub all_zero : List ℕ → Bool
all_zero = list_all (λ x. x == 0)

-- a block is shorter or longer than any is
abbrev pub wrong_size : ℕ → Bool
wrong_size size = nat_lt size 7 || nat_lt 1440 size

-- the length is below 7 or above the block's size
abbrev pub wrong_length : Fields → ℕ → Bool
wrong_length f size = nat_lt f.total 7 || nat_lt size f.total

-- the packet's last 16 bits are not the check of those before them
abbrev pub wrong_check : Fields → List Bool → Bool
wrong_check f bits = not (field_at (8 * (f.total - 2)) 16 bits == crc16_of (take (8 * (f.total - 2)) bits))

-- the fill indicator or a reserved bit is 1
abbrev pub wrong_reserved : Fields → Bool
wrong_reserved f = f.indicator || not (f.reserved == 0)

-- first is 1 and the id is not 0, or first is 0 and the id is 0
abbrev pub wrong_first : Fields → Bool
wrong_first f = f.first ⊕ nat_eq f.header.id 0

-- a byte behind the packet is not zero
abbrev pub wrong_filler : Fields → List ℕ → Bool
wrong_filler f block = not (all_zero (drop f.total block))

-- what makes a block bad, given the header's fields and the block's bits
unfoldable pub bad_block : Fields → List ℕ → List Bool → Bool
bad_block f block bits =
    wrong_length f (length block) || (wrong_check f bits || (wrong_reserved f || (wrong_first f || wrong_filler f block)))

-- a block holds no packet
abbrev pub is_bad : List ℕ → Bool
is_bad block = wrong_size (length block) || bad_block (fields_in (spread 8 block)) block (spread 8 block)

-- the content that fields state of a block: the data stand between header and check
abbrev pub stated : Fields → List ℕ → Content
stated f block = content_of f.header (take (f.total - 6) (drop 4 block))

-- the content of the packet that a block holds, if it holds one
unfoldable pub packet_in : List ℕ → Option Content
packet_in block = cond (is_bad block) None (Some (stated (fields_in (spread 8 block)) block))

-- the content that a reader's answer states, if it states one
abbrev pub answered : Result Packet BadPacket → Option Content
answered (Ok p) = Some (carried p)
answered (Err _) = None

-- A reader's answer is right: a content exactly where it fits and the block is that content's.
abbrev pub Reads : List ℕ → Option Content → Type 0
Reads block answer =
    (c : Content) → (answer ≡ Some c → Fits (length block) c × (block ≡ block_of (length block) c)) ×
    (Fits (length block) c → block ≡ block_of (length block) c → answer ≡ Some c)
