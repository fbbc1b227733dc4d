-- The packets of a message.
use Rattle.std.specs.Prelude.{ℕ, ◌+◌, Bool, List, length, ◌==◌}
use Rattle.packets.specs.Packets.{Content}
use Rattle.messages.specs.Pieces.{piece_count, piece}

-- the packet of a message's piece i
abbrev pub packet_of : ℕ → List ℕ → Bool → ℕ → Content
packet_of d message toggle i = record {
  toggle = toggle;
  last = (i + 1 == piece_count d (length message));
  id = i;
  bytes = piece d message i;
}
