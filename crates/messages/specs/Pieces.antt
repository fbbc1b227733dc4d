-- Pieces: what a message is cut into.
use Rattle.std.specs.Prelude.{ℕ, ◌+◌, ◌-◌, ◌*◌, ◌/◌, min, max, List, take, drop}

-- the bytes of data in a packet, 1 to 1434: a number out of range counts as the nearest in it
abbrev pub piece_length_of : ℕ → ℕ
piece_length_of n = max (min n 1434) 1

-- how many pieces of d bytes, the last one of the rest, a message of n bytes makes
abbrev pub piece_count : ℕ → ℕ → ℕ
piece_count d n = (n + d - 1) / d

-- the piece with the id i, counted from 0
abbrev pub piece : ℕ → List ℕ → ℕ → List ℕ
piece d message i = take d (drop (i * d) message)
