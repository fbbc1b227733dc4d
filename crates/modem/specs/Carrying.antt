-- Any stream of seven-bit symbols: from its record to a message, and from a word to cells and back.
use Rattle.std.specs.Prelude.{◌≡◌, ℕ, ◌<◌, Bool, List}
use Rattle.codes.specs.Symbols.{differing}
use Rattle.cells.specs.Mapping.{mapped, decided_bits}
use Rattle.cells.specs.declared.cell.Cell.{Cell}
use Rattle.bits.specs.Bits.{cut, spread}
use Rattle.bits.specs.Scrambling.{scrambled}

-- the message of k symbols that a record gives: it is scrambled first, and then cut
abbrev pub message_of : ℕ → List Bool → List ℕ
message_of k bits = cut 7 k (scrambled 0 bits)

-- the record that a message gives back
abbrev pub record_of : List ℕ → List Bool
record_of message = scrambled 0 (spread 7 message)

-- `count` cells that carry a word, `width` bits to a cell
abbrev pub cells_of : (List Bool → Cell) → (width count : ℕ) → List ℕ → List Cell
cells_of point width count word = mapped point width count (spread 7 word)

-- the n symbols that cells are decided for
abbrev pub symbols_of : (Cell → List Bool) → ℕ → List Cell → List ℕ
symbols_of decided n cells = cut 7 n (decided_bits decided cells)

-- Words of different records differ in at least `distance` places: what is sent, and any other.
abbrev pub ToldApart : {R : Type 0} → (R → List Bool) → ℕ → (List ℕ → List ℕ) → (distance : ℕ) → R → Type 0
ToldApart {R} record_bits k word distance sent =
    (other : R) → differing (λ (x : ℕ). x) (word (message_of k (record_bits sent))) (word (message_of k (record_bits other))) < distance → other ≡ sent
