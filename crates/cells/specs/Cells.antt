-- Cells, the orders of modulation, and how far a cell may be moved.
use Rattle.std.specs.Prelude.{◌≡◌, ℕ, ◌*◌, ◌≤◌, Bool, List, length, ℤ, ◌-ℤ◌, unsigned_abs}
use Rattle.cells.specs.declared.cell.Cell.{Cell}
use Rattle.cells.specs.declared.cell.Order.{Order}
use Rattle.cells.specs.declared.cell.Order.TheVariants.{Four, Sixteen, SixtyFour}

-- the bits that each axis of a cell carries: 4-QAM one, 16-QAM two, 64-QAM three
abbrev pub axis_bits : Order → ℕ
axis_bits Four = 1
axis_bits Sixteen = 2
axis_bits SixtyFour = 3

-- the bits that a cell carries, on both axes
abbrev pub cell_bits : Order → ℕ
cell_bits o = 2 * axis_bits o

-- how far two numbers of an axis are apart
abbrev pub apart : ℤ → ℤ → ℕ
apart a b = unsigned_abs (a -ℤ b)

-- two cells are at most n units apart on each axis
abbrev pub Near : ℕ → Cell → Cell → Type 0
Near n x y = (apart x.real y.real ≤ n) × (apart x.imaginary y.imaginary ≤ n)

-- the point of each `width` bits, moved by at most 255 units on each axis, is decided as sent
abbrev pub Steady : (List Bool → Cell) → ℕ → (Cell → List Bool) → Type 0
Steady point width decided =
    (bits : List Bool) (x : Cell) → length bits ≡ width → Near 255 (point bits) x → decided x ≡ bits
