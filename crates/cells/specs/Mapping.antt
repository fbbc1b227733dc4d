-- The bits of a stream on its cells, over any points and any deciding.
use Rattle.std.specs.Prelude.{ℕ, zero, suc, ◌-◌, Bool, false, List, [], ◌∷◌, ◌++◌, length, take, drop, replicate, pos}
use Rattle.std.specs.List.{flat_map}
use Rattle.cells.specs.declared.cell.Cell.{Cell}
use Rattle.cells.specs.Cells.{Near}

-- the cell (0, 0)
abbrev pub origin : Cell
origin = record { real = pos 0; imaginary = pos 0 }

-- the first `width` bits, missing ones being 0
abbrev pub filled : ℕ → List Bool → List Bool
filled width bits = take width bits ++ replicate (width - length bits) false

-- the cell for the next bits of a stream, (0, 0) where none is left
abbrev pub next_cell : (List Bool → Cell) → ℕ → List Bool → Cell
next_cell point width [] = origin
next_cell point width (b ∷ bits) = point (filled width (b ∷ bits))

-- a stream fills its cells in order, `width` bits a cell
unfoldable pub mapped : (List Bool → Cell) → ℕ → ℕ → List Bool → List Cell
mapped point width zero bits = []
mapped point width (suc count) bits = next_cell point width bits ∷ mapped point width count (drop width bits)

-- the bits that cells are decided for, one cell after the other
abbrev pub decided_bits : (Cell → List Bool) → List Cell → List Bool
decided_bits decided cells = flat_map decided cells

-- cells, each moved by at most 255 units on each axis
abbrev pub Moved : List Cell → List Cell → Type 0
Moved [] [] = Unit {0}
Moved [] (x ∷ xs) = ⊥
Moved (p ∷ ps) [] = ⊥
Moved (p ∷ ps) (x ∷ xs) = Near 255 p x × Moved ps xs
