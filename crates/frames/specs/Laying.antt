-- The cells of a frame, by what the plan gives each of them to carry.
use Rattle.std.specs.Prelude.{ℕ, ◌+◌, ◌*◌, Bool, cond, List, [], ◌∷◌, drop, ℤ, pos, negsuc, nat_eq, slice_index_or}
use Rattle.std.specs.List.{flat_map}
use Rattle.cells.specs.declared.cell.Cell.{Cell}
use Rattle.cells.specs.Mapping.{origin}
use Rattle.lineup.specs.Kinds.{kind_number}
use Rattle.lineup.specs.declared.kind.CellKind.{CellKind}
use Rattle.lineup.specs.declared.kind.CellKind.TheVariants.{Empty, Plus, Minus, Mis, Tis, Data}

-- fixed plus and fixed minus: one unit length of 256 along the real axis
abbrev pub plus_cell : Cell
plus_cell = record { real = pos 256; imaginary = pos 0 }

abbrev pub minus_cell : Cell
minus_cell = record { real = negsuc 255; imaginary = pos 0 }

-- a cell is of the kind wanted
abbrev pub of_kind : CellKind → CellKind → Bool
of_kind wanted kind = nat_eq (kind_number kind) (kind_number wanted)

-- the next cell of a stream, (0, 0) where none is left
abbrev pub first : List Cell → Cell
first [] = origin
first (x ∷ xs) = x

-- the cells of a stream that are left behind a cell of some kind
abbrev pub left : CellKind → CellKind → List Cell → List Cell
left stream kind xs = cond (of_kind stream kind) (drop 1 xs) xs

-- the cell of a kind: an empty one is (0, 0); a stream's is the next of its cells
abbrev pub cell_for : CellKind → (mis tis «data» : List Cell) → Cell
cell_for Empty m t d = origin
cell_for Plus m t d = plus_cell
cell_for Minus m t d = minus_cell
cell_for Mis m t d = first m
cell_for Tis m t d = first t
cell_for Data m t d = first d

-- all cells of a plan: each stream fills its cells in number order, and its further cells are (0, 0)
unfoldable pub laid : List CellKind → (mis tis «data» : List Cell) → List Cell
laid [] m t d = []
laid (kind ∷ plan) m t d = cell_for kind m t d ∷ laid plan (left Mis kind m) (left Tis kind t) (left Data kind d)

-- the cells of a kind, in number order
unfoldable pub picked : CellKind → List CellKind → List Cell → List Cell
picked wanted [] xs = []
picked wanted (kind ∷ plan) [] = []
picked wanted (kind ∷ plan) (x ∷ xs) = cond (of_kind wanted kind) (x ∷ picked wanted plan xs) (picked wanted plan xs)

-- the two numbers of each cell, the real one first
abbrev pub numbers_of : List Cell → List ℤ
numbers_of cells = flat_map (λ x. x.real ∷ x.imaginary ∷ []) cells

-- the cell at a place, by the numbers of all cells
abbrev pub cell_at : List ℤ → ℕ → Cell
cell_at numbers i = record { real = slice_index_or numbers (2 * i) (pos 0); imaginary = slice_index_or numbers (2 * i + 1) (pos 0) }

-- the cells of numbers, two a cell
unfoldable pub cells_in : List ℤ → List Cell
cells_in [] = []
cells_in (x ∷ []) = []
cells_in (x ∷ y ∷ numbers) = record { real = x; imaginary = y } ∷ cells_in numbers
