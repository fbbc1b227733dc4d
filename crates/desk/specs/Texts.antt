-- What the program prints of bits and cells.
use Rattle.std.specs.Prelude.{ℕ, Bool, true, false, List, [], ◌∷◌, ◌++◌, map, codes, decimal, encode_utf8_all, ℤ}
use Rattle.std.specs.Fmt.{signed_decimal}
use Rattle.std.specs.List.{flat_map}
use Rattle.cells.specs.declared.cell.Cell.{Cell}
use Rattle.desk.specs.declared.text.Steps.{Steps}

-- the digit that a bit is printed as
abbrev pub bit_digit : Bool → ℕ
bit_digit false = 48
bit_digit true = 49

-- the two numbers of a cell
abbrev pub numbers_of : Cell → List ℤ
numbers_of cell = cell.real ∷ cell.imaginary ∷ []

-- bits as one word
abbrev pub bits_shown : List Bool → List ℕ
bits_shown bits = encode_utf8_all (map bit_digit bits)

-- symbols, a space before each
abbrev pub symbols_shown : List ℕ → List ℕ
symbols_shown symbols = flat_map (λ n. 32 ∷ decimal n) symbols

-- numbers of cells, a space before each
abbrev pub values_shown : List ℤ → List ℕ
values_shown values = flat_map (λ n. 32 ∷ signed_decimal n) values

-- the numbers of cells, two a cell
abbrev pub cells_shown : List Cell → List ℕ
cells_shown cells = values_shown (flat_map numbers_of cells)

-- the line of a step, behind the stream's name
abbrev pub step_line : List ℕ → List ℕ → List ℕ → List ℕ
step_line name label shown = name ++ (label ++ (shown ++ 10 ∷ []))

-- the lines of a stream's steps
abbrev pub steps_lines : List ℕ → Steps → List ℕ
steps_lines name s =
    step_line name (codes ": record ") (bits_shown s.«record».now)
    ++ step_line name (codes ": scrambled ") (bits_shown s.scrambled.now)
    ++ step_line name (codes ": message") (symbols_shown s.message.now)
    ++ step_line name (codes ": word") (symbols_shown s.word.now)
    ++ step_line name (codes ": cells") (cells_shown s.cells.now)
