-- A line-up: the mode of a frame, what each of its cells carries, and the code of its data. What may be asked of one, and why it is refused.
use Rattle.std.specs.Prelude.{◌≡◌, ℕ, ◌+◌, ◌*◌, ◌/◌, ◌%◌, ◌<◌, ◌≤◌, Bool, true, false, cond, ◌&&◌, List, [], ◌∷◌, length, ℤ, Some, Ok, Err, count_by, Option, Result, ◌==◌, nat_eq, nat_le, nat_lt, slice_index}
use Rattle.staircase.specs.Staircase.{BadExponent, ExponentsKnown}
use Rattle.refusals.specs.declared.Refusal.{Refusal}
use Rattle.refusals.specs.declared.Refusal.TheVariants.{ModeOutOfRange, PlanLength, PlanByte, FewStreamCells, CodeShape, ExponentOutOfRange, BlockLength, FewDataCells}

-- the carriers of a symbol, by the number of the occupancy
abbrev pub carriers_of : ℕ → ℕ
carriers_of occupancy = slice_index (23 ∷ 69 ∷ 115 ∷ 229 ∷ []) occupancy

-- the cells of a frame: 15 symbols
abbrev pub cells_of : ℕ → ℕ
cells_of occupancy = 15 * carriers_of occupancy

-- how many cells of a plan are of a kind: 0 empty, 1 fixed plus, 2 fixed minus, 3 MIS, 4 TIS, 5 data
abbrev pub cells_of_kind : ℕ → List ℕ → ℕ
cells_of_kind kind plan = count_by (λ byte. nat_eq byte kind) plan

-- the cells that the TIS takes, by the number of its constellation
abbrev pub tis_cells : ℕ → ℕ
tis_cells tis = cond (tis == 0) 102 51

-- K, by the number of the rate: M at one half, 3 × M at three quarters
abbrev pub columns_for : ℕ → ℕ → ℕ
columns_for rate rows = cond (rate == 0) rows (3 * rows)

-- B, the data words of a frame, by the number of the data constellation
abbrev pub data_words : ℕ → ℕ
data_words constellation = constellation + 1

-- the bits of a frame's block: B messages of K groups of L bits
abbrev pub block_bits : (constellation lift columns : ℕ) → ℕ
block_bits constellation lift columns = data_words constellation * (columns * lift)

-- C, the bytes of a frame's block
abbrev pub block_bytes : (constellation lift columns : ℕ) → ℕ
block_bytes constellation lift columns = block_bits constellation lift columns / 8

-- the cells that the data take: the bits of a word, two to a cell, since each word has two bits in every data cell
abbrev pub data_cells : (lift rows columns : ℕ) → ℕ
data_cells lift rows columns = (columns + rows) * lift / 2

-- 1: each number of the mode is in range
abbrev pub mode_known : (occupancy tis constellation rate : ℕ) → Bool
mode_known occupancy tis constellation rate = nat_lt occupancy 4 && (nat_lt tis 2 && (nat_lt constellation 3 && nat_lt rate 2))

-- 2: the plan has a byte for each cell
abbrev pub plan_whole : (occupancy : ℕ) → List ℕ → Bool
plan_whole occupancy plan = length plan == cells_of occupancy

-- 3: no byte of the plan exceeds 5
abbrev pub BytesKnown : List ℕ → Type 0
BytesKnown plan = (k : ℕ) → k < length plan → slice_index plan k ≤ 5

-- a place of the plan with a byte above 5
abbrev pub BadByte : List ℕ → ℕ → Type 0
BadByte plan place = (place < length plan) × (5 < slice_index plan place)

-- 4: the MIS and the TIS have cells enough
abbrev pub streams_fit : (tis : ℕ) → List ℕ → Bool
streams_fit tis plan = nat_le 14 (cells_of_kind 3 plan) && nat_le (tis_cells tis) (cells_of_kind 4 plan)

-- 5: L, M and K are in range, K fits the rate, and there are M × K exponents
abbrev pub code_shaped : (rate lift rows columns count : ℕ) → Bool
code_shaped rate lift rows columns count =
    (nat_le 1 lift && nat_le lift 160)
    && ((nat_le 1 rows && nat_le rows 16)
    && ((nat_le 1 columns && nat_le columns 24)
    && (columns == columns_for rate rows && count == rows * columns)))

-- 7: the block is of whole bytes, 7 or more
abbrev pub block_fits : (constellation lift columns : ℕ) → Bool
block_fits constellation lift columns =
    (block_bits constellation lift columns % 8 == 0) && nat_le 7 (block_bytes constellation lift columns)

-- 8: the data have cells enough
abbrev pub data_fits : (lift rows columns : ℕ) → List ℕ → Bool
data_fits lift rows columns plan = nat_le (data_cells lift rows columns) (cells_of_kind 5 plan)

-- what is asked of a line-up: the four numbers of the mode, the cell plan and the numbers of the data code
pub record Asked : Type 0 where
  pub occupancy : ℕ
  pub tis : ℕ
  pub constellation : ℕ
  pub rate : ℕ
  pub plan : List ℕ
  pub lift : ℕ
  pub rows : ℕ
  pub columns : ℕ
  pub exponents : List ℤ

-- the same by its parts
abbrev pub asked : (occupancy tis constellation rate : ℕ) → List ℕ → (lift rows columns : ℕ) → List ℤ → Asked
asked o t d r plan lift rows columns exponents =
    record { occupancy = o; tis = t; constellation = d; rate = r; plan = plan; lift = lift; rows = rows; columns = columns; exponents = exponents }

-- what is asked passes each of the eight
abbrev pub Passes1 : Asked → Type 0
Passes1 a = mode_known a.occupancy a.tis a.constellation a.rate ≡ true

abbrev pub Passes2 : Asked → Type 0
Passes2 a = plan_whole a.occupancy a.plan ≡ true

abbrev pub Passes3 : Asked → Type 0
Passes3 a = BytesKnown a.plan

abbrev pub Passes4 : Asked → Type 0
Passes4 a = streams_fit a.tis a.plan ≡ true

abbrev pub Passes5 : Asked → Type 0
Passes5 a = code_shaped a.rate a.lift a.rows a.columns (length a.exponents) ≡ true

-- 6: each exponent is in range
abbrev pub Passes6 : Asked → Type 0
Passes6 a = ExponentsKnown a.lift a.exponents

abbrev pub Passes7 : Asked → Type 0
Passes7 a = block_fits a.constellation a.lift a.columns ≡ true

abbrev pub Passes8 : Asked → Type 0
Passes8 a = data_fits a.lift a.rows a.columns a.plan ≡ true

-- it passes the first two, three … eight
abbrev pub Pass1 : Asked → Type 0
Pass1 a = Passes1 a

abbrev pub Pass2 : Asked → Type 0
Pass2 a = Pass1 a × Passes2 a

abbrev pub Pass3 : Asked → Type 0
Pass3 a = Pass2 a × Passes3 a

abbrev pub Pass4 : Asked → Type 0
Pass4 a = Pass3 a × Passes4 a

abbrev pub Pass5 : Asked → Type 0
Pass5 a = Pass4 a × Passes5 a

abbrev pub Pass6 : Asked → Type 0
Pass6 a = Pass5 a × Passes6 a

abbrev pub Pass7 : Asked → Type 0
Pass7 a = Pass6 a × Passes7 a

abbrev pub Pass8 : Asked → Type 0
Pass8 a = Pass7 a × Passes8 a

-- what is asked is refused for the first that it fails; at a byte and an exponent the place handed back is one that is bad
abbrev pub Refuses : Asked → Refusal → Type 0
Refuses a ModeOutOfRange = mode_known a.occupancy a.tis a.constellation a.rate ≡ false
Refuses a PlanLength = Pass1 a × (plan_whole a.occupancy a.plan ≡ false)
Refuses a (PlanByte place) = Pass2 a × BadByte a.plan place
Refuses a FewStreamCells = Pass3 a × (streams_fit a.tis a.plan ≡ false)
Refuses a CodeShape = Pass4 a × (code_shaped a.rate a.lift a.rows a.columns (length a.exponents) ≡ false)
Refuses a (ExponentOutOfRange place) = Pass5 a × BadExponent a.lift a.exponents place
Refuses a BlockLength = Pass6 a × (block_fits a.constellation a.lift a.columns ≡ false)
Refuses a FewDataCells = Pass7 a × (data_fits a.lift a.rows a.columns a.plan ≡ false)
Refuses a _ = ⊥

-- what a line-up holds, if it holds anything, passes
abbrev pub Holds : Option Asked → (Asked → Type 0) → Type 0
Holds view passes = (a : Asked) → view ≡ Some a → passes a

-- What filling a line-up does, by what it holds before and afterwards: it holds what was asked where that passes all eight, and else it is as it was.
abbrev pub Filled : (before after : Option Asked) → Asked → Result (Unit {0}) Refusal → Type 0
Filled before after a (Ok done) = Pass8 a × (after ≡ Some a)
Filled before after a (Err refusal) = Refuses a refusal × (after ≡ before)
