-- What a cell carries, by its number.
use Rattle.std.specs.Prelude.{ℕ, List, [], ◌∷◌, map, Result}
use Rattle.modes.specs.declared.unknown.UnknownNumber.{UnknownNumber}
use Rattle.modes.specs.Modes.{numbered}
use Rattle.lineup.specs.declared.kind.CellKind.{CellKind}
use Rattle.lineup.specs.declared.kind.CellKind.TheVariants.{Empty, Plus, Minus, Mis, Tis, Data}

-- the numbers of the kinds
abbrev pub kind_number : CellKind → ℕ
kind_number Empty = 0
kind_number Plus = 1
kind_number Minus = 2
kind_number Mis = 3
kind_number Tis = 4
kind_number Data = 5

-- which kind has a number
abbrev pub kind_of : ℕ → Result CellKind UnknownNumber
kind_of n = numbered kind_number (Empty ∷ Plus ∷ Minus ∷ Mis ∷ Tis ∷ Data ∷ []) n

-- the bytes of a plan
abbrev pub plan_bytes : List CellKind → List ℕ
plan_bytes plan = map kind_number plan
