-- The mode of a frame by its numbers.
use Rattle.std.specs.Prelude.{ℕ, ◌+◌, ◌*◌, cond, List, [], ◌∷◌, Ok, Err, Result, ◌==◌}
use Rattle.modes.specs.declared.mode.Occupancy.{Occupancy}
use Rattle.modes.specs.declared.mode.Occupancy.TheVariants.{Khz1, Khz3, Khz5, Khz10}
use Rattle.modes.specs.declared.mode.TisConstellation.{TisConstellation}
use Rattle.modes.specs.declared.mode.TisConstellation.TheVariants.{Qam4 as TisQam4, Qam16 as TisQam16}
use Rattle.modes.specs.declared.mode.DataConstellation.{DataConstellation}
use Rattle.modes.specs.declared.mode.DataConstellation.TheVariants.{Qam4 as DataQam4, Qam16 as DataQam16, Qam64 as DataQam64}
use Rattle.modes.specs.declared.unknown.UnknownNumber.{UnknownNumber}
use Rattle.modes.specs.declared.rate.Rate.{Rate}
use Rattle.modes.specs.declared.rate.Rate.TheVariants.{Half, ThreeQuarters}

-- the numbers of the occupancies
abbrev pub occupancy_number : Occupancy → ℕ
occupancy_number Khz1 = 0
occupancy_number Khz3 = 1
occupancy_number Khz5 = 2
occupancy_number Khz10 = 3

-- the numbers of the constellations of the TIS stream
abbrev pub tis_number : TisConstellation → ℕ
tis_number TisQam4 = 0
tis_number TisQam16 = 1

-- the cells that the TIS takes: its word has 203 bits, and a cell carries two of them, or four
abbrev pub tis_count : TisConstellation → ℕ
tis_count TisQam4 = 102
tis_count TisQam16 = 51

-- the numbers of the constellations of the data stream
abbrev pub data_number : DataConstellation → ℕ
data_number DataQam4 = 0
data_number DataQam16 = 1
data_number DataQam64 = 2

-- which of some values has a number, if one has
abbrev pub numbered : {X : Type 0} → (X → ℕ) → List X → ℕ → Result X UnknownNumber
numbered number [] n = Err (record {})
numbered number (x ∷ xs) n = cond (n == number x) (Ok x) (numbered number xs n)

-- which occupancy has a number
abbrev pub occupancy_of : ℕ → Result Occupancy UnknownNumber
occupancy_of n = numbered occupancy_number (Khz1 ∷ Khz3 ∷ Khz5 ∷ Khz10 ∷ []) n

-- which constellation of the TIS stream has a number
abbrev pub tis_of : ℕ → Result TisConstellation UnknownNumber
tis_of n = numbered tis_number (TisQam4 ∷ TisQam16 ∷ []) n

-- which constellation of the data stream has a number
abbrev pub data_of : ℕ → Result DataConstellation UnknownNumber
data_of n = numbered data_number (DataQam4 ∷ DataQam16 ∷ DataQam64 ∷ []) n

-- the numbers of the rates of the data stream's code
abbrev pub rate_number : Rate → ℕ
rate_number Half = 0
rate_number ThreeQuarters = 1

-- which rate has a number
abbrev pub rate_of : ℕ → Result Rate UnknownNumber
rate_of n = numbered rate_number (Half ∷ ThreeQuarters ∷ []) n

-- the data coding: occupancy, data constellation and rate in one number of five bits
abbrev pub data_coding : Occupancy → DataConstellation → Rate → ℕ
data_coding o d r = occupancy_number o * 8 + data_number d * 2 + rate_number r
