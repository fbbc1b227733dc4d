-- Parts of a mode and a station, by the numbers that a script has for them.
use Rattle.std.specs.Prelude.{◌≡◌, ℕ, cond, List, [], ◌∷◌, Result, Ok, Err, MatchResult, nat_lt}
use Rattle.modes.specs.declared.mode.Mis.{Mis}
use Rattle.modes.specs.declared.station.Station.{Station}
use Rattle.modes.specs.declared.station.Tis.{Tis}
use Rattle.modes.specs.declared.unknown.UnknownNumber.{UnknownNumber}
use Rattle.modes.specs.Modes.{occupancy_of, tis_of, data_of, rate_of, data_coding}
use Rattle.modes.specs.Stations.{allowed?}
use Rattle.desk.specs.declared.trouble.Trouble.{Trouble}
use Rattle.desk.specs.declared.trouble.Trouble.TheVariants.{OutOfRange}
use Rattle.desk.specs.Numbers.{unsigned_of}
use Rattle.desk.specs.Troubles.{◌>>=◌}

-- what has a number, and out of range where nothing has
abbrev pub in_range : {X : Type 0} → Result X UnknownNumber → Result X Trouble
in_range (Ok x) = Ok x
in_range (Err _) = Err OutOfRange

-- r is what a word's number names, where `gives` relates numbers and what they name
abbrev pub Names : {X : Type 0} → (ℕ → Result X UnknownNumber → Type 0) → List ℕ → Result X Trouble → Type 0
Names {X} gives word r = MatchResult (unsigned_of word) (λ n. (named : Result X UnknownNumber) × gives n named × (r ≡ in_range named)) (λ why. r ≡ Err why)

-- the part that a word's number names
abbrev pub part_of : {X : Type 0} → (ℕ → Result X UnknownNumber) → List ℕ → Result X Trouble
part_of named word = do
  n ← unsigned_of word
  in_range (named n)

-- the mode of three words
abbrev pub mode_of : (o t d : List ℕ) → Result Mis Trouble
mode_of o t d = do
  occupancy ← part_of occupancy_of o
  tis ← part_of tis_of t
  constellation ← part_of data_of d
  Ok (record { occupancy = occupancy; tis = tis; «data» = constellation })

-- the numbers of a station record: station, hour, minute and duration
abbrev pub station_numbers : Station → List ℕ
station_numbers s = s.number ∷ s.hour ∷ s.minute ∷ s.duration ∷ []

-- the numbers of the station record of four words
abbrev pub station_asked : (s h m d : List ℕ) → Result (List ℕ) Trouble
station_asked s h m d = do
  station ← unsigned_of s
  hour ← unsigned_of h
  minute ← unsigned_of m
  duration ← unsigned_of d
  cond (allowed? station hour minute duration) (Ok (station ∷ hour ∷ minute ∷ duration ∷ [])) (Err OutOfRange)

-- the numbers of a TIS: the data coding, and those of its station record
abbrev pub tis_numbers : Tis → List ℕ
tis_numbers t = t.coding ∷ station_numbers t.station

-- the numbers of the TIS of seven words
abbrev pub tis_asked : (o d r s h m u : List ℕ) → Result (List ℕ) Trouble
tis_asked o d r s h m u = do
  occupancy ← part_of occupancy_of o
  constellation ← part_of data_of d
  rate ← part_of rate_of r
  station ← station_asked s h m u
  cond (nat_lt (data_coding occupancy constellation rate) 32) (Ok (data_coding occupancy constellation rate ∷ station)) (Err OutOfRange)
