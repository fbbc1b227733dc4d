-- What is printed of a mode, of a station, of a TIS, of a refusal and of a call that answers nothing.
use Rattle.std.specs.Prelude.{ℕ, List, [], ◌∷◌, ◌++◌, codes, decimal, Result, Ok, Err}
use Rattle.std.specs.List.{flat_map}
use Rattle.modes.specs.declared.mode.Mis.{Mis}
use Rattle.modes.specs.declared.station.Station.{Station}
use Rattle.modes.specs.declared.station.Tis.{Tis}
use Rattle.modes.specs.Modes.{occupancy_number, tis_number, data_number}
use Rattle.refusals.specs.declared.Refusal.{Refusal}
use Rattle.refusals.specs.declared.Refusal.TheVariants.{PlanByte, ExponentOutOfRange, OtherMode, DataBeyondReach}
use Rattle.refusals.specs.Refusals.{known}
use Rattle.desk.specs.Parts.{station_numbers}

-- numbers, a space before each
abbrev pub spaced : List ℕ → List ℕ
spaced numbers = flat_map (λ n. 32 ∷ decimal n) numbers

-- numbers, a space between them
abbrev pub parted : List ℕ → List ℕ
parted [] = []
parted (n ∷ numbers) = decimal n ++ spaced numbers

-- the three numbers of a mode that a MIS states
abbrev pub mode_text : Mis → List ℕ
mode_text m = parted (occupancy_number m.occupancy ∷ tis_number m.tis ∷ data_number m.«data» ∷ [])

-- station, hour, minute and duration
abbrev pub station_text : Station → List ℕ
station_text s = parted (station_numbers s)

-- the data coding, and the station
abbrev pub tis_text : Tis → List ℕ
tis_text t = codes "coding " ++ (decimal t.coding ++ (codes " station " ++ station_text t.station))

-- what the values are that a refusal hands back
abbrev pub label_of : Refusal → List ℕ
label_of (PlanByte _) = codes " place"
label_of (ExponentOutOfRange _) = codes " place"
label_of (OtherMode _ _ _) = codes " names"
label_of (DataBeyondReach _) = codes " word"
label_of _ = []

-- a refusal's number, and what it hands back
abbrev pub refused_text : Refusal → List ℕ
refused_text r = codes "refused " ++ (decimal (known r).number ++ (label_of r ++ spaced (known r).values))

-- that a call was done, or why it was refused
abbrev pub answered_text : Result (Unit {0}) Refusal → List ℕ
answered_text (Ok _) = codes "done"
answered_text (Err r) = refused_text r
