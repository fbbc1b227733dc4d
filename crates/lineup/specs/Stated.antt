-- What the streams of a frame state of its mode.
use Rattle.std.specs.Prelude.{ℕ, ◌<◌, ◌≤◌}
use Rattle.std.proofs.Common.{lit≤, arith}
use Rattle.modes.specs.Modes.{data_coding, data_number, occupancy_number, rate_number}
use Rattle.modes.specs.declared.mode.Mis.{Mis}
use Rattle.modes.specs.declared.mode.Occupancy.{Occupancy}
use Rattle.modes.specs.declared.mode.Occupancy.TheVariants.{Khz1, Khz3, Khz5, Khz10}
use Rattle.modes.specs.declared.mode.DataConstellation.{DataConstellation}
use Rattle.modes.specs.declared.mode.DataConstellation.TheVariants.{Qam4, Qam16, Qam64}
use Rattle.modes.specs.declared.rate.Rate.{Rate}
use Rattle.modes.specs.declared.rate.Rate.TheVariants.{Half, ThreeQuarters}
use Rattle.modes.specs.declared.station.Station.{Station}
use Rattle.modes.specs.declared.station.Tis.{Tis}
use Rattle.lineup.specs.declared.mode.Mode.{Mode}

-- the MIS states the occupancy and both constellations
abbrev pub stated_mis : Mode → Mis
stated_mis m = record { occupancy = m.occupancy; tis = m.tis; «data» = m.«data» }

-- the data coding has the occupancy, the data constellation and the rate
abbrev pub coding_of : Mode → ℕ
coding_of m = data_coding m.occupancy m.«data» m.rate

occupancy_below : (o : Occupancy) → occupancy_number o ≤ 3
occupancy_below Khz1 = lit≤ tt
occupancy_below Khz3 = lit≤ tt
occupancy_below Khz5 = lit≤ tt
occupancy_below Khz10 = lit≤ tt

data_below : (d : DataConstellation) → data_number d ≤ 2
data_below Qam4 = lit≤ tt
data_below Qam16 = lit≤ tt
data_below Qam64 = lit≤ tt

rate_below : (r : Rate) → rate_number r ≤ 1
rate_below Half = lit≤ tt
rate_below ThreeQuarters = lit≤ tt

-- it has five bits
pub coding_below : (m : Mode) → coding_of m < 32
coding_below m =
    let o = occupancy_below m.occupancy in
    let d = data_below m.«data» in
    let r = rate_below m.rate in
    omega arith

-- the TIS states the data coding and the station
abbrev pub stated_tis : Mode → Station → Tis
stated_tis m station = record { coding = coding_of m; station = station; below = coding_below m }
