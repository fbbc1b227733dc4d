-- The MIS record of 14 bits, and what it states.
use Rattle.std.specs.Prelude.{◌≡◌, ◌+◌, Bool, cond, ◌||◌, List, ◌++◌, length, refl, Ok, Err, Result, ◌==◌}
use Rattle.bits.specs.Bits.{bits_of, field_at}
use Rattle.modes.specs.declared.mode.Occupancy.{Occupancy}
use Rattle.modes.specs.declared.mode.TisConstellation.{TisConstellation}
use Rattle.modes.specs.declared.mode.DataConstellation.{DataConstellation}
use Rattle.modes.specs.declared.mode.Mis.{Mis}
use Rattle.modes.specs.declared.unknown.UnknownNumber.{UnknownNumber}
use Rattle.modes.specs.Modes.{occupancy_number, tis_number, data_number, occupancy_of, tis_of, data_of}
use Rattle.streams.specs.declared.records.BadRecord.{BadRecord}
use Rattle.streams.specs.Records.{record_read, with_check}

-- the record's first six bits: occupancy 2 bits, TIS constellation 1, data constellation 2, fill 1
unfoldable pub mis_fields : Mis → List Bool
mis_fields m =
    bits_of 2 (occupancy_number m.occupancy) ++ bits_of 1 (tis_number m.tis) ++ bits_of 2 (data_number m.«data») ++ bits_of 1 0

pub length-mis_fields : (m : Mis) → length (mis_fields m) + 8 ≡ 14
unfolding mis_fields bits_of
length-mis_fields m = refl

-- the record: these six bits and their check of eight bits
abbrev pub mis_record : Mis → List Bool
mis_record m = with_check (mis_fields m)

-- a mode from its three parts; a number that nothing has makes no mode
abbrev pub mode_of : Result Occupancy UnknownNumber → Result TisConstellation UnknownNumber → Result DataConstellation UnknownNumber → Result Mis BadRecord
mode_of (Err e) t d = Err (record {})
mode_of (Ok o) (Err e) d = Err (record {})
mode_of (Ok o) (Ok t) (Err e) = Err (record {})
mode_of (Ok o) (Ok t) (Ok d) = Ok (record { occupancy = o; tis = t; «data» = d })

-- what the first six bits state: nothing where the fill is 1 or the data constellation is 3
unfoldable pub mis_stated : List Bool → Result Mis BadRecord
mis_stated bits =
    cond (field_at 5 1 bits == 1 || field_at 3 2 bits == 3) (Err (record {}))
    (mode_of (occupancy_of (field_at 0 2 bits)) (tis_of (field_at 2 1 bits)) (data_of (field_at 3 2 bits)))

-- what a record of 14 bits states
abbrev pub mis_read : List Bool → Result Mis BadRecord
mis_read = record_read 6 mis_stated
