-- The TIS record of 63 bits, and what it states.
use Rattle.std.specs.Prelude.{◌≡◌, ◌+◌, Bool, cond, List, ◌++◌, length, refl, Err, Result, ◌==◌}
use Rattle.std.specs.Option.{ok_or}
use Rattle.bits.specs.Bits.{bits_of, field_at}
use Rattle.streams.specs.Records.{record_read, with_check}
use Rattle.streams.specs.declared.records.BadRecord.{BadRecord}
use Rattle.modes.specs.declared.station.Tis.{Tis}
use Rattle.modes.specs.Stations.{station_of, tis_made}

-- the record's first 55 bits: data coding 5 bits, station 30, hour 5, minute 6, duration 6, reserved 3
unfoldable pub tis_fields : Tis → List Bool
tis_fields t =
    bits_of 5 t.coding ++ bits_of 30 t.station.number ++ bits_of 5 t.station.hour ++ bits_of 6 t.station.minute ++
    bits_of 6 t.station.duration ++ bits_of 3 0

pub length-tis_fields : (t : Tis) → length (tis_fields t) + 8 ≡ 63
unfolding tis_fields bits_of
length-tis_fields t = refl

-- the record: these 55 bits and their check of eight bits
abbrev pub tis_record : Tis → List Bool
tis_record t = with_check (tis_fields t)

-- what the first 55 bits state: nothing where a reserved bit is 1 or a number is out of range
unfoldable pub tis_stated : List Bool → Result Tis BadRecord
tis_stated bits =
    cond (field_at 52 3 bits == 0)
    (ok_or (tis_made (field_at 0 5 bits) (station_of (field_at 5 30 bits) (field_at 35 5 bits) (field_at 40 6 bits) (field_at 46 6 bits))) (record {}))
    (Err (record {}))

-- what a record of 63 bits states
abbrev pub tis_read : List Bool → Result Tis BadRecord
tis_read = record_read 55 tis_stated
