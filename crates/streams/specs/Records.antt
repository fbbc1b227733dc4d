-- Records of streams: fields, and behind them their check of eight bits.
use Rattle.std.specs.Prelude.{◌≡◌, ℕ, Bool, cond, List, ◌++◌, take, Ok, Err, Result, ◌==◌}
use Rattle.bits.specs.Bits.{bits_of, field_at}
use Rattle.bits.specs.Crc.{crc8_of}
use Rattle.streams.specs.declared.records.BadRecord.{BadRecord}

-- the record of fields: these and their check of eight bits
unfoldable pub with_check : List Bool → List Bool
with_check fields = fields ++ bits_of 8 (crc8_of fields)

-- what a record with so many bits of fields states: nothing where its check is wrong, else what its fields state
unfoldable pub record_read : {R : Type 0} → ℕ → (List Bool → Result R BadRecord) → List Bool → Result R BadRecord
record_read size stated bits = cond (field_at size 8 bits == crc8_of (take size bits)) (stated (take size bits)) (Err (record {}))

-- A reader's answer is right: what is stated exactly where the bits are those that state it.
abbrev pub ReadsBits : {R : Type 0} → (R → List Bool) → List Bool → Result R BadRecord → Type 0
ReadsBits written bits r = (x : _) → (r ≡ Ok x → bits ≡ written x) × (bits ≡ written x → r ≡ Ok x)
