use Rattle.std.proofs.Common.{◌≡◌, ◌+◌, ◌-◌, length, take, drop, sym, ap, ◌∙◌, arith}
use Rattle.bits.specs.Bits.{number_of}
use Rattle.bits.specs.Crc.{crc8_of}
use Rattle.streams.proofs.RecordLaws.{record_refused, record_taken, refused_exactly, taken_exactly}
use Rattle.streams.proofs.records.read_record.Goals as goal

pub returns-then-read_number-from : goal.returns-then-read_number-from
returns-then-read_number-from g c =
    let size = g.row.BITS - 8 in
    let bits = c.args.bits.now in
    let room = g.met.R.Record.room in
    let long : length bits ≡ size + 8 = omega (arith, c.told-bits) in
    let wrong : number_of (drop size bits) ≡ crc8_of (take size bits) → ⊥ = λ right. c.if-read_number-from.true (c.read_number.ensures ∙ ap number_of c.split_at.ensures.back ∙ right ∙ ap crc8_of (sym c.split_at.ensures.front) ∙ sym c.crc8.ensures.value ∙ sym c.from.ensures) in
    record {
      value = record_refused g.R.Record.field_bits g.R.Record.stated size bits long wrong;
      exactly = refused_exactly g.R.Record.field_bits g.R.Record.stated size bits long wrong;
    }

pub returns : goal.returns
returns g c =
    let size = g.row.BITS - 8 in
    let bits = c.args.bits.now in
    let room = g.met.R.Record.room in
    let long : length bits ≡ size + 8 = omega (arith, c.told-bits) in
    let right : number_of (drop size bits) ≡ crc8_of (take size bits) = ap number_of (sym c.split_at.ensures.back) ∙ sym c.read_number.ensures ∙ c.if-read_number-from.false ∙ c.from.ensures ∙ c.crc8.ensures.value ∙ ap crc8_of c.split_at.ensures.front in
    record {
      value = c.read_fields.ensures.value ∙ ap g.R.Record.stated c.split_at.ensures.front ∙ record_taken g.R.Record.field_bits g.R.Record.stated size bits long right;
      exactly = taken_exactly g.R.Record.field_bits g.R.Record.stated size bits long c.read_fields.result right (rw c.split_at.ensures.front at c.read_fields.ensures.exactly);
    }
