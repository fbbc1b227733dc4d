use Rattle.std.proofs.Common.{◌≡◌, ◌+◌, ◌-◌, ◌++◌, false, length, drop, replicate, arith}
use Rattle.std.proofs.lemmas.List.{length-append, length-drop, length-replicate}
use Rattle.streams.proofs.RecordLaws.{check_written}
use Rattle.streams.proofs.records.write_record.Goals as goal

pub returns-clause-value : goal.returns-clause-value
returns-clause-value g c =
    let size = g.row.BITS - 8 in
    let room = g.met.R.Record.room in
    let fields = g.R.Record.field_bits c.args.stated in
    let front = c.write_fields.new.fields in
    let tail = drop size (replicate g.row.BITS false) in
    let sized = g.met.R.Record.sized c.args.stated in
    let long : length fields ≡ size = omega arith in
    let eight : length tail ≡ 8 = simp (length-drop, length-replicate) (omega arith) in
    let all : length (front ++ tail) ≡ size + 8 = simp length-append (rw (c.write_fields.ensures.value, long, eight)) in
    let width : length (front ++ tail) - size ≡ 8 = omega arith in
    rw width (check_written fields front tail c.write_number.new.bits size c.crc8-check.result c.from.result long c.write_fields.ensures.value eight
    c.crc8-check.ensures.value (rw width at c.write_number.ensures) c.from.ensures)
