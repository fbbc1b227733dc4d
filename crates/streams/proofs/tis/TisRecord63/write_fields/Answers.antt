use Rattle.std.proofs.Common.{[], ◌++◌, refl, ap, ◌∙◌, arith}
use Rattle.std.proofs.lemmas.List.{append-nil, drop_all}
use Rattle.bits.specs.Bits.{bits_of}
use Rattle.streams.specs.Tis.{tis_fields, tis_stated}
use Rattle.bits.proofs.Bits.{field_more}
use Rattle.streams.proofs.RecordLaws.{told_by_fields}
use Rattle.streams.proofs.TisLaws.{tis_stated_back}
use Rattle.streams.proofs.tis.TisRecord63.write_fields.Goals as goal

pub returns : goal.returns
unfolding tis_fields bits_of
returns c =
    let entry = c.args.fields.now in
    let t = c.args.self in
    let k = bits_of 5 t.coding in
    let s = t.station in
    let kn = k ++ bits_of 30 s.number in
    let knh = kn ++ bits_of 5 s.hour in
    let knhm = knh ++ bits_of 6 s.minute in
    let knhmd = knhm ++ bits_of 6 s.duration in
    let first = field_more [] entry entry c.write_number.new.bits 0 5 t.coding c.from.result refl (omega arith) refl c.write_number.ensures c.from.ensures in
    let second = field_more k entry _ c.write_number-2.new.bits 5 30 s.number c.station.result refl (omega arith) first c.write_number-2.ensures c.station.ensures in
    let third = field_more kn entry _ c.write_number-3.new.bits 35 5 s.hour c.hour.result refl (omega arith) second c.write_number-3.ensures c.hour.ensures in
    let fourth = field_more knh entry _ c.write_number-4.new.bits 40 6 s.minute c.minute.result refl (omega arith) third c.write_number-4.ensures c.minute.ensures in
    let fifth = field_more knhm entry _ c.write_number-5.new.bits 46 6 s.duration c.duration.result refl (omega arith) fourth c.write_number-5.ensures c.duration.ensures in
    let sixth = field_more knhmd entry _ c.write_number-6.new.bits 52 3 0 0 refl (omega arith) fifth c.write_number-6.ensures refl in
    let none = drop_all 55 entry (omega arith) in
    record {
      value = sixth ∙ (ap (λ l. knhmd ++ bits_of 3 0 ++ l) none ∙ append-nil (knhmd ++ bits_of 3 0));
      apart = λ other e. told_by_fields tis_fields tis_stated tis_stated_back other t e;
    }
