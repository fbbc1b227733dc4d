use Rattle.std.proofs.Common.{[], ◌++◌, refl, ◌∙◌, arith}
use Rattle.std.proofs.lemmas.List.{append-nil, drop_all}
use Rattle.bits.specs.Bits.{bits_of}
use Rattle.modes.specs.Modes.{occupancy_number, tis_number, data_number}
use Rattle.streams.specs.Mis.{mis_fields, mis_stated}
use Rattle.bits.proofs.Bits.{field_more}
use Rattle.streams.proofs.MisLaws.{mis_stated_back}
use Rattle.streams.proofs.RecordLaws.{told_by_fields}
use Rattle.streams.proofs.mis.MisRecord14.write_fields.Goals as goal

pub returns : goal.returns
unfolding mis_fields bits_of
returns c =
    let entry = c.args.fields.now in
    let m = c.args.self in
    let o = occupancy_number m.occupancy in
    let t = tis_number m.tis in
    let d = data_number m.«data» in
    let first = field_more [] entry entry c.write_number.new.bits 0 2 o c.from-2.result refl (omega arith) refl c.write_number.ensures (c.from-2.ensures ∙ c.from.ensures) in
    let second = field_more (bits_of 2 o) entry _ c.write_number-2.new.bits 2 1 t c.from-4.result refl (omega arith) first c.write_number-2.ensures (c.from-4.ensures ∙ c.from-3.ensures) in
    let third = field_more (bits_of 2 o ++ bits_of 1 t) entry _ c.write_number-3.new.bits 3 2 d c.from-6.result refl (omega arith) second c.write_number-3.ensures (c.from-6.ensures ∙ c.from-5.ensures) in
    let fourth = field_more (bits_of 2 o ++ bits_of 1 t ++ bits_of 2 d) entry _ c.write_number-4.new.bits 5 1 0 0 refl (omega arith) third c.write_number-4.ensures refl in
    let none = drop_all 6 entry (omega arith) in
    let whole = append-nil (mis_fields m) in
    record {
      value = cc;
      apart = λ other e. told_by_fields mis_fields mis_stated mis_stated_back other m e;
    }
