use Rattle.std.proofs.Common.{◌-◌, take, sym, ap, ◌∙◌, arith}
use Rattle.bits.proofs.Bits.{cut-below_128}
use Rattle.streams.specs.Records.{with_check}
use Rattle.streams.proofs.RecordLaws.{fields_front, length-with_check}
use Rattle.modem.proofs.ReadBack.{told_apart}
use Rattle.modem.proofs.stream.write_stream.Goals as goal

pub encode-requires-clause-below : goal.encode-requires-clause-below
encode-requires-clause-below g c = rw c.cut.ensures (cut-below_128 _ _)

pub returns-clause-apart : goal.returns-clause-apart
returns-clause-apart g c =
    let code = c.args.code.now in
    let sent = c.args.stated in
    let fields = g.R.Record.field_bits in
    let size = λ (r : g.row.R.Denot). g.met.R.Record.sized r in
    let front = λ (r : g.row.R.Denot). fields_front (fields r) (g.row.BITS - 8) (omega (arith, size r)) in
    let k = g.met.C.FixedCode.message code in
    told_apart g.row.MESSAGE (λ (r : g.row.R.Denot). with_check (fields r)) (λ r. omega (arith, length-with_check (fields r), size r, c.requires.symbols))
    (g.C.SendingCode.word code) (g.C.SendingCode.distance code)
    (λ m o h i b d l. g.met.C.SendingCode.distant code m o (h ∙ sym k) (i ∙ sym k) b d l) sent
    (λ other e. c.write_record-record.ensures.apart other (sym (front other) ∙ ap (take (g.row.BITS - 8)) e ∙ front sent))
