use Rattle.std.proofs.Common.{◌≡◌, ℕ, ◌*◌, ◌-◌, ◌<◌, ◌≤◌, Bool, List, [], length, Ok, Err, Result, sym, ap, ◌∙◌, arith}
use Rattle.std.proofs.lemmas.Result.{err_from_is_err_and}
use Rattle.cells.specs.Cells.{cell_bits}
use Rattle.cells.specs.declared.cell.Cell.{Cell}
use Rattle.cells.specs.declared.cell.Order.{Order}
use Rattle.codes.specs.declared.words.BeyondReach.{BeyondReach}
use Rattle.streams.specs.Records.{record_read, with_check}
use Rattle.streams.proofs.RecordLaws.{length-with_check}
use Rattle.modem.specs.Reading.{RecordMended, ReadsBack, StreamAnswer}
use Rattle.modem.specs.declared.carrying.Reading.{Reading}
use Rattle.modem.specs.declared.fault.StreamFault.{StreamFault}
use Rattle.modem.proofs.ReadBack.{Found, mended_sizes, right}
use Rattle.modem.proofs.stream.read_stream.Given as given
use Rattle.modem.proofs.stream.read_stream.Goals as goal

module _ (g : given.Over) (code : g.row.C.Denot) (points : g.row.Q.Denot) (o : Order) (cells : List Cell) (symbols : g.row.BITS ≡ 7 * g.row.MESSAGE) where
  record-size : (r : g.row.R.Denot) → length (with_check (g.R.Record.field_bits r)) ≡ g.row.MESSAGE * 7
  record-size r = omega (arith, length-with_check (g.R.Record.field_bits r), g.met.R.Record.sized r, symbols)

  -- what was found is answered right
  full : (r : Result (Reading g.row.R.Denot) StreamFault) →
      Found g.row.MESSAGE g.row.WORD (g.C.SendingCode.word code) (g.C.MendingCode.reach code) (g.Q.Constellation.decided points o) (λ (x : g.row.R.Denot). with_check (g.R.Record.field_bits x)) (record_read (g.row.BITS - 8) g.R.Record.stated) cells r
      → record {
        answer : StreamAnswer g.row.MESSAGE g.row.WORD (g.C.SendingCode.word code) (g.C.MendingCode.reach code) (g.Q.Constellation.decided points o) (λ (x : g.row.R.Denot). with_check (g.R.Record.field_bits x)) (record_read (g.row.BITS - 8) g.R.Record.stated) cells r;
        reads_back : (count : ℕ) → 7 * g.row.WORD ≤ cell_bits o * count → ReadsBack g.row.MESSAGE g.row.WORD (g.C.SendingCode.word code) (g.C.MendingCode.reach code) (g.Q.Constellation.decided points o) (λ (x : g.row.R.Denot). with_check (g.R.Record.field_bits x)) (record_read (g.row.BITS - 8) g.R.Record.stated) (g.Q.Constellation.point points o) (cell_bits o) count cells r;
      }
  full r f =
      let k = g.met.C.FixedCode.message code in
      let both =
      right g.row.MESSAGE g.row.WORD (g.C.SendingCode.word code) (g.C.SendingCode.distance code) (g.C.MendingCode.reach code)
      (g.Q.Constellation.point points o) (g.Q.Constellation.decided points o) (cell_bits o)
      (λ (x : g.row.R.Denot). with_check (g.R.Record.field_bits x)) (record_read (g.row.BITS - 8) g.R.Record.stated) record-size
      (λ m h. g.met.C.SendingCode.sized code m (h ∙ sym k) ∙ g.met.C.FixedCode.word code)
      (λ m h b. g.met.C.SendingCode.below code m (h ∙ sym k) b)
      (λ m p h i b d l. g.met.C.SendingCode.distant code m p (h ∙ sym k) (i ∙ sym k) b d l)
      (g.met.C.MendingCode.unique code) (g.met.Q.Constellation.steady points o) cells r f in
      record { answer = both.0; reads_back = λ count room. both.1 count (omega (arith, room)) }

  -- what was mended, by the sizes that the types name
  sizes : (before after : List ℕ) (bits_before bits_after : List Bool) (r : Result ℕ BeyondReach) →
      RecordMended (g.C.SendingCode.message_length code) (g.C.SendingCode.word_length code) (g.C.SendingCode.word code) (g.C.MendingCode.reach code) (g.Q.Constellation.decided points o) cells before after bits_before bits_after r
      → RecordMended g.row.MESSAGE g.row.WORD (g.C.SendingCode.word code) (g.C.MendingCode.reach code) (g.Q.Constellation.decided points o) cells before after bits_before bits_after r
  sizes before after bits_before bits_after r =
      mended_sizes (g.C.SendingCode.message_length code) g.row.MESSAGE (g.C.SendingCode.word_length code) g.row.WORD (g.C.SendingCode.word code) (g.C.MendingCode.reach code) (g.Q.Constellation.decided points o)
      cells before after bits_before bits_after r (g.met.C.FixedCode.message code) (g.met.C.FixedCode.word code)

pub whole_as_slice-mend_record-2 : goal.whole_as_slice-mend_record-2
whole_as_slice-mend_record-2 g c = omega (arith, c.requires.short)

pub read_record-requires : goal.read_record-requires
read_record-requires g c = let h : g.row.BITS * 1 < 9223372036854775808 = omega (arith, c.requires.short) in h

pub returns-in_err-mended : goal.returns-in_err-mended
returns-in_err-mended g c =
    let p = err_from_is_err_and c.from_residual.result c.from_residual.ensures.1 in
    let m = c.args.modulation.now in
    let none = sizes g c.args.code.now m.points.now m.order c.args.cells.now c.requires.symbols _ _ _ _ (Err c.in_err-mended.field-0.0) c.in_err-mended.ensures in
    full g c.args.code.now m.points.now m.order c.args.cells.now c.requires.symbols c.from_residual.result (rw (p.1, p.2) none.2)

pub returns-in_err-stated : goal.returns-in_err-stated
returns-in_err-stated g c =
    let p = err_from_is_err_and c.from_residual-in_err-stated.result c.from_residual-in_err-stated.ensures.1 in
    let m = c.args.modulation.now in
    let got = sizes g c.args.code.now m.points.now m.order c.args.cells.now c.requires.symbols [] c.mend_record.new.message [] c.mend_record.new.bits (Ok c.in_ok-mended.mended) c.in_ok-mended.ensures in
    full g c.args.code.now m.points.now m.order c.args.cells.now c.requires.symbols c.from_residual-in_err-stated.result
    (rw (p.1, p.2) (c.mend_record.new.message, c.in_ok-mended.mended, got.0, ap (record_read (g.row.BITS - 8) g.R.Record.stated) (sym got.1) ∙ sym c.in_err-stated.ensures.value, rw got.1 at c.in_err-stated.ensures.exactly))

pub returns : goal.returns
returns g c =
    let m = c.args.modulation.now in
    let got = sizes g c.args.code.now m.points.now m.order c.args.cells.now c.requires.symbols [] c.mend_record.new.message [] c.mend_record.new.bits (Ok c.in_ok-mended.mended) c.in_ok-mended.ensures in
    full g c.args.code.now m.points.now m.order c.args.cells.now c.requires.symbols (Ok (record { stated = c.in_ok-stated.stated; mended = c.in_ok-mended.mended }))
    (c.mend_record.new.message, got.0, rw got.1 at c.in_ok-stated.ensures.exactly)
