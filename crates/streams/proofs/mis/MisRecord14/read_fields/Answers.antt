use Rattle.std.proofs.Common.{◌≡◌, Ok, Err, sym, refl, ap, ◌∙◌, arith}
use Rattle.modes.specs.Modes.{occupancy_of, tis_of, data_of}
use Rattle.bits.specs.Bits.{field_at}
use Rattle.streams.specs.Mis.{mis_stated}
use Rattle.streams.proofs.MisLaws.{mis_reads, stated_filled, stated_parts}
use Rattle.streams.proofs.RecordLaws.{error_is}
use Rattle.streams.proofs.mis.MisRecord14.read_fields.Goals as goal

pub returns-then-filled : goal.returns-then-filled
returns-then-filled c =
    let value = stated_filled c.args.fields.now (sym c.read_number-filled.ensures ∙ c.if-filled.true) in
    record { value = value; exactly = mis_reads c.args.fields.now _ (omega (arith, c.requires)) value }

pub returns-in_err-try_from : goal.returns-in_err-try_from
returns-in_err-try_from c =
    let bits = c.args.fields.now in
    let value : c.from_residual.result ≡ mis_stated bits = error_is c.from_residual.result c.from_residual.ensures.0 ∙
    stated_parts bits (Err c.in_err-try_from.field-0.0) (tis_of (field_at 2 1 bits)) (data_of (field_at 3 2 bits)) (λ e. c.if-filled.false (c.read_number-filled.ensures ∙ e))
    (sym c.in_err-try_from.was ∙ c.try_from.ensures ∙ ap occupancy_of c.read_number.ensures) refl refl in
    record { value = value; exactly = mis_reads bits _ (omega (arith, c.requires)) value }

pub returns-in_err-try_from-2 : goal.returns-in_err-try_from-2
returns-in_err-try_from-2 c =
    let bits = c.args.fields.now in
    let value : c.from_residual-in_err-try_from-2.result ≡ mis_stated bits = error_is c.from_residual-in_err-try_from-2.result c.from_residual-in_err-try_from-2.ensures.0 ∙
    stated_parts bits (Ok c.in_ok-try_from.field-0) (Err c.in_err-try_from-2.field-0.0) (data_of (field_at 3 2 bits)) (λ e. c.if-filled.false (c.read_number-filled.ensures ∙ e))
    (sym c.in_ok-try_from.was ∙ c.try_from.ensures ∙ ap occupancy_of c.read_number.ensures)
    (sym c.in_err-try_from-2.was ∙ c.try_from-2.ensures ∙ ap tis_of c.read_number-2.ensures) refl in
    record { value = value; exactly = mis_reads bits _ (omega (arith, c.requires)) value }

pub returns-in_err-try_from-3 : goal.returns-in_err-try_from-3
returns-in_err-try_from-3 c =
    let bits = c.args.fields.now in
    let value : c.from_residual-in_err-try_from-3.result ≡ mis_stated bits = error_is c.from_residual-in_err-try_from-3.result c.from_residual-in_err-try_from-3.ensures.0 ∙
    stated_parts bits (Ok c.in_ok-try_from.field-0) (Ok c.in_ok-try_from-2.field-0) (Err c.in_err-try_from-3.field-0.0) (λ e. c.if-filled.false (c.read_number-filled.ensures ∙ e))
    (sym c.in_ok-try_from.was ∙ c.try_from.ensures ∙ ap occupancy_of c.read_number.ensures)
    (sym c.in_ok-try_from-2.was ∙ c.try_from-2.ensures ∙ ap tis_of c.read_number-2.ensures)
    (sym c.in_err-try_from-3.was ∙ c.try_from-3.ensures ∙ ap data_of c.read_number-3.ensures) in
    record { value = value; exactly = mis_reads bits _ (omega (arith, c.requires)) value }

pub returns : goal.returns
returns c =
    let bits = c.args.fields.now in
    let value = stated_parts bits (Ok c.in_ok-try_from.field-0) (Ok c.in_ok-try_from-2.field-0) (Ok c.in_ok-try_from-3.field-0) (λ e. c.if-filled.false (c.read_number-filled.ensures ∙ e))
    (sym c.in_ok-try_from.was ∙ c.try_from.ensures ∙ ap occupancy_of c.read_number.ensures)
    (sym c.in_ok-try_from-2.was ∙ c.try_from-2.ensures ∙ ap tis_of c.read_number-2.ensures)
    (sym c.in_ok-try_from-3.was ∙ c.try_from-3.ensures ∙ ap data_of c.read_number-3.ensures) in
    record { value = value; exactly = mis_reads bits _ (omega (arith, c.requires)) value }
