use Rattle.std.proofs.Common.{◌≡◌, sym, ap, ◌∙◌, arith}
use Rattle.std.proofs.lemmas.Option.{MatchOption-at_none, MatchOption-at_some}
use Rattle.std.specs.Result.{result_ok}
use Rattle.streams.specs.Tis.{tis_stated}
use Rattle.streams.proofs.RecordLaws.{error_is}
use Rattle.streams.proofs.TisLaws.{coding_below, stated_accepted, stated_refused, stated_reserved, tis_reads}
use Rattle.streams.proofs.tis.TisRecord63.read_fields.Goals as goal

pub returns-then-reserved : goal.returns-then-reserved
returns-then-reserved c =
    let value = stated_reserved c.args.fields.now (λ e. c.if-reserved.true (c.read_number-reserved.ensures ∙ e)) in
    record { value = value; exactly = tis_reads c.args.fields.now _ (omega (arith, c.requires)) value }

pub overflow_cast-coding : goal.overflow_cast-coding
overflow_cast-coding c = let five = coding_below c.args.fields.now c.read_number-coding.result c.read_number-coding.ensures in omega arith

pub invariant_of-result : goal.invariant_of-result
invariant_of-result c = record { below = coding_below c.args.fields.now c.read_number-coding.result c.read_number-coding.ensures }

pub returns-in_err-station : goal.returns-in_err-station
returns-in_err-station c =
    let bits = c.args.fields.now in
    let none = c.ok_or.ensures.ok_part ∙ ap result_ok c.in_err-station.was in
    let never = MatchOption-at_none _ _ none c.new.ensures in
    let value : c.from_residual.result ≡ tis_stated bits = error_is c.from_residual.result c.from_residual.ensures.0 ∙
    stated_refused bits c.read_number.result c.read_number-2.result c.read_number-3.result c.read_number-4.result
    (sym c.read_number-reserved.ensures ∙ c.if-reserved.false) c.read_number.ensures c.read_number-2.ensures c.read_number-3.ensures c.read_number-4.ensures never in
    record { value = value; exactly = tis_reads bits _ (omega (arith, c.requires)) value }

pub returns : goal.returns
returns c =
    let bits = c.args.fields.now in
    let s = c.in_ok-station.station in
    let some = c.ok_or.ensures.ok_part ∙ ap result_ok c.in_ok-station.was in
    let made = MatchOption-at_some _ _ s some c.new.ensures in
    let value =
    stated_accepted bits c.read_number-coding.result s _ (sym c.read_number-reserved.ensures ∙ c.if-reserved.false) c.read_number-coding.ensures
    (made.0 ∙ c.read_number.ensures) (made.1 ∙ c.read_number-2.ensures) (made.2 ∙ c.read_number-3.ensures) (made.3 ∙ c.read_number-4.ensures) in
    record { value = value; exactly = tis_reads bits _ (omega (arith, c.requires)) value }
