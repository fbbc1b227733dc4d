use Rattle.std.proofs.Common.{Ok, Err, refl}
use Rattle.std.proofs.lemmas.Result.{err_from_is_err_and}
use Rattle.desk.proofs.Naming.{Names-from}
use Rattle.desk.proofs.parts.part.Goals as goal

pub returns-in_err-try_from : goal.returns-in_err-try_from
returns-in_err-try_from g c =
    let p = err_from_is_err_and c.from_residual-in_err-try_from.result c.from_residual-in_err-try_from.ensures.1 in
    rw (p.1, p.2) (Names-from _ c.args.word.now c.in_ok-unsigned.field-0 (Err c.in_err-try_from.field-0.0) _ c.in_ok-unsigned.ensures c.in_err-try_from.ensures refl)

pub returns : goal.returns
returns g c = Names-from _ c.args.word.now c.in_ok-unsigned.field-0 (Ok c.in_ok-try_from.field-0) _ c.in_ok-unsigned.ensures c.in_ok-try_from.ensures refl
