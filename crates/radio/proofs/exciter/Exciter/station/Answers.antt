use Rattle.std.proofs.Common.{◌≡◌, Some, refl, rules}
use Rattle.radio.proofs.exciter.Exciter.station.Goals as goal

pub returns : goal.returns
returns g c =
    let x = c.in_ok-record.record in
    let made : c.new.result ≡ Some x = search rules in
    (x, rw made at c.new.ensures, refl)
