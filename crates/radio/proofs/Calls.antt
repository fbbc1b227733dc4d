-- Refusals that do not hold. Assumes nothing.
use Rattle.std.proofs.Common.{◌≡◌, Bool, true, Some, None, Option, refl}
use Rattle.lineup.specs.declared.mode.Mode.{Mode}
use Rattle.modes.specs.declared.station.Station.{Station}
use Rattle.radio.specs.ExciterCalls.{first_of_send}

pub passes_send : (mode : Option Mode) (loaded : Bool) (station : Option Station) (two : Bool) (m : Mode) (x : Station) → mode ≡ Some m → loaded ≡ true → station ≡ Some x → two ≡ true →
    first_of_send mode loaded station two ≡ None
passes_send mode loaded station two m x e f g h = rw (e, f, g, h) refl
