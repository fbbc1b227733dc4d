use Rattle.std.proofs.Common.{◌≡◌, ℕ, ◌≤◌, ◌∷◌, Option, Some, None, Err, MatchOption, nat_lt, cond, Ok, refl}
use Rattle.std.specs.Option.{ok_or}
use Rattle.std.proofs.lemmas.Bool.{le-ltb, lt-ltb}
use Rattle.modes.specs.Modes.{occupancy_of, data_of, rate_of}
use Rattle.modes.specs.declared.station.Station.{Station}
use Rattle.modes.specs.declared.station.Tis.{Tis}
use Rattle.desk.specs.declared.trouble.Trouble.TheVariants.{OutOfRange}
use Rattle.desk.specs.Changes.{Makes}
use Rattle.desk.specs.Parts.{station_numbers, tis_numbers}
use Rattle.desk.proofs.Naming.{part_named}
use Rattle.desk.proofs.parts.tis.Goals as goal

-- what is made of a coding and a station, where the coding has five bits
made : (coding : ℕ) (s : Station) (t : Option Tis) → MatchOption t (32 ≤ coding) (λ t. (t.coding ≡ coding) × (t.station ≡ s))
    → Makes (cond (nat_lt coding 32) (Ok (coding ∷ station_numbers s)) (Err OutOfRange)) tis_numbers (ok_or t OutOfRange)
made coding s (Some t) h = rw (← h.0, ← h.1, lt-ltb t.coding 32 t.below) refl
made coding s None h = rw (le-ltb coding 32 h) refl

pub returns : goal.returns
returns c =
    rw (← part_named occupancy_of _ c.args.o.now c.in_ok-part.ensures, ← part_named data_of _ c.args.d.now c.in_ok-part-2.ensures, ← part_named rate_of _ c.args.r.now c.in_ok-part-3.ensures)
    (rw (c.in_ok-station.ensures, c.ok_or.ensures.value, ← c.data_coding-coding.ensures) (made _ c.in_ok-station.field-0 c.new.result c.new.ensures))
