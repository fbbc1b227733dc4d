-- The station record of numbers, and what a TIS states by it, where they are within their bounds.
use Rattle.std.specs.Prelude.{◌≡◌, ℕ, Bool, true, false, ◌&&◌, Some, None, Option, nat_le, nat_lt, refl}
use Rattle.std.proofs.lemmas.Bool.{and_parts, leb-true, ltb-true}
use Rattle.modes.specs.Station.{Allowed}
use Rattle.modes.specs.declared.station.Station.{Station}
use Rattle.modes.specs.declared.station.Tis.{Tis}

-- what is made where a test holds
abbrev pub checked : {X : Type 0} (test : Bool) → (test ≡ true → X) → Option X
checked true make = Some (make refl)
checked false make = None

-- whether a station record holds these numbers
abbrev pub allowed? : ℕ → ℕ → ℕ → ℕ → Bool
allowed? station hour minute duration = (nat_le station 1073741823 && nat_le hour 23) && (nat_le minute 59 && nat_le duration 59)

pub is_allowed : (n h m d : ℕ) → allowed? n h m d ≡ true → Allowed n h m d
is_allowed n h m d e =
    let both = and_parts (nat_le n 1073741823 && nat_le h 23) (nat_le m 59 && nat_le d 59) e in
    let front = and_parts (nat_le n 1073741823) (nat_le h 23) both.0 in
    let back = and_parts (nat_le m 59) (nat_le d 59) both.1 in
    (leb-true n 1073741823 front.0, leb-true h 23 front.1, leb-true m 59 back.0, leb-true d 59 back.1)

-- the station record of these numbers, if one holds them
abbrev pub station_of : ℕ → ℕ → ℕ → ℕ → Option Station
station_of n h m d =
    checked (allowed? n h m d) (λ e. record { number = n; hour = h; minute = m; duration = d; allowed = is_allowed n h m d e })

-- a TIS from its two parts
abbrev pub tis_made : ℕ → Option Station → Option Tis
tis_made coding None = None
tis_made coding (Some s) = checked (nat_lt coding 32) (λ e. record { coding = coding; station = s; below = ltb-true coding 32 e })
