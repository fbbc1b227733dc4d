-- A reader of TIS records answers what a TIS states exactly where the bits are its record.
use Rattle.std.proofs.Common.{◌≡◌, ℕ, ◌<◌, Bool, true, false, ◌&&◌, eqb, ltb, leb, List, ◌++◌, length, take, drop, Some, None, Ok, Err, Option, Result, sym, refl, ap, ◌∙◌, inl, inr, arith, lit<}
use native.Mathlib.Bridge.{le_prop}
use Rattle.std.specs.Option.{ok_or}
use Rattle.std.proofs.lemmas.Bool.{and_from, cases_Bool, eqb-true, false≢true, le-leb, lt-ltb, ltb-true, ne_eqb}
use Rattle.bits.specs.Bits.{bits_of, field_at}
use Rattle.streams.specs.Records.{ReadsBits}
use Rattle.modes.specs.Station.{Allowed}
use Rattle.modes.specs.Stations.{allowed?, checked, is_allowed, station_of, tis_made}
use Rattle.modes.specs.Modes.{data_coding, rate_number}
use Rattle.streams.specs.Tis.{tis_fields, tis_stated}
use Rattle.modes.specs.declared.mode.Occupancy.{Occupancy}
use Rattle.modes.specs.declared.mode.DataConstellation.{DataConstellation}
use Rattle.modes.specs.declared.rate.Rate.{Rate}
use Rattle.modes.specs.declared.rate.Rate.TheVariants.{Half, ThreeQuarters}
use Rattle.streams.specs.declared.records.BadRecord.{BadRecord}
use Rattle.modes.specs.declared.station.Station.{Station}
use Rattle.modes.specs.declared.station.Tis.{Tis}
use Rattle.std.proofs.lemmas.List.{take_all}
use Rattle.streams.proofs.RecordLaws.{fields_read}
use Rattle.bits.proofs.Bits.{field_back, field_below, number_of-bits_of, part_length}
use Rattle.std.proofs.Common.{take-add}
use Rattle.streams.proofs.MisLaws.{data_found, occupancy_found}

-- what was made where a test holds
checked_is : {X : Type 0} (test : Bool) (make : test ≡ true → X) (x : X) → test ≡ true → ((e : test ≡ true) → make e ≡ x) → checked test make ≡ Some x
checked_is true make x h same = ap Some (same refl)
checked_is false make x h same = absurd (false≢true h)

checked_parts : {X : Type 0} (test : Bool) (make : test ≡ true → X) (x : X) → checked test make ≡ Some x → (e : test ≡ true) × (make e ≡ x)
checked_parts true make x h = let same : make refl ≡ x = cc in (refl, same)
checked_parts false make x h = cc

checked_not : {X : Type 0} (test : Bool) (make : test ≡ true → X) → test ≡ false → checked test make ≡ None
checked_not true make h = absurd (false≢true (sym h))
checked_not false make h = refl

ok_or_some : {X E : Type 0} (o : Option X) (x : X) (e : E) → ok_or o e ≡ Ok x → o ≡ Some x
ok_or_some None x e h = cc
ok_or_some (Some y) x e h = cc

rate_below : (r : Rate) → rate_number r < 2
rate_below Half = lit< tt
rate_below ThreeQuarters = lit< tt

allowed_true : (n h m d : ℕ) → Allowed n h m d → allowed? n h m d ≡ true
allowed_true n h m d a =
    and_from (leb n 1073741823 && leb h 23) (leb m 59 && leb d 59)
    (and_from (leb n 1073741823) (leb h 23) (le-leb n 1073741823 a.0) (le-leb h 23 a.1))
    (and_from (leb m 59) (leb d 59) (le-leb m 59 a.2) (le-leb d 59 a.3))

-- bounds hold in one way only
allowed_same : (n h m d : ℕ) (a b : Allowed n h m d) → a ≡ b
allowed_same n h m d a b = λ i. (le_prop a.0 b.0 i, le_prop a.1 b.1 i, le_prop a.2 b.2 i, le_prop a.3 b.3 i)

station_made : (s : Station) → station_of s.number s.hour s.minute s.duration ≡ Some s
station_made s =
    let n = s.number in
    let h = s.hour in
    let m = s.minute in
    let d = s.duration in
    checked_is (allowed? n h m d) (λ e. record { number = n; hour = h; minute = m; duration = d; allowed = is_allowed n h m d e }) s
    (allowed_true n h m d s.allowed)
    (λ e. ap (λ (a : Allowed n h m d). record { number = n; hour = h; minute = m; duration = d; allowed = a }) (allowed_same n h m d (is_allowed n h m d e) s.allowed))

tis_made_lem : (t : Tis) → tis_made t.coding (Some t.station) ≡ Some t
tis_made_lem t =
    let k = t.coding in
    let s = t.station in
    checked_is (ltb k 32) (λ e. record { coding = k; station = s; below = ltb-true k 32 e }) t (lt-ltb k 32 t.below)
    (λ e. ap (λ (b : k < 32). record { coding = k; station = s; below = b }) (le_prop (ltb-true k 32 e) t.below))

-- the numbers of a station record that was made
station_parts : (n h m d : ℕ) (s : Station) → station_of n h m d ≡ Some s → (n ≡ s.number) × (h ≡ s.hour) × (m ≡ s.minute) × (d ≡ s.duration)
station_parts n h m d s e =
    let made = (checked_parts (allowed? n h m d) (λ a. record { number = n; hour = h; minute = m; duration = d; allowed = is_allowed n h m d a }) s e).1 in
    (ap (λ (x : Station). x.number) made, ap (λ (x : Station). x.hour) made, ap (λ (x : Station). x.minute) made, ap (λ (x : Station). x.duration) made)

-- the parts of a TIS that was made
tis_parts : (k : ℕ) (o : Option Station) (t : Tis) → tis_made k o ≡ Some t → (k ≡ t.coding) × (o ≡ Some t.station)
tis_parts k None t e = cc
tis_parts k (Some s) t e =
    let made = (checked_parts (ltb k 32) (λ b. record { coding = k; station = s; below = ltb-true k 32 b }) t e).1 in
    (ap (λ (x : Tis). x.coding) made, ap (λ (x : Tis). Some x.station) made)

-- what bits state, by their fields
stated_as : (bits : List Bool) (t : Tis) → field_at 52 3 bits ≡ 0 → field_at 0 5 bits ≡ t.coding → field_at 5 30 bits ≡ t.station.number →
    field_at 35 5 bits ≡ t.station.hour → field_at 40 6 bits ≡ t.station.minute → field_at 46 6 bits ≡ t.station.duration → tis_stated bits ≡ Ok t
unfolding tis_stated
stated_as bits t good k n h m d =
    let made : tis_made (field_at 0 5 bits) (station_of (field_at 5 30 bits) (field_at 35 5 bits) (field_at 40 6 bits) (field_at 46 6 bits)) ≡ Some t =
    rw (k, n, h, m, d, station_made t.station) (tis_made_lem t) in
    rw (good, made)

-- the fields of what is stated
module _ (t : Tis) where
  coding_field : field_at 0 5 (tis_fields t) ≡ t.coding
  unfolding tis_fields bits_of
  coding_field = number_of-bits_of 5 t.coding t.below

  number_field : field_at 5 30 (tis_fields t) ≡ t.station.number
  unfolding tis_fields bits_of
  number_field = number_of-bits_of 30 t.station.number (omega (arith, t.station.allowed.0))

  hour_field : field_at 35 5 (tis_fields t) ≡ t.station.hour
  unfolding tis_fields bits_of
  hour_field = number_of-bits_of 5 t.station.hour (omega (arith, t.station.allowed.1))

  minute_field : field_at 40 6 (tis_fields t) ≡ t.station.minute
  unfolding tis_fields bits_of
  minute_field = number_of-bits_of 6 t.station.minute (omega (arith, t.station.allowed.2))

  duration_field : field_at 46 6 (tis_fields t) ≡ t.station.duration
  unfolding tis_fields bits_of
  duration_field = number_of-bits_of 6 t.station.duration (omega (arith, t.station.allowed.3))

  reserved_field : field_at 52 3 (tis_fields t) ≡ 0
  unfolding tis_fields bits_of
  reserved_field = number_of-bits_of 3 0 (lit< tt)

  pub tis_stated_back : tis_stated (tis_fields t) ≡ Ok t
  tis_stated_back = stated_as (tis_fields t) t reserved_field coding_field number_field hour_field minute_field duration_field

-- bits that state something are its fields
module _ (bits : List Bool) (size : length bits ≡ 55) (t : Tis) (e : tis_stated bits ≡ Ok t) where
  stated_good : eqb (field_at 52 3 bits) 0 ≡ true
  unfolding tis_stated
  stated_good =
      elim (cases_Bool (eqb (field_at 52 3 bits) 0)) [
        | inl b ↦ b
        | inr b ↦ let f : ◌≡◌ {A = Result Tis BadRecord} (Err (record {})) (Ok t) = rw b at e in cc
      ]

  stated_made : tis_made (field_at 0 5 bits) (station_of (field_at 5 30 bits) (field_at 35 5 bits) (field_at 40 6 bits) (field_at 46 6 bits)) ≡ Some t
  unfolding tis_stated
  stated_made = ok_or_some _ t (record {}) (rw stated_good at e)

  stated_fields : bits ≡ tis_fields t
  unfolding tis_fields
  stated_fields =
      let parts = tis_parts (field_at 0 5 bits) (station_of (field_at 5 30 bits) (field_at 35 5 bits) (field_at 40 6 bits) (field_at 46 6 bits)) t stated_made in
      let numbers = station_parts (field_at 5 30 bits) (field_at 35 5 bits) (field_at 40 6 bits) (field_at 46 6 bits) t.station parts.1 in
      let s = t.station in
      let whole : take 55 bits ≡ bits = take_all 55 bits (omega arith) in
      let joined : bits_of 5 t.coding ++ bits_of 30 s.number ++ bits_of 5 s.hour ++ bits_of 6 s.minute ++ bits_of 6 s.duration ++ bits_of 3 0 ≡ take 55 bits =
      rw (
        field_back 5 t.coding (take 5 bits) (part_length bits 0 5 (omega arith)) parts.0,
        field_back 30 s.number (take 30 (drop 5 bits)) (part_length bits 5 30 (omega arith)) numbers.0,
        field_back 5 s.hour (take 5 (drop 35 bits)) (part_length bits 35 5 (omega arith)) numbers.1,
        field_back 6 s.minute (take 6 (drop 40 bits)) (part_length bits 40 6 (omega arith)) numbers.2,
        field_back 6 s.duration (take 6 (drop 46 bits)) (part_length bits 46 6 (omega arith)) numbers.3,
        field_back 3 0 (take 3 (drop 52 bits)) (part_length bits 52 3 (omega arith)) (eqb-true (field_at 52 3 bits) 0 stated_good),
        take-add 52 3 bits,
        take-add 46 6 bits,
        take-add 40 6 bits,
        take-add 35 5 bits,
        take-add 5 30 bits,
      ) in
      sym whole ∙ sym joined

-- the answer that is what the fields state is right
pub tis_reads : (bits : List Bool) (r : Result Tis BadRecord) → length bits ≡ 55 → r ≡ tis_stated bits → ReadsBits tis_fields bits r
tis_reads bits r size = fields_read tis_fields tis_stated bits r (stated_fields bits size) tis_stated_back

-- reserved bits that are not zero state nothing
pub stated_reserved : (bits : List Bool) → (field_at 52 3 bits ≡ 0 → ⊥) → Err (record {}) ≡ tis_stated bits
unfolding tis_stated
stated_reserved bits e = rw (ne_eqb (field_at 52 3 bits) 0 e)

-- numbers that no station record holds state nothing
pub stated_refused : (bits : List Bool) (n h m d : ℕ) → field_at 52 3 bits ≡ 0 → n ≡ field_at 5 30 bits → h ≡ field_at 35 5 bits → m ≡ field_at 40 6 bits →
    d ≡ field_at 46 6 bits → (Allowed n h m d → ⊥) → Err (record {}) ≡ tis_stated bits
unfolding tis_stated
stated_refused bits n h m d good at_n at_h at_m at_d never =
    let none : station_of n h m d ≡ None =
    elim (cases_Bool (allowed? n h m d)) [
      | inl e ↦ absurd (never (is_allowed n h m d e))
      | inr e ↦ checked_not {X = Station} (allowed? n h m d) (λ a. record { number = n; hour = h; minute = m; duration = d; allowed = is_allowed n h m d a }) e
    ] in
    rw (good, sym at_n, sym at_h, sym at_m, sym at_d, none)

-- and the others state what they name
pub stated_accepted : (bits : List Bool) (k : ℕ) (s : Station) (fits : k < 32) → field_at 52 3 bits ≡ 0 → k ≡ field_at 0 5 bits → s.number ≡ field_at 5 30 bits → s.hour ≡ field_at 35 5 bits →
    s.minute ≡ field_at 40 6 bits → s.duration ≡ field_at 46 6 bits → Ok (record { coding = k; station = s; below = fits }) ≡ tis_stated bits
stated_accepted bits k s fits good at_k at_n at_h at_m at_d =
    sym (stated_as bits (record { coding = k; station = s; below = fits }) good (sym at_k) (sym at_n) (sym at_h) (sym at_m) (sym at_d))

pub coding_below : (bits : List Bool) (n : ℕ) → n ≡ field_at 0 5 bits → n < 32
coding_below bits n e = rw e (field_below 0 5 bits)

-- the number of a coding has five bits
pub data_coding-below : (o : Occupancy) (d : DataConstellation) (r : Rate) → data_coding o d r < 32
data_coding-below o d r = omega (arith, (occupancy_found o).0, (data_found d).0, rate_below r)
