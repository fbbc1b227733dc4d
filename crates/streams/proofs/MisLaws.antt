-- A reader of MIS records answers a mode exactly where the bits are that mode's record.
use Rattle.std.proofs.Common.{◌≡◌, ℕ, ◌<◌, Bool, false, ◌||◌, eqb, List, [], ◌∷◌, ◌++◌, length, take, drop, Ok, Err, Result, sym, refl, ap, ◌∙◌, inl, inr, arith, lit<}
use Rattle.std.proofs.lemmas.Bool.{cases_Bool, eqb-false, eqb-true, ne_eqb, or_parts}
use Rattle.std.proofs.lemmas.List.{take_all}
use Rattle.streams.proofs.RecordLaws.{fields_read}
use Rattle.bits.specs.Bits.{bits_of, field_at}
use Rattle.modes.specs.Modes.{occupancy_number, tis_number, data_number, numbered, occupancy_of, tis_of, data_of}
use Rattle.modes.specs.declared.unknown.UnknownNumber.{UnknownNumber}
use Rattle.streams.specs.Mis.{mis_fields, mis_stated, mode_of}
use Rattle.streams.specs.Records.{ReadsBits}
use Rattle.modes.specs.declared.mode.Occupancy.{Occupancy}
use Rattle.modes.specs.declared.mode.Occupancy.TheVariants.{Khz1, Khz3, Khz5, Khz10}
use Rattle.modes.specs.declared.mode.TisConstellation.{TisConstellation}
use Rattle.modes.specs.declared.mode.TisConstellation.TheVariants.{Qam4 as TisQam4, Qam16 as TisQam16}
use Rattle.modes.specs.declared.mode.DataConstellation.{DataConstellation}
use Rattle.modes.specs.declared.mode.DataConstellation.TheVariants.{Qam4 as DataQam4, Qam16 as DataQam16, Qam64 as DataQam64}
use Rattle.modes.specs.declared.mode.Mis.{Mis}
use Rattle.streams.specs.declared.records.BadRecord.{BadRecord}
use Rattle.bits.proofs.Bits.{field_back, field_below, number_of-bits_of, part_length}
use Rattle.std.proofs.Common.{take-add}

-- what has a number is found by it
numbered_is : {X : Type 0} (number : X → ℕ) (xs : List X) (n : ℕ) (x : X) → numbered number xs n ≡ Ok x → n ≡ number x
numbered_is number [] n x e = cc
numbered_is {X = X} number (y ∷ ys) n x e =
    elim (cases_Bool (eqb n (number y))) [
      | inl t ↦ let f : ◌≡◌ {A = Result X UnknownNumber} (Ok y) (Ok x) = rw t at e in let same : y ≡ x = cc in eqb-true n (number y) t ∙ ap number same
      | inr t ↦ numbered_is number ys n x (rw t at e)
    ]

pub occupancy_found : (o : Occupancy) → (occupancy_number o < 4) × (occupancy_of (occupancy_number o) ≡ Ok o)
occupancy_found Khz1 = (lit< tt, refl)
occupancy_found Khz3 = (lit< tt, refl)
occupancy_found Khz5 = (lit< tt, refl)
occupancy_found Khz10 = (lit< tt, refl)

tis_found : (t : TisConstellation) → (tis_number t < 2) × (tis_of (tis_number t) ≡ Ok t)
tis_found TisQam4 = (lit< tt, refl)
tis_found TisQam16 = (lit< tt, refl)

pub data_found : (d : DataConstellation) → (data_number d < 4) × (eqb (data_number d) 3 ≡ false) × (data_of (data_number d) ≡ Ok d)
data_found DataQam4 = (lit< tt, refl, refl)
data_found DataQam16 = (lit< tt, refl, refl)
data_found DataQam64 = (lit< tt, refl, refl)

-- the fields of a mode
module _ (m : Mis) where
  occupancy_field : field_at 0 2 (mis_fields m) ≡ occupancy_number m.occupancy
  unfolding mis_fields bits_of
  occupancy_field = number_of-bits_of 2 (occupancy_number m.occupancy) (occupancy_found m.occupancy).0

  tis_field : field_at 2 1 (mis_fields m) ≡ tis_number m.tis
  unfolding mis_fields bits_of
  tis_field = number_of-bits_of 1 (tis_number m.tis) (tis_found m.tis).0

  data_field : field_at 3 2 (mis_fields m) ≡ data_number m.«data»
  unfolding mis_fields bits_of
  data_field = number_of-bits_of 2 (data_number m.«data») (data_found m.«data»).0

  fill_field : field_at 5 1 (mis_fields m) ≡ 0
  unfolding mis_fields bits_of
  fill_field = number_of-bits_of 1 0 (lit< tt)

  pub mis_stated_back : mis_stated (mis_fields m) ≡ Ok m
  unfolding mis_stated
  mis_stated_back =
      rw (
        fill_field,
        data_field,
        occupancy_field,
        tis_field,
        (data_found m.«data»).1,
        (occupancy_found m.occupancy).1,
        (tis_found m.tis).1,
        (data_found m.«data»).2,
      )

-- the parts of a mode that was made
mode_of_parts : (x : Result Occupancy UnknownNumber) (y : Result TisConstellation UnknownNumber) (z : Result DataConstellation UnknownNumber) (m : Mis) → mode_of x y z ≡ Ok m →
    (x ≡ Ok m.occupancy) × (y ≡ Ok m.tis) × (z ≡ Ok m.«data»)
mode_of_parts (Err f) y z m e = cc
mode_of_parts (Ok o) (Err f) z m e = cc
mode_of_parts (Ok o) (Ok t) (Err f) m e = cc
mode_of_parts (Ok o) (Ok t) (Ok d) m e =
    let made : record { occupancy = o; tis = t; «data» = d } ≡ m = cc in
    (ap (λ k. Ok k.occupancy) made, ap (λ k. Ok k.tis) made, ap (λ k. Ok k.«data») made)

-- bits that state a mode are its fields
module _ (bits : List Bool) (size : length bits ≡ 6) (m : Mis) (e : mis_stated bits ≡ Ok m) where
  stated_good : (eqb (field_at 5 1 bits) 1 || eqb (field_at 3 2 bits) 3) ≡ false
  unfolding mis_stated
  stated_good =
      elim (cases_Bool (eqb (field_at 5 1 bits) 1 || eqb (field_at 3 2 bits) 3)) [
        | inl t ↦ let f : ◌≡◌ {A = Result Mis BadRecord} (Err (record {})) (Ok m) = rw t at e in cc
        | inr t ↦ t
      ]

  stated_mode : mode_of (occupancy_of (field_at 0 2 bits)) (tis_of (field_at 2 1 bits)) (data_of (field_at 3 2 bits)) ≡ Ok m
  unfolding mis_stated
  stated_mode = rw stated_good at e

  stated_fields : bits ≡ mis_fields m
  unfolding mis_fields
  stated_fields =
      let parts = mode_of_parts (occupancy_of (field_at 0 2 bits)) (tis_of (field_at 2 1 bits)) (data_of (field_at 3 2 bits)) m stated_mode in
      let o = numbered_is occupancy_number (Khz1 ∷ Khz3 ∷ Khz5 ∷ Khz10 ∷ []) (field_at 0 2 bits) m.occupancy parts.0 in
      let t = numbered_is tis_number (TisQam4 ∷ TisQam16 ∷ []) (field_at 2 1 bits) m.tis parts.1 in
      let d = numbered_is data_number (DataQam4 ∷ DataQam16 ∷ DataQam64 ∷ []) (field_at 3 2 bits) m.«data» parts.2 in
      let below = field_below 5 1 bits in
      let other = eqb-false (field_at 5 1 bits) 1 (or_parts (eqb (field_at 5 1 bits) 1) (eqb (field_at 3 2 bits) 3) stated_good).0 in
      let fill : field_at 5 1 bits ≡ 0 = omega arith in
      let whole : take 6 bits ≡ bits = take_all 6 bits (omega arith) in
      let joined : bits_of 2 (occupancy_number m.occupancy) ++ bits_of 1 (tis_number m.tis) ++ bits_of 2 (data_number m.«data») ++ bits_of 1 0 ≡ take 6 bits =
      rw (
        field_back 2 (occupancy_number m.occupancy) (take 2 bits) (part_length bits 0 2 (omega arith)) o,
        field_back 1 (tis_number m.tis) (take 1 (drop 2 bits)) (part_length bits 2 1 (omega arith)) t,
        field_back 2 (data_number m.«data») (take 2 (drop 3 bits)) (part_length bits 3 2 (omega arith)) d,
        field_back 1 0 (take 1 (drop 5 bits)) (part_length bits 5 1 (omega arith)) fill,
        take-add 5 1 bits,
        take-add 3 2 bits,
        take-add 2 1 bits,
      ) in
      sym whole ∙ sym joined

-- the answer that is what the fields state is right
pub mis_reads : (bits : List Bool) (r : Result Mis BadRecord) → length bits ≡ 6 → r ≡ mis_stated bits → ReadsBits mis_fields bits r
mis_reads bits r size = fields_read mis_fields mis_stated bits r (stated_fields bits size) mis_stated_back

-- what is stated by bits, by the parts that they name
pub stated_filled : (bits : List Bool) → field_at 5 1 bits ≡ 1 → Err (record {}) ≡ mis_stated bits
unfolding mis_stated
stated_filled bits e = rw e refl

mode_of_none : (x : Result Occupancy UnknownNumber) (y : Result TisConstellation UnknownNumber) (f : UnknownNumber) → mode_of x y (Err f) ≡ Err (record {})
mode_of_none (Err e) y f = refl
mode_of_none (Ok o) (Err e) f = refl
mode_of_none (Ok o) (Ok t) f = refl

module _ (bits : List Bool) (x : Result Occupancy UnknownNumber) (y : Result TisConstellation UnknownNumber) (z : Result DataConstellation UnknownNumber)
    (unfilled : field_at 5 1 bits ≡ 1 → ⊥)
    (p : x ≡ occupancy_of (field_at 0 2 bits)) (q : y ≡ tis_of (field_at 2 1 bits)) (r : z ≡ data_of (field_at 3 2 bits)) where
  -- no constellation has the number 3, so that the mode tells what is stated
  pub stated_parts : mode_of x y z ≡ mis_stated bits
  unfolding mis_stated
  stated_parts =
      let fill = ne_eqb (field_at 5 1 bits) 1 unfilled in
      elim (cases_Bool (eqb (field_at 3 2 bits) 3)) [
        | inl t ↦
            let none : z ≡ Err (record {}) = r ∙ ap data_of (eqb-true (field_at 3 2 bits) 3 t) in
            rw (fill, t) (ap (mode_of x y) none ∙ mode_of_none x y (record {}))
        | inr t ↦ rw (p, q, r, fill, t)
      ]
