-- Laws of records: fields one after the other, and behind them their check of eight bits.
use Rattle.std.proofs.Common.{◌≡◌, ℕ, ◌+◌, ◌≤◌, Bool, true, List, ◌++◌, length, take, drop, is_err, Ok, Err, Result, sym, refl, ap, ◌∙◌, arith}
use borrow.Rule.Slice.PartMut.{put_mid}
use Rattle.std.proofs.lemmas.List.{append-nil, drop_all, drop_at, length-append, length-drop, take-append-drop, take_at, take_all}
use Rattle.std.proofs.lemmas.Bool.{eq-eqb, false≢true, ne_eqb}
use Rattle.bits.specs.Bits.{bits_of, field_at, number_of}
use Rattle.bits.specs.Crc.{crc8_of}
use Rattle.streams.specs.Records.{ReadsBits, record_read, with_check}
use Rattle.streams.specs.declared.records.BadRecord.{BadRecord}
use Rattle.bits.proofs.Bits.{field_back, field_more, length-bits_of, number_of-bits_of}
use Rattle.bits.proofs.Remainders.{crc_below}

-- bits are the fields and their check where the check is right
check_right : (bits fields : List Bool) (size : ℕ) → length bits ≡ size + 8 → take size bits ≡ fields → number_of (drop size bits) ≡ crc8_of (take size bits) →
    bits ≡ with_check fields
unfolding with_check
check_right bits fields size long e right =
    let long_check : length (drop size bits) ≡ 8 = simp length-drop (omega arith) in
    let check = field_back 8 (crc8_of (take size bits)) (drop size bits) long_check right in
    rw (sym e, check) (sym (take-append-drop size bits))

-- the parts of a record
module _ (fields : List Bool) (size : ℕ) (long : length fields ≡ size) where
  pub fields_front : take size (with_check fields) ≡ fields
  unfolding with_check
  fields_front = take_at fields (bits_of 8 (crc8_of fields)) size long

  check_back : number_of (drop size (with_check fields)) ≡ crc8_of fields
  unfolding with_check
  check_back =
      ap number_of (drop_at fields (bits_of 8 (crc8_of fields)) size long)
      ∙ number_of-bits_of 8 (crc8_of fields) (crc_below 8 29 fields)

pub length-with_check : (fields : List Bool) → length (with_check fields) ≡ length fields + 8
unfolding with_check
length-with_check fields = length-append fields (bits_of 8 (crc8_of fields)) ∙ ap (λ n. length fields + n) (length-bits_of 8 (crc8_of fields))

-- reading a record answers what is stated exactly where the bits are its record, when reading its fields does
module _ {R : Type 0} (fields : R → List Bool) (stated : List Bool → Result R BadRecord) (size : ℕ) (bits : List Bool) (long : length bits ≡ size + 8) where
  -- a record of these bits has so many bits of fields
  fields_sized : (x : R) → bits ≡ with_check (fields x) → length (fields x) ≡ size
  fields_sized x is = omega (arith, ap length is, length-with_check (fields x))

  -- the check of such bits is all that stands behind their fields
  check_field : field_at size 8 bits ≡ number_of (drop size bits)
  check_field =
      let short : length (drop size bits) ≤ 8 = simp length-drop (omega arith) in
      ap number_of (take_all 8 (drop size bits) short)

  pub record_refused : (number_of (drop size bits) ≡ crc8_of (take size bits) → ⊥) → Err (record {}) ≡ record_read size stated bits
  unfolding record_read
  record_refused wrong = rw (check_field, ne_eqb (number_of (drop size bits)) (crc8_of (take size bits)) wrong)

  pub record_taken : number_of (drop size bits) ≡ crc8_of (take size bits) → stated (take size bits) ≡ record_read size stated bits
  unfolding record_read
  record_taken right = rw (check_field, eq-eqb (number_of (drop size bits)) (crc8_of (take size bits)) right)

  pub refused_exactly : (number_of (drop size bits) ≡ crc8_of (take size bits) → ⊥) → ReadsBits (λ (x : R). with_check (fields x)) bits (Err (record {}))
  refused_exactly wrong x = (
    λ is. cc,
    λ is.
        let sized = fields_sized x is in
        absurd (wrong (ap (λ l. number_of (drop size l)) is ∙ check_back (fields x) size sized ∙ ap crc8_of (sym (fields_front (fields x) size sized) ∙ ap (take size) (sym is)))),
  )

  pub taken_exactly : (r : Result R BadRecord) → number_of (drop size bits) ≡ crc8_of (take size bits) →
      ReadsBits fields (take size bits) r → ReadsBits (λ (x : R). with_check (fields x)) bits r
  taken_exactly r right exactly x = (
    λ is. check_right bits (fields x) size long ((exactly x).0 is) right,
    λ is. (exactly x).1 (ap (take size) is ∙ fields_front (fields x) size (fields_sized x is)),
  )

-- the fields stand before eight bits, and then their check is written there
pub check_written : (fields front tail part : List Bool) (size check n : ℕ) → length fields ≡ size → front ≡ fields → length tail ≡ 8 →
    check ≡ crc8_of (take size (front ++ tail)) → part ≡ bits_of (length (take 8 (drop size (front ++ tail)))) n → n ≡ check →
    put_mid size 8 (front ++ tail) part ≡ with_check fields
unfolding with_check
check_written fields front tail part size check n long e eight crc p same =
    let all = length-append front tail in
    let sized : length front ≡ size = ap length e ∙ long in
    let value : check ≡ crc8_of fields = crc ∙ ap crc8_of (take_at front tail size sized ∙ e) in
    let made = field_more front (front ++ tail) (front ++ tail) part size 8 (crc8_of fields) n sized (omega arith)
    (ap (λ l. front ++ l) (sym (drop_at front tail size sized))) p (same ∙ value) in
    let none = drop_all (size + 8) (front ++ tail) (omega arith) in
    made ∙ (ap (λ l. front ++ bits_of 8 (crc8_of fields) ++ l) none ∙ (append-nil (front ++ bits_of 8 (crc8_of fields)) ∙ ap (λ l. l ++ bits_of 8 (crc8_of fields)) e))

-- fields from which what they state comes back tell it apart
pub told_by_fields : {R : Type 0} (fields : R → List Bool) (stated : List Bool → Result R BadRecord) → ((x : R) → stated (fields x) ≡ Ok x) →
    (a b : R) → fields a ≡ fields b → a ≡ b
told_by_fields {R = R} fields stated back a b e =
    let p = back a in
    let q = back b in
    let f = ap stated e in
    let same : ◌≡◌ {A = Result R BadRecord} (Ok a) (Ok b) = cc in
    cc

-- there is one way for a record to be bad
pub error_is : {R : Type 0} (r : Result R BadRecord) → is_err r ≡ true → r ≡ Err (record {})
error_is (Ok t) e = absurd (false≢true e)
error_is (Err b) e = refl

-- an answer that is what fields state is right, when what they state tells the fields
pub fields_read : {R : Type 0} (fields : R → List Bool) (stated : List Bool → Result R BadRecord) (bits : List Bool) (r : Result R BadRecord) →
    ((x : R) → stated bits ≡ Ok x → bits ≡ fields x) → ((x : R) → stated (fields x) ≡ Ok x) → r ≡ stated bits → ReadsBits fields bits r
fields_read fields stated bits r forth back e x = (λ is. forth x (sym e ∙ is), λ is. e ∙ ap stated is ∙ back x)
