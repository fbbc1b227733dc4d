-- What `parse` gives of a word with no `+` in front, as the definitions of numbers have it.
use Rattle.std.proofs.Common.{◌≡◌, ◌≢◌, ℕ, ◌<◌, ◌≤◌, Bool, true, false, ◌&&◌, List, [], ◌∷◌, length, get_or, drop, Result, Ok, Err, Decides, cond, refl, ap, ◌∙◌, arith, ℤ, ⊎_elim, nat_lt, ◌^◌}
use Rattle.std.specs.Str.{all_ascii_digits}
use Rattle.std.specs.Str.Parse.{digits_value, ParsesUnsigned, ParsesSigned, starts_with_minus, ExplainsUnsignedError, ExplainsSignedError, HasUnsignedDigitsIfOk, HasSignedDigitsIfOk}
use Rattle.std.specs.Result.{OkIff}
use Rattle.std.specs.declared.num.ParseIntError.{ParseIntError}
use mir.Syntax.{w16}
use Rattle.std.proofs.lemmas.Str.Parse.{IsNumeralModel, numerals_by_value, tells_all_ascii_digits, parse_plain, parse_signed_plain, parse_signed_minus}
use Rattle.std.proofs.lemmas.Bool.{cases_Bool, and_left, and_right, cases_eq, ne_eqb}
use Rattle.std.proofs.lemmas.Bool.Decides.{nat_tests, Decides-like}
use Rattle.desk.specs.declared.trouble.Trouble.{Trouble}
use Rattle.desk.specs.declared.trouble.Trouble.TheVariants.{NoNumber}
use Rattle.desk.specs.Numbers.{Parses, writes_below, unsigned_of, signed_of}

own : IsNumeralModel (λ ds. all_ascii_digits ds ≡ true) (digits_value 10)
own = numerals_by_value _ tells_all_ascii_digits

-- what makes a word a number below a bound
abbrev Writes : ℕ → List ℕ → Type 0
Writes bound word = (all_ascii_digits word ≡ true) × (0 < length word) × (digits_value 10 word < bound)

writes_true : (bound : ℕ) (word : List ℕ) → all_ascii_digits word ≡ true → 0 < length word → digits_value 10 word < bound → writes_below bound word ≡ true
writes_true bound word a b e = grind (arith, nat_tests)

writes_parts : (bound : ℕ) (word : List ℕ) → writes_below bound word ≡ true → Writes bound word
writes_parts bound word e = grind (arith, nat_tests)

Decides-writes : (bound : ℕ) (word : List ℕ) → Decides (writes_below bound word) (Writes bound word)
Decides-writes bound word = (writes_parts bound word, λ h. writes_true bound word h.0 h.1 h.2)

-- a word that begins with `+` writes no number
plus_writes_none : (bound : ℕ) (word : List ℕ) → get_or word 0 0 ≡ 43 → writes_below bound word ≡ false
plus_writes_none bound [] e = refl
plus_writes_none bound (c ∷ cs) e =
    let none : all_ascii_digits (c ∷ cs) ≡ false = rw e refl in
    and_right (nat_lt 0 (length (c ∷ cs))) (all_ascii_digits (c ∷ cs) && nat_lt (digits_value 10 (c ∷ cs)) bound) (and_left _ _ none)

-- what is given exactly where P holds, is given by the test of P
answer_by : {T : Type 0} (gives : List ℕ → Result T ParseIntError → Type 0) (word : List ℕ) (P : Type 0) (test : Bool) (v : T) (r : Result T Trouble)
    → ((s : Result T ParseIntError) → gives word s → OkIff s P v) → Decides test P → Parses gives word r → r ≡ cond test (Ok v) (Err NoNumber)
answer_by gives word P test v (Ok n) given d h = let p = given (Ok n) h in rw (d.1 p.0) (ap Ok p.1)
answer_by gives word P test v (Err why) given d h =
    let out : test ≡ false = ⊎_elim (λ t. absurd (given (Err h.1.0) h.1.1 (d.0 t))) (λ f. f) (cases_Bool test) in
    rw out (ap Err h.0)

-- what `parse` gives at 32 bits, and at 16 bits with a sign
abbrev pub gives_unsigned : List ℕ → Result ℕ ParseIntError → Type 0
gives_unsigned bs s = ParsesUnsigned 32 10 bs s × ExplainsUnsignedError 10 bs s × HasUnsignedDigitsIfOk bs s

abbrev pub gives_signed : List ℕ → Result ℤ ParseIntError → Type 0
gives_signed bs s = ParsesSigned w16 10 bs s × ExplainsSignedError 10 bs s × HasSignedDigitsIfOk bs s

pub is_unsigned : (word : List ℕ) (r : Result ℕ Trouble) → (get_or word 0 0 ≡ 43 → r ≡ Err NoNumber) → (get_or word 0 0 ≢ 43 → Parses gives_unsigned word r) → r ≡ unsigned_of word
is_unsigned word r plus value =
    ⊎_elim (λ e. plus e ∙ rw (plus_writes_none (2 ^ 32) word e) refl)
    (λ ne. answer_by gives_unsigned word _ _ _ r (λ s h. parse_plain own 32 word s h.0 ne) (Decides-writes (2 ^ 32) word) (value ne))
    (cases_eq (get_or word 0 0) 43)

-- of a word that begins with `-` the rest is the number
minus_decides : (word : List ℕ) → Decides (writes_below 32769 word) ((all_ascii_digits word ≡ true) × (0 < length word) × (digits_value 10 word ≤ 32768))
minus_decides word = Decides-like _ (λ h. (h.0, h.1, omega (arith, h.2))) (λ h. (h.0, h.1, omega (arith, h.2))) (Decides-writes 32769 word)

pub is_signed : (word : List ℕ) (r : Result ℤ Trouble) → (get_or word 0 0 ≡ 43 → r ≡ Err NoNumber) → (get_or word 0 0 ≢ 43 → Parses gives_signed word r) → r ≡ signed_of word
is_signed word r plus value =
    ⊎_elim
    (λ e. plus e ∙ (let no_minus : starts_with_minus word ≡ false = rw e refl in rw (no_minus, plus_writes_none 32768 word e) refl))
    (λ ne. ⊎_elim
    (λ e. let minus : starts_with_minus word ≡ true = rw e refl in
    rw minus (answer_by gives_signed word _ _ _ r (λ s h. parse_signed_minus own w16 word s h.0 e) (minus_decides (drop 1 word)) (value ne)))
    (λ nm. let plain : starts_with_minus word ≡ false = ne_eqb _ _ nm in
    rw plain (answer_by gives_signed word _ _ _ r (λ s h. parse_signed_plain own w16 word s h.0 ne nm) (Decides-writes 32768 word) (value ne)))
    (cases_eq (get_or word 0 0) 45))
    (cases_eq (get_or word 0 0) 43)
