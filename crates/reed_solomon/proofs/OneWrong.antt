-- One wrong place: what it does to the values, and how the first two of these tell it.
-- Assumes nothing.
use Rattle.std.proofs.Common.{◌≡◌, ℕ, zero, suc, ◌+◌, ◌-◌, ◌*◌, ◌<◌, ◌≤◌, ◌⊎◌, List, [], ◌∷◌, length, get_or, set, replicate, sym, refl, ap, ◌∙◌, ap₂, inl, inr, ⊎_elim, le_refl, pos_of_ne-zero, mul-one, mul-suc, arith, length-set}
use lib.Bits.{bit_xor, xor_comm, xor_assoc, xor_zero_r}
use Rattle.codes.specs.Symbols.{differing}
use Rattle.reed_solomon.specs.Field.{raised}
use Rattle.reed_solomon.specs.Words.{value_at, Roots, Symbols, added}
use Rattle.reed_solomon.specs.Errors.{OneWrong, changed}
use Rattle.reed_solomon.specs.Powers.{xor_twice, xor_none, xor_below, raised_lt, raised-xor, raised-zero, raised-add, raised_none, raised-same, raised_back, raised_power}
use Rattle.reed_solomon.specs.ValuesLemmas.{symbols_head, symbols_tail, symbols_at, symbols_set, symbols_added, length-added, value_at-cons, value_at-zeros, value_at-lt, value_at-added}
use Rattle.codes.specs.SymbolsLemmas.{apart-same, apart_other, apart_cases, differing_self}
use Rattle.reed_solomon.specs.Distance.{weight, differs, differs-weight, added_none}

-- ---- a list with one place that is not 0

pub weight_none : (cs : List ℕ) → weight cs ≡ 0 → cs ≡ replicate (length cs) 0
unfolding weight
weight_none [] e = refl
weight_none (c ∷ cs) e =
    ⊎_elim (λ s. ap₂ ◌∷◌ s.0 (weight_none cs (omega arith))) (λ f. absurd (omega (arith, f.1))) (apart_cases c 0)

-- some place and error
abbrev pub SomeWrong : ℕ → List ℕ → Type 0
SomeWrong r cs = (p : ℕ) × (e : ℕ) × OneWrong r cs p e

one_place : (r : ℕ) (cs : List ℕ) → Symbols cs → weight cs ≤ 1 → (cs ≡ replicate (length cs) 0) ⊎ SomeWrong r cs
unfolding weight
one_place r [] s h = inl refl
one_place r (c ∷ cs) s h =
    ⊎_elim
    (λ e.
    ⊎_elim (λ z. inl (ap₂ ◌∷◌ e.0 z))
    (λ o. inr (
      o.0,
      o.1,
      record {
        inside = omega (arith, o.2.inside);
        some = o.2.some;
        symbol = o.2.symbol;
        values = λ j u l.
            value_at-cons j c cs
            ∙ ap₂ bit_xor (ap (raised (length cs * j)) e.0 ∙ raised-zero (length cs * j)) (o.2.values j u l);
      },
    ))
    (one_place r cs (symbols_tail c cs s) (omega arith)))
    (λ f. inr (
      length cs,
      c,
      record {
        inside = le_refl (length (c ∷ cs));
        some = pos_of_ne-zero f.0;
        symbol = symbols_head c cs s;
        values = λ j u l.
            value_at-cons j c cs
            ∙ ap (λ (x : ℕ). bit_xor (raised (length cs * j) c) x)
            (ap (value_at j) (weight_none cs (omega (arith, f.1))) ∙ value_at-zeros j (length cs))
            ∙ xor_zero_r (raised (length cs * j) c);
      },
    ))
    (apart_cases c 0)

-- ---- what is given has one wrong place

pub one_wrong : (r : ℕ) (w given : List ℕ) → Roots r w → Symbols w → Symbols given → length w ≡ length given → differing (λ (x : ℕ). x) w given ≤ 1 → (w ≡ given) ⊎ SomeWrong r given
one_wrong r w given roots s t n d =
    let k : length (added w given) ≡ length w = length-added w given in
    ⊎_elim (λ z. inl (added_none w given n (z ∙ ap (λ (m : ℕ). replicate m 0) k)))
    (λ o. inr (
      o.0,
      o.1,
      record {
        inside = omega (arith, o.2.inside);
        some = o.2.some;
        symbol = o.2.symbol;
        values = λ j h l.
            sym (value_at-added j w given n ∙ ap (λ (x : ℕ). bit_xor x (value_at j given)) (roots j h l)) ∙ o.2.values j h l;
      },
    ))
    (one_place r (added w given) (symbols_added w given s t) (omega (arith, differs-weight w given n)))

-- ---- the values at α and α^2

-- where more of the values are those of one wrong symbol, the first two are
pub first_two : (r : ℕ) (given : List ℕ) (p e : ℕ) → 2 ≤ r → OneWrong r given p e → OneWrong 2 given p e
first_two r given p e h o = record { inside = o.inside; some = o.some; symbol = o.symbol; values = λ j u l. o.values j u (omega arith) }

module _ (given : List ℕ) (p e : ℕ) (o : OneWrong 2 given p e) where
  first_value : value_at 1 given ≡ raised p e
  first_value = o.values 1 (omega arith) (omega arith) ∙ ap (λ k. raised k e) (mul-one p)

  pub second_value : value_at 2 given ≡ raised p (value_at 1 given)
  second_value =
      o.values 2 (omega arith) (omega arith) ∙ ap (λ k. raised k e) (omega (arith, mul-suc p 1)) ∙ raised-add p p e
      ∙ ap (raised p) (sym first_value)

  pub first_some : 0 < value_at 1 given
  first_some = pos_of_ne-zero (λ z. omega (arith, o.some, raised_none p e o.symbol (sym first_value ∙ z)))

  pub second_some : Symbols given → value_at 2 given ≡ 0 → ⊥
  second_some s z = omega (arith, first_some, raised_none p (value_at 1 given) (value_at-lt 1 given s) (sym second_value ∙ z))

  -- so they tell the place, and with it the error
  pub same_place : (q : ℕ) → Symbols given → length given ≤ 127 → q < 127 → value_at 2 given ≡ raised q (value_at 1 given) → p ≡ q
  same_place q s short h step =
      raised_power p q (value_at 1 given) (value_at-lt 1 given s) first_some (omega (arith, o.inside)) h (sym second_value ∙ step)

  pub same_error : (f : ℕ) → OneWrong 2 given p f → e ≡ f
  same_error f q =
      raised-same p e f o.symbol q.symbol (sym first_value ∙ q.values 1 (omega arith) (omega arith) ∙ ap (λ k. raised k f) (mul-one p))

pub told : (given : List ℕ) (p : ℕ) → p < length given → length given ≤ 127 → Symbols given → 0 < value_at 1 given
    → value_at 2 given ≡ raised p (value_at 1 given) → OneWrong 2 given p (raised (127 - p) (value_at 1 given))
told given p h short s some step =
    record {
      inside = h;
      some = pos_of_ne-zero (λ z. omega (arith, some, up ∙ ap (raised p) z ∙ raised-zero p));
      symbol = raised_lt (127 - p) (value_at 1 given) (value_at-lt 1 given s);
      values = at;
    }
  where
    e : ℕ
    e = raised (127 - p) (value_at 1 given)

    up : value_at 1 given ≡ raised p e
    up = sym (raised_back p (value_at 1 given) (value_at-lt 1 given s) (omega arith))

    at : (j : ℕ) → 1 ≤ j → j ≤ 2 → value_at j given ≡ raised (p * j) e
    at zero u l = absurd (omega arith)
    at (suc zero) u l = up ∙ ap (λ k. raised k e) (sym (mul-one p))
    at (suc (suc zero)) u l = step ∙ ap (raised p) up ∙ sym (raised-add p p e) ∙ ap (λ k. raised k e) (omega (arith, mul-suc p 1))
    at (suc (suc (suc j))) u l = absurd (omega arith)

-- ---- a symbol is changed

value_set : (j : ℕ) (xs : List ℕ) (i e : ℕ) → i < length xs
    → value_at j (set xs i (bit_xor (get_or xs i 0) e)) ≡ bit_xor (value_at j xs) (raised ((length xs - 1 - i) * j) e)
unfolding value_at
value_set j [] i e h = absurd (omega arith)
value_set j (x ∷ xs) zero e h =
    ap (λ (z : ℕ). bit_xor z (value_at j xs)) (raised-xor (length xs * j) x e)
    ∙ xor_assoc (raised (length xs * j) x) (raised (length xs * j) e) (value_at j xs)
    ∙ ap (λ (z : ℕ). bit_xor (raised (length xs * j) x) z)
    (xor_comm (raised (length xs * j) e) (value_at j xs)
    ∙ ap (λ (k : ℕ). bit_xor (value_at j xs) (raised (k * j) e)) (omega arith))
    ∙ sym (xor_assoc (raised (length xs * j) x) (value_at j xs) (raised ((length (x ∷ xs) - 1 - 0) * j) e))
value_set j (x ∷ xs) (suc i) e h =
    ap₂ bit_xor (ap (λ (k : ℕ). raised (k * j) x) (length-set xs i (bit_xor (get_or xs i 0) e)))
    (value_set j xs i e (omega arith) ∙ ap (λ (k : ℕ). bit_xor (value_at j xs) (raised (k * j) e)) (omega arith))
    ∙ sym (xor_assoc (raised (length xs * j) x) (value_at j xs) (raised ((length (x ∷ xs) - 1 - suc i) * j) e))

pub value_at-changed : (j : ℕ) (given : List ℕ) (p e : ℕ) → p < length given → value_at j (changed given p e) ≡ bit_xor (value_at j given) (raised (p * j) e)
value_at-changed j given p e h =
    value_set j given (length given - 1 - p) e (omega arith)
    ∙ ap (λ (k : ℕ). bit_xor (value_at j given) (raised (k * j) e)) (omega arith)

pub length-changed : (given : List ℕ) (p e : ℕ) → length (changed given p e) ≡ length given
length-changed given p e = length-set given (length given - 1 - p) (bit_xor (get_or given (length given - 1 - p) 0) e)

pub symbols_changed : (given : List ℕ) (p e : ℕ) → Symbols given → e < 128 → Symbols (changed given p e)
symbols_changed given p e s h =
    symbols_set given (length given - 1 - p) (bit_xor (get_or given (length given - 1 - p) 0) e) s
    (xor_below (get_or given (length given - 1 - p) 0) e (symbols_at given (length given - 1 - p) s) h)

pub differs-set : (xs : List ℕ) (i y : ℕ) → i < length xs → (y ≡ get_or xs i 0 → ⊥) → differs (set xs i y) xs ≡ 1
unfolding differing
differs-set [] i y h f = absurd (omega arith)
differs-set (x ∷ xs) zero y h f = ap₂ ◌+◌ (apart_other y x f) (differing_self (λ (x : ℕ). x) xs)
differs-set (x ∷ xs) (suc i) y h f = ap₂ ◌+◌ (apart-same x x refl) (differs-set xs i y (omega arith) f)

pub differs-changed : (given : List ℕ) (p e : ℕ) → p < length given → 0 < e → differs (changed given p e) given ≡ 1
differs-changed given p e h l =
    differs-set given (length given - 1 - p) (bit_xor a e) (omega arith)
    (λ q. omega (arith, l, sym (xor_twice e a) ∙ ap (λ (x : ℕ). bit_xor x a) (xor_comm e a ∙ q) ∙ xor_none a a refl))
  where
    a : ℕ
    a = get_or given (length given - 1 - p) 0

-- the error added at its place takes the values away
pub roots_changed : (r : ℕ) (given : List ℕ) (p e : ℕ) → OneWrong r given p e → Roots r (changed given p e)
roots_changed r given p e o j h l =
    value_at-changed j given p e o.inside ∙ xor_none (value_at j given) (raised (p * j) e) (o.values j h l)
