-- A filled line-up has room for what the streams carry. Assumes nothing.
use Rattle.std.proofs.Common.{◌==◌, ◌≡◌, ℕ, ◌+◌, ◌*◌, ◌/◌, ◌%◌, ◌≤◌, add-mul, mul_assoc, List, ℤ, Some, Option, ⊎_elim, sym, ap, ◌∙◌, subst, arith, lit≤}
use Rattle.std.proofs.lemmas.Nat.{mul-le}
use Rattle.std.proofs.lemmas.Bool.{and_parts, eqb-true, leb-true, or_cases}
use Rattle.modes.specs.Modes.{data_number, occupancy_number, rate_number, tis_number}
use Rattle.modes.specs.declared.mode.DataConstellation.{DataConstellation}
use Rattle.modes.specs.declared.mode.DataConstellation.TheVariants.{Qam4, Qam16, Qam64}
use Rattle.staircase.specs.Staircase.{Shaped}
use Rattle.staircase.specs.declared.shape.Shape.{Shape}
use Rattle.lineup.specs.declared.kind.CellKind.{CellKind}
use Rattle.lineup.specs.declared.mode.Mode.{Mode}
use Rattle.lineup.specs.Judging.{held}
use Rattle.lineup.specs.Kinds.{plan_bytes}
use Rattle.lineup.specs.Layouts.{Roomy, words_of}
use Rattle.lineup.specs.LineUps.{Asked, Holds, Pass8, asked, data_words}
use Rattle.lineup.proofs.Sizes.{tis_cells_counted}

words_few : (d : DataConstellation) → data_words (data_number d) ≤ 3
words_few Qam4 = lit≤ tt
words_few Qam16 = lit≤ tt
words_few Qam64 = lit≤ tt

-- a word has an even number of bits, since K + M is 2 × M or 4 × M
word_even : (lift rows columns : ℕ) → Shaped rows columns → 2 * ((columns + rows) * lift / 2) ≡ (columns + rows) * lift
word_even lift rows columns shaped =
    let part : ℕ = rows * lift in
    ⊎_elim
    (λ e. let same = eqb-true columns rows e in let sum : (columns + rows) * lift ≡ part + part = ap (λ c. (c + rows) * lift) same ∙ add-mul rows rows lift in omega arith)
    (λ e. let same = eqb-true columns (3 * rows) e in let sum : (columns + rows) * lift ≡ 3 * part + part = ap (λ c. (c + rows) * lift) same ∙ add-mul (3 * rows) rows lift ∙ omega (arith, mul_assoc 3 rows lift) in omega arith)
    (or_cases (columns == rows) (columns == 3 * rows) shaped.3)

module _ (m : Mode) (plan : List CellKind) (shape : Shape) (exponents : List ℤ) where
  abbrev stated : Asked
  stated =
      asked (occupancy_number m.occupancy) (tis_number m.tis) (data_number m.«data») (rate_number m.rate) (plan_bytes plan)
      shape.lift shape.rows shape.columns exponents

  roomy_from : (k n : ℕ) → Pass8 stated → k ≡ shape.columns * shape.lift → n ≡ (shape.columns + shape.rows) * shape.lift → n ≤ 5120 → Roomy m plan k n
  roomy_from k n passed message word short =
      let few = words_few m.«data» in
      let long = mul-le shape.columns shape.lift 24 160 shape.shaped.2 shape.lifted.1 in
      let bits = mul-le (words_of m) k 3 3840 few (omega arith) in
      let streams = and_parts _ _ passed.0.0.0.0.1 in
      let block = and_parts _ _ passed.0.1 in
      let same : words_of m * k ≡ words_of m * (shape.columns * shape.lift) = ap (λ l. words_of m * l) message in
      let whole : words_of m * k % 8 ≡ 0 = ap (λ l. l % 8) same ∙ eqb-true _ _ block.0 in
      let bytes : 7 ≤ words_of m * k / 8 = rw (← same) at (leb-true _ _ block.1) in
      record {
        mis = leb-true _ _ streams.0;
        tis = rw (tis_cells_counted m.tis) (leb-true _ _ streams.1);
        «data» = rw word (leb-true _ _ passed.1);
        pairs = rw word (word_even shape.lift shape.rows shape.columns shape.shaped);
        word_bits = short;
        octets = omega arith;
        least = bytes;
        most = omega arith;
      }

  pub roomy : (mode : Option Mode) (cells : List CellKind) (k n : ℕ) → Holds (held mode plan shape exponents) Pass8 → mode ≡ Some m → cells ≡ plan
      → k ≡ shape.columns * shape.lift → n ≡ (shape.columns + shape.rows) * shape.lift → n ≤ 5120 → Roomy m cells k n
  roomy mode cells k n passed e same message word short =
      let known = passed stated (ap (λ o. held o plan shape exponents) e) in
      subst (λ p. Roomy m p k n) (sym same) (roomy_from k n known message word short)
