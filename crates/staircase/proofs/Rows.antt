-- Row sums, a column at a time. Assumes nothing.
use Rattle.std.proofs.Common.{◌==◌, ◌≡◌, ℕ, ◌+◌, ◌-◌, ◌*◌, ◌%◌, ◌<◌, ◌≤◌, Bool, false, List, [], ◌∷◌, ◌++◌, length, get_or, take, drop, min, add-mul, ℤ, pos, negsuc, ◌<ℤ◌, sym, refl, ap, ◌∙◌, ⊎_elim, arith}
use Rattle.std.specs.Int.{FitsUnsignedBits}
use Rattle.std.proofs.Math.Nat.{add-mod-mod, add-mod_left, mod-eq_of_lt}
use Rattle.std.proofs.lemmas.Nat.{mul-le}
use Rattle.std.proofs.lemmas.Bool.{cases_lt, eqb-true, or_cases}
use Rattle.std.proofs.lemmas.Int.{ints}
use Rattle.std.proofs.lemmas.List.{drop-drop, drop_at, get_or-append_right, get_or-drop, get_or-take, get_or_append_left, length-append, length-drop, length-take-le, take_at}
use Rattle.staircase.specs.Staircase.{Shaped, moved, places, row_of, row_sum, ◌⊕◌}
use Rattle.staircase.specs.Places.{get_or-places, length-places, moved-group, places_is, sum_assoc}

-- the place that a moved bit comes from, before the end of the group and behind it
from_back : (n r s shift : ℕ) → s ≡ shift % n → r + s < n → (r + shift) % n ≡ s + r
from_back n r s shift e h = sym (add-mod-mod r shift n) ∙ (rw (← e) (mod-eq_of_lt h ∙ omega arith))

from_front : (n r s shift : ℕ) → s ≡ shift % n → r < n → n ≤ r + s → s < n → (r + shift) % n ≡ r - (n - s)
from_front n r s shift e k h l =
    let past : r + s ≡ n + (r + s - n) = omega arith in
    let small : r + s - n < n = omega arith in
    sym (add-mod-mod r shift n) ∙ (rw (← e) (ap (λ (x : ℕ). x % n) past ∙ add-mod_left n (r + s - n) ∙ mod-eq_of_lt small ∙ omega arith))

module _ (old group low high front back : List Bool) (shift s m : ℕ) where
  -- the group behind the shift is added first, then the group up to the shift
  pub moved_sums : (lows highs : List Bool) → s ≡ shift % length old → s < length old → s + m ≡ length old
      → front ≡ take s group → back ≡ drop s group → low ≡ take m old → high ≡ drop m old
      → lows ≡ places (length low) (λ r. get_or low r false ⊕ get_or back r false)
      → highs ≡ places (length high) (λ r. get_or high r false ⊕ get_or front r false)
      → lows ++ highs ≡ places (length old) (λ r. get_or old r false ⊕ get_or group ((r + shift) % length old) false)
  moved_sums lows highs turn few whole f b l h added added_front =
      let n = length old in
      let first : length low ≡ m = ap length l ∙ length-take-le m old (omega arith) in
      let second : length high ≡ s = ap length h ∙ length-drop m old ∙ omega arith in
      let sizes : length lows ≡ m = ap length added ∙ length-places (length low) _ ∙ first in
      let size : length highs ≡ s = ap length added_front ∙ length-places (length high) _ ∙ second in
      places_is (lows ++ highs) n _ (length-append lows highs ∙ omega arith)
      (λ r k.
      ⊎_elim
      (λ less.
      let sum = ap (λ (xs : List Bool). get_or xs r false) l ∙ get_or-take m old r false less in
      let bit = ap (λ (xs : List Bool). get_or xs r false) b ∙ get_or-drop s group r false ∙ ap (λ (q : ℕ). get_or group q false) (sym (from_back n r s shift turn (omega arith))) in
      get_or_append_left lows highs false r (omega arith)
      ∙ ap (λ (xs : List Bool). get_or xs r false) added ∙ get_or-places (length low) _ r (omega arith) ∙ (λ i. sum i ⊕ bit i))
      (λ more.
      let q = r - m in
      let back_again : m + q ≡ r = omega arith in
      let rest : r - (n - s) ≡ q = omega arith in
      let sum = ap (λ (xs : List Bool). get_or xs q false) h ∙ get_or-drop m old q false ∙ ap (λ (p : ℕ). get_or old p false) back_again in
      let bit = ap (λ (xs : List Bool). get_or xs q false) f ∙ get_or-take s group q false (omega arith) ∙ ap (λ (p : ℕ). get_or group p false) (sym (from_front n r s shift turn k (omega arith) few ∙ rest)) in
      get_or-append_right lows highs m r false sizes more
      ∙ ap (λ (xs : List Bool). get_or xs q false) added_front ∙ get_or-places (length high) _ q (omega arith) ∙ (λ i. sum i ⊕ bit i))
      (cases_lt r m))

-- a column with the exponent −1 gives nothing
pub moved_none : (lift : ℕ) (e : ℤ) (bits : List Bool) (r : ℕ) → e <ℤ pos 32768 → (FitsUnsignedBits 64 e → ⊥) → moved lift e bits r ≡ false
moved_none lift (pos e) bits r h f = absurd (f (omega (arith, ints)))
moved_none lift (negsuc n) bits r h f = refl

module _ (lift : ℕ) where
  -- the first column, and the columns behind it
  row_sum_more : (e : ℤ) (es : List ℤ) (group rest : List Bool) (r : ℕ) → 0 < lift → length group ≡ lift
      → row_sum lift (e ∷ es) (group ++ rest) r ≡ moved lift e group r ⊕ row_sum lift es rest r
  unfolding row_sum
  row_sum_more e es group rest r some size =
      rw (← moved-group lift e (group ++ rest) r some, take_at group rest lift size, drop_at group rest lift size)

  -- one more column added to the sums
  pub row_more : (e : ℤ) (es : List ℤ) (group rest sums new : List Bool) (total : ℕ → Bool) → 0 < lift → length sums ≡ lift → length group ≡ lift
      → ((r : ℕ) → r < lift → get_or sums r false ⊕ row_sum lift (e ∷ es) (group ++ rest) r ≡ total r)
      → new ≡ places (length sums) (λ r. get_or sums r false ⊕ moved (length sums) e group r)
      → (r : ℕ) → r < lift → get_or new r false ⊕ row_sum lift es rest r ≡ total r
  row_more e es group rest sums new total some size whole inv added r h =
      let here = moved lift e group r in
      let left = row_sum lift es rest r in
      let at : get_or new r false ≡ get_or sums r false ⊕ here = rw added (rw size (get_or-places lift _ r h)) in
      ap (λ (b : Bool). b ⊕ left) at ∙ sum_assoc (get_or sums r false) here left
      ∙ ap (λ (b : Bool). get_or sums r false ⊕ b) (sym (row_sum_more e es group rest r some whole)) ∙ inv r h

  -- no column is left
  pub row_sum_none : (es : List ℤ) (rest : List Bool) (r : ℕ) → length es ≡ 0 → row_sum lift es rest r ≡ false
  unfolding row_sum
  row_sum_none [] rest r h = refl
  row_sum_none (e ∷ es) rest r h = absurd (omega arith)

-- a group off the bits of n columns
pub column_sizes : (lift n k g rest all : ℕ) → n ≡ k + 1 → all ≡ n * lift → all ≡ g + rest → g ≡ min lift all → (g ≡ lift) × (rest ≡ k * lift)
column_sizes lift n k g rest all e h sum least =
    let more : n * lift ≡ k * lift + lift = ap (λ (m : ℕ). m * lift) e ∙ omega (arith, add-mul k 1 lift) in
    (omega arith, omega arith)

-- no bits are those of no column
pub no_columns : (lift n all : ℕ) → 1 ≤ lift → all ≡ n * lift → all ≡ 0 → n ≡ 0
no_columns lift n all some h none = let most = mul-le n 1 n lift (omega arith) some in omega arith

-- a row off the exponents that are left before the row i
pub record RowTaken (columns : ℕ) (es taken left : List ℤ) (rows i : ℕ) : Type 0 where
  pub before : i < rows
  pub size : length taken ≡ columns
  pub row : taken ≡ row_of columns es i
  pub rest : left ≡ drop ((i + 1) * columns) es

pub row_taken : (columns : ℕ) (es left row rest : List ℤ) (rows i : ℕ) → length es ≡ rows * columns → i ≤ rows → left ≡ drop (i * columns) es
    → left ≡ row ++ rest → length row ≡ min columns (length left) → 0 < length left → RowTaken columns es row rest rows i
row_taken columns es left row rest rows i whole few is parts least some =
    let room : length left ≡ length es - i * columns = ap length is ∙ length-drop (i * columns) es in
    let before : i < rows = ⊎_elim (λ less. less) (λ more. let same : i ≡ rows = omega arith in absurd (omega (arith, ap (λ (m : ℕ). m * columns) same))) (cases_lt i rows) in
    let most = mul-le (i + 1) columns rows columns (omega arith) (omega arith) in
    let one : (i + 1) * columns ≡ i * columns + columns = omega (arith, add-mul i 1 columns) in
    let size : length row ≡ columns = omega arith in
    record {
      before = before;
      size = size;
      row = sym (take_at row rest columns size) ∙ ap (take columns) (sym parts ∙ is);
      rest = sym (drop_at row rest columns size) ∙ ap (drop columns) (sym parts ∙ is) ∙ drop-drop columns (i * columns) es ∙ ap (λ (k : ℕ). drop k es) (sym one);
    }

-- no row is left
pub rows_done : (columns : ℕ) (es left : List ℤ) (rows i : ℕ) → 1 ≤ columns → length es ≡ rows * columns → i ≤ rows → left ≡ drop (i * columns) es → length left ≡ 0 → i ≡ rows
rows_done columns es left rows i some whole few is none =
    let room : length left ≡ length es - i * columns = ap length is ∙ length-drop (i * columns) es in
    ⊎_elim (λ (less : i < rows). let most = mul-le (i + 1) columns rows columns (omega arith) (omega arith) in absurd (omega (arith, add-mul i 1 columns))) (λ (more : rows ≤ i). omega arith) (cases_lt i rows)

pub some_columns : (rows columns : ℕ) → Shaped rows columns → 1 ≤ columns
some_columns rows columns s =
    ⊎_elim (λ e. omega (arith, eqb-true columns rows e)) (λ e. omega (arith, eqb-true columns (3 * rows) e)) (or_cases (columns == rows) (columns == 3 * rows) s.3)
