-- Cells laid on a plan one by one, and picked from it. Assumes nothing.
use Rattle.std.proofs.Common.{◌≡◌, ℕ, zero, suc, ◌+◌, ◌-◌, ◌*◌, ◌<◌, ◌≤◌, Bool, true, false, cond, List, [], ◌∷◌, ◌++◌, length, take, drop, get_or, set, ℤ, pos, nat_eq, refl, sym, ap, ◌∙◌, arith}
use Rattle.std.proofs.lemmas.List.{append_assoc, append-nil, drop_all, drop_more, take_all, take_more_set, length-append, length-take, length-take-le, take-append-drop, take_at}
use borrow.Rule.Slice.PartMut.{put_mid}
use Rattle.bits.proofs.Bits.{put_more}
use Rattle.cells.specs.declared.cell.Cell.{Cell}
use Rattle.lineup.specs.declared.kind.CellKind.{CellKind}
use Rattle.lineup.specs.declared.kind.CellKind.TheVariants.{Mis, Tis, Data}
use Rattle.lineup.specs.Layouts.{kind_count}
use Rattle.lineup.specs.Kinds.{kind_number, plan_bytes}
use Rattle.std.proofs.lemmas.List.Recursion.{is_count_by}
use Rattle.frames.specs.Laying.{cell_at, cell_for, cells_in, laid, left, numbers_of, of_kind, picked}

-- two numbers more, written behind those before them
two_more : (numbers part : List ℤ) (a k : ℕ) → a + k ≤ length numbers → length part ≡ k → take (a + k) (put_mid a k numbers part) ≡ take a numbers ++ part
two_more numbers part a k room size =
    let front : length (take a numbers) ≡ a = length-take-le a numbers (omega arith) in
    let put : put_mid a k numbers part ≡ take a numbers ++ part ++ drop (a + k) numbers =
    put_more (take a numbers) numbers numbers part part a k (a + k) front refl (sym (take-append-drop a numbers)) refl in
    let all : length (take a numbers ++ part) ≡ a + k = length-append (take a numbers) part ∙ omega arith in
    ap (take (a + k)) put ∙ take_at (take a numbers ++ part) (drop (a + k) numbers) (a + k) all

-- one cell more
pub lay_more : (done : List ℤ) (plan : List CellKind) (x : CellKind) (m t d p q r : List Cell) (cell : Cell) (numbers part : List ℤ) (i k : ℕ) →
    i < length plan → length numbers ≡ 2 * length plan → k ≡ 2 →
    done ≡ take (2 * i) numbers ++ numbers_of (laid (drop i plan) m t d) →
    cell ≡ cell_for (get_or plan i x) m t d → part ≡ cell.real ∷ cell.imaginary ∷ [] →
    p ≡ left Mis (get_or plan i x) m → q ≡ left Tis (get_or plan i x) t → r ≡ left Data (get_or plan i x) d →
    done ≡ take (2 * (i + 1)) (put_mid (2 * i) k numbers part) ++ numbers_of (laid (drop (i + 1) plan) p q r)
unfolding laid
lay_more done plan x m t d p q r cell numbers part i k h size two e c s f g j =
    let rest = numbers_of (laid (drop (i + 1) plan) p q r) in
    let one : laid (drop i plan) m t d ≡ cell ∷ laid (drop (i + 1) plan) p q r = rw (drop_more plan i x h, c, f, g, j) refl in
    let end : 2 * (i + 1) ≡ 2 * i + k = omega arith in
    let written : take (2 * (i + 1)) (put_mid (2 * i) k numbers part) ≡ take (2 * i) numbers ++ (cell.real ∷ cell.imaginary ∷ []) =
    rw end (two_more numbers part (2 * i) k (omega arith) (ap length s ∙ sym two)) ∙ ap (λ l. take (2 * i) numbers ++ l) s in
    e ∙ ap (λ l. take (2 * i) numbers ++ numbers_of l) one ∙ sym (append_assoc (take (2 * i) numbers) (cell.real ∷ cell.imaginary ∷ []) rest) ∙ ap (λ l. l ++ rest) (sym written)

-- all cells
pub lay_all : (done : List ℤ) (plan : List CellKind) (m t d : List Cell) (numbers : List ℤ) (i : ℕ) → length plan ≤ i → length numbers ≡ 2 * length plan →
    done ≡ take (2 * i) numbers ++ numbers_of (laid (drop i plan) m t d) → numbers ≡ done
unfolding laid
lay_all done plan m t d numbers i h size e =
    let none : drop i plan ≡ [] = drop_all i plan h in
    let all : take (2 * i) numbers ≡ numbers = take_all (2 * i) numbers (omega arith) in
    sym (e ∙ rw (none, all) (append-nil numbers))

-- the cell at a place, and those behind it
cells_more : (numbers : List ℤ) (i : ℕ) → 2 * i + 1 < length numbers → cells_in (drop (2 * i) numbers) ≡ cell_at numbers i ∷ cells_in (drop (2 * (i + 1)) numbers)
unfolding cells_in
cells_more numbers i h =
    let one = drop_more numbers (2 * i) (pos 0) (omega arith) in
    let two = drop_more numbers (2 * i + 1) (pos 0) h in
    let end : 2 * (i + 1) ≡ 2 * i + 1 + 1 = omega arith in
    rw (one, two, end) refl

module _ (wanted : CellKind) (plan : List CellKind) (numbers : List ℤ) (x : CellKind) where
  -- the cells of the kind from a place on
  abbrev pub picked_from : ℕ → List Cell
  picked_from i = picked wanted (drop i plan) (cells_in (drop (2 * i) numbers))

  picked_more : (i : ℕ) → i < length plan → length numbers ≡ 2 * length plan →
      picked_from i ≡ cond (of_kind wanted (get_or plan i x)) (cell_at numbers i ∷ picked_from (i + 1)) (picked_from (i + 1))
  unfolding picked
  picked_more i h size = rw (drop_more plan i x h, cells_more numbers i (omega arith)) refl

  picked_here : (i : ℕ) → i < length plan → length numbers ≡ 2 * length plan → of_kind wanted (get_or plan i x) ≡ true → picked_from i ≡ cell_at numbers i ∷ picked_from (i + 1)
  picked_here i h size is = rw is at (picked_more i h size)

  picked_later : (i : ℕ) → i < length plan → length numbers ≡ 2 * length plan → of_kind wanted (get_or plan i x) ≡ false → picked_from i ≡ picked_from (i + 1)
  picked_later i h size is = rw is at (picked_more i h size)

  module _ (all cells : List Cell) (n found i : ℕ) (h : i < length plan) (size : length numbers ≡ 2 * length plan) (e : all ≡ take found cells ++ take (n - found) (picked_from i)) where
    -- a cell of the kind is copied
    pub gather_here : of_kind wanted (get_or plan i x) ≡ true → found < n → length cells ≡ n → (after : List Cell) → after ≡ set cells found (cell_at numbers i)
        → all ≡ take (found + 1) after ++ take (n - (found + 1)) (picked_from (i + 1))
    gather_here is room long after put =
        let c = cell_at numbers i in
        let rest = take (n - (found + 1)) (picked_from (i + 1)) in
        let left : n - found ≡ suc (n - (found + 1)) = omega arith in
        let next : take (n - found) (picked_from i) ≡ c ∷ rest = rw (picked_here i h size is, left) refl in
        let t = take_more_set cells found c (omega arith) in
        e ∙ ap (λ l. take found cells ++ l) next ∙ sym (append_assoc (take found cells) (c ∷ []) rest) ∙ ap (λ l. l ++ rest) (sym (ap (take (found + 1)) put ∙ t))

    -- there is no room for more
    pub gather_full : n ≤ found → all ≡ take found cells ++ take (n - found) (picked_from (i + 1))
    gather_full full =
        let none : n - found ≡ 0 = omega arith in
        rw none (rw none at e)

    -- a cell of another kind
    pub gather_other : of_kind wanted (get_or plan i x) ≡ false → all ≡ take found cells ++ take (n - found) (picked_from (i + 1))
    gather_other is = e ∙ ap (λ l. take found cells ++ take (n - found) l) (picked_later i h size is)

-- the count, cell by cell
abbrev pub counted : ℕ → List ℕ → ℕ
counted kind [] = 0
counted kind (b ∷ bytes) = cond (nat_eq b kind) (1 + counted kind bytes) (counted kind bytes)

pub is_counted : (wanted : CellKind) (plan : List CellKind) → counted (kind_number wanted) (plan_bytes plan) ≡ kind_count wanted plan
is_counted wanted plan =
    is_count_by (counted (kind_number wanted)) (λ b. nat_eq b (kind_number wanted)) refl (λ b bytes. refl) (plan_bytes plan)

one_if : (b : Bool) (x : Cell) (xs : List Cell) (n : ℕ) → length xs ≡ n → length (cond b (x ∷ xs) xs) ≡ cond b (1 + n) n
one_if true x xs n e = omega arith
one_if false x xs n e = e

picked_size : (wanted : CellKind) (plan : List CellKind) (xs : List Cell) → length xs ≡ length plan → length (picked wanted plan xs) ≡ counted (kind_number wanted) (plan_bytes plan)
unfolding picked
picked_size wanted [] xs e = refl
picked_size wanted (k ∷ plan) [] e = absurd (omega arith)
picked_size wanted (k ∷ plan) (x ∷ xs) e = one_if (of_kind wanted k) x (picked wanted plan xs) (counted (kind_number wanted) (plan_bytes plan)) (picked_size wanted plan xs (omega arith))

-- as many cells are picked as the plan has of the kind
pub length_picked : (wanted : CellKind) (plan : List CellKind) (xs : List Cell) → length xs ≡ length plan → length (picked wanted plan xs) ≡ kind_count wanted plan
length_picked wanted plan xs e = picked_size wanted plan xs e ∙ is_counted wanted plan

pub length_cells : (n : ℕ) (numbers : List ℤ) → length numbers ≡ 2 * n → length (cells_in numbers) ≡ n
unfolding cells_in
length_cells zero [] e = refl
length_cells zero (x ∷ numbers) e = absurd (omega arith)
length_cells (suc n) [] e = absurd (omega arith)
length_cells (suc n) (x ∷ []) e = absurd (omega arith)
length_cells (suc n) (x ∷ y ∷ numbers) e = ap suc (length_cells n numbers (omega arith))

-- all cells of the kind are copied, as many as there is room for
pub gather_all : (wanted : CellKind) (plan : List CellKind) (numbers : List ℤ) (cells : List Cell) (n found i : ℕ) → length plan ≤ i → length numbers ≡ 2 * length plan → n ≤ kind_count wanted plan → length cells ≡ n → found ≤ n →
    take n (picked wanted plan (cells_in numbers)) ≡ take found cells ++ take (n - found) (picked wanted (drop i plan) (cells_in (drop (2 * i) numbers))) →
    cells ≡ take n (picked wanted plan (cells_in numbers))
unfolding picked
gather_all wanted plan numbers cells n found i h size few long within e =
    let none : drop i plan ≡ [] = drop_all i plan h in
    let all : take n (picked wanted plan (cells_in numbers)) ≡ take found cells = rw none at e ∙ rw (take_all {A = Cell} (n - found) [] (omega arith)) (append-nil (take found cells)) in
    let count = length_picked wanted plan (cells_in numbers) (length_cells (length plan) numbers size) in
    let full : found ≡ n = omega (arith, ap length all, length-take n (picked wanted plan (cells_in numbers)), length-take found cells) in
    sym (all ∙ take_all found cells (omega arith))
