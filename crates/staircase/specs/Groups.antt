-- Check groups, one after the other. Assumes nothing.
use Rattle.std.specs.Prelude.{◌≡◌, ℕ, zero, suc, ◌+◌, ◌-◌, ◌*◌, ◌/◌, ◌%◌, ◌<◌, ◌≤◌, Bool, false, List, [], ◌∷◌, ◌++◌, length, get_or, take, drop, replicate, ℤ, slice_index_or, refl}
use Rattle.std.proofs.Common.{sym, ap, subst, ◌∙◌, ⊎_elim, add-mul, zero-mul, mul-zero, add-one, take-add, arith}
use borrow.Rule.Slice.PartMut.{put_mid}
use Rattle.std.specs.List.{range_with_len, flat_map}
use Rattle.std.proofs.lemmas.List.{append_assoc, length-append, get_or_append_left, get_or-append_right, flat_map_more, map-id, drop_at, take_at, drop-drop, ext_get_or, take-replicate, length-replicate, get_or-replicate, length-drop, length-take-le, get_or-take, get_or-drop}
use Rattle.std.proofs.lemmas.Nat.{mul-le, div_below, mod_below, div-add-mod'}
use Rattle.std.proofs.lemmas.List.FromFn.{map-range_with_len_more}
use Rattle.std.proofs.lemmas.Bool.{cases_lt}
use Rattle.staircase.specs.Staircase.{check_at, places, row_of, row_sum, sum_at, ◌⊕◌}
use Rattle.staircase.specs.Places.{length-places, get_or-places, places_is, none_sum}

-- before the first row, nothing; then the check group of the row before
abbrev pub stair : (lift columns : ℕ) → List ℤ → List Bool → ℕ → ℕ → Bool
stair lift columns es message zero r = false
stair lift columns es message (suc i) r = check_at lift columns es message i r

pub check_at_is : (lift columns : ℕ) (es : List ℤ) (message : List Bool) (i r : ℕ)
    → check_at lift columns es message i r ≡ stair lift columns es message i r ⊕ sum_at lift columns es message i r
unfolding check_at
check_at_is lift columns es message zero r = sym (none_sum (sum_at lift columns es message 0 r))
check_at_is lift columns es message (suc i) r = refl

counting_more : (n : ℕ) → range_with_len 0 (n + 1) ≡ range_with_len 0 n ++ n ∷ []
counting_more n = sym (map-id (range_with_len 0 (n + 1))) ∙ map-range_with_len_more (λ (x : ℕ). x) 0 n n (omega arith) ∙ ap (λ (xs : List ℕ). xs ++ n ∷ []) (map-id (range_with_len 0 n))

module _ (lift : ℕ) (f : ℕ → List Bool) where
  positive : (n k : ℕ) → k < n * lift → 0 < lift
  positive n k h = ⊎_elim (λ some. some) (λ none. let e : lift ≡ 0 = omega arith in absurd (omega (arith, rw (e, mul-zero n) at h))) (cases_lt 0 lift)

  pub groups_more : (n : ℕ) → flat_map f (range_with_len 0 (n + 1)) ≡ flat_map f (range_with_len 0 n) ++ f n
  groups_more n = ap (flat_map f) (counting_more n) ∙ sym (flat_map_more f [] (range_with_len 0 n) n)

  module _ (each : (i : ℕ) → length (f i) ≡ lift) where
    pub length_groups : (n : ℕ) → length (flat_map f (range_with_len 0 n)) ≡ n * lift
    length_groups zero = sym (zero-mul lift)
    length_groups (suc n) =
        let more = ap length (groups_more n) ∙ length-append (flat_map f (range_with_len 0 n)) (f n) in
        let size = each n in
        let all = length_groups n in
        subst (λ (k : ℕ). length (flat_map f (range_with_len 0 k)) ≡ k * lift) (add-one n) (omega (arith, add-mul n 1 lift))

    -- the bit at a place of a group
    pub get_or_groups : (n i r : ℕ) → i < n → r < lift → slice_index_or (flat_map f (range_with_len 0 n)) (i * lift + r) false ≡ slice_index_or (f i) r false
    get_or_groups zero i r h l = absurd (omega arith)
    get_or_groups (suc n) i r h l =
        let front = flat_map f (range_with_len 0 n) in
        let size = length_groups n in
        let here : (n * lift + r) - n * lift ≡ r = omega arith in
        subst (λ (k : ℕ). slice_index_or (flat_map f (range_with_len 0 k)) (i * lift + r) false ≡ slice_index_or (f i) r false) (add-one n) (rw (groups_more n) (
        ⊎_elim
        (λ less. get_or_append_left front (f n) false (i * lift + r) (omega (arith, add-mul i 1 lift, mul-le (i + 1) lift n lift (omega arith) (omega arith)))
        ∙ get_or_groups n i r less l)
        (λ last. let same : i ≡ n = omega arith in
        rw same (get_or-append_right front (f n) (n * lift) (n * lift + r) false size (omega arith) ∙ ap (λ (k : ℕ). get_or (f n) k false) here))
        (cases_lt i n)))

    -- a list with these bits at the places of its groups
    pub groups_is : (n : ℕ) (xs : List Bool) → length xs ≡ n * lift
        → ((i r : ℕ) → i < n → r < lift → slice_index_or xs (i * lift + r) false ≡ slice_index_or (f i) r false)
        → xs ≡ flat_map f (range_with_len 0 n)
    groups_is n xs size at =
        ext_get_or false xs (flat_map f (range_with_len 0 n)) (size ∙ sym (length_groups n))
        (λ k h.
        let some : 0 < lift = positive n k (omega arith) in
        let i = div_below k lift n some (omega arith) in
        let r = mod_below k lift some in
        let split = div-add-mod' k lift in
        rw (← split) (at (k / lift) (k % lift) i r ∙ sym (get_or_groups n (k / lift) (k % lift) i r)))

    -- a group cut out
    pub groups_part : (n i : ℕ) → i < n → take lift (drop (i * lift) (flat_map f (range_with_len 0 n))) ≡ f i
    groups_part n i h =
        let all = flat_map f (range_with_len 0 n) in
        let most = mul-le (i + 1) lift n lift (omega arith) (omega arith) in
        let one = add-mul i 1 lift in
        let size = length_groups n in
        let rest = length-drop (i * lift) all in
        let part = length-take-le lift (drop (i * lift) all) (omega arith) in
        ext_get_or false (take lift (drop (i * lift) all)) (f i) (part ∙ sym (each i))
        (λ r l.
        let k : r < lift = omega arith in
        get_or-take lift (drop (i * lift) all) r false k ∙ get_or-drop (i * lift) all r false ∙ get_or_groups n i r h k)

    -- one more group found
    pub groups_found : (xs group : List Bool) (i k : ℕ) → k ≡ lift → take (i * lift) xs ≡ flat_map f (range_with_len 0 i) → group ≡ f i → group ≡ take k (drop (i * lift) xs)
        → take ((i + 1) * lift) xs ≡ flat_map f (range_with_len 0 (i + 1))
    groups_found xs group i k size e g same =
        let one : (i + 1) * lift ≡ i * lift + lift = omega (arith, add-mul i 1 lift) in
        let cut = take-add (i * lift) lift xs in
        let found : take lift (drop (i * lift) xs) ≡ f i = sym (rw size at same) ∙ g in
        rw (one, cut, e, found) (sym (groups_more i))

    -- one more group written
    pub groups_put : (old checks group : List Bool) (i k : ℕ) → k ≡ lift → checks ≡ flat_map f (range_with_len 0 i) ++ drop (i * lift) old → group ≡ f i
        → put_mid (i * lift) k checks group ≡ flat_map f (range_with_len 0 (i + 1)) ++ drop ((i + 1) * lift) old
    groups_put old checks group i k size e g =
        let front = flat_map f (range_with_len 0 i) in
        let one : i * lift + lift ≡ (i + 1) * lift = omega (arith, add-mul i 1 lift) in
        let written = take_at front (drop (i * lift) old) (i * lift) (length_groups i) in
        let rest = drop_at front (drop (i * lift) old) (i * lift) (length_groups i) in
        let past = drop-drop lift (i * lift) old in
        let joint = append_assoc front (f i) (drop ((i + 1) * lift) old) in
        rw (e, g, size, written, rest, past, one, groups_more i) (sym joint)

module _ (lift columns : ℕ) (es : List ℤ) (message : List Bool) where
  -- the check groups, each of the lift's length
  abbrev pub group : ℕ → List Bool
  group i = places lift (check_at lift columns es message i)

  pub length-group : (i : ℕ) → length (group i) ≡ lift
  length-group i = length-places lift (check_at lift columns es message i)

  -- the sums with one more row are its check group
  pub sums_more : (row : List ℤ) (sums new : List Bool) (i : ℕ) → sums ≡ places lift (stair lift columns es message i) → row ≡ row_of columns es i
      → new ≡ places lift (λ r. get_or sums r false ⊕ row_sum lift row message r)
      → new ≡ group i
  sums_more row sums new i e is f =
      let sum : ℕ → Bool = λ r. get_or sums r false ⊕ sum_at lift columns es message i r in
      let added : new ≡ places lift sum = simp is at f in
      added ∙ places_is (places lift sum) lift _ (length-places lift sum)
      (λ r h. get_or-places lift sum r h
      ∙ ap (λ (b : Bool). b ⊕ sum_at lift columns es message i r) (ap (λ (xs : List Bool). get_or xs r false) e ∙ get_or-places lift (stair lift columns es message i) r h)
      ∙ sym (check_at_is lift columns es message i r))

  pub stair_more : (i : ℕ) → places lift (stair lift columns es message (i + 1)) ≡ group i
  stair_more i = rw (add-one i)

  -- before the first row the sums are zeros
  pub stair_none : (m : ℕ) → lift ≤ m → take lift (replicate m false) ≡ places lift (stair lift columns es message 0)
  stair_none m h =
      rw (take-replicate lift m false h)
      (places_is (replicate lift false) lift _ (length-replicate lift false) (λ r l. get_or-replicate lift r false false l))
