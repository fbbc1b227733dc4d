-- A list of bits is a word exactly where every check holds. Assumes nothing.
use Rattle.std.specs.Prelude.{◌≡◌, ℕ, zero, suc, ◌+◌, ◌*◌, ◌<◌, ◌≤◌, Bool, false, List, ◌++◌, length, take, drop, ℤ, ◌==◌, slice_index_or}
use Rattle.std.proofs.Common.{sym, ◌∙◌, ⊎_elim, add-mul, add-one, arith}
use Rattle.std.proofs.Math.Path.{ap}
use Rattle.std.proofs.lemmas.Nat.{mul-le}
use Rattle.std.proofs.lemmas.Bool.{eqb-true, or_cases}
use Rattle.std.proofs.lemmas.List.{length-append, length-drop, length-take-le, take-append-drop, take_at, drop_at}
use Rattle.staircase.specs.Staircase.{check_at, check_groups, check_of, sum_at, word_of, ChecksHold, Lifted, Shaped, IsWord, ◌⊕◌}
use Rattle.staircase.specs.Groups.{group, length-group, length_groups, get_or_groups, groups_is, groups_part}
use Rattle.staircase.specs.Places.{get_or-places}

-- a word has at most 5120 bits
pub word-short : (lift rows columns : ℕ) → Lifted lift → Shaped rows columns → (columns + rows) * lift ≤ 5120
word-short lift rows columns l s =
    let few : columns + rows ≤ 32 =
    ⊎_elim (λ e. omega (arith, eqb-true columns rows e)) (λ e. omega (arith, eqb-true columns (3 * rows) e)) (or_cases (columns == rows) (columns == 3 * rows) s.3) in
    mul-le (columns + rows) lift 32 160 few l.1

module _ (lift rows columns : ℕ) (es : List ℤ) where
  pub length-checks : (message : List Bool) → length (check_groups lift columns es message rows) ≡ rows * lift
  length-checks message = length_groups lift (group lift columns es message) (length-group lift columns es message) rows

  pub length-word : (message : List Bool) → length message ≡ columns * lift → length (word_of lift rows columns es message) ≡ (columns + rows) * lift
  length-word message h =
      let checks = length-checks message in
      let sum = length-append message (check_groups lift columns es message rows) in
      omega (arith, add-mul columns rows lift)

  -- a word begins with its message
  pub message_of_lem : (message : List Bool) → length message ≡ columns * lift → take (columns * lift) (word_of lift rows columns es message) ≡ message
  message_of_lem message h = take_at message (check_groups lift columns es message rows) (columns * lift) h

  module _ (bits : List Bool) (size : length bits ≡ (columns + rows) * lift) where
    message_size_lem : length (take (columns * lift) bits) ≡ columns * lift
    message_size_lem = length-take-le (columns * lift) bits (omega (arith, add-mul columns rows lift))

    -- the check groups of the bits are those of the message
    same_from_hold : ChecksHold lift rows columns es bits → (i r : ℕ) → i < rows → r < lift → check_of lift columns bits i r ≡ check_at lift columns es (take (columns * lift) bits) i r
    unfolding check_at
    same_from_hold h zero r l k = h.first r k
    same_from_hold h (suc i) r l k =
        let next : check_of lift columns bits (suc i) r ≡ check_of lift columns bits i r ⊕ sum_at lift columns es (take (columns * lift) bits) (suc i) r =
        rw (add-one i) at (h.others i r (omega arith) k) in
        next ∙ ap (λ (b : Bool). b ⊕ sum_at lift columns es (take (columns * lift) bits) (suc i) r) (same_from_hold h i r (omega arith) k)

    pub word_from_hold : ChecksHold lift rows columns es bits → IsWord lift rows columns es bits
    word_from_hold h =
        let message = take (columns * lift) bits in
        let checks = groups_is lift (group lift columns es message) (length-group lift columns es message) rows (drop (columns * lift) bits)
        (length-drop (columns * lift) bits ∙ omega (arith, add-mul columns rows lift))
        (λ i r l k. same_from_hold h i r l k ∙ sym (get_or-places lift (check_at lift columns es message i) r k)) in
        sym (take-append-drop (columns * lift) bits) ∙ ap (λ (xs : List Bool). message ++ xs) checks

    same_from_word : IsWord lift rows columns es bits → (i r : ℕ) → i < rows → r < lift → check_of lift columns bits i r ≡ check_at lift columns es (take (columns * lift) bits) i r
    same_from_word w i r l k =
        let message = take (columns * lift) bits in
        let checks = drop_at message (check_groups lift columns es message rows) (columns * lift) message_size_lem in
        ap (λ (xs : List Bool). slice_index_or xs (i * lift + r) false) (ap (drop (columns * lift)) w ∙ checks)
        ∙ get_or_groups lift (group lift columns es message) (length-group lift columns es message) rows i r l k
        ∙ get_or-places lift (check_at lift columns es message i) r k

    pub hold_from_word : 1 ≤ rows → IsWord lift rows columns es bits → ChecksHold lift rows columns es bits
    unfolding check_at
    hold_from_word some w =
        let message = take (columns * lift) bits in
        record {
          first = λ r k. same_from_word w 0 r (omega arith) k;
          others = λ i r l k.
              same_from_word w (i + 1) r l k
              ∙ ap (λ (j : ℕ). check_at lift columns es message j r) (add-one i)
              ∙ ap (λ (b : Bool). b ⊕ sum_at lift columns es message (suc i) r) (sym (same_from_word w i r (omega arith) k))
              ∙ ap (λ (j : ℕ). check_of lift columns bits i r ⊕ sum_at lift columns es message j r) (sym (add-one i));
        }

    -- it is enough to compare the check groups
    pub word_from_checks : (message checks : List Bool) → message ≡ take (columns * lift) bits → checks ≡ drop (columns * lift) bits
        → checks ≡ check_groups lift columns es message rows → IsWord lift rows columns es bits
    word_from_checks message checks m c e =
        sym (take-append-drop (columns * lift) bits)
        ∙ ap (λ (xs : List Bool). take (columns * lift) bits ++ xs) (sym c ∙ e ∙ ap (λ (s : List Bool). check_groups lift columns es s rows) m)

    pub checks_from_word : (message checks : List Bool) → message ≡ take (columns * lift) bits → checks ≡ drop (columns * lift) bits
        → IsWord lift rows columns es bits → checks ≡ check_groups lift columns es message rows
    checks_from_word message checks m c w =
        let front = take (columns * lift) bits in
        c ∙ ap (drop (columns * lift)) w ∙ drop_at front (check_groups lift columns es front rows) (columns * lift) message_size_lem
        ∙ ap (λ (s : List Bool). check_groups lift columns es s rows) (sym m)

    -- each check group of a word is behind the ones before it
    pub group_from_word : (message checks : List Bool) → message ≡ take (columns * lift) bits → checks ≡ drop (columns * lift) bits
        → IsWord lift rows columns es bits → (i k : ℕ) → i < rows → k ≡ lift → group lift columns es message i ≡ take k (drop (i * lift) checks)
    group_from_word message checks m c w i k h size =
        rw (checks_from_word message checks m c w, size) (sym (groups_part lift (group lift columns es message) (length-group lift columns es message) rows i h))
