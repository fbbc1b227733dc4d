-- The staircase code: a message of K groups of L bits, then M check groups, each the one before it plus a row sum.
use Rattle.std.specs.Prelude.{◌≡◌, ℕ, zero, suc, ◌+◌, ◌*◌, ◌%◌, ◌<◌, ◌≤◌, Bool, true, false, not, ◌||◌, List, [], ◌∷◌, ◌++◌, map, length, take, drop, ℤ, pos, negsuc, ◌≤ℤ◌, ◌<ℤ◌, ◌==◌, slice_index_or}
use Rattle.std.specs.Bool.{beq}
use Rattle.std.specs.List.{range_with_len, flat_map}

-- the lift L is from 1 to 160
abbrev pub Lifted : ℕ → Type 0
Lifted lift = (1 ≤ lift) × (lift ≤ 160)

-- there are M check rows, from 1 to 16, and K information columns, at most 24: as many as rows, or three times as many
abbrev pub Shaped : (rows columns : ℕ) → Type 0
Shaped rows columns = (1 ≤ rows) × (rows ≤ 16) × (columns ≤ 24) × ((columns == rows || columns == 3 * rows) ≡ true)

-- an exponent is −1 or from 0 to L − 1
abbrev pub InRange : ℕ → ℤ → Type 0
InRange lift exponent = (negsuc 0 ≤ℤ exponent) × (exponent <ℤ pos lift)

-- each exponent is in range
abbrev pub ExponentsKnown : ℕ → List ℤ → Type 0
ExponentsKnown lift exponents = (k : ℕ) → k < length exponents → InRange lift (slice_index_or exponents k (pos 0))

-- a place with an exponent out of range
abbrev pub BadExponent : ℕ → List ℤ → ℕ → Type 0
BadExponent lift exponents place = (place < length exponents) × (InRange lift (slice_index_or exponents place (pos 0)) → ⊥)

-- there are M × K exponents, each in range
abbrev pub Filled : (lift rows columns : ℕ) → List ℤ → Type 0
Filled lift rows columns exponents = (length exponents ≡ rows * columns) × ExponentsKnown lift exponents

-- the smallest code: one bit and its check, with no column in the row's sum
abbrev pub Smallest : (lift rows columns : ℕ) → List ℤ → Type 0
Smallest lift rows columns exponents = (lift ≡ 1) × (rows ≡ 1) × (columns ≡ 1) × (exponents ≡ negsuc 0 ∷ [])

-- the sum of two bits, modulo 2
infixl 65 ◌⊕◌
abbrev pub ◌⊕◌ : Bool → Bool → Bool
a ⊕ b = not (beq a b)

-- what a column with the exponent e and the group at the head of the bits gives at the place r: the bit at (r + e) mod L, and nothing where e is −1
abbrev pub moved : ℕ → ℤ → List Bool → ℕ → Bool
moved lift (pos e) bits r = slice_index_or bits ((r + e) % lift) false
moved lift (negsuc n) bits r = false

-- the row sum at the place r: what the columns give, added up; a column takes a group of L bits off the message
unfoldable pub row_sum : ℕ → List ℤ → List Bool → ℕ → Bool
row_sum lift [] message r = false
row_sum lift (e ∷ es) message r = moved lift e message r ⊕ row_sum lift es (drop lift message) r

-- the bits f 0, f 1 … f (n − 1)
abbrev pub places : ℕ → (ℕ → Bool) → List Bool
places n f = map f (range_with_len 0 n)

-- the exponents of the row i
abbrev pub row_of : ℕ → List ℤ → ℕ → List ℤ
row_of columns exponents i = take columns (drop (i * columns) exponents)

module _ (lift columns : ℕ) (exponents : List ℤ) (message : List Bool) where
  -- v_i, the sum of the row i, at the place r
  abbrev pub sum_at : ℕ → ℕ → Bool
  sum_at i r = row_sum lift (row_of columns exponents i) message r

  -- p_i, the check group of the row i, at the place r: p_0 = v_0, and p_i = p_(i−1) + v_i
  unfoldable pub check_at : ℕ → ℕ → Bool
  check_at zero r = sum_at 0 r
  check_at (suc i) r = check_at i r ⊕ sum_at (suc i) r

  -- the check groups of the first rows
  abbrev pub check_groups : ℕ → List Bool
  check_groups rows = flat_map (λ i. places lift (check_at i)) (range_with_len 0 rows)

-- the word of a message: the message, then the check groups
abbrev pub word_of : (lift rows columns : ℕ) → List ℤ → List Bool → List Bool
word_of lift rows columns exponents message = message ++ check_groups lift columns exponents message rows

-- a list of bits is a word where it is the word of the message that it begins with
abbrev pub IsWord : (lift rows columns : ℕ) → List ℤ → List Bool → Type 0
IsWord lift rows columns exponents bits = bits ≡ word_of lift rows columns exponents (take (columns * lift) bits)

-- the bit at the place r of the check group i that a list of bits has behind its message
abbrev pub check_of : (lift columns : ℕ) → List Bool → ℕ → ℕ → Bool
check_of lift columns bits i r = slice_index_or (drop (columns * lift) bits) (i * lift + r) false

-- every check holds: the first check group is the first row sum, and each other one is the group before it plus its row sum, at every place
pub record ChecksHold (lift rows columns : ℕ) (exponents : List ℤ) (bits : List Bool) : Type 0 where
  pub first : (r : ℕ) → r < lift → check_of lift columns bits 0 r ≡ sum_at lift columns exponents (take (columns * lift) bits) 0 r
  pub others : (i r : ℕ) → i + 1 < rows → r < lift
      → check_of lift columns bits (i + 1) r ≡ check_of lift columns bits i r ⊕ sum_at lift columns exponents (take (columns * lift) bits) (i + 1) r

-- one fact holds exactly where another does
abbrev pub Exactly : Type 0 → Type 0 → Type 0
Exactly A B = (A → B) × (B → A)
