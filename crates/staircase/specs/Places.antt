-- Lists of bits by their places, and sums of bits. Assumes nothing.
use Rattle.std.specs.Prelude.{◌≡◌, ℕ, ◌+◌, ◌%◌, ◌<◌, Bool, true, false, List, length, take, ℤ, pos, negsuc, slice_index_or, refl}
use Rattle.std.proofs.Common.{arith}
use Rattle.std.proofs.lemmas.List.{get_or-take}
use Rattle.std.proofs.lemmas.Nat.{mod_below}
use Rattle.std.proofs.lemmas.List.FromFn.{length-map-range_with_len, get_or-map-range_with_len, fill_by_all}
use Rattle.staircase.specs.Staircase.{places, moved, ◌⊕◌}

pub sum_none : (a : Bool) → a ⊕ false ≡ a
sum_none true = refl
sum_none false = refl

pub none_sum : (a : Bool) → false ⊕ a ≡ a
none_sum true = refl
none_sum false = refl

pub sum_assoc : (a b c : Bool) → a ⊕ b ⊕ c ≡ a ⊕ (b ⊕ c)
sum_assoc true true true = refl
sum_assoc true true false = refl
sum_assoc true false true = refl
sum_assoc true false false = refl
sum_assoc false true true = refl
sum_assoc false true false = refl
sum_assoc false false true = refl
sum_assoc false false false = refl

pub length-places : (n : ℕ) (f : ℕ → Bool) → length (places n f) ≡ n
length-places n f = length-map-range_with_len f 0 n

pub get_or-places : (n : ℕ) (f : ℕ → Bool) (r : ℕ) → r < n → slice_index_or (places n f) r false ≡ f r
get_or-places n f r h = get_or-map-range_with_len f 0 n r r false h (omega arith)

-- a list with these bits at its places
pub places_is : (xs : List Bool) (n : ℕ) (f : ℕ → Bool) → length xs ≡ n → ((r : ℕ) → r < n → slice_index_or xs r false ≡ f r) → xs ≡ places n f
places_is xs n f size at = fill_by_all f xs n false size at

-- a column takes its bits off the first group alone
pub moved-group : (lift : ℕ) (e : ℤ) (bits : List Bool) (r : ℕ) → 0 < lift → moved lift e (take lift bits) r ≡ moved lift e bits r
moved-group lift (pos e) bits r h = get_or-take lift bits ((r + e) % lift) false (mod_below (r + e) lift h)
moved-group lift (negsuc n) bits r h = refl
