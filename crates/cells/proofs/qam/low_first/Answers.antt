use Rattle.std.proofs.Common.{◌≡◌, ℕ, ◌+◌, ◌*◌, ◌%◌, ◌^◌, ◌<◌, ◌≤◌, Bool, true, false, cond, List, [], ◌∷◌, length, reverse, refl, ◌∙◌, bit_or, mod-eq_of_lt, arith, rules}
use mir.Val.{bool_byte}
use Rattle.std.specs.List.{fold}
use Rattle.std.proofs.iter.runs.Made.{chains}
use Rattle.std.proofs.lemmas.List.{reverse-append}
use Rattle.std.proofs.lemmas.List.Sums.{fold_push}
use Rattle.std.proofs.lemmas.Nat.{or_shifted}
use Rattle.cells.specs.Qam.{low_first}
use Rattle.cells.specs.LowFirst.{low_first-below}
use Rattle.cells.proofs.qam.low_first.Goals as goal

bit_is : (b : Bool) → (bool_byte b ≡ cond b 1 0) × (bool_byte b < 2)
bit_is true = (refl, omega arith)
bit_is false = (refl, omega arith)

-- one bit below a number of at most seven bits
one_more : (n : ℕ) (b : Bool) → n < 2 ^ 7 → bit_or (n * 2 ^ 1 % 2 ^ 8) (bool_byte b) ≡ cond b 1 0 + 2 * n
one_more n b h =
    let e = or_shifted n 1 (bool_byte b) (bit_is b).1 in
    let small : n * 2 ^ 1 < 2 ^ 8 = omega arith in
    rw (mod-eq_of_lt small, e) (omega (arith, bit_is b))

folded : (bits : List Bool) → length bits ≤ 8 → fold (λ n b. bit_or (n * 2 ^ 1 % 2 ^ 8) (bool_byte b)) 0 (reverse bits) ≡ low_first bits
folded [] h = refl
folded (b ∷ bits) h =
    let small = low_first-below 7 bits (omega arith) in
    rw (reverse-append (b ∷ []) bits, fold_push, folded bits (omega arith)) (one_more (low_first bits) b small)

pub returns : goal.returns
returns c =
    let e : c.fold.result ≡ fold (λ n b. bit_or (n * 2 ^ 1 % 2 ^ 8) (bool_byte b)) 0 (reverse c.args.bits.now) = search (rules, chains) in
    e ∙ folded c.args.bits.now c.requires
