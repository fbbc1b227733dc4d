-- The product of X + α, …, X + α^r has the roots α, …, α^r. Assumes nothing.
use Rattle.std.specs.Prelude.{◌≡◌, ℕ, zero, suc, ◌*◌, List, [], ◌∷◌, ◌++◌, map, length, bit_xor, refl}
use Rattle.std.proofs.Common.{sym, ap, ◌∙◌, ⊎_elim, arith}
use Rattle.std.specs.Int.Bits.{xor_zero_r, xor_self, xor_zero_l}
use Rattle.std.proofs.lemmas.List.{length-append, length-map}
use Rattle.std.proofs.lemmas.Bool.{cases_lt}
use Rattle.reed_solomon.specs.Field.{raised}
use Rattle.reed_solomon.specs.Words.{added, value_at, Symbols, Roots, Generator}
use Rattle.reed_solomon.specs.Generators.{generator_of}
use Rattle.reed_solomon.specs.Powers.{raised-xor, raised_comm, raised-zero, raised_lt}
use Rattle.reed_solomon.specs.ValuesLemmas.{symbols_none, symbols_cons, symbols_head, symbols_tail, symbols_append, symbols_zeros, symbols_added, length-added, value_at_none, value_at-cons, value_at_push, value_at-added}

value_at-raised : (j k : ℕ) (cs : List ℕ) → value_at j (map (raised k) cs) ≡ raised k (value_at j cs)
value_at-raised j k [] = value_at_none j ∙ sym (raised-zero k) ∙ ap (raised k) (sym (value_at_none j))
value_at-raised j k (c ∷ cs) =
    value_at-cons j (raised k c) (map (raised k) cs)
    ∙ ap (λ n. bit_xor (raised (n * j) (raised k c)) (value_at j (map (raised k) cs))) (length-map cs (raised k))
    ∙ ap (λ n. bit_xor n (value_at j (map (raised k) cs))) (raised_comm (length cs * j) k c)
    ∙ ap (bit_xor (raised k (raised (length cs * j) c))) (value_at-raised j k cs)
    ∙ sym (raised-xor k (raised (length cs * j) c) (value_at j cs))
    ∙ ap (raised k) (sym (value_at-cons j c cs))

symbols_raised : (k : ℕ) (cs : List ℕ) → Symbols cs → Symbols (map (raised k) cs)
symbols_raised k [] h = symbols_none
symbols_raised k (c ∷ cs) h =
    symbols_cons (raised k c) (map (raised k) cs) (raised_lt k c (symbols_head c cs h)) (symbols_raised k cs (symbols_tail c cs h))

length_generator : (r : ℕ) → length (generator_of r) ≡ r
unfolding generator_of
length_generator zero = refl
length_generator (suc r) =
    length-added (generator_of r ++ 0 ∷ []) (map (raised (suc r)) (1 ∷ generator_of r))
    ∙ length-append (generator_of r) (0 ∷ []) ∙ omega (arith, length_generator r)

symbols_generator : (r : ℕ) → Symbols (generator_of r)
unfolding generator_of
symbols_generator zero = symbols_none
symbols_generator (suc r) =
    symbols_added (generator_of r ++ 0 ∷ []) (map (raised (suc r)) (1 ∷ generator_of r))
    (symbols_append (generator_of r) (0 ∷ []) (symbols_generator r) (symbols_zeros 1))
    (symbols_raised (suc r) (1 ∷ generator_of r) (symbols_cons 1 (generator_of r) (omega arith) (symbols_generator r)))

-- one more factor
value_more : (r j : ℕ) → value_at j (1 ∷ generator_of (suc r)) ≡ bit_xor (raised j (value_at j (1 ∷ generator_of r))) (raised (suc r) (value_at j (1 ∷ generator_of r)))
unfolding generator_of added
value_more r j =
    let p : List ℕ = 1 ∷ generator_of r in
    let q : List ℕ = map (raised (suc r)) p in
    let e : length (p ++ 0 ∷ []) ≡ length (0 ∷ q) = omega (arith, length-append p (0 ∷ []), length-map p (raised (suc r))) in
    let up : value_at j (p ++ 0 ∷ []) ≡ raised j (value_at j p) = value_at_push j p 0 ∙ xor_zero_r (raised j (value_at j p)) in
    let times : value_at j (0 ∷ q) ≡ raised (suc r) (value_at j p) =
    value_at-cons j 0 q ∙ ap (λ n. bit_xor n (value_at j q)) (raised-zero (length q * j)) ∙ xor_zero_l (value_at j q) ∙ value_at-raised j (suc r) p in
    value_at-added j (p ++ 0 ∷ []) (0 ∷ q) e ∙ ap (λ n. bit_xor n (value_at j (0 ∷ q))) up ∙ ap (bit_xor (raised j (value_at j p))) times

roots_generator : (r : ℕ) → Roots r (1 ∷ generator_of r)
roots_generator zero j h k = absurd (omega arith)
roots_generator (suc r) j h k =
    value_more r j
    ∙ ⊎_elim
    (λ l.
    let z : value_at j (1 ∷ generator_of r) ≡ 0 = roots_generator r j h (omega arith) in
    ap (λ n. bit_xor (raised j n) (raised (suc r) n)) z ∙ ap (λ n. bit_xor n (raised (suc r) 0)) (raised-zero j) ∙ ap (bit_xor 0) (raised-zero (suc r)))
    (λ l.
    let e : j ≡ suc r = omega arith in
    ap (λ n. bit_xor (raised n (value_at j (1 ∷ generator_of r))) (raised (suc r) (value_at j (1 ∷ generator_of r)))) e ∙ xor_self (raised (suc r) (value_at j (1 ∷ generator_of r))))
    (cases_lt j (suc r))

pub generator_is : (r : ℕ) → Generator r (generator_of r)
generator_is r = record { size = length_generator r; symbols = symbols_generator r; roots = roots_generator r }
