-- At most one message is within reach of the symbols given. Assumes nothing.
use Rattle.std.proofs.Common.{◌≡◌, ℕ, ◌*◌, ◌<◌, List, length, sym, ◌∙◌, arith}
use Rattle.codes.specs.Symbols.{differing, Below128}
use Rattle.codes.specs.Mending.{Within}
use Rattle.codes.specs.SymbolsLemmas.{differing_comm, differing_through}

module _ {S : Type 0} (number : S → ℕ) (k n distance reach : ℕ) (word : List S → List S)
    (sized : (m : List S) → length m ≡ k → length (word m) ≡ n)
    (distant : (m o : List S) → length m ≡ k → length o ≡ k → Below128 number m → Below128 number o → differing number (word m) (word o) < distance → m ≡ o)
    (unique : 2 * reach < distance) where
  pub one_within : (given m o : List S) (e f : ℕ) → length given ≡ n → Within number k word reach given m e → Within number k word reach given o f → m ≡ o
  one_within given m o e f h p q =
      let near = differing_through number (word m) given (word o) (sized m p.size ∙ sym h) (h ∙ sym (sized o q.size)) in
      let flip = differing_comm number given (word o) in
      let a = p.places in
      let b = q.places in
      let c = p.near in
      let d = q.near in
      distant m o p.size q.size p.below q.below (omega arith)
