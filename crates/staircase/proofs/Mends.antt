-- What a code that only tests its words answers. Assumes nothing.
use Rattle.std.proofs.Common.{◌≡◌, ℕ, ◌+◌, ◌*◌, Bool, List, length, take, ℤ, sym, ap, ◌∙◌, add-mul, arith}
use Rattle.std.proofs.lemmas.List.{length-take-le}
use Rattle.codes.specs.Symbols.{bit_number, differing}
use Rattle.codes.specs.Mending.{Within}
use Rattle.staircase.specs.Staircase.{word_of, IsWord}
use Rattle.codes.specs.SymbolsLemmas.{below-bits, differing_self, same_from_none, tell_bits}
use Rattle.staircase.specs.Holding.{message_of_lem}

module _ (lift rows columns : ℕ) (es : List ℤ) (given : List Bool) (size : length given ≡ (columns + rows) * lift) where
  -- a word is within reach of its own message
  pub within_from_word : (message : List Bool) → message ≡ take (columns * lift) given → IsWord lift rows columns es given
      → Within bit_number (columns * lift) (word_of lift rows columns es) 0 given message 0
  within_from_word message e w =
      record {
        size = ap length e ∙ length-take-le (columns * lift) given (omega (arith, add-mul columns rows lift));
        below = below-bits message;
        places = ap (λ (xs : List Bool). differing bit_number xs given) (ap (word_of lift rows columns es) e ∙ sym w) ∙ differing_self bit_number given;
        near = omega arith;
      }

  -- where a message is within reach, its word is given
  pub word_from_within : (message : List Bool) (e : ℕ) → Within bit_number (columns * lift) (word_of lift rows columns es) 0 given message e
      → IsWord lift rows columns es given
  word_from_within message e w =
      let places = w.places in
      let near = w.near in
      let same = same_from_none bit_number tell_bits (word_of lift rows columns es message) given (omega arith) in
      let front = sym (message_of_lem lift rows columns es message w.size) ∙ ap (take (columns * lift)) same in
      sym same ∙ ap (word_of lift rows columns es) front
