-- What a mending code answers.
use Rattle.std.specs.Prelude.{◌≡◌, ℕ, ◌≤◌, List, length, Ok, Err, Result}
use Rattle.codes.specs.Symbols.{differing, Below128}

module _ {S : Type 0} (number : S → ℕ) (k : ℕ) (word : List S → List S) (reach : ℕ) where
  -- a message of the code whose word differs from the given symbols in e places, and e is within reach
  pub record Within (given m : List S) (e : ℕ) : Type 0 where
    pub size : length m ≡ k
    pub below : Below128 number m
    pub places : differing number (word m) given ≡ e
    pub near : e ≤ reach

  -- The answer: the message within reach and its differing places,
  -- or a refusal, where no message is within reach and nothing is written.
  abbrev pub Mended : {F : Type 0} → (given before after : List S) → Result ℕ F → Type 0
  Mended given before after (Ok e) = Within given after e
  Mended given before after (Err f) = (after ≡ before) × ((m : List S) (e : ℕ) → Within given m e → ⊥)
