-- What a word's number names.
use Rattle.std.proofs.Common.{◌≡◌, ℕ, List, Result, Ok, Err, MatchResult, ap, ◌∙◌}
use Rattle.modes.specs.declared.unknown.UnknownNumber.{UnknownNumber}
use Rattle.desk.specs.declared.trouble.Trouble.{Trouble}
use Rattle.desk.specs.Numbers.{unsigned_of}
use Rattle.desk.specs.Troubles.{◌>>=◌}
use Rattle.desk.specs.Parts.{Names, in_range, part_of}

pub Names-from : {X : Type 0} (gives : ℕ → Result X UnknownNumber → Type 0) (word : List ℕ) (n : ℕ) (named : Result X UnknownNumber) (r : Result X Trouble)
    → Ok n ≡ unsigned_of word → gives n named → r ≡ in_range named → Names gives word r
Names-from gives word n named r e given same = rw (← e) (named, given, same)

module _ {X : Type 0} (named : ℕ → Result X UnknownNumber) (r : Result X Trouble) where
  named_by : (n : Result ℕ Trouble) → MatchResult n (λ n. (x : Result X UnknownNumber) × (x ≡ named n) × (r ≡ in_range x)) (λ why. r ≡ Err why)
      → r ≡ n >>= (λ n. in_range (named n))
  named_by (Ok n) h = h.2 ∙ ap in_range h.1
  named_by (Err why) h = h

  pub part_named : (word : List ℕ) → Names (λ n x. x ≡ named n) word r → r ≡ part_of named word
  part_named word h = named_by (unsigned_of word) h
