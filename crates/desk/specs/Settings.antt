-- Words `I=V`, which set numbers of cells.
use Rattle.std.specs.Prelude.{ℕ, ◌+◌, Bool, List, [], ◌∷◌, take, drop, ℤ, Option, Some, None, Result, Ok, Err, ◌==◌}
use Rattle.std.specs.List.{position}
use Rattle.desk.specs.declared.settings.Setting.{Setting}
use Rattle.desk.specs.declared.trouble.Trouble.{Trouble}
use Rattle.desk.specs.declared.trouble.Trouble.TheVariants.{NoNumber}
use Rattle.desk.specs.Changes.{with_number}
use Rattle.desk.specs.Numbers.{count_of, signed_of}
use Rattle.desk.specs.Troubles.{◌>>=◌}

-- a byte is `=`
abbrev pub is_equals : ℕ → Bool
is_equals byte = byte == 61

-- what a word asks for, by where its first `=` stands: a place before it, and a value behind it
abbrev pub setting_at : List ℕ → Option ℕ → Result Setting Trouble
setting_at word None = Err NoNumber
setting_at word (Some i) = do
  place ← count_of (take i word)
  value ← signed_of (drop (i + 1) word)
  Ok (record { place = place; value = value })

abbrev pub setting_of : List ℕ → Result Setting Trouble
setting_of word = setting_at word (position is_equals word)

-- numbers with the one set that a word asks for
abbrev pub with_set : List ℕ → List ℤ → Result (List ℤ) Trouble
with_set word numbers = do
  s ← setting_of word
  with_number s.place s.value numbers

-- What words are answered, and the numbers afterwards.
pub record Done : Type 0 where
  pub answer : Result (Unit {0}) Trouble
  pub numbers : List ℤ

-- each word sets its number in turn, up to the first that is wrong
abbrev pub set_all : List (List ℕ) → List ℤ → Done
set_all [] numbers = record { answer = Ok tt; numbers = numbers }
set_all (word ∷ words) numbers =
    elim (with_set word numbers) [ Ok next ↦ set_all words next | Err why ↦ record { answer = Err why; numbers = numbers } ]
