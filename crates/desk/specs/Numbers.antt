-- The numbers of a script: decimal, with `-` in front of a negative one.
use Rattle.std.specs.Prelude.{◌≡◌, ℕ, ◌^◌, ◌&&◌, cond, Bool, List, [], ◌∷◌, ◌++◌, length, drop, ℤ, pos, neg_ℤ, Result, Ok, Err, MatchResult, nat_lt, nat_le}
use Rattle.std.specs.Str.{all_ascii_digits}
use Rattle.std.specs.Str.Parse.{digits_value, starts_with_minus}
use Rattle.std.specs.declared.num.ParseIntError.{ParseIntError}
use Rattle.desk.specs.declared.trouble.Trouble.{Trouble}
use Rattle.desk.specs.declared.trouble.Trouble.TheVariants.{NoNumber, OutOfRange}
use Rattle.desk.specs.Troubles.{◌>>=◌}
use Rattle.desk.specs.Words.{counted}

-- r is what `parse` gives of a word, and where that is an error the word is no number
abbrev pub Parses : {T : Type 0} → (List ℕ → Result T ParseIntError → Type 0) → List ℕ → Result T Trouble → Type 0
Parses gives word r = MatchResult r (λ n. gives word (Ok n)) (λ why. (why ≡ NoNumber) × ((e : ParseIntError) × gives word (Err e)))

-- a word is one digit or more, and nothing else, and the number that they write is below a bound
abbrev pub writes_below : ℕ → List ℕ → Bool
writes_below bound word = nat_lt 0 (length word) && (all_ascii_digits word && nat_lt (digits_value 10 word) bound)

-- the number of 32 bits that a word writes
abbrev pub unsigned_of : List ℕ → Result ℕ Trouble
unsigned_of word = cond (writes_below (2 ^ 32) word) (Ok (digits_value 10 word)) (Err NoNumber)

-- the number from −32768 to 32767 that a word writes
abbrev pub signed_of : List ℕ → Result ℤ Trouble
signed_of word =
    cond (starts_with_minus word)
    (cond (writes_below 32769 (drop 1 word)) (Ok (neg_ℤ (pos (digits_value 10 (drop 1 word))))) (Err NoNumber))
    (cond (writes_below 32768 word) (Ok (pos (digits_value 10 word))) (Err NoNumber))

-- the number from 0 to `most` that a word writes
abbrev pub natural_of : ℕ → List ℕ → Result ℕ Trouble
natural_of most word = do
  n ← unsigned_of word
  cond (nat_le n most) (Ok n) (Err OutOfRange)

-- a count, a size or a place
abbrev pub count_of : List ℕ → Result ℕ Trouble
count_of word = natural_of 1000000 word

-- the numbers of words that are to be so many, each written by a word
module _ {A : Type 0} (value_of : List ℕ → Result A Trouble) where
  -- those of words behind the numbers of the words before them
  abbrev pub numbers_behind : List A → List (List ℕ) → Result (List A) Trouble
  numbers_behind before [] = Ok before
  numbers_behind before (word ∷ words) = do
    number ← value_of word
    numbers_behind (before ++ number ∷ []) words

  abbrev pub all_numbers : ℕ → List (List ℕ) → Result (List A) Trouble
  all_numbers n words = counted n words (numbers_behind [] words)

-- the only word's count where there is a word, and else the usual one
abbrev pub count_or : ℕ → List (List ℕ) → Result ℕ Trouble
count_or usual [] = Ok usual
count_or usual (word ∷ words) = counted 1 (word ∷ words) (count_of word)
