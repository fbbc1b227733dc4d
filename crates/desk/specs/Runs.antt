-- The values of a draft, run by run: `V`, or `VxN` for N times V.
use Rattle.std.specs.Prelude.{ℕ, ◌+◌, Bool, List, [], ◌∷◌, ◌++◌, take, drop, replicate, Option, Some, None, Result, Ok, Err, ◌==◌}
use Rattle.std.specs.List.{position}
use Rattle.desk.specs.declared.trouble.Trouble.{Trouble}
use Rattle.desk.specs.declared.trouble.Trouble.TheVariants.{TooFew}
use Rattle.desk.specs.Numbers.{count_of}
use Rattle.desk.specs.Troubles.{◌>>=◌}

-- a byte is `x`
abbrev pub is_times : ℕ → Bool
is_times byte = byte == 120

-- values of one type, each written by a word
module _ {A : Type 0} (value_of : List ℕ → Result A Trouble) where
  -- the value of a run and how many times it comes, by where the word's first `x` stands
  abbrev pub run_at : List ℕ → Option ℕ → Result (A × ℕ) Trouble
  run_at word None = do
    value ← value_of word
    Ok (value, 1)
  run_at word (Some i) = do
    times ← count_of (drop (i + 1) word)
    value ← value_of (take i word)
    Ok (value, times)

  abbrev pub run_of : List ℕ → Result (A × ℕ) Trouble
  run_of word = run_at word (position is_times word)

  -- the values of runs behind those before them
  abbrev pub values_of : List A → List (List ℕ) → Result (List A) Trouble
  values_of before [] = Ok before
  values_of before (word ∷ words) = do
    run ← run_of word
    values_of (before ++ replicate run.1 run.0) words

  -- the values of a draft, which has one run or more
  abbrev pub drafted : List (List ℕ) → Result (List A) Trouble
  drafted [] = Err TooFew
  drafted (word ∷ words) = values_of [] (word ∷ words)
