-- The words of a command.
use Rattle.std.specs.Prelude.{ℕ, cond, List, [], length, map, Result, Err, nat_lt, slice_index_or}
use Rattle.std.specs.Borrow.{Bor}
use Rattle.desk.specs.declared.trouble.Trouble.{Trouble}
use Rattle.desk.specs.declared.trouble.Trouble.TheVariants.{TooFew, TooMany}

-- what the words are
abbrev pub texts : List (Bor (List ℕ)) → List (List ℕ)
texts words = map (λ word. word.now) words

-- the word of a place, counted from 0
abbrev pub word_at : List (List ℕ) → ℕ → List ℕ
word_at words i = slice_index_or words i []

-- what is made of words that are to be n
abbrev pub counted : {A B : Type 0} → ℕ → List B → Result A Trouble → Result A Trouble
counted n words made = cond (nat_lt (length words) n) (Err TooFew) (cond (nat_lt n (length words)) (Err TooMany) made)
