-- What words do to numbers, a word after the other.
use Rattle.std.proofs.Common.{◌≡◌, ℕ, ◌+◌, ◌<◌, ◌≤◌, List, [], ◌∷◌, length, take, get_or, drop, Result, Ok, Err, sym, refl, ap, ◌∙◌, subst, arith, ℤ}
use Rattle.std.specs.Borrow.{Bor}
use Rattle.std.proofs.lemmas.List.{drop_all, drop_more, length-map, take_all}
use Rattle.std.proofs.lemmas.Bool.{le-ltb}
use Rattle.desk.specs.declared.settings.Setting.{Setting}
use Rattle.desk.specs.declared.trouble.Trouble.{Trouble}
use Rattle.desk.specs.Changes.{Does, with_number}
use Rattle.desk.specs.Numbers.{all_numbers, numbers_behind}
use Rattle.desk.specs.Settings.{set_all, setting_of, with_set}
use Rattle.desk.specs.Troubles.{◌>>=◌}
use Rattle.desk.specs.Words.{texts}

-- a call that is answered `Ok` makes what is asked
made : {A : Type 0} (asked : Result A Trouble) (before after : A) → Does asked before after (Ok tt) → asked ≡ Ok after
made (Ok next) before after h = ap Ok (sym h.1)
made (Err why) before after h = grind (arith, h.0)

at_word : (word : List ℕ) (words : List (List ℕ)) (s : Setting) (before after : List ℤ) → Ok s ≡ setting_of word → Does (with_number s.place s.value before) before after (Ok tt)
    → set_all words after ≡ set_all (word ∷ words) before
at_word word words s before after e h =
    let done : with_set word before ≡ Ok after = ap (λ r. r >>= (λ s. with_number s.place s.value before)) (sym e) ∙ made _ before after h in rw (done, set_all) refl

-- one word more has set its number
pub one_more_set : (words : List (Bor (List ℕ))) (i : ℕ) (word : Bor (List ℕ)) (s : Setting) (before after : List ℤ) (r : Result (Unit {0}) Trouble)
    → i < length words → Ok s ≡ setting_of (get_or words i word).now → Does (with_number s.place s.value before) before after r → r ≡ Ok tt
    → set_all (texts (drop (i + 1) words)) after ≡ set_all (texts (drop i words)) before
one_more_set words i word s before after r there e h in_order =
    rw (drop_more words i word there) (at_word (get_or words i word).now (texts (drop (i + 1) words)) s before after e (subst (Does (with_number s.place s.value before) before after) in_order h))

-- as many words as are asked for, each of which has given its number
pub all_answered : {A : Type 0} (value_of : List ℕ → Result A Trouble) (n i : ℕ) (words : List (Bor (List ℕ))) (numbers : List A)
    → n ≤ length words → length words ≤ n → length words ≤ i → length numbers ≡ n
    → numbers_behind value_of (take i numbers) (texts (drop i words)) ≡ numbers_behind value_of [] (texts words)
    → all_numbers value_of n (texts words) ≡ Ok numbers
all_answered value_of n i words numbers few many done long so_far =
    let count : length (texts words) ≡ n = length-map words (λ word. word.now) ∙ omega (arith, few, many) in
    rw (count, le-ltb n n (omega arith)) (sym so_far ∙ rw (take_all i numbers (omega (arith, done, many, few, long)), drop_all i words done) refl)
