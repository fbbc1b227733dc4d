-- What is within one place of the symbols given, by the values at α and α^2. Assumes nothing.
use Rattle.std.proofs.Common.{◌≡◌, ℕ, ◌+◌, ◌<◌, ◌≤◌, List, length, take, sym, ap, ap₂, ◌∙◌, subst, ⊎_elim, arith}
use Rattle.std.proofs.lemmas.List.{length-take-le}
use Rattle.codes.specs.Mending.{Within}
use Rattle.codes.specs.Symbols.{differing}
use Rattle.codes.specs.SymbolsLemmas.{differing_self}
use Rattle.reed_solomon.specs.Words.{Symbols, value_at, word_of, IsWord}
use Rattle.reed_solomon.specs.Generators.{generator_of}
use Rattle.reed_solomon.specs.GeneratorsLemmas.{generator_is}
use Rattle.reed_solomon.specs.Errors.{OneWrong, OnlyNear, changed}
use Rattle.reed_solomon.specs.ValuesLemmas.{symbols_take}
use Rattle.reed_solomon.specs.Division.{word_is, take-word_of}
use Rattle.reed_solomon.specs.Distance.{only_near}
use Rattle.reed_solomon.proofs.OneWrong.{one_wrong, first_two, first_some, same_place, same_error, second_value, roots_changed, length-changed, symbols_changed, differs-changed}

-- a message of the code with r roots and k symbols whose word is within t places of the symbols given
abbrev pub Near : ℕ → ℕ → ℕ → List ℕ → List ℕ → ℕ → Type 0
Near r k t given = Within (λ (x : ℕ). x) k (word_of (generator_of r)) t given

-- where the only symbols that may be a word are one, it is the word sought; where they are none, there is none
module _ (r k t : ℕ) (given cs : List ℕ) (n : ℕ) (sized : length cs ≡ k + r) (is : OnlyNear r k t given cs n) where
  pub near_word : cs ≡ word_of (generator_of r) (take k cs) → Near r k t given (take k cs) n
  near_word own =
      record {
        size = length-take-le k cs (omega arith);
        below = symbols_take k cs is.symbols;
        places = ap (λ (v : List ℕ). differing (λ (x : ℕ). x) v given) (sym own) ∙ is.places;
        near = is.near;
      }

  pub no_word : (cs ≡ word_of (generator_of r) (take k cs) → ⊥) → (m : List ℕ) (e : ℕ) → Near r k t given m e → ⊥
  no_word other m e within =
      let word : word_of (generator_of r) m ≡ cs = is.only m e within in
      let front : m ≡ take k cs =
      sym (take-word_of (generator_of r) m) ∙ ap₂ (λ (i : ℕ) (l : List ℕ). take i l) within.size word in
      other (sym word ∙ ap (word_of (generator_of r)) front)

module _ (r k : ℕ) (given : List ℕ) (two : 2 ≤ r) (short : length given ≤ 127) (below : Symbols given) (sized : length given ≡ k + r) where
  -- a word within one place is what is given, or one wrong symbol tells it
  reached : {A : Type 0} (m : List ℕ) (e : ℕ) → Near r k 1 given m e → (IsWord r m (word_of (generator_of r) m) → word_of (generator_of r) m ≡ given → A)
      → (IsWord r m (word_of (generator_of r) m) → (p e : ℕ) → OneWrong r given p e → A) → A
  reached m e within f g =
      let is : IsWord r m (word_of (generator_of r) m) = word_is r (generator_of r) m (generator_is r) (omega arith) within.below in
      let n : length (word_of (generator_of r) m) ≡ length given = is.size ∙ ap (λ i. i + r) within.size ∙ sym sized in
      ⊎_elim (f is) (λ o. g is o.0 o.1 o.2)
      (one_wrong r (word_of (generator_of r) m) given is.roots is.symbols below n (omega (arith, within.places, within.near)))

  -- where the value at α is 0, only what is given
  pub only_given : value_at 1 given ≡ 0 → OnlyNear r k 1 given given 0
  only_given first =
      record {
        symbols = below;
        places = differing_self (λ (x : ℕ). x) given;
        near = omega arith;
        only = λ m e within.
            reached m e within (λ is same. same) (λ is p f o. absurd (omega (arith, first, first_some given p f (first_two r given p f two o))));
      }

  -- where one wrong symbol gives the values at α and α^2, only what is given without it
  pub only_changed : (p e : ℕ) → OneWrong 2 given p e → OnlyNear r k 1 given (changed given p e) 1
  only_changed p e o =
      record {
        symbols = symbols;
        places = places;
        near = omega arith;
        only = λ m f within.
            reached m f within
            (λ is same. absurd (omega (arith, first_some given p e o, ap (value_at 1) (sym same) ∙ is.roots 1 (omega arith) (omega arith))))
            (λ is q g w.
            only_near r 1 (word_of (generator_of r) m) (changed given p e) given (omega arith)
            (is.size ∙ ap (λ i. i + r) within.size ∙ sym sized) (length-changed given p e) short is.symbols symbols is.roots
            (roots_changed r given p e (same_symbol q g w)) (omega (arith, within.places, within.near)) (omega (arith, places)));
      }
    where
      symbols : Symbols (changed given p e)
      symbols = symbols_changed given p e below o.symbol

      places : differing (λ (x : ℕ). x) (changed given p e) given ≡ 1
      places = differs-changed given p e o.inside o.some

      same_symbol : (q g : ℕ) → OneWrong r given q g → OneWrong r given p e
      same_symbol q g w =
          let t = first_two r given q g two w in
          let place : q ≡ p = same_place given q g t p below short (omega (arith, o.inside)) (second_value given p e o) in
          let error : g ≡ e = same_error given p g (subst (λ n. OneWrong 2 given n g) place t) e o in
          subst (λ n. OneWrong r given p n) error (subst (λ n. OneWrong r given n g) place w)

  -- and where none gives them, nothing
  pub none_near : 0 < value_at 1 given → ((p e : ℕ) → OneWrong 2 given p e → ⊥) → (m : List ℕ) (e : ℕ) → Near r k 1 given m e → ⊥
  none_near some never m e within =
      reached m e within
      (λ is same. omega (arith, some, ap (value_at 1) (sym same) ∙ is.roots 1 (omega arith) (omega arith)))
      (λ is p f o. never p f (first_two r given p f two o))
