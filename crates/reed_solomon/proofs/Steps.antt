-- One more symbol into the remainder, place by place, and a word by its remainder. Assumes nothing.
use Rattle.std.proofs.Common.{◌≡◌, ℕ, zero, suc, ◌+◌, ◌-◌, ◌<◌, ◌≤◌, List, [], ◌∷◌, ◌++◌, map, length, get_or, take, drop, set, replicate, sym, refl, ap, ◌∙◌, add-one, arith}
use lib.Bits.{bit_xor}
use Rattle.std.proofs.lemmas.List.{get_or-drop, get_or-append_right, get_or-map, length-drop, length-append, length-map, length-take-le, take-append-drop, take_all, take_more, drop_at, drop_more, drop_all, set_at, append_assoc, append-nil, at_drop_more, at_drop_all}
use Rattle.reed_solomon.specs.Field.{times}
use Rattle.reed_solomon.specs.Words.{Symbols, added, divide_step, divided, word_of}
use Rattle.reed_solomon.specs.ValuesLemmas.{length-added, symbols_append, symbols_take, symbols_drop, symbols_zeros, symbols_added, symbols_times}

get_or-added : (xs ys : List ℕ) (i : ℕ) → i < length xs → i < length ys → get_or (added xs ys) i 0 ≡ bit_xor (get_or xs i 0) (get_or ys i 0)
unfolding added
get_or-added [] ys i h k = absurd (omega arith)
get_or-added (x ∷ xs) [] i h k = absurd (omega arith)
get_or-added (x ∷ xs) (y ∷ ys) zero h k = refl
get_or-added (x ∷ xs) (y ∷ ys) (suc i) h k = get_or-added xs ys i (omega arith) (omega arith)

-- past the end stands 0
get_or-moved : (xs : List ℕ) (i : ℕ) → get_or (drop 1 xs ++ 0 ∷ []) i 0 ≡ get_or xs (suc i) 0
get_or-moved [] zero = refl
get_or-moved [] (suc i) = refl
get_or-moved (x ∷ []) zero = refl
get_or-moved (x ∷ []) (suc i) = refl
get_or-moved (x ∷ y ∷ ys) zero = refl
get_or-moved (x ∷ y ∷ ys) (suc i) = get_or-moved (y ∷ ys) i

-- the remainder's register, moved up, with f times the generator taken away
unfoldable pub step_by : List ℕ → List ℕ → ℕ → List ℕ
step_by g rest f = added (drop 1 rest ++ 0 ∷ []) (map (times f) g)

pub step_is : (g rest : List ℕ) (c : ℕ) → step_by g rest (bit_xor c (get_or rest 0 0)) ≡ divide_step g rest c
unfolding divide_step step_by
step_is g rest c = refl

module _ (g rest : List ℕ) (f : ℕ) (some : 0 < length g) (sized : length rest ≡ length g) where
  length_moved : length (drop 1 rest ++ 0 ∷ []) ≡ length g
  length_moved = length-append (drop 1 rest) (0 ∷ []) ∙ omega (arith, length-drop 1 rest)

  pub length_step : length (step_by g rest f) ≡ length g
  unfolding step_by
  length_step = length-added (drop 1 rest ++ 0 ∷ []) (map (times f) g) ∙ length_moved

  pub get_or_step : (i : ℕ) → i < length g → get_or (step_by g rest f) i 0 ≡ bit_xor (get_or rest (i + 1) 0) (times f (get_or g i 0))
  unfolding step_by
  get_or_step i h =
      get_or-added (drop 1 rest ++ 0 ∷ []) (map (times f) g) i (omega (arith, length_moved)) (omega (arith, length-map g (times f)))
      ∙ ap (λ x. bit_xor x (get_or (map (times f) g) i 0)) (get_or-moved rest i ∙ ap (λ n. get_or rest n 0) (sym (add-one i)))
      ∙ ap (bit_xor (get_or rest (i + 1) 0)) (get_or-map (times f) g i 0 0 h)

  pub symbols_step : Symbols g → Symbols rest → Symbols (step_by g rest f)
  unfolding step_by
  symbols_step k l =
      symbols_added (drop 1 rest ++ 0 ∷ []) (map (times f) g)
      (symbols_append (drop 1 rest) (0 ∷ []) (symbols_drop 1 rest l) (symbols_zeros 1)) (symbols_times f g k)

-- the places below i are written, the others are as they were
module _ (new old : List ℕ) (i : ℕ) (within : i < length new) (sized : length new ≡ length old) where
  pub written_more : set (take i new ++ drop i old) i (get_or new i 0) ≡ take (i + 1) new ++ drop (i + 1) old
  written_more =
      let h : i < length old = omega arith in
      ap (λ (ys : List ℕ). set (take i new ++ ys) i (get_or new i 0)) (drop_more old i 0 h)
      ∙ set_at (take i new) (get_or old i 0) (drop (i + 1) old) (get_or new i 0) i (length-take-le i new (omega arith))
      ∙ sym (append_assoc (take i new) (get_or new i 0 ∷ []) (drop (i + 1) old))
      ∙ ap (λ (ys : List ℕ). ys ++ drop (i + 1) old) (sym (take_more new i 0 within))

  pub written_next : get_or (take i new ++ drop i old) (i + 1) 0 ≡ get_or old (i + 1) 0
  written_next =
      get_or-append_right (take i new) (drop i old) i (i + 1) 0 (length-take-le i new (omega arith)) (omega arith)
      ∙ get_or-drop i old (i + 1 - i) 0 ∙ ap (λ n. get_or old n 0) (omega arith)

  pub written_symbols : Symbols new → Symbols old → Symbols (take i new ++ drop i old)
  written_symbols h k = symbols_append (take i new) (drop i old) (symbols_take i new h) (symbols_drop i old k)

pub written_all : (new old : List ℕ) (i : ℕ) → length new ≤ i → length old ≤ i → take i new ++ drop i old ≡ new
written_all new old i h k = ap (λ (ys : List ℕ). take i new ++ ys) (drop_all i old k) ∙ append-nil (take i new) ∙ take_all i new h

pub divided_more : (g rest cs : List ℕ) (i : ℕ) → i < length cs → divided g rest (drop i cs) ≡ divided g (divide_step g rest (get_or cs i 0)) (drop (i + 1) cs)
unfolding divided
divided_more g rest cs i h = at_drop_more (divided g rest) cs i 0 h

pub divided_all : (g rest cs : List ℕ) (i : ℕ) → length cs ≤ i → divided g rest (drop i cs) ≡ rest
unfolding divided
divided_all g rest cs i h = at_drop_all (divided g rest) cs i h

-- a word is its front with the remainder behind it
module _ (g w : List ℕ) (r k : ℕ) (size : length g ≡ r) where
  abbrev pub rest_of : List ℕ → List ℕ
  rest_of = divided g (replicate r 0)

  word_is_rest : word_of g (take k w) ≡ take k w ++ rest_of (take k w)
  unfolding word_of
  word_is_rest = ap (λ n. take k w ++ divided g (replicate n 0) (take k w)) size

  pub word_from_rest : drop k w ≡ rest_of (take k w) → w ≡ word_of g (take k w)
  word_from_rest e = sym (take-append-drop k w) ∙ ap (λ (xs : List ℕ). take k w ++ xs) e ∙ sym word_is_rest

  pub rest_from_word : k ≤ length w → w ≡ word_of g (take k w) → drop k w ≡ rest_of (take k w)
  rest_from_word h e =
      ap (drop k) (e ∙ word_is_rest) ∙ drop_at (take k w) (rest_of (take k w)) k (length-take-le k w h)
