-- Rows of flags, and bytes written into others.
use Rattle.std.proofs.Common.{◌≡◌, ℕ, ◌+◌, ◌-◌, ◌<◌, ◌≤◌, Bool, true, false, List, ◌++◌, length, get_or, take, drop, refl, ap, ◌∙◌, arith, sym, length-take}
use Rattle.std.proofs.lemmas.List.{get_or-drop, get_or-take, get_or_append_left, get_or-append_right, length-take-le, length-append, length-drop}
use Rattle.std.proofs.lemmas.List.Elements.{All-from_get_or, All-get_or}
use Rattle.std.proofs.lemmas.List.Folds.{list_any_none}
use Rattle.std.proofs.lemmas.List.Sums.{AllPass-from_list_all, list_all-from_AllPass}
use Rattle.messages.specs.CollectorCalls.{all_true, any_true, written}

pub all_true_lem : (n : ℕ) (xs : List Bool) → ((i : ℕ) → i < n → get_or xs i false ≡ true) → all_true (take n xs) ≡ true
all_true_lem n xs h =
    list_all-from_AllPass (λ b. b) (take n xs) (All-from_get_or (λ b. b ≡ true) (take n xs) false
    (λ i l. let k : i < n = omega (arith, length-take n xs) in get_or-take n xs i false k ∙ h i k))

pub all_true_at : (n : ℕ) (xs : List Bool) (i : ℕ) → all_true (take n xs) ≡ true → n ≤ length xs → i < n → get_or xs i false ≡ true
all_true_at n xs i e h l =
    sym (get_or-take n xs i false l)
    ∙ All-get_or (λ b. b ≡ true) (take n xs) i false (omega (arith, length-take n xs)) (AllPass-from_list_all (λ b. b) (take n xs) e)

-- no flag from n on
pub none_from : (n : ℕ) (xs : List Bool) → ((i : ℕ) → n ≤ i → get_or xs i false ≡ false) → any_true (drop n xs) ≡ false
none_from n xs h =
    list_any_none (λ b. b) (drop n xs) (All-from_get_or (λ b. b ≡ false) (drop n xs) false (λ i _. get_or-drop n xs i false ∙ h (n + i) (omega arith)))

module _ (xs : List ℕ) (a : ℕ) (ys : List ℕ) (fits : a + length ys ≤ length xs) where
  front : length (take a xs) ≡ a
  front = length-take-le a xs (omega arith)

  pub length-written : length (written xs a ys) ≡ length xs
  length-written =
      let b = length-drop (length ys) (drop a xs) in
      let e = length-drop a xs in
      length-append (take a xs) (ys ++ drop (length ys) (drop a xs)) ∙ (let f = length-append ys (drop (length ys) (drop a xs)) in omega (arith, front))

  pub written_in : (k : ℕ) → k < length ys → get_or (written xs a ys) (a + k) 0 ≡ get_or ys k 0
  written_in k h =
      let e : a + k - a ≡ k = omega arith in
      get_or-append_right (take a xs) (ys ++ drop (length ys) (drop a xs)) a (a + k) 0 front (omega arith)
      ∙ ap (λ n. get_or (ys ++ drop (length ys) (drop a xs)) n 0) e
      ∙ get_or_append_left ys (drop (length ys) (drop a xs)) 0 k h

  pub written_below : (i : ℕ) → i < a → get_or (written xs a ys) i 0 ≡ get_or xs i 0
  written_below i h =
      get_or_append_left (take a xs) (ys ++ drop (length ys) (drop a xs)) 0 i (omega (arith, front)) ∙ get_or-take a xs i 0 h

  pub written-above : (i : ℕ) → a + length ys ≤ i → get_or (written xs a ys) i 0 ≡ get_or xs i 0
  written-above i h =
      let e : a + (length ys + (i - a - length ys)) ≡ i = omega arith in
      get_or-append_right (take a xs) (ys ++ drop (length ys) (drop a xs)) a i 0 front (omega arith)
      ∙ get_or-append_right ys (drop (length ys) (drop a xs)) (length ys) (i - a) 0 refl (omega arith)
      ∙ get_or-drop (length ys) (drop a xs) (i - a - length ys) 0
      ∙ get_or-drop a xs (length ys + (i - a - length ys)) 0
      ∙ ap (λ n. get_or xs n 0) e
