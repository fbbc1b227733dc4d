-- Laws of numbers as bits, and of what all numbers of a list are below.
use Rattle.std.proofs.Common.{◌≡◌, ℕ, zero, suc, ◌*◌, ◌^◌, ◌<◌, ◌≤◌, List, [], ◌∷◌, ◌++◌, length, get_or, take, drop, replicate, refl, ap, ◌∙◌, arith}
use Rattle.std.proofs.lemmas.List.{append_assoc, length-take-le, take-append-drop, take_at, drop_at}
use Rattle.bits.specs.Bits.{AllBelow, spread}
use Rattle.bits.proofs.Bits.{cut-spread, length-spread}

pub below-append : (m : ℕ) (xs ys : List ℕ) → AllBelow m xs → AllBelow m ys → AllBelow m (xs ++ ys)
below-append m [] ys h k = k
below-append m (x ∷ xs) ys h k = (h.0, below-append m xs ys h.1 k)

pub below-replicate : (m n x : ℕ) → x < m → AllBelow m (replicate n x)
below-replicate m zero x h = tt
below-replicate m (suc n) x h = (h, below-replicate m n x h)

pub below-drop : (m n : ℕ) (xs : List ℕ) → AllBelow m xs → AllBelow m (drop n xs)
below-drop m zero xs h = h
below-drop m (suc n) [] h = h
below-drop m (suc n) (x ∷ xs) h = below-drop m n xs h.1

pub below-take : (m n : ℕ) (xs : List ℕ) → AllBelow m xs → AllBelow m (take n xs)
below-take m zero xs h = tt
below-take m (suc n) [] h = tt
below-take m (suc n) (x ∷ xs) h = (h.0, below-take m n xs h.1)

-- what holds at each place
pub below_from : (m : ℕ) (xs : List ℕ) → ((i : ℕ) → i < length xs → get_or xs i 0 < m) → AllBelow m xs
below_from m [] h = tt
below_from m (x ∷ xs) h = (h 0 (omega arith), below_from m xs (λ i k. h (suc i) (omega arith)))

pub spread-append : (w : ℕ) (xs ys : List ℕ) → spread w (xs ++ ys) ≡ spread w xs ++ spread w ys
unfolding spread
spread-append w [] ys = refl
spread-append w (x ∷ xs) ys = rw (spread-append w xs ys, append_assoc)

-- the bits of a list, up to those of one of its numbers and from there on
module _ (w a place : ℕ) (xs : List ℕ) (within : a ≤ length xs) (stands : a * w ≡ place) where
  front_size : length (spread w (take a xs)) ≡ place
  front_size = length-spread w (take a xs) ∙ (ap (λ n. n * w) (length-take-le a xs within) ∙ stands)

  front_back : spread w xs ≡ spread w (take a xs) ++ spread w (drop a xs)
  front_back = rw (take-append-drop a xs) at (spread-append w (take a xs) (drop a xs))

  pub take-spread : take place (spread w xs) ≡ spread w (take a xs)
  take-spread = rw front_back (take_at (spread w (take a xs)) (spread w (drop a xs)) place front_size)

  pub drop-spread : drop place (spread w xs) ≡ spread w (drop a xs)
  drop-spread = rw front_back (drop_at (spread w (take a xs)) (spread w (drop a xs)) place front_size)

-- numbers that fit are told by their bits
pub same_from_spread : (w : ℕ) (xs ys : List ℕ) → AllBelow (2 ^ w) xs → AllBelow (2 ^ w) ys → length xs ≡ length ys → spread w xs ≡ spread w ys → xs ≡ ys
same_from_spread w xs ys h k size e =
    let x = cut-spread w xs h in
    let y = cut-spread w ys k in
    cc
