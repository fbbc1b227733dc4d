-- A stream's cells, one by one, and what is decided of cells that moved a little.
use Rattle.std.proofs.Common.{◌≡◌, ℕ, zero, suc, ◌+◌, ◌-◌, ◌*◌, ◌<◌, ◌≤◌, min, Bool, List, [], ◌∷◌, ◌++◌, length, get_or, take, drop, set, sym, refl, ap, ◌∙◌, inl, inr, mul-zero, mul-suc, mul-add, arith, length-append, length-drop, length-take}
use native.Mathlib.Nat.{sub-zero, zero-sub}
use borrow.Rule.Slice.PartMut.{put_mid}
use lib.ListN.{length-replicate}
use Rattle.std.proofs.lemmas.List.{append_assoc, append-nil, drop_at, drop_min, drop-drop, drop_more, flat_map_more, set_at, take_all, take_more, take-append-drop, take_at, take_rest}
use Rattle.std.proofs.lemmas.Bool.{cases_lt}
use Rattle.cells.specs.declared.cell.Cell.{Cell}
use Rattle.cells.specs.Cells.{Steady}
use Rattle.cells.specs.Mapping.{decided_bits, filled, mapped, Moved, next_cell}

take-append : {X : Type 0} (n : ℕ) (xs ys : List X) → take n (xs ++ ys) ≡ take n xs ++ take (n - length xs) ys
take-append zero xs ys = rw zero-sub
take-append (suc n) [] ys = rw sub-zero
take-append (suc n) (x ∷ xs) ys =
    let e : suc n - suc (length xs) ≡ n - length xs = omega arith in rw (e, take-append n xs ys)

-- a loop that writes one place after the other
pub written_more : {X : Type 0} (front xs : List X) (i : ℕ) (y : X) → length front ≡ i → i < length xs → set (front ++ drop i xs) i y ≡ (front ++ y ∷ []) ++ drop (i + 1) xs
written_more front xs i y e h =
    rw (drop_more xs i y, set_at front (get_or xs i y) (drop (i + 1) xs) y i e, append_assoc)

-- a loop that writes one part after the other
part_written : {X : Type 0} (front xs part : List X) (a k : ℕ) → length front ≡ a → put_mid a k (front ++ drop a xs) part ≡ (front ++ part) ++ drop (a + k) xs
part_written front xs part a k e =
    rw (take_at front (drop a xs) a e, drop_at front (drop a xs) a e, drop-drop, append_assoc)

-- the first bits of two blocks, where `done` of them stand in the first
take_blocks : (first second : List Bool) (count done part : ℕ) → done ≡ min count (length first) → part ≡ min (length second) (count - done) → take (done + part) (first ++ second) ≡ take done first ++ take part second
take_blocks first second count done part d p =
    elim (cases_lt (length first) count) [
      | inl more ↦
          let e : (done + part) - length first ≡ part = omega arith in
          let all = take_all (done + part) first (omega arith) in
          let whole = take_all done first (omega arith) in
          rw (take-append, all, whole, e)
      | inr within ↦
          let e : (done + part) - length first ≡ part = omega arith in
          let same : done + part ≡ done = omega arith in
          rw (take-append, e, same)
    ]

decided_more : (decided : Cell → List Bool) (cells : List Cell) (i : ℕ) (d : Cell) → i < length cells → decided_bits decided (take (i + 1) cells) ≡ decided_bits decided (take i cells) ++ decided (get_or cells i d)
decided_more decided cells i d h =
    ap (decided_bits decided) (take_more cells i d h) ∙ sym (flat_map_more decided [] (take i cells) (get_or cells i d))

module _ (decided : Cell → List Bool) (width : ℕ) (sized : (x : Cell) → length (decided x) ≡ width) where
  length-decided : (cells : List Cell) → length (decided_bits decided cells) ≡ width * length cells
  length-decided [] = rw mul-zero
  length-decided (x ∷ cells) = rw (length-append, sized, length-decided cells) (omega (arith, mul-suc width (length cells)))

  -- one more cell decided, whose bits go from `start` to `end`
  pub part_decided : (cells : List Cell) (before bits written : List Bool) (i start end : ℕ) (d : Cell) → i < length cells → start ≡ min (length before) (width * i) → end ≡ min (length before) (start + width) → bits ≡ take start (decided_bits decided (take i cells)) ++ drop start before → written ≡ take (end - start) (decided (get_or cells i d)) → put_mid start (end - start) bits written ≡ take end (decided_bits decided (take (i + 1) cells)) ++ drop end before
  part_decided cells before bits written i start end d h start-is end-is b-is w-is =
      let first = decided_bits decided (take i cells) in
      let second = decided (get_or cells i d) in
      let count : length (take i cells) ≡ i = simp length-take (omega arith) in
      let long : length first ≡ width * i = length-decided (take i cells) ∙ ap (λ (n : ℕ). width * n) count in
      let wide : length second ≡ width = sized (get_or cells i d) in
      let front : length (take start first) ≡ start = simp length-take (omega arith) in
      let whole : start + (end - start) ≡ end = omega arith in
      let both = rw whole at (take_blocks first second (length before) start (end - start) (omega arith) (omega arith)) in
      rw (b-is, part_written (take start first) before written start (end - start) front, w-is, whole, decided_more decided cells i d h, both)

module _ (point : List Bool → Cell) (width : ℕ) where
  length-mapped : (count : ℕ) (bits : List Bool) → length (mapped point width count bits) ≡ count
  unfolding mapped
  length-mapped zero bits = refl
  length-mapped (suc count) bits = ap suc (length-mapped count (drop width bits))

  mapped_more : (i : ℕ) (bits : List Bool) → mapped point width (i + 1) bits ≡ mapped point width i bits ++ next_cell point width (drop (width * i) bits) ∷ []
  unfolding mapped
  mapped_more zero bits = rw mul-zero
  mapped_more (suc i) bits =
      let e : suc i + 1 ≡ suc (i + 1) = omega arith in
      let w : width + width * i ≡ width * suc i = omega (arith, mul-suc width i) in
      let d = drop-drop (width * i) width bits in
      rw e (ap (λ (r : List Cell). next_cell point width bits ∷ r)
      (mapped_more i (drop width bits) ∙
      ap (λ (r : List Bool). mapped point width i (drop width bits) ++ next_cell point width r ∷ [])
      (d ∙ ap (λ (n : ℕ). drop n bits) w)))

  -- one more cell mapped
  pub cell_mapped : (bits : List Bool) (before cells : List Cell) (x : Cell) (i : ℕ) → i < length before → cells ≡ mapped point width i bits ++ drop i before → x ≡ next_cell point width (drop (width * i) bits) → set cells i x ≡ mapped point width (i + 1) bits ++ drop (i + 1) before
  cell_mapped bits before cells x i h c-is x-is =
      rw (c-is, written_more (mapped point width i bits) before i x (length-mapped i bits) h, x-is, mapped_more i bits)

  -- what is left of a stream after one more cell
  pub rest_left : (bits rest : List Bool) (i k : ℕ) → k ≡ min width (length rest) → rest ≡ drop (width * i) bits → take (length rest - k) (drop k rest) ≡ drop (width * (i + 1)) bits
  rest_left bits rest i k k-is r-is =
      let next : width * i + width ≡ width * (i + 1) = omega (arith, mul-add width i 1) in
      take_rest rest k ∙ ap (λ (n : ℕ). drop n rest) k-is ∙ drop_min width rest ∙ ap (drop width) r-is ∙
      drop-drop width (width * i) bits ∙ ap (λ (n : ℕ). drop n bits) next

  length-filled : (bits : List Bool) → length (filled width bits) ≡ width
  length-filled bits = simp (length-append, length-take, length-replicate) (omega arith)

  -- the bits sent in one cell, and what follows them
  taken : (bits rest : List Bool) → take (length bits - width) rest ≡ drop width bits → take (length bits) (filled width bits ++ rest) ≡ bits
  taken bits rest e =
      elim (cases_lt width (length bits)) [
        | inl more ↦
            let none : width - length bits ≡ 0 = omega arith in
            let first : length (take width bits) ≡ width = simp length-take (omega arith) in
            let all = take_all (length bits) (take width bits) (omega arith) in
            rw (none, append-nil, take-append, all, first, e, take-append-drop)
        | inr all ↦ rw (take_all width bits all, append_assoc, take_at bits _ (length bits) refl)
      ]

  -- cells that moved by at most 255 units on each axis are decided as sent
  pub steady_stream : (decided : Cell → List Bool) → Steady point width decided → (count : ℕ) (bits : List Bool) (cells : List Cell) → length bits ≤ width * count → Moved (mapped point width count bits) cells → take (length bits) (decided_bits decided cells) ≡ bits
  unfolding mapped
  steady_stream decided steady zero [] cells h moved = refl
  steady_stream decided steady zero (b ∷ bits) cells h moved = absurd (omega (arith, mul-zero width))
  steady_stream decided steady (suc count) [] cells h moved = refl
  steady_stream decided steady (suc count) (b ∷ bits) [] h moved = elim moved [ ]
  steady_stream decided steady (suc count) (b ∷ bits) (x ∷ cells) h moved =
      let sent = b ∷ bits in
      let e : decided x ≡ filled width sent = steady (filled width sent) x (length-filled sent) moved.0 in
      let fits : length (drop width sent) ≤ width * count = simp length-drop (omega (arith, mul-suc width count)) in
      let i = steady_stream decided steady count (drop width sent) cells fits moved.1 in
      rw e (taken sent (decided_bits decided cells) (rw length-drop at i))
