-- What the collector holds of a message, and what a packet of an outstanding piece makes of it.
use Rattle.std.proofs.Common.{◌≡◌, ℕ, ◌+◌, ◌-◌, ◌*◌, ◌<◌, ◌≤◌, min, Bool, true, false, cond, ◌&&◌, eqb, ◌≢◌, ◌⊎◌, List, length, get_or, drop, set, Some, None, Option, sym, refl, ap, ◌∙◌, subst, inl, inr, ⊎_elim, mul-le-mul_right, arith}
use Rattle.std.proofs.lemmas.List.{get_or-take, get_or-drop, get_or-set_same, get_or-set_other, get_or-replicate, get_or_past, length-set, length-replicate}
use Rattle.std.proofs.lemmas.Bool.{false_from_ne_true, or_from, and_left, and_right, not_from_true, lt-leb, le-ltb, eq-eqb, ne_eqb, cases_eq, cases_lt, cases_order}
use Rattle.messages.specs.declared.states.Phase.TheVariants.{Empty, Collecting, Complete as IsComplete}
use Rattle.messages.specs.Pieces.{piece_count, piece}
use Rattle.packets.specs.Packets.{Content}
use Rattle.messages.specs.Packets.{packet_of}
use Rattle.messages.specs.CollectorCalls.{CollectorState, any_true, none_there, begun, behind, completes, last_with, misplaced, none_missing, placed, wrong_length, written}
use Rattle.messages.proofs.Cutting.{row, starts_within, within_starts, length-piece}
use Rattle.messages.proofs.Flags.{all_true_lem, all_true_at, none_from, length-written, written_in, written_below, written-above}
use Rattle.messages.proofs.Sends.{Sendable}

-- the last piece is known exactly if it was brought
abbrev pub Ended : ℕ → List ℕ → (ℕ → Type 0) → Option ℕ → ℕ → Type 0
Ended d m B None total = (i : ℕ) → i + 1 ≡ piece_count d (length m) → B i → ⊥
Ended d m B (Some l) total = (l + 1 ≡ piece_count d (length m)) × (total ≡ length m)

-- the pieces i of the message m with B i are there
pub record Holds (d : ℕ) (c : CollectorState) (m : List ℕ) (toggle : Bool) (B : ℕ → Type 0) : Type 0 where
  pub not_empty : c.phase ≡ Empty → ⊥
  pub toggle_is : c.toggle ≡ toggle
  pub ids : length c.there ≡ 1024
  pub space : length c.bytes ≡ 16384
  pub room : length m ≤ 16384
  pub was : (i : ℕ) → get_or c.there i false ≡ true → B i
  pub is : (i : ℕ) → B i → get_or c.there i false ≡ true
  pub few : (i : ℕ) → B i → i < piece_count d (length m)
  pub ended : Ended d m B c.last c.total
  pub bytes_are : (i k : ℕ) → B i → k < d → i * d + k < length m → get_or c.bytes (i * d + k) 0 ≡ get_or m (i * d + k) 0
  pub whole : c.phase ≡ IsComplete → (i : ℕ) → i < piece_count d (length m) → B i

ended_map : (d : ℕ) (m : List ℕ) (B B' : ℕ → Type 0) (last : Option ℕ) (total : ℕ) → ((i : ℕ) → B' i → B i) → Ended d m B last total → Ended d m B' last total
ended_map d m B B' None total back e = λ i h b. e i h (back i b)
ended_map d m B B' (Some l) total back e = e

pub holds_map : (d : ℕ) (c : CollectorState) (m : List ℕ) (toggle : Bool) (B B' : ℕ → Type 0) → ((i : ℕ) → B i → B' i) → ((i : ℕ) → B' i → B i) → Holds d c m toggle B → Holds d c m toggle B'
holds_map d c m toggle B B' to back h = record {
  not_empty = h.not_empty;
  toggle_is = h.toggle_is;
  ids = h.ids;
  space = h.space;
  room = h.room;
  was = λ i e. to i (h.was i e);
  is = λ i b. h.is i (back i b);
  few = λ i b. h.few i (back i b);
  ended = ended_map d m B B' c.last c.total back h.ended;
  bytes_are = λ i k b. h.bytes_are i k (back i b);
  whole = λ e i l. to i (h.whole e i l);
}

none_at : (i : ℕ) → get_or none_there i false ≡ true → ⊥
none_at i e =
    let z : false ≡ true =
    ⊎_elim (λ l. sym (get_or-replicate 1024 i false false l) ∙ e) (λ l. sym (get_or_past none_there i false (omega (arith, length-replicate 1024 false))) ∙ e) (cases_lt i 1024) in
    cc

-- nothing of a new message is there
pub holds_begun : (d : ℕ) (c : CollectorState) (m : List ℕ) (toggle : Bool) (B : ℕ → Type 0) → length c.bytes ≡ 16384 → length m ≤ 16384 → ((i : ℕ) → B i → ⊥) → Holds d (begun c toggle) m toggle B
holds_begun d c m toggle B space room none = record {
  not_empty = λ e. cc;
  toggle_is = refl;
  ids = length-replicate 1024 false;
  space = space;
  room = room;
  was = λ i e. absurd (none_at i e);
  is = λ i b. absurd (none i b);
  few = λ i b. absurd (none i b);
  ended = λ i h b. none i b;
  bytes_are = λ i k b. absurd (none i b);
  whole = λ e. cc;
}

phase_complete : (b : Bool) → cond b IsComplete Collecting ≡ IsComplete → b ≡ true
phase_complete true e = refl
phase_complete false e = cc

phase_some : (b : Bool) → cond b IsComplete Collecting ≡ Empty → ⊥
phase_some true e = cc
phase_some false e = cc

module _ (d : ℕ) (m : List ℕ) (j : ℕ) (some : 1 ≤ d) (can : Sendable d m) (is_piece : j < piece_count d (length m)) where
  starts : j * d < length m
  starts = starts_within d some (length m) j is_piece

  size : length (piece d m j) ≡ min d (length m - j * d)
  size = length-piece d j m

  -- the last piece ends with the message
  last_size : j + 1 ≡ piece_count d (length m) → j * d + length (piece d m j) ≡ length m
  last_size e =
      let le : length m ≤ (j + 1) * d =
      ⊎_elim (λ l. absurd (omega (arith, within_starts d some (length m) (j + 1) l))) (λ l. l) (cases_lt ((j + 1) * d) (length m)) in
      omega (arith, row d some j, size, starts)

  -- any other has d bytes
  inner_size : (j + 1 ≡ piece_count d (length m) → ⊥) → length (piece d m j) ≡ d
  inner_size ne =
      let other : j + 1 ≢ piece_count d (length m) = ne in
      omega (arith, row d some j, size, starts_within d some (length m) (j + 1) (omega arith))

  fits-message : j * d + length (piece d m j) ≤ length m
  fits-message = omega (arith, size, starts)

  right_length : wrong_length d (eqb (j + 1) (piece_count d (length m))) (length (piece d m j)) ≡ false
  right_length =
      ⊎_elim
      (λ e. ap (λ b. wrong_length d b (length (piece d m j))) (eq-eqb (j + 1) (piece_count d (length m)) e)
      ∙ or_from _ _ (ne_eqb (length (piece d m j)) 0 (λ z. omega (arith, size, starts))) (le-ltb d (length (piece d m j)) (omega (arith, size))))
      (λ ne. ap (λ b. wrong_length d b (length (piece d m j))) (ne_eqb (j + 1) (piece_count d (length m)) ne)
      ∙ not_from_true _ (eq-eqb (length (piece d m j)) d (inner_size ne)))
      (cases_eq (j + 1) (piece_count d (length m)))

  before_last : (B : ℕ → Type 0) (last : Option ℕ) (total : ℕ) → Ended d m B last total → behind last j ≡ false
  before_last B None total e = refl
  before_last B (Some l) total e = le-ltb l j (omega (arith, e.0))

-- the packet of piece j of m for the collector o
abbrev pub piece_for : CollectorState → List ℕ → Bool → ℕ → Content
piece_for o m toggle j = packet_of o.piece_length m toggle j

module _ (o : CollectorState) (m : List ℕ) (toggle : Bool) (B B' : ℕ → Type 0) (j : ℕ) (some : 1 ≤ o.piece_length) (can : Sendable o.piece_length m) (is_piece : j < piece_count o.piece_length (length m)) (h : Holds o.piece_length o m toggle B) (to : (i : ℕ) → B' i → (j ≡ i) ⊎ B i) (here : B' j) (old : (i : ℕ) → B i → B' i) where
  cuts_none : (eqb (j + 1) (piece_count o.piece_length (length m)) && any_true (drop (j + 1) o.there)) ≡ false
  cuts_none =
      ⊎_elim
      (λ e. and_right _ _ (none_from (j + 1) o.there (λ i l. false_from_ne_true _ (λ t. omega (arith, h.few i (h.was i t))))))
      (λ ne. and_left _ _ (ne_eqb (j + 1) (piece_count o.piece_length (length m)) ne))
      (cases_eq (j + 1) (piece_count o.piece_length (length m)))

  pub not_misplaced : misplaced o.piece_length o.there o.last (piece_for o m toggle j) ≡ false
  not_misplaced =
      or_from _ _ (right_length o.piece_length m j some can is_piece)
      (or_from _ _ (lt-leb 1024 j (omega (arith, can.few)))
      (or_from _ _ (le-ltb 16384 (j * o.piece_length + length (piece o.piece_length m j)) (omega (arith, can.room, fits-message o.piece_length m j some can is_piece)))
      (or_from _ _ (before_last o.piece_length m j some can is_piece B o.last o.total h.ended) cuts_none)))

  ended_keep : (j + 1 ≡ piece_count o.piece_length (length m) → ⊥) → (last : Option ℕ) (total : ℕ) → Ended o.piece_length m B last total → Ended o.piece_length m B' last total
  ended_keep ne None total e = λ i q b. ⊎_elim (λ r. ne (ap (λ x. x + 1) r ∙ q)) (λ c. e i q c) (to i b)
  ended_keep ne (Some l) total e = e

  abbrev last_after : Option ℕ
  last_after = last_with o.last (piece_for o m toggle j)

  ended_after : Ended o.piece_length m B' (cond (eqb (j + 1) (piece_count o.piece_length (length m))) (Some j) o.last) (cond (eqb (j + 1) (piece_count o.piece_length (length m))) (j * o.piece_length + length (piece o.piece_length m j)) o.total)
  ended_after =
      let P : Bool → Type 0 =
      λ b. Ended o.piece_length m B' (cond b (Some j) o.last) (cond b (j * o.piece_length + length (piece o.piece_length m j)) o.total) in
      ⊎_elim
      (λ e. subst P (sym (eq-eqb (j + 1) (piece_count o.piece_length (length m)) e)) (e, last_size o.piece_length m j some can is_piece e))
      (λ ne. subst P (sym (ne_eqb (j + 1) (piece_count o.piece_length (length m)) ne)) (ended_keep ne o.last o.total h.ended))
      (cases_eq (j + 1) (piece_count o.piece_length (length m)))

  within : j < length o.there
  within = omega (arith, h.ids, can.few)

  was_after : (i : ℕ) → get_or (set o.there j true) i false ≡ true → B' i
  was_after i e =
      ⊎_elim
      (λ q. subst B' (sym q) here)
      (λ ne. old i (h.was i (sym (get_or-set_other o.there j i true false ne) ∙ e)))
      (cases_eq i j)

  is_after : (i : ℕ) → B' i → get_or (set o.there j true) i false ≡ true
  is_after i b =
      ⊎_elim
      (λ q. ap (λ x. get_or (set o.there j true) x false) q ∙ get_or-set_same o.there j true false within)
      (λ ne. get_or-set_other o.there j i true false ne ∙ ⊎_elim (λ r. absurd (ne (sym r))) (h.is i) (to i b))
      (cases_eq i j)

  complete_go : (last : Option ℕ) (total : ℕ) → Ended o.piece_length m B' last total → none_missing (set o.there j true) last ≡ true → (i : ℕ) → i < piece_count o.piece_length (length m) → B' i
  complete_go None total e w i l = cc
  complete_go (Some k) total e w i l =
      let long = length-set o.there j true in
      was_after i (all_true_at (k + 1) (set o.there j true) i w (omega (arith, h.ids, can.few, e.0)) (omega (arith, e.0)))

  pub complete_then : completes o (piece_for o m toggle j) ≡ true → (i : ℕ) → i < piece_count o.piece_length (length m) → B' i
  complete_then = complete_go last_after _ ended_after

  then_go : (last : Option ℕ) (total : ℕ) → Ended o.piece_length m B' last total → ((i : ℕ) → i < piece_count o.piece_length (length m) → B' i) → none_missing (set o.there j true) last ≡ true
  then_go None total e all =
      absurd (e (piece_count o.piece_length (length m) - 1) (omega arith) (all (piece_count o.piece_length (length m) - 1) (omega arith)))
  then_go (Some k) total e all = all_true_lem (k + 1) (set o.there j true) (λ i l. is_after i (all i (omega (arith, e.0))))

  pub then_complete : ((i : ℕ) → i < piece_count o.piece_length (length m) → B' i) → completes o (piece_for o m toggle j) ≡ true
  then_complete = then_go last_after _ ended_after

  fits-bytes : j * o.piece_length + length (piece o.piece_length m j) ≤ length o.bytes
  fits-bytes = omega (arith, h.space, can.room, fits-message o.piece_length m j some can is_piece)

  abbrev bytes_after : List ℕ
  bytes_after = written o.bytes (j * o.piece_length) (piece o.piece_length m j)

  bytes_here : (k : ℕ) → k < o.piece_length → j * o.piece_length + k < length m → get_or bytes_after (j * o.piece_length + k) 0 ≡ get_or m (j * o.piece_length + k) 0
  bytes_here k l r =
      written_in o.bytes (j * o.piece_length) (piece o.piece_length m j) fits-bytes k (omega (arith, size o.piece_length m j some can is_piece))
      ∙ get_or-take o.piece_length (drop (j * o.piece_length) m) k 0 l
      ∙ get_or-drop (j * o.piece_length) m k 0

  bytes_there : (i k : ℕ) → B' i → k < o.piece_length → i * o.piece_length + k < length m → get_or bytes_after (i * o.piece_length + k) 0 ≡ get_or m (i * o.piece_length + k) 0
  bytes_there i k b l r =
      let d = o.piece_length in
      let short = size d m j some can is_piece in
      elim (cases_order i j) [
        | inl e ↦ subst (λ x. x * d + k < length m → get_or bytes_after (x * d + k) 0 ≡ get_or m (x * d + k) 0) (sym e) (bytes_here k l) r
        | inr q ↦ elim q [
          | inl lt ↦
              let up : (i + 1) * d ≤ j * d = mul-le-mul_right d (omega arith) in
              let lo : i * d + k < j * d = omega (arith, row d some i) in
              let bi : B i = ⊎_elim (λ x. absurd (omega arith)) (λ x. x) (to i b) in
              written_below o.bytes (j * d) (piece d m j) fits-bytes (i * d + k) lo ∙ h.bytes_are i k bi l r
          | inr gt ↦
              let up : (j + 1) * d ≤ i * d = mul-le-mul_right d (omega arith) in
              let hi : j * d + length (piece d m j) ≤ i * d + k = omega (arith, row d some j) in
              let bi : B i = ⊎_elim (λ x. absurd (omega arith)) (λ x. x) (to i b) in
              written-above o.bytes (j * d) (piece d m j) fits-bytes (i * d + k) hi ∙ h.bytes_are i k bi l r
        ]
      ]

  pub holds_placed : Holds o.piece_length (placed o (piece_for o m toggle j)) m toggle B'
  holds_placed = record {
    not_empty = phase_some (completes o (piece_for o m toggle j));
    toggle_is = h.toggle_is;
    ids = length-set o.there j true ∙ h.ids;
    space = length-written o.bytes (j * o.piece_length) (piece o.piece_length m j) fits-bytes ∙ h.space;
    room = can.room;
    was = was_after;
    is = is_after;
    few = λ i b. ⊎_elim (λ q. subst (λ x. x < piece_count o.piece_length (length m)) q is_piece) (h.few i) (to i b);
    ended = ended_after;
    bytes_are = bytes_there;
    whole = λ e. complete_then (phase_complete (completes o (piece_for o m toggle j)) e);
  }
