-- The collector along a history: what a packet that may be taken is answered, and what fetch gives.
use Rattle.std.proofs.Common.{◌≡◌, ℕ, ◌-◌, ◌/◌, ◌%◌, ◌<◌, ◌≤◌, Bool, true, false, cond, not, ltb, ◌⊎◌, List, [], ◌∷◌, ◌++◌, length, get_or, take, drop, is_ok, Some, None, Ok, Err, Option, Result, sym, refl, ap, ◌∙◌, subst, inl, inr, ⊎_elim, mod-lt, div-add-mod', arith}
use Rattle.std.proofs.lemmas.List.{ext_get_or, get_or-take, length-take-le}
use Rattle.std.proofs.lemmas.Bool.{le-ltb}
use Rattle.refusals.specs.declared.Refusal.{Refusal}
use Rattle.refusals.specs.declared.Refusal.TheVariants.{FewBytes}
use Rattle.messages.specs.declared.content.Placing.{Placing}
use Rattle.messages.specs.declared.content.Placing.TheVariants.{Placed, Complete, Had, Repeat}
use Rattle.messages.specs.declared.states.Phase.{Phase}
use Rattle.messages.specs.declared.states.Phase.TheVariants.{Empty, Collecting, Complete as IsComplete}
use Rattle.messages.specs.Pieces.{piece_count}
use Rattle.packets.specs.Packets.{Content}
use Rattle.messages.specs.CollectorCalls.{CollectorState, Standing, new, more, had, again, begun, completes, fetch_refusal, same, standing, Placed-in, Placing-in, Taken-as, Taking, Fetching}
use Rattle.messages.specs.Histories.{Sent, Took, Any, In}
use Rattle.messages.specs.Promise.{brings, Brought, StandsComplete, Told}
use Rattle.messages.proofs.Cutting.{within_starts}
use Rattle.messages.proofs.Sends.{Proper}
use Rattle.messages.proofs.Places.{Ended, Holds, holds_map, holds_begun, holds_placed, not_misplaced, complete_then, then_complete, piece_for}

-- nothing was taken and the collector is empty; or it holds what was brought of the newest taken message
abbrev pub Holding : ℕ → CollectorState → List Took → Type 0
Holding d c [] = (c.phase ≡ Empty) × (length c.bytes ≡ 16384)
Holding d c (t ∷ ts) = Holds d c t.what.message t.what.packet.toggle (Brought d (t ∷ ts) t.what.number)

pub record CollectorOk (d : ℕ) (c : CollectorState) (taken : List Took) : Type 0 where
  pub length_is : c.piece_length ≡ d
  pub holding : Holding d c taken
  pub stands : (n : ℕ) (m : List ℕ) → StandsComplete n m taken → c.phase ≡ IsComplete

abbrev pub took : Sent → Result Placing Refusal → Took
took f r = record { what = f; answer = r }

only_complete : (b : Bool) → ◌≡◌ {A = Result Placing Refusal} (Ok (cond b Complete Placed)) (Ok Complete) → b ≡ true
only_complete true e = refl
only_complete false e = cc

pub brings-piece : (d : ℕ) (f : Sent) → 1 ≤ d → 0 < length f.message → brings d f < piece_count d (length f.message)
brings-piece d f some has =
    let c : 0 < piece_count d (length f.message) = within_starts d some (length f.message) 0 (omega arith) in
    mod-lt f.place c

-- a packet of an outstanding piece
module _ (o c u : CollectorState) (taken : List Took) (f : Sent) (r : Result Placing Refusal) (some : 1 ≤ o.piece_length) (ok : Proper o.piece_length f) (h : Holds o.piece_length o f.message f.packet.toggle (Brought o.piece_length taken f.number)) (out : Brought o.piece_length taken f.number (brings o.piece_length f) → ⊥) (done : (n : ℕ) (m : List ℕ) → f.number ≡ n → StandsComplete n m taken → ⊥) (step : Placing-in o c u f.packet r) where
  abbrev p : Content
  p = piece_for o f.message f.packet.toggle (brings o.piece_length f)

  is_piece : brings o.piece_length f < piece_count o.piece_length (length f.message)
  is_piece = brings-piece o.piece_length f some ok.sendable.some

  abbrev B : ℕ → Type 0
  B = Brought o.piece_length taken f.number

  abbrev B' : ℕ → Type 0
  B' = Brought o.piece_length (took f r ∷ taken) f.number

  to : (i : ℕ) → B' i → (brings o.piece_length f ≡ i) ⊎ B i
  to i = ⊎_elim (λ q. inl q.1) inr

  gave : Placed-in false o c u p r
  gave =
      subst (λ b. Placed-in b o c u p r)
      (not_misplaced o f.message f.packet.toggle B B' (brings o.piece_length f) some ok.sendable is_piece h to (inl (refl, refl)) (λ i. inr))
      (subst (λ x. Placing-in o c u x r) ok.packet_is step)

  all_brought : completes o p ≡ true → (i : ℕ) → i < piece_count o.piece_length (length f.message) → B' i
  all_brought =
      complete_then o f.message f.packet.toggle B B' (brings o.piece_length f) some ok.sendable is_piece h to (inl (refl, refl)) (λ i. inr)

  brought_all : ((i : ℕ) → i < piece_count o.piece_length (length f.message) → B' i) → completes o p ≡ true
  brought_all =
      then_complete o f.message f.packet.toggle B B' (brings o.piece_length f) some ok.sendable is_piece h to (inl (refl, refl)) (λ i. inr)

  pub placed_told : Told o.piece_length taken f r
  placed_told = record {
    accepted = ap is_ok gave.0;
    only_last = λ e. record {
      outstanding = out;
      others = λ i l. to i (all_brought (only_complete (completes o p) (sym gave.0 ∙ e)) i l);
    };
    last_is = λ lo. gave.0 ∙ ap (λ b. Ok (cond b Complete Placed)) (brought_all (λ i l. ⊎_elim (λ e. inl (refl, e)) inr (lo.others i l)));
  }

  placed_stands : (n : ℕ) (m : List ℕ) → StandsComplete n m (took f r ∷ taken) → u.phase ≡ IsComplete
  placed_stands n m s =
      ⊎_elim
      (λ e. ap (λ x. x.phase) gave.1 ∙ ap (λ b. cond b IsComplete Collecting) (only_complete (completes o p) (sym gave.0 ∙ e)))
      (λ q. absurd (done n m s.0 q))
      s.2

  pub placed_ok : CollectorOk o.piece_length u (took f r ∷ taken)
  placed_ok = record {
    length_is = ap (λ x. x.piece_length) gave.1;
    holding =
        subst (λ x. Holds o.piece_length x f.message f.packet.toggle B') (sym gave.1)
        (holds_placed o f.message f.packet.toggle B B' (brings o.piece_length f) some ok.sendable is_piece h to (inl (refl, refl)) (λ i. inr));
    stands = placed_stands;
  }

-- a packet of a piece that was brought
module _ (d : ℕ) (c u : CollectorState) (taken : List Took) (f : Sent) (r : Result Placing Refusal) (h : Holds d c f.message f.packet.toggle (Brought d taken f.number)) (brought : Brought d taken f.number (brings d f)) (accepted : is_ok r ≡ true) (other : r ≡ Ok Complete → ⊥) where
  pub kept_told : Told d taken f r
  kept_told = record {
    accepted = accepted;
    only_last = λ e. absurd (other e);
    last_is = λ lo. absurd (lo.outstanding brought);
  }

  back : (i : ℕ) → Brought d (took f r ∷ taken) f.number i → Brought d taken f.number i
  back i = ⊎_elim (λ q. subst (Brought d taken f.number) q.1 brought) (λ b. b)

  pub kept_ok : c.piece_length ≡ d → ((n : ℕ) (m : List ℕ) → StandsComplete n m taken → c.phase ≡ IsComplete) → u ≡ c → CollectorOk d u (took f r ∷ taken)
  kept_ok len stands e =
      subst (λ x. CollectorOk d x (took f r ∷ taken)) (sym e) (record {
        length_is = len;
        holding = holds_map d c f.message f.packet.toggle (Brought d taken f.number) (Brought d (took f r ∷ taken) f.number) (λ i. inr) back h;
        stands = λ n m s. ⊎_elim (λ q. absurd (other q)) (stands n m) s.2;
      })

pub any_found : {X : Type 0} (P : X → Type 0) (xs : List X) → Any P xs → (x : X) × In x xs × P x
any_found P [] a = absurd a
any_found P (x ∷ xs) (inl p) = (x, inl refl, p)
any_found P (x ∷ xs) (inr q) = let r = any_found P xs q in (r.0, inr r.1, r.2)

same_self : (a b : Bool) → a ≡ b → same a b ≡ true
same_self true true e = refl
same_self false false e = refl
same_self true false e = cc
same_self false true e = cc

same_not : (b : Bool) → same (not b) b ≡ false
same_not true = refl
same_not false = refl

other_new : (ph : Phase) (id : Bool) → standing ph false id ≡ new
other_new Empty id = refl
other_new Collecting id = refl
other_new IsComplete id = refl

-- how the packet lies to the newest taken one: of the same message, or of one with another toggle and nothing taken
abbrev pub Meets : List Took → Sent → Type 0
Meets [] f = Unit {0}
Meets (t ∷ ts) f =
    ((t.what.number ≡ f.number) × (t.what.message ≡ f.message) × (t.what.packet.toggle ≡ f.packet.toggle))
    ⊎ ((f.packet.toggle ≡ not t.what.packet.toggle) × ((x : Took) → In x (t ∷ ts) → x.what.number < f.number))

module _ (c u : CollectorState) (f : Sent) (r : Result Placing Refusal) (some : 1 ≤ c.piece_length) (ok : Proper c.piece_length f) (taking : Taking c u f.packet r) where
  abbrev Stepped : List Took → Type 0
  Stepped taken = Told c.piece_length taken f r × CollectorOk c.piece_length u (took f r ∷ taken)

  -- the first packet of a message
  first_step : (taken : List Took) → standing c.phase (same f.packet.toggle c.toggle) (get_or c.there f.packet.id false) ≡ new → length c.bytes ≡ 16384 → ((x : Took) → In x taken → x.what.number < f.number) → ((n : ℕ) (m : List ℕ) → f.number ≡ n → StandsComplete n m taken → ⊥) → Stepped taken
  first_step taken e space below done =
      let o = begun c f.packet.toggle in
      let none : (i : ℕ) → Brought c.piece_length taken f.number i → ⊥ =
      λ i b. let x = any_found _ taken b in omega (arith, below x.0 x.1, x.2.0) in
      let h = holds_begun c.piece_length c f.message f.packet.toggle (Brought c.piece_length taken f.number) space ok.sendable.room none in
      let step : Placing-in o c u f.packet r = subst (λ x. Taken-as x c u f.packet r) e taking in
      (placed_told o c u taken f r some ok h (none _) done step, placed_ok o c u taken f r some ok h (none _) done step)

  module _ (taken : List Took) (h : Holds c.piece_length c f.message f.packet.toggle (Brought c.piece_length taken f.number)) (stands : (n : ℕ) (m : List ℕ) → StandsComplete n m taken → c.phase ≡ IsComplete) where
    key : (ph : Phase) (flag : Bool) → c.phase ≡ ph → get_or c.there (brings c.piece_length f) false ≡ flag → Taken-as (standing ph true flag) c u f.packet r
    key ph flag e g =
        subst (λ x. Taken-as x c u f.packet r)
        (ap (λ x. standing x (same f.packet.toggle c.toggle) (get_or c.there f.packet.id false)) e
        ∙ ap (λ x. standing ph x (get_or c.there f.packet.id false)) (same_self f.packet.toggle c.toggle (sym h.toggle_is))
        ∙ ap (λ x. standing ph true x) (ap (λ x. get_or c.there x.id false) ok.packet_is ∙ g))
        taking

    -- one more packet of the message
    more_step : (ph : Phase) (flag : Bool) → c.phase ≡ ph → get_or c.there (brings c.piece_length f) false ≡ flag → Stepped taken
    more_step Empty flag e g = absurd (h.not_empty e)
    more_step IsComplete flag e g =
        let k : (r ≡ Ok Repeat) × (u ≡ c) = key IsComplete flag e g in
        let brought = h.whole e (brings c.piece_length f) (brings-piece c.piece_length f some ok.sendable.some) in
        let other : r ≡ Ok Complete → ⊥ = λ q. let z = k.0 in cc in
        let fine : is_ok r ≡ true = ap is_ok k.0 in
        (kept_told c.piece_length c u taken f r h brought fine other, kept_ok c.piece_length c u taken f r h brought fine other refl stands k.1)
    more_step Collecting true e g =
        let k : (r ≡ Ok Had) × (u ≡ c) = key Collecting true e g in
        let brought = h.was (brings c.piece_length f) g in
        let other : r ≡ Ok Complete → ⊥ = λ q. let z = k.0 in cc in
        let fine : is_ok r ≡ true = ap is_ok k.0 in
        (kept_told c.piece_length c u taken f r h brought fine other, kept_ok c.piece_length c u taken f r h brought fine other refl stands k.1)
    more_step Collecting false e g =
        let k : Placing-in c c u f.packet r = key Collecting false e g in
        let out : Brought c.piece_length taken f.number (brings c.piece_length f) → ⊥ =
        λ b. let z = h.is (brings c.piece_length f) b in cc in
        let done : (n : ℕ) (m : List ℕ) → f.number ≡ n → StandsComplete n m taken → ⊥ =
        λ n m q s. let z = stands n m s in cc in
        (placed_told c c u taken f r some ok h out done k, placed_ok c c u taken f r some ok h out done k)

  take_step : (taken : List Took) → CollectorOk c.piece_length c taken → Meets taken f → Stepped taken
  take_step [] good meets =
      let e : standing c.phase (same f.packet.toggle c.toggle) (get_or c.there f.packet.id false) ≡ new =
      ap (λ x. standing x (same f.packet.toggle c.toggle) (get_or c.there f.packet.id false)) good.holding.0 in
      first_step [] e good.holding.1 (λ x i. absurd i) (λ n m q s. s)
  take_step (t ∷ ts) good (inl q) =
      let d = c.piece_length in
      let h₁ = subst (λ x. Holds d c t.what.message t.what.packet.toggle (Brought d (t ∷ ts) x)) q.0 good.holding in
      let h₂ = subst (λ x. Holds d c x t.what.packet.toggle (Brought d (t ∷ ts) f.number)) q.1 h₁ in
      let h₃ = subst (λ x. Holds d c f.message x (Brought d (t ∷ ts) f.number)) q.2 h₂ in
      more_step (t ∷ ts) h₃ good.stands c.phase (get_or c.there (brings d f) false) refl refl
  take_step (t ∷ ts) good (inr q) =
      let flips : same f.packet.toggle c.toggle ≡ false =
      ap (λ x. same f.packet.toggle x) good.holding.toggle_is ∙ ap (λ x. same x t.what.packet.toggle) q.0 ∙ same_not t.what.packet.toggle in
      let e : standing c.phase (same f.packet.toggle c.toggle) (get_or c.there f.packet.id false) ≡ new =
      ap (λ x. standing c.phase x (get_or c.there f.packet.id false)) flips ∙ other_new c.phase (get_or c.there f.packet.id false) in
      first_step (t ∷ ts) e good.holding.space q.1 (λ n m z s. omega (arith, q.1 t (inl refl), s.0, z))

pub taken_ok : (d : ℕ) (c u : CollectorState) (taken : List Took) (f : Sent) (r : Result Placing Refusal) → 1 ≤ d → CollectorOk d c taken → Proper d f → Meets taken f → Taking c u f.packet r → Told d taken f r × CollectorOk d u (took f r ∷ taken)
taken_ok d c u taken f r some good ok meets taking =
    let P : ℕ → Type 0 =
    λ l. 1 ≤ l → CollectorOk l c taken → Proper l f → Told l taken f r × CollectorOk l u (took f r ∷ taken) in
    subst P good.length_is (λ a b e. take_step c u f r a e taking taken b meets) some good ok

refused_in : (c u o : CollectorState) (p : Content) (e : Refusal) (b : Bool) → Placed-in b o c u p (Err e) → u ≡ c
refused_in c u o p e true h = h.1
refused_in c u o p e false h = let z = h.0 in cc

refused_as : (c u : CollectorState) (p : Content) (e : Refusal) (st : Standing) → Taken-as st c u p (Err e) → u ≡ c
refused_as c u p e new h = refused_in c u (begun c p.toggle) p e _ h
refused_as c u p e more h = refused_in c u c p e _ h
refused_as c u p e had h = let z = h.0 in cc
refused_as c u p e again h = let z = h.0 in cc

-- what is refused takes none
pub refused_same : (c u : CollectorState) (p : Content) (e : Refusal) → Taking c u p (Err e) → u ≡ c
refused_same c u p e h = refused_as c u p e (standing c.phase (same p.toggle c.toggle) (get_or c.there p.id false)) h

-- a complete message
module _ (d : ℕ) (c : CollectorState) (some : 1 ≤ d) where
  total_is : (m : List ℕ) (B : ℕ → Type 0) (last : Option ℕ) (total : ℕ) → 0 < piece_count d (length m) → ((i : ℕ) → i < piece_count d (length m) → B i) → Ended d m B last total → total ≡ length m
  total_is m B None total has all e = absurd (e (piece_count d (length m) - 1) (omega arith) (all (piece_count d (length m) - 1) (omega arith)))
  total_is m B (Some l) total has all e = e.1

  bytes_at : (m : List ℕ) (toggle : Bool) (B : ℕ → Type 0) → Holds d c m toggle B → ((i : ℕ) → i < piece_count d (length m) → B i) → (i : ℕ) → i < length m → get_or c.bytes i 0 ≡ get_or m i 0
  bytes_at m toggle B h all i l =
      let e = div-add-mod' i d in
      let q : i / d < piece_count d (length m) = within_starts d some (length m) (i / d) (omega arith) in
      subst (λ x. x < length m → get_or c.bytes x 0 ≡ get_or m x 0) e (h.bytes_are (i / d) (i % d) (all (i / d) q) (mod-lt i some)) l

  bytes_front : (m : List ℕ) (toggle : Bool) (B : ℕ → Type 0) → Holds d c m toggle B → ((i : ℕ) → i < piece_count d (length m) → B i) → take (length m) c.bytes ≡ m
  bytes_front m toggle B h all =
      let long = length-take-le (length m) c.bytes (omega (arith, h.space, h.room)) in
      ext_get_or 0 (take (length m) c.bytes) m long
      (λ i l. get_or-take (length m) c.bytes i 0 (omega arith) ∙ bytes_at m toggle B h all i (omega arith))

  fetched : (m : List ℕ) (xs ys : List ℕ) (r : Result ℕ Refusal) → c.phase ≡ IsComplete → c.total ≡ length m → take (length m) c.bytes ≡ m → Fetching c xs ys r → length m ≤ length xs → (r ≡ Ok (length m)) × (ys ≡ m ++ drop (length m) xs)
  fetched m xs ys (Ok n) whole total front f l =
      let e : n ≡ length m = f.1 ∙ total in
      (ap Ok e, f.2 ∙ ap (λ k. take k c.bytes ++ drop k xs) e ∙ ap (λ z. z ++ drop (length m) xs) front)
  fetched m xs ys (Err e) whole total front f l =
      let t : ltb (length xs) c.total ≡ false = le-ltb (length xs) c.total (omega arith) in
      let z : None ≡ Some e =
      sym (ap (λ x. fetch_refusal x c.total (length xs)) whole ∙ ap (λ b. cond b (Some FewBytes) None) t) ∙ f.0 in
      cc

  pub gives_back : (taken : List Took) → CollectorOk d c taken → (n : ℕ) (m : List ℕ) → StandsComplete n m taken → (xs ys : List ℕ) (r : Result ℕ Refusal) → Fetching c xs ys r → length m ≤ length xs → (r ≡ Ok (length m)) × (ys ≡ m ++ drop (length m) xs)
  gives_back [] good n m s xs ys r f l = absurd s
  gives_back (t ∷ ts) good n m s xs ys r f l =
      let whole = good.stands n m s in
      let B = Brought d (t ∷ ts) t.what.number in
      let h : Holds d c m t.what.packet.toggle B =
      subst (λ x. Holds d c x t.what.packet.toggle B) s.1 good.holding in
      let all = h.whole whole in
      let has : 0 < piece_count d (length m) = omega (arith, h.few (brings d t.what) (inl (refl, refl))) in
      fetched m xs ys r whole (total_is m B c.last c.total has all h.ended) (bytes_front m t.what.packet.toggle B h all) f l
