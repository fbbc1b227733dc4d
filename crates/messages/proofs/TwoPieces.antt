-- A message in two pieces whose packets are taken one after the other. Assumes nothing.
use Rattle.std.proofs.Common.{◌≡◌, ℕ, ◌+◌, ◌<◌, Bool, true, false, cond, eqb, ltb, List, [], ◌∷◌, length, get_or, replicate, Some, None, Ok, Err, Result, sym, refl, ap, ◌∙◌, subst, inl, inr, ⊎_elim, arith}
use native.Mathlib.Nat.{div-eq_of_lt-le}
use Rattle.std.proofs.lemmas.List.{length-replicate}
use Rattle.std.proofs.lemmas.Bool.{le-ltb, ne_eqb, cases_eq}
use Rattle.refusals.specs.declared.Refusal.{Refusal}
use Rattle.refusals.specs.declared.Refusal.TheVariants.{MessageLength, TooManyPieces, Misplaced}
use Rattle.messages.specs.declared.content.Placing.{Placing}
use Rattle.messages.specs.declared.content.Placing.TheVariants.{Placed, Complete, Had, Repeat}
use Rattle.messages.specs.declared.states.Progress.TheVariants.{Idle}
use Rattle.messages.specs.Pieces.{piece_length_of, piece_count}
use Rattle.packets.specs.Packets.{Content}
use Rattle.messages.specs.SenderCalls.{load_refusal}
use Rattle.messages.specs.CollectorCalls.{CollectorState, Standing, new, more, had, again, begun, completes, misplaced, placed, same, standing, Placed-in, Taken-as, Taking}
use Rattle.messages.specs.Histories.{Sent, Took, In, Before, Due}
use Rattle.messages.specs.Promise.{brings, Brought, LastOutstanding}

-- a collector answers every packet
module _ (c : CollectorState) (p : Content) where
  placing : (o : CollectorState) (b : Bool) → (u : CollectorState) × (r : Result Placing Refusal) × Placed-in b o c u p r
  placing o true = (c, Err Misplaced, (refl, refl))
  placing o false = (placed o p, Ok (cond (completes o p) Complete Placed), (refl, refl))

  by_standing : (st : Standing) → (u : CollectorState) × (r : Result Placing Refusal) × Taken-as st c u p r
  by_standing new = placing (begun c p.toggle) (misplaced c.piece_length (begun c p.toggle).there (begun c p.toggle).last p)
  by_standing more = placing c (misplaced c.piece_length c.there c.last p)
  by_standing had = (c, Ok Had, (refl, refl))
  by_standing again = (c, Ok Repeat, (refl, refl))

  pub collects : (u : CollectorState) × (r : Result Placing Refusal) × Taking c u p r
  collects = by_standing (standing c.phase (same p.toggle c.toggle) (get_or c.there p.id false))

none_holds : (a b c : Bool) (x y z : Refusal) → a ≡ false → b ≡ false → c ≡ false → cond a (Some x) (cond b (Some y) (cond c (Some z) None)) ≡ None
none_holds a b c x y z e f g = rw (e, f, g) refl

-- one byte more than a piece has is a message in two pieces, which may be loaded
module _ (n : ℕ) where
  abbrev d : ℕ
  d = piece_length_of n

  abbrev pub long_message : List ℕ
  long_message = replicate (d + 1) 7

  pub long_size : length long_message ≡ d + 1
  long_size = length-replicate (d + 1) 7

  pub in_two_pieces : piece_count d (length long_message) ≡ 2
  in_two_pieces = div-eq_of_lt-le d (omega (arith, long_size)) (omega (arith, long_size))

  pub may_load : load_refusal Idle d (length long_message) ≡ None
  may_load =
      none_holds (eqb (length long_message) 0) (ltb 16384 (length long_message)) (ltb 1024 (piece_count d (length long_message))) MessageLength MessageLength TooManyPieces
      (ne_eqb (length long_message) 0 (λ e. omega (arith, long_size))) (le-ltb 16384 (length long_message) (omega (arith, long_size)))
      (le-ltb 1024 (piece_count d (length long_message)) (omega (arith, in_two_pieces)))

-- the first packet sent may be taken
pub due_first : (f : Sent) → Due (f ∷ []) [] f
due_first f = record { was_sent = inl refl; later = λ t i. absurd i; none_missed = λ t g i. absurd i }

-- the packets of two pieces, of which the first was taken
module _ (first second : Sent) (same_message : second.number ≡ first.number) (at_0 : first.place ≡ 0) (at_1 : second.place ≡ 1) (answer : Result Placing Refusal) where
  abbrev t₀ : Took
  t₀ = record { what = first; answer = answer }

  later : (t : Took) → In t (t₀ ∷ []) → Before t.what second
  later t (inl e) = subst (λ x. Before x.what second) e (inr (sym same_message, omega (arith, at_0, at_1)))
  later t (inr i) = absurd i

  none_between : (t : Took) (g : Sent) → In t (t₀ ∷ []) → t.what.number < g.number → g.number < second.number → ⊥
  none_between t g (inl e) a b = let k : ◌≡◌ {A = ℕ} first.number t.what.number = ap (λ x. x.what.number) e in omega (arith, k, same_message)
  none_between t g (inr i) a b = i

  pub due_second : Due (second ∷ first ∷ []) (t₀ ∷ []) second
  due_second = record { was_sent = inl refl; later = later; none_missed = λ t g i j a b. absurd (none_between t g i a b) }

  -- the second brings what is outstanding
  module _ (d : ℕ) (both_in_two : piece_count d (length first.message) ≡ 2) (also : piece_count d (length second.message) ≡ 2) where
    brings_first : brings d first ≡ 0
    brings_first = rw (at_0, both_in_two) refl

    brings_second : brings d second ≡ 1
    brings_second = rw (at_1, also) refl

    not_both : Brought d (t₀ ∷ []) second.number (brings d second) → ⊥
    not_both (inl q) = omega (arith, q.1, brings_first, brings_second)
    not_both (inr i) = i

    pub second_is_last : LastOutstanding d (t₀ ∷ []) second
    second_is_last = record {
      outstanding = not_both;
      others = λ i h. ⊎_elim (λ e. inl (brings_second ∙ sym e)) (λ ne. inr (inl (sym same_message, brings_first ∙ omega (arith, also)))) (cases_eq i 1);
    }
