-- The promise: what is known of the two states after every history.
use Rattle.std.proofs.Common.{◌≡◌, ℕ, ◌≤◌, true, List, [], ◌∷◌, ◌++◌, length, take, drop, sym, refl, ap, ◌∙◌, subst, inl, inr, ⊎_elim, arith}
use Rattle.std.proofs.lemmas.List.{take_at, length-replicate}
use Rattle.messages.specs.declared.content.NextPacket.{NextPacket}
use Rattle.messages.specs.declared.states.Phase.TheVariants.{Empty}
use Rattle.messages.specs.declared.states.Progress.TheVariants.{Idle}
use Rattle.packets.specs.Packets.{Content, content_of}
use Rattle.messages.specs.SenderCalls.{SenderState, Carries, advanced, is_loaded, new_sender, next_packet}
use Rattle.messages.specs.CollectorCalls.{CollectorState, new_collector}
use Rattle.messages.specs.Pieces.{piece_length_of}
use Rattle.messages.specs.Histories.{Sent, Took, History, In, Due, Run, after_next, start, load, load_refused, next, next_refused, clear, clear_refused, take_sent, take_refused, fetch}
use Rattle.messages.specs.Promise.{Promise}
use Rattle.messages.proofs.Sends.{Chain}
use Rattle.messages.proofs.SenderRuns.{SenderOk, start_ok, load_ok, next_ok, clear_ok, same_ok}
use Rattle.messages.proofs.Takes.{CollectorOk, Meets, any_found, taken_ok, refused_same, gives_back}

abbrev Latest : List Took → Type 0
Latest [] = Unit {0}
Latest (t ∷ ts) = (x : Took) → In x (t ∷ ts) → x.what.number ≤ t.what.number

pub record Good (d : ℕ) (s : SenderState) (c : CollectorState) (h : History) : Type 0 where
  pub sender : SenderOk d s h.loads h.message h.sends h.sent
  pub of_sent : (t : Took) → In t h.taken → In t.what h.sent
  pub latest : Latest h.taken
  pub collector : CollectorOk d c h.taken

module _ (d : ℕ) (sent : List Sent) (f : Sent) (ch : Chain d sent) where
  meets : (taken : List Took) → ((t : Took) → In t taken → In t.what sent) → Latest taken → Due sent taken f → Meets taken f
  meets [] sub late due = tt
  meets (t ∷ ts) sub late due =
      ⊎_elim
      (λ l. inr (
        ch.apart f t.what due.was_sent (sub t (inl refl)) l
            (λ g i a b. let x = any_found _ (t ∷ ts) (due.none_missed t g (inl refl) i a b) in omega (arith, late x.0 x.1, x.2)),
        λ x i. omega (arith, late x i),
      ))
      (λ q. let e = ch.alike t.what f (sub t (inl refl)) due.was_sent q.0 in inl (q.0, e.0, e.1))
      (due.later t (inl refl))

  latest_after : (taken : List Took) (t : Took) → t.what ≡ f → Due sent taken f → (x : Took) → In x (t ∷ taken) → x.what.number ≤ t.what.number
  latest_after taken t e due x (inl q) = omega (arith, ap (λ y. y.what.number) q)
  latest_after taken t e due x (inr i) =
      ⊎_elim (λ l. omega (arith, ap (λ y. y.number) e)) (λ q. omega (arith, q.0, ap (λ y. y.number) e)) (due.later x i)

-- what next answers is the packet that comes next
packet_read : (p : Content) (xs ys : List ℕ) (r : NextPacket) → Carries p xs ys r → content_of r.header (take r.length ys) ≡ p
packet_read p xs ys r q =
    let e : take r.length ys ≡ p.bytes = ap (take r.length) q.2 ∙ take_at p.bytes (drop r.length xs) r.length (sym q.1) in
    ap (content_of r.header) e ∙ q.0

-- that answer, and the bytes that it leaves where there were none
abbrev carrying : Content → NextPacket
carrying p = record { header = record { toggle = p.toggle; last = p.last; id = p.id }; length = length p.bytes }

abbrev behind : Content → List ℕ
behind p = p.bytes ++ drop (length p.bytes) []

-- a history goes on by the packet that comes next
pub next_run : {s₀ : SenderState} {c₀ : CollectorState} {s : SenderState} {c : CollectorState} {h : History} → Run s₀ c₀ s c h → is_loaded s.progress ≡ true → Run s₀ c₀ (advanced s) c (after_next h (next_packet s))
next_run {s₀} {c₀} {s} {c} {h} run loads =
    let p = next_packet s in
    subst (λ x. Run s₀ c₀ (advanced s) c (after_next h x)) (packet_read p [] (behind p) (carrying p) (refl, refl, refl))
    (next run [] (behind p) (advanced s) (carrying p) (loads, (refl, refl, refl), refl))

module _ (d : ℕ) (s₀ : SenderState) (c₀ : CollectorState) (some : 1 ≤ d) (begins : Good d s₀ c₀ (record { loads = 0; message = []; sends = 0; sent = []; taken = [] })) where
  pub good : {s : SenderState} {c : CollectorState} {h : History} → Run s₀ c₀ s c h → Good d s c h
  good start = begins
  good (load {s} {c} {h} run m t step) =
      let g = good run in
      record {
        sender = load_ok d h.loads h.message h.sends h.sent s t m g.sender step;
        of_sent = g.of_sent;
        latest = g.latest;
        collector = g.collector;
      }
  good (load_refused {s} {c} {h} run m t e step) =
      let g = good run in
      record {
        sender = same_ok d h.loads h.message h.sends h.sent s t g.sender step.1;
        of_sent = g.of_sent;
        latest = g.latest;
        collector = g.collector;
      }
  good (next {s} {c} {h} run xs ys t r step) =
      let g = good run in
      record {
        sender =
            next_ok d h.loads h.message h.sends h.sent s t (content_of r.header (take r.length ys)) g.sender step.0
            (packet_read (next_packet s) xs ys r step.1) step.2;
        of_sent = λ x i. inr (g.of_sent x i);
        latest = g.latest;
        collector = g.collector;
      }
  good (next_refused {s} {c} {h} run xs ys t e step) =
      let g = good run in
      record {
        sender = same_ok d h.loads h.message h.sends h.sent s t g.sender step.2;
        of_sent = g.of_sent;
        latest = g.latest;
        collector = g.collector;
      }
  good (clear {s} {c} {h} run t step) =
      let g = good run in
      record {
        sender = clear_ok d h.loads h.message h.sends h.sent s t g.sender step.1;
        of_sent = g.of_sent;
        latest = g.latest;
        collector = g.collector;
      }
  good (clear_refused {s} {c} {h} run t e step) =
      let g = good run in
      record {
        sender = same_ok d h.loads h.message h.sends h.sent s t g.sender step.2;
        of_sent = g.of_sent;
        latest = g.latest;
        collector = g.collector;
      }
  good (take_sent {s} {c} {h} run f due u answer step) =
      let g = good run in
      let ch = g.sender.chain in
      record {
        sender = g.sender;
        of_sent = λ x. ⊎_elim (λ e. subst (λ y. In y.what h.sent) e due.was_sent) (g.of_sent x);
        latest = latest_after d h.sent f ch h.taken _ refl due;
        collector =
            (taken_ok d c u h.taken f answer some g.collector (ch.proper f due.was_sent)
            (meets d h.sent f ch h.taken g.of_sent g.latest due) step).1;
      }
  good (take_refused {s} {c} {h} run p u e step) =
      let g = good run in
      record {
        sender = g.sender;
        of_sent = g.of_sent;
        latest = g.latest;
        collector = subst (λ x. CollectorOk d x h.taken) (sym (refused_same c u p e step)) g.collector;
      }
  good (fetch run xs ys answer step) = good run

  pub promised : Promise d s₀ c₀
  promised s c h run =
      let g = good run in
      let ch = g.sender.chain in (
        λ f i. let e = (ch.proper f i).packet_is in (ap (λ x. x.id) e, ap (λ x. x.bytes) e),
        λ f due u answer step. (taken_ok d c u h.taken f answer some g.collector (ch.proper f due.was_sent) (meets d h.sent f ch h.taken g.of_sent g.latest due) step).0,
        gives_back d c some h.taken g.collector,
      )

pub start_good : (d : ℕ) (s : SenderState) (c : CollectorState) → s.piece_length ≡ d → s.progress ≡ Idle → c.piece_length ≡ d → c.phase ≡ Empty → length c.bytes ≡ 16384 → Good d s c (record { loads = 0; message = []; sends = 0; sent = []; taken = [] })
start_good d s c e f g k l = record {
  sender = start_ok d s e f;
  of_sent = λ t i. absurd i;
  latest = tt;
  collector = record { length_is = g; holding = (k, l); stands = λ n m z. absurd z };
}

-- the promise on a new sender and a new collector
pub pair_promised : (n : ℕ) (s : SenderState) (c : CollectorState) → s ≡ new_sender n → c ≡ new_collector n → Promise (piece_length_of n) s c
pair_promised n s c e f =
    promised (piece_length_of n) s c (omega arith)
    (start_good (piece_length_of n) s c
    (ap (λ x. x.piece_length) e)
    (ap (λ x. x.progress) e)
    (ap (λ x. x.piece_length) f)
    (ap (λ x. x.phase) f)
    (ap (λ x. length x.bytes) f ∙ length-replicate {A = ℕ} 16384 0))
