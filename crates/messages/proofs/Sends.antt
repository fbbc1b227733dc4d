-- The sender's side of a history: what the sent packets are, and how their toggles lie.
use Rattle.std.proofs.Common.{◌≡◌, ℕ, ◌<◌, ◌≤◌, Bool, not, List, [], ◌∷◌, length, sym, refl, ap, ◌∙◌, subst, inl, inr, arith}
use Rattle.std.proofs.lemmas.Bool.{cases_order}
use Rattle.messages.specs.Pieces.{piece_count}
use Rattle.messages.specs.Packets.{packet_of}
use Rattle.messages.specs.Histories.{Sent, In}
use Rattle.messages.specs.Promise.{brings}

pub record Sendable (d : ℕ) (m : List ℕ) : Type 0 where
  pub some : 0 < length m
  pub room : length m ≤ 16384
  pub few : piece_count d (length m) ≤ 1024

-- a sent packet is the packet of the piece that it brings
pub record Proper (d : ℕ) (f : Sent) : Type 0 where
  pub sendable : Sendable d f.message
  pub packet_is : f.packet ≡ packet_of d f.message f.packet.toggle (brings d f)

-- packets of a message are alike, and neighbours among the messages with sent packets have different toggles
pub record Chain (d : ℕ) (sent : List Sent) : Type 0 where
  pub proper : (f : Sent) → In f sent → Proper d f
  pub alike : (f t : Sent) → In f sent → In t sent → f.number ≡ t.number → (f.message ≡ t.message) × (f.packet.toggle ≡ t.packet.toggle)
  pub apart : (f t : Sent) → In f sent → In t sent → t.number < f.number → ((g : Sent) → In g sent → t.number < g.number → g.number < f.number → ⊥) → f.packet.toggle ≡ not t.packet.toggle

abbrev pub Newest : Bool → List Sent → Type 0
Newest toggle [] = Unit {0}
Newest toggle (g ∷ gs) = (g.packet.toggle ≡ toggle) × ((x : Sent) → In x (g ∷ gs) → x.number ≤ g.number)

-- the packet that is sent first of its message
module _ (d : ℕ) (toggle : Bool) (f : Sent) (ok : Proper d f) (flips : f.packet.toggle ≡ not toggle) where
  apart_first : (sent : List Sent) → Chain d sent → Newest toggle sent → ((x : Sent) → In x sent → x.number < f.number) → (t : Sent) → In t sent → ((g : Sent) → In g sent → t.number < g.number → g.number < f.number → ⊥) → f.packet.toggle ≡ not t.packet.toggle
  apart_first [] ch new below t it none = absurd it
  apart_first (g ∷ gs) ch new below t it none =
      let least : t.number ≤ g.number = new.1 t it in
      let bound : g.number < f.number = below g (inl refl) in
      elim (cases_order t.number g.number) [
        | inl e ↦ flips ∙ ap not (sym ((ch.alike t g it (inl refl) e).1 ∙ new.0))
        | inr o ↦ elim o [
          | inl l ↦ absurd (none g (inl refl) l bound)
          | inr l ↦ absurd (omega arith)
        ]
      ]

  proper_first : (sent : List Sent) → Chain d sent → (a : Sent) → In a (f ∷ sent) → Proper d a
  proper_first sent ch a (inl e) = subst (Proper d) e ok
  proper_first sent ch a (inr i) = ch.proper a i

  module _ (sent : List Sent) (ch : Chain d sent) (below : (x : Sent) → In x sent → x.number < f.number) where
    alike_first : (a b : Sent) → In a (f ∷ sent) → In b (f ∷ sent) → a.number ≡ b.number → (a.message ≡ b.message) × (a.packet.toggle ≡ b.packet.toggle)
    alike_first a b (inl p) (inl q) e = (ap (λ x. x.message) (sym p ∙ q), ap (λ x. x.packet.toggle) (sym p ∙ q))
    alike_first a b (inl p) (inr j) e = absurd (omega (arith, below b j, ap (λ x. x.number) p))
    alike_first a b (inr i) (inl q) e = absurd (omega (arith, below a i, ap (λ x. x.number) q))
    alike_first a b (inr i) (inr j) e = ch.alike a b i j e

    apart_all : Newest toggle sent → (a t : Sent) → In a (f ∷ sent) → In t (f ∷ sent) → t.number < a.number → ((g : Sent) → In g (f ∷ sent) → t.number < g.number → g.number < a.number → ⊥) → a.packet.toggle ≡ not t.packet.toggle
    apart_all new a t (inl p) (inl q) l none = absurd (omega (arith, ap (λ x. x.number) p, ap (λ x. x.number) q))
    apart_all new a t (inl p) (inr j) l none =
        sym (ap (λ x. x.packet.toggle) p)
        ∙ apart_first sent ch new below t j (λ g i h k. none g (inr i) h (omega (arith, ap (λ x. x.number) p)))
    apart_all new a t (inr i) (inl q) l none = absurd (omega (arith, below a i, ap (λ x. x.number) q))
    apart_all new a t (inr i) (inr j) l none = ch.apart a t i j l (λ g k. none g (inr k))

    pub chain_first : Newest toggle sent → Chain d (f ∷ sent)
    chain_first new = record { proper = proper_first sent ch; alike = alike_first; apart = apart_all new }

    newest_number : (x : Sent) → In x (f ∷ sent) → x.number ≤ f.number
    newest_number x (inl e) = omega (arith, ap (λ y. y.number) e)
    newest_number x (inr i) = omega (arith, below x i)

    pub newest_first : Newest (not toggle) (f ∷ sent)
    newest_first = (flips, newest_number)

-- one more packet of the message that was sent last
module _ (d : ℕ) (f g : Sent) (gs : List Sent) (ok : Proper d f) (ch : Chain d (g ∷ gs)) (number_is : f.number ≡ g.number) (message-is : f.message ≡ g.message) (toggle_is : f.packet.toggle ≡ g.packet.toggle) where
  abbrev Like : Sent → Type 0
  Like a = (b : Sent) × In b (g ∷ gs) × (a.number ≡ b.number) × (a.message ≡ b.message) × (a.packet.toggle ≡ b.packet.toggle)

  like : (a : Sent) → In a (f ∷ g ∷ gs) → Like a
  like a (inl e) =
      (g, inl refl, ap (λ x. x.number) (sym e) ∙ number_is, ap (λ x. x.message) (sym e) ∙ message-is, ap (λ x. x.packet.toggle) (sym e) ∙ toggle_is)
  like a (inr i) = (a, i, refl, refl, refl)

  proper_more : (a : Sent) → In a (f ∷ g ∷ gs) → Proper d a
  proper_more a (inl e) = subst (Proper d) e ok
  proper_more a (inr i) = ch.proper a i

  alike_more : (a b : Sent) → In a (f ∷ g ∷ gs) → In b (f ∷ g ∷ gs) → a.number ≡ b.number → (a.message ≡ b.message) × (a.packet.toggle ≡ b.packet.toggle)
  alike_more a b i j e =
      let p = like a i in
      let q = like b j in
      let r = ch.alike p.0 q.0 p.1 q.1 (sym p.2 ∙ e ∙ q.2) in
      (p.3 ∙ r.0 ∙ sym q.3, p.4 ∙ r.1 ∙ sym q.4)

  apart_more : (a t : Sent) → In a (f ∷ g ∷ gs) → In t (f ∷ g ∷ gs) → t.number < a.number → ((x : Sent) → In x (f ∷ g ∷ gs) → t.number < x.number → x.number < a.number → ⊥) → a.packet.toggle ≡ not t.packet.toggle
  apart_more a t i j l none =
      let p = like a i in
      let q = like t j in
      let m : q.0.number < p.0.number = omega (arith, p.2, q.2) in
      let r =
      ch.apart p.0 q.0 p.1 q.1 m (λ x k h h'. none x (inr k) (omega (arith, q.2)) (omega (arith, p.2))) in
      p.4 ∙ r ∙ ap not (sym q.4)

  pub chain_more : Chain d (f ∷ g ∷ gs)
  chain_more = record { proper = proper_more; alike = alike_more; apart = apart_more }

  pub newest_more : (toggle : Bool) → Newest toggle (g ∷ gs) → Newest toggle (f ∷ g ∷ gs)
  newest_more toggle new =
      (toggle_is ∙ new.0, λ x i. let p = like x i in omega (arith, p.2, new.1 p.0 p.1))
