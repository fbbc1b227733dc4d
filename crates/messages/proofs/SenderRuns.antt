-- The sender along a history: each call keeps what is known of its state and of what was sent.
use Rattle.std.proofs.Common.{◌≡◌, ℕ, ◌+◌, ◌%◌, ◌<◌, ◌≤◌, Bool, true, false, cond, not, eqb, ltb, ◌≢◌, List, [], ◌∷◌, length, Some, None, Ok, sym, refl, ap, ◌∙◌, subst, inl, inr, arith}
use native.Mathlib.Nat.{mod-add-mod, zero-mod}
use Rattle.std.proofs.lemmas.Bool.{eqb-false, ltb-false}
use Rattle.refusals.specs.declared.Refusal.{Refusal}
use Rattle.refusals.specs.declared.Refusal.TheVariants.{MessageLength, TooManyPieces}
use Rattle.messages.specs.declared.states.Progress.{Progress}
use Rattle.messages.specs.declared.states.Progress.TheVariants.{Idle, Waiting, Sending}
use Rattle.messages.specs.Pieces.{piece_count}
use Rattle.packets.specs.Packets.{Content}
use Rattle.messages.specs.Packets.{packet_of}
use Rattle.messages.specs.SenderCalls.{SenderState, Loading, load_refusal, is_loaded, next_packet, advanced, cleared}
use Rattle.messages.specs.Histories.{Sent, In}
use Rattle.messages.proofs.Sends.{Sendable, Proper, Chain, Newest, chain_first, newest_first, chain_more, newest_more}

-- the packet sent last is one of this message
abbrev pub Heads : ℕ → List ℕ → List Sent → Type 0
Heads loads message [] = ⊥
Heads loads message (g ∷ gs) = (g.number ≡ loads) × (g.message ≡ message)

-- how far the newest message is
abbrev pub At : ℕ → Progress → List ℕ → ℕ → List ℕ → ℕ → List Sent → Type 0
At d Idle own loads message sends sent = Unit {0}
At d Waiting own loads message sends sent =
    Sendable d message × (own ≡ message) × (sends ≡ 0) × ((x : Sent) → In x sent → x.number < loads)
At d (Sending i) own loads message sends sent =
    Sendable d message × (own ≡ message) × (i ≡ sends % piece_count d (length message)) × Heads loads message sent

pub record SenderOk (d : ℕ) (s : SenderState) (loads : ℕ) (message : List ℕ) (sends : ℕ) (sent : List Sent) : Type 0 where
  pub length_is : s.piece_length ≡ d
  pub chain : Chain d sent
  pub newest : Newest s.toggle sent
  pub numbers : (x : Sent) → In x sent → x.number ≤ loads
  pub at : At d s.progress s.message loads message sends sent

pub start_ok : (d : ℕ) (s : SenderState) → s.piece_length ≡ d → s.progress ≡ Idle → SenderOk d s 0 [] 0 []
start_ok d s e f = record {
  length_is = e;
  chain = record { proper = λ f i. absurd i; alike = λ f t i. absurd i; apart = λ f t i. absurd i };
  newest = tt;
  numbers = λ x i. absurd i;
  at = subst (λ p. At d p s.message 0 [] 0 []) (sym f) tt;
}

passed : (a b c : Bool) (x y z : Refusal) → cond a (Some x) (cond b (Some y) (cond c (Some z) None)) ≡ None → (a ≡ false) × (b ≡ false) × (c ≡ false)
passed true b c x y z e = cc
passed false true c x y z e = cc
passed false false true x y z e = cc
passed false false false x y z e = (refl, refl, refl)

sendable_since : (p : Progress) (d : ℕ) (m : List ℕ) → load_refusal p d (length m) ≡ None → Sendable d m
sendable_since Waiting d m e = cc
sendable_since (Sending i) d m e = cc
sendable_since Idle d m e =
    let t = passed (eqb (length m) 0) (ltb 16384 (length m)) (ltb 1024 (piece_count d (length m))) MessageLength MessageLength TooManyPieces e in
    let some : length m ≢ 0 = eqb-false (length m) 0 t.0 in
    record { some = omega arith; room = ltb-false 16384 (length m) t.1; few = ltb-false 1024 (piece_count d (length m)) t.2 }

module _ (d : ℕ) (loads : ℕ) (message : List ℕ) (sends : ℕ) (sent : List Sent) where
  pub load_ok : (s t : SenderState) (m : List ℕ) → SenderOk d s loads message sends sent → Loading s t m (Ok tt) → SenderOk d t (loads + 1) m 0 sent
  load_ok s t m ok step =
      subst (λ x. SenderOk d x (loads + 1) m 0 sent) (sym step.1) (record {
        length_is = ok.length_is;
        chain = ok.chain;
        newest = ok.newest;
        numbers = λ x i. omega (arith, ok.numbers x i);
        at = (subst (λ l. Sendable l m) ok.length_is (sendable_since s.progress s.piece_length m step.0), refl, refl, λ x i. omega (arith, ok.numbers x i));
      })

  pub clear_ok : (s t : SenderState) → SenderOk d s loads message sends sent → t ≡ cleared s → SenderOk d t loads message sends sent
  clear_ok s t ok e =
      subst (λ x. SenderOk d x loads message sends sent) (sym e) (record {
        length_is = ok.length_is;
        chain = ok.chain;
        newest = ok.newest;
        numbers = ok.numbers;
        at = tt;
      })

  pub same_ok : (s t : SenderState) → SenderOk d s loads message sends sent → t ≡ s → SenderOk d t loads message sends sent
  same_ok s t ok e = subst (λ x. SenderOk d x loads message sends sent) (sym e) ok

abbrev pub sent_as : ℕ → ℕ → List ℕ → Content → Sent
sent_as loads sends message packet = record { number = loads; place = sends; message = message; packet = packet }

module _ (d loads : ℕ) (message : List ℕ) (sends l : ℕ) (toggle : Bool) (own : List ℕ) (packet : Content) (is-length : l ≡ d) where
  abbrev f : Sent
  f = sent_as loads sends message packet

  abbrev state : Progress → SenderState
  state p = record { piece_length = l; toggle = toggle; progress = p; message = own }

  proper : (i : ℕ) (t : Bool) → Sendable d message → own ≡ message → i ≡ sends % piece_count d (length message) → packet ≡ packet_of l own t i → Proper d f
  proper i t can is-own is_piece e =
      let is-toggle : packet.toggle ≡ t = ap (λ x. x.toggle) e in
      record {
        sendable = can;
        packet_is = e
            ∙ ap (λ x. packet_of x own t i) is-length
            ∙ ap (λ x. packet_of d x t i) is-own
            ∙ ap (λ x. packet_of d message x i) (sym is-toggle)
            ∙ ap (λ x. packet_of d message packet.toggle x) is_piece;
      }

  step : (i : ℕ) → own ≡ message → i ≡ sends % piece_count d (length message) → (i + 1) % piece_count l (length own) ≡ (sends + 1) % piece_count d (length message)
  step i is-own is_piece =
      let c = piece_count d (length message) in
      ap (λ x. (i + 1) % piece_count x (length own)) is-length
      ∙ ap (λ x. (i + 1) % piece_count d (length x)) is-own
      ∙ ap (λ x. (x + 1) % c) is_piece
      ∙ mod-add-mod sends c 1

  numbered : (sent : List Sent) → ((x : Sent) → In x sent → x.number ≤ loads) → (x : Sent) → In x (f ∷ sent) → x.number ≤ loads
  numbered sent num x (inl e) = omega (arith, ap (λ y. y.number) e)
  numbered sent num x (inr i) = num x i

  go : (p : Progress) (sent : List Sent) → Chain d sent → Newest toggle sent → ((x : Sent) → In x sent → x.number ≤ loads) → At d p own loads message sends sent → is_loaded p ≡ true → packet ≡ next_packet (state p) → SenderOk d (advanced (state p)) loads message (sends + 1) (f ∷ sent)
  go Idle sent ch new num at is e = cc
  go Waiting sent ch new num at is e =
      let c = piece_count d (length message) in
      let first : ◌≡◌ {A = ℕ} 0 (sends % c) = sym (ap (λ x. x % c) at.2 ∙ zero-mod c) in
      let ok = proper 0 (not toggle) at.0 at.1 first e in
      let flips : packet.toggle ≡ not toggle = ap (λ x. x.toggle) e in
      record {
        length_is = is-length;
        chain = chain_first d toggle f ok flips sent ch at.3 new;
        newest = newest_first d toggle f ok flips sent ch at.3;
        numbers = numbered sent num;
        at = (at.0, at.1, step 0 at.1 first, (refl, refl));
      }
  go (Sending i) [] ch new num at is e = absurd at.3
  go (Sending i) (g ∷ gs) ch new num at is e =
      let ok = proper i toggle at.0 at.1 at.2 e in
      let like : packet.toggle ≡ g.packet.toggle = ap (λ x. x.toggle) e ∙ sym new.0 in
      record {
        length_is = is-length;
        chain = chain_more d f g gs ok ch (sym at.3.0) (sym at.3.1) like;
        newest = newest_more d f g gs ok ch (sym at.3.0) (sym at.3.1) like toggle new;
        numbers = numbered (g ∷ gs) num;
        at = (at.0, at.1, step i at.1 at.2, (refl, refl));
      }

pub next_ok : (d loads : ℕ) (message : List ℕ) (sends : ℕ) (sent : List Sent) (s t : SenderState) (packet : Content) → SenderOk d s loads message sends sent → is_loaded s.progress ≡ true → packet ≡ next_packet s → t ≡ advanced s → SenderOk d t loads message (sends + 1) (sent_as loads sends message packet ∷ sent)
next_ok d loads message sends sent s t packet ok is e e' =
    subst (λ x. SenderOk d x loads message (sends + 1) (sent_as loads sends message packet ∷ sent)) (sym e')
    (go d loads message sends s.piece_length s.toggle s.message packet ok.length_is s.progress sent ok.chain ok.newest ok.numbers ok.at is e)
