-- Histories of one sender and one collector: what was loaded, sent and taken, whatever calls were made in whatever order.
use Rattle.std.specs.Prelude.{◌≡◌, ℕ, ◌+◌, ◌<◌, ◌⊎◌, List, [], ◌∷◌, take, Ok, Err, Result}
use Rattle.refusals.specs.declared.Refusal.{Refusal}
use Rattle.messages.specs.declared.content.NextPacket.{NextPacket}
use Rattle.messages.specs.declared.content.Placing.{Placing}
use Rattle.packets.specs.Packets.{Content, content_of}
use Rattle.messages.specs.SenderCalls.{SenderState, Loading, Nexting, Clearing}
use Rattle.messages.specs.CollectorCalls.{CollectorState, Taking, Fetching}

-- a sent packet: its message, known by the number of loads and by its bytes, and its place in that message's sending order, from 0
pub record Sent : Type 0 where
  pub number : ℕ
  pub place : ℕ
  pub message : List ℕ
  pub packet : Content

-- a sent packet that was taken, and what take answered
pub record Took : Type 0 where
  pub what : Sent
  pub answer : Result Placing Refusal

-- how many messages were loaded, the newest one's bytes and how many packets of it were sent; all sent and taken packets, newest first
pub record History : Type 0 where
  pub loads : ℕ
  pub message : List ℕ
  pub sends : ℕ
  pub sent : List Sent
  pub taken : List Took

-- before the first call
abbrev pub nothing : History
nothing = record { loads = 0; message = []; sends = 0; sent = []; taken = [] }

-- one more message
abbrev pub after_load : History → List ℕ → History
after_load h message = record { loads = h.loads + 1; message = message; sends = 0; sent = h.sent; taken = h.taken }

-- one more packet of the newest message
abbrev pub after_next : History → Content → History
after_next h packet = record {
  loads = h.loads;
  message = h.message;
  sends = h.sends + 1;
  sent = record { number = h.loads; place = h.sends; message = h.message; packet = packet } ∷ h.sent;
  taken = h.taken;
}

-- one more taken packet
abbrev pub after_take : History → Sent → Result Placing Refusal → History
after_take h f answer = record {
  loads = h.loads;
  message = h.message;
  sends = h.sends;
  sent = h.sent;
  taken = record { what = f; answer = answer } ∷ h.taken;
}

-- P holds of one of them
abbrev pub Any : {X : Type 0} → (X → Type 0) → List X → Type 0
Any P [] = ⊥
Any P (x ∷ xs) = P x ⊎ Any P xs

-- x is one of them
abbrev pub In : {X : Type 0} → X → List X → Type 0
In x xs = Any (λ y. y ≡ x) xs

-- sending order
abbrev pub Before : Sent → Sent → Type 0
Before f g = (f.number < g.number) ⊎ ((f.number ≡ g.number) × (f.place < g.place))

-- a packet that may be taken next: it was sent; it comes later than all that were taken; and a message with sent packets between a
-- message that has taken ones and its own has taken ones too
pub record Due (sent : List Sent) (taken : List Took) (f : Sent) : Type 0 where
  pub was_sent : In f sent
  pub later : (t : Took) → In t taken → Before t.what f
  pub none_missed : (t : Took) (g : Sent) → In t taken → In g sent → t.what.number < g.number → g.number < f.number → Any (λ u. u.what.number ≡ g.number) taken

-- every history from a sender and a collector: its steps are the calls, refused or not, by the definitions that their contracts cite
pub data Run (s₀ : SenderState) (c₀ : CollectorState) : SenderState → CollectorState → History → Type 0 where
  start : Run s₀ c₀ s₀ c₀ nothing
  load : {s : SenderState} {c : CollectorState} {h : History} → Run s₀ c₀ s c h → (message : List ℕ) (t : SenderState) → Loading s t message (Ok tt) → Run s₀ c₀ t c (after_load h message)
  load_refused : {s : SenderState} {c : CollectorState} {h : History} → Run s₀ c₀ s c h → (message : List ℕ) (t : SenderState) (e : Refusal) → Loading s t message (Err e) → Run s₀ c₀ t c h
  next : {s : SenderState} {c : CollectorState} {h : History} → Run s₀ c₀ s c h → (bytes bytes_after : List ℕ) (t : SenderState) (answer : NextPacket) → Nexting s t bytes bytes_after (Ok answer) → Run s₀ c₀ t c (after_next h (content_of answer.header (take answer.length bytes_after)))
  next_refused : {s : SenderState} {c : CollectorState} {h : History} → Run s₀ c₀ s c h → (bytes bytes_after : List ℕ) (t : SenderState) (e : Refusal) → Nexting s t bytes bytes_after (Err e) → Run s₀ c₀ t c h
  clear : {s : SenderState} {c : CollectorState} {h : History} → Run s₀ c₀ s c h → (t : SenderState) → Clearing s t (Ok tt) → Run s₀ c₀ t c h
  clear_refused : {s : SenderState} {c : CollectorState} {h : History} → Run s₀ c₀ s c h → (t : SenderState) (e : Refusal) → Clearing s t (Err e) → Run s₀ c₀ t c h
  -- a sent packet is taken, whatever the answer
  take_sent : {s : SenderState} {c : CollectorState} {h : History} → Run s₀ c₀ s c h → (f : Sent) → Due h.sent h.taken f → (u : CollectorState) (answer : Result Placing Refusal) → Taking c u f.packet answer → Run s₀ c₀ s u (after_take h f answer)
  -- anything that is refused takes none
  take_refused : {s : SenderState} {c : CollectorState} {h : History} → Run s₀ c₀ s c h → (p : Content) (u : CollectorState) (e : Refusal) → Taking c u p (Err e) → Run s₀ c₀ s u h
  fetch : {s : SenderState} {c : CollectorState} {h : History} → Run s₀ c₀ s c h → (bytes bytes_after : List ℕ) (answer : Result ℕ Refusal) → Fetching c bytes bytes_after answer → Run s₀ c₀ s c h
