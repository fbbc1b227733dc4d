-- The promise on runs of packets.
use Rattle.std.specs.Prelude.{◌≡◌, ℕ, ◌%◌, ◌<◌, ◌≤◌, true, ◌⊎◌, List, [], ◌∷◌, ◌++◌, length, drop, is_ok, Ok, Result}
use Rattle.refusals.specs.declared.Refusal.{Refusal}
use Rattle.messages.specs.declared.content.Placing.{Placing}
use Rattle.messages.specs.declared.content.Placing.TheVariants.{Complete}
use Rattle.messages.specs.Pieces.{piece_count, piece}
use Rattle.messages.specs.SenderCalls.{SenderState}
use Rattle.messages.specs.CollectorCalls.{CollectorState, Taking, Fetching}
use Rattle.messages.specs.Histories.{Sent, Took, History, Any, In, Due, Run}

-- the piece that a sent packet brings: its place modulo the number of pieces
abbrev pub brings : ℕ → Sent → ℕ
brings d f = f.place % piece_count d (length f.message)

-- a taken packet brought piece i of the message with this number; else the piece is outstanding
abbrev pub Brought : ℕ → List Took → ℕ → ℕ → Type 0
Brought d taken number i = Any (λ t. (t.what.number ≡ number) × (brings d t.what ≡ i)) taken

-- the packet brings the last outstanding piece of its message
pub record LastOutstanding (d : ℕ) (taken : List Took) (f : Sent) : Type 0 where
  pub outstanding : Brought d taken f.number (brings d f) → ⊥
  pub others : (i : ℕ) → i < piece_count d (length f.message) → (brings d f ≡ i) ⊎ Brought d taken f.number i

-- a packet of the message was answered complete, and none of another message was taken since
abbrev pub StandsComplete : ℕ → List ℕ → List Took → Type 0
StandsComplete number message [] = ⊥
StandsComplete number message (t ∷ ts) =
    (t.what.number ≡ number) × (t.what.message ≡ message) × ((t.answer ≡ Ok Complete) ⊎ StandsComplete number message ts)

-- the data of each sent packet is the piece that it brings
abbrev pub SendsPieces : ℕ → List Sent → Type 0
SendsPieces d sent =
    (f : Sent) → In f sent → (f.packet.id ≡ brings d f) × (f.packet.bytes ≡ piece d f.message (brings d f))

-- take refuses no packet that may be taken, and answers complete exactly with the last outstanding piece
pub record Told (d : ℕ) (taken : List Took) (f : Sent) (answer : Result Placing Refusal) : Type 0 where
  pub accepted : is_ok answer ≡ true
  pub only_last : answer ≡ Ok Complete → LastOutstanding d taken f
  pub last_is : LastOutstanding d taken f → answer ≡ Ok Complete

-- that, of every packet that may be taken
abbrev pub TellsComplete : ℕ → CollectorState → History → Type 0
TellsComplete d c h =
    (f : Sent) → Due h.sent h.taken f → (u : CollectorState) (answer : Result Placing Refusal) → Taking c u f.packet answer → Told d h.taken f answer

-- fetch into enough space gives the loaded bytes and leaves those behind alone
abbrev pub GivesBack : CollectorState → History → Type 0
GivesBack c h =
    (number : ℕ) (message : List ℕ) → StandsComplete number message h.taken
    → (bytes bytes_after : List ℕ) (answer : Result ℕ Refusal) → Fetching c bytes bytes_after answer → length message ≤ length bytes
    → (answer ≡ Ok (length message)) × (bytes_after ≡ message ++ drop (length message) bytes)

-- over every history of this sender and this collector
abbrev pub Promise : ℕ → SenderState → CollectorState → Type 0
Promise d s₀ c₀ =
    (s : SenderState) (c : CollectorState) (h : History) → Run s₀ c₀ s c h
    → SendsPieces d h.sent × TellsComplete d c h × GivesBack c h

-- there is such a history: a message in two pieces that is reported complete
pub record Shown (d : ℕ) (s₀ : SenderState) (c₀ : CollectorState) : Type 0 where
  pub s : SenderState
  pub c : CollectorState
  pub h : History
  pub run : Run s₀ c₀ s c h
  pub t : Took
  pub was_taken : In t h.taken
  pub two_pieces : piece_count d (length t.what.message) ≡ 2
  pub is_complete : t.answer ≡ Ok Complete
