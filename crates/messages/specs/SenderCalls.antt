-- The sender's progress: what load, next and clear do.
use Rattle.std.specs.Prelude.{◌≡◌, ℕ, ◌+◌, ◌%◌, Bool, true, false, cond, not, List, [], ◌++◌, length, drop, Some, None, Ok, Err, Option, Result, ◌==◌, nat_lt}
use Rattle.refusals.specs.declared.Refusal.{Refusal}
use Rattle.refusals.specs.declared.Refusal.TheVariants.{MessageLoaded, MessageLength, TooManyPieces, NothingLoaded}
use Rattle.messages.specs.declared.content.NextPacket.{NextPacket}
use Rattle.messages.specs.declared.states.Progress.{Progress}
use Rattle.messages.specs.declared.states.Progress.TheVariants.{Idle, Waiting, Sending}
use Rattle.messages.specs.Pieces.{piece_length_of, piece_count}
use Rattle.packets.specs.Packets.{Content, content_of}
use Rattle.messages.specs.Packets.{packet_of}

-- the bytes of data in a packet, the toggle of the message sent last (1 before the first), how far the loaded message is, its bytes
pub record SenderState : Type 0 where
  pub piece_length : ℕ
  pub toggle : Bool
  pub progress : Progress
  pub message : List ℕ

-- nothing is loaded or was sent
abbrev pub new_sender : ℕ → SenderState
new_sender n = record { piece_length = piece_length_of n; toggle = true; progress = Idle; message = [] }

-- how many pieces the message has at least
abbrev pub reached : Progress → ℕ
reached Idle = 0
reached Waiting = 1
reached (Sending i) = i + 1

-- the first refusal that holds of loading n bytes
abbrev pub load_refusal : Progress → ℕ → ℕ → Option Refusal
load_refusal Waiting d n = Some MessageLoaded
load_refusal (Sending i) d n = Some MessageLoaded
load_refusal Idle d n =
    cond (n == 0) (Some MessageLength) (cond (nat_lt 16384 n) (Some MessageLength) (cond (nat_lt 1024 (piece_count d n)) (Some TooManyPieces) None))

-- load copies the message, which waits for its first packet; the toggle stays
abbrev pub loaded : SenderState → List ℕ → SenderState
loaded s message = record { piece_length = s.piece_length; toggle = s.toggle; progress = Waiting; message = message }

-- load: the message is copied, or it is refused and everything is as it was
abbrev pub Loading : (before after : SenderState) → List ℕ → Result (Unit {0}) Refusal → Type 0
Loading s t message (Ok _) =
    (load_refusal s.progress s.piece_length (length message) ≡ None) × (t ≡ loaded s message)
Loading s t message (Err e) =
    (load_refusal s.progress s.piece_length (length message) ≡ Some e) × (t ≡ s)

-- a message is loaded
abbrev pub is_loaded : Progress → Bool
is_loaded Idle = false
is_loaded Waiting = true
is_loaded (Sending i) = true

-- piece 0 comes first
abbrev pub next_piece : Progress → ℕ
next_piece Idle = 0
next_piece Waiting = 0
next_piece (Sending i) = i

-- the first packet of a message flips the toggle
abbrev pub next_toggle : Progress → Bool → Bool
next_toggle Idle t = t
next_toggle Waiting t = not t
next_toggle (Sending i) t = t

-- the packet that comes next
abbrev pub next_packet : SenderState → Content
next_packet s = packet_of s.piece_length s.message (next_toggle s.progress s.toggle) (next_piece s.progress)

-- after the last piece comes piece 0 again
abbrev pub advanced : SenderState → SenderState
advanced s = record {
  piece_length = s.piece_length;
  toggle = next_toggle s.progress s.toggle;
  progress = Sending ((next_piece s.progress + 1) % piece_count s.piece_length (length s.message));
  message = s.message;
}

-- the answer and the front of the caller's bytes are the packet; the bytes behind it stay
abbrev pub Carries : Content → (before after : List ℕ) → NextPacket → Type 0
Carries p xs ys r = (content_of r.header p.bytes ≡ p) × (r.length ≡ length p.bytes) × (ys ≡ p.bytes ++ drop r.length xs)

-- next: the packet that comes next; refused where nothing is loaded, and everything is as it was
abbrev pub Nexting : (before after : SenderState) (bytes bytes_after : List ℕ) → Result NextPacket Refusal → Type 0
Nexting s t xs ys (Ok r) = (is_loaded s.progress ≡ true) × Carries (next_packet s) xs ys r × (t ≡ advanced s)
Nexting s t xs ys (Err e) = (is_loaded s.progress ≡ false) × (e ≡ NothingLoaded) × (t ≡ s) × (ys ≡ xs)

-- clear drops the message; the toggle stays
abbrev pub cleared : SenderState → SenderState
cleared s = record { piece_length = s.piece_length; toggle = s.toggle; progress = Idle; message = [] }

-- clear: refused where nothing is loaded, and everything is as it was
abbrev pub Clearing : (before after : SenderState) → Result (Unit {0}) Refusal → Type 0
Clearing s t (Ok _) = (is_loaded s.progress ≡ true) × (t ≡ cleared s)
Clearing s t (Err e) = (is_loaded s.progress ≡ false) × (e ≡ NothingLoaded) × (t ≡ s)
