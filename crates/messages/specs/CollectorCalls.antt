-- The collector: what take and fetch do.
use Rattle.std.specs.Prelude.{◌≡◌, ℕ, ◌+◌, ◌*◌, Bool, true, false, cond, not, ◌&&◌, ◌||◌, List, ◌++◌, length, take, drop, replicate, Some, None, Ok, Err, Option, Result, ◌==◌, nat_le, nat_lt, slice_index_or, slice_set}
use Rattle.std.specs.List.{list_all, list_any}
use Rattle.refusals.specs.declared.Refusal.{Refusal}
use Rattle.refusals.specs.declared.Refusal.TheVariants.{Misplaced, NothingComplete, FewBytes}
use Rattle.messages.specs.declared.content.Placing.{Placing}
use Rattle.messages.specs.declared.content.Placing.TheVariants.{Placed, Complete, Had, Repeat}
use Rattle.messages.specs.declared.states.Phase.{Phase}
use Rattle.messages.specs.declared.states.Phase.TheVariants.{Empty, Collecting, Complete as IsComplete}
use Rattle.messages.specs.Pieces.{piece_length_of}
use Rattle.packets.specs.Packets.{Content}

-- bytes of data in a packet; empty, collecting or complete; the toggle of the message, which ids are there, the last one's id and the
-- message's length once they are known, and the bytes, each piece at its place
pub record CollectorState : Type 0 where
  pub piece_length : ℕ
  pub phase : Phase
  pub toggle : Bool
  pub there : List Bool
  pub last : Option ℕ
  pub total : ℕ
  pub bytes : List ℕ

-- no id is there, of 1,024
abbrev pub none_there : List Bool
none_there = replicate 1024 false

-- empty, with room for 16,384 bytes
abbrev pub new_collector : ℕ → CollectorState
new_collector n = record {
  piece_length = piece_length_of n;
  phase = Empty;
  toggle = false;
  there = none_there;
  last = None;
  total = 0;
  bytes = replicate 16384 0;
}

-- every flag is set
abbrev pub all_true : List Bool → Bool
all_true = list_all (λ b. b)

-- some flag is set
abbrev pub any_true : List Bool → Bool
any_true = list_any (λ b. b)

-- the last piece is known and none is missing
abbrev pub none_missing : List Bool → Option ℕ → Bool
none_missing there None = false
none_missing there (Some l) = all_true (take (l + 1) there)

-- the id lies behind the last piece that is known
abbrev pub behind : Option ℕ → ℕ → Bool
behind None id = false
behind (Some l) id = nat_lt l id

-- a piece has d bytes, and the last one 1 to d
abbrev pub wrong_length : ℕ → Bool → ℕ → Bool
wrong_length d last n = cond last (n == 0 || nat_lt d n) (not (n == d))

-- the packet does not fit where these ids are there and this last piece is known: its length is wrong, there is no such id, its data
-- would pass 16,384 bytes, it lies behind the last piece, or it is the last piece and lies before an id that is there
abbrev pub misplaced : ℕ → List Bool → Option ℕ → Content → Bool
misplaced d there last p =
    wrong_length d p.last (length p.bytes)
    || (nat_le 1024 p.id
    || (nat_lt 16384 (p.id * d + length p.bytes) || (behind last p.id || (p.last && any_true (drop (p.id + 1) there)))))

-- the bytes xs with ys at the place a
abbrev pub written : List ℕ → ℕ → List ℕ → List ℕ
written xs a ys = take a xs ++ (ys ++ drop (length ys) (drop a xs))

-- a new message: no id is there and no last piece known
abbrev pub begun : CollectorState → Bool → CollectorState
begun c toggle = record {
  piece_length = c.piece_length;
  phase = Collecting;
  toggle = toggle;
  there = none_there;
  last = None;
  total = 0;
  bytes = c.bytes;
}

-- the last piece that is known after the packet
abbrev pub last_with : Option ℕ → Content → Option ℕ
last_with last p = cond p.last (Some p.id) last

-- whether the packet brings the last outstanding piece
abbrev pub completes : CollectorState → Content → Bool
completes c p = none_missing (slice_set c.there p.id true) (last_with c.last p)

-- the packet's data at its place
abbrev pub placed : CollectorState → Content → CollectorState
placed c p = record {
  piece_length = c.piece_length;
  phase = cond (completes c p) IsComplete Collecting;
  toggle = c.toggle;
  there = slice_set c.there p.id true;
  last = last_with c.last p;
  total = cond p.last (p.id * c.piece_length + length p.bytes) c.total;
  bytes = written c.bytes (p.id * c.piece_length) p.bytes;
}

-- what a packet is to the collector: the first of a new message, one more of its own, one of a piece that is there, or a repetition of a
-- message that is complete
pub data Standing : Type 0 where
  new : Standing
  more : Standing
  had : Standing
  again : Standing

-- the rule: the collector's phase, whether the packet has its toggle, and whether the packet's id is there
abbrev pub standing : Phase → Bool → Bool → Standing
standing Empty same id = new
standing Collecting false id = new
standing Collecting true false = more
standing Collecting true true = had
standing IsComplete false id = new
standing IsComplete true id = again

-- the toggles are alike
abbrev pub same : Bool → Bool → Bool
same true true = true
same true false = false
same false true = false
same false false = true

-- a packet that the collector c, as it was or begun anew, is to place: misplaced or not. A refusal leaves everything as it was
abbrev pub Placed-in : Bool → (c before after : CollectorState) → Content → Result Placing Refusal → Type 0
Placed-in true c s t p r = (r ≡ Err Misplaced) × (t ≡ s)
Placed-in false c s t p r = (r ≡ Ok (cond (completes c p) Complete Placed)) × (t ≡ placed c p)

-- the same, judged by what c has
abbrev pub Placing-in : (c before after : CollectorState) → Content → Result Placing Refusal → Type 0
Placing-in c s t p r = Placed-in (misplaced c.piece_length c.there c.last p) c s t p r

-- the four cases of the rule
abbrev pub Taken-as : Standing → (before after : CollectorState) → Content → Result Placing Refusal → Type 0
Taken-as new s t p r = Placing-in (begun s p.toggle) s t p r
Taken-as more s t p r = Placing-in s s t p r
Taken-as had s t p r = (r ≡ Ok Had) × (t ≡ s)
Taken-as again s t p r = (r ≡ Ok Repeat) × (t ≡ s)

-- take
abbrev pub Taking : (before after : CollectorState) → Content → Result Placing Refusal → Type 0
Taking s t p r = Taken-as (standing s.phase (same p.toggle s.toggle) (slice_index_or s.there p.id false)) s t p r

-- the first refusal that holds of fetching a message into n bytes
abbrev pub fetch_refusal : Phase → (total n : ℕ) → Option Refusal
fetch_refusal Empty total n = Some NothingComplete
fetch_refusal Collecting total n = Some NothingComplete
fetch_refusal IsComplete total n = cond (nat_lt n total) (Some FewBytes) None

-- fetch: the message goes to the front of the caller's bytes; those behind it stay
abbrev pub Fetching : CollectorState → (bytes bytes_after : List ℕ) → Result ℕ Refusal → Type 0
Fetching s xs ys (Ok n) =
    (fetch_refusal s.phase s.total (length xs) ≡ None) × (n ≡ s.total) × (ys ≡ take n s.bytes ++ drop n xs)
Fetching s xs ys (Err e) = (fetch_refusal s.phase s.total (length xs) ≡ Some e) × (ys ≡ xs)
