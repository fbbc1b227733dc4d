-- A packet that fits is written. Assumes nothing.
use Rattle.std.proofs.Common.{◌≡◌, ℕ, List, length, take, drop, sym, ap, ◌∙◌, Ok, Err, Result}
use Rattle.packets.specs.Packets.{Content, Fits, Written, block_of, content_of}
use Rattle.std.proofs.lemmas.List.{take_at}
use Rattle.messages.specs.SenderCalls.{Carries}
use Rattle.messages.specs.declared.content.NextPacket.{NextPacket}

pub written : {A E : Type 0} (c : Content) (before after : List ℕ) (r : Result A E) → Fits (length before) c → Written c before after r → after ≡ block_of (length before) c
written c before after (Ok x) fits w = w.1
written c before after (Err e) fits w = absurd (w.0 fits)

-- what is carried in front of the caller's bytes is the packet
pub carried_packet : (p : Content) (xs ys : List ℕ) (r : NextPacket) → Carries p xs ys r → content_of r.header (take r.length ys) ≡ p
carried_packet p xs ys r c =
    let front : take r.length ys ≡ p.bytes = ap (take r.length) c.2 ∙ take_at p.bytes (drop r.length xs) r.length (sym c.1) in
    ap (content_of r.header) front ∙ c.0
