-- What take keeps of the collector. Assumes nothing.
use Rattle.std.proofs.Common.{◌≡◌, Bool, true, false, Result, refl, ap, ◌∙◌}
use Rattle.refusals.specs.declared.Refusal.{Refusal}
use Rattle.messages.specs.CollectorCalls.{CollectorState, Placed-in, Standing, Taken-as, Taking, again, begun, had, more, new, same, standing}
use Rattle.messages.specs.declared.content.Placing.{Placing}
use Rattle.packets.specs.Packets.{Content}
use Rattle.std.specs.Prelude.{slice_index_or}

-- the collector's piece length stays
placed_keeps : (b : Bool) (c s t : CollectorState) (p : Content) (r : Result Placing Refusal) → c.piece_length ≡ s.piece_length → Placed-in b c s t p r → t.piece_length ≡ s.piece_length
placed_keeps true c s t p r e h = ap (λ x. x.piece_length) h.1
placed_keeps false c s t p r e h = ap (λ x. x.piece_length) h.1 ∙ e

taken_keeps : (o : Standing) (s t : CollectorState) (p : Content) (r : Result Placing Refusal) → Taken-as o s t p r → t.piece_length ≡ s.piece_length
taken_keeps new s t p r h = placed_keeps _ (begun s p.toggle) s t p r refl h
taken_keeps more s t p r h = placed_keeps _ s s t p r refl h
taken_keeps had s t p r h = ap (λ x. x.piece_length) h.1
taken_keeps again s t p r h = ap (λ x. x.piece_length) h.1

pub taking_keeps : (s t : CollectorState) (p : Content) (r : Result Placing Refusal) → Taking s t p r → t.piece_length ≡ s.piece_length
taking_keeps s t p r h =
    taken_keeps (standing s.phase (same p.toggle s.toggle) (slice_index_or s.there p.id false)) s t p r h
