-- A history that is reported complete: a message in two pieces is loaded, sent and taken.
use Rattle.std.proofs.Common.{◌≡◌, ℕ, List, [], ◌∷◌, Ok, sym, refl, subst, inl}
use Rattle.messages.specs.declared.content.Placing.TheVariants.{Complete}
use Rattle.messages.specs.Pieces.{piece_length_of}
use Rattle.messages.specs.SenderCalls.{SenderState, new_sender, loaded, next_packet, advanced}
use Rattle.messages.specs.CollectorCalls.{CollectorState}
use Rattle.messages.specs.Histories.{Sent, Took, History, Due, Run, start, load, take_sent, nothing, after_load, after_next, after_take}
use Rattle.messages.specs.Promise.{Promise, Shown}
use Rattle.messages.proofs.Runs.{next_run}
use Rattle.messages.proofs.TwoPieces.{collects, due_first, due_second, in_two_pieces, long_message, may_load, second_is_last}

module _ (n : ℕ) (c₀ : CollectorState) (promise : Promise (piece_length_of n) (new_sender n) c₀) where
  abbrev d : ℕ
  d = piece_length_of n

  abbrev m : List ℕ
  m = long_message n

  abbrev s₁ : SenderState
  s₁ = loaded (new_sender n) m

  abbrev h₁ : History
  h₁ = after_load nothing m

  run₁ : Run (new_sender n) c₀ s₁ c₀ h₁
  run₁ = load start m s₁ (may_load n, refl)

  abbrev f₀ : Sent
  f₀ = record { number = 1; place = 0; message = m; packet = next_packet s₁ }

  run₂ : Run (new_sender n) c₀ (advanced s₁) c₀ (after_next h₁ (next_packet s₁))
  run₂ = next_run run₁ refl

  abbrev c₁ : CollectorState
  c₁ = (collects c₀ f₀.packet).0

  abbrev t₀ : Took
  t₀ = record { what = f₀; answer = (collects c₀ f₀.packet).1 }

  abbrev h₃ : History
  h₃ = after_take (after_next h₁ (next_packet s₁)) f₀ t₀.answer

  run₃ : Run (new_sender n) c₀ (advanced s₁) c₁ h₃
  run₃ = take_sent run₂ f₀ (due_first f₀) c₁ t₀.answer (collects c₀ f₀.packet).2

  abbrev s₂ : SenderState
  s₂ = advanced s₁

  abbrev h₄ : History
  h₄ = after_next h₃ (next_packet s₂)

  run₄ : Run (new_sender n) c₀ (advanced s₂) c₁ h₄
  run₄ = next_run run₃ refl

  abbrev f₁ : Sent
  f₁ = record { number = 1; place = 1; message = m; packet = next_packet s₂ }

  due₁ : Due (f₁ ∷ f₀ ∷ []) (t₀ ∷ []) f₁
  due₁ = due_second f₀ f₁ refl refl refl t₀.answer

  abbrev c₂ : CollectorState
  c₂ = (collects c₁ f₁.packet).0

  abbrev t₁ : Took
  t₁ = record { what = f₁; answer = (collects c₁ f₁.packet).1 }

  complete : t₁.answer ≡ Ok Complete
  complete = ((promise (advanced s₂) c₁ h₄ run₄).1 f₁ due₁ c₂ t₁.answer (collects c₁ f₁.packet).2).last_is (second_is_last f₀ f₁ refl refl refl t₀.answer d (in_two_pieces n) (in_two_pieces n))

  pub shown : Shown (piece_length_of n) (new_sender n) c₀
  shown = record {
    s = advanced s₂;
    c = c₂;
    h = after_take h₄ f₁ t₁.answer;
    run = take_sent run₄ f₁ due₁ c₂ t₁.answer (collects c₁ f₁.packet).2;
    t = t₁;
    was_taken = inl refl;
    two_pieces = in_two_pieces n;
    is_complete = complete;
  }

pub pair_shown : (n : ℕ) (s : SenderState) (c : CollectorState) → s ≡ new_sender n → Promise (piece_length_of n) s c → Shown (piece_length_of n) s c
pair_shown n s c e p =
    let P : SenderState → Type 0 = λ x. Promise (piece_length_of n) x c → Shown (piece_length_of n) x c in
    subst P (sym e) (shown n c) p
