-- What a line-up holds, and what is known of it.
use Rattle.std.proofs.Common.{◌≡◌, List, ℤ, Some, Option, unwrap_or, sym, ap, ◌∙◌, subst}
use Rattle.staircase.specs.declared.shape.Shape.{Shape}
use Rattle.lineup.specs.declared.kind.CellKind.{CellKind}
use Rattle.lineup.specs.declared.mode.Mode.{Mode}
use Rattle.lineup.specs.Judging.{Forms, Names, held}
use Rattle.lineup.specs.Kinds.{plan_bytes}
use Rattle.lineup.specs.LineUps.{Asked, Holds, asked}

pub holds : (view : Option Asked) (b : Asked) (P : Asked → Type 0) → view ≡ Some b → P b → Holds view P
holds view b P e p a h = subst P (ap (λ o. unwrap_or o b) (sym e ∙ h)) p

pub holds_same : (view other : Option Asked) (P : Asked → Type 0) → view ≡ other → Holds other P → Holds view P
holds_same view other P e p a h = p a (sym e ∙ h)

-- a line-up holds what its parts are
pub held_is : (m : Mode) (plan : List CellKind) (shape : Shape) (exponents : List ℤ) (a : Asked) → Names m a → Forms shape a → plan_bytes plan ≡ a.plan
    → exponents ≡ a.exponents → held (Some m) plan shape exponents ≡ Some a
held_is m plan shape exponents a n f e x =
    λ i. Some (asked (n.0 i) (n.1 i) (n.2 i) (n.3 i) (e i) (f.0 i) (f.1 i) (f.2 i) (x i))

-- with equal parts it holds the same
pub held_same : (mode : Option Mode) {plan p : List CellKind} {shape s : Shape} {exponents e : List ℤ} → plan ≡ p → shape ≡ s → exponents ≡ e
    → held mode plan shape exponents ≡ held mode p s e
held_same mode plans shapes exponents = λ i. held mode (plans i) (shapes i) (exponents i)
