-- The cells of a frame.
use Rattle.std.proofs.Common.{◌≡◌, ℕ, ◌≤◌, true, List, length, ℤ, refl, sym, subst, lit≤}
use Rattle.std.proofs.lemmas.Bool.{eqb-true}
use Rattle.modes.specs.Modes.{occupancy_number, tis_count, tis_number}
use Rattle.modes.specs.declared.mode.Occupancy.{Occupancy}
use Rattle.modes.specs.declared.mode.Occupancy.TheVariants.{Khz1, Khz3, Khz5, Khz10}
use Rattle.modes.specs.declared.mode.TisConstellation.{TisConstellation}
use Rattle.modes.specs.declared.mode.TisConstellation.TheVariants.{Qam4, Qam16}
use Rattle.staircase.specs.Staircase.{ExponentsKnown}
use Rattle.lineup.specs.LineUps.{cells_of, plan_whole, tis_cells}

-- the cells that the TIS takes, by the number of its constellation
pub tis_cells_counted : (t : TisConstellation) → tis_count t ≡ tis_cells (tis_number t)
tis_cells_counted Qam4 = refl
tis_cells_counted Qam16 = refl

-- no frame has more cells than the widest
pub cells-le : (o : Occupancy) → cells_of (occupancy_number o) ≤ 3435
cells-le Khz1 = lit≤ tt
cells-le Khz3 = lit≤ tt
cells-le Khz5 = lit≤ tt
cells-le Khz10 = lit≤ tt

-- so a whole plan has no more
pub whole_le : (o : ℕ) (m : Occupancy) (plan : List ℕ) → occupancy_number m ≡ o → plan_whole o plan ≡ true → length plan ≤ 3435
whole_le o m plan e h =
    let P : ℕ → Type 0 = λ n. cells_of n ≤ 3435 in
    let Q : ℕ → Type 0 = λ n. n ≤ 3435 in
    subst Q (sym (eqb-true (length plan) (cells_of o) h)) (subst P e (cells-le m))

-- exponents that are known for a lift are, however both are named
pub known_same : {lift other : ℕ} {es fs : List ℤ} → lift ≡ other → es ≡ fs → ExponentsKnown lift es → ExponentsKnown other fs
known_same {other = other} {es = es} l e h =
    let P : ℕ → Type 0 = λ n. ExponentsKnown n es in
    let Q : List ℤ → Type 0 = ExponentsKnown other in
    subst Q e (subst P l h)
