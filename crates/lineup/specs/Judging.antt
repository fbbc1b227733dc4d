-- What is asked of a line-up, by the mode and the code that it names.
use Rattle.std.specs.Prelude.{◌≡◌, List, ℤ, Some, None, Ok, Err, Option, Result}
use Rattle.refusals.specs.declared.Refusal.{Refusal}
use Rattle.modes.specs.Modes.{data_number, occupancy_number, rate_number, tis_number}
use Rattle.staircase.specs.declared.exponents.Exponents.{Exponents}
use Rattle.staircase.specs.declared.shape.Shape.{Shape}
use Rattle.lineup.specs.declared.asked.Asked.{Asked as AskedParts}
use Rattle.lineup.specs.declared.kind.CellKind.{CellKind}
use Rattle.lineup.specs.declared.mode.Mode.{Mode}
use Rattle.lineup.specs.Kinds.{plan_bytes}
use Rattle.lineup.specs.LineUps.{Asked, Pass4, Pass8, Refuses, asked}

-- what a call asks for
abbrev pub asked_by : AskedParts → Asked
asked_by a = asked a.occupancy a.tis a.«data» a.rate a.plan.now a.lift a.rows a.columns a.exponents.now

-- a mode has the numbers that are asked for
abbrev pub Names : Mode → Asked → Type 0
Names m a =
    (occupancy_number m.occupancy ≡ a.occupancy) × (tis_number m.tis ≡ a.tis)
    × (data_number m.«data» ≡ a.constellation) × (rate_number m.rate ≡ a.rate)

-- a shape has the numbers that are asked for
abbrev pub Forms : Shape → Asked → Type 0
Forms s a = (s.lift ≡ a.lift) × (s.rows ≡ a.rows) × (s.columns ≡ a.columns)

-- the mode of what passes the first four, or the refusal
abbrev pub FrameJudged : Asked → Result Mode Refusal → Type 0
FrameJudged a (Ok m) = Pass4 a × Names m a
FrameJudged a (Err refusal) = Refuses a refusal

-- the mode and the exponents of what passes all eight, or the refusal
abbrev pub Judged : Asked → Result (Mode × Exponents) Refusal → Type 0
Judged a (Ok p) = Pass8 a × Names p.0 a × Forms p.1.shape a × (p.1.values.now ≡ a.exponents)
Judged a (Err refusal) = Refuses a refusal

-- what a line-up holds, by its mode, its plan and the numbers of its code: nothing where it has no mode
abbrev pub held : Option Mode → List CellKind → Shape → List ℤ → Option Asked
held None plan shape exponents = None
held (Some m) plan shape exponents =
    Some (asked (occupancy_number m.occupancy) (tis_number m.tis) (data_number m.«data») (rate_number m.rate) (plan_bytes plan)
    shape.lift shape.rows shape.columns exponents)
