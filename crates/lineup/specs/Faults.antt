-- Why exponents are refused.
use Rattle.refusals.specs.declared.Refusal.{Refusal}
use Rattle.refusals.specs.declared.Refusal.TheVariants.{CodeShape, ExponentOutOfRange}
use Rattle.staircase.specs.declared.exponents.ExponentsFault.{ExponentsFault}
use Rattle.staircase.specs.declared.exponents.ExponentsFault.TheVariants.{Count, OutOfRange}

-- the refusal for each fault of exponents
abbrev pub refusal_for : ExponentsFault → Refusal
refusal_for Count = CodeShape
refusal_for (OutOfRange place) = ExponentOutOfRange place
