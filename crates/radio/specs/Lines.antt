-- What a line-up and a channel are to an exciter and to a receiver.
use Rattle.std.specs.Prelude.{ℕ, ◌*◌, Bool, List, length, Option, vec_items, ◌==◌}
use Rattle.frames.specs.Frames.{Sending}
use Rattle.lineup.specs.Views.{block_length, view_of}
use Rattle.lineup.specs.declared.line_up.LineUp.{LineUp}
use Rattle.lineup.specs.declared.kind.CellKind.{CellKind}
use Rattle.lineup.specs.declared.mode.Mode.{Mode}

-- how the streams are sent, the mode unless the line-up is empty, what each cell carries, and the bytes of a frame's block
pub record Line : Type 0 where
  pub air : Sending
  pub mode : Option Mode
  pub plan : List CellKind
  pub block : ℕ

-- the same by its parts
abbrev pub line : Sending → Option Mode → List CellKind → ℕ → Line
line air mode plan block = record { air = air; mode = mode; plan = plan; block = block }

-- the same of a line-up
abbrev pub line_on : {D : Type 0} {code : _} {words bits clones : _} → Sending → LineUp D code words bits clones → Line
line_on air l = line air l.mode (vec_items l.plan) (block_length (view_of l))

-- there are two numbers for each cell
abbrev pub paired : Line → ℕ → Bool
paired l count = count == 2 * length l.plan
