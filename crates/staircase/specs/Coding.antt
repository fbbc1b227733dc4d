-- The code, by the value that has its shape and exponents.
use Rattle.std.specs.Prelude.{ℕ, ◌+◌, ◌*◌, Bool, List, vec_items}
use Rattle.staircase.specs.declared.code.Staircase.{Staircase}
use Rattle.staircase.specs.Staircase.{check_groups, word_of, ChecksHold, IsWord}

-- k, the bits of a message
abbrev pub message_size : Staircase → ℕ
message_size c = c.shape.columns * c.shape.lift

-- n, the bits of a word
abbrev pub word_size : Staircase → ℕ
word_size c = (c.shape.columns + c.shape.rows) * c.shape.lift

-- the check groups of a message
abbrev pub checks_in : Staircase → List Bool → List Bool
checks_in c message = check_groups c.shape.lift c.shape.columns (vec_items c.exponents) message c.shape.rows

-- the word of a message
abbrev pub word_in : Staircase → List Bool → List Bool
word_in c message = word_of c.shape.lift c.shape.rows c.shape.columns (vec_items c.exponents) message

-- every check of the bits holds
abbrev pub HoldIn : Staircase → List Bool → Type 0
HoldIn c bits = ChecksHold c.shape.lift c.shape.rows c.shape.columns (vec_items c.exponents) bits

-- the bits are a word of the code
abbrev pub WordIn : Staircase → List Bool → Type 0
WordIn c bits = IsWord c.shape.lift c.shape.rows c.shape.columns (vec_items c.exponents) bits
