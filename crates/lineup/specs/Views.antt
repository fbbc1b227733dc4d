-- What a line-up holds.
use Rattle.std.specs.Prelude.{◌≡◌, ℕ, Some, None, vec_items, Option}
use Rattle.lineup.specs.declared.line_up.LineUp.{LineUp}
use Rattle.lineup.specs.Judging.{held}
use Rattle.lineup.specs.LineUps.{Asked, block_bytes}

-- the mode, plan and code that a line-up holds; nothing where it is empty
abbrev pub view_of : {D : Type 0} {code : _} {words bits clones : _} → LineUp D code words bits clones → Option Asked
view_of {code = code} l = held l.mode (vec_items l.plan) (code.shape l.code) (code.exponents l.code)

-- C, the bytes of the block of a frame, and 0 where the line-up is empty
abbrev pub block_length : Option Asked → ℕ
block_length None = 0
block_length (Some a) = block_bytes a.constellation a.lift a.columns

-- two line-ups hold the same, and the code of one is a clone of the other's: it has the same numbers, sizes and words
pub record Alike {D : Type 0} {code : _} {words bits clones : _} (l k : LineUp D code words bits clones) : Type 0 where
  pub mode : k.mode ≡ l.mode
  pub plan : vec_items k.plan ≡ vec_items l.plan
  pub clone : clones.is_clone l.code k.code
  pub shape : code.shape k.code ≡ code.shape l.code
  pub exponents : code.exponents k.code ≡ code.exponents l.code
  pub view : view_of k ≡ view_of l
  pub message_length : words.message_length k.code ≡ words.message_length l.code
  pub word_length : words.word_length k.code ≡ words.word_length l.code
  pub word : words.word k.code ≡ words.word l.code
