-- What a filled line-up is to a frame.
use Rattle.std.specs.Prelude.{◌≡◌, ℕ, ◌*◌, ◌/◌, ◌≤◌, List}
use Rattle.modes.specs.Modes.{data_number, tis_count}
use Rattle.lineup.specs.declared.kind.CellKind.{CellKind}
use Rattle.lineup.specs.declared.kind.CellKind.TheVariants.{Mis, Tis, Data}
use Rattle.lineup.specs.declared.mode.Mode.{Mode}
use Rattle.lineup.specs.Kinds.{kind_number, plan_bytes}
use Rattle.lineup.specs.LineUps.{cells_of_kind, data_words}

-- how many cells are of a kind
abbrev pub kind_count : CellKind → List CellKind → ℕ
kind_count kind plan = cells_of_kind (kind_number kind) (plan_bytes plan)

-- B, the data words of a frame
abbrev pub words_of : Mode → ℕ
words_of mode = data_words (data_number mode.«data»)

-- C, the bytes of a frame's block, where a data word has a message of k bits
abbrev pub block_length_of : Mode → ℕ → ℕ
block_length_of mode k = words_of mode * k / 8

-- The cells suffice for what the streams carry, and the messages of the data words are 7 to 1440 whole bytes.
pub record Roomy (mode : Mode) (plan : List CellKind) (k n : ℕ) : Type 0 where
  pub mis : 14 ≤ kind_count Mis plan
  pub tis : tis_count mode.tis ≤ kind_count Tis plan
  pub «data» : n / 2 ≤ kind_count Data plan
  pub pairs : 2 * (n / 2) ≡ n
  pub word_bits : n ≤ 5120
  pub octets : 8 * block_length_of mode k ≡ words_of mode * k
  pub least : 7 ≤ block_length_of mode k
  pub most : block_length_of mode k ≤ 1440
