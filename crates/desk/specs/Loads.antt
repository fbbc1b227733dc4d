-- The bytes that a message is loaded from.
use Rattle.std.specs.Prelude.{ℕ, ◌%◌, cond, List, [], ◌∷◌, map, codes, Result, Ok, Err}
use Rattle.std.specs.Str.{bytes_eq}
use Rattle.std.specs.List.{range_with_len}
use Rattle.hex.specs.Hex.{decode_of}
use Rattle.hex.specs.declared.error.FromHexError.{FromHexError}
use Rattle.desk.specs.declared.trouble.Trouble.{Trouble}
use Rattle.desk.specs.declared.trouble.Trouble.TheVariants.{NoCommand, TooFew, TooMany}
use Rattle.desk.specs.Numbers.{count_of}
use Rattle.desk.specs.Troubles.{◌>>=◌, hex_trouble}

-- what hexadecimal digits write
abbrev pub decoded : Result (List ℕ) FromHexError → Result (List ℕ) Trouble
decoded (Ok bytes) = Ok bytes
decoded (Err why) = Err (hex_trouble why)

-- the bytes behind `hex`: those of one word, or none
abbrev pub hex_bytes : List (List ℕ) → Result (List ℕ) Trouble
hex_bytes [] = Ok []
hex_bytes (digits ∷ []) = decoded (decode_of digits)
hex_bytes (digits ∷ more ∷ words) = Err TooMany

-- byte i is i modulo 251
abbrev pub ramp_of : ℕ → List ℕ
ramp_of count = map (λ i. i % 251) (range_with_len 0 count)

-- the bytes behind `ramp`: as many as its one word says
abbrev pub ramp_bytes : List (List ℕ) → Result (List ℕ) Trouble
ramp_bytes [] = Err TooFew
ramp_bytes (word ∷ []) = do
  count ← count_of word
  Ok (ramp_of count)
ramp_bytes (word ∷ more ∷ words) = Err TooMany

-- the bytes that words ask for: `hex HEX`, `hex` or `ramp N`
abbrev pub loaded_of : List (List ℕ) → Result (List ℕ) Trouble
loaded_of [] = Err TooFew
loaded_of (kind ∷ words) =
    cond (bytes_eq kind (codes "hex")) (hex_bytes words) (cond (bytes_eq kind (codes "ramp")) (ramp_bytes words) (Err NoCommand))
