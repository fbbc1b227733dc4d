-- What is wrong with a word of a script.
use Rattle.std.specs.Prelude.{Result, Ok, Err}
use Rattle.hex.specs.declared.error.FromHexError.{FromHexError}
use Rattle.hex.specs.declared.error.FromHexError.TheVariants.{InvalidHexCharacter, OddLength, InvalidStringLength, OutOfMemory}
use Rattle.desk.specs.declared.trouble.Trouble.{Trouble}
use Rattle.desk.specs.declared.trouble.Trouble.TheVariants.{NoMemory, NoNumber}

-- a word that is no hexadecimal is no number, and its bytes may want memory
abbrev pub hex_trouble : FromHexError → Trouble
hex_trouble (InvalidHexCharacter _ _) = NoNumber
hex_trouble OddLength = NoNumber
hex_trouble InvalidStringLength = NoNumber
hex_trouble OutOfMemory = NoMemory

-- a second step after a first that is in order, and else what is wrong with the first
infixl 10 ◌>>=◌
abbrev pub ◌>>=◌ : {A B : Type 0} → Result A Trouble → (A → Result B Trouble) → Result B Trouble
Ok x >>= next = next x
Err why >>= next = Err why
