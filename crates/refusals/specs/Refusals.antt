-- The refusals: each case's number, and the values that it hands back.
use Rattle.std.specs.Prelude.{List, [], ◌∷◌, ℕ}
use Rattle.refusals.specs.declared.Refusal.{Refusal}
use Rattle.refusals.specs.declared.Refusal.TheVariants.{ModeOutOfRange, PlanLength, PlanByte, FewStreamCells, CodeShape, ExponentOutOfRange, BlockLength, FewDataCells, StationOutOfRange, EmptyLineUp, MessageLoaded, MessageLength, TooManyPieces, NothingLoaded, NoStation, SliceLength, MisBeyondReach, BadMis, OtherMode, TisBeyondReach, BadTis, OtherDataCoding, DataBeyondReach, BadPacket, Misplaced, NothingComplete, FewBytes}

-- the number, and what is handed back
pub record Known : Type 0 where
  pub number : ℕ
  pub values : List ℕ

abbrev pub known : Refusal → Known
-- a mode number is out of range
known ModeOutOfRange = record { number = 1; values = [] }
-- the plan's length is not the number of cells
known PlanLength = record { number = 2; values = [] }
-- a plan byte exceeds 5, at this place
known (PlanByte place) = record { number = 3; values = place ∷ [] }
-- MIS or TIS cells are too few
known FewStreamCells = record { number = 4; values = [] }
-- L, M or K is out of range, K does not fit the rate, or there are not M × K exponents
known CodeShape = record { number = 5; values = [] }
-- an exponent is out of range, at this place
known (ExponentOutOfRange place) = record { number = 6; values = place ∷ [] }
-- the data bits are no whole bytes, or the block has fewer than 7
known BlockLength = record { number = 7; values = [] }
-- data cells are too few
known FewDataCells = record { number = 8; values = [] }
-- station, hour, minute or duration is out of range
known StationOutOfRange = record { number = 9; values = [] }
-- the line-up is empty
known EmptyLineUp = record { number = 10; values = [] }
-- a message is loaded
known MessageLoaded = record { number = 11; values = [] }
-- the message has no byte or more than 16,384
known MessageLength = record { number = 12; values = [] }
-- there would be more than 1,024 pieces
known TooManyPieces = record { number = 13; values = [] }
-- nothing is loaded
known NothingLoaded = record { number = 14; values = [] }
-- no station was accepted
known NoStation = record { number = 15; values = [] }
-- the slice is not two numbers a cell
known SliceLength = record { number = 16; values = [] }
-- the MIS is beyond reach
known MisBeyondReach = record { number = 17; values = [] }
-- the MIS has a wrong CRC, fill 1 or data constellation 3
known BadMis = record { number = 18; values = [] }
-- the MIS names another occupancy or constellation: these three
known (OtherMode occupancy tis constellation) = record { number = 19; values = occupancy ∷ tis ∷ constellation ∷ [] }
-- the TIS is beyond reach
known TisBeyondReach = record { number = 20; values = [] }
-- the TIS has a wrong CRC, a reserved 1 or a field out of range
known BadTis = record { number = 21; values = [] }
-- the data coding is not the line-up's
known OtherDataCoding = record { number = 22; values = [] }
-- this data word is beyond reach
known (DataBeyondReach word) = record { number = 23; values = word ∷ [] }
-- the packet is bad
known BadPacket = record { number = 24; values = [] }
-- the piece does not fit what was collected
known Misplaced = record { number = 25; values = [] }
-- nothing is complete
known NothingComplete = record { number = 26; values = [] }
-- the caller's bytes are fewer than the message
known FewBytes = record { number = 27; values = [] }

abbrev pub refusal_number : Refusal → ℕ
refusal_number r = (known r).number
