-- The frames of a script: lists of numbers, numbered from 0.
use Rattle.std.specs.Prelude.{ℕ, ◌-◌, cond, List, [], ◌∷◌, ◌++◌, length, map, take, replicate, ℤ, pos, Result, Ok, Err, nat_lt, slice_index_or, slice_set, vec_items}
use Rattle.desk.specs.declared.frames.Frames.{Frames}
use Rattle.desk.specs.declared.trouble.Trouble.{Trouble}
use Rattle.desk.specs.declared.trouble.Trouble.TheVariants.{NoFrame}
use Rattle.desk.specs.Changes.{with_number}

-- what the list holds
abbrev pub frames_of : Frames → List (List ℤ)
frames_of f = map vec_items (vec_items f.frames)

-- the numbers of a frame, and none where there is no such frame
abbrev pub numbers_at : ℕ → List (List ℤ) → List ℤ
numbers_at frame frames = slice_index_or frames frame []

-- what is made where there is such a frame
abbrev pub where_there : {A : Type 0} → ℕ → List (List ℤ) → Result A Trouble → Result A Trouble
where_there frame frames made = cond (nat_lt frame (length frames)) made (Err NoFrame)

-- the list with other numbers in a frame's place
abbrev pub with_numbers : ℕ → List (List ℤ) → Result (List ℤ) Trouble → Result (List (List ℤ)) Trouble
with_numbers frame frames (Ok numbers) = Ok (slice_set frames frame numbers)
with_numbers frame frames (Err why) = Err why

-- the numbers of a frame that is there
abbrev pub shown : ℕ → List (List ℤ) → Result (List ℤ) Trouble
shown frame frames = where_there frame frames (Ok (numbers_at frame frames))

-- a copy of a frame behind all
abbrev pub copied : ℕ → List (List ℤ) → Result (List (List ℤ)) Trouble
copied frame frames = where_there frame frames (Ok (frames ++ numbers_at frame frames ∷ []))

-- one number of a frame set
abbrev pub set_in : (frame place : ℕ) → ℤ → List (List ℤ) → Result (List (List ℤ)) Trouble
set_in frame place value frames = where_there frame frames (with_numbers frame frames (with_number place value (numbers_at frame frames)))

-- so many of some numbers: cut, or with zeros behind
abbrev pub fitted : ℕ → List ℤ → List ℤ
fitted size numbers = take size numbers ++ replicate (size - length numbers) (pos 0)

-- a frame of another size
abbrev pub resized : (frame size : ℕ) → List (List ℤ) → Result (List (List ℤ)) Trouble
resized frame size frames = where_there frame frames (with_numbers frame frames (Ok (fitted size (numbers_at frame frames))))
