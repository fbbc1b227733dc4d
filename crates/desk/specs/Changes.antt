-- What a call does by what it is asked for: either what it is to make, or why it makes nothing.
use Rattle.std.specs.Prelude.{◌≡◌, ◌≢◌, ℕ, cond, List, length, ℤ, Result, Ok, Err, nat_lt, slice_set}
use Rattle.desk.specs.declared.trouble.Trouble.{Trouble}
use Rattle.desk.specs.declared.trouble.Trouble.TheVariants.{NoMemory, NotThere}

-- a call makes what it is asked for, by what is seen of it
abbrev pub Makes : {A B : Type 0} → Result A Trouble → (B → A) → Result B Trouble → Type 0
Makes asked view (Ok made) = asked ≡ Ok (view made)
Makes asked view (Err why) = asked ≡ Err why

-- the same of a call that may want memory
abbrev pub MayMake : {A B : Type 0} → Result A Trouble → (B → A) → Result B Trouble → Type 0
MayMake asked view (Ok made) = asked ≡ Ok (view made)
MayMake asked view (Err why) = why ≢ NoMemory → asked ≡ Err why

-- a call that changes something makes it that, or answers why not, and then all is as it was
abbrev pub Does : {A : Type 0} → Result A Trouble → (before after : A) → Result (Unit {0}) Trouble → Type 0
Does (Ok next) before after answer = (answer ≡ Ok tt) × (after ≡ next)
Does (Err why) before after answer = (answer ≡ Err why) × (after ≡ before)

-- the same of a call that may want memory
abbrev pub MayDo : {A B : Type 0} → Result A Trouble → (before after : A) → Result B Trouble → Type 0
MayDo asked before after (Ok _) = asked ≡ Ok after
MayDo asked before after (Err why) = (why ≢ NoMemory → asked ≡ Err why) × (after ≡ before)

-- numbers with the one of a place set, where there is one
abbrev pub with_number : ℕ → ℤ → List ℤ → Result (List ℤ) Trouble
with_number place value numbers = cond (nat_lt place (length numbers)) (Ok (slice_set numbers place value)) (Err NotThere)
