-- What reading any stream answers: what its record states and how many symbols were mended, or a fault.
use Rattle.std.specs.Prelude.{◌≡◌, ℕ, ◌≤◌, Bool, List, Ok, Err, Result}
use Rattle.codes.specs.Symbols.{differing}
use Rattle.codes.specs.Mending.{Within}
use Rattle.codes.specs.declared.words.BeyondReach.{BeyondReach}
use Rattle.cells.specs.Mapping.{Moved}
use Rattle.cells.specs.declared.cell.Cell.{Cell}
use Rattle.streams.specs.declared.records.BadRecord.{BadRecord}
use Rattle.modem.specs.Carrying.{message_of, record_of, cells_of, symbols_of}
use Rattle.modem.specs.declared.fault.StreamFault.{StreamFault}
use Rattle.modem.specs.declared.fault.StreamFault.TheVariants.{Reach, Record}
use Rattle.modem.specs.declared.carrying.Reading.{Reading}

-- in how many places the symbols decided from some cells differ from those decided from others
abbrev pub wrong_symbols : (Cell → List Bool) → ℕ → List Cell → List Cell → ℕ
wrong_symbols decided n sent cells = differing (λ (x : ℕ). x) (symbols_of decided n sent) (symbols_of decided n cells)

-- a code of k to n symbols, and how cells are decided
module _ (k n : ℕ) (word : List ℕ → List ℕ) (reach : ℕ) (decided : Cell → List Bool) where
  -- a message whose word differs from the symbols decided from the cells in e places, within reach
  abbrev pub StreamWithin : List Cell → List ℕ → ℕ → Type 0
  StreamWithin cells message e = Within (λ (x : ℕ). x) k word reach (symbols_of decided n cells) message e

  -- The message within reach and its record's bits, or a refusal, where no message is within reach and nothing is written.
  abbrev pub RecordMended : List Cell → (before after : List ℕ) → (bits_before bits_after : List Bool) → Result ℕ BeyondReach → Type 0
  RecordMended cells before after bits_before bits_after (Ok e) = StreamWithin cells after e × (bits_after ≡ record_of after)
  RecordMended cells before after bits_before bits_after (Err f) =
      (after ≡ before) × (bits_after ≡ bits_before) × ((m : List ℕ) (e : ℕ) → StreamWithin cells m e → ⊥)

  -- a stream whose records state values of R
  module _ {R : Type 0} (record_bits : R → List Bool) (read_bits : List Bool → Result R BadRecord) where
    -- What is stated by the record whose word is within reach, and the places in which they differ;
    -- 'beyond reach', where no word is; or 'bad record', where the message within reach is that of no good record.
    abbrev pub StreamAnswer : List Cell → Result (Reading R) StreamFault → Type 0
    StreamAnswer cells (Ok got) = StreamWithin cells (message_of k (record_bits got.stated)) got.mended
    StreamAnswer cells (Err (Reach f)) = (m : List ℕ) (e : ℕ) → StreamWithin cells m e → ⊥
    StreamAnswer cells (Err (Record f)) = (m : List ℕ) × (e : ℕ) × StreamWithin cells m e × (read_bits (record_of m) ≡ Err f)

    -- Cells that were sent, moved by at most 255 units on each axis, and then with at most `reach` wrong symbols,
    -- are read as what was sent, and exactly the wrong symbols are mended.
    abbrev pub ReadsBack : (List Bool → Cell) → (width count : ℕ) → List Cell → Result (Reading R) StreamFault → Type 0
    ReadsBack point width count cells answer =
        (sent : R) (near : List Cell) → Moved (cells_of point width count (word (message_of k (record_bits sent)))) near
        → wrong_symbols decided n near cells ≤ reach
        → answer ≡ Ok (record { stated = sent; mended = wrong_symbols decided n near cells })
