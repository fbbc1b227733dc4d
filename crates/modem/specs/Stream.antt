-- Any stream whole, step by step.
use Rattle.std.specs.Prelude.{ℕ, Bool, List}
use Rattle.bits.specs.Scrambling.{scrambled}
use Rattle.cells.specs.declared.cell.Cell.{Cell}
use Rattle.modem.specs.Carrying.{message_of, cells_of}
use Rattle.modem.specs.declared.stream.Trace.{Trace}

-- every step of sending what a record of `size` bits states: its record, k symbols, their word of n, and the word on `count` cells of `width` bits
abbrev pub stream_trace : {R : Type 0} → (size k n count : ℕ) → (R → List Bool) → (List ℕ → List ℕ) → (List Bool → Cell) → (width : ℕ) → R → Trace size k n count
stream_trace size k n count record_bits word point width stated =
    record {
      «record» = record_bits stated;
      scrambled = scrambled 0 (record_bits stated);
      message = message_of k (record_bits stated);
      word = word (message_of k (record_bits stated));
      cells = cells_of point width count (word (message_of k (record_bits stated)));
    }
