-- The MIS whole: from the three numbers to 14 cells, and from 14 cells to the three numbers or a fault.
use Rattle.std.specs.Prelude.{ℕ, Bool, List, Result}
use Rattle.cells.specs.declared.cell.Cell.{Cell}
use Rattle.streams.specs.Mis.{mis_record, mis_read}
use Rattle.modes.specs.declared.mode.Mis.{Mis}
use Rattle.modem.specs.Carrying.{message_of, cells_of}
use Rattle.modem.specs.Reading.{StreamAnswer, ReadsBack}
use Rattle.modem.specs.declared.carrying.Reading.{Reading}
use Rattle.modem.specs.declared.fault.StreamFault.{StreamFault}
use Rattle.modem.specs.Stream.{stream_trace}
use Rattle.modem.specs.declared.stream.Trace.{Trace}

-- the message of the MIS: two symbols
abbrev pub mis_message : Mis → List ℕ
mis_message mis = message_of 2 (mis_record mis)

-- the cells of the MIS: the four symbols of its word on 14 cells of two bits
abbrev pub mis_cells : (List ℕ → List ℕ) → (List Bool → Cell) → Mis → List Cell
mis_cells word point mis = cells_of point 2 14 (word (mis_message mis))

-- every step of sending
abbrev pub mis_trace : (List ℕ → List ℕ) → (List Bool → Cell) → Mis → Trace 14 2 4 14
mis_trace word point = stream_trace 14 2 4 14 mis_record word point 2

-- what reading the MIS answers, and that it answers what was sent
abbrev pub MisAnswer : (List ℕ → List ℕ) → ℕ → (Cell → List Bool) → List Cell → Result (Reading Mis) StreamFault → Type 0
MisAnswer word reach decided = StreamAnswer 2 4 word reach decided mis_record mis_read

abbrev pub MisReadsBack : (List ℕ → List ℕ) → ℕ → (Cell → List Bool) → (List Bool → Cell) → List Cell → Result (Reading Mis) StreamFault → Type 0
MisReadsBack word reach decided point = ReadsBack 2 4 word reach decided mis_record mis_read point 2 14
