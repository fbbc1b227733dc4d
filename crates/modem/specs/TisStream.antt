-- The TIS whole: from what it states to its cells, and from its cells to what it states or a fault.
use Rattle.std.specs.Prelude.{ℕ, Bool, List, Result}
use Rattle.cells.specs.Cells.{cell_bits}
use Rattle.cells.specs.declared.cell.Cell.{Cell}
use Rattle.cells.specs.declared.cell.Order.{Order}
use Rattle.cells.specs.declared.cell.Order.TheVariants.{Four, Sixteen}
use Rattle.streams.specs.Tis.{tis_record, tis_read}
use Rattle.modes.specs.Modes.{tis_count}
use Rattle.modes.specs.declared.mode.TisConstellation.{TisConstellation}
use Rattle.modes.specs.declared.mode.TisConstellation.TheVariants.{Qam4, Qam16}
use Rattle.modes.specs.declared.station.Tis.{Tis}
use Rattle.modem.specs.Carrying.{message_of, cells_of}
use Rattle.modem.specs.Reading.{StreamAnswer, ReadsBack}
use Rattle.modem.specs.declared.carrying.Reading.{Reading}
use Rattle.modem.specs.declared.fault.StreamFault.{StreamFault}
use Rattle.modem.specs.Stream.{stream_trace}
use Rattle.modem.specs.declared.stream.Trace.{Trace}

-- the order of each constellation of the TIS
abbrev pub tis_order : TisConstellation → Order
tis_order Qam4 = Four
tis_order Qam16 = Sixteen

-- the message of the TIS: nine symbols
abbrev pub tis_message : Tis → List ℕ
tis_message tis = message_of 9 (tis_record tis)

-- 102 cells of the TIS, of which those behind the count are (0,0)
abbrev pub tis_cells : (List ℕ → List ℕ) → (Order → List Bool → Cell) → TisConstellation → Tis → List Cell
tis_cells word point c tis = cells_of (point (tis_order c)) (cell_bits (tis_order c)) 102 (word (tis_message tis))

-- every step of sending
abbrev pub tis_trace : (List ℕ → List ℕ) → (Order → List Bool → Cell) → TisConstellation → Tis → Trace 63 9 29 102
tis_trace word point c = stream_trace 63 9 29 102 tis_record word (point (tis_order c)) (cell_bits (tis_order c))

-- what reading the TIS answers, and that it answers what was sent
abbrev pub TisAnswer : (List ℕ → List ℕ) → ℕ → (Order → Cell → List Bool) → TisConstellation → List Cell → Result (Reading Tis) StreamFault → Type 0
TisAnswer word reach decided c = StreamAnswer 9 29 word reach (decided (tis_order c)) tis_record tis_read

abbrev pub TisReadsBack : (List ℕ → List ℕ) → ℕ → (Order → Cell → List Bool) → (Order → List Bool → Cell) → TisConstellation → List Cell → Result (Reading Tis) StreamFault → Type 0
TisReadsBack word reach decided point c =
    ReadsBack 9 29 word reach (decided (tis_order c)) tis_record tis_read (point (tis_order c)) (cell_bits (tis_order c)) (tis_count c)
