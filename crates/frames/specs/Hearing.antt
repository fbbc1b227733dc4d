-- What is heard of a single stream where it is within reach of what was sent.
use Rattle.std.specs.Prelude.{◌≡◌, ℕ, ◌≤◌, Bool, List, Ok, Result}
use Rattle.cells.specs.declared.cell.Cell.{Cell}
use Rattle.cells.specs.declared.cell.Order.{Order}
use Rattle.modem.specs.MisStream.{mis_cells}
use Rattle.modem.specs.Reading.{wrong_symbols}
use Rattle.modem.specs.TisStream.{tis_cells, tis_order}
use Rattle.modem.specs.declared.carrying.Reading.{Reading}
use Rattle.modem.specs.declared.fault.StreamFault.{StreamFault}
use Rattle.modes.specs.declared.mode.Mis.{Mis}
use Rattle.modes.specs.declared.mode.TisConstellation.{TisConstellation}
use Rattle.modes.specs.declared.station.Tis.{Tis}

-- a MIS with no more wrong symbols than the reach is heard as sent
abbrev pub HearsMis : (List ℕ → List ℕ) → ℕ → (List Bool → Cell) → (Cell → List Bool) → List Cell → Result (Reading Mis) StreamFault → Type 0
HearsMis word reach point decided cells answer =
    (sent : Mis) → wrong_symbols decided 4 (mis_cells word point sent) cells ≤ reach
    → answer ≡ Ok (record { stated = sent; mended = wrong_symbols decided 4 (mis_cells word point sent) cells })

-- and a TIS
abbrev pub HearsTis : (List ℕ → List ℕ) → ℕ → (Order → List Bool → Cell) → (Order → Cell → List Bool) → TisConstellation → List Cell → Result (Reading Tis) StreamFault → Type 0
HearsTis word reach point decided c cells answer =
    (sent : Tis) → wrong_symbols (decided (tis_order c)) 29 (tis_cells word point c sent) cells ≤ reach
    → answer ≡ Ok (record { stated = sent; mended = wrong_symbols (decided (tis_order c)) 29 (tis_cells word point c sent) cells })
