use Rattle.std.proofs.Common.{refl}
use Rattle.cells.specs.Mapping.{mapped}
use Rattle.reed_solomon.specs.Field.{alpha, raised, times_low, times}
use Rattle.reed_solomon.specs.Generators.{generator_of}
use Rattle.reed_solomon.specs.Words.{added, divide_step, divided, word_of}
use Rattle.bits.specs.Bits.{bits_of, number_of, cut, spread}
use Rattle.bits.specs.Crc.{registered, crc_of}
use Rattle.streams.specs.Mis.{mis_fields}
use Rattle.streams.specs.Records.{with_check}
use Rattle.bits.specs.Scrambling.{earlier, scrambled}
use Rattle.packets.specs.Packets.{header_bits}
use Rattle.staircase.specs.Staircase.{check_at, row_sum}
use Rattle.figures.specs.Printed.{Printed}
use Rattle.figures.proofs.printed_mis.Goals as goal

-- each figure by computation
figures : Printed
unfolding check_at row_sum header_bits mapped alpha raised times_low times generator_of added divide_step divided word_of bits_of number_of cut spread registered crc_of mis_fields with_check earlier scrambled
figures =
    record {
      product = refl;
      sequence = refl;
      check = refl;
      word_01 = refl;
      word_10 = refl;
      mis_word_lem = refl;
      mis_cells_lem = refl;
      axis_1536 = refl;
      axis_1535 = refl;
      axis_0 = refl;
      axis_lowest = refl;
      checks = refl;
      header = refl;
      one_piece = refl;
      two_pieces = refl;
      second_piece = refl;
    }

pub returns : goal.returns
returns c = record { steps = c.write_mis.ensures.steps; printed = figures }
