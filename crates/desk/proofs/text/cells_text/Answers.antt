use Rattle.std.proofs.Common.{◌∙◌}
use Rattle.std.specs.Fmt.{signed_decimal}
use Rattle.std.specs.String.{string_bytes}
use Rattle.desk.proofs.Printing.{numbers_written}
use Rattle.desk.proofs.text.cells_text.Goals as goal

pub returns : goal.returns
returns c = numbers_written string_bytes signed_decimal _ _ _ c.numbers_text.ensures (c.deref.ensures.value ∙ c.in_ok-cell_numbers.ensures)
