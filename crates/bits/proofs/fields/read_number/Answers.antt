use Rattle.std.proofs.Common.{rules, ◌≡◌, ◌*◌, ◌%◌, ◌^◌, ◌∙◌, bit_or}
use mir.Val.{bool_byte}
use Rattle.std.specs.List.{fold}
use Rattle.std.proofs.iter.runs.Made.{chains}
use Rattle.bits.proofs.Bits.{number_read}
use Rattle.bits.proofs.fields.read_number.Goals as goal

pub returns : goal.returns
returns c =
    let folded : c.fold.result ≡ fold (λ k b. bit_or (k * 2 ^ 1 % 2 ^ 32) (bool_byte b)) 0 c.args.bits.now = search (rules, chains) in
    folded ∙ number_read c.args.bits.now c.requires
