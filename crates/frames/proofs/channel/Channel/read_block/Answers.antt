use Rattle.std.proofs.Common.{◌≡◌, ℕ, ◌*◌, List, length, length-take, refl, sym, ◌∙◌, arith}
use lib.ListN.{length-replicate}
use Rattle.bits.specs.Bits.{spread}
use Rattle.bits.specs.Scrambling.{scrambled}
use Rattle.bits.proofs.Bits.{length-spread}
use Rattle.bits.proofs.Sequences.{length-scrambled}
use Rattle.lineup.specs.Layouts.{Roomy, block_length_of, words_of}
use Rattle.lineup.specs.declared.kind.CellKind.{CellKind}
use Rattle.lineup.specs.declared.mode.Mode.{Mode}
use Rattle.frames.proofs.BlockSent.{block_forth}
use Rattle.frames.proofs.DataWords.{block_back}
use Rattle.frames.proofs.channel.Channel.read_block.Goals as goal

-- the bits of a block's messages
message_bits : (mode : Mode) (plan : List CellKind) (k n : ℕ) (sent : List ℕ) → Roomy mode plan k n → length sent ≡ block_length_of mode k → length (scrambled 0 (spread 8 sent)) ≡ words_of mode * k
message_bits mode plan k n sent roomy size = omega (arith, length-scrambled 0 (spread 8 sent), length-spread 8 sent, roomy.octets)

pub returns-in_err-mend_data-clause-as_sent : goal.returns-in_err-mend_data-clause-as_sent
returns-in_err-mend_data-clause-as_sent g c sent size below near =
    let code = c.args.layout.now.code.now in
    let long = message_bits c.args.layout.now.mode c.args.layout.now.plan.now (g.D.SendingCode.message_length code) (g.D.SendingCode.word_length code) sent c.args.layout.now.roomy size in
    let bad = (c.in_err-mend_data.ensures.as_sent (scrambled 0 (spread 8 sent)) long near).0 in
    cc

pub returns-clause-told : goal.returns-clause-told
returns-clause-told g c =
    let C = length c.args.block.now in
    let most = c.args.layout.now.roomy.most in
    let size : length c.mend_data.new.messages ≡ C * 8 = c.mend_data.ensures.size ∙ rw (length-take, length-replicate) (omega arith) in
    let back = block_back C c.mend_data.new.messages size in
    rw (c.cut.ensures, c.scramble.ensures.value, back) c.in_ok-mend_data.ensures.answer

pub returns-clause-as_sent : goal.returns-clause-as_sent
returns-clause-as_sent g c sent size below near =
    let code = c.args.layout.now.code.now in
    let long = message_bits c.args.layout.now.mode c.args.layout.now.plan.now (g.D.SendingCode.message_length code) (g.D.SendingCode.word_length code) sent c.args.layout.now.roomy size in
    let both = c.in_ok-mend_data.ensures.as_sent (scrambled 0 (spread 8 sent)) long near in
    (refl, c.cut.ensures ∙ rw c.scramble.ensures.value (block_forth (length c.args.block.now) c.mend_data.new.messages sent (size ∙ sym c.requires.block) below both.1))
