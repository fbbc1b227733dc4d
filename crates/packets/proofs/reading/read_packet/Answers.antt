use Rattle.std.proofs.Common.{◌≡◌, ◌-◌, true, false, length, take, drop, Some, sym, ap, ◌∙◌, arith}
use Rattle.std.proofs.lemmas.Bool.{or_from, or_left, or_right}
use Rattle.bits.specs.Bits.{spread}
use Rattle.bits.proofs.ByteLaws.{below_from}
use Rattle.packets.specs.Packets.{bad_block, content_of, fields_in, stated, wrong_size}
use Rattle.packets.proofs.Exact.{bad_none, good_some, reads_from, size_reads}
use Rattle.packets.proofs.reading.read_packet.Goals as goal

pub returns-then-wrong_size : goal.returns-then-wrong_size
returns-then-wrong_size c =
    let block = c.args.block.now in
    let bad : wrong_size (length c.args.block.now) ≡ true = sym c.if-wrong_size.ensures in
    record { value = sym (bad_none block (or_left _ _ bad)); exactly = size_reads block bad }

pub returns-then-is_bad : goal.returns-then-is_bad
returns-then-is_bad c =
    let block = c.args.block.now in
    let told = c.if-is_bad.ensures.value in
    let bad : bad_block (fields_in (spread 8 c.args.block.now)) c.args.block.now (spread 8 c.args.block.now) ≡ true = cc in
    let none = sym (bad_none block (or_right _ _ bad)) in
    record {
      value = none;
      exactly =
          reads_from block _ (below_from 256 block (λ i _. (c.type_inv.block i).fits))
          (sym c.if-wrong_size.ensures) none;
    }

pub returns : goal.returns
returns c =
    let block = c.args.block.now in
    let f = c.of-fields.result in
    let told = c.if-is_bad.ensures.value in
    let right : wrong_size (length c.args.block.now) ≡ false = sym c.if-wrong_size.ensures in
    let good : bad_block (fields_in (spread 8 c.args.block.now)) c.args.block.now (spread 8 c.args.block.now) ≡ false = cc in
    let fields : f ≡ fields_in (spread 8 c.args.block.now) = c.of-fields.ensures ∙ ap fields_in c.spread.ensures in
    let six : f.total - 2 - 4 ≡ f.total - 6 = omega arith in
    let found =
    ap (λ n. Some (content_of f.header (take n (drop 4 block)))) six ∙
    (ap (λ g. Some (stated g block)) fields ∙ sym (good_some block (or_from _ _ right good))) in
    record { value = found; exactly = reads_from block _ (below_from 256 block (λ i _. (c.type_inv.block i).fits)) right found }
