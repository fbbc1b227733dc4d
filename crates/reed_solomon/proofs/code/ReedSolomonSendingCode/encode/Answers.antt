use Rattle.std.proofs.Common.{◌++◌, replicate, sym, ap, ap₂, ◌∙◌}
use Rattle.reed_solomon.specs.Generators.{generator_of}
use Rattle.reed_solomon.specs.Words.{divided, word_of}
use Rattle.reed_solomon.specs.GeneratorsLemmas.{generator_is}
use Rattle.reed_solomon.proofs.code.ReedSolomonSendingCode.encode.Goals as goal

pub returns : goal.returns
unfolding word_of
returns g c =
    let generator = generator_of g.row.ROOTS in
    let message = c.args.message.now in
    ap₂ ◌++◌ c.copy_from_slice.ensures.after
    (c.copy_from_slice-2.ensures.after
    ∙ rw c.new.ensures at c.remainder.ensures
    ∙ ap (λ n. divided generator (replicate n 0) message) (sym (generator_is g.row.ROOTS).size))
