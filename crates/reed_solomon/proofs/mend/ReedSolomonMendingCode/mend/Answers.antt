use Rattle.std.proofs.Common.{◌≡◌, List, ℕ, take, sym, refl, subst, arith, rules}
use Rattle.reed_solomon.specs.Generators.{generator_of}
use Rattle.reed_solomon.specs.Words.{word_of}
use Rattle.reed_solomon.proofs.Reach.{Near, near_word, no_word}
use Rattle.reed_solomon.proofs.mend.ReedSolomonMendingCode.mend.Goals as goal

pub returns-then-not-is_word : goal.returns-then-not-is_word
returns-then-not-is_word g c =
    let only = rw c.copy_from_slice.ensures.after at c.in_ok-mended.ensures in
    let other : c.mend_one.new.symbols ≡ word_of (generator_of g.row.ROOTS) (take g.row.MESSAGE c.mend_one.new.symbols) → ⊥ = search rules in
    (refl, no_word g.row.ROOTS g.row.MESSAGE 1 c.args.given.now c.mend_one.new.symbols c.in_ok-mended.mended (omega arith) only other)

pub returns : goal.returns
returns g c =
    let only = rw c.copy_from_slice.ensures.after at c.in_ok-mended.ensures in
    let own : c.mend_one.new.symbols ≡ word_of (generator_of g.row.ROOTS) (take g.row.MESSAGE c.mend_one.new.symbols) = search rules in
    subst (λ (m : List ℕ). Near g.row.ROOTS g.row.MESSAGE 1 c.args.given.now m c.in_ok-mended.mended) (sym c.copy_from_slice-2.ensures.after)
    (near_word g.row.ROOTS g.row.MESSAGE 1 c.args.given.now c.mend_one.new.symbols c.in_ok-mended.mended (omega arith) only own)
