use Rattle.std.proofs.Common.{◌≡◌, ◌*◌, take, vec_items, refl}
use Rattle.std.proofs.lemmas.Bool.{both_ways}
use Rattle.staircase.proofs.Mends.{within_from_word, word_from_within}
use Rattle.staircase.proofs.coding.StaircaseMendingCode.mend.Goals as goal

pub returns-then-not-checks_hold : goal.returns-then-not-checks_hold
returns-then-not-checks_hold c =
    let code = c.args.self.now in (
      refl,
      λ m e w.
          let hold = (c.checks_hold.ensures.words c.requires.size).1 (word_from_within code.shape.lift code.shape.rows code.shape.columns (vec_items code.exponents) c.args.given.now c.requires.size m e w) in
          both_ways c.checks_hold.result c.if-not-checks_hold.true (c.checks_hold.ensures.checks.1 (c.requires.size, hold)),
    )

pub returns : goal.returns
returns c =
    let code = c.args.self.now in
    let word = (c.checks_hold.ensures.words c.requires.size).0 (c.checks_hold.ensures.checks.0 c.if-not-checks_hold.false).1 in
    let front : c.copy_from_slice.new.self ≡ take (code.shape.columns * code.shape.lift) c.args.given.now = rw c.message_length.ensures at c.copy_from_slice.ensures.after in
    within_from_word code.shape.lift code.shape.rows code.shape.columns (vec_items code.exponents) c.args.given.now c.requires.size c.copy_from_slice.new.self front word
