use Rattle.std.proofs.Common.{arith, refl, vec_items}
use Rattle.std.proofs.lemmas.Int.{to_z-of_z}
use mir.Syntax.{w16}
use Rattle.desk.proofs.Lists.{set_there}
use Rattle.desk.proofs.frames.Frames.set.Goals as goal

pub returns : goal.returns
returns c =
    let frames = c.args.self.now.frames in
    let old = c.index_mut-numbers.result.now in
    set_there vec_items frames.items c.args.frame old (omega (arith, frames.ok.0)) c.index_mut-numbers.ensures.value
    c.args.place c.args.value _ _ (omega (arith, old.ok.0)) (to_z-of_z w16 c.args.value c.ranges.value) refl
