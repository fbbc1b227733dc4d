use Rattle.std.proofs.Common.{arith, vec_items}
use Rattle.std.proofs.lemmas.Result.{err_from_is_err_and}
use Rattle.desk.proofs.Lists.{resized_there, kept_there}
use Rattle.desk.proofs.frames.Frames.resize.Goals as goal

pub returns-in_err-resize : goal.returns-in_err-resize
returns-in_err-resize c =
    let frames = c.args.self.now.frames in
    let kept = kept_there vec_items frames.items c.args.frame c.index_mut.result.now (omega (arith, frames.ok.0)) c.index_mut.ensures.value c.resize.new.self c.in_err-resize.ensures.items in
    let p = err_from_is_err_and c.from_residual.result c.from_residual.ensures.1 in
    rw (p.1, p.2) ((λ ne. absurd (ne cc)), kept)

pub returns : goal.returns
returns c =
    let frames = c.args.self.now.frames in
    let old = c.index_mut.result.now in
    resized_there vec_items frames.items c.args.frame old (omega (arith, frames.ok.0)) c.index_mut.ensures.value c.args.size old.len c.resize.new.self old.ok.0 c.in_ok-resize.ensures.items
