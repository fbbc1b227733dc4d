use Rattle.desk.proofs.Printing.{one_more_printed}
use Rattle.desk.proofs.text.numbers_text.Goals as goal

pub loop-n-preserved : goal.loop-n-preserved
loop-n-preserved g c all =
    one_more_printed g.T.Display.output c.args.numbers.now c.loop-n.n-index c.n-item.result _ _
    c.loop-n-test.true c.n-item.is all (c.loop-n.invariant all) c.in_ok-write.ensures.bytes
