use Rattle.std.proofs.Common.{◌≡◌, ℕ, List, Ok, subst, rules}
use Rattle.codes.specs.Mending.{Within}
use Rattle.lineup.specs.Stated.{coding_of}
use Rattle.lineup.specs.declared.kind.CellKind.TheVariants.{Tis as TisKind}
use Rattle.modem.specs.Carrying.{symbols_of}
use Rattle.modem.specs.TisStream.{tis_order}
use Rattle.frames.specs.Laying.{cells_in, picked}
use Rattle.frames.proofs.OnStreams.{message_stated}
use Rattle.frames.proofs.channel.Channel.read_station.Goals as goal

pub returns-then-tis-coding-clause-told : goal.returns-then-tis-coding-clause-told
returns-then-tis-coding-clause-told g c x passes =
    let heard : c.hear_tis.result ≡ Ok c.in_ok-tis.tis = search rules in
    let coding : c.coding.result ≡ coding_of c.args.layout.now.mode = search rules in
    (x, passes, c.in_ok-tis.tis.stated, c.in_ok-tis.tis.mended, rw (heard, c.requires) at c.hear_tis.ensures.answer, rw coding at c.if-tis-coding.true)

pub returns-clause-told : goal.returns-clause-told
returns-clause-told g c =
    let code = c.args.self.now.tis in
    let mode = c.args.layout.now.mode in
    let tis = c.in_ok-tis.tis in
    let given = symbols_of (g.B.Constellation.decided c.args.self.now.tis_points (tis_order mode.tis)) 29 (picked TisKind c.args.layout.now.plan.now (cells_in c.args.received.numbers.now)) in
    let heard : c.hear_tis.result ≡ Ok tis = search rules in
    let coding : tis.stated.coding ≡ coding_of mode = search rules in
    subst (λ (m : List ℕ). Within (λ (x : ℕ). x) 9 (g.T.SendingCode.word code) (g.T.MendingCode.reach code) given m tis.mended) (message_stated tis.stated mode coding) (rw (heard, c.requires) at c.hear_tis.ensures.answer)
