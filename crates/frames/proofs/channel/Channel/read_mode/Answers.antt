use Rattle.std.proofs.Common.{◌≡◌, Ok, subst, rules}
use Rattle.cells.specs.declared.cell.Order.TheVariants.{Four}
use Rattle.lineup.specs.Stated.{stated_mis}
use Rattle.lineup.specs.declared.kind.CellKind.TheVariants.{Mis as MisKind}
use Rattle.modem.specs.MisStream.{mis_message}
use Rattle.modem.specs.Reading.{StreamWithin}
use Rattle.frames.specs.Laying.{cells_in, picked}
use Rattle.frames.proofs.channel.Channel.read_mode.Goals as goal

pub returns-clause-told : goal.returns-clause-told
returns-clause-told g c =
    let code = c.args.self.now.mis in
    let heard : c.hear_mis.result ≡ Ok c.in_ok-mis.mis = search rules in
    let same : c.in_ok-mis.mis.stated ≡ stated_mis c.args.layout.now.mode = search rules in
    let found = rw (heard, c.requires) at c.hear_mis.ensures.answer in
    subst (λ m. StreamWithin 2 4 (g.M.SendingCode.word code) (g.M.MendingCode.reach code) (g.A.Constellation.decided c.args.self.now.mis_points Four) (picked MisKind c.args.layout.now.plan.now (cells_in c.args.received.numbers.now)) (mis_message m) c.in_ok-mis.mis.mended) same found
