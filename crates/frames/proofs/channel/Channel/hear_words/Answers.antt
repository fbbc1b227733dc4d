use Rattle.std.proofs.Common.{◌≡◌, ◌*◌, ◌/◌, length, replicate, take, ◌∙◌, arith, length-take}
use lib.ListN.{length-replicate}
use Rattle.cells.specs.Cells.{cell_bits}
use Rattle.cells.specs.Mapping.{origin}
use Rattle.lineup.specs.declared.kind.CellKind.TheVariants.{Data as DataKind}
use Rattle.lineup.specs.Layouts.{words_of}
use Rattle.frames.specs.Frames.{data_order}
use Rattle.frames.specs.Laying.{cells_in, picked}
use Rattle.frames.proofs.OnStreams.{bits_front, words_fit}
use Rattle.frames.proofs.channel.Channel.hear_words.Goals as goal

pub gather-requires : goal.gather-requires
gather-requires g c =
    let few = c.args.layout.now.roomy.«data» in
    rw (length-take, length-replicate, c.requires.plan) (omega arith)

pub decide_bits-requires : goal.decide_bits-requires
decide_bits-requires g c =
    let n = g.D.SendingCode.word_length c.args.layout.now.code.now in
    let fit = words_fit c.args.layout.now.mode.«data» n (n / 2) c.args.layout.now.roomy.pairs in
    let half : length c.gather.new.cells ≡ n / 2 = c.gather.auto.cells ∙ rw (length-take, length-replicate) (omega arith) in
    rw (c.requires.room, c.order_of.ensures, half) fit

pub returns : goal.returns
returns g c =
    let n = g.D.SendingCode.word_length c.args.layout.now.code.now in
    let mode = c.args.layout.now.mode in
    let plan = c.args.layout.now.plan.now in
    let numbers = c.args.received.numbers.now in
    let points = c.args.self.now.data_points in
    let fit = words_fit mode.«data» n (n / 2) c.args.layout.now.roomy.pairs in
    let all = picked DataKind plan (cells_in numbers) in
    let decided = g.C.Constellation.decided points (data_order mode.«data») in
    let size : length (take c.data_cells.result (replicate 2560 origin)) ≡ n / 2 = rw (length-take, length-replicate) (omega arith) in
    let cells : c.gather.new.cells ≡ take (n / 2) all = rw (size, c.requires.plan) at c.gather.ensures in
    rw (c.order_of.ensures, cells, c.requires.room) at c.decide_bits.ensures.value
    ∙ bits_front decided (cell_bits (data_order mode.«data»)) (g.met.C.Constellation.sized points (data_order mode.«data»)) (words_of mode * n) (n / 2) all fit
