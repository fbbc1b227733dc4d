use Rattle.std.proofs.Common.{◌≡◌, ◌+◌, ◌-◌, arith}
use Rattle.std.specs.Int.Bits.{xor_zero_l}
use Rattle.std.proofs.lemmas.List.{get_or_past}
use Rattle.reed_solomon.specs.Words.{Symbols}
use Rattle.reed_solomon.specs.ValuesLemmas.{symbols_at}
use Rattle.reed_solomon.specs.GeneratorsLemmas.{generator_is}
use Rattle.reed_solomon.proofs.Steps.{step_by, step_is, length_step, get_or_step, symbols_step, written_more, written_next, written_symbols, written_all}
use Rattle.reed_solomon.proofs.code.ReedSolomon.step.Goals as goal

pub of-requires : goal.of-requires
of-requires g c = symbols_at c.args.rest.now 0 c.requires

pub of-requires-in-loop-i : goal.of-requires-in-loop-i
of-requires-in-loop-i g c =
    symbols_at c.args.self.now.generator c.loop-i.i (rw c.args.self.now.by_roots (generator_is g.row.ROOTS).symbols)

pub of-requires-in-loop-i-2 : goal.of-requires-in-loop-i-2
of-requires-in-loop-i-2 g c =
    let t = c.args.self.now.generator in
    let old = c.args.rest.now in
    let f = c.new-factor.result.symbol.number in
    let s : Symbols t = rw c.args.self.now.by_roots (generator_is g.row.ROOTS).symbols in
    let n = length_step t old f (omega arith) (omega arith) in
    let both = written_symbols (step_by t old f) old c.loop-i.i (omega arith) (omega arith)
    (symbols_step t old f (omega arith) (omega arith) s c.requires) c.requires in
    symbols_at c.loop-i.rest (c.loop-i.i + 1) (rw c.loop-i.invariant both)

pub loop-i-preserved : goal.loop-i-preserved
loop-i-preserved g c =
    let t = c.args.self.now.generator in
    let old = c.args.rest.now in
    let f = c.new-factor.result.symbol.number in
    let i = c.loop-i.i in
    let n = length_step t old f (omega arith) (omega arith) in
    let more = written_more (step_by t old f) old i (omega arith) (omega arith) in
    let next = written_next (step_by t old f) old i (omega arith) (omega arith) in
    let here = get_or_step t old f (omega arith) (omega arith) i (omega arith) in
    cc

pub of-requires-2 : goal.of-requires-2
of-requires-2 g c =
    symbols_at c.args.self.now.generator (g.row.ROOTS - 1) (rw c.args.self.now.by_roots (generator_is g.row.ROOTS).symbols)

-- the last place: nothing stands behind it
pub returns : goal.returns
returns g c =
    let t = c.args.self.now.generator in
    let old = c.args.rest.now in
    let f = c.new-factor.result.symbol.number in
    let i = g.row.ROOTS - 1 in
    let new = step_by t old f in
    let n = length_step t old f (omega arith) (omega arith) in
    let at : c.loop-i.i ≡ i = omega arith in
    let more = written_more new old i (omega arith) (omega arith) in
    let here = get_or_step t old f (omega arith) (omega arith) i (omega arith) in
    let none = get_or_past old (i + 1) 0 (omega arith) in
    let own = xor_zero_l c.times.result.number in
    let all = written_all new old (i + 1) (omega arith) (omega arith) in
    let is = step_is t old c.args.symbol.number in
    let table = c.args.self.now.by_roots in
    cc
