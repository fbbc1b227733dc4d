use Rattle.std.proofs.Common.{◌≡◌, ℕ, ◌+◌, ◌-◌, ◌*◌, min, length, get_or, take, drop, ap, ◌∙◌, mul-add, arith, length-drop, length-take}
use Rattle.std.proofs.lemmas.List.{append-nil, drop_all, take_all}
use Rattle.cells.specs.Cells.{cell_bits}
use Rattle.cells.specs.Mapping.{decided_bits, origin}
use Rattle.cells.proofs.Streams.{part_decided, steady_stream}
use Rattle.cells.proofs.mapping.Modulation.decide_bits.Goals as goal

pub loop-i-preserved : goal.loop-i-preserved
loop-i-preserved g c =
    let q = c.args.self.now.points.now in
    let o = c.args.self.now.order in
    let cells = c.args.cells.now in
    let before = c.args.bits.now in
    let d = g.Q.Constellation.decided q o in
    let w = cell_bits o in
    let i = c.loop-i.i in
    let start = c.min-start.result in
    let end = c.min-end.result in
    let width = c.cell_bits-width.ensures.count in
    let begun = rw width at c.min-start.ensures in
    let first : min (length before) (w * i) ≡ start = omega (arith, begun) in
    let last : min (length before) (w * (i + 1)) ≡ end = omega (arith, begun, mul-add w i 1) in
    let room : length (take (end - start) (drop start c.loop-i.bits)) ≡ end - start = simp (length-take, length-drop) (omega arith) in
    let written : c.decide_part.new.bits ≡ take (end - start) (d (get_or cells i origin)) =
    c.decide_part.ensures ∙ ap (λ (n : ℕ). take n (d (get_or cells i origin))) room in
    rw last
    (part_decided d w (g.met.Q.Constellation.sized q o) cells before c.loop-i.bits c.decide_part.new.bits i start end origin
    (omega arith) (omega arith) (omega arith) (rw first at c.loop-i.invariant) written)

pub returns : goal.returns
returns g c =
    let q = c.args.self.now.points.now in
    let o = c.args.self.now.order in
    let cells = c.args.cells.now in
    let before = c.args.bits.now in
    let d = g.Q.Constellation.decided q o in
    let last : c.loop-i.i ≡ length cells = omega arith in
    let room = ap (λ (n : ℕ). cell_bits o * n) last in
    let all : min (length before) (cell_bits o * c.loop-i.i) ≡ length before = omega arith in
    let whole = take_all (length cells) cells (omega arith) in
    let none = drop_all (length before) before (omega arith) in
    let bits : c.loop-i.bits ≡ take (length before) (decided_bits d cells) =
    rw (all, last, whole, none, append-nil) at c.loop-i.invariant in
    record {
      value = bits;
      as_sent = λ sent e moved.
          rw (bits, ← e) (steady_stream (g.Q.Constellation.point q o) (cell_bits o) d (g.met.Q.Constellation.steady q o) (length cells) sent cells (omega arith) moved);
    }
