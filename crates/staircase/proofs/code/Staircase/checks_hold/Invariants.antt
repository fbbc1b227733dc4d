use Rattle.std.proofs.Common.{◌≡◌, ◌*◌, ◌≤◌, take, drop, vec_items}
use Rattle.std.specs.Iterator.Adapters.{enumerate_count, enumerate_source}
use Rattle.std.specs.Slice.Iter.{chunks_rest, chunks_size}
use Rattle.staircase.specs.Staircase.{places, check_groups}
use Rattle.staircase.specs.Groups.{stair}
use Rattle.staircase.proofs.code.Staircase.checks_hold.Given as goal

-- the sums are the check group of the row before, and the groups of the rows before are as they should be
abbrev pub invariant-loop-i : goal.invariant-loop-i
invariant-loop-i l =
    let shape = l.self.shape in
    let es = vec_items l.self.exponents in
    let i = enumerate_count l.i-iterator in
    let left = enumerate_source l.i-iterator in
    record {
      few : i ≤ shape.rows;
      columns : chunks_size left ≡ shape.columns;
      rest : chunks_rest left ≡ drop (i * shape.columns) es;
      sums : l.sums ≡ places shape.lift (stair shape.lift shape.columns es l.message i);
      found : take (i * shape.lift) l.checks ≡ check_groups shape.lift shape.columns es l.message i;
    }
