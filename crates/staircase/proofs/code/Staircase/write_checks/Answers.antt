use Rattle.std.proofs.Common.{◌≡◌, ◌+◌, ◌-◌, ◌*◌, ◌≤◌, min, length, vec_items, sym, ◌∙◌, add-mul, zero-mul, arith, rules}
use Rattle.std.specs.Iterator.Adapters.{enumerate_count, enumerate_source}
use Rattle.std.specs.Slice.Iter.{chunks_rest}
use Rattle.std.proofs.lemmas.List.{append-nil, drop_all}
use Rattle.staircase.specs.Groups.{group, length-group, groups_put, stair_none, stair_more, sums_more}
use Rattle.staircase.proofs.Rows.{row_taken, rows_done, some_columns}
use Rattle.staircase.proofs.code.Staircase.write_checks.Goals as goal

pub loop-i-init : goal.loop-i-init
loop-i-init c =
    let code = c.args.self.now in
    let shape = code.shape in
    let none : enumerate_count c.into_iter-i-iterator.result ≡ 0 = search rules in
    record {
      few = omega arith;
      columns = search rules;
      rest = rw (none, zero-mul shape.columns) (search rules);
      sums = rw none (stair_none shape.lift shape.columns (vec_items code.exponents) c.args.message.now 160 shape.lifted.1);
      written = rw (none, zero-mul shape.lift);
    }

pub add_row-requires-clause-size : goal.add_row-requires-clause-size
add_row-requires-clause-size c =
    let code = c.args.self.now in
    let shape = code.shape in
    let i = c.in-Some.i in
    let inv = c.loop-i.invariant in
    let steps = c.in-Some.ensures.steps in
    let few : i ≤ shape.rows = omega arith in
    let least : length c.in-Some.row.now ≡ min shape.columns (length (chunks_rest (enumerate_source c.loop-i.i-iterator))) = rw inv.columns at steps.0.1.1 in
    let row = row_taken shape.columns (vec_items code.exponents) (chunks_rest (enumerate_source c.loop-i.i-iterator)) c.in-Some.row.now (chunks_rest (enumerate_source c.next.new.self)) shape.rows i
    code.filled.0 few (rw (sym steps.1) at inv.rest) steps.0.1.0 least (omega arith) in
    rw row.size c.requires.size

pub loop-i-preserved : goal.loop-i-preserved
loop-i-preserved c =
    let code = c.args.self.now in
    let shape = code.shape in
    let es = vec_items code.exponents in
    let message = c.args.message.now in
    let i = c.in-Some.i in
    let inv = c.loop-i.invariant in
    let steps = c.in-Some.ensures.steps in
    let few : i ≤ shape.rows = omega arith in
    let least : length c.in-Some.row.now ≡ min shape.columns (length (chunks_rest (enumerate_source c.loop-i.i-iterator))) = rw inv.columns at steps.0.1.1 in
    let row = row_taken shape.columns es (chunks_rest (enumerate_source c.loop-i.i-iterator)) c.in-Some.row.now (chunks_rest (enumerate_source c.next.new.self)) shape.rows i
    code.filled.0 few (rw (sym steps.1) at inv.rest) steps.0.1.0 least (omega arith) in
    let one : (i + 1) * shape.lift - i * shape.lift ≡ shape.lift = omega (arith, add-mul i 1 shape.lift) in
    let sums = sums_more shape.lift shape.columns es message c.in-Some.row.now c.loop-i.sums c.add_row.new.sums i (rw (sym steps.1) at inv.sums) row.row c.add_row.ensures in
    let now : enumerate_count c.next.new.self ≡ i + 1 = omega arith in
    let before = row.before in
    record {
      few = omega arith;
      columns = omega arith;
      rest = rw now row.rest;
      sums = rw now (sums ∙ sym (stair_more shape.lift shape.columns es message i));
      written = rw now (groups_put shape.lift (group shape.lift shape.columns es message) (length-group shape.lift shape.columns es message)
          c.args.checks.now c.loop-i.checks c.copy_from_slice.new.self i _ one (rw (sym steps.1) at inv.written) (c.copy_from_slice.ensures.after ∙ sums));
    }

pub returns : goal.returns
returns c =
    let code = c.args.self.now in
    let shape = code.shape in
    let left = c.loop-i.i-iterator in
    let inv = c.loop-i.invariant in
    let none : length (chunks_rest (enumerate_source left)) ≡ 0 = c.in-None.ensures.steps.0.1.0 in
    let end : enumerate_count left ≡ shape.rows = rows_done shape.columns (vec_items code.exponents) (chunks_rest (enumerate_source left)) shape.rows (enumerate_count left) (some_columns shape.rows shape.columns shape.shaped) code.filled.0 inv.few inv.rest none in
    let checks = c.args.checks.now in
    let past = drop_all (shape.rows * shape.lift) checks (omega arith) in
    rw (end, past, append-nil) at inv.written
