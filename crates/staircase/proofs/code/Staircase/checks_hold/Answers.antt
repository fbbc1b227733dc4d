use Rattle.std.proofs.Common.{◌≡◌, ◌+◌, ◌-◌, ◌*◌, ◌≤◌, min, length, take, drop, vec_items, sym, refl, ◌∙◌, add-mul, zero-mul, arith, rules}
use Rattle.std.specs.Iterator.Adapters.{enumerate_count, enumerate_source}
use Rattle.std.specs.Slice.Iter.{chunks_rest}
use Rattle.std.proofs.lemmas.Nat.{mul-le}
use Rattle.std.proofs.lemmas.Bool.{false≢true}
use Rattle.std.proofs.lemmas.List.{take_all}
use Rattle.staircase.specs.Coding.{word_size}
use Rattle.staircase.specs.Groups.{group, length-group, groups_found, stair_none, stair_more, sums_more}
use Rattle.staircase.specs.Holding.{group_from_word, hold_from_word, word_from_checks, word_from_hold}
use Rattle.staircase.proofs.Compare.{apart_from_ne, same_from_ne}
use Rattle.staircase.proofs.Rows.{row_taken, rows_done, some_columns}
use Rattle.staircase.proofs.code.Staircase.checks_hold.Goals as goal

pub loop-i-init : goal.loop-i-init
loop-i-init c =
    let code = c.args.self.now in
    let shape = code.shape in
    let none : enumerate_count c.into_iter-i-iterator.result ≡ 0 = search rules in
    record {
      few = omega arith;
      columns = search rules;
      rest = rw (none, zero-mul shape.columns) (search rules);
      sums = rw none (stair_none shape.lift shape.columns (vec_items code.exponents) c.split_at.result.0.now 160 shape.lifted.1);
      found = rw (none, zero-mul shape.lift);
    }

pub add_row-requires-clause-size : goal.add_row-requires-clause-size
add_row-requires-clause-size c =
    let code = c.args.self.now in
    let shape = code.shape in
    let i = c.in-Some.i in
    let inv = c.loop-i.invariant in
    let steps = c.in-Some.ensures.steps in
    let few : i ≤ shape.rows = omega arith in
    let least : length c.in-Some.row.now ≡ min shape.columns (length (chunks_rest (enumerate_source c.loop-i.i-iterator))) = rw inv.columns at steps.0.1.1 in
    let row = row_taken shape.columns (vec_items code.exponents) (chunks_rest (enumerate_source c.loop-i.i-iterator)) c.in-Some.row.now (chunks_rest (enumerate_source c.next.new.self)) shape.rows i
    code.filled.0 few (rw (sym steps.1) at inv.rest) steps.0.1.0 least (omega arith) in
    rw row.size (search rules)

pub slice_bounds-ne-end : goal.slice_bounds-ne-end
slice_bounds-ne-end c =
    let code = c.args.self.now in
    let shape = code.shape in
    let es = vec_items code.exponents in
    let i = c.in-Some.i in
    let inv = c.loop-i.invariant in
    let steps = c.in-Some.ensures.steps in
    let few : i ≤ shape.rows = omega arith in
    let least : length c.in-Some.row.now ≡ min shape.columns (length (chunks_rest (enumerate_source c.loop-i.i-iterator))) = rw inv.columns at steps.0.1.1 in
    let row = row_taken shape.columns es (chunks_rest (enumerate_source c.loop-i.i-iterator)) c.in-Some.row.now (chunks_rest (enumerate_source c.next.new.self)) shape.rows i
    code.filled.0 few (rw (sym steps.1) at inv.rest) steps.0.1.0 least (omega arith) in
    let before = row.before in
    let most = mul-le (i + 1) shape.lift shape.rows shape.lift (omega arith) (omega arith) in
    let sum = add-mul shape.columns shape.rows shape.lift in
    search rules

pub loop-i-preserved : goal.loop-i-preserved
loop-i-preserved c =
    let code = c.args.self.now in
    let shape = code.shape in
    let es = vec_items code.exponents in
    let message = c.split_at.result.0.now in
    let checks = c.split_at.result.1.now in
    let i = c.in-Some.i in
    let inv = c.loop-i.invariant in
    let steps = c.in-Some.ensures.steps in
    let few : i ≤ shape.rows = omega arith in
    let least : length c.in-Some.row.now ≡ min shape.columns (length (chunks_rest (enumerate_source c.loop-i.i-iterator))) = rw inv.columns at steps.0.1.1 in
    let row = row_taken shape.columns es (chunks_rest (enumerate_source c.loop-i.i-iterator)) c.in-Some.row.now (chunks_rest (enumerate_source c.next.new.self)) shape.rows i
    code.filled.0 few (rw (sym steps.1) at inv.rest) steps.0.1.0 least (omega arith) in
    let one : (i + 1) * shape.lift - i * shape.lift ≡ shape.lift = omega (arith, add-mul i 1 shape.lift) in
    let sums = sums_more shape.lift shape.columns es message c.in-Some.row.now c.loop-i.sums c.add_row.new.sums i (rw (sym steps.1) at inv.sums) row.row c.add_row.ensures in
    let same = same_from_ne _ _ c.ne.result c.ne.ensures c.if-ne.false in
    let now : enumerate_count c.next.new.self ≡ i + 1 = omega arith in
    let before = row.before in
    record {
      few = omega arith;
      columns = omega arith;
      rest = rw now row.rest;
      sums = rw now (sums ∙ sym (stair_more shape.lift shape.columns es message i));
      found = rw now (groups_found shape.lift (group shape.lift shape.columns es message) (length-group shape.lift shape.columns es message)
          checks c.add_row.new.sums i _ one (rw (sym steps.1) at inv.found) sums same);
    }

pub returns-then-ne : goal.returns-then-ne
returns-then-ne c =
    let code = c.args.self.now in
    let shape = code.shape in
    let es = vec_items code.exponents in
    let bits = c.args.bits.now in
    let message = c.split_at.result.0.now in
    let checks = c.split_at.result.1.now in
    let size : length bits ≡ word_size code = search rules in
    let front : message ≡ take (shape.columns * shape.lift) bits = rw c.message_length.ensures at c.split_at.ensures.front in
    let back : checks ≡ drop (shape.columns * shape.lift) bits = rw c.message_length.ensures at c.split_at.ensures.back in
    let word = word_from_hold shape.lift shape.rows shape.columns es bits size in
    let hold = hold_from_word shape.lift shape.rows shape.columns es bits size shape.shaped.0 in
    let i = c.in-Some.i in
    let inv = c.loop-i.invariant in
    let steps = c.in-Some.ensures.steps in
    let few : i ≤ shape.rows = omega arith in
    let least : length c.in-Some.row.now ≡ min shape.columns (length (chunks_rest (enumerate_source c.loop-i.i-iterator))) = rw inv.columns at steps.0.1.1 in
    let row = row_taken shape.columns es (chunks_rest (enumerate_source c.loop-i.i-iterator)) c.in-Some.row.now (chunks_rest (enumerate_source c.next.new.self)) shape.rows i
    code.filled.0 few (rw (sym steps.1) at inv.rest) steps.0.1.0 least (omega arith) in
    let before = row.before in
    let one : (i + 1) * shape.lift - i * shape.lift ≡ shape.lift = omega (arith, add-mul i 1 shape.lift) in
    let sums = sums_more shape.lift shape.columns es message c.in-Some.row.now c.loop-i.sums c.add_row.new.sums i (rw (sym steps.1) at inv.sums) row.row c.add_row.ensures in
    let other = apart_from_ne _ _ c.ne.result c.ne.ensures c.if-ne.true in
    record {
      checks = (
        λ no. absurd (false≢true no),
        λ h. absurd (other (sums ∙ group_from_word shape.lift shape.rows shape.columns es bits size message checks front back (word h.1) i _ before one)),
      );
      words = λ h. (word, hold);
    }

pub returns : goal.returns
returns c =
    let code = c.args.self.now in
    let shape = code.shape in
    let es = vec_items code.exponents in
    let bits = c.args.bits.now in
    let message = c.split_at.result.0.now in
    let checks = c.split_at.result.1.now in
    let size : length bits ≡ word_size code = search rules in
    let front : message ≡ take (shape.columns * shape.lift) bits = rw c.message_length.ensures at c.split_at.ensures.front in
    let back : checks ≡ drop (shape.columns * shape.lift) bits = rw c.message_length.ensures at c.split_at.ensures.back in
    let word = word_from_hold shape.lift shape.rows shape.columns es bits size in
    let hold = hold_from_word shape.lift shape.rows shape.columns es bits size shape.shaped.0 in
    let left = c.loop-i.i-iterator in
    let inv = c.loop-i.invariant in
    let none : length (chunks_rest (enumerate_source left)) ≡ 0 = c.in-None.ensures.steps.0.1.0 in
    let end : enumerate_count left ≡ shape.rows = rows_done shape.columns es (chunks_rest (enumerate_source left)) shape.rows (enumerate_count left) (some_columns shape.rows shape.columns shape.shaped) code.filled.0 inv.few inv.rest none in
    let all = take_all (shape.rows * shape.lift) checks (omega (arith, add-mul shape.columns shape.rows shape.lift)) in
    let found = rw (end, all) at inv.found in
    record {
      checks = (λ yes. (size, hold (word_from_checks shape.lift shape.rows shape.columns es bits size message checks front back found)), λ h. refl);
      words = λ h. (word, hold);
    }
