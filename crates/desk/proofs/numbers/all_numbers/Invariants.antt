use Rattle.std.proofs.Common.{◌≡◌, [], drop, length, take}
use Rattle.desk.specs.Numbers.{numbers_behind}
use Rattle.desk.specs.Words.{texts}
use Rattle.desk.proofs.numbers.all_numbers.Given as goal

abbrev pub invariant-loop-i : goal.invariant-loop-i
invariant-loop-i g l =
    (length l.numbers ≡ g.row.N)
    × (numbers_behind g.T.Written.value_of (take l.i l.numbers) (texts (drop l.i l.words))
    ≡ numbers_behind g.T.Written.value_of [] (texts l.fn.words))
