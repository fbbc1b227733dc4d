use Rattle.std.proofs.Common.{◌≡◌, ℕ, ◌+◌, ◌%◌, Bool, false, length, get_or, sym, ap, ◌∙◌, arith}
use Rattle.std.proofs.Math.Nat.{mod-eq_of_lt}
use Rattle.std.proofs.lemmas.Nat.{mod_below}
use Rattle.staircase.specs.Staircase.{places, ◌⊕◌}
use Rattle.staircase.specs.Places.{get_or-places, length-places, places_is}
use Rattle.staircase.proofs.Rows.{moved_sums}
use Rattle.staircase.proofs.sums.add_moved.Goals as goal

pub returns-then-shift-eq0 : goal.returns-then-shift-eq0
returns-then-shift-eq0 c =
    let old = c.args.sums.now in
    let group = c.args.group.now in
    let n = length old in
    let none : c.args.shift ≡ 0 = omega arith in
    let sum : ℕ → Bool = λ r. get_or old r false ⊕ get_or group r false in
    c.add.ensures ∙ places_is (places n sum) n _ (length-places n sum)
    (λ r h.
    let here : (r + c.args.shift) % n ≡ r = ap (λ (q : ℕ). q % n) (omega arith) ∙ mod-eq_of_lt h in
    get_or-places n sum r h ∙ ap (λ (q : ℕ). get_or old r false ⊕ get_or group q false) (sym here))

pub returns : goal.returns
returns c =
    let old = c.args.sums.now in
    let group = c.args.group.now in
    let front = c.split_at.result.0.now in
    let back = c.split_at.result.1.now in
    let parts = c.split_at.ensures in
    let halves = c.split_at_mut-low.ensures in
    let s = c.args.shift % length group in
    let turn : s ≡ c.args.shift % length old = ap (λ (n : ℕ). c.args.shift % n) c.requires.same in
    let few = mod_below c.args.shift (length group) (omega arith) in
    moved_sums old group c.split_at_mut-low.result.0.now c.split_at_mut-low.result.1.now front back c.args.shift s (length back) c.add-2.new.sums c.add-3.new.sums
    turn (omega arith) (omega arith) parts.front parts.back halves.front halves.back c.add-2.ensures c.add-3.ensures
