use Rattle.std.proofs.Common.{◌≡◌, ℕ, ◌<◌, ◌≤◌, false, slice_index_or}
use Rattle.staircase.specs.Staircase.{◌⊕◌}
use Rattle.staircase.proofs.sums.add.Given as goal

-- the sums before the place r are written, the others as they were
abbrev pub invariant-loop-r : goal.invariant-loop-r
invariant-loop-r l =
    record {
      written : (k : ℕ) → k < l.r → slice_index_or l.sums k false ≡ slice_index_or l.initial.sums k false ⊕ slice_index_or l.bits k false;
      left : (k : ℕ) → l.r ≤ k → slice_index_or l.sums k false ≡ slice_index_or l.initial.sums k false;
    }
