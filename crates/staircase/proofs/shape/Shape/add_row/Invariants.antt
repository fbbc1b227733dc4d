use Rattle.std.proofs.Common.{◌≡◌, ℕ, ◌*◌, ◌<◌, false, length, slice_index_or}
use Rattle.std.specs.Iterator.Adapters.{zip_first, zip_second}
use Rattle.std.specs.Slice.Iter.{iter_rest, chunks_rest, chunks_size}
use Rattle.staircase.specs.Staircase.{row_sum, ◌⊕◌}
use Rattle.staircase.proofs.shape.Shape.add_row.Given as goal

-- with the sum of the columns that are left, the sums are the whole row's
abbrev pub invariant-loop-exponent : goal.invariant-loop-exponent
invariant-loop-exponent l =
    record {
      lift : chunks_size (zip_second l.exponent-iterator) ≡ l.fn.self.lift;
      size : length (chunks_rest (zip_second l.exponent-iterator)) ≡ length (iter_rest (zip_first l.exponent-iterator)) * l.fn.self.lift;
      sums : (r : ℕ) → r < l.fn.self.lift
          → slice_index_or l.sums r false ⊕ row_sum l.fn.self.lift (iter_rest (zip_first l.exponent-iterator)) (chunks_rest (zip_second l.exponent-iterator)) r
          ≡ slice_index_or l.initial.sums r false ⊕ row_sum l.fn.self.lift l.exponents l.message r;
    }
