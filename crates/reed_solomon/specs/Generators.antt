-- Generators by their roots.
use Rattle.std.specs.Prelude.{ℕ, zero, suc, List, [], ◌∷◌, ◌++◌, map}
use Rattle.reed_solomon.specs.Field.{raised}
use Rattle.reed_solomon.specs.Words.{added}

-- (X + α)(X + α^2)…(X + α^r), without its leading 1: X + α^(r+1) takes each coefficient up by one place
-- and adds α^(r+1) times all of them
unfoldable pub generator_of : ℕ → List ℕ
generator_of zero = []
generator_of (suc r) = added (generator_of r ++ 0 ∷ []) (map (raised (suc r)) (1 ∷ generator_of r))
