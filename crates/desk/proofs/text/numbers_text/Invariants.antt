use Rattle.std.proofs.Common.{◌≡◌, [], ◌∷◌, All, IsSome, unwrap_or, take}
use Rattle.std.specs.List.{flat_map}
use Rattle.std.specs.String.{string_bytes}
use Rattle.desk.proofs.text.numbers_text.Given as goal

abbrev pub invariant-loop-n : goal.invariant-loop-n
invariant-loop-n g l =
    All (λ n. IsSome (g.T.Display.output n)) l.numbers →
    string_bytes l.text ≡ flat_map (λ n. 32 ∷ unwrap_or (g.T.Display.output n) []) (take l.n-index l.numbers)
