use Rattle.std.proofs.Common.{◌≡◌, None, ap}
use Rattle.messages.specs.Endings.{last_of, total_of}
use Rattle.messages.proofs.collecting.Collector.new.Goals as goal

pub returns : goal.returns
returns c =
    let items = c.in_ok-vec.ensures.items_if_clones_equal (λ y e. e) in
    let last : last_of c.none.result.ending ≡ None = ap last_of c.none.ensures.ending in
    let total : total_of c.none.result.ending ≡ 0 = ap total_of c.none.ensures.ending in
    cc
