use Rattle.std.proofs.Common.{◌≡◌, sym, ◌∙◌, rules, tests}
use Rattle.std.specs.Char.{is_ascii_hexdigit}
use Rattle.std.specs.List.{list_all}
use Rattle.std.proofs.lemmas.Iterator.{YieldsList-from_slice}
use Rattle.std.proofs.lemmas.Iterator.Search.{all_from_yields_List}
use Rattle.desk.proofs.HexWords.{no_number}
use Rattle.desk.proofs.digits.bytes_of.Goals as goal

pub returns-then-not-all : goal.returns-then-not-all
returns-then-not-all c =
    let digits = c.args.digits.now in
    let all : c.all.result ≡ list_all is_ascii_hexdigit digits =
    all_from_yields_List is_ascii_hexdigit _ _ c.all.result c.all.ensures.ran (YieldsList-from_slice digits cc) (λ x b q k. search (rules, tests)) in
    λ _. no_number digits (sym all ∙ c.if-not-all.true)
