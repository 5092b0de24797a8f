use Rattle.ion_float.proofs.Reading.{some_digits}
use Rattle.ion_float.proofs.shortest.shortest.Goals as goal

pub returns-then-is_shortest-clause-some : goal.returns-then-is_shortest-clause-some
returns-then-is_shortest-clause-some c =
    let found = c.guess-found.result in
    some_digits found.digits found.row c.args.bits c.requires (c.is_shortest.ensures.exact.0 c.if-is_shortest.true)

pub returns-else-is_shortest-clause-some : goal.returns-else-is_shortest-clause-some
returns-else-is_shortest-clause-some c = let found = c.search_down in some_digits found.result.digits found.result.row c.args.bits c.requires found.ensures.exact
