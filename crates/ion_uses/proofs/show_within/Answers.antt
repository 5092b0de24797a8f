use Rattle.std.proofs.Common.{List, subst}
use Rattle.ion_symbols.specs.Table.{Shared}
use Rattle.ion_value.specs.Outcome.{Accepted, Rejected}
use Rattle.ion_transcode.specs.Verdict.{IsWritten}
use Rattle.ion_transcode.specs.declared.to.To.TheVariants as to
use Rattle.ion_uses.proofs.show_within.Goals as goal

-- what the run says, with an empty catalogue, is what is said of this call
pub returns-clause-shown : goal.returns-clause-shown
returns-clause-shown g c i s e =
    let input = c.args.input in
    let output = c.args.output in
    subst (λ (t : List Shared). IsWritten t c.args.limits to.Text (g.I.Input.rest input) (Accepted s.values)
    (g.O.Output.observable output) (g.O.Output.written output) (g.O.Output.written c.run-ran.result.2))
    c.new-catalog.ensures (c.run-ran.ensures.accepted i s e).1

pub returns-clause-refused : goal.returns-clause-refused
returns-clause-refused g c i r p e =
    let input = c.args.input in
    let output = c.args.output in
    subst (λ (t : List Shared). IsWritten t c.args.limits to.Text (g.I.Input.rest input) (Rejected r p)
    (g.O.Output.observable output) (g.O.Output.written output) (g.O.Output.written c.run-ran.result.2))
    c.new-catalog.ensures (c.run-ran.ensures.refused i r p e)
