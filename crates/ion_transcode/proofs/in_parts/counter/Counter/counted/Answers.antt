use Rattle.std.proofs.Common.{◌≡◌, subst, ◌∙◌, arith}
use Rattle.ion_transcode.specs.declared.in_parts.counting.Counted.{Counted}
use Rattle.ion_transcode.specs.PartCalls.{AreCounted}
use Rattle.ion_transcode.proofs.in_parts.counter.Counter.counted.Goals as goal

pub returns-in-Ok-clause-counts : goal.returns-in-Ok-clause-counts
returns-in-Ok-clause-counts c = λ k e path has at known.
    let is = c.in-Ok.ensures.items in
    let all = has (omega (arith, is.0, is.1)) in
    let same : record { items = c.in-Ok.items; is_firm = c.args.self.now.is_firm; is_marked = c.args.is_marked } ≡ k = cc e in
    subst (λ (x : Counted). AreCounted at path x) same (record { count = is.0 ∙ all.0; firm = all.1; marked = known })
