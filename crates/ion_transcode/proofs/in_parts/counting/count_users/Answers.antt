use Rattle.std.proofs.Common.{rules, ◌≡◌, ◌-◌, ◌^◌, ◌<◌, ℕ, Result, Ok, Err, None, [], subst, sym}
use Rattle.std.specs.Result.{IfOk}
use Rattle.ion_meter.specs.declared.fault.Fault.{Fault}
use Rattle.ion_value.specs.Reading.{items_of}
use Rattle.ion_symbols.specs.Users.{at_start, users}
use Rattle.ion_transcode.specs.PartCalls.{HasTaken}
use Rattle.ion_transcode.proofs.PartItems.{has-count, rejected-stops}
use Rattle.ion_transcode.proofs.in_parts.counting.count_users.Goals as goal

pub returns-in-Ok-clause-counts : goal.returns-in-Ok-clause-counts
returns-in-Ok-clause-counts g c = λ o n e.
    let copied = c.copy_stream-outcome.ensures in
    let counter = c.copy_stream-outcome.new.writer in
    let all = users c.args.catalog.now c.args.limits.symbols at_start (g.R.RawReader.reading c.args.raw) in
    let stands : (counter.writer.failed ≡ None) × HasTaken (items_of all) counter.items counter.is_firm = search rules in
    let is = subst (λ (t : Result ℕ Fault). IfOk t (λ m. (m ≡ counter.items) × (m < 2 ^ 64 - 1))) e c.taken.ensures.items in
    has-count all c.in-Ok.field-0 n counter.is_firm ((copied.says o).accepted c.in-Ok.field-0 c.in-Ok.is) (subst (λ (m : ℕ). HasTaken (items_of all) m counter.is_firm) (sym is.0) stands.1) is.1

pub returns-in-Err-clause-refuses : goal.returns-in-Err-clause-refuses
returns-in-Err-clause-refuses g c = λ o r p e.
    let all = users c.args.catalog.now c.args.limits.symbols at_start (g.R.RawReader.reading c.args.raw) in
    rejected-stops [] all r p ((c.copy_stream-outcome.ensures.says o).rejected r p (search rules))
