use Rattle.std.proofs.Common.{rules, ◌≡◌, ◌-◌, length, Some, sym}
use Rattle.std.specs.Prelude.{slice_get}
use Rattle.ion_transcode.proofs.Judging.{ends_line-last}
use Rattle.ion_transcode.proofs.in_parts.cuts.ends_line.Goals as goal

pub returns-in-Some : goal.returns-in-Some
returns-in-Some c =
    let last : slice_get c.args.bytes.now (length c.args.bytes.now - 1) ≡ Some c.in-Some.byte.now = search rules in
    sym (ends_line-last c.args.bytes.now c.in-Some.byte.now last)
