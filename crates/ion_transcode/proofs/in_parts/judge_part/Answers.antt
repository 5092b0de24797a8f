use Rattle.std.proofs.Common.{ℕ, List, append-nil, subst, ◌∙◌}
use Rattle.ion_transcode.specs.Forms.{reading_of}
use Rattle.ion_transcode.specs.PartCalls.{HasCount}
use Rattle.ion_transcode.proofs.Judging.{has-count, unknown-stretch}
use Rattle.ion_transcode.proofs.in_parts.judge_part.Goals as goal

pub judge_behind-requires-clause-before : goal.judge_behind-requires-clause-before
judge_behind-requires-clause-before g c =
    let reads = c.args.reads in
    let kept = c.args.kept.now in
    subst (λ (b : List ℕ). HasCount (reading_of reads.profile reads.form reads.limits b) c.in-Ok.counted.items) (c.new.ensures ∙ append-nil kept)
    (has-count {r = reading_of reads.profile reads.form reads.limits c.new.result} (c.count.ensures.counts c.in-Ok.counted c.in-Ok.is))

pub returns-in-Err-clause-stretch : goal.returns-in-Err-clause-stretch
returns-in-Err-clause-stretch g c = λ what e. unknown-stretch what (c.unknown.ensures.other what e)
