use Rattle.ion_transcode.specs.declared.in_parts.Stretch.TheVariants as stretches
use Rattle.ion_transcode.proofs.Judging.{as-chosen, chosen-nothing}
use Rattle.ion_transcode.proofs.in_parts.judge.Goals as goal

pub returns-then-is_empty-clause-chosen : goal.returns-then-is_empty-clause-chosen
returns-then-is_empty-clause-chosen g c = λ k e. as-chosen (record { cut = 0; stretch = stretches.Other }) k chosen-nothing e
