use Rattle.std.proofs.Common.{arith}
use Rattle.std.proofs.lemmas.Grind.{common_steps}
use Rattle.ion_transcode.proofs.write.write.Goals as goal

pub returns-in-Nothing-clause-writes : goal.returns-in-Nothing-clause-writes
returns-in-Nothing-clause-writes g c = grind (arith, common_steps) steps 400000

pub returns-in-Text-clause-charges : goal.returns-in-Text-clause-charges
returns-in-Text-clause-charges g c = grind (arith, common_steps) steps 400000

pub returns-in-Binary-clause-causes : goal.returns-in-Binary-clause-causes
returns-in-Binary-clause-causes g c = grind (arith, common_steps)

pub returns-in-Text-clause-causes : goal.returns-in-Text-clause-causes
returns-in-Text-clause-causes g c = grind (arith, common_steps)

pub returns-in-Binary-clause-charges : goal.returns-in-Binary-clause-charges
returns-in-Binary-clause-charges g c = grind (arith, common_steps)

pub returns-in-Binary-clause-writes : goal.returns-in-Binary-clause-writes
returns-in-Binary-clause-writes g c = grind (arith, common_steps)

pub returns-in-Text-clause-writes : goal.returns-in-Text-clause-writes
returns-in-Text-clause-writes g c = grind (arith, common_steps)

pub release-requires-in-Binary : goal.release-requires-in-Binary
release-requires-in-Binary g c = grind (arith, common_steps)

pub release-requires : goal.release-requires
release-requires g c = grind (arith, common_steps)

pub copy_stream-outcome-requires-in-Binary-clause-writer : goal.copy_stream-outcome-requires-in-Binary-clause-writer
copy_stream-outcome-requires-in-Binary-clause-writer g c = grind (arith, common_steps)

pub returns-in-Nothing-clause-charges : goal.returns-in-Nothing-clause-charges
returns-in-Nothing-clause-charges g c = grind (arith, common_steps)

pub copy_stream-outcome-requires-in-Binary-clause-room : goal.copy_stream-outcome-requires-in-Binary-clause-room
copy_stream-outcome-requires-in-Binary-clause-room g c = grind (arith, common_steps)
