use Rattle.std.proofs.Common.{sym}
use Rattle.std.proofs.lemmas.List.{append-nil}
use Rattle.ion_transcode.proofs.nothing.NoWriterValueWriter.take_plain.Goals as goal

pub returns-clause-puts : goal.returns-clause-puts
returns-clause-puts g c _ path stands continues = sym (append-nil c.args._sink.now.pending)
