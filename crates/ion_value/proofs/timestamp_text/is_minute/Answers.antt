use Rattle.std.proofs.Common.{codes, arith}
use Rattle.ion_value.proofs.Shapes.{shape-mask}
use Rattle.ion_value.proofs.timestamp_text.is_minute.Goals as goal

pub returns : goal.returns
returns c = shape-mask (codes "0000-00-00T00:00") c.args.bytes c.fits-bytes.0 (omega arith)
