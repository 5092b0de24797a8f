use Rattle.ion_transcode.proofs.TextOfValuesIsRead.{text-is-read}
use Rattle.ion_transcode.proofs.laws.text_is_read.Goals as goal

pub returns : goal.returns
returns c = text-is-read c.each_layout_is_read.ensures c.are_layouts.ensures.0
