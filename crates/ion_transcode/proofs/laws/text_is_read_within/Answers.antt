use Rattle.ion_transcode.proofs.TextOfValuesIsRead.{text-is-read-within}
use Rattle.ion_transcode.proofs.laws.text_is_read_within.Goals as goal

pub returns : goal.returns
returns c = text-is-read-within c.each_layout_is_read_within.ensures c.are_layouts.ensures.0
