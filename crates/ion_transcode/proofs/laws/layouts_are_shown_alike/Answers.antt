use Rattle.ion_transcode.proofs.ReadAgain.{layouts-are-shown-alike}
use Rattle.ion_transcode.proofs.laws.layouts_are_shown_alike.Goals as goal

pub returns : goal.returns
returns c =
    layouts-are-shown-alike c.what_is_accepted_is_read.ensures c.values_of_streams.ensures c.each_layout_is_read.ensures c.are_layouts.ensures
    c.one_spelling.ensures c.one_stream.ensures
