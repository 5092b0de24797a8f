use Rattle.ion_transcode.proofs.AcceptedAgain.{each-shown-text-is-accepted}
use Rattle.ion_transcode.proofs.laws.each_shown_text_is_accepted.Goals as goal

pub returns : goal.returns
returns c =
    each-shown-text-is-accepted c.what_is_accepted_is_read.ensures c.one_spelling.ensures c.values_of_streams.ensures
    c.what_is_read_is_no_deeper.ensures c.each_layout_is_read_within.ensures c.are_layouts.ensures c.what_is_read_is_accepted.ensures
