use Rattle.ion_transcode.proofs.Accepted.{what-is-read-is-accepted}
use Rattle.ion_transcode.proofs.laws.what_is_read_is_accepted.Goals as goal

pub returns : goal.returns
returns c =
    what-is-read-is-accepted c.streams_are_read.ensures c.users_are_read.ensures c.what_is_resolved_is_accepted.ensures
    c.none_is_refused_within.ensures c.each_text_is_that_of_items.ensures c.items_put_the_form.ensures
