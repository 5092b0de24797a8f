use Rattle.ion_transcode.proofs.ReadAgain.{there-and-back}
use Rattle.ion_transcode.proofs.laws.there_and_back.Goals as goal

pub returns : goal.returns
returns c =
    there-and-back c.what_is_accepted_is_read.ensures c.what_is_read_is_accepted.ensures c.users_of_raw_values.ensures
    c.streams_are_raw.ensures c.streams_are_raw-2.ensures c.the_form_is_read.ensures c.what_is_within_is_short.ensures
    c.one_spelling.ensures
