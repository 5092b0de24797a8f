use Rattle.ion_transcode.proofs.WrittenAccepted.{written-binary}
use Rattle.ion_transcode.proofs.laws.written_binary_is_accepted.Goals as goal

pub returns : goal.returns
returns c =
    written-binary c.what_is_accepted_is_read.ensures c.what_is_read_is_accepted.ensures c.users_of_raw_values.ensures c.streams_are_raw.ensures c.streams_are_raw-2.ensures
    c.values_read_are_within_limits.ensures c.texts_of_users_are_short.ensures c.texts_within_fit.ensures c.the_form_is_read.ensures c.what_is_within_is_short.ensures
    c.what_is_written_is_within_limits.ensures c.what_is_written_is_resolved.ensures c.numbers_in_text_fit.ensures
