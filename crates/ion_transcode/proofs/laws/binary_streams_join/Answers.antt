use Rattle.ion_transcode.proofs.JoinedStreams.{binary-streams-join}
use Rattle.ion_transcode.proofs.laws.binary_streams_join.Goals as goal

pub returns : goal.returns
returns c =
    binary-streams-join c.streams_are_read.ensures c.one_verdict.ensures c.what_is_accepted_is_read.ensures c.users_are_read.ensures c.whole_values_are_cut.ensures c.nothing_hangs_on_places.ensures.alone
    c.streams_begin_with_a_marker.ensures c.users_read_on.ensures c.users_hang_on_no_place.ensures.values c.what_is_resolved_is_accepted.ensures c.accepted_streams_lead_to_the_top.ensures
