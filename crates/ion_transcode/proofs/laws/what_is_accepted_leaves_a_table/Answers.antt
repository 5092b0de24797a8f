use Rattle.ion_transcode.proofs.KeptBytes.{what-is-accepted-leaves-a-table}
use Rattle.ion_transcode.proofs.laws.what_is_accepted_leaves_a_table.Goals as goal

pub returns : goal.returns
returns c =
    what-is-accepted-leaves-a-table c.what_is_accepted_is_read.ensures c.users_are_read.ensures c.what_is_resolved_is_accepted.ensures c.accepted_streams_lead_to_the_top.ensures
