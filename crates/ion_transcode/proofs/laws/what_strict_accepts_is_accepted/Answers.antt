use Rattle.ion_transcode.proofs.StrictAccepted.{what-strict-accepts}
use Rattle.ion_transcode.proofs.laws.what_strict_accepts_is_accepted.Goals as goal

pub returns : goal.returns
returns c =
    what-strict-accepts c.limits_only_cut_short.ensures c.strict_is_read_alike.ensures c.what_is_accepted_is_read.ensures
    c.what_is_read_is_accepted.ensures
