use Rattle.ion_transcode.proofs.UserPaths.{faultless_paths_are_read}
use Rattle.ion_transcode.proofs.laws.faultless_paths_are_read.Goals as goal

pub returns : goal.returns
returns c = faultless_paths_are_read c.users_are_read.ensures c.open_users_are_read.ensures
