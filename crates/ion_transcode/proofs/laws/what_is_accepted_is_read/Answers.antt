use Rattle.ion_transcode.proofs.ReadWhole.{what-is-accepted-is-read}
use Rattle.ion_transcode.proofs.laws.what_is_accepted_is_read.Goals as goal

pub returns : goal.returns
returns c =
    what-is-accepted-is-read c.binary_is_sound.ensures c.text_is_sound.ensures c.what_is_accepted_is_resolved.ensures c.users_are_read.ensures
    c.faultless_paths_are_read.ensures c.items_are_refused_as_in_trees.ensures c.none_is_refused_within.ensures c.one_spelling.ensures
