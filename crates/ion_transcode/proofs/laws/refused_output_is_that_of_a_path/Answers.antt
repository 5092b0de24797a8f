use Rattle.ion_transcode.proofs.UserPaths.{refused_output_is_that_of_a_path}
use Rattle.ion_transcode.proofs.laws.refused_output_is_that_of_a_path.Goals as goal

pub returns : goal.returns
returns c = refused_output_is_that_of_a_path c.faultless_paths_are_read.ensures c.each_text_is_that_of_items.ensures
