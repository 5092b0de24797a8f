use Rattle.ion_text_in.proofs.Meaning as whole
use Rattle.ion_text_in.proofs.laws.id_is_read.Goals as goal

pub returns : goal.returns
returns c = record { words = whole.id_word-means; ids = whole.id-means }
