use Rattle.ion_text_in.proofs.Tokens as whole
use Rattle.ion_text_in.proofs.laws.tokens_within_a_limit_are_read.Goals as goal

pub returns : goal.returns
returns c = whole.tokens-within
