use Rattle.ion_text_in.proofs.RawTokens as whole
use Rattle.ion_text_in.proofs.laws.tokens_are_raw.Goals as goal

pub returns : goal.returns
returns c = whole.tokens-are_raw
