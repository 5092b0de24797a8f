use Rattle.ion_text_in.proofs.TokenBegins.{what-begins, where-none-begins, one-begins}
use Rattle.ion_text_in.proofs.laws.what_begins_a_token.Goals as goal

pub returns : goal.returns
returns c = record { computed = what-begins; none = where-none-begins; one = one-begins }
