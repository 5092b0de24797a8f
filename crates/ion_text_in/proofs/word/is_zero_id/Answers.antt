use Rattle.std.proofs.Common.{◌∙◌, sym, arith}
use Rattle.std.proofs.lemmas.Bool.{not-true}
use Rattle.ion_text_in.proofs.FeedIds.{zero-id}
use Rattle.ion_text_in.proofs.word.is_zero_id.Goals as goal

pub returns-then-limit-ge2 : goal.returns-then-limit-ge2
returns-then-limit-ge2 c other = zero-id c.args.limit c.args.bytes.now c.in-36.len_at_least (omega arith) (omega arith) (sym c.is_identifier_byte.ensures ∙ not-true _ other) c.if-limit-ge2.true
