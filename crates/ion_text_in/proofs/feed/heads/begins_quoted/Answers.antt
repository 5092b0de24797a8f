use Rattle.std.proofs.Common.{arith}
use Rattle.ion_text_in.proofs.FeedHeads.{quote-begins}
use Rattle.ion_text_in.proofs.feed.heads.begins_quoted.Goals as goal

pub returns-in-39 : goal.returns-in-39
returns-in-39 c other = quote-begins c.args.bytes.now c.in-39.len_at_least (omega arith) other
