use Rattle.std.proofs.Common.{arith}
use Rattle.ion_text_in.proofs.FeedHeads.{told-begins}
use Rattle.ion_text_in.proofs.feed.heads.token.Goals as goal

pub returns-in-1 : goal.returns-in-1
returns-in-1 c = told-begins c.requires (omega arith) c.in-1.is

pub returns-in-2 : goal.returns-in-2
returns-in-2 c = told-begins c.requires (omega arith) c.in-2.is

pub returns-in-3 : goal.returns-in-3
returns-in-3 c = told-begins c.requires (omega arith) c.in-3.is

pub returns-in-5 : goal.returns-in-5
returns-in-5 c = told-begins c.requires (omega arith) c.in-5.is

pub returns-in-6 : goal.returns-in-6
returns-in-6 c = told-begins c.requires (omega arith) c.in-6.is

pub returns-in-10 : goal.returns-in-10
returns-in-10 c = told-begins c.requires (omega arith) c.in-10.is
