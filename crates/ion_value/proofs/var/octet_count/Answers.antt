use Rattle.ion_value.proofs.Fields.{sevens-of}
use Rattle.ion_value.proofs.var.octet_count.Goals as goal

pub returns-clause-short : goal.returns-clause-short
returns-clause-short c = (sevens-of c.args.n c.requires.positive c.requires.in_range).short

pub returns-clause-enough : goal.returns-clause-enough
returns-clause-enough c = (sevens-of c.args.n c.requires.positive c.requires.in_range).enough

pub returns-clause-least : goal.returns-clause-least
returns-clause-least c = (sevens-of c.args.n c.requires.positive c.requires.in_range).least
