use Rattle.std.proofs.Common.{length}
use Rattle.ion_text_in.specs.Blanks.{blanks_at}
use Rattle.ion_text_in.specs.Feeding.{LeadsTo}
use Rattle.ion_text_in.proofs.comments.after_comments.Given as goal

abbrev pub invariant-blanks : goal.invariant-blanks
invariant-blanks l = LeadsTo blanks_at blanks_at l.bytes l.rest

abbrev pub decreases-blanks : goal.decreases-blanks
decreases-blanks l = length l.rest
