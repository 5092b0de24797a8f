use Rattle.std.proofs.Common.{ℕ, length}
use Rattle.ion_text_in.specs.Blanks.{in_block}
use Rattle.ion_text_in.specs.Feeding.{LeadsTo}
use Rattle.ion_text_in.proofs.comments.after_block.Given as goal

abbrev pub invariant-block : goal.invariant-block
invariant-block l = (start : ℕ) → LeadsTo (in_block start) (in_block start) l.bytes l.rest

abbrev pub decreases-block : goal.decreases-block
decreases-block l = length l.rest
