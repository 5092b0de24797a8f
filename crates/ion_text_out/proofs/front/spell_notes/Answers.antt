use Rattle.ion_text_out.proofs.Below.{Option, Some, None, IfSome, IsRightlyQuoted, StandsAfter, TextAt}
use Rattle.ion_text_out.proofs.front.spell_notes.Goals as goal

second_quoted : (annotation second : Option TextAt) → IfSome second (StandsAfter annotation) → IfSome second IsRightlyQuoted
second_quoted annotation None after = after
second_quoted None (Some s) after = absurd after
second_quoted (Some t) (Some s) after = after

pub spell-requires-2 : goal.spell-requires-2
spell-requires-2 c = second_quoted c.args.annotation c.args.second c.requires.second
