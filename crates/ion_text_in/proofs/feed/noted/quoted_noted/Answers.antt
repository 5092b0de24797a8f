use Rattle.std.proofs.Common.{◌∙◌, List, ℕ, true, sym, ap}
use Rattle.std.specs.Prelude.{◌==◌}
use Rattle.ion_value.specs.Digits.{first_is}
use Rattle.ion_text_in.proofs.FeedHeads.{token-quoted}
use Rattle.ion_text_in.proofs.FeedNoted.{note-after, symbol-token}
use Rattle.ion_text_in.proofs.feed.noted.quoted_noted.Goals as goal

pub returns : goal.returns
returns c =
    let says = c.quoted_text.ensures in
    note-after c.args.start c.after_note.result (symbol-token true c.quoted_text.result says.place says.text (token-quoted c.in-Some.ensures c.requires.begins))
    says.says (ap (λ (l : List ℕ). first_is (λ b. b == 36) l) says.text ∙ (sym c.begins_dollar.ensures ∙ c.if-begins_dollar.false)) (c.after_note.ensures c.args.limits c.requires.room)
