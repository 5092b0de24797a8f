use Rattle.std.proofs.Common.{◌∙◌, ℕ, List, false, refl, ap}
use Rattle.ion_value.specs.declared.plain_item.TextAt.{TextAt}
use Rattle.ion_value.specs.Name.{is_simple}
use Rattle.ion_text_in.proofs.FeedHeads.{simple-free, token-word}
use Rattle.ion_text_in.proofs.FeedNoted.{note-after, symbol-token}
use Rattle.ion_text_in.proofs.feed.noted.noted.Goals as goal

pub returns : goal.returns
returns c = λ limits word room.
    let a = c.args in
    let note : TextAt = record { text = c.front.result; code = 0; place = a.place } in
    let simple = ap (λ (l : List ℕ). is_simple l) c.front.ensures ∙ word.simple in
    note-after c.args.start c.after_note.result (symbol-token false note refl c.front.ensures (token-word c.after.ensures word c.requires.begins))
    simple (simple-free c.front.result.now simple) (c.after_note.ensures limits room)
