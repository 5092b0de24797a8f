use Rattle.std.proofs.Common.{◌∙◌, ◌<◌, ℕ, List, refl, false, ap, arith}
use Rattle.ion_value.specs.declared.plain_item.TextAt.{TextAt}
use Rattle.ion_value.specs.Name.{is_simple}
use Rattle.ion_text_in.proofs.FeedHeads.{told-begins, token-word}
use Rattle.ion_text_in.proofs.FeedNames.{may-word, name-token, named-start, symbol-names}
use Rattle.ion_text_in.proofs.feed.names.field_start.Goals as goal

pub returns : goal.returns
returns c =
    let a = c.args in
    let told = c.if-next-ne-WORD.false in
    let some : 0 < a.next.told = omega (arith, told) in
    let begins = c.requires some in
    let word = c.in-Some.ensures in
    let name : TextAt = record { text = c.front.result; code = 0; place = a.place } in
    named-start name c.after_name.result
    (name-token (token-word c.after.ensures word (told-begins begins (omega arith) told)) may-word
    (symbol-names a.limits a.place false name _ refl c.front.ensures))
    (ap (λ (l : List ℕ). is_simple l) c.front.ensures ∙ word.simple) begins.some c.after_name.ensures
