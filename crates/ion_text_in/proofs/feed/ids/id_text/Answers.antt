use Rattle.std.proofs.Common.{ℕ, List, ap, sym, subst, ◌∙◌}
use Rattle.std.specs.Prelude.{Some}
use Rattle.ion_value.specs.Name.{IsQuotedAs}
use Rattle.ion_value.specs.declared.quoting.Quoting.{Quoting}
use Rattle.ion_text_in.proofs.FeedIds.{id-shown}
use Rattle.ion_text_in.proofs.feed.ids.id_text.Goals as goal

pub returns-in-Some-bare_text : goal.returns-in-Some-bare_text
returns-in-Some-bare_text g c =
    let a = c.args in
    let w = c.in-Whole-Id-default in
    let found = c.in-Some in
    let bare = c.in-Some-bare_text in
    let text = bare.text.now in
    let same = sym bare.ensures.text in
    let as_it_stands = subst (λ (q : Quoting). IsQuotedAs q text) bare.ensures.bare (subst (λ (t : List ℕ). IsQuotedAs found.name.quoting t) same found.ensures.1) in
    id-shown (g.N.Names.text a.names.now) a.limit a.bytes.now text w.field-0 w.id w.count c.requires w.ensures.shows w.field-0-is (found.ensures.0 ∙ ap (λ (t : List ℕ). Some t) same) as_it_stands
