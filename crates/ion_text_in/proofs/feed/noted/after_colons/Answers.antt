use Rattle.std.proofs.Common.{◌∙◌, ℕ, List, refl, sym, subst}
use Rattle.ion_text_in.specs.Feeding.{IsNext}
use Rattle.ion_text_in.proofs.FeedNames.{next-begins, not-empty}
use Rattle.ion_text_in.proofs.feed.noted.after_colons.Goals as goal

pub returns : goal.returns
returns c =
    let colons = c.if-not-shows_colons.ensures in
    let value = c.next_told-value.result in
    let is = subst (λ (l : List ℕ). IsNext l value) c.after.ensures c.next_told-value.ensures in
    let some = not-empty value.rest.now (sym c.is_empty.ensures ∙ c.if-is_empty.false) in
    record {
      two = colons.some refl;
      shown = colons.begins refl;
      passes = is.passes some;
      begins = next-begins is some;
    }
