use Rattle.std.proofs.Common.{◌∙◌, List, ℕ, refl, sym, subst}
use Rattle.ion_text_in.specs.Feeding.{IsNext}
use Rattle.ion_text_in.proofs.FeedNames.{next-begins, not-empty}
use Rattle.ion_text_in.proofs.feed.names.after_name.Goals as goal

pub returns : goal.returns
returns c =
    let colon = c.in-Some.colon.now in
    let value = c.next_told-value.result in
    let is = subst (λ (l : List ℕ). IsNext l value) c.after.ensures c.next_told-value.ensures in
    let some = not-empty value.rest.now (sym c.is_empty.ensures ∙ c.if-is_empty.false) in
    record {
      colon = colon;
      is = refl;
      bare = refl;
      to_colon = c.in-Some.ensures;
      passes = is.passes some;
      begins = next-begins is some;
    }
