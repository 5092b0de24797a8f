use Rattle.std.proofs.Common.{ℕ, List, sym, subst}
use Rattle.ion_value.specs.PlainItems.{IsTextOf}
use Rattle.ion_value.specs.Value.{whole}
use Rattle.ion_text_in.specs.Quick.{as_quick}
use Rattle.ion_text_in.specs.Views.{as_number}
use Rattle.ion_text_in.proofs.FeedReading.{found-number}
use Rattle.ion_text_in.proofs.feed.number.Goals as goal

pub forward-requires-clause-found : goal.forward-requires-clause-found
forward-requires-clause-found g c =
    let e = c.in-Some.ensures in
    found-number c.in-Some.quick c.int_head.ensures c.after-rest.ensures e.some
    (subst (λ (l : List ℕ). IsTextOf l (whole (as_number (as_quick c.in-Some.quick)))) (sym c.front-text.ensures) (e.spelled.text (e.spelled.int c.in-None.is))) e.shows e.range c.requires.begins

pub forward-requires-in-Some-exponent-clause-found : goal.forward-requires-in-Some-exponent-clause-found
forward-requires-in-Some-exponent-clause-found g c =
    let e = c.in-Some.ensures in found-number c.in-Some.quick c.decimal_head.ensures c.after-rest.ensures e.some c.spelled_quick.ensures e.shows e.range c.requires.begins
