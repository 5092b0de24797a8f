use Rattle.std.proofs.Common.{◌∙◌, sym}
use Rattle.ion_text_in.proofs.FeedNames.{expects-field, next-begins, not-empty, start-field}
use Rattle.ion_text_in.proofs.feed.quotes.to_quoted.Goals as goal

pub quoted_start-requires : goal.quoted_start-requires
quoted_start-requires c = next-begins c.requires.next (not-empty c.args.next.rest.now (sym c.is_empty.ensures ∙ c.if-is_empty.false))

pub returns-in-Struct : goal.returns-in-Struct
returns-in-Struct c =
    let spot = c.args.spot in
    start-field c.args.bounds spot c.args.next c.quoted_start.result c.place_after.ensures c.requires.within (expects-field spot c.if-spot.false c.in-Struct.is) c.requires.next c.quoted_start.ensures
