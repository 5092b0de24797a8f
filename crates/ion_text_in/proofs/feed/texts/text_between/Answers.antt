use Rattle.ion_text_in.proofs.FeedHeads.{is-between}
use Rattle.ion_text_in.proofs.feed.texts.text_between.Goals as goal

pub returns-in-Whole : goal.returns-in-Whole
returns-in-Whole c = is-between c.in-Whole.plain c.in-Whole.count c.after-inside.ensures c.front.ensures c.after.ensures c.in-Whole.ensures.shows c.requires
