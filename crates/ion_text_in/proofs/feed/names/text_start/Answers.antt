use Rattle.ion_text_in.proofs.FeedNames.{named-start}
use Rattle.ion_text_in.proofs.FeedHeads.{name-between}
use Rattle.ion_text_in.proofs.feed.names.text_start.Goals as goal

pub returns : goal.returns
returns c =
    let says = c.quoted_text.ensures in
    let name = name-between c.quoted_text.result c.args.quote says.place says.text c.in-Some.ensures c.requires in
    named-start c.quoted_text.result c.after_name.result name.0 says.says name.1 c.after_name.ensures
