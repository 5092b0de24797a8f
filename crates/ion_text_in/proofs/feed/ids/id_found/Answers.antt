use Rattle.ion_text_in.proofs.FeedIds.{found-text}
use Rattle.ion_text_in.proofs.feed.ids.id_found.Goals as goal

pub returns-in-Some : goal.returns-in-Some
returns-in-Some g c = found-text (g.N.Names.text c.args.names.now) (g.N.Names.zero c.args.names.now) c.in-Some.ensures
