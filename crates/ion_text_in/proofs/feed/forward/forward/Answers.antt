use Rattle.ion_text_in.proofs.FeedIds.{found-read, start-read, turns-text}
use Rattle.ion_text_in.proofs.feed.forward.forward.Goals as goal

pub forward_any-requires-clause-start : goal.forward_any-requires-clause-start
forward_any-requires-clause-start g c = start-read c.requires.start

pub forward_any-requires-clause-found : goal.forward_any-requires-clause-found
forward_any-requires-clause-found g c = found-read c.requires.found

pub returns : goal.returns
returns g c = turns-text c.requires.start c.requires.found c.forward_any.ensures
