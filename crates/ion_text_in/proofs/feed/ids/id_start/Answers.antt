use Rattle.ion_text_in.proofs.FeedIds.{start-named}
use Rattle.ion_text_in.proofs.FeedNames.{expects-field}
use Rattle.ion_text_in.proofs.feed.ids.id_start.Goals as goal

pub returns-in-Struct : goal.returns-in-Struct
returns-in-Struct g c =
    let spot = c.args.spot in
    start-named (g.N.Names.text c.args.names.now) c.args.bounds spot c.args.next c.id_name.result c.place_after.ensures c.requires.within (expects-field spot c.if-not-spot.true c.in-Struct.is) c.requires.next c.id_name.ensures
