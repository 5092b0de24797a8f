use Rattle.std.proofs.Common.{refl}
use Rattle.ion_value.specs.Value.{symbol, whole, Id}
use Rattle.ion_text_in.specs.Positions.{at}
use Rattle.ion_text_in.proofs.FeedIds.{dollar-begins, head-id, head-id-seen}
use Rattle.ion_text_in.proofs.feed.ids.id_head.Goals as goal

pub id_text-requires : goal.id_text-requires
id_text-requires g c = (dollar-begins c.args.bytes.now c.requires).some

pub returns : goal.returns
returns g c =
    let a = c.args in
    let id = c.in-Some.id in
    let is = c.in-Some.ensures in
    record {
      raw = whole (symbol (at (Id is.id) a.place));
      seen = head-id-seen (g.N.Names.text a.names.now) is.id a.place id.text.now is.has;
      head = head-id c.next_told.result is c.after-rest.ensures c.next_told.ensures c.if-next_told-eq0.false c.requires;
      spelled = (is.simple, refl);
    }
