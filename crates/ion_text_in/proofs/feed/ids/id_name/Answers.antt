use Rattle.std.proofs.Common.{refl}
use Rattle.ion_value.specs.declared.plain_item.TextAt.{TextAt}
use Rattle.ion_text_in.proofs.FeedIds.{dollar-begins, named-id}
use Rattle.ion_text_in.proofs.feed.ids.id_name.Goals as goal

pub id_text-requires : goal.id_text-requires
id_text-requires g c = (dollar-begins c.args.bytes.now c.requires).some

pub returns : goal.returns
returns g c =
    let a = c.args in
    let id = c.in-Some.id in
    let name : TextAt = record { text = id.text; code = 0; place = a.place } in
    named-id (g.N.Names.text a.names.now) a.limits a.place id.count name a.bytes.now c.after.result.now c.after_name.result refl c.in-Some.ensures.simple c.in-Some.ensures c.after.ensures c.requires c.after_name.ensures
