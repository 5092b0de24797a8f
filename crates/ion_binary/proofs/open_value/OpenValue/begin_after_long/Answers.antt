use Rattle.ion_binary.proofs.Below.{rules, ◌≡◌, ◌≢◌, ◌<◌, ap, sym, ◌∙◌, arith, var_uint_octets}
use Rattle.ion_binary.proofs.NotedOctets.{named-octets}
use Rattle.ion_binary.proofs.PutInRoom.{begins-same}
use Rattle.ion_binary.proofs.open_value.OpenValue.begin_after_long.Goals as goal

pub returns : goal.returns
returns g c =
    let some : 0 < c.args.name = let f : c.args.name ≢ 0 = c.requires.some in omega (arith, f) in
    let same : c.from.result ≡ c.args.name = search rules in
    begins-same (c.as_slice.ensures.value ∙ (c.var_uint_write-front.ensures.spelled ∙ (ap var_uint_octets same ∙ sym (named-octets c.args.name some)))) c.begin_if_room.ensures
