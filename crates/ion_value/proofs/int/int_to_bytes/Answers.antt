use Rattle.ion_value.proofs.Fields.{ShortestUInt, uint-shortest}
use Rattle.ion_value.proofs.Octets.{uint-spelled}
use Rattle.ion_value.proofs.int.int_to_bytes.Goals.{After-unwrap}
use Rattle.ion_value.proofs.int.int_to_bytes.Goals as goal

octets : (c : After-unwrap) → ShortestUInt c.args.int.magnitude c.unwrap.result.items
octets c =
    let made = rw c.unwrap.ensures at c.try_from.ensures in
    uint-shortest c.args.int.magnitude c.to_be_bytes-octets.result c.unwrap.result.items c.requires.fits c.to_be_bytes-octets.ensures made.0

pub returns-clause-spelled : goal.returns-clause-spelled
returns-clause-spelled c = uint-spelled c.args.int.magnitude c.unwrap.result.items (octets c)

pub returns-clause-value : goal.returns-clause-value
returns-clause-value c = (octets c).value

pub returns-clause-octets : goal.returns-clause-octets
returns-clause-octets c = (octets c).octets

pub returns-clause-shortest : goal.returns-clause-shortest
returns-clause-shortest c = (octets c).shortest
