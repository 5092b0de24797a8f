use Rattle.std.proofs.Common.{◌≡◌, w16, to_z, of_z, arith}
use Rattle.std.proofs.lemmas.Int.{ints}
use Rattle.ion_value.specs.Timestamp.{offset_minutes, local_of}
use Rattle.ion_value.proofs.Days.{local-is, local-moved}
use Rattle.ion_value.proofs.timestamp.Timestamp.to_local.Goals.{After-moved_by}
use Rattle.std.proofs.lemmas.Grind.{common_steps}
use Rattle.ion_value.proofs.timestamp.Timestamp.to_local.Goals as goal

local : (c : After-moved_by) → c.moved_by.result ≡ local_of c.args.self
local c =
    let bounds = local-is c.args.self c.requires.moment c.requires.offset in
    let minutes : c.unwrap_or.result ≡ offset_minutes c.args.self = c.unwrap_or.ensures in
    local-moved c.args.self (to_z w16 (of_z w16 c.unwrap_or.result)) c.moved_by.result c.moved_by.ensures (omega (arith, ints))

pub returns-clause-local : goal.returns-clause-local
returns-clause-local c = local c

pub returns-clause-moved : goal.returns-clause-moved
returns-clause-moved c = rw (local c) (local-is c.args.self c.requires.moment c.requires.offset).moved

pub returns-clause-refused : goal.returns-clause-refused
returns-clause-refused c = rw (local c) (local-is c.args.self c.requires.moment c.requires.offset).refused

pub moved_by-requires-clause-latest : goal.moved_by-requires-clause-latest
moved_by-requires-clause-latest c = grind (arith, common_steps)

pub moved_by-requires-clause-earliest : goal.moved_by-requires-clause-earliest
moved_by-requires-clause-earliest c = grind (arith, common_steps)
