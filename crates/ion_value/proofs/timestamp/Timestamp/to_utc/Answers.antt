use Rattle.std.proofs.Common.{◌≡◌, ◌-ℤ◌, pos, w16, to_z, of_z, arith}
use Rattle.std.proofs.lemmas.Int.{ints}
use Rattle.ion_value.specs.Timestamp.{offset_minutes, utc_of}
use Rattle.ion_value.proofs.Days.{utc-is, utc-moved}
use Rattle.ion_value.proofs.timestamp.Timestamp.to_utc.Goals.{After-moved_by}
use Rattle.std.proofs.lemmas.Grind.{common_steps}
use Rattle.ion_value.proofs.timestamp.Timestamp.to_utc.Goals as goal

utc : (c : After-moved_by) → c.moved_by.result ≡ utc_of c.args.self
utc c =
    let bounds = utc-is c.args.self c.requires.moment c.requires.offset in
    let minutes : c.unwrap_or.result ≡ offset_minutes c.args.self = c.unwrap_or.ensures in
    utc-moved c.args.self (to_z w16 (of_z w16 (pos 0 -ℤ to_z w16 (of_z w16 c.unwrap_or.result)))) c.moved_by.result c.moved_by.ensures (omega (arith, ints))

pub returns-clause-utc : goal.returns-clause-utc
returns-clause-utc c = utc c

pub returns-clause-moved : goal.returns-clause-moved
returns-clause-moved c = rw (utc c) (utc-is c.args.self c.requires.moment c.requires.offset).moved

pub returns-clause-refused : goal.returns-clause-refused
returns-clause-refused c = rw (utc c) (utc-is c.args.self c.requires.moment c.requires.offset).refused

pub moved_by-requires-clause-latest : goal.moved_by-requires-clause-latest
moved_by-requires-clause-latest c = grind (arith, common_steps)

pub moved_by-requires-clause-earliest : goal.moved_by-requires-clause-earliest
moved_by-requires-clause-earliest c = grind (arith, common_steps)
