use Rattle.std.proofs.Common.{◌+◌, ◌≤◌, arith}
use Rattle.std.proofs.lemmas.Grind.{common_steps}
use Rattle.ion_symbols.specs.Table.{table_cost}
use Rattle.ion_symbols.specs.Buffer.{own_of}
use Rattle.ion_symbols.proofs.Taking.{both_within, after_within, after_charges}
use Rattle.ion_symbols.proofs.buffer.SymbolBuffer.install.Goals as goal

pub returns-clause-cheap : goal.returns-clause-cheap
returns-clause-cheap g c =
    let old = c.args.symbols.now in
    let both : table_cost old.table + own_of c.args.self ≤ c.args.limit = both_within c.args.limit old.table c.args.self c.requires.can_install.pending c.if-not-keeps.false in
    after_within c.append-outcome.result old c.append-outcome.new.self c.args.self.slots c.args.limit c.append-outcome.ensures.ok c.append-outcome.ensures.err
    (omega (arith, both))

pub returns-clause-charges : goal.returns-clause-charges
returns-clause-charges g c =
    let old = c.args.symbols.now in
    after_charges c.append-outcome.result c.args.limit c.args.meter.now c.release.new.meter c.append-outcome.new.meter c.release-2.new.meter c.release-3.new.meter
    old c.append-outcome.new.self c.args.self c.append-outcome.ensures.ok c.append-outcome.ensures.err c.append-outcome.ensures.cost c.append-outcome.ensures.undone
    c.release.ensures c.release-2.ensures c.release-3.ensures.cost
    (both_within c.args.limit old.table c.args.self c.requires.can_install.pending c.if-not-keeps.false) c.requires.can_install.held

pub returns-then-not-keeps-clause-cheap : goal.returns-then-not-keeps-clause-cheap
returns-then-not-keeps-clause-cheap g c = grind (arith, common_steps)

pub returns-then-not-keeps-clause-charges : goal.returns-then-not-keeps-clause-charges
returns-then-not-keeps-clause-charges g c = grind (arith, common_steps)

pub replace-requires-clause-kept : goal.replace-requires-clause-kept
replace-requires-clause-kept g c = grind (arith, common_steps)

pub append-outcome-requires-clause-few : goal.append-outcome-requires-clause-few
append-outcome-requires-clause-few g c = grind (arith, common_steps)

pub returns-clause-table : goal.returns-clause-table
returns-clause-table g c = grind (arith, common_steps)

pub returns-clause-counted : goal.returns-clause-counted
returns-clause-counted g c = grind (arith, common_steps)

pub returns-clause-memory : goal.returns-clause-memory
returns-clause-memory g c = grind (arith, common_steps)

pub release-requires-3 : goal.release-requires-3
release-requires-3 g c = grind (arith, common_steps)

pub release-requires-2 : goal.release-requires-2
release-requires-2 g c = grind (arith, common_steps)

pub returns-clause-catalog : goal.returns-clause-catalog
returns-clause-catalog g c = grind (arith, common_steps)

pub returns-clause-err : goal.returns-clause-err
returns-clause-err g c = grind (arith, common_steps)

pub returns-then-not-keeps-clause-table : goal.returns-then-not-keeps-clause-table
returns-then-not-keeps-clause-table g c = grind (arith, common_steps)
