use Rattle.std.proofs.Common.{rules, ◌≡◌, true, arith}
use Rattle.std.proofs.lemmas.Grind.{common_steps}
use Rattle.ion_symbols.specs.Table.{may_stand}
use Rattle.ion_symbols.specs.Building.{draft_of}
use Rattle.ion_symbols.proofs.CatalogCosts.{counted-ended, held-ended}
use Rattle.ion_symbols.proofs.catalog_builder.CatalogBuilder.end_table.Goals as goal

pub returns-clause-built : goal.returns-clause-built
returns-clause-built g c =
    let b = c.args.self.now in
    let d = draft_of b in
    let stands : may_stand d.tables d.table ≡ true = search rules in
    let same = counted-ended d stands in
    let held = held-ended d in
    record {
      building = record { checked = grind (arith, common_steps); exact = grind (arith, common_steps); cheap = grind (arith, common_steps) };
      limits = grind (arith, common_steps);
      failed = grind (arith, common_steps);
      causes = grind (arith, common_steps);
      charges = grind (arith, common_steps);
    }

pub returns-in-Refused-clause-gives : goal.returns-in-Refused-clause-gives
returns-in-Refused-clause-gives g c = grind (arith, common_steps)
