use Rattle.std.proofs.lemmas.Grind.{common_steps}
use Rattle.std.proofs.Common.{◌≡◌, ◌+◌, length, ap, ◌∙◌, arith}
use Rattle.ion_symbols.specs.Table.{count_of, most_slots}
use Rattle.ion_symbols.specs.Present.{Present}
use Rattle.ion_symbols.proofs.Importing.{kept_total}
use Rattle.ion_symbols.proofs.Taking.{added_few}
use Rattle.ion_symbols.proofs.symbols.Symbols.append.Goals as goal

pub invariant_of-self : goal.invariant_of-self
invariant_of-self g c =
    let n : c.self.inside.import_slots + length c.self.inside.slots ≡ count_of c.args.self.now.table =
    kept_total c.self.inside.catalog.now c.self.inside.imports.items c.self.inside.import_slots c.self.inside.slots c.self.invariant.starts
    ∙ ap (λ (p : Present). count_of p.table) c.self.view_is in
    record {
      starts = c.self.invariant.starts;
      each = c.self.invariant.each;
      few = added_few c.append.result c.self.inside.slots c.args.more.now c.append.new.self c.self.inside.import_slots most_slots
          c.append.ensures.ok c.append.ensures.err (omega (arith, n, c.requires.few));
    }

pub returns-clause-err : goal.returns-clause-err
returns-clause-err g c = grind (arith, common_steps)

pub returns-clause-ok : goal.returns-clause-ok
returns-clause-ok g c = grind (arith, common_steps)
