use Rattle.std.proofs.Common.{rules, ◌≡◌, Err, subst, arith}
use Rattle.std.proofs.lemmas.Grind.{common_steps}
use Rattle.ion_value.specs.Value.{user_item}
use Rattle.ion_value.specs.Items.{item_of}
use Rattle.ion_symbols.specs.CatalogItems.{EntryView, entry_view, load_step}
use Rattle.ion_symbols.specs.Building.{loading_of, StepAs}
use Rattle.ion_symbols.proofs.CatalogSteps.{few-inside, puts-nothing, read-answered, read-refused}
use Rattle.ion_symbols.proofs.catalog_builder.CatalogBuilderValueWriter.item.Goals as goal

pub take-outcome-requires-clause-inside : goal.take-outcome-requires-clause-inside
take-outcome-requires-clause-inside g c =
    let at = c.requires.path c.in_default.is in
    let few = few-inside c.args.self.now at.0 at.1 in
    omega (arith, few, c.requires.sound.checked.depth)

pub returns-in-Err-clause-part : goal.returns-in-Err-clause-part
returns-in-Err-clause-part g c fault path stands may = puts-nothing g.O.Output.written g.O.Output.observable c.args._sink.now

pub returns-in_default-outcome-clause-part : goal.returns-in_default-outcome-clause-part
returns-in_default-outcome-clause-part g c fault path stands may = puts-nothing g.O.Output.written g.O.Output.observable c.args._sink.now

pub returns-in-Err-clause-refuses : goal.returns-in-Err-clause-refuses
returns-in-Err-clause-refuses g c well fault path stands may reason place e =
    let b = c.args.self.now in
    let item = item_of g.N.Names.text c.args.item.now in
    let step : load_step b.limits.symbols (loading_of b) (entry_view (user_item item)) ≡ Err (reason, place) = search rules in
    read-refused b path item (reason, place) stands step

pub returns-in_default-outcome-clause-stands : goal.returns-in_default-outcome-clause-stands
returns-in_default-outcome-clause-stands g c path stands may =
    let b = c.args.self.now in
    let item = item_of g.N.Names.text c.args.item.now in
    let step : StepAs (load_step b.limits.symbols (loading_of b) (entry_view (user_item item))) c.take-outcome.result (loading_of c.take-outcome.new.self) =
    subst (λ (e : EntryView). StepAs (load_step b.limits.symbols (loading_of b) e) c.take-outcome.result (loading_of c.take-outcome.new.self)) c.view.ensures c.take-outcome.ensures.gives in
    read-answered b c.take-outcome.new.self path item c.take-outcome.result stands may step (search rules) (search rules)

pub returns-in-Err-clause-sound : goal.returns-in-Err-clause-sound
returns-in-Err-clause-sound g c = grind (arith, common_steps)

pub returns-in-Err-clause-memory : goal.returns-in-Err-clause-memory
returns-in-Err-clause-memory g c = grind (arith, common_steps)

pub returns-in-Some-clause-part : goal.returns-in-Some-clause-part
returns-in-Some-clause-part g c = grind (arith, common_steps)

pub returns-in-Some-clause-cut : goal.returns-in-Some-clause-cut
returns-in-Some-clause-cut g c = grind (arith, common_steps)

pub returns-in-Some-clause-again : goal.returns-in-Some-clause-again
returns-in-Some-clause-again g c = grind (arith, common_steps)

pub returns-in-Some-clause-causes : goal.returns-in-Some-clause-causes
returns-in-Some-clause-causes g c = grind (arith, common_steps)

pub returns-in-Some-clause-charges : goal.returns-in-Some-clause-charges
returns-in-Some-clause-charges g c = grind (arith, common_steps)

pub returns-in-Err-clause-cut : goal.returns-in-Err-clause-cut
returns-in-Err-clause-cut g c = grind (arith, common_steps)

pub returns-in-Err-clause-again : goal.returns-in-Err-clause-again
returns-in-Err-clause-again g c = grind (arith, common_steps)

pub returns-in-Err-clause-causes : goal.returns-in-Err-clause-causes
returns-in-Err-clause-causes g c = grind (arith, common_steps)

pub returns-in_default-outcome-clause-puts : goal.returns-in_default-outcome-clause-puts
returns-in_default-outcome-clause-puts g c = grind (arith, common_steps)

pub returns-in_default-outcome-clause-causes : goal.returns-in_default-outcome-clause-causes
returns-in_default-outcome-clause-causes g c = grind (arith, common_steps)

pub returns-in_default-outcome-clause-cut : goal.returns-in_default-outcome-clause-cut
returns-in_default-outcome-clause-cut g c = grind (arith, common_steps)

pub returns-in-Err-clause-most : goal.returns-in-Err-clause-most
returns-in-Err-clause-most g c = grind (arith, common_steps)

pub returns-in_default-outcome-clause-memory : goal.returns-in_default-outcome-clause-memory
returns-in_default-outcome-clause-memory g c = grind (arith, common_steps)

pub returns-in_default-outcome-clause-most : goal.returns-in_default-outcome-clause-most
returns-in_default-outcome-clause-most g c = grind (arith, common_steps)

pub returns-in_default-outcome-clause-well : goal.returns-in_default-outcome-clause-well
returns-in_default-outcome-clause-well g c = grind (arith, common_steps)

pub returns-in_default-outcome-clause-again : goal.returns-in_default-outcome-clause-again
returns-in_default-outcome-clause-again g c = grind (arith, common_steps)

pub returns-in-Err-clause-charges : goal.returns-in-Err-clause-charges
returns-in-Err-clause-charges g c = grind (arith, common_steps)

pub returns-in_default-outcome-clause-charges : goal.returns-in_default-outcome-clause-charges
returns-in_default-outcome-clause-charges g c = grind (arith, common_steps)

pub returns-in_default-outcome-clause-sound : goal.returns-in_default-outcome-clause-sound
returns-in_default-outcome-clause-sound g c = grind (arith, common_steps)

pub returns-in_default-outcome-clause-refuses : goal.returns-in_default-outcome-clause-refuses
returns-in_default-outcome-clause-refuses g c = grind (arith, common_steps)

pub returns-in_default-outcome-clause-failed : goal.returns-in_default-outcome-clause-failed
returns-in_default-outcome-clause-failed g c = grind (arith, common_steps)
