use Rattle.std.proofs.Common.{sym, ap, ◌∙◌, rules, arith}
use Rattle.std.proofs.lemmas.Grind.{common_steps}
use Rattle.ion_symbols.specs.Buffer.{declaring_of, item_view_of, is_named}
use Rattle.ion_symbols.specs.declared.known_text.Area.TheVariants as area
use Rattle.ion_symbols.proofs.Turning.{turn_by_area, turn_by_part}
use Rattle.ion_symbols.proofs.buffer.SymbolBuffer.take.Goals as goal

pub returns-in-Fields-clause-nameless : goal.returns-in-Fields-clause-nameless
returns-in-Fields-clause-nameless g c =
    λ u. c.field.ensures.same.name ∙ c.requires.can_take.pending.unnamed (ap (λ a. is_named a c.args.self.now.entry.has_name) c.in-Fields.is)

pub returns-in-Fields-clause-turn : goal.returns-in-Fields-clause-turn
returns-in-Fields-clause-turn g c =
    turn_by_area _ (declaring_of c.args.symbols.now.catalog c.args.self.now) (item_view_of c.view-item_view.result) _ area.Fields c.field.result _ _
    c.if-self-gt0.false c.in-Fields.is c.view-item_view.ensures c.field.ensures.turn

pub returns-in-Import-2-clause-turn : goal.returns-in-Import-2-clause-turn
returns-in-Import-2-clause-turn g c =
    turn_by_part _ (declaring_of c.args.symbols.now.catalog c.args.self.now) (item_view_of c.view-item_view.result) _ c.part.result _ _
    c.if-self-gt0.false c.in-Import.is c.view-item_view.ensures (sym c.if-ends-2.ensures) c.part.ensures.turn

pub returns-then-self-gt0-clause-pending : goal.returns-then-self-gt0-clause-pending
returns-then-self-gt0-clause-pending g c = grind (arith, common_steps) steps 400000

pub returns-then-self-gt0-clause-takes : goal.returns-then-self-gt0-clause-takes
returns-then-self-gt0-clause-takes g c = grind (arith, common_steps) steps 400000

pub returns-in-Fields-clause-takes : goal.returns-in-Fields-clause-takes
returns-in-Fields-clause-takes g c = grind (arith, common_steps)

pub returns-in-Imports-clause-pending : goal.returns-in-Imports-clause-pending
returns-in-Imports-clause-pending g c = grind (arith, common_steps)

pub returns-in-Imports-clause-turn : goal.returns-in-Imports-clause-turn
returns-in-Imports-clause-turn g c = grind (arith, common_steps)

pub returns-in-Imports-clause-takes : goal.returns-in-Imports-clause-takes
returns-in-Imports-clause-takes g c = grind (arith, common_steps)

pub returns-in-Symbols-clause-pending : goal.returns-in-Symbols-clause-pending
returns-in-Symbols-clause-pending g c = grind (arith, common_steps)

pub returns-in-Symbols-clause-turn : goal.returns-in-Symbols-clause-turn
returns-in-Symbols-clause-turn g c = grind (arith, common_steps)

pub returns-in-Symbols-clause-takes : goal.returns-in-Symbols-clause-takes
returns-in-Symbols-clause-takes g c = grind (arith, common_steps)

pub returns-in-Symbols-2-clause-nameless : goal.returns-in-Symbols-2-clause-nameless
returns-in-Symbols-2-clause-nameless g c = grind (arith, common_steps)

pub returns-in-Symbols-2-clause-turn : goal.returns-in-Symbols-2-clause-turn
returns-in-Symbols-2-clause-turn g c = search rules

pub returns-in-Symbols-2-clause-takes : goal.returns-in-Symbols-2-clause-takes
returns-in-Symbols-2-clause-takes g c = grind (arith, common_steps)

pub returns-in-Import-clause-nameless : goal.returns-in-Import-clause-nameless
returns-in-Import-clause-nameless g c = search rules

pub returns-in-Import-clause-turn : goal.returns-in-Import-clause-turn
returns-in-Import-clause-turn g c = grind (arith, common_steps)

pub returns-in-Import-clause-takes : goal.returns-in-Import-clause-takes
returns-in-Import-clause-takes g c = grind (arith, common_steps)

pub returns-in-Import-2-clause-nameless : goal.returns-in-Import-2-clause-nameless
returns-in-Import-2-clause-nameless g c = search rules

pub returns-in-Import-2-clause-takes : goal.returns-in-Import-2-clause-takes
returns-in-Import-2-clause-takes g c = grind (arith, common_steps)

pub returns-in-Import-2-clause-pending : goal.returns-in-Import-2-clause-pending
returns-in-Import-2-clause-pending g c = grind (arith, common_steps)

pub returns-in-Symbols-2-clause-pending : goal.returns-in-Symbols-2-clause-pending
returns-in-Symbols-2-clause-pending g c = grind (arith, common_steps)
