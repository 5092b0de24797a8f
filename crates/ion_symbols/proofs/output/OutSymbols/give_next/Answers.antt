use Rattle.std.proofs.Common.{◌≡◌, ◌++◌, ◌∷◌, [], None, refl, ap, sym, ◌∙◌, arith, rules}
use Rattle.std.proofs.lemmas.Grind.{common_steps}
use Rattle.ion_symbols.specs.Output.{Output, position, system_id}
use Rattle.ion_symbols.specs.OutTexts.{texts_of}
use Rattle.ion_symbols.proofs.Adding.{new_unknown, share_either, share_push}
use Rattle.ion_symbols.proofs.KeptTexts.{same_output}
use Rattle.ion_symbols.proofs.output.OutSymbols.give_next.Goals as goal

pub add_with-requires-clause-small : goal.add_with-requires-clause-small
add_with-requires-clause-small g c = omega (arith, c.is_over.ensures.fits c.if-is_over.false, c.cost.ensures, c.self.invariant.2)

pub add_with-requires-clause-room : goal.add_with-requires-clause-room
add_with-requires-clause-room g c = omega (arith, c.is_over.ensures.fits c.if-is_over.false, c.self.invariant.2, c.requires.room, c.requires.short)

pub invariant_of-self : goal.invariant_of-self
invariant_of-self g c = (
  c.add_with.ensures.kept,
  share_either c.add_with.result (texts_of c.self.inside.kept) _ c.args.added.bytes.now c.cost.result c.self.inside.limit c.cost.ensures (c.is_over.ensures.fits c.if-is_over.false)
      c.add_with.ensures.added (λ e. ap (λ k. texts_of k) ((c.add_with.ensures.declines e).0)),
  c.self.invariant.2,
)

pub returns-clause-texts : goal.returns-clause-texts
returns-clause-texts g c e = c.add_with.ensures.added e ∙ ap (λ (s : Output). s.texts ++ c.args.added.bytes.now ∷ []) c.self.view_is

pub returns-clause-within : goal.returns-clause-within
returns-clause-within g c e =
    let fits = c.is_over.ensures.fits c.if-is_over.false in
    let limit : c.self.inside.limit ≡ c.args.self.now.limit = ap (λ (s : Output). s.limit) c.self.view_is in
    share_push (texts_of c.self.inside.kept) _ c.args.added.bytes.now c.cost.result c.args.self.now.limit c.cost.ensures (omega (arith, fits, limit)) (c.add_with.ensures.added e)

pub returns-clause-declines : goal.returns-clause-declines
returns-clause-declines g c e =
    let same = c.add_with.ensures.declines e in
    (same_output _ _ _ _ _ _ _ (ap (λ k. texts_of k) same.0) refl (ap (λ k. k.is_ordered) same.0) ∙ c.self.view_is, same.1, same.2)

pub returns-clause-new : goal.returns-clause-new
returns-clause-new g c e =
    let none : system_id c.args.added.bytes.now ≡ None = search rules in
    let absent : position c.args.self.now.texts c.args.added.bytes.now ≡ None =
    ap (λ (s : Output). position s.texts c.args.added.bytes.now) (sym c.self.view_is) ∙ c.add_with.ensures.new e in
    new_unknown c.args.self.now.texts c.args.added.bytes.now (record { absent = absent; no_system = none })

pub returns-clause-ordered : goal.returns-clause-ordered
returns-clause-ordered g c = c.add_with.ensures.order ∙ ap (λ (s : Output). s.is_ordered) c.self.view_is

pub returns-clause-probes : goal.returns-clause-probes
returns-clause-probes g c = grind (arith, common_steps)

pub returns-clause-limit : goal.returns-clause-limit
returns-clause-limit g c = grind (arith, common_steps)

pub returns-clause-grows : goal.returns-clause-grows
returns-clause-grows g c = grind (arith, common_steps)

pub returns-then-is_some-clause-within : goal.returns-then-is_some-clause-within
returns-then-is_some-clause-within g c = grind (arith, common_steps)

pub returns-then-is_over-clause-within : goal.returns-then-is_over-clause-within
returns-then-is_over-clause-within g c = grind (arith, common_steps)
