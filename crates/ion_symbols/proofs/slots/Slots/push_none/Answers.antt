use Rattle.std.proofs.Common.{None, [], ◌∷◌, ◌++◌, length, refl, sym, ap, subst, arith, false}
use Rattle.std.proofs.lemmas.Grind.{common_steps}
use Rattle.ion_value.specs.declared.quoting.Quoting.TheVariants.{Any}
use Rattle.ion_symbols.specs.Kept.{Tiles}
use Rattle.ion_symbols.proofs.Keeping.{kept_push_none, marked_push, tiles_push}
use Rattle.ion_symbols.proofs.slots.Slots.push_none.Goals as goal

pub invariant_of-self-2 : goal.invariant_of-self-2
invariant_of-self-2 g c = (
  subst (λ ps. Tiles 0 ps (length c.self.inside.texts)) (sym c.in_default.ensures.ok)
      (subst (λ n. Tiles 0 (c.self.inside.parts ++ record { from = n; to = n; known = false; quoting = Any } ∷ []) (length c.self.inside.texts)) (sym (ap length c.as_slice-end.ensures))
      (tiles_push 0 c.self.inside.parts (length c.self.inside.texts) (record { from = length c.self.inside.texts; to = length c.self.inside.texts; known = false; quoting = Any }) c.self.invariant.0 refl (omega arith) (λ u. refl))),
  marked_push c.self.inside.texts c.self.inside.texts c.self.inside.parts c.push.new.self _ None c.self.invariant.1 c.in_default.ensures.ok (kept_push_none c.self.inside.texts c.self.inside.parts c.push.new.self _ c.in_default.ensures.ok) refl,
)

pub returns-clause-ok : goal.returns-clause-ok
returns-clause-ok g c = grind (arith, common_steps)

pub invariant_of-self : goal.invariant_of-self
invariant_of-self g c = grind (arith, common_steps)

pub returns-in-Err-clause-err : goal.returns-in-Err-clause-err
returns-in-Err-clause-err g c = grind (arith, common_steps)
