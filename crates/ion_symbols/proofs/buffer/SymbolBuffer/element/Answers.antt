use Rattle.std.proofs.Common.{◌+◌, ◌≤◌, Some, None, arith}
use Rattle.std.proofs.lemmas.Grind.{common_steps}
use Rattle.ion_symbols.specs.Table.{most_slots}
use Rattle.ion_symbols.proofs.Pendings.{slot_pushed}
use Rattle.ion_symbols.proofs.buffer.SymbolBuffer.element.Goals as goal
use Rattle.ion_symbols.proofs.buffer.SymbolBuffer.element.Goals.{in-Text-what+in_ok-push_text-in-Text-what, in_default-what+in_ok-push_none-in_default-what}

pub returns-clause-pending : goal.returns-clause-pending
returns-clause-pending g c =
    let b = c.args.self.now in
    let m = c.match-item_view-2.self in
    let n = c.pass.new.self in
    let cost = 16 + c.match-item_view.length in
    let p = c.requires.can_take.pending in
    let at = c.requires.within.0 in
    let kept = c.pass.ensures.kept in
    let cheap : b.cost + cost ≤ c.args.limit = grind arith in
    let few : b.count + 1 ≤ most_slots = grind arith in
    elim c.match-item_view-2.branch [
      | in-Text-what+in_ok-push_text-in-Text-what w ↦
          slot_pushed b m n (Some w.in-Text-what.text.now) cost w.push_text.new.self p at w.self-is
          w.in_ok-push_text-in-Text-what.ensures.ok kept (grind arith) cheap few
      | in_default-what+in_ok-push_none-in_default-what w ↦
          slot_pushed b m n None cost w.push_none.new.self p at w.self-is
          w.in_ok-push_none-in_default-what.ensures.ok kept (grind arith) cheap few
    ]

pub pass-requires : goal.pass-requires
pass-requires g c = grind (arith, common_steps)

pub overflow_add-self-3 : goal.overflow_add-self-3
overflow_add-self-3 g c = grind (arith, common_steps)

pub overflow_add-self-2 : goal.overflow_add-self-2
overflow_add-self-2 g c = grind (arith, common_steps)

pub push_text-requires-clause-can_grow : goal.push_text-requires-clause-can_grow
push_text-requires-clause-can_grow g c = grind (arith, common_steps)

pub returns-then-length-limit-clause-takes : goal.returns-then-length-limit-clause-takes
returns-then-length-limit-clause-takes g c = grind (arith, common_steps)
