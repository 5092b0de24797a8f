use Rattle.ion_binary.proofs.Below.{◌≤◌, ◌++◌, List, ℕ, drop, length, subst, take, ap, ◌∙◌, arith, rules, common_steps, Grows}
use Rattle.ion_binary.proofs.FewOctets.{header-two}
use Rattle.ion_binary.proofs.held_octets.insert_header.Goals as goal

pub returns-then-inside-lt128 : goal.returns-then-inside-lt128
returns-then-inside-lt128 g c =
    let least : 14 ≤ c.args.inside = let h = c.if-inside-lt14.false in omega (arith, h) in
    let is = header-two c.args.code c.args.inside least c.if-inside-lt128.true in
    let P : List ℕ → Type 0 = λ os. Grows c.args.meter.now c.insert_if_room-then-inside-lt128.new.meter (length os) in
    record {
      octets = λ e. c.insert_if_room-then-inside-lt128.ensures.bytes e ∙ ap (λ (os : List ℕ). take c.args.place c.args.octets.now ++ (os ++ drop c.args.place c.args.octets.now)) is;
      cost = λ e. subst P is (c.insert_if_room-then-inside-lt128.ensures.cost e);
      declines = c.insert_if_room-then-inside-lt128.ensures.declines;
    }

pub returns-then-inside-lt14 : goal.returns-then-inside-lt14
returns-then-inside-lt14 g c = record {
  octets = grind (arith, common_steps);
  cost = grind (arith, common_steps) steps 400000;
  declines = search rules;
}
