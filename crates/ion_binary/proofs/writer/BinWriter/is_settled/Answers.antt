use Rattle.ion_binary.proofs.Below.{rules, arith, sym, ◌∙◌, common_steps, nil_from_length}
use Rattle.ion_binary.proofs.writer.BinWriter.is_settled.Goals as goal

pub returns : goal.returns
returns g c = λ is. record {
  due = search rules;
  headers = nil_from_length c.args.self.now.open_value.headers (grind (arith, common_steps, c.len.ensures));
  octets = sym c.in-Some.ensures.octets ∙ nil_from_length c.in-Some.octets.now (grind (arith, common_steps, c.is_empty.ensures, c.if-not-is_empty.false));
  all = search rules;
  few = search rules;
}
