use Rattle.std.proofs.Common.{ap, sym, ◌∙◌, arith}
use Rattle.ion_text_in.specs.Firm.{is_firm}
use Rattle.ion_transcode.proofs.PartItems.{taken-more}
use Rattle.ion_transcode.proofs.in_parts.counter.Counter.count.Goals as goal

pub returns-clause-counts : goal.returns-clause-counts
returns-clause-counts c = λ path item is has.
    taken-more path item c.args.self.now.items _ c.args.self.now.is_firm _ has (λ few. omega (arith, few, c.saturating_add-self.ensures)) (c.is_firm-self.ensures ∙ ap is_firm (sym is))
