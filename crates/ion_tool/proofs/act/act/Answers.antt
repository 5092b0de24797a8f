use Rattle.std.proofs.Common.{false, option_map, refl, subst}
use Rattle.ion_tool.specs.declared.words.Task.{Task}
use Rattle.ion_tool.specs.Serving.{label_of, run_bound, IsAnswered, Keeps}
use Rattle.ion_tool.proofs.Acts.{is_check, written}
use Rattle.ion_tool.proofs.act.act.Goals as goal

pub returns-in-Show-clause-answered : goal.returns-in-Show-clause-answered
returns-in-Show-clause-answered g c i o =
    written (label_of (option_map (λ s. s.now) c.args.label)) c.args.task (λ v text. rw c.in-Show.is refl) c.args.catalog.now c.args.limits (g.I.Input.rest c.args.input) (g.O.Output.written c.args.out) (g.O.Output.written c.run_stream.result.2) (g.O.Output.observable c.args.out) o
    c.run_stream.result.0 (c.run_stream.ensures.transcoded i)

pub returns-in-Check-clause-answered : goal.returns-in-Check-clause-answered
returns-in-Check-clause-answered g c i o =
    subst (λ (t : Task). IsAnswered (label_of (option_map (λ s. s.now) c.args.label)) c.args.catalog.now t c.args.limits (g.I.Input.rest c.args.input) (g.O.Output.written c.args.out) (g.O.Output.written c.check.result.2) c.check.result.0)
    (is_check c.args.task c.in-Check.is) (c.check.ensures.answered i o)

pub returns-in-Check-clause-kept : goal.returns-in-Check-clause-kept
returns-in-Check-clause-kept g c =
    subst (λ (t : Task). Keeps g.I.Input g.O.Output false (run_bound t c.args.limits) c.check.result.0 c.args.meter.now c.check.new.meter c.args.input c.check.result.1 c.args.out c.check.result.2)
    (is_check c.args.task c.in-Check.is) c.check.ensures.kept

pub returns-in-Convert-clause-answered : goal.returns-in-Convert-clause-answered
returns-in-Convert-clause-answered g c i o =
    written (label_of (option_map (λ s. s.now) c.args.label)) c.args.task (λ v text. rw c.in-Convert.is refl) c.args.catalog.now c.args.limits (g.I.Input.rest c.args.input) (g.O.Output.written c.args.out) (g.O.Output.written c.run_stream-in-Convert.result.2) (g.O.Output.observable c.args.out) o
    c.run_stream-in-Convert.result.0 (c.run_stream-in-Convert.ensures.transcoded i)

pub returns-in-ShowPretty-clause-answered : goal.returns-in-ShowPretty-clause-answered
returns-in-ShowPretty-clause-answered g c i o =
    written (label_of (option_map (λ s. s.now) c.args.label)) c.args.task (λ v text. rw c.in-ShowPretty.is refl) c.args.catalog.now c.args.limits (g.I.Input.rest c.args.input) (g.O.Output.written c.args.out) (g.O.Output.written c.run_stream-in-ShowPretty.result.2) (g.O.Output.observable c.args.out) o
    c.run_stream-in-ShowPretty.result.0 (c.run_stream-in-ShowPretty.ensures.transcoded i)

pub returns-in-ConvertPretty-clause-answered : goal.returns-in-ConvertPretty-clause-answered
returns-in-ConvertPretty-clause-answered g c i o =
    written (label_of (option_map (λ s. s.now) c.args.label)) c.args.task (λ v text. rw c.in-ConvertPretty.is refl) c.args.catalog.now c.args.limits (g.I.Input.rest c.args.input) (g.O.Output.written c.args.out) (g.O.Output.written c.run_stream-in-ConvertPretty.result.2) (g.O.Output.observable c.args.out) o
    c.run_stream-in-ConvertPretty.result.0 (c.run_stream-in-ConvertPretty.ensures.transcoded i)

pub returns-in-Rewrite-clause-answered : goal.returns-in-Rewrite-clause-answered
returns-in-Rewrite-clause-answered g c i o =
    written (label_of (option_map (λ s. s.now) c.args.label)) c.args.task (λ v text. rw c.in-Rewrite.is refl) c.args.catalog.now c.args.limits (g.I.Input.rest c.args.input) (g.O.Output.written c.args.out) (g.O.Output.written c.run_stream-in-Rewrite.result.2) (g.O.Output.observable c.args.out) o
    c.run_stream-in-Rewrite.result.0 (c.run_stream-in-Rewrite.ensures.transcoded i)
