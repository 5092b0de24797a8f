use Rattle.std.proofs.Common.{arith}
use Rattle.std.specs.Prelude.{string_bytes}
use Rattle.ion_tool.specs.Serving.{standing}
use Rattle.ion_tool.proofs.Turns.{all_of_none, all_of_one, all_of_several}
use Rattle.ion_tool.proofs.serve.serve_job.Goals as goal

pub returns-in-empty-clause-served : goal.returns-in-empty-clause-served
returns-in-empty-clause-served g c =
    all_of_none g.F.FileSource.gives g.F.FileSource.closes g.F.File.Read.remaining g.I.Input g.O.Output g.E.Output _ _ _ string_bytes c.args.job.files.items c.as_slice.result.now
    (standing c.args.meter.now c.args.files.now c.args.input c.args.out c.args.err)
    (standing c.serve_one.new.meter c.serve_one.new.files c.serve_one.result.1 c.serve_one.result.2 c.serve_one.result.3) c.serve_one.result.0
    c.as_slice.ensures.value (omega (arith, c.in-empty.len_below)) c.serve_one.ensures.served

pub returns-in-len1-clause-served : goal.returns-in-len1-clause-served
returns-in-len1-clause-served g c =
    all_of_one g.F.FileSource.gives g.F.FileSource.closes g.F.File.Read.remaining g.I.Input g.O.Output g.E.Output _ _ _ string_bytes c.args.job.files.items c.as_slice.result.now
    c.word-item.result c.as_str.result.now _
    (standing c.args.meter.now c.args.files.now c.args.input c.args.out c.args.err)
    (standing c.serve_one-in-len1.new.meter c.serve_one-in-len1.new.files c.serve_one-in-len1.result.1 c.serve_one-in-len1.result.2 c.serve_one-in-len1.result.3) c.serve_one-in-len1.result.0
    c.as_slice.ensures.value (omega (arith, c.in-len1.len_at_least, c.in-len1.len_below)) c.word-item.is c.as_str.ensures.value c.file_of-name.ensures c.serve_one-in-len1.ensures.served

pub returns-clause-served : goal.returns-clause-served
returns-clause-served g c =
    all_of_several g.F.FileSource.gives g.F.FileSource.closes g.F.File.Read.remaining g.I.Input g.O.Output g.E.Output _ _ _ string_bytes c.args.job.files.items c.as_slice.result.now
    (standing c.args.meter.now c.args.files.now c.args.input c.args.out c.args.err)
    (standing c.serve_each.new.meter c.serve_each.new.files c.serve_each.result.1 c.serve_each.result.2 c.serve_each.result.3) c.serve_each.result.0
    c.as_slice.ensures.value (omega (arith, c.in-len2-up.len_at_least)) c.serve_each.ensures.served c.serve_each.ensures.in_turn
