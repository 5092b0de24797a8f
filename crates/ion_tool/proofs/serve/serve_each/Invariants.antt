use Rattle.std.proofs.Common.{◌≡◌, ◌⊎◌, ◌<◌, ◌-◌, ◌^◌, map, drop}
use Rattle.std.specs.Prelude.{string_bytes}
use Rattle.ion_transcode.specs.Calls.{HasRoom}
use Rattle.ion_tool.specs.Serving.{standing}
use Rattle.ion_tool.proofs.Turns.{LeadsOn}
use Rattle.ion_tool.proofs.serve.serve_each.Given as goal

abbrev pub invariant-loop-word : goal.invariant-loop-word
invariant-loop-word g l = record {
  room : HasRoom (2 ^ 48) 0 l.meter;
  in_failures : g.I.Input.failure_count l.input < 2 ^ 64 - 1;
  out_failures : g.O.Output.failure_count l.out < 2 ^ 64 - 1;
  err_failures : g.E.Output.failure_count l.err < 2 ^ 64 - 1;
  status : (l.status ≡ 0) ⊎ ((l.status ≡ 1) ⊎ (l.status ≡ 3));
  onward : LeadsOn g.F.FileSource.gives g.F.FileSource.closes g.F.File.Read.remaining g.I.Input g.O.Output g.E.Output l.catalog l.job.task l.job.limits
      (map string_bytes l.job.files.items) (drop l.word-index (map string_bytes l.job.files.items))
      (standing l.initial.meter l.initial.files l.initial.input l.initial.out l.initial.err) (standing l.meter l.files l.input l.out l.err) l.status;
}
