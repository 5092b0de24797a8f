use Rattle.ion_text_in.specs.Runs.{goes_on, GoOn}
use Rattle.ion_text_in.proofs.run.run_by_byte.Given as goal

abbrev pub invariant-bytes : goal.invariant-bytes
invariant-bytes l = GoOn (goes_on l.run) l.bytes l.len
