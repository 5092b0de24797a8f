use Rattle.std.proofs.Common.{rules, Ok, Err}
use Rattle.std.specs.Prelude.{string_bytes}
use Rattle.ion_tool.proofs.serve.serve_file.Goals as goal

pub returns-in-Ok-clause-served : goal.returns-in-Ok-clause-served
returns-in-Ok-clause-served g c = (
  Ok c.in-Ok.file,
  c.open_named.new.self,
  c.in-Ok.ensures,
  (c.serve_input-status.result.1, rw c.from_device.ensures at c.close.ensures, rw c.new-input.ensures at c.serve_input-status.ensures.served),
)

pub returns-in-Err-clause-served : goal.returns-in-Err-clause-served
returns-in-Err-clause-served g c = (
  Err (string_bytes c.in-Err.reason),
  c.open_named.new.self,
  c.in-Err.ensures,
  record {
    status_is = search rules;
    memory = search rules;
    files = search rules;
    output = search rules;
    said = rw c.as_str.ensures.value at c.say_unopened.ensures;
  },
)
