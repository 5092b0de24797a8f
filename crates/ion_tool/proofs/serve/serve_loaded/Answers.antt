use Rattle.std.proofs.Common.{rules, Ok, Err}
use Rattle.ion_tool.proofs.Loading.{file_loaded, nothing_back}
use Rattle.ion_tool.proofs.serve.serve_loaded.Goals as goal

pub returns-in-Ok-clause-served : goal.returns-in-Ok-clause-served
returns-in-Ok-clause-served g c =
    let load = c.load_file.ensures in (
      Ok c.in-Ok.catalog,
      c.load_file.new.files,
      file_loaded _ _ _ _ _ _ load.0 _ c.load_file.new.meter c.release.new.meter _ _ c.in-Ok.is load.1 load.2 c.release.ensures,
      c.serve_job-served.ensures.served,
    )

pub returns-in-Err-clause-served : goal.returns-in-Err-clause-served
returns-in-Err-clause-served g c =
    let load = c.load_file.ensures in (
      Err c.in-Err.fault,
      c.load_file.new.files,
      file_loaded _ _ _ _ _ _ load.0 _ c.load_file.new.meter _ _ _ c.in-Err.is load.1 load.2 (nothing_back c.load_file.new.meter),
      record {
        status_is = search rules;
        memory = search rules;
        files = search rules;
        input = search rules;
        output = search rules;
        said = search rules;
      },
    )
