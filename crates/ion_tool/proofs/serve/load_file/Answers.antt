use Rattle.ion_tool.proofs.Loading.{kept_cheap, loaded_from, says_tables}
use Rattle.ion_tool.proofs.serve.load_file.Goals as goal

pub returns : goal.returns
returns g c =
    let load = c.load_catalog-loaded.ensures in (
      c.load_catalog-loaded.result.1,
      rw c.from_device.ensures at c.close.ensures,
      loaded_from _ _ _ c.load_catalog-loaded.new.meter _ _ _ _ c.new.ensures (record {
        says = λ o. says_tables _ _ _ (load.loaded o) (load.refused o) (load.limit o);
        causes = record {
          memory = load.memory;
          counted = load.counted;
          read = load.read;
          reads_steady = load.reads_steady;
          no_writes = load.no_writes;
          limit = λ e o. load.limit o e;
        };
        charges = record { cheap = kept_cheap c.args.limits _ load.cheap; held = load.held; peak = load.peak };
      }),
    )
