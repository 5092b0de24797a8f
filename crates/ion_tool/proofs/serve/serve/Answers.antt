use Rattle.std.proofs.Common.{rules, inl, inr, sym, ◌∙◌, None, Some}
use Rattle.std.specs.Prelude.{map, string_bytes, option_map}
use Rattle.ion_tool.proofs.Asking.{not_two}
use Rattle.ion_tool.proofs.OneRun.{one_run, no_file}
use Rattle.ion_tool.proofs.serve.serve.Goals.{in-Ok-Help, in-Ok-Usage, in-Err}
use Rattle.ion_tool.proofs.serve.serve.Goals as goal

pub returns-in-Ok-Run-clause-ran : goal.returns-in-Ok-Run-clause-ran
returns-in-Ok-Run-clause-ran g c task limits names run =
    let job = c.in-Ok-Run.job in
    let catalog = c.in-Ok-Run.catalog in
    let asks = rw (c.in-Ok-Run.field-0-is, c.as_slice.ensures.value) at c.in-Ok-Run.ensures.asks in
    let same = one_run _ task job.task limits job.limits None (option_map string_bytes catalog) names (map string_bytes job.files.items) run asks.0 in
    let served = (c.serve_run.ensures.plain (no_file string_bytes catalog same.2)).1 in
    inl (rw (same.0, same.1, same.3) served)

pub returns-in-Ok-Run-clause-uncatalogued : goal.returns-in-Ok-Run-clause-uncatalogued
returns-in-Ok-Run-clause-uncatalogued g c task limits names run =
    let job = c.in-Ok-Run.job in
    let catalog = c.in-Ok-Run.catalog in
    let asks = rw (c.in-Ok-Run.field-0-is, c.as_slice.ensures.value) at c.in-Ok-Run.ensures.asks in
    let same = one_run _ task job.task limits job.limits None (option_map string_bytes catalog) names (map string_bytes job.files.items) run asks.0 in
    (c.serve_run.ensures.plain (no_file string_bytes catalog same.2)).0

pub returns-in-Ok-Run-clause-catalog : goal.returns-in-Ok-Run-clause-catalog
returns-in-Ok-Run-clause-catalog g c task limits name names run =
    let job = c.in-Ok-Run.job in
    let catalog = c.in-Ok-Run.catalog in
    let asks = rw (c.in-Ok-Run.field-0-is, c.as_slice.ensures.value) at c.in-Ok-Run.ensures.asks in
    let same = one_run _ task job.task limits job.limits (Some name) (option_map string_bytes catalog) names (map string_bytes job.files.items) run asks.0 in
    inl (rw (same.0, same.1, same.3) (c.serve_run.ensures.named name (sym same.2)))

pub returns-in-Ok-Run-clause-unread : goal.returns-in-Ok-Run-clause-unread
returns-in-Ok-Run-clause-unread g c none =
    let job = c.in-Ok-Run.job in
    let asks = rw (c.in-Ok-Run.field-0-is, c.as_slice.ensures.value) at c.in-Ok-Run.ensures.asks in
    absurd (none (job.task, job.limits, option_map string_bytes c.in-Ok-Run.catalog, map string_bytes job.files.items, asks.0))

pub returns-in-Ok-Run-clause-other : goal.returns-in-Ok-Run-clause-other
returns-in-Ok-Run-clause-other g c none =
    let job = c.in-Ok-Run.job in
    let asks = rw (c.in-Ok-Run.field-0-is, c.as_slice.ensures.value) at c.in-Ok-Run.ensures.asks in
    absurd (none (job.task, job.limits, option_map string_bytes c.in-Ok-Run.catalog, map string_bytes job.files.items, asks.0))

pub returns-clause-ran : goal.returns-clause-ran
returns-clause-ran g c task limits names run =
    elim c.match-read_words.branch [
      | in-Ok-Help w ↦ let asks = rw (w.in-Ok-Help.field-0-is, c.as_slice.ensures.value) at w.in-Ok-Help.ensures.asks in elim (asks.0 (task, limits, None, names, run)) [ ]
      | in-Ok-Usage w ↦ let asks = rw (w.in-Ok-Usage.field-0-is, c.as_slice.ensures.value) at w.in-Ok-Usage.ensures.asks in elim (asks.0 (task, limits, None, names, run)) [ ]
      | in-Err w ↦ inr (record {
        some_words = rw c.as_slice.ensures.value at w.in-Err.ensures.some_words;
        status_is = search rules;
        memory = search rules;
        files = search rules;
        input = search rules;
        output = search rules;
        said = search rules;
      })
    ]

pub returns-clause-catalog : goal.returns-clause-catalog
returns-clause-catalog g c task limits name names run =
    elim c.match-read_words.branch [
      | in-Ok-Help w ↦ let asks = rw (w.in-Ok-Help.field-0-is, c.as_slice.ensures.value) at w.in-Ok-Help.ensures.asks in elim (asks.0 (task, limits, Some name, names, run)) [ ]
      | in-Ok-Usage w ↦ let asks = rw (w.in-Ok-Usage.field-0-is, c.as_slice.ensures.value) at w.in-Ok-Usage.ensures.asks in elim (asks.0 (task, limits, Some name, names, run)) [ ]
      | in-Err w ↦ inr (
        search rules,
        record {
          some_words = rw c.as_slice.ensures.value at w.in-Err.ensures.some_words;
          status_is = search rules;
          memory = search rules;
          files = search rules;
          input = search rules;
          output = search rules;
          said = search rules;
        },
      )
    ]

pub returns-clause-other : goal.returns-clause-other
returns-clause-other g c none =
    elim c.match-read_words.branch [
      | in-Ok-Help w ↦
          let asks = rw (w.in-Ok-Help.field-0-is, c.as_slice.ensures.value) at w.in-Ok-Help.ensures.asks in
          inl (record {
            asked = asks.1;
            text = w.as_bytes.result.now;
            some_text = rw w.as_bytes.ensures.value asks.2;
            given = search rules;
            status_is = search rules;
            whole = search rules;
            cut = search rules;
          })
      | in-Ok-Usage w ↦
          let asks = rw (w.in-Ok-Usage.field-0-is, c.as_slice.ensures.value) at w.in-Ok-Usage.ensures.asks in
          inr (inl (record {
            wrong = asks.1;
            text = w.as_bytes-in-Ok-Usage.result.now;
            some_text = rw w.as_bytes-in-Ok-Usage.ensures.value asks.2;
            status_is = search rules;
            output = search rules;
            said = search rules;
          }))
      | in-Err w ↦ inr (inr (record {
        some_words = rw c.as_slice.ensures.value at w.in-Err.ensures.some_words;
        status_is = search rules;
        memory = search rules;
        files = search rules;
        input = search rules;
        output = search rules;
        said = search rules;
      }))
    ]

pub returns-clause-usage : goal.returns-clause-usage
returns-clause-usage g c two =
    elim c.match-read_words.branch [
      | in-Ok-Help w ↦ absurd (not_two _ w.give_help-status.ensures.status (sym w.status-is ∙ two))
      | in-Ok-Usage w ↦
          let asks = rw (w.in-Ok-Usage.field-0-is, c.as_slice.ensures.value) at w.in-Ok-Usage.ensures.asks in (
            asks.0,
            record {
              wrong = asks.1;
              text = w.as_bytes-in-Ok-Usage.result.now;
              some_text = rw w.as_bytes-in-Ok-Usage.ensures.value asks.2;
              status_is = two;
              output = search rules;
              said = search rules;
            },
          )
      | in-Err w ↦ absurd (not_two _ (inr w.report-status.ensures.status) (sym w.status-is ∙ two))
    ]
