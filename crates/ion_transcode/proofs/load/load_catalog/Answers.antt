use Rattle.std.proofs.Common.{◌≡◌, List, Result, Ok, Err, refl}
use Rattle.std.specs.Result.{IfOk, OnOk}
use Rattle.ion_meter.specs.declared.fault.Fault.{Fault}
use Rattle.ion_symbols.specs.Table.{Shared}
use Rattle.ion_symbols.specs.UserValues.{CatalogIsText}
use Rattle.ion_transcode.proofs.load.load_catalog.Goals as goal

if-loaded : (answer : Result (List Shared) Fault) (bytes : Type 0) → OnOk answer bytes
    → ((tables : List Shared) → answer ≡ Ok tables → bytes → CatalogIsText tables) → IfOk answer (λ catalog. CatalogIsText catalog)
if-loaded (Ok tables) bytes small is = is tables refl small
if-loaded (Err fault) bytes small is = tt

pub returns-clause-text : goal.returns-clause-text
returns-clause-text g c seen =
    let bytes = g.I.Input.rest c.args.input in
    if-loaded c.load.result.0 _ (c.load.ensures.bytes seen)
    (λ tables is small. c.catalogs_are_text.ensures c.args.limits bytes tables small
    (c.catalogs_are_loaded.ensures c.args.limits bytes tables ((c.load.ensures.says seen).loads tables is)))
