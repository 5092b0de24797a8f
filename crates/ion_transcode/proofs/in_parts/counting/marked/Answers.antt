use Rattle.std.proofs.Common.{rules, ◌≡◌, ◌≢◌, true, false}
use Rattle.ion_value.specs.Standing.{is_marker}
use Rattle.ion_transcode.proofs.PartItems.{marked-there, marked-else}
use Rattle.ion_transcode.proofs.in_parts.counting.marked.Goals as goal

pub returns-in-Marker : goal.returns-in-Marker
returns-in-Marker c = λ path item is all was.
    let here : c.args.place ≡ c.args.at = search rules in
    let marked : true ≡ is_marker item.head = search rules in
    marked-there c.args.at c.args.place path item true all here marked

pub returns-in_default : goal.returns-in_default
returns-in_default c = λ path item is all was.
    let here : c.args.place ≡ c.args.at = search rules in
    let marked : false ≡ is_marker item.head = search rules in
    marked-there c.args.at c.args.place path item false all here marked

pub returns-else-is_there : goal.returns-else-is_there
returns-else-is_there c = λ path item is all was.
    let other : c.args.place ≢ c.args.at = λ e. search rules in
    marked-else c.args.at c.args.place path item c.args.was all other was
