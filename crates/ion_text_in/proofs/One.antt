-- One text has one path up to a place, and is one stream.
use Rattle.std.proofs.Common.{◌≡◌, ℕ, ◌*◌, true, List, [], ◌++◌, length, refl, sym, ap, ◌∙◌, append-nil, arith}
use Rattle.ion_meter.specs.declared.profile.Rules.{Rules}
use Rattle.ion_value.specs.Value.{top_items}
use Rattle.ion_value.specs.Path.{closed, path_items}
use Rattle.ion_value.specs.Reading.{Finished, items_of}
use Rattle.ion_value.proofs.Readings.{items_of-items_then}
use Rattle.ion_value.proofs.Paths.{same_path}
use Rattle.ion_value.specs.ReadingLaws.{Allows}
use Rattle.ion_value.proofs.ReadingLaws.{prefixes}
use Rattle.ion_text_in.specs.Laws.{OnePath, OneStream}
use Rattle.ion_text_in.proofs.Complete.{complete, streams_are_read}
use Rattle.ion_value.proofs.Permitted.{all-permitted}

-- limits that allow an input
abbrev roomy : List ℕ → Rules
roomy bytes = record { depth = length bytes; scalar = 16 * length bytes; floats = true }

allowed : (bytes : List ℕ) → Allows (roomy bytes) bytes
allowed bytes = (omega arith, omega arith)

pub one_path : OnePath
one_path bytes q r a b is_a is_b =
    let first = complete (roomy bytes) bytes q a (allowed bytes) (all-permitted (roomy bytes) refl (path_items a)) is_a in
    let second = complete (roomy bytes) bytes r b (allowed bytes) (all-permitted (roomy bytes) refl (path_items b)) is_b in
    prefixes (path_items a) (path_items b) (items_of first.0) (items_of second.0)
    (sym (items_of-items_then (path_items a) first.0) ∙ ap items_of (sym first.1 ∙ second.1) ∙ items_of-items_then (path_items b) second.0)

pub one_stream : OneStream
one_stream bytes a b is_a is_b =
    let first = streams_are_read (roomy bytes) bytes a (allowed bytes) (all-permitted (roomy bytes) refl (top_items a)) is_a in
    let second = streams_are_read (roomy bytes) bytes b (allowed bytes) (all-permitted (roomy bytes) refl (top_items b)) is_b in
    let items : top_items a ++ [] ≡ top_items b ++ [] =
    sym (items_of-items_then (top_items a) Finished) ∙ ap items_of (sym first ∙ second) ∙ items_of-items_then (top_items b) Finished in
    let path : closed a ≡ closed b = same_path (closed a) (closed b) (sym (append-nil (top_items a)) ∙ items ∙ append-nil (top_items b)) in
    cc path
