-- Worked rows: what was shown is refused where a limit is too low for its text, by computing.
use Rattle.std.specs.Prelude.{◌≡◌, refl, codes, ℕ, List, [], ◌∷◌, Some}
use Rattle.ion_meter.specs.declared.fault.Reason.TheVariants.{AnnotationLimit, ScalarLimit}
use Rattle.ion_meter.specs.declared.limits.Limits.{Limits}
use Rattle.ion_value.specs.Outcome.{Accepted, Rejected}
use Rattle.ion_symbols.specs.Table.{Shared}
use Rattle.ion_transcode.specs.declared.to.To.TheVariants as to
use Rattle.ion_transcode.proofs.TopRows.{marked, told, usual}

abbrev scalars : ℕ → Limits
scalars limit = record usual { scalar = limit }

-- ---- the longest text of a number or a timestamp

abbrev longest : List ℕ
longest = codes "2000-01-01T00:00:00.00000000000000000000000000000000000000+00:01\n"

in_octets_shown_under_63 : told [] (scalars 63) to.Text (marked "69 81 0F CF 8C 9F 97 BB 80 E6") ≡ (longest, Accepted 1)
unfolding told
in_octets_shown_under_63 = refl

shown_refused_under_63 : told [] (scalars 63) to.Text longest ≡ ([], Rejected ScalarLimit 0)
unfolding told
shown_refused_under_63 = refl

shown_again_under_64 : told [] (scalars 64) to.Text longest ≡ (longest, Accepted 1)
unfolding told
shown_again_under_64 = refl

-- ---- an annotation by its id, and by its text

abbrev long_name : List Shared
long_name = record { name = codes "x"; version = 1; slots = Some (codes "aaaaaaaaaaaaaaaaaaaaaaaaaaaaaaaaaaaaaaaaaaaaaaaaa") ∷ [] } ∷ []

abbrev annotated : List ℕ
annotated = codes "aaaaaaaaaaaaaaaaaaaaaaaaaaaaaaaaaaaaaaaaaaaaaaaaa::1\n"

by_id_shown_under_64 :
    told long_name (scalars 64) to.Text (codes "$ion_symbol_table::{imports:[{name:\"x\",version:1,max_id:1}]} $10::1")
    ≡ (annotated, Accepted 1)
unfolding told
by_id_shown_under_64 = refl

by_text_refused_under_64 : told [] (scalars 64) to.Text annotated ≡ ([], Rejected AnnotationLimit 0)
unfolding told
by_text_refused_under_64 = refl

by_text_shown_under_65 : told [] (scalars 65) to.Text annotated ≡ (annotated, Accepted 1)
unfolding told
by_text_shown_under_65 = refl
