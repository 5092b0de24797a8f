-- Two binary streams one after the other are one stream.
use Rattle.std.proofs.Common.{◌≡◌, ℕ, ◌+◌, List, [], ◌++◌, length, Option, Some, None, refl, sym, ap, ap₂, subst, subst₂, ◌∙◌}
use Rattle.ion_meter.specs.Rules.{rules}
use Rattle.ion_meter.specs.declared.fault.Reason.{Reason}
use Rattle.ion_meter.specs.declared.fault.Reason.TheVariants.{SameForm}
use Rattle.ion_meter.specs.declared.limits.Limits.{Limits}
use Rattle.ion_meter.specs.declared.profile.Profile.{Profile}
use Rattle.ion_value.specs.Further.{further}
use Rattle.ion_value.specs.Outcome.{Verdict, Accepted, Rejected, values_in, verdict_after, output_after}
use Rattle.ion_value.specs.Reading.{Reading, Finished, Stopped, More, items_of, items_then}
use Rattle.ion_value.specs.ReadingLaws.{ending_of}
use Rattle.ion_value.specs.Value.{PlacedItem, top_items}
use Rattle.ion_symbols.specs.Laws.{UsersAreRead}
use Rattle.ion_symbols.specs.Onward.{at_top, UsersReadOn, UsersHangOnNoPlace, AcceptedStreamsLeadToTheTop}
use Rattle.ion_symbols.specs.Resolved.{WhatIsResolvedIsAccepted}
use Rattle.ion_symbols.specs.Table.{Shared, Table}
use Rattle.ion_symbols.specs.Users.{at_start, users}
use Rattle.ion_binary.specs.Cuts.{WholeValuesAreCut, PartsAreRead, BeginsWithMarker, stops_at_once, marker_first, StreamsBeginWithMarker}
use Rattle.ion_text_out.specs.Layout.{canonical, pretty}
use Rattle.ion_transcode.specs.declared.to.Form.{Form}
use Rattle.ion_transcode.specs.declared.to.Form.TheVariants as form
use Rattle.ion_transcode.specs.declared.to.Target.{Target}
use Rattle.ion_transcode.specs.declared.to.Target.TheVariants as target
use Rattle.ion_transcode.specs.declared.to.To.{To}
use Rattle.ion_transcode.specs.Acceptance.{WhatIsAcceptedIsRead}
use Rattle.ion_transcode.specs.ByItem.{by_item, verdict_as, output_as, verdict_for, output_for}
use Rattle.ion_transcode.specs.Forms.{IsBinary, form_of, reading_of}
use Rattle.ion_transcode.specs.InParts.{behind, BinaryStreamsJoin}
use Rattle.ion_transcode.specs.Laws.{OneVerdict, StreamsAreRead}
use Rattle.ion_transcode.specs.Outputs.{Outputs, resolved}
use Rattle.ion_transcode.specs.Verdict.{HasVerdictWith}
use Rattle.ion_transcode.proofs.CutReadings.{form-more}
use Rattle.ion_transcode.proofs.QuietParts.{ended, IsQuiet, text-quiet, nothing-quiet, quiet-verdict, quiet-output, verdict-behind, output-behind, verdict-whole, output-whole}
use Rattle.ion_transcode.proofs.RefusalsStand.{some-bytes}
use Rattle.ion_transcode.proofs.Streams.{first_byte}

-- behind a marker the table is that of the beginning
from-marker : (catalog : List Shared) (limit : ℕ) (t : Table) (r : Reading) → BeginsWithMarker r → users catalog limit (at_top t) r ≡ users catalog limit at_start r
from-marker catalog limit t _ (stops_at_once reason place) = refl
from-marker catalog limit t _ (marker_first item r is) = rw is refl

accepted-of : (m n : ℕ) → Accepted m ≡ Accepted n → m ≡ n
accepted-of m n e = cc e

never-both : {A : Type 0} (n : ℕ) (r : Reason) (p : ℕ) → Accepted n ≡ Rejected r p → A
never-both n r p e = absurd (cc e)

ended-behind : (r : Reading) (n values far : ℕ) → behind values far (ended (ending_of r) n) ≡ ended (ending_of (further far r)) (values + n)
ended-behind Finished n values far = refl
ended-behind (Stopped reason place) n values far = refl
ended-behind (More item r) n values far = ended-behind r n values far

module _ (streams : StreamsAreRead) (one : OneVerdict) (accepted_read : WhatIsAcceptedIsRead) (users_read : UsersAreRead) (whole_cut : WholeValuesAreCut) (parts_read : PartsAreRead) (begins : StreamsBeginWithMarker)
    (read_on : UsersReadOn) (no_place : UsersHangOnNoPlace) (resolved_accepted : WhatIsResolvedIsAccepted) (to_top : AcceptedStreamsLeadToTheTop)
    (profile : Profile) (catalog : List Shared) (limits : Limits) (to : To) (first bytes out more : List ℕ) (values : ℕ) (v : Verdict)
    (first_binary : form_of first ≡ form.Binary) (bytes_binary : form_of bytes ≡ form.Binary)
    (has : HasVerdictWith profile catalog limits to first (Accepted values) out) (others : HasVerdictWith profile catalog limits to bytes v more) where
  abbrev read : List ℕ → Reading
  read all = reading_of profile form.Binary limits all

  abbrev used : Reading → Reading
  used r = users catalog limits.symbols at_start r

  abbrev verdict_by : Option Target → Form → List ℕ → Verdict
  verdict_by r f all = verdict_as profile r f catalog limits all

  abbrev output_by : Option Target → Form → List ℕ → List ℕ
  output_by r f all = output_as profile r f catalog limits all

  both_binary : form_of (first ++ bytes) ≡ form.Binary
  both_binary = form-more first bytes (some-bytes first first_binary) ∙ first_binary

  found : (all : List ℕ) (w : Verdict) (written : List ℕ) → form_of all ≡ form.Binary → HasVerdictWith profile catalog limits to all w written
      → (w ≡ verdict_by (resolved form.Binary to) form.Binary all) × (written ≡ output_by (resolved form.Binary to) form.Binary all)
  found all w written is h =
      let e = one profile catalog limits to all w (verdict_for profile catalog limits to all) written (output_for profile catalog limits to all) h (streams profile catalog limits to all) in (
        e.0 ∙ ap (λ (f : Form). verdict_by (resolved f to) f all) is,
        e.1 ∙ ap (λ (f : Form). output_by (resolved f to) f all) is,
      )

  quiet-join : (t : Target) → resolved form.Binary to ≡ Some t → IsQuiet (by_item t limits) → HasVerdictWith profile catalog limits to (first ++ bytes) (behind values (length first) v) (out ++ more)
  quiet-join t is quiet =
      let o : Outputs = by_item t limits in
      let whole = accepted_read profile catalog limits to first t values out (ap (λ (f : Form). resolved f to) first_binary ∙ is) has in
      let reads : read first ≡ items_then (top_items whole.tops) Finished = ap (λ (f : Form). reading_of profile f limits first) (sym first_binary) ∙ whole.read in
      let given = resolved_accepted catalog limits.symbols whole.tops whole.resolved_are in
      let mine : List PlacedItem = given.0 in
      let trees = users_read catalog limits.symbols whole.tops mine given.1 in
      let top = to_top catalog limits.symbols whole.tops mine given.1 in
      let rest : Reading = used (read bytes) in
      let lead : IsBinary bytes = first_byte bytes bytes_binary in
      let marked : BeginsWithMarker (read bytes) = subst (λ (all : List ℕ). BeginsWithMarker (read all)) (sym lead.1) (begins (rules limits profile) lead.0) in
      let users_first : used (read first) ≡ items_then mine Finished = ap used reads ∙ given.1 in
      let users_both : used (read (first ++ bytes)) ≡ items_then mine (further (length first) rest) =
      ap used (whole_cut (rules limits profile) first bytes (top_items whole.tops) reads ∙ ap (items_then (top_items whole.tops)) (parts_read (rules limits profile) (length first) bytes))
      ∙ read_on catalog limits.symbols at_start (top_items whole.tops) (record { mine = mine; after = at_top top.0 }) (further (length first) (read bytes)) top.1
      ∙ ap (items_then mine) (no_place catalog limits.symbols top.0 (length first) (read bytes) ∙ ap (further (length first)) (from-marker catalog limits.symbols top.0 (read bytes) marked)) in
      let a = found first (Accepted values) out first_binary has in
      let b = found bytes v more bytes_binary others in
      let values_are : values ≡ values_in [] mine =
      accepted-of values (values_in [] mine)
      (a.0 ∙ ap (λ (r : Option Target). verdict_by r form.Binary first) is ∙ ap (verdict_after o.refusal []) users_first ∙ verdict-whole o quiet mine) in
      let out_is : out ≡ o.open_output mine =
      a.1 ∙ ap (λ (r : Option Target). output_by r form.Binary first) is ∙ ap (output_after o.open_output o.refusal []) users_first ∙ output-whole o quiet mine in
      let v_is : v ≡ ended (ending_of rest) (values_in [] (items_of rest)) = b.0 ∙ ap (λ (r : Option Target). verdict_by r form.Binary bytes) is ∙ quiet-verdict o quiet rest in
      let more_is : more ≡ o.open_output (items_of rest) = b.1 ∙ ap (λ (r : Option Target). output_by r form.Binary bytes) is ∙ quiet-output o quiet rest in
      let whole_v : verdict_for profile catalog limits to (first ++ bytes) ≡ behind values (length first) v =
      ap (λ (f : Form). verdict_by (resolved f to) f (first ++ bytes)) both_binary ∙ ap (λ (r : Option Target). verdict_by r form.Binary (first ++ bytes)) is
      ∙ ap (verdict_after o.refusal []) users_both ∙ verdict-behind o quiet mine trees.0 trees.2 (length first) rest
      ∙ ap (λ (m : ℕ). ended (ending_of (further (length first) rest)) (m + values_in [] (items_of rest))) (sym values_are)
      ∙ sym (ended-behind rest (values_in [] (items_of rest)) values (length first)) ∙ ap (behind values (length first)) (sym v_is) in
      let whole_out : output_for profile catalog limits to (first ++ bytes) ≡ out ++ more =
      ap (λ (f : Form). output_by (resolved f to) f (first ++ bytes)) both_binary ∙ ap (λ (r : Option Target). output_by r form.Binary (first ++ bytes)) is
      ∙ ap (output_after o.open_output o.refusal []) users_both ∙ output-behind o quiet mine trees.0 trees.2 (length first) rest
      ∙ ap₂ (λ (xs ys : List ℕ). xs ++ ys) (sym out_is) (sym more_is) in
      subst₂ (λ (w : Verdict) (written : List ℕ). HasVerdictWith profile catalog limits to (first ++ bytes) w written) whole_v whole_out (streams profile catalog limits to (first ++ bytes))

  pub joins : (r : Option Target) → resolved form.Binary to ≡ r → (resolved form.Binary to ≡ Some target.Binary → ⊥)
      → HasVerdictWith profile catalog limits to (first ++ bytes) (behind values (length first) v) (out ++ more)
  joins None is no_binary = never-both values SameForm 0 ((found first (Accepted values) out first_binary has).0 ∙ ap (λ (r : Option Target). verdict_by r form.Binary first) is)
  joins (Some target.Text) is no_binary = quiet-join target.Text is (text-quiet canonical)
  joins (Some target.Pretty) is no_binary = quiet-join target.Pretty is (text-quiet pretty)
  joins (Some target.Nothing) is no_binary = quiet-join target.Nothing is nothing-quiet
  joins (Some target.Binary) is no_binary = absurd (no_binary is)

pub binary-streams-join : StreamsAreRead → OneVerdict → WhatIsAcceptedIsRead → UsersAreRead → WholeValuesAreCut → PartsAreRead → StreamsBeginWithMarker → UsersReadOn → UsersHangOnNoPlace → WhatIsResolvedIsAccepted
    → AcceptedStreamsLeadToTheTop → BinaryStreamsJoin
binary-streams-join streams one accepted_read users_read whole_cut parts_read begins read_on no_place resolved_accepted to_top profile catalog limits to first bytes out more values v first_binary bytes_binary
    no_binary has others =
    joins streams one accepted_read users_read whole_cut parts_read begins read_on no_place resolved_accepted to_top profile catalog limits to first bytes out more values v first_binary bytes_binary has others
    (resolved form.Binary to) refl no_binary
