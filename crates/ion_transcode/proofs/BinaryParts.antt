-- Parts of a text that are written as binary are one stream, which shows what the text shows.
use Rattle.std.proofs.Common.{◌≡◌, ◌≤◌, ℕ, ◌+◌, List, [], ◌++◌, length, Some, inl, inr, refl, sym, ap, subst, ◌∙◌, append_assoc, arith}
use Rattle.ion_meter.specs.Limits.{AreChecked}
use Rattle.ion_meter.specs.Rules.{rules}
use Rattle.ion_meter.specs.declared.fault.Reason.{Reason}
use Rattle.ion_meter.specs.declared.limits.Limits.{Limits}
use Rattle.ion_meter.specs.declared.profile.Profile.{Profile}
use Rattle.ion_value.specs.Outcome.{Verdict, Accepted, Rejected}
use Rattle.ion_symbols.specs.Laws.{UsersAreRead}
use Rattle.ion_symbols.specs.Onward.{UsersReadOn, UsersHangOnNoPlace}
use Rattle.ion_symbols.specs.Table.{Shared}
use Rattle.ion_symbols.specs.UserValues.{CatalogIsText}
use Rattle.ion_binary.specs.Cuts.{WholeValuesAreCut, PartsAreRead}
use Rattle.ion_binary.specs.WrittenLimits.{AllowDeclarations}
use Rattle.ion_text_in.specs.Firm.{CutWhereOneBegins, CutAfterFirm, PartsAreTexts}
use Rattle.ion_text_out.specs.Layout.{canonical}
use Rattle.ion_text_out.specs.Text.{text_by}
use Rattle.ion_transcode.specs.declared.to.Form.{Form}
use Rattle.ion_transcode.specs.declared.to.Form.TheVariants as form
use Rattle.ion_transcode.specs.declared.to.Target.TheVariants as target
use Rattle.ion_transcode.specs.declared.to.To.{To}
use Rattle.ion_transcode.specs.declared.to.To.TheVariants as into
use Rattle.ion_transcode.specs.Acceptance.{WhatIsAcceptedIsRead}
use Rattle.ion_transcode.specs.Forms.{form_of}
use Rattle.ion_transcode.specs.InParts.{behind, IsTaken, InParts, last_part, one_part, BinaryStreamsJoin, PartsOfBinaryShowTheWhole}
use Rattle.ion_transcode.specs.Laws.{OneVerdict, StreamsAreRead}
use Rattle.ion_transcode.specs.Outputs.{resolved}
use Rattle.ion_transcode.specs.RoundTrip.{canonical_text}
use Rattle.ion_transcode.specs.Verdict.{HasVerdictWith}
use Rattle.ion_transcode.specs.WrittenAgain.{WrittenFitsFrom, WrittenBinaryIsAccepted}
use Rattle.ion_transcode.proofs.AllParts.{part-joins, form-whole, form-kept}
use Rattle.ion_transcode.proofs.CutReadings.{form-more}
use Rattle.ion_transcode.proofs.RefusalsStand.{some-bytes}

text-only : (f : Form) → resolved f into.Text ≡ Some target.Binary → ⊥
text-only form.Binary e = absurd (cc e)
text-only form.Text e = absurd (cc e)

-- text is no binary
no-binary : {A : Type 0} (f : Form) → f ≡ form.Text → f ≡ form.Binary → A
no-binary f is e = let both : form.Text ≡ form.Binary = sym is ∙ e in absurd (cc both)

number-of : (m n : ℕ) → Accepted m ≡ Accepted n → m ≡ n
number-of m n e = cc e

refused-not : {A : Type 0} (r : Reason) (p n : ℕ) → Rejected r p ≡ Accepted n → A
refused-not r p n e = absurd (cc e)

module _ (streams : StreamsAreRead) (one_only : OneVerdict) (accepted_read : WhatIsAcceptedIsRead) (users_read : UsersAreRead) (whole_cut : WholeValuesAreCut) (parts_read : PartsAreRead)
    (begun : CutWhereOneBegins) (firm : CutAfterFirm) (parts_texts : PartsAreTexts) (read_on : UsersReadOn) (no_place : UsersHangOnNoPlace) (join : BinaryStreamsJoin) (again : WrittenBinaryIsAccepted)
    (profile : Profile) (catalog other : List Shared) (limits : Limits) (asked : To) (is_text : CatalogIsText catalog) (checked : AreChecked limits) (allow : AllowDeclarations (rules limits profile))
    (small : limits.symbols ≤ limits.scalar) (to_is : resolved form.Text asked ≡ Some target.Binary) where
  -- what is shown of bytes, of what was written of them too
  record Shows (bytes written : List ℕ) (n : ℕ) : Type 0 where
    shown : List ℕ
    whole : HasVerdictWith profile catalog limits into.Text bytes (Accepted n) shown
    by_written : HasVerdictWith profile other limits into.Text written (Accepted n) shown
    binary : form_of written ≡ form.Binary

  -- of one run
  shows-one : (bytes written : List ℕ) (n : ℕ) → form_of bytes ≡ form.Text → HasVerdictWith profile catalog limits asked bytes (Accepted n) written → Shows bytes written n
  shows-one bytes written n text has =
      let is : resolved (form_of bytes) asked ≡ Some target.Binary = ap (λ (f : Form). resolved f asked) text ∙ to_is in
      let written_again = again profile catalog other limits asked bytes written n is_text checked (λ e. no-binary (form_of bytes) text e)
      (λ tops us stream are. subst (λ (f : Form). WrittenFitsFrom f profile limits catalog us) (sym text) (inl (allow.scalar, inr (allow, inr (inr small))))) is has in
      let read = accepted_read profile catalog limits asked bytes target.Binary n written is has in
      record {
        shown = text_by canonical written_again.us;
        whole = written_again.shown target.Text canonical into.Text canonical_text (ap (λ (f : Form). resolved f into.Text) text);
        by_written = written_again.as_text target.Text canonical into.Text canonical_text refl;
        binary = ap form_of read.output;
      }

  -- of all parts
  shows-all : (kept bytes written : List ℕ) (v : Verdict) (n : ℕ) → InParts profile catalog limits asked kept bytes v written → form_of (kept ++ bytes) ≡ form.Text → v ≡ Accepted n → Shows (kept ++ bytes) written n
  shows-all _ _ _ _ n (last_part kept bytes (Rejected reason place) written has) text e = refused-not reason place n e
  shows-all _ _ _ _ n (last_part kept bytes (Accepted m) written has) text e =
      let same : 0 + m ≡ n = omega (arith, number-of m n e) in
      subst (λ (k : ℕ). Shows (kept ++ bytes) written k) same (shows-one (kept ++ bytes) written (0 + m) text has)
  shows-all _ _ _ _ n (one_part kept part next then_kept bytes out more values (Rejected reason place) taken prefix others) text e = refused-not reason (place + length part) n e
  shows-all _ _ _ _ n (one_part kept part next then_kept bytes out more values (Accepted m) taken prefix others) text e =
      let all : kept ++ (part ++ bytes) ≡ (kept ++ part) ++ bytes = sym (append_assoc kept part bytes) in
      let here : form_of (kept ++ part) ≡ form.Text =
      sym (form-whole streams one_only accepted_read users_read whole_cut parts_read begun firm parts_texts read_on no_place profile catalog limits asked kept part next then_kept bytes out more values (Accepted m) taken
      prefix) ∙ ap form_of (sym all) ∙ text in
      let there : form_of (then_kept ++ bytes) ≡ form.Text =
      form-kept streams one_only accepted_read users_read whole_cut parts_read begun firm parts_texts read_on no_place profile catalog limits asked kept part next then_kept bytes out more values (Accepted m) taken
      prefix ∙ here in
      let first = shows-one (kept ++ part) out values here taken.accepted in
      let rest = shows-all then_kept bytes more (Accepted m) m others there refl in
      let text_taken : IsTaken profile catalog limits into.Text kept part next values first.shown then_kept = record { some = taken.some; accepted = first.whole; stands = taken.stands } in
      let whole_rest : HasVerdictWith profile catalog limits into.Text (then_kept ++ bytes) (behind 0 (length then_kept) (Accepted m)) rest.shown =
      let none : m ≡ 0 + m = omega arith in subst (λ (k : ℕ). HasVerdictWith profile catalog limits into.Text (then_kept ++ bytes) (Accepted k) rest.shown) none rest.whole in
      let whole = part-joins streams one_only accepted_read users_read whole_cut parts_read begun firm parts_texts read_on no_place profile catalog limits into.Text kept part next then_kept bytes first.shown rest.shown
      values (Accepted m) text_taken prefix (λ e. text-only (form_of (kept ++ (part ++ bytes))) e) (λ no. whole_rest) in
      let joined = join profile other limits into.Text out more first.shown rest.shown values (Accepted m) first.binary rest.binary (λ e. text-only form.Binary e) first.by_written rest.by_written in
      let count : 0 + (values + m) ≡ n = omega (arith, number-of (values + m) n e) in
      record {
        shown = first.shown ++ rest.shown;
        whole = subst (λ (k : ℕ). HasVerdictWith profile catalog limits into.Text (kept ++ (part ++ bytes)) (Accepted k) (first.shown ++ rest.shown)) count whole;
        by_written = subst (λ (k : ℕ). HasVerdictWith profile other limits into.Text (out ++ more) (Accepted k) (first.shown ++ rest.shown)) (number-of (values + m) n e) joined;
        binary = form-more out more (some-bytes out first.binary) ∙ first.binary;
      }

pub parts-of-binary-show-the-whole : StreamsAreRead → OneVerdict → WhatIsAcceptedIsRead → UsersAreRead → WholeValuesAreCut → PartsAreRead → CutWhereOneBegins → CutAfterFirm → PartsAreTexts → UsersReadOn
    → UsersHangOnNoPlace → BinaryStreamsJoin → WrittenBinaryIsAccepted → PartsOfBinaryShowTheWhole
parts-of-binary-show-the-whole streams one_only accepted_read users_read whole_cut parts_read begun firm parts_texts read_on no_place join again profile catalog other limits asked bytes written n is_text checked
    allow small text to_is parts =
    let all = shows-all streams one_only accepted_read users_read whole_cut parts_read begun firm parts_texts read_on no_place join again profile catalog other limits asked is_text checked allow small to_is
    [] bytes written (Accepted n) n parts text refl in
    (all.shown, all.whole, all.by_written)
