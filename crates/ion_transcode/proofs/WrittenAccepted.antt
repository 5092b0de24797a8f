-- What was written as binary is accepted under the limits of its run, and shows what the stream shows.
use Rattle.std.proofs.Common.{◌≡◌, inl, inr, ℕ, List, [], Some, refl, ap, sym, subst}
use Rattle.std.specs.List.{AllByRecursion}
use Rattle.ion_meter.specs.declared.limits.Limits.{Limits}
use Rattle.ion_meter.specs.declared.profile.Profile.{Profile}
use Rattle.ion_meter.specs.Rules.{rules}
use Rattle.ion_value.specs.Path.{closed, path_items}
use Rattle.ion_value.specs.Reading.{Finished, items_then}
use Rattle.ion_value.specs.Value.{SymbolAt, UserSymbol, Top}
use Rattle.ion_symbols.specs.Table.{Shared, system}
use Rattle.ion_symbols.specs.TextsOfUsers.{TextsOfUsersAreShort}
use Rattle.ion_symbols.specs.Tree.{user_tops}
use Rattle.ion_symbols.specs.UserValues.{AreUsers, UsersOfRawValues}
use Rattle.ion_binary.specs.Canonical.{binary}
use Rattle.ion_binary.specs.Laws as binary_laws
use Rattle.ion_binary.specs.Refusals.{AreWithin}
use Rattle.ion_binary.specs.Spelling.{TheFormIsRead, WhatIsWithinIsShort}
use Rattle.ion_binary.specs.WrittenLimits.{FitsBinary, WhatIsWrittenIsWithinLimits}
use Rattle.ion_binary.specs.WrittenNumbers.{NumbersInTextFit}
use Rattle.ion_binary.specs.WrittenSymbols.{TextsWithinFit, WhatIsWrittenIsResolved}
use Rattle.ion_text_in.specs.Laws.{StreamsAreRaw}
use Rattle.ion_text_in.specs.ReadWithin.{ValuesReadAreWithin}
use Rattle.ion_transcode.specs.declared.to.Form.{Form}
use Rattle.ion_transcode.specs.declared.to.Form.TheVariants as form
use Rattle.ion_transcode.specs.declared.to.Target.TheVariants as target
use Rattle.ion_transcode.specs.Acceptance.{WhatIsReadIsAccepted, WhatIsAcceptedIsRead}
use Rattle.ion_transcode.specs.Forms.{encoding_of, form_of, reading_of}
use Rattle.ion_transcode.specs.WrittenAgain.{WrittenFitsFrom, WrittenBinaryIsAccepted}
use Rattle.ion_transcode.proofs.ReadAgain.{users-of, IsReadAs, is-shown, is-checked}
use Rattle.ion_transcode.proofs.WrittenFits.{users-of-read-fit}

module _ (is_read : WhatIsAcceptedIsRead) (accepted : WhatIsReadIsAccepted) (values : UsersOfRawValues) (binary_raw : binary_laws.StreamsAreRaw) (raw : StreamsAreRaw) (kept : ValuesReadAreWithin)
    (texts : TextsOfUsersAreShort) (room : TextsWithinFit) (is_binary : TheFormIsRead) (short : WhatIsWithinIsShort) (within : WhatIsWrittenIsWithinLimits) (stands : WhatIsWrittenIsResolved)
    (numbers : NumbersInTextFit) where
  -- by the form of the stream that was read
  fits-from : (f : Form) (profile : Profile) (catalog : List Shared) (limits : Limits) (bytes : List ℕ) (tops : List (Top SymbolAt ℕ)) (us : List (Top UserSymbol ℕ))
      → WrittenFitsFrom f profile limits catalog us → (encoding_of profile f).Stream bytes tops
      → reading_of profile f limits bytes ≡ items_then (path_items (closed tops)) Finished → AreWithin limits [] us
      → user_tops catalog system tops ≡ Some us → AllByRecursion (FitsBinary (rules limits profile)) us
  fits-from form.Text profile catalog limits bytes tops us allowed stream read taken are =
      elim allowed [
        | inl enough ↦ users-of-read-fit profile limits numbers enough.0 texts room catalog tops us enough.1 (raw bytes tops stream) (kept (rules limits profile) bytes tops stream read) taken are
        | inr own ↦ own
      ]
  fits-from form.Binary profile catalog limits bytes tops us own stream read taken are = own

  pub written-binary : WrittenBinaryIsAccepted
  written-binary profile catalog other limits asked bytes written n is_text checked small allowed to_is verdict =
      let f : Form = form_of bytes in
      let w = is_read profile catalog limits asked bytes target.Binary n written to_is verdict in
      let us : List (Top UserSymbol ℕ) = w.us in
      let are : AreUsers us = users-of values binary_raw raw profile f catalog bytes w.tops us small is_text w.stream w.users_are in
      let fits : AllByRecursion (FitsBinary (rules limits profile)) us =
      fits-from f profile catalog limits bytes w.tops us (allowed w.tops us w.stream w.users_are) w.stream w.read w.taken w.users_are
      in
      let r = is_binary other limits.symbols us are.0 (short limits us checked w.taken) in
      let read_again = within limits profile us r.raw checked are.0 w.taken fits r.stream in
      let resolved_again = stands other limits us r.raw checked are.0 w.taken r.stream in
      let here : IsReadAs profile f catalog limits bytes us n = record {
        raw = w.tops;
        users = us;
        form = refl;
        read = w.read;
        resolved = w.resolved_are;
        users_are = w.users_are;
        same = refl;
        count = w.count;
      } in
      let there : IsReadAs profile form.Binary other limits (binary limits.symbols us) us n = record {
        raw = r.raw;
        users = r.users;
        form = ap form_of r.stream.begins.1;
        read = read_again;
        resolved = resolved_again;
        users_are = r.users_are;
        same = r.same;
        count = w.count;
      } in
      let again = subst (λ (xs : List ℕ). IsReadAs profile form.Binary other limits xs us n) (sym w.output) there in
      record {
        tops = w.tops;
        us = us;
        stream = w.stream;
        users_are = w.users_are;
        shown = is-shown accepted profile f catalog limits bytes us n here;
        as_text = is-shown accepted profile form.Binary other limits written us n again;
        as_nothing = is-checked accepted profile form.Binary other limits written us n again refl;
      }
