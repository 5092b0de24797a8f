-- A stream that is accepted is read to its end, its symbols are resolved, and the writer refuses nothing of its user values.
use Rattle.std.proofs.Common.{◌≡◌, ℕ, suc, ◌+◌, List, length, Option, Some, refl, ap, sym, ◌∙◌, subst, arith}
use Rattle.ion_meter.specs.declared.limits.Limits.{Limits}
use Rattle.ion_meter.specs.declared.profile.Profile.{Profile}
use Rattle.ion_value.proofs.Readings.{reading_for-enough}
use Rattle.ion_value.specs.Outcome.{Verdict, Accepted}
use Rattle.ion_value.specs.Path.{closed, path_items}
use Rattle.ion_value.specs.Reading.{Reading, Finished, items_then, next_reading, Ends}
use Rattle.ion_value.specs.Value.{SymbolAt, UserSymbol, Top, PlacedItem, top_items}
use Rattle.ion_symbols.specs.Laws.{UsersAreRead}
use Rattle.ion_symbols.specs.Resolved.{AreResolved, WhatIsAcceptedIsResolved}
use Rattle.ion_symbols.specs.Table.{Shared, system}
use Rattle.ion_symbols.specs.Tree.{user_tops}
use Rattle.ion_symbols.specs.Users as users
use Rattle.ion_symbols.specs.Users.{at_start}
use Rattle.ion_binary.specs.Refusals.{ItemsAreRefusedAsInTrees, NoneIsRefusedWithin}
use Rattle.ion_transcode.specs.declared.to.Form.{Form}
use Rattle.ion_transcode.specs.declared.to.Form.TheVariants as form
use Rattle.ion_transcode.specs.declared.to.Target.{Target}
use Rattle.ion_transcode.specs.declared.to.Target.TheVariants as target
use Rattle.ion_transcode.specs.Acceptance.{AreTaken, WhatIsAcceptedIsRead}
use Rattle.ion_transcode.specs.Encoding.{Encoding, IsSound}
use Rattle.ion_transcode.specs.Forms.{IsBinary, binary_encoding, text_encoding, encoding_of, form_of, reading_of}
use Rattle.ion_transcode.specs.Laws.{BinaryIsSound, TextIsSound, OneSpelling}
use Rattle.ion_transcode.specs.Outputs.{Outputs, outputs_of}
use Rattle.ion_transcode.specs.UserPaths.{FaultlessPathsAreRead}
use Rattle.ion_transcode.specs.Verdict.{Faultless, HasVerdictFrom, whole, refused, HasVerdictAs}
use Rattle.ion_transcode.proofs.Faultless.{raw_in, user-step, faultless-prefixes}
use Rattle.ion_transcode.proofs.NoneRefused.{within}
use Rattle.ion_transcode.proofs.Streams.{first_byte}

-- ---- by an encoding that is sound

-- what is accepted
record IsWhole (e : Encoding) (outputs : Outputs) (catalog : List Shared) (limits : Limits) (bytes : List ℕ) (reading : Limits → List ℕ → Reading) (n : ℕ) (out : List ℕ) : Type 0 where
  tops : List (Top SymbolAt ℕ)
  us : List (Top UserSymbol ℕ)
  stream : e.Stream bytes tops
  read : reading limits bytes ≡ items_then (path_items (closed tops)) Finished
  resolved_are : AreResolved catalog limits.symbols system tops
  users_are : user_tops catalog system tops ≡ Some us
  count : n ≡ length us
  output : out ≡ outputs.whole_output us

module _ (e : Encoding) (IsOf : List ℕ → Type 0) (reading : Limits → List ℕ → Reading) (sound : IsSound e IsOf reading) (outputs : Outputs) (catalog : List Shared) (limits : Limits) (bytes : List ℕ) where
  -- items that are faultless up to the end are all that is read, and the user items among them are all of these
  all-read : (tops : List (Top SymbolAt ℕ)) (mine : List PlacedItem) (s : e.State) (u : users.State) → Faultless e outputs catalog limits bytes (top_items tops) s u mine
      → e.step limits s ≡ Ends
      → (reading limits bytes ≡ items_then (top_items tops) Finished)
      × (users.users catalog limits.symbols at_start (items_then (top_items tops) Finished) ≡ items_then mine Finished)
  all-read tops mine s u faultless ends =
      let prefix = faultless-prefixes e outputs catalog limits bytes (top_items tops) s u mine faultless in
      let fuel : ℕ = suc (sound.size (e.start bytes)) in
      let enough : reading limits bytes ≡ raw_in e outputs catalog limits (prefix.steps + fuel) (e.start bytes) =
      sound.reads limits bytes ∙ reading_for-enough (e.step limits) sound.size (sound.falls limits) fuel (prefix.steps + fuel) (e.start bytes) (omega arith) (omega arith)
      in
      let raw : raw_in e outputs catalog limits (prefix.steps + fuel) (e.start bytes) ≡ items_then (top_items tops) Finished =
      prefix.raw fuel ∙ ap (λ o. items_then (top_items tops) (next_reading (λ t. raw_in e outputs catalog limits (sound.size (e.start bytes)) t) o)) ends
      in (
        enough ∙ raw,
        ap (users.users catalog limits.symbols at_start) (sym raw)
            ∙ (prefix.own fuel ∙ ap (items_then mine) (user-step e outputs catalog limits (sound.size (e.start bytes)) s u Ends ends)),
      )

  whole-by : WhatIsAcceptedIsResolved → (v : Verdict) (out : List ℕ) (n : ℕ) → v ≡ Accepted n → HasVerdictFrom e outputs catalog limits bytes v out
      → IsWhole e outputs catalog limits bytes reading n out
  whole-by law v out n is (whole tops us mine s u stream faultless ends users_are) =
      let all = all-read tops mine s u faultless ends in
      let count : length us ≡ n = cc is in
      record {
        tops = tops;
        us = us;
        stream = stream;
        read = all.0;
        resolved_are = law catalog limits.symbols tops mine all.1;
        users_are = users_are;
        count = sym count;
        output = refl;
      }
  whole-by law v out n is (refused path mine s u reason place at faultless fault) = absurd (cc is)

-- ---- by the form of a stream

module _ (binary_sound : BinaryIsSound) (text_sound : TextIsSound) (law : WhatIsAcceptedIsResolved) (users_read : UsersAreRead) (along : FaultlessPathsAreRead)
    (trees : ItemsAreRefusedAsInTrees) (none : NoneIsRefusedWithin) (one : OneSpelling) (profile : Profile) (catalog : List Shared) (limits : Limits) where
  whole-as : (f : Form) (t : Target) (bytes : List ℕ) (n : ℕ) (out : List ℕ) → HasVerdictFrom (encoding_of profile f) (outputs_of t limits) catalog limits bytes (Accepted n) out
      → IsWhole (encoding_of profile f) (outputs_of t limits) catalog limits bytes (reading_of profile f) n out
  whole-as form.Binary t bytes n out v = whole-by (binary_encoding profile) IsBinary (reading_of profile form.Binary) (binary_sound profile) (outputs_of t limits) catalog limits bytes law (Accepted n) out n refl v
  whole-as form.Text t bytes n out v = whole-by (text_encoding profile) (λ b. Unit {0}) (reading_of profile form.Text) (text_sound profile) (outputs_of t limits) catalog limits bytes law (Accepted n) out n refl v

  taken-as : (f : Form) (t : Target) (bytes : List ℕ) (n : ℕ) (out : List ℕ) → (f ≡ form.Binary → IsBinary bytes)
      → HasVerdictFrom (encoding_of profile f) (outputs_of t limits) catalog limits bytes (Accepted n) out
      → (tops : List (Top SymbolAt ℕ)) (us : List (Top UserSymbol ℕ)) → (encoding_of profile f).Stream bytes tops → user_tops catalog system tops ≡ Some us → AreTaken t limits us
  taken-as f target.Text bytes n out is v tops us stream users_are = tt
  taken-as f target.Pretty bytes n out is v tops us stream users_are = tt
  taken-as form.Binary target.Binary bytes n out is v tops us stream users_are =
      within along trees profile form.Binary IsBinary (reading_of profile form.Binary) (binary_sound profile) catalog limits bytes (is refl) users_read none
      ((one profile form.Binary).stream bytes) (Accepted n) out n refl v tops us stream users_are
  taken-as form.Text target.Binary bytes n out is v tops us stream users_are =
      within along trees profile form.Text (λ b. Unit {0}) (reading_of profile form.Text) (text_sound profile) catalog limits bytes tt users_read none
      ((one profile form.Text).stream bytes) (Accepted n) out n refl v tops us stream users_are
  taken-as f target.Nothing bytes n out is v tops us stream users_are = tt

pub what-is-accepted-is-read : BinaryIsSound → TextIsSound → WhatIsAcceptedIsResolved → UsersAreRead → FaultlessPathsAreRead → ItemsAreRefusedAsInTrees → NoneIsRefusedWithin
    → OneSpelling → WhatIsAcceptedIsRead
what-is-accepted-is-read binary_sound text_sound law users_read along trees none one profile catalog limits to bytes t n out to_is v =
    let f : Form = form_of bytes in
    let from : HasVerdictFrom (encoding_of profile f) (outputs_of t limits) catalog limits bytes (Accepted n) out =
    subst (λ (r : Option Target). HasVerdictAs profile r f catalog limits bytes (Accepted n) out) to_is v
    in
    let w = whole-as binary_sound text_sound law users_read along trees none one profile catalog limits f t bytes n out from in
    record {
      tops = w.tops;
      us = w.us;
      stream = w.stream;
      read = w.read;
      resolved_are = w.resolved_are;
      users_are = w.users_are;
      taken = taken-as binary_sound text_sound law users_read along trees none one profile catalog limits f t bytes n out (first_byte bytes) from w.tops w.us w.stream w.users_are;
      count = w.count;
      output = w.output;
    }
