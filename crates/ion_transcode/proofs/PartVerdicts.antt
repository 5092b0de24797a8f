-- What a call says that runs a part, by what its run says.
use Rattle.std.proofs.Common.{◌≡◌, ◌≢◌, ℕ, zero, suc, ◌+◌, ◌-◌, ◌≤◌, Bool, true, false, List, [], ◌∷◌, ◌++◌, length, take, drop, refl, sym, ap, subst, ◌∙◌, arith, append-nil}
use Rattle.std.specs.Prelude.{max}
use Rattle.std.proofs.lemmas.List.{length-append, length-take-le, take-append-drop}
use Rattle.ion_meter.specs.declared.fault.Reason.{Reason}
use Rattle.ion_meter.specs.declared.fault.Reason.TheVariants.{SameForm}
use Rattle.ion_meter.specs.declared.limits.Limits.{Limits}
use Rattle.ion_meter.specs.declared.profile.Profile.{Profile}
use Rattle.ion_value.specs.Items.{is_none_left}
use Rattle.ion_value.specs.Outcome.{Accepted, Rejected}
use Rattle.ion_symbols.specs.Table.{Shared}
use Rattle.ion_transcode.specs.declared.in_parts.Stretch.{Stretch}
use Rattle.ion_transcode.specs.declared.in_parts.Stretch.TheVariants as stretch
use Rattle.ion_transcode.specs.declared.to.Form.{Form}
use Rattle.ion_transcode.specs.declared.to.Form.TheVariants as form
use Rattle.ion_transcode.specs.declared.to.To.{To}
use Rattle.ion_transcode.specs.Forms.{form_of}
use Rattle.ion_transcode.specs.PartCalls.{IsChosen, IsKept, IsRefused, IsShort, IsStretch, TakesAll, Takes, beginning, kept_by, then_kept, StretchesAreTaken, RefusedStretchesStand, RefusalsComeBehind}
use Rattle.ion_transcode.specs.Verdict.{HasVerdictWith, IsWrittenWith}

-- the form of a stream is that of its first bytes, if there are some
pub form-of-first : (kept bytes : List ℕ) (n : ℕ) → is_none_left (take n bytes) ≡ false → form_of (kept ++ take n bytes) ≡ form_of (kept ++ bytes)
form-of-first (b ∷ kept) bytes n some = refl
form-of-first [] [] zero some = absurd (cc some)
form-of-first [] [] (suc n) some = absurd (cc some)
form-of-first [] (b ∷ bytes) zero some = absurd (cc some)
form-of-first [] (b ∷ bytes) (suc n) some = refl

-- some bytes are not none
pub some-not-none : {A : Type 0} (bytes : List ℕ) (n : ℕ) → is_none_left bytes ≡ false → n ≡ length bytes → n ≡ 0 → A
some-not-none [] n some count none = absurd (cc some)
some-not-none (b ∷ bytes) n some count none = absurd (omega (arith, count, none))

-- ---- how long what is kept is

beginning-short : (f : Form) (count : ℕ) → length (beginning f) ≤ max 4 count
beginning-short form.Binary count = omega arith
beginning-short form.Text count = omega arith

then-short : (f : Form) (what : Stretch) (kept part : List ℕ) → length (then_kept f what kept part) ≤ max 4 (length kept + length part)
then-short f stretch.Values [] part = beginning-short f (0 + length part)
then-short f stretch.Values (b ∷ kept) part = omega arith
then-short f stretch.Marked kept part = beginning-short f (length kept + length part)
then-short f stretch.Declared kept part = omega (arith, length-append kept part)
then-short f stretch.Refused kept part = omega arith
then-short f stretch.Other kept part = omega arith

pub short-as : (f : Form) (what : Stretch) (kept part : List ℕ) (stays : Bool) (more : List ℕ) (bytes : ℕ) → kept_by stays kept more ≡ then_kept f what kept part → bytes ≡ length part
    → IsShort stays kept more bytes
short-as f what kept part stays more bytes is count = omega (arith, ap length is, then-short f what kept part, count)

pub short-stays : (stays : Bool) (kept more : List ℕ) (bytes : ℕ) → stays ≡ true → more ≡ [] → IsShort stays kept more bytes
short-stays true kept [] bytes is none = omega (arith, ap length (append-nil kept))
short-stays true kept (b ∷ more) bytes is none = absurd (cc none)
short-stays false kept more bytes is none = absurd (cc is)

module _ (profile : Profile) (catalog : List Shared) (limits : Limits) (to : To) (kept part : List ℕ) (observable : Type 0) (before after : List ℕ) where
  -- the last part is refused
  pub refused-last : RefusalsComeBehind → (reason : Reason) (place at : ℕ) → place ≡ at - length kept
      → IsWrittenWith profile catalog limits to (kept ++ part) (Rejected reason at) observable before after → IsRefused profile catalog limits to kept part true reason place observable before after
  refused-last behind reason place at counted is = record {
    out = is.output;
    at = at;
    counted = counted;
    behind = λ is_kept other.
        let far : length kept ≤ at = behind profile catalog limits to kept part is.output reason at is_kept other is.has_verdict in
        omega (arith, far, counted);
    refused = λ more none.
        let same : part ≡ part ++ more = sym (append-nil part) ∙ ap (λ xs. part ++ xs) (sym (none refl)) in
        subst (λ xs. HasVerdictWith profile catalog limits to (kept ++ xs) (Rejected reason at) is.output) same is.has_verdict;
    written = is.written;
  }

  module _ (next : List ℕ) (f : Form) (what : Stretch) (form_is : f ≡ form_of (kept ++ part)) (stretch_is : IsStretch profile catalog limits f kept part next what) (is_one : what ≢ stretch.Other)
      (some : is_none_left part ≡ false) where
    is-there : IsStretch profile catalog limits (form_of (kept ++ part)) kept part next what
    is-there = subst (λ g. IsStretch profile catalog limits g kept part next what) form_is stretch_is

    -- a stretch is refused
    pub refused-early : RefusedStretchesStand → RefusalsComeBehind → (reason : Reason) (place at : ℕ) → place ≡ at - length kept
        → IsWrittenWith profile catalog limits to (kept ++ part) (Rejected reason at) observable before after
        → IsRefused profile catalog limits to kept (part ++ next) false reason place observable before after
    refused-early stand behind reason place at counted is = record {
      out = is.output;
      at = at;
      counted = counted;
      behind = λ is_kept other.
          let far : length kept ≤ at = behind profile catalog limits to kept part is.output reason at is_kept other is.has_verdict in
          omega (arith, far, counted);
      refused = λ more none. stand profile catalog limits to kept part next more is.output reason at what is-there is_one some is.has_verdict;
      written = is.written;
    }

    -- a stretch is taken
    pub taken-all : StretchesAreTaken → (n : ℕ) (now : List ℕ) → IsKept profile catalog limits kept → now ≡ then_kept f what kept part
        → IsWrittenWith profile catalog limits to (kept ++ part) (Accepted n) observable before after
        → TakesAll profile catalog limits to kept part next n now observable before after
    taken-all taken n now is_kept now_is is =
        let both = taken profile catalog limits to kept part next is.output n what is-there is_one some is_kept is.has_verdict in
        let same : then_kept (form_of (kept ++ part)) what kept part ≡ now = sym (now_is ∙ ap (λ g. then_kept g what kept part) form_is) in
        subst (λ xs. TakesAll profile catalog limits to kept part next n xs observable before after) same
        (record { out = is.output; taken = both.0; keeps = both.1; written = is.written })

  module _ (f : Form) (what : Stretch) (cut : ℕ) (chosen : IsChosen profile catalog limits f kept part cut what) where
    -- the first bytes of a part are taken
    pub takes-first : (bytes n : ℕ) (now : List ℕ) → bytes ≡ length (take cut part)
        → TakesAll profile catalog limits to kept (take cut part) (drop cut part) n now observable before after
        → Takes profile catalog limits to kept part bytes n now observable before after
    takes-first bytes n now count is =
        let same : bytes ≡ cut = count ∙ length-take-le cut part chosen.within in
        subst (λ (m : ℕ). Takes profile catalog limits to kept part m n now observable before after) (sym same) (record { within = chosen.within; takes = is })

    -- or refused, whatever follows them
    pub refused-first : (reason : Reason) (place : ℕ) → IsRefused profile catalog limits to kept (take cut part ++ drop cut part) false reason place observable before after
        → IsRefused profile catalog limits to kept part false reason place observable before after
    refused-first reason place is =
        subst (λ xs. IsRefused profile catalog limits to kept xs false reason place observable before after) (take-append-drop cut part) is
