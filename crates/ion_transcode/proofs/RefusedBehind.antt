-- What is refused behind kept bytes is refused at a place behind them.
use Rattle.std.proofs.Common.{◌≡◌, ◌≢◌, ◌⊎◌, ℕ, ◌+◌, ◌≤◌, Bool, true, false, if◌then◌else◌, List, [], ◌∷◌, ◌++◌, length, map, Option, Some, None, option_map, nat_lt, inl, inr, refl, sym, ap, subst, ◌∙◌, arith}
use Rattle.ion_meter.specs.declared.fault.Reason.{Reason}
use Rattle.ion_meter.specs.declared.fault.Reason.TheVariants.{SameForm, SymbolLimit, ValueLimit}
use Rattle.ion_meter.specs.declared.limits.Limits.{Limits}
use Rattle.ion_meter.specs.declared.profile.Profile.{Profile}
use Rattle.ion_value.specs.Further.{symbol_further, item_further, further}
use Rattle.ion_value.specs.Items.{is_none_left}
use Rattle.ion_value.specs.Outcome.{Verdict, Accepted, Rejected, values_in, verdict_with, verdict_after}
use Rattle.ion_value.specs.Reading.{Reading, Finished, Stopped, More, items_then}
use Rattle.ion_value.specs.Value as value
use Rattle.ion_value.specs.Writable.{field_symbols, scalar_symbols}
use Rattle.ion_symbols.specs.Output.{texts_cost}
use Rattle.ion_binary.specs.Canonical.{with_symbol}
use Rattle.ion_value.specs.Value.{SymbolAt, UserSymbol, Scalar, Head, PlacedItem, map_scalar, map_head, user_item, user_symbol_at}
use Rattle.ion_symbols.specs.Onward.{UsersReadOn, UsersHangOnNoPlace}
use Rattle.ion_symbols.specs.Table.{Shared}
use Rattle.ion_symbols.specs.Users.{at_start, users}
use Rattle.ion_binary.specs.Cuts.{WholeValuesAreCut, PartsAreRead}
use Rattle.ion_binary.specs.Writing.{Written, begun, closed_size, written_after, head_symbols, item_symbols, first_over, too_long, refused_by, refused_at, binary_refusal}
use Rattle.ion_text_in.specs.Firm.{CutWhereOneBegins, CutAfterFirm, PartsAreTexts}
use Rattle.ion_text_out.specs.Layout.{pretty}
use Rattle.ion_transcode.specs.declared.to.Form.{Form}
use Rattle.ion_transcode.specs.declared.to.Target.{Target}
use Rattle.ion_transcode.specs.declared.to.Target.TheVariants as target
use Rattle.ion_transcode.specs.declared.to.To.{To}
use Rattle.ion_transcode.specs.ByItem.{by_item, verdict_as, verdict_for, output_for}
use Rattle.ion_transcode.specs.Forms.{form_of, reading_of}
use Rattle.ion_transcode.specs.InParts.{Leaves}
use Rattle.ion_transcode.specs.Laws.{OneVerdict, StreamsAreRead}
use Rattle.ion_transcode.specs.Outputs.{resolved}
use Rattle.ion_transcode.specs.PartCalls.{IsKept, RefusalsComeBehind}
use Rattle.ion_transcode.specs.Verdict.{HasVerdictWith}
use Rattle.ion_transcode.proofs.CutReadings.{users-cut}

-- ---- symbols

-- each of these symbols stands so far on, or further
abbrev AllFar : ℕ → List SymbolAt → Type 0
AllFar far [] = Unit {0}
AllFar far (s ∷ ss) = (far ≤ s.place) × AllFar far ss

far-append : (far : ℕ) (xs ys : List SymbolAt) → AllFar far xs → AllFar far ys → AllFar far (xs ++ ys)
far-append far [] ys all more = more
far-append far (x ∷ xs) ys all more = (all.0, far-append far xs ys all.1 more)

far-map : (far : ℕ) (ss : List SymbolAt) → AllFar far (map (symbol_further far) ss)
far-map far [] = tt
far-map far (s ∷ ss) = let here : far ≤ s.place + far = omega arith in (here, far-map far ss)

far-field : (far : ℕ) (f : Option SymbolAt) → AllFar far (field_symbols (option_map (symbol_further far) f))
far-field far None = tt
far-field far (Some s) = let here : far ≤ s.place + far = omega arith in (here, tt)

far-scalar : (far : ℕ) (body : Scalar SymbolAt) → AllFar far (scalar_symbols (map_scalar (symbol_further far) body))
far-scalar far (value.null type) = tt
far-scalar far (value.bool truth) = tt
far-scalar far (value.int number) = tt
far-scalar far (value.float number) = tt
far-scalar far (value.decimal number) = tt
far-scalar far (value.timestamp moment) = tt
far-scalar far (value.symbol s) = let here : far ≤ s.place + far = omega arith in (here, tt)
far-scalar far (value.string bytes) = tt
far-scalar far (value.clob bytes) = tt
far-scalar far (value.blob bytes) = tt

far-head : (far : ℕ) (head : Head SymbolAt) → AllFar far (head_symbols (map_head (symbol_further far) head))
far-head far (value.whole body) = far-scalar far body
far-head far (value.begin kind) = tt
far-head far value.end = tt
far-head far value.marker = tt

far-item : (far : ℕ) (i : PlacedItem) → AllFar far (item_symbols (item_further far i))
far-item far i =
    far-append far _ _ (far-field far i.field) (far-append far _ _ (far-map far i.annotations) (far-head far i.head))

-- ---- what a writer of binary refuses

if-far : (b : Bool) (far here p : ℕ) (later : Option ℕ) → far ≤ here → (later ≡ Some p → far ≤ p) → (if b then Some here else later) ≡ Some p → far ≤ p
if-far true far here p later is more e = let same : here ≡ p = cc e in subst (λ n. far ≤ n) same is
if-far false far here p later is more e = more e

over-far : (limit far : ℕ) (texts : List (List ℕ)) (ss : List SymbolAt) (p : ℕ) → AllFar far ss → first_over limit texts ss ≡ Some p → far ≤ p
over-far limit far texts [] p all e = absurd (cc e)
over-far limit far texts (s ∷ ss) p all e =
    let more : List (List ℕ) = with_symbol texts (user_symbol_at s) in
    if-far (nat_lt limit (texts_cost more)) far s.place p (first_over limit more ss) all.0 (λ e. over-far limit far more ss p all.1 e) e

place-of : (r s : Reason) (p q : ℕ) → ◌≡◌ {A = Option (Reason × ℕ)} (Some (r, p)) (Some (s, q)) → p ≡ q
place-of r s p q e =
    let pairs : ◌≡◌ {A = Reason × ℕ} (r, p) (s, q) = cc e in
    ap (λ (w : Reason × ℕ). w.1) pairs

long-far : (b : Bool) (far top p : ℕ) (reason : Reason) → far ≤ top → ◌≡◌ {A = Option (Reason × ℕ)} (if b then Some (ValueLimit, top) else None) (Some (reason, p)) → far ≤ p
long-far true far top p reason is e = subst (λ n. far ≤ n) (place-of ValueLimit reason top p e) is
long-far false far top p reason is e = absurd (cc e)

by-far : (limit size top far : ℕ) (o : Option ℕ) (reason : Reason) (p : ℕ) → far ≤ top → ((q : ℕ) → o ≡ Some q → far ≤ q) → refused_by limit size top o ≡ Some (reason, p) → far ≤ p
by-far limit size top far (Some place) reason p is all e = subst (λ n. far ≤ n) (place-of SymbolLimit reason place p e) (all place refl)
by-far limit size top far None reason p is all e = long-far (nat_lt limit size) far top p reason is e

-- ---- what any writer refuses

abbrev IsFar : (List PlacedItem → PlacedItem → Option (Reason × ℕ)) → ℕ → Type 0
IsFar refusal far = (path : List PlacedItem) (i : PlacedItem) (reason : Reason) (p : ℕ) → refusal path (item_further far i) ≡ Some (reason, p) → far ≤ p

binary-far : (limits : Limits) (far : ℕ) → IsFar (binary_refusal limits) far
binary-far limits far path i reason p e =
    let w : Written = written_after limits path in
    let item : PlacedItem = item_further far i in
    let texts : List (List ℕ) = (begun limits.symbols w (user_item item).head).texts in
    let top : far ≤ i.top + far = omega arith in
    by-far limits.value (closed_size limits.symbols w (user_item item)) (i.top + far) far (first_over limits.symbols texts (item_symbols item)) reason p top
    (λ q is. over-far limits.symbols far texts (item_symbols item) q (far-item far i) is) e

target-far : (t : Target) (limits : Limits) (far : ℕ) → IsFar (by_item t limits).refusal far
target-far target.Text limits far path i reason p e = absurd (cc e)
target-far target.Pretty limits far path i reason p e = absurd (cc e)
target-far target.Binary limits far path i reason p e = binary-far limits far path i reason p e
target-far target.Nothing limits far path i reason p e = absurd (cc e)

-- ---- the verdict

accepted-not : {A : Type 0} (n : ℕ) (r : Reason) (p : ℕ) → Accepted n ≡ Rejected r p → A
accepted-not n r p e = absurd (cc e)

rejected-place : (r s : Reason) (p q : ℕ) → Rejected r p ≡ Rejected s q → p ≡ q
rejected-place r s p q e = cc e

rejected-reason : (r s : Reason) (p q : ℕ) → Rejected r p ≡ Rejected s q → r ≡ s
rejected-reason r s p q e = cc e

with-far : (why : Option (Reason × ℕ)) (v : Verdict) (far : ℕ) (reason : Reason) (p : ℕ) → ((r : Reason) (q : ℕ) → why ≡ Some (r, q) → far ≤ q) → (v ≡ Rejected reason p → far ≤ p)
    → verdict_with why v ≡ Rejected reason p → far ≤ p
with-far None v far reason p here more e = more e
with-far (Some why) v far reason p here more e = subst (λ n. far ≤ n) (rejected-place why.0 reason why.1 p e) (here why.0 why.1 refl)

verdict-far : (refusal : List PlacedItem → PlacedItem → Option (Reason × ℕ)) (far : ℕ) → IsFar refusal far → (path : List PlacedItem) (r : Reading) (reason : Reason) (p : ℕ)
    → verdict_after refusal path (further far r) ≡ Rejected reason p → far ≤ p
verdict-far refusal far is path Finished reason p e = accepted-not (values_in [] path) reason p e
verdict-far refusal far is path (Stopped why q) reason p e = omega (arith, rejected-place why reason (q + far) p e)
verdict-far refusal far is path (More item r) reason p e =
    with-far (refusal path (item_further far item)) _ far reason p (λ s q same. is path item s q same)
    (λ e. verdict-far refusal far is (path ++ item_further far item ∷ []) r reason p e) e

module _ (streams : StreamsAreRead) (one : OneVerdict) (whole_cut : WholeValuesAreCut) (parts_read : PartsAreRead) (begun : CutWhereOneBegins) (firm : CutAfterFirm)
    (parts_texts : PartsAreTexts) (read_on : UsersReadOn) (no_place : UsersHangOnNoPlace) where
  -- for each target, and for none
  target-behind : (profile : Profile) (catalog : List Shared) (limits : Limits) (t : Option Target) (f : Form) (all : List ℕ) (far : ℕ) (rest : Reading) (reason : Reason) (place : ℕ) → reason ≢ SameForm
      → users catalog limits.symbols at_start (reading_of profile f limits all) ≡ further far rest → verdict_as profile t f catalog limits all ≡ Rejected reason place → far ≤ place
  target-behind profile catalog limits None f all far rest reason place other given e = absurd (other (sym (rejected-reason SameForm reason 0 place e)))
  target-behind profile catalog limits (Some t) f all far rest reason place other given e =
      verdict-far (by_item t limits).refusal far (target-far t limits far) [] rest reason place (ap (verdict_after (by_item t limits).refusal []) (sym given) ∙ e)

  pub refusals-come-behind : RefusalsComeBehind
  refusals-come-behind profile catalog limits to kept bytes out reason place (inl none) other has =
      let short : length kept ≡ 0 = ap length none in
      omega (arith, short)
  refusals-come-behind profile catalog limits to [] bytes out reason place (inr is) other has = omega arith
  refusals-come-behind profile catalog limits to (b ∷ kept) bytes out reason place (inr is) other has =
      let f : Form = form_of (b ∷ kept) in
      let all : List ℕ = b ∷ (kept ++ bytes) in
      let found = one profile catalog limits to all (Rejected reason place) (verdict_for profile catalog limits to all) out (output_for profile catalog limits to all) has (streams profile catalog limits to all) in
      target-behind profile catalog limits (resolved f to) f all (length (b ∷ kept)) _ reason place other
      (users-cut whole_cut parts_read begun firm parts_texts read_on no_place profile catalog limits f (b ∷ kept) [] [] is.0 is.1 bytes (bytes, refl)) (sym found.0)
