-- The steps of the reader: what they give, and what they keep.
use Rattle.std.proofs.Common.{◌≡◌, Bool, true, false, ℕ, ◌+◌, ◌<◌, ◌≤◌, not, nat_le, List, [], ◌∷◌, ◌++◌, drop, length, is_some, reverse, IfSome, MatchOption, Option, Some, None, Result, Ok, Err, ◌⊎◌, refl, sym, ap, ◌∙◌, arith, length-append}
use Rattle.std.proofs.lemmas.Bool.{le-leb, lt-leb}
use Rattle.std.proofs.lemmas.List.{length-reverse, reverse-append}
use Rattle.std.specs.Str.{bytes_eq}
use Rattle.ion_meter.specs.Counts.{Counts, Grows, Shrinks}
use Rattle.ion_meter.specs.declared.device.Input.{Ghosts as InputOf}
use Rattle.ion_meter.specs.declared.fault.Fault.TheVariants.{Refused}
use Rattle.ion_meter.specs.declared.fault.Reason.{Reason}
use Rattle.ion_meter.specs.declared.fault.Reason.TheVariants.{BadToken, BadVersion, DepthLimit, Truncated}
use Rattle.ion_meter.specs.declared.profile.Rules.{Rules}
use Rattle.ion_meter.specs.Windows.{Incoming, left, lent}
use Rattle.ion_meter.specs.Sources.{Cursor, cursor, skip}
use Rattle.ion_value.specs.declared.ion_type.Kind.{Kind}
use Rattle.ion_value.specs.declared.item.Annotation.{Annotation}
use Rattle.ion_value.specs.Parts.{part, refuse, ◌>>=◌, ◌>>◌}
use Rattle.ion_value.specs.Reading.{Stops, Finished, More, Stopped, next_reading}
use Rattle.ion_value.specs.Standing.{in_struct, open_after, Fits, InRange}
use Rattle.ion_value.proofs.Passing.{lent-there}
use Rattle.ion_value.proofs.Cursors.{moves-not}
use Rattle.ion_value.proofs.Readings.{reading_by-step}
use Rattle.ion_value.specs.Name.{version_word}
use Rattle.ion_value.specs.Value as value
use Rattle.ion_value.specs.Value.{SymbolAt}
use Rattle.ion_text_in.specs.declared.token.Body.{Body}
use Rattle.ion_text_in.specs.declared.token.Body.TheVariants as body
use Rattle.ion_text_in.specs.declared.token.Symbol.{Symbol as CodeSymbol}
use Rattle.ion_text_in.specs.declared.reader.ItemKind.{ItemKind}
use Rattle.ion_text_in.specs.declared.reader.ItemKind.TheVariants as kind
use Rattle.ion_text_in.specs.declared.token.FieldName.{FieldName}
use Rattle.ion_text_in.specs.declared.expected.Expected.{Expected}
use Rattle.ion_text_in.specs.declared.expected.Expected.TheVariants as expected
use Rattle.ion_text_in.specs.declared.reader.StepResult.TheVariants as step_result
use Rattle.ion_text_in.specs.declared.reader.TextReader.{TextReader}
use Rattle.ion_text_in.specs.Blanks.{blanks, blanks_at}
use Rattle.ion_text_in.specs.Positions.{State, Wants, at, in_sexp, innermost}
use Rattle.ion_text_in.specs.declared.first.Ahead.{Ahead}
use Rattle.ion_text_in.specs.declared.first.First as code_first
use Rattle.ion_text_in.specs.declared.first.First.TheVariants as firsts
use Rattle.ion_text_in.specs.Firsts.{first_of, width, IsAhead}
use Rattle.ion_text_in.specs.Overrun.{overrun}
use Rattle.ion_text_in.specs.Reading.{step, step_of, part_at, part_after, part_from, at_member, bare_end_step, after_colons, colons_at, colons_after, symbol_step, value_or_version, next_part, may_come, final_step, take, size, item_step, is_same, item_of, member_of, after_member, is_marker, tells_version, top_of}
use Rattle.ion_text_in.specs.Token as tokens
use Rattle.ion_text_in.specs.Token.{First, Token, no_token, first_at, token_of}
use Rattle.ion_text_in.specs.Scanning.{moved_to}
use Rattle.ion_text_in.specs.Tokens.{as_scalar, as_symbol, going, BodyInRange}
use Rattle.ion_text_in.specs.Symbols.{as_annotations, as_field, is_annotated}
use Rattle.ion_text_in.specs.Expecting.{wanted, MayExpect}
use Rattle.ion_text_in.specs.Steps.{annotations_in, as_head, comes, ending, field_in, giving, held_by, later, lent_by, opened_in, part_by, share_of, state_at, state_after, to_come_in, taking, unless_unfinished, with_colons, without_colons, CanStep, IsInside, MayGive, StepsTo}
use Rattle.ion_text_in.proofs.After.{blanks-again}
use Rattle.ion_text_in.proofs.Falling.{each_step_falls}
use Rattle.ion_text_in.proofs.Holding.{causes-none, charges-none}
use Rattle.ion_text_in.proofs.ReaderCalls.{held-share, stepped-by, steps-refused}

-- ---- what is to come

pub later-step : (limits : Rules) (s : State) → later limits s ≡ next_reading (later limits) (step limits s)
later-step limits s = reading_by-step (step limits) size (each_step_falls limits) s

-- blanks that were passed over
pub blanks-going : (d c : Cursor) → blanks d ≡ Ok c → blanks d ≡ going None c
blanks-going d c e = e ∙ sym (blanks-again d c e)

step-same : (limits : Rules) (s : State) (d c : Cursor) → blanks d ≡ blanks c → step limits (moved_to d s) ≡ step limits (moved_to c s)
unfolding step part_at
step-same limits s d c e = rw e refl

step-stops : (limits : Rules) (s : State) (d : Cursor) (start : ℕ) → blanks d ≡ Err (Truncated, start) → step limits (moved_to d s) ≡ Stops Truncated start
unfolding step part_at
step-stops limits s d start e = rw e refl

-- a reading from before blanks that were passed over
pub later-moved : (limits : Rules) (s : State) (d c : Cursor) (start : Option ℕ) → blanks d ≡ going start c → later limits (moved_to d s) ≡ unless_unfinished start (later limits (moved_to c s))
later-moved limits s d c None e = later-step limits (moved_to d s) ∙ (ap (next_reading (later limits)) (step-same limits s d c e) ∙ sym (later-step limits (moved_to c s)))
later-moved limits s d c (Some start) e = later-step limits (moved_to d s) ∙ ap (next_reading (later limits)) (step-stops limits s d start e)

-- ---- an item that is no container's

field-some : (name : List ℕ) (field : Option FieldName) → is_some (as_field name field) ≡ is_some field
field-some name None = refl
field-some name (Some f) = refl

no-field : (name : List ℕ) (field : Option FieldName) → is_some field ≡ false → as_field name field ≡ None
no-field name None e = refl
no-field name (Some f) e = absurd (cc e)

separator-bare : (e : Expected) (kinds : List Kind) (field : Option FieldName) (annotations : List Annotation) → e ≡ expected.Separator → MayExpect e kinds field annotations → (field ≡ None) × (annotations ≡ [])
separator-bare e kinds field annotations is h = grind arith

value-expects : (e : Expected) (kinds : List Kind) (field : Option FieldName) (annotations : List Annotation) → e ≡ expected.Value → MayExpect e kinds field annotations → is_some field ≡ in_struct kinds
value-expects e kinds field annotations is h = grind arith

body-fits : (text : List ℕ) (place : ℕ) (b : Body) → BodyInRange b → InRange (as_scalar text place b)
body-fits text place b h = grind arith

module _ {I A : Type 0} where
  -- it leaves the containers as they are, and has its place
  given-opens : (r : TextReader I A) (what : ItemKind) (place : ℕ) → MayGive r what → opened_in r ≡ open_after (opened_in r) (as_head r.text place what)
  given-opens r what place may = grind arith

  given-fits : (r : TextReader I A) (what : ItemKind) (place top : ℕ) → is_some (field_in r) ≡ in_struct (opened_in r) → MayGive r what
      → Fits r.limits.depth (opened_in r) (item_of top (field_in r) (annotations_in r) place (as_head r.text place what))
  given-fits r (kind.Scalar body) place top field may = record { place = body-fits r.text place body may; field = field; annotations = tt }
  given-fits r kind.Marker place top field may = record { place = may.0; field = field ∙ ap (λ (l : List Kind). in_struct l) may.0; annotations = may.1 }
  given-fits r (kind.Begin k) place top field may = absurd may
  given-fits r kind.End place top field may = absurd may

module _ {I A : Type 0} (device : InputOf I) where
  pub steps-given : (r : TextReader I A) (what : ItemKind) (place top : ℕ) (start : Option ℕ) (e : Expected) (m : Counts) → top ≡ top_of (opened_in r) r.top (annotations_in r) place
      → wanted e None [] ≡ after_member (innermost (opened_in r)) → MayExpect e (opened_in r) None [] → CanStep r m → r.expected ≡ expected.Value → MayGive r what
      → StepsTo device start (giving r what place) 0 r (record r { what = what; place = place; top = top; unfinished = start; expected = e }) m m (Ok step_result.Item)
  steps-given r what place top start e m is after expects can value may =
      let new = record r { what = what; place = place; top = top; unfinished = start; expected = e } in
      let sized = can.sized in
      let field = field-some r.name r.field ∙ value-expects r.expected (opened_in r) r.field r.annotations value can.inside.expects in
      record {
        gives = λ h d blank.
            ap (λ (n : ℕ). More (item_of n (field_in r) (annotations_in r) place (as_head r.text place what)) (later r.limits (record { kinds = opened_in r; top = n; wants = after_member (innermost (opened_in r)); cursor = d }))) (sym is)
            ∙ ap (More (lent_by new)) (ap (λ (w : Wants). later r.limits (record { kinds = opened_in r; top = top; wants = w; cursor = d })) (sym after)
            ∙ later-moved r.limits (state_after d new) d (cursor device r.source) start blank);
        ready = record { stands = can.inside.stands; expects = expects };
        stepped = record {
          opens = λ _. given-opens r what place may;
          stays = λ other. absurd (other refl);
          fits = λ _. given-fits r what place top field may;
          limits = refl;
          done = refl;
          failed = refl;
          sized = record { checked = sized.checked; few = sized.few; annotated = sized.annotated; name = sized.name; text = sized.text };
          moves = moves-not device r.source;
          causes = causes-none m m _ _ refl;
          charges = charges-none m (held_by r) (share_of r) (held-share device r sized) can.held;
        };
        goes = record { own = omega arith; peak = omega arith };
      }

-- ---- words of versions

pub none-is : {X : Type 0} (o : Option X) → is_some o ≡ false → o ≡ None
none-is None e = refl
none-is (Some x) e = absurd (cc e)

not-annotated : (annotations : List SymbolAt) → is_annotated annotations ≡ false → annotations ≡ []
not-annotated [] e = refl
not-annotated (a ∷ annotations) e = absurd (cc e)

none-open : (l : List Kind) → innermost l ≡ None → l ≡ []
none-open [] e = refl
none-open (k ∷ l) e = absurd (cc e)

-- such a word stands without annotations at top level
told-version : (k : Option Kind) (annotations : List SymbolAt) (quoted : Bool) (text : List ℕ) (s : CodeSymbol) → tells_version k annotations quoted (as_symbol text s) ≡ true
    → (k ≡ None) × (annotations ≡ []) × (is_marker (as_symbol text s) ≡ bytes_eq version_word text)
unfolding tells_version
told-version k annotations quoted text s e = grind arith

module _ {I A : Type 0} where
  -- a symbol without two colons is a value, a version marker, or refused as one
  symbol-told : (r : TextReader I A) (s : CodeSymbol) (quoted : Bool) (place : ℕ) (d : Cursor) (told : Bool) → tells_version (innermost (opened_in r)) (annotations_in r) quoted (as_symbol r.text s) ≡ told
      → without_colons r s quoted place d ≡ comes r.limits (part place (value_or_version (opened_in r) r.top (field_in r) (annotations_in r) (at (as_symbol r.text s) place) d told))
  symbol-told r s quoted place d told e = ap (λ (b : Bool). comes r.limits (part place (value_or_version (opened_in r) r.top (field_in r) (annotations_in r) (at (as_symbol r.text s) place) d b))) e

  pub symbol-value : (r : TextReader I A) (s : CodeSymbol) (quoted : Bool) (place : ℕ) (d : Cursor) → tells_version (innermost (opened_in r)) (annotations_in r) quoted (as_symbol r.text s) ≡ false
      → without_colons r s quoted place d ≡ giving r (kind.Scalar (body.Symbol s)) place d
  symbol-value r s quoted place d e = symbol-told r s quoted place d false e

  symbol-version : (r : TextReader I A) (s : CodeSymbol) (quoted : Bool) (place : ℕ) (d : Cursor) (word : Bool) → tells_version (innermost (opened_in r)) (annotations_in r) quoted (as_symbol r.text s) ≡ true
      → bytes_eq version_word r.text ≡ word → without_colons r s quoted place d
      ≡ comes r.limits (part place (refuse (not word) BadVersion >> Ok (item_step (opened_in r) r.top (field_in r) (annotations_in r) place value.marker (opened_in r) (after_member (innermost (opened_in r))) d)))
  symbol-version r s quoted place d word e is =
      symbol-told r s quoted place d true e
      ∙ ap (λ (b : Bool). comes r.limits (part place (refuse (not b) BadVersion >> Ok (item_step (opened_in r) r.top (field_in r) (annotations_in r) place value.marker (opened_in r) (after_member (innermost (opened_in r))) d))))
      ((told-version (innermost (opened_in r)) (annotations_in r) quoted r.text s e).2 ∙ is)

  pub symbol-marker : (r : TextReader I A) (s : CodeSymbol) (quoted : Bool) (place : ℕ) (d : Cursor) → tells_version (innermost (opened_in r)) (annotations_in r) quoted (as_symbol r.text s) ≡ true
      → bytes_eq version_word r.text ≡ true → without_colons r s quoted place d ≡ giving r kind.Marker place d
  symbol-marker r s quoted place d e is = symbol-version r s quoted place d true e is

  pub symbol-refused : (r : TextReader I A) (s : CodeSymbol) (quoted : Bool) (place : ℕ) (d : Cursor) → tells_version (innermost (opened_in r)) (annotations_in r) quoted (as_symbol r.text s) ≡ true
      → bytes_eq version_word r.text ≡ false → without_colons r s quoted place d ≡ Stopped BadVersion place
  symbol-refused r s quoted place d e is = symbol-version r s quoted place d false e is

  pub marker-may : (r : TextReader I A) (s : CodeSymbol) (quoted : Bool) → tells_version (innermost (opened_in r)) (annotations_in r) quoted (as_symbol r.text s) ≡ true → MayGive r kind.Marker
  marker-may r s quoted e = let told = told-version (innermost (opened_in r)) (annotations_in r) quoted r.text s e in (none-open (opened_in r) told.0, told.1)

-- ---- a token, and what comes where there is none

after-some : (limits : Rules) (s : State) (c : Cursor) (rest : List ℕ) (first : First) → 0 < length rest → first_at (in_sexp (innermost s.kinds)) rest ≡ first
    → part_after limits s c rest ≡ part_from limits s c first
after-some limits s c [] first some e = absurd (omega (arith, some))
after-some limits s c (b ∷ rest) first some e = ap (part_from limits s c) e

step-some : (limits : Rules) (s : State) (c : Cursor) (first : First) → blanks s.cursor ≡ Ok c → 0 < length c.rest → first_at (in_sexp (innermost s.kinds)) c.rest ≡ first
    → step limits s ≡ step_of (part_from limits s c first)
unfolding step part_at
step-some limits s c first blank some e = rw blank (ap step_of (after-some limits s c c.rest first some e))

pub step-part : (limits : Rules) (s : State) (c : Cursor) (first : First) → blanks s.cursor ≡ Ok c → 0 < length c.rest → first_at (in_sexp (innermost s.kinds)) c.rest ≡ first
    → later limits s ≡ comes limits (part_from limits (moved_to c s) c first)
step-part limits s c first blank some e = later-step limits s ∙ ap (next_reading (later limits)) (step-some limits s c first blank some e)

step-none : (limits : Rules) (s : State) (c : Cursor) → blanks s.cursor ≡ Ok c → c.rest ≡ [] → step limits s ≡ step_of (final_step s.kinds s.wants c.place)
unfolding step part_at
step-none limits s c blank none = rw (blank, none) refl

pub step-ended : (limits : Rules) (s : State) (c : Cursor) → blanks s.cursor ≡ Ok c → c.rest ≡ [] → later limits s ≡ comes limits (final_step s.kinds s.wants c.place)
step-ended limits s c blank none = later-step limits s ∙ ap (next_reading (later limits)) (step-none limits s c blank none)

pub step-unfinished : (limits : Rules) (s : State) (start : ℕ) → blanks s.cursor ≡ Err (Truncated, start) → later limits s ≡ Stopped Truncated start
step-unfinished limits s start blank = later-step limits s ∙ ap (next_reading (later limits)) (step-stops limits s s.cursor start blank)

-- the input's end has no blanks before it
pub no-blanks : (c : Cursor) → c.rest ≡ [] → blanks c ≡ Ok c
unfolding blanks_at
no-blanks c none = rw none refl

pub part-token : (limits : Rules) (s : State) (c d : Cursor) (first : First) (token : Token) → may_come s.wants first ≡ true → token_of (Some limits.scalar) first c ≡ Ok (token, d)
    → comes limits (part_from limits s c first) ≡ comes limits (take limits s.kinds s.top s.wants c.place token d)
part-token limits s c d first token may e =
    ap (λ (b : Bool). comes limits (next_part limits s c first b)) may
    ∙ ap (λ (o : Result (Token × Cursor) Reason). comes limits (part c.place o >>= (λ t. take limits s.kinds s.top s.wants c.place t.0 t.1))) e

-- ---- what a token makes of it

pub taken-as : {I A : Type 0} (r : TextReader I A) (e : Expected) (token : Token) (place : ℕ) (d : Cursor) → r.expected ≡ e
    → taking r place token d ≡ comes r.limits (take r.limits (opened_in r) r.top (wanted e (field_in r) (annotations_in r)) place token d)
taken-as r e token place d is = ap (λ (x : Expected). comes r.limits (take r.limits (opened_in r) r.top (wanted x (field_in r) (annotations_in r)) place token d)) is

-- ---- containers

-- the innermost container was the last
pub closed-opened : (kinds left : List Kind) (j : Kind) (popped : Option Kind) → innermost (reverse kinds) ≡ Some j
    → MatchOption popped ((kinds ≡ []) × (left ≡ [])) (λ k. kinds ≡ left ++ k ∷ []) → reverse kinds ≡ j ∷ reverse left
closed-opened kinds left j None some e = absurd (cc (ap (λ (l : List Kind). innermost (reverse l)) e.0, some))
closed-opened kinds left j (Some k) some e =
    let all : reverse kinds ≡ k ∷ reverse left = ap (λ (l : List Kind). reverse l) e ∙ reverse-append left (k ∷ []) in
    let same : k ≡ j = cc (ap innermost all, some) in
    all ∙ ap (λ (x : Kind). x ∷ reverse left) same

closed-cost : (kinds left : List Kind) (popped : Option Kind) (a b : Counts) (j : Kind) → reverse kinds ≡ j ∷ reverse left
    → MatchOption popped ((kinds ≡ []) × (left ≡ [])) (λ k. kinds ≡ left ++ k ∷ []) → MatchOption popped (b ≡ a) (λ _. Shrinks a b 16) → Shrinks a b 16
closed-cost kinds left popped a b j opened e cost = grind arith

-- a closing bracket, whatever is expected
end-of : (limits : Rules) (kinds : List Kind) (top : ℕ) (e : Expected) (name : List ℕ) (field : Option FieldName) (texts : List ℕ) (annotations : List Annotation) (place : ℕ) (k : Kind) (d : Cursor)
    → MayExpect e kinds field annotations
    → take limits kinds top (wanted e (as_field name field) (as_annotations texts annotations)) place (tokens.end k) d
    ≡ part place (bare_end_step (as_field name field) (as_annotations texts annotations) kinds top k place d)
unfolding take
end-of limits kinds top expected.Value name field texts annotations place k d h = refl
end-of limits kinds top expected.Field name field texts annotations place k d h = rw (h.1, h.2) refl
end-of limits kinds top expected.Separator name field texts annotations place k d h = rw (h.0, h.1) refl

not-closed : (name : List ℕ) (f : Option FieldName) (annotations : List SymbolAt) (k : Kind) (kinds : List Kind) (top place : ℕ) (d : Cursor)
    → (innermost kinds ≡ None) ⊎ ((is_some f ≡ true) ⊎ ((is_annotated annotations ≡ true) ⊎ ((j : Kind) × ((innermost kinds ≡ Some j) × (is_same j k ≡ false)))))
    → bare_end_step (as_field name f) annotations kinds top k place d ≡ Err BadToken
not-closed name f annotations k kinds top place d why = grind arith

module _ {I A : Type 0} where
  end-taken : (r : TextReader I A) (k : Kind) (place : ℕ) (d : Cursor) → IsInside r
      → taking r place (tokens.end k) d ≡ comes r.limits (part place (bare_end_step (field_in r) (annotations_in r) (opened_in r) r.top k place d))
  end-taken r k place d inside = ap (comes r.limits) (end-of r.limits (opened_in r) r.top r.expected r.name r.field r.texts r.annotations place k d inside.expects)

  -- as many containers are open as may be
  pub opening-refused : (r : TextReader I A) (k : Kind) (place : ℕ) (d : Cursor) → r.expected ≡ expected.Value → r.limits.depth ≤ length r.kinds → taking r place (tokens.begin k) d ≡ Stopped DepthLimit place
  unfolding take
  opening-refused r k place d is_value many = let full : nat_le r.limits.depth (length (opened_in r)) ≡ true = le-leb r.limits.depth (length (opened_in r)) (omega (arith, many, length-reverse r.kinds)) in rw (is_value, full) refl

module _ {I A : Type 0} (device : InputOf I) where
  -- a container was closed
  pub steps-closed : (r : TextReader I A) (j k : Kind) (left : List Kind) (popped : Option Kind) (e : Expected) (place : ℕ) (a b : Counts) → innermost (opened_in r) ≡ Some j
      → MatchOption popped ((r.kinds ≡ []) × (left ≡ [])) (λ k. r.kinds ≡ left ++ k ∷ []) → MatchOption popped (b ≡ a) (λ _. Shrinks a b 16)
      → is_same j k ≡ true → is_some r.field ≡ false → is_annotated (annotations_in r) ≡ false → wanted e None [] ≡ after_member (innermost (reverse left)) → MayExpect e (reverse left) None [] → CanStep r a
      → StepsTo device None (taking r place (tokens.end k)) 0 r (record r { kinds = left; what = kind.End; place = place; expected = e }) a b (Ok step_result.Item)
  steps-closed r j k left popped e place a b inner items popped_cost same no_field no_annotation after expects can =
      let new = record r { kinds = left; what = kind.End; place = place; expected = e } in
      let opened = closed-opened r.kinds left j popped inner items in
      let cost = closed-cost r.kinds left popped a b j opened items popped_cost in
      let field : field_in r ≡ None = no-field r.name r.field no_field in
      let none = not-annotated (annotations_in r) no_annotation in
      let sized = can.sized in
      let long : length r.kinds ≡ length left + 1 = omega (arith, ap (λ (l : List Kind). length l) opened, length-reverse r.kinds, length-reverse left) in
      let held = cost.held in let peak = cost.peak in
      record {
        gives = λ h d blank.
            end-taken r k place d can.inside
            ∙ ap (λ (l : List Kind). comes r.limits (part place (bare_end_step (field_in r) (annotations_in r) l r.top k place d))) opened
            ∙ (rw (field, none, same, can.inside.finished) (ap (More (item_of r.top None [] place value.end))
            (ap (λ (w : Wants). later r.limits (record { kinds = reverse left; top = r.top; wants = w; cursor = d })) (sym after)
            ∙ later-moved r.limits (state_after d new) d (cursor device r.source) None blank)));
        ready = record { stands = can.inside.stands; expects = expects };
        stepped = record {
          opens = λ _. ap (λ (l : List Kind). drop 1 l) (sym opened);
          stays = λ other. absurd (other refl);
          fits = λ _. record { place = omega (arith, long, length-reverse r.kinds); field = ap (λ (f : Option SymbolAt). is_some f) field; annotations = none };
          limits = refl;
          done = refl;
          failed = refl;
          sized = record { checked = sized.checked; few = omega (arith, long, sized.few); annotated = sized.annotated; name = sized.name; text = sized.text };
          moves = moves-not device r.source;
          causes = causes-none a b _ _ cost.refused;
          charges = record { held = omega (arith, held, long); share = omega (arith, long, held-share device r sized); peak = omega (arith, peak); rises = omega (arith, peak) };
        };
        goes = record { own = omega (arith, long); peak = omega (arith, peak) };
      }

  -- or none may be: the innermost is of another kind, or a value has to come
  pub steps-unclosed : (r : TextReader I A) (k : Kind) (place : ℕ) (m : Counts) → CanStep r m
      → (innermost (opened_in r) ≡ None) ⊎ ((is_some r.field ≡ true) ⊎ ((is_annotated (annotations_in r) ≡ true) ⊎ ((j : Kind) × ((innermost (opened_in r) ≡ Some j) × (is_same j k ≡ false)))))
      → StepsTo device None (taking r place (tokens.end k)) 0 r r m m (Err (Refused BadToken place))
  steps-unclosed r k place m can why =
      steps-refused device r m None (taking r place (tokens.end k)) 0 BadToken place can.sized can.held
      (λ d. end-taken r k place d can.inside ∙ ap (λ o. comes r.limits (part place o)) (not-closed r.name r.field (annotations_in r) k (opened_in r) r.top place d why))

  -- a container was opened
  pub steps-opened : (r : TextReader I A) (k : Kind) (kinds : List Kind) (e : Expected) (place top : ℕ) (a b : Counts) → kinds ≡ r.kinds ++ k ∷ [] → top ≡ top_of (opened_in r) r.top (annotations_in r) place
      → length r.kinds < r.limits.depth → wanted e None [] ≡ member_of k → MayExpect e (k ∷ opened_in r) None [] → CanStep r a → r.expected ≡ expected.Value → Grows a b 16
      → StepsTo device None (taking r place (tokens.begin k)) 16 r (record r { kinds = kinds; top = top; what = kind.Begin k; place = place; expected = e }) a b (Ok step_result.Item)
  unfolding take
  steps-opened r k kinds e place top a b is at_top few after expects can is_value cost =
      let new = record r { kinds = kinds; top = top; what = kind.Begin k; place = place; expected = e } in
      let opened : reverse kinds ≡ k ∷ opened_in r = ap (λ (l : List Kind). reverse l) is ∙ reverse-append r.kinds (k ∷ []) in
      let long : length kinds ≡ length r.kinds + 1 = ap (λ (l : List Kind). length l) is ∙ length-append r.kinds (k ∷ []) in
      let sized = can.sized in
      let held = cost.held in let peak = cost.peak in let there = can.held in
      let room : nat_le r.limits.depth (length (opened_in r)) ≡ false = lt-leb r.limits.depth (length (opened_in r)) (omega (arith, few, length-reverse r.kinds)) in
      let share : held_by new ≤ share_of r = omega (arith, long, few, sized.annotated, sized.name, sized.text) in
      record {
        gives = λ h d blank. rw (is_value, room, at_top, opened, can.inside.finished) (ap (More (item_of (top_of (opened_in r) r.top (annotations_in r) place) (field_in r) (annotations_in r) place (value.begin k)))
            (ap (λ (w : Wants). later r.limits (record { kinds = k ∷ opened_in r; top = top_of (opened_in r) r.top (annotations_in r) place; wants = w; cursor = d })) (sym after)
            ∙ later-moved r.limits (record { kinds = k ∷ opened_in r; top = top_of (opened_in r) r.top (annotations_in r) place; wants = wanted e None []; cursor = d }) d (cursor device r.source) None blank));
        ready = record { stands = can.inside.stands; expects = rw opened expects };
        stepped = record {
          opens = λ _. opened;
          stays = λ other. absurd (other refl);
          fits = λ _. record { place = omega (arith, few, length-reverse r.kinds); field = field-some r.name r.field ∙ value-expects r.expected (opened_in r) r.field r.annotations is_value can.inside.expects; annotations = tt };
          limits = refl;
          done = refl;
          failed = refl;
          sized = record { checked = sized.checked; few = omega (arith, long, few); annotated = sized.annotated; name = sized.name; text = sized.text };
          moves = moves-not device r.source;
          causes = causes-none a b _ _ cost.refused;
          charges = record { held = omega (arith, held, long); share = share; peak = omega (arith, held, peak, share, long, there); rises = omega (arith, peak) };
        };
        goes = record { own = omega (arith, long); peak = omega (arith, held, peak) };
      }

  -- a comma was passed over
  pub steps-comma : (r : TextReader I A) (e : Expected) (place : ℕ) (m : Counts) → r.expected ≡ expected.Separator → wanted e None [] ≡ at_member (innermost (opened_in r)) → MayExpect e (opened_in r) None [] → CanStep r m
      → StepsTo device None (taking r place tokens.comma) 0 r (record r { expected = e }) m m (Ok step_result.Passed)
  unfolding take
  steps-comma r e place m separator member expects can =
      let bare = separator-bare r.expected (opened_in r) r.field r.annotations separator can.inside.expects in
      let c = cursor device r.source in
      record {
        gives = λ h d blank.
            rw separator (ap (λ (w : Wants). later r.limits (record { kinds = opened_in r; top = r.top; wants = w; cursor = d })) (sym member)
            ∙ (later-moved r.limits (record { kinds = opened_in r; top = r.top; wants = wanted e None []; cursor = d }) d c None blank
            ∙ ap (λ (w : Wants). later r.limits (record { kinds = opened_in r; top = r.top; wants = w; cursor = c })) (rw (bare.0, bare.1) refl)));
        ready = record { stands = can.inside.stands; expects = rw (bare.0, bare.1) expects; kept = can.inside.kept; finished = can.inside.finished };
        stepped = stepped-by device _ _ r (record r { expected = e }) m m (λ e. cc e) refl refl refl refl (record { checked = can.sized.checked; few = can.sized.few; annotated = can.sized.annotated; name = can.sized.name; text = can.sized.text })
            (moves-not device r.source) (causes-none m m _ _ refl) (charges-none m (held_by r) (share_of r) (held-share device r can.sized) can.held);
        goes = record { own = omega arith; peak = omega arith };
      }

-- ---- the end of the input

ended-is : (limits : Rules) (kinds : List Kind) (e : Expected) (field : Option SymbolAt) (annotations : List SymbolAt) (place : ℕ) → kinds ≡ [] → e ≡ expected.Value → field ≡ None → annotations ≡ []
    → comes limits (final_step kinds (wanted e field annotations) place) ≡ Finished
ended-is limits kinds e field annotations place top value none bare = rw (top, value, none, bare) refl

module _ {I A : Type 0} (device : InputOf I) where
  pub steps-ended : (r : TextReader I A) (m : Counts) → is_some (innermost (opened_in r)) ≡ false → is_annotated (annotations_in r) ≡ false → r.expected ≡ expected.Value → CanStep r m
      → (device.observable r.source.device → left device.rest r.source ≡ []) → StepsTo device None (λ _. ending r None) 0 r r m m (Ok step_result.Ended)
  steps-ended r m top none value can over =
      let c = cursor device r.source in
      let inside = can.inside in
      let kinds = none-open (opened_in r) (none-is (innermost (opened_in r)) top) in
      let bare = not-annotated (annotations_in r) none in
      let field = no-field r.name r.field (value-expects r.expected (opened_in r) r.field r.annotations value inside.expects ∙ ap (λ (l : List Kind). in_struct l) kinds) in
      record {
        gives = λ h d blank. (
          ended-is r.limits (opened_in r) r.expected (field_in r) (annotations_in r) c.place kinds value field bare,
          ap (λ (u : Option ℕ). unless_unfinished u (later r.limits (state_after c r))) inside.finished
              ∙ (step-ended r.limits (state_after c r) c (no-blanks c (over h)) (over h) ∙ ended-is r.limits (opened_in r) r.expected None [] c.place kinds value refl refl),
          over h,
        );
        ready = record { stands = inside.stands; expects = rw (value, kinds) refl };
        stepped = stepped-by device _ _ r r m m (λ e. cc e) refl refl refl refl can.sized (moves-not device r.source) (causes-none m m _ _ refl)
            (charges-none m (held_by r) (share_of r) (held-share device r can.sized) can.held);
        goes = record { own = omega arith; peak = omega arith };
      }

-- ---- what comes after blanks

pub width-some : (f : code_first.First) → 1 ≤ width (first_of f)
width-some f = grind arith

ahead-token : (sexp : Bool) (c d : Cursor) (start : Option ℕ) (found : Option code_first.First) (f : code_first.First) → blanks c ≡ overrun start d → IfSome start (λ _. d.rest ≡ [])
    → MatchOption found (d.rest ≡ []) (λ g. first_at sexp d.rest ≡ first_of g) → found ≡ Some f → 1 ≤ length d.rest → (blanks c ≡ Ok d) × (first_at sexp d.rest ≡ first_of f)
ahead-token sexp c d start found f blank used_up first is some = grind arith

wide-ahead : (found : Option code_first.First) (f : code_first.First) (n : ℕ) → IfSome found (λ g. width (first_of g) ≤ n) → found ≡ Some f → width (first_of f) ≤ n
wide-ahead found f n wide is = grind arith

-- or the input's end
end-ahead : (limits : Rules) (s : State) (d : Cursor) (start : Option ℕ) → blanks s.cursor ≡ overrun start d → d.rest ≡ [] → later limits s ≡ unless_unfinished start (comes limits (final_step s.kinds s.wants d.place))
end-ahead limits s d None blank none = step-ended limits s d blank none
end-ahead limits s d (Some p) blank none = step-unfinished limits s p blank

none-left : (found : Option code_first.First) (sexp : Bool) (rest : List ℕ) → MatchOption found (rest ≡ []) (λ g. first_at sexp rest ≡ first_of g) → found ≡ None → rest ≡ []
none-left found sexp rest first is = grind arith

module _ {I : Type 0} (device : InputOf I) where
  -- a token
  pub token-ahead : (s t : Incoming I) (sexp : Bool) (a : Ahead) (f : code_first.First) → IsAhead sexp (cursor device s) (cursor device t) a → IfSome a.first (λ g. width (first_of g) ≤ length (lent t)) → a.first ≡ Some f
      → (blanks (cursor device s) ≡ Ok (cursor device t)) × ((first_at sexp (left device.rest t) ≡ first_of f) × (1 ≤ length (left device.rest t)))
  token-ahead s t sexp a f ahead wide is =
      let some = lent-there device.rest t 1 (omega (arith, wide-ahead a.first f (length (lent t)) wide is, width-some f)) in
      let token = ahead-token sexp (cursor device s) (cursor device t) a.unfinished a.first f ahead.blank ahead.used_up ahead.first is some in
      (token.0, (token.1, some))

module _ {I A : Type 0} (device : InputOf I) where
  pub part-ahead : (r : TextReader I A) (t : Incoming I) (sexp : Bool) (a : Ahead) (f : code_first.First) → sexp ≡ in_sexp (innermost (opened_in r)) → IsAhead sexp (cursor device r.source) (cursor device t) a
      → IfSome a.first (λ g. width (first_of g) ≤ length (lent t)) → a.first ≡ Some f → to_come_in device r ≡ part_by device (record r { source = t }) (first_of f)
  part-ahead r t sexp a f same ahead wide is =
      let token = token-ahead device r.source t sexp a f ahead wide is in
      step-part r.limits (state_at (cursor device r.source) r) (cursor device t) (first_of f) token.0 token.1.1 (ap (λ (b : Bool). first_at b (left device.rest t)) (sym same) ∙ token.1.0)

  pub ended-ahead : (r : TextReader I A) (t : Incoming I) (sexp : Bool) (a : Ahead) → IsAhead sexp (cursor device r.source) (cursor device t) a → a.first ≡ None
      → (left device.rest t ≡ []) × (to_come_in device r ≡ ending (record r { source = t }) a.unfinished)
  ended-ahead r t sexp a ahead is =
      let none = none-left a.first sexp (left device.rest t) ahead.first is in
      (none, end-ahead r.limits (state_at (cursor device r.source) r) (cursor device t) a.unfinished ahead.blank none)

-- ---- symbols

colons-found : (f : code_first.First) (c : Cursor) → (f ≡ firsts.Colons → ⊥) → colons_at (first_of f) c ≡ None
colons-found f c other = grind arith

nothing-first : (sexp : Bool) (rest : List ℕ) → rest ≡ [] → first_at sexp rest ≡ no_token
unfolding first_at
nothing-first sexp rest e = rw e refl

colons-none : (sexp : Bool) (d c : Cursor) (start : Option ℕ) (found : Option code_first.First) → blanks d ≡ overrun start c
    → MatchOption found (c.rest ≡ []) (λ f. first_at sexp c.rest ≡ first_of f) → (found ≡ Some firsts.Colons → ⊥) → after_colons sexp d ≡ None
colons-none sexp d c (Some p) found blank is other = ap (colons_after sexp) blank
colons-none sexp d c None None blank is other = ap (colons_after sexp) blank ∙ ap (λ (f : First). colons_at f c) (nothing-first sexp c.rest is)
colons-none sexp d c None (Some f) blank is other = ap (colons_after sexp) blank ∙ (ap (λ (f : First). colons_at f c) is ∙ colons-found f c (λ e. other (ap Some e)))

-- blanks that were passed over, whatever they end with
pub overrun-going : (start : Option ℕ) (d c : Cursor) → blanks d ≡ overrun start c → blanks d ≡ going start c
overrun-going None d c e = blanks-going d c e
overrun-going (Some start) d c e = e

module _ {I A : Type 0} (device : InputOf I) where
  symbol-taken : (r : TextReader I A) (s : CodeSymbol) (quoted : Bool) (place : ℕ) (d : Cursor) (after : Option Cursor) → r.expected ≡ expected.Value → after_colons (in_sexp (innermost (opened_in r))) d ≡ after
      → taking r place (tokens.name quoted (as_symbol r.text s)) d
      ≡ comes r.limits (part place (symbol_step r.limits (opened_in r) r.top (field_in r) (annotations_in r) quoted (at (as_symbol r.text s) place) d after))
  unfolding take
  symbol-taken r s quoted place d after is_value is = rw (is_value, is) refl

  -- a symbol with two colons after it
  pub symbol-noted : (r : TextReader I A) (s : CodeSymbol) (quoted : Bool) (place : ℕ) (t : Incoming I) (sexp : Bool) (a : Ahead) (d : Cursor) → r.expected ≡ expected.Value → sexp ≡ in_sexp (innermost (opened_in r))
      → IsAhead sexp (cursor device r.source) (cursor device t) a → IfSome a.first (λ g. width (first_of g) ≤ length (lent t)) → a.first ≡ Some firsts.Colons → blanks d ≡ blanks (cursor device r.source)
      → taking r place (tokens.name quoted (as_symbol r.text s)) d ≡ with_colons (record r { source = t }) s place (skip 2 (cursor device t))
  symbol-noted r s quoted place t sexp a d is_value same ahead wide is blank =
      let token = token-ahead device r.source t sexp a firsts.Colons ahead wide is in
      symbol-taken r s quoted place d (Some (skip 2 (cursor device t))) is_value
      (ap (λ (b : Bool). after_colons b d) (sym same) ∙ ap (colons_after sexp) (blank ∙ token.0) ∙ ap (λ (f : First). colons_at f (cursor device t)) token.1.0)

  -- and one without
  pub symbol-alone : (r : TextReader I A) (s : CodeSymbol) (quoted : Bool) (place : ℕ) (t : Incoming I) (sexp : Bool) (a : Ahead) (d : Cursor) → r.expected ≡ expected.Value → sexp ≡ in_sexp (innermost (opened_in r))
      → IsAhead sexp (cursor device r.source) (cursor device t) a → (a.first ≡ Some firsts.Colons → ⊥) → blanks d ≡ blanks (cursor device r.source)
      → (blanks d ≡ going a.unfinished (cursor device t)) × (taking r place (tokens.name quoted (as_symbol r.text s)) d ≡ without_colons (record r { source = t }) s quoted place d)
  symbol-alone r s quoted place t sexp a d is_value same ahead other blank = (
    overrun-going a.unfinished d (cursor device t) (blank ∙ ahead.blank),
    symbol-taken r s quoted place d None is_value
        (ap (λ (b : Bool). after_colons b d) (sym same) ∙ colons-none sexp d (cursor device t) a.unfinished a.first (blank ∙ ahead.blank) ahead.first other),
  )
