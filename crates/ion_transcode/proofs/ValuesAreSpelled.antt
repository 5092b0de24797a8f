-- The text of a value by a layout is spelled by the grammar of text, as the value.
use Rattle.std.proofs.Common.{◌≡◌, ℕ, suc, ◌+◌, ◌≤◌, Bool, true, false, ◌==◌, List, [], ◌∷◌, ◌++◌, map, sum_by, codes, Option, None, Some, option_map, is_some, refl, ap, ap₂, sym, ◌∙◌, subst, arith, append_assoc, append-nil}
use Rattle.std.specs.List.{AllByRecursion, flat_map}
use Rattle.std.specs.Bool.{⊤}
use Rattle.std.proofs.lemmas.Bool.{false≢true, true≢false}
use Rattle.std.proofs.lemmas.Iterator.Adapters.{option_map_id}
use Rattle.std.proofs.lemmas.List.Sums.{sum_by-cons}
use Rattle.ion_meter.specs.declared.profile.Rules.{Rules}
use Rattle.ion_meter.specs.Sources.{Cursor}
use Rattle.ion_value.specs.declared.ion_type.Kind.{Kind}
use Rattle.ion_value.specs.declared.ion_type.Kind.TheVariants as kind
use Rattle.ion_value.specs.Digits.{first_is}
use Rattle.ion_value.specs.FloatText.{float_text}
use Rattle.ion_value.specs.Standing.{in_struct}
use Rattle.ion_value.specs.Value as value
use Rattle.ion_value.specs.Value.{SymbolAt, UserSymbol, Known, Unknown, Scalar, Value, Members, scalar, container, nothing, member, map_scalar, map_value, map_members, no_place}
use Rattle.ion_symbols.specs.Laws as symbols
use Rattle.ion_symbols.specs.Table.{Table, system}
use Rattle.ion_symbols.specs.Tree.{user_at}
use Rattle.ion_value.specs.Writable.{value_symbols, members_symbols, field_symbols, scalar_symbols, IsText, IsWritable, AreWritable, ValueHasBytes, MembersHaveBytes}
use Rattle.ion_text_in.specs.Grammar.{Tok, Annotations, Field, Txt, Inside}
use Rattle.ion_text_in.specs.Meaning.{at}
use Rattle.ion_text_in.specs.Positions as positions
use Rattle.ion_text_in.specs.Positions.{is_sexp, in_sexp, has_commas}
use Rattle.ion_text_in.specs.Reading as reading
use Rattle.ion_text_in.specs.Token.{Token, plain, float, name, text}
use Rattle.ion_text_in.specs.Within.{NamesWithin, AnnotationsWithin, FieldWithin, TxtWithin, InsideWithin}
use Rattle.ion_text_out.specs.Layout.{Layout, IsLayout, AreMarked, AreWhite, MayPrecede, further_in}
use Rattle.ion_text_out.specs.Text.{symbol_text, scalar_text, field_text_by, annotation_text, opener, closer, is_empty, value_text_by, members_text_by}
use Rattle.ion_transcode.specs.Depth.{ValueIsNoDeeper, MembersAreNoDeeper}
use Rattle.ion_transcode.specs.ShownAgain.{SymbolFits, ScalarFits, cost, AnnotationsFit, FieldFits, ValueFits, MembersFit}
use Rattle.ion_transcode.proofs.AfterValues.{white-first, white-not, Marked, marked, starts, After, AfterSymbol, after-gap, no-colons}
use Rattle.ion_transcode.proofs.TokensInText.{counts-there, stands, comma-stands, colons-stand, colon-stands, closer-starts, end-stands, begin-stands, opener-starts, Opens, no-brace}
use Rattle.ion_transcode.proofs.SymbolTokens.{TextLaws, token-begins, symbol-is}
use Rattle.ion_transcode.proofs.ScalarTokens.{ScalarIs, a_plain, a_float, a_string, a_symbol, scalar-is}
use Rattle.ion_transcode.proofs.Utf8Bytes.{all-left, all-right}

-- ---- symbols of a value, in part

abbrev Texts : List UserSymbol → Type 0
Texts ss = AllByRecursion IsText ss

own-field : (f : Option UserSymbol) (annotations : List UserSymbol) (x : Value UserSymbol ℕ)
    → Texts (value_symbols f annotations x) → Texts (field_symbols f)
own-field f annotations (scalar body) h = all-left IsText (field_symbols f) (annotations ++ scalar_symbols body) h
own-field f annotations (container k ms last) h =
    let front = all-left IsText (field_symbols f ++ (annotations ++ [])) (members_symbols ms) h in
    all-left IsText (field_symbols f) (annotations ++ []) front

own-annotations : (f : Option UserSymbol) (annotations : List UserSymbol) (x : Value UserSymbol ℕ)
    → Texts (value_symbols f annotations x) → Texts annotations
own-annotations f annotations (scalar body) h =
    let after = all-right IsText (field_symbols f) (annotations ++ scalar_symbols body) h in
    all-left IsText annotations (scalar_symbols body) after
own-annotations f annotations (container k ms last) h =
    let front = all-left IsText (field_symbols f ++ (annotations ++ [])) (members_symbols ms) h in
    all-left IsText annotations [] (all-right IsText (field_symbols f) (annotations ++ []) front)

own-scalar : (f : Option UserSymbol) (annotations : List UserSymbol) (body : Scalar UserSymbol)
    → Texts (value_symbols {P = ℕ} f annotations (scalar body)) → Texts (scalar_symbols body)
own-scalar f annotations body h =
    let after = all-right IsText (field_symbols f) (annotations ++ scalar_symbols body) h in
    all-right IsText annotations (scalar_symbols body) after

own-members : (f : Option UserSymbol) (annotations : List UserSymbol) (j : Kind) (ms : Members UserSymbol ℕ) (last : ℕ)
    → Texts (value_symbols f annotations (container j ms last)) → Texts (members_symbols ms)
own-members f annotations j ms last h = all-right IsText (field_symbols f ++ (annotations ++ [])) (members_symbols ms) h

-- ---- annotations

abbrev pub annotations_text : List UserSymbol → List ℕ
annotations_text ss = flat_map annotation_text ss

-- annotations that are within limits, where these allow that they fit
record NamesRead (Fit : Rules → Type 0) (sexp : Bool) (c : Cursor) (own : List SymbolAt) (d : Cursor) : Type 0 where
  spells : Annotations sexp c own d
  within : (limits : Rules) → Fit limits → NamesWithin limits spells

no-names : (Fit : Rules → Type 0) (sexp : Bool) (c : Cursor) → NamesRead Fit sexp c [] c
no-names Fit sexp c = record { spells = Annotations.nothing; within = λ limits fits. tt }

-- the limit on scalars is 64 or more, and each of these symbols fits
abbrev EachFits : Rules → List UserSymbol → Type 0
EachFits limits ss = (64 ≤ limits.scalar) × AllByRecursion (SymbolFits limits) ss

-- so it is where together they cost no more than the limit
each-fits : (limits : Rules) (ss : List UserSymbol) → sum_by cost ss ≤ limits.scalar → AllByRecursion (SymbolFits limits) ss
each-fits limits [] fit = tt
each-fits limits (Known t ∷ ss) fit =
    let all = sum_by-cons cost (Known t) ss in
    (omega (arith, fit, all), each-fits limits ss (omega (arith, fit, all)))
each-fits limits (Unknown ∷ ss) fit = (tt, each-fits limits ss (omega (arith, fit, sum_by-cons cost Unknown ss)))

abbrev NotesFit : List UserSymbol → Rules → Type 0
NotesFit ss limits = (64 ≤ limits.scalar) × AnnotationsFit limits ss

notes-fit : (ss : List UserSymbol) (limits : Rules) → NotesFit ss limits → EachFits limits ss
notes-fit ss limits fits = (fits.0, each-fits limits ss fits.1)

-- annotations after others, and what stands between them and what follows
record AnnotationsRead (Fit : Rules → Type 0) (sexp : Bool) (c : Cursor) (done : List SymbolAt) (ss : List UserSymbol)
    (rest : List ℕ) : Type 0 where
  own : List SymbolAt
  gap : List ℕ
  is_gap : AreWhite gap
  place : ℕ
  names : NamesRead Fit sexp c (done ++ own) (at place (gap ++ rest))
  are : (t : Table) → map (user_at t) own ≡ ss
  stand : AllByRecursion (symbols.Stands system) own
  costs : sum_by reading.cost own ≡ sum_by cost ss

annotation-join : (s : UserSymbol) (ss : List UserSymbol) (gap rest : List ℕ)
    → gap ++ (annotations_text (s ∷ ss) ++ rest) ≡ gap ++ (symbol_text s ++ (58 ∷ 58 ∷ (annotations_text ss ++ rest)))
annotation-join s ss gap rest =
    let first = append_assoc (symbol_text s ++ codes "::") (annotations_text ss) rest in
    let second = append_assoc (symbol_text s) (codes "::") (annotations_text ss ++ rest) in
    ap (λ (xs : List ℕ). gap ++ xs) (first ∙ second)

annotations-read : TextLaws → (Fit : Rules → Type 0) (sexp : Bool) (c : Cursor) (done : List SymbolAt) (ss : List UserSymbol)
    → Texts ss → ((limits : Rules) → Fit limits → EachFits limits ss) → (gap : List ℕ) → AreWhite gap → (p : ℕ) (rest : List ℕ)
    → NamesRead Fit sexp c done (at p (gap ++ (annotations_text ss ++ rest))) → AnnotationsRead Fit sexp c done ss rest
annotations-read laws Fit sexp c done [] texts fits gap g p rest prev = record {
  own = [];
  gap = gap;
  is_gap = g;
  place = p;
  names = subst (λ (l : List SymbolAt). NamesRead Fit sexp c l (at p (gap ++ rest))) (sym (append-nil done)) prev;
  are = λ t. refl;
  stand = tt;
  costs = refl;
}
annotations-read laws Fit sexp c done (s ∷ ss) texts fits gap g p rest prev =
    let more : List ℕ = annotations_text ss ++ rest in
    let is = symbol-is laws s texts.0 in
    let colons : AfterSymbol (58 ∷ 58 ∷ more) = AfterSymbol.at_colon in
    let word = stands AfterSymbol (symbol_text s) (name is.quoted is.symbol) is.token sexp gap g p (58 ∷ 58 ∷ more) colons in
    let two = colons-stand sexp word.after more in
    let moved : NamesRead Fit sexp c done (at p (gap ++ (symbol_text s ++ (58 ∷ 58 ∷ more)))) =
    subst (λ (xs : List ℕ). NamesRead Fit sexp c done (at p xs)) (annotation-join s ss gap rest) prev in
    let own : SymbolAt = positions.at is.symbol word.first in
    let then : NamesRead Fit sexp c (done ++ own ∷ []) (at two.after more) = record {
      spells = Annotations.then moved.spells word.tok two.tok;
      within = λ limits fit.
          let each = fits limits fit in
          (moved.within limits fit, counts-there word limits.scalar (is.counted limits each.0 each.1.0));
    } in
    let others : (limits : Rules) → Fit limits → EachFits limits ss =
    λ limits fit. ((fits limits fit).0, (fits limits fit).1.1) in
    let next = annotations-read laws Fit sexp c (done ++ own ∷ []) ss texts.1 others [] refl two.after rest then in
    record {
      own = own ∷ next.own;
      gap = next.gap;
      is_gap = next.is_gap;
      place = next.place;
      names = subst (λ (l : List SymbolAt). NamesRead Fit sexp c l (at next.place (next.gap ++ rest)))
          (append_assoc done (own ∷ []) next.own) next.names;
      are = λ t. ap₂ (λ (x : UserSymbol) (l : List UserSymbol). x ∷ l) (is.user t word.first) (next.are t);
      stand = (is.stands, next.stand);
      costs = sum_by-cons reading.cost own next.own
          ∙ (ap₂ (λ (m n : ℕ). m + n) (is.costs word.first) next.costs ∙ sym (sum_by-cons cost s ss));
    }

-- the annotations of a value, with what they cost
notes-within : (limits : Rules) (ss : List UserSymbol) (sexp : Bool) (c : Cursor) (own : List SymbolAt) (d : Cursor)
    (names : NamesRead (NotesFit ss) sexp c own d) → sum_by reading.cost own ≡ sum_by cost ss → 64 ≤ limits.scalar
    → AnnotationsFit limits ss → AnnotationsWithin limits names.spells
notes-within limits ss sexp c own d names costs wide fit = (omega (arith, costs, fit), names.within limits (wide, fit))

-- ---- what a value begins with

scalar-starts : (body : Scalar UserSymbol) → ScalarIs body → (rest : List ℕ) → After rest
    → starts (scalar_text body ++ rest) ≡ true
scalar-starts body (a_plain raw is same stand counted) rest after = token-begins After _ _ is rest after
scalar-starts _ (a_float x is counted) rest after = token-begins After _ _ is rest after
scalar-starts _ (a_string bytes is) rest after = token-begins After _ _ is rest after
scalar-starts _ (a_symbol s is) rest after = token-begins AfterSymbol _ _ is.token rest (AfterSymbol.of_value after)

value-starts : TextLaws → (layout : Layout) (f : Option UserSymbol) (annotations : List UserSymbol) (x : Value UserSymbol ℕ)
    → Texts (value_symbols f annotations x) → IsWritable x → ValueHasBytes x → (rest : List ℕ) → After rest
    → starts (value_text_by layout x ++ rest) ≡ true
value-starts laws layout f annotations (scalar body) texts writable small rest after =
    scalar-starts body (scalar-is laws body writable.0 writable.1 small (own-scalar f annotations body texts)) rest after
value-starts laws layout f annotations (container j ms last) texts writable small rest after =
    let inside : List ℕ = members_text_by (further_in 1 layout) j ms ++ (layout.before_closer (is_empty ms) 0 ++ closer j) in
    subst (λ (xs : List ℕ). starts xs ≡ true) (sym (append_assoc (opener j) inside rest)) (opener-starts j (inside ++ rest))

annotated-starts : TextLaws → (ss : List UserSymbol) → Texts ss → (rest : List ℕ) → starts rest ≡ true
    → starts (annotations_text ss ++ rest) ≡ true
annotated-starts laws [] texts rest s = s
annotated-starts laws (a ∷ ss) texts rest s =
    let more : List ℕ = 58 ∷ 58 ∷ (annotations_text ss ++ rest) in
    subst (λ (xs : List ℕ). starts xs ≡ true) (sym (annotation-join a ss [] rest))
    (token-begins AfterSymbol _ _ (symbol-is laws a texts.0).token more AfterSymbol.at_colon)

-- the colon after a field's name, and the white space after that
abbrev colon_of : (layout : Layout) → IsLayout layout → Marked 58 layout.after_name
colon_of layout is = marked 58 layout.after_name is.name

field-join : (layout : Layout) (colon : Marked 58 layout.after_name) (s : UserSymbol) (rest : List ℕ)
    → field_text_by layout (Some s) ++ rest ≡ symbol_text s ++ (58 ∷ (colon.gap ++ rest))
field-join layout colon s rest =
    append_assoc (symbol_text s) layout.after_name rest ∙ ap (λ (xs : List ℕ). symbol_text s ++ (xs ++ rest)) colon.is

member-starts : TextLaws → (layout : Layout) → IsLayout layout → (f : Option UserSymbol) → Texts (field_symbols f)
    → (rest : List ℕ) → starts rest ≡ true → starts (field_text_by layout f ++ rest) ≡ true
member-starts laws layout is None texts rest s = s
member-starts laws layout is (Some f) texts rest s =
    let colon = colon_of layout is in
    subst (λ (xs : List ℕ). starts xs ≡ true) (sym (field-join layout colon f rest))
    (token-begins AfterSymbol _ _ (symbol-is laws f texts.0).token (58 ∷ (colon.gap ++ rest)) AfterSymbol.at_colon)

-- ---- values

-- a value and members in a symbol table, and as their user has them: without places
abbrev pub seen : Table → Value SymbolAt ℕ → Value UserSymbol ⊤
seen t x = map_value (user_at t) no_place x

abbrev pub seen_members : Table → Members SymbolAt ℕ → Members UserSymbol ⊤
seen_members t ms = map_members (user_at t) no_place ms

abbrev pub unplaced : Value UserSymbol ℕ → Value UserSymbol ⊤
unplaced x = map_value (λ (s : UserSymbol). s) no_place x

abbrev pub unplaced_members : Members UserSymbol ℕ → Members UserSymbol ⊤
unplaced_members ms = map_members (λ (s : UserSymbol). s) no_place ms

-- annotations and a value are spelled, whatever table its symbols are seen in
pub record ValueRead (k : Option Kind) (c : Cursor) (notes : List UserSymbol) (x : Value UserSymbol ℕ) (rest : List ℕ)
    : Type 0 where
  pub own : List SymbolAt
  pub place : ℕ
  pub raw : Value SymbolAt ℕ
  pub after : ℕ
  pub spells : Txt k c own place raw (at after rest)
  pub annotations_are : (t : Table) → map (user_at t) own ≡ notes
  pub value_is : (t : Table) → seen t raw ≡ unplaced x
  pub annotations_stand : AllByRecursion (symbols.Stands system) own
  pub value_stands : symbols.ValueStands system raw
  pub within : (limits : Rules) (depth : ℕ) → 64 ≤ limits.scalar → AnnotationsFit limits notes → ValueFits limits x
      → ValueIsNoDeeper limits.depth depth x → TxtWithin limits depth spells

-- whether a separator is due after members
abbrev full_of : Kind → Members UserSymbol ℕ → Bool
full_of k nothing = false
full_of k (member before f annotations place x) = has_commas (Some k)

-- members are within limits, where these allow that they fit
abbrev Allowed : {k : Kind} {c d : Cursor} {raw : Members SymbolAt ℕ} {full : Bool} → Members UserSymbol ℕ
    → Inside k c raw full d → Type 0
Allowed ms spells =
    (limits : Rules) (depth : ℕ) → 64 ≤ limits.scalar → MembersFit limits ms → MembersAreNoDeeper limits.depth depth ms
    → InsideWithin limits depth spells

record MembersRead (k : Kind) (c : Cursor) (ms : Members UserSymbol ℕ) (full : Bool) (rest : List ℕ) : Type 0 where
  raw : Members SymbolAt ℕ
  after : ℕ
  spells : Inside k c raw full (at after rest)
  are : (t : Table) → seen_members t raw ≡ unplaced_members ms
  stand : symbols.MembersStand system raw
  within : Allowed ms spells

-- after members and what separates them from the next
record Opened (k : Kind) (c : Cursor) (ms : Members UserSymbol ℕ) (rest : List ℕ) : Type 0 where
  raw : Members SymbolAt ℕ
  gap : List ℕ
  is_gap : AreWhite gap
  place : ℕ
  spells : Inside k c raw false (at place (gap ++ rest))
  are : (t : Table) → seen_members t raw ≡ unplaced_members ms
  stand : symbols.MembersStand system raw
  within : Allowed ms spells

after-comma : (k : Kind) (c : Cursor) (gap tail : List ℕ) (ms : Members UserSymbol ℕ) → AreWhite gap
    → MembersRead k c ms true (44 ∷ (gap ++ tail)) → Opened k c ms tail
after-comma k c gap tail ms g r =
    let comma = comma-stands (is_sexp k) r.after (gap ++ tail) in
    record {
      raw = r.raw;
      gap = gap;
      is_gap = g;
      place = comma.after;
      spells = Inside.with_comma r.spells comma.tok;
      are = r.are;
      stand = r.stand;
      within = r.within;
    }

after-mark : (k : Kind) (c : Cursor) (between tail : List ℕ) (ms : Members UserSymbol ℕ) → AreMarked 44 between
    → MembersRead k c ms true (between ++ tail) → Opened k c ms tail
after-mark k c between tail ms are r =
    let comma = marked 44 between are in
    after-comma k c comma.gap tail ms comma.is_gap
    (subst (λ (xs : List ℕ). MembersRead k c ms true (xs ++ tail)) comma.is r)

after-other : (k : Kind) (c : Cursor) (gap tail : List ℕ) (ms : Members UserSymbol ℕ) → AreWhite gap
    → MembersRead k c ms false (gap ++ tail) → Opened k c ms tail
after-other k c gap tail ms g r = record {
  raw = r.raw;
  gap = gap;
  is_gap = g;
  place = r.after;
  spells = r.spells;
  are = r.are;
  stand = r.stand;
  within = r.within;
}

opened : (k : Kind) (c : Cursor) (before : Members UserSymbol ℕ) (between tail : List ℕ)
    → MayPrecede k (is_empty before) between → MembersRead k c before (full_of k before) (between ++ tail)
    → Opened k c before tail
opened k c nothing between tail may r = after-other k c between tail nothing may r
opened kind.List c (member before f annotations place x) between tail may r =
    after-mark kind.List c between tail (member before f annotations place x) may r
opened kind.Struct c (member before f annotations place x) between tail may r =
    after-mark kind.Struct c between tail (member before f annotations place x) may r
opened kind.Sexp c (member before f annotations place x) between tail may r =
    after-other kind.Sexp c between tail (member before f annotations place x) may.1 r

mark-after : (between tail : List ℕ) → AreMarked 44 between → After (between ++ tail)
mark-after between tail are =
    let comma = marked 44 between are in
    subst (λ (xs : List ℕ). After (xs ++ tail)) (sym comma.is) After.at_comma

next-after : (k : Kind) (before : Members UserSymbol ℕ) (between tail : List ℕ) → MayPrecede k (is_empty before) between
    → starts tail ≡ true → is_empty before ≡ false → After (between ++ tail)
next-after k nothing between tail may s e = absurd (true≢false e)
next-after kind.List (member before f annotations place x) between tail may s e = mark-after between tail may
next-after kind.Struct (member before f annotations place x) between tail may s e = mark-after between tail may
next-after kind.Sexp (member before f annotations place x) between tail may s e =
    after-gap between may.1 tail s (λ none. absurd (may.0 none))

-- ---- fields

record FieldRead (k : Kind) (c : Cursor) (f : Option UserSymbol) (rest : List ℕ) : Type 0 where
  own : Option SymbolAt
  gap : List ℕ
  is_gap : AreWhite gap
  place : ℕ
  spells : Field (Some k) c own (at place (gap ++ rest))
  is : (t : Table) → option_map (user_at t) own ≡ f
  stands : symbols.FieldStands system own
  within : (limits : Rules) → 64 ≤ limits.scalar → FieldFits limits f → FieldWithin limits spells

field-read : TextLaws → (layout : Layout) → IsLayout layout → (k : Kind) (f : Option UserSymbol) → Texts (field_symbols f) → is_some f ≡ in_struct (k ∷ [])
    → (gap : List ℕ) → AreWhite gap → (p : ℕ) (rest : List ℕ) → starts rest ≡ true
    → FieldRead k (at p (gap ++ (field_text_by layout f ++ rest))) f rest
field-read laws layout is kind.List None texts e gap g p rest s =
    record {
      own = None;
      gap = gap;
      is_gap = g;
      place = p;
      spells = Field.in_list;
      is = λ t. refl;
      stands = tt;
      within = λ limits wide fits. tt;
    }
field-read laws layout is kind.Sexp None texts e gap g p rest s =
    record {
      own = None;
      gap = gap;
      is_gap = g;
      place = p;
      spells = Field.in_a_sexp;
      is = λ t. refl;
      stands = tt;
      within = λ limits wide fits. tt;
    }
field-read laws layout is kind.Struct None texts e gap g p rest s = absurd (false≢true e)
field-read laws layout is kind.List (Some f) texts e gap g p rest s = absurd (true≢false e)
field-read laws layout is kind.Sexp (Some f) texts e gap g p rest s = absurd (true≢false e)
field-read laws layout is kind.Struct (Some f) texts e gap g p rest s =
    let mark = colon_of layout is in
    let own = symbol-is laws f texts.0 in
    let token : Token = name own.quoted own.symbol in
    let more : List ℕ = 58 ∷ (mark.gap ++ rest) in
    let word = stands AfterSymbol (symbol_text f) token own.token false gap g p more AfterSymbol.at_colon in
    let colon = colon-stands mark.gap mark.is_gap word.after rest s in
    let moved : Tok false (at p (gap ++ (field_text_by layout (Some f) ++ rest))) token word.first (at word.after more) =
    subst (λ (xs : List ℕ). Tok false (at p (gap ++ xs)) token word.first (at word.after more))
    (sym (field-join layout mark f rest)) word.tok in
    record {
      own = Some (positions.at own.symbol word.first);
      gap = mark.gap;
      is_gap = mark.is_gap;
      place = colon.after;
      spells = Field.named moved colon.tok;
      is = λ t. ap (λ (x : UserSymbol). Some x) (own.user t word.first);
      stands = own.stands;
      within = λ limits wide fits. counts-there word limits.scalar (own.counted limits wide fits);
    }

-- ---- braces

-- after a struct's opening brace no brace stands, so that it is no lob
abbrev NoBrace : List ℕ → Type 0
NoBrace xs = first_is (λ c. c == 123) xs ≡ false

white-brace : (gap : List ℕ) → AreWhite gap → (xs : List ℕ) → NoBrace xs → NoBrace (gap ++ xs)
white-brace [] w xs e = e
white-brace (b ∷ gap) w xs e = white-not b 123 (white-first b gap w) refl

mark-brace : (between xs : List ℕ) → AreMarked 44 between → NoBrace (between ++ xs)
mark-brace between xs are = subst (λ (ys : List ℕ). NoBrace (ys ++ xs)) (sym (marked 44 between are).is) refl

tail-brace : TextLaws → (layout : Layout) → IsLayout layout → (before : Members UserSymbol ℕ) (between : List ℕ)
    → MayPrecede kind.Struct (is_empty before) between → (f : Option UserSymbol) → Texts (field_symbols f)
    → is_some f ≡ true → (more : List ℕ) → NoBrace (between ++ (field_text_by layout f ++ more))
tail-brace laws layout is (member before g annotations place x) between may f texts e more = mark-brace between _ may
tail-brace laws layout is nothing between may None texts e more = absurd (false≢true e)
tail-brace laws layout is nothing between may (Some f) texts e more =
    let colon = colon_of layout is in
    let first = no-brace f (symbol-is laws f texts.0) (58 ∷ (colon.gap ++ more)) AfterSymbol.at_colon in
    white-brace between may (field_text_by layout (Some f) ++ more)
    (subst NoBrace (sym (field-join layout colon f more)) first)

member-join : (a b c d e rest : List ℕ) → (a ++ (b ++ (c ++ (d ++ e)))) ++ rest ≡ a ++ (b ++ (c ++ (d ++ (e ++ rest))))
member-join a b c d e rest = simp append_assoc

no-brace-in : TextLaws → (layout : Layout) → IsLayout layout → (ms : Members UserSymbol ℕ) → Texts (members_symbols ms)
    → AreWritable kind.Struct ms → (rest : List ℕ) → NoBrace rest → NoBrace (members_text_by layout kind.Struct ms ++ rest)
no-brace-in laws layout is nothing texts writable rest e = e
no-brace-in laws layout is (member before f annotations place x) texts writable rest e =
    let others = all-left IsText (members_symbols before) (value_symbols f annotations x) texts in
    let own = all-right IsText (members_symbols before) (value_symbols f annotations x) texts in
    let between : List ℕ = layout.before_member kind.Struct (is_empty before) 0 in
    let notes : List ℕ = annotations_text annotations in
    let field : List ℕ = field_text_by layout f in
    let body : List ℕ = value_text_by layout x in
    let more : List ℕ = notes ++ (body ++ rest) in
    let may = is.members kind.Struct (is_empty before) 0 in
    let tail = tail-brace laws layout is before between may f (own-field f annotations x own) writable.1.0 more in
    subst NoBrace (sym (member-join (members_text_by layout kind.Struct before) between field notes body rest))
    (no-brace-in laws layout is before others writable.0 (between ++ (field ++ more)) tail)

opens : TextLaws → (layout : Layout) → IsLayout layout → (j : Kind) (ms : Members UserSymbol ℕ) → Texts (members_symbols ms)
    → AreWritable j ms → (gap : List ℕ) → AreWhite gap → (rest : List ℕ)
    → Opens j (members_text_by layout j ms ++ (gap ++ (closer j ++ rest)))
opens laws layout is kind.List ms texts writable gap w rest = tt
opens laws layout is kind.Sexp ms texts writable gap w rest = tt
opens laws layout is kind.Struct ms texts writable gap w rest =
    no-brace-in laws layout is ms texts writable (gap ++ (125 ∷ rest)) (white-brace gap w (125 ∷ rest) refl)

closer-after : (j : Kind) (rest : List ℕ) → After (closer j ++ rest)
closer-after kind.List rest = After.at_list_end
closer-after kind.Sexp rest = After.at_sexp_end
closer-after kind.Struct rest = After.at_struct_end

-- ---- scalars

record ScalarRead (k : Option Kind) (c : Cursor) (own : List SymbolAt) (d : Cursor) (notes : Annotations (in_sexp k) c own d)
    (body : Scalar UserSymbol) (rest : List ℕ) : Type 0 where
  place : ℕ
  raw : Scalar SymbolAt
  after : ℕ
  spells : Txt k c own place (scalar raw) (at after rest)
  is : (t : Table) → map_scalar (user_at t) raw ≡ body
  stands : symbols.ScalarStands system raw
  within : (limits : Rules) (depth : ℕ) → 64 ≤ limits.scalar → AnnotationsWithin limits notes → ScalarFits limits body
      → TxtWithin limits depth spells

scalar-read : TextLaws → (k : Option Kind) (c : Cursor) (own : List SymbolAt) (gap : List ℕ) → AreWhite gap → (p : ℕ)
    (body : Scalar UserSymbol) (rest : List ℕ) (prev : Annotations (in_sexp k) c own (at p (gap ++ (scalar_text body ++ rest))))
    → After rest → ScalarIs body → ScalarRead k c own (at p (gap ++ (scalar_text body ++ rest))) prev body rest
scalar-read laws k c own gap g p body rest prev after (a_plain raw is same stand counted) =
    let w = stands After (scalar_text body) (plain raw) is (in_sexp k) gap g p rest after in
    record {
      place = w.first;
      raw = raw;
      after = w.after;
      spells = Txt.of_plain prev w.tok;
      is = same;
      stands = stand;
      within = λ limits depth wide noted fits. (noted, counts-there w limits.scalar (counted limits wide fits));
    }
scalar-read laws k c own gap g p _ rest prev after (a_float x is counted) =
    let w = stands After (float_text x) (float (Some x)) is (in_sexp k) gap g p rest after in
    record {
      place = w.first;
      raw = value.float x;
      after = w.after;
      spells = Txt.of_float prev w.tok;
      is = λ t. refl;
      stands = tt;
      within = λ limits depth wide noted fits. (noted, (counts-there w limits.scalar (counted limits wide), fits));
    }
scalar-read laws k c own gap g p _ rest prev after (a_string bytes is) =
    let w = stands After (scalar_text (value.string bytes)) (text bytes) is (in_sexp k) gap g p rest after in
    record {
      place = w.first;
      raw = value.string bytes;
      after = w.after;
      spells = Txt.of_text prev w.tok;
      is = λ t. refl;
      stands = tt;
      within = λ limits depth wide noted fits. (noted, fits);
    }
scalar-read laws k c own gap g p _ rest prev after (a_symbol s is) =
    let token : Token = name is.quoted is.symbol in
    let ends : AfterSymbol rest = AfterSymbol.of_value after in
    let w = stands AfterSymbol (symbol_text s) token is.token (in_sexp k) gap g p rest ends in
    record {
      place = w.first;
      raw = value.symbol (positions.at is.symbol w.first);
      after = w.after;
      spells = Txt.of_symbol prev w.tok (no-colons laws.begins (in_sexp k) w.after rest after) (is.no_version k own);
      is = λ t. ap (λ (x : UserSymbol). value.symbol x) (is.user t w.first);
      stands = is.stands;
      within = λ limits depth wide noted fits. (noted, counts-there w limits.scalar (is.counted limits wide fits));
    }

-- ---- trees

pub id-scalar : {A : Type 0} (v : Scalar A) → map_scalar (λ s. s) v ≡ v
id-scalar (value.symbol s) = refl
id-scalar (value.null t) = refl
id-scalar (value.bool truth) = refl
id-scalar (value.int number) = refl
id-scalar (value.float number) = refl
id-scalar (value.decimal number) = refl
id-scalar (value.timestamp moment) = refl
id-scalar (value.string b) = refl
id-scalar (value.clob b) = refl
id-scalar (value.blob b) = refl

pub id-map : {A : Type 0} (xs : List A) → map (λ x. x) xs ≡ xs
id-map [] = refl
id-map (x ∷ xs) = ap (λ l. x ∷ l) (id-map xs)

pub same_member : {S P : Type 0} {b c : Members S P} {f g : Option S} {a d : List S} {x y : Value S P} (p : P)
    → b ≡ c → f ≡ g → a ≡ d → x ≡ y → member b f a p x ≡ member c g d p y
same_member {c = c} {g = g} {a = a} {x = x} p h i j k =
    ap₂ (λ m n. member m n a p x) h i ∙ ap₂ (λ l z. member c g l p z) j k

container-join : (a b c d rest : List ℕ) → (a ++ (b ++ (c ++ d))) ++ rest ≡ a ++ (b ++ (c ++ (d ++ rest)))
container-join a b c d rest = simp append_assoc

-- members are laid out as any others
inner-is : (layout : Layout) → IsLayout layout → IsLayout (further_in 1 layout)
inner-is layout is = record {
  members = λ k first depth. is.members k first (1 + depth);
  name = is.name;
  closer = λ empty depth. is.closer empty (1 + depth);
}

mutual
  pub value-read : TextLaws → (layout : Layout) → IsLayout layout → (k : Option Kind) (f : Option UserSymbol)
      (notes : List UserSymbol) (x : Value UserSymbol ℕ) (gap : List ℕ) → AreWhite gap → (p : ℕ) (rest : List ℕ)
      → Texts (value_symbols f notes x) → IsWritable x → ValueHasBytes x → After rest
      → ValueRead k (at p (gap ++ (annotations_text notes ++ (value_text_by layout x ++ rest)))) notes x rest
  value-read laws layout is k f notes (scalar body) gap g p rest texts writable small after =
      let sexp : Bool = in_sexp k in
      let c : Cursor = at p (gap ++ (annotations_text notes ++ (scalar_text body ++ rest))) in
      let noted = own-annotations f notes (scalar body) texts in
      let none = no-names (NotesFit notes) sexp c in
      let more : List ℕ = scalar_text body ++ rest in
      let a = annotations-read laws (NotesFit notes) sexp c [] notes noted (notes-fit notes) gap g p more none in
      let body_is = scalar-is laws body writable.0 writable.1 small (own-scalar f notes body texts) in
      let w = scalar-read laws k c a.own a.gap a.is_gap a.place body rest a.names.spells after body_is in
      record {
        own = a.own;
        place = w.place;
        raw = scalar w.raw;
        after = w.after;
        spells = w.spells;
        annotations_are = a.are;
        value_is = λ t. ap (λ (v : Scalar UserSymbol). scalar v) (w.is t ∙ sym (id-scalar body));
        annotations_stand = a.stand;
        value_stands = w.stands;
        within = λ limits depth wide few fits deep.
            w.within limits depth wide (notes-within limits notes sexp c a.own _ a.names a.costs wide few) fits;
      }
  value-read laws layout is k f notes (container j ms last) gap g p rest texts writable small after =
      let sexp : Bool = in_sexp k in
      let inner : Layout = further_in 1 layout in
      let inner_is : IsLayout inner = inner-is layout is in
      let before : List ℕ = layout.before_closer (is_empty ms) 0 in
      let white : AreWhite before = is.closer (is_empty ms) 0 in
      let all : List ℕ = value_text_by layout (container j ms last) ++ rest in
      let close : List ℕ = before ++ (closer j ++ rest) in
      let inside : List ℕ = members_text_by inner j ms ++ close in
      let c : Cursor = at p (gap ++ (annotations_text notes ++ all)) in
      let noted = own-annotations f notes (container j ms last) texts in
      let none = no-names (NotesFit notes) sexp c in
      let a = annotations-read laws (NotesFit notes) sexp c [] notes noted (notes-fit notes) gap g p all none in
      let prev : NamesRead (NotesFit notes) sexp c a.own (at a.place (a.gap ++ (opener j ++ inside))) =
      subst (λ (xs : List ℕ). NamesRead (NotesFit notes) sexp c a.own (at a.place (a.gap ++ xs)))
      (container-join (opener j) (members_text_by inner j ms) before (closer j) rest) a.names in
      let own = own-members f notes j ms last texts in
      let ends : After close = after-gap before white (closer j ++ rest) (closer-starts j rest) (λ e. closer-after j rest) in
      let b = begin-stands j sexp a.gap a.is_gap a.place inside (opens laws inner inner_is j ms own writable before white rest) in
      let m = members-read laws inner inner_is j ms b.after close own writable small (λ e. ends) in
      let e = end-stands j (is_sexp j) before white m.after rest in
      record {
        own = a.own;
        place = b.first;
        raw = container j m.raw e.first;
        after = e.after;
        spells = Txt.of_members prev.spells b.tok m.spells e.tok;
        annotations_are = a.are;
        value_is = λ t. ap (λ (ns : Members UserSymbol ⊤). container j ns tt) (m.are t);
        annotations_stand = a.stand;
        value_stands = m.stand;
        within = λ limits depth wide few fits deep.
            let noted = notes-within limits notes sexp c a.own _ prev a.costs wide few in
            (noted, (deep.0, m.within limits (suc depth) wide fits deep.1));
      }

  members-read : TextLaws → (layout : Layout) → IsLayout layout → (k : Kind) (ms : Members UserSymbol ℕ) (p : ℕ)
      (rest : List ℕ) → Texts (members_symbols ms) → AreWritable k ms → MembersHaveBytes ms
      → (is_empty ms ≡ false → After rest)
      → MembersRead k (at p (members_text_by layout k ms ++ rest)) ms (full_of k ms) rest
  members-read laws layout is k nothing p rest texts writable small after =
      record {
        raw = nothing;
        after = p;
        spells = Inside.nothing;
        are = λ t. refl;
        stand = tt;
        within = λ limits depth wide fits deep. tt;
      }
  members-read laws layout is k (member before f notes place x) p rest texts writable small after =
      let others = all-left IsText (members_symbols before) (value_symbols f notes x) texts in
      let own = all-right IsText (members_symbols before) (value_symbols f notes x) texts in
      let noted = own-annotations f notes x own in
      let fielded = own-field f notes x own in
      let front : List ℕ = members_text_by layout k before in
      let between : List ℕ = layout.before_member k (is_empty before) 0 in
      let field : List ℕ = field_text_by layout f in
      let own_text : List ℕ = value_text_by layout x in
      let body : List ℕ = annotations_text notes ++ (own_text ++ rest) in
      let tail : List ℕ = field ++ body in
      let c : Cursor = at p (front ++ (between ++ tail)) in
      let value_start = value-starts laws layout f notes x own writable.1.1 small.1 rest (after refl) in
      let body_start = annotated-starts laws notes noted (own_text ++ rest) value_start in
      let tail_start = member-starts laws layout is f fielded body body_start in
      let may = is.members k (is_empty before) 0 in
      let ends = next-after k before between tail may tail_start in
      let r = members-read laws layout is k before p (between ++ tail) others writable.0 small.0 ends in
      let o = opened k c before between tail may r in
      let fr = field-read laws layout is k f fielded writable.1.0 o.gap o.is_gap o.place body body_start in
      let v = value-read laws layout is (Some k) f notes x fr.gap fr.is_gap fr.place rest own writable.1.1 small.1 (after refl) in
      let whole : MembersRead k c (member before f notes place x) (has_commas (Some k)) rest = record {
        raw = member o.raw fr.own v.own v.place v.raw;
        after = v.after;
        spells = Inside.with_value o.spells fr.spells v.spells;
        are = λ t.
            let named = fr.is t ∙ sym (option_map_id f) in
            same_member {f = option_map (user_at t) fr.own} {a = map (user_at t) v.own} {x = seen t v.raw} tt (o.are t) named
            (v.annotations_are t ∙ sym (id-map notes)) (v.value_is t);
        stand = (o.stand, fr.stands, v.annotations_stand, v.value_stands);
        within = λ limits depth wide fits deep. (
          o.within limits depth wide fits.0 deep.0,
          (fr.within limits wide fits.1, v.within limits depth wide fits.2 fits.3 deep.1),
        );
      } in
      subst (λ (xs : List ℕ). MembersRead k (at p xs) (member before f notes place x) (has_commas (Some k)) rest)
      (sym (member-join front between field (annotations_text notes) own_text rest)) whole

-- what a value at top level begins with
pub top-starts : TextLaws → (layout : Layout) (notes : List UserSymbol) (x : Value UserSymbol ℕ)
    → Texts (value_symbols None notes x) → IsWritable x → ValueHasBytes x → (rest : List ℕ) → After rest
    → starts (annotations_text notes ++ (value_text_by layout x ++ rest)) ≡ true
top-starts laws layout notes x texts writable small rest after =
    let begins = value-starts laws layout None notes x texts writable small rest after in
    annotated-starts laws notes (own-annotations None notes x texts) (value_text_by layout x ++ rest) begins
