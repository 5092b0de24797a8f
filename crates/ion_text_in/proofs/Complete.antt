-- Whatever the grammar spells is read, where limits allow what stands there.
use Rattle.std.proofs.Common.{◌≡◌, ℕ, suc, ◌≤◌, arith, Bool, true, false, not, nat_le, nat_lt, sum_by, List, [], ◌∷◌, ◌++◌, length, Option, None, Some, Ok, Result, if◌then◌else◌, refl, sym, ap, subst, ◌∙◌, append_assoc, append-nil}
use Rattle.std.proofs.lemmas.Bool.{le-ltb, lt-leb}
use Rattle.std.proofs.lemmas.List.Sums.{sum_by-append}
use Rattle.ion_meter.specs.declared.fault.Reason.{Reason}
use Rattle.ion_meter.specs.declared.fault.Reason.TheVariants as reasons
use Rattle.ion_meter.specs.declared.fault.Reason.TheVariants.{AnnotationLimit, DepthLimit}
use Rattle.ion_meter.specs.declared.profile.Rules.{Rules}
use Rattle.ion_value.specs.declared.ion_type.Kind.{Kind}
use Rattle.ion_value.specs.declared.ion_type.Kind.TheVariants as kind
use Rattle.ion_value.specs.Digits.{cut_at}
use Rattle.ion_value.specs.Name.{version_word}
use Rattle.ion_value.specs.Value as value
use Rattle.ion_value.specs.Value.{SymbolAt, Scalar, Value, Members, Top, PlacedItem, value_items, member_items, top_items}
use Rattle.ion_value.specs.Path.{Path, closed, opened, begin_item, nest_items, path_items, open_in}
use Rattle.ion_value.specs.Reading.{Reading, Finished, More, items_then, Step, Ends, Gives, GoesOn, reading_by}
use Rattle.ion_value.proofs.Readings.{items_then-append, reading_by-ends, reading_by-gives, reading_by-goes_on}
use Rattle.ion_meter.specs.Sources.{Cursor}
use Rattle.ion_value.specs.Parts.{part, refuse, ◌>>=◌, ◌>>◌}
use Rattle.ion_text_in.specs.Blanks.{blanks}
use Rattle.ion_text_in.specs.Token.{Token, plain, float, name, text, operator, begin, end, comma, colons}
use Rattle.ion_text_in.specs.Reading as reading
use Rattle.ion_text_in.specs.Positions.{Wants, a_value, a_field, a_separator, State, innermost, in_sexp, has_commas, at, first_place}
use Rattle.ion_text_in.specs.Reading.{member_of, at_member, after_member, top_of, item_of, cost, tells_version, after_colons, step, step_of, take, size, start}
use Rattle.ion_text_in.specs.Grammar.{Tok, Annotations, Field, Txt, Inside, Tops, start_of}
use Rattle.ion_text_in.specs.Paths.{Spells, IsTop}
use Rattle.ion_text_in.specs.Laws.{Complete, StreamsAreRead, PathsWithinAreRead, StreamsWithinAreRead}
use Rattle.ion_text_in.specs.Meaning.{counts}
use Rattle.ion_text_in.specs.Within.{TokenWithin, NamesWithin, AnnotationsWithin, FieldWithin, TxtWithin, InsideWithin, TopsWithin, PathWithin}
use Rattle.ion_text_in.proofs.Advancing.{tops-allowed, path-allowed}
use Rattle.ion_value.proofs.GrowingPaths.{Fits}
use Rattle.ion_text_in.proofs.Steps.{colons-none, version-none, fits}
use Rattle.ion_text_in.proofs.Falling.{each_step_falls}
use Rattle.ion_text_in.proofs.Tokens.{state, Suits, value-suits, mark-suits, end-suits, naming-suits, step-token, colons-stand, colon-stands}

-- ---- from one state to another

unfoldable pub read_from : Rules → State → Reading
read_from limits s = reading_by (step limits) size s

-- from a state on these items are read, and what is read after them is read from the other
abbrev pub Reads : Rules → State → List PlacedItem → State → Type 0
Reads limits s items t = read_from limits s ≡ items_then items (read_from limits t)

pub reads-then : (limits : Rules) (s t u : State) (xs ys : List PlacedItem) → Reads limits s xs t → Reads limits t ys u → Reads limits s (xs ++ ys) u
reads-then limits s t u xs ys p q = p ∙ ap (items_then xs) q ∙ sym (items_then-append xs ys (read_from limits u))

pub reads-gives : (limits : Rules) (s t : State) (item : PlacedItem) → step limits s ≡ Gives item t → Reads limits s (item ∷ []) t
unfolding read_from
reads-gives limits s t item e = reading_by-gives (step limits) size (each_step_falls limits) s t item e

pub reads-goes_on : (limits : Rules) (s t : State) → step limits s ≡ GoesOn t → Reads limits s [] t
unfolding read_from
reads-goes_on limits s t e = reading_by-goes_on (step limits) size (each_step_falls limits) s t e

read_from-ends : (limits : Rules) (s : State) → step limits s ≡ Ends → read_from limits s ≡ Finished
unfolding read_from
read_from-ends limits s e = reading_by-ends (step limits) size (each_step_falls limits) s e

pub not-refused : (p : ℕ) (b : Bool) (reason : Reason) (o : Result (Step State) Reason) → b ≡ false → step_of (part p (refuse b reason >> o)) ≡ step_of (part p o)
not-refused p b reason o e = ap (λ b. step_of (part p (refuse b reason >> o))) e

-- ---- annotations and fields

names-read : (limits : Rules) (kinds : List Kind) (top : ℕ) (field : Option SymbolAt) (sexp : Bool) (c d : Cursor) (annotations : List SymbolAt) → in_sexp (innermost kinds) ≡ sexp
    → (ns : Annotations sexp c annotations d) → sum_by cost annotations ≤ limits.scalar → NamesWithin limits ns
    → Reads limits (state kinds top (a_value field []) c) [] (state kinds top (a_value field annotations) d)
unfolding take
names-read limits kinds top field sexp c _ _ is Annotations.nothing cheap within = refl
names-read limits kinds top field sexp c f _ is (Annotations.then {annotations = annotations} {d = d} {e = e} {p = p} {q = q} {quoted = quoted} {symbol = symbol} before tok after) cheap within =
    let prefix = names-read limits kinds top field sexp c d annotations is before (omega (arith, cheap, sum_by-append cost annotations (at symbol p ∷ []))) within.0 in
    let next : State = state kinds top (a_value field (annotations ++ at symbol p ∷ [])) f in
    let one = step-token limits kinds top (a_value field annotations) d (name quoted symbol) p e (value-suits field annotations (name quoted symbol)) within.1
    (subst (λ sexp. Tok sexp d (name quoted symbol) p e) (sym is) tok)
    ∙ ap (λ o. step_of (part p (reading.symbol_step limits kinds top field annotations quoted (at symbol p) e o)))
    (colons-stand (in_sexp (innermost kinds)) e f q (subst (λ sexp. Tok sexp e colons q f) (sym is) after))
    ∙ not-refused p (nat_lt limits.scalar (sum_by cost (annotations ++ at symbol p ∷ []))) AnnotationLimit (Ok (GoesOn next)) (le-ltb limits.scalar (sum_by cost (annotations ++ at symbol p ∷ [])) cheap) in
    prefix ∙ reads-goes_on limits (state kinds top (a_value field annotations) d) next one

pub annotations-read : (limits : Rules) (kinds : List Kind) (top : ℕ) (field : Option SymbolAt) (sexp : Bool) (c d : Cursor) (annotations : List SymbolAt) → in_sexp (innermost kinds) ≡ sexp
    → (ns : Annotations sexp c annotations d) → AnnotationsWithin limits ns → Reads limits (state kinds top (a_value field []) c) [] (state kinds top (a_value field annotations) d)
annotations-read limits kinds top field sexp c d annotations is ns within = names-read limits kinds top field sexp c d annotations is ns within.0 within.1

pub field-read : (limits : Rules) (kinds : List Kind) (top : ℕ) (k : Option Kind) (field : Option SymbolAt) (c d : Cursor) → innermost kinds ≡ k → (own : Field k c field d) → FieldWithin limits own
    → Reads limits (state kinds top (at_member k) c) [] (state kinds top (a_value field []) d)
unfolding take
field-read limits kinds top _ _ c _ is Field.at_top within = refl
field-read limits kinds top _ _ c _ is Field.in_list within = refl
field-read limits kinds top _ _ c _ is Field.in_a_sexp within = refl
field-read limits kinds top _ _ c e is (Field.named {d = d} {p = p} {q = q} {quoted = quoted} {symbol = symbol} tok after) within =
    let tok' : Tok (in_sexp (innermost kinds)) c (name quoted symbol) p d = subst (λ k. Tok (in_sexp k) c (name quoted symbol) p d) (sym is) tok in
    reads-goes_on limits (state kinds top a_field c) (state kinds top (a_value (Some (at symbol p)) []) e)
    (step-token limits kinds top a_field c (name quoted symbol) p d (naming-suits (name quoted symbol) refl refl) within tok' ∙ ap step_of (colon-stands d e q kinds top (at symbol p) after))
field-read limits kinds top _ _ c e is (Field.in_quotes {d = d} {p = p} {q = q} {bytes = bytes} tok after) within =
    let tok' : Tok (in_sexp (innermost kinds)) c (text bytes) p d = subst (λ k. Tok (in_sexp k) c (text bytes) p d) (sym is) tok in
    reads-goes_on limits (state kinds top a_field c) (state kinds top (a_value (Some (at (value.Text bytes) p)) []) e)
    (step-token limits kinds top a_field c (text bytes) p d (naming-suits (text bytes) refl refl) within tok' ∙ ap step_of (colon-stands d e q kinds top (at (value.Text bytes) p) after))

-- ---- values and members

-- what must come after members
abbrev pub wants_after : Option Kind → Bool → Wants
wants_after k full = if full then a_separator else at_member k

same-wants : (k : Kind) → after_member (Some k) ≡ wants_after (Some k) (has_commas (Some k))
same-wants kind.List = refl
same-wants kind.Sexp = refl
same-wants kind.Struct = refl

-- a mark counts nothing
pub mark-within : (limits : Rules) (t : Token) (p : ℕ) (d : Cursor) → counts t p d.place ≡ 0 → TokenWithin limits t p d
mark-within limits t p d none = omega (arith, none)

scalar-read : (limits : Rules) (kinds : List Kind) (top : ℕ) (field : Option SymbolAt) (annotations : List SymbolAt) (sexp : Bool) (c d e : Cursor) (p : ℕ) (t : Token) (body : Scalar SymbolAt)
    → in_sexp (innermost kinds) ≡ sexp → (ns : Annotations sexp c annotations d) → AnnotationsWithin limits ns → Tok sexp d t p e → TokenWithin limits t p e
    → step_of (take limits kinds top (a_value field annotations) p t e) ≡ reading.scalar_step kinds top field annotations p body e
    → Reads limits (state kinds top (a_value field []) c) (value_items (top_of kinds top annotations p) field annotations p (value.scalar body)) (state kinds (top_of kinds top annotations p) (after_member (innermost kinds)) e)
scalar-read limits kinds top field annotations sexp c d e p t body is ns ns_within tok within taken =
    annotations-read limits kinds top field sexp c d annotations is ns ns_within
    ∙ reads-gives limits (state kinds top (a_value field annotations) d) (state kinds (top_of kinds top annotations p) (after_member (innermost kinds)) e)
    (item_of (top_of kinds top annotations p) field annotations p (value.whole body))
    (step-token limits kinds top (a_value field annotations) d t p e (value-suits field annotations t) within (subst (λ sexp. Tok sexp d t p e) (sym is) tok) ∙ taken)

-- the end of a container after its members
end-suits-after : (k : Kind) (full : Bool) → Suits (wants_after (Some k) full) (end k)
end-suits-after k true = mark-suits (end k) refl
end-suits-after kind.List false = value-suits None [] (end kind.List)
end-suits-after kind.Sexp false = value-suits None [] (end kind.Sexp)
end-suits-after kind.Struct false = end-suits (end kind.Struct) refl

closed-is : (kinds : List Kind) (top : ℕ) (k : Kind) (q : ℕ) (c : Cursor) → step_of (part q (reading.end_step (k ∷ kinds) top k q c))
    ≡ Gives (item_of top None [] q value.end) (state kinds top (after_member (innermost kinds)) c)
closed-is kinds top kind.List q c = refl
closed-is kinds top kind.Sexp q c = refl
closed-is kinds top kind.Struct q c = refl

end-taken : (limits : Rules) (kinds : List Kind) (top : ℕ) (k : Kind) (full : Bool) (q : ℕ) (c : Cursor) → step_of (take limits (k ∷ kinds) top (wants_after (Some k) full) q (end k) c)
    ≡ Gives (item_of top None [] q value.end) (state kinds top (after_member (innermost kinds)) c)
unfolding take
end-taken limits kinds top k true q c = closed-is kinds top k q c
end-taken limits kinds top kind.List false q c = refl
end-taken limits kinds top kind.Sexp false q c = refl
end-taken limits kinds top kind.Struct false q c = refl

module _ (limits : Rules) where
  mutual
    unfolding take

    pub value-read : (kinds : List Kind) (top : ℕ) (field : Option SymbolAt) (k : Option Kind) (c e : Cursor) (annotations : List SymbolAt) (p : ℕ) (v : Value SymbolAt ℕ) → innermost kinds ≡ k
        → (txt : Txt k c annotations p v e) → TxtWithin limits (length kinds) txt
        → Reads limits (state kinds top (a_value field []) c) (value_items (top_of kinds top annotations p) field annotations p v) (state kinds (top_of kinds top annotations p) (after_member (innermost kinds)) e)
    value-read kinds top field _ c e _ p _ is (Txt.of_plain {k = k} {d = d} {annotations = annotations} {v = v} ns tok) within =
        scalar-read limits kinds top field annotations (in_sexp k) c d e p (plain v) v (ap in_sexp is) ns within.0 tok within.1 refl
    value-read kinds top field _ c e _ p _ is (Txt.of_float {k = k} {d = d} {annotations = annotations} {x = x} ns tok) within =
        scalar-read limits kinds top field annotations (in_sexp k) c d e p (float (Some x)) (value.float x) (ap in_sexp is) ns within.0 tok within.1.0
        (not-refused p (not limits.floats) reasons.Float (Ok (reading.scalar_step kinds top field annotations p (value.float x) e)) (ap not within.1.1))
    value-read kinds top field _ c e _ p _ is (Txt.of_text {k = k} {d = d} {annotations = annotations} {bytes = bytes} ns tok) within =
        scalar-read limits kinds top field annotations (in_sexp k) c d e p (text bytes) (value.string bytes) (ap in_sexp is) ns within.0 tok within.1 refl
    value-read kinds top field _ c e _ p _ is (Txt.of_operator {k = k} {d = d} {annotations = annotations} {bytes = bytes} ns tok) within =
        scalar-read limits kinds top field annotations (in_sexp k) c d e p (operator bytes) (value.symbol (at (value.Text bytes) p)) (ap in_sexp is) ns within.0 tok within.1 refl
    value-read kinds top field _ c e _ p _ is (Txt.of_symbol {k = k} {d = d} {annotations = annotations} {quoted = quoted} {symbol = symbol} ns tok alone no_version) within =
        scalar-read limits kinds top field annotations (in_sexp k) c d e p (name quoted symbol) (value.symbol (at symbol p)) (ap in_sexp is) ns within.0 tok within.1
        (ap (λ o. step_of (part p (reading.symbol_step limits kinds top field annotations quoted (at symbol p) e o))) (ap (λ k. after_colons (in_sexp k) e) is ∙ colons-none (in_sexp k) e alone)
        ∙ ap (λ told. step_of (part p (reading.value_or_version kinds top field annotations (at symbol p) e told))) (ap (λ k. tells_version k annotations quoted symbol) is ∙ version-none k annotations quoted symbol no_version))
    value-read kinds top field _ c g _ p _ is (Txt.of_members {k = k} {d = d} {e = e} {f = f} {annotations = annotations} {q = q} {j = j} {members = members} {full = full} ns tok ins tok') within =
        let top' : ℕ = top_of kinds top annotations p in
        let begun = step-token limits kinds top (a_value field annotations) d (begin j) p e (value-suits field annotations (begin j)) (mark-within limits (begin j) p e refl)
        (subst (λ k. Tok (in_sexp k) d (begin j) p e) (sym is) tok)
        ∙ not-refused p (nat_le limits.depth (length kinds)) DepthLimit (Ok (Gives (item_of top' field annotations p (value.begin j)) (state (j ∷ kinds) top' (member_of j) e))) (lt-leb limits.depth (length kinds) within.1.0) in
        let first = annotations-read limits kinds top field (in_sexp k) c d annotations (ap in_sexp is) ns within.0
        ∙ reads-gives limits (state kinds top (a_value field annotations) d) (state (j ∷ kinds) top' (member_of j) e) (item_of top' field annotations p (value.begin j)) begun in
        let inner = members-read kinds top' j e f members full ins within.1.1 in
        let last = reads-gives limits (state (j ∷ kinds) top' (wants_after (Some j) full) f) (state kinds top' (after_member (innermost kinds)) g) (item_of top' None [] q value.end)
        (step-token limits (j ∷ kinds) top' (wants_after (Some j) full) f (end j) q g (end-suits-after j full) (mark-within limits (end j) q g refl) tok' ∙ end-taken limits kinds top' j full q g) in
        first ∙ ap (More (item_of top' field annotations p (value.begin j)))
        (reads-then limits (state (j ∷ kinds) top' (member_of j) e) (state (j ∷ kinds) top' (wants_after (Some j) full) f) (state kinds top' (after_member (innermost kinds)) g)
        (member_items top' members) (item_of top' None [] q value.end ∷ []) inner last)

    pub members-read : (kinds : List Kind) (top : ℕ) (j : Kind) (c d : Cursor) (members : Members SymbolAt ℕ) (full : Bool) → (inside : Inside j c members full d)
        → InsideWithin limits (suc (length kinds)) inside
        → Reads limits (state (j ∷ kinds) top (member_of j) c) (member_items top members) (state (j ∷ kinds) top (wants_after (Some j) full) d)
    members-read kinds top j c _ _ _ Inside.nothing within = refl
    members-read kinds top j c f _ _ (Inside.with_value {d = d} {e = e} {members = members} {field = field} {annotations = annotations} {p = p} {v = v} ins own txt) within =
        let before = members-read kinds top j c d members false ins within.0 in
        let name = field-read limits (j ∷ kinds) top (Some j) field d e refl own within.1.0 in
        let one = value-read (j ∷ kinds) top field (Some j) e f annotations p v refl txt within.1.1 in
        let all = reads-then limits (state (j ∷ kinds) top (member_of j) c) (state (j ∷ kinds) top (at_member (Some j)) d) (state (j ∷ kinds) top (after_member (Some j)) f)
        (member_items top members) (value_items top field annotations p v) before (name ∙ one) in
        subst (λ wants. Reads limits (state (j ∷ kinds) top (member_of j) c) (member_items top members ++ value_items top field annotations p v) (state (j ∷ kinds) top wants f)) (same-wants j) all
    members-read kinds top j c e _ _ (Inside.with_comma {d = d} {members = members} {p = p} ins tok) within =
        let before = members-read kinds top j c d members true ins within in
        let comma_read = reads-goes_on limits (state (j ∷ kinds) top a_separator d) (state (j ∷ kinds) top (at_member (Some j)) e)
        (step-token limits (j ∷ kinds) top a_separator d comma p e (mark-suits comma refl) (mark-within limits comma p e refl) tok) in
        before ∙ ap (items_then (member_items top members)) comma_read

-- ---- the top level, and paths

top_items-snoc : (tops : List (Top SymbolAt ℕ)) (t : Top SymbolAt ℕ) → top_items (tops ++ t ∷ []) ≡ top_items tops ++ value.one_top t
top_items-snoc [] t = append-nil (value.one_top t)
top_items-snoc (u ∷ tops) t = ap (λ items. value.one_top u ++ items) (top_items-snoc tops t) ∙ sym (append_assoc (value.one_top u) (top_items tops) (value.one_top t))

marker-taken : (top p : ℕ) (e : Cursor) → step_of (part p (reading.value_or_version [] top None [] (at (value.Text version_word) p) e (tells_version None [] false (value.Text version_word))))
    ≡ Gives (item_of p None [] p value.marker) (state [] p (a_value None []) e)
unfolding tells_version cut_at
marker-taken top p e = refl

-- where the top-level value began that was read last
abbrev pub TopsRead : Rules → List ℕ → List (Top SymbolAt ℕ) → Cursor → Type 0
TopsRead limits bytes tops c = (top : ℕ) × Reads limits (start bytes) (top_items tops) (state [] top (a_value None []) c)

module _ (limits : Rules) (bytes : List ℕ) where
  pub tops-read : (c : Cursor) (tops : List (Top SymbolAt ℕ)) → (t : Tops (start_of bytes) tops c) → TopsWithin limits t → TopsRead limits bytes tops c
  unfolding take
  tops-read _ _ Tops.nothing within = (0, refl)
  tops-read e _ (Tops.marker {tops = tops} {d = d} {p = p} before tok alone) within =
      let prefix = tops-read d tops before within.0 in
      let one = step-token limits [] prefix.0 (a_value None []) d (name false (value.Text version_word)) p e (value-suits None [] (name false (value.Text version_word))) within.1 tok
      ∙ ap (λ o. step_of (part p (reading.symbol_step limits [] prefix.0 None [] false (at (value.Text version_word) p) e o))) (colons-none false e alone)
      ∙ marker-taken prefix.0 p e in
      let all = reads-then limits (start bytes) (state [] prefix.0 (a_value None []) d) (state [] p (a_value None []) e) (top_items tops) (item_of p None [] p value.marker ∷ [])
      prefix.1 (reads-gives limits (state [] prefix.0 (a_value None []) d) (state [] p (a_value None []) e) (item_of p None [] p value.marker) one) in
      (p, subst (λ items. Reads limits (start bytes) items (state [] p (a_value None []) e)) (sym (top_items-snoc tops (value.version p))) all)
  tops-read e _ (Tops.with_value {tops = tops} {d = d} {annotations = annotations} {p = p} {v = v} before txt) within =
      let prefix = tops-read d tops before within.0 in
      let all = reads-then limits (start bytes) (state [] prefix.0 (a_value None []) d) (state [] (first_place annotations p) (a_value None []) e) (top_items tops)
      (value_items (first_place annotations p) None annotations p v) prefix.1 (value-read limits [] prefix.0 None None d e annotations p v refl txt within.1) in
      (first_place annotations p, subst (λ items. Reads limits (start bytes) items (state [] (first_place annotations p) (a_value None []) e)) (sym (top_items-snoc tops (value.tree (first_place annotations p) annotations p v))) all)

open-top : {b c : Cursor} (path : Path SymbolAt ℕ) (kinds : List Kind) (full : Bool) (top : ℕ) (field : Option SymbolAt) (annotations : List SymbolAt) (p : ℕ) (k : Kind) (members : Members SymbolAt ℕ)
    → Spells b path kinds full c → IsTop path top → IsTop (open_in path (first_place annotations p) field annotations p k members) (top_of kinds top annotations p)
open-top _ _ _ top field annotations p j members (Spells.top t) is = refl
open-top _ _ _ top field annotations p j members (Spells.inside (closed tops) g own q k ms s around ns tok ins) is = is
open-top _ _ _ top field annotations p j members (Spells.inside (opened tops first nest) g own q k ms s around ns tok ins) is = is

open-items : (path : Path SymbolAt ℕ) (q top : ℕ) (field : Option SymbolAt) (annotations : List SymbolAt) (p : ℕ) (k : Kind) (members : Members SymbolAt ℕ) → Fits path q top field
    → path_items (open_in path q field annotations p k members) ≡ path_items path ++ (begin_item top field annotations p k ∷ member_items top members)
open-items (closed tops) q top field annotations p k members fits = rw (← fits.0, fits.1) refl
open-items (opened tops first nest) q top field annotations p k members fits =
    rw (← fits) (sym (append_assoc (top_items tops) (nest_items first nest) (begin_item first field annotations p k ∷ member_items first members)))

-- where the open top-level value began, or the last
record PathRead (limits : Rules) (bytes : List ℕ) (path : Path SymbolAt ℕ) (kinds : List Kind) (full : Bool) (c : Cursor) : Type 0 where
  top : ℕ
  is_top : IsTop path top
  read : Reads limits (start bytes) (path_items path) (state kinds top (wants_after (innermost kinds) full) c)

module _ (limits : Rules) (bytes : List ℕ) where
  path-read : (c : Cursor) (path : Path SymbolAt ℕ) (kinds : List Kind) (full : Bool) (s : Spells (start_of bytes) path kinds full c) → PathWithin limits s
      → PathRead limits bytes path kinds full c
  unfolding take
  path-read c _ _ _ (Spells.top {tops = tops} t) within = let all = tops-read limits bytes c tops t within in record { top = all.0; is_top = tt; read = all.1 }
  path-read g _ _ _ (Spells.inside path field annotations p k members {kinds = kinds} {c = c} {d = d} {e = e} {f = f} {full = full} s own ns tok ins) within =
      let before = path-read c path kinds false s within.0 in
      let top' : ℕ = top_of kinds before.top annotations p in
      let begun = step-token limits kinds before.top (a_value field annotations) e (begin k) p f (value-suits field annotations (begin k)) (mark-within limits (begin k) p f refl) tok
      ∙ not-refused p (nat_le limits.depth (length kinds)) DepthLimit (Ok (Gives (item_of top' field annotations p (value.begin k)) (state (k ∷ kinds) top' (member_of k) f)))
      (lt-leb limits.depth (length kinds) within.1.1.1.0) in
      let first = field-read limits kinds before.top (innermost kinds) field c d refl own within.1.0
      ∙ annotations-read limits kinds before.top field (in_sexp (innermost kinds)) d e annotations refl ns within.1.1.0
      ∙ reads-gives limits (state kinds before.top (a_value field annotations) e) (state (k ∷ kinds) top' (member_of k) f) (item_of top' field annotations p (value.begin k)) begun in
      let inner = members-read limits kinds top' k f g members full ins within.1.1.1.1 in
      let all = reads-then limits (start bytes) (state kinds before.top (at_member (innermost kinds)) c) (state (k ∷ kinds) top' (wants_after (Some k) full) g) (path_items path)
      (item_of top' field annotations p (value.begin k) ∷ member_items top' members) before.read (first ∙ ap (More (item_of top' field annotations p (value.begin k))) inner) in
      record {
        top = top';
        is_top = open-top path kinds false before.top field annotations p k members s before.is_top;
        read = subst (λ items. Reads limits (start bytes) items (state (k ∷ kinds) top' (wants_after (Some k) full) g))
            (sym (open-items path (first_place annotations p) top' field annotations p k members (fits path kinds false before.top field annotations p s before.is_top own))) all;
      }

pub reading-read_from : (limits : Rules) (bytes : List ℕ) → reading.reading limits bytes ≡ read_from limits (start bytes)
unfolding read_from reading.reading
reading-read_from limits bytes = refl

pub paths_within : PathsWithinAreRead
paths_within limits bytes q path is within =
    let all = path-read limits bytes is.after path is.kinds is.full is.spells within in
    (read_from limits (state is.kinds all.top (wants_after (innermost is.kinds) is.full) is.after), reading-read_from limits bytes ∙ all.read)

pub complete : Complete
complete limits bytes q path allows permitted is = paths_within limits bytes q path is (path-allowed limits bytes allows is.spells permitted)

ends-step : (limits : Rules) (top : ℕ) (c e : Cursor) → blanks c ≡ Ok e → e.rest ≡ [] → step limits (state [] top (a_value None []) c) ≡ Ends
unfolding step reading.part_at
ends-step limits top c e blank none =
    ap step_of (ap (λ o. o >>= (λ b. reading.part_after limits (state [] top (a_value None []) c) b b.rest)) blank ∙ ap (reading.part_after limits (state [] top (a_value None []) c) e) none)

pub streams_within : StreamsWithinAreRead
streams_within limits bytes tops is within =
    let all = tops-read limits bytes is.last tops is.spells within in
    reading-read_from limits bytes ∙ all.1 ∙ ap (items_then (top_items tops)) (read_from-ends limits (state [] all.0 (a_value None []) is.last) (ends-step limits all.0 is.last is.end is.blank is.nothing_left))

pub streams_are_read : StreamsAreRead
streams_are_read limits bytes tops allows permitted is = streams_within limits bytes tops is (tops-allowed limits bytes allows is.spells permitted)
