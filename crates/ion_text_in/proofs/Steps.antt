-- Each step of a reading leads from a path of the grammar to the path with the item that it gives.
use Rattle.std.proofs.Common.{◌≡◌, ℕ, Bool, true, false, not, List, [], ◌∷◌, ◌++◌, Option, Some, None, Result, Ok, Err, nat_lt, nat_le, length, sum_by, refl, sym, ap, subst, ◌∙◌, arith}
use Rattle.std.proofs.lemmas.Bool.{false≢true}
use Rattle.std.proofs.lemmas.Slice.Eq.{bytes_eq-Decides}
use Rattle.ion_meter.specs.declared.fault.Reason.{Reason}
use Rattle.ion_meter.specs.declared.fault.Reason.TheVariants as reasons
use Rattle.ion_meter.specs.declared.fault.Reason.TheVariants.{BadVersion, DepthLimit, AnnotationLimit}
use Rattle.ion_meter.specs.declared.profile.Rules.{Rules}
use Rattle.ion_value.specs.declared.ion_type.Kind.{Kind}
use Rattle.ion_value.specs.declared.ion_type.Kind.TheVariants as kind
use Rattle.ion_value.specs.Name.{is_version, version_word}
use Rattle.ion_value.specs.Value as value
use Rattle.ion_value.specs.Value.{Symbol, SymbolAt, Scalar, Value, PlacedItem}
use Rattle.ion_value.specs.Path.{Path, closed, opened, Nest, outermost, inner, path_items, open_in}
use Rattle.ion_value.specs.Reading.{Step, Gives, GoesOn}
use Rattle.ion_meter.specs.Sources.{Cursor, skip}
use Rattle.ion_value.specs.Parts.{Placed, part, refuse, ◌>>=◌, ◌>>◌}
use Rattle.ion_text_in.specs.Blanks.{blanks}
use Rattle.ion_text_in.specs.Token.{First, a_colon, two_colons, first_at, Token, plain, float, name, text, operator, begin, end, comma, colon, colons, token_of, next_token}
use Rattle.ion_text_in.specs.Reading as reading
use Rattle.ion_text_in.specs.Positions.{Wants, a_value, a_field, a_separator, State, innermost, in_sexp, has_commas, at, first_place}
use Rattle.ion_text_in.specs.Reading.{at_member, after_member, may_come, top_of, item_of, tells_version, is_marker, after_colons, step, step_of, take, part_at}
use Rattle.ion_text_in.specs.Grammar.{Tok, NoColons, IsVersionWord, bare, Annotations, Field, Txt, start_of}
use Rattle.ion_text_in.specs.Paths.{Spells, Begun, at_separator, at_field, in_item, IsTop, At, Follows}
use Rattle.ion_text_in.proofs.TokenCuts.{token-free}
use Rattle.ion_text_in.proofs.Tokens.{colons-stand}
use Rattle.ion_value.proofs.GrowingPaths.{Fits, put_in, mark_in, end_in, path_items-put_in, path_items-mark_in, path_items-open_in, path_items-end_in}
use Rattle.ion_text_in.proofs.Growing.{Spells-value, Spells-marker, Spells-comma, Spells-begin, Spells-end}

-- ---- tokens as the reading cuts them

-- a token of the kind that its first bytes tell stands after the blanks
pub tok-read : (limit : Option ℕ) (sexp : Bool) (c b d : Cursor) (t : Token) → blanks c ≡ Ok b → token_of limit (first_at sexp b.rest) b ≡ Ok (t, d) → Tok sexp c t b.place d
unfolding next_token
tok-read limit sexp c b d t blank token = let free = token-free limit (first_at sexp b.rest) b (t, d) token in rw (blank, free) refl

pub colon-tok : (c b : Cursor) → blanks c ≡ Ok b → first_at false b.rest ≡ a_colon → Tok false c colon b.place (skip 1 b)
unfolding next_token token_of
colon-tok c b blank first = rw (blank, first) refl

pub colons-tok : (sexp : Bool) (c b : Cursor) → blanks c ≡ Ok b → first_at sexp b.rest ≡ two_colons → Tok sexp c colons b.place (skip 2 b)
unfolding next_token token_of
colons-tok sexp c b blank first = rw (blank, first) refl

-- the two colons that a reading looks for
abbrev Colons : Bool → Cursor → Cursor → Type 0
Colons sexp c d = (q : ℕ) × Tok sexp c colons q d

colons-first : (sexp : Bool) (c b d : Cursor) (first : First) → blanks c ≡ Ok b → first_at sexp b.rest ≡ first → reading.colons_at first b ≡ Some d → Colons sexp c d
colons-first sexp c b d two_colons blank is found =
    let same : skip 2 b ≡ d = cc found in
    (b.place, subst (λ d. Tok sexp c colons b.place d) same (colons-tok sexp c b blank is))
colons-first sexp c b d first blank is found = absurd (cc found)

colons-blank : (sexp : Bool) (c d : Cursor) (o : Placed Cursor) → blanks c ≡ o → reading.colons_after sexp o ≡ Some d → Colons sexp c d
colons-blank sexp c d (Ok b) blank found = colons-first sexp c b d (first_at sexp b.rest) blank refl found
colons-blank sexp c d (Err fault) blank found = absurd (cc found)

pub colons-after : (sexp : Bool) (c d : Cursor) → after_colons sexp c ≡ Some d → Colons sexp c d
colons-after sexp c d found = colons-blank sexp c d (blanks c) refl found

-- the grammar's words for what the reading tests after and of a symbol
no-colons : (sexp : Bool) (c : Cursor) → after_colons sexp c ≡ None → NoColons sexp c
no-colons sexp c none p d tok = absurd (cc (sym none ∙ colons-stand sexp c d p tok))

pub colons-none : (sexp : Bool) (c : Cursor) → NoColons sexp c → after_colons sexp c ≡ None
colons-none sexp c none = from (after_colons sexp c) refl
  where
    from : (o : Option Cursor) → after_colons sexp c ≡ o → o ≡ None
    from None is = refl
    from (Some d) is = let found = colons-after sexp c d is in absurd (none found.0 d found.1)

no-version : (k : Option Kind) (annotations : List SymbolAt) (quoted : Bool) (symbol : Symbol) → tells_version k annotations quoted symbol ≡ false
    → IsVersionWord k annotations quoted symbol → ⊥
unfolding tells_version
no-version _ _ _ _ none (bare is) = false≢true (sym none ∙ is)

pub version-none : (k : Option Kind) (annotations : List SymbolAt) (quoted : Bool) (symbol : Symbol) → (IsVersionWord k annotations quoted symbol → ⊥)
    → tells_version k annotations quoted symbol ≡ false
unfolding tells_version
version-none (Some k) annotations quoted symbol none = refl
version-none None (a ∷ annotations) quoted symbol none = refl
version-none None [] true symbol none = refl
version-none None [] false (value.Id id) none = refl
version-none None [] false (value.Text word) none = from (is_version word) refl
  where
    from : (b : Bool) → is_version word ≡ b → b ≡ false
    from true is = absurd (none (bare is))
    from false is = refl

-- ---- what begins after a path

pub begun-member : (c : Cursor) (kinds : List Kind) → Begun c kinds false (at_member (innermost kinds)) c
begun-member c [] = in_item Field.at_top Annotations.nothing
begun-member c (kind.List ∷ kinds) = in_item Field.in_list Annotations.nothing
begun-member c (kind.Sexp ∷ kinds) = in_item Field.in_a_sexp Annotations.nothing
begun-member c (kind.Struct ∷ kinds) = at_field

begun-after : (c : Cursor) (kinds : List Kind) → Begun c kinds (has_commas (innermost kinds)) (after_member (innermost kinds)) c
begun-after c [] = in_item Field.at_top Annotations.nothing
begun-after c (kind.List ∷ kinds) = at_separator
begun-after c (kind.Sexp ∷ kinds) = in_item Field.in_a_sexp Annotations.nothing
begun-after c (kind.Struct ∷ kinds) = at_separator

-- ---- the places of top-level values

pub fits : {b c d : Cursor} (path : Path SymbolAt ℕ) (kinds : List Kind) (full : Bool) (top : ℕ) (field : Option SymbolAt) (annotations : List SymbolAt) (p : ℕ)
    → Spells b path kinds full c → IsTop path top → Field (innermost kinds) c field d → Fits path (first_place annotations p) (top_of kinds top annotations p) field
fits _ _ _ top field annotations p (Spells.top t) is Field.at_top = (refl, refl)
fits _ _ _ top field annotations p (Spells.inside (closed tops) g own q k members s around ns tok ins) is f = is
fits _ _ _ top field annotations p (Spells.inside (opened tops first nest) g own q k members s around ns tok ins) is f = is

put_in-top : {b c : Cursor} (path : Path SymbolAt ℕ) (kinds : List Kind) (full : Bool) (top : ℕ) (field : Option SymbolAt) (annotations : List SymbolAt) (p : ℕ) (v : Value SymbolAt ℕ)
    → Spells b path kinds full c → IsTop path top → IsTop (put_in path (first_place annotations p) field annotations p v) (top_of kinds top annotations p)
put_in-top _ _ _ top field annotations p v (Spells.top t) is = tt
put_in-top _ _ _ top field annotations p v (Spells.inside (closed tops) g own q k members s around ns tok ins) is = is
put_in-top _ _ _ top field annotations p v (Spells.inside (opened tops first nest) g own q k members s around ns tok ins) is = is

open_in-top : {b c : Cursor} (path : Path SymbolAt ℕ) (kinds : List Kind) (full : Bool) (top : ℕ) (field : Option SymbolAt) (annotations : List SymbolAt) (p : ℕ) (k : Kind)
    → Spells b path kinds full c → IsTop path top → IsTop (open_in path (first_place annotations p) field annotations p k value.nothing) (top_of kinds top annotations p)
open_in-top _ _ _ top field annotations p j (Spells.top t) is = refl
open_in-top _ _ _ top field annotations p j (Spells.inside (closed tops) g own q k members s around ns tok ins) is = is
open_in-top _ _ _ top field annotations p j (Spells.inside (opened tops first nest) g own q k members s around ns tok ins) is = is

nest_end-top : (tops : List (value.Top SymbolAt ℕ)) (first : ℕ) (nest : Nest SymbolAt ℕ) (q top : ℕ) → first ≡ top → IsTop (end_in (opened tops first nest) q) top
nest_end-top tops first (outermost annotations p k members) q top is = tt
nest_end-top tops first (inner around field annotations p k members) q top is = is

-- the path after a container's end, and its items
pub record EndsIn (path : Path SymbolAt ℕ) (top q : ℕ) : Type 0 where
  pub top_is : IsTop (end_in path q) top
  pub items : path_items (end_in path q) ≡ path_items path ++ item_of top None [] q value.end ∷ []

ends-nest : (tops : List (value.Top SymbolAt ℕ)) (first : ℕ) (nest : Nest SymbolAt ℕ) (top q : ℕ) → first ≡ top → EndsIn (opened tops first nest) top q
ends-nest tops first nest top q is = record { top_is = nest_end-top tops first nest q top is; items = subst (λ top. path_items (end_in (opened tops first nest) q) ≡ path_items (opened tops first nest) ++ item_of top None [] q value.end ∷ []) is (path_items-end_in tops first nest q) }

ends-in : {b c : Cursor} (path : Path SymbolAt ℕ) (kinds : List Kind) (full : Bool) (j : Kind) (js : List Kind) (top q : ℕ)
    → kinds ≡ j ∷ js → Spells b path kinds full c → IsTop path top → EndsIn path top q
ends-in _ _ _ j js top q are (Spells.top t) is = absurd (cc are)
ends-in _ _ _ j js top q are (Spells.inside (closed tops) g own p k members s around ns tok ins) is = ends-nest tops (first_place own p) (outermost own p k members) top q is
ends-in _ _ _ j js top q are (Spells.inside (opened tops first nest) g own p k members s around ns tok ins) is = ends-nest tops first (inner nest g own p k members) top q is

not_snoc : (annotations : List SymbolAt) (a : SymbolAt) → annotations ++ a ∷ [] ≡ [] → ⊥
not_snoc [] a e = cc e
not_snoc (b ∷ annotations) a e = cc e

pub annotations-none : {sexp : Bool} {c d : Cursor} {annotations : List SymbolAt} → Annotations sexp c annotations d → annotations ≡ [] → d ≡ c
annotations-none Annotations.nothing e = refl
annotations-none (Annotations.then {annotations = ns} {p = p} {symbol = x} before tok after) e = absurd (not_snoc ns (at x p) e)

pub field-none : {k : Option Kind} {c d : Cursor} {field : Option SymbolAt} → Field k c field d → field ≡ None → d ≡ c
field-none Field.at_top e = refl
field-none Field.in_list e = refl
field-none Field.in_a_sexp e = refl
field-none (Field.named tok after) e = absurd (cc e)
field-none (Field.in_quotes tok after) e = absurd (cc e)

-- ---- what a token makes of what must come

-- what a part comes to follows the path
abbrev Goes : List ℕ → Path SymbolAt ℕ → State → Placed (Step State) → Type 0
Goes bytes path s o = Follows bytes path s (step_of o)

refused-goes : (bytes : List ℕ) (path : Path SymbolAt ℕ) (s : State) (p : ℕ) (b : Bool) (reason : Reason) (o : Result (Step State) Reason)
    → Goes bytes path s (part p o) → Goes bytes path s (part p (refuse b reason >> o))
refused-goes bytes path s p true reason o goes = tt
refused-goes bytes path s p false reason o goes = goes

abbrev state : List Kind → ℕ → Wants → Cursor → State
state kinds top wants c = record { kinds = kinds; top = top; wants = wants; cursor = c }

module _ (limits : Rules) (bytes : List ℕ) (path : Path SymbolAt ℕ) (top : ℕ) (is_top : IsTop path top) (p : ℕ) (d : Cursor) where
  -- a bracket that closes
  end-goes : (j : Kind) (js : List Kind) (wants : Wants) (full : Bool) (after : Cursor) → Spells (start_of bytes) path (j ∷ js) full after
      → Tok (in_sexp (Some j)) after (end j) p d → (s : State)
      → Follows bytes path s (Gives (item_of top None [] p value.end) (state js top (after_member (innermost js)) d))
  end-goes j js wants full after spells tok s =
      let e = ends-in path (j ∷ js) full j js top p refl spells is_top in
      (end_in path p, record { full = has_commas (innermost js); after = d; spells = Spells-end path j js (j ∷ js) full p refl spells tok; begun = begun-after d js; top = e.top_is }, e.items)

  closed-goes : (kinds : List Kind) (k : Kind) (wants : Wants) (full : Bool) (after : Cursor) → Spells (start_of bytes) path kinds full after
      → Tok (in_sexp (innermost kinds)) after (end k) p d → (s : State) → Goes bytes path s (part p (reading.end_step kinds top k p d))
  closed-goes (kind.List ∷ js) kind.List wants full after spells tok s = end-goes kind.List js wants full after spells tok s
  closed-goes (kind.Sexp ∷ js) kind.Sexp wants full after spells tok s = end-goes kind.Sexp js wants full after spells tok s
  closed-goes (kind.Struct ∷ js) kind.Struct wants full after spells tok s = end-goes kind.Struct js wants full after spells tok s
  closed-goes kinds k wants full after spells tok s = tt

  -- no bracket closes after a field or an annotation
  bare-goes : (kinds : List Kind) (k : Kind) (field : Option SymbolAt) (annotations : List SymbolAt) (after b c : Cursor) → Spells (start_of bytes) path kinds false after
      → Field (innermost kinds) after field b → Annotations (in_sexp (innermost kinds)) b annotations c
      → Tok (in_sexp (innermost kinds)) c (end k) p d → (s : State) → Goes bytes path s (part p (reading.bare_end_step field annotations kinds top k p d))
  bare-goes kinds k (Some a) annotations after b c spells f ns tok s = tt
  bare-goes kinds k None (a ∷ annotations) after b c spells f ns tok s = tt
  bare-goes kinds k None [] after b c spells f ns tok s =
      let same : c ≡ after = annotations-none ns refl ∙ field-none f refl in
      let tok' : Tok (in_sexp (innermost kinds)) after (end k) p d = subst (λ c. Tok (in_sexp (innermost kinds)) c (end k) p d) same tok in
      closed-goes kinds k (a_value None []) false after spells tok' s

  -- a whole value
  value-goes : (kinds : List Kind) (field : Option SymbolAt) (annotations : List SymbolAt) (v : Scalar SymbolAt) (after b : Cursor) → Spells (start_of bytes) path kinds false after
      → Field (innermost kinds) after field b → Txt (innermost kinds) b annotations p (value.scalar v) d → (s : State)
      → Follows bytes path s (reading.scalar_step kinds top field annotations p v d)
  value-goes kinds field annotations v after b spells f txt s = (
    put_in path (first_place annotations p) field annotations p (value.scalar v),
    record {
      full = has_commas (innermost kinds);
      after = d;
      spells = Spells-value path kinds false field annotations p (value.scalar v) refl spells f txt;
      begun = begun-after d kinds;
      top = put_in-top path kinds false top field annotations p (value.scalar v) spells is_top;
    },
    path_items-put_in path (first_place annotations p) (top_of kinds top annotations p) field annotations p (value.scalar v) (fits path kinds false top field annotations p spells is_top f),
  )

  -- a bracket that opens
  begin-goes : (kinds : List Kind) (k : Kind) (field : Option SymbolAt) (annotations : List SymbolAt) (after b c : Cursor) → Spells (start_of bytes) path kinds false after
      → Field (innermost kinds) after field b → Annotations (in_sexp (innermost kinds)) b annotations c
      → Tok (in_sexp (innermost kinds)) c (begin k) p d → (s : State)
      → Goes bytes path s (part p (reading.begin_step limits kinds top field annotations k p d))
  begin-goes kinds k field annotations after b c spells f ns tok s =
      let next : State = state (k ∷ kinds) (top_of kinds top annotations p) (reading.member_of k) d in
      let item : PlacedItem = item_of (top_of kinds top annotations p) field annotations p (value.begin k) in
      let goes : Follows bytes path s (Gives item next) = (
        open_in path (first_place annotations p) field annotations p k value.nothing,
        record {
          full = false;
          after = d;
          spells = Spells-begin path kinds false field annotations p k refl spells f ns tok;
          begun = begun-member d (k ∷ kinds);
          top = open_in-top path kinds false top field annotations p k spells is_top;
        },
        path_items-open_in path (first_place annotations p) (top_of kinds top annotations p) field annotations p k (fits path kinds false top field annotations p spells is_top f),
      ) in
      refused-goes bytes path s p (nat_le limits.depth (length kinds)) DepthLimit (Ok (Gives item next)) goes

-- ---- version markers

-- the word of a version stands alone at top level
record IsVersion (k : Option Kind) (annotations : List SymbolAt) (quoted : Bool) (symbol : Symbol) : Type 0 where
  at_top : k ≡ None
  bare : annotations ≡ []
  unquoted : quoted ≡ false

told-version : (k : Option Kind) (annotations : List SymbolAt) (quoted : Bool) (symbol : Symbol) → tells_version k annotations quoted symbol ≡ true → IsVersion k annotations quoted symbol
unfolding tells_version
told-version k annotations quoted symbol e = grind arith

marker-word : (symbol : Symbol) → is_marker symbol ≡ true → symbol ≡ value.Text version_word
marker-word (value.Text word) e = ap value.Text (sym ((bytes_eq-Decides version_word word).0 e))
marker-word (value.Id id) e = absurd (false≢true e)

module _ (limits : Rules) (bytes : List ℕ) (path : Path SymbolAt ℕ) (top : ℕ) (is_top : IsTop path top) (p : ℕ) (d : Cursor) where
  marker-goes : (symbol : Symbol) (after : Cursor) → Spells (start_of bytes) path [] false after → Tok false after (name false symbol) p d
      → after_colons false d ≡ None → (m : Bool) → is_marker symbol ≡ m → (s : State)
      → Goes bytes path s (part p (refuse (not m) BadVersion >> Ok (reading.item_step [] top None [] p value.marker [] (after_member None) d)))
  marker-goes symbol after spells tok alone false is s = tt
  marker-goes symbol after spells tok alone true is s =
      let tok' : Tok false after (name false (value.Text version_word)) p d = subst (λ symbol. Tok false after (name false symbol) p d) (marker-word symbol is) tok in
      mark-goes path spells tok' alone s
    where
      mark-goes : (path : Path SymbolAt ℕ) → Spells (start_of bytes) path [] false after → Tok false after (name false (value.Text version_word)) p d
          → after_colons false d ≡ None → (s : State) → Follows bytes path s (reading.item_step [] top None [] p value.marker [] (after_member None) d)
      mark-goes _ (Spells.top {tops} t) tok alone s = (
        mark_in (closed tops) p,
        record {
          full = false;
          after = d;
          spells = Spells-marker (closed tops) [] false None p refl (Spells.top t) Field.at_top tok (no-colons false d alone);
          begun = begun-member d [];
          top = tt;
        },
        path_items-mark_in tops p,
      )

  version-goes : (kinds : List Kind) (field : Option SymbolAt) (annotations : List SymbolAt) (quoted : Bool) (symbol : Symbol) (after b c : Cursor)
      → Spells (start_of bytes) path kinds false after → Field (innermost kinds) after field b → Annotations (in_sexp (innermost kinds)) b annotations c
      → Tok (in_sexp (innermost kinds)) c (name quoted symbol) p d → after_colons (in_sexp (innermost kinds)) d ≡ None → IsVersion (innermost kinds) annotations quoted symbol
      → (s : State) → Goes bytes path s (part p (reading.version_step kinds top field annotations (at symbol p) d))
  version-goes (k ∷ kinds) field annotations quoted symbol after b c spells f ns tok alone told s = absurd (cc told.at_top)
  version-goes [] field (a ∷ annotations) quoted symbol after b c spells f ns tok alone told s = absurd (cc told.bare)
  version-goes [] field [] true symbol after b c spells f ns tok alone told s = absurd (cc told.unquoted)
  version-goes [] _ [] false symbol after _ c spells Field.at_top ns tok alone told s =
      let same : c ≡ after = annotations-none ns refl in
      marker-goes symbol after spells (subst (λ c. Tok false c (name false symbol) p d) same tok) alone (is_marker symbol) refl s

  -- ---- symbols

  told-goes : (kinds : List Kind) (field : Option SymbolAt) (annotations : List SymbolAt) (quoted : Bool) (symbol : Symbol) (after b c : Cursor)
      → Spells (start_of bytes) path kinds false after → Field (innermost kinds) after field b → Annotations (in_sexp (innermost kinds)) b annotations c
      → Tok (in_sexp (innermost kinds)) c (name quoted symbol) p d → after_colons (in_sexp (innermost kinds)) d ≡ None
      → (told : Bool) → tells_version (innermost kinds) annotations quoted symbol ≡ told
      → (s : State) → Goes bytes path s (part p (reading.value_or_version kinds top field annotations (at symbol p) d told))
  told-goes kinds field annotations quoted symbol after b c spells f ns tok alone true is s =
      version-goes kinds field annotations quoted symbol after b c spells f ns tok alone (told-version (innermost kinds) annotations quoted symbol is) s
  told-goes kinds field annotations quoted symbol after b c spells f ns tok alone false is s =
      value-goes limits bytes path top is_top p d kinds field annotations (value.symbol (at symbol p)) after b spells f (Txt.of_symbol ns tok (no-colons (in_sexp (innermost kinds)) d alone) (no-version (innermost kinds) annotations quoted symbol is)) s

  symbol-goes : (kinds : List Kind) (field : Option SymbolAt) (annotations : List SymbolAt) (quoted : Bool) (symbol : Symbol) (after b c : Cursor)
      → Spells (start_of bytes) path kinds false after → Field (innermost kinds) after field b → Annotations (in_sexp (innermost kinds)) b annotations c
      → Tok (in_sexp (innermost kinds)) c (name quoted symbol) p d
      → (colons : Option Cursor) → after_colons (in_sexp (innermost kinds)) d ≡ colons
      → (s : State) → Goes bytes path s (part p (reading.symbol_step limits kinds top field annotations quoted (at symbol p) d colons))
  symbol-goes kinds field annotations quoted symbol after b c spells f ns tok None alone s =
      told-goes kinds field annotations quoted symbol after b c spells f ns tok alone (tells_version (innermost kinds) annotations quoted symbol) refl s
  symbol-goes kinds field annotations quoted symbol after b c spells f ns tok (Some e) found s =
      let more = colons-after (in_sexp (innermost kinds)) d e found in
      let next : State = state kinds top (a_value field (annotations ++ at symbol p ∷ [])) e in
      let goes : Follows bytes path s (GoesOn next) = record { full = false; after = after; spells = spells; begun = in_item f (Annotations.then ns tok more.1); top = is_top } in
      refused-goes bytes path s p (nat_lt limits.scalar (sum_by reading.cost (annotations ++ at symbol p ∷ []))) AnnotationLimit (Ok (GoesOn next)) goes

  -- ---- fields

  colon-goes : (kinds : List Kind) (a : SymbolAt) (after b e : Cursor) → Spells (start_of bytes) path kinds false after
      → ((q : ℕ) (f : Cursor) → Tok false b colon q f → Field (innermost kinds) after (Some a) f) → blanks b ≡ Ok e
      → (first : First) → first_at false e.rest ≡ first → (s : State) → Goes bytes path s (reading.colon_of kinds top a e first)
  colon-goes kinds a after b e spells field blank a_colon is s = record {
    full = false;
    after = after;
    spells = spells;
    begun = in_item (field e.place (skip 1 e) (colon-tok b e blank is)) Annotations.nothing;
    top = is_top;
  }
  colon-goes kinds a after b e spells field blank first is s = tt

  rest-goes : (kinds : List Kind) (a : SymbolAt) (after b e : Cursor) → Spells (start_of bytes) path kinds false after
      → ((q : ℕ) (f : Cursor) → Tok false b colon q f → Field (innermost kinds) after (Some a) f) → blanks b ≡ Ok e
      → (rest : List ℕ) → e.rest ≡ rest → (s : State) → Goes bytes path s (reading.colon_from kinds top a e rest)
  rest-goes kinds a after b e spells field blank [] is s = tt
  rest-goes kinds a after b e spells field blank (x ∷ rest) is s = colon-goes kinds a after b e spells field blank (first_at false (x ∷ rest)) (ap (first_at false) is) s

  blank-goes : (kinds : List Kind) (a : SymbolAt) (after b : Cursor) → Spells (start_of bytes) path kinds false after
      → ((q : ℕ) (f : Cursor) → Tok false b colon q f → Field (innermost kinds) after (Some a) f)
      → (o : Placed Cursor) → blanks b ≡ o → (s : State) → Goes bytes path s (o >>= (λ e. reading.colon_from kinds top a e e.rest))
  blank-goes kinds a after b spells field (Err fault) blank s = tt
  blank-goes kinds a after b spells field (Ok e) blank s = rest-goes kinds a after b e spells field blank e.rest refl s

  named-goes : (kinds : List Kind) (a : SymbolAt) (after b : Cursor) → Spells (start_of bytes) path kinds false after
      → ((q : ℕ) (f : Cursor) → Tok false b colon q f → Field (innermost kinds) after (Some a) f)
      → (s : State) → Goes bytes path s (reading.field_step kinds top a b)
  named-goes kinds a after b spells field s = blank-goes kinds a after b spells field (blanks b) refl s

  -- ---- all tokens

  take-goes : (kinds : List Kind) (full : Bool) (after c : Cursor) (wants : Wants) (t : Token) → Spells (start_of bytes) path kinds full after
      → Begun after kinds full wants c → Tok (in_sexp (innermost kinds)) c t p d
      → (s : State) → Goes bytes path s (take limits kinds top wants p t d)
  unfolding take
  take-goes kinds _ after _ _ (end k) spells at_separator tok s = closed-goes limits bytes path top is_top p d kinds k a_separator true after spells tok s
  take-goes kinds _ after _ _ comma spells at_separator tok s = record {
    full = false;
    after = d;
    spells = Spells-comma path kinds true p refl spells tok;
    begun = begun-member d kinds;
    top = is_top;
  }
  take-goes kinds _ after _ _ t spells at_separator tok s = tt
  take-goes _ _ after _ _ (end k) spells (at_field {kinds}) tok s = closed-goes limits bytes path top is_top p d (kind.Struct ∷ kinds) k a_field false after spells tok s
  take-goes _ _ after _ _ (name quoted symbol) spells (at_field {kinds}) tok s = named-goes (kind.Struct ∷ kinds) (at symbol p) after d spells (λ q f next. Field.named tok next) s
  take-goes _ _ after _ _ (text t) spells (at_field {kinds}) tok s = named-goes (kind.Struct ∷ kinds) (at (value.Text t) p) after d spells (λ q f next. Field.in_quotes tok next) s
  take-goes _ _ after _ _ t spells at_field tok s = tt
  take-goes kinds _ after c _ (end k) spells (in_item {d = b} {field = field} {annotations = annotations} f ns) tok s = bare-goes limits bytes path top is_top p d kinds k field annotations after b c spells f ns tok s
  take-goes kinds _ after c _ (plain v) spells (in_item {d = b} {field = field} {annotations = annotations} f ns) tok s = value-goes limits bytes path top is_top p d kinds field annotations v after b spells f (Txt.of_plain ns tok) s
  take-goes kinds _ after c _ (float None) spells (in_item {d = b} {field = field} {annotations = annotations} f ns) tok s =
      refused-goes bytes path s p (not limits.floats) reasons.Float (Err reasons.Range) tt
  take-goes kinds _ after c _ (float (Some x)) spells (in_item {d = b} {field = field} {annotations = annotations} f ns) tok s =
      refused-goes bytes path s p (not limits.floats) reasons.Float (Ok (reading.scalar_step kinds top field annotations p (value.float x) d))
      (value-goes limits bytes path top is_top p d kinds field annotations (value.float x) after b spells f (Txt.of_float ns tok) s)
  take-goes kinds _ after c _ (text t) spells (in_item {d = b} {field = field} {annotations = annotations} f ns) tok s = value-goes limits bytes path top is_top p d kinds field annotations (value.string t) after b spells f (Txt.of_text ns tok) s
  take-goes kinds _ after c _ (operator t) spells (in_item {d = b} {field = field} {annotations = annotations} f ns) tok s =
      value-goes limits bytes path top is_top p d kinds field annotations (value.symbol (at (value.Text t) p)) after b spells f (Txt.of_operator ns tok) s
  take-goes kinds _ after c _ (name quoted symbol) spells (in_item {d = b} {field = field} {annotations = annotations} f ns) tok s =
      symbol-goes kinds field annotations quoted symbol after b c spells f ns tok (after_colons (in_sexp (innermost kinds)) d) refl s
  take-goes kinds _ after c _ (begin k) spells (in_item {d = b} {field = field} {annotations = annotations} f ns) tok s = begin-goes limits bytes path top is_top p d kinds k field annotations after b c spells f ns tok s
  take-goes kinds _ after c _ t spells (in_item f ns) tok s = tt

-- ---- a step

-- a token of the kind that its first bytes tell, or a fault
cut-goes : (limits : Rules) (bytes : List ℕ) (path : Path SymbolAt ℕ) (s : State) (b : Cursor) → At bytes path s → blanks s.cursor ≡ Ok b
    → (o : Result (Token × Cursor) Reason) → token_of (Some limits.scalar) (first_at (in_sexp (innermost s.kinds)) b.rest) b ≡ o
    → Goes bytes path s (part b.place o >>= (λ t. take limits s.kinds s.top s.wants b.place t.0 t.1))
cut-goes limits bytes path s b stands blank (Err reason) token = tt
cut-goes limits bytes path s b stands blank (Ok t) token =
    take-goes limits bytes path s.top stands.top b.place t.1 s.kinds stands.full stands.after s.cursor s.wants t.0 stands.spells stands.begun
    (tok-read (Some limits.scalar) (in_sexp (innermost s.kinds)) s.cursor b t.1 t.0 blank token) s

coming-goes : (limits : Rules) (bytes : List ℕ) (path : Path SymbolAt ℕ) (s : State) (b : Cursor) → At bytes path s → blanks s.cursor ≡ Ok b
    → (first : First) → first_at (in_sexp (innermost s.kinds)) b.rest ≡ first → (may : Bool) → Goes bytes path s (reading.next_part limits s b first may)
coming-goes limits bytes path s b stands blank first is false = tt
coming-goes limits bytes path s b stands blank first is true =
    cut-goes limits bytes path s b stands blank (token_of (Some limits.scalar) first b) (ap (λ first. token_of (Some limits.scalar) first b) is)

ended-goes : (limits : Rules) (bytes : List ℕ) (path : Path SymbolAt ℕ) (s : State) (b : Cursor) → blanks s.cursor ≡ Ok b → b.rest ≡ []
    → (kinds : List Kind) (wants : Wants) → s.kinds ≡ kinds → s.wants ≡ wants → Goes bytes path s (reading.final_step kinds wants b.place)
ended-goes limits bytes path s b blank none [] (a_value None []) kinds_are wants_are = (kinds_are, wants_are, b, blank, none)
ended-goes limits bytes path s b blank none kinds wants kinds_are wants_are = tt

after-goes : (limits : Rules) (bytes : List ℕ) (path : Path SymbolAt ℕ) (s : State) (b : Cursor) → At bytes path s → blanks s.cursor ≡ Ok b
    → (rest : List ℕ) → b.rest ≡ rest → Goes bytes path s (reading.part_after limits s b rest)
after-goes limits bytes path s b stands blank [] is = ended-goes limits bytes path s b blank is s.kinds s.wants refl refl
after-goes limits bytes path s b stands blank (x ∷ rest) is =
    coming-goes limits bytes path s b stands blank (first_at (in_sexp (innermost s.kinds)) (x ∷ rest)) (ap (first_at (in_sexp (innermost s.kinds))) is)
    (may_come s.wants (first_at (in_sexp (innermost s.kinds)) (x ∷ rest)))

part-goes : (limits : Rules) (bytes : List ℕ) (path : Path SymbolAt ℕ) (s : State) → At bytes path s → (o : Placed Cursor) → blanks s.cursor ≡ o
    → Goes bytes path s (o >>= (λ c. reading.part_after limits s c c.rest))
part-goes limits bytes path s stands (Err fault) blank = tt
part-goes limits bytes path s stands (Ok b) blank = after-goes limits bytes path s b stands blank b.rest refl

pub step-follows : (limits : Rules) (bytes : List ℕ) (path : Path SymbolAt ℕ) (s : State) → At bytes path s → Follows bytes path s (step limits s)
unfolding step part_at
step-follows limits bytes path s stands = part-goes limits bytes path s stands (blanks s.cursor) refl
