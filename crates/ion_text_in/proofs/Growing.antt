-- A spelled path goes on by a whole value, a version marker, a comma, a container's beginning or its end, and so do its items.
use Rattle.std.proofs.Common.{◌≡◌, ℕ, Bool, true, false, List, [], ◌∷◌, ◌++◌, Option, Some, None, refl, sym, subst}
use Rattle.ion_value.specs.declared.ion_type.Kind.{Kind}
use Rattle.ion_value.specs.Value as value
use Rattle.ion_value.specs.Value.{SymbolAt, Value, container, Top, version, tree}
use Rattle.ion_value.specs.Path.{Path, open_in}
use Rattle.ion_value.specs.Name.{version_word}
use Rattle.ion_meter.specs.Sources.{Cursor}
use Rattle.ion_text_in.specs.Token.{name, begin, end, comma}
use Rattle.ion_text_in.specs.Positions.{innermost, in_sexp, has_commas, first_place}
use Rattle.ion_text_in.specs.Grammar.{Tok, NoColons, Annotations, Field, Txt, Inside, Tops}
use Rattle.ion_text_in.specs.Paths.{Spells}
use Rattle.ion_value.proofs.GrowingPaths.{put_in, mark_in, end_in, put_in-open_in, end_in-open_in}

-- ---- spelled paths

top_value : (b c d e : Cursor) (tops : List (Top SymbolAt ℕ)) (field : Option SymbolAt) (annotations : List SymbolAt) (p : ℕ) (v : Value SymbolAt ℕ)
    → Tops b tops c → Field None c field d → Txt None d annotations p v e → Tops b (tops ++ tree (first_place annotations p) annotations p v ∷ []) e
top_value b c _ e tops _ annotations p v t Field.at_top txt = Tops.with_value t txt

pub Spells-value : {b c d e : Cursor} (path : Path SymbolAt ℕ) (kinds : List Kind) (full : Bool) (field : Option SymbolAt) (annotations : List SymbolAt) (p : ℕ) (v : Value SymbolAt ℕ)
    → full ≡ false → Spells b path kinds full c → Field (innermost kinds) c field d → Txt (innermost kinds) d annotations p v e
    → Spells b (put_in path (first_place annotations p) field annotations p v) kinds (has_commas (innermost kinds)) e
Spells-value {b} {c} {d} {e} _ _ _ field annotations p v free (Spells.top {tops} t) f txt = Spells.top (top_value b c d e tops field annotations p v t f txt)
Spells-value {b} {c} {d} {e} _ _ _ field annotations p v free (Spells.inside path g own q k members {kinds} {f = h} {full = full} s around ns tok ins) f txt =
    let ins' = subst (λ full. Inside k h members full c) free ins in
    subst (λ path. Spells b path (k ∷ kinds) (has_commas (Some k)) e)
    (sym (put_in-open_in path (first_place own q) g own q k members (first_place annotations p) field annotations p v))
    (Spells.inside path g own q k (value.member members field annotations p v) s around ns tok (Inside.with_value ins' f txt))

pub Spells-marker : {b c d e : Cursor} (path : Path SymbolAt ℕ) (kinds : List Kind) (full : Bool) (field : Option SymbolAt) (p : ℕ)
    → kinds ≡ [] → Spells b path kinds full c → Field None c field d → Tok false d (name false (value.Text version_word)) p e → NoColons false e
    → Spells b (mark_in path p) kinds false e
Spells-marker _ _ _ field p none (Spells.top t) Field.at_top tok alone = Spells.top (Tops.marker t tok alone)
Spells-marker _ _ _ field p none (Spells.inside path g own q k members s around ns tok' ins) f tok alone = absurd (cc none)

pub Spells-comma : {b c d : Cursor} (path : Path SymbolAt ℕ) (kinds : List Kind) (full : Bool) (p : ℕ) → full ≡ true → Spells b path kinds full c
    → Tok (in_sexp (innermost kinds)) c comma p d → Spells b path kinds false d
Spells-comma _ _ _ p is_full (Spells.top t) tok = absurd (cc is_full)
Spells-comma {b} {c} _ _ _ p is_full (Spells.inside path g own q k members {f = h} s around ns tok' ins) tok =
    Spells.inside path g own q k members s around ns tok' (Inside.with_comma (subst (λ full. Inside k h members full c) is_full ins) tok)

-- a container that has no members yet
pub Spells-begin : {b c d e f : Cursor} (path : Path SymbolAt ℕ) (kinds : List Kind) (full : Bool) (field : Option SymbolAt) (annotations : List SymbolAt) (p : ℕ) (k : Kind)
    → full ≡ false → Spells b path kinds full c → Field (innermost kinds) c field d → Annotations (in_sexp (innermost kinds)) d annotations e
    → Tok (in_sexp (innermost kinds)) e (begin k) p f → Spells b (open_in path (first_place annotations p) field annotations p k value.nothing) (k ∷ kinds) false f
Spells-begin {b} {c} path kinds full field annotations p k free s f ns tok =
    Spells.inside path field annotations p k value.nothing (subst (λ full. Spells b path kinds full c) free s) f ns tok Inside.nothing

-- the end of the innermost open container
pub Spells-end : {b c d : Cursor} (path : Path SymbolAt ℕ) (j : Kind) (js kinds : List Kind) (full : Bool) (q : ℕ) → kinds ≡ j ∷ js → Spells b path kinds full c
    → Tok (in_sexp (Some j)) c (end j) q d → Spells b (end_in path q) js (has_commas (innermost js)) d
Spells-end _ j js _ _ q are (Spells.top t) tok = absurd (cc are)
Spells-end {b} {c} {d} _ j js _ _ q are (Spells.inside path g own p k members {kinds} s around ns tok' ins) tok =
    let same : j ≡ k = sym (cc are) in
    let rest : js ≡ kinds = sym (cc are) in
    let tok'' : Tok (in_sexp (Some k)) c (end k) q d = subst (λ k. Tok (in_sexp (Some k)) c (end k) q d) same tok in
    subst (λ kinds. Spells b (end_in (open_in path (first_place own p) g own p k members) q) kinds (has_commas (innermost kinds)) d) (sym rest)
    (subst (λ path. Spells b path kinds (has_commas (innermost kinds)) d) (sym (end_in-open_in path (first_place own p) g own p k members q))
    (Spells-value path kinds false g own p (container k members q) refl s around (Txt.of_members ns tok' ins tok'')))
