-- What an item more leads to: the tables so far, and how many containers are open.
use Rattle.std.proofs.Common.{◌≡◌, ℕ, zero, suc, ◌+◌, ◌-◌, ◌≤◌, Bool, true, false, ◌&&◌, if◌then◌else◌, List, [], ◌∷◌, ◌++◌, length, length-drop, Some, None, Result, Ok, Err, refl, ap, sym, subst, ◌∙◌, arith}
use Rattle.ion_meter.specs.declared.fault.Reason.{Reason}
use Rattle.ion_meter.specs.declared.fault.Reason.TheVariants.{CatalogEntry}
use Rattle.ion_value.specs.declared.ion_type.Kind.{Kind}
use Rattle.ion_value.specs.declared.ion_type.Kind.TheVariants as kind
use Rattle.ion_value.specs.Value as value
use Rattle.ion_value.specs.Value.{SymbolAt, UserSymbol, Head, Item, PlacedItem, map_head, user_item, user_items, user_symbol_at}
use Rattle.ion_value.specs.Standing.{open_after, open_after_all, HasPlace, Continues}
use Rattle.ion_value.proofs.Outcomes.{open_after_all-append, prefix-self}
use Rattle.std.proofs.lemmas.List.{append-nil}
use Rattle.ion_meter.specs.Windows.{Outgoing, Puts}
use Rattle.ion_symbols.specs.declared.known_text.Word.{Word}
use Rattle.ion_symbols.specs.declared.known_text.Word.TheVariants as word
use Rattle.ion_symbols.specs.declared.catalog_builder.Stage.{Stage}
use Rattle.ion_symbols.specs.declared.catalog_builder.Stage.TheVariants as stage
use Rattle.ion_symbols.specs.declared.catalog_builder.CatalogBuilder.{CatalogBuilder}
use Rattle.ion_symbols.specs.Declaration.{FieldValue, begins, ends, other, string, int, names, is_end, string_in}
use Rattle.ion_symbols.specs.CatalogItems.{EntryView, entry_view, head_seen, Draft, Drafted, Loading, Loaded, at, then_load, and_load, passed, listed, name_met, version_met, symbols_met, table_ended, within, with_text, field_step, stage_step, step_at, load_step, load_from, loaded, why_not, is_struct, catalog_refusal}
use Rattle.ion_symbols.specs.Building.{stage_level, level_of, loading_of, HasRead, StepAs}
use Rattle.std.specs.Prelude.{OnOk}
use Rattle.ion_meter.specs.declared.fault.Fault.{Fault}
use Rattle.ion_symbols.proofs.Turns.{depth_after}

-- ---- how many containers are open

abbrev LevelAs : ℕ → FieldValue → Loaded → Type 0
LevelAs n what (Ok s) = level_of s ≡ depth_after n what
LevelAs n what (Err why) = Unit {0}

then_load-level : (n : ℕ) (what : FieldValue) (d : Drafted) (later : Draft → Loaded) → ((e : Draft) → LevelAs n what (later e)) → LevelAs n what (then_load d later)
then_load-level n what (Ok e) later says = says e
then_load-level n what (Err why) later says = tt

-- what means nothing, but for an end where nothing is open in it
passed-level : (what : FieldValue) (a : Stage) (d : Draft) → is_end what ≡ false → LevelAs (stage_level a) what (Ok (passed what (at a d)))
passed-level (begins k) a d e = omega arith
passed-level ends a d e = cc
passed-level other a d e = omega arith
passed-level (string t) a d e = omega arith
passed-level (int negative n) a d e = omega arith
passed-level (names w) a d e = omega arith

inside-level : (what : FieldValue) (a : Stage) (n : ℕ) (d : Draft)
    → LevelAs (stage_level a + suc n) what (Ok (passed what (record { stage = a; inside = suc n; draft = d })))
inside-level (begins k) a n d = omega arith
inside-level ends a n d = omega arith
inside-level other a n d = refl
inside-level (string t) a n d = refl
inside-level (int negative m) a n d = refl
inside-level (names w) a n d = refl

listed-level : (what : FieldValue) (d : Draft) → is_end what ≡ false → LevelAs 1 what (Ok (listed what d))
listed-level (begins kind.List) d e = refl
listed-level (begins kind.Sexp) d e = refl
listed-level (begins kind.Struct) d e = refl
listed-level ends d e = cc
listed-level other d e = refl
listed-level (string t) d e = refl
listed-level (int negative n) d e = refl
listed-level (names w) d e = refl

name-level : (limit place top : ℕ) (what : FieldValue) (d : Draft) → LevelAs 1 what (then_load (name_met limit place top what d) (λ e. Ok (at stage.Fields e)))
name-level limit place top (begins k) d = tt
name-level limit place top ends d = tt
name-level limit place top other d = tt
name-level limit place top (string t) d = then_load-level 1 (string t) (name_met limit place top (string t) d) (λ e. Ok (at stage.Fields e)) (λ e. refl)
name-level limit place top (int negative n) d = tt
name-level limit place top (names w) d = tt

field-level : (limit : ℕ) (t : EntryView) (d : Draft) (w : Word) → is_end t.what ≡ false → LevelAs 1 t.what (field_step limit t d w)
field-level limit t d word.Name e = name-level limit t.place t.top t.what d
field-level limit t d word.Version e =
    then_load-level 1 t.what (version_met t.top t.what d) (λ f. Ok (passed t.what (at stage.Fields f))) (λ f. passed-level t.what stage.Fields f e)
field-level limit t d word.Symbols e = then_load-level 1 t.what (symbols_met t.top d) (λ f. Ok (listed t.what f)) (λ f. listed-level t.what f e)
field-level limit t d word.Imports e = tt
field-level limit t d word.MaxId e = passed-level t.what stage.Fields d e
field-level limit t d word.Declaration e = passed-level t.what stage.Fields d e
field-level limit t d word.Other e = passed-level t.what stage.Fields d e

-- an end, or another item
end-level : (what : FieldValue) (n : ℕ) (s : Loading) → is_end what ≡ true → level_of s ≡ n - 1 → LevelAs n what (Ok s)
end-level (begins k) n s e h = cc
end-level ends n s e h = h
end-level other n s e h = cc
end-level (string t) n s e h = cc
end-level (int negative m) n s e h = cc
end-level (names w) n s e h = cc

either-level : (n : ℕ) (what : FieldValue) (one another : Loaded) (b : Bool) → is_end what ≡ b → (is_end what ≡ true → LevelAs n what one)
    → (is_end what ≡ false → LevelAs n what another) → LevelAs n what (if b then one else another)
either-level n what one another true e f g = f e
either-level n what one another false e f g = g e

entry-level : (b : Bool) (what : FieldValue) (top : ℕ) (d : Draft) → LevelAs 0 what (if b && is_struct what then Ok (at stage.Fields d) else Err (CatalogEntry, top))
entry-level true (begins kind.List) top d = tt
entry-level true (begins kind.Sexp) top d = tt
entry-level true (begins kind.Struct) top d = refl
entry-level true ends top d = tt
entry-level true other top d = tt
entry-level true (string t) top d = tt
entry-level true (int negative n) top d = tt
entry-level true (names w) top d = tt
entry-level false what top d = tt

stage-level : (limit : ℕ) (t : EntryView) (d : Draft) (a : Stage) → LevelAs (stage_level a) t.what (stage_step limit t d a)
stage-level limit t d stage.Outside = entry-level t.shared t.what t.top d
stage-level limit t d stage.Fields =
    either-level 1 t.what (then_load (table_ended t.top d) (λ e. Ok (at stage.Outside e))) (field_step limit t d t.field) (is_end t.what) refl
    (λ is. then_load-level 1 t.what (table_ended t.top d) (λ e. Ok (at stage.Outside e)) (λ e. end-level t.what 1 (at stage.Outside e) is refl))
    (λ is. field-level limit t d t.field is)
stage-level limit t d stage.Symbols =
    either-level 2 t.what (Ok (at stage.Fields d)) (then_load (within limit t.place (with_text (string_in t.what) d)) (λ e. Ok (passed t.what (at stage.Symbols e)))) (is_end t.what) refl
    (λ is. end-level t.what 2 (at stage.Fields d) is refl)
    (λ is. then_load-level 2 t.what (within limit t.place (with_text (string_in t.what) d)) (λ e. Ok (passed t.what (at stage.Symbols e))) (λ e. passed-level t.what stage.Symbols e is))

outside-level : (n m : ℕ) (what : FieldValue) (r : Loaded) → n ≡ m → LevelAs n what r → LevelAs m what r
outside-level n m what r e h = subst (λ k. LevelAs k what r) e h

step-level : (limit : ℕ) (s : Loading) (t : EntryView) (n : ℕ) → s.inside ≡ n → LevelAs (level_of s) t.what (step_at limit t s n)
step-level limit s t zero e = outside-level (stage_level s.stage) (level_of s) t.what (stage_step limit t s.draft s.stage) (omega (arith, e)) (stage-level limit t s.draft s.stage)
step-level limit s t (suc n) e =
    let same : record { stage = s.stage; inside = suc n; draft = s.draft } ≡ s = ap (λ k. record { stage = s.stage; inside = k; draft = s.draft }) (sym e) in
    subst (λ u. LevelAs (level_of u) t.what (Ok (passed t.what u))) same (inside-level t.what s.stage n s.draft)

-- by the items
open-seen : (kinds : List Kind) (head : Head SymbolAt) → length (open_after kinds head) ≡ depth_after (length kinds) (head_seen (map_head user_symbol_at head))
open-seen kinds (value.whole (value.null type)) = refl
open-seen kinds (value.whole (value.bool truth)) = refl
open-seen kinds (value.whole (value.int number)) = refl
open-seen kinds (value.whole (value.float number)) = refl
open-seen kinds (value.whole (value.decimal number)) = refl
open-seen kinds (value.whole (value.timestamp moment)) = refl
open-seen kinds (value.whole (value.symbol name)) = refl
open-seen kinds (value.whole (value.string t)) = refl
open-seen kinds (value.whole (value.clob bytes)) = refl
open-seen kinds (value.whole (value.blob bytes)) = refl
open-seen kinds (value.begin k) = omega arith
open-seen kinds value.end = length-drop 1 kinds
open-seen kinds value.marker = refl

-- no more are open than may be
open-deep : (depth : ℕ) (kinds : List Kind) (head : Head SymbolAt) → HasPlace depth kinds head → length kinds ≤ depth → length (open_after kinds head) ≤ depth
open-deep depth kinds (value.whole body) place deep = deep
open-deep depth kinds (value.begin k) place deep = omega (arith, place)
open-deep depth kinds value.end place deep = let fewer = length-drop 1 kinds in omega (arith, fewer, deep)
open-deep depth kinds value.marker place deep = deep

-- ---- the tables

and_load-after : (r : Loaded) (f g whole : Loading → Loaded) → ((t : Loading) → whole t ≡ and_load (f t) g) → and_load r whole ≡ and_load (and_load r f) g
and_load-after (Ok t) f g whole same = same t
and_load-after (Err why) f g whole same = refl

load-append : (limit : ℕ) (s : Loading) (is js : List (Item UserSymbol ℕ)) → load_from limit s (is ++ js) ≡ and_load (load_from limit s is) (λ t. load_from limit t js)
load-append limit s [] js = refl
load-append limit s (i ∷ is) js =
    and_load-after (load_step limit s (entry_view i)) (λ t. load_from limit t is) (λ t. load_from limit t js) (λ t. load_from limit t (is ++ js))
    (λ t. load-append limit t is js)

user_items-append : (path : List PlacedItem) (item : PlacedItem) → user_items (path ++ item ∷ []) ≡ user_items path ++ user_item item ∷ []
user_items-append [] item = refl
user_items-append (i ∷ path) item = ap (λ (l : List (Item UserSymbol ℕ)). user_item i ∷ l) (user_items-append path item)

then-ok : (r : Loaded) → and_load r (λ u. Ok u) ≡ r
then-ok (Ok s) = refl
then-ok (Err why) = refl

-- an item more
load-more : (limit : ℕ) (path : List PlacedItem) (item : PlacedItem) (s : Loading) → loaded limit (user_items path) ≡ Ok s
    → loaded limit (user_items (path ++ item ∷ [])) ≡ load_step limit s (entry_view (user_item item))
load-more limit path item s e =
    ap (loaded limit) (user_items-append path item)
    ∙ (load-append limit _ (user_items path) (user_item item ∷ [])
    ∙ (ap (λ r. and_load r (λ t. load_from limit t (user_item item ∷ []))) e
    ∙ then-ok (load_step limit s (entry_view (user_item item)))))

-- it is taken
read-more : {A : Type 0} (b n : CatalogBuilder A) (path : List PlacedItem) (item : PlacedItem) → HasRead b path → Continues b.limits path item
    → load_step b.limits.symbols (loading_of b) (entry_view (user_item item)) ≡ Ok (loading_of n) → n.limits ≡ b.limits → n.failed ≡ None
    → HasRead n (path ++ item ∷ []) × (catalog_refusal b.limits path item ≡ None)
read-more b n path item has may step limits well =
    let more = load-more b.limits.symbols path item (loading_of b) has.read ∙ step in
    let opens : length (open_after_all [] (path ++ item ∷ [])) ≡ length (open_after (open_after_all [] path) item.head) = ap length (open_after_all-append [] path item) in
    let level : level_of (loading_of n) ≡ length (open_after_all [] (path ++ item ∷ [])) =
    subst (λ r. LevelAs (level_of (loading_of b)) (entry_view (user_item item)).what r) step (step-level b.limits.symbols (loading_of b) (entry_view (user_item item)) b.inside refl)
    ∙ (ap (λ k. depth_after k (entry_view (user_item item)).what) has.level ∙ (sym (open-seen (open_after_all [] path) item.head) ∙ sym opens)) in
    let deep : length (open_after (open_after_all [] path) item.head) ≤ b.limits.depth =
    open-deep b.limits.depth (open_after_all [] path) item.head may.fits.place (subst (λ k. k ≤ b.limits.depth) has.level has.deep) in (
      record {
        well = well;
        read = subst (λ limit. loaded limit.symbols (user_items (path ++ item ∷ [])) ≡ Ok (loading_of n)) (sym limits) more;
        level = level;
        deep = subst (λ limit. level_of (loading_of n) ≤ limit.depth) (sym limits) (subst (λ k. k ≤ b.limits.depth) (sym (level ∙ opens)) deep);
      },
      ap why_not more,
    )

-- or refused
pub read-refused : {A : Type 0} (b : CatalogBuilder A) (path : List PlacedItem) (item : PlacedItem) (why : Reason × ℕ) → HasRead b path
    → load_step b.limits.symbols (loading_of b) (entry_view (user_item item)) ≡ Err why → catalog_refusal b.limits path item ≡ Some why
read-refused b path item why has step = ap why_not (load-more b.limits.symbols path item (loading_of b) has.read ∙ step)

-- so is what a call answers that does so
pub read-answered : {A T : Type 0} (b n : CatalogBuilder A) (path : List PlacedItem) (item : PlacedItem) (r : Result T Fault) → HasRead b path → Continues b.limits path item
    → StepAs (load_step b.limits.symbols (loading_of b) (entry_view (user_item item))) r (loading_of n) → n.limits ≡ b.limits → n.failed ≡ None
    → OnOk r (HasRead n (path ++ item ∷ []) × (catalog_refusal b.limits path item ≡ None))
read-answered b n path item (Ok x) has may step limits well = read-more b n path item has may step limits well
read-answered b n path item (Err fault) has may step limits well = tt

-- few containers are open in what means nothing
pub few-inside : {A : Type 0} (b : CatalogBuilder A) (path : List PlacedItem) → HasRead b path → b.inside ≤ b.limits.depth
few-inside b path has = let deep = has.deep in omega (arith, deep)

-- a sink to which nothing is put
pub puts-nothing : {O : Type 0} (written : O → List ℕ) (observable : O → Type 0) (sink : Outgoing O) → Puts written observable sink sink []
puts-nothing written observable sink = record {
  still_observable = (λ o. o, λ o. o);
  grown = λ o. prefix-self (written sink.device);
  prefix = λ o. (sink.pending, append-nil (written sink.device ++ sink.pending));
}
