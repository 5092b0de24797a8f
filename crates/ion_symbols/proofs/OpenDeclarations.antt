-- The items of a declaration that is open give no user items.
use Rattle.std.proofs.Common.{◌≡◌, ℕ, zero, suc, ◌+◌, ◌-◌, Bool, true, false, List, [], ◌∷◌, ◌++◌, Option, Some, None, Ok, Err, refl, ap, sym, ◌∙◌, arith, subst}
use Rattle.std.specs.Prelude.{if◌then◌else◌, ⊤}
use Rattle.ion_value.specs.declared.ion_type.Kind.{Kind}
use Rattle.ion_value.specs.declared.ion_type.Kind.TheVariants as kind
use Rattle.ion_value.specs.Value as value
use Rattle.ion_value.specs.Value.{SymbolAt, Scalar, Value, Members, scalar, container, nothing, member, PlacedItem, bare_item, value_items, member_items}
use Rattle.ion_value.specs.Path.{Nest, outermost, inner, begin_item, nest_items}
use Rattle.ion_value.specs.Reading.{Reading, Finished, More, items_then}
use Rattle.ion_symbols.specs.declared.known_text.Word.{Word}
use Rattle.ion_symbols.specs.declared.known_text.Word.TheVariants as word
use Rattle.ion_symbols.specs.declared.known_text.Area.{Area}
use Rattle.ion_symbols.specs.declared.known_text.Area.TheVariants as area
use Rattle.ion_symbols.specs.Table.{Shared, Table, text_at}
use Rattle.ion_symbols.specs.Declaration.{Ground, Pending, Held, Declaring, Turn, FieldValue, ItemView, begins, ends, other, string, int, names, on, made, stop, at, start, then_turn, scalar_view, head_view, item_view, is_end, skip_ignored, turn, area_turn, field_turn, field_value, element_turn, imports_turn, part_turn, part_value, field_met, part_met, with_slot, keeping, with_import_name, versioned, cut_to, version_in, max_id_in, import_ended, string_in, next, word_in}
use Rattle.ion_symbols.specs.Users.{Checked, fine, bad, checked, is_declaration, declaring, users, by_step, after_check, turned}
use Rattle.ion_symbols.specs.Tree.{first_of, declares_table}
use Rattle.ion_symbols.specs.Laws.{open_declaration}
use Rattle.ion_value.proofs.Readings.{items_then-append}
use Rattle.ion_symbols.proofs.UserReadings.{sees, begun, not_stopped, none_later}

-- how many containers are open in a declaration
abbrev in_area : Area → ℕ
in_area area.Fields = 0
in_area area.Symbols = 1
in_area area.Imports = 1
in_area area.Import = 2

abbrev depth : Declaring → ℕ
depth d = in_area d.area + d.inside

-- and how many after an item
abbrev inside_after : FieldValue → ℕ → ℕ
inside_after (begins k) n = suc n
inside_after ends n = n - 1
inside_after other n = n
inside_after (string t) n = n
inside_after (int negative m) n = n
inside_after (names w) n = n

-- a turn keeps count, and makes a table at the declaration's own end alone
abbrev Moves : FieldValue → ℕ → Turn → Type 0
Moves v n (on d) = depth d ≡ inside_after v n
Moves v n (made t) = (is_end v ≡ true) × (n ≡ 0)
Moves v n (stop reason place) = ⊤

then_moves : (v : FieldValue) (n : ℕ) (h : Held) (later : Pending → Turn) → ((q : Pending) → Moves v n (later q)) → Moves v n (then_turn h later)
then_moves v n (Ok p) later m = m p
then_moves v n (Err why) later m = tt

if_moves : (v : FieldValue) (n : ℕ) (b : Bool) (x y : Turn) → is_end v ≡ b → (is_end v ≡ true → Moves v n x) → (is_end v ≡ false → Moves v n y)
    → Moves v n (if b then x else y)
if_moves v n true x y e m k = m e
if_moves v n false x y e m k = k e

end_after : (v : FieldValue) (n : ℕ) → is_end v ≡ true → inside_after v n ≡ n - 1
end_after (begins k) n e = absurd (cc e)
end_after ends n e = refl
end_after other n e = absurd (cc e)
end_after (string t) n e = absurd (cc e)
end_after (int negative m) n e = absurd (cc e)
end_after (names w) n e = absurd (cc e)

-- what is ignored is counted
skip_inside : (v : FieldValue) (a : Area) (m : ℕ) (p : Pending)
    → depth (skip_ignored v (record { area = a; inside = suc m; pending = p })) ≡ inside_after v (in_area a + suc m)
skip_inside (begins k) a m p = omega arith
skip_inside ends a m p = omega arith
skip_inside other a m p = refl
skip_inside (string t) a m p = refl
skip_inside (int negative n) a m p = refl
skip_inside (names w) a m p = refl

skip_first : (v : FieldValue) (a : Area) (p : Pending) → is_end v ≡ false → depth (skip_ignored v (at a p)) ≡ inside_after v (in_area a + 0)
skip_first (begins k) a p e = omega arith
skip_first ends a p e = absurd (cc e)
skip_first other a p e = refl
skip_first (string t) a p e = refl
skip_first (int negative n) a p e = refl
skip_first (names w) a p e = refl

field_value-moves : (g : Ground) (place : ℕ) (w : Word) (v : FieldValue) (p : Pending) → is_end v ≡ false → Moves v 0 (field_value g place w v p)
field_value-moves g place word.Imports (begins kind.List) p e = refl
field_value-moves g place word.Imports (names word.Declaration) p e = then_moves (names word.Declaration) 0 (keeping g place p) _ (λ q. refl)
field_value-moves g place word.Symbols (begins kind.List) p e = refl
field_value-moves g place w v p e = skip_first v area.Fields p e

imports_moves : (t : ItemView) (p : Pending) (v : FieldValue) → Moves v 1 (imports_turn t p v)
imports_moves t p ends = refl
imports_moves t p (begins kind.Struct) = refl
imports_moves t p (begins k) = skip_first (begins k) area.Imports p refl
imports_moves t p other = refl
imports_moves t p (string s) = refl
imports_moves t p (int negative n) = refl
imports_moves t p (names w) = refl

part_value-moves : (g : Ground) (place : ℕ) (w : Word) (v : FieldValue) (p : Pending) → is_end v ≡ false → Moves v 2 (part_value g place w v p)
part_value-moves g place word.Name (string t) p e = then_moves (string t) 2 (with_import_name g place t p) _ (λ q. refl)
part_value-moves g place word.Version v p e = skip_first v area.Import (versioned (version_in v) p) e
part_value-moves g place word.MaxId v p e = skip_first v area.Import (cut_to (max_id_in v) p) e
part_value-moves g place w v p e = skip_first v area.Import p e

area_moves : (g : Ground) (t : ItemView) (p : Pending) (a : Area) → Moves t.what (in_area a + 0) (area_turn g t p a)
area_moves g t p area.Fields =
    if_moves t.what 0 (is_end t.what) (made (next g.old p)) (field_turn g t p) refl (λ e. (e, refl))
    (λ e. then_moves t.what 0 (field_met t.field_place t.field p) _ (λ q. field_value-moves g t.place t.field t.what q e))
area_moves g t p area.Symbols =
    if_moves t.what 1 (is_end t.what) (on (at area.Fields p)) (element_turn g t p) refl (λ e. sym (end_after t.what 1 e))
    (λ e. then_moves t.what 1 (with_slot g t.place (string_in t.what) p) _ (λ q. skip_first t.what area.Symbols q e))
area_moves g t p area.Imports = imports_moves t p t.what
area_moves g t p area.Import =
    if_moves t.what 2 (is_end t.what) (then_turn (import_ended g p) (λ q. on (at area.Imports q))) (part_turn g t p) refl
    (λ e. then_moves t.what 2 (import_ended g p) _ (λ q. sym (end_after t.what 2 e)))
    (λ e. then_moves t.what 2 (part_met t.field_place t.field p) _ (λ q. part_value-moves g t.place t.field t.what q e))

turn_moves : (g : Ground) (t : ItemView) (a : Area) (m : ℕ) (p : Pending) → Moves t.what (in_area a + m) (turn g (record { area = a; inside = m; pending = p }) t)
turn_moves g t a zero p = area_moves g t p a
turn_moves g t a (suc m) p = skip_inside t.what a m p

-- ---- the items of a declaration

module _ (catalog : List Shared) (limit : ℕ) (t : Table) where
  abbrev g : Ground
  g = record { catalog = catalog; limit = limit; old = t }

  abbrev reads : Declaring → Reading → Reading
  reads d rest = users catalog limit (record { table = t; mode = declaring d }) rest

  -- a declaration is open yet, with so many containers in it, and nothing was given
  record StaysOpen (n : ℕ) (rest : Reading) (items : List PlacedItem) : Type 0 where
    now : Declaring
    deep : depth now ≡ n
    goes_on : reads now rest ≡ items_then items Finished

  item_stays : (d : Declaring) (i : PlacedItem) (rest : Reading) (items : List PlacedItem) (c : Checked) (u : Turn) (v : FieldValue) (n : ℕ) → Moves v n u
      → ((is_end v ≡ true) × (n ≡ 0) → ⊥) → by_step (after_check c (turned t u)) (λ s. users catalog limit s rest) ≡ items_then items Finished
      → StaysOpen (inside_after v n) rest items
  item_stays d i rest items fine (on e) v n moves last is = record { now = e; deep = moves; goes_on = is }
  item_stays d i rest items fine (made u) v n moves last is = absurd (last moves)
  item_stays d i rest items fine (stop reason place) v n moves last is = absurd (not_stopped reason place items is)
  item_stays d i rest items (bad reason place) u v n moves last is = absurd (not_stopped reason place items is)

  -- an item that does not end the declaration
  one_stays : (n : ℕ) (i : PlacedItem) (rest : Reading) (items : List PlacedItem)
      → ((is_end (head_view (text_at t) i.head) ≡ true) × (n ≡ 0) → ⊥)
      → StaysOpen n (More i rest) items → StaysOpen (inside_after (head_view (text_at t) i.head) n) rest items
  one_stays n i rest items last o =
      let v : FieldValue = head_view (text_at t) i.head in
      item_stays o.now i rest items (checked t false i) (turn g o.now (item_view (text_at t) i)) v n
      (subst (λ k. Moves v k (turn g o.now (item_view (text_at t) i))) o.deep (turn_moves g (item_view (text_at t) i) o.now.area o.now.inside o.now.pending))
      last o.goes_on

  -- a scalar opens and ends nothing
  scalar_after : (body : Scalar SymbolAt) (n : ℕ) → inside_after (scalar_view (text_at t) body) n ≡ n
  scalar_after (value.null type) n = refl
  scalar_after (value.bool truth) n = refl
  scalar_after (value.int number) n = refl
  scalar_after (value.float number) n = refl
  scalar_after (value.decimal number) n = refl
  scalar_after (value.timestamp moment) n = refl
  scalar_after (value.symbol s) n = refl
  scalar_after (value.string bytes) n = refl
  scalar_after (value.clob bytes) n = refl
  scalar_after (value.blob bytes) n = refl

  scalar_end : (body : Scalar SymbolAt) → is_end (scalar_view (text_at t) body) ≡ true → ⊥
  scalar_end (value.null type) e = cc e
  scalar_end (value.bool truth) e = cc e
  scalar_end (value.int number) e = cc e
  scalar_end (value.float number) e = cc e
  scalar_end (value.decimal number) e = cc e
  scalar_end (value.timestamp moment) e = cc e
  scalar_end (value.symbol s) e = cc e
  scalar_end (value.string bytes) e = cc e
  scalar_end (value.clob bytes) e = cc e
  scalar_end (value.blob bytes) e = cc e

  -- the items of a reading, one list after another
  in_parts : (n : ℕ) (is js : List PlacedItem) (rest : Reading) (items : List PlacedItem) → StaysOpen n (items_then (is ++ js) rest) items
      → StaysOpen n (items_then is (items_then js rest)) items
  in_parts n is js rest items o = record { now = o.now; deep = o.deep; goes_on = ap (reads o.now) (sym (items_then-append is js rest)) ∙ o.goes_on }

  mutual
    value_stays : (n top : ℕ) (field : Option SymbolAt) (annotations : List SymbolAt) (place : ℕ) (x : Value SymbolAt ℕ) (rest : Reading) (items : List PlacedItem)
        → StaysOpen n (items_then (value_items top field annotations place x) rest) items → StaysOpen n rest items
    value_stays n top field annotations place (scalar body) rest items o =
        subst (λ k. StaysOpen k rest items) (scalar_after body n)
        (one_stays n (first_of top field annotations place (scalar body)) rest items (λ e. scalar_end body e.0) o)
    value_stays n top field annotations place (container k members last) rest items o =
        let tail : List PlacedItem = bare_item value.end last top ∷ [] in
        let begun_here : StaysOpen (suc n) (items_then (member_items top members ++ tail) rest) items =
        one_stays n (first_of top field annotations place (container k members last)) (items_then (member_items top members ++ tail) rest) items (λ e. cc (e.0)) o in
        let inside : StaysOpen (suc n) (items_then tail rest) items =
        members_stay (suc n) top members (items_then tail rest) items (in_parts (suc n) (member_items top members) tail rest items begun_here) in
        subst (λ k. StaysOpen k rest items) (omega arith) (one_stays (suc n) (bare_item value.end last top) rest items (λ e. cc (e.1)) inside)

    members_stay : (n top : ℕ) (members : Members SymbolAt ℕ) (rest : Reading) (items : List PlacedItem)
        → StaysOpen n (items_then (member_items top members) rest) items → StaysOpen n rest items
    members_stay n top nothing rest items o = o
    members_stay n top (member before field annotations place x) rest items o =
        value_stays n top field annotations place x rest items
        (members_stay n top before (items_then (value_items top field annotations place x) rest) items
        (in_parts n (member_items top before) (value_items top field annotations place x) rest items o))

  -- a value that is a declaration begins one
  declaration_begun : (top : ℕ) (annotations : List SymbolAt) (place last : ℕ) (k : Kind) (members found : Members SymbolAt ℕ) (rest : Reading) (items : List PlacedItem)
      → declares_table t annotations (container k members last) ≡ Some found → sees catalog limit t 0 (More (begin_item top None annotations place k) rest) ≡ items_then items Finished
      → StaysOpen 0 rest items
  declaration_begun top [] place last kind.List members found rest items some e = absurd (cc some)
  declaration_begun top [] place last kind.Sexp members found rest items some e = absurd (cc some)
  declaration_begun top [] place last kind.Struct members found rest items some e = absurd (cc some)
  declaration_begun top (s ∷ annotations) place last kind.List members found rest items some e = absurd (cc some)
  declaration_begun top (s ∷ annotations) place last kind.Sexp members found rest items some e = absurd (cc some)
  declaration_begun top (s ∷ annotations) place last kind.Struct members found rest items some e = by_word (is_declaration (word_in (text_at t) s.symbol)) refl
    where
      by_word : (b : Bool) → is_declaration (word_in (text_at t) s.symbol) ≡ b → StaysOpen 0 rest items
      by_word false is = let none : None ≡ Some found = rw is at some in absurd (cc none)
      by_word true is = record {
        now = start;
        deep = refl;
        goes_on = begun catalog limit t (checked t false (begin_item top None (s ∷ annotations) place kind.Struct)) rest items (rw is at e);
      }

  -- how many containers are open in the outermost
  nest_depth : Nest SymbolAt ℕ → ℕ
  nest_depth (outermost annotations place k members) = 0
  nest_depth (inner around field annotations place k members) = suc (nest_depth around)

  nest_stays : (first : ℕ) (nest : Nest SymbolAt ℕ) (found : Members SymbolAt ℕ) (rest : Reading) (items : List PlacedItem) → open_declaration t nest ≡ Some found
      → sees catalog limit t 0 (items_then (nest_items first nest) rest) ≡ items_then items Finished → StaysOpen (nest_depth nest) rest items
  unfolding nest_depth
  nest_stays first (outermost annotations place k members) found rest items some e =
      members_stay 0 first members rest items
      (declaration_begun first annotations place place k members found (items_then (member_items first members) rest) items some e)
  nest_stays first (inner around field annotations place k members) found rest items some e =
      let begins_here : PlacedItem = begin_item first field annotations place k in
      let o : StaysOpen (nest_depth around) (items_then (begins_here ∷ member_items first members) rest) items =
      nest_stays first around found (items_then (begins_here ∷ member_items first members) rest) items some
      (ap (sees catalog limit t 0) (sym (items_then-append (nest_items first around) (begins_here ∷ member_items first members) rest)) ∙ e) in
      members_stay (suc (nest_depth around)) first members rest items
      (one_stays (nest_depth around) begins_here (items_then (member_items first members) rest) items (λ h. cc (h.0)) o)

  -- where a declaration is open at the end, nothing is given after what stands before it
  pub nothing_given : (first : ℕ) (nest : Nest SymbolAt ℕ) (found : Members SymbolAt ℕ) (items : List PlacedItem) → open_declaration t nest ≡ Some found
      → sees catalog limit t 0 (items_then (nest_items first nest) Finished) ≡ items_then items Finished → items ≡ []
  nothing_given first nest found items some e = let o = nest_stays first nest found Finished items some e in none_later items o.goes_on
