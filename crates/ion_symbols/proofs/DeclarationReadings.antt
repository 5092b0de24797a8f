-- The streaming and the tree definitions of a declaration agree, fault or not.
use Rattle.std.proofs.Common.{◌≡◌, ℕ, suc, ◌+◌, ◌-◌, false, List, [], ◌∷◌, ◌++◌, Option, Some, Ok, Err, refl, ap, sym, ◌∙◌, arith, add-one}
use Rattle.ion_value.specs.declared.ion_type.Kind.{Kind}
use Rattle.ion_value.specs.declared.ion_type.Kind.TheVariants as kind
use Rattle.ion_value.specs.Value as value
use Rattle.ion_value.specs.Value.{SymbolAt, Scalar, Value, Members, scalar, container, nothing, member, PlacedItem, bare_item, value_items, member_items}
use Rattle.ion_value.specs.Reading.{Reading, Stopped, More, items_then}
use Rattle.ion_symbols.specs.declared.known_text.Word.{Word}
use Rattle.ion_symbols.specs.declared.known_text.Word.TheVariants as word
use Rattle.ion_symbols.specs.declared.known_text.Area.{Area}
use Rattle.ion_symbols.specs.declared.known_text.Area.TheVariants as area
use Rattle.ion_symbols.specs.Table.{Table, text_at}
use Rattle.ion_symbols.specs.Declaration as declaration
use Rattle.ion_symbols.specs.Declaration.{Ground, Pending, Held, Declaring, Turn, on, made, stop, at, start, nothing_yet, next, then_turn, head_view, is_end, string_in, version_in, max_id_in, turn, with_slot, keeping, with_import_name, versioned, cut_to, import_ended, new_entry, field_met, field_value, part_met, part_value, field_word, place_in, word_in}
use Rattle.ion_symbols.specs.Users.{Checked, fine, bad, or_else, checked, plain, declaring, users, by_step, after_check, turned}
use Rattle.ion_symbols.specs.Tree as from
use Rattle.ion_symbols.specs.Tree.{and_then, if_fine, items_checked, head_of, first_of, content_of, element, version_of, max_of, element_held, elements_held, part_held, parts_held, import_held, imports_held, keeping_by, field_held, fields_held, table_left, declared}
use Rattle.ion_symbols.specs.Laws.{by_declared, DeclarationsAreRead}
use Rattle.ion_value.proofs.Readings.{items_then-append}

-- ---- what is read in the middle of a declaration

-- a reading after the items of a declaration that are read already
abbrev reads : Ground → Declaring → Reading → Reading
reads g d rest = users g.catalog g.limit (record { table = g.old; mode = declaring d }) rest

-- what a turn leaves, before a reading
abbrev by_turn : Ground → Turn → Reading → Reading
by_turn g (on d) rest = reads g d rest
by_turn g (made t) rest = users g.catalog g.limit (record { table = t; mode = plain 0 }) rest
by_turn g (stop reason place) rest = Stopped reason place

-- what a pending table gives, or its fault
abbrev by_held : Held → (Pending → Reading) → Reading
by_held (Ok p) later = later p
by_held (Err why) later = Stopped why.0 why.1

-- a reading after a check
abbrev by_check : Checked → Reading → Reading
by_check fine later = later
by_check (bad reason place) later = Stopped reason place

-- an item is checked, then turned
step_turn : (g : Ground) (c : Checked) (u : Turn) (rest : Reading) → by_step (after_check c (turned g.old u)) (λ s. users g.catalog g.limit s rest)
    ≡ by_check c (by_turn g u rest)
step_turn g fine (on d) rest = refl
step_turn g fine (made t) rest = refl
step_turn g fine (stop reason place) rest = refl
step_turn g (bad reason place) u rest = refl

-- the first item of a reading
step : (g : Ground) (d : Declaring) (i : PlacedItem) (rest : Reading) → reads g d (More i rest)
    ≡ by_check (checked g.old false i) (by_turn g (turn g d (declaration.item_view (text_at g.old) i)) rest)
step g d i rest = step_turn g (checked g.old false i) (turn g d (declaration.item_view (text_at g.old) i)) rest

-- ---- how these fit together

-- one thing after the other gives the same in a reading
by_held-and_then : (h : Held) (f : Pending → Held) (later : Pending → Reading) → by_held (and_then h f) later ≡ by_held h (λ p. by_held (f p) later)
by_held-and_then (Ok p) f later = refl
by_held-and_then (Err why) f later = refl

-- so does a check
by_held-if_fine : (c : Checked) (h : Held) (later : Pending → Reading) → by_held (if_fine c h) later ≡ by_check c (by_held h later)
by_held-if_fine fine h later = refl
by_held-if_fine (bad reason place) h later = refl

-- what goes on the same gives the same
by_held-same : (h : Held) (f k : Pending → Reading) → ((p : Pending) → f p ≡ k p) → by_held h f ≡ by_held h k
by_held-same (Ok p) f k e = e p
by_held-same (Err why) f k e = refl

-- a turn by a pending table gives what the pending table gives
by_turn-then_turn : (g : Ground) (h : Held) (f : Pending → Turn) (rest : Reading) → by_turn g (then_turn h f) rest ≡ by_held h (λ p. by_turn g (f p) rest)
by_turn-then_turn g (Ok p) f rest = refl
by_turn-then_turn g (Err why) f rest = refl

-- one check after the other
by_check-or_else : (c d : Checked) (later : Reading) → by_check (or_else c d) later ≡ by_check c (by_check d later)
by_check-or_else fine d later = refl
by_check-or_else (bad reason place) d later = refl

-- checks in a row
or_else-assoc : (a b c : Checked) → or_else (or_else a b) c ≡ or_else a (or_else b c)
or_else-assoc fine b c = refl
or_else-assoc (bad reason place) b c = refl

-- a check that finds nothing changes nothing
or_else-fine : (c : Checked) → or_else c fine ≡ c
or_else-fine fine = refl
or_else-fine (bad reason place) = refl

-- items are checked in order
items_checked-append : (t : Table) (is js : List PlacedItem) → items_checked t (is ++ js) ≡ or_else (items_checked t is) (items_checked t js)
items_checked-append t [] js = refl
items_checked-append t (i ∷ is) js =
    ap (or_else (checked t false i)) (items_checked-append t is js) ∙ sym (or_else-assoc (checked t false i) (items_checked t is) (items_checked t js))

-- a value is its first item and the rest
value_items-first : (top : ℕ) (field : Option SymbolAt) (annotations : List SymbolAt) (place : ℕ) (x : Value SymbolAt ℕ) → value_items top field annotations place x
    ≡ first_of top field annotations place x ∷ content_of top x
value_items-first top field annotations place (scalar body) = refl
value_items-first top field annotations place (container k members last) = refl

-- ---- what stands inside of what is ignored

-- a declaration in which n + 1 containers are open that are ignored
abbrev deep : Area → ℕ → Pending → Declaring
deep a n p = record { area = a; inside = suc n; pending = p }

-- a container that begins opens the next level
deeper : (a : Area) (n : ℕ) (p : Pending) → record { area = a; inside = suc n + 1; pending = p } ≡ deep a (suc n) p
deeper a n p = ap (λ k. record { area = a; inside = k; pending = p }) (add-one (suc n))

-- and its end closes it
back : (a : Area) (n : ℕ) (p : Pending) → record { area = a; inside = suc (suc n) - 1; pending = p } ≡ deep a n p
back a n p = let e : suc (suc n) - 1 ≡ suc n = omega arith in ap (λ k. record { area = a; inside = k; pending = p }) e

-- a scalar there changes nothing
skip_scalar : (g : Ground) (a : Area) (n : ℕ) (p : Pending) (body : Scalar SymbolAt) (rest : Reading)
    → reads g (declaration.skip_ignored (head_view (text_at g.old) (value.whole body)) (deep a n p)) rest ≡ reads g (deep a n p) rest
skip_scalar g a n p (value.null type) rest = refl
skip_scalar g a n p (value.bool truth) rest = refl
skip_scalar g a n p (value.int number) rest = refl
skip_scalar g a n p (value.float number) rest = refl
skip_scalar g a n p (value.decimal number) rest = refl
skip_scalar g a n p (value.timestamp moment) rest = refl
skip_scalar g a n p (value.symbol s) rest = refl
skip_scalar g a n p (value.string t) rest = refl
skip_scalar g a n p (value.clob bytes) rest = refl
skip_scalar g a n p (value.blob bytes) rest = refl

-- what a container holds, and its end, where this is so of what it holds
skip_content : (g : Ground) (a : Area) (n : ℕ) (p : Pending) (top : ℕ) (k : Kind) (members : Members SymbolAt ℕ) (last : ℕ) (rest : Reading)
    → reads g (deep a n p) (items_then (member_items top members) (items_then (bare_item value.end last top ∷ []) rest))
    ≡ by_check (items_checked g.old (member_items top members)) (reads g (deep a n p) (items_then (bare_item value.end last top ∷ []) rest))
    → reads g (deep a n p) (items_then (content_of top (container k members last)) rest)
    ≡ by_check (items_checked g.old (content_of top (container k members last))) (reads g (record { area = a; inside = suc n - 1; pending = p }) rest)
skip_content g a n p top k members last rest e =
    ap (reads g (deep a n p)) (items_then-append (member_items top members) (bare_item value.end last top ∷ []) rest)
    ∙ (e ∙ ap (λ c. by_check c (reads g (record { area = a; inside = suc n - 1; pending = p }) rest))
    (sym (or_else-fine (items_checked g.old (member_items top members)))
    ∙ sym (items_checked-append g.old (member_items top members) (bare_item value.end last top ∷ []))))

-- its symbols are checked, and it changes nothing
mutual
  skip_value : (g : Ground) (a : Area) (n : ℕ) (p : Pending) (top : ℕ) (field : Option SymbolAt) (annotations : List SymbolAt) (place : ℕ) (x : Value SymbolAt ℕ)
      (rest : Reading)
      → reads g (deep a n p) (items_then (value_items top field annotations place x) rest)
      ≡ by_check (items_checked g.old (value_items top field annotations place x)) (reads g (deep a n p) rest)
  skip_value g a n p top field annotations place (scalar body) rest =
      step g (deep a n p) (first_of top field annotations place (scalar body)) rest
      ∙ (ap (by_check (checked g.old false (first_of top field annotations place (scalar body)))) (skip_scalar g a n p body rest)
      ∙ ap (λ c. by_check c (reads g (deep a n p) rest)) (sym (or_else-fine (checked g.old false (first_of top field annotations place (scalar body))))))
  skip_value g a n p top field annotations place (container k members last) rest =
      step g (deep a n p) (first_of top field annotations place (container k members last)) (items_then (content_of top (container k members last)) rest)
      ∙ (ap (λ d. by_check (checked g.old false (first_of top field annotations place (container k members last)))
      (reads g d (items_then (content_of top (container k members last)) rest))) (deeper a n p)
      ∙ (ap (by_check (checked g.old false (first_of top field annotations place (container k members last))))
      (skip_content g a (suc n) p top k members last rest (skip_members g a (suc n) p top members (items_then (bare_item value.end last top ∷ []) rest))
      ∙ ap (λ d. by_check (items_checked g.old (content_of top (container k members last))) (reads g d rest)) (back a n p))
      ∙ sym (by_check-or_else (checked g.old false (first_of top field annotations place (container k members last)))
      (items_checked g.old (content_of top (container k members last))) (reads g (deep a n p) rest))))

  skip_members : (g : Ground) (a : Area) (n : ℕ) (p : Pending) (top : ℕ) (members : Members SymbolAt ℕ) (rest : Reading)
      → reads g (deep a n p) (items_then (member_items top members) rest) ≡ by_check (items_checked g.old (member_items top members)) (reads g (deep a n p) rest)
  skip_members g a n p top nothing rest = refl
  skip_members g a n p top (member before field annotations place x) rest =
      ap (reads g (deep a n p)) (items_then-append (member_items top before) (value_items top field annotations place x) rest)
      ∙ (skip_members g a n p top before (items_then (value_items top field annotations place x) rest)
      ∙ (ap (by_check (items_checked g.old (member_items top before))) (skip_value g a n p top field annotations place x rest)
      ∙ (sym (by_check-or_else (items_checked g.old (member_items top before)) (items_checked g.old (value_items top field annotations place x))
      (reads g (deep a n p) rest))
      ∙ ap (λ c. by_check c (reads g (deep a n p) rest)) (sym (items_checked-append g.old (member_items top before) (value_items top field annotations place x))))))

-- a value that is ignored, after its first item
skip_rest : (g : Ground) (a : Area) (top : ℕ) (x : Value SymbolAt ℕ) (p : Pending) (rest : Reading)
    → reads g (declaration.skip_ignored (head_view (text_at g.old) (head_of x)) (at a p)) (items_then (content_of top x) rest)
    ≡ by_held (from.check_ignored g.old top x p) (λ q. reads g (at a q) rest)
skip_rest g a top (scalar body) p rest = skip_bare g a p body rest
  where
    skip_bare : (g : Ground) (a : Area) (p : Pending) (body : Scalar SymbolAt) (rest : Reading)
        → reads g (declaration.skip_ignored (head_view (text_at g.old) (value.whole body)) (at a p)) rest ≡ reads g (at a p) rest
    skip_bare g a p (value.null type) rest = refl
    skip_bare g a p (value.bool truth) rest = refl
    skip_bare g a p (value.int number) rest = refl
    skip_bare g a p (value.float number) rest = refl
    skip_bare g a p (value.decimal number) rest = refl
    skip_bare g a p (value.timestamp moment) rest = refl
    skip_bare g a p (value.symbol s) rest = refl
    skip_bare g a p (value.string t) rest = refl
    skip_bare g a p (value.clob bytes) rest = refl
    skip_bare g a p (value.blob bytes) rest = refl
skip_rest g a top (container k members last) p rest =
    skip_content g a 0 p top k members last rest (skip_members g a 0 p top members (items_then (bare_item value.end last top ∷ []) rest))
    ∙ sym (by_held-if_fine (items_checked g.old (content_of top (container k members last))) (Ok p) (λ q. reads g (at a q) rest))

-- ---- one value, checked and turned, and then its rest

-- no value begins with an end
no_end : (texts : ℕ → Option (List ℕ)) (x : Value SymbolAt ℕ) → is_end (head_view texts (head_of x)) ≡ false
no_end texts (container k members last) = refl
no_end texts (scalar (value.null type)) = refl
no_end texts (scalar (value.bool truth)) = refl
no_end texts (scalar (value.int number)) = refl
no_end texts (scalar (value.float number)) = refl
no_end texts (scalar (value.decimal number)) = refl
no_end texts (scalar (value.timestamp moment)) = refl
no_end texts (scalar (value.symbol s)) = refl
no_end texts (scalar (value.string t)) = refl
no_end texts (scalar (value.clob bytes)) = refl
no_end texts (scalar (value.blob bytes)) = refl

-- a value whose turn and rest give what the tree gives gives it whole
one_value : (g : Ground) (a : Area) (top : ℕ) (field : Option SymbolAt) (annotations : List SymbolAt) (place : ℕ) (x : Value SymbolAt ℕ) (p : Pending) (h : Held)
    (rest : Reading)
    → by_turn g (turn g (at a p) (declaration.item_view (text_at g.old) (first_of top field annotations place x))) (items_then (content_of top x) rest)
    ≡ by_held h (λ q. reads g (at a q) rest)
    → reads g (at a p) (items_then (value_items top field annotations place x) rest)
    ≡ by_held (if_fine (checked g.old false (first_of top field annotations place x)) h) (λ q. reads g (at a q) rest)
one_value g a top field annotations place x p h rest e =
    ap (λ is. reads g (at a p) (items_then is rest)) (value_items-first top field annotations place x)
    ∙ (step g (at a p) (first_of top field annotations place x) (items_then (content_of top x) rest)
    ∙ (ap (by_check (checked g.old false (first_of top field annotations place x))) e
    ∙ sym (by_held-if_fine (checked g.old false (first_of top field annotations place x)) h (λ q. reads g (at a q) rest))))

-- the members before, and then the last one
one_more : (g : Ground) (a : Area) (top : ℕ) (before : Members SymbolAt ℕ) (field : Option SymbolAt) (annotations : List SymbolAt) (place : ℕ)
    (x : Value SymbolAt ℕ) (p : Pending) (h : Held) (f : Pending → Held) (rest : Reading)
    → reads g (at a p) (items_then (member_items top before) (items_then (value_items top field annotations place x) rest))
    ≡ by_held h (λ q. reads g (at a q) (items_then (value_items top field annotations place x) rest))
    → ((q : Pending) → reads g (at a q) (items_then (value_items top field annotations place x) rest) ≡ by_held (f q) (λ r. reads g (at a r) rest))
    → reads g (at a p) (items_then (member_items top (member before field annotations place x)) rest) ≡ by_held (and_then h f) (λ q. reads g (at a q) rest)
one_more g a top before field annotations place x p h f rest e more =
    ap (reads g (at a p)) (items_then-append (member_items top before) (value_items top field annotations place x) rest)
    ∙ (e ∙ (by_held-same h (λ q. reads g (at a q) (items_then (value_items top field annotations place x) rest)) (λ q. by_held (f q) (λ r. reads g (at a r) rest)) more
    ∙ sym (by_held-and_then h f (λ q. reads g (at a q) rest))))

-- ---- the elements of `symbols`

-- the text of an element by its first item is that by its tree
string_in-element : (texts : ℕ → Option (List ℕ)) (x : Value SymbolAt ℕ) → string_in (head_view texts (head_of x)) ≡ element x
string_in-element texts (container k members last) = refl
string_in-element texts (scalar (value.null type)) = refl
string_in-element texts (scalar (value.bool truth)) = refl
string_in-element texts (scalar (value.int number)) = refl
string_in-element texts (scalar (value.float number)) = refl
string_in-element texts (scalar (value.decimal number)) = refl
string_in-element texts (scalar (value.timestamp moment)) = refl
string_in-element texts (scalar (value.symbol s)) = refl
string_in-element texts (scalar (value.string t)) = refl
string_in-element texts (scalar (value.clob bytes)) = refl
string_in-element texts (scalar (value.blob bytes)) = refl

-- an element, after its check
element_turn-reads : (g : Ground) (top : ℕ) (field : Option SymbolAt) (annotations : List SymbolAt) (place : ℕ) (x : Value SymbolAt ℕ) (p : Pending) (rest : Reading)
    → by_turn g (turn g (at area.Symbols p) (declaration.item_view (text_at g.old) (first_of top field annotations place x))) (items_then (content_of top x) rest)
    ≡ by_held (element_held g top place x p) (λ q. reads g (at area.Symbols q) rest)
element_turn-reads g top field annotations place x p rest =
    rw (no_end (text_at g.old) x)
    (by_turn-then_turn g (with_slot g place (string_in (head_view (text_at g.old) (head_of x))) p)
    (λ q. on (declaration.skip_ignored (head_view (text_at g.old) (head_of x)) (at area.Symbols q))) (items_then (content_of top x) rest)
    ∙ (ap (λ t. by_held (with_slot g place t p)
    (λ q. reads g (declaration.skip_ignored (head_view (text_at g.old) (head_of x)) (at area.Symbols q)) (items_then (content_of top x) rest)))
    (string_in-element (text_at g.old) x)
    ∙ (by_held-same (with_slot g place (element x) p)
    (λ q. reads g (declaration.skip_ignored (head_view (text_at g.old) (head_of x)) (at area.Symbols q)) (items_then (content_of top x) rest))
    (λ q. by_held (from.check_ignored g.old top x q) (λ r. reads g (at area.Symbols r) rest)) (λ q. skip_rest g area.Symbols top x q rest)
    ∙ sym (by_held-and_then (with_slot g place (element x) p) (λ q. from.check_ignored g.old top x q) (λ r. reads g (at area.Symbols r) rest)))))

-- the elements of `symbols`, fault or not
elements-reads : (g : Ground) (top : ℕ) (members : Members SymbolAt ℕ) (p : Pending) (rest : Reading)
    → reads g (at area.Symbols p) (items_then (member_items top members) rest) ≡ by_held (elements_held g top members p) (λ q. reads g (at area.Symbols q) rest)
elements-reads g top nothing p rest = refl
elements-reads g top (member before field annotations place x) p rest =
    one_more g area.Symbols top before field annotations place x p (elements_held g top before p)
    (λ q. if_fine (checked g.old false (first_of top field annotations place x)) (element_held g top place x q)) rest
    (elements-reads g top before p (items_then (value_items top field annotations place x) rest))
    (λ q. one_value g area.Symbols top field annotations place x q (element_held g top place x q) rest (element_turn-reads g top field annotations place x q rest))

-- ---- the fields of an import

-- the version by its first item is that by its tree
version_in-version : (texts : ℕ → Option (List ℕ)) (x : Value SymbolAt ℕ) → version_in (head_view texts (head_of x)) ≡ version_of (Some x)
version_in-version texts (container k members last) = refl
version_in-version texts (scalar (value.null type)) = refl
version_in-version texts (scalar (value.bool truth)) = refl
version_in-version texts (scalar (value.int number)) = refl
version_in-version texts (scalar (value.float number)) = refl
version_in-version texts (scalar (value.decimal number)) = refl
version_in-version texts (scalar (value.timestamp moment)) = refl
version_in-version texts (scalar (value.symbol s)) = refl
version_in-version texts (scalar (value.string t)) = refl
version_in-version texts (scalar (value.clob bytes)) = refl
version_in-version texts (scalar (value.blob bytes)) = refl

-- and so the max_id
max_id_in-max : (texts : ℕ → Option (List ℕ)) (x : Value SymbolAt ℕ) → max_id_in (head_view texts (head_of x)) ≡ max_of (Some x)
max_id_in-max texts (container k members last) = refl
max_id_in-max texts (scalar (value.null type)) = refl
max_id_in-max texts (scalar (value.bool truth)) = refl
max_id_in-max texts (scalar (value.int number)) = refl
max_id_in-max texts (scalar (value.float number)) = refl
max_id_in-max texts (scalar (value.decimal number)) = refl
max_id_in-max texts (scalar (value.timestamp moment)) = refl
max_id_in-max texts (scalar (value.symbol s)) = refl
max_id_in-max texts (scalar (value.string t)) = refl
max_id_in-max texts (scalar (value.clob bytes)) = refl
max_id_in-max texts (scalar (value.blob bytes)) = refl

-- what a field of an import means, by its word
part_value-reads : (g : Ground) (top place : ℕ) (w : Word) (x : Value SymbolAt ℕ) (p : Pending) (rest : Reading)
    → by_turn g (part_value g place w (head_view (text_at g.old) (head_of x)) p) (items_then (content_of top x) rest)
    ≡ by_held (part_held g top place w x p) (λ q. reads g (at area.Import q) rest)
part_value-reads g top place word.Name (container k members last) p rest = skip_rest g area.Import top (container k members last) p rest
part_value-reads g top place word.Name (scalar (value.string t)) p rest = by_turn-then_turn g (with_import_name g place t p) (λ q. on (at area.Import q)) rest
part_value-reads g top place word.Name (scalar (value.null type)) p rest = refl
part_value-reads g top place word.Name (scalar (value.bool truth)) p rest = refl
part_value-reads g top place word.Name (scalar (value.int number)) p rest = refl
part_value-reads g top place word.Name (scalar (value.float number)) p rest = refl
part_value-reads g top place word.Name (scalar (value.decimal number)) p rest = refl
part_value-reads g top place word.Name (scalar (value.timestamp moment)) p rest = refl
part_value-reads g top place word.Name (scalar (value.symbol s)) p rest = refl
part_value-reads g top place word.Name (scalar (value.clob bytes)) p rest = refl
part_value-reads g top place word.Name (scalar (value.blob bytes)) p rest = refl
part_value-reads g top place word.Version x p rest =
    ap (λ n. reads g (declaration.skip_ignored (head_view (text_at g.old) (head_of x)) (at area.Import (versioned n p))) (items_then (content_of top x) rest))
    (version_in-version (text_at g.old) x)
    ∙ skip_rest g area.Import top x (versioned (version_of (Some x)) p) rest
part_value-reads g top place word.MaxId x p rest =
    ap (λ n. reads g (declaration.skip_ignored (head_view (text_at g.old) (head_of x)) (at area.Import (cut_to n p))) (items_then (content_of top x) rest))
    (max_id_in-max (text_at g.old) x)
    ∙ skip_rest g area.Import top x (cut_to (max_of (Some x)) p) rest
part_value-reads g top place word.Imports x p rest = skip_rest g area.Import top x p rest
part_value-reads g top place word.Symbols x p rest = skip_rest g area.Import top x p rest
part_value-reads g top place word.Declaration x p rest = skip_rest g area.Import top x p rest
part_value-reads g top place word.Other x p rest = skip_rest g area.Import top x p rest

-- a field of an import with what it means
abbrev met_part : Ground → ℕ → Option SymbolAt → ℕ → Value SymbolAt ℕ → Pending → Held
met_part g top field place x p =
    and_then (part_met (place_in field) (field_word (text_at g.old) field) p) (λ q. part_held g top place (field_word (text_at g.old) field) x q)

-- a field of an import, after its check
part_turn-reads : (g : Ground) (top : ℕ) (field : Option SymbolAt) (annotations : List SymbolAt) (place : ℕ) (x : Value SymbolAt ℕ) (p : Pending) (rest : Reading)
    → by_turn g (turn g (at area.Import p) (declaration.item_view (text_at g.old) (first_of top field annotations place x))) (items_then (content_of top x) rest)
    ≡ by_held (met_part g top field place x p) (λ q. reads g (at area.Import q) rest)
part_turn-reads g top field annotations place x p rest =
    rw (no_end (text_at g.old) x)
    (by_turn-then_turn g (part_met (place_in field) (field_word (text_at g.old) field) p)
    (λ q. part_value g place (field_word (text_at g.old) field) (head_view (text_at g.old) (head_of x)) q) (items_then (content_of top x) rest)
    ∙ (by_held-same (part_met (place_in field) (field_word (text_at g.old) field) p)
    (λ q. by_turn g (part_value g place (field_word (text_at g.old) field) (head_view (text_at g.old) (head_of x)) q) (items_then (content_of top x) rest))
    (λ q. by_held (part_held g top place (field_word (text_at g.old) field) x q) (λ r. reads g (at area.Import r) rest))
    (λ q. part_value-reads g top place (field_word (text_at g.old) field) x q rest)
    ∙ sym (by_held-and_then (part_met (place_in field) (field_word (text_at g.old) field) p)
    (λ q. part_held g top place (field_word (text_at g.old) field) x q) (λ r. reads g (at area.Import r) rest))))

-- the fields of an import, fault or not
parts-reads : (g : Ground) (top : ℕ) (members : Members SymbolAt ℕ) (p : Pending) (rest : Reading)
    → reads g (at area.Import p) (items_then (member_items top members) rest) ≡ by_held (parts_held g top members p) (λ q. reads g (at area.Import q) rest)
parts-reads g top nothing p rest = refl
parts-reads g top (member before field annotations place x) p rest =
    one_more g area.Import top before field annotations place x p (parts_held g top before p)
    (λ q. if_fine (checked g.old false (first_of top field annotations place x)) (met_part g top field place x q)) rest
    (parts-reads g top before p (items_then (value_items top field annotations place x) rest))
    (λ q. one_value g area.Import top field annotations place x q (met_part g top field place x q) rest (part_turn-reads g top field annotations place x q rest))

-- ---- the elements of `imports`

-- a container whose members are read in an area, up to its end
contained : (g : Ground) (a b : Area) (top : ℕ) (members : Members SymbolAt ℕ) (last : ℕ) (p : Pending) (h : Held) (f : Pending → Held) (rest : Reading)
    → reads g (at a p) (items_then (member_items top members) (More (bare_item value.end last top) rest))
    ≡ by_held h (λ q. reads g (at a q) (More (bare_item value.end last top) rest))
    → ((q : Pending) → reads g (at a q) (More (bare_item value.end last top) rest) ≡ by_held (f q) (λ r. reads g (at b r) rest))
    → reads g (at a p) (items_then (member_items top members ++ bare_item value.end last top ∷ []) rest) ≡ by_held (and_then h f) (λ r. reads g (at b r) rest)
contained g a b top members last p h f rest e ends =
    ap (reads g (at a p)) (items_then-append (member_items top members) (bare_item value.end last top ∷ []) rest)
    ∙ (e ∙ (by_held-same h (λ q. reads g (at a q) (More (bare_item value.end last top) rest)) (λ q. by_held (f q) (λ r. reads g (at b r) rest)) ends
    ∙ sym (by_held-and_then h f (λ r. reads g (at b r) rest))))

-- the end of an import's struct
import_end : (g : Ground) (top last : ℕ) (p : Pending) (rest : Reading) → reads g (at area.Import p) (More (bare_item value.end last top) rest)
    ≡ by_held (import_ended g p) (λ q. reads g (at area.Imports q) rest)
import_end g top last p rest = step g (at area.Import p) (bare_item value.end last top) rest
    ∙ by_turn-then_turn g (import_ended g p) (λ q. on (at area.Imports q)) rest

-- an element of `imports`, after its check
import_turn-reads : (g : Ground) (top : ℕ) (field : Option SymbolAt) (annotations : List SymbolAt) (place : ℕ) (x : Value SymbolAt ℕ) (p : Pending) (rest : Reading)
    → by_turn g (turn g (at area.Imports p) (declaration.item_view (text_at g.old) (first_of top field annotations place x))) (items_then (content_of top x) rest)
    ≡ by_held (import_held g top place x p) (λ q. reads g (at area.Imports q) rest)
import_turn-reads g top field annotations place (container kind.Struct members last) p rest =
    contained g area.Import area.Imports top members last (record p { entry = new_entry place })
    (parts_held g top members (record p { entry = new_entry place })) (λ q. import_ended g q) rest
    (parts-reads g top members (record p { entry = new_entry place }) (More (bare_item value.end last top) rest)) (λ q. import_end g top last q rest)
import_turn-reads g top field annotations place (container kind.List members last) p rest = skip_rest g area.Imports top (container kind.List members last) p rest
import_turn-reads g top field annotations place (container kind.Sexp members last) p rest = skip_rest g area.Imports top (container kind.Sexp members last) p rest
import_turn-reads g top field annotations place (scalar (value.null type)) p rest = refl
import_turn-reads g top field annotations place (scalar (value.bool truth)) p rest = refl
import_turn-reads g top field annotations place (scalar (value.int number)) p rest = refl
import_turn-reads g top field annotations place (scalar (value.float number)) p rest = refl
import_turn-reads g top field annotations place (scalar (value.decimal number)) p rest = refl
import_turn-reads g top field annotations place (scalar (value.timestamp moment)) p rest = refl
import_turn-reads g top field annotations place (scalar (value.symbol s)) p rest = refl
import_turn-reads g top field annotations place (scalar (value.string t)) p rest = refl
import_turn-reads g top field annotations place (scalar (value.clob bytes)) p rest = refl
import_turn-reads g top field annotations place (scalar (value.blob bytes)) p rest = refl

-- the elements of `imports`, fault or not
imports-reads : (g : Ground) (top : ℕ) (members : Members SymbolAt ℕ) (p : Pending) (rest : Reading)
    → reads g (at area.Imports p) (items_then (member_items top members) rest) ≡ by_held (imports_held g top members p) (λ q. reads g (at area.Imports q) rest)
imports-reads g top nothing p rest = refl
imports-reads g top (member before field annotations place x) p rest =
    one_more g area.Imports top before field annotations place x p (imports_held g top before p)
    (λ q. if_fine (checked g.old false (first_of top field annotations place x)) (import_held g top place x q)) rest
    (imports-reads g top before p (items_then (value_items top field annotations place x) rest))
    (λ q. one_value g area.Imports top field annotations place x q (import_held g top place x q) rest (import_turn-reads g top field annotations place x q rest))

-- ---- the fields of the declaration

-- nothing more after a pending table leaves it
and_then-Ok : (h : Held) → and_then h (λ p. Ok p) ≡ h
and_then-Ok (Ok p) = refl
and_then-Ok (Err why) = refl

-- a list that is read in an area, up to its end, and nothing more happens there
listed : (g : Ground) (a : Area) (top : ℕ) (members : Members SymbolAt ℕ) (last : ℕ) (p : Pending) (h : Held) (rest : Reading)
    → reads g (at a p) (items_then (member_items top members) (More (bare_item value.end last top) rest))
    ≡ by_held h (λ q. reads g (at a q) (More (bare_item value.end last top) rest))
    → ((q : Pending) → reads g (at a q) (More (bare_item value.end last top) rest) ≡ reads g (at area.Fields q) rest)
    → reads g (at a p) (items_then (member_items top members ++ bare_item value.end last top ∷ []) rest) ≡ by_held h (λ r. reads g (at area.Fields r) rest)
listed g a top members last p h rest e ends =
    contained g a area.Fields top members last p h (λ q. Ok q) rest e ends ∙ ap (λ k. by_held k (λ r. reads g (at area.Fields r) rest)) (and_then-Ok h)

-- a symbol in `imports`
keeping-reads : (g : Ground) (place : ℕ) (w : Word) (p : Pending) (rest : Reading) → by_turn g (field_value g place word.Imports (declaration.names w) p) rest
    ≡ by_held (keeping_by g place w p) (λ q. reads g (at area.Fields q) rest)
keeping-reads g place word.Declaration p rest = by_turn-then_turn g (keeping g place p) (λ q. on (at area.Fields q)) rest
keeping-reads g place word.Name p rest = refl
keeping-reads g place word.Version p rest = refl
keeping-reads g place word.MaxId p rest = refl
keeping-reads g place word.Imports p rest = refl
keeping-reads g place word.Symbols p rest = refl
keeping-reads g place word.Other p rest = refl

-- what a field of the declaration means, by its word
field_value-reads : (g : Ground) (top place : ℕ) (w : Word) (x : Value SymbolAt ℕ) (p : Pending) (rest : Reading)
    → by_turn g (field_value g place w (head_view (text_at g.old) (head_of x)) p) (items_then (content_of top x) rest)
    ≡ by_held (field_held g top place w x p) (λ q. reads g (at area.Fields q) rest)
field_value-reads g top place word.Imports (container kind.List members last) p rest =
    listed g area.Imports top members last p (imports_held g top members p) rest (imports-reads g top members p (More (bare_item value.end last top) rest))
    (λ q. refl)
field_value-reads g top place word.Imports (container kind.Sexp members last) p rest = skip_rest g area.Fields top (container kind.Sexp members last) p rest
field_value-reads g top place word.Imports (container kind.Struct members last) p rest = skip_rest g area.Fields top (container kind.Struct members last) p rest
field_value-reads g top place word.Imports (scalar (value.symbol s)) p rest = keeping-reads g place (word_in (text_at g.old) s.symbol) p rest
field_value-reads g top place word.Imports (scalar (value.null type)) p rest = refl
field_value-reads g top place word.Imports (scalar (value.bool truth)) p rest = refl
field_value-reads g top place word.Imports (scalar (value.int number)) p rest = refl
field_value-reads g top place word.Imports (scalar (value.float number)) p rest = refl
field_value-reads g top place word.Imports (scalar (value.decimal number)) p rest = refl
field_value-reads g top place word.Imports (scalar (value.timestamp moment)) p rest = refl
field_value-reads g top place word.Imports (scalar (value.string t)) p rest = refl
field_value-reads g top place word.Imports (scalar (value.clob bytes)) p rest = refl
field_value-reads g top place word.Imports (scalar (value.blob bytes)) p rest = refl
field_value-reads g top place word.Symbols (container kind.List members last) p rest =
    listed g area.Symbols top members last p (elements_held g top members p) rest
    (elements-reads g top members p (More (bare_item value.end last top) rest)) (λ q. refl)
field_value-reads g top place word.Symbols (container kind.Sexp members last) p rest = skip_rest g area.Fields top (container kind.Sexp members last) p rest
field_value-reads g top place word.Symbols (container kind.Struct members last) p rest = skip_rest g area.Fields top (container kind.Struct members last) p rest
field_value-reads g top place word.Symbols (scalar (value.null type)) p rest = refl
field_value-reads g top place word.Symbols (scalar (value.bool truth)) p rest = refl
field_value-reads g top place word.Symbols (scalar (value.int number)) p rest = refl
field_value-reads g top place word.Symbols (scalar (value.float number)) p rest = refl
field_value-reads g top place word.Symbols (scalar (value.decimal number)) p rest = refl
field_value-reads g top place word.Symbols (scalar (value.timestamp moment)) p rest = refl
field_value-reads g top place word.Symbols (scalar (value.symbol s)) p rest = refl
field_value-reads g top place word.Symbols (scalar (value.string t)) p rest = refl
field_value-reads g top place word.Symbols (scalar (value.clob bytes)) p rest = refl
field_value-reads g top place word.Symbols (scalar (value.blob bytes)) p rest = refl
field_value-reads g top place word.Name x p rest = skip_rest g area.Fields top x p rest
field_value-reads g top place word.Version x p rest = skip_rest g area.Fields top x p rest
field_value-reads g top place word.MaxId x p rest = skip_rest g area.Fields top x p rest
field_value-reads g top place word.Declaration x p rest = skip_rest g area.Fields top x p rest
field_value-reads g top place word.Other x p rest = skip_rest g area.Fields top x p rest

-- a field of the declaration with what it means
abbrev met_field : Ground → ℕ → Option SymbolAt → ℕ → Value SymbolAt ℕ → Pending → Held
met_field g top field place x p =
    and_then (field_met (place_in field) (field_word (text_at g.old) field) p) (λ q. field_held g top place (field_word (text_at g.old) field) x q)

-- a field of the declaration, after its check
field_turn-reads : (g : Ground) (top : ℕ) (field : Option SymbolAt) (annotations : List SymbolAt) (place : ℕ) (x : Value SymbolAt ℕ) (p : Pending) (rest : Reading)
    → by_turn g (turn g (at area.Fields p) (declaration.item_view (text_at g.old) (first_of top field annotations place x))) (items_then (content_of top x) rest)
    ≡ by_held (met_field g top field place x p) (λ q. reads g (at area.Fields q) rest)
field_turn-reads g top field annotations place x p rest =
    rw (no_end (text_at g.old) x)
    (by_turn-then_turn g (field_met (place_in field) (field_word (text_at g.old) field) p)
    (λ q. field_value g place (field_word (text_at g.old) field) (head_view (text_at g.old) (head_of x)) q) (items_then (content_of top x) rest)
    ∙ (by_held-same (field_met (place_in field) (field_word (text_at g.old) field) p)
    (λ q. by_turn g (field_value g place (field_word (text_at g.old) field) (head_view (text_at g.old) (head_of x)) q) (items_then (content_of top x) rest))
    (λ q. by_held (field_held g top place (field_word (text_at g.old) field) x q) (λ r. reads g (at area.Fields r) rest))
    (λ q. field_value-reads g top place (field_word (text_at g.old) field) x q rest)
    ∙ sym (by_held-and_then (field_met (place_in field) (field_word (text_at g.old) field) p)
    (λ q. field_held g top place (field_word (text_at g.old) field) x q) (λ r. reads g (at area.Fields r) rest))))

-- the fields of the declaration, fault or not
fields-reads : (g : Ground) (top : ℕ) (members : Members SymbolAt ℕ) (p : Pending) (rest : Reading)
    → reads g (at area.Fields p) (items_then (member_items top members) rest) ≡ by_held (fields_held g top members p) (λ q. reads g (at area.Fields q) rest)
fields-reads g top nothing p rest = refl
fields-reads g top (member before field annotations place x) p rest =
    one_more g area.Fields top before field annotations place x p (fields_held g top before p)
    (λ q. if_fine (checked g.old false (first_of top field annotations place x)) (met_field g top field place x q)) rest
    (fields-reads g top before p (items_then (value_items top field annotations place x) rest))
    (λ q. one_value g area.Fields top field annotations place x q (met_field g top field place x q) rest (field_turn-reads g top field annotations place x q rest))

-- the end of a declaration makes the table
made_table : (g : Ground) (h : Held) (last top : ℕ) (rest : Reading)
    → by_held h (λ q. reads g (at area.Fields q) (More (bare_item value.end last top) rest))
    ≡ by_declared (table_left g h) (λ t. users g.catalog g.limit (record { table = t; mode = plain 0 }) rest)
made_table g (Ok p) last top rest = refl
made_table g (Err why) last top rest = refl

-- a declaration from its first field to its end
declaration-reads : (g : Ground) (top last : ℕ) (members : Members SymbolAt ℕ) (rest : Reading)
    → reads g start (items_then (member_items top members ++ bare_item value.end last top ∷ []) rest)
    ≡ by_declared (declared g top members) (λ t. users g.catalog g.limit (record { table = t; mode = plain 0 }) rest)
declaration-reads g top last members rest =
    ap (reads g start) (items_then-append (member_items top members) (bare_item value.end last top ∷ []) rest)
    ∙ (fields-reads g top members nothing_yet (More (bare_item value.end last top) rest) ∙ made_table g (fields_held g top members nothing_yet) last top rest)

-- the streaming definition of a declaration gives the table that its tree gives, or its tree's first fault
pub declarations_are_read : DeclarationsAreRead
declarations_are_read catalog limit old top last members rest = declaration-reads (record { catalog = catalog; limit = limit; old = old }) top last members rest
