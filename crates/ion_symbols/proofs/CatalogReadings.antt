-- The tables of a catalogue by its items are those by its trees, fault or not.
use Rattle.std.proofs.Common.{◌≡◌, ℕ, suc, ◌+◌, ◌-◌, Bool, true, false, ◌&&◌, if◌then◌else◌, List, [], ◌∷◌, ◌++◌, Option, Ok, Err, refl, ap, sym, ◌∙◌, arith, add-one, append_assoc}
use Rattle.ion_meter.specs.declared.fault.Reason.TheVariants.{CatalogEntry}
use Rattle.ion_value.specs.declared.ion_type.Kind.TheVariants as kind
use Rattle.ion_value.specs.Value as value
use Rattle.ion_value.specs.Value.{UserSymbol, Scalar, Value, Members, scalar, container, nothing, member, Top, version, tree, Item, bare_item, value_items, member_items, one_top, top_items}
use Rattle.ion_symbols.specs.declared.known_text.Word.{Word}
use Rattle.ion_symbols.specs.declared.known_text.Word.TheVariants as word
use Rattle.ion_symbols.specs.declared.catalog_builder.Stage.{Stage}
use Rattle.ion_symbols.specs.declared.catalog_builder.Stage.TheVariants as stage
use Rattle.ion_symbols.specs.Declaration.{is_end, string_in}
use Rattle.ion_symbols.specs.CatalogItems.{Draft, Drafted, Loading, Loaded, entry_view, is_shared, user_field, scalar_seen, at, passed, listed, then_load, and_load, load_from, field_step, element_step, within, with_text, name_met, version_met, symbols_met, table_ended}
use Rattle.ion_symbols.specs.CatalogTrees.{head_of, seen, and_draft, elements_drafted, symbols_drafted, field_drafted, fields_drafted, top_drafted, tops_drafted}
use Rattle.ion_symbols.specs.CatalogLaws.{CatalogsAreRead}

-- ---- how these fit together

-- one thing after the other
and_load-then_load : (d : Drafted) (f : Draft → Loaded) (later : Loading → Loaded) → and_load (then_load d f) later ≡ then_load d (λ e. and_load (f e) later)
and_load-then_load (Ok e) f later = refl
and_load-then_load (Err why) f later = refl

then_load-and_draft : (d : Drafted) (f : Draft → Drafted) (later : Draft → Loaded) → then_load (and_draft d f) later ≡ then_load d (λ e. then_load (f e) later)
then_load-and_draft (Ok e) f later = refl
then_load-and_draft (Err why) f later = refl

-- what goes on the same gives the same
then_load-same : (d : Drafted) (f k : Draft → Loaded) → ((e : Draft) → f e ≡ k e) → then_load d f ≡ then_load d k
then_load-same (Ok e) f k same = same e
then_load-same (Err why) f k same = refl

-- the first item of a value, and those after it up to its end
abbrev first_of : ℕ → Option UserSymbol → List UserSymbol → ℕ → Value UserSymbol ℕ → Item UserSymbol ℕ
first_of top field annotations place x = record { field = field; annotations = annotations; head = head_of x; place = place; top = top }

abbrev content_of : ℕ → Value UserSymbol ℕ → List (Item UserSymbol ℕ)
content_of top (scalar body) = []
content_of top (container kind members last) = member_items top members ++ bare_item value.end last top ∷ []

value_items-first : (top : ℕ) (field : Option UserSymbol) (annotations : List UserSymbol) (place : ℕ) (x : Value UserSymbol ℕ)
    → value_items top field annotations place x ≡ first_of top field annotations place x ∷ content_of top x
value_items-first top field annotations place (scalar body) = refl
value_items-first top field annotations place (container k members last) = refl

-- a scalar is passed over
passed-scalar : (body : Scalar UserSymbol) (s : Loading) → passed (scalar_seen body) s ≡ s
passed-scalar (value.null type) s = refl
passed-scalar (value.bool truth) s = refl
passed-scalar (value.int number) s = refl
passed-scalar (value.float number) s = refl
passed-scalar (value.decimal number) s = refl
passed-scalar (value.timestamp moment) s = refl
passed-scalar (value.symbol name) s = refl
passed-scalar (value.string t) s = refl
passed-scalar (value.clob bytes) s = refl
passed-scalar (value.blob bytes) s = refl

-- a value does not begin with an end
not_end : (x : Value UserSymbol ℕ) → is_end (seen x) ≡ false
not_end (scalar (value.null type)) = refl
not_end (scalar (value.bool truth)) = refl
not_end (scalar (value.int number)) = refl
not_end (scalar (value.float number)) = refl
not_end (scalar (value.decimal number)) = refl
not_end (scalar (value.timestamp moment)) = refl
not_end (scalar (value.symbol name)) = refl
not_end (scalar (value.string t)) = refl
not_end (scalar (value.clob bytes)) = refl
not_end (scalar (value.blob bytes)) = refl
not_end (container k members last) = refl

-- ---- what means nothing

-- where n + 1 containers are open that mean nothing
abbrev deep : Stage → ℕ → Draft → Loading
deep a n d = record { stage = a; inside = suc n; draft = d }

-- a container that begins opens the next level
deeper : (a : Stage) (n : ℕ) (d : Draft) → record { stage = a; inside = suc n + 1; draft = d } ≡ deep a (suc n) d
deeper a n d = ap (λ k. record { stage = a; inside = k; draft = d }) (add-one (suc n))

-- and its end closes it
back : (a : Stage) (n : ℕ) (d : Draft) → record { stage = a; inside = suc (suc n) - 1; draft = d } ≡ deep a n d
back a n d = let e : suc (suc n) - 1 ≡ suc n = omega arith in ap (λ k. record { stage = a; inside = k; draft = d }) e

mutual
  ignored-value : (limit : ℕ) (a : Stage) (n : ℕ) (d : Draft) (top : ℕ) (field : Option UserSymbol) (annotations : List UserSymbol) (place : ℕ) (x : Value UserSymbol ℕ)
      (rest : List (Item UserSymbol ℕ)) → load_from limit (deep a n d) (value_items top field annotations place x ++ rest) ≡ load_from limit (deep a n d) rest
  ignored-value limit a n d top field annotations place (scalar body) rest = ap (λ s. load_from limit s rest) (passed-scalar body (deep a n d))
  ignored-value limit a n d top field annotations place (container k members last) rest =
      ap (λ s. load_from limit s ((member_items top members ++ bare_item value.end last top ∷ []) ++ rest)) (deeper a n d)
      ∙ (ap (load_from limit (deep a (suc n) d)) (append_assoc (member_items top members) (bare_item value.end last top ∷ []) rest)
      ∙ (ignored-members limit a (suc n) d top members (bare_item value.end last top ∷ rest)
      ∙ ap (λ s. load_from limit s rest) (back a n d)))

  ignored-members : (limit : ℕ) (a : Stage) (n : ℕ) (d : Draft) (top : ℕ) (members : Members UserSymbol ℕ) (rest : List (Item UserSymbol ℕ))
      → load_from limit (deep a n d) (member_items top members ++ rest) ≡ load_from limit (deep a n d) rest
  ignored-members limit a n d top nothing rest = refl
  ignored-members limit a n d top (member before field annotations place x) rest =
      ap (load_from limit (deep a n d)) (append_assoc (member_items top before) (value_items top field annotations place x) rest)
      ∙ (ignored-members limit a n d top before (value_items top field annotations place x ++ rest)
      ∙ ignored-value limit a n d top field annotations place x rest)

-- the rest of a value whose first item was passed over
ignored-rest : (limit : ℕ) (a : Stage) (d : Draft) (top : ℕ) (x : Value UserSymbol ℕ) (rest : List (Item UserSymbol ℕ))
    → load_from limit (passed (seen x) (at a d)) (content_of top x ++ rest) ≡ load_from limit (at a d) rest
ignored-rest limit a d top (scalar body) rest = ap (λ s. load_from limit s rest) (passed-scalar body (at a d))
ignored-rest limit a d top (container k members last) rest =
    ap (load_from limit (deep a 0 d)) (append_assoc (member_items top members) (bare_item value.end last top ∷ []) rest)
    ∙ ignored-members limit a 0 d top members (bare_item value.end last top ∷ rest)

-- ---- the list `symbols`

-- an item that is no end goes the other way
other_way : (b : Bool) (one other : Loaded) → b ≡ false → (if b then one else other) ≡ other
other_way true one other e = cc
other_way false one other e = refl

element-read : (limit : ℕ) (d : Draft) (top : ℕ) (field : Option UserSymbol) (annotations : List UserSymbol) (place : ℕ) (x : Value UserSymbol ℕ)
    (rest : List (Item UserSymbol ℕ)) → load_from limit (at stage.Symbols d) (value_items top field annotations place x ++ rest)
    ≡ then_load (within limit place (with_text (string_in (seen x)) d)) (λ e. load_from limit (at stage.Symbols e) rest)
element-read limit d top field annotations place x rest =
    ap (λ is. load_from limit (at stage.Symbols d) (is ++ rest)) (value_items-first top field annotations place x)
    ∙ (ap (λ s. and_load s (λ t. load_from limit t (content_of top x ++ rest)))
    (other_way (is_end (seen x)) (Ok (at stage.Fields d)) (element_step limit (entry_view (first_of top field annotations place x)) d) (not_end x))
    ∙ (and_load-then_load (within limit place (with_text (string_in (seen x)) d)) (λ e. Ok (passed (seen x) (at stage.Symbols e))) (λ t. load_from limit t (content_of top x ++ rest))
    ∙ then_load-same (within limit place (with_text (string_in (seen x)) d)) (λ e. load_from limit (passed (seen x) (at stage.Symbols e)) (content_of top x ++ rest))
    (λ e. load_from limit (at stage.Symbols e) rest) (λ e. ignored-rest limit stage.Symbols e top x rest)))

elements-read : (limit : ℕ) (d : Draft) (top : ℕ) (members : Members UserSymbol ℕ) (rest : List (Item UserSymbol ℕ))
    → load_from limit (at stage.Symbols d) (member_items top members ++ rest)
    ≡ then_load (elements_drafted limit members d) (λ e. load_from limit (at stage.Symbols e) rest)
elements-read limit d top nothing rest = refl
elements-read limit d top (member before field annotations place x) rest =
    ap (load_from limit (at stage.Symbols d)) (append_assoc (member_items top before) (value_items top field annotations place x) rest)
    ∙ (elements-read limit d top before (value_items top field annotations place x ++ rest)
    ∙ (then_load-same (elements_drafted limit before d) (λ e. load_from limit (at stage.Symbols e) (value_items top field annotations place x ++ rest))
    (λ e. then_load (within limit place (with_text (string_in (seen x)) e)) (λ g. load_from limit (at stage.Symbols g) rest))
    (λ e. element-read limit e top field annotations place x rest)
    ∙ sym (then_load-and_draft (elements_drafted limit before d) (λ e. within limit place (with_text (string_in (seen x)) e)) (λ g. load_from limit (at stage.Symbols g) rest))))

-- the value of `symbols`, after its first item
symbols-read : (limit : ℕ) (d : Draft) (top : ℕ) (x : Value UserSymbol ℕ) (rest : List (Item UserSymbol ℕ))
    → load_from limit (listed (seen x) d) (content_of top x ++ rest) ≡ then_load (symbols_drafted limit x d) (λ e. load_from limit (at stage.Fields e) rest)
symbols-read limit d top (scalar (value.null type)) rest = refl
symbols-read limit d top (scalar (value.bool truth)) rest = refl
symbols-read limit d top (scalar (value.int number)) rest = refl
symbols-read limit d top (scalar (value.float number)) rest = refl
symbols-read limit d top (scalar (value.decimal number)) rest = refl
symbols-read limit d top (scalar (value.timestamp moment)) rest = refl
symbols-read limit d top (scalar (value.symbol name)) rest = refl
symbols-read limit d top (scalar (value.string t)) rest = refl
symbols-read limit d top (scalar (value.clob bytes)) rest = refl
symbols-read limit d top (scalar (value.blob bytes)) rest = refl
symbols-read limit d top (container kind.List members last) rest =
    ap (load_from limit (at stage.Symbols d)) (append_assoc (member_items top members) (bare_item value.end last top ∷ []) rest)
    ∙ elements-read limit d top members (bare_item value.end last top ∷ rest)
symbols-read limit d top (container kind.Sexp members last) rest = ignored-rest limit stage.Fields d top (container kind.Sexp members last) rest
symbols-read limit d top (container kind.Struct members last) rest = ignored-rest limit stage.Fields d top (container kind.Struct members last) rest

-- ---- a field

-- the value of `name` has one item, or is refused
name-read : (limit : ℕ) (d : Draft) (top place : ℕ) (x : Value UserSymbol ℕ) (rest : List (Item UserSymbol ℕ))
    → then_load (name_met limit place top (seen x) d) (λ e. load_from limit (at stage.Fields e) (content_of top x ++ rest))
    ≡ then_load (name_met limit place top (seen x) d) (λ e. load_from limit (at stage.Fields e) rest)
name-read limit d top place (scalar body) rest = refl
name-read limit d top place (container k members last) rest = refl

word-read : (limit : ℕ) (d : Draft) (top : ℕ) (field : Option UserSymbol) (annotations : List UserSymbol) (place : ℕ) (x : Value UserSymbol ℕ)
    (rest : List (Item UserSymbol ℕ)) (w : Word) → and_load (field_step limit (entry_view (first_of top field annotations place x)) d w) (λ t. load_from limit t (content_of top x ++ rest))
    ≡ then_load (field_drafted limit top place x d w) (λ e. load_from limit (at stage.Fields e) rest)
word-read limit d top field annotations place x rest word.Name =
    and_load-then_load (name_met limit place top (seen x) d) (λ e. Ok (at stage.Fields e)) (λ t. load_from limit t (content_of top x ++ rest))
    ∙ name-read limit d top place x rest
word-read limit d top field annotations place x rest word.Version =
    and_load-then_load (version_met top (seen x) d) (λ e. Ok (passed (seen x) (at stage.Fields e))) (λ t. load_from limit t (content_of top x ++ rest))
    ∙ then_load-same (version_met top (seen x) d) (λ e. load_from limit (passed (seen x) (at stage.Fields e)) (content_of top x ++ rest))
    (λ e. load_from limit (at stage.Fields e) rest) (λ e. ignored-rest limit stage.Fields e top x rest)
word-read limit d top field annotations place x rest word.Symbols =
    and_load-then_load (symbols_met top d) (λ e. Ok (listed (seen x) e)) (λ t. load_from limit t (content_of top x ++ rest))
    ∙ (then_load-same (symbols_met top d) (λ e. load_from limit (listed (seen x) e) (content_of top x ++ rest))
    (λ e. then_load (symbols_drafted limit x e) (λ g. load_from limit (at stage.Fields g) rest)) (λ e. symbols-read limit e top x rest)
    ∙ sym (then_load-and_draft (symbols_met top d) (λ e. symbols_drafted limit x e) (λ g. load_from limit (at stage.Fields g) rest)))
word-read limit d top field annotations place x rest word.Imports = refl
word-read limit d top field annotations place x rest word.MaxId = ignored-rest limit stage.Fields d top x rest
word-read limit d top field annotations place x rest word.Declaration = ignored-rest limit stage.Fields d top x rest
word-read limit d top field annotations place x rest word.Other = ignored-rest limit stage.Fields d top x rest

field-read : (limit : ℕ) (d : Draft) (top : ℕ) (field : Option UserSymbol) (annotations : List UserSymbol) (place : ℕ) (x : Value UserSymbol ℕ)
    (rest : List (Item UserSymbol ℕ)) → load_from limit (at stage.Fields d) (value_items top field annotations place x ++ rest)
    ≡ then_load (field_drafted limit top place x d (user_field field)) (λ e. load_from limit (at stage.Fields e) rest)
field-read limit d top field annotations place x rest =
    ap (λ is. load_from limit (at stage.Fields d) (is ++ rest)) (value_items-first top field annotations place x)
    ∙ (ap (λ s. and_load s (λ t. load_from limit t (content_of top x ++ rest)))
    (other_way (is_end (seen x)) (then_load (table_ended top d) (λ e. Ok (at stage.Outside e))) (field_step limit (entry_view (first_of top field annotations place x)) d (user_field field)) (not_end x))
    ∙ word-read limit d top field annotations place x rest (user_field field))

fields-read : (limit : ℕ) (d : Draft) (top : ℕ) (members : Members UserSymbol ℕ) (rest : List (Item UserSymbol ℕ))
    → load_from limit (at stage.Fields d) (member_items top members ++ rest)
    ≡ then_load (fields_drafted limit top members d) (λ e. load_from limit (at stage.Fields e) rest)
fields-read limit d top nothing rest = refl
fields-read limit d top (member before field annotations place x) rest =
    ap (load_from limit (at stage.Fields d)) (append_assoc (member_items top before) (value_items top field annotations place x) rest)
    ∙ (fields-read limit d top before (value_items top field annotations place x ++ rest)
    ∙ (then_load-same (fields_drafted limit top before d) (λ e. load_from limit (at stage.Fields e) (value_items top field annotations place x ++ rest))
    (λ e. then_load (field_drafted limit top place x e (user_field field)) (λ g. load_from limit (at stage.Fields g) rest))
    (λ e. field-read limit e top field annotations place x rest)
    ∙ sym (then_load-and_draft (fields_drafted limit top before d) (λ e. field_drafted limit top place x e (user_field field)) (λ g. load_from limit (at stage.Fields g) rest))))

-- ---- values at top level

-- a struct that is a table, or one that is none
struct-read : (limit : ℕ) (d : Draft) (first : ℕ) (members : Members UserSymbol ℕ) (last : ℕ) (rest : List (Item UserSymbol ℕ)) (b : Bool)
    → and_load (if b && true then Ok (at stage.Fields d) else Err (CatalogEntry, first)) (λ t. load_from limit t ((member_items first members ++ bare_item value.end last first ∷ []) ++ rest))
    ≡ then_load (if b then and_draft (fields_drafted limit first members d) (λ e. table_ended first e) else Err (CatalogEntry, first)) (λ e. load_from limit (at stage.Outside e) rest)
struct-read limit d first members last rest true =
    ap (load_from limit (at stage.Fields d)) (append_assoc (member_items first members) (bare_item value.end last first ∷ []) rest)
    ∙ (fields-read limit d first members (bare_item value.end last first ∷ rest)
    ∙ (then_load-same (fields_drafted limit first members d) (λ e. load_from limit (at stage.Fields e) (bare_item value.end last first ∷ rest))
    (λ e. then_load (table_ended first e) (λ g. load_from limit (at stage.Outside g) rest))
    (λ e. and_load-then_load (table_ended first e) (λ g. Ok (at stage.Outside g)) (λ t. load_from limit t rest))
    ∙ sym (then_load-and_draft (fields_drafted limit first members d) (λ e. table_ended first e) (λ g. load_from limit (at stage.Outside g) rest))))
struct-read limit d first members last rest false = refl

-- what is no struct is no table
no_struct : (limit : ℕ) (first : ℕ) (d : Draft) (rest : List (Item UserSymbol ℕ)) (b : Bool)
    → and_load (if b && false then Ok (at stage.Fields d) else Err (CatalogEntry, first)) (λ t. load_from limit t rest) ≡ Err (CatalogEntry, first)
no_struct limit first d rest true = refl
no_struct limit first d rest false = refl

top-read : (limit : ℕ) (d : Draft) (u : Top UserSymbol ℕ) (rest : List (Item UserSymbol ℕ))
    → load_from limit (at stage.Outside d) (one_top u ++ rest) ≡ then_load (top_drafted limit u d) (λ e. load_from limit (at stage.Outside e) rest)
top-read limit d (version place) rest = refl
top-read limit d (tree first annotations place (container kind.Struct members last)) rest = struct-read limit d first members last rest (is_shared annotations)
top-read limit d (tree first annotations place (container kind.List members last)) rest =
    no_struct limit first d ((member_items first members ++ bare_item value.end last first ∷ []) ++ rest) (is_shared annotations)
top-read limit d (tree first annotations place (container kind.Sexp members last)) rest =
    no_struct limit first d ((member_items first members ++ bare_item value.end last first ∷ []) ++ rest) (is_shared annotations)
top-read limit d (tree first annotations place (scalar (value.null type))) rest = no_struct limit first d rest (is_shared annotations)
top-read limit d (tree first annotations place (scalar (value.bool truth))) rest = no_struct limit first d rest (is_shared annotations)
top-read limit d (tree first annotations place (scalar (value.int number))) rest = no_struct limit first d rest (is_shared annotations)
top-read limit d (tree first annotations place (scalar (value.float number))) rest = no_struct limit first d rest (is_shared annotations)
top-read limit d (tree first annotations place (scalar (value.decimal number))) rest = no_struct limit first d rest (is_shared annotations)
top-read limit d (tree first annotations place (scalar (value.timestamp moment))) rest = no_struct limit first d rest (is_shared annotations)
top-read limit d (tree first annotations place (scalar (value.symbol name))) rest = no_struct limit first d rest (is_shared annotations)
top-read limit d (tree first annotations place (scalar (value.string t))) rest = no_struct limit first d rest (is_shared annotations)
top-read limit d (tree first annotations place (scalar (value.clob bytes))) rest = no_struct limit first d rest (is_shared annotations)
top-read limit d (tree first annotations place (scalar (value.blob bytes))) rest = no_struct limit first d rest (is_shared annotations)

tops-read : (limit : ℕ) (d : Draft) (us : List (Top UserSymbol ℕ))
    → load_from limit (at stage.Outside d) (top_items us) ≡ then_load (tops_drafted limit us d) (λ e. Ok (at stage.Outside e))
tops-read limit d [] = refl
tops-read limit d (u ∷ us) =
    top-read limit d u (top_items us)
    ∙ (then_load-same (top_drafted limit u d) (λ e. load_from limit (at stage.Outside e) (top_items us))
    (λ e. then_load (tops_drafted limit us e) (λ g. Ok (at stage.Outside g))) (λ e. tops-read limit e us)
    ∙ sym (then_load-and_draft (top_drafted limit u d) (λ e. tops_drafted limit us e) (λ g. Ok (at stage.Outside g))))

pub catalogs_are_read : CatalogsAreRead
catalogs_are_read limit us = tops-read limit _ us
