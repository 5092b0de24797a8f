-- Worked rows of catalogues by their trees and by their items, by computing.
use Rattle.std.specs.Prelude.{◌≡◌, refl, ℕ, ◌+◌, List, [], ◌∷◌, true, false, Option, Some, None, Ok, Err, codes}
use Rattle.ion_meter.specs.declared.fault.Reason.TheVariants as reasons
use Rattle.ion_value.specs.declared.ion_type.IonType.TheVariants as type
use Rattle.ion_value.specs.declared.ion_type.Kind.TheVariants as kind
use Rattle.ion_value.specs.Value as v
use Rattle.ion_value.specs.Value.{UserSymbol, Known, Unknown, Value, Members, Top, nothing, member, container, scalar, tree, top_items}
use Rattle.ion_symbols.specs.declared.catalog_builder.Stage.TheVariants as stage
use Rattle.ion_symbols.specs.Table.{Shared, catalog_cost}
use Rattle.ion_symbols.specs.CatalogItems.{at, after_tables, loaded}
use Rattle.ion_symbols.specs.CatalogTrees.{tables_of, catalog_of}

abbrev string : List ℕ → Value UserSymbol ℕ
string t = scalar (v.string t)

abbrev number : ℕ → Value UserSymbol ℕ
number n = scalar (v.int (record { negative = false; magnitude = n }))

abbrev null : Value UserSymbol ℕ
null = scalar (v.null type.Null)

-- a field of a struct, and an element of a list
abbrev field : Members UserSymbol ℕ → List ℕ → ℕ → Value UserSymbol ℕ → Members UserSymbol ℕ
field before name place x = member before (Some (Known name)) [] place x

abbrev element : Members UserSymbol ℕ → ℕ → Value UserSymbol ℕ → Members UserSymbol ℕ
element before place x = member before None [] place x

abbrev list : Members UserSymbol ℕ → ℕ → Value UserSymbol ℕ
list members last = container kind.List members last

-- a struct with the annotation of shared tables, at a place
abbrev shared : ℕ → Members UserSymbol ℕ → ℕ → Top UserSymbol ℕ
shared first members last = tree first (Known (codes "$ion_shared_symbol_table") ∷ []) (first + 26) (container kind.Struct members last)

abbrev table : List ℕ → ℕ → List (Option (List ℕ)) → Shared
table name version slots = record { name = name; version = version; slots = slots }

abbrev x1 : Shared
x1 = table (codes "x") 1 (Some (codes "p") ∷ Some (codes "q") ∷ [])

-- $ion_shared_symbol_table::{name:"x",version:1,symbols:["p","q"]}
abbrev name_first : List (Top UserSymbol ℕ)
name_first =
    shared 0 (field (field (field nothing (codes "name") 32 (string (codes "x"))) (codes "version") 44 (number 1)) (codes "symbols") 54
    (list (element (element nothing 55 (string (codes "p"))) 59 (string (codes "q"))) 62)) 63 ∷ []

one_table : tables_of name_first ≡ Some (x1 ∷ [])
one_table = refl

one_table_within : catalog_of 67 name_first ≡ Ok (x1 ∷ [])
one_table_within = refl

one_table_past_the_limit : catalog_of 66 name_first ≡ Err (reasons.SymbolLimit, 59)
one_table_past_the_limit = refl

its_cost : catalog_cost (x1 ∷ []) ≡ 67
its_cost = refl

its_items : loaded 67 (top_items name_first) ≡ Ok (at stage.Outside (after_tables (x1 ∷ [])))
its_items = refl

its_items_past_the_limit : loaded 66 (top_items name_first) ≡ Err (reasons.SymbolLimit, 59)
its_items_past_the_limit = refl

-- $ion_shared_symbol_table::{symbols:["p","q"],version:1,name:"x"}
abbrev name_last : List (Top UserSymbol ℕ)
name_last =
    shared 0 (field (field (field nothing (codes "symbols") 35 (list (element (element nothing 36 (string (codes "p"))) 40 (string (codes "q"))) 43))
    (codes "version") 53 (number 1)) (codes "name") 60 (string (codes "x"))) 63 ∷ []

the_same_table : catalog_of 67 name_last ≡ Ok (x1 ∷ [])
the_same_table = refl

its_name_past_the_limit : catalog_of 66 name_last ≡ Err (reasons.SymbolLimit, 60)
its_name_past_the_limit = refl

the_same_items : loaded 67 (top_items name_last) ≡ Ok (at stage.Outside (after_tables (x1 ∷ [])))
the_same_items = refl

-- $ion_shared_symbol_table::{name:"x",version:1} $ion_shared_symbol_table::{name:"x"}
abbrev twice : List (Top UserSymbol ℕ)
twice =
    shared 0 (field (field nothing (codes "name") 32 (string (codes "x"))) (codes "version") 44 (number 1)) 45
    ∷ shared 47 (field nothing (codes "name") 79 (string (codes "x"))) 82 ∷ []

a_table_again : tables_of twice ≡ None
a_table_again = refl

a_table_again_at : catalog_of 1048576 twice ≡ Err (reasons.CatalogEntry, 47)
a_table_again_at = refl

its_items_again : loaded 1048576 (top_items twice) ≡ Err (reasons.CatalogEntry, 47)
its_items_again = refl

-- $ion_shared_symbol_table::{name:"x",version:3} []
abbrev then_a_list : List (Top UserSymbol ℕ)
then_a_list =
    shared 0 (field (field nothing (codes "name") 32 (string (codes "x"))) (codes "version") 44 (number 3)) 45 ∷ tree 47 [] 47 (list nothing 48) ∷ []

a_list : catalog_of 51 then_a_list ≡ Err (reasons.CatalogEntry, 47)
a_list = refl

-- 5
a_number : catalog_of 1048576 (tree 0 [] 0 (number 5) ∷ []) ≡ Err (reasons.CatalogEntry, 0)
a_number = refl

the_items_of_a_number : loaded 1048576 (top_items (tree 0 [] 0 (number 5) ∷ [])) ≡ Err (reasons.CatalogEntry, 0)
the_items_of_a_number = refl

-- b::$ion_shared_symbol_table::{}
another_annotation_first :
    catalog_of 1048576 (tree 0 (Known (codes "b") ∷ Known (codes "$ion_shared_symbol_table") ∷ []) 29 (container kind.Struct nothing 30) ∷ []) ≡ Err (reasons.CatalogEntry, 0)
another_annotation_first = refl

-- $ion_shared_symbol_table::{symbols:[null,{a:1}],name:"x",version:-1}
a_version_below_one_and_slots_without_text : catalog_of 1048576 (shared 0 (field (field (field nothing (codes "symbols") 35
    (list (element (element nothing 36 null) 41 (container kind.Struct (field nothing (codes "a") 44 (number 1)) 45)) 46)) (codes "name") 53 (string (codes "x")))
    (codes "version") 65 (scalar (v.int (record { negative = true; magnitude = 1 })))) 67 ∷ []) ≡ Ok (table (codes "x") 1 (None ∷ None ∷ []) ∷ [])
a_version_below_one_and_slots_without_text = refl

-- $ion_shared_symbol_table::{name:"x",imports:null}
imports_are_refused : catalog_of 1048576 (shared 0 (field (field nothing (codes "name") 32 (string (codes "x"))) (codes "imports") 44 null) 48 ∷ []) ≡ Err (reasons.CatalogEntry, 0)
imports_are_refused = refl

-- of two faults the first is named: $ion_shared_symbol_table::{name:"x",imports:null}
the_limit_before_imports : catalog_of 32 (shared 0 (field (field nothing (codes "name") 32 (string (codes "x"))) (codes "imports") 44 null) 48 ∷ []) ≡ Err (reasons.SymbolLimit, 32)
the_limit_before_imports = refl

-- $ion_shared_symbol_table::{imports:null,name:"x"}
imports_before_the_limit : catalog_of 32 (shared 0 (field (field nothing (codes "imports") 35 null) (codes "name") 45 (string (codes "x"))) 48 ∷ []) ≡ Err (reasons.CatalogEntry, 0)
imports_before_the_limit = refl

-- $ion_shared_symbol_table::{version:1}
no_name : catalog_of 1048576 (shared 0 (field nothing (codes "version") 35 (number 1)) 36 ∷ []) ≡ Err (reasons.CatalogEntry, 0)
no_name = refl

-- $ion_shared_symbol_table::{version:2147483648}
a_version_too_great : catalog_of 1048576 (shared 0 (field nothing (codes "version") 35 (number 2147483648)) 45 ∷ []) ≡ Err (reasons.CatalogEntry, 0)
a_version_too_great = refl
