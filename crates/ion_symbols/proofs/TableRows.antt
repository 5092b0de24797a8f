-- Worked rows of tables, the catalogue, declarations by their trees, and the table of an output, by computing.
use Rattle.std.specs.Prelude.{◌≡◌, refl, ℕ, List, [], ◌∷◌, true, false, Option, Some, None, Ok, Err, codes}
use Rattle.ion_meter.specs.declared.fault.Reason.TheVariants as reasons
use Rattle.ion_value.specs.declared.ion_type.Kind.TheVariants as kind
use Rattle.ion_value.specs.Value as v
use Rattle.ion_value.specs.Value.{SymbolAt, Value, Members, nothing, member, container, scalar}
use Rattle.ion_symbols.specs.Table.{Shared, Table, system, catalog_cost, shared_cost, may_stand, slot_of, known, unknown, gap, above, table_cost}
use Rattle.ion_symbols.specs.Tree.{declared, next_table}
use Rattle.ion_symbols.specs.Table.{text_at}
use Rattle.ion_symbols.specs.Output.{binary_digits, probes_for, id_given, texts_cost}

-- ---- the catalogue

abbrev shared : List ℕ → ℕ → List (Option (List ℕ)) → Shared
shared name version slots = record { name = name; version = version; slots = slots }

abbrev x : Shared
x = shared (codes "x") 1 (Some (codes "p") ∷ None ∷ [])

cost_of_a_table : shared_cost x ≡ 34
cost_of_a_table = refl

cost_of_a_longer_name : shared_cost (record x { name = codes "abc" }) ≡ 36
cost_of_a_longer_name = refl

cost_of_a_catalogue : catalog_cost (x ∷ []) ≡ 66
cost_of_a_catalogue = refl

a_new_table : may_stand (x ∷ []) (record x { version = 2 }) ≡ true
a_new_table = refl

a_table_again : may_stand (x ∷ []) x ≡ false
a_table_again = refl

an_empty_name : may_stand [] (record x { name = [] }) ≡ false
an_empty_name = refl

the_system_name : may_stand [] (record x { name = codes "$ion" }) ≡ false
the_system_name = refl

version_zero : may_stand [] (record x { version = 0 }) ≡ false
version_zero = refl

the_greatest_version : may_stand [] (record x { version = 2147483647 }) ≡ true
the_greatest_version = refl

above_the_greatest_version : may_stand [] (record x { version = 2147483648 }) ≡ false
above_the_greatest_version = refl

-- ---- slots

abbrev some_table : Table
some_table = record { imports = record { slots = x.slots; count = 3 } ∷ []; locals = Some (codes "a") ∷ None ∷ [] }

a_system_text : slot_of some_table 4 ≡ known (codes "name")
a_system_text = refl

no_text_at_zero : slot_of some_table 0 ≡ unknown
no_text_at_zero = refl

an_imported_text : slot_of some_table 10 ≡ known (codes "p")
an_imported_text = refl

a_slot_without_text : slot_of some_table 11 ≡ gap
a_slot_without_text = refl

a_slot_that_fills_up : slot_of some_table 12 ≡ gap
a_slot_that_fills_up = refl

a_local_text : slot_of some_table 13 ≡ known (codes "a")
a_local_text = refl

a_local_slot_without_text : slot_of some_table 14 ≡ unknown
a_local_slot_without_text = refl

above_the_table : slot_of some_table 15 ≡ above
above_the_table = refl

cost_of_some_table : table_cost some_table ≡ 65
cost_of_some_table = refl

-- ---- declarations by their trees

abbrev at : List ℕ → ℕ → SymbolAt
at text place = record { symbol = v.Text text; place = place }

abbrev string : List ℕ → Value SymbolAt ℕ
string text = scalar (v.string text)

abbrev one : Value SymbolAt ℕ → Members SymbolAt ℕ
one value = member nothing None [] 30 value

-- `symbols:["a"]` and then `imports:$ion_symbol_table`
abbrev appending : Members SymbolAt ℕ
appending =
    member (member nothing (Some (at (codes "symbols") 20)) [] 29 (container kind.List (one (string (codes "a"))) 33)) (Some (at (codes "imports") 35)) [] 43
    (scalar (v.symbol (at (codes "$ion_symbol_table") 43)))

appended_to_the_table : next_table [] (text_at some_table) some_table appending ≡ Some (record some_table { locals = Some (codes "a") ∷ None ∷ Some (codes "a") ∷ [] })
appended_to_the_table = refl

appended_within_the_limit : declared (record { catalog = []; limit = 82; old = some_table }) 0 appending ≡ Ok (record some_table { locals = Some (codes "a") ∷ None ∷ Some (codes "a") ∷ [] })
appended_within_the_limit = refl

appended_past_the_limit : declared (record { catalog = []; limit = 81; old = some_table }) 0 appending ≡ Err (reasons.SymbolLimit, 43)
appended_past_the_limit = refl

-- `imports:[{name:"x"}]`
abbrev importing : Members SymbolAt ℕ
importing =
    member nothing (Some (at (codes "imports") 20)) [] 28
    (container kind.List (one (container kind.Struct (member nothing (Some (at (codes "name") 31)) [] 36 (string (codes "x"))) 40)) 41)

imported_whole : next_table (x ∷ []) (text_at system) system importing ≡ Some (record { imports = record { slots = x.slots; count = 2 } ∷ []; locals = [] })
imported_whole = refl

nothing_to_import : next_table [] (text_at system) system importing ≡ None
nothing_to_import = refl

nothing_to_import_refused : declared (record { catalog = []; limit = 1000; old = system }) 0 importing ≡ Err (reasons.BadTable, 30)
nothing_to_import_refused = refl

-- ---- the table of an output

first_text : id_given 100 [] (codes "b") ≡ (Some 10, codes "b" ∷ [])
first_text = refl

second_text : id_given 100 (codes "b" ∷ []) (codes "a") ≡ (Some 11, codes "b" ∷ codes "a" ∷ [])
second_text = refl

a_text_again : id_given 100 (codes "b" ∷ codes "a" ∷ codes "c" ∷ []) (codes "a") ≡ (Some 11, codes "b" ∷ codes "a" ∷ codes "c" ∷ [])
a_text_again = refl

a_text_of_the_system : id_given 0 [] (codes "symbols") ≡ (Some 7, [])
a_text_of_the_system = refl

past_the_limit : id_given 33 (codes "a" ∷ []) (codes "b") ≡ (None, codes "a" ∷ [])
past_the_limit = refl

cost_of_three : texts_cost (codes "b" ∷ codes "a" ∷ codes "c" ∷ []) ≡ 51
cost_of_three = refl

no_digits : binary_digits 0 ≡ 0
no_digits = refl

two_digits : binary_digits 3 ≡ 2
two_digits = refl

twelve_digits : binary_digits 4095 ≡ 12
twelve_digits = refl

no_probes : probes_for [] (codes "a") ≡ 0
no_probes = refl

probes_for_the_middle_one : probes_for (codes "a" ∷ codes "c" ∷ codes "e" ∷ []) (codes "c") ≡ 1
probes_for_the_middle_one = refl

probes_for_the_first : probes_for (codes "a" ∷ codes "c" ∷ codes "e" ∷ []) (codes "a") ≡ 2
probes_for_the_first = refl

probes_for_one_that_is_not_there : probes_for (codes "a" ∷ codes "c" ∷ codes "e" ∷ []) (codes "d") ≡ 2
probes_for_one_that_is_not_there = refl
