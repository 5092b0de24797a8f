-- What is proved of the definitions of a catalogue: laws that contracts cite.
use Rattle.std.specs.Prelude.{◌≡◌, ◌↔◌, ℕ, ◌+◌, ◌<◌, ◌≤◌, List, [], ◌∷◌, ◌++◌, Some, None, Ok, Err}
use Rattle.std.specs.List.{AllByRecursion}
use Rattle.ion_meter.specs.declared.fault.Reason.{Reason}
use Rattle.ion_meter.specs.declared.fault.Reason.TheVariants.{CatalogEntry, SymbolLimit}
use Rattle.ion_value.specs.declared.ion_type.Kind.TheVariants as kind
use Rattle.ion_value.specs.Value.{UserSymbol, container, Top, version, tree, top_items}
use Rattle.ion_symbols.specs.declared.catalog_builder.Stage.TheVariants as stage
use Rattle.ion_symbols.specs.Table.{Shared, slots_cost, catalog_cost}
use Rattle.ion_symbols.specs.CatalogItems.{after_tables, name_cost, at, then_load, loaded}
use Rattle.ion_symbols.specs.CatalogTrees.{shared_in, shared_of, add_table, tops_drafted, tables_of, catalog_of}
use Rattle.ion_symbols.specs.UserValues.{IsUser, CatalogIsText}

-- the items of whole values lead to what their trees give: the same tables, or the same reason and place
abbrev pub CatalogsAreRead : Type 0
CatalogsAreRead =
    (limit : ℕ) (us : List (Top UserSymbol ℕ)) → loaded limit (top_items us) ≡ then_load (tops_drafted limit us (after_tables [])) (λ d. Ok (at stage.Outside d))

-- and what they give without a fault are the tables of the values, within the limit; values that are such tables are without a fault
abbrev pub CatalogsAreTables : Type 0
CatalogsAreTables =
    (limit : ℕ) (us : List (Top UserSymbol ℕ)) (tables : List Shared)
    → (catalog_of limit us ≡ Ok tables) ↔ ((tables_of us ≡ Some tables) × (catalog_cost tables ≤ limit))

-- where a user value begins
abbrev pub top_place : Top UserSymbol ℕ → ℕ
top_place (tree first annotations place x) = first
top_place (version place) = place

-- what the name and the slots of a user value cost, whether or not it is a table
abbrev pub entry_cost : Top UserSymbol ℕ → ℕ
entry_cost (tree first annotations place (container kind.Struct members last)) = name_cost (shared_in members).name + slots_cost (shared_in members).slots
entry_cost _ = 0

-- after tables a value is refused where it begins, if it is no table or its table may not stand there; or its name and slots cost more than the
-- limit with them
pub data EntryAtFault (limit : ℕ) (tables : List Shared) (u : Top UserSymbol ℕ) (place : ℕ) : Reason → Type 0 where
  no_table : place ≡ top_place u → add_table tables (shared_of u) ≡ None → EntryAtFault limit tables u place CatalogEntry
  costly : limit < catalog_cost tables + entry_cost u → EntryAtFault limit tables u place SymbolLimit

-- it is one of the values, and those before it are tables within the limit
pub record EntryRefused (limit : ℕ) (us : List (Top UserSymbol ℕ)) (reason : Reason) (place : ℕ) : Type 0 where
  pub before : List (Top UserSymbol ℕ)
  pub entry : Top UserSymbol ℕ
  pub rest : List (Top UserSymbol ℕ)
  pub tables : List Shared
  pub values_are : us ≡ before ++ entry ∷ rest
  pub tables_are : tables_of before ≡ Some tables
  pub cheap : catalog_cost tables ≤ limit
  pub fault : EntryAtFault limit tables entry place reason

-- values are refused for one of them
abbrev pub WhyCatalogsAreRefused : Type 0
WhyCatalogsAreRefused =
    (limit : ℕ) (us : List (Top UserSymbol ℕ)) (reason : Reason) (place : ℕ) → catalog_of limit us ≡ Err (reason, place)
    → EntryRefused limit us reason place

-- the texts of the tables that user values are, are UTF-8
abbrev pub TablesOfUsersAreText : Type 0
TablesOfUsersAreText =
    (us : List (Top UserSymbol ℕ)) (tables : List Shared) → AllByRecursion IsUser us → tables_of us ≡ Some tables → CatalogIsText tables
