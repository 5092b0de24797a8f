-- The texts of the tables that user values are, are UTF-8.
use Rattle.std.proofs.Common.{ℕ, Bool, true, false, ◌&&◌, if◌then◌else◌, List, [], ◌∷◌, ◌++◌, Option, None, Some, IfSome, subst}
use Rattle.std.specs.List.{AllByRecursion}
use Rattle.ion_value.specs.declared.ion_type.Kind.{Kind}
use Rattle.ion_value.specs.declared.ion_type.Kind.TheVariants as kind
use Rattle.ion_value.specs.Value as value
use Rattle.ion_value.specs.Value.{UserSymbol, Value, Members, scalar, container, nothing, member, Top, tree}
use Rattle.ion_value.specs.Writable.{IsWritable, AreWritable}
use Rattle.ion_symbols.specs.declared.known_text.Word.{Word}
use Rattle.ion_symbols.specs.declared.known_text.Word.TheVariants as word
use Rattle.ion_symbols.specs.Table.{Shared, may_stand}
use Rattle.ion_symbols.specs.Declaration.{string_in}
use Rattle.ion_symbols.specs.Tree.{same_word}
use Rattle.ion_symbols.specs.CatalogItems.{user_field, is_shared}
use Rattle.ion_symbols.specs.CatalogTrees.{seen, value_of, fields_fit, elements, slots_of, shared_in, shared_of, add_table, and_tables, tables_after}
use Rattle.ion_symbols.specs.CatalogLaws.{TablesOfUsersAreText}
use Rattle.ion_symbols.specs.UserValues.{IsUser, SlotIsText, SlotsAreText, CatalogIsText}
use Rattle.ion_symbols.proofs.AllAppended.{AllByRecursion-append}
use Rattle.ion_symbols.proofs.TextTables.{FoundIsText}
use Rattle.ion_symbols.proofs.TableTexts.{or_later-if}

-- ---- one table

string_in-text : (x : Value UserSymbol ℕ) → IsWritable x → SlotIsText (string_in (seen x))
string_in-text (scalar (value.string t)) h = h.1
string_in-text x h = tt

elements-text : (kind : Kind) (members : Members UserSymbol ℕ) → AreWritable kind members → SlotsAreText (elements members)
elements-text kind nothing h = tt
elements-text kind (member before field annotations place x) h =
    AllByRecursion-append SlotIsText (elements before) (string_in (seen x) ∷ []) (elements-text kind before h.0)
    (string_in-text x h.1.1, tt)

value_of-writable : (w : Word) (kind : Kind) (members : Members UserSymbol ℕ) → AreWritable kind members
    → IfSome (value_of w members) IsWritable
value_of-writable w kind nothing h = tt
value_of-writable w kind (member before field annotations place x) h =
    or_later-if IsWritable (value_of w before) (same_word (user_field field) w) x (value_of-writable w kind before h.0) h.1.1

slots_of-text : (field : Option (Value UserSymbol ℕ)) → IfSome field IsWritable → SlotsAreText (slots_of field)
slots_of-text (Some (container kind.List members last)) h = elements-text kind.List members h
slots_of-text field h = tt

shared_of-text : (u : Top UserSymbol ℕ) → IsUser u → FoundIsText (shared_of u)
shared_of-text (tree first annotations place (container kind.Struct members last)) h =
    by (is_shared annotations && fields_fit members)
  where
    by : (b : Bool) → FoundIsText (if b then Some (shared_in members) else None)
    by true = slots_of-text (value_of word.Symbols members) (value_of-writable word.Symbols kind.Struct members h.0)
    by false = tt
shared_of-text u h = tt

-- ---- tables in order

add_table-text : (tables : List Shared) (s : Option Shared) → CatalogIsText tables → FoundIsText s
    → IfSome (add_table tables s) CatalogIsText
add_table-text tables None c h = tt
add_table-text tables (Some s) c h = by (may_stand tables s)
  where
    by : (b : Bool) → IfSome (if b then Some (tables ++ s ∷ []) else None) CatalogIsText
    by true = AllByRecursion-append (λ (s : Shared). SlotsAreText s.slots) tables (s ∷ []) c (h, tt)
    by false = tt

and_tables-text : (tables : Option (List Shared)) (later : List Shared → Option (List Shared)) → IfSome tables CatalogIsText
    → ((more : List Shared) → CatalogIsText more → IfSome (later more) CatalogIsText)
    → IfSome (and_tables tables later) CatalogIsText
and_tables-text None later h k = tt
and_tables-text (Some more) later h k = k more h

tables_after-text : (us : List (Top UserSymbol ℕ)) (tables : List Shared) → AllByRecursion IsUser us → CatalogIsText tables
    → IfSome (tables_after tables us) CatalogIsText
tables_after-text [] tables h c = c
tables_after-text (u ∷ us) tables h c =
    and_tables-text (add_table tables (shared_of u)) (λ more. tables_after more us)
    (add_table-text tables (shared_of u) c (shared_of-text u h.0))
    (λ more k. tables_after-text us more h.1 k)

pub tables_of_users_are_text : TablesOfUsersAreText
tables_of_users_are_text us tables h e = subst (λ o. IfSome o CatalogIsText) e (tables_after-text us [] h tt)
