-- Worked rows of trees that are in order, and of declarations that are not though their table is within the limit.
use Rattle.std.proofs.Common.{inl, inr, arith}
use Rattle.std.specs.Prelude.{◌≡◌, ◌<◌, refl, codes, ℕ, List, [], ◌∷◌, Some, None}
use Rattle.ion_meter.specs.declared.fault.Reason.TheVariants.{BadTable, SymbolLimit}
use Rattle.ion_meter.specs.declared.limits.Limits.{Limits}
use Rattle.ion_value.specs.declared.ion_type.Kind.TheVariants as kind
use Rattle.ion_value.specs.Outcome.{Accepted, Rejected}
use Rattle.ion_value.specs.Value as value
use Rattle.ion_value.specs.Value.{SymbolAt, Members, Value, Top, scalar, container, nothing, member, tree}
use Rattle.ion_symbols.specs.Counted.{fields_kept}
use Rattle.ion_symbols.specs.Declaration.{Ground}
use Rattle.ion_symbols.specs.Laws.{IsDoubled, SomeAbove, AnyAbove, fields_slots}
use Rattle.ion_symbols.specs.Table.{system, text_at}
use Rattle.ion_transcode.specs.declared.to.To.TheVariants as to
use Rattle.ion_transcode.specs.AcceptedTrees.{IsInOrder, TreesAreInOrder}
use Rattle.ion_transcode.proofs.TopRows.{told, usual}

abbrev with_symbols : ℕ → Limits
with_symbols most = record usual { symbols = most }

-- ---- a symbol and its declaration, at the limit

abbrev named : List ℕ → ℕ → SymbolAt
named t place = record { symbol = value.Text t; place = place }

abbrev text_a : Value SymbolAt ℕ
text_a = scalar (value.string (codes "a"))

abbrev its_members : Members SymbolAt ℕ
its_members = member nothing (Some (named (codes "symbols") 20)) [] 28 (container kind.List (member nothing None [] 29 text_a) 32)

abbrev its_annotations : List SymbolAt
its_annotations = named (codes "$ion_symbol_table") 0 ∷ []

abbrev first_symbol : SymbolAt
first_symbol = record { symbol = value.Id 10; place = 35 }

abbrev a_declared : List (Top SymbolAt ℕ)
a_declared = tree 0 its_annotations 19 (container kind.Struct its_members 33) ∷ tree 35 [] 35 (scalar (value.symbol first_symbol)) ∷ []

abbrev ground : Ground
ground = record { catalog = []; limit = 17; old = system }

none-named : AnyAbove system its_annotations → ⊥
none-named (inl h) = h
none-named (inr h) = h

none-above : SomeAbove system its_members → ⊥
none-above (inl h) = h
none-above (inr (inl h)) = h
none-above (inr (inr (inl h))) = h
none-above (inr (inr (inr (inl h)))) = h
none-above (inr (inr (inr (inr (inl h))))) = h
none-above (inr (inr (inr (inr (inr (inl h)))))) = h
none-above (inr (inr (inr (inr (inr (inr h)))))) = h

none-twice : IsDoubled (text_at system) its_members → ⊥
none-twice (inl h) = let none : 1 < 0 = h in omega (arith, none)
none-twice (inr (inl h)) = let one : 1 < 1 = h in omega (arith, one)
none-twice (inr (inr h)) = h

its-cost : fields_kept ground its_members ≡ 17
its-cost = refl

its-slots : fields_slots ground its_members ≡ 1
its-slots = refl

in-order : TreesAreInOrder [] 17 system a_declared
in-order =
    let first : IsInOrder ground its_annotations its_members = record {
      named = none-named;
      below = none-above;
      single = none-twice;
      cost = omega (arith, its-cost);
      names = (tt, tt);
      count = omega (arith, its-slots);
    } in
    (first, (tt, tt, tt))

it_is_shown : told [] (with_symbols 17) to.Text (codes "$ion_symbol_table::{symbols:[\"a\"]} $10") ≡ (codes "a\n", Accepted 1)
unfolding told
it_is_shown = refl

-- ---- a field that stands twice, and a name that is longer than the limit

a_field_twice : told [] usual to.Text (codes "$ion_symbol_table::{symbols:null,symbols:[\"b\"]}") ≡ ([], Rejected BadTable 33)
unfolding told
a_field_twice = refl

a_max_id_twice : told [] usual to.Text (codes "$ion_symbol_table::{imports:[{name:\"x\",max_id:1,max_id:1}]}") ≡ ([], Rejected BadTable 48)
unfolding told
a_max_id_twice = refl

a_long_name : told [] (with_symbols 32) to.Text (codes "$ion_symbol_table::{imports:[{name:\"abcdefghijklmnopqrstuvwxyzabcdefg\",max_id:1}]}") ≡ ([], Rejected SymbolLimit 35)
unfolding told
a_long_name = refl

-- ---- an import without a name, for which nothing is counted; and one of the least cost, which is counted 32 and not its name

an_import_without_a_name : told [] (with_symbols 31) to.Text (codes "$ion_symbol_table::{imports:[{}]}") ≡ ([], Accepted 0)
unfolding told
an_import_without_a_name = refl

abbrev nameless_imports : Members SymbolAt ℕ
nameless_imports = member nothing (Some (named (codes "imports") 20)) [] 28 (container kind.List (member nothing None [] 29 (container kind.Struct nothing 30)) 31)

nothing-counted : fields_kept ground nameless_imports ≡ 0
nothing-counted = refl

an_import_at_its_cost : told [] (with_symbols 32) to.Text (codes "$ion_symbol_table::{imports:[{name:\"abcdefghijklmnopqrstuvwxyzabcdef\",max_id:1}]}") ≡ ([], Accepted 0)
unfolding told
an_import_at_its_cost = refl
