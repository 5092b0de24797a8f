-- What is counted of a catalogue: a slot more, and a table that is whole.
use Rattle.std.proofs.Common.{◌≡◌, ℕ, ◌+◌, Bool, true, false, ◌&&◌, if◌then◌else◌, nat_le, List, [], ◌∷◌, ◌++◌, length, Option, Ok, Err, refl, ap, ◌∙◌, arith}
use Rattle.ion_meter.specs.declared.fault.Reason.TheVariants.{SymbolLimit}
use Rattle.ion_symbols.specs.declared.catalog_builder.Stage.TheVariants as stage
use Rattle.ion_symbols.specs.Table.{Shared, text_length, shared_cost, catalog_cost, is_name, may_stand}
use Rattle.ion_symbols.specs.Declaration.{string_in}
use Rattle.ion_symbols.specs.CatalogItems.{EntryView, Draft, after_tables, name_cost, counted, with_text, at, passed, then_load, element_step}
use Rattle.ion_symbols.proofs.Keeping.{cost_push}
use Rattle.ion_symbols.proofs.Catalogued.{cost_after}

-- a slot more
pub counted-text : (text : Option (List ℕ)) (d : Draft) → counted (with_text text d) ≡ counted d + (16 + text_length text)
counted-text text d = let push = cost_push d.table.slots text in omega (arith, push)

-- within the limit it is taken
pub element-taken : (limit : ℕ) (t : EntryView) (d : Draft) → nat_le (counted d + (16 + text_length (string_in t.what))) limit ≡ true
    → element_step limit t d ≡ Ok (passed t.what (at stage.Symbols (with_text (string_in t.what) d)))
element-taken limit t d fits =
    ap (λ n. then_load (if nat_le n limit then Ok (with_text (string_in t.what) d) else Err (SymbolLimit, t.place)) (λ e. Ok (passed t.what (at stage.Symbols e)))) (counted-text (string_in t.what) d)
    ∙ ap (λ b. then_load (if b then Ok (with_text (string_in t.what) d) else Err (SymbolLimit, t.place)) (λ e. Ok (passed t.what (at stage.Symbols e)))) fits

-- and beyond it it is refused
pub element-refused : (limit : ℕ) (t : EntryView) (d : Draft) → nat_le (counted d + (16 + text_length (string_in t.what))) limit ≡ false
    → element_step limit t d ≡ Err (SymbolLimit, t.place)
element-refused limit t d passes =
    ap (λ n. then_load (if nat_le n limit then Ok (with_text (string_in t.what) d) else Err (SymbolLimit, t.place)) (λ e. Ok (passed t.what (at stage.Symbols e)))) (counted-text (string_in t.what) d)
    ∙ ap (λ b. then_load (if b then Ok (with_text (string_in t.what) d) else Err (SymbolLimit, t.place)) (λ e. Ok (passed t.what (at stage.Symbols e)))) passes

-- a name that a table may have is one
named : (name : List ℕ) → is_name name ≡ true → name_cost name ≡ 32 + length name
named [] e = cc
named (b ∷ bs) e = refl

left_of : (a b : Bool) → (a && b) ≡ true → a ≡ true
left_of true b e = refl
left_of false b e = cc

-- a table that may stand has one
pub stands-named : (tables : List Shared) (s : Shared) → may_stand tables s ≡ true → is_name s.name ≡ true
stands-named tables s e = left_of (is_name s.name) _ e

-- a table that is whole is counted as before
pub counted-ended : (d : Draft) → may_stand d.tables d.table ≡ true → counted (after_tables (d.tables ++ d.table ∷ [])) ≡ counted d
counted-ended d stands =
    let all = cost_after d.tables d.table in
    let name = named d.table.name (stands-named d.tables d.table stands) in
    omega (arith, all, name)

-- and what is held then is what was held, and 32
pub held-ended : (d : Draft) → catalog_cost (d.tables ++ d.table ∷ []) ≡ (catalog_cost d.tables + shared_cost d.table) + 32
held-ended d = let all = cost_after d.tables d.table in omega (arith, all)
