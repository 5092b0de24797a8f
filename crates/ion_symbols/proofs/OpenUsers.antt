-- The items of user values up to a place where containers are open.
use Rattle.std.proofs.Common.{◌≡◌, ℕ, suc, ◌+◌, Bool, true, false, List, [], ◌∷◌, ◌++◌, map, Some, None, refl, ap, sym, ◌∙◌, append-nil, add-one}
use Rattle.std.specs.Prelude.{◌&&◌}
use Rattle.std.proofs.lemmas.List.{map-append}
use Rattle.ion_value.specs.declared.ion_type.Kind.{Kind}
use Rattle.ion_value.specs.declared.ion_type.Kind.TheVariants as kind
use Rattle.ion_value.specs.Value as value
use Rattle.ion_value.specs.Value.{SymbolAt, Members, container, PlacedItem, member_items, top_items, map_item}
use Rattle.ion_value.specs.Path.{Nest, outermost, inner, begin_item, nest_items}
use Rattle.ion_value.specs.Reading.{Reading, Finished, items_then}
use Rattle.ion_symbols.specs.Table.{Shared, Table, system, text_at}
use Rattle.ion_symbols.specs.Declaration.{word_in}
use Rattle.ion_symbols.specs.Users.{resolve, is_struct, declares, is_declaration}
use Rattle.ion_symbols.specs.Tree.{declares_table, user_at}
use Rattle.ion_symbols.specs.Laws.{WhatIsDeclared, map_nest, open_declaration, OpenUsersAreRead}
use Rattle.ion_value.specs.Value.{user_item}
use Rattle.ion_value.proofs.Readings.{items_then-append}
use Rattle.ion_symbols.proofs.OpenDeclarations.{nothing_given}
use Rattle.ion_symbols.proofs.UserReadings.{sees, Passes, resolve-seen_all, member_items-map, one_item, not_at_top, both_pass, at_level, members_pass, tops_are_read, none_later}

-- how many containers are open around the innermost
level : Nest SymbolAt ℕ → ℕ
level (outermost annotations place k members) = 0
level (inner around field annotations place k members) = suc (level around)

-- a value that is no declaration begins none
no_declaration : (t : Table) (annotations : List SymbolAt) (k : Kind) (members : Members SymbolAt ℕ) (last : ℕ)
    → declares_table t annotations (container k members last) ≡ None → is_struct (value.begin k) && declares t annotations ≡ false
no_declaration t annotations kind.List members last e = refl
no_declaration t annotations kind.Sexp members last e = refl
no_declaration t [] kind.Struct members last e = refl
no_declaration t (s ∷ annotations) kind.Struct members last e = by_word (is_declaration (word_in (text_at t) s.symbol)) refl
  where
    by_word : (b : Bool) → is_declaration (word_in (text_at t) s.symbol) ≡ b → is_declaration (word_in (text_at t) s.symbol) ≡ false
    by_word true is = let some : Some members ≡ None = rw is at e in absurd (cc some)
    by_word false is = is

-- the items of open containers are accepted
nest_passes : (catalog : List Shared) (limit : ℕ) (t : Table) (first : ℕ) (nest : Nest SymbolAt ℕ) (rest : Reading) (items : List PlacedItem)
    → open_declaration t nest ≡ None → sees catalog limit t 0 (items_then (nest_items first nest) rest) ≡ items_then items Finished
    → Passes catalog limit t (suc (level nest)) (nest_items first nest) rest items
unfolding level
nest_passes catalog limit t first (outermost annotations place k members) rest items none e =
    let begins : PlacedItem = begin_item first None annotations place k in
    let p : Passes catalog limit t 1 (begins ∷ []) (items_then (member_items first members) rest) items =
    at_level catalog limit t (0 + 1) 1 (begins ∷ []) (items_then (member_items first members) rest) items (add-one 0)
    (one_item catalog limit t 0 begins (items_then (member_items first members) rest) items refl (no_declaration t annotations k members place none) e) in
    both_pass catalog limit t 1 1 (begins ∷ []) (member_items first members) rest items p (members_pass catalog limit t 0 first members rest p.later p.goes_on)
nest_passes catalog limit t first (inner around field annotations place k members) rest items none e =
    let begins : PlacedItem = begin_item first field annotations place k in
    let n : ℕ = suc (level around) in
    let p : Passes catalog limit t n (nest_items first around) (items_then (begins ∷ member_items first members) rest) items =
    nest_passes catalog limit t first around (items_then (begins ∷ member_items first members) rest) items none
    (ap (sees catalog limit t 0) (sym (items_then-append (nest_items first around) (begins ∷ member_items first members) rest)) ∙ e) in
    let q : Passes catalog limit t (suc n) (begins ∷ []) (items_then (member_items first members) rest) p.later =
    at_level catalog limit t (n + 1) (suc n) (begins ∷ []) (items_then (member_items first members) rest) p.later (add-one n)
    (one_item catalog limit t n begins (items_then (member_items first members) rest) p.later refl
    (not_at_top (level around) (is_struct (value.begin k) && declares t annotations)) p.goes_on) in
    both_pass catalog limit t n (suc n) (nest_items first around) (begins ∷ member_items first members) rest items p
    (both_pass catalog limit t (suc n) (suc n) (begins ∷ []) (member_items first members) rest p.later q
    (members_pass catalog limit t n first members rest q.later q.goes_on))

-- their items as a user knows them
nest_items-map : {S T : Type 0} (f : S → T) (first : ℕ) (nest : Nest S ℕ) → map (map_item f (λ (p : ℕ). p)) (nest_items first nest) ≡ nest_items first (map_nest f nest)
nest_items-map f first (outermost annotations place k members) = rw (member_items-map f first members) refl
nest_items-map f first (inner around field annotations place k members) =
    map-append (map_item f (λ (p : ℕ). p)) (nest_items first around) (begin_item first field annotations place k ∷ member_items first members)
    ∙ rw (nest_items-map f first around, member_items-map f first members) refl

pub open_users_are_read_by : WhatIsDeclared → OpenUsersAreRead
open_users_are_read_by what catalog limit tops first nest items e =
    let ending : Reading = items_then (nest_items first nest) Finished in
    let r = tops_are_read what catalog limit tops ending system items
    (ap (sees catalog limit system 0) (sym (items_then-append (top_items tops) (nest_items first nest) Finished)) ∙ e) in (
      r.us,
      r.table,
      r.says,
      r.table_is,
      (λ none.
          let p = nest_passes catalog limit r.table first nest Finished r.later none r.goes_on in
          let all : r.later ≡ map (resolve r.table) (nest_items first nest) =
          p.items_are ∙ ap (λ is. map (resolve r.table) (nest_items first nest) ++ is) (none_later p.later p.goes_on) ∙ append-nil (map (resolve r.table) (nest_items first nest)) in
          r.items_are ∙ ap (λ is. top_items r.us ++ is)
          (ap (map user_item) all ∙ resolve-seen_all r.table (nest_items first nest) ∙ nest_items-map (user_at r.table) first nest)),
      (λ members some.
          r.items_are ∙ ap (λ is. top_items r.us ++ map user_item is) (nothing_given catalog limit r.table first nest members r.later some r.goes_on)
          ∙ append-nil (top_items r.us)),
    )
