-- A path is known by its items.
use Rattle.std.proofs.Common.{refl, ap, sym, ◌∙◌, ◌≡◌, List, [], ◌∷◌, ◌++◌, Option}
use Rattle.std.specs.Prelude.{fold}
use Rattle.std.proofs.lemmas.List.{append_assoc, append-nil}
use Rattle.ion_value.specs.Value.{Value, scalar, container, Members, nothing, member, Top, version, tree, Item, bare_item, value_items, member_items, one_top, top_items, end}
use Rattle.ion_value.specs.Path.{Nest, outermost, inner, Path, closed, opened, begin_item, nest_items, path_items, with_member, with_item, path_of}

-- items go one after the other
pub with_items-append : {S P : Type 0} (path : Path S P) (xs ys : List (Item S P)) → fold with_item path (xs ++ ys) ≡ fold with_item (fold with_item path xs) ys
with_items-append path [] ys = refl
with_items-append path (x ∷ xs) ys = with_items-append (with_item path x) xs ys

-- the nest with these members in its innermost container
abbrev with_members : {S P : Type 0} → Nest S P → Members S P → Nest S P
with_members (outermost annotations place kind old) members = outermost annotations place kind members
with_members (inner around f annotations place kind old) members = inner around f annotations place kind members

with_members-member : {S P : Type 0} (nest : Nest S P) (before : Members S P) (f : Option S) (annotations : List S) (place : P) (value : Value S P)
    → with_member (with_members nest before) f annotations place value ≡ with_members nest (member before f annotations place value)
with_members-member (outermost ns at kind old) before f annotations place value = refl
with_members-member (inner around g ns at kind old) before f annotations place value = refl

-- the items of members are put into the innermost container, and those of a value too
mutual
  built_members : {S P : Type 0} (tops : List (Top S P)) (first : P) (nest : Nest S P) (members : Members S P)
      → fold with_item (opened tops first (with_members nest nothing)) (member_items first members) ≡ opened tops first (with_members nest members)
  built_members tops first nest nothing = refl
  built_members tops first nest (member before f annotations place value) =
      with_items-append (opened tops first (with_members nest nothing)) (member_items first before) (value_items first f annotations place value)
      ∙ ap (λ path. fold with_item path (value_items first f annotations place value)) (built_members tops first nest before)
      ∙ built_value tops first (with_members nest before) f annotations place value
      ∙ ap (opened tops first) (with_members-member nest before f annotations place value)

  built_value : {S P : Type 0} (tops : List (Top S P)) (first : P) (nest : Nest S P) (f : Option S) (annotations : List S) (place : P) (value : Value S P)
      → fold with_item (opened tops first nest) (value_items first f annotations place value) ≡ opened tops first (with_member nest f annotations place value)
  built_value tops first nest f annotations place (scalar body) = refl
  built_value tops first nest f annotations place (container kind members last) =
      with_items-append (opened tops first (inner nest f annotations place kind nothing)) (member_items first members) (bare_item end last first ∷ [])
      ∙ ap (λ path. fold with_item path (bare_item end last first ∷ [])) (built_members tops first (inner nest f annotations place kind nothing) members)

built_top : {S P : Type 0} (tops : List (Top S P)) (t : Top S P) → fold with_item (closed tops) (one_top t) ≡ closed (tops ++ t ∷ [])
built_top tops (version place) = refl
built_top tops (tree first annotations place (scalar body)) = refl
built_top tops (tree first annotations place (container kind members last)) =
    with_items-append (opened tops first (outermost annotations place kind nothing)) (member_items first members) (bare_item end last first ∷ [])
    ∙ ap (λ path. fold with_item path (bare_item end last first ∷ [])) (built_members tops first (outermost annotations place kind nothing) members)

built_tops : {S P : Type 0} (tops ts : List (Top S P)) → fold with_item (closed tops) (top_items ts) ≡ closed (tops ++ ts)
built_tops tops [] = ap closed (sym (append-nil tops))
built_tops tops (t ∷ ts) =
    with_items-append (closed tops) (one_top t) (top_items ts)
    ∙ ap (λ path. fold with_item path (top_items ts)) (built_top tops t)
    ∙ built_tops (tops ++ t ∷ []) ts
    ∙ ap closed (append_assoc tops (t ∷ []) ts)

built_nest : {S P : Type 0} (tops : List (Top S P)) (first : P) (nest : Nest S P) → fold with_item (closed tops) (nest_items first nest) ≡ opened tops first nest
built_nest tops first (outermost annotations place kind members) = built_members tops first (outermost annotations place kind nothing) members
built_nest tops first (inner around f annotations place kind members) =
    with_items-append (closed tops) (nest_items first around) (begin_item first f annotations place kind ∷ member_items first members)
    ∙ ap (λ path. fold with_item path (begin_item first f annotations place kind ∷ member_items first members)) (built_nest tops first around)
    ∙ built_members tops first (inner around f annotations place kind nothing) members

-- the items of a path lead to it
pub path_of-items : {S P : Type 0} (path : Path S P) → path_of (path_items path) ≡ path
path_of-items (closed tops) = built_tops [] tops
path_of-items (opened tops first nest) =
    with_items-append (closed []) (top_items tops) (nest_items first nest)
    ∙ ap (λ path. fold with_item path (nest_items first nest)) (built_tops [] tops)
    ∙ built_nest tops first nest

-- paths with the same items are the same
pub same_path : {S P : Type 0} (a b : Path S P) → path_items a ≡ path_items b → a ≡ b
same_path a b e = sym (path_of-items a) ∙ ap path_of e ∙ path_of-items b
