-- A path with one thing more (a whole value, a version marker, a container's beginning or its end), and its items.
use Rattle.std.proofs.Common.{◌≡◌, ℕ, List, [], ◌∷◌, ◌++◌, Option, None, refl, sym, ap, ◌∙◌, append_assoc, append-nil}
use Rattle.ion_value.specs.declared.ion_type.Kind.{Kind}
use Rattle.ion_value.specs.Value as value
use Rattle.ion_value.specs.Value.{SymbolAt, Value, container, Members, Top, version, tree, Item, bare_item, value_items, member_items, one_top, top_items}
use Rattle.ion_value.specs.Path.{Nest, outermost, inner, Path, closed, opened, open_in, begin_item, nest_items, path_items, with_member, with_end}

-- ---- paths with one thing more

-- a whole value whose field or wrapper begins at a place, and that has another place itself
abbrev pub put_in : Path SymbolAt ℕ → ℕ → Option SymbolAt → List SymbolAt → ℕ → Value SymbolAt ℕ → Path SymbolAt ℕ
put_in (closed ts) q f annotations h v = closed (ts ++ tree q annotations h v ∷ [])
put_in (opened ts first nest) q f annotations h v = opened ts first (with_member nest f annotations h v)

-- a marker at a place
abbrev pub mark_in : Path SymbolAt ℕ → ℕ → Path SymbolAt ℕ
mark_in (closed ts) q = closed (ts ++ version q ∷ [])
mark_in (opened ts first nest) q = opened ts first nest

-- the end of the innermost open container at a place
abbrev pub end_in : Path SymbolAt ℕ → ℕ → Path SymbolAt ℕ
end_in (closed ts) last = closed ts
end_in (opened ts first nest) last = with_end ts first nest last

pub put_in-open_in : (path : Path SymbolAt ℕ) (q : ℕ) (f : Option SymbolAt) (annotations : List SymbolAt) (h : ℕ) (k : Kind) (ms : Members SymbolAt ℕ) (r : ℕ) (g : Option SymbolAt)
    (own : List SymbolAt) (i : ℕ) (v : Value SymbolAt ℕ) → put_in (open_in path q f annotations h k ms) r g own i v ≡ open_in path q f annotations h k (value.member ms g own i v)
put_in-open_in (closed ts) q f annotations h k ms r g own i v = refl
put_in-open_in (opened ts first nest) q f annotations h k ms r g own i v = refl

pub end_in-open_in : (path : Path SymbolAt ℕ) (q : ℕ) (f : Option SymbolAt) (annotations : List SymbolAt) (h : ℕ) (k : Kind) (ms : Members SymbolAt ℕ) (last : ℕ)
    → end_in (open_in path q f annotations h k ms) last ≡ put_in path q f annotations h (container k ms last)
end_in-open_in (closed ts) q f annotations h k ms last = refl
end_in-open_in (opened ts first nest) q f annotations h k ms last = refl

-- ---- their items

-- what is put into a path lies in the top-level value that begins at this place: the open one, or its own, and then it has no field
abbrev pub Fits : Path SymbolAt ℕ → ℕ → ℕ → Option SymbolAt → Type 0
Fits (closed ts) q top f = (q ≡ top) × (f ≡ None)
Fits (opened ts first nest) q top f = first ≡ top

top_items-append : (ts us : List (Top SymbolAt ℕ)) → top_items (ts ++ us) ≡ top_items ts ++ top_items us
top_items-append [] us = refl
top_items-append (t ∷ ts) us = ap (λ items. one_top t ++ items) (top_items-append ts us) ∙ sym (append_assoc (one_top t) (top_items ts) (top_items us))

nest_items-with_member : (first : ℕ) (nest : Nest SymbolAt ℕ) (f : Option SymbolAt) (annotations : List SymbolAt) (h : ℕ) (v : Value SymbolAt ℕ)
    → nest_items first (with_member nest f annotations h v) ≡ nest_items first nest ++ value_items first f annotations h v
nest_items-with_member first (outermost ns at k ms) f annotations h v = refl
nest_items-with_member first (inner around g ns at k ms) f annotations h v =
    sym (append_assoc (nest_items first around) (begin_item first g ns at k ∷ member_items first ms) (value_items first f annotations h v))

pub path_items-put_in : (path : Path SymbolAt ℕ) (q top : ℕ) (f : Option SymbolAt) (annotations : List SymbolAt) (h : ℕ) (v : Value SymbolAt ℕ)
    → Fits path q top f → path_items (put_in path q f annotations h v) ≡ path_items path ++ value_items top f annotations h v
path_items-put_in (closed ts) q top f annotations h v fits =
    rw (← fits.0, fits.1) (top_items-append ts (tree q annotations h v ∷ []) ∙ ap (λ items. top_items ts ++ items) (append-nil (value_items q None annotations h v)))
path_items-put_in (opened ts first nest) q top f annotations h v fits =
    rw (← fits) (ap (λ items. top_items ts ++ items) (nest_items-with_member first nest f annotations h v)
    ∙ sym (append_assoc (top_items ts) (nest_items first nest) (value_items first f annotations h v)))

pub path_items-mark_in : (ts : List (Top SymbolAt ℕ)) (q : ℕ) → path_items (mark_in (closed ts) q) ≡ top_items ts ++ bare_item value.marker q q ∷ []
path_items-mark_in ts q = top_items-append ts (version q ∷ [])

pub path_items-open_in : (path : Path SymbolAt ℕ) (q top : ℕ) (f : Option SymbolAt) (annotations : List SymbolAt) (h : ℕ) (k : Kind)
    → Fits path q top f → path_items (open_in path q f annotations h k value.nothing) ≡ path_items path ++ begin_item top f annotations h k ∷ []
path_items-open_in (closed ts) q top f annotations h k fits = rw (← fits.0, fits.1) refl
path_items-open_in (opened ts first nest) q top f annotations h k fits =
    rw (← fits) (sym (append_assoc (top_items ts) (nest_items first nest) (begin_item first f annotations h k ∷ [])))

-- the items of a container's beginning, its members and its end
container_items : (items before members last : List (Item SymbolAt ℕ)) → items ++ (before ++ (members ++ last)) ≡ (items ++ (before ++ members)) ++ last
container_items items before members last = simp append_assoc

pub path_items-end_in : (ts : List (Top SymbolAt ℕ)) (first : ℕ) (nest : Nest SymbolAt ℕ) (last : ℕ)
    → path_items (end_in (opened ts first nest) last) ≡ path_items (opened ts first nest) ++ bare_item value.end last first ∷ []
path_items-end_in ts first (outermost annotations h k ms) last =
    top_items-append ts (tree first annotations h (container k ms last) ∷ [])
    ∙ ap (λ items. top_items ts ++ items) (append-nil (value_items first None annotations h (container k ms last)))
    ∙ container_items (top_items ts) (begin_item first None annotations h k ∷ []) (member_items first ms) (bare_item value.end last first ∷ [])
path_items-end_in ts first (inner around f annotations h k ms) last =
    ap (λ items. top_items ts ++ items) (nest_items-with_member first around f annotations h (container k ms last)
    ∙ container_items (nest_items first around) (begin_item first f annotations h k ∷ []) (member_items first ms) (bare_item value.end last first ∷ []))
    ∙ sym (append_assoc (top_items ts) (nest_items first around ++ begin_item first f annotations h k ∷ member_items first ms) (bare_item value.end last first ∷ []))
