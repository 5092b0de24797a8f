-- The canonical binary form: one spelling of each value, after the declaration of the symbols that it needs.
use Rattle.std.specs.Prelude.{ℕ, ◌+◌, ◌*◌, ◌/◌, Bool, true, false, nat_lt, if◌then◌else◌, List, [], ◌∷◌, ◌++◌, length, drop, Option, Some, None, unwrap_or, codes, ⊤}
use Rattle.std.specs.List.{flat_map}
use Rattle.ion_value.specs.declared.ion_type.Kind.TheVariants as kind
use Rattle.ion_value.specs.Number.{var_uint_octets}
use Rattle.ion_value.specs.Scalar as numbered
use Rattle.ion_value.specs.Scalar.{scalar_body, scalar_code}
use Rattle.ion_value.specs.Value as value
use Rattle.ion_value.specs.Value.{UserSymbol, Known, Unknown, Scalar, Value, Members, scalar, container, nothing, member, Top, version, tree, Head, Item}
use Rattle.ion_value.specs.Writable.{value_symbols}
use Rattle.ion_symbols.specs.Output.{known_id, texts_cost}
use Rattle.ion_binary.specs.Grammar.{type_code}

-- ---- headers

-- the length code of n octets: n, or 14 where the descriptor has no room for it
abbrev pub length_code : ℕ → ℕ
length_code n = if nat_lt n 14 then n else 14

-- the length of n octets as a VarUInt after the descriptor, and nothing where the descriptor itself has it
abbrev pub length_octets : ℕ → List ℕ
length_octets n = if nat_lt n 14 then [] else var_uint_octets n

-- the shortest header of a body of n octets
abbrev pub header : ℕ → ℕ → List ℕ
header t n = (16 * t + length_code n) ∷ length_octets n

-- a body after its shortest header with this type code
abbrev pub headed : ℕ → List ℕ → List ℕ
headed t body = header t (length body) ++ body

-- a value after its annotations, in a wrapper where there are any
abbrev pub wrapped : List ℕ → List ℕ → List ℕ
wrapped [] x = x
wrapped (n ∷ ns) x = headed 14 ((n ∷ ns) ++ x)

-- ---- values, where symbols have ids

-- the ids of symbols as VarUInts, one after the other; the first argument says which id a symbol has
abbrev pub id_octets : (UserSymbol → ℕ) → List UserSymbol → List ℕ
id_octets ids symbols = flat_map (λ s. var_uint_octets (ids s)) symbols

-- the length of the annotations' ids, and the ids
abbrev pub annotation_octets : (UserSymbol → ℕ) → List UserSymbol → List ℕ
annotation_octets ids [] = []
annotation_octets ids (s ∷ ss) = var_uint_octets (length (id_octets ids (s ∷ ss))) ++ id_octets ids (s ∷ ss)

-- the id of a field as a VarUInt, and nothing where there is no field
abbrev pub field_octets : (UserSymbol → ℕ) → Option UserSymbol → List ℕ
field_octets ids None = []
field_octets ids (Some s) = var_uint_octets (ids s)

-- what stands before a value, and its own octets
abbrev pub member_octets : (UserSymbol → ℕ) → Option UserSymbol → List UserSymbol → List ℕ → List ℕ
member_octets ids f annotations x = field_octets ids f ++ wrapped (annotation_octets ids annotations) x

-- a scalar without field and annotations: a null or a bool in one octet, any other as its shortest header and its shortest body
abbrev pub scalar_octets : (UserSymbol → ℕ) → Scalar UserSymbol → List ℕ
scalar_octets ids (value.null type) = (16 * numbered.type_code type + 15) ∷ []
scalar_octets ids (value.bool truth) = (if truth then 17 else 16) ∷ []
scalar_octets ids body = headed (scalar_code body) (scalar_body ids body)

abbrev mutual
  -- a value without field and annotations
  pub value_octets : {P : Type 0} → (UserSymbol → ℕ) → Value UserSymbol P → List ℕ
  value_octets ids (scalar body) = scalar_octets ids body
  value_octets ids (container kind members last) = headed (type_code kind) (members_octets ids members)

  -- the members of a container, each after its field and its annotations
  pub members_octets : {P : Type 0} → (UserSymbol → ℕ) → Members UserSymbol P → List ℕ
  members_octets ids nothing = []
  members_octets ids (member before f annotations place x) = members_octets ids before ++ member_octets ids f annotations (value_octets ids x)

-- ---- ids

-- the id of a symbol by the texts that were given ids, which is 0 where its text is unknown or has none
unfoldable pub id_in : List (List ℕ) → UserSymbol → ℕ
id_in texts (Known t) = unwrap_or (known_id texts t) 0
id_in texts Unknown = 0

-- the texts with t after them, where t has no id yet: the last argument is the id that it has
abbrev pub with_text : List (List ℕ) → List ℕ → Option ℕ → List (List ℕ)
with_text texts t (Some id) = texts
with_text texts t None = texts ++ t ∷ []

-- the texts with that of a symbol after them, where it has no id yet
unfoldable pub with_symbol : List (List ℕ) → UserSymbol → List (List ℕ)
with_symbol texts (Known t) = with_text texts t (known_id texts t)
with_symbol texts Unknown = texts

-- the texts with those of the symbols after them, in order of the symbols, where they have no id yet
abbrev pub with_symbols : List (List ℕ) → List UserSymbol → List (List ℕ)
with_symbols texts [] = texts
with_symbols texts (s ∷ ss) = with_symbols (with_symbol texts s) ss

-- ---- declarations

-- these members, and after them a string for each text, without field and annotations
abbrev pub string_members : Members UserSymbol ⊤ → List (List ℕ) → Members UserSymbol ⊤
string_members before [] = before
string_members before (t ∷ ts) = string_members (member before None [] tt (scalar (value.string t))) ts

-- the struct of a declaration that keeps the present table and adds these texts
abbrev pub declaring : List (List ℕ) → Value UserSymbol ⊤
declaring texts =
    container kind.Struct
    (member (member nothing (Some (Known (codes "imports"))) [] tt (scalar (value.symbol (Known (codes "$ion_symbol_table")))))
    (Some (Known (codes "symbols"))) [] tt (container kind.List (string_members nothing texts) tt))
    tt

-- its octets, where there are texts to be added
unfoldable pub declaration : List (List ℕ) → List ℕ
declaration [] = []
declaration (t ∷ ts) = member_octets (id_in []) None (Known (codes "$ion_symbol_table") ∷ []) (value_octets (id_in []) (declaring (t ∷ ts)))

-- ---- streams

-- the version marker of Ion 1.0: `E0 01 00 EA`
abbrev pub marker_octets : List ℕ
marker_octets = 224 ∷ 1 ∷ 0 ∷ 234 ∷ []

-- a version marker where one is due, and nothing else
abbrev pub marker_if : Bool → List ℕ
marker_if true = marker_octets
marker_if false = []

-- the texts cost more than half of what they may: the next value begins without them, after a version marker
unfoldable pub is_over : ℕ → List (List ℕ) → Bool
is_over limit texts = nat_lt (limit / 2) (texts_cost texts)

-- the texts with which the next value at top level begins: none where the first argument says that they are forgotten
abbrev pub texts_kept : Bool → List (List ℕ) → List (List ℕ)
texts_kept true texts = []
texts_kept false texts = texts

-- a value at top level, after a version marker where the texts were forgotten before it, and after the declaration of those of all its
-- texts that are not among the ones kept
abbrev pub tree_octets : {P : Type 0} → Bool → List (List ℕ) → List (List ℕ) → List UserSymbol → Value UserSymbol P → List ℕ
tree_octets emptied kept all annotations x =
    marker_if emptied ++ (declaration (drop (length kept) all) ++ member_octets (id_in all) None annotations (value_octets (id_in all) x))

-- each value at top level, where these texts have been declared before the first; version markers of the values have no octets
abbrev pub octets_after : {P : Type 0} → ℕ → List (List ℕ) → List (Top UserSymbol P) → List ℕ
octets_after limit texts [] = []
octets_after limit texts (version place ∷ ts) = octets_after limit texts ts
octets_after limit texts (tree first annotations place x ∷ ts) =
    let emptied = is_over limit texts in
    let kept = texts_kept emptied texts in
    let all = with_symbols kept (value_symbols None annotations x) in
    tree_octets emptied kept all annotations x ++ octets_after limit all ts

-- a version marker, and each value after the declaration of those of its texts that are new
abbrev pub binary : {P : Type 0} → ℕ → List (Top UserSymbol P) → List ℕ
binary limit tops = marker_octets ++ octets_after limit [] tops
