-- Which values a stream can have and a writer may be given: numbers in range, texts in UTF-8, bytes below 256, fields in structs alone.
use Rattle.std.specs.Prelude.{◌≡◌, ℕ, List, [], ◌∷◌, ◌++◌, Option, Some, None, is_some, IsUtf8, ⊤}
use Rattle.std.specs.List.{AllByRecursion}
pub use Rattle.ion_meter.specs.Windows.{AreBytes}
use Rattle.ion_value.specs.declared.ion_type.Kind.{Kind}
use Rattle.ion_value.specs.Standing.{InRange, in_struct}
use Rattle.ion_value.specs.Value as value
use Rattle.ion_value.specs.Value.{Symbol, SymbolAt, UserSymbol, Known, Unknown, Scalar, Value, Members, scalar, container, nothing, member, Top, version, tree}

-- ---- symbols

-- the symbol of a field, and none where there is no field
abbrev pub field_symbols : {S : Type 0} → Option S → List S
field_symbols None = []
field_symbols (Some s) = s ∷ []

-- the symbol of a symbol value, and none of any other scalar
abbrev pub scalar_symbols : {S : Type 0} → Scalar S → List S
scalar_symbols (value.symbol name) = name ∷ []
scalar_symbols (value.null type) = []
scalar_symbols (value.bool truth) = []
scalar_symbols (value.int number) = []
scalar_symbols (value.float number) = []
scalar_symbols (value.decimal number) = []
scalar_symbols (value.timestamp moment) = []
scalar_symbols (value.string bytes) = []
scalar_symbols (value.clob bytes) = []
scalar_symbols (value.blob bytes) = []

abbrev mutual
  -- the symbols of a value with this field and these annotations, and after them those of its members
  pub value_symbols : {S P : Type 0} → Option S → List S → Value S P → List S
  value_symbols f annotations (scalar body) = field_symbols f ++ (annotations ++ scalar_symbols body)
  value_symbols f annotations (container kind members last) = (field_symbols f ++ (annotations ++ [])) ++ members_symbols members

  -- the symbols of the members of a container, one member after the other
  pub members_symbols : {S P : Type 0} → Members S P → List S
  members_symbols nothing = []
  members_symbols (member before f annotations place x) = members_symbols before ++ value_symbols f annotations x

-- ---- texts

-- a string whose bytes are UTF-8, or any other scalar
abbrev pub HasText : {S : Type 0} → Scalar S → Type 0
HasText (value.string bytes) = IsUtf8 bytes
HasText (value.null type) = ⊤
HasText (value.bool truth) = ⊤
HasText (value.int number) = ⊤
HasText (value.float number) = ⊤
HasText (value.decimal number) = ⊤
HasText (value.timestamp moment) = ⊤
HasText (value.symbol name) = ⊤
HasText (value.clob bytes) = ⊤
HasText (value.blob bytes) = ⊤

abbrev mutual
  -- numbers and timestamps are those of this library, strings are text, and the members of structs alone have fields
  pub IsWritable : {S P : Type 0} → Value S P → Type 0
  IsWritable (scalar body) = InRange body × HasText body
  IsWritable (container kind members last) = AreWritable kind members

  -- so are the members of a container of this kind, each with a field exactly where the kind is a struct
  pub AreWritable : {S P : Type 0} → Kind → Members S P → Type 0
  AreWritable kind nothing = ⊤
  AreWritable kind (member before f annotations place x) = AreWritable kind before × ((is_some f ≡ in_struct (kind ∷ [])) × IsWritable x)

-- the text of a symbol of a user, where it is known, is UTF-8
abbrev pub IsText : UserSymbol → Type 0
IsText (Known t) = IsUtf8 t
IsText Unknown = ⊤

-- the text of a symbol of a stream, where it is no id, is UTF-8
abbrev pub SymbolIsText : Symbol → Type 0
SymbolIsText (value.Text bytes) = IsUtf8 bytes
SymbolIsText (value.Id id) = ⊤

-- ---- bytes

-- what a clob or a blob has is bytes; that of strings and symbols is so, since it is UTF-8
abbrev pub HasBytes : {S : Type 0} → Scalar S → Type 0
HasBytes (value.clob bytes) = AreBytes bytes
HasBytes (value.blob bytes) = AreBytes bytes
HasBytes (value.null type) = ⊤
HasBytes (value.bool truth) = ⊤
HasBytes (value.int number) = ⊤
HasBytes (value.float number) = ⊤
HasBytes (value.decimal number) = ⊤
HasBytes (value.timestamp moment) = ⊤
HasBytes (value.symbol name) = ⊤
HasBytes (value.string bytes) = ⊤

abbrev mutual
  -- so it is with all scalars of a value
  pub ValueHasBytes : {S P : Type 0} → Value S P → Type 0
  ValueHasBytes (scalar body) = HasBytes body
  ValueHasBytes (container kind members last) = MembersHaveBytes members

  -- and with those of members
  pub MembersHaveBytes : {S P : Type 0} → Members S P → Type 0
  MembersHaveBytes nothing = ⊤
  MembersHaveBytes (member before f annotations place x) = MembersHaveBytes before × ValueHasBytes x

-- and of a value at top level
abbrev pub TopHasBytes : {S P : Type 0} → Top S P → Type 0
TopHasBytes (version place) = ⊤
TopHasBytes (tree first annotations place x) = ValueHasBytes x

-- ---- what a stream has at top level

-- a version marker, or a value as a reader gives it, before its ids are resolved
abbrev pub IsRaw : Top SymbolAt ℕ → Type 0
IsRaw (version place) = ⊤
IsRaw (tree first annotations place x) =
    IsWritable x × (ValueHasBytes x × AllByRecursion (λ (s : SymbolAt). SymbolIsText s.symbol) (value_symbols None annotations x))
