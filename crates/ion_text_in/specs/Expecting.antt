-- What is seen of what must come next.
use Rattle.std.specs.Prelude.{◌≡◌, Bool, true, false, List, [], ◌∷◌, is_some, Option, None}
use Rattle.ion_value.specs.declared.ion_type.Kind.{Kind}
use Rattle.ion_value.specs.declared.ion_type.Kind.TheVariants as kinds
use Rattle.ion_value.specs.declared.item.Annotation.{Annotation}
use Rattle.ion_value.specs.Standing.{in_struct}
use Rattle.ion_value.specs.Value.{SymbolAt}
use Rattle.ion_text_in.specs.declared.expected.Expected.{Expected}
use Rattle.ion_text_in.specs.declared.expected.Expected.TheVariants as expected
use Rattle.ion_text_in.specs.declared.token.FieldName.{FieldName}
use Rattle.ion_text_in.specs.Positions.{Wants, a_value, a_field, a_separator}

-- what must come, after what is read of an item
abbrev pub wanted : Expected → Option SymbolAt → List SymbolAt → Wants
wanted expected.Value field annotations = a_value field annotations
wanted expected.Field field annotations = a_field
wanted expected.Separator field annotations = a_separator

-- the kind of the innermost open container; where none is open, values stand as in a sexp
abbrev pub kind_in : List Kind → Kind
kind_in [] = kinds.Sexp
kind_in (kind ∷ opened) = kind

-- whether a comma stands between members of a container of a kind
abbrev pub is_separated : Kind → Bool
is_separated kinds.List = true
is_separated kinds.Sexp = false
is_separated kinds.Struct = true

-- what must come in a container of a kind: a comma or the end, where a member ended, and else a member
abbrev pub expected_in : Bool → Kind → Expected
expected_in true kind = expected.Separator
expected_in false kinds.List = expected.Value
expected_in false kinds.Sexp = expected.Value
expected_in false kinds.Struct = expected.Field

-- a field's name and annotations stand before a value alone, and a field in structs alone
abbrev pub MayExpect : Expected → List Kind → Option FieldName → List Annotation → Type 0
MayExpect expected.Value kinds field annotations = is_some field ≡ in_struct kinds
MayExpect expected.Field kinds field annotations = (in_struct kinds ≡ true) × (field ≡ None) × (annotations ≡ [])
MayExpect expected.Separator kinds field annotations = (field ≡ None) × (annotations ≡ [])
