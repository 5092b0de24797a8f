-- What is counted while a declaration is read, over its tree: of its fields what is kept, and each import's name while that is read.
use Rattle.std.specs.Prelude.{ℕ, ◌+◌, ◌≤◌, if◌then◌else◌, List, length, Option, ⊤}
use Rattle.ion_value.specs.declared.ion_type.Kind.TheVariants as kind
use Rattle.ion_value.specs.Value as value
use Rattle.ion_value.specs.Value.{SymbolAt, Value, Members, scalar, container, nothing, member}
use Rattle.ion_symbols.specs.declared.known_text.Word.{Word}
use Rattle.ion_symbols.specs.declared.known_text.Word.TheVariants as word
use Rattle.ion_symbols.specs.Declaration.{Ground, field_word, is_ignored, word_in}
use Rattle.ion_symbols.specs.Laws.{if_kept}
use Rattle.ion_symbols.specs.Table.{text_at, slots_cost, table_cost}
use Rattle.ion_symbols.specs.Tree.{elements, name_of, value_of}

-- the length of the name of an element of `imports`, 0 where it says none
abbrev pub name_size : (ℕ → Option (List ℕ)) → Value SymbolAt ℕ → ℕ
name_size texts (container kind.Struct members last) = length (name_of (value_of texts word.Name members))
name_size texts _ = 0

-- such an element, once it is read: 32 where it is a struct that is not ignored
abbrev pub import_kept : (ℕ → Option (List ℕ)) → Value SymbolAt ℕ → ℕ
import_kept texts (container kind.Struct members last) = if is_ignored (name_of (value_of texts word.Name members)) then 0 else 32
import_kept texts _ = 0

-- all of them
abbrev pub imports_kept : (ℕ → Option (List ℕ)) → Members SymbolAt ℕ → ℕ
imports_kept texts nothing = 0
imports_kept texts (member before field annotations place x) = imports_kept texts before + import_kept texts x

-- with what was counted before them, each name is within the limit beside the imports before it
abbrev pub NamesFit : ℕ → ℕ → (ℕ → Option (List ℕ)) → Members SymbolAt ℕ → Type 0
NamesFit limit base texts nothing = ⊤
NamesFit limit base texts (member before field annotations place x) =
    NamesFit limit base texts before × ((base + imports_kept texts before) + name_size texts x ≤ limit)

-- a field of a declaration, once it is read: the slots of `symbols`, the imports, and the table before it where `imports` keeps that
abbrev pub field_kept : Ground → Word → Value SymbolAt ℕ → ℕ
field_kept g word.Imports (container kind.List members last) = imports_kept (text_at g.old) members
field_kept g word.Imports (scalar (value.symbol s)) = if_kept (word_in (text_at g.old) s.symbol) (table_cost g.old)
field_kept g word.Symbols (container kind.List members last) = slots_cost (elements members)
field_kept g _ x = 0

-- all of them
abbrev pub fields_kept : Ground → Members SymbolAt ℕ → ℕ
fields_kept g nothing = 0
fields_kept g (member before field annotations place x) = fields_kept g before + field_kept g (field_word (text_at g.old) field) x

-- the names that are read in a field are within the limit
abbrev pub FieldFits : Ground → ℕ → Word → Value SymbolAt ℕ → Type 0
FieldFits g base word.Imports (container kind.List members last) = NamesFit g.limit base (text_at g.old) members
FieldFits g base _ x = ⊤

-- and all that are read in a declaration
abbrev pub FieldsFit : Ground → Members SymbolAt ℕ → Type 0
FieldsFit g nothing = ⊤
FieldsFit g (member before field annotations place x) = FieldsFit g before × FieldFits g (fields_kept g before) (field_word (text_at g.old) field) x
