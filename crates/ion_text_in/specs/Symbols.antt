-- What is seen of symbols that are kept and lent.
use Rattle.std.specs.Prelude.{◌≡◌, ℕ, ◌+◌, ◌*◌, ◌≤◌, Bool, true, false, List, [], ◌∷◌, ◌++◌, length, map, sum_by, Option, Some, None, ⊤}
use Rattle.ion_meter.specs.Counts.{Counts, Grows}
use Rattle.ion_value.specs.declared.item.Annotation.{Annotation}
use Rattle.ion_value.specs.declared.item.Annotation.TheVariants as annotation
use Rattle.ion_value.specs.Items.{raw_annotation}
use Rattle.ion_value.specs.Value.{SymbolAt}
use Rattle.ion_text_in.specs.declared.token.FieldName.{FieldName}
use Rattle.ion_text_in.specs.declared.token.Symbol.{Symbol}
use Rattle.ion_text_in.specs.declared.token.Symbol.TheVariants as symbol
use Rattle.ion_text_in.specs.declared.token.Token.{Token}
use Rattle.ion_text_in.specs.declared.token.Token.TheVariants as token
use Rattle.ion_text_in.specs.declared.word.Word.{Word}
use Rattle.ion_text_in.specs.declared.word.Word.TheVariants as word
use Rattle.ion_text_in.specs.Positions.{at}
use Rattle.ion_text_in.specs.Reading.{cost}
use Rattle.ion_text_in.specs.Tokens.{as_symbol}

-- a field from the code, whose text is `name` where it is no id
abbrev pub as_field : List ℕ → Option FieldName → Option SymbolAt
as_field name None = None
as_field name (Some field) = Some (at (as_symbol name field.symbol) field.place)

-- annotations from the code, whose texts stand in `texts`
abbrev pub as_annotations : List ℕ → List Annotation → List SymbolAt
as_annotations texts annotations = map (raw_annotation texts) annotations

-- the text of an annotation stands among so many bytes
abbrev pub IsWithin : ℕ → Annotation → Type 0
IsWithin n (annotation.Text from to place) = (from ≤ to) × (to ≤ n)
IsWithin n (annotation.Id id place) = ⊤

-- the texts of these annotations stand among so many bytes
abbrev pub AreWithin : ℕ → List Annotation → Type 0
AreWithin n [] = ⊤
AreWithin n (a ∷ annotations) = IsWithin n a × AreWithin n annotations

-- the texts of annotations stand one after the other, and there are no others
pub record AreKept (annotations : List Annotation) (texts : List ℕ) : Type 0 where
  pub within : AreWithin (length texts) annotations
  pub costs : sum_by cost (as_annotations texts annotations) ≡ 16 * length annotations + length texts

-- the text of a symbol that is kept among the texts
abbrev pub kept_text : List ℕ → Symbol → List ℕ
kept_text text symbol.Text = text
kept_text text (symbol.Id id) = []

-- it is counted
abbrev pub GrowsBy : Counts → Counts → List ℕ → Symbol → Type 0
GrowsBy old new text symbol.Text = Grows old new (length text)
GrowsBy old new text (symbol.Id id) = new ≡ old

-- how many counted bytes may be taken when a token has been read: an annotation's text is kept, and a container is opened
abbrev pub prepaid : List ℕ → Token → ℕ
prepaid text (token.Plain body) = 0
prepaid text (token.Symbol symbol quoted) = length (kept_text text symbol)
prepaid text (token.String start) = 0
prepaid text token.Operator = 0
prepaid text (token.Float number) = 0
prepaid text (token.Begin kind) = 16
prepaid text (token.End kind) = 0
prepaid text token.Comma = 0
prepaid text token.Colon = 0
prepaid text token.Colons = 0

-- the same of a word
abbrev pub prepaid_word : List ℕ → Word → ℕ
prepaid_word text (word.Null type) = 0
prepaid_word text (word.Bool truth) = 0
prepaid_word text word.Nan = 0
prepaid_word text (word.Id id) = 0
prepaid_word text word.Name = length text

-- there are annotations
abbrev pub is_annotated : List SymbolAt → Bool
is_annotated [] = false
is_annotated (a ∷ annotations) = true

-- a symbol's text is kept, and an annotation tells it
pub record IsKept (old new text : List ℕ) (symbol : Symbol) (place : ℕ) (a : Annotation) : Type 0 where
  pub texts : new ≡ old ++ kept_text text symbol
  pub told : raw_annotation new a ≡ at (as_symbol text symbol) place
  pub within : IsWithin (length new) a
