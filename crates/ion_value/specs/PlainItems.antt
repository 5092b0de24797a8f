-- What is seen of plain items: those whose names and annotations are texts, with two annotations at most.
use Rattle.std.specs.Prelude.{◌≡◌, ◌==◌, ℕ, false, List, [], ◌∷◌, ◌++◌, Option, Some, None, option_map, IfSome, ⊤}
use Rattle.ion_value.specs.declared.plain_item.TextAt.{TextAt}
use Rattle.ion_value.specs.declared.quoting.Quoting.{Quoting}
use Rattle.ion_value.specs.declared.quoting.Quoting.TheVariants as quoting
use Rattle.ion_value.specs.declared.plain_item.PlainItem.{PlainItem}
use Rattle.ion_value.specs.Decimal.{decimal_text}
use Rattle.ion_value.specs.Digits.{first_is}
use Rattle.ion_value.specs.Int.{int_text}
use Rattle.ion_value.specs.Name.{coded, IsQuotedAs}
use Rattle.ion_value.specs.Items.{raw_head}
use Rattle.ion_value.specs.Timestamp.{timestamp_text}
use Rattle.ion_value.specs.Value.{Symbol, Text, Id, SymbolAt, Scalar, null, bool, int, float, decimal, timestamp, symbol, string, clob, blob, Head, whole, begin, end, marker, PlacedItem}

-- a text with its place, as a symbol
abbrev pub placed_text : TextAt → SymbolAt
placed_text t = record { symbol = Text t.text.now; place = t.place }

-- the annotations of an item that has one at most
abbrev pub listed : Option SymbolAt → List SymbolAt
listed None = []
listed (Some s) = s ∷ []

-- the annotations with a second one after the first, if there is one
abbrev pub with_second : List SymbolAt → Option TextAt → List SymbolAt
with_second notes None = notes
with_second notes (Some s) = notes ++ placed_text s ∷ []

-- the item without its second annotation
abbrev pub single_item : PlainItem → PlacedItem
single_item item = record {
  field = option_map placed_text item.field;
  annotations = listed (option_map placed_text item.annotation);
  head = raw_head item.head;
  place = item.place;
  top = item.top;
}

-- the item
abbrev pub placed_item : PlainItem → PlacedItem
placed_item item = record {
  field = option_map placed_text item.field;
  annotations = with_second (listed (option_map placed_text item.annotation)) item.second;
  head = raw_head item.head;
  place = item.place;
  top = item.top;
}

-- ---- items whose symbols are texts, but for `$0`

-- a symbol is a text
abbrev pub IsKnown : Symbol → Type 0
IsKnown (Text bytes) = ⊤
IsKnown (Id id) = ⊥

-- so is a field's name, if there is one
abbrev pub HasKnownName : Option SymbolAt → Type 0
HasKnownName None = ⊤
HasKnownName (Some s) = IsKnown s.symbol

-- a symbol is a text that does not begin with a dollar sign, as all do that mean something to symbol tables as annotations
abbrev pub HasNoDollar : Symbol → Type 0
HasNoDollar (Text bytes) = first_is (λ b. b == 36) bytes ≡ false
HasNoDollar (Id id) = ⊥

-- so is each annotation
abbrev pub HaveNoDollar : List SymbolAt → Type 0
HaveNoDollar [] = ⊤
HaveNoDollar (s ∷ ss) = HasNoDollar s.symbol × HaveNoDollar ss

-- a symbol is a text, or `$0`, whose text is unknown by each symbol table
abbrev pub IsKnownOrZero : Symbol → Type 0
IsKnownOrZero (Text bytes) = ⊤
IsKnownOrZero (Id id) = id ≡ 0

-- so is a scalar that is a symbol
abbrev pub IsPlainScalar : Scalar SymbolAt → Type 0
IsPlainScalar (null type) = ⊤
IsPlainScalar (bool truth) = ⊤
IsPlainScalar (int number) = ⊤
IsPlainScalar (float number) = ⊤
IsPlainScalar (decimal number) = ⊤
IsPlainScalar (timestamp moment) = ⊤
IsPlainScalar (symbol s) = IsKnownOrZero s.symbol
IsPlainScalar (string bytes) = ⊤
IsPlainScalar (clob bytes) = ⊤
IsPlainScalar (blob bytes) = ⊤

-- the same of a head that is no version marker
abbrev pub IsPlainHead : Head SymbolAt → Type 0
IsPlainHead (whole body) = IsPlainScalar body
IsPlainHead (begin kind) = ⊤
IsPlainHead end = ⊤
IsPlainHead marker = ⊥

-- an item's symbols are texts, but for the value `$0`, its annotations without a dollar sign in front, and it is no version marker
pub record IsPlainItem (item : PlacedItem) : Type 0 where
  pub field : HasKnownName item.field
  pub annotations : HaveNoDollar item.annotations
  pub head : IsPlainHead item.head

-- ---- what is said of a name or an annotation

-- a text is written as is said
abbrev pub IsRightlyQuoted : TextAt → Type 0
IsRightlyQuoted t = IsQuotedAs (coded t.code) t.text.now

-- a second annotation stands after a first one
abbrev pub StandsAfter : Option TextAt → TextAt → Type 0
StandsAfter None second = ⊥
StandsAfter (Some first) second = IsRightlyQuoted second

-- so are an item's name and its annotations
pub record SaysRightly (item : PlainItem) : Type 0 where
  pub field : IfSome item.field IsRightlyQuoted
  pub annotation : IfSome item.annotation IsRightlyQuoted
  pub second : IfSome item.second (StandsAfter item.annotation)

-- ---- items that come with a text

-- a symbol is a text, which is written so
abbrev pub IsOwnText : Quoting → List ℕ → Symbol → Type 0
IsOwnText quoting text (Text bytes) = IsQuotedAs quoting bytes × (text ≡ bytes)
IsOwnText quoting text (Id id) = ⊥

-- a text is the canonical one of an int, a decimal, a timestamp or a simple symbol: nothing else comes with one
abbrev pub IsTextOf : List ℕ → Head SymbolAt → Type 0
IsTextOf text (whole (int number)) = text ≡ int_text number
IsTextOf text (whole (decimal number)) = text ≡ decimal_text number
IsTextOf text (whole (timestamp moment)) = text ≡ timestamp_text moment
IsTextOf text (whole (symbol s)) = IsOwnText quoting.Bare text s.symbol
IsTextOf text _ = ⊥

-- a text is that of a symbol without its quotes
abbrev pub IsQuotedIn : List ℕ → Head SymbolAt → Type 0
IsQuotedIn text (whole (symbol s)) = IsOwnText quoting.Quoted text s.symbol
IsQuotedIn text _ = ⊥

-- a head is written by a text of this quoting
abbrev pub IsWrittenAs : Quoting → List ℕ → Head SymbolAt → Type 0
IsWrittenAs quoting.Bare text head = IsTextOf text head
IsWrittenAs quoting.Quoted text head = IsQuotedIn text head
IsWrittenAs quoting.Any text head = ⊥

-- the text that an item comes with, if there is one, is that of its head
abbrev pub IsSpelled : PlainItem → Type 0
IsSpelled item = IfSome item.spelled (λ t. IsWrittenAs t.quoting t.text.now (raw_head item.head))
