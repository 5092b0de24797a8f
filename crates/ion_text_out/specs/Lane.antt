-- What is put of a plain item.
use Rattle.std.specs.Prelude.{ℕ, ◌==◌, Bool, true, List, [], ◌∷◌, ◌++◌, Option, Some, None, codes}
use Rattle.ion_value.specs.Value.{Known}
use Rattle.ion_value.specs.declared.plain_item.TextAt.{TextAt}
use Rattle.ion_text_out.specs.Layout.{Layout}
use Rattle.ion_text_out.specs.Text.{Open, before_item, after_value, symbol_text}

-- the text of a symbol that may be there, empty where there is none
abbrev pub text_in : Option TextAt → List ℕ
text_in None = []
text_in (Some t) = t.text.now

-- a symbol that may be there is written as it stands, as is said of none too
abbrev pub is_bare_in : Option TextAt → Bool
is_bare_in None = true
is_bare_in (Some t) = t.code == 0

-- its canonical text, empty where there is none, as that of no symbol is
abbrev pub symbol_in : Option TextAt → List ℕ
symbol_in None = []
symbol_in (Some t) = symbol_text (Known t.text.now)

-- the canonical text of annotations, without the last two colons
abbrev pub symbols_in : Option TextAt → Option TextAt → List ℕ
symbols_in annotation None = symbol_in annotation
symbols_in annotation (Some s) = symbol_in annotation ++ (codes "::" ++ symbol_in (Some s))

-- a text with a mark after it, and nothing where that is empty
abbrev pub marked : List ℕ → List ℕ → List ℕ
marked mark [] = []
marked mark (b ∷ bs) = (b ∷ bs) ++ mark

-- a field's name and what a layout has after it, and annotations with their last two colons, where there are such
abbrev pub plain_front : Layout → List ℕ → List ℕ → List ℕ
plain_front layout name note = marked layout.after_name name ++ marked (codes "::") note

-- what a scalar of a text adds after a name and annotations
abbrev pub plain_scalar : Layout → Open → List ℕ → List ℕ → List ℕ → List ℕ
plain_scalar layout cs name note text = before_item layout cs ++ (plain_front layout name note ++ (text ++ after_value cs))

-- what the beginning of a container adds, by its bracket
abbrev pub plain_begin : Layout → Open → List ℕ → List ℕ → List ℕ → List ℕ
plain_begin layout cs name note bracket = before_item layout cs ++ (plain_front layout name note ++ bracket)
