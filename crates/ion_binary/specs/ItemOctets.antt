-- What contracts see of the scalars and the declarations that are written.
use Rattle.std.specs.Prelude.{Bool, true, false, ℕ, ◌+◌, List, [], ◌∷◌, ◌++◌, length}
use Rattle.std.specs.List.{flat_map}
use Rattle.ion_value.specs.declared.item.Head.{Head as CodeHead}
use Rattle.ion_value.specs.Items.{raw_head}
use Rattle.ion_value.specs.Value as value
use Rattle.ion_value.specs.Value.{UserSymbol, user_symbol_at, Scalar, Head, map_head}
use Rattle.ion_binary.specs.Canonical.{header, headed, scalar_octets}

-- ---- scalars

-- the head of an item as a user knows it
abbrev pub user_head : CodeHead → Head UserSymbol
user_head head = map_head user_symbol_at (raw_head head)

-- the octets of a scalar, and none of other heads
abbrev pub head_octets : (UserSymbol → ℕ) → Head UserSymbol → List ℕ
head_octets ids (value.whole body) = scalar_octets ids body
head_octets ids (value.begin kind) = []
head_octets ids value.end = []
head_octets ids value.marker = []

-- the id of a symbol value, and 0 of other scalars
abbrev pub scalar_name : (UserSymbol → ℕ) → Scalar UserSymbol → ℕ
scalar_name ids (value.symbol s) = ids s
scalar_name ids body = 0

-- the id of a head that is a symbol value, and 0 of all others
abbrev pub head_name : (UserSymbol → ℕ) → Head UserSymbol → ℕ
head_name ids (value.whole body) = scalar_name ids body
head_name ids (value.begin kind) = 0
head_name ids value.end = 0
head_name ids value.marker = 0

-- a head is a null, a bool, a float or a symbol: a scalar of ten octets at most
abbrev pub is_short : {S : Type 0} → Head S → Bool
is_short (value.whole (value.null type)) = true
is_short (value.whole (value.bool truth)) = true
is_short (value.whole (value.float number)) = true
is_short (value.whole (value.symbol name)) = true
is_short (value.whole (value.int number)) = false
is_short (value.whole (value.decimal number)) = false
is_short (value.whole (value.timestamp moment)) = false
is_short (value.whole (value.string bytes)) = false
is_short (value.whole (value.clob bytes)) = false
is_short (value.whole (value.blob bytes)) = false
is_short (value.begin kind) = false
is_short value.end = false
is_short value.marker = false

-- ---- what a body begins with

-- the header of a body that begins with these octets and has so many more, and these octets
abbrev pub opening : ℕ → List ℕ → ℕ → List ℕ
opening code inside more = header code (length inside + more) ++ inside

-- ---- declarations

-- the strings of the texts that are declared
abbrev pub strings_octets : List (List ℕ) → List ℕ
strings_octets texts = flat_map (λ t. headed 8 t) texts

-- what stands before strings of so many octets: the annotation `$ion_symbol_table`, the field `imports` with that symbol, and the field
-- `symbols`, each after its header
abbrev pub declaration_front : ℕ → List ℕ
declaration_front n = opening 14 (129 ∷ 131 ∷ opening 13 (134 ∷ 113 ∷ 3 ∷ 135 ∷ opening 11 [] n) n) n
