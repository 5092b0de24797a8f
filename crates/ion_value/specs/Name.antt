-- Words of the text form: types, keywords, identifiers, ids, version words and operators (Ion text, "Symbols" and "Null Values").
use Rattle.std.specs.Prelude.{◌≡◌, ⊤, ℕ, min, ◌^◌, Bool, true, false, not, ◌&&◌, ◌||◌, ◌==◌, nat_le, nat_lt, if◌then◌else◌, List, [], ◌∷◌, ◌++◌, length, drop, map, codes, Option, Some, None, is_none}
use Rattle.std.specs.Str.{bytes_eq}
use Rattle.ion_value.specs.declared.quoting.Quoting.{Quoting}
use Rattle.ion_value.specs.declared.quoting.Quoting.TheVariants as quoting
use Rattle.ion_value.specs.declared.ion_type.IonType.{IonType}
use Rattle.ion_value.specs.declared.ion_type.IonType.TheVariants as type
use Rattle.ion_value.specs.Number.{number}
use Rattle.ion_value.specs.Digits.{is_between, is_digit, digit_value, first_is, all_are, cut_at}

-- ---- types

-- the name of a type in text, as it stands after `null.`
abbrev pub type_name : IonType → List ℕ
type_name type.Null = codes "null"
type_name type.Bool = codes "bool"
type_name type.Int = codes "int"
type_name type.Float = codes "float"
type_name type.Decimal = codes "decimal"
type_name type.Timestamp = codes "timestamp"
type_name type.Symbol = codes "symbol"
type_name type.String = codes "string"
type_name type.Clob = codes "clob"
type_name type.Blob = codes "blob"
type_name type.List = codes "list"
type_name type.Sexp = codes "sexp"
type_name type.Struct = codes "struct"

-- whether the second bytes begin with the first
abbrev pub begins_with : List ℕ → List ℕ → Bool
begins_with [] bytes = true
begins_with (c ∷ cs) [] = false
begins_with (c ∷ cs) (b ∷ bytes) = (c == b) && begins_with cs bytes

-- the thirteen types of Ion
abbrev pub all_types : List IonType
all_types =
    type.Null ∷ type.Bool ∷ type.Int ∷ type.Float ∷ type.Decimal ∷ type.Timestamp ∷ type.Symbol ∷ type.String ∷ type.Clob ∷ type.Blob ∷ type.List
    ∷ type.Sexp ∷ type.Struct ∷ []

-- the type among these that has a name, if one has it
abbrev pub named_in : List IonType → List ℕ → Option IonType
named_in [] name = None
named_in (t ∷ types) name = if bytes_eq (type_name t) name then Some t else named_in types name

-- the type of a name
abbrev pub type_named : List ℕ → Option IonType
type_named name = named_in all_types name

-- the null of a type: `null` alone for the null of no other type
abbrev pub null_text : IonType → List ℕ
null_text type.Null = codes "null"
null_text t = codes "null." ++ type_name t

-- `true` or `false`, as a bool is written
abbrev pub bool_text : Bool → List ℕ
bool_text true = codes "true"
bool_text false = codes "false"

-- ---- identifiers and keywords

-- a byte that an identifier may begin with: an ASCII letter, `_` or `$`
abbrev pub is_identifier_start : ℕ → Bool
is_identifier_start b = is_between 65 90 b || is_between 97 122 b || b == 95 || b == 36

-- a byte that may stand in an identifier: one of these, or a digit
abbrev pub is_identifier_byte : ℕ → Bool
is_identifier_byte b = is_identifier_start b || is_digit b

-- whether bytes have the shape of an identifier, which `true`, `$10` and `$ion_1_0` have too
abbrev pub is_identifier : List ℕ → Bool
is_identifier name = first_is is_identifier_start name && all_are is_identifier_byte name

-- words that are values and never symbols: a null, where what stands after `null.` may be no type's name, a truth value, and `nan`
pub data Keyword : Type 0 where
  a_null : (type : Option IonType) → Keyword
  a_bool : (truth : Bool) → Keyword
  a_nan : Keyword

-- the keyword that a word is, if it is one: `null.` begins one whatever stands after it
abbrev pub keyword : List ℕ → Option Keyword
keyword word =
    if bytes_eq (codes "null") word then Some (a_null (Some type.Null))
    else (if begins_with (codes "null.") word then Some (a_null (type_named (drop 5 word)))
    else (if bytes_eq (codes "true") word then Some (a_bool true)
    else (if bytes_eq (codes "false") word then Some (a_bool false)
    else (if bytes_eq (codes "nan") word then Some a_nan
    else None))))

-- ---- ids and version words

-- an id as readers give it, where 2^31 stands for every id above 2^31 - 1
abbrev pub raw_id : ℕ → ℕ
raw_id n = min n (2 ^ 31)

-- a dollar sign and digits alone
abbrev pub is_id : List ℕ → Bool
is_id word = first_is (λ b. b == 36) word && nat_lt 1 (length word) && all_are is_digit (drop 1 word)

-- the id that such a word says, as readers give it
abbrev pub id_of : List ℕ → ℕ
id_of word = raw_id (number 10 (map digit_value (drop 1 word)))

-- one digit or more
abbrev pub is_number : List ℕ → Bool
is_number bytes = nat_lt 0 (length bytes) && all_are is_digit bytes

-- `$ion_`, digits, `_` and digits
abbrev pub is_version : List ℕ → Bool
is_version word =
    begins_with (codes "$ion_") word
    && is_number (cut_at (λ b. b == 95) (drop 5 word)).0 && is_number (drop 1 (cut_at (λ b. b == 95) (drop 5 word)).1)

-- the one version that is read
abbrev pub version_word : List ℕ
version_word = codes "$ion_1_0"

-- a text that is written as a symbol without quotes: an identifier that means nothing else
abbrev pub is_plain : List ℕ → Bool
is_plain name = is_identifier name && is_none (keyword name) && not (is_id name) && not (is_version name)

-- such a text that does not begin with a dollar sign, as all texts do that mean something to symbol tables
abbrev pub is_simple : List ℕ → Bool
is_simple name = is_plain name && not (first_is (λ b. b == 36) name)

-- a byte that stands for itself between the quotes of a symbol: none below the space, no DEL, no quote and no backslash
abbrev pub is_own_in_quotes : ℕ → Bool
is_own_in_quotes b = nat_le 32 b && (nat_lt b 256 && (not (b == 127) && (not (b == 39) && not (b == 92))))

-- how a text is written as a symbol: of one that begins with a dollar sign, or has an escape between quotes, nothing is said
abbrev pub quoting_of : List ℕ → Quoting
quoting_of name =
    if is_simple name then quoting.Bare
    else (if is_plain name || not (all_are is_own_in_quotes name) then quoting.Any
    else quoting.Quoted)

-- a text is written so
abbrev pub IsQuotedAs : Quoting → List ℕ → Type 0
IsQuotedAs quoting.Bare name = is_simple name ≡ true
IsQuotedAs quoting.Quoted name = (is_plain name ≡ false) × (all_are is_own_in_quotes name ≡ true)
IsQuotedAs quoting.Any name = ⊤

-- the quoting that a code means
abbrev pub coded : ℕ → Quoting
coded code = if code == 0 then quoting.Bare else (if code == 1 then quoting.Quoted else quoting.Any)

-- ---- operators

-- whether a byte is one of a list
abbrev pub is_one_of : List ℕ → ℕ → Bool
is_one_of [] b = false
is_one_of (c ∷ cs) b = b == c || is_one_of cs b

-- the characters of operators in sexps
abbrev pub is_operator_byte : ℕ → Bool
is_operator_byte b = is_one_of (codes "!#%&*+-./;<=>?@^`|~") b
