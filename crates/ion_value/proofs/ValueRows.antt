-- Worked rows of words, scalars, trees and paths.
use Rattle.std.proofs.Common.{◌≡◌, refl, ℕ, List, [], ◌∷◌, replicate, true, false, Some, None, Ok, Err, pos}
use Rattle.std.specs.Prelude.{codes}
use Rattle.std.specs.Str.{is_utf8, chars}
use lib.Utf8.{encode}
use Rattle.ion_meter.specs.declared.fault.Reason.TheVariants.{BadText, BadToken, BadNumber, Float}
use Rattle.ion_value.specs.declared.ion_type.IonType.TheVariants as type
use Rattle.ion_value.specs.declared.ion_type.Kind.TheVariants as kinds
use Rattle.ion_value.specs.declared.timestamp.Precision.TheVariants.{Year}
use Rattle.ion_value.specs.Digits.{cut_at}
use Rattle.ion_value.specs.Int.{int_of_text}
use Rattle.ion_value.specs.Decimal.{decimal_of_text, parts_of}
use Rattle.ion_value.specs.Timestamp.{timestamp_of_text, fields}
use Rattle.ion_value.specs.Name.{type_named, null_text, keyword, a_null, a_nan, is_id, id_of, is_version, is_plain}
use Rattle.ion_value.specs.Scalar.{scalar_of_body, scalar_of_run}
use Rattle.ion_value.specs.Value.{Symbol, Text, Id, null, bool, int, decimal, timestamp, symbol, string, blob, Value, scalar, container, Members, nothing, member, Top, version, tree, whole, begin, end, marker, Item, bare_item, top_items}
use Rattle.ion_value.specs.Path.{Path, closed, opened, outermost, inner, path_of, closing}

-- ---- words

null_text-null : null_text type.Null ≡ codes "null"
null_text-null = refl

null_text-int : null_text type.Int ≡ codes "null.int"
null_text-int = refl

type_named-struct : type_named (codes "struct") ≡ Some type.Struct
type_named-struct = refl

keyword-null : keyword (codes "null.null") ≡ Some (a_null (Some type.Null))
keyword-null = refl

keyword-no_type : keyword (codes "null.nul") ≡ Some (a_null None)
keyword-no_type = refl

keyword-nan : keyword (codes "nan") ≡ Some a_nan
keyword-nan = refl

keyword-none : keyword (codes "nulls") ≡ None
keyword-none = refl

is_id-leading_zero : is_id (codes "$007") ≡ true
is_id-leading_zero = refl

id_of-leading_zero : id_of (codes "$007") ≡ 7
id_of-leading_zero = refl

id_of-large : id_of (codes "$99999999999999999999") ≡ 2147483648
id_of-large = refl

is_id-letter : is_id (codes "$7a") ≡ false
is_id-letter = refl

is_id-dollar : is_id (codes "$") ≡ false
is_id-dollar = refl

is_version-later : is_version (codes "$ion_1_1") ≡ true
unfolding cut_at
is_version-later = refl

is_version-zeros : is_version (codes "$ion_01_00") ≡ true
unfolding cut_at
is_version-zeros = refl

is_version-letter : is_version (codes "$ion_1_0a") ≡ false
unfolding cut_at
is_version-letter = refl

is_version-table : is_version (codes "$ion_symbol_table") ≡ false
unfolding cut_at
is_version-table = refl

is_plain-name : is_plain (codes "$ion_symbol_table") ≡ true
unfolding cut_at
is_plain-name = refl

is_plain-keyword : is_plain (codes "true") ≡ false
unfolding cut_at
is_plain-keyword = refl

is_plain-empty : is_plain [] ≡ false
unfolding cut_at
is_plain-empty = refl

-- ---- scalars

scalar-symbol : scalar_of_body 7 (0x0A ∷ []) ≡ Ok (symbol (Id 10))
unfolding scalar_of_body
scalar-symbol = refl

scalar-id_zero : scalar_of_body 7 [] ≡ Ok (symbol (Id 0))
unfolding scalar_of_body
scalar-id_zero = refl

scalar-large_id : scalar_of_body 7 (replicate 20 0xFF) ≡ Ok (symbol (Id 2147483648))
unfolding scalar_of_body
scalar-large_id = refl

scalar-minus_zero : scalar_of_body 3 (0x00 ∷ []) ≡ Err BadNumber
unfolding scalar_of_body
scalar-minus_zero = refl

scalar-zero : scalar_of_body 2 (0x00 ∷ []) ≡ Ok (int (record { negative = false; magnitude = 0 }))
unfolding scalar_of_body
scalar-zero = refl

scalar-string : scalar_of_body 8 (0xC3 ∷ 0xA9 ∷ []) ≡ Ok (string (0xC3 ∷ 0xA9 ∷ []))
unfolding scalar_of_body is_utf8 chars encode
scalar-string = refl

scalar-no_text : scalar_of_body 8 (0xC3 ∷ []) ≡ Err BadText
unfolding scalar_of_body is_utf8 chars encode
scalar-no_text = refl

scalar-blob : scalar_of_body 10 (0xC3 ∷ []) ≡ Ok (blob (0xC3 ∷ []))
unfolding scalar_of_body
scalar-blob = refl

run-int : scalar_of_run {S = Symbol} (codes "-0") ≡ Ok (int (record { negative = false; magnitude = 0 }))
unfolding scalar_of_run int_of_text
run-int = refl

run-decimal : scalar_of_run {S = Symbol} (codes "-0.") ≡ Ok (decimal (record { negative = true; coefficient = 0; exponent = pos 0 }))
unfolding scalar_of_run int_of_text decimal_of_text parts_of cut_at
run-decimal = refl

run-timestamp : scalar_of_run {S = Symbol} (codes "2007T") ≡ Ok (timestamp (fields Year 2007 1 1 0 0 0 0))
unfolding scalar_of_run int_of_text decimal_of_text parts_of cut_at timestamp_of_text
run-timestamp = refl

run-float : scalar_of_run {S = Symbol} (codes "1e0") ≡ Err Float
unfolding scalar_of_run int_of_text decimal_of_text parts_of cut_at
run-float = refl

run-none : scalar_of_run {S = Symbol} (codes "1_") ≡ Err BadToken
unfolding scalar_of_run int_of_text decimal_of_text parts_of cut_at timestamp_of_text
run-none = refl

-- ---- trees and paths: `$ion_1_0 {a:[true],b:null}`, where places are those of this text

abbrev truth : Value Symbol ℕ
truth = scalar (bool true)

abbrev list_members : Members Symbol ℕ
list_members = member nothing None [] 12 truth

abbrev whole_tree : List (Top Symbol ℕ)
whole_tree =
    version 0
    ∷ tree 9 [] 9 (container kinds.Struct (member (member nothing (Some (Text (codes "a"))) [] 12 (container kinds.List list_members 17)) (Some (Text (codes "b"))) [] 21 (scalar (null type.Null))) 25)
    ∷ []

abbrev whole_items : List (Item Symbol ℕ)
whole_items =
    bare_item marker 0 0
    ∷ bare_item (begin kinds.Struct) 9 9
    ∷ record { field = Some (Text (codes "a")); annotations = []; head = begin kinds.List; place = 12; top = 9 }
    ∷ bare_item (whole (bool true)) 12 9
    ∷ bare_item end 17 9
    ∷ record { field = Some (Text (codes "b")); annotations = []; head = whole (null type.Null); place = 21; top = 9 }
    ∷ bare_item end 25 9
    ∷ []

tree_items : top_items whole_tree ≡ whole_items
tree_items = refl

tree_path : path_of whole_items ≡ closed whole_tree
tree_path = refl

-- the path after `true`, with two open containers
abbrev open_path : Path Symbol ℕ
open_path = opened (version 0 ∷ []) 9 (inner (outermost [] 9 kinds.Struct nothing) (Some (Text (codes "a"))) [] 12 kinds.List list_members)

open_items : path_of (bare_item marker 0 0 ∷ bare_item (begin kinds.Struct) 9 9 ∷ record { field = Some (Text (codes "a")); annotations = []; head = begin kinds.List; place = 12; top = 9 } ∷ bare_item (whole (bool true)) 12 9 ∷ []) ≡ open_path
open_items = refl

open_closing : closing 16 open_path ≡ version 0 ∷ tree 9 [] 9 (container kinds.Struct (member nothing (Some (Text (codes "a"))) [] 12 (container kinds.List list_members 16)) 16) ∷ []
open_closing = refl
