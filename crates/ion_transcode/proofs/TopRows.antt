-- Worked rows of whole runs, by computing: what is written of a stream, and its verdict.
use Rattle.std.specs.Prelude.{◌≡◌, refl, codes, ℕ, ◌+◌, ◌*◌, ◌-◌, nat_lt, if◌then◌else◌, List, [], ◌∷◌, ◌++◌, Some}
use Rattle.std.specs.Str.{is_utf8, chars}
use Rattle.std.specs.Fmt.{digits}
use Prim.Native.String.{String}
use lib.Utf8.{encode}
use Rattle.ion_meter.specs.declared.fault.Reason.TheVariants.{BadVersion, BadToken, BadNumber, BadText, BadLob, BadAnnotation, Truncated, Range, Float, UnknownSymbol, SameForm, DepthLimit, ScalarLimit, ValueLimit, SymbolLimit}
use Rattle.ion_meter.specs.declared.limits.Limits.{Limits}
use Rattle.ion_meter.specs.declared.profile.Profile.{Profile}
use Rattle.ion_meter.specs.Rules.{strict}
use Rattle.ion_value.specs.Digits.{cut_at, fixed_digits}
use Rattle.ion_value.specs.Number.{digits_within, var_cut}
use Rattle.ion_value.specs.Int.{int_of_text}
use Rattle.ion_value.specs.Decimal.{decimal_of_text, decimal_of_bytes, decimal_body, parts_of}
use Rattle.ion_value.specs.Timestamp.{timestamp_of_text, timestamp_of_bytes, timestamp_text, timestamp_body, fields_cut, minute_number, utc_of, local_of}
use Rattle.ion_value.specs.Scalar.{scalar_of_run, scalar_of_body}
use Rattle.ion_value.specs.Outcome.{Verdict, Accepted, Rejected}
use Rattle.ion_symbols.specs.Table.{Shared}
use Rattle.ion_text_in.specs.Places.{run_of}
use Rattle.ion_text_in.specs.Blanks.{blanks_at, in_line, opening, in_block, closing}
use Rattle.ion_text_in.specs.Quoted.{hex_after, piece_at, pieces_for, segment_at, segments_for}
use Rattle.ion_text_in.specs.Lob.{group_of, groups_for, lob_at}
use Rattle.ion_text_in.specs.Token.{first_at, word_token, token_of}
use Rattle.ion_text_in.specs.Reading as text
use Rattle.ion_text_in.specs.Reading.{may_come, tells_version, take, part_at}
use Rattle.ion_binary.specs.Canonical.{declaration, id_in, is_over, with_symbol}
use Rattle.ion_binary.specs.Descriptor.{octet_at, var_at, var_uint_at, length_at, shape_of}
use Rattle.ion_binary.specs.Reading as binary
use Rattle.ion_binary.specs.Reading.{marker_at, bare_at, nop_pad_at, body_at, scalar_at, begin_at, container_at, sorted_at, read_by_descriptor, typed_value_at, wrapper_at, ids_at, plain_at, inner_at, annotated_at, value_at, member_at}
use Rattle.ion_transcode.specs.declared.to.To.{To}
use Rattle.ion_transcode.specs.declared.to.To.TheVariants as to
use Rattle.ion_transcode.specs.declared.to.Form.TheVariants as form
use Rattle.ion_transcode.specs.Bound.{bound}
use Rattle.ion_transcode.specs.ByItem.{verdict_for, output_for}

abbrev pub usual : Limits
usual = record { depth = 64; scalar = 1048576; symbols = 1048576; value = 16777216; input = 281474976710656 }

-- what a run with a profile writes of these bytes, and its verdict
unfoldable pub told_with : Profile → List Shared → Limits → To → List ℕ → List ℕ × Verdict
unfolding is_utf8 chars digits encode cut_at fixed_digits digits_within int_of_text decimal_of_text parts_of timestamp_of_text timestamp_text minute_number utc_of local_of scalar_of_run run_of blanks_at in_line opening in_block closing hex_after piece_at pieces_for segment_at segments_for group_of groups_for lob_at first_at word_token token_of may_come tells_version take part_at text.step text.reading octet_at var_at var_uint_at length_at shape_of marker_at bare_at nop_pad_at body_at scalar_at begin_at container_at sorted_at read_by_descriptor typed_value_at wrapper_at ids_at plain_at inner_at annotated_at value_at member_at binary.step binary.reading scalar_of_body decimal_of_bytes var_cut fields_cut timestamp_of_bytes decimal_body timestamp_body id_in with_symbol declaration is_over
told_with profile catalog limits to bytes = (output_for profile catalog limits to bytes, verdict_for profile catalog limits to bytes)

-- those of a run where no profile is given
unfoldable pub told : List Shared → Limits → To → List ℕ → List ℕ × Verdict
unfolding told_with
told catalog limits to bytes = told_with strict catalog limits to bytes

-- octets by their hexadecimal digits, with a space between two of them
abbrev hex_value : ℕ → ℕ
hex_value c = if nat_lt c 58 then c - 48 else c - 55

abbrev octets_of : List ℕ → List ℕ
octets_of [] = []
octets_of (a ∷ []) = []
octets_of (a ∷ b ∷ []) = (16 * hex_value a + hex_value b) ∷ []
octets_of (a ∷ b ∷ space ∷ more) = (16 * hex_value a + hex_value b) ∷ octets_of more

abbrev pub octets : String → List ℕ
octets s = octets_of (codes s)

-- the same after a version marker
abbrev pub marked : String → List ℕ
marked s = 0xE0 ∷ 0x01 ∷ 0x00 ∷ 0xEA ∷ octets s

-- a catalogue of one table with the texts `p` and `q`, and a stream that imports it
abbrev pq : List Shared
pq = record { name = codes "x"; version = 1; slots = Some (codes "p") ∷ Some (codes "q") ∷ [] } ∷ []

abbrev importing : List ℕ
importing = codes "$ion_symbol_table::{imports:[{name:\"x\",version:1,max_id:2}],symbols:[\"a\"]} $12 $10"

-- ---- nothing, and a version marker

an_empty_text_shown : told [] usual to.Text (codes "") ≡ ([], Accepted 0)
unfolding told
an_empty_text_shown = refl

an_empty_text_converted : told [] usual to.Other (codes "") ≡ (marked "", Accepted 0)
unfolding told
an_empty_text_converted = refl

an_empty_text_checked : told [] usual to.Nothing (codes "") ≡ ([], Accepted 0)
unfolding told
an_empty_text_checked = refl

a_version_marker_shown : told [] usual to.Text (marked "") ≡ ([], Accepted 0)
unfolding told
a_version_marker_shown = refl

binary_to_binary_refused : told [] usual to.Binary (marked "") ≡ ([], Rejected SameForm 0)
unfolding told
binary_to_binary_refused = refl

another_version_refused : told [] usual to.Text (octets "E0 01 01 EA") ≡ ([], Rejected BadVersion 0)
unfolding told
another_version_refused = refl

binary_with_no_version_marker_refused : told [] usual to.Text (octets "21 05") ≡ ([], Rejected BadToken 0)
unfolding told
binary_with_no_version_marker_refused = refl

a_quoted_version_marker_converted : told [] usual to.Other (codes "'$ion_1_0'") ≡ (marked "71 02", Accepted 1)
unfolding told
a_quoted_version_marker_converted = refl

-- ---- values

a_null_ints_and_a_symbol_converted : told [] usual to.Other (codes "null.int 5 -0 'a b'")
    ≡ (marked "2F 21 05 20 EC 81 83 D9 86 71 03 87 B4 83 61 20 62 71 0A", Accepted 4)
unfolding told
a_null_ints_and_a_symbol_converted = refl

a_struct_and_a_list_converted : told [] usual to.Other (codes "{name:[1,2]}") ≡ (marked "D6 84 B4 21 01 21 02", Accepted 1)
unfolding told
a_struct_and_a_list_converted = refl

a_timestamp_converted : told [] usual to.Other (codes "2011-02-20T11:30:59.100-08:00")
    ≡ (marked "6B 43 E0 0F DB 82 94 93 9E BB C3 64", Accepted 1)
unfolding told
a_timestamp_converted = refl

a_timestamp_with_a_fraction_shown : told [] usual to.Text (marked "69 80 0F D0 81 81 80 80 80 C1")
    ≡ (codes "2000-01-01T00:00:00.0Z\n", Accepted 1)
unfolding told
a_timestamp_with_a_fraction_shown = refl

a_decimal_negative_zero_shown : told [] usual to.Text (codes "-0.") ≡ (codes "-0.\n", Accepted 1)
unfolding told
a_decimal_negative_zero_shown = refl

a_decimal_negative_zero_converted : told [] usual to.Other (codes "-0.") ≡ (marked "52 80 80", Accepted 1)
unfolding told
a_decimal_negative_zero_converted = refl

an_id_of_zero_shown : told [] usual to.Other (marked "70") ≡ (codes "$0\n", Accepted 1)
unfolding told
an_id_of_zero_shown = refl

operators_in_an_sexp_shown : told [] usual to.Text (codes "(--1 a.b -2 /*c*/ +)")
    ≡ (codes "('--' 1 a '.' b -2 '+')\n", Accepted 1)
unfolding told
operators_in_an_sexp_shown = refl

a_nop_pad_in_a_struct_passed_over : told [] usual to.Text (marked "D5 FE 01 FF 84 11") ≡ (codes "{name:true}\n", Accepted 1)
unfolding told
a_nop_pad_in_a_struct_passed_over = refl

-- ---- what is refused

a_float_refused : told [] usual to.Text (codes "1e0") ≡ ([], Rejected Float 0)
unfolding told
a_float_refused = refl

an_int_out_of_range_refused : told [] usual to.Other (codes "340282366920938463463374607431768211456")
    ≡ (marked "", Rejected Range 0)
unfolding told
an_int_out_of_range_refused = refl

an_int_negative_zero_refused : told [] usual to.Text (marked "31 00") ≡ ([], Rejected BadNumber 4)
unfolding told
an_int_negative_zero_refused = refl

a_wrapper_in_a_wrapper_refused : told [] usual to.Text (marked "E6 81 84 E3 81 84 11") ≡ ([], Rejected BadAnnotation 7)
unfolding told
a_wrapper_in_a_wrapper_refused = refl

a_token_refused_before_its_field : told [] usual to.Text (codes "{$99:1_}") ≡ (codes "{", Rejected BadToken 5)
unfolding told
a_token_refused_before_its_field = refl

-- ---- what is cut, and what is written of it

a_text_cut : told [] usual to.Text (codes "[1,{a:") ≡ (codes "[1,{", Rejected Truncated 6)
unfolding told
a_text_cut = refl

a_binary_string_cut : told [] usual to.Text (marked "21 05 82 61") ≡ (codes "5\n", Rejected Truncated 6)
unfolding told
a_binary_string_cut = refl

a_list_longer_than_the_input_cut : told [] usual to.Text (marked "BE 7F 7F 7F 7F 7F 7F 7F 7F FF")
    ≡ (codes "[", Rejected Truncated 14)
unfolding told
a_list_longer_than_the_input_cut = refl

a_value_before_one_that_is_cut_converted : told [] usual to.Other (codes "a [b,")
    ≡ (marked "EA 81 83 D7 86 71 03 87 B2 81 61 71 0A", Rejected Truncated 5)
unfolding told
a_value_before_one_that_is_cut_converted = refl

-- ---- limits

containers_past_the_depth_refused : told [] (record usual { depth = 1 }) to.Text (codes "[[]]")
    ≡ (codes "[", Rejected DepthLimit 1)
unfolding told
containers_past_the_depth_refused = refl

a_string_longer_than_its_limit_refused : told [] (record usual { scalar = 13 }) to.Binary (codes "\"abcdefghijklmn\"")
    ≡ (marked "", Rejected ScalarLimit 0)
unfolding told
a_string_longer_than_its_limit_refused = refl

a_string_longer_than_all_limits_refused : told [] usual to.Text (marked "8E 7F 7F 7F 7F 7F 7F 7F 7F FF")
    ≡ ([], Rejected ScalarLimit 4)
unfolding told
a_string_longer_than_all_limits_refused = refl

a_value_as_long_as_its_limit_converted : told [] (record usual { value = 16 }) to.Binary (codes "\"abcdefghijklmn\"")
    ≡ (marked "8E 8E 61 62 63 64 65 66 67 68 69 6A 6B 6C 6D 6E", Accepted 1)
unfolding told
a_value_as_long_as_its_limit_converted = refl

a_value_longer_than_its_limit_refused : told [] (record usual { value = 15 }) to.Binary (codes "\"abcdefghijklmn\"")
    ≡ (marked "", Rejected ValueLimit 0)
unfolding told
a_value_longer_than_its_limit_refused = refl

an_open_value_as_long_as_its_limit_cut : told [] (record usual { value = 5 }) to.Binary (codes "[[[\"x\"")
    ≡ (marked "", Rejected Truncated 6)
unfolding told
an_open_value_as_long_as_its_limit_cut = refl

an_open_value_longer_than_its_limit_refused : told [] (record usual { value = 4 }) to.Binary (codes "[[[\"x\"")
    ≡ (marked "", Rejected ValueLimit 0)
unfolding told
an_open_value_longer_than_its_limit_refused = refl

a_second_epoch_converted : told [] (record usual { symbols = 17 }) to.Binary (codes "a b")
    ≡ (marked "EA 81 83 D7 86 71 03 87 B2 81 61 71 0A E0 01 00 EA EA 81 83 D7 86 71 03 87 B2 81 62 71 0A", Accepted 2)
unfolding told
a_second_epoch_converted = refl

symbols_past_their_limit_refused : told [] (record usual { symbols = 33 }) to.Binary (codes "[a,b]")
    ≡ (marked "", Rejected SymbolLimit 3)
unfolding told
symbols_past_their_limit_refused = refl

-- ---- declarations and the catalogue

symbols_that_are_appended_shown :
    told [] usual to.Text (marked "EA 81 83 D7 87 B2 81 61 86 71 03 EA 81 83 D7 87 B2 81 62 86 71 03 71 0A 71 0B")
    ≡ (codes "a\nb\n", Accepted 2)
unfolding told
symbols_that_are_appended_shown = refl

an_import_that_no_catalogue_has_shown : told [] usual to.Text importing ≡ (codes "a\n", Rejected UnknownSymbol 79)
unfolding told
an_import_that_no_catalogue_has_shown = refl

an_import_that_the_catalogue_has_shown : told pq usual to.Text importing ≡ (codes "a\np\n", Accepted 2)
unfolding told
an_import_that_the_catalogue_has_shown = refl

an_import_that_no_catalogue_has_checked : told [] usual to.Nothing importing ≡ ([], Rejected UnknownSymbol 79)
unfolding told
an_import_that_no_catalogue_has_checked = refl

an_import_that_the_catalogue_has_checked : told pq usual to.Nothing importing ≡ ([], Accepted 2)
unfolding told
an_import_that_the_catalogue_has_checked = refl

-- ---- there and back: two values, laid out otherwise than they are shown

abbrev two_values : List ℕ
two_values = codes "{ a : [1, \"b\"], 'c d' : null } // and\n 'a'::( x 1.50 )"

abbrev two_lines : List ℕ
two_lines = codes "{a:[1,\"b\"],'c d':null}\na::(x 1.50)\n"

abbrev two_in_binary : List ℕ
two_in_binary =
    marked "EE 8E 81 83 DB 86 71 03 87 B6 81 61 83 63 20 64" ++ (octets "D8 8A B4 21 01 81 62 8B 0F"
    ++ (octets "EA 81 83 D7 86 71 03 87 B2 81 78" ++ octets "E9 81 8A C6 71 0C 53 C2 00 96"))

two_values_shown : told [] usual to.Text two_values ≡ (two_lines, Accepted 2)
unfolding told
two_values_shown = refl

two_values_shown_again : told [] usual to.Text two_lines ≡ (two_lines, Accepted 2)
unfolding told
two_values_shown_again = refl

two_values_converted : told [] usual to.Binary two_values ≡ (two_in_binary, Accepted 2)
unfolding told
two_values_converted = refl

two_values_shown_from_binary : told [] usual to.Text two_in_binary ≡ (two_lines, Accepted 2)
unfolding told
two_values_shown_from_binary = refl

-- why the laws of the round trip ask for bytes, and for a catalogue of UTF-8: what is written of others is no stream

a_number_that_is_no_byte_shown : told [] usual to.Text (marked "91" ++ 300 ∷ []) ≡ (codes "{{\"\\xic\"}}\n", Accepted 1)
unfolding told
a_number_that_is_no_byte_shown = refl

its_text_refused : told [] usual to.Text (codes "{{\"\\xic\"}}\n") ≡ ([], Rejected BadLob 0)
unfolding told
its_text_refused = refl

abbrev not_text : List Shared
not_text = record { name = codes "x"; version = 1; slots = Some (255 ∷ []) ∷ [] } ∷ []

a_slot_that_is_no_text_shown : told not_text usual to.Text (codes "$ion_symbol_table::{imports:[{name:\"x\",max_id:1}]} $10")
    ≡ (39 ∷ 255 ∷ 39 ∷ 10 ∷ [], Accepted 1)
unfolding told
a_slot_that_is_no_text_shown = refl

its_symbol_refused : told [] usual to.Text (39 ∷ 255 ∷ 39 ∷ 10 ∷ []) ≡ ([], Rejected BadText 0)
unfolding told
its_symbol_refused = refl

-- ---- binary written again

binary_rewritten : told [] usual to.Rewritten (marked "22 00 05 D5 80 01 FF 84 11 0F 00") ≡ (marked "21 05 D2 84 11 0F", Accepted 3)
unfolding told
binary_rewritten = refl

a_declaration_rewritten : told [] usual to.Rewritten (marked "EA 81 83 D7 87 B2 81 61 86 71 03 71 0A")
    ≡ (marked "EA 81 83 D7 86 71 03 87 B2 81 61 71 0A", Accepted 1)
unfolding told
a_declaration_rewritten = refl

a_text_rewritten : told [] usual to.Rewritten (codes "{name:[1,2]}") ≡ (marked "D6 84 B4 21 01 21 02", Accepted 1)
unfolding told
a_text_rewritten = refl

an_int_negative_zero_not_rewritten : told [] usual to.Rewritten (marked "21 05 31 00") ≡ (marked "21 05", Rejected BadNumber 6)
unfolding told
an_int_negative_zero_not_rewritten = refl

binary_longer_than_its_limit_not_rewritten : told [] (record usual { value = 1 }) to.Rewritten (marked "21 05") ≡ (marked "", Rejected ValueLimit 4)
unfolding told
binary_longer_than_its_limit_not_rewritten = refl

-- ---- pretty text

members_pretty : told [] usual to.Pretty (codes "a::{name:[1,(b c)],d:{}}[]")
    ≡ (codes "a::{\n  name: [\n    1,\n    (\n      b\n      c\n    )\n  ],\n  d: {}\n}\n[]\n", Accepted 2)
unfolding told
members_pretty = refl

members_pretty_from_binary : told [] usual to.Pretty (marked "D6 84 B4 21 01 21 02") ≡ (codes "{\n  name: [\n    1,\n    2\n  ]\n}\n", Accepted 1)
unfolding told
members_pretty_from_binary = refl

pretty_text_shown : told [] usual to.Text (codes "{\n  name: [\n    1,\n    2\n  ]\n}\n") ≡ (codes "{name:[1,2]}\n", Accepted 1)
unfolding told
pretty_text_shown = refl

a_text_cut_pretty : told [] usual to.Pretty (codes "[1,{a:") ≡ (codes "[\n  1,\n  {", Rejected Truncated 6)
unfolding told
a_text_cut_pretty = refl

-- ---- the bound on memory

bound_of_text_from_binary : bound usual form.Binary to.Text ≡ 5253120
bound_of_text_from_binary = refl

bound_of_pretty_text : bound usual form.Text to.Pretty ≡ 5253120
bound_of_pretty_text = refl

bound_of_binary_from_text : bound usual form.Text to.Other ≡ 23078912
bound_of_binary_from_text = refl

bound_of_binary_rewritten : bound usual form.Binary to.Rewritten ≡ 23078912
bound_of_binary_rewritten = refl

bound_of_text_rewritten : bound usual form.Text to.Rewritten ≡ 23078912
bound_of_text_rewritten = refl

bound_of_other_from_binary : bound usual form.Binary to.Other ≡ 5253120
bound_of_other_from_binary = refl
