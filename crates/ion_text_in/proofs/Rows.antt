-- Worked rows of the reading, by computing: a text, one character for each of its bytes, and what is read of it.
use Rattle.std.specs.Prelude.{[], ◌∷◌, refl}
use Rattle.ion_text_in.proofs.ReadingText.{row, row_within, AreRead, read_within}

-- whole streams
whole_streams : AreRead (
    row "empty" "" "done"
    ∷ row "scalars" "null.int 5 -0 'a b'" "0 null.int; 9 5; 11 0; 14 'a b'@14; done"
    ∷ row "field and list" "{name:[1,2]}" "0 {; 6/0 'name'@1:[; 7/0 1; 9/0 2; 10/0 end; 11/0 end; done"
    ∷ row_within 64 14 "fourteen bytes" "\"abcdefghijklmn\"" "0 \"abcdefghijklmn\"; done"
    ∷ row_within 64 13 "past the limit" "\"abcdefghijklmn\"" "ScalarLimit at 0"
    ∷ row "moment" "2011-02-20T11:30:59.100-08:00" "0 2011-02-20T11:30:59.100-08:00; done"
    ∷ row "minus zero" "-0." "0 -0.; done"
    ∷ row "declaration" "$ion_symbol_table::{imports:[{name:\"x\",version:1,max_id:2}],symbols:[\"a\"]} $12 $10" "19/0 '$ion_symbol_table'@0::{; 28/0 'imports'@20:[; 29/0 {; 35/0 'name'@30:\"x\"; 47/0 'version'@39:1; 56/0 'max_id'@49:2; 57/0 end; 58/0 end; 68/0 'symbols'@60:[; 69/0 \"a\"; 72/0 end; 73/0 end; 75 $12@75; 79 $10@79; done"
    ∷ row "joined after comment" "'''a''' /*x*/ '''b'''" "0 \"ab\"; done"
    ∷ row "greatest int" "340282366920938463463374607431768211455" "0 340282366920938463463374607431768211455; done"
    ∷ row "too great an int" "340282366920938463463374607431768211456" "Range at 0"
    ∷ row "float" "1e0" "Float at 0"
    ∷ row "three open" "[[[\"x\"" "0 [; 1/0 [; 2/0 [; 3/0 \"x\"; Truncated at 6"
    ∷ row "two symbols" "a b" "0 'a'@0; 2 'b'@2; done"
    ∷ row_within 4 64 "ignored field" "$ion_symbol_table::{name:[5,5],symbols:[\"a\"]} $10" "19/0 '$ion_symbol_table'@0::{; 25/0 'name'@20:[; 26/0 5; 28/0 5; 29/0 end; 39/0 'symbols'@31:[; 40/0 \"a\"; 43/0 end; 44/0 end; 46 $10@46; done"
    ∷ row "cut at value" "[1,{a:" "0 [; 1/0 1; 3/0 {; Truncated at 6"
    ∷ row "blob" "{{aGVsbG8=}}" "0 blob \"hello\"; done"
    ∷ row "unused bits" "{{aGVsbG9=}}" "BadLob at 0"
    ∷ row "empty blob" "{{}}" "0 blob \"\"; done"
    ∷ row "byte escape" "\"\\xe9\"" "0 \"\\c3\\a9\"; done"
    ∷ row "surrogate pair" "\"\\uD83D\\uDE00\"" "0 \"\\f0\\9f\\98\\80\"; done"
    ∷ row "lone surrogate" "\"\\uD83D\"" "BadText at 0"
    ∷ row "cut string" "\"ab " "Truncated at 0"
    ∷ row "field by id" "{$99:1}" "0 {; 5/0 $99@1:1; 6/0 end; done"
    ∷ row "own fault after id" "{$99:1_}" "0 {; BadToken at 5"
    ∷ row "operators" "(--1 a.b -2 /*c*/ +)" "0 (; 1/0 '--'@1; 3/0 1; 5/0 'a'@5; 6/0 '.'@6; 7/0 'b'@7; 9/0 -2; 18/0 '+'@18; 19/0 end; done"
    ∷ row "other version" "$ion_1_1 5" "BadVersion at 0"
    ∷ row "version in quotes" "'$ion_1_0'" "0 '$ion_1_0'@0; done"
    ∷ row "byte order mark" "ï»¿5" "BadToken at 0"
    ∷ row "binary without marker" "!\u{5}" "BadToken at 0"
    ∷ row "dates" "2007T 2007-01-02T" "0 2007T; 6 2007-01-02; done"
    ∷ row "month thirteen" "2007-13T" "BadTimestamp at 0"
    ∷ row "no comma" "[1 2]" "0 [; 1/0 1; BadToken at 3"
    ∷ row "trailing comma" "[1,]" "0 [; 1/0 1; 3/0 end; done"
    ∷ row "comma alone" "[,]" "0 [; BadToken at 1"
    ∷ row "two colons after field" "{a::1}" "0 {; BadToken at 2"
    ∷ row_within 1 1048576 "too deep" "[[]]" "0 [; DepthLimit at 1"
    ∷ row "shared table" "$ion_shared_symbol_table::{name:\"x\",version:1,symbols:[\"p\",\"q\"]}" "26/0 '$ion_shared_symbol_table'@0::{; 32/0 'name'@27:\"x\"; 44/0 'version'@36:1; 54/0 'symbols'@46:[; 55/0 \"p\"; 59/0 \"q\"; 62/0 end; 63/0 end; done"
    ∷ [])
unfolding read_within
whole_streams = refl

-- between tokens
between_tokens : AreRead (
    row "comment ends run" "[1/*x*/,2]" "0 [; 1/0 1; 8/0 2; 9/0 end; done"
    ∷ row "slash in run" "[1/2]" "0 [; BadToken at 1"
    ∷ row "comments round colons" "a /*x*/ :: /*y*/ b" "17/0 'a'@0::'b'@17; done"
    ∷ row "no type" "null.nul" "BadToken at 0"
    ∷ row "underscore last" "(1_ a)" "0 (; BadToken at 1"
    ∷ row "nothing annotated" "a::" "Truncated at 3"
    ∷ row "separator before string" "[1 \"a" "0 [; 1/0 1; BadToken at 3"
    ∷ row "keyword as field" "{nan:1}" "0 {; BadToken at 1"
    ∷ row "no such day" "2000-02-30T" "BadTimestamp at 0"
    ∷ row "cut comment after symbol" "a /*" "0 'a'@0; Truncated at 2"
    ∷ row "cut second segment" "'''a''' '''b" "Truncated at 0"
    ∷ [])
unfolding read_within
between_tokens = refl

-- limits before the end, and words
limits_before_the_end : AreRead (
    row_within 64 1 "quotes count" "'''a''" "ScalarLimit at 0"
    ∷ row "comment after string" "'''a''' /*" "0 \"a\"; Truncated at 8"
    ∷ row_within 64 6 "long keyword" "null.5555" "ScalarLimit at 0"
    ∷ row "null and point" "null." "BadToken at 0"
    ∷ row "annotated operator" "(a::+)" "0 (; 4/0 'a'@1::'+'@4; 5/0 end; done"
    ∷ row "operator annotates nothing" "(+::a)" "0 (; 1/0 '+'@1; BadToken at 2"
    ∷ row_within 64 3 "infinity as field" "{+inf:1}" "0 {; BadToken at 1"
    ∷ row_within 64 3 "null as field" "{null:1}" "0 {; ScalarLimit at 1"
    ∷ row "bool annotates nothing" "true::1" "0 true; BadToken at 4"
    ∷ row "string annotates nothing" "\"a\"::b" "0 \"a\"; BadToken at 3"
    ∷ row "nan before colons" "nan::1" "Float at 0"
    ∷ row "comment of three" "/*/" "Truncated at 0"
    ∷ row "comment of five" "/*/*/ 1" "6 1; done"
    ∷ row "leading zero in version" "$ion_01_0" "BadVersion at 0"
    ∷ row "two zeros in version" "$ion_1_00" "BadVersion at 0"
    ∷ row "version as annotation" "$ion_1_1::5" "10/0 '$ion_1_1'@0::5; done"
    ∷ row "annotated version" "a::$ion_1_1" "3/0 'a'@0::'$ion_1_1'@3; done"
    ∷ row "version in list" "[$ion_1_1]" "0 [; 1/0 '$ion_1_1'@1; 9/0 end; done"
    ∷ row "symbol and int" "a-1" "0 'a'@0; 1 -1; done"
    ∷ row "digit and letter" "1a" "BadToken at 0"
    ∷ row "digit and colons" "1::a" "BadToken at 0"
    ∷ row "exponent less digits" "1.0d2147483648" "0 10d2147483647; done"
    ∷ row "exponent out of range" "1d2147483648" "Range at 0"
    ∷ row_within 0 1048576 "too deep after annotation" "$99::[" "DepthLimit at 5"
    ∷ [])
unfolding read_within
limits_before_the_end = refl

-- tokens that touch
tokens_that_touch : AreRead (
    row "all touch" "a\"b\"'c'1[2]" "0 'a'@0; 1 \"b\"; 4 'c'@4; 7 1; 8 [; 9/8 2; 10/8 end; done"
    ∷ row "minus in operator" "(a+-1)" "0 (; 1/0 'a'@1; 2/0 '+-'@2; 4/0 1; 5/0 end; done"
    ∷ row "minus in run" "(-1-2)" "0 (; BadToken at 1"
    ∷ row "semicolon in run" "(5;6)" "0 (; BadToken at 1"
    ∷ row "null and operator" "(null .int)" "0 (; 1/0 null; 6/0 '.'@6; 7/0 'int'@7; 10/0 end; done"
    ∷ row "point after symbol" "(nulls.a)" "0 (; 1/0 'nulls'@1; 6/0 '.'@6; 7/0 'a'@7; 8/0 end; done"
    ∷ row "keyword and more" "truely nulls nano" "0 'truely'@0; 7 'nulls'@7; 13 'nano'@13; done"
    ∷ row "infinity" "[-inf]" "0 [; Float at 1"
    ∷ row "no infinity" "(+infx)" "0 (; 1/0 '+'@1; 2/0 'infx'@2; 6/0 end; done"
    ∷ row "plus at top" "+infx" "BadToken at 0"
    ∷ [])
unfolding read_within
tokens_that_touch = refl

-- comments
comments : AreRead (
    row "comment before operator" "(/*c*/+)" "0 (; 6/0 '+'@6; 7/0 end; done"
    ∷ row "comment after operator" "(+/*c*/-)" "0 (; 1/0 '+'@1; 7/0 '-'@7; 8/0 end; done"
    ∷ row "line after operator" "(+//c\n-)" "0 (; 1/0 '+'@1; 6/0 '-'@6; 7/0 end; done"
    ∷ row "slashes" "(/ */)" "0 (; 1/0 '/'@1; 3/0 '*/'@3; 5/0 end; done"
    ∷ row "line to the end" "(//)" "0 (; Truncated at 4"
    ∷ row "cut block" "(/*)" "0 (; Truncated at 1"
    ∷ row "each white" " \t\n\u{b}\u{c}\r5" "6 5; done"
    ∷ row "stars" "/***/5//" "5 5; done"
    ∷ row "line ended by return" "//a\r5" "4 5; done"
    ∷ row "slash at top" "/ 5" "BadToken at 0"
    ∷ row "comment between ints" "1/*c*/2" "0 1; 6 2; done"
    ∷ [])
unfolding read_within
comments = refl

-- structs and annotations
structs_and_annotations : AreRead (
    row "each field" "{\"a\":1,'b':2,'''c''' /*x*/ '''d''':3,$4:4}" "0 {; 5/0 'a'@1:1; 11/0 'b'@7:2; 35/0 'cd'@13:3; 40/0 $4@37:4; 41/0 end; done"
    ∷ row "no colon" "{a 1}" "0 {; BadToken at 3"
    ∷ row "cut field" "{a" "0 {; Truncated at 2"
    ∷ row "no value" "{a:}" "0 {; BadToken at 3"
    ∷ row "int as field" "{1_:2}" "0 {; BadToken at 1"
    ∷ row "two commas" "{a:1,,}" "0 {; 3/0 'a'@1:1; BadToken at 5"
    ∷ row "annotated member" "{a:b::1}" "0 {; 6/0 'a'@1:'b'@3::1; 7/0 end; done"
    ∷ row "other bracket" "[1)" "0 [; 1/0 1; BadToken at 2"
    ∷ row "bracket alone" "]" "BadToken at 0"
    ∷ row "comma in sexp" "(1,2)" "0 (; 1/0 1; BadToken at 2"
    ∷ row "end after annotation" "[a::]" "0 [; BadToken at 4"
    ∷ row "each annotation" "a::'b' :: $4::[]" "14/0 'a'@0::'b'@3::$4@10::[; 15/0 end; done"
    ∷ row "cut comment after colons" "a:: /*" "Truncated at 4"
    ∷ row "colons apart" "a: :b" "0 'a'@0; BadToken at 1"
    ∷ row_within 64 18 "annotation within limit" "ab::1" "4/0 'ab'@0::1; done"
    ∷ row_within 64 17 "annotation limit" "ab::1" "AnnotationLimit at 0"
    ∷ row_within 64 31 "second annotation" "$4::$5::1" "AnnotationLimit at 4"
    ∷ row "nested" "[[],(),{}]" "0 [; 1/0 [; 2/0 end; 4/0 (; 5/0 end; 7/0 {; 8/0 end; 9/0 end; done"
    ∷ [])
unfolding read_within
structs_and_annotations = refl

-- version markers
version_markers : AreRead (
    row "version twice" "$ion_1_0 $ion_1_0" "0 version; 9 version; done"
    ∷ row "version and cut comment" "$ion_1_0 /*" "0 version; Truncated at 9"
    ∷ row "no versions" "$ion_1_ $ion_a_0 $ion_1_0_0 $ion_1_0a $2" "0 '$ion_1_'@0; 8 '$ion_a_0'@8; 17 '$ion_1_0_0'@17; 28 '$ion_1_0a'@28; 38 $2@38; done"
    ∷ row "version annotates" "$ion_1_0::$ion_1_0" "10/0 '$ion_1_0'@0::'$ion_1_0'@10; done"
    ∷ [])
unfolding read_within
version_markers = refl

-- runs, words and their limits
runs_and_words : AreRead (
    row "bases" "0xFF -0B101 1_000" "0 255; 5 -5; 12 1000; done"
    ∷ row "two underscores" "1__0" "BadToken at 0"
    ∷ row_within 64 3 "limit before shape" "1__0" "ScalarLimit at 0"
    ∷ row "leading zero" "00" "BadToken at 0"
    ∷ row "decimals" "1.5d-3 1D2 -1." "0 0.0015; 7 1d2; 11 -1.; done"
    ∷ row "point first" ".5" "BadToken at 0"
    ∷ row "year alone" "2007 2007-02-03T04:05Z" "0 2007; 5 2007-02-03T04:05Z; done"
    ∷ row "no offset" "2007-02-03T04:05" "BadToken at 0"
    ∷ row "hour twenty four" "2007-02-03T24:00Z" "BadTimestamp at 0"
    ∷ row_within 64 2 "operator limit" "(+++)" "0 (; ScalarLimit at 1"
    ∷ row_within 64 1 "segments limit" "'''a''' '''b'''" "ScalarLimit at 0"
    ∷ row_within 64 1 "limit before cut" "\"ab" "ScalarLimit at 0"
    ∷ row_within 64 2 "limit before float" "nan" "ScalarLimit at 0"
    ∷ row "ids" "$0 $0005 $2147483647 $2147483648" "0 $0@0; 3 $5@3; 9 $2147483647@9; 21 $2147483648@21; done"
    ∷ [])
unfolding read_within
runs_and_words = refl
