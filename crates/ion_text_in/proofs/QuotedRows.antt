-- Worked rows of the reading of strings, symbols in quotes and lobs, by computing: a text, and what is read of it.
use Rattle.std.specs.Prelude.{[], ◌∷◌, refl}
use Rattle.ion_text_in.proofs.ReadingText.{row, row_within, AreRead, read_within}

-- unfinished lobs
unfinished_lobs : AreRead (
    row "cut brace" "{{AA}" "Truncated at 0"
    ∷ row "cut padding and brace" "{{=}" "Truncated at 0"
    ∷ row "cut group" "{{!" "Truncated at 0"
    ∷ row "cut group of three" "{{ab!" "Truncated at 0"
    ∷ row "cut after padding" "{{bG8=a" "Truncated at 0"
    ∷ row "cut quote in clob" "{{'''a''' '" "Truncated at 0"
    ∷ row "cut quotes in clob" "{{'''a''' ''" "Truncated at 0"
    ∷ row "cut seven quotes" "{{'''''''" "Truncated at 0"
    ∷ row "cut quote in blob" "{{'a" "Truncated at 0"
    ∷ row "cut two quotes" "{{''" "Truncated at 0"
    ∷ row "two characters" "{{AA}}" "BadLob at 0"
    ∷ row "brace and letter" "{{AA}a" "BadLob at 0"
    ∷ row "no base64" "{{!!!!" "BadLob at 0"
    ∷ row "quote in blob" "{{'abc" "BadLob at 0"
    ∷ row "group after padding" "{{YQ==YQ==}}" "BadLob at 0"
    ∷ row "letters after padding" "{{bG8=aGVs}}" "BadLob at 0"
    ∷ row_within 64 1 "bad lob before limit" "{{bG9=}}" "BadLob at 0"
    ∷ [])
unfolding read_within
unfinished_lobs = refl

-- surrogates and UTF-8
surrogates : AreRead (
    row "cut after high" "\"\\uD83D" "Truncated at 0"
    ∷ row "cut after backslash" "\"\\uD83D\\" "Truncated at 0"
    ∷ row "cut in low" "\"\\uD83D\\u00" "Truncated at 0"
    ∷ row "high and letter" "\"\\uD83Dx" "BadText at 0"
    ∷ row "high and quote" "\"\\uD83D\"" "BadText at 0"
    ∷ row "high and other escape" "\"\\uD83D\\n\"" "BadText at 0"
    ∷ row "two high" "\"\\uD83D\\uD83D\"" "BadText at 0"
    ∷ row "low alone" "\"\\uDE00\"" "BadText at 0"
    ∷ row "no hex digit" "\"\\uD83g" "BadText at 0"
    ∷ row "long high" "\"\\U0000D83D\\uDE00\"" "BadText at 0"
    ∷ row "long low" "\"\\uD83D\\U0000DE00\"" "BadText at 0"
    ∷ row "past unicode" "\"\\U00110000\"" "BadText at 0"
    ∷ row "symbol of surrogate" "'\\uD83D'" "BadText at 0"
    ∷ row "high in open string" "\"\\uD83Dx" "BadText at 0"
    ∷ row "low in open string" "\"\\uDE00" "BadText at 0"
    ∷ row "pair in open string" "\"\\uD83D\\uDE00" "Truncated at 0"
    ∷ row "past unicode in open string" "\"\\U00110000" "BadText at 0"
    ∷ row "long escape" "\"\\U0001F600\"" "0 \"\\f0\\9f\\98\\80\"; done"
    ∷ row_within 64 4 "pair counts at its end" "\"a\\uD83D\\uDE00\"" "ScalarLimit at 0"
    ∷ row_within 64 1 "cut pair is not counted" "\"a\\uD83D\\uDE0" "Truncated at 0"
    ∷ row "split character" "\"Ã\\\n©\"" "0 \"\\c3\\a9\"; done"
    ∷ row "split over segments" "'''Ã''' '''©'''" "BadText at 0"
    ∷ row "surrogate in utf8" "\"í\u{a0}\u{80}\"" "BadText at 0"
    ∷ [])
unfolding read_within
surrogates = refl

-- quotes
quotes : AreRead (
    row "each letter" "\"\\a\\b\\t\\n\\f\\r\\v\\0\\?\\\"\\'\\\\\\/\"" "0 \"\\07\\08\\09\\0a\\0c\\0d\\0b\\00?\\22\\27\\5c/\"; done"
    ∷ row "no such letter" "\"\\q\"" "BadText at 0"
    ∷ row "line ends" "'''a\r\nb\rc\nd\r\r\ne'''" "0 \"a\\0ab\\0ac\\0ad\\0a\\0ae\"; done"
    ∷ row "line end in short string" "\"a\nb\"" "BadText at 0"
    ∷ row "vanishing line ends" "'''a\\\r\nb\\\rc\\\nd'''" "0 \"abcd\"; done"
    ∷ row "raw controls" "\"\t\u{b}\u{c}\u{7f}\"" "0 \"\\09\\0b\\0c\\7f\"; done"
    ∷ row "raw nul" "\"\0\"" "BadText at 0"
    ∷ row "no space between" "'''a''''''b'''" "0 \"ab\"; done"
    ∷ row "line comment between" "'''a'''//c\n'''b'''" "0 \"ab\"; done"
    ∷ row "symbol after string" "'''a''' 'b'" "0 \"a\"; 8 'b'@8; done"
    ∷ row "empty symbol after string" "'''a'''''" "0 \"a\"; 7 ''@7; done"
    ∷ row "quote first" "''''a'''" "0 \"\\27a\"; done"
    ∷ row "quote last" "'''a''''" "0 \"a\"; Truncated at 7"
    ∷ row "empty symbol" "'' ''::''x" "0 ''@0; 7/3 ''@3::''@7; 9 'x'@9; done"
    ∷ row "three quotes" "'''" "Truncated at 0"
    ∷ row "five quotes" "'''''" "Truncated at 0"
    ∷ row "six quotes" "''''''" "0 \"\"; done"
    ∷ [])
unfolding read_within
quotes = refl

-- lobs
lobs : AreRead (
    row "clob" "{{ \"a\\xff\" }}" "0 clob \"a\\ff\"; done"
    ∷ row "escape in clob" "{{\"\\u0041\"}}" "BadLob at 0"
    ∷ row "high byte in clob" "{{\"Ã©\"}}" "BadLob at 0"
    ∷ row "long clob" "{{'''a\r\n''' '''b'''}}" "0 clob \"a\\0ab\"; done"
    ∷ row "comment in clob" "{{'''a'''/**/}}" "BadLob at 0"
    ∷ row "comment in blob" "{{ /**/ }}" "BadLob at 0"
    ∷ row "spaces in blob" "{{Y Q\n= =\t}}" "0 blob \"a\"; done"
    ∷ row "braces apart" "{{\"a\"} }" "BadLob at 0"
    ∷ row "braces apart before" "{ {}}" "0 {; BadToken at 2"
    ∷ row_within 64 5 "second group limit" "{{YWJjYWJj}}" "ScalarLimit at 0"
    ∷ row_within 64 2 "blob limit" "{{YWJj}}" "ScalarLimit at 0"
    ∷ [])
unfolding read_within
lobs = refl
