-- Worked rows of texts that are cut, by computing: what stands before the cut and after it, and what is read of both together and of each by itself.
use Rattle.std.specs.Prelude.{ℕ, false, List, [], ◌∷◌, ◌++◌, length, codes, refl}
use Prim.Native.String.{String}
use Rattle.ion_meter.specs.declared.profile.Rules.{Rules}
use Rattle.ion_value.specs.Reading.{items_of, items_then}
use Rattle.ion_text_in.specs.Meaning.{at}
use Rattle.ion_text_in.specs.Reading.{reading, reading_from}
use Rattle.ion_text_in.proofs.ReadingText.{AreRead, read_within, reading_shown, rules_of}

abbrev rules : Rules
rules = rules_of 64 1048576 false

-- a name, what stands before a cut and after it, and what is read of both together
abbrev together : String → String → String → String → List ℕ × List ℕ
together name y z shown = (reading_shown (reading rules (codes y ++ codes z)), codes shown)

-- and of each by itself
abbrev apart : String → String → String → String → List ℕ × List ℕ
apart name y z shown = (reading_shown (items_then (items_of (reading rules (codes y))) (reading_from rules (at (length (codes y)) (codes z)))), codes shown)

-- a number goes on where no line ends, and so does a comment
no_line_ends : AreRead (
    together "number" "12" "3" "0 123; done"
    ∷ apart "number" "12" "3" "0 12; 2 3; done"
    ∷ together "comment" "1 // c" "x\n" "0 1; done"
    ∷ apart "comment" "1 // c" "x\n" "0 1; 6 'x'@6; done"
    ∷ together "block" "1 /* c\n" "x */" "0 1; done"
    ∷ apart "block" "1 /* c\n" "x */" "0 1; 7 'x'@7; BadToken at 9"
    ∷ [])
unfolding read_within
no_line_ends = refl

-- a symbol, a version marker and a string go on where no value begins
none_begins : AreRead (
    together "colons" "foo\n" ":: 1" "7/0 'foo'@0::1; done"
    ∷ apart "colons" "foo\n" ":: 1" "0 'foo'@0; BadToken at 4"
    ∷ together "space and colons" "foo\n" " :: 1" "8/0 'foo'@0::1; done"
    ∷ apart "space and colons" "foo\n" " :: 1" "0 'foo'@0; BadToken at 5"
    ∷ together "comment and colons" "foo\n" "/*c*/::1" "11/0 'foo'@0::1; done"
    ∷ apart "comment and colons" "foo\n" "/*c*/::1" "0 'foo'@0; BadToken at 9"
    ∷ together "marker" "$ion_1_0\n" "::1" "11/0 '$ion_1_0'@0::1; done"
    ∷ apart "marker" "$ion_1_0\n" "::1" "0 version; BadToken at 9"
    ∷ together "segment" "'''a'''\n" "'''b'''" "0 \"ab\"; done"
    ∷ apart "segment" "'''a'''\n" "'''b'''" "0 \"a\"; 8 \"b\"; done"
    ∷ together "comment and segment" "'''a'''\n" "/*c*/'''b'''" "0 \"ab\"; done"
    ∷ apart "comment and segment" "'''a'''\n" "/*c*/'''b'''" "0 \"a\"; 13 \"b\"; done"
    ∷ [])
unfolding read_within
none_begins = refl

-- what begins a value changes nothing
one_begins : AreRead (
    together "symbols" "a\n" "b" "0 'a'@0; 2 'b'@2; done"
    ∷ apart "symbols" "a\n" "b" "0 'a'@0; 2 'b'@2; done"
    ∷ together "strings" "'''a'''\n" "\"b\"" "0 \"a\"; 8 \"b\"; done"
    ∷ apart "strings" "'''a'''\n" "\"b\"" "0 \"a\"; 8 \"b\"; done"
    ∷ together "no value" "$ion_1_0\n" "]" "0 version; BadToken at 9"
    ∷ apart "no value" "$ion_1_0\n" "]" "0 version; BadToken at 9"
    ∷ [])
unfolding read_within
one_begins = refl

-- nor does anything after a firm value
firm_values : AreRead (
    together "int" "1\n" "::1" "0 1; BadToken at 2"
    ∷ apart "int" "1\n" "::1" "0 1; BadToken at 2"
    ∷ together "list" "['''a''']\n" "'''b'''" "0 [; 1/0 \"a\"; 8/0 end; 10 \"b\"; done"
    ∷ apart "list" "['''a''']\n" "'''b'''" "0 [; 1/0 \"a\"; 8/0 end; 10 \"b\"; done"
    ∷ together "nothing" "// c\n" "/*" "Truncated at 5"
    ∷ apart "nothing" "// c\n" "/*" "Truncated at 5"
    ∷ [])
unfolding read_within
firm_values = refl
