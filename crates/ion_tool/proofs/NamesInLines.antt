-- How names stand in lines: some worked out, and a name character by character.
use Rattle.std.proofs.Common.{◌≡◌, ℕ, ◌+◌, ◌<◌, List, [], ◌∷◌, ◌++◌, length, get_or, drop, flat_map, encode_utf8, IsUtf8, codes, refl, ap, ◌∙◌}
use Rattle.std.specs.Str.{chars}
use Rattle.std.proofs.lemmas.List.{at_drop_more, nil_from_length}
use Rattle.std.proofs.lemmas.Str.{chars-nil, chars_past_char}
use Rattle.ion_tool.specs.Serving.{char_in_name, escape, name_in_line}

-- blanks, quotes and colons stand for themselves, as do other characters than ASCII: U+00A0, U+00E9, U+1F600
pub plain_name : name_in_line (codes "a b's: c.ion") ≡ codes "a b's: c.ion"
unfolding name_in_line chars lib.Utf8.encode
plain_name = refl

pub other_characters : name_in_line (194 ∷ 160 ∷ 195 ∷ 169 ∷ 240 ∷ 159 ∷ 152 ∷ 128 ∷ []) ≡ 194 ∷ 160 ∷ 195 ∷ 169 ∷ 240 ∷ 159 ∷ 152 ∷ 128 ∷ []
unfolding name_in_line chars lib.Utf8.encode
other_characters = refl

-- what ends a line, or moves on in it, has a letter
pub line_end : name_in_line (codes "a.ion: ok 3 values\nb") ≡ codes "a.ion: ok 3 values\\nb"
unfolding name_in_line chars lib.Utf8.encode
line_end = refl

pub tab_and_return : name_in_line (9 ∷ 13 ∷ []) ≡ codes "\\t\\r"
unfolding name_in_line chars lib.Utf8.encode
tab_and_return = refl

-- other control characters have their bytes: U+001B, U+007F, U+0080, U+009F
pub controls : name_in_line (27 ∷ 127 ∷ 194 ∷ 128 ∷ 194 ∷ 159 ∷ []) ≡ codes "\\x1b\\x7f\\xc2\\x80\\xc2\\x9f"
unfolding name_in_line chars lib.Utf8.encode
controls = refl

-- a backslash is two, so that a name with an escape in it is another one
pub backslash : name_in_line (codes "a\\nb") ≡ codes "a\\\\nb"
unfolding name_in_line chars lib.Utf8.encode
backslash = refl

-- a character and what comes after it
pub one_char : (name rest : List ℕ) (c : ℕ) → IsUtf8 name → name ≡ encode_utf8 c ++ rest → name_in_line name ≡ char_in_name c ++ name_in_line rest
unfolding name_in_line
one_char name rest c utf8 parts = ap (λ (l : List ℕ). flat_map char_in_name l) (chars_past_char name rest c utf8 parts)

pub no_char : (name : List ℕ) → length name ≡ 0 → name_in_line name ≡ []
unfolding name_in_line
no_char name none = ap (λ (l : List ℕ). flat_map char_in_name l) (ap chars (nil_from_length name none) ∙ chars-nil)

-- a byte and those after it
pub one_byte : (bytes : List ℕ) (i d : ℕ) → i < length bytes → flat_map escape (drop i bytes) ≡ escape (get_or bytes i d) ++ flat_map escape (drop (i + 1) bytes)
one_byte bytes i d lt = at_drop_more (flat_map escape) bytes i d lt
