-- What is seen of the kinds of tokens of the code.
use Rattle.std.specs.Prelude.{◌≡◌, ℕ, Bool, not, ◌&&◌, ◌==◌, if◌then◌else◌, List, [], drop, codes, IfSome, MatchOption}
use Rattle.ion_meter.specs.Sources.{Cursor}
use Rattle.ion_value.specs.declared.ion_type.Kind.TheVariants as kinds
use Rattle.ion_value.specs.Digits.{first_is, is_digit}
use Rattle.ion_value.specs.Name.{begins_with, is_identifier_byte, is_identifier_start}
use Rattle.ion_text_in.specs.Blanks.{blanks}
use Rattle.ion_text_in.specs.Overrun.{overrun}
use Rattle.ion_text_in.specs.declared.first.Ahead.{Ahead}
use Rattle.ion_text_in.specs.declared.first.First as code
use Rattle.ion_text_in.specs.declared.first.First.TheVariants as kind
use Rattle.ion_text_in.specs.Token as tokens
use Rattle.ion_text_in.specs.Token.{first_at}

-- a kind of token, from the code's `First`
abbrev pub first_of : code.First → tokens.First
first_of kind.Number = tokens.a_run
first_of kind.Word = tokens.a_word
first_of kind.QuotedSymbol = tokens.a_quoted
first_of kind.String = tokens.a_short
first_of kind.LongString = tokens.a_long
first_of kind.Lob = tokens.a_lob
first_of kind.Operator = tokens.an_operator
first_of kind.Infinity = tokens.an_infinity
first_of (kind.Begin of) = tokens.a_begin of
first_of (kind.End of) = tokens.an_end of
first_of kind.Comma = tokens.a_comma
first_of kind.Colon = tokens.a_colon
first_of kind.Colons = tokens.two_colons
first_of kind.Nothing = tokens.no_token

-- the kinds that a byte tells alone, by their numbers in the table of such bytes, and a struct's beginning
abbrev pub numbered : ℕ → tokens.First
numbered n =
    if n == 1 then tokens.a_word
    else (if n == 2 then tokens.a_run
    else (if n == 3 then tokens.a_short
    else (if n == 4 then tokens.a_comma
    else (if n == 5 then tokens.a_begin kinds.List
    else (if n == 6 then tokens.a_begin kinds.Sexp
    else (if n == 7 then tokens.an_end kinds.Struct
    else (if n == 8 then tokens.an_end kinds.List
    else (if n == 10 then tokens.a_begin kinds.Struct
    else tokens.an_end kinds.Sexp))))))))

-- how many bytes of a token tell its kind
abbrev pub width : tokens.First → ℕ
width tokens.a_long = 3
width tokens.a_lob = 2
width tokens.an_infinity = 4
width tokens.two_colons = 2
width _ = 1

-- a byte that begins no word, no number and no string, and needs none after it to tell what it begins
abbrev pub is_told_alone : ℕ → Bool
is_told_alone b =
    not (is_identifier_start b) && not (is_digit b) && not (b == 34) && not (b == 39) && not (b == 123) && not (b == 58) && not (b == 43) && not (b == 45)

-- `inf`, and no identifier goes on after it
abbrev pub is_inf : List ℕ → Bool
is_inf bytes = begins_with (codes "inf") bytes && not (first_is is_identifier_byte (drop 3 bytes))

-- blanks from one cursor to another, or up to the input's end where a comment does not end, and what begins there
pub record IsAhead (in_sexp : Bool) (old new : Cursor) (ahead : Ahead) : Type 0 where
  pub blank : blanks old ≡ overrun ahead.unfinished new
  pub used_up : IfSome ahead.unfinished (λ _. new.rest ≡ [])
  pub first : MatchOption ahead.first (new.rest ≡ []) (λ f. first_at in_sexp new.rest ≡ first_of f)
