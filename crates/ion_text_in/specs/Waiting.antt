-- What is seen of the scan that tells whether the next item is there.
use Rattle.std.specs.Prelude.{◌≢◌, ℕ, ◌-◌, ◌^◌, ◌<◌, Bool, List, ◌++◌, length, codes, Some, IfOk}
use Rattle.ion_value.specs.Value as value
use Rattle.ion_value.specs.Value.{Symbol}
use Rattle.ion_text_in.specs.declared.waiting.Part.{Part}
use Rattle.ion_text_in.specs.declared.waiting.Part.TheVariants.{Item, Passed}
use Rattle.ion_text_in.specs.Meaning.{at}
use Rattle.ion_text_in.specs.Token.{Token, name, token_at}

-- fewer bytes stand after a part that is passed
abbrev pub PassesSome : List ℕ → Part → Type 0
PassesSome bytes Item = Unit {0}
PassesSome bytes (Passed rest) = length rest.now < length bytes

-- a symbol is no version marker, and none that a declaration of a symbol table begins with
pub record IsOfNoTable (symbol : Symbol) : Type 0 where
  pub id : symbol ≢ value.Id 3
  pub text : symbol ≢ value.Text (codes "$ion_symbol_table")
  pub version : symbol ≢ value.Text (codes "$ion_1_0")

-- nor is a token
abbrev pub DeclaresNone : Token → Type 0
DeclaresNone (name quoted symbol) = IsOfNoTable symbol
DeclaresNone t = Unit {0}

-- nor is the token that begins at the front of some bytes, whatever follows
abbrev pub NoneIsDeclared : List ℕ → Type 0
NoneIsDeclared bytes = (in_sexp : Bool) (place : ℕ) (more : List ℕ)
    → IfOk (token_at (Some (2 ^ 64 - 1)) in_sexp (at place (bytes ++ more))) (λ read. DeclaresNone read.0)
