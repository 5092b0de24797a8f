-- Tokens between quotes by their texts.
use Rattle.std.proofs.Common.{◌≡◌, ℕ, ◌∙◌, Bool, true, false, List, Option, Result, Ok, Err, refl, ap}
use Rattle.ion_meter.specs.declared.fault.Fault.{Fault}
use Rattle.ion_meter.specs.declared.fault.Fault.TheVariants.{Refused, Memory, ReadFault, WriteFault, InputLimit}
use Rattle.ion_meter.specs.declared.fault.Reason.{Reason}
use Rattle.ion_meter.specs.Sources.{Cursor, skip}
use Rattle.ion_value.specs.Answers.{Answers}
use Rattle.ion_value.specs.Parts.{◌>>=◌}
use Rattle.ion_value.specs.Value as value
use Rattle.ion_text_in.specs.Tokens.{TokenGives}
use Rattle.ion_text_in.specs.Quoted.{symbol_quote, short_quote, long_quote, text_at}
use Rattle.ion_text_in.specs.Scanning.{Spelled}
use Rattle.ion_text_in.specs.Token as tokens
use Rattle.ion_text_in.specs.Token.{First, Token, token_of}
use Rattle.ion_text_in.specs.Gathered.{Continues, Overruns}

-- a token of a text
abbrev pub made : (List ℕ → Token) → Spelled → Result (Token × Cursor) Reason
made f o = o >>= (λ t. Ok (f t.0, t.1))

pub quoted-token : (limit : Option ℕ) (c : Cursor) → made (λ l. tokens.name true (value.Text l)) (text_at symbol_quote limit (skip 1 c)) ≡ token_of limit tokens.a_quoted c
unfolding token_of
quoted-token limit c = refl

pub short-token : (limit : Option ℕ) (c : Cursor) → made (λ l. tokens.text l) (text_at (short_quote false) limit (skip 1 c)) ≡ token_of limit tokens.a_short c
unfolding token_of
short-token limit c = refl

pub long-token : (limit : Option ℕ) (c : Cursor) → made (λ l. tokens.text l) (text_at (long_quote false) limit (skip 3 c)) ≡ token_of limit tokens.a_long c
unfolding token_of
long-token limit c = refl

-- what a call on a part answers, for the whole
pub continues-answers : {T A B : Type 0} (view : T → A) (r : Result T Fault) (after : Cursor) (place there : ℕ) (one : Result B Reason) (next : T → Result B Reason) (all : Result (A × Cursor) Reason) → place ≡ there
    → ((x : T) → one ≡ next x → all ≡ Ok (view x, after)) → ((e : Reason) → one ≡ Err e → all ≡ Err e) → Continues r place one next → Answers view r after there all
continues-answers view (Ok x) after place there one next all is whole refused h = whole x h
continues-answers view (Err (Refused reason at)) after place there one next all is whole refused h = (refused reason h.0, h.1 ∙ is)
continues-answers view (Err Memory) after place there one next all is whole refused h = tt
continues-answers view (Err ReadFault) after place there one next all is whole refused h = tt
continues-answers view (Err WriteFault) after place there one next all is whole refused h = tt
continues-answers view (Err InputLimit) after place there one next all is whole refused h = tt

-- the fault of a text is the token's
pub text-refused : (fault : Fault) (text : List ℕ) (f : List ℕ → Token) (place : ℕ) (after : Cursor) (o : Spelled) (given : Result (Token × Cursor) Reason) → given ≡ made f o
    → ((reason : Reason) (at : ℕ) → fault ≡ Refused reason at → (o ≡ Err reason) × (at ≡ place)) → TokenGives text place (Err fault) after given
text-refused (Refused reason at) text f place after o given is refused = let h = refused reason at refl in (is ∙ ap (made f) h.0, h.1)
text-refused Memory text f place after o given is refused = tt
text-refused ReadFault text f place after o given is refused = tt
text-refused WriteFault text f place after o given is refused = tt
text-refused InputLimit text f place after o given is refused = tt

-- the fault of a segment is the text's
pub overruns-refused : {T A B : Type 0} (f : Fault) (in_clob : Bool) (text : A) (after : Cursor) (place : ℕ) (one : Result B Reason) (next : T → Result B Reason) (all : Result (A × Cursor) Reason)
    → Continues (Err f) place one next → ((e : Reason) → one ≡ Err e → all ≡ Err e) → Overruns in_clob text (Err f) after place all
overruns-refused (Refused reason at) in_clob text after place one next all h refused = (refused reason h.0, h.1)
overruns-refused Memory in_clob text after place one next all h refused = tt
overruns-refused ReadFault in_clob text after place one next all h refused = tt
overruns-refused WriteFault in_clob text after place one next all h refused = tt
overruns-refused InputLimit in_clob text after place one next all h refused = tt
