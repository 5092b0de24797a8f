-- Numbers, timestamps and words count all their bytes.
use Rattle.std.proofs.Common.{◌≡◌, ℕ, ◌-◌, List, Option, None, Some, Result, Ok, Err, refl}
use Rattle.std.specs.Result.{IfOk}
use Rattle.ion_meter.specs.Sources.{Cursor}
use Rattle.ion_meter.specs.declared.fault.Reason.{Reason}
use Rattle.ion_meter.specs.declared.fault.Reason.TheVariants.{BadToken}
use Rattle.ion_value.specs.declared.decimal.Decimal.{Decimal}
use Rattle.ion_value.specs.declared.int.Int.{Int}
use Rattle.ion_value.specs.declared.timestamp.Timestamp.{Timestamp}
use Rattle.ion_value.specs.Decimal.{decimal_of_text}
use Rattle.ion_value.specs.Int.{int_of_text}
use Rattle.ion_value.specs.Name.{Keyword, a_null, keyword}
use Rattle.ion_value.specs.Scalar.{scalar_of_run, scalar_of_readings}
use Rattle.ion_value.specs.Timestamp.{timestamp_of_text}
use Rattle.ion_value.specs.Value.{SymbolAt}
use Rattle.ion_text_in.specs.Meaning.{counts}
use Rattle.ion_text_in.proofs.RunTokens.{if-scalar}
use Rattle.ion_text_in.specs.Token.{Token, plain, word_token, run_token, by_keyword}

-- a token and what stands after it
abbrev pub got : Token → Cursor → Result (Token × Cursor) Reason
got t d = Ok (t, d)

-- ---- tokens that count all their bytes

abbrev pub CountsAll : Token → Type 0
CountsAll t = (p q : ℕ) → counts t p q ≡ q - p

readings-count : (i : Result Int Reason) (d : Result Decimal Reason) (t : Result Timestamp Reason)
    → IfOk (scalar_of_readings {S = SymbolAt} i d t) (λ v. CountsAll (plain v))
readings-count (Ok i) d t = λ p q. refl
readings-count (Err BadToken) (Ok d) t = λ p q. refl
readings-count (Err BadToken) (Err BadToken) (Ok t) = λ p q. refl
readings-count i d t = tt

pub run_token-counts : (run : List ℕ) → IfOk (run_token run) CountsAll
unfolding scalar_of_run
run_token-counts run =
    if-scalar CountsAll run (scalar_of_run run) (readings-count (int_of_text run) (decimal_of_text run) (timestamp_of_text run)) (λ p q. refl)

keyword-counts : (k : Option Keyword) (word : List ℕ) → IfOk (by_keyword k word) CountsAll
keyword-counts (Some (a_null None)) word = tt
keyword-counts (Some (a_null (Some type))) word = λ p q. refl
keyword-counts k word = λ p q. refl

pub word_token-counts : (word : List ℕ) → IfOk (word_token word) CountsAll
unfolding word_token
word_token-counts word = keyword-counts (keyword word) word
