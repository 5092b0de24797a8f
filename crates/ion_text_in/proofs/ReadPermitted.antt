-- What is read is permitted: a float only where floats are read.
use Rattle.std.proofs.Common.{◌≡◌, ℕ, suc, Bool, true, false, not, nat_le, nat_lt, sum_by, List, [], ◌∷◌, ◌++◌, length, Option, Some, None, Result, Ok, Err, refl}
use Rattle.std.specs.Result.{IfOk}
use lib.Ieee.{Float}
use Rattle.ion_meter.specs.Sources.{Cursor, skip}
use Rattle.ion_meter.specs.declared.fault.Reason.{Reason}
use Rattle.ion_meter.specs.declared.fault.Reason.TheVariants as reason
use Rattle.ion_meter.specs.declared.fault.Reason.TheVariants.{BadToken, ScalarLimit}
use Rattle.ion_meter.specs.declared.profile.Rules.{Rules}
use Rattle.ion_value.specs.declared.int.Int.{Int}
use Rattle.ion_value.specs.declared.decimal.Decimal.{Decimal}
use Rattle.ion_value.specs.declared.timestamp.Timestamp.{Timestamp}
use Rattle.ion_value.specs.declared.ion_type.Kind.{Kind}
use Rattle.ion_value.specs.Decimal.{decimal_of_text}
use Rattle.ion_value.specs.Int.{int_of_text}
use Rattle.ion_value.specs.Name.{Keyword, a_null, a_bool, keyword}
use Rattle.ion_value.specs.Parts.{Placed, part, refuse, ◌>>=◌, ◌>>◌}
use Rattle.ion_value.specs.Reading.{Step, Gives, items_of}
use Rattle.ion_value.specs.ReadingLaws.{IsPermitted, ArePermitted}
use Rattle.ion_value.specs.Scalar.{scalar_of_run, scalar_of_readings}
use Rattle.ion_value.specs.Timestamp.{timestamp_of_text}
use Rattle.ion_value.specs.Value as value
use Rattle.ion_value.specs.Value.{SymbolAt}
use Rattle.ion_text_in.specs.Blanks.{blanks}
use Rattle.ion_text_in.specs.Limit.{passes}
use Rattle.ion_text_in.specs.Lob.{lob_at}
use Rattle.ion_text_in.specs.Positions.{Wants, a_value, a_field, a_separator, State, innermost, in_sexp, at}
use Rattle.ion_text_in.specs.Quoted.{symbol_quote, short_quote, long_quote, text_at}
use Rattle.ion_text_in.specs.Reading as reading
use Rattle.ion_text_in.specs.Reading.{after_colons, may_come, part_at, size, start, step, step_of, take, tells_version}
use Rattle.ion_text_in.specs.Token.{First, a_colon, a_run, a_word, a_quoted, a_short, a_long, a_lob, an_operator, an_infinity, Token, plain, float, name, text, operator, begin, end, comma, by_keyword, bytes_of, counted, first_at, in_operator, in_run, run_token, token_of, word_of, word_token}
use Rattle.ion_text_in.proofs.LobBytes.{lob-raw}
use Rattle.ion_text_in.proofs.RunTokens.{if-scalar}
use Rattle.ion_value.proofs.Permitted.{GivesPermitted, reading-permitted}
use Rattle.ion_value.proofs.WentWell.{if-any, if-passed, if-then}

-- ---- tokens

-- a token that is a scalar is no float
abbrev NoFloat : Token → Type 0
NoFloat (plain body) = (limits : Rules) → IsPermitted limits body
NoFloat t = Unit {0}

readings-none : (i : Result Int Reason) (d : Result Decimal Reason) (t : Result Timestamp Reason) → IfOk (scalar_of_readings {S = SymbolAt} i d t) (λ v. NoFloat (plain v))
readings-none (Ok i) d t = λ limits. tt
readings-none (Err BadToken) (Ok d) t = λ limits. tt
readings-none (Err BadToken) (Err BadToken) (Ok t) = λ limits. tt
readings-none i d t = tt

run-none : (run : List ℕ) → IfOk (run_token run) NoFloat
unfolding scalar_of_run
run-none run = if-scalar NoFloat run (scalar_of_run run) (readings-none (int_of_text run) (decimal_of_text run) (timestamp_of_text run)) tt

keyword-none : (k : Option Keyword) (word : List ℕ) → IfOk (by_keyword k word) NoFloat
keyword-none (Some (a_null None)) word = tt
keyword-none (Some (a_null (Some type))) word = λ limits. tt
keyword-none (Some (a_bool truth)) word = λ limits. tt
keyword-none k word = tt

word-none : (word : List ℕ) → IfOk (word_token word) NoFloat
unfolding word_token
word-none word = keyword-none (keyword word) word

token-none : (limit : Option ℕ) (f : First) (c : Cursor) → IfOk (token_of limit f c) (λ x. NoFloat x.0)
unfolding token_of
token-none limit a_run c = if-any _ (counted limit (bytes_of in_run c.rest) c) _ (λ r. if-then NoFloat _ (run_token r.0) _ (run-none r.0) (λ t h. h))
token-none limit a_word c = if-any _ (counted limit (word_of c.rest) c) _ (λ r. if-then NoFloat _ (word_token r.0) _ (word-none r.0) (λ t h. h))
token-none limit a_quoted c = if-any _ (text_at symbol_quote limit (skip 1 c)) _ (λ r. tt)
token-none limit a_short c = if-any _ (text_at (short_quote false) limit (skip 1 c)) _ (λ r. tt)
token-none limit a_long c = if-any _ (text_at (long_quote false) limit (skip 3 c)) _ (λ r. tt)
token-none limit a_lob c = if-then _ _ (lob_at limit (skip 2 c)) _ (lob-raw limit (skip 2 c)) (λ l raw. raw.no_float)
token-none limit an_operator c = if-any _ (counted limit (bytes_of in_operator c.rest) c) _ (λ r. tt)
token-none limit an_infinity c = if-passed _ (passes limit 4) ScalarLimit _ (λ _. tt)
token-none limit mark c = tt

-- ---- steps

module _ (limits : Rules) where
  abbrev Fine : Placed (Step State) → Type 0
  Fine o = GivesPermitted limits (step_of o)

  refused-fine : (p : ℕ) (b : Bool) (why : Reason) (o : Result (Step State) Reason) → (b ≡ false → Fine (part p o)) → Fine (part p (refuse b why >> o))
  refused-fine p true why o h = tt
  refused-fine p false why o h = h refl

  end-fine : (kinds : List Kind) (top : ℕ) (k : Kind) (p : ℕ) (c : Cursor) → Fine (part p (reading.end_step kinds top k p c))
  end-fine [] top k p c = tt
  end-fine (j ∷ kinds) top k p c = refused-fine p (not (reading.is_same j k)) BadToken (Ok (Gives (reading.item_of top None [] p value.end) (record { kinds = kinds; top = top; wants = reading.after_member (innermost kinds); cursor = c }))) (λ _. tt)

  bare-fine : (field : Option SymbolAt) (annotations : List SymbolAt) (kinds : List Kind) (top : ℕ) (k : Kind) (p : ℕ) (c : Cursor)
      → Fine (part p (reading.bare_end_step field annotations kinds top k p c))
  bare-fine None [] kinds top k p c = end-fine kinds top k p c
  bare-fine None (a ∷ annotations) kinds top k p c = tt
  bare-fine (Some a) annotations kinds top k p c = tt

  told-fine : (kinds : List Kind) (top : ℕ) (field : Option SymbolAt) (annotations : List SymbolAt) (a : SymbolAt) (p : ℕ) (c : Cursor) (told : Bool)
      → Fine (part p (reading.value_or_version kinds top field annotations a c told))
  told-fine kinds top field annotations a p c true = refused-fine p (not (reading.is_marker a.symbol)) reason.BadVersion (Ok (reading.item_step kinds top field annotations a.place value.marker kinds (reading.after_member (innermost kinds)) c)) (λ _. tt)
  told-fine kinds top field annotations a p c false = tt

  symbol-fine : (kinds : List Kind) (top : ℕ) (field : Option SymbolAt) (annotations : List SymbolAt) (quoted : Bool) (a : SymbolAt) (p : ℕ) (c : Cursor) (o : Option Cursor)
      → Fine (part p (reading.symbol_step limits kinds top field annotations quoted a c o))
  symbol-fine kinds top field annotations quoted a p c None = told-fine kinds top field annotations a p c (tells_version (innermost kinds) annotations quoted a.symbol)
  symbol-fine kinds top field annotations quoted a p c (Some after) =
      refused-fine p (nat_lt limits.scalar (sum_by reading.cost (annotations ++ a ∷ []))) reason.AnnotationLimit (Ok (reading.onward_step kinds top (a_value field (annotations ++ a ∷ [])) after)) (λ _. tt)

  colon-fine : (kinds : List Kind) (top : ℕ) (a : SymbolAt) (c : Cursor) (first : First) → Fine (reading.colon_of kinds top a c first)
  colon-fine kinds top a c a_colon = tt
  colon-fine kinds top a c first = tt

  from-fine : (kinds : List Kind) (top : ℕ) (a : SymbolAt) (c : Cursor) (rest : List ℕ) → Fine (reading.colon_from kinds top a c rest)
  from-fine kinds top a c [] = tt
  from-fine kinds top a c (b ∷ rest) = colon-fine kinds top a c (first_at false (b ∷ rest))

  field-fine : (kinds : List Kind) (top : ℕ) (a : SymbolAt) (o : Placed Cursor) → Fine (o >>= (λ d. reading.colon_from kinds top a d d.rest))
  field-fine kinds top a (Ok d) = from-fine kinds top a d d.rest
  field-fine kinds top a (Err fault) = tt

  float-fine : (kinds : List Kind) (top : ℕ) (field : Option SymbolAt) (annotations : List SymbolAt) (p : ℕ) (number : Option Float) (c : Cursor)
      → Fine (part p (reading.float_step limits kinds top field annotations p number c))
  float-fine kinds top field annotations p number c = by limits.floats refl number
    where
      by : (b : Bool) → limits.floats ≡ b → (number : Option Float)
          → Fine (part p (refuse (not b) reason.Float >> (reading.in_range number >>= (λ x. Ok (reading.scalar_step kinds top field annotations p (value.float x) c)))))
      by true is (Some x) = is
      by true is None = tt
      by false is number = tt

  take-fine : (kinds : List Kind) (top : ℕ) (wants : Wants) (p : ℕ) (t : Token) (c : Cursor) → NoFloat t → Fine (take limits kinds top wants p t c)
  unfolding take
  take-fine kinds top a_separator p (end k) c none = end-fine kinds top k p c
  take-fine kinds top a_separator p comma c none = tt
  take-fine kinds top a_field p (end k) c none = end-fine kinds top k p c
  take-fine kinds top a_field p (name quoted symbol) c none = field-fine kinds top (at symbol p) (blanks c)
  take-fine kinds top a_field p (text t) c none = field-fine kinds top (at (value.Text t) p) (blanks c)
  take-fine kinds top (a_value field annotations) p (end k) c none = bare-fine field annotations kinds top k p c
  take-fine kinds top (a_value field annotations) p (plain v) c none = none limits
  take-fine kinds top (a_value field annotations) p (float number) c none = float-fine kinds top field annotations p number c
  take-fine kinds top (a_value field annotations) p (text t) c none = tt
  take-fine kinds top (a_value field annotations) p (operator t) c none = tt
  take-fine kinds top (a_value field annotations) p (name quoted symbol) c none =
      symbol-fine kinds top field annotations quoted (at symbol p) p c (after_colons (in_sexp (innermost kinds)) c)
  take-fine kinds top (a_value field annotations) p (begin k) c none =
      refused-fine p (nat_le limits.depth (length kinds)) reason.DepthLimit (Ok (reading.item_step kinds top field annotations p (value.begin k) (k ∷ kinds) (reading.member_of k) c)) (λ _. tt)
  take-fine kinds top wants p t c none = tt

  token-fine : (s : State) (p : ℕ) (o : Result (Token × Cursor) Reason) → IfOk o (λ x. NoFloat x.0) → Fine (part p o >>= (λ t. take limits s.kinds s.top s.wants p t.0 t.1))
  token-fine s p (Ok t) none = take-fine s.kinds s.top s.wants p t.0 t.1 none
  token-fine s p (Err why) none = tt

  next-fine : (s : State) (c : Cursor) (first : First) (may : Bool) → Fine (reading.next_part limits s c first may)
  next-fine s c first true = token-fine s c.place (token_of (Some limits.scalar) first c) (token-none (Some limits.scalar) first c)
  next-fine s c first false = tt

  final-fine : (kinds : List Kind) (wants : Wants) (p : ℕ) → Fine (reading.final_step kinds wants p)
  final-fine [] (a_value None []) p = tt
  final-fine kinds wants p = tt

  after-fine : (s : State) (c : Cursor) (rest : List ℕ) → Fine (reading.part_after limits s c rest)
  after-fine s c [] = final-fine s.kinds s.wants c.place
  after-fine s c (b ∷ rest) = let first = first_at (in_sexp (innermost s.kinds)) (b ∷ rest) in next-fine s c first (may_come s.wants first)

  part-fine : (s : State) (o : Placed Cursor) → Fine (o >>= (λ c. reading.part_after limits s c c.rest))
  part-fine s (Ok c) = after-fine s c c.rest
  part-fine s (Err fault) = tt

  step-permitted : (s : State) → GivesPermitted limits (step limits s)
  unfolding step part_at
  step-permitted s = part-fine s (blanks s.cursor)

  -- ---- what is read

  pub read-permitted : (bytes : List ℕ) → ArePermitted limits (items_of (reading.reading limits bytes))
  unfolding reading.reading
  read-permitted bytes = reading-permitted limits (step limits) step-permitted (suc (size (start bytes))) (start bytes)
