-- What is read of some bytes is the same wherever they begin, but for its places: steps, and a reading.
use Rattle.std.proofs.Common.{◌≡◌, ℕ, zero, suc, ◌+◌, ◌<◌, Bool, true, false, not, List, [], ◌∷◌, ◌++◌, length, map, option_map, nat_le, nat_lt, if◌then◌else◌, sum_by, Option, Some, None, Result, Ok, Err, refl, sym, ap, ap₂, ◌∙◌, arith}
use Rattle.std.proofs.lemmas.List.{map-append}
use Rattle.std.proofs.lemmas.List.Sums.{sum_by-cons}
use Rattle.std.specs.Result.{IfOk}
use lib.Ieee.{Float}
use Rattle.ion_meter.specs.declared.fault.Reason.{Reason}
use Rattle.ion_meter.specs.declared.fault.Reason.TheVariants as reason
use Rattle.ion_meter.specs.declared.fault.Reason.TheVariants.{BadToken, ScalarLimit}
use Rattle.ion_meter.specs.declared.profile.Rules.{Rules}
use Rattle.ion_meter.specs.Sources.{Cursor, skip}
use Rattle.ion_value.specs.declared.decimal.Decimal.{Decimal}
use Rattle.ion_value.specs.declared.int.Int.{Int}
use Rattle.ion_value.specs.declared.ion_type.Kind.{Kind}
use Rattle.ion_value.specs.declared.ion_type.Kind.TheVariants as kind
use Rattle.ion_value.specs.declared.timestamp.Timestamp.{Timestamp}
use Rattle.ion_value.specs.Further.{symbol_further, item_further, further}
use Rattle.ion_value.specs.Int.{int_of_text}
use Rattle.ion_value.specs.Decimal.{decimal_of_text}
use Rattle.ion_value.specs.Timestamp.{timestamp_of_text}
use Rattle.ion_value.specs.Name.{Keyword, a_null, a_bool, a_nan, keyword}
use Rattle.ion_value.specs.Parts.{Placed, part, refuse, ◌>>=◌, ◌>>◌}
use Rattle.ion_value.specs.Reading.{More, Step, Ends, Stops, Gives, GoesOn, Leaves, after_item, after_nothing, next_reading}
use Rattle.ion_value.specs.Scalar.{scalar_of_run, scalar_of_readings}
use Rattle.ion_value.specs.Value as value
use Rattle.ion_value.specs.Value.{Symbol, SymbolAt, Scalar, Head, map_scalar, map_head}
use Rattle.ion_value.proofs.WentWell.{if-any, if-passed, if-then}
use Rattle.ion_text_in.specs.Blanks.{blanks}
use Rattle.ion_text_in.specs.Firm.{NothingHangsOnPlaces, PartsAreTexts}
use Rattle.ion_text_in.specs.Limit.{passes}
use Rattle.ion_text_in.specs.Lob.{lob_at}
use Rattle.ion_text_in.specs.Meaning as cursors
use Rattle.ion_text_in.specs.Positions.{at, first_place, Wants, a_value, a_field, a_separator, State, innermost, in_sexp, has_commas}
use Rattle.ion_text_in.specs.Quoted.{symbol_quote, short_quote, long_quote, text_at}
use Rattle.ion_text_in.specs.Reading as reading
use Rattle.ion_text_in.specs.Reading.{cost, may_come, colons_at, colons_after, after_colons, tells_version, take, part_at, step, step_of, size, start_at, reading_from}
use Rattle.ion_text_in.specs.Token as tokens
use Rattle.ion_text_in.specs.Token.{First, a_word, a_quoted, a_short, a_long, a_run, a_lob, an_operator, an_infinity, a_begin, an_end, a_comma, a_colon, two_colons, no_token, first_at, Token, plain, float, name, text, operator, begin, end, comma, found_float, bytes_of, word_of, in_run, counted, run_token, word_token, token_of}
use Rattle.ion_text_in.proofs.Elsewhere.{moved, moved_cursor, skip-moved, blanks-moved, moved_after, moved_option, token-moved}
use Rattle.ion_text_in.proofs.Falling.{each_step_falls}
use Rattle.ion_text_in.proofs.FirmReading.{read, in-turn, top-alike}
use Rattle.ion_text_in.proofs.RunTokens.{if-scalar}
use Rattle.ion_text_in.proofs.Shrinking.{LobOf, any-lob}

-- ---- a plain scalar has no symbol

abbrev Stays : Token → Type 0
Stays (plain v) = (f : SymbolAt → SymbolAt) → map_scalar f v ≡ v
Stays t = Unit {0}

readings-stay : (i : Result Int Reason) (d : Result Decimal Reason) (t : Result Timestamp Reason) → IfOk (scalar_of_readings {S = SymbolAt} i d t) (λ v. Stays (plain v))
readings-stay (Ok i) d t = λ f. refl
readings-stay (Err BadToken) (Ok d) t = λ f. refl
readings-stay (Err BadToken) (Err BadToken) (Ok t) = λ f. refl
readings-stay i d t = tt

run-stays : (run : List ℕ) → IfOk (run_token run) Stays
unfolding scalar_of_run
run-stays run = if-scalar Stays run (scalar_of_run run) (readings-stay (int_of_text run) (decimal_of_text run) (timestamp_of_text run)) tt

word-stays : (word : List ℕ) → IfOk (word_token word) Stays
unfolding word_token
word-stays word = by (keyword word)
  where
    by : (k : Option Keyword) → IfOk (tokens.by_keyword k word) Stays
    by None = tt
    by (Some (a_null None)) = tt
    by (Some (a_null (Some type))) = λ f. refl
    by (Some (a_bool truth)) = λ f. refl
    by (Some a_nan) = tt

lob-stays : (v : Scalar SymbolAt) → LobOf (λ bytes. Unit {0}) v → Stays (plain v)
lob-stays (value.clob bytes) is = λ f. refl
lob-stays (value.blob bytes) is = λ f. refl
lob-stays v is = absurd is

abbrev StaysAfter : Token × Cursor → Type 0
StaysAfter x = Stays x.0

means-stay : (x : List ℕ × Cursor) (o : Result Token Reason) → IfOk o Stays → IfOk (o >>= (λ t. Ok (t, x.1))) StaysAfter
means-stay x (Ok t) s = s
means-stay x (Err why) s = tt

token-stays : (limit : Option ℕ) (first : First) (c : Cursor) → IfOk (token_of limit first c) StaysAfter
unfolding token_of
token-stays limit a_run c = if-any StaysAfter (counted limit (bytes_of in_run c.rest) c) _ (λ x. means-stay x (run_token x.0) (run-stays x.0))
token-stays limit a_word c = if-any StaysAfter (counted limit (word_of c.rest) c) _ (λ x. means-stay x (word_token x.0) (word-stays x.0))
token-stays limit a_quoted c = if-any StaysAfter (text_at symbol_quote limit (skip 1 c)) _ (λ x. tt)
token-stays limit a_short c = if-any StaysAfter (text_at (short_quote false) limit (skip 1 c)) _ (λ x. tt)
token-stays limit a_long c = if-any StaysAfter (text_at (long_quote false) limit (skip 3 c)) _ (λ x. tt)
token-stays limit a_lob c = if-then _ StaysAfter (lob_at limit (skip 2 c)) _ (any-lob 0 limit (skip 2 c)) (λ x is. lob-stays x.0 is.1)
token-stays limit an_operator c = if-any StaysAfter (counted limit (bytes_of tokens.in_operator c.rest) c) _ (λ x. tt)
token-stays limit an_infinity c = if-passed StaysAfter (passes limit 4) ScalarLimit _ (λ _. tt)
token-stays limit no_token c = tt
token-stays limit first c = tt

module _ (far : ℕ) where
  -- ---- states and steps further on

  abbrev moved_symbols : List SymbolAt → List SymbolAt
  moved_symbols annotations = map (symbol_further far) annotations

  abbrev moved_wants : Wants → Wants
  moved_wants (a_value field annotations) = a_value (option_map (symbol_further far) field) (moved_symbols annotations)
  moved_wants a_field = a_field
  moved_wants a_separator = a_separator

  abbrev moved_state : State → State
  moved_state s = record { kinds = s.kinds; top = s.top + far; wants = moved_wants s.wants; cursor = moved far s.cursor }

  abbrev moved_step : Step State → Step State
  moved_step Ends = Ends
  moved_step (Stops why place) = Stops why (place + far)
  moved_step (Gives item after) = Gives (item_further far item) (moved_state after)
  moved_step (GoesOn after) = GoesOn (moved_state after)

  abbrev moved_part : Placed (Step State) → Placed (Step State)
  moved_part (Ok s) = Ok (moved_step s)
  moved_part (Err fault) = Err (fault.0, fault.1 + far)

  abbrev moved_result : Result (Step State) Reason → Result (Step State) Reason
  moved_result (Ok s) = Ok (moved_step s)
  moved_result (Err why) = Err why

  step_of-moved : (o : Placed (Step State)) → step_of (moved_part o) ≡ moved_step (step_of o)
  step_of-moved (Ok s) = refl
  step_of-moved (Err fault) = refl

  part-moved : (p : ℕ) (o w : Result (Step State) Reason) → w ≡ moved_result o → part (p + far) w ≡ moved_part (part p o)
  part-moved p (Ok s) w e = ap (part (p + far)) e
  part-moved p (Err why) w e = ap (part (p + far)) e

  refused-moved : (b : Bool) (why : Reason) (o w : Step State) → w ≡ moved_step o → (refuse b why >> Ok w) ≡ moved_result (refuse b why >> Ok o)
  refused-moved true why o w e = refl
  refused-moved false why o w e = ap Ok e

  -- ---- items

  first_place-moved : (annotations : List SymbolAt) (p : ℕ) → first_place (moved_symbols annotations) (p + far) ≡ first_place annotations p + far
  first_place-moved [] p = refl
  first_place-moved (a ∷ annotations) p = refl

  top-moved : (kinds : List Kind) (top : ℕ) (annotations : List SymbolAt) (p : ℕ)
      → reading.top_of kinds (top + far) (moved_symbols annotations) (p + far) ≡ reading.top_of kinds top annotations p + far
  top-moved [] top annotations p = first_place-moved annotations p
  top-moved (k ∷ kinds) top annotations p = refl

  item-moved : (kinds : List Kind) (top : ℕ) (field : Option SymbolAt) (annotations : List SymbolAt) (p : ℕ) (head : Head SymbolAt) (after : List Kind) (wants : Wants) (c : Cursor)
      → wants ≡ moved_wants wants
      → reading.item_step kinds (top + far) (option_map (symbol_further far) field) (moved_symbols annotations) (p + far) (map_head (symbol_further far) head) after wants (moved far c)
      ≡ moved_step (reading.item_step kinds top field annotations p head after wants c)
  item-moved kinds top field annotations p head after wants c same =
      ap₂ (λ (top : ℕ) (wants : Wants).
      Gives (reading.item_of top (option_map (symbol_further far) field) (moved_symbols annotations) (p + far) (map_head (symbol_further far) head))
      (record { kinds = after; top = top; wants = wants; cursor = moved far c }))
      (top-moved kinds top annotations p) same

  member-moved : (k : Option Kind) → reading.after_member k ≡ moved_wants (reading.after_member k)
  member-moved k = by (has_commas k)
    where
      by : (b : Bool) → (if b then a_separator else a_value None []) ≡ moved_wants (if b then a_separator else a_value None [])
      by true = refl
      by false = refl

  begun-moved : (k : Kind) → reading.member_of k ≡ moved_wants (reading.member_of k)
  begun-moved kind.Struct = refl
  begun-moved kind.List = refl
  begun-moved kind.Sexp = refl

  at_member-moved : (k : Option Kind) → reading.at_member k ≡ moved_wants (reading.at_member k)
  at_member-moved None = refl
  at_member-moved (Some k) = begun-moved k

  scalar-moved : (kinds : List Kind) (top : ℕ) (field : Option SymbolAt) (annotations : List SymbolAt) (p : ℕ) (body : Scalar SymbolAt) (c : Cursor)
      → reading.scalar_step kinds (top + far) (option_map (symbol_further far) field) (moved_symbols annotations) (p + far) (map_scalar (symbol_further far) body) (moved far c)
      ≡ moved_step (reading.scalar_step kinds top field annotations p body c)
  scalar-moved kinds top field annotations p body c =
      item-moved kinds top field annotations p (value.whole body) kinds (reading.after_member (innermost kinds)) c (member-moved (innermost kinds))

  -- ---- brackets, floats and fields

  end-moved : (kinds : List Kind) (top : ℕ) (k : Kind) (p : ℕ) (c : Cursor) → reading.end_step kinds (top + far) k (p + far) (moved far c) ≡ moved_result (reading.end_step kinds top k p c)
  end-moved [] top k p c = refl
  end-moved (j ∷ kinds) top k p c =
      refused-moved (not (reading.is_same j k)) BadToken _ _
      (ap (λ (wants : Wants). Gives (reading.item_of (top + far) None [] (p + far) value.end) (record { kinds = kinds; top = top + far; wants = wants; cursor = moved far c })) (member-moved (innermost kinds)))

  bare-moved : (field : Option SymbolAt) (annotations : List SymbolAt) (kinds : List Kind) (top : ℕ) (k : Kind) (p : ℕ) (c : Cursor)
      → reading.bare_end_step (option_map (symbol_further far) field) (moved_symbols annotations) kinds (top + far) k (p + far) (moved far c) ≡ moved_result (reading.bare_end_step field annotations kinds top k p c)
  bare-moved None [] kinds top k p c = end-moved kinds top k p c
  bare-moved None (a ∷ annotations) kinds top k p c = refl
  bare-moved (Some a) annotations kinds top k p c = refl

  float-moved : (limits : Rules) (kinds : List Kind) (top : ℕ) (field : Option SymbolAt) (annotations : List SymbolAt) (p : ℕ) (number : Option Float) (c : Cursor)
      → reading.float_step limits kinds (top + far) (option_map (symbol_further far) field) (moved_symbols annotations) (p + far) number (moved far c)
      ≡ moved_result (reading.float_step limits kinds top field annotations p number c)
  float-moved limits kinds top field annotations p number c = by (not limits.floats) number
    where
      by : (b : Bool) (number : Option Float)
          → (refuse b reason.Float >> (reading.in_range number >>= (λ x. Ok (reading.scalar_step kinds (top + far) (option_map (symbol_further far) field) (moved_symbols annotations) (p + far) (value.float x) (moved far c)))))
          ≡ moved_result (refuse b reason.Float >> (reading.in_range number >>= (λ x. Ok (reading.scalar_step kinds top field annotations p (value.float x) c))))
      by true number = refl
      by false None = refl
      by false (Some x) = ap Ok (scalar-moved kinds top field annotations p (value.float x) c)

  field-moved : (kinds : List Kind) (top : ℕ) (a : SymbolAt) (c : Cursor) → reading.field_step kinds (top + far) (symbol_further far a) (moved far c) ≡ moved_part (reading.field_step kinds top a c)
  field-moved kinds top a c =
      ap (λ (o : Placed Cursor). o >>= (λ d. reading.colon_from kinds (top + far) (symbol_further far a) d d.rest)) (blanks-moved far c) ∙ by (blanks c)
    where
      colon-by : (d : Cursor) (first : First) → reading.colon_of kinds (top + far) (symbol_further far a) (moved far d) first ≡ moved_part (reading.colon_of kinds top a d first)
      colon-by d a_colon = ap {B = Placed (Step State)} (λ (c : Cursor). Ok (reading.onward_step kinds (top + far) (a_value (Some (symbol_further far a)) []) c)) (skip-moved far 1 d)
      colon-by d first = refl

      from : (d : Cursor) (rest : List ℕ) → reading.colon_from kinds (top + far) (symbol_further far a) (moved far d) rest ≡ moved_part (reading.colon_from kinds top a d rest)
      from d [] = refl
      from d (b ∷ bytes) = colon-by d (first_at false (b ∷ bytes))

      by : (o : Placed Cursor) → (moved_cursor far o >>= (λ d. reading.colon_from kinds (top + far) (symbol_further far a) d d.rest)) ≡ moved_part (o >>= (λ d. reading.colon_from kinds top a d d.rest))
      by (Ok d) = from d d.rest
      by (Err fault) = refl

  -- ---- symbols

  colons-moved : (sexp : Bool) (c : Cursor) → after_colons sexp (moved far c) ≡ moved_option far (after_colons sexp c)
  colons-moved sexp c = ap (colons_after sexp) (blanks-moved far c) ∙ by (blanks c)
    where
      at-by : (d : Cursor) (first : First) → colons_at first (moved far d) ≡ moved_option far (colons_at first d)
      at-by d two_colons = ap Some (skip-moved far 2 d)
      at-by d first = refl

      by : (o : Placed Cursor) → colons_after sexp (moved_cursor far o) ≡ moved_option far (colons_after sexp o)
      by (Ok d) = at-by d (first_at sexp d.rest)
      by (Err fault) = refl

  costs-moved : (annotations : List SymbolAt) → sum_by cost (moved_symbols annotations) ≡ sum_by cost annotations
  costs-moved [] = refl
  costs-moved (a ∷ annotations) =
      sum_by-cons cost (symbol_further far a) (moved_symbols annotations) ∙ ap (λ (n : ℕ). cost a + n) (costs-moved annotations) ∙ sym (sum_by-cons cost a annotations)

  more-moved : (annotations : List SymbolAt) (a : SymbolAt) → moved_symbols annotations ++ symbol_further far a ∷ [] ≡ moved_symbols (annotations ++ a ∷ [])
  more-moved annotations a = sym (map-append (symbol_further far) annotations (a ∷ []))

  annotation-moved : (limits : Rules) (kinds : List Kind) (top : ℕ) (field : Option SymbolAt) (annotations : List SymbolAt) (a : SymbolAt) (c : Cursor)
      → reading.with_annotation limits kinds (top + far) (option_map (symbol_further far) field) (moved_symbols annotations) (symbol_further far a) (moved far c)
      ≡ moved_result (reading.with_annotation limits kinds top field annotations a c)
  annotation-moved limits kinds top field annotations a c =
      ap (λ (all : List SymbolAt). refuse (nat_lt limits.scalar (sum_by cost all)) reason.AnnotationLimit
      >> Ok (reading.onward_step kinds (top + far) (a_value (option_map (symbol_further far) field) all) (moved far c)))
      (more-moved annotations a)
      ∙ ap (λ (n : ℕ). refuse (nat_lt limits.scalar n) reason.AnnotationLimit
      >> Ok (reading.onward_step kinds (top + far) (a_value (option_map (symbol_further far) field) (moved_symbols (annotations ++ a ∷ []))) (moved far c)))
      (costs-moved (annotations ++ a ∷ []))
      ∙ refused-moved (nat_lt limits.scalar (sum_by cost (annotations ++ a ∷ []))) reason.AnnotationLimit _ _ refl

  version-moved : (kinds : List Kind) (top : ℕ) (field : Option SymbolAt) (annotations : List SymbolAt) (a : SymbolAt) (c : Cursor) (told : Bool)
      → reading.value_or_version kinds (top + far) (option_map (symbol_further far) field) (moved_symbols annotations) (symbol_further far a) (moved far c) told
      ≡ moved_result (reading.value_or_version kinds top field annotations a c told)
  version-moved kinds top field annotations a c true =
      refused-moved (not (reading.is_marker a.symbol)) reason.BadVersion _ _
      (item-moved kinds top field annotations a.place value.marker kinds (reading.after_member (innermost kinds)) c (member-moved (innermost kinds)))
  version-moved kinds top field annotations a c false = ap Ok (scalar-moved kinds top field annotations a.place (value.symbol a) c)

  tells-moved : (k : Option Kind) (annotations : List SymbolAt) (quoted : Bool) (symbol : Symbol) → tells_version k (moved_symbols annotations) quoted symbol ≡ tells_version k annotations quoted symbol
  unfolding tells_version
  tells-moved (Some k) annotations quoted symbol = refl
  tells-moved None [] quoted symbol = refl
  tells-moved None (a ∷ annotations) quoted symbol = refl

  symbol-moved : (limits : Rules) (kinds : List Kind) (top : ℕ) (field : Option SymbolAt) (annotations : List SymbolAt) (quoted : Bool) (a : SymbolAt) (c : Cursor) (o : Option Cursor)
      → reading.symbol_step limits kinds (top + far) (option_map (symbol_further far) field) (moved_symbols annotations) quoted (symbol_further far a) (moved far c) (moved_option far o)
      ≡ moved_result (reading.symbol_step limits kinds top field annotations quoted a c o)
  symbol-moved limits kinds top field annotations quoted a c (Some e) = annotation-moved limits kinds top field annotations a e
  symbol-moved limits kinds top field annotations quoted a c None =
      ap (reading.value_or_version kinds (top + far) (option_map (symbol_further far) field) (moved_symbols annotations) (symbol_further far a) (moved far c)) (tells-moved (innermost kinds) annotations quoted a.symbol)
      ∙ version-moved kinds top field annotations a c (tells_version (innermost kinds) annotations quoted a.symbol)

  -- ---- a token

  module _ (limits : Rules) (kinds : List Kind) (top : ℕ) where
    take-moved : (wants : Wants) (p : ℕ) (t : Token) (c : Cursor) → Stays t
        → take limits kinds (top + far) (moved_wants wants) (p + far) t (moved far c) ≡ moved_part (take limits kinds top wants p t c)
    unfolding take
    take-moved a_separator p (end k) c stays = part-moved p (reading.end_step kinds top k p c) (reading.end_step kinds (top + far) k (p + far) (moved far c)) (end-moved kinds top k p c)
    take-moved a_separator p comma c stays = ap {B = Placed (Step State)} (λ (wants : Wants). Ok (reading.onward_step kinds (top + far) wants (moved far c))) (at_member-moved (innermost kinds))
    take-moved a_field p (end k) c stays = part-moved p (reading.end_step kinds top k p c) (reading.end_step kinds (top + far) k (p + far) (moved far c)) (end-moved kinds top k p c)
    take-moved a_field p (name quoted symbol) c stays = field-moved kinds top (at symbol p) c
    take-moved a_field p (text bytes) c stays = field-moved kinds top (at (value.Text bytes) p) c
    take-moved (a_value field annotations) p (end k) c stays = part-moved p (reading.bare_end_step field annotations kinds top k p c) _ (bare-moved field annotations kinds top k p c)
    take-moved (a_value field annotations) p (plain v) c stays =
        ap {B = Placed (Step State)} (λ (v : Scalar SymbolAt). Ok (reading.scalar_step kinds (top + far) (option_map (symbol_further far) field) (moved_symbols annotations) (p + far) v (moved far c))) (sym (stays (symbol_further far)))
        ∙ ap Ok (scalar-moved kinds top field annotations p v c)
    take-moved (a_value field annotations) p (float number) c stays = part-moved p (reading.float_step limits kinds top field annotations p number c) _ (float-moved limits kinds top field annotations p number c)
    take-moved (a_value field annotations) p (text bytes) c stays = ap Ok (scalar-moved kinds top field annotations p (value.string bytes) c)
    take-moved (a_value field annotations) p (operator bytes) c stays = ap Ok (scalar-moved kinds top field annotations p (value.symbol (at (value.Text bytes) p)) c)
    take-moved (a_value field annotations) p (name quoted symbol) c stays =
        part-moved p (reading.symbol_step limits kinds top field annotations quoted (at symbol p) c (after_colons (in_sexp (innermost kinds)) c)) _
        (ap (reading.symbol_step limits kinds (top + far) (option_map (symbol_further far) field) (moved_symbols annotations) quoted (at symbol (p + far)) (moved far c)) (colons-moved (in_sexp (innermost kinds)) c)
        ∙ symbol-moved limits kinds top field annotations quoted (at symbol p) c (after_colons (in_sexp (innermost kinds)) c))
    take-moved (a_value field annotations) p (begin k) c stays =
        part-moved p (reading.begin_step limits kinds top field annotations k p c) _
        (refused-moved (nat_le limits.depth (length kinds)) reason.DepthLimit _ _ (item-moved kinds top field annotations p (value.begin k) (k ∷ kinds) (reading.member_of k) c (begun-moved k)))
    take-moved wants p t c stays = refl

    token-by : (wants : Wants) (p : ℕ) (o w : Result (Token × Cursor) Reason) → IfOk o StaysAfter → w ≡ moved_after far o
        → (part (p + far) w >>= (λ t. take limits kinds (top + far) (moved_wants wants) (p + far) t.0 t.1)) ≡ moved_part (part p o >>= (λ t. take limits kinds top wants p t.0 t.1))
    token-by wants p (Ok x) w stays e = ap (λ (w : Result (Token × Cursor) Reason). part (p + far) w >>= (λ t. take limits kinds (top + far) (moved_wants wants) (p + far) t.0 t.1)) e ∙ take-moved wants p x.0 x.1 stays
    token-by wants p (Err why) w stays e = ap (λ (w : Result (Token × Cursor) Reason). part (p + far) w >>= (λ t. take limits kinds (top + far) (moved_wants wants) (p + far) t.0 t.1)) e

  -- ---- a step

  may-moved : (wants : Wants) (first : First) → may_come (moved_wants wants) first ≡ may_come wants first
  unfolding may_come
  may-moved (a_value field annotations) first = refl
  may-moved a_field first = refl
  may-moved a_separator first = refl

  final-moved : (kinds : List Kind) (wants : Wants) (p : ℕ) → reading.final_step kinds (moved_wants wants) (p + far) ≡ moved_part (reading.final_step kinds wants p)
  final-moved [] (a_value None []) p = refl
  final-moved kinds wants p = refl

  next-moved : (limits : Rules) (s : State) (c : Cursor) (first : First) (may : Bool) → reading.next_part limits (moved_state s) (moved far c) first may ≡ moved_part (reading.next_part limits s c first may)
  next-moved limits s c first true =
      token-by limits s.kinds s.top s.wants c.place (token_of (Some limits.scalar) first c) (token_of (Some limits.scalar) first (moved far c)) (token-stays (Some limits.scalar) first c)
      (token-moved far (Some limits.scalar) first c)
  next-moved limits s c first false = refl

  after-moved : (limits : Rules) (s : State) (c : Cursor) (rest : List ℕ) → reading.part_after limits (moved_state s) (moved far c) rest ≡ moved_part (reading.part_after limits s c rest)
  after-moved limits s c [] = final-moved s.kinds s.wants c.place
  after-moved limits s c (b ∷ bytes) =
      ap (reading.next_part limits (moved_state s) (moved far c) (first_at (in_sexp (innermost s.kinds)) (b ∷ bytes))) (may-moved s.wants (first_at (in_sexp (innermost s.kinds)) (b ∷ bytes)))
      ∙ next-moved limits s c (first_at (in_sexp (innermost s.kinds)) (b ∷ bytes)) (may_come s.wants (first_at (in_sexp (innermost s.kinds)) (b ∷ bytes)))

  step-moved : (limits : Rules) (s : State) → step limits (moved_state s) ≡ moved_step (step limits s)
  unfolding step part_at
  step-moved limits s = ap (λ (o : Placed Cursor). step_of (o >>= (λ c. reading.part_after limits (moved_state s) c c.rest))) (blanks-moved far s.cursor) ∙ by (blanks s.cursor)
    where
      by : (o : Placed Cursor) → step_of (moved_cursor far o >>= (λ c. reading.part_after limits (moved_state s) c c.rest)) ≡ moved_step (step_of (o >>= (λ c. reading.part_after limits s c c.rest)))
      by (Ok c) = ap step_of (after-moved limits s c c.rest) ∙ step_of-moved (reading.part_after limits s c c.rest)
      by (Err fault) = refl

  -- ---- a reading

  module _ (limits : Rules) where
    turn-moved : (o : Step State) → ((t : State) → Leaves o t → read limits (moved_state t) ≡ further far (read limits t)) → next_reading (read limits) (moved_step o) ≡ further far (next_reading (read limits) o)
    turn-moved Ends same = refl
    turn-moved (Stops why place) same = refl
    turn-moved (Gives item t) same = ap (More (item_further far item)) (same t (after_item item t))
    turn-moved (GoesOn t) same = same t (after_nothing t)

    read-moved : (n : ℕ) (s : State) → length s.cursor.rest < n → read limits (moved_state s) ≡ further far (read limits s)
    read-moved zero s less = absurd (omega (arith, less))
    read-moved (suc n) s less =
        in-turn limits (moved_state s)
        ∙ ap (next_reading (read limits)) (step-moved limits s)
        ∙ turn-moved (step limits s) (λ t leaves. let falls : length t.cursor.rest < length s.cursor.rest = each_step_falls limits s t leaves in read-moved n t (omega (arith, less, falls)))
        ∙ sym (ap (further far) (in-turn limits s))

pub nothing-hangs-on-places : NothingHangsOnPlaces
nothing-hangs-on-places limits place far rest =
    top-alike limits (suc (length rest)) 0 (0 + far) (a_value None []) (cursors.at (place + far) rest) (omega arith)
    ∙ read-moved far limits (suc (length rest)) (start_at (cursors.at place rest)) (omega arith)

pub parts-are-texts : PartsAreTexts
unfolding reading.reading
parts-are-texts limits place rest =
    let same : place ≡ 0 + place = omega arith in
    ap (λ (p : ℕ). reading_from limits (cursors.at p rest)) same ∙ nothing-hangs-on-places limits 0 place rest
