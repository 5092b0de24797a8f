-- A token that stands at a place is the next that a reading takes there.
use Rattle.std.proofs.Common.{◌≡◌, ℕ, ◌<◌, nat_lt, ◌||◌, if◌then◌else◌, Bool, true, false, List, [], ◌∷◌, Option, Some, None, Result, Ok, Err, refl, sym, ap, subst, ◌∙◌}
use Rattle.std.proofs.lemmas.Bool.{false≢true, le-ltb, lt-ltb}
use Rattle.std.proofs.lemmas.Result.{IfOk-at_ok}
use Rattle.std.specs.Result.{IfOk}
use Rattle.ion_meter.specs.declared.fault.Reason.{Reason}
use Rattle.ion_meter.specs.declared.fault.Reason.TheVariants.{ScalarLimit}
use Rattle.ion_meter.specs.declared.profile.Rules.{Rules}
use Rattle.ion_value.specs.declared.ion_type.Kind.{Kind}
use Rattle.ion_value.specs.Name.{Keyword, a_null, keyword}
use Rattle.ion_value.specs.Reading.{Stops}
use Rattle.ion_value.specs.Scalar.{scalar_of_run}
use Rattle.ion_value.specs.Value.{SymbolAt, Scalar}
use Rattle.ion_meter.specs.Sources.{Cursor, skip}
use Rattle.ion_value.specs.Parts.{part, ◌>>=◌}
use Rattle.ion_text_in.specs.Limit.{passes}
use Rattle.ion_text_in.specs.Blanks.{blanks}
use Rattle.ion_text_in.specs.Meaning.{counts, TokensWithinAreRead}
use Rattle.ion_text_in.specs.Within.{TokenWithin}
use Rattle.ion_text_in.specs.Quoted as quoted
use Rattle.ion_text_in.specs.Quoted.{text_at}
use Rattle.ion_text_in.specs.Lob.{lob_at}
use Rattle.ion_text_in.specs.Token as tokens
use Rattle.ion_text_in.specs.Token.{First, a_word, a_quoted, a_short, a_long, a_run, a_lob, an_operator, an_infinity, a_begin, an_end, a_comma, a_colon, two_colons, no_token, first_at, Token, plain, name, text, operator, begin, end, comma, colon, colons, token_of, token_at, next_token, word_token, scalar_token, counted, bytes_of, word_of, in_run, in_operator}
use Rattle.ion_text_in.specs.Reading as reading
use Rattle.ion_text_in.specs.Positions.{Wants, a_value, a_field, a_separator, State, innermost, in_sexp}
use Rattle.ion_text_in.specs.Reading.{is_punctuation, names_field, may_come, step, step_of, take, part_at}
use Rattle.ion_text_in.specs.Grammar.{Tok}
use Rattle.ion_text_in.proofs.RunTokens.{if-scalar}
use Rattle.ion_text_in.proofs.TokenCuts.{token-exact}
use Rattle.ion_text_in.proofs.TokenLimits.{got}
use Rattle.ion_value.proofs.WentWell.{if-then, went, part-known, if-any, if-passed}

-- ---- what a token's first bytes told

abbrev pub is_mark : Token → Bool
is_mark (begin k) = true
is_mark (end k) = true
is_mark comma = true
is_mark colon = true
is_mark colons = true
is_mark t = false

abbrev pub is_naming : Token → Bool
is_naming (name quoted symbol) = true
is_naming (text t) = true
is_naming t = false

pub record Told (first : First) (t : Token) : Type 0 where
  pub mark : is_mark t ≡ is_punctuation first
  pub naming : is_naming t ≡ true → names_field first ≡ true

bare : (first : First) (t : Token) → is_mark t ≡ is_punctuation first → is_naming t ≡ false → Told first t
bare first t mark none = record { mark = mark; naming = λ e. absurd (false≢true (sym none ∙ e)) }

names : (first : First) (t : Token) → is_mark t ≡ is_punctuation first → names_field first ≡ true → Told first t
names first t mark may = record { mark = mark; naming = λ _. may }

word-told : (c : Cursor) (word : List ℕ) → IfOk (word_token word >>= (λ t. got t c)) (λ x. Told a_word x.0)
unfolding word_token
word-told c word = by (keyword word)
  where
    by : (k : Option Keyword) → IfOk (tokens.by_keyword k word >>= (λ t. got t c)) (λ x. Told a_word x.0)
    by None = names a_word _ refl refl
    by (Some (a_null None)) = tt
    by (Some (a_null (Some type))) = bare a_word _ refl refl
    by k = bare a_word _ refl refl

run-told : (c : Cursor) (run : List ℕ) (o : Result (Scalar SymbolAt) Reason) → IfOk (scalar_token run o >>= (λ t. got t c)) (λ x. Told a_run x.0)
run-told c run o =
    if-then (Told a_run) (λ x. Told a_run x.0) (scalar_token run o) _ (if-scalar (Told a_run) run o (by o) (bare a_run _ refl refl)) (λ t h. h)
  where
    by : (o : Result (Scalar SymbolAt) Reason) → IfOk o (λ v. Told a_run (plain v))
    by (Ok v) = bare a_run _ refl refl
    by (Err why) = tt

if-told : (limit : Option ℕ) (first : First) (c : Cursor) → IfOk (token_of limit first c) (λ x. Told first x.0)
unfolding token_of
if-told limit a_run c = if-any _ (counted limit (bytes_of in_run c.rest) c) _ (λ r. run-told r.1 r.0 (scalar_of_run r.0))
if-told limit a_word c = if-any _ (counted limit (word_of c.rest) c) _ (λ r. word-told r.1 r.0)
if-told limit a_quoted c = if-any _ (text_at quoted.symbol_quote limit (skip 1 c)) _ (λ r. names a_quoted _ refl refl)
if-told limit a_short c = if-any _ (text_at (quoted.short_quote false) limit (skip 1 c)) _ (λ r. names a_short _ refl refl)
if-told limit a_long c = if-any _ (text_at (quoted.long_quote false) limit (skip 3 c)) _ (λ r. names a_long _ refl refl)
if-told limit a_lob c = if-any _ (lob_at limit (skip 2 c)) _ (λ r. bare a_lob _ refl refl)
if-told limit an_operator c = if-any _ (counted limit (bytes_of in_operator c.rest) c) _ (λ r. bare an_operator _ refl refl)
if-told limit an_infinity c = if-passed _ (passes limit 4) ScalarLimit _ (λ _. bare an_infinity _ refl refl)
if-told limit no_token c = tt
if-told limit mark c = bare mark _ refl refl

-- a token is of the kind that its first bytes told
pub token-told : (limit : Option ℕ) (first : First) (b d : Cursor) (t : Token) → token_of limit first b ≡ got t d → Told first t
token-told limit first b d t e = IfOk-at_ok (λ (x : Token × Cursor). Told first x.0) e (if-told limit first b)

-- ---- where a token stands

-- the blanks before it, and itself
pub record Stands (sexp : Bool) (c : Cursor) (t : Token) (p : ℕ) (d : Cursor) : Type 0 where
  pub prefix : Cursor
  pub blank : blanks c ≡ Ok prefix
  pub token : token_of None (first_at sexp prefix.rest) prefix ≡ got t d
  pub place : prefix.place ≡ p

pub tok-stands : (sexp : Bool) (c d : Cursor) (t : Token) (p : ℕ) → Tok sexp c t p d → Stands sexp c t p d
unfolding next_token
tok-stands sexp c d t p e =
    let before = went (blanks c) _ _ e in
    let b : Cursor = before.value in
    let there = went (part b.place (token_at None sexp b)) _ _ before.second in
    let u : Token × Cursor = there.value in
    let same : tokens.cut u.0 b.place u.1 ≡ tokens.cut t p d = cc there.second in
    let is : u ≡ (t, d) = ap (λ (z : tokens.Cut). (z.token, z.after)) same in
    record {
      prefix = b;
      blank = before.first;
      token = part-known b.place (token_at None sexp b) u there.first ∙ ap Ok is;
      place = ap (λ (z : tokens.Cut). z.first) same;
    }

-- ---- under a limit

pub tokens-within : TokensWithinAreRead
unfolding next_token
tokens-within limit sexp c d t p tok =
    let s = tok-stands sexp c d t p tok in
    let b : Cursor = s.prefix in
    ap (λ o. o >>= (λ b. part b.place (token_at (Some limit) sexp b) >>= (λ t. Ok (tokens.cut t.0 b.place t.1)))) s.blank
    ∙ ap (λ (o : Result (Token × Cursor) Reason). part b.place o >>= (λ t. Ok (tokens.cut t.0 b.place t.1))) (token-exact limit (first_at sexp b.rest) b t d s.token)
    ∙ placed b.place (nat_lt limit (counts t b.place d.place))
    ∙ ap (λ p. if nat_lt limit (counts t p d.place) then Err (ScalarLimit, p) else Ok (tokens.cut t p d)) s.place
  where
    placed : (p : ℕ) (long : Bool)
        → (part p (if long then Err ScalarLimit else got t d) >>= (λ t. Ok (tokens.cut t.0 p t.1))) ≡ (if long then Err (ScalarLimit, p) else Ok (tokens.cut t p d))
    placed p true = refl
    placed p false = refl

-- ---- the step that takes a token

abbrev pub state : List Kind → ℕ → Wants → Cursor → State
state kinds top wants c = record { kinds = kinds; top = top; wants = wants; cursor = c }

-- a token may come where its first bytes do not tell that it cannot
abbrev pub Suits : Wants → Token → Type 0
Suits wants t = (first : First) → Told first t → may_come wants first ≡ true

pub value-suits : (field : Option SymbolAt) (annotations : List SymbolAt) (t : Token) → Suits (a_value field annotations) t
unfolding may_come
value-suits field annotations t first told = refl

pub mark-suits : (t : Token) → is_mark t ≡ true → Suits a_separator t
unfolding may_come
mark-suits t mark first told = sym told.mark ∙ mark

pub end-suits : (t : Token) → is_mark t ≡ true → Suits a_field t
unfolding may_come
end-suits t mark first told = ap (λ b. b || names_field first) (sym told.mark ∙ mark)

pub naming-suits : (t : Token) → is_mark t ≡ false → is_naming t ≡ true → Suits a_field t
unfolding may_come
naming-suits t bare naming first told = ap (λ b. b || names_field first) (sym told.mark ∙ bare) ∙ told.naming naming

module _ (limits : Rules) (kinds : List Kind) (top : ℕ) (wants : Wants) (c : Cursor) (t : Token) (d : Cursor) (suits : Suits wants t) (b : Cursor) where
  rest-token : (rest : List ℕ) → b.rest ≡ rest → token_of None (first_at (in_sexp (innermost kinds)) b.rest) b ≡ got t d
      → reading.part_after limits (state kinds top wants c) b rest
      ≡ (part b.place (if nat_lt limits.scalar (counts t b.place d.place) then Err ScalarLimit else got t d) >>= (λ t. take limits kinds top wants b.place t.0 t.1))
  unfolding first_at token_of
  rest-token [] is e =
      let cut : token_of None (first_at (in_sexp (innermost kinds)) []) b ≡ got t d = subst (λ rest. token_of None (first_at (in_sexp (innermost kinds)) rest) b ≡ got t d) is e in
      absurd (cc cut)
  rest-token (x ∷ rest) is e =
      let first : First = first_at (in_sexp (innermost kinds)) (x ∷ rest) in
      let e' : token_of None first b ≡ got t d = subst (λ rest. token_of None (first_at (in_sexp (innermost kinds)) rest) b ≡ got t d) is e in
      let may : may_come wants first ≡ true = suits first (token-told None first b d t e') in
      ap (λ m. reading.next_part limits (state kinds top wants c) b first m) may
      ∙ ap (λ (o : Result (Token × Cursor) Reason). part b.place o >>= (λ t. take limits kinds top wants b.place t.0 t.1)) (token-exact limits.scalar first b t d e')

-- where it counts no more than the limit, and else the reading stops
step-by : (limits : Rules) (kinds : List Kind) (top : ℕ) (wants : Wants) (c : Cursor) (t : Token) (p : ℕ) (d : Cursor) → Suits wants t → Tok (in_sexp (innermost kinds)) c t p d
    → step limits (state kinds top wants c) ≡ (if nat_lt limits.scalar (counts t p d.place) then Stops ScalarLimit p else step_of (take limits kinds top wants p t d))
unfolding step part_at
step-by limits kinds top wants c t p d suits tok =
    let stands = tok-stands (in_sexp (innermost kinds)) c d t p tok in
    let b : Cursor = stands.prefix in
    ap step_of (ap (λ o. o >>= (λ b. reading.part_after limits (state kinds top wants c) b b.rest)) stands.blank ∙ rest-token limits kinds top wants c t d suits b b.rest refl stands.token)
    ∙ placed b.place (nat_lt limits.scalar (counts t b.place d.place))
    ∙ ap (λ p. if nat_lt limits.scalar (counts t p d.place) then Stops ScalarLimit p else step_of (take limits kinds top wants p t d)) stands.place
  where
    placed : (p : ℕ) (long : Bool) → step_of (part p (if long then Err ScalarLimit else got t d) >>= (λ t. take limits kinds top wants p t.0 t.1))
        ≡ (if long then Stops ScalarLimit p else step_of (take limits kinds top wants p t d))
    placed p true = refl
    placed p false = refl

pub step-token : (limits : Rules) (kinds : List Kind) (top : ℕ) (wants : Wants) (c : Cursor) (t : Token) (p : ℕ) (d : Cursor) → Suits wants t
    → TokenWithin limits t p d → Tok (in_sexp (innermost kinds)) c t p d
    → step limits (state kinds top wants c) ≡ step_of (take limits kinds top wants p t d)
step-token limits kinds top wants c t p d suits within tok =
    step-by limits kinds top wants c t p d suits tok
    ∙ ap (λ (long : Bool). if long then Stops ScalarLimit p else step_of (take limits kinds top wants p t d)) (le-ltb limits.scalar (counts t p d.place) within)

-- a token that counts more than the limit is refused
pub token-stops : (limits : Rules) (kinds : List Kind) (top : ℕ) (wants : Wants) (c : Cursor) (t : Token) (p : ℕ) (d : Cursor) → Suits wants t
    → Tok (in_sexp (innermost kinds)) c t p d → limits.scalar < counts t p d.place → step limits (state kinds top wants c) ≡ Stops ScalarLimit p
token-stops limits kinds top wants c t p d suits tok over =
    step-by limits kinds top wants c t p d suits tok
    ∙ ap (λ (long : Bool). if long then Stops ScalarLimit p else step_of (take limits kinds top wants p t d)) (lt-ltb limits.scalar (counts t p d.place) over)

-- ---- colons

-- the first bytes of a mark, and how many it has
abbrev first_of : Token → First
first_of (begin k) = a_begin k
first_of (end k) = an_end k
first_of comma = a_comma
first_of colon = a_colon
first_of colons = two_colons
first_of t = no_token

abbrev width : Token → ℕ
width colons = 2
width t = 1

mark-same : (u t : Token) (b d : Cursor) → got u (skip (width u) b) ≡ got t d → (first_of u ≡ first_of t) × (d ≡ skip (width t) b)
mark-same u t b d e =
    let both : ◌≡◌ {A = Token × Cursor} (u, skip (width u) b) (t, d) = cc e in
    let is : u ≡ t = ap (λ (z : Token × Cursor). z.0) both in
    (ap first_of is, sym (ap (λ (z : Token × Cursor). z.1) both) ∙ ap (λ t. skip (width t) b) is)

marked : (limit : Option ℕ) (first : First) (b d : Cursor) (t : Token) → token_of limit first b ≡ got t d → is_punctuation first ≡ true → (first ≡ first_of t) × (d ≡ skip (width t) b)
unfolding token_of
marked limit (a_begin k) b d t e is = mark-same (begin k) t b d e
marked limit (an_end k) b d t e is = mark-same (end k) t b d e
marked limit a_comma b d t e is = mark-same comma t b d e
marked limit a_colon b d t e is = mark-same colon t b d e
marked limit two_colons b d t e is = mark-same colons t b d e
marked limit no_token b d t e is = absurd (cc e)
marked limit first b d t e is = absurd (false≢true is)

pub colons-stand : (sexp : Bool) (c d : Cursor) (p : ℕ) → Tok sexp c colons p d → reading.after_colons sexp c ≡ Some d
colons-stand sexp c d p tok =
    let s = tok-stands sexp c d colons p tok in
    let told = token-told None (first_at sexp s.prefix.rest) s.prefix d colons s.token in
    let are = marked None (first_at sexp s.prefix.rest) s.prefix d colons s.token (sym told.mark) in
    ap (λ o. reading.colons_after sexp o) s.blank ∙ ap (λ first. reading.colons_at first s.prefix) are.0 ∙ ap Some (sym are.1)

colon-from : (kinds : List Kind) (top : ℕ) (a : SymbolAt) (b : Cursor) (rest : List ℕ) → first_at false rest ≡ a_colon
    → reading.colon_from kinds top a b rest ≡ Ok (reading.onward_step kinds top (a_value (Some a) []) (skip 1 b))
unfolding first_at
colon-from kinds top a b [] is = absurd (cc is)
colon-from kinds top a b (x ∷ rest) is = ap (reading.colon_of kinds top a b) is

-- after a field's name
pub colon-stands : (c d : Cursor) (p : ℕ) (kinds : List Kind) (top : ℕ) (a : SymbolAt) → Tok false c colon p d
    → reading.field_step kinds top a c ≡ Ok (reading.onward_step kinds top (a_value (Some a) []) d)
colon-stands c d p kinds top a tok =
    let s = tok-stands false c d colon p tok in
    let told = token-told None (first_at false s.prefix.rest) s.prefix d colon s.token in
    let is = marked None (first_at false s.prefix.rest) s.prefix d colon s.token (sym told.mark) in
    ap (λ o. o >>= (λ b. reading.colon_from kinds top a b b.rest)) s.blank
    ∙ colon-from kinds top a s.prefix s.prefix.rest is.0
    ∙ ap (λ d. Ok (reading.onward_step kinds top (a_value (Some a) []) d)) (sym is.1)
