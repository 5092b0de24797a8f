-- What a stream has at top level is raw, and where limits allow what stands in it, within them.
use Rattle.std.proofs.Common.{◌≡◌, ℕ, suc, ◌+◌, ◌*◌, ◌≤◌, arith, Bool, true, false, if◌then◌else◌, List, [], ◌∷◌, ◌++◌, length, drop, codes, Option, None, Some, is_some, Result, Ok, Err, refl, sym, subst}
use Rattle.std.specs.List.{AllByRecursion}
use Rattle.std.specs.Result.{IfOk}
use Rattle.std.proofs.lemmas.Result.{IfOk-at_ok}
use Rattle.std.specs.Str.{bytes_eq}
use Rattle.std.proofs.lemmas.Slice.Eq.{bytes_eq-Decides}
use lib.Ieee.{Float, nan, inf}
use Rattle.ion_meter.specs.declared.fault.Reason.{Reason}
use Rattle.ion_meter.specs.declared.fault.Reason.TheVariants.{BadToken}
use Rattle.ion_meter.specs.declared.profile.Rules.{Rules}
use Rattle.ion_meter.specs.Sources.{Cursor, skip}
use Rattle.ion_value.specs.declared.decimal.Decimal.{Decimal}
use Rattle.ion_value.specs.declared.int.Int.{Int}
use Rattle.ion_value.specs.declared.ion_type.IonType.{IonType}
use Rattle.ion_value.specs.declared.ion_type.IonType.TheVariants as type
use Rattle.ion_value.specs.declared.ion_type.Kind.{Kind}
use Rattle.ion_value.specs.declared.ion_type.Kind.TheVariants as kind
use Rattle.ion_value.specs.declared.timestamp.Timestamp.{Timestamp}
use Rattle.ion_value.specs.Decimal.{decimal_of_text}
use Rattle.ion_value.specs.Digits.{has_minus}
use Rattle.ion_value.specs.FloatText.{float_of_text}
use Rattle.ion_value.specs.Int.{int_of_text}
use Rattle.ion_value.specs.Name.{Keyword, a_null, a_bool, a_nan, begins_with, keyword, type_named, is_id, id_of}
use Rattle.ion_value.specs.Parts.{◌>>=◌}
use Rattle.ion_value.specs.Scalar.{scalar_of_run, scalar_of_readings}
use Rattle.ion_value.specs.Standing.{in_struct}
use Rattle.ion_value.specs.Timestamp.{timestamp_of_text}
use Rattle.ion_value.specs.Value as value
use Rattle.ion_value.specs.Value.{Symbol, SymbolAt, Scalar, Value, Members, scalar, Top, version, tree, top_items}
use Rattle.ion_value.specs.Writable.{field_symbols, scalar_symbols, value_symbols, members_symbols, IsWritable, AreWritable, ValueHasBytes, MembersHaveBytes, SymbolIsText, IsRaw}
use Rattle.ion_text_in.specs.Grammar.{Tok, Annotations, Field, Txt, Inside, Tops}
use Rattle.ion_text_in.specs.Laws.{StreamsAreRaw}
use Rattle.ion_text_in.specs.Lob.{lob_at}
use Rattle.ion_text_in.specs.Meaning.{counts}
use Rattle.ion_text_in.specs.Positions.{at, first_place}
use Rattle.ion_text_in.specs.Quoted.{long_quote, short_quote, symbol_quote, text_at}
use Rattle.ion_text_in.specs.ReadWithin.{SymbolIsWithin, ScalarIsWithin, AnnotationsAreWithin, ValueIsWithin, MembersAreWithin, TopIsWithin, WhatIsReadIsWithin, ValuesReadAreWithin}
use Rattle.ion_text_in.specs.Token.{First, a_run, a_word, a_quoted, a_short, a_long, a_lob, an_operator, an_infinity, no_token, Token, plain, float, found_float, name, text, operator, first_at, by_keyword, bytes_of, in_operator, in_run, run_token, token_of, word_of, word_token}
use Rattle.ion_text_in.specs.Within.{TokenWithin, AnnotationsWithin, NamesWithin, FieldWithin, TxtWithin, InsideWithin, TopsWithin}
use Rattle.ion_text_in.proofs.Advancing.{tops-allowed}
use Rattle.ion_text_in.proofs.LobBytes.{all-append}
use Rattle.ion_value.proofs.Permitted.{all-permitted}
use Rattle.ion_text_in.proofs.RawTokens.{tokens-are_raw}
use Rattle.ion_text_in.proofs.RunTokens.{if-scalar}
use Rattle.ion_text_in.proofs.Shrinking.{Any, LobOf, any-lob}
use Rattle.ion_text_in.proofs.TokenLimits.{CountsAll, run_token-counts, word_token-counts}
use Rattle.ion_text_in.proofs.Tokens.{tok-stands}
use Rattle.ion_value.proofs.WentWell.{if-then, if-any}

all-more : {A : Type 0} (P Q : A → Type 0) → ((x : A) → P x → Q x) → (xs : List A) → AllByRecursion P xs → AllByRecursion Q xs
all-more P Q more [] h = tt
all-more P Q more (x ∷ xs) h = (more x h.0, all-more P Q more xs h.1)

-- ---- floats that are words

nan-test : (a b c d e : Bool) (t : Option IonType)
    → (if a then Some (a_null (Some type.Null)) else (if b then Some (a_null t) else (if c then Some (a_bool true) else (if d then Some (a_bool false) else (if e then Some a_nan else None)))))
    ≡ Some a_nan → e ≡ true
nan-test true b c d e t is = absurd (cc is)
nan-test false true c d e t is = absurd (cc is)
nan-test false false true d e t is = absurd (cc is)
nan-test false false false true e t is = absurd (cc is)
nan-test false false false false true t is = refl
nan-test false false false false false t is = absurd (cc is)

nan-text : float_of_text (codes "nan") ≡ Ok nan
unfolding float_of_text
nan-text = refl

nan-read : (word : List ℕ) → keyword word ≡ Some a_nan → float_of_text word ≡ Ok nan
nan-read word e =
    let is : codes "nan" ≡ word = (bytes_eq-Decides (codes "nan") word).0 (nan-test (bytes_eq (codes "null") word) (begins_with (codes "null.") word) (bytes_eq (codes "true") word) (bytes_eq (codes "false") word)
    (bytes_eq (codes "nan") word) (type_named (drop 5 word)) e) in
    subst (λ (run : List ℕ). float_of_text run ≡ Ok nan) is nan-text

abbrev infinity_word : Bool → List ℕ
infinity_word true = codes "-inf"
infinity_word false = codes "+inf"

infinity-read : (negative : Bool) → float_of_text (infinity_word negative) ≡ Ok (inf negative)
unfolding float_of_text
infinity-read true = refl
infinity-read false = refl

infinity-long : (negative : Bool) → length (infinity_word negative) ≡ 4
infinity-long true = refl
infinity-long false = refl

module _ (limits : Rules) where
  -- ---- tokens

  -- what a token means is within the limits
  abbrev Means : Token → Type 0
  Means (plain body) = ScalarIsWithin limits body
  Means (float (Some x)) = (run : List ℕ) × (float_of_text run ≡ Ok x) × (length run ≤ limits.scalar)
  Means (name quoted symbol) = SymbolIsWithin limits symbol
  Means (text bytes) = length bytes ≤ limits.scalar
  Means (operator bytes) = length bytes ≤ limits.scalar
  Means t = Unit {0}

  readings-within : (run : List ℕ) (i : Result Int Reason) (d : Result Decimal Reason) (t : Result Timestamp Reason) → decimal_of_text run ≡ d → timestamp_of_text run ≡ t
      → length run ≤ limits.scalar → IfOk (scalar_of_readings {S = SymbolAt} i d t) (ScalarIsWithin limits)
  readings-within run (Ok i) d t e f le = tt
  readings-within run (Err BadToken) (Ok d) t e f le = (run, e, le)
  readings-within run (Err BadToken) (Err BadToken) (Ok t) e f le = (run, f, le)
  readings-within run i d t e f le = tt

  found-within : (run : List ℕ) (r : Result Float Reason) → float_of_text run ≡ r → length run ≤ limits.scalar → Means (float (found_float r))
  found-within run (Ok x) e le = (run, e, le)
  found-within run (Err why) e le = tt

  run-within : (run : List ℕ) → length run ≤ limits.scalar → IfOk (run_token run) Means
  unfolding scalar_of_run
  run-within run le =
      if-scalar Means run (scalar_of_run run) (readings-within run (int_of_text run) (decimal_of_text run) (timestamp_of_text run) refl refl le)
      (found-within run (float_of_text run) refl le)

  keyword-within : (k : Option Keyword) (word : List ℕ) → keyword word ≡ k → length word ≤ limits.scalar → IfOk (by_keyword k word) Means
  keyword-within None word e le = by (is_id word)
    where
      by : (b : Bool) → Means (name false (if b then value.Id (id_of word) else value.Text word))
      by true = tt
      by false = le
  keyword-within (Some (a_null None)) word e le = tt
  keyword-within (Some (a_null (Some type))) word e le = tt
  keyword-within (Some a_nan) word e le = (word, nan-read word e, le)
  keyword-within k word e le = tt

  infinity-within : (negative : Bool) → 4 ≤ limits.scalar → Means (float (Some (inf negative)))
  infinity-within negative le = (infinity_word negative, infinity-read negative, omega (arith, le, infinity-long negative))

  word-within : (word : List ℕ) → length word ≤ limits.scalar → IfOk (word_token word) Means
  unfolding word_token
  word-within word le = keyword-within (keyword word) word refl le

  -- a token that begins at a cursor and counts no more than the limit
  abbrev Counted : Cursor → Token × Cursor → Type 0
  Counted c x = counts x.0 c.place x.1.place ≤ limits.scalar → Means x.0

  -- bytes that all count, and what they mean
  counted-within : (bytes : List ℕ) (c : Cursor) (means : List ℕ → Result Token Reason) → IfOk (means bytes) CountsAll → (length bytes ≤ limits.scalar → IfOk (means bytes) Means)
      → IfOk (means bytes >>= (λ t. Ok (t, skip (length bytes) c))) (Counted c)
  counted-within bytes c means all within = by (means bytes) all within
    where
      by : (o : Result Token Reason) → IfOk o CountsAll → (length bytes ≤ limits.scalar → IfOk o Means) → IfOk (o >>= (λ t. Ok (t, skip (length bytes) c))) (Counted c)
      by (Ok t) all within = λ le. within (omega (arith, le, all c.place (c.place + length bytes)))
      by (Err reason) all within = tt

  lob-within : (p : ℕ) (c d : Cursor) (v : Scalar SymbolAt) → LobOf Any v → counts (plain v) p d.place ≤ limits.scalar → ScalarIsWithin limits v
  lob-within p c d (value.clob bytes) is le = le
  lob-within p c d (value.blob bytes) is le = le
  lob-within p c d v is le = absurd is

  token-means : (f : First) (c : Cursor) → IfOk (token_of None f c) (Counted c)
  unfolding token_of
  token-means a_run c = counted-within (bytes_of in_run c.rest) c run_token (run_token-counts (bytes_of in_run c.rest)) (run-within (bytes_of in_run c.rest))
  token-means a_word c = counted-within (word_of c.rest) c word_token (word_token-counts (word_of c.rest)) (word-within (word_of c.rest))
  token-means a_quoted c = if-any _ (text_at symbol_quote None (skip 1 c)) _ (λ t le. le)
  token-means a_short c = if-any _ (text_at (short_quote false) None (skip 1 c)) _ (λ t le. le)
  token-means a_long c = if-any _ (text_at (long_quote false) None (skip 3 c)) _ (λ t le. le)
  token-means a_lob c = if-then _ _ (lob_at None (skip 2 c)) _ (any-lob c.place None (skip 2 c)) (λ l h le. lob-within c.place c l.1 l.0 h.1 le)
  token-means an_operator c = counted-within (bytes_of in_operator c.rest) c (λ bytes. Ok (operator bytes)) (λ p q. refl) (λ le. le)
  token-means an_infinity c = λ le. infinity-within (has_minus c.rest) (omega (arith, le))
  token-means no_token c = tt
  token-means mark c = λ le. tt

  tok-means : (sexp : Bool) (c d : Cursor) (t : Token) (p : ℕ) → Tok sexp c t p d → TokenWithin limits t p d → Means t
  tok-means sexp c d t p tok within =
      let s = tok-stands sexp c d t p tok in
      IfOk-at_ok (Counted s.prefix) s.token (token-means (first_at sexp s.prefix.rest) s.prefix) (subst (λ p. TokenWithin limits t p d) (sym s.place) within)

  -- ---- symbols

  abbrev Holds : SymbolAt → Type 0
  Holds s = SymbolIsWithin limits s.symbol × SymbolIsText s.symbol

  abbrev AreHeld : List SymbolAt → Type 0
  AreHeld symbols = AllByRecursion Holds symbols

  names-hold : {sexp : Bool} {c d : Cursor} {annotations : List SymbolAt} (ns : Annotations sexp c annotations d) → NamesWithin limits ns → AreHeld annotations
  names-hold Annotations.nothing within = tt
  names-hold (Annotations.then {annotations = annotations} {p = p} {symbol = symbol} before tok after) within =
      all-append Holds annotations (at symbol p ∷ []) (names-hold before within.0) ((tok-means _ _ _ _ _ tok within.1, tokens-are_raw _ _ _ _ _ tok), tt)

  -- a field stands in a struct alone
  record FieldHolds (k : Option Kind) (field : Option SymbolAt) : Type 0 where
    where_it_stands : (j : Kind) → k ≡ Some j → is_some field ≡ in_struct (j ∷ [])
    symbols : AreHeld (field_symbols field)

  stands-in : (k : Kind) (there : Bool) → there ≡ in_struct (k ∷ []) → (j : Kind) → Some k ≡ Some j → there ≡ in_struct (j ∷ [])
  stands-in k there is j e = let same : k ≡ j = cc e in subst (λ (i : Kind). there ≡ in_struct (i ∷ [])) same is

  field-holds : {k : Option Kind} {c d : Cursor} {field : Option SymbolAt} (own : Field k c field d) → FieldWithin limits own → FieldHolds k field
  field-holds Field.at_top within = record { where_it_stands = λ j e. absurd (cc e); symbols = tt }
  field-holds Field.in_list within = record { where_it_stands = stands-in kind.List false refl; symbols = tt }
  field-holds Field.in_a_sexp within = record { where_it_stands = stands-in kind.Sexp false refl; symbols = tt }
  field-holds (Field.named tok after) within =
      record { where_it_stands = stands-in kind.Struct true refl; symbols = ((tok-means _ _ _ _ _ tok within, tokens-are_raw _ _ _ _ _ tok), tt) }
  field-holds (Field.in_quotes tok after) within =
      record { where_it_stands = stands-in kind.Struct true refl; symbols = ((tok-means _ _ _ _ _ tok within, tokens-are_raw _ _ _ _ _ tok), tt) }

  -- ---- values and members

  record ValueHolds (depth : ℕ) (annotations : List SymbolAt) (x : Value SymbolAt ℕ) : Type 0 where
    names : AnnotationsAreWithin limits annotations
    value : ValueIsWithin limits depth x
    writable : IsWritable x
    bytes : ValueHasBytes x
    symbols : (field : Option SymbolAt) → AreHeld (field_symbols field) → AreHeld (value_symbols field annotations x)

  record MembersHold (depth : ℕ) (k : Kind) (members : Members SymbolAt ℕ) : Type 0 where
    inside : MembersAreWithin limits depth members
    writable : AreWritable k members
    bytes : MembersHaveBytes members
    symbols : AreHeld (members_symbols members)

  scalar-holds : (depth : ℕ) {sexp : Bool} {c d : Cursor} (annotations : List SymbolAt) (ns : Annotations sexp c annotations d) (body : Scalar SymbolAt) → AnnotationsWithin limits ns → ScalarIsWithin limits body
      → IsWritable {S = SymbolAt} {P = ℕ} (scalar body) → ValueHasBytes {S = SymbolAt} {P = ℕ} (scalar body) → AreHeld (scalar_symbols body) → ValueHolds depth annotations (scalar body)
  scalar-holds depth annotations ns body within is writable bytes own = record {
    names = within.0;
    value = is;
    writable = writable;
    bytes = bytes;
    symbols = λ field named. all-append Holds (field_symbols field) (annotations ++ scalar_symbols body) named
        (all-append Holds annotations (scalar_symbols body) (names-hold ns within.1) own);
  }

  mutual
    txt-holds : {k : Option Kind} {c d : Cursor} {annotations : List SymbolAt} {p : ℕ} {x : Value SymbolAt ℕ} (depth : ℕ) (txt : Txt k c annotations p x d) → TxtWithin limits depth txt
        → ValueHolds depth annotations x
    txt-holds depth (Txt.of_plain {annotations = annotations} {v = v} ns tok) within =
        let raw = tokens-are_raw _ _ _ _ _ tok in
        scalar-holds depth annotations ns v within.0 (tok-means _ _ _ _ _ tok within.1) (raw.in_range, raw.text) raw.bytes (subst AreHeld (sym raw.no_symbol) tt)
    txt-holds depth (Txt.of_float {annotations = annotations} {x = x} ns tok) within =
        let run = tok-means _ _ _ _ _ tok within.1.0 in
        scalar-holds depth annotations ns (value.float x) within.0 (within.1.1, run.0, run.1, run.2) (tokens-are_raw _ _ _ _ _ tok, tt) tt tt
    txt-holds depth (Txt.of_text {annotations = annotations} {bytes = bytes} ns tok) within =
        scalar-holds depth annotations ns (value.string bytes) within.0 (tok-means _ _ _ _ _ tok within.1) (tt, tokens-are_raw _ _ _ _ _ tok) tt tt
    txt-holds depth (Txt.of_operator {annotations = annotations} {p = p} {bytes = bytes} ns tok) within =
        scalar-holds depth annotations ns (value.symbol (at (value.Text bytes) p)) within.0 tt (tt, tt) tt ((tok-means _ _ _ _ _ tok within.1, tokens-are_raw _ _ _ _ _ tok), tt)
    txt-holds depth (Txt.of_symbol {annotations = annotations} {p = p} {symbol = symbol} ns tok alone no_version) within =
        scalar-holds depth annotations ns (value.symbol (at symbol p)) within.0 tt (tt, tt) tt ((tok-means _ _ _ _ _ tok within.1, tokens-are_raw _ _ _ _ _ tok), tt)
    txt-holds depth (Txt.of_members {annotations = annotations} {members = members} ns tok inside last) within =
        let all = inside-holds (suc depth) inside within.1.1 in
        record {
          names = within.0.0;
          value = (within.1.0, all.inside);
          writable = all.writable;
          bytes = all.bytes;
          symbols = λ field named. all-append Holds (field_symbols field ++ (annotations ++ [])) (members_symbols members)
              (all-append Holds (field_symbols field) (annotations ++ []) named (all-append Holds annotations [] (names-hold ns within.0.1) tt)) all.symbols;
        }

    inside-holds : {k : Kind} {c d : Cursor} {members : Members SymbolAt ℕ} {full : Bool} (depth : ℕ) (inside : Inside k c members full d) → InsideWithin limits depth inside
        → MembersHold depth k members
    inside-holds depth Inside.nothing within = record { inside = tt; writable = tt; bytes = tt; symbols = tt }
    inside-holds depth (Inside.with_value {k = k} {members = members} {field = field} {annotations = annotations} {v = v} before own txt) within =
        let others = inside-holds depth before within.0 in
        let f = field-holds own within.1.0 in
        let x = txt-holds depth txt within.1.1 in
        record {
          inside = (others.inside, x.names, x.value);
          writable = (others.writable, (f.where_it_stands k refl, x.writable));
          bytes = (others.bytes, x.bytes);
          symbols = all-append Holds (members_symbols members) (value_symbols field annotations v) others.symbols (x.symbols field f.symbols);
        }
    inside-holds depth (Inside.with_comma before after) within = inside-holds depth before within

  abbrev TopHolds : Top SymbolAt ℕ → Type 0
  TopHolds top = TopIsWithin limits top × IsRaw top

  tops-hold : {c d : Cursor} {tops : List (Top SymbolAt ℕ)} (t : Tops c tops d) → TopsWithin limits t → AllByRecursion TopHolds tops
  tops-hold Tops.nothing within = tt
  tops-hold (Tops.marker {tops = tops} {p = p} before tok alone) within = all-append TopHolds tops (version p ∷ []) (tops-hold before within.0) ((tt, tt), tt)
  tops-hold (Tops.with_value {tops = tops} {annotations = annotations} {p = p} {v = v} before txt) within =
      let x = txt-holds 0 txt within.1 in
      let symbols = x.symbols None tt in
      all-append TopHolds tops (tree (first_place annotations p) annotations p v ∷ []) (tops-hold before within.0) (
        (
          (x.names, x.value, all-more Holds (λ s. SymbolIsWithin limits s.symbol) (λ s h. h.0) (value_symbols None annotations v) symbols),
          (x.writable, (x.bytes, all-more Holds (λ s. SymbolIsText s.symbol) (λ s h. h.1) (value_symbols None annotations v) symbols)),
        ),
        tt,
      )

pub values_are_within : WhatIsReadIsWithin → ValuesReadAreWithin
values_are_within law limits bytes tops is read =
    all-more (TopHolds limits) (TopIsWithin limits) (λ top h. h.0) tops (tops-hold limits is.spells (law limits bytes tops is read))

-- under limits that allow all that stands in it
pub streams-are_raw : StreamsAreRaw
streams-are_raw bytes tops stream =
    let limits : Rules = record { depth = length bytes; scalar = 16 * length bytes; floats = true } in
    all-more (TopHolds limits) IsRaw (λ top h. h.1) tops (tops-hold limits stream.spells (tops-allowed limits bytes (omega arith, omega arith) stream.spells (all-permitted limits refl (top_items tops))))
