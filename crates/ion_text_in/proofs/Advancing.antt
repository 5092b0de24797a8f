-- Whatever the grammar spells takes its bytes, and limits that allow all of some bytes allow what these spell.
use Rattle.std.proofs.Common.{◌≡◌, ℕ, suc, ◌+◌, ◌*◌, ◌<◌, ◌≤◌, Bool, sum_by, List, [], ◌∷◌, length, Option, None, refl, ap, subst, arith}
use Rattle.std.proofs.lemmas.List.Sums.{sum_by-append}
use Rattle.std.proofs.lemmas.Result.{IfOk-at_ok}
use Rattle.ion_meter.specs.Sources.{Cursor}
use Rattle.ion_meter.specs.declared.profile.Rules.{Rules}
use Rattle.ion_value.specs.declared.ion_type.Kind.{Kind}
use Rattle.ion_value.specs.Path.{Path, path_items}
use Rattle.ion_value.specs.ReadingLaws.{Allows, ArePermitted}
use Rattle.ion_value.specs.Value as value
use Rattle.ion_value.specs.Value.{Symbol, SymbolAt, Value, Members, Top, top_items}
use Rattle.ion_text_in.specs.Beginnings.{BeginsInfinity, TokenBegins}
use Rattle.ion_text_in.specs.Grammar.{Tok, Annotations, Field, Txt, Inside, Tops, start_of}
use Rattle.ion_text_in.specs.Meaning.{counts}
use Rattle.ion_text_in.specs.Paths.{Spells}
use Rattle.ion_text_in.specs.Positions.{at, first_place}
use Rattle.ion_text_in.specs.Reading.{cost}
use Rattle.ion_text_in.specs.Token.{First, an_infinity, first_at, Token, name, token_of}
use Rattle.ion_text_in.specs.Within.{TokenWithin, NamesWithin, AnnotationsWithin, FieldWithin, TxtWithin, InsideWithin, TopsWithin, PathWithin}
use Rattle.ion_value.proofs.Permitted.{all-parts, MembersArePermitted, PathIsPermitted, TopIsPermitted, TopsArePermitted, ValueIsPermitted, open-permitted, path-permitted, tops-permitted}
use Rattle.ion_text_in.proofs.Shrinking.{blanks-within, Long, name_length, NameTaken, TokenIs, token-is}
use Rattle.ion_text_in.proofs.TokenBegins.{what-begins}
use Rattle.ion_text_in.proofs.TokenLimits.{got}
use Rattle.ion_text_in.proofs.Tokens.{tok-stands}

-- ---- tokens

infinity-long : {bytes : List ℕ} → BeginsInfinity bytes → 4 ≤ length bytes
infinity-long (BeginsInfinity.plus _) = omega arith
infinity-long (BeginsInfinity.minus _) = omega arith

begun-long : (sexp : Bool) (rest : List ℕ) → TokenBegins sexp rest an_infinity → 4 ≤ length rest
begun-long sexp _ (TokenBegins.infinity is) = infinity-long is

first-long : (sexp : Bool) (rest : List ℕ) → Long rest (first_at sexp rest)
first-long sexp rest = by (first_at sexp rest) refl
  where
    by : (f : First) → first_at sexp rest ≡ f → Long rest f
    by an_infinity e = begun-long sexp rest ((what-begins sexp rest an_infinity (λ no. absurd (cc no))).0 e)
    by f e = tt

some-left : (sexp : Bool) (b d : Cursor) (t : Token) (rest : List ℕ) → b.rest ≡ rest → token_of None (first_at sexp rest) b ≡ got t d → 0 < length b.rest
unfolding first_at token_of
some-left sexp b d t [] is e = absurd (cc e)
some-left sexp b d t (x ∷ rest) is e = omega (arith, ap length is)

-- a token takes a byte, it counts no more bytes than there are, and a name has no more than it takes
pub record Took (c : Cursor) (t : Token) (p : ℕ) (d : Cursor) : Type 0 where
  pub less : length d.rest < length c.rest
  pub fits : counts t p d.place ≤ length c.rest
  pub named : (quoted : Bool) (symbol : Symbol) → t ≡ name quoted symbol → name_length symbol + length d.rest ≤ length c.rest

pub tok-took : (sexp : Bool) (c d : Cursor) (t : Token) (p : ℕ) → Tok sexp c t p d → Took c t p d
tok-took sexp c d t p tok =
    let s = tok-stands sexp c d t p tok in
    let b : Cursor = s.prefix in
    let before = (blanks-within c b s.blank).0 in
    let is : TokenIs (first_at sexp b.rest) b (t, d) = IfOk-at_ok (TokenIs (first_at sexp b.rest) b) s.token (token-is None (first_at sexp b.rest) b) in
    let less = is.past (some-left sexp b d t b.rest refl s.token) in
    let fits = is.fits (first-long sexp b.rest) in
    record {
      less = omega (arith, before, less);
      fits = omega (arith, before, fits, ap (λ (p : ℕ). counts t p d.place) s.place);
      named = λ quoted symbol e.
          let taken : name_length symbol + length d.rest ≤ length b.rest = subst (λ t. NameTaken b t d) e is.named in omega (arith, before, taken);
    }

-- ---- annotations and fields

cost-is : (symbol : Symbol) (p : ℕ) → cost (at symbol p) ≡ 16 + name_length symbol
cost-is (value.Text bytes) p = refl
cost-is (value.Id id) p = refl

module _ (limits : Rules) where
  -- whatever the bytes that are left can count
  abbrev Wide : Cursor → Type 0
  Wide c = 16 * length c.rest ≤ limits.scalar

  -- so many open containers and all that can be opened yet
  abbrev Room : ℕ → Cursor → Type 0
  Room depth c = (depth + length c.rest ≤ limits.depth) × Wide c

  names-go : {sexp : Bool} {c d : Cursor} {annotations : List SymbolAt} (ns : Annotations sexp c annotations d)
      → (sum_by cost annotations + 16 * length d.rest ≤ 16 * length c.rest) × (Wide c → NamesWithin limits ns)
  names-go Annotations.nothing = (omega arith, λ wide. tt)
  names-go (Annotations.then {annotations = annotations} {p = p} {quoted = quoted} {symbol = symbol} before tok after) =
      let prefix = names-go before in
      let one = tok-took _ _ _ _ _ tok in
      let two = tok-took _ _ _ _ _ after in (
        omega (arith, prefix.0, one.less, one.named quoted symbol refl, two.less, cost-is symbol p, sum_by-append cost annotations (at symbol p ∷ [])),
        λ wide. (prefix.1 wide, omega (arith, wide, prefix.0, one.fits)),
      )

  annotations-go : {sexp : Bool} {c d : Cursor} {annotations : List SymbolAt} (ns : Annotations sexp c annotations d)
      → (length d.rest ≤ length c.rest) × (Wide c → AnnotationsWithin limits ns)
  annotations-go ns = let all = names-go ns in (omega (arith, all.0), λ wide. (omega (arith, wide, all.0), all.1 wide))

  field-goes : {k : Option Kind} {c d : Cursor} {field : Option SymbolAt} (own : Field k c field d) → (length d.rest ≤ length c.rest) × (Wide c → FieldWithin limits own)
  field-goes Field.at_top = (omega arith, λ wide. tt)
  field-goes Field.in_list = (omega arith, λ wide. tt)
  field-goes Field.in_a_sexp = (omega arith, λ wide. tt)
  field-goes (Field.named tok after) =
      let one = tok-took _ _ _ _ _ tok in let two = tok-took _ _ _ _ _ after in (omega (arith, one.less, two.less), λ wide. omega (arith, wide, one.fits))
  field-goes (Field.in_quotes tok after) =
      let one = tok-took _ _ _ _ _ tok in let two = tok-took _ _ _ _ _ after in (omega (arith, one.less, two.less), λ wide. omega (arith, wide, one.fits))

  -- ---- values, members and paths

  scalar-goes : {sexp : Bool} {c d e : Cursor} {annotations : List SymbolAt} {t : Token} {p : ℕ} (ns : Annotations sexp c annotations d) → Tok sexp d t p e
      → (length e.rest < length c.rest) × (Wide c → AnnotationsWithin limits ns × TokenWithin limits t p e)
  scalar-goes ns tok =
      let one = annotations-go ns in let two = tok-took _ _ _ _ _ tok in (omega (arith, one.0, two.less), λ wide. (one.1 wide, omega (arith, wide, one.0, two.fits)))

  mutual
    txt-goes : {k : Option Kind} {c d : Cursor} {annotations : List SymbolAt} {p : ℕ} {v : Value SymbolAt ℕ} (depth : ℕ) (txt : Txt k c annotations p v d)
        → (length d.rest < length c.rest) × (Room depth c → ValueIsPermitted limits v → TxtWithin limits depth txt)
    txt-goes depth (Txt.of_plain ns tok) = let all = scalar-goes ns tok in (all.0, λ room permitted. all.1 room.1)
    txt-goes depth (Txt.of_float ns tok) = let all = scalar-goes ns tok in (all.0, λ room permitted. let fits = all.1 room.1 in (fits.0, (fits.1, permitted)))
    txt-goes depth (Txt.of_text ns tok) = let all = scalar-goes ns tok in (all.0, λ room permitted. all.1 room.1)
    txt-goes depth (Txt.of_operator ns tok) = let all = scalar-goes ns tok in (all.0, λ room permitted. all.1 room.1)
    txt-goes depth (Txt.of_symbol ns tok alone no_version) = let all = scalar-goes ns tok in (all.0, λ room permitted. all.1 room.1)
    txt-goes depth (Txt.of_members ns tok inside last) =
        let one = annotations-go ns in
        let two = tok-took _ _ _ _ _ tok in
        let three = inside-goes (suc depth) inside in
        let four = tok-took _ _ _ _ _ last in (
          omega (arith, one.0, two.less, three.0, four.less),
          λ room permitted. (one.1 room.1, (omega (arith, room.0, one.0, two.less), three.1 (omega (arith, room.0, one.0, two.less), omega (arith, room.1, one.0, two.less)) permitted)),
        )

    inside-goes : {k : Kind} {c d : Cursor} {members : Members SymbolAt ℕ} {full : Bool} (depth : ℕ) (inside : Inside k c members full d)
        → (length d.rest ≤ length c.rest) × (Room depth c → MembersArePermitted limits members → InsideWithin limits depth inside)
    inside-goes depth Inside.nothing = (omega arith, λ room permitted. tt)
    inside-goes depth (Inside.with_value before own txt) =
        let one = inside-goes depth before in
        let two = field-goes own in
        let three = txt-goes depth txt in (
          omega (arith, one.0, two.0, three.0),
          λ room permitted. (
            one.1 room permitted.0,
            (two.1 (omega (arith, room.1, one.0)), three.1 (omega (arith, room.0, one.0, two.0), omega (arith, room.1, one.0, two.0)) permitted.1),
          ),
        )
    inside-goes depth (Inside.with_comma before comma) =
        let one = inside-goes depth before in let two = tok-took _ _ _ _ _ comma in (omega (arith, one.0, two.less), λ room permitted. one.1 room permitted)

  tops-go : {c d : Cursor} {tops : List (Top SymbolAt ℕ)} (t : Tops c tops d)
      → (length d.rest ≤ length c.rest) × (Room 0 c → TopsArePermitted limits tops → TopsWithin limits t)
  tops-go Tops.nothing = (omega arith, λ room permitted. tt)
  tops-go (Tops.marker {tops = tops} {p = p} before tok alone) =
      let one = tops-go before in
      let two = tok-took _ _ _ _ _ tok in
      (omega (arith, one.0, two.less), λ room permitted. (one.1 room (all-parts (TopIsPermitted limits) tops (value.version p ∷ []) permitted).0, omega (arith, room.1, one.0, two.fits)))
  tops-go (Tops.with_value {tops = tops} {annotations = annotations} {p = p} {v = v} before txt) =
      let one = tops-go before in
      let two = txt-goes 0 txt in (
        omega (arith, one.0, two.0),
        λ room permitted.
            let parts = all-parts (TopIsPermitted limits) tops (value.tree (first_place annotations p) annotations p v ∷ []) permitted in
            (one.1 room parts.0, two.1 (omega (arith, room.0, one.0), omega (arith, room.1, one.0)) parts.1.0),
      )

  -- each open container took a byte
  path-goes : {b c : Cursor} {path : Path SymbolAt ℕ} {kinds : List Kind} {full : Bool} (s : Spells b path kinds full c)
      → (length kinds + length c.rest ≤ length b.rest) × (Room 0 b → PathIsPermitted limits path → PathWithin limits s)
  path-goes (Spells.top t) = let all = tops-go t in (omega (arith, all.0), λ room permitted. all.1 room permitted)
  path-goes (Spells.inside path field annotations p k members {kinds = kinds} s own ns tok inside) =
      let one = path-goes s in
      let two = field-goes own in
      let three = annotations-go ns in
      let four = tok-took _ _ _ _ _ tok in
      let five = inside-goes (suc (length kinds)) inside in (
        omega (arith, one.0, two.0, three.0, four.less, five.0),
        λ room permitted.
            let parts = open-permitted limits path (first_place annotations p) field annotations p k members permitted in (
              one.1 room parts.0,
              (
                two.1 (omega (arith, room.1, one.0)),
                (
                  three.1 (omega (arith, room.1, one.0, two.0)),
                  (
                    omega (arith, room.0, one.0, two.0, three.0, four.less),
                    five.1 (omega (arith, room.0, one.0, two.0, three.0, four.less), omega (arith, room.1, one.0, two.0, three.0, four.less)) parts.1,
                  ),
                ),
              ),
            ),
      )

  module _ (bytes : List ℕ) (allows : Allows limits bytes) where
    pub tops-allowed : {c : Cursor} {tops : List (Top SymbolAt ℕ)} (t : Tops (start_of bytes) tops c) → ArePermitted limits (top_items tops) → TopsWithin limits t
    tops-allowed {tops = tops} t permitted = (tops-go t).1 (omega (arith, allows.0), allows.1) (tops-permitted limits tops permitted)

    pub path-allowed : {c : Cursor} {path : Path SymbolAt ℕ} {kinds : List Kind} {full : Bool} (s : Spells (start_of bytes) path kinds full c) → ArePermitted limits (path_items path)
        → PathWithin limits s
    path-allowed {path = path} s permitted = (path-goes s).1 (omega (arith, allows.0), allows.1) (path-permitted limits path permitted)
