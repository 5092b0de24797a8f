-- What the bytes of a window show of the next token, as reading has it.
use Rattle.std.proofs.Common.{◌≡◌, ℕ, zero, suc, ◌+◌, ◌-◌, ◌<◌, ◌≤◌, Bool, true, false, not, nat_le, ◌==◌, List, [], ◌∷◌, ◌++◌, length, take, drop, get_or, Option, Some, None, IfSome, Ok, refl, sym, ap, subst, ◌∙◌, arith, append_assoc}
use Rattle.std.proofs.lemmas.List.{take-append-drop, drop-drop, length-drop, length-take-le}
use lib.Ieee.{Float}
use Rattle.ion_meter.specs.Sources.{Cursor, skip}
use Rattle.ion_meter.specs.declared.profile.Rules.{Rules}
use Rattle.ion_meter.specs.declared.fault.Reason.TheVariants as reason
use Rattle.ion_meter.specs.declared.fault.Reason.TheVariants.{BadToken, DepthLimit}
use Rattle.ion_value.specs.declared.ion_type.Kind.{Kind}
use Rattle.ion_value.specs.Digits.{all_are, first_is}
use Rattle.ion_value.specs.Parts.{part, refuse, ◌>>◌}
use Rattle.ion_value.specs.Reading.{Gives, More}
use Rattle.ion_value.specs.Value as value
use Rattle.ion_value.specs.Value.{SymbolAt, Scalar, Head}
use Rattle.ion_text_in.specs.Blanks.{blanks, is_white}
use Rattle.ion_text_in.specs.declared.feed.spot.Bounds.{Bounds}
use Rattle.ion_text_in.specs.declared.feed.spot.Found.{Found}
use Rattle.ion_text_in.specs.declared.feed.spot.Next.{Next}
use Rattle.ion_text_in.specs.declared.feed.spot.Spot.{Spot}
use Rattle.ion_text_in.specs.declared.feed.spot.Start.{Start}
use Rattle.ion_text_in.specs.declared.expected.Expected.{Expected}
use Rattle.ion_text_in.specs.declared.expected.Expected.TheVariants as codes
use Rattle.ion_text_in.specs.declared.number.Number.{Number}
use Rattle.ion_text_in.specs.declared.number.Numeral.TheVariants as numerals
use Rattle.ion_text_in.specs.declared.number.Number.TheVariants as numbers
use Rattle.ion_text_in.specs.declared.quick.Quick.{Quick}
use Rattle.ion_text_in.specs.declared.scanned.Scanned.TheVariants.{Whole}
use Rattle.ion_text_in.specs.Expecting.{wanted, MayExpect}
use Rattle.ion_text_in.specs.Quick.{as_quick}
use Rattle.ion_text_in.specs.Scanners.{Shows}
use Rattle.ion_text_in.specs.Views.{as_number, number_token, numeral_token}
use Rattle.ion_value.specs.Float.{IsFloat, value_of}
use Rattle.ion_value.specs.declared.float.Float64.{Float64}
use Rattle.ion_value.specs.Items.{raw_head}
use Rattle.ion_value.specs.PlainItems.{IsPlainScalar, IsTextOf}
use Rattle.ion_value.specs.Standing.{InRange}
use Rattle.ion_text_in.specs.Feeding.{expected_of, item_in, place_in, state, Begins, BeginsAs, IsAfter, IsFound, IsHead, IsHeadAs, IsNext, IsStart, Onward, PassesBlanks}
use Rattle.ion_text_in.specs.Meaning.{at}
use Rattle.ion_text_in.specs.Positions.{Wants, a_value, a_field, a_separator, innermost, in_sexp}
use Rattle.ion_text_in.specs.Reading.{take as taken, may_come, at_member, after_member, is_same, item_step, scalar_step, item_of, member_of, top_of}
use Rattle.ion_text_in.specs.Scanning.{moved_to}
use Rattle.ion_text_in.specs.Steps.{comes, later}
use Rattle.ion_text_in.specs.Token as tokens
use Rattle.ion_text_in.specs.Token.{First, Token, first_at, token_of}
use Rattle.ion_text_in.proofs.BlankTurns.{no-slash}
use Rattle.ion_text_in.proofs.BlankRuns.{white-over}
use Rattle.ion_text_in.proofs.ReaderSteps.{blanks-going, later-moved, part-token, step-part}
use Rattle.ion_text_in.proofs.ShownFurther.{shown-some}

-- ---- what stands after some bytes

pub none-after : (bytes : List ℕ) → IsAfter bytes bytes
none-after bytes = record { count = 0; within = omega arith; same = refl }

pub some-after : (bytes : List ℕ) (n : ℕ) → n ≤ length bytes → IsAfter bytes (drop n bytes)
some-after bytes n within = record { count = n; within = within; same = refl }

pub after-then : (a b c : List ℕ) → IsAfter a b → IsAfter b c → IsAfter a c
after-then a b c f g =
    let long = length-drop f.count a in
    let same = ap (λ (l : List ℕ). length l) f.same in
    let within = f.within in
    let then_within = g.within in
    record {
      count = f.count + g.count;
      within = omega (arith, long, same, within, then_within);
      same = g.same ∙ (ap (λ (l : List ℕ). drop g.count l) f.same ∙ drop-drop g.count f.count a);
    }

-- ---- blanks

bare-first : (p b : ℕ) (bytes : List ℕ) → is_white b ≡ false → (b == 47) ≡ false → blanks (at p (b ∷ bytes)) ≡ Ok (at p (b ∷ bytes))
bare-first p b bytes white slash = no-slash p b bytes white slash

-- bytes that are no white space and no slash
bare-by : (p : ℕ) (bytes more : List ℕ) → 0 < length bytes → first_is is_white bytes ≡ false → first_is (λ b. b == 47) bytes ≡ false
    → blanks (at p (bytes ++ more)) ≡ Ok (at p (bytes ++ more))
bare-by p [] more some white slash = absurd (omega (arith, some))
bare-by p (b ∷ bytes) more some white slash = bare-first p b (bytes ++ more) white slash

pub passes-white : (bytes : List ℕ) (n : ℕ) → n < length bytes → all_are is_white (take n bytes) ≡ true → first_is is_white (drop n bytes) ≡ false → first_is (λ b. b == 47) (drop n bytes) ≡ false
    → PassesBlanks bytes (drop n bytes)
passes-white bytes n there white ends slash =
    let rest = drop n bytes in
    let long : length rest ≡ length bytes - n = length-drop n bytes in
    let taken_long : length (take n bytes) ≡ n = length-take-le n bytes (omega (arith, there)) in
    record {
      part = some-after bytes n (omega (arith, there));
      fewer = omega (arith, long);
      blank = λ p q more e.
          let q_is : p + length (take n bytes) ≡ q = omega (arith, e, long, there, taken_long) in
          ap (λ (l : List ℕ). blanks (at p (l ++ more))) (sym (take-append-drop n bytes))
          ∙ (ap (λ (l : List ℕ). blanks (at p l)) (append_assoc (take n bytes) rest more)
          ∙ (white-over p (take n bytes) (rest ++ more) white
          ∙ (ap (λ (k : ℕ). blanks (at k (rest ++ more))) q_is
          ∙ bare-by q rest more (omega (arith, long, there)) ends slash)));
      bare = λ p more. bare-by p rest more (omega (arith, long, there)) ends slash;
    }

not-same : (x b : ℕ) → (x ≡ b → ⊥) → (x == b) ≡ false
not-same x b other = grind (arith, other)

-- another byte stands there
pub other-there : (bytes : List ℕ) (n b : ℕ) → n < length bytes → (get_or bytes n 0 ≡ b → ⊥) → first_is (λ x. x == b) (drop n bytes) ≡ false
other-there [] n b there other = absurd (omega (arith, there))
other-there (x ∷ bytes) zero b there other = not-same x b other
other-there (x ∷ bytes) (suc n) b there other = other-there bytes n b (omega (arith, there)) other

-- ---- a token

-- blanks are passed over
later-blanks : (limits : Rules) (kinds : List Kind) (top : ℕ) (wants : Wants) (c d : Cursor) → blanks c ≡ Ok d
    → later limits (record { kinds = kinds; top = top; wants = wants; cursor = c }) ≡ later limits (record { kinds = kinds; top = top; wants = wants; cursor = d })
later-blanks limits kinds top wants c d e = later-moved limits (record { kinds = kinds; top = top; wants = wants; cursor = c }) c d None (blanks-going c d e)

pub onward-blanks : (limits : Rules) (kinds : List Kind) (top place : ℕ) (wants : Wants) (bytes rest : List ℕ) → PassesBlanks bytes rest → Onward limits kinds top place wants bytes wants rest
onward-blanks limits kinds top place wants bytes rest passes = record {
  part = passes.part;
  fewer = passes.fewer;
  same = λ q more e. later-blanks limits kinds top wants (at place (bytes ++ more)) (at q (rest ++ more)) (passes.blank place q more e);
}

some-longer : (bytes more : List ℕ) → 0 < length bytes → 0 < length (bytes ++ more)
some-longer [] more some = absurd (omega (arith, some))
some-longer (b ∷ bytes) more some = omega arith

-- a token that begins here and is taken
pub later-token : (limits : Rules) (kinds : List Kind) (top place q : ℕ) (wants : Wants) (bytes rest more : List ℕ) (first : First) (token : Token)
    → BeginsAs first bytes → may_come wants first ≡ true
    → token_of (Some limits.scalar) first (at place (bytes ++ more)) ≡ Ok (token, at q (rest ++ more))
    → later limits (state kinds top wants place (bytes ++ more)) ≡ comes limits (taken limits kinds top wants place token (at q (rest ++ more)))
later-token limits kinds top place q wants bytes rest more first token begins may is =
    let s = state kinds top wants place (bytes ++ more) in
    let c = at place (bytes ++ more) in
    step-part limits s c first (begins.bare place more) (some-longer bytes more begins.some) (begins.first (in_sexp (innermost kinds)) more)
    ∙ part-token limits (moved_to c s) c (at q (rest ++ more)) first token may is

-- a token stands at the front of some bytes, which are at a place, and these after it, whatever follows
pub record IsToken (limit : ℕ) (first : First) (token : Token) (place : ℕ) (bytes rest : List ℕ) : Type 0 where
  pub part : IsAfter bytes rest
  pub fewer : length rest < length bytes
  pub begins : BeginsAs first bytes
  pub shown : (q : ℕ) (more : List ℕ) → place + length bytes ≡ q + length rest → token_of (Some limit) first (at place (bytes ++ more)) ≡ Ok (token, at q (rest ++ more))

-- one of so many bytes
pub token-front : {limit place n : ℕ} {first : First} {token : Token} {bytes rest : List ℕ} → rest ≡ drop n bytes → 0 < n → n ≤ length bytes
    → ((place : ℕ) (more : List ℕ) → token_of (Some limit) first (at place (bytes ++ more)) ≡ Ok (token, at (place + n) (drop n bytes ++ more))) → BeginsAs first bytes → IsToken limit first token place bytes rest
token-front {limit} {place} {n} {first} {token} {bytes} {rest} after counts within shown begins =
    let long = length-drop n bytes in
    subst (λ (l : List ℕ). IsToken limit first token place bytes l) (sym after) (record {
      part = some-after bytes n within;
      fewer = omega (arith, long, counts, within);
      begins = begins;
      shown = λ q more e.
          let q_is : place + n ≡ q = omega (arith, e, long, within) in
          shown place more ∙ ap (λ (k : ℕ). Ok (token, at k (drop n bytes ++ more))) q_is;
    })

-- ---- punctuation

pub mark-after : (bytes more : List ℕ) (p q : ℕ) → 0 < length bytes → p + length bytes ≡ q + length (drop 1 bytes) → skip 1 (at p (bytes ++ more)) ≡ at q (drop 1 bytes ++ more)
mark-after [] more p q some e = absurd (omega (arith, some))
mark-after (b ∷ bytes) more p q some e = (let same : p + 1 ≡ q = omega (arith, e) in ap (λ (k : ℕ). at k (bytes ++ more)) same)

comma-token : (limit : Option ℕ) (c : Cursor) → token_of limit tokens.a_comma c ≡ Ok (tokens.comma, skip 1 c)
unfolding token_of
comma-token limit c = refl

begin-token : (limit : Option ℕ) (k : Kind) (c : Cursor) → token_of limit (tokens.a_begin k) c ≡ Ok (tokens.begin k, skip 1 c)
unfolding token_of
begin-token limit k c = refl

end-token : (limit : Option ℕ) (k : Kind) (c : Cursor) → token_of limit (tokens.an_end k) c ≡ Ok (tokens.end k, skip 1 c)
unfolding token_of
end-token limit k c = refl

comma-taken : (limits : Rules) (kinds : List Kind) (top place : ℕ) (c : Cursor) → comes limits (taken limits kinds top a_separator place tokens.comma c) ≡ later limits (record { kinds = kinds; top = top; wants = at_member (innermost kinds); cursor = c })
unfolding taken
comma-taken limits kinds top place c = refl

pub may-comma : (w : Wants) → may_come w tokens.a_comma ≡ true
unfolding may_come
may-comma (a_value field annotations) = refl
may-comma a_field = refl
may-comma a_separator = refl

pub may-end : (kind : Kind) (w : Wants) → may_come w (tokens.an_end kind) ≡ true
unfolding may_come
may-end kind (a_value field annotations) = refl
may-end kind a_field = refl
may-end kind a_separator = refl

onward-comma : (limits : Rules) (kinds : List Kind) (top place : ℕ) (bytes : List ℕ) → BeginsAs tokens.a_comma bytes → Onward limits kinds top place a_separator bytes (at_member (innermost kinds)) (drop 1 bytes)
onward-comma limits kinds top place bytes begins =
    let some = begins.some in
    let long = length-drop 1 bytes in
    record {
      part = some-after bytes 1 (omega (arith, some));
      fewer = omega (arith, long);
      same = λ q more e.
          later-token limits kinds top place q a_separator bytes (drop 1 bytes) more tokens.a_comma tokens.comma begins (may-comma a_separator)
          (comma-token (Some limits.scalar) (at place (bytes ++ more)) ∙ ap (λ (c : Cursor). Ok (tokens.comma, c)) (mark-after bytes more place q some e))
          ∙ comma-taken limits kinds top place (at q (drop 1 bytes ++ more));
    }

-- one after the other
pub onward-then : (limits : Rules) (kinds : List Kind) (top p q : ℕ) (a b c : Wants) (x y z : List ℕ) → p + length x ≡ q + length y → Onward limits kinds top p a x b y → Onward limits kinds top q b y c z
    → Onward limits kinds top p a x c z
onward-then limits kinds top p q a b c x y z e f g = record {
  part = after-then x y z f.part g.part;
  fewer = omega (arith, f.fewer, g.fewer);
  same = λ r more h. f.same q more e ∙ g.same r more (omega (arith, e, h));
}

-- ---- heads

begin-taken : (limits : Rules) (kinds : List Kind) (top place : ℕ) (field : Option SymbolAt) (annotations : List SymbolAt) (k : Kind) (c : Cursor) → nat_le limits.depth (length kinds) ≡ false
    → comes limits (taken limits kinds top (a_value field annotations) place (tokens.begin k) c)
    ≡ More (item_in kinds top field annotations place (value.begin k)) (later limits (record { kinds = k ∷ kinds; top = top_of kinds top annotations place; wants = member_of k; cursor = c }))
unfolding taken
begin-taken limits kinds top place field annotations k c few =
    ap (λ (b : Bool). comes limits (part place (refuse b DepthLimit >> Ok (item_step kinds top field annotations place (value.begin k) (k ∷ kinds) (member_of k) c)))) few

pub plain-taken : (limits : Rules) (kinds : List Kind) (top place q : ℕ) (field : Option SymbolAt) (annotations : List SymbolAt) (body : Scalar SymbolAt) (rest : List ℕ)
    → comes limits (taken limits kinds top (a_value field annotations) place (tokens.plain body) (at q rest))
    ≡ More (item_in kinds top field annotations place (value.whole body)) (later limits (state kinds (top_of kinds top annotations place) (after_member (innermost kinds)) q rest))
unfolding taken
plain-taken limits kinds top place q field annotations body rest = refl

pub may-value : (field : Option SymbolAt) (annotations : List SymbolAt) (first : First) → may_come (a_value field annotations) first ≡ true
unfolding may_come
may-value field annotations first = refl

not_as_many : (n m : ℕ) → m < n → nat_le n m ≡ false
not_as_many n m h = grind (arith, h)

-- a scalar that is read as `raw`
pub head-token : {limits : Rules} {place : ℕ} {first : First} {token : Token} {bytes rest : List ℕ} (raw head : Scalar SymbolAt) → IsPlainScalar head → InRange head → IsToken limits.scalar first token place bytes rest
    → ((kinds : List Kind) (top q : ℕ) (field : Option SymbolAt) (annotations : List SymbolAt) (more : List ℕ)
    → comes limits (taken limits kinds top (a_value field annotations) place token (at q (rest ++ more)))
    ≡ More (item_in kinds top field annotations place (value.whole raw)) (later limits (state kinds (top_of kinds top annotations place) (after_member (innermost kinds)) q (rest ++ more))))
    → IsHeadAs (value.whole raw) limits place bytes (value.whole head) rest
head-token {limits} {place} {first} {token} {bytes} {rest} raw head known range is takes = record {
  part = is.part;
  fewer = is.fewer;
  known = known;
  range = range;
  member = λ kinds. refl;
  value = refl;
  gives = λ kinds top q field annotations more fits e.
      later-token limits kinds top place q (a_value field annotations) bytes rest more first token is.begins (may-value field annotations first) (is.shown q more e)
      ∙ takes kinds top q field annotations more;
}

-- ---- a container's end

-- what must come is no value after a name or annotations
pub data MayEnd : Wants → Type 0 where
  at_value : MayEnd (a_value None [])
  at_field : MayEnd a_field
  at_separator : MayEnd a_separator

end-taken : (limits : Rules) (j k : Kind) (kinds : List Kind) (top place : ℕ) (wants : Wants) (c : Cursor) → MayEnd wants → is_same j k ≡ true
    → comes limits (taken limits (j ∷ kinds) top wants place (tokens.end k) c)
    ≡ More (item_of top None [] place value.end) (later limits (record { kinds = kinds; top = top; wants = after_member (innermost kinds); cursor = c }))
unfolding taken
end-taken limits j k kinds top place _ c at_value same =
    ap (λ (b : Bool). comes limits (part place (refuse (not b) BadToken >> Ok (Gives (item_of top None [] place value.end) (record { kinds = kinds; top = top; wants = after_member (innermost kinds); cursor = c }))))) same
end-taken limits j k kinds top place _ c at_field same =
    ap (λ (b : Bool). comes limits (part place (refuse (not b) BadToken >> Ok (Gives (item_of top None [] place value.end) (record { kinds = kinds; top = top; wants = after_member (innermost kinds); cursor = c }))))) same
end-taken limits j k kinds top place _ c at_separator same =
    ap (λ (b : Bool). comes limits (part place (refuse (not b) BadToken >> Ok (Gives (item_of top None [] place value.end) (record { kinds = kinds; top = top; wants = after_member (innermost kinds); cursor = c }))))) same

pub end-gives : (limits : Rules) (j k : Kind) (kinds : List Kind) (top place q : ℕ) (wants : Wants) (bytes more : List ℕ) → MayEnd wants → is_same j k ≡ true → BeginsAs (tokens.an_end k) bytes → place + length bytes ≡ q + length (drop 1 bytes)
    → later limits (state (j ∷ kinds) top wants place (bytes ++ more))
    ≡ More (item_of top None [] place value.end) (later limits (state kinds top (after_member (innermost kinds)) q (drop 1 bytes ++ more)))
end-gives limits j k kinds top place q wants bytes more may same begins e =
    let some = begins.some in
    later-token limits (j ∷ kinds) top place q wants bytes (drop 1 bytes) more (tokens.an_end k) (tokens.end k) begins (may-end k wants)
    (end-token (Some limits.scalar) k (at place (bytes ++ more)) ∙ ap (λ (c : Cursor). Ok (tokens.end k, c)) (mark-after bytes more place q some e))
    ∙ end-taken limits j k kinds top place wants (at q (drop 1 bytes ++ more)) may same

-- ---- what is found

pub head-begin : (limits : Rules) (place : ℕ) (k : Kind) (bytes rest : List ℕ) → rest ≡ drop 1 bytes → BeginsAs (tokens.a_begin k) bytes → IsHead limits place bytes (value.begin k) rest
head-begin limits place k bytes rest after begins =
    let some = begins.some in
    let long = length-drop 1 bytes in
    subst (λ (l : List ℕ). IsHead limits place bytes (value.begin k) l) (sym after) (record {
      part = some-after bytes 1 (omega (arith, some));
      fewer = omega (arith, long, some);
      known = tt;
      range = tt;
      member = λ kinds. refl;
      value = refl;
      gives = λ kinds top q field annotations more few e.
          later-token limits kinds top place q (a_value field annotations) bytes (drop 1 bytes) more (tokens.a_begin k) (tokens.begin k) begins (may-value field annotations (tokens.a_begin k))
          (begin-token (Some limits.scalar) k (at place (bytes ++ more)) ∙ ap (λ (c : Cursor). Ok (tokens.begin k, c)) (mark-after bytes more place q some e))
          ∙ begin-taken limits kinds top place field annotations k (at q (drop 1 bytes ++ more)) (not_as_many limits.depth (length kinds) few);
    })

pub number-simple : (x : Number) → IsPlainScalar (as_number x)
number-simple (numbers.Int i) = tt
number-simple (numbers.Decimal d) = tt
number-simple (numbers.Timestamp t) = tt

pub head-number : {limits : Rules} {place n : ℕ} {bytes rest : List ℕ} (x : Number) → rest ≡ drop n bytes → 0 < n → Shows number_token bytes (Whole x n) (token_of (Some limits.scalar) tokens.a_run)
    → InRange (as_number x) → BeginsAs tokens.a_run bytes → IsHead limits place bytes (value.whole (as_number x)) rest
head-number {limits} {place} {n} {bytes} {rest} x after counts shows range begins =
    head-token (as_number x) (as_number x) (number-simple x) range (token-front after counts shows.0 shows.1 begins) (λ kinds top q field annotations more. plain-taken limits kinds top place q field annotations (as_number x) (rest ++ more))

float-taken : (limits : Rules) (kinds : List Kind) (top place q : ℕ) (field : Option SymbolAt) (annotations : List SymbolAt) (x : Float) (rest : List ℕ) → limits.floats ≡ true
    → comes limits (taken limits kinds top (a_value field annotations) place (tokens.float (Some x)) (at q rest))
    ≡ More (item_in kinds top field annotations place (value.whole (value.float x))) (later limits (state kinds (top_of kinds top annotations place) (after_member (innermost kinds)) q rest))
unfolding taken
float-taken limits kinds top place q field annotations x rest on =
    ap (λ (b : Bool). comes limits (part place (refuse (not b) reason.Float >> Ok (scalar_step kinds top field annotations place (value.float x) (at q rest))))) on

pub head-float : {limits : Rules} {place n : ℕ} {bytes rest : List ℕ} (x : Float64) → limits.floats ≡ true → rest ≡ drop n bytes
    → Shows numeral_token bytes (Whole (numerals.Float (Some x)) n) (token_of (Some limits.scalar) tokens.a_run) → IsFloat (value_of x) → BeginsAs tokens.a_run bytes
    → IsHead limits place bytes (value.whole (value.float (value_of x))) rest
head-float {limits} {place} {n} {bytes} {rest} x on after shows range begins =
    let body : Scalar SymbolAt = value.float (value_of x) in
    let counts = shown-some numeral_token bytes (numerals.Float (Some x)) n (Some limits.scalar) tokens.a_run shows begins.some in
    head-token body body tt range (token-front after (omega (arith, counts)) shows.0 shows.1 begins) (λ kinds top q field annotations more. float-taken limits kinds top place q field annotations (value_of x) (rest ++ more) on)

-- the code found a number that it read in one pass
pub found-number : {limits : Rules} {place : ℕ} {bytes : List ℕ} {found : Found} (x : Quick) → raw_head found.head ≡ value.whole (as_number (as_quick x)) → found.rest.now ≡ drop x.count bytes → 0 < x.count
    → IfSome found.spelled (λ text. IsTextOf text.now (value.whole (as_number (as_quick x)))) → Shows number_token bytes (Whole (as_quick x) x.count) (token_of (Some limits.scalar) tokens.a_run) → InRange (as_number (as_quick x))
    → BeginsAs tokens.a_run bytes → IsFound limits place bytes found
found-number {limits} {place} {bytes} {found} x is after counts spelled shows range begins = record {
  head = subst (λ (h : Head SymbolAt). IsHead limits place bytes h found.rest.now) (sym is) (head-number (as_quick x) after counts shows range begins);
  spelled = subst (λ (h : Head SymbolAt). IfSome found.spelled (λ text. IsTextOf text.now h)) (sym is) spelled;
}

-- a head whose text is not known
pub found-as : {limits : Rules} {place : ℕ} {bytes : List ℕ} {found made : Found} → found ≡ made → made.spelled ≡ None → IsHead limits place bytes (raw_head made.head) made.rest.now → IsFound limits place bytes found
found-as {limits} {place} {bytes} is none head = subst (λ (f : Found). IsFound limits place bytes f) (sym is) (record { head = head; spelled = rw none tt })

-- ---- where a value begins

pub onward-separator : (limits : Rules) (opened : List Kind) (top place : ℕ) (expected next : Expected) (bytes rest after : List ℕ) → expected ≡ codes.Separator → PassesBlanks bytes rest → 0 < length rest
    → ((in_sexp : Bool) (more : List ℕ) → first_at in_sexp (rest ++ more) ≡ tokens.a_comma) → after ≡ drop 1 rest → wanted next None [] ≡ at_member (innermost opened)
    → Onward limits opened top place (wanted expected None []) bytes (wanted next None []) after
onward-separator limits opened top place expected next bytes rest after separator passes some comma is wants =
    let fewer = passes.fewer in
    rw (separator, wants, is)
    (onward-then limits opened top place (place + (length bytes - length rest)) a_separator a_separator (at_member (innermost opened)) bytes rest (drop 1 rest) (omega (arith, fewer))
    (onward-blanks limits opened top place a_separator bytes rest passes) (onward-comma limits opened top (place + (length bytes - length rest)) rest (record { bare = passes.bare; some = some; first = comma })))

pub start-value : (bounds : Bounds) (spot : Spot) (next : Next) (start : Option Start) → expected_of spot ≡ codes.Value → IsNext spot.rest.now next
    → IfSome start (λ s. s.field ≡ None) → IfSome start (λ s. s.note ≡ None) → IfSome start (λ s. s.next ≡ next) → IfSome start (λ s. 0 < length next.rest.now) → IfSome start (IsStart bounds spot)
start-value bounds spot next None value is none bare same some = tt
start-value bounds spot next (Some s) value is none bare same some =
    let passes = is.passes some in
    let at_next : Begins next = record { some = some; tells = is.tells; bare = passes.bare } in
    record {
      known = rw none tt;
      free = rw bare tt;
      field = rw none tt;
      note = rw bare tt;
      second = tt;
      onward = λ kinds may. rw (none, bare, same, value) (onward-blanks bounds.limits kinds spot.top (place_in bounds spot.rest.now) (a_value None []) spot.rest.now next.rest.now passes);
      named = λ kinds may. rw none (subst (λ (e : Expected). MayExpect e kinds None []) value may);
      begins = subst (λ (n : Next). Begins n) (sym same) at_next;
    }
