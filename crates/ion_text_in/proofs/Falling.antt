-- Each step of a reading takes a byte; under narrower limits it is the same step, which no limit stops, or a limit that is
-- passed stops it.
use Rattle.std.proofs.Common.{◌≡◌, ℕ, suc, ◌<◌, ◌≤◌, Bool, true, false, not, List, [], ◌∷◌, ◌++◌, length, Option, Some, None, Result, Ok, Err, nat_le, nat_lt, sum_by, refl, subst, ap, ◌∙◌, arith}
use Rattle.std.proofs.lemmas.Bool.{ltb-true, leb-true, lt-ltb, le-leb}
use lib.Ieee.{Float}
use Rattle.ion_meter.specs.declared.fault.Reason.{Reason}
use Rattle.ion_meter.specs.declared.fault.Reason.TheVariants as reason
use Rattle.ion_meter.specs.declared.profile.Rules.{Rules}
use Rattle.ion_value.specs.declared.ion_type.Kind.{Kind}
use Rattle.ion_value.specs.Value as value
use Rattle.ion_value.specs.Value.{Symbol, SymbolAt}
use Rattle.ion_value.specs.Reading.{Step, Ends, Stops, Gives, GoesOn, Leaves, after_item, after_nothing, Shrinks}
use Rattle.ion_value.specs.ReadingLaws.{AreWithin}
use Rattle.ion_value.proofs.Faults.{Blames, is_limit, Free, free}
use Rattle.ion_meter.specs.Sources.{Cursor}
use Rattle.ion_value.specs.Parts.{Placed, part, refuse, ◌>>=◌, ◌>>◌}
use Rattle.ion_text_in.specs.Blanks.{blanks}
use Rattle.ion_text_in.specs.Grammar.{Tok}
use Rattle.ion_text_in.specs.Laws.{Passes}
use Rattle.ion_text_in.specs.Token.{First, a_colon, first_at, Token, plain, float, name, text, operator, begin, end, comma, colons, token_of, next_token}
use Rattle.ion_text_in.specs.Reading as reading
use Rattle.ion_text_in.specs.Positions.{at, Wants, a_value, a_field, a_separator, State, innermost, in_sexp}
use Rattle.ion_text_in.specs.Reading.{cost, may_come, after_colons, tells_version, step, step_of, take, part_at, size}
use Rattle.ion_text_in.proofs.Advancing.{tok-took}
use Rattle.ion_text_in.proofs.Shrinking.{Passed, Past, skip-within, blanks-pass, blanks-within, token-past}
use Rattle.ion_text_in.proofs.Steps.{tok-read, colons-after}
use Rattle.ion_text_in.proofs.TokenCuts.{Cut, same, limit, bind-Cut, Short, token_counts, token-cut}
use Rattle.ion_value.proofs.WentWell.{part-known}

-- ---- what a step leaves

-- less than so many bytes, or no limit stops it
abbrev pub LeavesLess : ℕ → Step State → Type 0
LeavesLess n Ends = Unit {0}
LeavesLess n (Stops why place) = Free why
LeavesLess n (Gives item after) = length after.cursor.rest < n
LeavesLess n (GoesOn after) = length after.cursor.rest < n

record Less (n : ℕ) (r : Placed (Step State)) : Type 0 where
  so : LeavesLess n (step_of r)

less-more : (n m : ℕ) (r : Placed (Step State)) → n ≤ m → Less n r → Less m r
less-more n m r le less = record { so = by (step_of r) less.so }
  where
    by : (o : Step State) → LeavesLess n o → LeavesLess m o
    by Ends less = tt
    by (Stops why place) less = less
    by (Gives item after) less = omega (arith, le, less)
    by (GoesOn after) less = omega (arith, le, less)

fault : (n place : ℕ) (why : Reason) → is_limit why ≡ false → Less n (Err (why, place))
fault n place why e = record { so = free why e }

refused-less : (n place : ℕ) (b : Bool) (why : Reason) (o : Step State) → is_limit why ≡ false → LeavesLess n o → Less n (part place (refuse b why >> Ok o))
refused-less n place true why o e less = fault n place why e
refused-less n place false why o e less = record { so = less }

-- ---- what no limit has a part in

closed-less : (kinds : List Kind) (top : ℕ) (k : Kind) (p : ℕ) (c : Cursor) → Less (suc (length c.rest)) (part p (reading.end_step kinds top k p c))
closed-less [] top k p c = fault _ p reason.BadToken refl
closed-less (j ∷ kinds) top k p c = refused-less (suc (length c.rest)) p (not (reading.is_same j k)) reason.BadToken _ refl (omega arith)

bare-less : (field : Option SymbolAt) (annotations : List SymbolAt) (kinds : List Kind) (top : ℕ) (k : Kind) (p : ℕ) (c : Cursor)
    → Less (suc (length c.rest)) (part p (reading.bare_end_step field annotations kinds top k p c))
bare-less None [] kinds top k p c = closed-less kinds top k p c
bare-less field annotations kinds top k p c = fault _ p reason.BadToken refl

told-less : (kinds : List Kind) (top : ℕ) (field : Option SymbolAt) (annotations : List SymbolAt) (a : SymbolAt) (p : ℕ) (c : Cursor) (told : Bool)
    → Less (suc (length c.rest)) (part p (reading.value_or_version kinds top field annotations a c told))
told-less kinds top field annotations a p c true = refused-less (suc (length c.rest)) p (not (reading.is_marker a.symbol)) reason.BadVersion _ refl (omega arith)
told-less kinds top field annotations a p c false = record { so = omega arith }

colon-less : (kinds : List Kind) (top : ℕ) (a : SymbolAt) (c : Cursor) (rest : List ℕ) → Less (suc (length c.rest)) (reading.colon_from kinds top a c rest)
colon-less kinds top a c [] = fault _ c.place reason.Truncated refl
colon-less kinds top a c (b ∷ rest) = by (first_at false (b ∷ rest))
  where
    by : (first : First) → Less (suc (length c.rest)) (reading.colon_of kinds top a c first)
    by a_colon = let le = skip-within 1 c in record { so = omega (arith, le) }
    by first = fault _ c.place reason.BadToken refl

named-less : (kinds : List Kind) (top : ℕ) (a : SymbolAt) (c : Cursor) → Less (suc (length c.rest)) (reading.field_step kinds top a c)
named-less kinds top a c = by (blanks c) (blanks-pass c)
  where
    by : (o : Placed Cursor) → Passed (length c.rest) o → Less (suc (length c.rest)) (o >>= (λ d. reading.colon_from kinds top a d d.rest))
    by (Ok d) passed = let le = passed.0 in less-more (suc (length d.rest)) (suc (length c.rest)) (reading.colon_from kinds top a d d.rest) (omega (arith, le)) (colon-less kinds top a d d.rest)
    by (Err fault) passed = record { so = passed }

ended-less : (n : ℕ) (kinds : List Kind) (wants : Wants) (p : ℕ) → Less n (reading.final_step kinds wants p)
ended-less n [] (a_value None []) p = record { so = tt }
ended-less n kinds wants p = fault n p reason.Truncated refl

-- ---- a step, or a limit's fault in its place

-- a limit is passed, or floats are read by the other rules alone
pub record PassesBy (limits wide : Rules) (s : State) (place : ℕ) (why : Reason) : Type 0 where
  pub passes : Passes limits s place why
  pub wider : why ≡ reason.Float → wide.floats ≡ true

-- the fault of a limit that is passed at its place
abbrev pub PassesAt : {A : Type 0} → Rules → Rules → State → Reason × ℕ → Placed A → Type 0
PassesAt limits wide s fault w = PassesBy limits wide s fault.1 fault.0

pub data StepCut (limits wide : Rules) (s : State) : Step State → Step State → Type 0 where
  same_step : (o : Step State) → LeavesLess (size s) o → StepCut limits wide s o o
  limit_step : (why : Reason) (place : ℕ) (o : Step State) → PassesBy limits wide s place why → StepCut limits wide s (Stops why place) o

-- the first is the second, which leaves less than so many bytes, or the fault of a limit
abbrev Steps : Rules → Rules → State → ℕ → Placed (Step State) → Placed (Step State) → Type 0
Steps limits wide s n r w = Cut (λ r. Less n r) (PassesAt limits wide s) r w

steps-more : (limits wide : Rules) (s : State) (n m : ℕ) (r w : Placed (Step State)) → n ≤ m → Steps limits wide s n r w → Steps limits wide s m r w
steps-more limits wide s n m _ _ le (same r less) = same r (less-more n m r le less)
steps-more limits wide s n m _ _ le (limit e w is) = limit e w is

-- a test that holds wherever the wider one does
refused-Cut : (limits wide : Rules) (s : State) (n p : ℕ) (b c : Bool) (why : Reason) (o : Step State) → (c ≡ true → b ≡ true) → (b ≡ true → PassesBy limits wide s p why) → LeavesLess n o
    → Steps limits wide s n (part p (refuse b why >> Ok o)) (part p (refuse c why >> Ok o))
refused-Cut limits wide s n p true c why o h passes less = limit (why, p) (part p (refuse c why >> Ok o)) (passes refl)
refused-Cut limits wide s n p false true why o h passes less = absurd (cc (h refl))
refused-Cut limits wide s n p false false why o h passes less = same (Ok o) (record { so = less })

module _ (limits wide : Rules) (within : AreWithin limits wide) where
  -- what passes the wider limit passes the narrower one
  scalar-passed : (n : ℕ) → nat_lt wide.scalar n ≡ true → nat_lt limits.scalar n ≡ true
  scalar-passed n h = let narrow = within.scalar in let more = ltb-true wide.scalar n h in lt-ltb limits.scalar n (omega arith)

  depth-reached : (n : ℕ) → nat_le wide.depth n ≡ true → nat_le limits.depth n ≡ true
  depth-reached n h = let narrow = within.depth in let more = leb-true wide.depth n h in le-leb limits.depth n (omega arith)

  module _ (s : State) where
    abbrev sexp : Bool
    sexp = in_sexp (innermost s.kinds)

    -- an annotation
    symbol-Cut : (field : Option SymbolAt) (annotations : List SymbolAt) (quoted : Bool) (symbol : Symbol) (p : ℕ) (d : Cursor) → s.wants ≡ a_value field annotations
        → Tok sexp s.cursor (name quoted symbol) p d → (o : Option Cursor) → after_colons sexp d ≡ o
        → Steps limits wide s (suc (length d.rest)) (part p (reading.symbol_step limits s.kinds s.top field annotations quoted (at symbol p) d o))
        (part p (reading.symbol_step wide s.kinds s.top field annotations quoted (at symbol p) d o))
    symbol-Cut field annotations quoted symbol p d are tok None found =
        same _ (told-less s.kinds s.top field annotations (at symbol p) p d (tells_version (innermost s.kinds) annotations quoted symbol))
    symbol-Cut field annotations quoted symbol p d are tok (Some e) found =
        let cost_is : ℕ = sum_by cost (annotations ++ at symbol p ∷ []) in
        let after = colons-after sexp d e found in
        let le = (tok-took sexp d e colons after.0 after.1).less in
        refused-Cut limits wide s (suc (length d.rest)) p (nat_lt limits.scalar cost_is) (nat_lt wide.scalar cost_is) reason.AnnotationLimit _ (scalar-passed cost_is)
        (λ more. record { passes = Passes.annotations field annotations quoted symbol after.0 d e are tok after.1 (ltb-true limits.scalar cost_is more); wider = λ e. absurd (cc e) }) (omega (arith, le))

    -- a container: its depth alone is held against a limit
    begun-Cut : (field : Option SymbolAt) (annotations : List SymbolAt) (k : Kind) (p : ℕ) (d : Cursor) → Tok sexp s.cursor (begin k) p d
        → Steps limits wide s (suc (length d.rest)) (part p (reading.begin_step limits s.kinds s.top field annotations k p d)) (part p (reading.begin_step wide s.kinds s.top field annotations k p d))
    begun-Cut field annotations k p d tok =
        refused-Cut limits wide s (suc (length d.rest)) p (nat_le limits.depth (length s.kinds)) (nat_le wide.depth (length s.kinds)) reason.DepthLimit _ (depth-reached (length s.kinds))
        (λ full. record { passes = Passes.container k d tok (leb-true limits.depth (length s.kinds) full); wider = λ e. absurd (cc e) }) (omega arith)

    -- a float: the profile alone is asked whether it is read
    float-Cut : (field : Option SymbolAt) (annotations : List SymbolAt) (p : ℕ) (number : Option Float) (d : Cursor) → s.wants ≡ a_value field annotations
        → Tok sexp s.cursor (float number) p d → Steps limits wide s (suc (length d.rest)) (part p (reading.float_step limits s.kinds s.top field annotations p number d)) (part p (reading.float_step wide s.kinds s.top field annotations p number d))
    float-Cut field annotations p number d are tok = by limits.floats wide.floats refl refl within.floats number tok
      where
        by : (b w : Bool) → limits.floats ≡ b → wide.floats ≡ w → (b ≡ true → w ≡ true) → (number : Option Float) → Tok sexp s.cursor (float number) p d
            → Steps limits wide s (suc (length d.rest))
            (part p (refuse (not b) reason.Float >> (reading.in_range number >>= (λ x. Ok (reading.scalar_step s.kinds s.top field annotations p (value.float x) d)))))
            (part p (refuse (not w) reason.Float >> (reading.in_range number >>= (λ x. Ok (reading.scalar_step s.kinds s.top field annotations p (value.float x) d)))))
        by true false is on more number tok = absurd (cc (more refl))
        by true true is on more None tok = same _ (fault _ p reason.Range refl)
        by true true is on more (Some x) tok = same _ (record { so = omega arith })
        by false false is on more number tok = same _ (fault _ p reason.Float refl)
        by false true is on more number tok = limit (reason.Float, p) _ (record { passes = Passes.float field annotations number d are tok is; wider = λ _. on })

    take-Cut : (wants : Wants) (p : ℕ) (t : Token) (d : Cursor) → s.wants ≡ wants → Tok sexp s.cursor t p d
        → Steps limits wide s (suc (length d.rest)) (take limits s.kinds s.top wants p t d) (take wide s.kinds s.top wants p t d)
    unfolding take
    take-Cut a_separator p (end k) d are tok = same _ (closed-less s.kinds s.top k p d)
    take-Cut a_separator p comma d are tok = same _ (record { so = omega arith })
    take-Cut a_field p (end k) d are tok = same _ (closed-less s.kinds s.top k p d)
    take-Cut a_field p (name quoted symbol) d are tok = same _ (named-less s.kinds s.top (at symbol p) d)
    take-Cut a_field p (text t) d are tok = same _ (named-less s.kinds s.top (at (value.Text t) p) d)
    take-Cut (a_value field annotations) p (end k) d are tok = same _ (bare-less field annotations s.kinds s.top k p d)
    take-Cut (a_value field annotations) p (plain v) d are tok = same _ (record { so = omega arith })
    take-Cut (a_value field annotations) p (float number) d are tok = float-Cut field annotations p number d are tok
    take-Cut (a_value field annotations) p (text t) d are tok = same _ (record { so = omega arith })
    take-Cut (a_value field annotations) p (operator t) d are tok = same _ (record { so = omega arith })
    take-Cut (a_value field annotations) p (name quoted symbol) d are tok = symbol-Cut field annotations quoted symbol p d are tok (after_colons (in_sexp (innermost s.kinds)) d) refl
    take-Cut (a_value field annotations) p (begin k) d are tok = begun-Cut field annotations k p d tok
    take-Cut wants p t d are tok = same _ (fault _ p reason.BadToken refl)

    abbrev FreeAt : Reason × ℕ → Type 0
    FreeAt fault = Free fault.0

    abbrev TokenShort : Cursor → Result (Token × Cursor) Reason → Result (Token × Cursor) Reason → Type 0
    TokenShort c r w = Short (Some limits.scalar) (Some wide.scalar) scalar-passed (token_counts c.place) r w

    -- the token itself
    token-Cut : (c : Cursor) (r w : Result (Token × Cursor) Reason) → blanks s.cursor ≡ Ok c → token_of (Some limits.scalar) (first_at sexp c.rest) c ≡ r
        → TokenShort c r w → Cut (λ r. Blames FreeAt r) (PassesAt limits wide s) (part c.place r) (part c.place w)
    unfolding next_token
    token-Cut c _ _ blank is (same (Ok t) kept) = same (Ok t) (record { so = tt })
    token-Cut c _ _ blank is (same (Err why) free) = same (Err (why, c.place)) (record { so = free })
    token-Cut c _ _ blank is (limit e w long) =
        limit (e, c.place) (part c.place w) (rw long.0 (record { passes = Passes.token (rw (blank, is, long.0) refl); wider = λ e. absurd (cc e) }))

    coming-Cut : (c : Cursor) (first : First) (may : Bool) → blanks s.cursor ≡ Ok c → 0 < length c.rest → first_at sexp c.rest ≡ first
        → Steps limits wide s (size s) (reading.next_part limits s c first may) (reading.next_part wide s c first may)
    coming-Cut c first false blank some is = same _ (fault _ c.place reason.BadToken refl)
    coming-Cut c first true blank some is =
        bind-Cut (λ r. Blames FreeAt r) (λ r. Less (size s) r) (PassesAt limits wide s) (PassesAt limits wide s) (part c.place (token_of (Some limits.scalar) first c)) (part c.place (token_of (Some wide.scalar) first c)) _ _
        (λ e free. record { so = free.so }) (λ e w passes. passes)
        (token-Cut c _ _ blank (ap (λ first. token_of (Some limits.scalar) first c) is) (token-cut (Some limits.scalar) (Some wide.scalar) scalar-passed first c))
        (λ t known _.
        let token : token_of (Some limits.scalar) first c ≡ Ok t = part-known c.place _ t known in
        let past : length t.1.rest < length c.rest = subst (λ o. Past c o) token (token-past (Some limits.scalar) first c some) in
        let before = blanks-within s.cursor c blank in
        steps-more limits wide s (suc (length t.1.rest)) (size s) _ _ (omega (arith, past, before.0))
        (take-Cut s.wants c.place t.0 t.1 refl
        (tok-read (Some limits.scalar) sexp s.cursor c t.1 t.0 blank (ap (λ first. token_of (Some limits.scalar) first c) is ∙ token))))

    after-Cut : (c : Cursor) (rest : List ℕ) → blanks s.cursor ≡ Ok c → c.rest ≡ rest → Steps limits wide s (size s) (reading.part_after limits s c rest) (reading.part_after wide s c rest)
    after-Cut c [] blank is = same _ (ended-less (size s) s.kinds s.wants c.place)
    after-Cut c (b ∷ rest) blank is = coming-Cut c (first_at sexp (b ∷ rest)) (may_come s.wants (first_at sexp (b ∷ rest))) blank (omega (arith, ap length is)) (ap (first_at sexp) is)

    pub step-Cut : StepCut limits wide s (step limits s) (step wide s)
    unfolding step part_at
    step-Cut = by (part_at limits s) (part_at wide s)
        (bind-Cut (λ r. Blames FreeAt r) (λ r. Less (size s) r) (PassesAt limits wide s) (PassesAt limits wide s) (blanks s.cursor) (blanks s.cursor) _ _ (λ e free. record { so = free.so }) (λ e w passes. passes)
        (same _ (free-blanks (blanks s.cursor) (blanks-pass s.cursor))) (λ c blank _. after-Cut c c.rest blank refl))
      where
        free-blanks : (o : Placed Cursor) → Passed (size s) o → Blames FreeAt o
        free-blanks (Ok c) passed = record { so = tt }
        free-blanks (Err fault) passed = record { so = passed }

        by : (r w : Placed (Step State)) → Steps limits wide s (size s) r w → StepCut limits wide s (step_of r) (step_of w)
        by _ _ (same r less) = same_step (step_of r) less.so
        by _ _ (limit e w is) = limit_step e.0 e.1 (step_of w) is

-- ---- each step takes a byte

leaves-less : (n : ℕ) (o : Step State) (after : State) → LeavesLess n o → Leaves o after → size after < n
leaves-less n _ _ less (after_item item after) = less
leaves-less n _ _ less (after_nothing after) = less

cut-falls : (limits wide : Rules) (s after : State) (o w : Step State) → StepCut limits wide s o w → Leaves o after → size after < size s
cut-falls limits wide s after _ _ (same_step o less) leaves = leaves-less (size s) o after less leaves
cut-falls limits wide s after _ _ (limit_step why place w passes) leaves = elim leaves [ ]

pub each_step_falls : (limits : Rules) → Shrinks (step limits) size
each_step_falls limits s after leaves =
    cut-falls limits limits s after (step limits s) (step limits s) (step-Cut limits limits (record { depth = omega arith; scalar = omega arith; floats = λ on. on }) s) leaves
