-- The token of a run, by what the run is read as.
use Rattle.std.proofs.Common.{◌≡◌, ◌≢◌, ◌⊎◌, inl, inr, ℕ, ◌==◌, true, false, not, List, filter, codes, Option, Some, None, Result, Ok, Err, refl, sym, ap, ◌∙◌}
use Rattle.std.specs.Float.Parse.{parse_float}
use Rattle.std.specs.Str.{bytes_eq}
use Rattle.std.proofs.lemmas.Bool.{cases_Bool, false≢true}
use Rattle.std.proofs.lemmas.Slice.Eq.{bytes_eq-Decides}
use Rattle.std.specs.Result.{IfOk}
use lib.Ieee.{Float, binary64}
use Rattle.ion_meter.specs.declared.fault.Reason.{Reason}
use Rattle.ion_meter.specs.declared.fault.Reason.TheVariants as reason
use Rattle.ion_meter.specs.declared.fault.Reason.TheVariants.{BadToken}
use Rattle.ion_value.specs.declared.int.Int.{Int}
use Rattle.ion_value.specs.declared.decimal.Decimal.{Decimal}
use Rattle.ion_value.specs.declared.timestamp.Timestamp.{Timestamp}
use Rattle.ion_value.specs.Int.{int_of_text}
use Rattle.ion_value.specs.Decimal.{parts_of, decimal_of_text}
use Rattle.ion_value.specs.Digits.{cut_at, without_minus}
use Rattle.ion_value.specs.FloatText.{is_float, finite, float_word, float_of_text}
use Rattle.ion_value.specs.Timestamp.{timestamp_of_text}
use Rattle.ion_value.specs.Scalar.{scalar_of_run}
use Rattle.ion_value.specs.Value.{SymbolAt, Scalar, int, decimal, timestamp}
use Rattle.ion_value.proofs.Faults.{Blames}
use Rattle.ion_value.proofs.TextDecimals.{one-shape}
use Rattle.ion_value.proofs.TextKinds.{timestamp-no_number}
use Rattle.ion_float.proofs.TextReading.{alike-shape, shape-alike, shape-read}
use Rattle.ion_text_in.specs.Token.{Token, plain, float, found_float, scalar_token, run_token}

-- ---- by what the scalar is

-- what holds of the token of a scalar, and of a float's, holds of the token
pub if-scalar : (Q : Token → Type 0) (run : List ℕ) (o : Result (Scalar SymbolAt) Reason) → IfOk o (λ v. Q (plain v)) → Q (float (found_float (float_of_text run)))
    → IfOk (scalar_token run o) Q
if-scalar Q run (Ok v) h k = h
if-scalar Q run (Err reason.Float) h k = k
if-scalar Q run (Err why) h k = tt

pub scalar_token-blames : (L : Reason → Type 0) (run : List ℕ) (o : Result (Scalar SymbolAt) Reason) → Blames L o → Blames L (scalar_token run o)
scalar_token-blames L run (Ok v) c = record { so = tt }
scalar_token-blames L run (Err reason.Float) c = record { so = tt }
scalar_token-blames L run (Err why) c = record { so = c.so }

pub number-token : (run : List ℕ) (v : Scalar SymbolAt) → scalar_of_run run ≡ Ok v → run_token run ≡ Ok (plain v)
number-token run v e = ap (scalar_token run) e

pub float-token : (run : List ℕ) (x : Option Float) → scalar_of_run {S = SymbolAt} run ≡ Err reason.Float → x ≡ found_float (float_of_text run) → run_token run ≡ Ok (float x)
float-token run x e same = ap (scalar_token run) e ∙ ap (λ (y : Option Float). Ok (float y)) (sym same)

other-token : (run : List ℕ) (why : Reason) → why ≢ reason.Float → scalar_token run (Err why) ≡ Err why
other-token run reason.Float other = absurd (other refl)
other-token run why other = refl

pub bad-token : (run : List ℕ) (why : Reason) → why ≢ reason.Float → scalar_of_run {S = SymbolAt} run ≡ Err why → run_token run ≡ Err why
bad-token run why other e = ap (scalar_token run) e ∙ other-token run why other

-- ---- by what the run is read as

pub int-token : (run : List ℕ) (i : Int) → int_of_text run ≡ Ok i → run_token run ≡ Ok (plain (int i))
unfolding scalar_of_run
int-token run i e = rw e refl

pub decimal-token : (run : List ℕ) (d : Decimal) → int_of_text run ≡ Err BadToken → decimal_of_text run ≡ Ok d → run_token run ≡ Ok (plain (decimal d))
unfolding scalar_of_run
decimal-token run d none e = rw (none, e) refl

timestamp-scalar : (run : List ℕ) (t : Timestamp) → int_of_text run ≡ Err BadToken → decimal_of_text run ≡ Err BadToken → timestamp_of_text run ≡ Ok t
    → scalar_of_run {S = SymbolAt} run ≡ Ok (timestamp t)
unfolding scalar_of_run
timestamp-scalar run t none nor e = rw (none, nor, e) refl

timestamp-bad : (run : List ℕ) (why : Reason) → int_of_text run ≡ Err BadToken → decimal_of_text run ≡ Err BadToken → timestamp_of_text run ≡ Err why
    → scalar_of_run {S = SymbolAt} run ≡ Err why
unfolding scalar_of_run
timestamp-bad run why none nor e = rw (none, nor, e) refl

-- a timestamp is no number
pub first-scalar : (run : List ℕ) (t : Timestamp) → timestamp_of_text run ≡ Ok t → scalar_of_run {S = SymbolAt} run ≡ Ok (timestamp t)
first-scalar run t e =
    let none = timestamp-no_number run (λ f. absurd (cc (e, f))) in
    timestamp-scalar run t none.0 none.1 e

pub first-bad : (run : List ℕ) (why : Reason) → why ≢ BadToken → timestamp_of_text run ≡ Err why → scalar_of_run {S = SymbolAt} run ≡ Err why
first-bad run why other e =
    let none = timestamp-no_number run (λ f. let same : why ≡ BadToken = cc (e, f) in other same) in
    timestamp-bad run why none.0 none.1 e

-- no timestamp is refused as a float
pub other-why : (why : Reason) → (why ≡ BadToken) ⊎ ((why ≡ reason.Range) ⊎ (why ≡ reason.BadTimestamp)) → why ≢ reason.Float
other-why why (inl is) e = cc (sym is, e)
other-why why (inr (inl is)) e = cc (sym is, e)
other-why why (inr (inr is)) e = cc (sym is, e)

-- ---- floats

other-fault : (run : List ℕ) → decimal_of_text run ≡ Err reason.Float → decimal_of_text run ≡ Err BadToken → ⊥
other-fault run e f = cc (sym e ∙ f)

scalar-float : (run : List ℕ) → decimal_of_text run ≡ Err reason.Float → scalar_of_run {S = SymbolAt} run ≡ Err reason.Float
unfolding scalar_of_run
scalar-float run e = elim (one-shape run) [
  | inl no_int ↦ rw (no_int, e) refl
  | inr no_decimal ↦ absurd (other-fault run e no_decimal)
]

-- a run with the shape of a float means the float that it spells
pub float-means : (x : Float) (run : List ℕ) → is_float (parts_of (without_minus run)) ≡ true → float_of_text run ≡ Ok x → run_token run ≡ Ok (float (Some x))
float-means x run shape read = float-token run (Some x) (scalar-float run (shape-alike run shape)) (sym (ap found_float read))

-- ---- runs with underscores

nan-shape : is_float (parts_of (without_minus (codes "nan"))) ≡ false
unfolding parts_of cut_at
nan-shape = refl

plus-shape : is_float (parts_of (without_minus (codes "+inf"))) ≡ false
unfolding parts_of cut_at
plus-shape = refl

minus-shape : is_float (parts_of (without_minus (codes "-inf"))) ≡ false
unfolding parts_of cut_at
minus-shape = refl

-- a run with the shape of a float is no word
pub no-word : (run : List ℕ) → is_float (parts_of (without_minus run)) ≡ true → float_word run ≡ None
no-word run h = rw (other (codes "nan") nan-shape, other (codes "+inf") plus-shape, other (codes "-inf") minus-shape) refl
  where
    other : (text : List ℕ) → is_float (parts_of (without_minus text)) ≡ false → bytes_eq run text ≡ false
    other text f = elim (cases_Bool (bytes_eq run text)) [
      | inl e ↦ absurd (false≢true (sym (ap (λ (r : List ℕ). is_float (parts_of (without_minus r))) ((bytes_eq-Decides run text).0 e) ∙ f) ∙ h))
      | inr e ↦ e
    ]

-- the float of its bytes but the underscores is the float of the run
pub closed-read : (run text : List ℕ) (result : Result Float Reason) → decimal_of_text run ≡ Err reason.Float → text ≡ filter (λ b. not (b == 95)) run
    → ((x : Float) → parse_float binary64 text ≡ Some x → result ≡ finite x) → result ≡ float_of_text run
closed-read run text result e closed parsed =
    let shape = alike-shape run e in shape-read run text result (sym (no-word run shape)) (sym shape) closed parsed
