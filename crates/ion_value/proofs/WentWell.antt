-- What went well went well in each of its steps, and what holds of each step's value holds of the last.
use Rattle.std.proofs.Common.{◌≡◌, ℕ, Bool, true, false, if◌then◌else◌, Result, Ok, Err, refl, ap}
use Rattle.std.specs.Result.{IfOk}
use Rattle.ion_meter.specs.declared.fault.Reason.{Reason}
use Rattle.ion_value.specs.Parts.{part, refuse, ◌>>=◌, ◌>>◌}

-- two steps
pub record Went {A B E : Type 0} (o : Result A E) (f : A → Result B E) (y : B) : Type 0 where
  pub value : A
  pub first : o ≡ Ok value
  pub second : f value ≡ Ok y

pub went : {A B E : Type 0} (o : Result A E) (f : A → Result B E) (y : B) → (o >>= f) ≡ Ok y → Went o f y
went (Ok x) f y e = record { value = x; first = refl; second = e }
went (Err reason) f y e = absurd (cc e)

pub if-then : {A B E : Type 0} (P : A → Type 0) (Q : B → Type 0) (o : Result A E) (f : A → Result B E) → IfOk o P
    → ((x : A) → P x → IfOk (f x) Q) → IfOk (o >>= f) Q
if-then P Q (Ok x) f h more = more x h
if-then P Q (Err reason) f h more = tt

pub any-ok : {A E : Type 0} (o : Result A E) → IfOk o (λ x. Unit {0})
any-ok (Ok x) = tt
any-ok (Err reason) = tt

-- whatever the first gives
pub if-any : {A B E : Type 0} (Q : B → Type 0) (o : Result A E) (f : A → Result B E) → ((x : A) → IfOk (f x) Q) → IfOk (o >>= f) Q
if-any Q (Ok x) f h = h x
if-any Q (Err reason) f h = tt

pub if-next : {A B E : Type 0} (Q : B → Type 0) (o : Result A E) (p : Result B E) → IfOk p Q → IfOk (o >> p) Q
if-next Q (Ok x) p h = h
if-next Q (Err reason) p h = tt

pub if-more : {A E : Type 0} (P Q : A → Type 0) (o : Result A E) → IfOk o P → ((x : A) → P x → Q x) → IfOk o Q
if-more P Q (Ok x) h more = more x h
if-more P Q (Err reason) h more = tt

pub if-both : {A E : Type 0} (P Q : A → Type 0) (o : Result A E) → IfOk o P → IfOk o Q → IfOk o (λ x. P x × Q x)
if-both P Q (Ok x) h k = (h, k)
if-both P Q (Err reason) h k = tt

-- a test that may refuse, and a step
pub passed : {B : Type 0} (b : Bool) (reason : Reason) (o : Result B Reason) (y : B) → (refuse b reason >> o) ≡ Ok y → (b ≡ false) × (o ≡ Ok y)
passed true reason o y e = absurd (cc e)
passed false reason o y e = (refl, e)

pub if-passed : {B : Type 0} (Q : B → Type 0) (b : Bool) (reason : Reason) (o : Result B Reason) → (b ≡ false → IfOk o Q)
    → IfOk (refuse b reason >> o) Q
if-passed Q true reason o h = tt
if-passed Q false reason o h = h refl

-- one of two
pub if-either : {B E : Type 0} (Q : B → Type 0) (b : Bool) (o p : Result B E) → IfOk o Q → IfOk p Q → IfOk (if b then o else p) Q
if-either Q true o p h k = h
if-either Q false o p h k = k

-- a part
pub part-known : {A : Type 0} (p : ℕ) (o : Result A Reason) (x : A) → part p o ≡ Ok x → o ≡ Ok x
part-known p (Ok y) x e = let same : y ≡ x = cc e in ap Ok same
part-known p (Err reason) x e = absurd (cc e)
