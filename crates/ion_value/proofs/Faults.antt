-- Of which kind the faults of a result are, and results that are never at fault for a limit.
use Rattle.std.proofs.Common.{◌≡◌, inl, inr, Bool, true, false, ◌&&◌, if◌then◌else◌, nat_lt, ℕ, ◌^◌, ℤ, Result, Ok, Err, refl, sym, ap, ◌∙◌}
use Rattle.ion_meter.specs.declared.fault.Reason.{Reason}
use Rattle.ion_meter.specs.declared.fault.Reason.TheVariants as reason
use Rattle.ion_value.specs.declared.timestamp.Timestamp.{Timestamp}
use Rattle.ion_value.specs.Digits.{is_between}
use Rattle.ion_value.specs.Decimal.{is_exponent, decimal_in_range}
use Rattle.ion_value.specs.Timestamp.{in_years}
use Rattle.ion_value.specs.Scalar.{with_value}
use Rattle.ion_value.specs.Parts.{◌>>=◌, ◌>>◌, refuse, part}
use Rattle.ion_value.specs.ReadingLaws.{IsLimit}

-- ---- the faults of a result

abbrev pub Blamed : {A E : Type 0} → (E → Type 0) → Result A E → Type 0
Blamed L (Ok x) = Unit {0}
Blamed L (Err e) = L e

-- each fault that the result has is of a kind
pub record Blames {A E : Type 0} (L : E → Type 0) (r : Result A E) : Type 0 where
  pub so : Blamed L r

pub bind_blames : {A B E : Type 0} (L : E → Type 0) (r : Result A E) (f : A → Result B E) → Blames L r → ((x : A) → r ≡ Ok x → Blames L (f x)) → Blames L (r >>= f)
bind_blames L (Ok x) f c h = h x refl
bind_blames L (Err e) f c h = record { so = c.so }

pub then_blames : {A B E : Type 0} (L : E → Type 0) (r : Result A E) (s : Result B E) → Blames L r → Blames L s → Blames L (r >> s)
then_blames L (Ok x) s c d = d
then_blames L (Err e) s c d = record { so = c.so }

pub refuse_blames : (L : Reason → Type 0) (b : Bool) (why : Reason) → (b ≡ true → L why) → Blames L (refuse b why)
refuse_blames L true why h = record { so = h refl }
refuse_blames L false why h = record { so = tt }

pub blames_more : {A E : Type 0} (L M : E → Type 0) (r : Result A E) → Blames L r → ((e : E) → L e → M e) → Blames M r
blames_more L M (Ok x) c h = record { so = tt }
blames_more L M (Err e) c h = record { so = h e c.so }

pub part_blames : {A : Type 0} (L : Reason × ℕ → Type 0) (place : ℕ) (r : Result A Reason) → Blames (λ e. L (e, place)) r → Blames L (part place r)
part_blames L place (Ok x) c = record { so = tt }
part_blames L place (Err e) c = record { so = c.so }

pub if_blames : {A E : Type 0} (L : E → Type 0) (b : Bool) (r s : Result A E) → Blames L r → Blames L s → Blames L (if b then r else s)
if_blames L true r s c d = c
if_blames L false r s c d = d

pub either_blames : {A E : Type 0} (L : E → Type 0) (b : Bool) (x : A) (e : E) → L e → Blames L (if b then Ok x else Err e)
either_blames L true x e h = record { so = tt }
either_blames L false x e h = record { so = h }

-- ---- no limit's fault

abbrev pub is_limit : Reason → Bool
is_limit reason.DepthLimit = true
is_limit reason.ScalarLimit = true
is_limit reason.AnnotationLimit = true
is_limit _ = false

abbrev pub Free : Reason → Type 0
Free why = IsLimit why → ⊥

pub free : (why : Reason) → is_limit why ≡ false → Free why
free why e (inl is) = let k : true ≡ false = sym (ap is_limit is) ∙ e in cc k
free why e (inr (inl is)) = let k : true ≡ false = sym (ap is_limit is) ∙ e in cc k
free why e (inr (inr is)) = let k : true ≡ false = sym (ap is_limit is) ∙ e in cc k

pub fault_free : {A : Type 0} (why : Reason) → is_limit why ≡ false → Blames {A = A} Free (Err why)
fault_free why e = record { so = free why e }

pub refuse_free : (b : Bool) (why : Reason) → is_limit why ≡ false → Blames Free (refuse b why)
refuse_free b why e = refuse_blames Free b why (λ _. free why e)

pub either-free : {A : Type 0} (b : Bool) (x : A) (why : Reason) → is_limit why ≡ false → Blames {A = A} Free (if b then Ok x else Err why)
either-free b x why e = either_blames Free b x why (free why e)

pub value-free : {A B : Type 0} (f : A → B) (r : Result A Reason) → Blames Free r → Blames Free (with_value f r)
value-free f (Ok x) c = record { so = tt }
value-free f (Err why) c = record { so = c.so }

-- ---- scalars

pub in_range-free : (negative : Bool) (n : ℕ) (e : ℤ) → Blames Free (decimal_in_range negative n e)
in_range-free negative n e = either-free (nat_lt n (2 ^ 128) && is_exponent e) (record { negative = negative; coefficient = n; exponent = e }) reason.Range refl

pub years-free : (t : Timestamp) → Blames Free (in_years t)
years-free t = either-free (is_between 1 9999 t.year) t reason.BadTimestamp refl
