-- Laws of the bodies of timestamps: how they are cut into fields, and which timestamps they tell.
use Rattle.std.proofs.Common.{◌≡◌, ◌≢◌, ℕ, zero, suc, ◌+◌, ◌-◌, ◌^◌, ◌<◌, ◌≤◌, ◌⊎◌, inl, inr, Bool, true, false, not, ◌&&◌, ◌||◌, nat_lt, nat_le, ◌==◌, List, [], ◌∷◌, ◌++◌, length, take, drop, get_or, map, refl, sym, ap, subst, ◌∙◌, arith, zero-add, suc-add, append_assoc, ℤ, pos, neg_ℤ, ◌≤ℤ◌, Option, Some, None, IfSome, option_map, option_and_then, Result, Ok, Err, MatchResult, IfOk, IfErr}
use Rattle.std.proofs.lemmas.Int.{ints}
use Rattle.std.proofs.lemmas.Bool.{cases_Bool, cases_lt, eqb-true, eqb-false, and_parts, or_cases, or_parts, ltb-true, ltb-false, leb-true, lt-ltb, le-ltb, le-leb, lt-leb}
use Rattle.std.proofs.lemmas.List.{length-append, length-drop, take_all, map-append}
use Rattle.std.proofs.lemmas.Option.{some_pair_parts}
use Rattle.std.proofs.Math.Nat.{pow-le-pow_right}
use Rattle.ion_meter.specs.declared.fault.Reason.{Reason}
use Rattle.ion_meter.specs.declared.fault.Reason.TheVariants.{BadVar, BadTimestamp, Range}
use Rattle.ion_value.specs.declared.timestamp.Precision.{Precision}
use Rattle.ion_value.specs.declared.timestamp.Precision.TheVariants.{Year, Month, Day, Minute, Second, Fraction}
use Rattle.ion_value.specs.declared.timestamp.Timestamp.{Timestamp}
use Rattle.ion_value.specs.declared.var.Signed.{Signed}
use Rattle.ion_value.specs.Number.{var_uint, signed, VarUInt, VarInt, int_negative, int_magnitude, var_int_magnitude, var_int_negative, var_cut}
use Rattle.ion_value.specs.Timestamp.{IsMoment, is_moment, IsOffset, IsTimestamp, KeepsPrecision, is_date, local_of, utc_fields, exponent_in, is_fraction, offset_in, fields_cut, fields, second_precision, digits_after_point, in_local_time, timestamp_in_utc, timestamp_of_fields, timestamp_of_cut, timestamp_of_bytes}
use Rattle.ion_value.specs.TimestampFields.{Spells, first_field, utc_of_numbers, if_moment, timestamp_of_parts}
use Rattle.ion_value.proofs.Days.{utc_of-unknown, local-is, utc_is_back}
use Rattle.ion_value.proofs.Cut.{var_cut-VarUInt, var_cut-no_VarUInt, var_cut-VarInt, var_cut-no_VarInt}

-- ---- moments, as the definition tests them

-- the test holds of a moment, and of nothing else
pub is_moment-true : (t : Timestamp) → IsMoment t → is_moment t ≡ true
is_moment-true t m =
    let year = m.year in
    let month = m.date.1 in
    let day = m.date.2 in
    rw (le-leb _ _ year.0, le-leb _ _ year.1, le-leb _ _ month.0, le-leb _ _ month.1, le-leb _ _ day.0, le-leb _ _ day.1, lt-ltb _ _ m.hour, lt-ltb _ _ m.minute, lt-ltb _ _ m.second) refl

pub is_moment-is : (t : Timestamp) → is_moment t ≡ true → IsMoment t
is_moment-is t e =
    let s = and_parts _ _ e in
    let i = and_parts _ _ s.0 in
    let h = and_parts _ _ i.0 in
    let d = and_parts _ _ h.0 in
    let y = and_parts _ _ d.0 in
    let year = and_parts _ _ y.0 in
    let month = and_parts _ _ y.1 in
    let day = and_parts _ _ d.1 in
    let low = leb-true _ _ year.0 in
    let high = leb-true _ _ year.1 in
    record {
      year = (low, high);
      date = ((omega (arith, ints), omega (arith, ints)), (leb-true _ _ month.0, leb-true _ _ month.1), (leb-true _ _ day.0, leb-true _ _ day.1));
      hour = ltb-true _ _ h.1;
      minute = ltb-true _ _ i.1;
      second = ltb-true _ _ s.1;
    }

-- what passes it is a moment, and a moment passes it
pub if_moment-some : (o : Option Timestamp) (t : Timestamp) → option_and_then if_moment o ≡ Some t → IsMoment t
if_moment-some None t e = cc
if_moment-some (Some u) t e =
    elim (cases_Bool (is_moment u)) [
      | inl k ↦ let same : u ≡ t = cc (rw k at e) in rw (← same) (is_moment-is u k)
      | inr k ↦ cc (rw k at e)
    ]

pub if_moment-is : (t : Timestamp) → IsMoment t → if_moment t ≡ Some t
if_moment-is t m = rw (is_moment-true t m) refl

-- ---- a body cut into fields

-- fields that stand before others
abbrev pub joined : List (List ℕ) → Option (List (List ℕ) × List ℕ) → Option (List (List ℕ) × List ℕ)
joined f o = option_map (λ more. (f ++ more.0, more.1)) o

-- no fields before others change nothing, and fields before fields are before both
pub joined-none : (o : Option (List (List ℕ) × List ℕ)) → joined [] o ≡ o
joined-none None = refl
joined-none (Some cut) = refl

pub joined-more : (f g : List (List ℕ)) (o : Option (List (List ℕ) × List ℕ)) → joined f (joined g o) ≡ joined (f ++ g) o
joined-more f g None = refl
joined-more f g (Some cut) = rw append_assoc refl

-- no octets have no fields
pub fields_cut-empty : (most : ℕ) → fields_cut most [] ≡ Some ([], [])
unfolding fields_cut
fields_cut-empty zero = refl
fields_cut-empty (suc most) = refl

-- one field more
nothing-cut : var_cut 9 [] ≡ None
unfolding var_cut
nothing-cut = refl

pub fields_cut-some : (most : ℕ) (b e c : List ℕ) → var_cut 9 b ≡ Some (e, c) → fields_cut (suc most) b ≡ joined (e ∷ []) (fields_cut most c)
unfolding fields_cut
fields_cut-some most [] e c h = cc nothing-cut
fields_cut-some most (x ∷ b) e c h = rw h refl

-- a field that does not end
pub fields_cut-bad : (most : ℕ) (b : List ℕ) → 0 < length b → var_cut 9 b ≡ None → fields_cut (suc most) b ≡ None
unfolding fields_cut
fields_cut-bad most [] some h = absurd (omega arith)
fields_cut-bad most (x ∷ b) some h = rw h refl

-- as many fields, and more after them
abbrev pub and_more : ℕ → Option (List (List ℕ) × List ℕ) → Option (List (List ℕ) × List ℕ)
and_more k o = option_and_then (λ cut. joined cut.0 (fields_cut k cut.1)) o

-- fields before others, and more after them
joined-and_more : (k : ℕ) (e : List ℕ) (o : Option (List (List ℕ) × List ℕ)) → joined (e ∷ []) (and_more k o) ≡ and_more k (joined (e ∷ []) o)
joined-and_more k e None = refl
joined-and_more k e (Some cut) = joined-more (e ∷ []) cut.0 (fields_cut k cut.1)

-- the same where one field stands before them
cut-and_more : (j k : ℕ) (b : List ℕ) (o : Option (List ℕ × List ℕ)) → 0 < length b → var_cut 9 b ≡ o → ((c : List ℕ) → fields_cut (j + k) c ≡ and_more k (fields_cut j c)) → fields_cut (suc (j + k)) b ≡ and_more k (fields_cut (suc j) b)
cut-and_more j k b None some h rest = rw (fields_cut-bad (j + k) b some h, fields_cut-bad j b some h) refl
cut-and_more j k b (Some cut) some h rest =
    rw (fields_cut-some (j + k) b cut.0 cut.1 h, fields_cut-some j b cut.0 cut.1 h, rest cut.1) (joined-and_more k cut.0 (fields_cut j cut.1))

pub fields_cut-add : (j k : ℕ) (b : List ℕ) → fields_cut (j + k) b ≡ and_more k (fields_cut j b)
unfolding fields_cut
fields_cut-add zero k b = rw zero-add (sym (joined-none (fields_cut k b)))
fields_cut-add (suc j) k [] = rw (suc-add, fields_cut-empty k) refl
fields_cut-add (suc j) k (x ∷ b) = rw suc-add (cut-and_more j k (x ∷ b) (var_cut 9 (x ∷ b)) (omega arith) refl (fields_cut-add j k))

-- fields that are fewer than there may be have no octets after them
pub record Cuts (most : ℕ) (f : List (List ℕ)) (rest : List ℕ) : Type 0 where
  pub few : length f ≤ most
  pub ended : length f < most → rest ≡ []

-- one field more
Cuts-more : (most : ℕ) (e : List ℕ) (f : List (List ℕ)) (rest : List ℕ) → Cuts most f rest → Cuts (suc most) (e ∷ f) rest
Cuts-more most e f rest h = record { few = omega (arith, h.few); ended = λ less. h.ended (omega arith) }

-- the same of what may be no cut
IfSome-joined : (most : ℕ) (e : List ℕ) (o : Option (List (List ℕ) × List ℕ)) → IfSome o (λ cut. Cuts most cut.0 cut.1) → IfSome (joined (e ∷ []) o) (λ cut. Cuts (suc most) cut.0 cut.1)
IfSome-joined most e None h = tt
IfSome-joined most e (Some cut) h = Cuts-more most e cut.0 cut.1 h

IfSome-cut : (most : ℕ) (b : List ℕ) (o : Option (List ℕ × List ℕ)) → 0 < length b → var_cut 9 b ≡ o → ((c : List ℕ) → IfSome (fields_cut most c) (λ cut. Cuts most cut.0 cut.1)) → IfSome (fields_cut (suc most) b) (λ cut. Cuts (suc most) cut.0 cut.1)
IfSome-cut most b None some h rest = rw (fields_cut-bad most b some h) tt
IfSome-cut most b (Some cut) some h rest = rw (fields_cut-some most b cut.0 cut.1 h) (IfSome-joined most cut.0 (fields_cut most cut.1) (rest cut.1))

-- each cut is of that kind
fields_cut-Cuts : (most : ℕ) (b : List ℕ) → IfSome (fields_cut most b) (λ cut. Cuts most cut.0 cut.1)
unfolding fields_cut
fields_cut-Cuts zero b = record { few = omega arith; ended = λ less. absurd (omega arith) }
fields_cut-Cuts (suc most) [] = record { few = omega arith; ended = λ less. refl }
fields_cut-Cuts (suc most) (x ∷ b) = IfSome-cut most (x ∷ b) (var_cut 9 (x ∷ b)) (omega arith) refl (fields_cut-Cuts most)

cuts : (most : ℕ) (b : List ℕ) (f : List (List ℕ)) (c : List ℕ) → fields_cut most b ≡ Some (f, c) → Cuts most f c
cuts most b f c e = rw e at (fields_cut-Cuts most b)

-- ---- a body cut into its offset, at most six numbers, and its exponent

-- which cuts there are: nothing, no exponent, and all of them
data Parts : List (List ℕ) → List (List ℕ) → List (List ℕ) → List ℕ → Type 0 where
  nothing : Parts [] [] [] []
  short : (o : List ℕ) (f : List (List ℕ)) → length f ≤ 6 → Parts (o ∷ []) f [] []
  whole : (o y m d h i s e c : List ℕ) → Parts (o ∷ []) (y ∷ m ∷ d ∷ h ∷ i ∷ s ∷ []) (e ∷ []) c

-- a body without an exponent, field by field
short-read : (o : List ℕ) (f : List (List ℕ)) → length f ≤ 6 → timestamp_of_cut (Some (o ∷ f, [])) ≡ timestamp_of_parts o (map var_uint f) [] []
short-read o [] few = refl
short-read o (y ∷ []) few = refl
short-read o (y ∷ m ∷ []) few = refl
short-read o (y ∷ m ∷ d ∷ []) few = refl
short-read o (y ∷ m ∷ d ∷ h ∷ []) few = refl
short-read o (y ∷ m ∷ d ∷ h ∷ i ∷ []) few = refl
short-read o (y ∷ m ∷ d ∷ h ∷ i ∷ s ∷ []) few = refl
short-read o (y ∷ m ∷ d ∷ h ∷ i ∷ s ∷ e ∷ f) few = absurd (omega arith)

-- nothing after a list
pub append-none : {A : Type 0} (xs : List A) → xs ++ [] ≡ xs
append-none [] = refl
append-none (x ∷ xs) = ap (λ l. x ∷ l) (append-none xs)

-- what the fields tell is what their numbers tell
parts-read : (f g h : List (List ℕ)) (c : List ℕ) → Parts f g h c → timestamp_of_cut (Some (f ++ (g ++ h), c)) ≡ timestamp_of_parts (first_field f) (map var_uint g) (first_field h) c
parts-read _ _ _ _ nothing = refl
parts-read _ _ _ _ (short o f few) = rw (append-none f) (short-read o f few)
parts-read _ _ _ _ (whole o y m d h i s e c) = refl

-- an exponent stands after six numbers
six-whole : (o e c : List ℕ) (g : List (List ℕ)) → length g ≡ 6 → Parts (o ∷ []) g (e ∷ []) c
six-whole o e c [] n = absurd (omega arith)
six-whole o e c (y ∷ []) n = absurd (omega arith)
six-whole o e c (y ∷ m ∷ []) n = absurd (omega arith)
six-whole o e c (y ∷ m ∷ d ∷ []) n = absurd (omega arith)
six-whole o e c (y ∷ m ∷ d ∷ h ∷ []) n = absurd (omega arith)
six-whole o e c (y ∷ m ∷ d ∷ h ∷ i ∷ []) n = absurd (omega arith)
six-whole o e c (y ∷ m ∷ d ∷ h ∷ i ∷ s ∷ []) n = whole o y m d h i s e c
six-whole o e c (y ∷ m ∷ d ∷ h ∷ i ∷ s ∷ x ∷ g) n = absurd (omega arith)

-- no octets have no fields, and none after them
empty-cut : (most : ℕ) (b c : List ℕ) (f : List (List ℕ)) → b ≡ [] → fields_cut most b ≡ Some (f, c) → (f ≡ []) × (c ≡ [])
empty-cut most b c f none e = some_pair_parts f [] c [] (sym e ∙ ap (fields_cut most) none ∙ fields_cut-empty most)

-- where there is an offset
some-parts : (o r c : List ℕ) (g h : List (List ℕ)) → Cuts 6 g r → Cuts 1 h c → fields_cut 1 r ≡ Some (h, c) → Parts (o ∷ []) g h c
some-parts o r c g [] six one e = let none : c ≡ [] = one.ended (omega arith) in rw none (short o g six.few)
some-parts o r c g (x ∷ []) six one e =
    elim (cases_lt (length g) 6) [
      | inl less ↦
          let none : r ≡ [] = six.ended less in
          let empty = empty-cut 1 r c (x ∷ []) none e in
          absurd (cc (empty.0))
      | inr more ↦ six-whole o x c g (omega (arith, six.few))
    ]
some-parts o r c g (x ∷ y ∷ h) six one e = absurd (omega (arith, one.few))

-- three cuts one after the other are of one of the three kinds
parts-of : (b q r c : List ℕ) (f g h : List (List ℕ)) → fields_cut 1 b ≡ Some (f, q) → fields_cut 6 q ≡ Some (g, r) → fields_cut 1 r ≡ Some (h, c) → Parts f g h c
parts-of b q r c [] g h e1 e2 e3 =
    let none : q ≡ [] = (cuts 1 b [] q e1).ended (omega arith) in
    let second = empty-cut 6 q r g none e2 in
    let third = empty-cut 1 r c h second.1 e3 in
    rw (second.0, third.0, third.1) nothing
parts-of b q r c (o ∷ []) g h e1 e2 e3 = some-parts o r c g h (cuts 6 q g r e2) (cuts 1 r h c e3) e3
parts-of b q r c (o ∷ p ∷ f) g h e1 e2 e3 = absurd (omega (arith, (cuts 1 b (o ∷ p ∷ f) q e1).few))

-- the timestamp of a body, by its offset, the numbers after it, its exponent and its coefficient
pub bytes-read : (b q r c : List ℕ) (f g h : List (List ℕ)) → fields_cut 1 b ≡ Some (f, q) → fields_cut 6 q ≡ Some (g, r) → fields_cut 1 r ≡ Some (h, c)
    → timestamp_of_bytes b ≡ timestamp_of_parts (first_field f) (map var_uint g) (first_field h) c
unfolding timestamp_of_bytes
bytes-read b q r c f g h e1 e2 e3 =
    let rest : fields_cut 7 q ≡ Some (g ++ h, c) = fields_cut-add 6 1 q ∙ rw (e2, e3) refl in
    let all : fields_cut 8 b ≡ Some (f ++ (g ++ h), c) = fields_cut-add 1 7 b ∙ rw (e1, rest) refl in
    ap timestamp_of_cut all ∙ parts-read f g h c (parts-of b q r c f g h e1 e2 e3)

-- and a field that does not end
pub bytes-bad_offset : (b : List ℕ) → fields_cut 1 b ≡ None → timestamp_of_bytes b ≡ Err BadVar
unfolding timestamp_of_bytes
bytes-bad_offset b e1 =
    let all : fields_cut 8 b ≡ None = fields_cut-add 1 7 b ∙ rw e1 refl in
    ap timestamp_of_cut all

pub bytes-bad_number : (b q : List ℕ) (f : List (List ℕ)) → fields_cut 1 b ≡ Some (f, q) → fields_cut 6 q ≡ None → timestamp_of_bytes b ≡ Err BadVar
unfolding timestamp_of_bytes
bytes-bad_number b q f e1 e2 =
    let rest : fields_cut 7 q ≡ None = fields_cut-add 6 1 q ∙ rw e2 refl in
    let all : fields_cut 8 b ≡ None = fields_cut-add 1 7 b ∙ rw (e1, rest) refl in
    ap timestamp_of_cut all

pub bytes-bad_exponent : (b q r : List ℕ) (f g : List (List ℕ)) → fields_cut 1 b ≡ Some (f, q) → fields_cut 6 q ≡ Some (g, r) → fields_cut 1 r ≡ None → timestamp_of_bytes b ≡ Err BadVar
unfolding timestamp_of_bytes
bytes-bad_exponent b q r f g e1 e2 e3 =
    let rest : fields_cut 7 q ≡ None = fields_cut-add 6 1 q ∙ rw (e2, e3) refl in
    let all : fields_cut 8 b ≡ None = fields_cut-add 1 7 b ∙ rw (e1, rest) refl in
    ap timestamp_of_cut all

-- ---- one field read

-- what a slice from a place on has
pub from_place : (b : List ℕ) (k : ℕ) → take (length b - k) (drop k b) ≡ drop k b
from_place b k = let long : length (drop k b) ≤ length b - k = rw length-drop (omega arith) in take_all (length b - k) (drop k b) long

-- whether there are octets, as the code tests it
pub no_octets : (b : List ℕ) → true ≡ (length b == 0) → length b ≡ 0
no_octets b e = eqb-true (length b) 0 (sym e)

pub some_octets : (b : List ℕ) → false ≡ (length b == 0) → 0 < length b
some_octets b e = let some : length b ≢ 0 = eqb-false (length b) 0 (sym e) in omega arith

-- no octets are read as no field, and spell zero
pub empty-read : (b : List ℕ) → length b ≡ 0 → (f : List (List ℕ)) × (fields_cut 1 b ≡ Some (f, b)) × Spells (record { negative = false; magnitude = 0 }) (first_field f)
empty-read [] e = ([], fields_cut-empty 1, record { sign = refl; magnitude = refl })
empty-read (x ∷ b) e = absurd (omega arith)

-- the field at the front
pub one-cut : (b e c : List ℕ) → var_cut 9 b ≡ Some (e, c) → fields_cut 1 b ≡ Some (e ∷ [], c)
unfolding fields_cut
one-cut b e c h = fields_cut-some 0 b e c h

-- a VarInt that is read is that field, and one that is not read is none
pub signed-read : (z : Signed) (k : ℕ) (b : List ℕ) → VarInt z (take k b) → (f : List (List ℕ)) × (fields_cut 1 b ≡ Some (f, take (length b - k) (drop k b))) × Spells z (first_field f)
signed-read z k b h =
    let cut = var_cut-VarInt z k b h in
    (take k b ∷ [], rw (from_place b k) (one-cut b (take k b) (drop k b) cut), record { sign = h.sign; magnitude = h.magnitude })

pub signed-bad : (b : List ℕ) → 0 < length b → ((z : Signed) (k : ℕ) → VarInt z (take k b) → ⊥) → fields_cut 1 b ≡ None
signed-bad b some none = fields_cut-bad 0 b some (var_cut-no_VarInt b none)

-- ---- numbers read one after the other

-- these fields have been read, and as many as are left are still to come
pub record SoFar (bytes rest : List ℕ) (numbers : List ℕ) : Type 0 where
  pub read : List (List ℕ)
  pub value : numbers ≡ map var_uint read
  pub few : length numbers ≤ 6
  pub left : fields_cut 6 bytes ≡ joined read (fields_cut (6 - length numbers) rest)

-- whether there is room, as the code tests it
pub room : (bytes rest numbers : List ℕ) → SoFar bytes rest numbers → false ≡ (length numbers == 6) → length numbers < 6
room bytes rest numbers h e = let ne : length numbers ≢ 6 = eqb-false (length numbers) 6 (sym e) in omega (arith, h.few)

-- a list of no octets
nothing-left : (b : List ℕ) → length b ≡ 0 → b ≡ []
nothing-left [] e = refl
nothing-left (x ∷ b) e = absurd (omega arith)

SoFar-cut : (bytes rest numbers e c : List ℕ) (n : ℕ) → SoFar bytes rest numbers → length numbers < 6 → var_cut 9 rest ≡ Some (e, c) → n ≡ var_uint e → SoFar bytes c (numbers ++ n ∷ [])
SoFar-cut bytes rest numbers e c n h more cut is =
    let long : length (numbers ++ n ∷ []) ≡ suc (length numbers) = rw length-append (omega arith) in
    let count : 6 - length numbers ≡ suc (6 - suc (length numbers)) = omega arith in
    record {
      read = h.read ++ e ∷ [];
      value = rw (map-append, h.value, is) refl;
      few = omega arith;
      left =
          h.left
          ∙ ap (joined h.read) (ap (λ (k : ℕ). fields_cut k rest) count ∙ fields_cut-some (6 - suc (length numbers)) rest e c cut)
          ∙ joined-more h.read (e ∷ []) (fields_cut (6 - suc (length numbers)) c)
          ∙ rw long refl;
    }

pub SoFar-more : (bytes rest numbers : List ℕ) (n k : ℕ) → SoFar bytes rest numbers → length numbers < 6 → VarUInt n (take k rest) → SoFar bytes (take (length rest - k) (drop k rest)) (numbers ++ n ∷ [])
SoFar-more bytes rest numbers n k h more is =
    rw (from_place rest k) (SoFar-cut bytes rest numbers (take k rest) (drop k rest) n h more (var_cut-VarUInt n k rest is) is.value)

pub SoFar-bad : (bytes rest numbers : List ℕ) → SoFar bytes rest numbers → 0 < length rest → length numbers < 6 → ((n k : ℕ) → VarUInt n (take k rest) → ⊥) → fields_cut 6 bytes ≡ None
SoFar-bad bytes rest numbers h some more none =
    let count : 6 - length numbers ≡ suc (6 - suc (length numbers)) = omega arith in
    h.left ∙ rw (count, fields_cut-bad (6 - suc (length numbers)) rest some (var_cut-no_VarUInt rest none)) refl

-- where no fields may come, or no octets are left
pub all-read : (f : List (List ℕ)) (rest : List ℕ) (k : ℕ) → ((k ≡ 0) ⊎ (rest ≡ [])) → joined f (fields_cut k rest) ≡ Some (f, rest)
unfolding fields_cut
all-read f rest k (inl none) = rw (none, append-none f) refl
all-read f rest k (inr none) = rw (none, fields_cut-empty k, append-none f) refl

-- six numbers, or no octets left
pub SoFar-full : (bytes rest numbers : List ℕ) → SoFar bytes rest numbers → true ≡ (length numbers == 6) → (f : List (List ℕ)) × (fields_cut 6 bytes ≡ Some (f, rest)) × (numbers ≡ map var_uint f)
SoFar-full bytes rest numbers h e =
    let full = eqb-true (length numbers) 6 (sym e) in
    let none : 6 - length numbers ≡ 0 = omega arith in
    (h.read, h.left ∙ all-read h.read rest (6 - length numbers) (inl none), h.value)

pub SoFar-ended : (bytes rest numbers : List ℕ) → SoFar bytes rest numbers → true ≡ (length rest == 0) → (f : List (List ℕ)) × (fields_cut 6 bytes ≡ Some (f, rest)) × (numbers ≡ map var_uint f)
SoFar-ended bytes rest numbers h e =
    let none = nothing-left rest (no_octets rest e) in
    (h.read, h.left ∙ all-read h.read rest (6 - length numbers) (inr none), h.value)

-- ---- numbers told

-- a list of six
six-numbers : (ns : List ℕ) → 6 ≤ length ns → length ns < 7 → ns ≡ get_or ns 0 0 ∷ get_or ns 1 0 ∷ get_or ns 2 0 ∷ get_or ns 3 0 ∷ get_or ns 4 0 ∷ get_or ns 5 0 ∷ []
six-numbers [] more less = absurd (omega arith)
six-numbers (y ∷ []) more less = absurd (omega arith)
six-numbers (y ∷ m ∷ []) more less = absurd (omega arith)
six-numbers (y ∷ m ∷ d ∷ []) more less = absurd (omega arith)
six-numbers (y ∷ m ∷ d ∷ h ∷ []) more less = absurd (omega arith)
six-numbers (y ∷ m ∷ d ∷ h ∷ i ∷ []) more less = absurd (omega arith)
six-numbers (y ∷ m ∷ d ∷ h ∷ i ∷ s ∷ []) more less = refl
six-numbers (y ∷ m ∷ d ∷ h ∷ i ∷ s ∷ x ∷ ns) more less = absurd (omega arith)

-- what lists of each length tell
pub tells-year : (ns : List ℕ) (digits c : ℕ) (o : Option Timestamp) → 1 ≤ length ns → length ns < 2
    → o ≡ if_moment (fields Year (get_or ns 0 0) 1 1 0 0 0 0) → o ≡ option_and_then if_moment (utc_of_numbers ns digits c)
tells-year [] digits c o more less e = absurd (omega arith)
tells-year (y ∷ []) digits c o more less e = e
tells-year (y ∷ m ∷ ns) digits c o more less e = absurd (omega arith)

pub tells-month : (ns : List ℕ) (digits c : ℕ) (o : Option Timestamp) → 2 ≤ length ns → length ns < 3
    → o ≡ if_moment (fields Month (get_or ns 0 0) (get_or ns 1 0) 1 0 0 0 0) → o ≡ option_and_then if_moment (utc_of_numbers ns digits c)
tells-month [] digits c o more less e = absurd (omega arith)
tells-month (y ∷ []) digits c o more less e = absurd (omega arith)
tells-month (y ∷ m ∷ []) digits c o more less e = e
tells-month (y ∷ m ∷ d ∷ ns) digits c o more less e = absurd (omega arith)

pub tells-day : (ns : List ℕ) (digits c : ℕ) (o : Option Timestamp) → 3 ≤ length ns → length ns < 4
    → o ≡ if_moment (fields Day (get_or ns 0 0) (get_or ns 1 0) (get_or ns 2 0) 0 0 0 0) → o ≡ option_and_then if_moment (utc_of_numbers ns digits c)
tells-day [] digits c o more less e = absurd (omega arith)
tells-day (y ∷ []) digits c o more less e = absurd (omega arith)
tells-day (y ∷ m ∷ []) digits c o more less e = absurd (omega arith)
tells-day (y ∷ m ∷ d ∷ []) digits c o more less e = e
tells-day (y ∷ m ∷ d ∷ h ∷ ns) digits c o more less e = absurd (omega arith)

pub tells-minute : (ns : List ℕ) (digits c : ℕ) (o : Option Timestamp) → 5 ≤ length ns → length ns < 6
    → o ≡ if_moment (fields Minute (get_or ns 0 0) (get_or ns 1 0) (get_or ns 2 0) (get_or ns 3 0) (get_or ns 4 0) 0 0) → o ≡ option_and_then if_moment (utc_of_numbers ns digits c)
tells-minute [] digits c o more less e = absurd (omega arith)
tells-minute (y ∷ []) digits c o more less e = absurd (omega arith)
tells-minute (y ∷ m ∷ []) digits c o more less e = absurd (omega arith)
tells-minute (y ∷ m ∷ d ∷ []) digits c o more less e = absurd (omega arith)
tells-minute (y ∷ m ∷ d ∷ h ∷ []) digits c o more less e = absurd (omega arith)
tells-minute (y ∷ m ∷ d ∷ h ∷ i ∷ []) digits c o more less e = e
tells-minute (y ∷ m ∷ d ∷ h ∷ i ∷ s ∷ ns) digits c o more less e = absurd (omega arith)

pub tells-second : (ns : List ℕ) (digits c : ℕ) (o : Option Timestamp) → 6 ≤ length ns → length ns < 7
    → o ≡ if_moment (fields (second_precision digits) (get_or ns 0 0) (get_or ns 1 0) (get_or ns 2 0) (get_or ns 3 0) (get_or ns 4 0) (get_or ns 5 0) c)
    → o ≡ option_and_then if_moment (utc_of_numbers ns digits c)
tells-second ns digits c o more less e = rw (six-numbers ns more less) e

-- ---- parts told

-- a fraction that is none, numbers that are no moment, and a moment
unfit : (o : List ℕ) (u : Option Timestamp) → timestamp_in_utc o false u ≡ Err BadTimestamp
unfit o None = refl
unfit o (Some u) = elim (cases_Bool (is_moment u)) [ inl k ↦ rw k refl | inr k ↦ rw k refl ]

no_moment : (o : List ℕ) (u : Option Timestamp) → None ≡ option_and_then if_moment u → timestamp_in_utc o true u ≡ Err BadTimestamp
no_moment o None e = refl
no_moment o (Some u) e = elim (cases_Bool (is_moment u)) [ inl k ↦ cc (rw k at e) | inr k ↦ rw k refl ]

a_moment : (o : List ℕ) (u : Option Timestamp) (t : Timestamp) → Some t ≡ option_and_then if_moment u → timestamp_in_utc o true u ≡ in_local_time o t
a_moment o None t e = cc
a_moment o (Some u) t e =
    elim (cases_Bool (is_moment u)) [
      | inl k ↦ let same : u ≡ t = cc (rw k at e) in rw k (ap (in_local_time o) same)
      | inr k ↦ cc (rw k at e)
    ]

-- what has been read of an exponent and a coefficient, in range
pub record PartsRead (e c : List ℕ) (digits : ℕ) (negative : Bool) (fraction : ℕ) : Type 0 where
  pub digits_read : digits ≡ digits_after_point e
  pub few : digits ≤ 38
  pub negative_read : negative ≡ int_negative c
  pub fraction_read : fraction ≡ int_magnitude c
  pub in_range : ¬ (2 ^ 128 ≤ int_magnitude c)

abbrev pub fits : ℕ → Bool → ℕ → Bool
fits digits negative fraction = (fraction == 0) || (not negative && nat_lt fraction (10 ^ digits))

-- what the parts tell where they are in range
in_range : (o ns e c : List ℕ) (digits : ℕ) (negative : Bool) (fraction : ℕ) → PartsRead e c digits negative fraction
    → timestamp_of_parts o ns e c ≡ timestamp_in_utc o (fits digits negative fraction) (utc_of_numbers ns digits fraction)
in_range o ns e c digits negative fraction h =
    let few = h.few in
    let low : int_magnitude c < 2 ^ 128 = omega (arith, h.in_range) in
    let digits_few : digits_after_point e ≤ 38 = omega (arith, h.digits_read) in
    rw (h.digits_read, h.negative_read, h.fraction_read, lt-leb (2 ^ 128) (int_magnitude c) low, le-ltb 38 (digits_after_point e) digits_few) refl

-- the three outcomes
pub parts-unfit : (o ns e c : List ℕ) (digits : ℕ) (negative : Bool) (fraction : ℕ) → PartsRead e c digits negative fraction → false ≡ fits digits negative fraction
    → Err BadTimestamp ≡ timestamp_of_parts o ns e c
parts-unfit o ns e c digits negative fraction h bad =
    sym (in_range o ns e c digits negative fraction h ∙ ap (λ b. timestamp_in_utc o b (utc_of_numbers ns digits fraction)) (sym bad) ∙ unfit o (utc_of_numbers ns digits fraction))

pub parts-no_moment : (o ns e c : List ℕ) (digits : ℕ) (negative : Bool) (fraction : ℕ) → PartsRead e c digits negative fraction → true ≡ fits digits negative fraction
    → None ≡ option_and_then if_moment (utc_of_numbers ns digits fraction) → Err BadTimestamp ≡ timestamp_of_parts o ns e c
parts-no_moment o ns e c digits negative fraction h ok none =
    sym (in_range o ns e c digits negative fraction h ∙ ap (λ b. timestamp_in_utc o b (utc_of_numbers ns digits fraction)) (sym ok) ∙ no_moment o (utc_of_numbers ns digits fraction) none)

pub parts-moment : (o ns e c : List ℕ) (digits : ℕ) (negative : Bool) (fraction : ℕ) (t : Timestamp) → PartsRead e c digits negative fraction → true ≡ fits digits negative fraction
    → Some t ≡ option_and_then if_moment (utc_of_numbers ns digits fraction) → in_local_time o t ≡ timestamp_of_parts o ns e c
parts-moment o ns e c digits negative fraction t h ok some =
    sym (in_range o ns e c digits negative fraction h ∙ ap (λ b. timestamp_in_utc o b (utc_of_numbers ns digits fraction)) (sym ok) ∙ a_moment o (utc_of_numbers ns digits fraction) t some)

-- ---- what is read is a timestamp, or is refused for one of three reasons

-- an offset that is read is fewer than a day
signed-bounds : (negative : Bool) (n : ℕ) → n ≤ 1439 → (neg_ℤ (pos 1439) ≤ℤ signed negative n) × (signed negative n ≤ℤ pos 1439)
signed-bounds true n small = (omega (arith, ints), omega (arith, ints))
signed-bounds false n small = (omega (arith, ints), omega (arith, ints))

pub IsOffset-offset_in : (o : List ℕ) → var_int_magnitude o ≤ 1439 → IsOffset (offset_in o)
IsOffset-offset_in o small =
    elim (cases_Bool (var_int_negative o && (var_int_magnitude o == 0))) [
      | inl k ↦ rw k tt
      | inr k ↦ rw k (signed-bounds (var_int_negative o) (var_int_magnitude o) small)
    ]

-- a timestamp in UTC, of the precision that its fields tell
pub record IsTold (u : Timestamp) : Type 0 where
  pub unknown : u.offset ≡ None
  pub precision : KeepsPrecision u.precision u

-- a fraction is below 1
fraction-lt : (digits : ℕ) (e c : List ℕ) → digits ≡ digits_after_point e → is_fraction e c ≡ true → int_magnitude c < 10 ^ digits
fraction-lt digits e c is h =
    elim (or_cases (int_magnitude c == 0) (not (int_negative c) && nat_lt (int_magnitude c) (10 ^ digits_after_point e)) h) [
      | inl none ↦ let nothing_is = eqb-true (int_magnitude c) 0 none in let least : 0 ≤ digits = omega arith in let powers : 10 ^ 0 ≤ 10 ^ digits = pow-le-pow_right {n = 10} (omega arith) least in omega arith
      | inr below ↦ rw is (ltb-true (int_magnitude c) (10 ^ digits_after_point e) (and_parts _ _ below).1)
    ]

-- its precision is that of its digits
second-told : (digits y m d h i s fraction : ℕ) → digits ≤ 38 → fraction < 10 ^ digits → IsTold (fields (second_precision digits) y m d h i s fraction)
second-told zero y m d h i s fraction few small = record { unknown = refl; precision = omega arith }
second-told (suc n) y m d h i s fraction few small = record { unknown = refl; precision = (omega arith, few, small) }

-- the fields of a body tell a timestamp in UTC of their precision
fields-told : (o : List ℕ) (f : List (List ℕ)) (c : List ℕ) → digits_after_point (exponent_in (o ∷ f)) ≤ 38 → is_fraction (exponent_in (o ∷ f)) c ≡ true → IfSome (utc_fields f (int_magnitude c)) IsTold
fields-told o [] c few ok = tt
fields-told o (y ∷ []) c few ok = record { unknown = refl; precision = (refl, refl, refl, refl, refl, refl, refl) }
fields-told o (y ∷ m ∷ []) c few ok = record { unknown = refl; precision = (refl, refl, refl, refl, refl, refl) }
fields-told o (y ∷ m ∷ d ∷ []) c few ok = record { unknown = refl; precision = (refl, refl, refl, refl, refl) }
fields-told o (y ∷ m ∷ d ∷ h ∷ []) c few ok = tt
fields-told o (y ∷ m ∷ d ∷ h ∷ i ∷ []) c few ok = record { unknown = refl; precision = (refl, refl) }
fields-told o (y ∷ m ∷ d ∷ h ∷ i ∷ s ∷ []) c few ok = record { unknown = refl; precision = refl }
fields-told o (y ∷ m ∷ d ∷ h ∷ i ∷ s ∷ e ∷ []) c few ok =
    second-told (digits_after_point e) (var_uint y) (var_uint m) (var_uint d) (var_uint h) (var_uint i) (var_uint s) (int_magnitude c) few (fraction-lt (digits_after_point e) e c refl ok)
fields-told o (y ∷ m ∷ d ∷ h ∷ i ∷ s ∷ e ∷ x ∷ f) c few ok = tt

-- to go to local time keeps the precision of a time
pub keeps-moved : (p : Precision) (u : Timestamp) (year month day hour minute : ℕ) → is_date p ≡ false → KeepsPrecision p u
    → KeepsPrecision p (record u { year = year; month = month; day = day; hour = hour; minute = minute })
keeps-moved Year u year month day hour minute date h = cc
keeps-moved Month u year month day hour minute date h = cc
keeps-moved Day u year month day hour minute date h = cc
keeps-moved Minute u year month day hour minute date h = h
keeps-moved Second u year month day hour minute date h = h
keeps-moved (Fraction n) u year month day hour minute date h = h

-- and so does to have an offset
keeps-offset : (p : Precision) (u : Timestamp) (offset : Option ℤ) → is_date p ≡ false → KeepsPrecision p u → KeepsPrecision p (record u { offset = offset })
keeps-offset Year u offset date h = cc
keeps-offset Month u offset date h = cc
keeps-offset Day u offset date h = cc
keeps-offset Minute u offset date h = h
keeps-offset Second u offset date h = h
keeps-offset (Fraction n) u offset date h = h

-- the reasons
abbrev pub IsRefusal : Reason → Type 0
IsRefusal e = (e ≡ BadVar) ⊎ ((e ≡ Range) ⊎ (e ≡ BadTimestamp))

abbrev pub IsReading : Result Timestamp Reason → Type 0
IsReading r = MatchResult r IsTimestamp IsRefusal

-- local time of what is told is a timestamp
local-told : (u : Timestamp) (r : Result Timestamp Reason) → r ≡ local_of u → IsMoment u → IsOffset u.offset → is_date u.precision ≡ false → KeepsPrecision u.precision u → IsReading r
local-told u (Ok t) e m offset date keeps =
    let local = local-is u m offset in
    let is = rw (← e) at local.moved in
    let same : t.offset ≡ u.offset = ap (λ (x : Timestamp). x.offset) is.1.same in
    record {
      moment = is.0;
      offset = rw same offset;
      utc = (u, utc_is_back u t m offset (sym e));
      precision =
          let P : Timestamp → Type 0 = λ x. KeepsPrecision x.precision x in
          subst P (sym is.1.same) (keeps-moved u.precision u t.year t.month t.day t.hour t.minute date keeps);
    }
local-told u (Err x) e m offset date keeps =
    let local = local-is u m offset in
    let is = rw (← e) at local.refused in
    inr (inr is.0)

-- the same with the offset of the body
in_local_time-told : (o : List ℕ) (u : Timestamp) → IsMoment u → IsTold u → IsReading (in_local_time o u)
in_local_time-told o u m told =
    elim (cases_Bool (is_date u.precision)) [
      | inl date ↦ rw date (record { moment = m; offset = rw told.unknown tt; utc = (u, utc_of-unknown u m told.unknown); precision = told.precision })
      | inr time ↦ elim (cases_lt 1439 (var_int_magnitude o)) [
        | inl more ↦ rw (time, lt-leb (var_int_magnitude o) 1439 more) (inr (inr refl))
        | inr small ↦
            let v : Timestamp = record u { offset = offset_in o } in
            let moment : IsMoment v = record { year = m.year; date = m.date; hour = m.hour; minute = m.minute; second = m.second } in
            rw (time, le-leb (var_int_magnitude o) 1439 small)
            (local-told v (local_of v) refl moment (IsOffset-offset_in o small) time (keeps-offset u.precision u (offset_in o) time told.precision))
      ]
    ]

-- or it is refused
in_utc-told : (o : List ℕ) (b : Bool) (u : Option Timestamp) → (b ≡ true → IfSome u IsTold) → IsReading (timestamp_in_utc o b u)
in_utc-told o b None told = inr (inr refl)
in_utc-told o b (Some u) told =
    elim (cases_Bool (is_moment u && b)) [
      | inl k ↦ let parts = and_parts (is_moment u) b k in rw k (in_local_time-told o u (is_moment-is u parts.0) (told parts.1))
      | inr k ↦ rw k (inr (inr refl))
    ]

of_fields-told : (f : List (List ℕ)) (c : List ℕ) → digits_after_point (exponent_in f) ≤ 38 → IsReading (timestamp_of_fields f c)
of_fields-told [] c few = inr (inr refl)
of_fields-told (o ∷ f) c few = in_utc-told o (is_fraction (exponent_in (o ∷ f)) c) (utc_fields f (int_magnitude c)) (λ ok. fields-told o f c few ok)

-- of fields, and of a body
cut-told : (f : List (List ℕ)) (c : List ℕ) → IsReading (timestamp_of_cut (Some (f, c)))
cut-told f c =
    elim (cases_Bool (nat_le (2 ^ 128) (int_magnitude c) || nat_lt 38 (digits_after_point (exponent_in f)))) [
      | inl k ↦ rw k (inr (inl refl))
      | inr k ↦ rw k (let parts = or_parts _ _ k in of_fields-told f c (ltb-false _ _ parts.1))
    ]

some-told : (o : Option (List (List ℕ) × List ℕ)) → IsReading (timestamp_of_cut o)
some-told None = inl refl
some-told (Some cut) = cut-told cut.0 cut.1

bytes-told : (b : List ℕ) → IsReading (timestamp_of_bytes b)
unfolding timestamp_of_bytes
bytes-told b = some-told (fields_cut 8 b)

reading : (r : Result Timestamp Reason) → IsReading r → IfOk r IsTimestamp × IfErr r IsRefusal
reading (Ok t) is = (is, tt)
reading (Err e) is = (tt, is)

pub bytes-reading : (b : List ℕ) (r : Result Timestamp Reason) → r ≡ timestamp_of_bytes b → IfOk r IsTimestamp × IfErr r IsRefusal
bytes-reading b r e = reading r (rw e (bytes-told b))
