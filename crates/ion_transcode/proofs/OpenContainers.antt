-- No step of a reading opens a container where as many are open as the limit says, in either form.
use Rattle.std.proofs.Common.{◌≡◌, ℕ, suc, ◌+◌, ◌-◌, ◌<◌, Bool, true, false, not, ◌&&◌, nat_le, nat_lt, nat_eq, sum_by, if◌then◌else◌, List, [], ◌∷◌, ◌++◌, length, take as first_of_list, Option, Some, None, Result, Ok, Err, IfOk, refl, subst, arith}
use Rattle.std.proofs.lemmas.Bool.{leb-false}
use lib.Ieee.{Float}
use Rattle.ion_meter.specs.declared.fault.Reason.{Reason}
use Rattle.ion_meter.specs.declared.fault.Reason.TheVariants as reasons
use Rattle.ion_meter.specs.declared.fault.Reason.TheVariants.{Truncated, Overrun, BadAnnotation, BadDescriptor, BadToken, BadVersion, ScalarLimit, DepthLimit, AnnotationLimit}
use Rattle.ion_meter.specs.declared.profile.Rules.{Rules}
use Rattle.ion_meter.specs.Sources.{Cursor}
use Rattle.ion_value.specs.declared.ion_type.Kind.{Kind}
use Rattle.ion_value.specs.declared.ion_type.Kind.TheVariants as kind
use Rattle.ion_value.specs.Parts.{Placed, part, refuse, ◌>>=◌, ◌>>◌}
use Rattle.ion_value.specs.Reading.{Step, Ends, Stops, Gives, GoesOn}
use Rattle.ion_value.specs.Scalar.{scalar_of_body}
use Rattle.ion_value.specs.Value as value
use Rattle.ion_value.specs.Value.{Symbol, SymbolAt, Scalar, Head}
use Rattle.ion_binary.specs.Descriptor as descriptor
use Rattle.ion_binary.specs.Descriptor.{Region, passes, falls_short, octet_at, var_uint_at, length_at, Shape, shape_of, is_unwrappable}
use Rattle.ion_binary.specs.Positions.{Frame}
use Rattle.ion_binary.specs.Positions as binary_positions
use Rattle.ion_binary.specs.Reading as binary
use Rattle.ion_binary.specs.Reading.{Around, TypedValue, a_nop_pad, a_marker, a_scalar, a_container}
use Rattle.ion_text_in.specs.Blanks.{blanks}
use Rattle.ion_text_in.specs.Positions.{at, Wants, a_value, a_field, a_separator, State, innermost, in_sexp}
use Rattle.ion_text_in.specs.Reading as text
use Rattle.ion_text_in.specs.Token as tokens
use Rattle.ion_text_in.specs.Token.{First, Token, plain, name, operator, comma, colon, colons, first_at, token_of}

-- a container may begin where fewer are open than may be
abbrev pub HasRoom : {S : Type 0} → ℕ → ℕ → Head S → Type 0
HasRoom most n (value.whole body) = Unit {0}
HasRoom most n (value.begin kind) = n < most
HasRoom most n value.end = Unit {0}
HasRoom most n value.marker = Unit {0}

-- how many containers are open after the head of an item
abbrev pub open_after : {S : Type 0} → ℕ → Head S → ℕ
open_after n (value.whole body) = n
open_after n (value.begin kind) = suc n
open_after n value.end = n - 1
open_after n value.marker = n

-- what a step does where so many are open; `count` counts them in the state that it leaves
abbrev pub Opens : {T : Type 0} → ℕ → (T → ℕ) → ℕ → Step T → Type 0
Opens most count n Ends = Unit {0}
Opens most count n (Stops reason place) = Unit {0}
Opens most count n (Gives item after) = HasRoom most n item.head × (count after ≡ open_after n item.head)
Opens most count n (GoesOn after) = count after ≡ n

room : (most n : ℕ) → nat_le most n ≡ false → n < most
room most n e = leb-false most n e

-- ---- text

abbrev pub open_in_text : State → ℕ
open_in_text s = length s.kinds

abbrev Fine : Rules → ℕ → Placed (Step State) → Type 0
Fine limits n o = Opens limits.depth open_in_text n (text.step_of o)

fine-refuse : (limits : Rules) (n p : ℕ) (b : Bool) (reason : Reason) (o : Result (Step State) Reason) → Fine limits n (part p o)
    → Fine limits n (part p (refuse b reason >> o))
fine-refuse limits n p true reason o h = tt
fine-refuse limits n p false reason o h = h

end-fine : (limits : Rules) (kinds : List Kind) (top : ℕ) (k : Kind) (p : ℕ) (c : Cursor)
    → Fine limits (length kinds) (part p (text.end_step kinds top k p c))
end-fine limits [] top k p c = tt
end-fine limits (j ∷ kinds) top k p c =
    fine-refuse limits (length (j ∷ kinds)) p (not (text.is_same j k)) BadToken _ (tt, omega arith)

bare-fine : (limits : Rules) (field : Option SymbolAt) (annotations : List SymbolAt) (kinds : List Kind) (top : ℕ) (k : Kind)
    (p : ℕ) (c : Cursor) → Fine limits (length kinds) (part p (text.bare_end_step field annotations kinds top k p c))
bare-fine limits None [] kinds top k p c = end-fine limits kinds top k p c
bare-fine limits None (a ∷ annotations) kinds top k p c = tt
bare-fine limits (Some a) annotations kinds top k p c = tt

told-fine : (limits : Rules) (kinds : List Kind) (top : ℕ) (field : Option SymbolAt) (annotations : List SymbolAt) (a : SymbolAt)
    (p : ℕ) (c : Cursor) (told : Bool)
    → Fine limits (length kinds) (part p (text.value_or_version kinds top field annotations a c told))
told-fine limits kinds top field annotations a p c true =
    fine-refuse limits (length kinds) p (not (text.is_marker a.symbol)) BadVersion _ (tt, refl)
told-fine limits kinds top field annotations a p c false = (tt, refl)

symbol-fine : (limits : Rules) (kinds : List Kind) (top : ℕ) (field : Option SymbolAt) (annotations : List SymbolAt)
    (quoted : Bool) (a : SymbolAt) (p : ℕ) (c : Cursor) (o : Option Cursor)
    → Fine limits (length kinds) (part p (text.symbol_step limits kinds top field annotations quoted a c o))
symbol-fine limits kinds top field annotations quoted a p c None =
    told-fine limits kinds top field annotations a p c (text.tells_version (innermost kinds) annotations quoted a.symbol)
symbol-fine limits kinds top field annotations quoted a p c (Some d) =
    fine-refuse limits (length kinds) p (nat_lt limits.scalar (sum_by text.cost (annotations ++ a ∷ []))) AnnotationLimit _ refl

begin-fine : (limits : Rules) (kinds : List Kind) (top : ℕ) (field : Option SymbolAt) (annotations : List SymbolAt) (k : Kind)
    (p : ℕ) (c : Cursor) → Fine limits (length kinds) (part p (text.begin_step limits kinds top field annotations k p c))
begin-fine limits kinds top field annotations k p c = by (nat_le limits.depth (length kinds)) refl
  where
    by : (b : Bool) → nat_le limits.depth (length kinds) ≡ b
        → Fine limits (length kinds) (part p (refuse b DepthLimit
        >> Ok (text.item_step kinds top field annotations p (value.begin k) (k ∷ kinds) (text.member_of k) c)))
    by true e = tt
    by false e = (room limits.depth (length kinds) e, refl)

float-fine : (limits : Rules) (kinds : List Kind) (top : ℕ) (field : Option SymbolAt) (annotations : List SymbolAt) (p : ℕ)
    (number : Option Float) (c : Cursor)
    → Fine limits (length kinds) (part p (text.float_step limits kinds top field annotations p number c))
float-fine limits kinds top field annotations p number c =
    fine-refuse limits (length kinds) p (not limits.floats) reasons.Float _ (by number)
  where
    by : (n : Option Float) → Fine limits (length kinds)
        (part p (text.in_range n >>= (λ x. Ok (text.scalar_step kinds top field annotations p (value.float x) c))))
    by (Some x) = (tt, refl)
    by None = tt

colon-fine : (limits : Rules) (kinds : List Kind) (top : ℕ) (a : SymbolAt) (c : Cursor) (first : First)
    → Fine limits (length kinds) (text.colon_of kinds top a c first)
colon-fine limits kinds top a c tokens.a_colon = refl
colon-fine limits kinds top a c tokens.a_run = tt
colon-fine limits kinds top a c tokens.a_word = tt
colon-fine limits kinds top a c tokens.a_quoted = tt
colon-fine limits kinds top a c tokens.a_short = tt
colon-fine limits kinds top a c tokens.a_long = tt
colon-fine limits kinds top a c tokens.a_lob = tt
colon-fine limits kinds top a c tokens.an_operator = tt
colon-fine limits kinds top a c tokens.an_infinity = tt
colon-fine limits kinds top a c (tokens.a_begin k) = tt
colon-fine limits kinds top a c (tokens.an_end k) = tt
colon-fine limits kinds top a c tokens.a_comma = tt
colon-fine limits kinds top a c tokens.two_colons = tt
colon-fine limits kinds top a c tokens.no_token = tt

from-fine : (limits : Rules) (kinds : List Kind) (top : ℕ) (a : SymbolAt) (c : Cursor) (rest : List ℕ)
    → Fine limits (length kinds) (text.colon_from kinds top a c rest)
from-fine limits kinds top a c [] = tt
from-fine limits kinds top a c (b ∷ rest) = colon-fine limits kinds top a c (first_at false (b ∷ rest))

field-fine : (limits : Rules) (kinds : List Kind) (top : ℕ) (a : SymbolAt) (o : Placed Cursor)
    → Fine limits (length kinds) (o >>= (λ d. text.colon_from kinds top a d d.rest))
field-fine limits kinds top a (Ok d) = from-fine limits kinds top a d d.rest
field-fine limits kinds top a (Err fault) = tt

take-fine : (limits : Rules) (kinds : List Kind) (top : ℕ) (wants : Wants) (p : ℕ) (t : Token) (c : Cursor)
    → Fine limits (length kinds) (text.take limits kinds top wants p t c)
unfolding text.take
take-fine limits kinds top a_separator p (tokens.end k) c = end-fine limits kinds top k p c
take-fine limits kinds top a_separator p comma c = refl
take-fine limits kinds top a_separator p (plain v) c = tt
take-fine limits kinds top a_separator p (name quoted symbol) c = tt
take-fine limits kinds top a_separator p (tokens.text t) c = tt
take-fine limits kinds top a_separator p (operator t) c = tt
take-fine limits kinds top a_separator p (tokens.float number) c = tt
take-fine limits kinds top a_separator p (tokens.begin k) c = tt
take-fine limits kinds top a_separator p colon c = tt
take-fine limits kinds top a_separator p colons c = tt
take-fine limits kinds top a_field p (tokens.end k) c = end-fine limits kinds top k p c
take-fine limits kinds top a_field p (name quoted symbol) c = field-fine limits kinds top (at symbol p) (blanks c)
take-fine limits kinds top a_field p (tokens.text t) c = field-fine limits kinds top (at (value.Text t) p) (blanks c)
take-fine limits kinds top a_field p (plain v) c = tt
take-fine limits kinds top a_field p (operator t) c = tt
take-fine limits kinds top a_field p (tokens.float number) c = tt
take-fine limits kinds top a_field p (tokens.begin k) c = tt
take-fine limits kinds top a_field p comma c = tt
take-fine limits kinds top a_field p colon c = tt
take-fine limits kinds top a_field p colons c = tt
take-fine limits kinds top (a_value field annotations) p (tokens.end k) c = bare-fine limits field annotations kinds top k p c
take-fine limits kinds top (a_value field annotations) p (plain v) c = (tt, refl)
take-fine limits kinds top (a_value field annotations) p (tokens.text t) c = (tt, refl)
take-fine limits kinds top (a_value field annotations) p (operator t) c = (tt, refl)
take-fine limits kinds top (a_value field annotations) p (name quoted symbol) c =
    symbol-fine limits kinds top field annotations quoted (at symbol p) p c (text.after_colons (in_sexp (innermost kinds)) c)
take-fine limits kinds top (a_value field annotations) p (tokens.begin k) c = begin-fine limits kinds top field annotations k p c
take-fine limits kinds top (a_value field annotations) p (tokens.float number) c =
    float-fine limits kinds top field annotations p number c
take-fine limits kinds top (a_value field annotations) p comma c = tt
take-fine limits kinds top (a_value field annotations) p colon c = tt
take-fine limits kinds top (a_value field annotations) p colons c = tt

token-fine : (limits : Rules) (s : State) (p : ℕ) (o : Result (Token × Cursor) Reason)
    → Fine limits (length s.kinds) (part p o >>= (λ t. text.take limits s.kinds s.top s.wants p t.0 t.1))
token-fine limits s p (Ok t) = take-fine limits s.kinds s.top s.wants p t.0 t.1
token-fine limits s p (Err reason) = tt

next-fine : (limits : Rules) (s : State) (c : Cursor) (first : First) (may : Bool)
    → Fine limits (length s.kinds) (text.next_part limits s c first may)
next-fine limits s c first true = token-fine limits s c.place (token_of (Some limits.scalar) first c)
next-fine limits s c first false = tt

final-fine : (limits : Rules) (n : ℕ) (kinds : List Kind) (wants : Wants) (p : ℕ)
    → Fine limits n (text.final_step kinds wants p)
final-fine limits n [] (a_value None []) p = tt
final-fine limits n [] (a_value None (a ∷ annotations)) p = tt
final-fine limits n [] (a_value (Some a) annotations) p = tt
final-fine limits n [] a_field p = tt
final-fine limits n [] a_separator p = tt
final-fine limits n (k ∷ kinds) wants p = tt

after-fine : (limits : Rules) (s : State) (c : Cursor) (rest : List ℕ)
    → Fine limits (length s.kinds) (text.part_after limits s c rest)
after-fine limits s c [] = final-fine limits (length s.kinds) s.kinds s.wants c.place
after-fine limits s c (b ∷ rest) =
    let first = first_at (in_sexp (innermost s.kinds)) (b ∷ rest) in next-fine limits s c first (text.may_come s.wants first)

part-fine : (limits : Rules) (s : State) (o : Placed Cursor)
    → Fine limits (length s.kinds) (o >>= (λ c. text.part_after limits s c c.rest))
part-fine limits s (Ok c) = after-fine limits s c c.rest
part-fine limits s (Err fault) = tt

pub text-opens : (limits : Rules) (s : State) → Opens limits.depth open_in_text (open_in_text s) (text.step limits s)
unfolding text.step text.part_at
text-opens limits s = part-fine limits s (blanks s.cursor)

-- ---- binary

-- what holds of all that a call may give
bind-if : {A B E : Type 0} (Q : B → Type 0) (r : Result A E) (f : A → Result B E) → ((x : A) → IfOk (f x) Q) → IfOk (r >>= f) Q
bind-if Q (Ok x) f h = h x
bind-if Q (Err e) f h = tt

then-if : {A B E : Type 0} (Q : B → Type 0) (r : Result A E) (s : Result B E) → IfOk s Q → IfOk (r >> s) Q
then-if Q (Ok x) s h = h
then-if Q (Err e) s h = tt

-- a container is found where fewer are open than may be
abbrev MayStand : ℕ → ℕ → TypedValue → Type 0
MayStand most n a_nop_pad = Unit {0}
MayStand most n a_marker = Unit {0}
MayStand most n (a_scalar v) = Unit {0}
MayStand most n (a_container k end) = n < most

abbrev Found : Rules → ℕ → TypedValue × Cursor → Type 0
Found limits n v = MayStand limits.depth n v.0

begin-found : (limits : Rules) (a : Around) (k : Kind) (n : ℕ) (c : Cursor)
    → IfOk (binary.begin_at limits a k n c) (Found limits a.depth)
unfolding binary.begin_at
begin-found limits a k n c = then-if (Found limits a.depth) (binary.fits a c.place n) _ (by (nat_le limits.depth a.depth) refl)
  where
    by : (b : Bool) → nat_le limits.depth a.depth ≡ b
        → IfOk (refuse b DepthLimit >> Ok (a_container k (c.place + n), c)) (Found limits a.depth)
    by true e = tt
    by false e = room limits.depth a.depth e

scalar-found : (limits : Rules) (a : Around) (type_code length_code : ℕ) (c : Cursor)
    → IfOk (binary.scalar_at limits a type_code length_code c) (Found limits a.depth)
unfolding binary.scalar_at binary.body_at
scalar-found limits a type_code length_code c =
    bind-if (Found limits a.depth) (length_at length_code a.region c) _
    (λ n. then-if (Found limits a.depth) (binary.fits a n.1.place n.0) _
    (then-if (Found limits a.depth) (refuse (nat_lt limits.scalar n.0) ScalarLimit) _
    (then-if (Found limits a.depth) (refuse (nat_lt (length n.1.rest) n.0) Truncated) _
    (bind-if (Found limits a.depth) (scalar_of_body type_code (first_of_list n.0 n.1.rest)) _ (λ v. tt)))))

by_descriptor-found : (limits : Rules) (a : Around) (s : Shape) (c : Cursor)
    → IfOk (binary.read_by_descriptor limits a s c) (Found limits a.depth)
unfolding binary.read_by_descriptor binary.bare_at binary.nop_pad_at binary.container_at binary.sorted_at binary.marker_at
by_descriptor-found limits a (descriptor.null t) c =
    then-if (Found limits a.depth) (refuse (a.wrapped && falls_short a.region c.place 0) BadAnnotation) _ tt
by_descriptor-found limits a (descriptor.bool truth) c =
    then-if (Found limits a.depth) (refuse (a.wrapped && falls_short a.region c.place 0) BadAnnotation) _ tt
by_descriptor-found limits a (descriptor.nop_pad length_code) c =
    bind-if (Found limits a.depth) (length_at length_code a.region c) _
    (λ n. then-if (Found limits a.depth) (refuse (passes a.region n.1.place n.0) Overrun) _
    (then-if (Found limits a.depth) (refuse (nat_lt (length n.1.rest) n.0) Truncated) _ tt))
by_descriptor-found limits a (descriptor.wrapper length_code) c = tt
by_descriptor-found limits a (descriptor.body type_code length_code) c = scalar-found limits a type_code length_code c
by_descriptor-found limits a (descriptor.container k length_code) c =
    bind-if (Found limits a.depth) (length_at length_code a.region c) _ (λ n. begin-found limits a k n.0 n.1)
by_descriptor-found limits a descriptor.sorted c =
    bind-if (Found limits a.depth) (var_uint_at a.region c) _
    (λ n. then-if (Found limits a.depth) (refuse (nat_eq n.0 0) BadDescriptor) _ (begin-found limits a kind.Struct n.0 n.1))
by_descriptor-found limits a descriptor.marker c =
    then-if (Found limits a.depth) (refuse (not (binary.is_top a.region)) BadDescriptor) _
    (then-if (Found limits a.depth) (binary.marker_rest c.rest) _ tt)
by_descriptor-found limits a (descriptor.float length_code) c =
    then-if (Found limits a.depth) (refuse (not limits.floats) reasons.Float) _ (scalar-found limits a 4 length_code c)
by_descriptor-found limits a descriptor.illegal c = tt

value-found : (limits : Rules) (a : Around) (b : ℕ) (c : Cursor)
    → IfOk (binary.typed_value_at limits a b c) (Found limits a.depth)
unfolding binary.typed_value_at
value-found limits a b c =
    then-if (Found limits a.depth) (refuse (a.wrapped && is_unwrappable b) BadAnnotation) _
    (by_descriptor-found limits a (shape_of b) c)

abbrev pub open_in_binary : binary_positions.State → ℕ
open_in_binary s = length s.frames

abbrev Good : Rules → List Frame → Step binary_positions.State → Type 0
Good limits frames o = Opens limits.depth open_in_binary (length frames) o

step_for-good : (limits : Rules) (frames : List Frame) (top : ℕ) (f : Option SymbolAt) (annotations : List SymbolAt) (place : ℕ)
    (v : TypedValue) (c : Cursor) → MayStand limits.depth (length frames) v
    → Good limits frames (binary.step_for frames top f annotations place v c)
step_for-good limits frames top f annotations place a_nop_pad c h = refl
step_for-good limits frames top f annotations place a_marker c h = (tt, refl)
step_for-good limits frames top f annotations place (a_scalar v) c h = (tt, refl)
step_for-good limits frames top f annotations place (a_container k end) c h = (h, refl)

-- a value that is found, as a step
found-good : (limits : Rules) (a : Around) (frames : List Frame) (top : ℕ) (f : Option SymbolAt) (annotations : List SymbolAt)
    (place p b : ℕ) (c : Cursor) → a.depth ≡ length frames
    → IfOk (part p (binary.typed_value_at limits a b c) >>= (λ v. Ok (binary.step_for frames top f annotations place v.0 v.1)))
    (Good limits frames)
found-good limits a frames top f annotations place p b c deep =
    let found = subst (λ (n : ℕ). IfOk (binary.typed_value_at limits a b c) (Found limits n)) deep (value-found limits a b c) in
    by (binary.typed_value_at limits a b c) found
  where
    by : (r : Result (TypedValue × Cursor) Reason) → IfOk r (Found limits (length frames))
        → IfOk (part p r >>= (λ v. Ok (binary.step_for frames top f annotations place v.0 v.1))) (Good limits frames)
    by (Ok v) h = step_for-good limits frames top f annotations place v.0 v.1 h
    by (Err e) h = tt

plain-good : (limits : Rules) (frames : List Frame) (top : ℕ) (f : Option SymbolAt) (place b : ℕ) (c : Cursor)
    → IfOk (binary.plain_at limits frames top f place b c) (Good limits frames)
unfolding binary.plain_at
plain-good limits frames top f place b c =
    let a : Around = record { wrapped = false; region = binary.region_of frames; depth = length frames } in
    found-good limits a frames top f [] place place b c refl

inner-good : (limits : Rules) (frames : List Frame) (top : ℕ) (f : Option SymbolAt) (annotations : List SymbolAt) (end : ℕ)
    (c : Cursor) → IfOk (binary.inner_at limits frames top f annotations end c) (Good limits frames)
unfolding binary.inner_at
inner-good limits frames top f annotations end c =
    let a : Around = record { wrapped = true; region = Some end; depth = length frames } in
    bind-if (Good limits frames) (part c.place (octet_at (Some end) c)) _
    (λ b. found-good limits a frames top f annotations c.place c.place b.0 b.1 refl)

annotated-good : (limits : Rules) (frames : List Frame) (top : ℕ) (f : Option SymbolAt) (place length_code : ℕ) (c : Cursor)
    → IfOk (binary.annotated_at limits frames top f place length_code c) (Good limits frames)
unfolding binary.annotated_at
annotated-good limits frames top f place length_code c =
    bind-if (Good limits frames) (part place (binary.wrapper_at (binary.region_of frames) length_code c)) _
    (λ w. bind-if (Good limits frames) (binary.ids_at w.0.ids limits w.0.ids 0 w.1) _
    (λ annotations. inner-good limits frames top f annotations.0 w.0.end annotations.1))

by_wrapper-good : (limits : Rules) (frames : List Frame) (top : ℕ) (f : Option SymbolAt) (place b : ℕ) (c : Cursor)
    (m : Option ℕ)
    → IfOk (binary.by_wrapper m (λ length_code. binary.annotated_at limits frames top f place length_code c)
    (binary.plain_at limits frames top f place b c)) (Good limits frames)
by_wrapper-good limits frames top f place b c None = plain-good limits frames top f place b c
by_wrapper-good limits frames top f place b c (Some length_code) = annotated-good limits frames top f place length_code c

value-good : (limits : Rules) (frames : List Frame) (top : ℕ) (f : Option SymbolAt) (c : Cursor)
    → IfOk (binary.value_at limits frames top f c) (Good limits frames)
unfolding binary.value_at
value-good limits frames top f c =
    bind-if (Good limits frames) (part c.place (octet_at (binary.region_of frames) c)) _
    (λ b. by_wrapper-good limits frames top f c.place b.0 b.1 (binary.wrapper_length (shape_of b.0)))

member-good : (limits : Rules) (frames : List Frame) (top : ℕ) (c : Cursor)
    → IfOk (binary.member_at limits frames top c) (Good limits frames)
unfolding binary.member_at
member-good limits frames top c =
    bind-if (Good limits frames) (part c.place (binary.field_at frames c)) _
    (λ f. value-good limits frames (binary.top_of frames top c.place) f.0 f.1)

step_of-good : (limits : Rules) (frames : List Frame) (o : Placed (Step binary_positions.State)) → IfOk o (Good limits frames)
    → Good limits frames (binary.step_of o)
step_of-good limits frames (Ok s) h = h
step_of-good limits frames (Err fault) h = tt

in-good : (limits : Rules) (frames : List Frame) (top : ℕ) (c : Cursor) → Good limits frames (binary.step_in limits frames top c)
in-good limits [] top c = at_top c.rest
  where
    at_top : (rest : List ℕ) → Good limits [] (binary.top_step limits top c rest)
    at_top [] = tt
    at_top (b ∷ rest) = step_of-good limits [] (binary.member_at limits [] top c) (member-good limits [] top c)
in-good limits (f ∷ frames) top c = by (nat_le f.end c.place)
  where
    by : (b : Bool) → Good limits (f ∷ frames) (
        if b then Gives (binary.placed_item top None [] c.place value.end) (record { frames = frames; top = top; cursor = c })
        else binary.step_of (binary.member_at limits (f ∷ frames) top c)
        )
    by true = (tt, omega arith)
    by false =
        step_of-good limits (f ∷ frames) (binary.member_at limits (f ∷ frames) top c) (member-good limits (f ∷ frames) top c)

pub binary-opens : (limits : Rules) (s : binary_positions.State)
    → Opens limits.depth open_in_binary (open_in_binary s) (binary.step limits s)
unfolding binary.step
binary-opens limits s = in-good limits s.frames s.top s.cursor
