-- Checks of the symbols of an item, one after the other.
use Rattle.std.proofs.Common.{◌≡◌, ℕ, zero, suc, ◌+◌, ◌<◌, Bool, List, [], ◌∷◌, map, length, drop, slice_get, Option, Some, None, Result, Ok, Err, refl, ap, sym, subst, ◌∙◌, arith, add-one}
use Rattle.std.specs.Result.{IsErr, IsErrAnd}
use Rattle.ion_meter.specs.declared.fault.Fault.{Fault}
use Rattle.ion_value.specs.Value.{SymbolAt, Head, PlacedItem, map_head, end}
use Rattle.ion_value.specs.Items.{named_at, named_item}
use Rattle.ion_value.proofs.Items.{named_item-none}
use Rattle.ion_symbols.specs.Table.{Table}
use Rattle.ion_symbols.specs.Users.{Checked, fine, bad, or_else, at_checked, checked, field_checked, head_checked, annotations_checked}
use Rattle.ion_symbols.specs.User.{CheckedAs}

-- an item with these annotations
abbrev annotated : List SymbolAt → PlacedItem
annotated annotations = record { field = None; annotations = annotations; head = end; place = 0; top = 0 }

-- names without texts leave annotations as they are
pub plain_annotations : (annotations : List SymbolAt) → map (named_at (λ _. None)) annotations ≡ annotations
plain_annotations annotations = ap (λ i. i.annotations) (named_item-none (annotated annotations))

-- one check after the other
pub or_fine : (a b : Checked) (x : Result Unit Fault) → CheckedAs a (Ok tt) → CheckedAs b x → CheckedAs (or_else a b) x
or_fine fine b x h k = k
or_fine (bad reason place) b x h k = absurd (cc h)

pub or_bad : (a b : Checked) (fault : Fault) → CheckedAs a (Err fault) → CheckedAs (or_else a b) (Err fault)
or_bad fine b fault h = absurd (cc h)
or_bad (bad reason place) b fault h = h

-- the fault that `?` returns
pub returned : (r : Result Unit Fault) (e : Fault) → IsErr r × IsErrAnd r (λ y. y ≡ e) → Err e ≡ r
returned (Ok x) e given = absurd (cc given.0)
returned (Err y) e given = ap Err (sym given.1)

-- the checks of the parts of an item are that of the item
pub item_checked : (t : Table) (user : Bool) (i : PlacedItem) (f : Option SymbolAt) (ns : List SymbolAt) (h : Head SymbolAt) (x : Result Unit Fault)
    → f ≡ (named_item (λ _. None) i).field → ns ≡ (named_item (λ _. None) i).annotations → h ≡ (named_item (λ _. None) i).head
    → CheckedAs (or_else (field_checked t user f) (or_else (annotations_checked t user ns) (head_checked t user h))) x → CheckedAs (checked t user i) x
item_checked t user i f ns h x a b c k = subst (λ j. CheckedAs (checked t user j) x) (named_item-none i) (rw (sym a, sym b, sym c) k)

-- the annotations from a place on
abbrev at_place : Table → Bool → List SymbolAt → ℕ → Option SymbolAt → Checked
at_place t user annotations i None = fine
at_place t user annotations i (Some s) = or_else (at_checked t user s) (annotations_checked t user (drop (suc i) annotations))

pub annotations_from : (t : Table) (user : Bool) (annotations : List SymbolAt) (i : ℕ) → annotations_checked t user (drop i annotations) ≡ at_place t user annotations i (slice_get annotations i)
annotations_from t user [] zero = refl
annotations_from t user [] (suc i) = refl
annotations_from t user (s ∷ ss) zero = refl
annotations_from t user (s ∷ ss) (suc i) = lifted (slice_get ss i) (annotations_from t user ss i)
  where
    lifted : (o : Option SymbolAt) → annotations_checked t user (drop i ss) ≡ at_place t user ss i o → annotations_checked t user (drop i ss) ≡ at_place t user (s ∷ ss) (suc i) o
    lifted None h = h
    lifted (Some u) h = h

pub got_within : {T : Type 0} (xs : List T) (i : ℕ) (x : T) → slice_get xs i ≡ Some x → i < length xs
got_within [] i x h = absurd (cc h)
got_within (y ∷ ys) zero x h = omega arith
got_within (y ∷ ys) (suc i) x h = omega (arith, got_within ys i x h)

-- what a place has, of annotations as they are named by no names
pub got_plain : (annotations : List SymbolAt) (i : ℕ) (o : Option SymbolAt) → o ≡ slice_get (map (named_at (λ _. None)) annotations) i → slice_get annotations i ≡ o
got_plain annotations i o h = subst (λ ns. slice_get ns i ≡ o) (plain_annotations annotations) (sym h)

-- an annotation at fault is the first where those before it are fine
pub annotations_bad : (t : Table) (user : Bool) (annotations : List SymbolAt) (i : ℕ) (s : SymbolAt) (fault : Fault)
    → annotations_checked t user annotations ≡ annotations_checked t user (drop i annotations) → slice_get annotations i ≡ Some s → CheckedAs (at_checked t user s) (Err fault)
    → CheckedAs (annotations_checked t user annotations) (Err fault)
annotations_bad t user annotations i s fault h e k = rw (h, annotations_from t user annotations i, e) (or_bad (at_checked t user s) (annotations_checked t user (drop (suc i) annotations)) fault k)

first_fine : (a b : Checked) → CheckedAs a (Ok tt) → or_else a b ≡ b
first_fine fine b h = refl
first_fine (bad reason place) b h = absurd (cc h)

-- and one that is fine leaves it to those after it
pub annotations_going : (t : Table) (user : Bool) (annotations : List SymbolAt) (i : ℕ) (s : SymbolAt)
    → annotations_checked t user annotations ≡ annotations_checked t user (drop i annotations) → slice_get annotations i ≡ Some s → CheckedAs (at_checked t user s) (Ok tt)
    → annotations_checked t user annotations ≡ annotations_checked t user (drop (i + 1) annotations)
annotations_going t user annotations i s h e k =
    h ∙ (annotations_from t user annotations i ∙ (ap (at_place t user annotations i) e ∙ (first_fine (at_checked t user s) (annotations_checked t user (drop (suc i) annotations)) k
    ∙ ap (λ n. annotations_checked t user (drop n annotations)) (sym (add-one i)))))

pub annotations_end : (t : Table) (user : Bool) (annotations : List SymbolAt) (i : ℕ)
    → annotations_checked t user annotations ≡ annotations_checked t user (drop i annotations) → slice_get annotations i ≡ None → CheckedAs (annotations_checked t user annotations) (Ok tt)
annotations_end t user annotations i h e = rw (h, annotations_from t user annotations i, e) refl

-- names without texts leave a head as it is
pub plain_head : (head : Head SymbolAt) → map_head (named_at (λ _. None)) head ≡ head
plain_head head = ap (λ i. i.head) (named_item-none (record { field = None; annotations = []; head = head; place = 0; top = 0 }))
