-- How many containers are open after an item of a declaration, and what an item does to the user items to come.
use Rattle.std.proofs.Common.{arith, refl, sym, ap, subst, ◌∙◌, if◌then◌else◌, ◌≡◌, ℕ, zero, suc, ◌+◌, ◌-◌, Bool, true, false, List, [], ◌∷◌, length, length-drop, Option, Some, None, Result, Ok, Err}
use Rattle.ion_meter.specs.declared.fault.Reason.{Reason}
use Rattle.ion_meter.specs.declared.fault.Fault.{Fault}
use Rattle.ion_meter.specs.declared.fault.Fault.TheVariants.{Refused, Memory, ReadFault, WriteFault, InputLimit}
use Rattle.ion_meter.specs.Counts.{Counts}
use Rattle.ion_value.specs.Shares.{ReadCauses}
use Rattle.ion_value.specs.declared.ion_type.Kind.{Kind}
use Rattle.ion_value.specs.declared.ion_type.Kind.TheVariants as kind
use Rattle.ion_value.specs.Value as value
use Rattle.ion_value.specs.Value.{SymbolAt, Scalar, Head, PlacedItem}
use Rattle.ion_value.specs.Reading.{Reading, Stopped, More}
use Rattle.ion_value.specs.Standing.{open_after}
use Rattle.ion_symbols.specs.declared.known_text.Word.{Word}
use Rattle.ion_symbols.specs.declared.known_text.Word.TheVariants as word
use Rattle.ion_symbols.specs.declared.known_text.Area.{Area}
use Rattle.ion_symbols.specs.declared.known_text.Area.TheVariants as area
use Rattle.ion_symbols.specs.Table.{Shared, Table, text_at}
use Rattle.ion_symbols.specs.Declaration.{FieldValue, begins, ends, other, string, int, names, ItemView, Pending, Declaring, Ground, Turn, on, made, stop, Held, then_turn, at, skip_ignored, is_end, head_view, scalar_view, item_view, turn, turn_at, area_turn, field_turn, field_value, field_met, element_turn, with_slot, imports_turn, part_turn, part_value, part_met, import_ended, next, keeping, string_in, versioned, version_in, cut_to, max_id_in, with_import_name}
use Rattle.ion_symbols.specs.Users.{Checked, fine, bad, plain, declaring, checked, users}
use Rattle.ion_symbols.specs.User.{CheckedAs}
use Rattle.ion_symbols.specs.Buffer.{TurnAs, area_depth, depth_of}

-- ---- depths

-- how many containers are open after an item
abbrev pub depth_after : ℕ → FieldValue → ℕ
depth_after n (begins kind) = n + 1
depth_after n ends = n - 1
depth_after n other = n
depth_after n (string t) = n
depth_after n (int negative magnitude) = n
depth_after n (names w) = n

-- what a turn says of the depth: it goes on at the depth after the item, or ends at an end at depth 1
abbrev pub DepthAs : ℕ → FieldValue → Turn → Type 0
DepthAs n what (on e) = depth_of e ≡ depth_after n what
DepthAs n what (made u) = (n ≡ 1) × (what ≡ ends)
DepthAs n what (stop reason place) = Unit {0}

-- what is seen as an end is an end
is_end-true : (what : FieldValue) → is_end what ≡ true → what ≡ ends
is_end-true (begins kind) e = cc
is_end-true ends e = refl
is_end-true other e = cc
is_end-true (string t) e = cc
is_end-true (int negative magnitude) e = cc
is_end-true (names w) e = cc

-- what is ignored is passed over: the depth moves by it, but for an end where nothing is open
skip_ignored-depth : (what : FieldValue) (d : Declaring) → is_end what ≡ false → DepthAs (depth_of d) what (on (skip_ignored what d))
skip_ignored-depth (begins kind) d e = omega arith
skip_ignored-depth ends d e = cc
skip_ignored-depth other d e = refl
skip_ignored-depth (string t) d e = refl
skip_ignored-depth (int negative magnitude) d e = refl
skip_ignored-depth (names w) d e = refl

-- and inside of what is ignored also by an end
inside-depth : (what : FieldValue) (d : Declaring) (n : ℕ) → d.inside ≡ suc n → DepthAs (depth_of d) what (on (skip_ignored what d))
inside-depth (begins kind) d n e = omega arith
inside-depth ends d n e = omega arith
inside-depth other d n e = refl
inside-depth (string t) d n e = refl
inside-depth (int negative magnitude) d n e = refl
inside-depth (names w) d n e = refl

-- what is held says no more of the depth than what follows
then_turn-depth : (n : ℕ) (what : FieldValue) (h : Held) (later : Pending → Turn) → ((p : Pending) → DepthAs n what (later p)) → DepthAs n what (then_turn h later)
then_turn-depth n what (Ok p) later says = says p
then_turn-depth n what (Err why) later says = tt

-- a field's value
imports_value-depth : (g : Ground) (place : ℕ) (what : FieldValue) (p : Pending) → is_end what ≡ false → DepthAs 1 what (field_value g place word.Imports what p)
imports_value-depth g place (begins kind.List) p e = refl
imports_value-depth g place (begins kind.Sexp) p e = refl
imports_value-depth g place (begins kind.Struct) p e = refl
imports_value-depth g place ends p e = cc
imports_value-depth g place other p e = refl
imports_value-depth g place (string t) p e = refl
imports_value-depth g place (int negative magnitude) p e = refl
imports_value-depth g place (names word.Declaration) p e = then_turn-depth 1 (names word.Declaration) (keeping g place p) (λ q. on (at area.Fields q)) (λ q. refl)
imports_value-depth g place (names word.Name) p e = refl
imports_value-depth g place (names word.Version) p e = refl
imports_value-depth g place (names word.MaxId) p e = refl
imports_value-depth g place (names word.Imports) p e = refl
imports_value-depth g place (names word.Symbols) p e = refl
imports_value-depth g place (names word.Other) p e = refl

symbols_value-depth : (g : Ground) (place : ℕ) (what : FieldValue) (p : Pending) → is_end what ≡ false → DepthAs 1 what (field_value g place word.Symbols what p)
symbols_value-depth g place (begins kind.List) p e = refl
symbols_value-depth g place (begins kind.Sexp) p e = refl
symbols_value-depth g place (begins kind.Struct) p e = refl
symbols_value-depth g place ends p e = cc
symbols_value-depth g place other p e = refl
symbols_value-depth g place (string t) p e = refl
symbols_value-depth g place (int negative magnitude) p e = refl
symbols_value-depth g place (names w) p e = refl

field_value-depth : (g : Ground) (place : ℕ) (w : Word) (what : FieldValue) (p : Pending) → is_end what ≡ false → DepthAs 1 what (field_value g place w what p)
field_value-depth g place word.Imports what p e = imports_value-depth g place what p e
field_value-depth g place word.Symbols what p e = symbols_value-depth g place what p e
field_value-depth g place word.Name what p e = skip_ignored-depth what (at area.Fields p) e
field_value-depth g place word.Version what p e = skip_ignored-depth what (at area.Fields p) e
field_value-depth g place word.MaxId what p e = skip_ignored-depth what (at area.Fields p) e
field_value-depth g place word.Declaration what p e = skip_ignored-depth what (at area.Fields p) e
field_value-depth g place word.Other what p e = skip_ignored-depth what (at area.Fields p) e

-- a part of an import
name_value-depth : (g : Ground) (place : ℕ) (what : FieldValue) (p : Pending) → is_end what ≡ false → DepthAs 3 what (part_value g place word.Name what p)
name_value-depth g place (begins kind) p e = refl
name_value-depth g place ends p e = cc
name_value-depth g place other p e = refl
name_value-depth g place (string t) p e = then_turn-depth 3 (string t) (with_import_name g place t p) (λ q. on (at area.Import q)) (λ q. refl)
name_value-depth g place (int negative magnitude) p e = refl
name_value-depth g place (names w) p e = refl

part_value-depth : (g : Ground) (place : ℕ) (w : Word) (what : FieldValue) (p : Pending) → is_end what ≡ false → DepthAs 3 what (part_value g place w what p)
part_value-depth g place word.Name what p e = name_value-depth g place what p e
part_value-depth g place word.Version what p e = skip_ignored-depth what (at area.Import (versioned (version_in what) p)) e
part_value-depth g place word.MaxId what p e = skip_ignored-depth what (at area.Import (cut_to (max_id_in what) p)) e
part_value-depth g place word.Imports what p e = skip_ignored-depth what (at area.Import p) e
part_value-depth g place word.Symbols what p e = skip_ignored-depth what (at area.Import p) e
part_value-depth g place word.Declaration what p e = skip_ignored-depth what (at area.Import p) e
part_value-depth g place word.Other what p e = skip_ignored-depth what (at area.Import p) e

-- an element of `imports`, or the end of the list
imports-depth : (t : ItemView) (p : Pending) (what : FieldValue) → DepthAs 2 what (imports_turn t p what)
imports-depth t p (begins kind.List) = refl
imports-depth t p (begins kind.Sexp) = refl
imports-depth t p (begins kind.Struct) = refl
imports-depth t p ends = refl
imports-depth t p other = refl
imports-depth t p (string b) = refl
imports-depth t p (int negative magnitude) = refl
imports-depth t p (names w) = refl

-- each area, by whether the item is an end
fields-depth : (g : Ground) (t : ItemView) (p : Pending) (b : Bool) → is_end t.what ≡ b → DepthAs 1 t.what (if b then made (next g.old p) else field_turn g t p)
fields-depth g t p true e = (refl, is_end-true t.what e)
fields-depth g t p false e =
    then_turn-depth 1 t.what (field_met t.field_place t.field p) (λ q. field_value g t.place t.field t.what q) (λ q. field_value-depth g t.place t.field t.what q e)

symbols-depth : (g : Ground) (t : ItemView) (p : Pending) (b : Bool) → is_end t.what ≡ b
    → DepthAs 2 t.what (if b then on (at area.Fields p) else element_turn g t p)
symbols-depth g t p true e = rw (is_end-true t.what e) refl
symbols-depth g t p false e =
    then_turn-depth 2 t.what (with_slot g t.place (string_in t.what) p) (λ q. on (skip_ignored t.what (at area.Symbols q))) (λ q. skip_ignored-depth t.what (at area.Symbols q) e)

import-depth : (g : Ground) (t : ItemView) (p : Pending) (b : Bool) → is_end t.what ≡ b
    → DepthAs 3 t.what (if b then then_turn (import_ended g p) (λ q. on (at area.Imports q)) else part_turn g t p)
import-depth g t p true e = then_turn-depth 3 t.what (import_ended g p) (λ q. on (at area.Imports q)) (λ q. rw (is_end-true t.what e) refl)
import-depth g t p false e =
    then_turn-depth 3 t.what (part_met t.field_place t.field p) (λ q. part_value g t.place t.field t.what q) (λ q. part_value-depth g t.place t.field t.what q e)

area-depth : (g : Ground) (t : ItemView) (p : Pending) (a : Area) → DepthAs (area_depth a) t.what (area_turn g t p a)
area-depth g t p area.Fields = fields-depth g t p (is_end t.what) refl
area-depth g t p area.Symbols = symbols-depth g t p (is_end t.what) refl
area-depth g t p area.Imports = imports-depth t p t.what
area-depth g t p area.Import = import-depth g t p (is_end t.what) refl

turn_at-depth : (g : Ground) (d : Declaring) (t : ItemView) (n : ℕ) → d.inside ≡ n → DepthAs (depth_of d) t.what (turn_at g d t n)
turn_at-depth g d t zero e =
    let same : area_depth d.area ≡ depth_of d = omega arith in
    subst (λ (m : ℕ). DepthAs m t.what (area_turn g t d.pending d.area)) same (area-depth g t d.pending d.area)
turn_at-depth g d t (suc n) e = inside-depth t.what d n e

-- a turn goes on at the depth after the item, or ends at an end at depth 1
pub turn-depth : (g : Ground) (d : Declaring) (t : ItemView) → DepthAs (depth_of d) t.what (turn g d t)
turn-depth g d t = turn_at-depth g d t d.inside refl

-- ---- the open containers of a reader

scalar-depth : (texts : ℕ → Option (List ℕ)) (n : ℕ) (x : Scalar SymbolAt) → n ≡ depth_after n (scalar_view texts x)
scalar-depth texts n (value.null type) = refl
scalar-depth texts n (value.bool truth) = refl
scalar-depth texts n (value.int number) = refl
scalar-depth texts n (value.float number) = refl
scalar-depth texts n (value.decimal number) = refl
scalar-depth texts n (value.timestamp moment) = refl
scalar-depth texts n (value.symbol s) = refl
scalar-depth texts n (value.string t) = refl
scalar-depth texts n (value.clob bytes) = refl
scalar-depth texts n (value.blob bytes) = refl

-- a head opens and closes as many containers as it says
open-depth : (texts : ℕ → Option (List ℕ)) (kinds : List Kind) (h : Head SymbolAt)
    → length (open_after kinds h) ≡ depth_after (length kinds) (head_view texts h)
open-depth texts kinds (value.whole body) = scalar-depth texts (length kinds) body
open-depth texts kinds (value.begin kind) = omega arith
open-depth texts kinds value.end = length-drop 1 kinds
open-depth texts kinds value.marker = refl

-- a list without length is empty
none : {A : Type 0} (xs : List A) → length xs ≡ 0 → xs ≡ []
none [] e = refl
none (x ∷ xs) e = absurd (omega arith)

-- where a declaration goes on, its depth stays the reader's
pub level-on : (texts : ℕ → Option (List ℕ)) (g : Ground) (d e : Declaring) (i j : PlacedItem) (old new : List Kind)
    → length old ≡ depth_of d → new ≡ open_after old i.head → j ≡ i → turn g d (item_view texts j) ≡ on e → length new ≡ depth_of e
level-on texts g d e i j old new level opens same is =
    let says : depth_of e ≡ depth_after (depth_of d) (head_view texts j.head) = rw is at (turn-depth g d (item_view texts j)) in
    let opened : new ≡ open_after old j.head = rw same opens in
    ap length opened ∙ open-depth texts old j.head ∙ ap (λ (n : ℕ). depth_after n (head_view texts j.head)) level ∙ sym says

-- and where it ends, none is open
pub level-made : (texts : ℕ → Option (List ℕ)) (g : Ground) (d : Declaring) (u : Table) (i j : PlacedItem) (old new : List Kind)
    → length old ≡ depth_of d → new ≡ open_after old i.head → j ≡ i → turn g d (item_view texts j) ≡ made u → new ≡ []
level-made texts g d u i j old new level opens same is =
    let says : (depth_of d ≡ 1) × (head_view texts j.head ≡ ends) = rw is at (turn-depth g d (item_view texts j)) in
    let opened : new ≡ open_after old j.head = rw same opens in
    let one : depth_after (length old) (head_view texts j.head) ≡ 0 = rw (level, says.0, says.1) refl in
    none new (ap length opened ∙ open-depth texts old j.head ∙ one)

-- ---- the user items to come

-- a check that answers no fault found none
is_fine : (k : Checked) (x : Result Unit Fault) → CheckedAs k x → x ≡ Ok tt → k ≡ fine
is_fine fine x says e = refl
is_fine (bad reason place) x says e = cc

-- an item on which a declaration goes on: the user items to come, which were those of the first reading, are those after it
pub goes_on : (catalog : List Shared) (limit : ℕ) (t : Table) (d e : Declaring) (i j : PlacedItem) (first old new : Reading) (x : Result Unit Fault)
    → first ≡ users catalog limit (record { table = t; mode = declaring d }) old → old ≡ More i new → j ≡ i
    → CheckedAs (checked t false j) x → x ≡ Ok tt
    → turn (record { catalog = catalog; limit = limit; old = t }) d (item_view (text_at t) j) ≡ on e
    → first ≡ users catalog limit (record { table = t; mode = declaring e }) new
goes_on catalog limit t d e i j first old new x came more same says ok turns =
    came ∙ (rw (more, sym same, is_fine (checked t false j) x says ok, turns) refl)

-- an item that ends it: the user items to come are those of the table that it makes
pub goes_out : (catalog : List Shared) (limit : ℕ) (t : Table) (d : Declaring) (u : Table) (i j : PlacedItem) (first old new : Reading) (x : Result Unit Fault)
    → first ≡ users catalog limit (record { table = t; mode = declaring d }) old → old ≡ More i new → j ≡ i
    → CheckedAs (checked t false j) x → x ≡ Ok tt
    → turn (record { catalog = catalog; limit = limit; old = t }) d (item_view (text_at t) j) ≡ made u
    → first ≡ users catalog limit (record { table = u; mode = plain 0 }) new
goes_out catalog limit t d u i j first old new x came more same says ok turns =
    came ∙ (rw (more, sym same, is_fine (checked t false j) x says ok, turns) refl)

-- an item that it refuses
pub turn_refused : (catalog : List Shared) (limit : ℕ) (t : Table) (d : Declaring) (i j : PlacedItem) (first old new : Reading)
    (x : Result Unit Fault) (reason : Reason) (place : ℕ)
    → first ≡ users catalog limit (record { table = t; mode = declaring d }) old → old ≡ More i new → j ≡ i
    → CheckedAs (checked t false j) x → x ≡ Ok tt
    → turn (record { catalog = catalog; limit = limit; old = t }) d (item_view (text_at t) j) ≡ stop reason place
    → first ≡ Stopped reason place
turn_refused catalog limit t d i j first old new x reason place came more same says ok turns =
    came ∙ (rw (more, sym same, is_fine (checked t false j) x says ok, turns) refl)

-- symbols that are not fine are bad at the place of the refusal
pub is_bad : (k : Checked) (fault : Fault) (reason : Reason) (place : ℕ) → CheckedAs k (Err fault) → fault ≡ Refused reason place → k ≡ bad reason place
is_bad fine fault reason place says e = cc
is_bad (bad r p) fault reason place says e = cc

-- an item whose symbols are refused
pub check_refused : (catalog : List Shared) (limit : ℕ) (t : Table) (d : Declaring) (i j : PlacedItem) (first old new : Reading)
    (fault : Fault) (reason : Reason) (place : ℕ)
    → first ≡ users catalog limit (record { table = t; mode = declaring d }) old → old ≡ More i new → j ≡ i
    → CheckedAs (checked t false j) (Err fault) → fault ≡ Refused reason place → first ≡ Stopped reason place
check_refused catalog limit t d i j first old new fault reason place came more same says is =
    came ∙ (rw (more, sym same, is_bad (checked t false j) fault reason place says is) refl)

-- ---- faults

-- what answers an item had not failed
pub not_failed : (o : Option Fault) (x : Result Bool Fault) → ((f : Fault) → o ≡ Some f → x ≡ Err f) → (b : Bool) → x ≡ Ok b → o ≡ None
not_failed None x again b e = refl
not_failed (Some f) x again b e = let bad : x ≡ Err f = again f refl in cc

-- a turn refuses for its own reason
pub stopped : (u : Turn) (fault : Fault) (d : Declaring) (t : Table) (reason : Reason) (place : ℕ)
    → TurnAs u (Err fault) d t → fault ≡ Refused reason place → u ≡ stop reason place
stopped u (Refused r p) d t reason place says e = cc
stopped u Memory d t reason place says e = cc
stopped u ReadFault d t reason place says e = cc
stopped u WriteFault d t reason place says e = cc
stopped u InputLimit d t reason place says e = cc

-- a check's fault is a refusal, whose causes are those of no fault
pub check_causes : (k : Checked) (fault : Fault) (old new : Counts) (before after : ℕ) (exceeds : Type 0)
    → CheckedAs k (Err fault) → ReadCauses None old new before after exceeds → ReadCauses (Some fault) old new before after exceeds
check_causes fine fault old new before after exceeds says causes = cc
check_causes (bad reason place) fault old new before after exceeds says causes =
    let is : fault ≡ Refused reason place = cc in
    record {
      memory = λ e. cc;
      counted = λ e. causes.counted (λ o. cc);
      device = λ e. cc;
      steady = λ e. causes.steady (λ o. cc);
      limit = λ e. cc;
      no_writes = λ e. cc;
    }
