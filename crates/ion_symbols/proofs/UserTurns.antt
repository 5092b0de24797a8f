-- What one raw item gives in the reader of user values.
use Rattle.std.proofs.Common.{◌≡◌, ℕ, ◌^◌, ◌<◌, ◌≤◌, true, false, List, length, Some, Result, Ok, Err, refl, ap, sym, ◌∙◌, arith, length-drop}
use Rattle.std.proofs.lemmas.Grind.{common_steps}
use Rattle.ion_meter.specs.Counts.{Counts}
use Rattle.ion_meter.specs.declared.fault.Reason.{Reason}
use Rattle.ion_meter.specs.declared.fault.Fault.{Fault}
use Rattle.ion_meter.specs.declared.fault.Fault.TheVariants.{Refused}
use Rattle.ion_value.specs.declared.ion_type.Kind.{Kind}
use Rattle.ion_value.specs.Value as value
use Rattle.ion_value.specs.Value.{SymbolAt, Head, PlacedItem}
use Rattle.ion_value.specs.Reading.{Reading, More, Stopped, Gives}
use Rattle.ion_value.specs.Shares.{ReadCauses}
use Rattle.ion_value.specs.Standing.{Fits, is_marker, open_after}
use Rattle.ion_symbols.specs.Table.{Shared, Table}
use Rattle.ion_symbols.specs.Users.{Checked, fine, bad, begins_declaration, by_step, checked, level_after, plain, plain_step, resolve, users}
use Rattle.ion_symbols.specs.User.{CheckedAs, MayCome}
use Rattle.ion_symbols.proofs.Turns.{is_bad}

-- a check answers no fault but a refusal
pub check_causes : (a : Checked) (fault : Fault) (old new : Counts) (failures_old failures_new : ℕ) (exceeds : Type 0)
    → CheckedAs a (Err fault) → new.refused ≡ old.refused → failures_new ≡ failures_old → ReadCauses (Some fault) old new failures_old failures_new exceeds
check_causes fine fault old new fs gs exceeds h k l = absurd (cc h)
check_causes (bad reason place) fault old new fs gs exceeds h k l = rw (is_refused h) (record {
  memory = λ e. absurd (cc e);
  counted = λ _. k;
  device = λ e. absurd (cc e);
  steady = λ _. l;
  limit = λ e. absurd (cc e);
  no_writes = λ e. absurd (cc e);
})
  where
    is_refused : ◌≡◌ {A = Result (Unit {0}) Fault} (Err fault) (Err (Refused reason place)) → fault ≡ Refused reason place
    is_refused e = cc e

is_fine : (a : Checked) → CheckedAs a (Ok tt) → a ≡ fine
is_fine fine h = refl
is_fine (bad reason place) h = absurd (cc h)

-- an item of a user value whose symbols are fine is given
pub item_given : (catalog : List Shared) (limit : ℕ) (t : Table) (n : ℕ) (i : PlacedItem) (r rest : Reading)
    → r ≡ More i rest → is_marker i.head ≡ false → begins_declaration t n i ≡ false → CheckedAs (checked t true i) (Ok tt)
    → users catalog limit (record { table = t; mode = plain n }) r
    ≡ More (resolve t i) (users catalog limit (record { table = t; mode = plain (level_after n i.head) }) rest)
item_given catalog limit t n i r rest e marker begins is_checked =
    ap (users catalog limit (record { table = t; mode = plain n })) e
    ∙ ap (λ s. by_step s (λ u. users catalog limit u rest)) (step marker begins (is_fine (checked t true i) is_checked))
  where
    step : is_marker i.head ≡ false → begins_declaration t n i ≡ false → checked t true i ≡ fine → plain_step t n i ≡ Gives (resolve t i) (record { table = t; mode = plain (level_after n i.head) })
    step a b c = rw (a, b, c) refl

-- an item of a user value whose symbols are not fine is refused
pub item_refused : (catalog : List Shared) (limit : ℕ) (t : Table) (n : ℕ) (i j : PlacedItem) (r rest : Reading) (fault : Fault) (reason : Reason) (place : ℕ)
    → r ≡ More i rest → j ≡ i → is_marker i.head ≡ false → begins_declaration t n i ≡ false
    → CheckedAs (checked t true j) (Err fault) → fault ≡ Refused reason place
    → users catalog limit (record { table = t; mode = plain n }) r ≡ Stopped reason place
item_refused catalog limit t n i j r rest fault reason place e same marker begins says is =
    rw (e, marker, begins, sym same, is_bad (checked t true j) fault reason place says is) refl

-- how many containers are open after an item
pub level_opens : (count n : ℕ) (before after : List Kind) (h : Head SymbolAt)
    → n ≡ length before → count ≡ level_after n h → after ≡ open_after before h → count ≡ length after
level_opens count n before after (value.whole body) e k o = k ∙ (e ∙ sym (ap length o))
level_opens count n before after (value.begin kind) e k o = omega (arith, e, k, ap length o)
level_opens count n before after value.end e k o = omega (arith, e, k, ap length o, length-drop 1 before)
level_opens count n before after value.marker e k o = k ∙ (e ∙ sym (ap length o))

-- so few containers are open that one more can be counted
pub level_small : (n level depth : ℕ) → n ≡ level → level ≤ depth → depth ≤ 65535 → n < 2 ^ 31
level_small n level depth e h k = omega (arith, e, h, k)

-- with its symbols resolved an item may come where the raw one may
pub item_comes : (t : Table) (depth : ℕ) (before after : List Kind) (i : PlacedItem)
    → Fits depth before i → is_marker i.head ≡ false → after ≡ open_after before i.head → MayCome depth before after (resolve t i)
item_comes t depth before after i fits marker opens = grind (arith, common_steps)
