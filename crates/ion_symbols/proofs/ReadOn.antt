-- What follows a part of a stream is read from where the part leads, and its declarations alone lead to the same symbol table.
use Rattle.std.proofs.Common.{◌≡◌, ℕ, suc, ◌+◌, ◌≤◌, Bool, true, false, ◌&&◌, ◌==◌, if◌then◌else◌, List, [], ◌∷◌, ◌++◌, length, Option, Some, None, refl, sym, ap, subst, ◌∙◌, arith}
use Rattle.ion_meter.specs.declared.fault.Reason.{Reason}
use Rattle.ion_value.specs.Reading.{Reading, More, Step, Ends, Stops, Gives, GoesOn, items_then}
use Rattle.ion_value.specs.Standing.{is_marker}
use Rattle.ion_value.specs.Value.{PlacedItem}
use Rattle.ion_symbols.specs.Declaration as d
use Rattle.ion_symbols.specs.Declaration.{Ground, Declaring, Turn, on, made, stop, turn, item_view}
use Rattle.ion_symbols.specs.Onward.{Led, with_own, led_by, led, resets, kept_by, declarations_from, UsersReadOn, DeclarationsLeaveTheTable, ValuesKeepTheTable}
use Rattle.ion_symbols.specs.Table.{Shared, Table, system, text_at}
use Rattle.ion_symbols.specs.Users.{Checked, fine, bad, checked, resolve, Mode, plain, declaring, State, at_start, level_after, is_struct, declares, begins_declaration, after_check, turned, plain_step, mode_step, user_step, by_step, users}

-- ---- what follows

some-is : (x y : Led) → Some x ≡ Some y → x ≡ y
some-is x y e = cc e

none-is : {A : Type 0} (x : Led) → None ≡ Some x → A
none-is x e = absurd (cc e)

module _ (catalog : List Shared) (limit : ℕ) where
  abbrev Then : Reading → Reading → Led → Type 0
  Then r rest l = r ≡ items_then l.mine (users catalog limit l.after rest)

  own-then : (own : PlacedItem) (x : Option Led) (r rest : Reading) (l : Led) → ((k : Led) → x ≡ Some k → Then r rest k) → with_own own x ≡ Some l → Then (More own r) rest l
  own-then own None r rest l more e = none-is l e
  own-then own (Some k) r rest l more e = subst (λ (l : Led). Then (More own r) rest l) (some-is _ l e) (ap (More own) (more k refl))

  step-then : (o : Step State) (f : State → Option Led) (k : State → Reading) (rest : Reading) (l : Led) → ((t : State) (m : Led) → f t ≡ Some m → Then (k t) rest m)
      → led_by o f ≡ Some l → Then (by_step o k) rest l
  step-then Ends f k rest l more e = none-is l e
  step-then (Stops reason place) f k rest l more e = none-is l e
  step-then (Gives own t) f k rest l more e = own-then own (f t) (k t) rest l (more t) e
  step-then (GoesOn t) f k rest l more e = more t l e

  read-on : (items : List PlacedItem) (s : State) (l : Led) (rest : Reading) → led catalog limit s items ≡ Some l → Then (users catalog limit s (items_then items rest)) rest l
  read-on [] s l rest e = subst (λ (l : Led). Then (users catalog limit s rest) rest l) (some-is _ l e) refl
  read-on (i ∷ items) s l rest e = step-then (user_step catalog limit s i) _ _ rest l (λ t m is. read-on items t m rest is) e

  -- ---- items that give no user value, and others after them

  none-given : {A : Type 0} (own : PlacedItem) (x : Option Led) (s : State) → with_own own x ≡ Some (record { mine = []; after = s }) → A
  none-given own None s e = absurd (cc e)
  none-given own (Some k) s e = let lists : own ∷ k.mine ≡ [] = ap (λ (l : Led). l.mine) (some-is _ _ e) in absurd (cc lists)

  append-step : (o : Step State) (f k : State → Option Led) (s : State) (goal : Option Led) → ((t : State) → f t ≡ Some (record { mine = []; after = s }) → k t ≡ goal)
      → led_by o f ≡ Some (record { mine = []; after = s }) → led_by o k ≡ goal
  append-step Ends f k s goal more e = none-is _ e
  append-step (Stops reason place) f k s goal more e = none-is _ e
  append-step (Gives own t) f k s goal more e = none-given own (f t) s e
  append-step (GoesOn t) f k s goal more e = more t e

  led-append : (xs ys : List PlacedItem) (s t : State) → led catalog limit s xs ≡ Some (record { mine = []; after = t }) → led catalog limit s (xs ++ ys) ≡ led catalog limit t ys
  led-append [] ys s t e = ap (λ (l : Led). led catalog limit l.after ys) (some-is _ _ e)
  led-append (x ∷ xs) ys s t e = append-step (user_step catalog limit s x) _ _ t (led catalog limit t ys) (λ u is. led-append xs ys u t is) e

  -- ---- declarations alone

  -- a user value may be open, or not be there
  data Sunk : Mode → Mode → Type 0 where
    plainly : (n : ℕ) → Sunk (plain n) (plain 0)
    the_same : (now : Declaring) → Sunk (declaring now) (declaring now)

  -- an item gives a user value, and leaves the table, or is taken in from where user values are not there, too; the table behind a marker is
  -- that of the beginning
  data Sinks (t : Table) (i : PlacedItem) (m w : Mode) : Step State → Type 0 where
    refused : (reason : Reason) (place : ℕ) → Sinks t i m w (Stops reason place)
    given : (own : PlacedItem) (n : ℕ) → w ≡ plain 0 → Sinks t i m w (Gives own (record { table = t; mode = plain n }))
    started : resets m i ≡ true → Sinks t i m w (GoesOn at_start)
    taken : (u : Table) (n v : Mode) → resets m i ≡ false → Sunk n v → mode_step catalog limit t i w ≡ GoesOn (record { table = u; mode = v })
        → Sinks t i m w (GoesOn (record { table = u; mode = n }))

  both-second : (a b : Bool) → (a && b) ≡ true → b ≡ true
  both-second true b e = e
  both-second false b e = absurd (cc e)

  -- what an item does that begins a declaration, and one of a user value
  abbrev opened : Table → Checked → Step State
  opened t c = after_check c (GoesOn (record { table = t; mode = declaring d.start }))

  abbrev passed : Table → ℕ → PlacedItem → Checked → Step State
  passed t n i c = after_check c (Gives (resolve t i) (record { table = t; mode = plain (level_after n i.head) }))

  plain-sinks : (t : Table) (n : ℕ) (i : PlacedItem) → Sinks t i (plain n) (plain 0) (plain_step t n i)
  plain-sinks t n i = by (is_marker i.head) refl
    where
      with_check : (c : Checked) → checked t false i ≡ c → is_marker i.head ≡ false → begins_declaration t 0 i ≡ true → Sinks t i (plain n) (plain 0) (opened t c)
      with_check fine e plain_one opens = taken t (declaring d.start) (declaring d.start) plain_one (the_same d.start) (rw (plain_one, opens, e) refl)
      with_check (bad reason place) e plain_one opens = refused reason place

      user : (c : Checked) → Sinks t i (plain n) (plain 0) (passed t n i c)
      user fine = given (resolve t i) (level_after n i.head) refl
      user (bad reason place) = refused reason place

      otherwise : (b : Bool) → begins_declaration t n i ≡ b → is_marker i.head ≡ false → Sinks t i (plain n) (plain 0) (if b then opened t (checked t false i) else passed t n i (checked t true i))
      otherwise true e plain_one = with_check (checked t false i) refl plain_one (both-second (n == 0) (is_struct i.head && declares t i.annotations) e)
      otherwise false e plain_one = user (checked t true i)

      by : (b : Bool) → is_marker i.head ≡ b
          → Sinks t i (plain n) (plain 0) (if b then GoesOn (record { table = system; mode = plain 0 }) else if begins_declaration t n i then opened t (checked t false i) else passed t n i (checked t true i))
      by true e = started e
      by false e = otherwise (begins_declaration t n i) refl e

  abbrev ground : Table → Ground
  ground t = record { catalog = catalog; limit = limit; old = t }

  declaring-sinks : (t : Table) (now : Declaring) (i : PlacedItem) → Sinks t i (declaring now) (declaring now) (mode_step catalog limit t i (declaring now))
  declaring-sinks t now i = by (checked t false i) refl
    where
      turned-sinks : (x : Turn) → mode_step catalog limit t i (declaring now) ≡ turned t x → Sinks t i (declaring now) (declaring now) (turned t x)
      turned-sinks (on next) e = taken t (declaring next) (declaring next) refl (the_same next) e
      turned-sinks (made u) e = taken u (plain 0) (plain 0) refl (plainly 0) e
      turned-sinks (stop reason place) e = refused reason place

      by : (c : Checked) → checked t false i ≡ c → Sinks t i (declaring now) (declaring now) (after_check c (turned t (turn (ground t) now (item_view (text_at t) i))))
      by fine e = turned-sinks (turn (ground t) now (item_view (text_at t) i)) (ap (λ (c : Checked). after_check c (turned t (turn (ground t) now (item_view (text_at t) i)))) e)
      by (bad reason place) e = refused reason place

  mode-sinks : (t : Table) (m w : Mode) (i : PlacedItem) → Sunk m w → Sinks t i m w (mode_step catalog limit t i m)
  mode-sinks t _ _ i (plainly n) = plain-sinks t n i
  mode-sinks t _ _ i (the_same now) = declaring-sinks t now i

  -- what is kept leads there, where user values are not there
  abbrev Keeps : List PlacedItem → State → Type 0
  Keeps kept s = (w : Mode) × Sunk s.mode w × (led catalog limit at_start kept ≡ Some (record { mine = []; after = record { table = s.table; mode = w } }))

  own-keeps : (own : PlacedItem) (x : Option Led) (l : Led) (kept : List PlacedItem) → ((k : Led) → x ≡ Some k → Keeps kept k.after) → with_own own x ≡ Some l → Keeps kept l.after
  own-keeps own None l kept more e = none-is l e
  own-keeps own (Some k) l kept more e = subst (λ (l : Led). Keeps kept l.after) (some-is _ l e) (more k refl)

  step-keeps : (t : Table) (m w : Mode) (i : PlacedItem) (o : Step State) (kept : List PlacedItem) (f : State → Option Led) (k : State → List PlacedItem → List PlacedItem) (l : Led)
      → Sinks t i m w o → Sunk m w → led catalog limit at_start kept ≡ Some (record { mine = []; after = record { table = t; mode = w } })
      → ((u : State) (others : List PlacedItem) (x : Led) → Keeps others u → f u ≡ Some x → Keeps (k u others) x.after)
      → led_by o f ≡ Some l → Keeps (kept_by kept (if resets m i then [] else kept ++ i ∷ []) o k) l.after
  step-keeps t m w i _ kept f k l (refused reason place) sunk is more e = none-is l e
  step-keeps t m w i _ kept f k l (given own n bare) sunk is more e =
      let kept_is : led catalog limit at_start kept ≡ Some (record { mine = []; after = record { table = t; mode = plain 0 } }) =
      is ∙ ap (λ (w : Mode). Some (record { mine = []; after = record { table = t; mode = w } })) bare in
      own-keeps own (f (record { table = t; mode = plain n })) l (k (record { table = t; mode = plain n }) kept) (λ x leads. more (record { table = t; mode = plain n }) kept x (plain 0, plainly n, kept_is) leads) e
  step-keeps t m w i _ kept f k l (started set) sunk is more e =
      rw set (more at_start [] l (plain 0, plainly 0, refl) e)
  step-keeps t m w i _ kept f k l (taken u n v unset after same) sunk is more e =
      let grown : led catalog limit at_start (kept ++ i ∷ []) ≡ Some (record { mine = []; after = record { table = u; mode = v } }) =
      led-append kept (i ∷ []) at_start (record { table = t; mode = w }) is ∙ ap (λ (o : Step State). led_by o (λ s. Some (record { mine = []; after = s }))) same in
      rw unset (more (record { table = u; mode = n }) (kept ++ i ∷ []) l (v, after, grown) e)

  keeps-all : (items kept : List PlacedItem) (s : State) (l : Led) → Keeps kept s → led catalog limit s items ≡ Some l → Keeps (declarations_from catalog limit s kept items) l.after
  keeps-all [] kept s l keeps e = subst (λ (l : Led). Keeps kept l.after) (some-is _ l e) keeps
  keeps-all (i ∷ items) kept s l keeps e =
      step-keeps s.table s.mode keeps.0 i (user_step catalog limit s i) kept _ _ l (mode-sinks s.table s.mode keeps.0 i keeps.1) keeps.1 keeps.2
      (λ u others x keeps leads. keeps-all items others u x keeps leads) e

  sunk-plain : (w : Mode) → Sunk (plain 0) w → w ≡ plain 0
  sunk-plain w s = by (plain 0) w s refl
    where
      by : (m w : Mode) → Sunk m w → m ≡ plain 0 → w ≡ plain 0
      by _ _ (plainly n) e = refl
      by _ _ (the_same now) e = absurd (cc e)

  -- ---- items of user values alone

  -- a step that gives an item leaves the table
  checked-table : (c : Checked) (x own : PlacedItem) (s t : State) → after_check c (Gives x s) ≡ Gives own t → s ≡ t
  checked-table fine x own s t e = cc e
  checked-table (bad reason place) x own s t e = absurd (cc e)

  checked-on : {A : Type 0} (c : Checked) (s t : State) (own : PlacedItem) → after_check c (GoesOn s) ≡ Gives own t → A
  checked-on fine s t own e = absurd (cc e)
  checked-on (bad reason place) s t own e = absurd (cc e)

  turned-on : {A : Type 0} (c : Checked) (u : Table) (x : Turn) (own : PlacedItem) (t : State) → after_check c (turned u x) ≡ Gives own t → A
  turned-on fine u (on now) own t e = absurd (cc e)
  turned-on fine u (made v) own t e = absurd (cc e)
  turned-on fine u (stop reason place) own t e = absurd (cc e)
  turned-on (bad reason place) u x own t e = absurd (cc e)

  gives-table : (u : Table) (m : Mode) (i own : PlacedItem) (t : State) → mode_step catalog limit u i m ≡ Gives own t → t.table ≡ u
  gives-table u (declaring now) i own t e = turned-on (checked u false i) u _ own t e
  gives-table u (plain n) i own t e = by (is_marker i.head) (begins_declaration u n i) e
    where
      by : (a b : Bool)
          → (if a then GoesOn (record { table = system; mode = plain 0 }) else if b then after_check (checked u false i) (GoesOn (record { table = u; mode = declaring d.start }))
          else after_check (checked u true i) (Gives (resolve u i) (record { table = u; mode = plain (level_after n i.head) }))) ≡ Gives own t
          → t.table ≡ u
      by true b e = absurd (cc e)
      by false true e = checked-on (checked u false i) _ t own e
      by false false e = ap (λ (s : State). s.table) (sym (checked-table (checked u true i) (resolve u i) own _ t e))

  own-few : (own : PlacedItem) (n : ℕ) (x : Option Led) (l : Led) → ((k : Led) → x ≡ Some k → length k.mine ≤ n) → with_own own x ≡ Some l → length l.mine ≤ suc n
  own-few own n None l more e = none-is l e
  own-few own n (Some k) l more e = let few = more k refl in let same = ap (λ (l : Led). length l.mine) (some-is _ l e) in omega (arith, few, same)

  step-few : (n : ℕ) (o : Step State) (f : State → Option Led) (l : Led) → ((t : State) (k : Led) → f t ≡ Some k → length k.mine ≤ n) → led_by o f ≡ Some l → length l.mine ≤ suc n
  step-few n Ends f l more e = none-is l e
  step-few n (Stops reason place) f l more e = none-is l e
  step-few n (Gives own t) f l more e = own-few own n (f t) l (more t) e
  step-few n (GoesOn t) f l more e = let few = more t l e in omega (arith, few)

  few-given : (items : List PlacedItem) (s : State) (l : Led) → led catalog limit s items ≡ Some l → length l.mine ≤ length items
  few-given [] s l e = let same = ap (λ (l : Led). length l.mine) (some-is _ l e) in omega (arith, same)
  few-given (i ∷ items) s l e = step-few (length items) (user_step catalog limit s i) _ l (λ t k is. few-given items t k is) e

  own-table : (own : PlacedItem) (n : ℕ) (u : Table) (x : Option Led) (l : Led) → ((k : Led) → x ≡ Some k → length k.mine ≡ n → k.after.table ≡ u) → with_own own x ≡ Some l → length l.mine ≡ suc n
      → l.after.table ≡ u
  own-table own n u None l more e all = none-is l e
  own-table own n u (Some k) l more e all =
      let same = some-is _ l e in
      let rest : length k.mine ≡ n = omega (arith, ap (λ (l : Led). length l.mine) same, all) in
      ap (λ (l : Led). l.after.table) (sym same) ∙ more k refl rest

  step-table : (n : ℕ) (s : State) (o : Step State) (f : State → Option Led) (l : Led) → ((own : PlacedItem) (t : State) → o ≡ Gives own t → t.table ≡ s.table)
      → ((t : State) (k : Led) → f t ≡ Some k → length k.mine ≡ n → k.after.table ≡ t.table) → ((t : State) (k : Led) → f t ≡ Some k → length k.mine ≤ n)
      → led_by o f ≡ Some l → length l.mine ≡ suc n → l.after.table ≡ s.table
  step-table n s Ends f l gives more few e all = none-is l e
  step-table n s (Stops reason place) f l gives more few e all = none-is l e
  step-table n s (Gives own t) f l gives more few e all = own-table own n s.table (f t) l (λ k is rest. more t k is rest ∙ gives own t refl) e all
  step-table n s (GoesOn t) f l gives more few e all = absurd (omega (arith, few t l e, all))

  values-keep : (items : List PlacedItem) (s : State) (l : Led) → led catalog limit s items ≡ Some l → length l.mine ≡ length items → l.after.table ≡ s.table
  values-keep [] s l e all = ap (λ (l : Led). l.after.table) (sym (some-is _ l e))
  values-keep (i ∷ items) s l e all =
      step-table (length items) s (user_step catalog limit s i) _ l (λ own t is. gives-table s.table s.mode i own t is) (λ t k is rest. values-keep items t k is rest)
      (λ t k is. few-given items t k is) e (omega (arith, all))

  -- behind others
  own-behind : (own : PlacedItem) (n : ℕ) (x y : Option Led) (l k : Led)
      → ((i j : Led) → x ≡ Some i → y ≡ Some j → length j.mine ≡ length i.mine + n → j.after.table ≡ i.after.table)
      → with_own own x ≡ Some l → with_own own y ≡ Some k → length k.mine ≡ length l.mine + n → k.after.table ≡ l.after.table
  own-behind own n None y l k more e f count = none-is l e
  own-behind own n (Some i) None l k more e f count = none-is k f
  own-behind own n (Some i) (Some j) l k more e f count =
      let first = some-is _ l e in
      let all = some-is _ k f in
      let rest : length j.mine ≡ length i.mine + n = omega (arith, ap (λ (l : Led). length l.mine) first, ap (λ (l : Led). length l.mine) all, count) in
      ap (λ (l : Led). l.after.table) (sym all) ∙ more i j refl refl rest ∙ ap (λ (l : Led). l.after.table) first

  step-behind : (n : ℕ) (o : Step State) (f g : State → Option Led) (l k : Led)
      → ((t : State) (i j : Led) → f t ≡ Some i → g t ≡ Some j → length j.mine ≡ length i.mine + n → j.after.table ≡ i.after.table)
      → led_by o f ≡ Some l → led_by o g ≡ Some k → length k.mine ≡ length l.mine + n → k.after.table ≡ l.after.table
  step-behind n Ends f g l k more e is count = none-is l e
  step-behind n (Stops reason place) f g l k more e is count = none-is l e
  step-behind n (Gives own t) f g l k more e is count = own-behind own n (f t) (g t) l k (more t) e is count
  step-behind n (GoesOn t) f g l k more e is count = more t l k e is count

  values-behind : (items more : List PlacedItem) (s : State) (l k : Led) → led catalog limit s items ≡ Some l → led catalog limit s (items ++ more) ≡ Some k
      → length k.mine ≡ length l.mine + length more → k.after.table ≡ l.after.table
  values-behind [] more s l k e f count =
      let same = some-is _ l e in
      let all : length k.mine ≡ length more = omega (arith, ap (λ (l : Led). length l.mine) same, count) in
      values-keep more s k f all ∙ ap (λ (l : Led). l.after.table) same
  values-behind (i ∷ items) more s l k e f count =
      step-behind (length more) (user_step catalog limit s i) _ _ l k (λ t x y is and count. values-behind items more t x y is and count) e f count

pub users-read-on : UsersReadOn
users-read-on catalog limit s items l rest e = read-on catalog limit items s l rest e

pub declarations-leave-the-table : DeclarationsLeaveTheTable
declarations-leave-the-table catalog limit items mine t e =
    let keeps = keeps-all catalog limit items [] at_start _ (plain 0, plainly 0, refl) e in
    keeps.2 ∙ ap (λ (w : Mode). Some (record { mine = []; after = record { table = t; mode = w } })) (sunk-plain catalog limit keeps.0 keeps.1)

pub values-keep-the-table : ValuesKeepTheTable
values-keep-the-table catalog limit items more mine all t u e f count = values-behind catalog limit items more at_start _ _ e f count
