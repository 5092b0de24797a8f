-- What a raw reader hands to a writer are items of user values.
use Rattle.std.proofs.Common.{◌≡◌, ℕ, ◌+◌, ◌*◌, ◌≤◌, Bool, true, false, List, [], ◌∷◌, map, length, Option, None, Some, Ok, refl, ap, sym, subst, ◌∙◌, arith, if◌then◌else◌}
use Rattle.std.specs.Prelude.{option_map, codes, ◌&&◌, ◌==◌}
use Rattle.std.specs.Str.{bytes_eq}
use Rattle.ion_meter.specs.Counts.{Counts}
use Rattle.ion_value.specs.declared.ion_type.Kind.{Kind}
use Rattle.ion_value.specs.declared.writer.ValueWriter.{Ghosts as WriterOf}
use Rattle.ion_value.specs.Digits.{first_is}
use Rattle.ion_value.specs.Value as value
use Rattle.ion_value.specs.Value.{Symbol, SymbolAt, Scalar, Head, PlacedItem, map_head, map_scalar}
use Rattle.ion_value.specs.Items.{named, named_at, named_item, text_or_id}
use Rattle.ion_value.specs.PlainItems.{HasKnownName, HasNoDollar, HaveNoDollar, IsKnown, IsKnownOrZero, IsPlainHead, IsPlainItem}
use Rattle.ion_value.specs.Feeding.{Joint, Hands, Feeds, nothing, more}
use Rattle.ion_value.specs.Reading.{More}
use Rattle.ion_value.specs.Shares.{Charges}
use Rattle.ion_value.specs.Standing.{is_marker, open_after}
use Rattle.ion_symbols.specs.declared.known_text.Word.TheVariants as word
use Rattle.ion_symbols.specs.Table.{Slot, Shared, Table, known, unknown, gap, above, slot_of, text_at, text_of_slot, word_of}
use Rattle.ion_symbols.specs.Declaration.{word_by_id, word_in}
use Rattle.ion_symbols.specs.Users.{fine, annotations_checked, begins_declaration, checked, declares, field_checked, head_checked, is_declaration, is_struct, level_after, plain, resolve, slot_checked, symbol_checked, users}
use Rattle.ion_symbols.specs.User.{CheckedAs}
use Rattle.ion_value.proofs.Handing.{no_dollar-known}
use Rattle.ion_symbols.proofs.UserTurns.{item_given, level_opens}

-- ---- the symbols of a plain item are fine

slot_fine : (id place : ℕ) (s : Slot) → IsKnown (text_or_id id (text_of_slot s)) → slot_checked true place s ≡ fine
slot_fine id place (known t) text = refl
slot_fine id place unknown text = absurd text
slot_fine id place gap text = absurd text
slot_fine id place above text = absurd text

known_fine : (t : Table) (place : ℕ) (s : Symbol) → IsKnown (named (text_at t) s) → symbol_checked t true place s ≡ fine
known_fine t place (value.Text bytes) text = refl
known_fine t place (value.Id id) text = slot_fine id place (slot_of t id) text

-- so is that of `$0`, whose slot no table gives a text
zero_fine : (t : Table) (place : ℕ) (s : Symbol) → IsKnownOrZero (named (text_at t) s) → symbol_checked t true place s ≡ fine
zero_fine t place (value.Text bytes) fits = refl
zero_fine t place (value.Id id) fits = by_slot (slot_of t id) refl fits
  where
    by_zero : (s : Slot) → slot_of t id ≡ s → id ≡ 0 → slot_checked true place s ≡ fine
    by_zero s is zero = subst (λ (x : Slot). slot_checked true place x ≡ fine) (sym (ap (slot_of t) zero) ∙ is) refl

    by_slot : (s : Slot) → slot_of t id ≡ s → IsKnownOrZero (text_or_id id (text_of_slot s)) → slot_checked true place s ≡ fine
    by_slot (known text) is h = refl
    by_slot unknown is h = by_zero unknown is h
    by_slot gap is h = by_zero gap is h
    by_slot above is h = by_zero above is h

field_fine : (t : Table) (field : Option SymbolAt) → HasKnownName (option_map (named_at (text_at t)) field) → field_checked t true field ≡ fine
field_fine t None text = refl
field_fine t (Some s) text = known_fine t s.place s.symbol text

all_fine : (t : Table) (ss : List SymbolAt) → HaveNoDollar (map (named_at (text_at t)) ss) → annotations_checked t true ss ≡ fine
all_fine t [] free = refl
all_fine t (s ∷ ss) free = rw (known_fine t s.place s.symbol (no_dollar-known (named (text_at t) s.symbol) free.0)) (all_fine t ss free.1)

head_fine : (t : Table) (head : Head SymbolAt) → IsPlainHead (map_head (named_at (text_at t)) head) → head_checked t true head ≡ fine
head_fine t (value.whole (value.null type)) text = refl
head_fine t (value.whole (value.bool truth)) text = refl
head_fine t (value.whole (value.int number)) text = refl
head_fine t (value.whole (value.float number)) text = refl
head_fine t (value.whole (value.decimal number)) text = refl
head_fine t (value.whole (value.timestamp moment)) text = refl
head_fine t (value.whole (value.symbol s)) text = zero_fine t s.place s.symbol text
head_fine t (value.whole (value.string bytes)) text = refl
head_fine t (value.whole (value.clob bytes)) text = refl
head_fine t (value.whole (value.blob bytes)) text = refl
head_fine t (value.begin kind) text = refl
head_fine t value.end text = refl
head_fine t value.marker text = absurd text

item_fine : (t : Table) (i : PlacedItem) → IsPlainItem (named_item (text_at t) i) → CheckedAs (checked t true i) (Ok tt)
item_fine t i is_plain =
    let all : checked t true i ≡ fine = rw (field_fine t i.field is_plain.field, all_fine t i.annotations is_plain.annotations) (head_fine t i.head is_plain.head) in
    rw all refl

-- ---- and it is no marker and begins no declaration

no_marker : (f : SymbolAt → SymbolAt) (head : Head SymbolAt) → IsPlainHead (map_head f head) → is_marker head ≡ false
no_marker f (value.whole body) text = refl
no_marker f (value.begin kind) text = refl
no_marker f value.end text = refl
no_marker f value.marker text = absurd text

other_word : (a b c d e f : Bool) → f ≡ false
    → is_declaration (if a then word.Name else if b then word.Version else if c then word.MaxId else if d then word.Imports else if e then word.Symbols else if f then word.Declaration else word.Other) ≡ false
other_word true b c d e f h = refl
other_word false true c d e f h = refl
other_word false false true d e f h = refl
other_word false false false true e f h = refl
other_word false false false false true f h = refl
other_word false false false false false true h = absurd (cc h)
other_word false false false false false false h = refl

no_dollar : (bytes : List ℕ) → first_is (λ b. b == 36) bytes ≡ false → bytes_eq bytes (codes "$ion_symbol_table") ≡ false
no_dollar [] h = refl
no_dollar (b ∷ bytes) h = rw h refl

free_word : (bytes : List ℕ) → first_is (λ b. b == 36) bytes ≡ false → is_declaration (word_of bytes) ≡ false
free_word bytes free = other_word _ _ _ _ _ _ (no_dollar bytes free)

free_symbol : (texts : ℕ → Option (List ℕ)) (s : Symbol) → HasNoDollar (named texts s) → is_declaration (word_in texts s) ≡ false
free_symbol texts (value.Text bytes) free = free_word bytes free
free_symbol texts (value.Id id) free = by_text (texts id) free
  where
    by_text : (o : Option (List ℕ)) → HasNoDollar (text_or_id id o) → is_declaration (word_by_id o) ≡ false
    by_text None h = absurd h
    by_text (Some bytes) h = free_word bytes h

none_declares : (t : Table) (ss : List SymbolAt) → HaveNoDollar (map (named_at (text_at t)) ss) → declares t ss ≡ false
none_declares t [] free = refl
none_declares t (s ∷ ss) free = free_symbol (text_at t) s.symbol free.0

and_false : (a b c : Bool) → c ≡ false → (a && (b && c)) ≡ false
and_false true true c e = e
and_false true false c e = refl
and_false false b c e = refl

no_declaration : (t : Table) (n : ℕ) (i : PlacedItem) → IsPlainItem (named_item (text_at t) i) → begins_declaration t n i ≡ false
no_declaration t n i is_plain = and_false (n == 0) (is_struct i.head) (declares t i.annotations) (none_declares t i.annotations is_plain.annotations)

-- ---- so it is an item of a user value

open_after-named : (f : SymbolAt → SymbolAt) (kinds : List Kind) (head : Head SymbolAt) → open_after kinds (map_head f head) ≡ open_after kinds head
open_after-named f kinds (value.whole body) = refl
open_after-named f kinds (value.begin kind) = refl
open_after-named f kinds value.end = refl
open_after-named f kinds value.marker = refl

-- where the two stand, as a user of the stream sees it: by a table, and how many containers are open
abbrev pub seen : {W : Type 0} → List Shared → ℕ → Table → ℕ → Joint W → Joint W
seen catalog limit t level j = record {
  coming = users catalog limit (record { table = t; mode = plain level }) j.coming;
  opened = j.opened;
  writer = j.writer;
  pending = j.pending;
  values = j.values;
}

-- the same where as many are open as the reader knows
abbrev as_user : {W : Type 0} → List Shared → ℕ → Table → Joint W → Joint W
as_user catalog limit t j = seen catalog limit t (length j.opened) j

user_hands : {W O A : Type 0} (w : WriterOf W O A) (catalog : List Shared) (limit : ℕ) (t : Table) (reads : Type 0) (old new : Joint W)
    → Hands w (named_item (text_at t)) reads old new → Hands w (λ item. item) reads (as_user catalog limit t old) (as_user catalog limit t new)
user_hands w catalog limit t reads old new h =
    let i = h.item in
    let raw_opens : new.opened ≡ open_after old.opened i.head = h.opens ∙ open_after-named (named_at (text_at t)) old.opened i.head in
    let level : level_after (length old.opened) i.head ≡ length new.opened = level_opens (level_after (length old.opened) i.head) (length old.opened) old.opened new.opened i.head refl refl raw_opens in
    record {
      item = resolve t i;
      plain = h.plain;
      fits = h.fits;
      gives = λ r. item_given catalog limit t (length old.opened) i old.coming new.coming (h.gives r) (no_marker (named_at (text_at t)) i.head h.plain.head)
          (no_declaration t (length old.opened) i h.plain) (item_fine t i h.plain)
          ∙ ap (λ n. More (resolve t i) (users catalog limit (record { table = t; mode = plain n }) new.coming)) level;
      opens = h.opens;
      counts = h.counts;
      limits = h.limits;
      stands = h.stands;
      taken = h.taken;
      puts = h.puts;
    }

feeds_users : {W O A : Type 0} (w : WriterOf W O A) (catalog : List Shared) (limit : ℕ) (t : Table) (reads : Type 0) (old new : Joint W)
    → Feeds w (named_item (text_at t)) reads old new → Feeds w (λ item. item) reads (as_user catalog limit t old) (as_user catalog limit t new)
feeds_users w catalog limit t reads old _ nothing = nothing
feeds_users w catalog limit t reads old new (more now _ feeds hands) =
    more (as_user catalog limit t now) (as_user catalog limit t new) (feeds_users w catalog limit t reads old now feeds) (user_hands w catalog limit t reads now new hands)

-- what a raw reader hands on are items of user values
pub user_feeds : {W O A : Type 0} (w : WriterOf W O A) (catalog : List Shared) (limit : ℕ) (t : Table) (reads : Type 0) (old new : Joint W) (before after : ℕ)
    → before ≡ length old.opened → after ≡ length new.opened
    → Feeds w (named_item (text_at t)) reads old new → Feeds w (λ item. item) reads (seen catalog limit t before old) (seen catalog limit t after new)
user_feeds {W} w catalog limit t reads old new before after b a feeds =
    let whole = feeds_users w catalog limit t reads old new feeds in
    let Q : ℕ → Type 0 = λ n. Feeds w (λ item. item) reads (seen catalog limit t n old) (as_user catalog limit t new) in
    let P : ℕ → Type 0 = λ n. Feeds w (λ item. item) reads (seen catalog limit t before old) (seen catalog limit t n new) in
    subst P (sym a) (subst Q (sym b) whole)

-- ---- memory

-- a raw reader and a writer move, beside a table within the limit
pub charges_fed : (a b : Counts) (k l v w cost most limit other : ℕ) → cost ≤ limit → (k + cost) + v ≤ a.held → Charges a b (k + v) (l + w) (most + other)
    → Charges a b ((k + cost) + v) ((l + cost) + w) ((most + 2 * limit) + other)
charges_fed a b k l v w cost most limit other cheap within q = record {
  held = omega (arith, q.held);
  share = omega (arith, q.share, cheap);
  peak = omega (arith, q.peak, within, cheap);
  rises = q.rises;
}
