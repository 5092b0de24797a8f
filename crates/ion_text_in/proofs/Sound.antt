-- A reading goes along paths of the bytes to a step that ends or stops it, and so does another with it, whose limits are wider.
-- So what is read is a path, and a stream where reading finishes.
use Rattle.std.proofs.Common.{◌≡◌, ℕ, zero, suc, ◌<◌, Bool, false, List, [], ◌∷◌, ◌++◌, None, refl, sym, ap, subst, ◌∙◌, append-nil, arith}
use Rattle.ion_meter.specs.declared.profile.Rules.{Rules}
use Rattle.ion_value.specs.declared.ion_type.Kind.{Kind}
use Rattle.ion_value.specs.Value.{SymbolAt, Top}
use Rattle.ion_value.specs.Path.{Path, closed, path_items}
use Rattle.ion_value.specs.Reading.{Reading, Finished, More, items_of, Step, Ends, Stops, Gives, GoesOn, next_reading, reading_by, items_then}
use Rattle.ion_meter.specs.Sources.{Cursor}
use Rattle.ion_value.proofs.ReadingLaws.{ending_of-items_then}
use Rattle.ion_value.proofs.Readings.{items_then-append, reading_by-step, reading_by-gives, reading_by-goes_on, items_of-items_then}
use Rattle.ion_text_in.specs.Positions.{Wants, a_value, State}
use Rattle.ion_text_in.specs.Reading.{step, size, start, reading}
use Rattle.ion_text_in.specs.Grammar.{Field, Annotations, Tops, Stream, start_of}
use Rattle.ion_text_in.specs.Paths.{Spells, IsPath, Begun, at_separator, at_field, in_item, At, Follows}
use Rattle.ion_value.specs.ReadingLaws.{ending_of, AreWithin}
use Rattle.ion_text_in.specs.Laws.{Sound}
use Rattle.ion_text_in.proofs.ReadPermitted.{read-permitted}
use Rattle.ion_text_in.proofs.Steps.{annotations-none, field-none, step-follows}
use Rattle.ion_text_in.proofs.Falling.{StepCut, same_step, step-Cut, each_step_falls}

abbrev pub IsWhole : List ℕ → Path SymbolAt ℕ → Type 0
IsWhole bytes path = (tops : List (Top SymbolAt ℕ)) × (path ≡ closed tops) × Stream bytes tops

-- nothing of an item is read
begun-nothing : {c d : Cursor} (kinds : List Kind) (full : Bool) (wants : Wants) → Begun c kinds full wants d → wants ≡ a_value None [] → d ≡ c
begun-nothing _ _ _ at_separator e = absurd (cc e)
begun-nothing _ _ _ at_field e = absurd (cc e)
begun-nothing _ _ _ (in_item {field = field} {annotations = annotations} f ns) e =
    let no_field : field ≡ None = cc e in
    let no_annotations : annotations ≡ [] = cc e in
    annotations-none ns no_annotations ∙ field-none f no_field

spells-tops : {b c : Cursor} (path : Path SymbolAt ℕ) (kinds : List Kind) (full : Bool) → Spells b path kinds full c → kinds ≡ []
    → (tops : List (Top SymbolAt ℕ)) × (path ≡ closed tops) × Tops b tops c
spells-tops _ _ _ (Spells.top {tops} t) e = (tops, refl, t)
spells-tops _ _ _ (Spells.inside path field annotations p k members s f ns tok ins) e = absurd (cc e)

pub at-whole : (bytes : List ℕ) (path : Path SymbolAt ℕ) (s : State) → At bytes path s → Follows bytes path s Ends → IsWhole bytes path
at-whole bytes path s stands ends =
    let tops = spells-tops path s.kinds stands.full stands.spells ends.0 in
    let same : s.cursor ≡ stands.after = begun-nothing s.kinds stands.full s.wants stands.begun ends.1 in (
      tops.0,
      tops.1,
      record {
        last = s.cursor;
        spells = subst (λ c. Tops (start_of bytes) tops.0 c) (sym same) tops.2;
        end = ends.2;
        blank = ends.3;
        nothing_left = ends.4;
      },
    )

pub at-path : (bytes : List ℕ) (path : Path SymbolAt ℕ) (s : State) (stands : At bytes path s) → IsPath bytes stands.after.place path
at-path bytes path s stands = record { kinds = s.kinds; full = stands.full; after = stands.after; place = refl; spells = stands.spells }

-- before the first byte
at-start : (bytes : List ℕ) → At bytes (closed []) (start bytes)
at-start bytes = record { full = false; after = start_of bytes; spells = Spells.top Tops.nothing; begun = in_item Field.at_top Annotations.nothing; top = tt }

-- ---- from path to path

-- a step that ends a reading or stops it
abbrev pub IsLast : Step State → Type 0
IsLast (Gives item after) = ⊥
IsLast (GoesOn after) = ⊥
IsLast o = Unit {0}

-- two readings come to one state with the same items, where a step of the first is its last
pub record Walked (limits wide : Rules) (bytes : List ℕ) : Type 0 where
  pub path : Path SymbolAt ℕ
  pub state : State
  pub stands : At bytes path state
  pub last : IsLast (step limits state)
  pub short : reading limits bytes ≡ items_then (path_items path) (reading_by (step limits) size state)
  pub long : reading wide bytes ≡ items_then (path_items path) (reading_by (step wide) size state)

module _ (limits wide : Rules) (within : AreWithin limits wide) (bytes : List ℕ) where
  -- from a state after a path on
  abbrev WalksFrom : Path SymbolAt ℕ → State → Type 0
  WalksFrom path s = reading limits bytes ≡ items_then (path_items path) (reading_by (step limits) size s) → reading wide bytes ≡ items_then (path_items path) (reading_by (step wide) size s)
      → Walked limits wide bytes

  next-walks : (path : Path SymbolAt ℕ) (s : State) (x y : Step State) → At bytes path s → step limits s ≡ x → step wide s ≡ y → StepCut limits wide s x y → Follows bytes path s x
      → ((next : Path SymbolAt ℕ) (after : State) → At bytes next after → size after < size s → WalksFrom next after) → WalksFrom path s
  next-walks path s Ends y stands e g cut follows h r w = record { path = path; state = s; stands = stands; last = subst IsLast (sym e) tt; short = r; long = w }
  next-walks path s (Stops why place) y stands e g cut follows h r w = record { path = path; state = s; stands = stands; last = subst IsLast (sym e) tt; short = r; long = w }
  next-walks path s (Gives item after) _ stands e g (same_step _ less) follows h r w =
      h follows.0 after follows.1 less
      (r ∙ ap (items_then (path_items path)) (reading_by-gives (step limits) size (each_step_falls limits) s after item e) ∙ further (reading_by (step limits) size after))
      (w ∙ ap (items_then (path_items path)) (reading_by-gives (step wide) size (each_step_falls wide) s after item g) ∙ further (reading_by (step wide) size after))
    where
      further : (t : Reading) → items_then (path_items path) (More item t) ≡ items_then (path_items follows.0) t
      further t = sym (items_then-append (path_items path) (item ∷ []) t) ∙ ap (λ items. items_then items t) (sym follows.2)
  next-walks path s (GoesOn after) _ stands e g (same_step _ less) follows h r w =
      h path after follows less
      (r ∙ ap (items_then (path_items path)) (reading_by-goes_on (step limits) size (each_step_falls limits) s after e))
      (w ∙ ap (items_then (path_items path)) (reading_by-goes_on (step wide) size (each_step_falls wide) s after g))

  steps-walk : (n : ℕ) (path : Path SymbolAt ℕ) (s : State) → At bytes path s → size s < n → WalksFrom path s
  steps-walk zero path s stands fuel r w = absurd (omega (arith, fuel))
  steps-walk (suc n) path s stands fuel r w =
      next-walks path s (step limits s) (step wide s) stands refl refl (step-Cut limits wide within s) (step-follows limits bytes path s stands)
      (λ next after at less. steps-walk n next after at (omega (arith, less, fuel))) r w

  pub walk : Walked limits wide bytes
  unfolding reading
  walk = steps-walk (suc (size (start bytes))) (closed []) (start bytes) (at-start bytes) (omega arith) refl refl

-- ---- so

-- what is read from where a step ends or stops it
pub last-read : (limits : Rules) (s : State) → reading_by (step limits) size s ≡ next_reading (reading_by (step limits) size) (step limits s)
last-read limits s = reading_by-step (step limits) size (each_step_falls limits) s

pub sound : Sound
sound limits bytes =
    let w = walk limits limits (record { depth = omega arith; scalar = omega arith; floats = λ on. on }) bytes in
    let read : reading limits bytes ≡ items_then (path_items w.path) (next_reading (reading_by (step limits) size) (step limits w.state)) = w.short ∙ ap (items_then (path_items w.path)) (last-read limits w.state) in
    let all = by w.path w.state w.stands (step limits w.state) w.last (step-follows limits bytes w.path w.state w.stands) in
    record {
      path = w.path;
      place = w.stands.after.place;
      is_path = at-path bytes w.path w.state w.stands;
      items = ap items_of read ∙ items_of-items_then (path_items w.path) _ ∙ ap (λ items. path_items w.path ++ items) all.0 ∙ append-nil (path_items w.path);
      permitted = read-permitted limits bytes;
      whole = λ e. all.1 (sym (ending_of-items_then (path_items w.path) _) ∙ sym (ap ending_of read) ∙ e);
    }
  where
    by : (path : Path SymbolAt ℕ) (s : State) → At bytes path s → (o : Step State) → IsLast o → Follows bytes path s o
        → (items_of (next_reading (reading_by (step limits) size) o) ≡ []) × (ending_of (next_reading (reading_by (step limits) size) o) ≡ Finished → IsWhole bytes path)
    by path s stands Ends last follows = (refl, λ e. at-whole bytes path s stands follows)
    by path s stands (Stops why place) last follows = (refl, λ e. absurd (cc e))
    by path s stands (Gives item next) last follows = absurd last
    by path s stands (GoesOn next) last follows = absurd last
