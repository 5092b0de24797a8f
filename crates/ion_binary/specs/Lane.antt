-- What a call that hands one item to a writer asks for, gives, keeps and moves.
use Rattle.std.specs.Prelude.{◌≡◌, ◌==◌, ℕ, ◌+◌, ◌*◌, ◌-◌, ◌^◌, ◌<◌, ◌≤◌, Bool, true, false, List, get_or, length, map, Option, Some, None, option_map, is_some, IfSome, Ok, ⊤}
use Rattle.ion_meter.specs.Counts.{Counts}
use Rattle.ion_meter.specs.Windows.{Outgoing, left, lent}
use Rattle.ion_meter.specs.Sources.{BytesAreLeft, Stands, skip}
use Rattle.ion_meter.specs.declared.device.Input.{Ghosts as InputOf}
use Rattle.ion_value.specs.declared.writer.ValueWriter.{Ghosts as WriterOf}
use Rattle.ion_value.specs.declared.ion_type.Kind.{Kind}
use Rattle.ion_value.specs.declared.ion_type.Kind.TheVariants as kind
use Rattle.ion_value.specs.Feeding.{CanTake, Feeds, Hands, Joint, StaysWell}
use Rattle.ion_value.specs.Outcome.{one_if_closed}
use Rattle.ion_value.specs.Shares.{Charges}
use Rattle.ion_value.specs.declared.plain_item.TextAt.{TextAt}
use Rattle.ion_value.specs.Items.{named_at}
use Rattle.ion_value.specs.Digits.{first_is}
use Rattle.ion_value.specs.Name.{raw_id}
use Rattle.ion_value.specs.PlainItems.{HaveNoDollar, IsRightlyQuoted, StandsAfter, listed, placed_text, with_second}
use Rattle.ion_value.specs.Standing.{in_struct}
use Rattle.ion_value.specs.Value.{PlacedItem, SymbolAt}
use Rattle.ion_binary.specs.declared.wrapper.Frame as frame
use Rattle.ion_binary.specs.Positions.{Frame}
use Rattle.ion_binary.specs.Reading.{TypedValue, field_at, region_of}
use Rattle.ion_binary.specs.Scanned.{Reaches, window}
use Rattle.ion_binary.specs.Shown.{ShowsItem, ShowsValue, around_after}
use Rattle.ion_binary.specs.Descriptor.{Shape, shape_of}
use Rattle.ion_meter.specs.declared.profile.Rules.{Rules}
use Rattle.ion_binary.specs.declared.reader.BinReader.{BinReader}
use Rattle.ion_binary.specs.declared.reader.front.Around.{Around}
use Rattle.ion_binary.specs.declared.reader.front.Front.{Front}
use Rattle.ion_binary.specs.declared.reader.front.Level.{Level}
use Rattle.ion_binary.specs.declared.reader.front.Level.TheVariants as level
use Rattle.ion_binary.specs.Reader.{IsInnermost}
use Rattle.ion_binary.specs.Wrappers.{as_frames, innermost}
use Rattle.ion_binary.specs.Steps.{IsSized, IsSound, held_by, left_to, opened_in, share_of, to_come_by}

-- a reader and a writer may hand an item on
pub record CanHand {I A W O : Type 0} (w : WriterOf W O A) (r : BinReader I A) (pen : W) (sink : Outgoing O) (meter : Counts) : Type 0 where
  pub room : meter.held + 16 ≤ 2 ^ 62
  pub held : held_by r + w.own pen ≤ meter.held
  pub countable : meter.refused < 2 ^ 64 - 1
  pub sized : IsSized r
  pub stands : Stands r.source
  pub writer : CanTake w r.limits.depth (opened_in r) pen sink

-- where the two stand
abbrev pub joint : {I A W O : Type 0} → InputOf I → BinReader I A → W → Outgoing O → ℕ → Joint W
joint device r writer sink values = record { coming = to_come_by device r; opened = opened_in r; writer = writer; pending = sink.pending; values = values }

-- the item was handed on
pub record HandsItem {I A W O : Type 0} (device : InputOf I) (w : WriterOf W O A) (see : PlacedItem → PlacedItem) (old new : BinReader I A) (pen then : W) (from to : Outgoing O) : Type 0 where
  pub hands : (values : ℕ) → Hands w see (device.observable old.source.device) (joint device old pen from values) (joint device new then to (values + one_if_closed (opened_in new)))
  pub falls : left_to new < left_to old
  pub further : old.source.place ≤ new.source.place
  pub total : new.source.place + length (left device.rest new.source) ≡ old.source.place + length (left device.rest old.source)
  pub bytes : BytesAreLeft device new.source → BytesAreLeft device old.source

-- or none was: all is as it was
pub record HandsNothing {I A W O : Type 0} (old new : BinReader I A) (pen then : W) (from to : Outgoing O) : Type 0 where
  pub reader : new ≡ old
  pub writer : then ≡ pen
  pub sink : to ≡ from

-- what stays, and memory
pub record KeepsOn {I A W O : Type 0} (w : WriterOf W O A) (old new : BinReader I A) (pen then : W) (from to : Outgoing O) (before after : Counts) : Type 0 where
  pub sized : IsSized new
  pub stands : Stands new.source
  pub limits : new.limits ≡ old.limits
  pub failed : new.failed ≡ old.failed
  pub done : new.done ≡ old.done
  pub device : new.source.device ≡ old.source.device
  pub limit : new.source.limit ≡ old.source.limit
  pub writer : StaysWell w pen then from to before after
  pub charges : Charges before after (held_by old + w.own pen) (held_by new + w.own then) (share_of old + w.most pen)

-- a call handed the next item on, or none, as it answers
pub record Handed {I A W O : Type 0} (device : InputOf I) (w : WriterOf W O A) (see : PlacedItem → PlacedItem) (old new : BinReader I A) (pen then : W) (from to : Outgoing O) (before after : Counts) (done : Bool) : Type 0 where
  pub hands : done ≡ true → HandsItem device w see old new pen then from to
  pub nothing : done ≡ false → HandsNothing old new pen then from to
  pub keeps : KeepsOn w old new pen then from to before after
  pub goes : held_by new ≤ held_by old + 16 * (left_to old - left_to new)

-- items were handed on, one after the other, after so many values: where the two stand then, what stays, and memory
pub record HandsOn {I A W O : Type 0} (device : InputOf I) (w : WriterOf W O A) (see : PlacedItem → PlacedItem) (old new : BinReader I A) (pen then : W) (from to : Outgoing O) (before after : Counts) (had values : ℕ) : Type 0 where
  pub keeps : KeepsOn w old new pen then from to before after
  pub further : old.source.place ≤ new.source.place
  pub total : new.source.place + length (left device.rest new.source) ≡ old.source.place + length (left device.rest old.source)
  pub bytes_left : BytesAreLeft device new.source → BytesAreLeft device old.source
  pub feeds : Feeds w see (device.observable old.source.device) (joint device old pen from had) (joint device new then to values)
  pub takes : CanTake w new.limits.depth (opened_in new) then to
  pub goes : held_by new ≤ held_by old + 16 * (left_to old - left_to new)
  pub grows : had ≤ values
  pub falls : values + left_to new ≤ had + left_to old

-- items may be handed on, after so many values
pub record CanHandOn {I A W O : Type 0} (w : WriterOf W O A) (r : BinReader I A) (pen : W) (sink : Outgoing O) (meter : Counts) (values : ℕ) : Type 0 where
  pub room : meter.held ≤ 2 ^ 61 + (held_by r + w.own pen)
  pub held : held_by r + w.own pen ≤ meter.held
  pub countable : meter.refused < 2 ^ 64 - 1
  pub sound : IsSound r
  pub fresh : r.failed ≡ None
  pub writer : CanTake w r.limits.depth (opened_in r) pen sink
  pub few : values + left_to r < 2 ^ 64 - 1

-- octets show what stands before a member: its field's name, which its id has, and how many octets the id has; or nothing outside structs
pub record ShowsField (texts : ℕ → Option (List ℕ)) (octets : List ℕ) (here : ℕ) (frames : List Frame) (field : Option TextAt) (after : ℕ) : Type 0 where
  pub raw : Option SymbolAt
  pub within : after ≤ length octets
  pub named : option_map (named_at texts) raw ≡ option_map placed_text field
  pub quoted : IfSome field IsRightlyQuoted
  pub there : is_some field ≡ in_struct (map (λ f. f.kind) frames)
  pub gives : (more : List ℕ) → Reaches (region_of frames) (here + after) → field_at frames (window here octets more) ≡ Ok (raw, skip after (window here octets more))

-- a text is that of an annotation's id, which stands at a place, and has no dollar sign in front
pub record IsNote (texts : ℕ → Option (List ℕ)) (id place : ℕ) (t : TextAt) : Type 0 where
  pub has : texts (raw_id id) ≡ Some t.text.now
  pub stands : t.place ≡ place
  pub free : first_is (λ b. b == 36) t.text.now ≡ false
  pub quoted : IsRightlyQuoted t

-- so is that of a second one, if there is one
abbrev pub IsSecondNote : (ℕ → Option (List ℕ)) → ℕ → Option (ℕ × ℕ) → Option TextAt → Type 0
IsSecondNote texts here None None = ⊤
IsSecondNote texts here None (Some t) = ⊥
IsSecondNote texts here (Some s) None = ⊥
IsSecondNote texts here (Some s) (Some t) = IsNote texts s.0 (here + s.1) t

-- the annotations in front of a head
abbrev pub notes_of : Front → List SymbolAt
notes_of f = with_second (listed (option_map placed_text f.annotation)) f.second

-- octets show what stands in front of a head: a field's name, and after that a wrapper with an annotation or two, or nothing; a value that is shown after it is one with this field and these annotations
pub record ShowsFront (texts : ℕ → Option (List ℕ)) (limits : Rules) (octets : List ℕ) (here : ℕ) (frames : List Frame) (f : Front) : Type 0 where
  pub name : ShowsField texts octets here frames f.field f.at
  pub raws : List SymbolAt
  pub named : map (named_at texts) raws ≡ notes_of f
  pub free : HaveNoDollar (notes_of f)
  pub quoted : IfSome f.annotation IsRightlyQuoted
  pub second : IfSome f.second (StandsAfter f.annotation)
  pub within : f.head ≤ length octets
  pub gives : (depth after : ℕ) (v : TypedValue) → ShowsValue limits octets here (around_after f.wrapper (region_of frames) depth) f.head after v
      → ShowsItem limits octets here (region_of frames) depth f.at f.head after raws v

-- the container around a member, by where the member stands
abbrev pub kind_around : Level → Option Kind
kind_around level.List = Some kind.List
kind_around level.Sexp = Some kind.Sexp
kind_around level.Struct = Some kind.Struct
kind_around level.Top = None

abbrev pub frame_of : Option Kind → ℕ → Option frame.Frame
frame_of around end = option_map (λ kind. record { kind = kind; end = end }) around

abbrev pub frame_in : Around → Option frame.Frame
frame_in a = frame_of (kind_around a.level) a.end

-- the members of the innermost container stand so; at top level the end is after all places
pub record IsAround (frames : List Frame) (a : Around) : Type 0 where
  pub innermost : IsInnermost frames (frame_in a)
  pub top : kind_around a.level ≡ None → a.end ≡ 2 ^ 64 - 1

-- the innermost container does not end here
abbrev pub GoesOn : Option frame.Frame → ℕ → Type 0
GoesOn None place = ⊤
GoesOn (Some f) place = place < f.end

-- it ends here
abbrev pub EndsHere : Option frame.Frame → ℕ → Type 0
EndsHere None place = ⊥
EndsHere (Some f) place = f.end ≤ place

-- a member may be handed on, where members stand so
pub record CanHandMember {I A W O : Type 0} (w : WriterOf W O A) (r : BinReader I A) (a : Around) (pen : W) (sink : Outgoing O) (meter : Counts) : Type 0 where
  pub can_hand : CanHand w r pen sink meter
  pub around : IsAround (as_frames r.frames) a
  pub goes_on : GoesOn (frame_in a) r.source.place

-- this stands in front of its head
pub record CanHandFront {I A W O : Type 0} (w : WriterOf W O A) (texts : ℕ → Option (List ℕ)) (r : BinReader I A) (a : Around) (f : Front) (pen : W) (sink : Outgoing O) (meter : Counts) : Type 0 where
  pub member : CanHandMember w r a pen sink meter
  pub front : ShowsFront texts r.limits (lent r.source) r.source.place (innermost (frame_in a)) f

-- and its head has this shape
pub record CanHandShape {I A W O : Type 0} (w : WriterOf W O A) (texts : ℕ → Option (List ℕ)) (r : BinReader I A) (a : Around) (f : Front) (shape : Shape) (pen : W) (sink : Outgoing O) (meter : Counts) : Type 0 where
  pub item : CanHandFront w texts r a f pen sink meter
  pub within : f.head < length (lent r.source)
  pub is : shape ≡ shape_of (get_or (lent r.source) f.head 0)

-- a call handed the next item on, or none, as it answers; after one the next member stands so
pub record HandsAt {I A W O : Type 0} (device : InputOf I) (w : WriterOf W O A) (see : PlacedItem → PlacedItem) (old new : BinReader I A) (pen then : W) (from to : Outgoing O) (before after : Counts) (a : Around) (done : Bool) : Type 0 where
  pub handed : Handed device w see old new pen then from to before after done
  pub around : done ≡ true → IsAround (as_frames new.frames) a
