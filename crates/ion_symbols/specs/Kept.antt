-- How slots are kept: the bytes of their texts, and where each stands; and how a growth is undone.
use Rattle.std.specs.Prelude.{◌≡◌, ℕ, ◌+◌, ◌-◌, ◌^◌, ◌<◌, ◌≤◌, false, if◌then◌else◌, List, [], ◌∷◌, take, drop, map, Option, Some, None, MatchOption, max}
use Rattle.ion_meter.specs.Counts.{Counts}
use Rattle.ion_value.specs.Name.{quoting_of, IsQuotedAs}
use Rattle.ion_value.specs.declared.quoting.Quoting.{Quoting}
use Rattle.ion_value.specs.declared.quoting.Quoting.TheVariants.{Any}
use Rattle.ion_value.specs.declared.quoting.NameText.{NameText}
use Rattle.ion_symbols.specs.Table.{Slots}
use Rattle.ion_symbols.specs.declared.slots.Part.{Part}

-- the text of a slot among the bytes of all texts, if it has one
abbrev pub kept_slot : List ℕ → Part → Option (List ℕ)
kept_slot texts p = if p.known then Some (take (p.to - p.from) (drop p.from texts)) else None

-- the slots of these parts in order, with their texts among these bytes
abbrev pub kept_slots : List ℕ → List Part → Slots
kept_slots texts parts = map (kept_slot texts) parts

-- each text begins where the one before it ends, the last ends at a length, and a slot without one has no bytes
abbrev pub Tiles : ℕ → List Part → ℕ → Type 0
Tiles from [] length = from ≡ length
Tiles from (p ∷ ps) length = (p.from ≡ from) × ((from ≤ p.to) × ((p.known ≡ false → p.to ≡ from) × Tiles p.to ps length))

-- how the text of a slot is written, if it has one
abbrev pub slot_quoting : Option (List ℕ) → Quoting
slot_quoting None = Any
slot_quoting (Some text) = quoting_of text

-- each part says how the text of its slot is written
abbrev pub AreMarked : List ℕ → List Part → Type 0
AreMarked texts parts = map (λ p. p.quoting) parts ≡ map slot_quoting (kept_slots texts parts)

-- a part whose text stands so many bytes further on
abbrev pub moved : ℕ → Part → Part
moved base p = record { from = base + p.from; to = base + p.to; known = p.known; quoting = p.quoting }

-- a growth of some cost can be tried
pub record CanGrow (cost : ℕ) (meter : Counts) : Type 0 where
  pub room : meter.held + cost < 2 ^ 63
  pub countable : meter.refused < 2 ^ 64 - 1

-- a growth of some cost that was refused: all is as it was, and the peak is no higher than it would have been
pub record IsUndone (old new : Counts) (cost : ℕ) : Type 0 where
  pub held : new.held ≡ old.held
  pub peak : new.peak ≤ max old.peak (old.held + cost)
  pub rises : old.peak ≤ new.peak
  pub refused : new.refused ≡ old.refused + 1

-- a name of one length comes in place of one of another, and they are never held both
pub record Renames (old new : Counts) (before after : ℕ) : Type 0 where
  pub held : new.held + before ≡ old.held + after
  pub peak : new.peak ≤ max old.peak (max old.held new.held)
  pub rises : old.peak ≤ new.peak
  pub refused : new.refused ≡ old.refused

-- the text of a slot that is there and has one
abbrev pub text_in : Option (Option (List ℕ)) → Option (List ℕ)
text_in None = None
text_in (Some text) = text

-- an answer is a text and a quoting that it has, or none where there is no text
abbrev pub IsNameText : Option NameText → Option (List ℕ) → Type 0
IsNameText answer text = MatchOption answer (text ≡ None) (λ t. (text ≡ Some t.text.now) × IsQuotedAs t.quoting t.text.now)
