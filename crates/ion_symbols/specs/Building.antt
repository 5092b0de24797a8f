-- A catalogue as it is kept while it is built, and what the calls that build it ask for, answer and keep.
use Rattle.std.specs.Prelude.{◌≡◌, ◌≢◌, ℕ, ◌+◌, ◌-◌, ◌^◌, ◌<◌, ◌≤◌, Bool, false, List, [], ◌∷◌, length, Option, Some, None, Result, Ok, Err, ⊤}
use Rattle.std.proofs.Common.{arith}
use Rattle.ion_meter.specs.Counts.{Counts}
use Rattle.ion_meter.specs.Limits.{AreChecked}
use Rattle.ion_meter.specs.declared.fault.Fault.{Fault}
use Rattle.ion_meter.specs.declared.fault.Fault.TheVariants.{Refused, Memory, ReadFault, WriteFault, InputLimit}
use Rattle.ion_meter.specs.declared.limits.Limits.{Limits}
use Rattle.ion_value.specs.Value.{UserSymbol, PlacedItem, user_items}
use Rattle.ion_value.specs.Shares.{Charges, MemoryCauses, fault_of}
use Rattle.ion_value.specs.Standing.{open_after_all, WritesWithin}
use Rattle.ion_symbols.specs.Table.{catalog_cost, shared_cost}
use Rattle.ion_symbols.specs.Buffer.{field_value_of}
use Rattle.ion_symbols.specs.CatalogItems.{EntryView, names_shared, Draft, name_cost, counted, Loading, Loaded, loaded, nothing_loaded}
use Rattle.ion_symbols.specs.declared.catalog_builder.Stage.{Stage}
use Rattle.ion_symbols.specs.declared.catalog_builder.Stage.TheVariants as stage
use Rattle.ion_symbols.specs.declared.catalog_builder.CatalogBuilder.{CatalogBuilder}
use Rattle.ion_symbols.specs.declared.entry_view.EntryView as code

-- ---- what is seen of an item

-- what a catalogue looks at in an item in code, as definitions see it
abbrev pub view_of : code.EntryView → EntryView
view_of t = record { shared = t.shared; field = t.field; what = field_value_of t.what; place = t.place; top = t.top }

-- the first annotation, where there is one, is that of shared tables
abbrev pub names_first : Option UserSymbol → Bool
names_first None = false
names_first (Some s) = names_shared s

-- ---- what is seen of a catalogue that is built

-- the whole tables of a builder, and the one that it is reading
abbrev pub draft_of : {A : Type 0} → CatalogBuilder A → Draft
draft_of b = record { tables = b.catalog; has_version = b.has_version; has_symbols = b.has_symbols; table = b.table }

-- the same with what is being read
abbrev pub loading_of : {A : Type 0} → CatalogBuilder A → Loading
loading_of b = record { stage = b.stage; inside = b.inside; draft = draft_of b }

-- the counted bytes that it holds
abbrev pub held_by : {A : Type 0} → CatalogBuilder A → ℕ
held_by b = catalog_cost b.catalog + shared_cost b.table

-- the most that it may hold is the limit on symbol tables
abbrev pub most_of : {A : Type 0} → CatalogBuilder A → ℕ
most_of b = b.limits.symbols

-- all that it holds is counted, and within the limit
pub record IsBuilding {A : Type 0} (b : CatalogBuilder A) : Type 0 where
  pub checked : AreChecked b.limits
  pub exact : b.cost ≡ counted (draft_of b)
  pub cheap : b.cost ≤ b.limits.symbols

-- one of which nothing was read
pub record IsFresh {A : Type 0} (limits : Limits) (b : CatalogBuilder A) : Type 0 where
  pub limits_are : b.limits ≡ limits
  pub nothing : loading_of b ≡ nothing_loaded
  pub well : b.failed ≡ None
  pub building : IsBuilding b

-- how many containers are open
abbrev pub stage_level : Stage → ℕ
stage_level stage.Outside = 0
stage_level stage.Fields = 1
stage_level stage.Symbols = 2

-- the same with those that mean nothing
abbrev pub level_of : Loading → ℕ
level_of s = stage_level s.stage + s.inside

-- these items lead to it
pub record HasRead {A : Type 0} (b : CatalogBuilder A) (path : List PlacedItem) : Type 0 where
  pub well : b.failed ≡ None
  pub read : loaded b.limits.symbols (user_items path) ≡ Ok (loading_of b)
  pub level : level_of (loading_of b) ≡ length (open_after_all [] path)
  pub deep : level_of (loading_of b) ≤ b.limits.depth

-- ---- calls

-- a call that may hold more can be made
pub record CanBuild {A : Type 0} (b : CatalogBuilder A) (meter : Counts) : Type 0 where
  pub room : meter.held ≤ 2 ^ 62
  pub held : held_by b ≤ meter.held
  pub countable : meter.refused < 2 ^ 64 - 1
  pub building : IsBuilding b

-- what a call answers by what an item leads to
abbrev pub StepAs : {T : Type 0} → Loaded → Result T Fault → Loading → Type 0
StepAs due (Ok x) s = due ≡ Ok s
StepAs due (Err (Refused reason place)) s = due ≡ Err (reason, place)
StepAs due (Err Memory) s = ⊤
StepAs due (Err ReadFault) s = ⊥
StepAs due (Err WriteFault) s = ⊥
StepAs due (Err InputLimit) s = ⊥

-- what it keeps, and what it does to the meter
pub record Builds {A T : Type 0} (old new : CatalogBuilder A) (before after : Counts) (result : Result T Fault) : Type 0 where
  pub building : IsBuilding new
  pub limits : new.limits ≡ old.limits
  pub failed : new.failed ≡ old.failed
  pub causes : MemoryCauses (fault_of result) before after
  pub charges : Charges before after (held_by old) (held_by new) (most_of old)

-- what a call that holds no more keeps
pub record Keeps {A T : Type 0} (old new : CatalogBuilder A) (result : Result T Fault) : Type 0 where
  pub building : IsBuilding old → IsBuilding new
  pub limits : new.limits ≡ old.limits
  pub failed : new.failed ≡ old.failed
  pub memory : result ≢ Err Memory
  pub held : held_by new ≡ held_by old

-- ---- what is held is within the limit

-- a name costs more than it holds
name_counted : (name : List ℕ) → length name ≤ name_cost name
name_counted [] = omega arith
name_counted (b ∷ bs) = omega arith

-- a builder holds no more than it may, as every writer does
pub building-within : {A : Type 0} (b : CatalogBuilder A) → IsBuilding b → WritesWithin (held_by b) (most_of b)
building-within b building =
    let name = name_counted b.table.name in
    record { share = omega (arith, name, building.exact, building.cheap); small = omega (arith, building.checked.symbols) }
