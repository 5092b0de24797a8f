-- What the calls of a catalogue answer.
use Rattle.std.specs.Prelude.{◌≡◌, ◌<◌, ℕ, Bool, true, false, List, slice_get, Option, Some, None, ⊤, ◌⊎◌}
use Rattle.ion_meter.specs.Counts.{Counts, IsRefused}
use Rattle.ion_meter.specs.declared.fault.Fault.{Fault}
use Rattle.ion_meter.specs.declared.fault.Fault.TheVariants.{Refused, Memory, ReadFault, WriteFault, InputLimit}
use Rattle.ion_meter.specs.declared.fault.Reason.TheVariants.{CatalogEntry}
use Rattle.ion_symbols.specs.Table.{Shared, Import, may_stand, most_slots}
use Rattle.ion_symbols.specs.Present.{slots_at}
use Rattle.ion_symbols.specs.declared.catalog.Import as found
use Rattle.ion_symbols.specs.declared.catalog.Import.TheVariants as finds

-- why a table was not added to a catalogue
abbrev pub WhyNotAdded : List Shared → Shared → Counts → Counts → Fault → Type 0
WhyNotAdded catalog s old new (Refused reason place) = (reason ≡ CatalogEntry) × ((place ≡ 0) × ((may_stand catalog s ≡ false) × (new ≡ old)))
WhyNotAdded catalog s old new Memory = (may_stand catalog s ≡ true) × IsRefused old new
WhyNotAdded catalog s old new ReadFault = ⊥
WhyNotAdded catalog s old new WriteFault = ⊥
WhyNotAdded catalog s old new InputLimit = ⊥

-- the place of the table that was found
abbrev pub Points : List Shared → Option Shared → Option ℕ → Type 0
Points catalog None None = ⊤
Points catalog (Some s) (Some place) = slice_get catalog place ≡ Some s
Points catalog None (Some place) = ⊥
Points catalog (Some s) None = ⊥

-- a number of slots, where more than there are ids is that or any more
abbrev pub CountAs : ℕ → ℕ → Type 0
CountAs asked count = (asked ≡ count) ⊎ ((most_slots < asked) × (most_slots < count))

-- what was found is what the import stands for
abbrev pub FoundAs : List Shared → Bool → Option Import → found.Import → Type 0
FoundAs catalog ignored i finds.Ignored = ignored ≡ true
FoundAs catalog ignored i finds.Missing = (ignored ≡ false) × (i ≡ None)
FoundAs catalog ignored None (finds.Slots table count) = ⊥
FoundAs catalog ignored (Some i) (finds.Slots table count) = (ignored ≡ false) × ((i.slots ≡ slots_at catalog table) × CountAs i.count count)
