-- What a handle to a catalogue owns, behind a pointer of which C knows no type. Assumes nothing.
use Rattle.std.specs.Prelude.{List, []}
use base.Fml.{Fml, feq, fsep, fex}
use denote.RattleType.{RattleType}
use denote.RawPtr.{Ptr, block_ptr, null_ptr}
use Rattle.std.specs.Arc.{arc_value}
use Rattle.std.specs.contracts.alloc.Global as heap
use Rattle.std.specs.contracts.impls.GlobalAllocator.TheImpl.{ghosts}
use Rattle.std_alloc.specs.Box.Ownership.{box_owns}
use Rattle.std_alloc.specs.contracts.arc.Arc as arc
use Rattle.ion_symbols.specs.Table.{Shared}
use Rattle.ion_symbols.specs.contracts.catalog.Catalog as catalog

-- an `Arc` of a catalogue
abbrev pub Owner : RattleType
Owner = arc.the_row (catalog.the_row heap.the_row ghosts) heap.the_row ghosts

-- a box with one, and the right to free it, which is the same of each handle to the heap
abbrev pub boxed : Ptr → Owner.Denot → Fml
boxed p x = box_owns (ghosts.dealloc_token (record { memory = record { seal = tt } })) Owner p x

-- at null nothing, and there are no tables; else a box with one owner of these tables
abbrev pub owns_tables : Ptr → List Shared → Fml
owns_tables null_ptr tables = feq (List Shared) tables []
owns_tables (block_ptr b o) tables = fex Owner.Denot (λ x. fsep (feq (List Shared) tables (arc_value x)) (boxed (block_ptr b o) x))
