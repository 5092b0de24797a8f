-- A handle may go to another thread: an owner of an `Arc` of a catalogue may, and the right to free a block.
use mir.Raw.{raw}
use base.Shift.{Keyless}
use Rattle.std.specs.Prelude.{List}
use denote.Builtin.{RawPtr}
use denote.Memory.{lone}
use denote.RawPtr.{Ptr, block_ptr, null_ptr}
use denote.Param.Send.{IsSend, IsSync, AllSend, owning_send, struct_send, sendable}
use denote.Struct.Struct.{exits_of}
use denote.Struct.Owning.{shape, fields, to}
use Rattle.std.proofs.Crossing.{Arc-send, frees}
use Rattle.std.proofs.alloc.Global.TheSendSync as global
use Rattle.std.specs.contracts.alloc.Global as heap
use Rattle.std.specs.contracts.impls.GlobalAllocator.TheImpl.{ghosts}
use Rattle.std_alloc.proofs.SendSync.{quiet, lies}
use Rattle.ion_symbols.specs.Table.{Shared}
use Rattle.ion_symbols.specs.contracts.catalog.Catalog as catalog
use Rattle.ion_symbols.proofs.catalog.Catalog.TheSendSync as crossing
use Rattle.cozgelt_c.specs.Handles.{Owner, owns_tables}
use Rattle.cozgelt_c.specs.contracts.handle.CozgeltCatalog.{the_row, the_type}

catalog_send : IsSend (catalog.the_row heap.the_row ghosts)
catalog_send = crossing.the_send heap.the_row ghosts global.the_send frees

catalog_sync : IsSync (catalog.the_row heap.the_row ghosts)
catalog_sync = crossing.the_sync heap.the_row ghosts global.the_sync

owner_send : IsSend Owner
owner_send = Arc-send (catalog.the_row heap.the_row ghosts) catalog_send catalog_sync

owns_keyless : (p : Ptr) (tables : List Shared) → Keyless (owns_tables p tables)
owns_keyless null_ptr tables = tt
owns_keyless (block_ptr b o) tables = λ x. (tt, (lies Owner owner_send (block_ptr b o) x, frees.frees (record { memory = record { seal = tt } }) (raw (lone Owner.mir)) (block_ptr b o)))

at_send : IsSend RawPtr
at_send = search sendable

pub send : IsSend the_row
send = let all : AllSend (fields the_type) = (at_send, tt) in
    owning_send the_type all (λ d. owns_keyless d.at d.tables) (λ k. quiet (to the_type) (exits_of k (fields the_type)) ((struct_send (shape the_type) all).leaving k))
