-- What the part of the writer keeps that gives symbols their ids and puts what stands before a value.
use Rattle.std.specs.Prelude.{◌≡◌, ℕ, ◌+◌, ◌-◌, ◌^◌, ◌<◌, ◌≤◌, Bool, true, false, List, ◌++◌, length, map, Some, None, Result, Err, OnOk}
use Rattle.ion_meter.specs.Counts.{Counts}
use Rattle.ion_meter.specs.declared.fault.Fault.{Fault}
use Rattle.ion_meter.specs.declared.fault.Fault.TheVariants.{Refused}
use Rattle.ion_meter.specs.declared.fault.Reason.{Reason}
use Rattle.ion_meter.specs.declared.fault.Reason.TheVariants.{SymbolLimit}
use Rattle.ion_value.specs.Shares.{Charges, MemoryCauses, WriteCauses, fault_of}
use Rattle.ion_value.specs.Value.{SymbolAt, UserSymbol, user_symbol_at, Item}
use Rattle.ion_symbols.specs.Output.{Output, texts_cost}
use Rattle.ion_binary.specs.declared.front.Front.{Front}
use Rattle.ion_binary.specs.Canonical.{field_octets, id_octets, with_symbols}
use Rattle.ion_binary.specs.ItemOctets.{head_name}
use Rattle.ion_binary.specs.Writing.{first_over}

-- the symbol table of an output, the octets that are held, and the meter
pub record Numbering : Type 0 where
  pub symbols : Output
  pub octets : List ℕ
  pub meter : Counts

-- the record of a symbol table, octets and a meter
abbrev pub numbering : Output → List ℕ → Counts → Numbering
numbering symbols octets meter = record { symbols = symbols; octets = octets; meter = meter }

-- what it holds
abbrev pub held_by : Numbering → ℕ
held_by n = texts_cost n.symbols.texts + length n.octets

-- symbols may be given ids, where so many octets may be held
pub record CanNumber (most : ℕ) (n : Numbering) : Type 0 where
  pub share : texts_cost n.symbols.texts ≤ n.symbols.limit
  pub limit : n.symbols.limit ≤ 2 ^ 30
  pub within : length n.octets ≤ most
  pub bound : most ≤ 2 ^ 30
  pub room : n.meter.held ≤ 2 ^ 62 + held_by n
  pub held : held_by n ≤ n.meter.held
  pub countable : n.meter.refused < 2 ^ 64 - 1

-- symbols as a user of the stream knows them, without their places
abbrev pub users : List SymbolAt → List UserSymbol
users symbols = map user_symbol_at symbols

-- a call gave these symbols their ids, or says which of them would cost too much, or that memory was refused
pub record Numbers {T : Type 0} (most : ℕ) (old new : Numbering) (result : Result T Fault) (symbols : List SymbolAt) : Type 0 where
  pub texts : OnOk result (new.symbols.texts ≡ with_symbols old.symbols.texts (users symbols))
  pub allowed : OnOk result (first_over old.symbols.limit old.symbols.texts symbols ≡ None)
  pub refuses : (r : Reason) (p : ℕ) → result ≡ Err (Refused r p) → (r ≡ SymbolLimit) × (first_over old.symbols.limit old.symbols.texts symbols ≡ Some p)
  -- on every exit
  pub limit : new.symbols.limit ≡ old.symbols.limit
  pub share : texts_cost new.symbols.texts ≤ old.symbols.limit
  pub within : length new.octets ≤ most
  pub charges : Charges old.meter new.meter (held_by old) (held_by new) (old.symbols.limit + most)
  pub memory : MemoryCauses (fault_of result) old.meter new.meter
  pub no_device : (n : ℕ) → WriteCauses (fault_of result) n n

-- these octets were put after others, as long as all of them stay within the most that may be held: `before` and `after` say whether all
-- were put so far
pub record PutsWithin (most : ℕ) (before after : Bool) (old new octets : List ℕ) : Type 0 where
  pub there : after ≡ true → (before ≡ true) × (new ≡ old ++ octets)
  pub over : after ≡ false → before ≡ true → most < length old + length octets

-- what is told of an item: the octets of its field and the ids of its annotations are there, where they fit, and the id of a symbol value
pub record IsFront (most : ℕ) (id_of : UserSymbol → ℕ) (old new : List ℕ) (item : Item UserSymbol ℕ) (front : Front) : Type 0 where
  pub there : front.fits ≡ true → new ≡ old ++ (field_octets id_of item.field ++ id_octets id_of item.annotations)
  pub ids : front.fits ≡ true → front.ids ≡ length old + length (field_octets id_of item.field)
  pub over : front.fits ≡ false → most < length old + length (field_octets id_of item.field ++ id_octets id_of item.annotations)
  pub name : front.name ≡ head_name id_of item.head
