-- What contracts see of the writer of binary.
use Rattle.std.specs.Prelude.{◌≡◌, ℕ, ◌+◌, ◌-◌, ◌^◌, ◌<◌, ◌≤◌, List, ◌++◌, Option, Some, None, Result, Err, OnOk}
use Rattle.ion_meter.specs.Counts.{Counts}
use Rattle.ion_meter.specs.Limits.{AreChecked}
use Rattle.ion_meter.specs.Windows.{Outgoing, so_far, Puts}
use Rattle.ion_meter.specs.declared.device.Output.{Ghosts as OutputOf}
use Rattle.ion_meter.specs.declared.fault.Fault.{Fault}
use Rattle.ion_meter.specs.declared.fault.Fault.TheVariants.{Refused}
use Rattle.ion_meter.specs.declared.fault.Reason.{Reason}
use Rattle.ion_meter.specs.declared.limits.Limits.{Limits}
use Rattle.ion_value.specs.Shares.{Charges, MemoryCauses}
use Rattle.ion_value.specs.Value.{PlacedItem, user_item}
use Rattle.ion_symbols.specs.Output.{texts_cost}
use Rattle.ion_binary.specs.declared.writer.BinWriter.{BinWriter}
use Rattle.ion_binary.specs.Held.{HaveCodes, Held, MayCome, headers_with, held_of, octets_with, size_of, with_names}
use Rattle.ion_binary.specs.Opening.{IsOpen, IsWithin, open_cost, open_most}
use Rattle.ion_binary.specs.Writing.{Written, after, at_begin, first_over, item_puts, item_symbols, refused_at, refused_by, unless_refused, written_after}

-- what it holds
abbrev pub held_in : {A : Type 0} → BinWriter A → Held
held_in w = record {
  octets = w.open_value.octets.all;
  headers = w.open_value.headers;
  texts = w.symbols.texts;
  declared = w.declared;
  due = w.due;
}

-- the counted bytes that it holds
abbrev pub own_of : {A : Type 0} → BinWriter A → ℕ
own_of w = texts_cost w.symbols.texts + open_cost w.open_value

-- the most counted bytes that it may hold under limits
abbrev pub most_of : Limits → ℕ
most_of limits = limits.symbols + open_most limits

-- it stays within its limits, whatever it answered
pub record IsSound {A : Type 0} (w : BinWriter A) : Type 0 where
  pub checked : AreChecked w.limits
  pub within : IsWithin w.limits w.open_value
  pub limit : w.symbols.limit ≡ w.limits.symbols
  pub share : texts_cost w.symbols.texts ≤ w.limits.symbols
  pub few : w.declared ≤ 2 ^ 30

-- it is where the streaming definition is
pub record Holds {A : Type 0} (w : BinWriter A) (s : Written) : Type 0 where
  pub held : held_in w ≡ held_of s
  pub is_open : IsOpen w.limits w.open_value
  pub codes : HaveCodes s.open_containers

-- no call has failed, and it is where these items lead
pub record Stands {A : Type 0} (w : BinWriter A) (path : List PlacedItem) : Type 0 where
  pub well : w.failed ≡ None
  pub holds : Holds w (written_after w.limits path)

-- a call may begin
pub record CanTake {A : Type 0} (w : BinWriter A) (meter : Counts) : Type 0 where
  pub sound : IsSound w
  pub room : meter.held ≤ 2 ^ 62
  pub held : own_of w ≤ meter.held
  pub countable : meter.refused < 2 ^ 64 - 1

-- what a call keeps and moves whatever it answers
pub record Taken {A : Type 0} (old new : BinWriter A) (before after : Counts) (fault : Option Fault) : Type 0 where
  pub sound : IsSound new
  pub limits : new.limits ≡ old.limits
  pub failed : new.failed ≡ old.failed
  pub memory : MemoryCauses fault before after
  pub charges : Charges before after (own_of old) (own_of new) (most_of old.limits)

-- where it answers well, these octets were put, and where it fails, a prefix of them; nothing where the sink had failed before
pub record PutsOctets {O T : Type 0} (device : OutputOf O) (old new : Outgoing O) (result : Result T Fault) (octets : List ℕ) : Type 0 where
  pub whole : OnOk result (device.observable old.device → so_far device.written new ≡ so_far device.written old ++ octets)
  pub well : OnOk result (old.fault ≡ None → new.fault ≡ None)
  pub part : old.fault ≡ None → Puts device.written device.observable old new octets
  pub passed : (f : Fault) → old.fault ≡ Some f → new ≡ old

-- ---- an item more

-- the limits under which it writes
abbrev pub limits_of : {A : Type 0} → BinWriter A → Limits
limits_of w = w.limits

-- the fault that it answered
abbrev pub failed_of : {A : Type 0} → BinWriter A → Option Fault
failed_of w = w.failed

-- nothing was put, and nothing is held
pub record IsNew {A : Type 0} (w : BinWriter A) : Type 0 where
  pub well : w.failed ≡ None
  pub held : held_in w ≡ held_of at_begin
  pub holds : Holds w at_begin

-- an item may come where the streaming definition is
abbrev pub ComesAt : {A : Type 0} → BinWriter A → Written → PlacedItem → Type 0
ComesAt w s item = Holds w s × MayCome w.limits.depth s (user_item item)

-- what it adds there
abbrev pub adds_at : Limits → Written → PlacedItem → List ℕ
adds_at limits s item = unless_refused (refused_at limits s item) (item_puts limits.symbols s (user_item item))

-- a call that answers well leads where the streaming definition does, which does not refuse the item; a refusal is that one's own
pub record Follows {A : Type 0} (old new : BinWriter A) (s : Written) (item : PlacedItem) (result : Result (Unit {0}) Fault) : Type 0 where
  pub holds : OnOk result (Holds new (after old.limits.symbols s (user_item item)))
  pub passes : OnOk result (refused_at old.limits s item ≡ None)
  pub refuses : (r : Reason) (p : ℕ) → result ≡ Err (Refused r p) → refused_at old.limits s item ≡ Some (r, p)

-- what is held with an item, before a value that is whole is put
abbrev pub added : Held → PlacedItem → Held
added h item =
    let n = with_names h (user_item item) in
    record n { octets = octets_with n (user_item item); headers = headers_with n (user_item item) }

-- why an item is refused after what is held, and the place, if it is: the limit on symbol tables first, then that on values
abbrev pub item_refusal : Limits → Held → PlacedItem → Option (Reason × ℕ)
item_refusal limits h item =
    refused_by limits.value (size_of (added h item).octets (added h item).headers) item.top (first_over limits.symbols h.texts (item_symbols item))

-- it stays within its limits, and what it holds is counted
pub record CanPut {A : Type 0} (w : BinWriter A) (meter : Counts) : Type 0 where
  pub sound : IsSound w
  pub held : own_of w ≤ meter.held
