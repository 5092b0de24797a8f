-- A device after reads alone: reads one after the other, and what was left before them.
use Rattle.std.proofs.Common.{◌≡◌, ℕ, ◌↔◌, List, [], ◌++◌, refl, ap, sym, subst, ◌∙◌, append_assoc, append-nil}
use Rattle.ion_meter.specs.declared.device.Input.{Ghosts as InputOf}
use Rattle.ion_meter.specs.Devices.{AfterReads, unread, read_on, IsReadOn, ReadsOn}

reads-then : {I : Type 0} (device : InputOf I) (a b c : I) (first then : List ℕ) → AfterReads device a first b → AfterReads device b then c → AfterReads device a (first ++ then) c
reads-then {I} device a b c first then done unread = subst (λ l. AfterReads device a l b) (sym (append-nil first)) done
reads-then {I} device a b c first then done (read_on bytes more before after earlier yields seen gave) =
    subst (λ l. AfterReads device a l after) (append_assoc first bytes more)
    (read_on (first ++ bytes) more before after (reads-then device a b before first bytes done earlier) yields seen gave)

-- a device is read on, and then read on again
pub read_on-then : {I : Type 0} (device : InputOf I) (a b c : I) → IsReadOn device a b → IsReadOn device b c → IsReadOn device a c
read_on-then device a b c first then = record {
  bytes = first.bytes ++ then.bytes;
  reads = reads-then device a b c first.bytes then.bytes first.reads then.reads;
}

-- a device that is not read
pub read_on-not : {I : Type 0} (device : InputOf I) (a : I) → IsReadOn device a a
read_on-not device a = record { bytes = []; reads = unread }

-- and one that stays
pub read_on-same : {I : Type 0} (device : InputOf I) (a b : I) → b ≡ a → IsReadOn device a b
read_on-same device a b same = subst (λ d. IsReadOn device a d) (sym same) (read_on-not device a)

-- a device that is read once
pub read_on-once : {I : Type 0} (device : InputOf I) (a b : I) (bytes : List ℕ) → device.yields a bytes b → (device.observable b ↔ device.observable a)
    → (device.observable a → device.rest a ≡ bytes ++ device.rest b) → IsReadOn device a b
read_on-once device a b bytes yields seen gave = record { bytes = bytes; reads = read_on [] bytes a b unread yields seen gave }

-- the two forms of it
pub reads_on-by : {I : Type 0} (device : InputOf I) (a b : I) → IsReadOn device a b → ReadsOn device a b
reads_on-by device a b once = λ first before. read_on-then device first a b before once

pub reads_on-is : {I : Type 0} (device : InputOf I) (a b : I) → ReadsOn device a b → IsReadOn device a b
reads_on-is device a b on = on a (read_on-not device a)

-- it is observable as it was
pub reads-seen : {I : Type 0} (device : InputOf I) (first last : I) (bytes : List ℕ) → AfterReads device first bytes last → device.observable first → device.observable last
reads-seen device first last bytes unread o = o
reads-seen device first last bytes (read_on earlier more before after done yields seen gave) o = seen.1 (reads-seen device first before earlier done o)

-- what was left is what was taken, and then what is left now
pub reads-left : {I : Type 0} (device : InputOf I) (first last : I) (bytes : List ℕ) → AfterReads device first bytes last → device.observable first
    → device.rest first ≡ bytes ++ device.rest last
reads-left device first last bytes unread o = refl
reads-left device first last bytes (read_on earlier more before after done yields seen gave) o =
    reads-left device first before earlier done o
    ∙ (ap (λ (l : List ℕ). earlier ++ l) (gave (reads-seen device first before earlier done o)) ∙ sym (append_assoc earlier more (device.rest after)))
