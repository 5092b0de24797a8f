-- What the calls below `run` require and keep: what they answer and write beside what is due, and why they fail.
use Rattle.std.specs.Prelude.{◌≡◌, ◌≢◌, ℕ, ◌+◌, ◌-◌, ◌^◌, ◌<◌, ◌≤◌, ◌↔◌, List, [], ◌++◌, length, max, Option, None, Result, Ok, Err, OnOk, IfOk, IfErr}
use Rattle.ion_meter.specs.Counts.{Counts}
use Rattle.ion_meter.specs.Limits.{AreChecked}
use Rattle.ion_meter.specs.Windows.{Incoming, Outgoing, HasPrefix, so_far, write_failures_in}
use Rattle.ion_meter.specs.declared.device.Output.{Ghosts as OutputOf}
use Rattle.ion_meter.specs.declared.fault.Fault.{Fault}
use Rattle.ion_meter.specs.declared.fault.Fault.TheVariants.{Refused, Memory, ReadFault, WriteFault, InputLimit}
use Rattle.ion_meter.specs.declared.fault.Reason.{Reason}
use Rattle.ion_meter.specs.declared.limits.Limits.{Limits}
use Rattle.ion_value.specs.Feeding.{Feeds}
use Rattle.ion_value.specs.Outcome.{Verdict, Accepted, Rejected}
use Rattle.ion_value.specs.declared.reader.RawReader.{Ghosts as ReaderOf}
use Rattle.ion_value.specs.declared.writer.ValueWriter.{Ghosts as WriterOf}
use Rattle.ion_meter.specs.Sources.{Stands}
use Rattle.ion_symbols.specs.User.{IsReady, answered_by, coming_to, level_of, limits_of, owned_by, share_of}
use Rattle.ion_symbols.specs.declared.user.UserReader.{UserReader}
use Rattle.ion_transcode.specs.declared.copy_items.Copied.{Copied}
use Rattle.ion_transcode.specs.declared.to.Form.{Form}
use Rattle.ion_transcode.specs.declared.to.Form.TheVariants as forms
use Rattle.ion_transcode.specs.declared.to.To.{To}
use Rattle.ion_transcode.specs.declared.to.Summary.{Summary}
use Rattle.ion_value.specs.Shares.{Charges}
use Rattle.ion_transcode.specs.Bound.{bound, share}

-- ---- what a call answers and writes

-- an answer says the verdict that is due: accepted with so many values, or refused; a fault of another kind says nothing of it
pub record SaysVerdict (due : Verdict) (answer : Result ℕ Fault) : Type 0 where
  pub accepted : (n : ℕ) → answer ≡ Ok n → due ≡ Accepted n
  pub rejected : (r : Reason) (p : ℕ) → answer ≡ Err (Refused r p) → due ≡ Rejected r p

-- and the form that was read
pub record SaysSummary (read : Form) (due : Verdict) (answer : Result Summary Fault) : Type 0 where
  pub accepted : (s : Summary) → answer ≡ Ok s → due ≡ Accepted s.values
  pub form : (s : Summary) → answer ≡ Ok s → s.form ≡ read
  pub rejected : (r : Reason) (p : ℕ) → answer ≡ Err (Refused r p) → due ≡ Rejected r p

-- after what was written before stands the output that is due: all of it where the stream was accepted or refused, a prefix of it in any case
pub record WritesOutput {T : Type 0} (due : List ℕ) (answer : Result T Fault) (before after : List ℕ) : Type 0 where
  pub accepted : OnOk answer (after ≡ before ++ due)
  pub rejected : (r : Reason) (p : ℕ) → answer ≡ Err (Refused r p) → after ≡ before ++ due
  pub prefix : HasPrefix (before ++ due) after

-- the same where some of what was put is not written yet
pub record PutsOutput {T : Type 0} (due : List ℕ) (answer : Result T Fault) (before put written : List ℕ) : Type 0 where
  pub accepted : OnOk answer (put ≡ before ++ due)
  pub rejected : (r : Reason) (p : ℕ) → answer ≡ Err (Refused r p) → put ≡ before ++ due
  pub prefix : HasPrefix (before ++ due) written

-- a sink that has not failed where the stream was accepted or refused
pub record StaysWell {T : Type 0} (answer : Result T Fault) (fault : Option Fault) : Type 0 where
  pub accepted : OnOk answer (fault ≡ None)
  pub rejected : (r : Reason) (p : ℕ) → answer ≡ Err (Refused r p) → fault ≡ None

-- an outcome is passed on, unless what was put could not be written
pub record PassesOn (outcome answer : Result ℕ Fault) : Type 0 where
  pub accepted : (n : ℕ) → answer ≡ Ok n → outcome ≡ Ok n
  pub same : (f : Fault) → answer ≡ Err f → f ≢ WriteFault → outcome ≡ Err f
  pub memory : outcome ≡ Err Memory → answer ≡ Err Memory
  pub read : outcome ≡ Err ReadFault → answer ≡ Err ReadFault
  pub write : outcome ≡ Err WriteFault → answer ≡ Err WriteFault

-- ---- why a call fails

-- memory, where it was refused; a read or a write fault, where that device failed once more; the input limit, where the input goes past it; a
-- count that is not told of stays as it was, and what is written only grows
pub record Causes {T O : Type 0} (answer : Result T Fault) (old new : Counts) (reads_old reads_new : ℕ) (exceeds : Type 0) (output : OutputOf O) (before after : O) : Type 0 where
  pub memory : answer ≡ Err Memory → old.refused < new.refused
  pub counted : answer ≢ Err Memory → new.refused ≡ old.refused
  pub read : answer ≡ Err ReadFault → reads_new ≡ reads_old + 1
  pub reads_steady : answer ≢ Err ReadFault → reads_new ≡ reads_old
  pub write : answer ≡ Err WriteFault → output.failure_count after ≡ output.failure_count before + 1
  pub steady : answer ≢ Err WriteFault → output.failure_count after ≡ output.failure_count before
  pub still_observable : output.observable after ↔ output.observable before
  pub grown : output.observable before → HasPrefix (output.written after) (output.written before)
  pub limit : answer ≡ Err InputLimit → exceeds

-- ---- what a call requires

-- memory: no more is held than this, and at least what the parts hold
pub record HasRoom (most own : ℕ) (meter : Counts) : Type 0 where
  pub room : meter.held ≤ most
  pub held : own ≤ meter.held
  pub countable : meter.refused < 2 ^ 64 - 1

-- each device may fail once more, and its count of failures still fits
pub record MayFail (reads_before writes_before : ℕ) : Type 0 where
  pub reads : reads_before < 2 ^ 64 - 1
  pub writes : writes_before < 2 ^ 64 - 1

-- a raw reader that has given nothing
pub record IsFresh {R A : Type 0} (reader : ReaderOf R A) (limits : Limits) (raw : R) : Type 0 where
  pub checked : AreChecked limits
  pub sound : reader.sound raw
  pub level : reader.opened raw ≡ []
  pub well : reader.failed raw ≡ None
  pub depth : limits.depth ≡ reader.depth raw

-- a reader of user values that has given nothing
pub record IsAtStart {R A : Type 0} (reader : ReaderOf R A) (u : UserReader R A) : Type 0 where
  pub ready : IsReady reader.sound reader.opened reader.failed reader.ended u
  pub well : u.failed ≡ None
  pub level : reader.opened u.raw ≡ []

-- a writer that has taken nothing, for a reader of this depth
pub record MayWrite {W O A : Type 0} (writer : WriterOf W O A) (depth : ℕ) (w : W) (sink : Outgoing O) : Type 0 where
  pub sound : writer.sound w
  pub fresh : writer.is_new w
  pub depth_of : (writer.limits w).depth ≡ depth
  pub well : sink.fault ≡ None

-- a source whose bytes were not passed over
pub record Begins {I : Type 0} (limits : Limits) (source : Incoming I) : Type 0 where
  pub checked : AreChecked limits
  pub stands : Stands source
  pub start : source.place ≡ 0
  pub limit : source.limit ≡ limits.input

-- a sink to which nothing was put
pub record IsEmpty {O : Type 0} (sink : Outgoing O) : Type 0 where
  pub well : sink.fault ≡ None
  pub nothing : sink.pending ≡ []

-- ---- what a call keeps

-- a writer after all items
pub record StaysSound {W O A : Type 0} (writer : WriterOf W O A) (before after : W) : Type 0 where
  pub sound : writer.sound after
  pub limits : writer.limits after ≡ writer.limits before
  pub most : writer.most after ≡ writer.most before

-- a reader, a writer and a sink after all items
pub record Joined {R W O A T : Type 0} (reader : ReaderOf R A) (writer : WriterOf W O A) (old new : UserReader R A) (before after : W) (answer : Result T Fault) (fault : Option Fault) : Type 0 where
  pub ready : IsReady reader.sound reader.opened reader.failed reader.ended new
  pub limits : new.limits ≡ old.limits
  pub reader_most : reader.most new.raw ≡ reader.most old.raw
  pub stays : StaysSound writer before after
  pub well : StaysWell answer fault

-- ---- items that a reader hands to a writer, where windows of output are written between

-- what takes part
pub record Parts (R W O A : Type 0) : Type 0 where
  pub reader : UserReader R A
  pub writer : W
  pub sink : Outgoing O
  pub meter : Counts

-- so many values have ended, and this is all that was put, where it was not written meanwhile; nothing has failed
pub record HasMoved {R W O A : Type 0} (reader : ReaderOf R A) (writer : WriterOf W O A) (output : OutputOf O) (earlier values : ℕ) (put : List ℕ) (old new : Parts R W O A) : Type 0 where
  pub feeds : Feeds writer (λ item. item) (reader.observable old.reader.raw)
      (record {
        coming = coming_to reader.reading old.reader;
        opened = reader.opened old.reader.raw;
        writer = old.writer;
        pending = so_far output.written old.sink;
        values = earlier;
      })
      (record {
        coming = coming_to reader.reading new.reader;
        opened = reader.opened new.reader.raw;
        writer = new.writer;
        pending = put;
        values = values;
      })
  pub counts : values + reader.left new.reader.raw ≤ earlier + reader.left old.reader.raw
  pub falls : reader.left new.reader.raw ≤ reader.left old.reader.raw
  -- the reader
  pub ready : IsReady reader.sound reader.opened reader.failed reader.ended new.reader
  pub level : level_of new.reader ≡ length (reader.opened new.reader.raw)
  pub observable : reader.observable new.reader.raw ↔ reader.observable old.reader.raw
  pub read_on : reader.read_on old.reader.raw new.reader.raw
  pub limits : limits_of new.reader ≡ limits_of old.reader
  pub answered : answered_by new.reader ≡ answered_by old.reader
  pub depth : reader.depth new.reader.raw ≡ reader.depth old.reader.raw
  pub most : reader.most new.reader.raw ≡ reader.most old.reader.raw
  pub failures : reader.failures new.reader.raw ≡ reader.failures old.reader.raw
  pub exceeds : reader.exceeds new.reader.raw ↔ reader.exceeds old.reader.raw
  pub bytes_left : reader.bytes_left new.reader.raw → reader.bytes_left old.reader.raw
  -- the writer
  pub stays : StaysSound writer old.writer new.writer
  pub failed : writer.failed new.writer ≡ writer.failed old.writer
  -- the meter
  pub refused : new.meter.refused ≡ old.meter.refused
  pub charges : Charges old.meter new.meter (owned_by reader.own old.reader + writer.own old.writer) (owned_by reader.own new.reader + writer.own new.writer)
      (share_of reader.most old.reader + writer.most old.writer)

-- all that was put is written or pending in the sink; only the device fails, and then a prefix of it is written
pub record IsSent {T O : Type 0} (output : OutputOf O) (answer : Result T Fault) (put : List ℕ) (old new : Outgoing O) : Type 0 where
  pub whole : OnOk answer (output.observable old.device → so_far output.written new ≡ put)
  pub well : OnOk answer (new.fault ≡ None)
  pub cause : IfErr answer (λ f. f ≡ WriteFault)
  pub count : output.failure_count new.device ≡ output.failure_count old.device + write_failures_in None answer
  pub still_observable : output.observable new.device ↔ output.observable old.device
  pub grown : output.observable old.device → HasPrefix (output.written new.device) (output.written old.device)
  pub prefix : output.observable old.device → HasPrefix put (output.written new.device)

-- items are handed on, and what they put is sent
pub record HandsOn {R W O A : Type 0} (reader : ReaderOf R A) (writer : WriterOf W O A) (output : OutputOf O) (start : Copied) (answer : Result Copied Fault) (old new : Parts R W O A) : Type 0 where
  pub values : ℕ
  pub put : List ℕ
  pub moved : HasMoved reader writer output start.values values put old new
  pub sent : IsSent output answer put old.sink new.sink
  pub counts : IfOk answer (λ at. (at.values ≡ values) × (at.level ≡ length (reader.opened new.reader.raw)))

-- the meter after a stream whose windows are made: that on the input is given back, and no more was held than the share of text, nor, where a stream
-- is accepted, than that of its form
pub record GivesBackSource (limits : Limits) (to : To) (is_binary : Type 0) (answer : Result Summary Fault) (old new : Counts) : Type 0 where
  pub charges : Charges old new 4096 0 (4096 + share limits forms.Text to)
  pub charges_of_form : (s : Summary) → answer ≡ Ok s → Charges old new 4096 0 (4096 + share limits s.form to)
  pub charges_of_binary : is_binary → Charges old new 4096 0 (4096 + share limits forms.Binary to)

-- the meter after a run: all is given back, and no more was held than the bound of text, nor, where a stream is accepted, than that of its form
pub record GivesBack (limits : Limits) (to : To) (is_binary : Type 0) (answer : Result Summary Fault) (old new : Counts) : Type 0 where
  pub held : new.held ≡ old.held
  pub peak : new.peak ≤ max old.peak (old.held + bound limits forms.Text to)
  pub peak_of_form : (s : Summary) → answer ≡ Ok s → new.peak ≤ max old.peak (old.held + bound limits s.form to)
  pub peak_of_binary : is_binary → new.peak ≤ max old.peak (old.held + bound limits forms.Binary to)
