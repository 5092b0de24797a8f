use Rattle.std.proofs.Common.{arith, ◌≡◌, inl, refl}
use Rattle.std.specs.Prelude.{string_bytes}
use Rattle.ion_tool.specs.Serving.{standing}
use Rattle.ion_tool.proofs.InTurn.{in_turn}
use Rattle.ion_tool.proofs.Turns.{greatest_status, leads_first, leads_next, leads_last, leads_out, left_from, left_past, one_holds}
use Rattle.ion_tool.proofs.serve.serve_each.Goals as goal

pub loop-word-init : goal.loop-word-init
loop-word-init g c = record {
  room = c.requires.room;
  in_failures = c.requires.in_failures;
  out_failures = c.requires.out_failures;
  err_failures = c.requires.err_failures;
  status = inl refl;
  onward = leads_first g.F.FileSource.gives g.F.FileSource.closes g.F.File.Read.remaining g.I.Input g.O.Output g.E.Output _ _ _ _
      (standing c.args.meter.now c.args.files.now c.args.input c.args.out c.args.err);
}

-- a word more
pub loop-word-preserved : goal.loop-word-preserved
loop-word-preserved g c =
    let i = c.loop-word.invariant in
    let run = c.serve_one-served.ensures in
    let go = c.may_go_on.ensures.yes c.if-not-may_go_on.false in
    let now = standing c.loop-word.meter c.loop-word.files c.loop-word.input c.loop-word.out c.loop-word.err in
    let next = standing c.serve_one-served.new.meter c.serve_one-served.new.files c.serve_one-served.result.1 c.serve_one-served.result.2 c.serve_one-served.result.3 in
    let held : c.serve_one-served.new.meter.held ≡ c.loop-word.meter.held =
    one_holds g.F.FileSource.gives g.F.FileSource.closes g.F.File.Read.remaining g.I.Input g.O.Output g.E.Output _ _ _ _ _ now next c.serve_one-served.result.0 run.served in
    record {
      room = record { room = omega (arith, i.room.room, held); held = omega arith; countable = go.memory };
      in_failures = go.reads;
      out_failures = omega (arith, go.unbroken, c.failures-failed.ensures, i.out_failures);
      err_failures = go.lines;
      status = greatest_status _ _ _ c.max-status.ensures i.status run.status;
      onward = leads_next g.F.FileSource.gives g.F.FileSource.closes g.F.File.Read.remaining g.I.Input g.O.Output g.E.Output _ _ _ _ _ _
          (string_bytes c.word-item.result) c.as_str-word.result.now _
          (standing c.args.meter.now c.args.files.now c.args.input c.args.out c.args.err) now next c.loop-word.status c.serve_one-served.result.0 c.max-status.result c.failures-failed.result
          (left_from string_bytes c.args.job.now.files.items c.as_slice-words.result.now c.loop-word.word-index c.word-item.result c.as_slice-words.ensures.value c.loop-word-test.true c.word-item.is)
          c.as_str-word.ensures.value c.file_of-name.ensures c.max-status.ensures c.failures-failed.ensures i.onward run.served go;
    }

-- one that is the last
pub returns-then-not-may_go_on-clause-served : goal.returns-then-not-may_go_on-clause-served
returns-then-not-may_go_on-clause-served g c =
    let now = standing c.loop-word.meter c.loop-word.files c.loop-word.input c.loop-word.out c.loop-word.err in
    let next = standing c.serve_one-served.new.meter c.serve_one-served.new.files c.serve_one-served.result.1 c.serve_one-served.result.2 c.serve_one-served.result.3 in
    leads_last g.F.FileSource.gives g.F.FileSource.closes g.F.File.Read.remaining g.I.Input g.O.Output g.E.Output _ _ _ _ _ _
    (string_bytes c.word-item.result) c.as_str-word.result.now _
    (standing c.args.meter.now c.args.files.now c.args.input c.args.out c.args.err) now next c.loop-word.status c.serve_one-served.result.0 c.max-status.result c.failures-failed.result
    (left_from string_bytes c.args.job.now.files.items c.as_slice-words.result.now c.loop-word.word-index c.word-item.result c.as_slice-words.ensures.value c.loop-word-test.true c.word-item.is)
    c.as_str-word.ensures.value c.file_of-name.ensures c.max-status.ensures c.failures-failed.ensures c.loop-word.invariant.onward c.serve_one-served.ensures.served
    (c.may_go_on.ensures.no c.if-not-may_go_on.true)

pub returns-then-not-may_go_on-clause-in_turn : goal.returns-then-not-may_go_on-clause-in_turn
returns-then-not-may_go_on-clause-in_turn g c o =
    let now = standing c.loop-word.meter c.loop-word.files c.loop-word.input c.loop-word.out c.loop-word.err in
    let next = standing c.serve_one-served.new.meter c.serve_one-served.new.files c.serve_one-served.result.1 c.serve_one-served.result.2 c.serve_one-served.result.3 in
    let start = standing c.args.meter.now c.args.files.now c.args.input c.args.out c.args.err in
    in_turn g.F.FileSource.gives g.F.FileSource.closes g.F.File.Read.remaining g.I.Input g.O.Output g.E.Output _ _ _ _ start next c.max-status.result
    (leads_last g.F.FileSource.gives g.F.FileSource.closes g.F.File.Read.remaining g.I.Input g.O.Output g.E.Output _ _ _ _ _ _
    (string_bytes c.word-item.result) c.as_str-word.result.now _
    start now next c.loop-word.status c.serve_one-served.result.0 c.max-status.result c.failures-failed.result
    (left_from string_bytes c.args.job.now.files.items c.as_slice-words.result.now c.loop-word.word-index c.word-item.result c.as_slice-words.ensures.value c.loop-word-test.true c.word-item.is)
    c.as_str-word.ensures.value c.file_of-name.ensures c.max-status.ensures c.failures-failed.ensures c.loop-word.invariant.onward c.serve_one-served.ensures.served
    (c.may_go_on.ensures.no c.if-not-may_go_on.true)) o

-- all of them
pub returns-clause-served : goal.returns-clause-served
returns-clause-served g c =
    leads_out g.F.FileSource.gives g.F.FileSource.closes g.F.File.Read.remaining g.I.Input g.O.Output g.E.Output _ _ _ _ _
    (standing c.args.meter.now c.args.files.now c.args.input c.args.out c.args.err)
    (standing c.loop-word.meter c.loop-word.files c.loop-word.input c.loop-word.out c.loop-word.err) c.loop-word.status
    (left_past string_bytes c.args.job.now.files.items c.as_slice-words.result.now c.loop-word.word-index c.as_slice-words.ensures.value c.loop-word-test.false)
    c.loop-word.invariant.onward

pub returns-clause-in_turn : goal.returns-clause-in_turn
returns-clause-in_turn g c o =
    let start = standing c.args.meter.now c.args.files.now c.args.input c.args.out c.args.err in
    let now = standing c.loop-word.meter c.loop-word.files c.loop-word.input c.loop-word.out c.loop-word.err in
    in_turn g.F.FileSource.gives g.F.FileSource.closes g.F.File.Read.remaining g.I.Input g.O.Output g.E.Output _ _ _ _ start now c.loop-word.status
    (leads_out g.F.FileSource.gives g.F.FileSource.closes g.F.File.Read.remaining g.I.Input g.O.Output g.E.Output _ _ _ _ _ start now c.loop-word.status
    (left_past string_bytes c.args.job.now.files.items c.as_slice-words.result.now c.loop-word.word-index c.as_slice-words.ensures.value c.loop-word-test.false)
    c.loop-word.invariant.onward) o
