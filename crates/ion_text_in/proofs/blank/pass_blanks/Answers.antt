use Rattle.std.proofs.Common.{◌≡◌, ◌==◌, not, false, ℕ, List, Some, take, drop, get_or, slice_get, ap, ◌∙◌, arith}
use Rattle.std.proofs.lemmas.Grind.{common_steps}
use Rattle.ion_meter.specs.Windows.{left}
use Rattle.ion_meter.proofs.Extending.{extends-not}
use Rattle.ion_value.specs.Digits.{first_is}
use Rattle.ion_text_in.specs.Blanks.{is_white, blanks}
use Rattle.ion_text_in.proofs.BlankTurns.{found-other}
use Rattle.ion_text_in.proofs.Runs.{ends-shown, first-shown, at-front}
use Rattle.ion_text_in.proofs.BlankRuns.{white-over}
use Rattle.ion_text_in.proofs.Turns.{turn, turn-then, turn-after}
use Rattle.ion_text_in.proofs.WhiteRuns.{first-at, none-at, not-ended, white-passed}
use Rattle.ion_text_in.proofs.blank.pass_blanks.Goals.{else-run-bytes-via-then-run-bytes+else-bytes-run-ne47, else-run-bytes-via-else-run-bytes}
use Rattle.ion_text_in.proofs.blank.pass_blanks.Goals as goal

pub returns-then-bytes-run-ne47-clause-gives : goal.returns-then-bytes-run-ne47-clause-gives
returns-then-bytes-run-ne47-clause-gives g c = λ h.
    let s = c.args.source.now in
    let t = c.consume.new.self in
    let bytes : List ℕ = c.buffer-bytes.result.now in
    let n = c.white_run-run.result in
    let run = c.white_run-run.ensures in
    let passed = turn g.I.Input s s t bytes n c.requires.stands (extends-not g.I.Input s) c.requires.stands.well (omega arith) c.buffer-bytes.ensures run.within c.consume.ensures in
    let over = white-over s.place (take n bytes) (left g.I.Input.rest t) run.run in
    let after = turn-after g.I.Input s t bytes n c.buffer-bytes.ensures run.within c.consume.ensures in
    let dark = ap (λ (l : List ℕ). first_is is_white l) after.1 ∙ ends-shown is_white bytes after.0 n c.if-run-bytes.true run.ends in
    let first : slice_get (left g.I.Input.rest t) 0 ≡ Some (get_or bytes n 0) =
    ap (λ (l : List ℕ). slice_get l 0) after.1 ∙ first-shown (drop n bytes) after.0 (get_or bytes n 0) (at-front bytes n c.if-run-bytes.true) in
    turn-then g.I.Input s t (take n bytes) blanks blanks passed h over ∙ found-other t.place (get_or bytes n 0) (left g.I.Input.rest t) dark first c.if-bytes-run-ne47.true

pub returns-then-bytes-run-ne47-clause-reads : goal.returns-then-bytes-run-ne47-clause-reads
returns-then-bytes-run-ne47-clause-reads g c = grind (arith, common_steps) steps 400000

pub consume-requires : goal.consume-requires
consume-requires g c = grind (arith, common_steps) steps 400000

pub returns-then-bytes-run-ne47-clause-shown : goal.returns-then-bytes-run-ne47-clause-shown
returns-then-bytes-run-ne47-clause-shown g c =
    λ n ends. white-passed c.args.source.now c.consume.new.self c.buffer-bytes.result.now c.white_run-run.result n c.requires.stands.well c.buffer-bytes.ensures c.white_run-run.ensures c.consume.ensures ends

pub returns-clause-shown : goal.returns-clause-shown
returns-clause-shown g c = λ n ends.
    let bytes : List ℕ = c.buffer-bytes.result.now in
    let run = c.white_run-run.result in
    let slash : first_is (λ b. not (b == 47)) (drop run bytes) ≡ false = elim c.else-run-bytes.branch [
      | else-run-bytes-via-then-run-bytes+else-bytes-run-ne47 w ↦ first-at (λ b. not (b == 47)) bytes run w.if-run-bytes.true ∙ grind (arith, common_steps)
      | else-run-bytes-via-else-run-bytes w ↦ none-at (λ b. not (b == 47)) bytes run (omega (arith, w.if-run-bytes.false))
    ] in
    absurd (not-ended bytes _ run n c.buffer-bytes.ensures c.white_run-run.ensures slash ends)
