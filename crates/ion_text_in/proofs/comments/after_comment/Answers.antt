use Rattle.std.proofs.Common.{ℕ, ◌<◌, ◌≤◌, length, List, ap, subst, sym, arith}
use Rattle.ion_text_in.specs.Blanks.{blanks_at, in_line}
use Rattle.ion_text_in.specs.Feeding.{LeadsTo}
use Rattle.std.proofs.lemmas.Grind.{common_steps}
use Rattle.std.proofs.lemmas.List.{length-drop}
use Rattle.ion_text_in.proofs.FeedComments.{leads-line, leads-to-block, leads-to-line}
use Rattle.ion_text_in.proofs.comments.after_comment.Goals as goal

pub returns-then-bytes-eq47-clause-leads : goal.returns-then-bytes-eq47-clause-leads
returns-then-bytes-eq47-clause-leads c some =
    let bytes = c.args.bytes.now in
    let line = c.after-line.result.now in
    let end = c.run_without-end in
    let two : 2 ≤ length bytes = grind (arith, c.if-bytes-lt2.false) in
    let there : end.result < length line = grind (arith, end.ensures.within, c.if-end-line.false) in
    leads-to-line bytes line c.after.result.now two (grind (arith, c.if-bytes-ne47.false)) c.if-bytes-eq47.true c.after-line.ensures
    (subst (λ (l : List ℕ). LeadsTo in_line blanks_at line l) (sym c.after.ensures) (leads-line line end.result there end.ensures.run end.ensures.ends))

pub returns-then-bytes-eq42-clause-leads : goal.returns-then-bytes-eq42-clause-leads
returns-then-bytes-eq42-clause-leads c some =
    let bytes = c.args.bytes.now in
    let two : 2 ≤ length bytes = grind (arith, c.if-bytes-lt2.false) in
    leads-to-block bytes c.after-then-bytes-eq42.result.now c.after_block.result.now two (grind (arith, c.if-bytes-ne47.false)) c.if-bytes-eq42.true c.after-then-bytes-eq42.ensures (c.after_block.ensures some)

pub returns-then-bytes-eq42-clause-falls : goal.returns-then-bytes-eq42-clause-falls
returns-then-bytes-eq42-clause-falls c some =
    let bytes = c.args.bytes.now in
    let two : 2 ≤ length bytes = grind (arith, c.if-bytes-lt2.false) in
    let own = c.after_block.ensures some 0 in
    let fewer = own.fewer in
    let long = ap (λ (l : List ℕ). length l) c.after-then-bytes-eq42.ensures in
    let dropped = length-drop 2 bytes in
    omega (arith, two, fewer, long, dropped)

pub returns-then-bytes-eq47-clause-falls : goal.returns-then-bytes-eq47-clause-falls
returns-then-bytes-eq47-clause-falls c = grind (arith, common_steps) steps 400000
