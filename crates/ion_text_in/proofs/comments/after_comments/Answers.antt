use Rattle.std.proofs.Common.{ℕ, ◌≡◌, ◌<◌, ◌==◌, List, false, length, drop, subst, sym, arith}
use Rattle.std.proofs.lemmas.Grind.{common_steps}
use Rattle.ion_value.specs.Digits.{first_is}
use Rattle.ion_text_in.specs.Blanks.{blanks_at}
use Rattle.ion_text_in.specs.Feeding.{LeadsTo, PassesBlanks}
use Rattle.ion_text_in.proofs.FeedReading.{passes-white, other-there}
use Rattle.ion_text_in.proofs.FeedComments.{leads-then, leads-white, passes-after}
use Rattle.ion_text_in.proofs.comments.after_comments.Goals as goal

pub returns-then-next-ne47 : goal.returns-then-next-ne47
returns-then-next-ne47 c some =
    let bytes = c.args.bytes.now in
    let rest = c.blanks.rest.now in
    let next = c.after-next.result.now in
    let white = c.white_run-white in
    let there : white.result < length rest = grind (arith, white.ensures.within, c.if-white-rest.false) in
    let other : first_is (λ b. b == 47) (drop white.result rest) ≡ false = subst (λ (l : List ℕ). first_is (λ b. b == 47) l ≡ false) c.after-next.ensures (other-there next 0 47 some c.if-next-ne47.true) in
    passes-after bytes rest next c.blanks.invariant
    (subst (λ (l : List ℕ). PassesBlanks rest l) (sym c.after-next.ensures) (passes-white rest white.result there white.ensures.run white.ensures.ends other))

pub blanks-preserved : goal.blanks-preserved
blanks-preserved c =
    let bytes = c.args.bytes.now in
    let rest = c.blanks.rest.now in
    let next = c.after-next.result.now in
    let last = c.after_comment-last.result.now in
    let white = c.white_run-white in
    let some : 0 < length last = grind (arith, c.is_empty.ensures, c.if-is_empty.false) in
    leads-then blanks_at blanks_at blanks_at bytes rest last c.blanks.invariant
    (leads-then blanks_at blanks_at blanks_at rest next last
    (subst (λ (l : List ℕ). LeadsTo blanks_at blanks_at rest l) (sym c.after-next.ensures) (leads-white rest white.result white.ensures.within white.ensures.run))
    (c.after_comment-last.ensures.leads some))

pub blanks-smaller : goal.blanks-smaller
blanks-smaller c = grind (arith, common_steps) steps 400000

pub returns-then-is_empty : goal.returns-then-is_empty
returns-then-is_empty c = grind (arith, common_steps)
