use Rattle.std.proofs.Common.{◌≡◌, ◌+◌, ◌∙◌, true, false, not, List, ℕ, ◌++◌, drop, get_or, ap, sym, subst, arith}
use Rattle.std.proofs.lemmas.Grind.{common_steps}
use Rattle.std.proofs.lemmas.List.{take_rest, drop_more}
use Rattle.ion_text_in.specs.Runs.{goes_on}
use Rattle.ion_text_in.proofs.RunEnds.{go-more, go-end, stays-on}
use Rattle.ion_text_in.proofs.SureRuns.{extent-ended}
use Rattle.ion_text_in.proofs.run.run_by_byte.Goals as goal

pub bytes-preserved : goal.bytes-preserved
bytes-preserved c =
    let bytes = c.args.bytes.now in
    let i = c.bytes.len in
    go-more (goes_on c.args.run) bytes i c.bytes-test.true c.bytes.invariant
    (λ more. subst (λ (l : List ℕ). goes_on c.args.run (l ++ more) ≡ true) (take_rest bytes i) (c.in-Some-false.ensures more ∙ ap not c.in-Some-false.field-0-test))

pub bytes-preserved-then-stays : goal.bytes-preserved-then-stays
bytes-preserved-then-stays c =
    let bytes = c.args.bytes.now in
    let i = c.bytes.len in
    go-more (goes_on c.args.run) bytes i c.bytes-test.true c.bytes.invariant
    (λ more. subst (λ (l : List ℕ). goes_on c.args.run (l ++ more) ≡ true) (sym (drop_more bytes i 0 c.bytes-test.true))
    (stays-on c.args.run (get_or bytes i 0) (drop (i + 1) bytes ++ more) (sym c.stays.ensures ∙ c.if-stays.true)))

pub returns-in-Some-true : goal.returns-in-Some-true
returns-in-Some-true c =
    let bytes = c.args.bytes.now in
    let test = goes_on c.args.run in
    let ends = go-end test bytes c.bytes.len c.bytes.invariant
    (λ more. subst (λ (l : List ℕ). test (l ++ more) ≡ false) (take_rest bytes c.bytes.len) (c.in-Some-true.ensures more ∙ ap not c.in-Some-true.field-0-test)) in
    extent-ended c.args.run bytes c.bytes.len c.bytes-test.true c.bytes.invariant ends

pub ends-requires : goal.ends-requires
ends-requires c = grind (arith, common_steps) steps 400000
