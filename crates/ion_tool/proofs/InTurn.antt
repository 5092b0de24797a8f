-- What runs write that are served one after another.
use Rattle.std.proofs.Common.{arith, ◌≡◌, inl, inr, ℕ, length, List, [], ◌∷◌, ◌++◌, Option, None, Some, Result, Ok, Err, refl, sym, ap, subst, ◌∙◌, append_assoc, append-nil}
use Rattle.std.specs.List.{concat}
use Rattle.clap.specs.Words.{Text}
use Rattle.ion_meter.specs.Counts.{Counts}
use Rattle.ion_meter.specs.Windows.{HasPrefix}
use Rattle.ion_meter.specs.declared.device.Input.{Ghosts as InputOf}
use Rattle.ion_meter.specs.declared.device.Output.{Ghosts as OutputOf}
use Rattle.ion_meter.specs.declared.limits.Limits.{Limits}
use Rattle.ion_symbols.specs.Table.{Shared}
use Rattle.ion_tool.specs.Words.{file_for}
use Rattle.ion_tool.specs.Serving.{file_input, label_of, Giving, Closing, Standing, IsServed, IsOpenServed, IsFollowed, IsRunServed, AreServed, IsInTurn}
use Rattle.ion_tool.specs.declared.words.Task.{Task}

-- what is written after what was there before, where that can be observed
abbrev Adds : {O : Type 0} → OutputOf O → O → O → Type 0
Adds output old new = output.observable old → output.observable new × HasPrefix (output.written new) (output.written old)

run_adds : {I O E : Type 0} (input : InputOf I) (output : OutputOf O) (errors : OutputOf E) (label : List ℕ) (catalog : List Shared) (asked : Task) (limits : Limits)
    (old new : Counts) (in_old in_new : I) (out_old out_new : O) (err_old err_new : E) (status : ℕ)
    → IsServed input output errors label catalog asked limits old new in_old in_new out_old out_new err_old err_new status → Adds output out_old out_new
run_adds input output errors label catalog asked limits old new in_old in_new out_old out_new err_old err_new status served =
    λ o. (served.kept.still_observable.1 o, served.kept.grown o)

open_adds : {S F O E : Type 0} (closes : Closing S F) (remaining : F → Option (List ℕ)) (output : OutputOf O) (errors : OutputOf E) (label : List ℕ) (catalog : List Shared) (asked : Task)
    (limits : Limits) (name : List ℕ) (found : Result F (List ℕ)) (old new : Counts) (opened files_new : S) (out_old out_new : O) (err_old err_new : E) (status : ℕ)
    → IsOpenServed closes remaining output errors label catalog asked limits name found old new opened files_new out_old out_new err_old err_new status → Adds output out_old out_new
open_adds {S} {F} {O} {E} closes remaining output errors label catalog asked limits name (Err reason) old new opened files_new out_old out_new err_old err_new status served =
    λ o. subst (λ (d : O). output.observable d × HasPrefix (output.written d) (output.written out_old)) (sym served.output) (o, ([], sym (append-nil _)))
open_adds closes remaining output errors label catalog asked limits name (Ok file) old new opened files_new out_old out_new err_old err_new status served =
    run_adds (file_input remaining) output errors label catalog asked limits old new _ _ out_old out_new err_old err_new status served.2

one_adds : {S F I O E : Type 0} (gives : Giving S F) (closes : Closing S F) (remaining : F → Option (List ℕ)) (input : InputOf I) (output : OutputOf O) (errors : OutputOf E) (label : List ℕ)
    (catalog : List Shared) (asked : Task) (limits : Limits) (name : Option Text) (old new : Standing S I O E) (status : ℕ)
    → IsRunServed gives closes remaining input output errors label catalog asked limits name old new status → Adds output old.output new.output
one_adds gives closes remaining input output errors label catalog asked limits None old new status run =
    run_adds input output errors label catalog asked limits old.counts new.counts old.input new.input old.output new.output old.errors new.errors status run.1
one_adds gives closes remaining input output errors label catalog asked limits (Some name) old new status run =
    open_adds closes remaining output errors label catalog asked limits name run.1.0 old.counts new.counts run.1.1 new.files old.output new.output old.errors new.errors status run.1.3

-- where another run could follow after all, it could after the first too
still_followed : {S I O E : Type 0} (input : InputOf I) (output : OutputOf O) (errors : OutputOf E) (old middle new : Standing S I O E)
    → IsFollowed input output errors old middle → IsFollowed input output errors old new → IsFollowed input output errors middle new
still_followed input output errors old middle new first all = record { unbroken = all.unbroken ∙ sym first.unbroken; memory = all.memory; reads = all.reads; lines = all.lines }

one_more : (part : List ℕ) (parts : List (List ℕ)) (word : Text) (words : List Text) → length parts ≡ length words → length (part ∷ parts) ≡ length (word ∷ words)
one_more part parts word words e = omega arith

-- the parts of all of them
pub in_turn : {S F I O E : Type 0} (gives : Giving S F) (closes : Closing S F) (remaining : F → Option (List ℕ)) (input : InputOf I) (output : OutputOf O) (errors : OutputOf E)
    (catalog : List Shared) (asked : Task) (limits : Limits) (words : List Text) (old new : Standing S I O E) (status : ℕ)
    → AreServed gives closes remaining input output errors catalog asked limits words old new status → output.observable old.output
    → IsInTurn gives closes remaining input output errors catalog asked limits words old new
in_turn {S} {F} {I} {O} {E} gives closes remaining input output errors catalog asked limits [] old new status served o =
    subst (λ (d : Standing S I O E). IsInTurn gives closes remaining input output errors catalog asked limits [] old d) (sym served.0) ([], tt, sym (append-nil _), λ f. refl)
in_turn {S} {F} {I} {O} {E} gives closes remaining input output errors catalog asked limits (word ∷ rest) old new status (middle, own, others, is, run, inl (followed, more)) o =
    let adds = one_adds gives closes remaining input output errors (label_of (Some word)) catalog asked limits (file_for word) old middle own run o in
    let left = in_turn gives closes remaining input output errors catalog asked limits rest middle new others more adds.0 in (
      adds.1.0 ∷ left.0,
      ((old, middle, own, o, run, adds.1.1), left.1),
      left.2 ∙ (ap (λ (l : List ℕ). l ++ concat left.0) adds.1.1 ∙ append_assoc (output.written old.output) adds.1.0 (concat left.0)),
      λ f. one_more adds.1.0 left.0 word rest (left.3 (still_followed input output errors old middle new followed f)),
    )
in_turn {S} {F} {I} {O} {E} gives closes remaining input output errors catalog asked limits (word ∷ rest) old new status (middle, own, others, is, run, inr (alone, same, none)) o =
    let adds = one_adds gives closes remaining input output errors (label_of (Some word)) catalog asked limits (file_for word) old middle own run o in (
      adds.1.0 ∷ [],
      ((old, middle, own, o, run, adds.1.1), tt),
      ap (λ (d : Standing S I O E). output.written d.output) same ∙ (adds.1.1 ∙ ap (λ (l : List ℕ). output.written old.output ++ l) (sym (append-nil adds.1.0))),
      λ f. absurd (alone (subst (λ (d : Standing S I O E). IsFollowed input output errors old d) same f)),
    )
