-- The verdict and the output of a reading, where each item is put by a writer or refused by it.
use Rattle.std.specs.Prelude.{ℕ, ◌+◌, List, [], ◌∷◌, ◌++◌, Option, Some, None}
use Rattle.ion_meter.specs.declared.fault.Reason.{Reason}
use Rattle.ion_value.specs.declared.ion_type.Kind.{Kind}
use Rattle.ion_value.specs.Value.{PlacedItem}
use Rattle.ion_value.specs.Reading.{Reading, Finished, Stopped, More}
use Rattle.ion_value.specs.Standing.{open_after}

-- accepted with so many values at top level, or refused
pub data Verdict : Type 0 where
  Accepted : (values : ℕ) → Verdict
  Rejected : (reason : Reason) → (place : ℕ) → Verdict

-- one where nothing is open
abbrev pub one_if_closed : List Kind → ℕ
one_if_closed [] = 1
one_if_closed (kind ∷ kinds) = 0

-- how many values at top level end among items, after which containers of these kinds are open
abbrev pub values_in : List Kind → List PlacedItem → ℕ
values_in kinds [] = 0
values_in kinds (item ∷ items) = one_if_closed (open_after kinds item.head) + values_in (open_after kinds item.head) items

-- an item is passed on or refused, and then the rest
abbrev pub verdict_with : Option (Reason × ℕ) → Verdict → Verdict
verdict_with None rest = rest
verdict_with (Some why) rest = Rejected why.0 why.1

-- the verdict on a reading after items that were all put
abbrev pub verdict_after : (List PlacedItem → PlacedItem → Option (Reason × ℕ)) → List PlacedItem → Reading → Verdict
verdict_after refusal path Finished = Accepted (values_in [] path)
verdict_after refusal path (Stopped reason place) = Rejected reason place
verdict_after refusal path (More item rest) = verdict_with (refusal path item) (verdict_after refusal (path ++ item ∷ []) rest)

-- all that is put: what was put so far where the next item is refused, and else what is put with it and the rest
abbrev pub output_with : Option (Reason × ℕ) → List ℕ → List ℕ → List ℕ
output_with None so_far rest = rest
output_with (Some why) so_far rest = so_far

-- all that is put of a reading after items that were all put
abbrev pub output_after : (List PlacedItem → List ℕ) → (List PlacedItem → PlacedItem → Option (Reason × ℕ)) → List PlacedItem → Reading → List ℕ
output_after puts refusal path Finished = puts path
output_after puts refusal path (Stopped reason place) = puts path
output_after puts refusal path (More item rest) =
    output_with (refusal path item) (puts path) (output_after puts refusal (path ++ item ∷ []) rest)
