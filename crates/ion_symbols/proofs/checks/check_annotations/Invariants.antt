use Rattle.std.proofs.Common.{◌≡◌, ◌-◌, ◌≤◌, length, drop}
use Rattle.ion_value.specs.Items.{raw_annotations}
use Rattle.ion_symbols.specs.Users.{annotations_checked}
use Rattle.ion_symbols.proofs.checks.check_annotations.Given as goal

-- none of the annotations so far is at fault
abbrev pub invariant-loop-at : goal.invariant-loop-at
invariant-loop-at g l = record {
  within : l.i ≤ length (raw_annotations l.annotations);
  checked : annotations_checked l.symbols.table l.user (raw_annotations l.annotations) ≡ annotations_checked l.symbols.table l.user (drop l.i (raw_annotations l.annotations));
}

abbrev pub decreases-loop-at : goal.decreases-loop-at
decreases-loop-at g l = length (raw_annotations l.annotations) - l.i
