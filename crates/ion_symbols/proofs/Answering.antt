-- An answer of one kind is none of another.
use Rattle.std.proofs.Common.{◌≡◌, Bool, true, false, Option, Some, None, Result, Ok, Err}
use Rattle.ion_meter.specs.declared.fault.Fault.{Fault}
use Rattle.ion_symbols.specs.declared.user.StepResult.{StepResult}
use Rattle.ion_symbols.specs.declared.user.StepResult.TheVariants as step

-- no fault is not a fault
pub no_fault : (f : Fault) → ◌≡◌ {A = Option Fault} None (Some f) → ⊥
no_fault f e = cc

-- nothing is not something
pub none-not-some : {T : Type 0} (x : T) → ◌≡◌ {A = Option T} None (Some x) → ⊥
none-not-some x e = cc

pub some-not-none : {T : Type 0} (x : T) → ◌≡◌ {A = Option T} (Some x) None → ⊥
some-not-none x e = cc

pub no_id : {T : Type 0} (x : T) → ◌≡◌ {A = Result (Option T) Fault} (Ok None) (Ok (Some x)) → ⊥
no_id x e = cc

-- what was answered is no fault
pub ok-not-err : {T : Type 0} (x : T) (f : Fault) → ◌≡◌ {A = Result T Fault} (Ok x) (Err f) → ⊥
ok-not-err x f e = cc

pub err-not-ok : {T : Type 0} (f : Fault) (x : T) → ◌≡◌ {A = Result T Fault} (Err f) (Ok x) → ⊥
err-not-ok f x e = cc

-- an answer has one fault
pub same_fault : {T : Type 0} (f h : Fault) → ◌≡◌ {A = Result T Fault} (Err f) (Err h) → f ≡ h
same_fault f h e = cc

-- an item is not the end
pub true-not-false : ◌≡◌ {A = Result Bool Fault} (Ok true) (Ok false) → ⊥
true-not-false e = cc

pub item-not-end : ◌≡◌ {A = Result StepResult Fault} (Ok step.Item) (Ok step.Ended) → ⊥
item-not-end e = cc
