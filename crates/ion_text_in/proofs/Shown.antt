-- What the bytes of a window show is what reading gives from where the window stands.
use Rattle.std.proofs.Common.{◌≡◌, ℕ, ◌+◌, ◌-◌, List, ◌++◌, drop, Option, Some, None, Result, Ok, Err, refl, sym, ap, ◌∙◌}
use Rattle.std.proofs.lemmas.List.{take-append-drop, append_assoc, drop-append-le}
use Rattle.ion_meter.specs.declared.device.Input.{Ghosts as InputOf}
use Rattle.ion_meter.specs.declared.fault.Fault.{Fault}
use Rattle.ion_meter.specs.declared.fault.Reason.{Reason}
use Rattle.ion_meter.specs.Windows.{Incoming, left, lent, lent_by, IsPassed}
use Rattle.ion_meter.specs.Sources.{Cursor, cursor}
use Rattle.ion_meter.proofs.Lent.{lent-CanPass, IsPassed-left}
use Rattle.ion_text_in.specs.declared.scanned.Scanned.TheVariants as scanned
use Rattle.ion_text_in.specs.Scanners.{Shows}
use Rattle.ion_text_in.specs.Meaning.{at}

-- what stands after what a window lends
abbrev pub after_lent : Option Fault → ℕ → List ℕ → List ℕ
after_lent None most bytes = drop most bytes
after_lent (Some f) most bytes = bytes

pub lent_by-all : (f : Option Fault) (most : ℕ) (bytes : List ℕ) → bytes ≡ lent_by f most bytes ++ after_lent f most bytes
lent_by-all None most bytes = sym (take-append-drop most bytes)
lent_by-all (Some f) most bytes = refl

-- what a window lends begins what is left
pub lent-left : {I : Type 0} (rest : I → List ℕ) (s : Incoming I) → left rest s ≡ lent s ++ (after_lent s.fault (s.limit - s.place) s.buffered ++ rest s.device)
lent-left rest s =
    ap (λ (l : List ℕ). l ++ rest s.device) (lent_by-all s.fault (s.limit - s.place) s.buffered)
    ∙ append_assoc (lent s) (after_lent s.fault (s.limit - s.place) s.buffered) (rest s.device)

-- ---- what is shown is read

same-reading : {A : Type 0} (reading : Cursor → Result (A × Cursor) Reason) (p : ℕ) (xs ys : List ℕ) → xs ≡ ys → reading (at p xs) ≡ reading (at p ys)
same-reading reading p xs ys e = ap (λ (l : List ℕ). reading (at p l)) e

pub shown-whole : {I T A : Type 0} (device : InputOf I) (view : T → A) (s t : Incoming I) (x : T) (n : ℕ) (reading : Cursor → Result (A × Cursor) Reason)
    → Shows view (lent s) (scanned.Whole x n) reading → IsPassed s t n → reading (cursor device s) ≡ Ok (view x, cursor device t)
shown-whole device view s t x n reading shows passed =
    let more : List ℕ = after_lent s.fault (s.limit - s.place) s.buffered ++ device.rest s.device in
    let all = lent-left device.rest s in
    let can = lent-CanPass s n shows.0 in
    let after : left device.rest t ≡ drop n (lent s) ++ more =
    IsPassed-left device.rest s t n can.0 passed ∙ ap (λ (l : List ℕ). drop n l) all ∙ drop-append-le n (lent s) more shows.0 in
    let there : at (s.place + n) (drop n (lent s) ++ more) ≡ cursor device t =
    ap (λ (l : List ℕ). at (s.place + n) l) (sym after) ∙ ap (λ (p : ℕ). at p (left device.rest t)) (sym passed.place) in
    same-reading reading s.place (left device.rest s) (lent s ++ more) all
    ∙ shows.1 s.place more
    ∙ ap (λ (d : Cursor). Ok (view x, d)) there

pub shown-fault : {I T A : Type 0} (device : InputOf I) (view : T → A) (s : Incoming I) (reason : Reason) (reading : Cursor → Result (A × Cursor) Reason)
    → Shows view (lent s) (scanned.Fault reason) reading → reading (cursor device s) ≡ Err reason
shown-fault device view s reason reading shows =
    let more : List ℕ = after_lent s.fault (s.limit - s.place) s.buffered ++ device.rest s.device in
    same-reading reading s.place (left device.rest s) (lent s ++ more) (lent-left device.rest s) ∙ shows s.place more
