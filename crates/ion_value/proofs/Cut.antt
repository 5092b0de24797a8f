-- Laws of where the VarUInt or VarInt at the front of a body ends.
use Rattle.std.proofs.Common.{◌≡◌, ℕ, zero, suc, ◌<◌, ◌≤◌, inl, inr, true, false, ltb, List, [], ◌∷◌, ◌++◌, length, take, drop, Option, Some, None, refl, sym, ap, ◌∙◌, arith}
use Rattle.std.specs.Option.{IfSome, option_map}
use Rattle.std.proofs.lemmas.Bool.{cases_lt, lt-ltb, le-ltb}
use Rattle.std.proofs.lemmas.List.{take-append-drop, take_at}
use Rattle.ion_value.specs.declared.var.Signed.{Signed}
use Rattle.ion_value.specs.Number.{IsVar, VarUInt, VarInt, var_cut, var_uint, var_int_negative, var_int_magnitude}

-- octets of which the last alone has the high bit, and anything after them, are cut there
pub var_cut-IsVar : (most : ℕ) (e c : List ℕ) → IsVar e → length e ≤ most → var_cut most (e ++ c) ≡ Some (e, c)
unfolding var_cut
var_cut-IsVar zero [] c ends short = absurd ends
var_cut-IsVar zero (x ∷ e) c ends short = absurd (omega arith)
var_cut-IsVar (suc most) [] c ends short = absurd ends
var_cut-IsVar (suc most) (x ∷ []) c ends short = let high : ltb x 128 ≡ false = le-ltb x 128 ends in rw high refl
var_cut-IsVar (suc most) (x ∷ y ∷ e) c ends short =
    let low : ltb x 128 ≡ true = lt-ltb x 128 ends.0 in
    rw (low, var_cut-IsVar most (y ∷ e) c ends.1 (omega arith)) refl

-- what a cut is: octets of which the last alone has the high bit, at most so many, and the rest of the body
pub record Cut (most : ℕ) (body : List ℕ) (cut : List ℕ × List ℕ) : Type 0 where
  pub ends : IsVar cut.0
  pub short : length cut.0 ≤ most
  pub whole : body ≡ cut.0 ++ cut.1

Cut-more : (most b : ℕ) (body e c : List ℕ) → b < 128 → Cut most body (e, c) → Cut (suc most) (b ∷ body) (b ∷ e, c)
Cut-more most b body [] c low h = absurd h.ends
Cut-more most b body (x ∷ e) c low h = record { ends = (low, h.ends); short = omega (arith, h.short); whole = ap (λ (l : List ℕ). b ∷ l) h.whole }

IfSome-Cut-more : (most b : ℕ) (body : List ℕ) (o : Option (List ℕ × List ℕ)) → b < 128 → IfSome o (Cut most body) → IfSome (option_map (λ cut. (b ∷ cut.0, cut.1)) o) (Cut (suc most) (b ∷ body))
IfSome-Cut-more most b body None low h = tt
IfSome-Cut-more most b body (Some cut) low h = Cut-more most b body cut.0 cut.1 low h

-- what is cut off a body is such a cut
pub IfSome-Cut : (most : ℕ) (body : List ℕ) → IfSome (var_cut most body) (Cut most body)
unfolding var_cut
IfSome-Cut zero body = tt
IfSome-Cut (suc most) [] = tt
IfSome-Cut (suc most) (b ∷ body) =
    elim (cases_lt b 128) [
      | inl low ↦ let e : ltb b 128 ≡ true = lt-ltb b 128 low in rw e (IfSome-Cut-more most b body (var_cut most body) low (IfSome-Cut most body))
      | inr high ↦ let e : ltb b 128 ≡ false = le-ltb b 128 high in rw e (record { ends = high; short = omega arith; whole = refl })
    ]

-- where no prefix of at most n octets has the high bit on its last alone, the body is not cut
none-by : (most : ℕ) (b : List ℕ) (o : Option (List ℕ × List ℕ)) → IfSome o (Cut most b) → ((k : ℕ) → IsVar (take k b) → length (take k b) ≤ most → ⊥) → o ≡ None
none-by most b None h none = refl
none-by most b (Some cut) h none =
    let same : take (length cut.0) b ≡ cut.0 = rw h.whole (take_at cut.0 cut.1 (length cut.0) refl) in
    absurd (none (length cut.0) (rw same h.ends) (rw same h.short))

pub var_cut-none : (most : ℕ) (b : List ℕ) → ((k : ℕ) → IsVar (take k b) → length (take k b) ≤ most → ⊥) → var_cut most b ≡ None
var_cut-none most b none = none-by most b (var_cut most b) (IfSome-Cut most b) none

-- a body is cut where the VarUInt at its front ends, and is not cut where no prefix is one
pub var_cut-VarUInt : (n k : ℕ) (b : List ℕ) → VarUInt n (take k b) → var_cut 9 b ≡ Some (take k b, drop k b)
var_cut-VarUInt n k b h = ap (var_cut 9) (sym (take-append-drop k b)) ∙ var_cut-IsVar 9 (take k b) (drop k b) h.ends h.short

pub var_cut-no_VarUInt : (b : List ℕ) → ((n k : ℕ) → VarUInt n (take k b) → ⊥) → var_cut 9 b ≡ None
var_cut-no_VarUInt b none = var_cut-none 9 b (λ k ends short. none (var_uint (take k b)) k (record { short = short; ends = ends; value = refl }))

-- the same of VarInts
pub var_cut-VarInt : (z : Signed) (k : ℕ) (b : List ℕ) → VarInt z (take k b) → var_cut 9 b ≡ Some (take k b, drop k b)
var_cut-VarInt z k b h = ap (var_cut 9) (sym (take-append-drop k b)) ∙ var_cut-IsVar 9 (take k b) (drop k b) h.ends h.short

pub var_cut-no_VarInt : (b : List ℕ) → ((z : Signed) (k : ℕ) → VarInt z (take k b) → ⊥) → var_cut 9 b ≡ None
var_cut-no_VarInt b none = var_cut-none 9 b (λ k ends short.
    none (record { negative = var_int_negative (take k b); magnitude = var_int_magnitude (take k b) }) k (record { short = short; ends = ends; sign = refl; magnitude = refl }))
