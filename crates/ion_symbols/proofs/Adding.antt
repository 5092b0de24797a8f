-- A text that is added to the texts of an output.
use Rattle.std.proofs.Common.{◌≡◌, ℕ, ◌+◌, ◌-◌, ◌^◌, ◌<◌, ◌≤◌, Bool, true, false, if◌then◌else◌, List, [], ◌∷◌, ◌++◌, length, Option, Some, None, refl, ap, ap₂, sym, ◌∙◌, arith, le-leb}
use Rattle.std.proofs.lemmas.Bool.{lt-leb}
use Rattle.ion_meter.specs.Counts.{Counts}
use Rattle.ion_value.specs.Shares.{Charges}
use Rattle.ion_symbols.specs.Output.{IsNew, CanAdd, texts_cost, position, system_id, or_given, known_id, id_or_new, id_given}
use Rattle.ion_symbols.proofs.OutputTexts.{cost_push}

-- ---- what a text that is new has

-- no id
pub new_unknown : (texts : List (List ℕ)) (t : List ℕ) → IsNew texts t → known_id texts t ≡ None
new_unknown texts t n = ap₂ or_given n.no_system n.absent

-- and a text without an id is new
none_of : (id place : Option ℕ) → or_given id place ≡ None → (id ≡ None) × (place ≡ None)
none_of None None h = (refl, refl)
none_of None (Some n) h = absurd (cc)
none_of (Some id) place h = absurd (cc)

pub unknown_new : (texts : List (List ℕ)) (t : List ℕ) → known_id texts t ≡ None → IsNew texts t
unknown_new texts t h = let n = none_of (system_id t) (position texts t) h in record { absent = n.1; no_system = n.0 }

-- ---- what it costs

-- a call that moves no memory keeps the share
pub nothing_charged : (m : Counts) (cost most : ℕ) → cost ≤ most → Charges m m cost cost most
nothing_charged m cost most h = record { held = refl; share = h; peak = omega arith; rises = omega arith }

-- and so does one that keeps a lower one
pub charges_within : (old new : Counts) (before after most limit : ℕ) → Charges old new before after most → most ≤ limit → Charges old new before after limit
charges_within old new before after most limit c l =
    record { held = c.held; share = omega (arith, c.share, l); peak = omega (arith, c.peak, l); rises = c.rises }

-- the texts with one more keep a limit that allows for it
pub share_push : (texts texts2 : List (List ℕ)) (t : List ℕ) (cost limit : ℕ) → cost ≡ texts_cost texts → cost + (16 + length t) ≤ limit → texts2 ≡ texts ++ t ∷ [] → texts_cost texts2 ≤ limit
share_push texts texts2 t cost limit c l e = let k : texts_cost texts2 ≡ texts_cost texts + (16 + length t) = ap texts_cost e ∙ cost_push texts t in omega (arith, k, c, l)

-- so do they whether it was added or not
pub share_either : (added : Bool) (texts texts2 : List (List ℕ)) (t : List ℕ) (cost limit : ℕ) → cost ≡ texts_cost texts → cost + (16 + length t) ≤ limit
    → (added ≡ true → texts2 ≡ texts ++ t ∷ []) → (added ≡ false → texts2 ≡ texts) → texts_cost texts2 ≤ limit
share_either true texts texts2 t cost limit c l more same = share_push texts texts2 t cost limit c l (more refl)
share_either false texts texts2 t cost limit c l more same = let k : texts_cost texts2 ≡ texts_cost texts = ap texts_cost (same refl) in omega (arith, k, c, l)

-- ---- the id that it is given

-- the next one, where the limit allows it
new_given : (limit : ℕ) (texts : List (List ℕ)) (t : List ℕ) (known : Option ℕ) → known ≡ None → texts_cost texts + (16 + length t) ≤ limit → id_or_new limit texts t known ≡ (Some (length texts + 10), texts ++ t ∷ [])
new_given limit texts t known h l =
    ap (id_or_new limit texts t) h
    ∙ ap (λ b. if b then (Some (length texts + 10), texts ++ t ∷ []) else (None, texts)) (le-leb _ _ l)

pub given_push : (limit : ℕ) (texts texts2 : List (List ℕ)) (t : List ℕ) (n cost : ℕ) → IsNew texts t → cost ≡ texts_cost texts → cost + (16 + length t) ≤ limit → n ≡ length texts → texts2 ≡ texts ++ t ∷ []
    → ◌≡◌ {A = Option ℕ × List (List ℕ)} (Some (10 + n), texts2) (id_given limit texts t)
given_push limit texts texts2 t n cost h c l e f =
    let i : 10 + n ≡ length texts + 10 = omega (arith, e) in
    ap₂ (λ (k : ℕ) (ts : List (List ℕ)). (Some k, ts)) i f ∙ sym (new_given limit texts t (known_id texts t) (new_unknown texts t h) (omega (arith, c, l)))

-- and none, where it does not
none_given : (limit : ℕ) (texts : List (List ℕ)) (t : List ℕ) (known : Option ℕ) → known ≡ None → limit < texts_cost texts + (16 + length t) → id_or_new limit texts t known ≡ (None, texts)
none_given limit texts t known h l =
    ap (id_or_new limit texts t) h
    ∙ ap (λ b. if b then (Some (length texts + 10), texts ++ t ∷ []) else (None, texts)) (lt-leb _ _ l)

pub given_over : (limit : ℕ) (texts : List (List ℕ)) (t : List ℕ) (cost : ℕ) → IsNew texts t → cost ≡ texts_cost texts → limit < cost + (16 + length t)
    → ◌≡◌ {A = Option ℕ × List (List ℕ)} (None, texts) (id_given limit texts t)
given_over limit texts t cost h c l = sym (none_given limit texts t (known_id texts t) (new_unknown texts t h) (omega (arith, c, l)))

-- ---- that it can be added

-- texts that are the same can be added to alike
pub can_add : (texts texts2 : List (List ℕ)) (m : Counts) → texts2 ≡ texts → m.held ≤ 2 ^ 62 + 2 ^ 31 → texts_cost texts ≤ m.held → m.refused < 2 ^ 64 - 1 → CanAdd texts2 m
can_add texts texts2 m e r h c = let k : texts_cost texts2 ≡ texts_cost texts = ap texts_cost e in record { room = r; held = omega (arith, k, h); countable = c }
