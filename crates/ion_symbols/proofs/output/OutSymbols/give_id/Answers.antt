use Rattle.std.proofs.Common.{◌≡◌, ◌+◌, ◌<◌, ℕ, List, length, refl, ap, sym, subst, subst₂, ◌∙◌, IfOk, IfErr, arith}
use Rattle.std.proofs.lemmas.Grind.{common_steps}
use Rattle.ion_meter.specs.declared.fault.Fault.TheVariants.{Memory}
use Rattle.ion_value.specs.Shares.{Charges}
use Rattle.ion_symbols.specs.Output.{Output, id_given, known_id, texts_cost}
use Rattle.ion_symbols.specs.OutTexts.{texts_of}
use Rattle.ion_symbols.proofs.Adding.{can_add, new_unknown}
use Rattle.ion_symbols.proofs.Finding.{id_answered, known_given, spot_new, system_known}
use Rattle.ion_symbols.proofs.KeptTexts.{known_kept, number_few, same_charges, same_share, same_texts}
use Rattle.ion_symbols.proofs.Answering.{none-not-some, some-not-none}
use Rattle.ion_symbols.proofs.output.OutSymbols.give_id.Goals as goal

-- ---- a text of the system table

pub returns-in-Some-clause-found : goal.returns-in-Some-clause-found
returns-in-Some-clause-found g c id known =
    (id_answered c.args.self.now.texts c.args.text.now _ id (system_known c.args.self.now.texts c.args.text.now _ c.in-Some.ensures) known, refl, refl)

pub returns-in-Some-clause-gives : goal.returns-in-Some-clause-gives
returns-in-Some-clause-gives g c =
    known_given c.args.self.now.limit _ c.args.self.now.texts c.args.text.now _ refl (system_known c.args.self.now.texts c.args.text.now _ c.in-Some.ensures)

pub returns-in-Some-clause-charges : goal.returns-in-Some-clause-charges
returns-in-Some-clause-charges g c =
    same_charges _ _ _ _ _ _ (ap (λ (s : Output). s.texts) c.self.view_is) (ap (λ (s : Output). s.limit) c.self.view_is) c.self.invariant.1 refl

-- ---- one that is there

pub overflow_add-result : goal.overflow_add-result
overflow_add-result g c = omega (arith, number_few c.self.inside.kept c.args.text.now _ c.self.invariant.0 c.in-Ok.ensures.there)

pub invariant_of-self : goal.invariant_of-self
invariant_of-self g c =
    (c.spot.ensures.kept, same_share _ _ _ (same_texts c.self.inside.kept _ _ c.spot.ensures.texts refl) c.self.invariant.1, c.self.invariant.2)

pub returns-in-Ok-clause-gives : goal.returns-in-Ok-clause-gives
returns-in-Ok-clause-gives g c =
    let e = ap (λ (s : Output). s.texts) c.self.view_is in
    known_given c.args.self.now.limit _ c.args.self.now.texts c.args.text.now _ (same_texts c.self.inside.kept _ _ c.spot.ensures.texts e)
    (known_kept _ _ _ _ c.self.invariant.0 e c.in-Ok.ensures.there)

pub returns-in-Ok-clause-found : goal.returns-in-Ok-clause-found
returns-in-Ok-clause-found g c id known =
    let e = ap (λ (s : Output). s.texts) c.self.view_is in
    (id_answered c.args.self.now.texts c.args.text.now _ id (known_kept _ _ _ _ c.self.invariant.0 e c.in-Ok.ensures.there) known, same_texts c.self.inside.kept _ _ c.spot.ensures.texts e, refl)

pub returns-in-Ok-clause-charges : goal.returns-in-Ok-clause-charges
returns-in-Ok-clause-charges g c =
    let e = ap (λ (s : Output). s.texts) c.self.view_is in
    same_charges _ _ _ _ _ _ e (ap (λ (s : Output). s.limit) c.self.view_is) c.self.invariant.1 (same_texts c.self.inside.kept _ _ c.spot.ensures.texts e)

-- ---- one that is new

pub add-requires-clause-new : goal.add-requires-clause-new
add-requires-clause-new g c =
    spot_new (texts_of c.self.inside.kept) _ c.args.text.now (ap (λ k. texts_of k) c.spot.ensures.texts) c.in_default.ensures c.in-Err.ensures.new.0

pub add-requires-clause-spot : goal.add-requires-clause-spot
add-requires-clause-spot g c = c.in-Err.ensures.new.1

pub add-requires-clause-can_add : goal.add-requires-clause-can_add
add-requires-clause-can_add g c =
    can_add _ _ _ (same_texts c.self.inside.kept _ _ c.spot.ensures.texts (ap (λ (s : Output). s.texts) c.self.view_is)) c.requires.room c.requires.held c.requires.countable

pub add-requires-clause-share : goal.add-requires-clause-share
add-requires-clause-share g c = same_share _ _ _ (same_texts c.self.inside.kept _ _ c.spot.ensures.texts refl) c.self.invariant.1

pub returns-in-Err-clause-gives : goal.returns-in-Err-clause-gives
returns-in-Err-clause-gives g c =
    let same = same_texts c.self.inside.kept _ _ c.spot.ensures.texts (ap (λ (s : Output). s.texts) c.self.view_is) in
    subst₂ (λ (ts : List (List ℕ)) (l : ℕ). IfOk c.add.result (λ id. (id, texts_of c.add.new.kept) ≡ id_given l ts c.args.text.now)) same (ap (λ (s : Output). s.limit) c.self.view_is) c.add.ensures.gives

pub returns-in-Err-clause-found : goal.returns-in-Err-clause-found
returns-in-Err-clause-found g c id known =
    let none = new_unknown (texts_of c.self.inside.kept) c.args.text.now (spot_new (texts_of c.self.inside.kept) _ c.args.text.now refl c.in_default.ensures c.in-Err.ensures.new.0) in
    absurd (none-not-some _ (sym none ∙ (ap (λ (s : Output). known_id s.texts c.args.text.now) c.self.view_is ∙ known)))

pub returns-in-Err-clause-memory : goal.returns-in-Err-clause-memory
returns-in-Err-clause-memory g c =
    let same = same_texts c.self.inside.kept _ _ c.spot.ensures.texts (ap (λ (s : Output). s.texts) c.self.view_is) in
    subst (λ (ts : List (List ℕ)). IfErr c.add.result (λ fault. (fault ≡ Memory) × (texts_of c.add.new.kept ≡ ts) × (c.add.new.meter.refused ≡ c.args.meter.now.refused + 1))) same c.add.ensures.memory

pub returns-in-Err-clause-charges : goal.returns-in-Err-clause-charges
returns-in-Err-clause-charges g c =
    let same = same_texts c.self.inside.kept _ _ c.spot.ensures.texts (ap (λ (s : Output). s.texts) c.self.view_is) in
    subst₂ (λ (ts : List (List ℕ)) (l : ℕ). Charges c.args.meter.now c.add.new.meter (texts_cost ts) (texts_cost (texts_of c.add.new.kept)) l) same (ap (λ (s : Output). s.limit) c.self.view_is) c.add.ensures.charges

-- ---- what is over the limit, what grows, and the order

pub returns-in-Some-clause-over : goal.returns-in-Some-clause-over
returns-in-Some-clause-over g c none over = absurd (some-not-none _ (system_known c.args.self.now.texts c.args.text.now _ c.in-Some.ensures ∙ none))

pub returns-in-Some-clause-grows : goal.returns-in-Some-clause-grows
returns-in-Some-clause-grows g c id none e = absurd (some-not-none _ (system_known c.args.self.now.texts c.args.text.now _ c.in-Some.ensures ∙ none))

pub returns-in-Ok-clause-over : goal.returns-in-Ok-clause-over
returns-in-Ok-clause-over g c none over = let e = ap (λ (s : Output). s.texts) c.self.view_is in absurd (some-not-none _ (known_kept _ _ _ _ c.self.invariant.0 e c.in-Ok.ensures.there ∙ none))

pub returns-in-Ok-clause-grows : goal.returns-in-Ok-clause-grows
returns-in-Ok-clause-grows g c id none is = let e = ap (λ (s : Output). s.texts) c.self.view_is in absurd (some-not-none _ (known_kept _ _ _ _ c.self.invariant.0 e c.in-Ok.ensures.there ∙ none))

pub returns-in-Ok-clause-ordered : goal.returns-in-Ok-clause-ordered
returns-in-Ok-clause-ordered g c e = c.spot.ensures.ordered (ap (λ (s : Output). s.is_ordered) c.self.view_is ∙ e)

pub returns-in-Err-clause-over : goal.returns-in-Err-clause-over
returns-in-Err-clause-over g c none over =
    let same = same_texts c.self.inside.kept _ _ c.spot.ensures.texts (ap (λ (s : Output). s.texts) c.self.view_is) in
    let limit = ap (λ (s : Output). s.limit) c.self.view_is in
    c.add.ensures.over (subst₂ (λ (ts : List (List ℕ)) (l : ℕ). l < texts_cost ts + (16 + length c.args.text.now)) (sym same) (sym limit) over)

pub returns-in-Err-clause-grows : goal.returns-in-Err-clause-grows
returns-in-Err-clause-grows g c id none e = c.add.ensures.grows id e

pub returns-in-Err-clause-ordered : goal.returns-in-Err-clause-ordered
returns-in-Err-clause-ordered g c e = c.add.ensures.order ∙ c.spot.ensures.ordered (ap (λ (s : Output). s.is_ordered) c.self.view_is ∙ e)

pub returns-in-Ok-clause-probes : goal.returns-in-Ok-clause-probes
returns-in-Ok-clause-probes g c = grind (arith, common_steps)

pub returns-in-Ok-clause-limit : goal.returns-in-Ok-clause-limit
returns-in-Ok-clause-limit g c = grind (arith, common_steps)

pub returns-in-Err-clause-probes : goal.returns-in-Err-clause-probes
returns-in-Err-clause-probes g c = grind (arith, common_steps)

pub returns-in-Err-clause-limit : goal.returns-in-Err-clause-limit
returns-in-Err-clause-limit g c = grind (arith, common_steps)

pub returns-in-Err-clause-counted : goal.returns-in-Err-clause-counted
returns-in-Err-clause-counted g c = grind (arith, common_steps)
