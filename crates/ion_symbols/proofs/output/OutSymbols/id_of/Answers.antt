use Rattle.std.proofs.Common.{◌≡◌, ◌+◌, ◌<◌, ℕ, List, length, refl, ap, sym, subst, subst₂, ◌∙◌, IfOk, IfErr, arith}
use Rattle.std.proofs.lemmas.Grind.{common_steps}
use Rattle.ion_meter.specs.declared.fault.Fault.TheVariants.{Memory}
use Rattle.ion_value.specs.Shares.{Charges}
use Rattle.ion_symbols.specs.Output.{Output, Belongs, IsSorted, id_given, known_id, texts_cost}
use Rattle.ion_symbols.specs.OutTexts.{texts_of}
use Rattle.ion_symbols.proofs.Adding.{can_add, new_unknown}
use Rattle.ion_symbols.proofs.Finding.{found_new, found_number, found_within, id_answered, known_given, probes_sorted, system_known}
use Rattle.ion_symbols.proofs.KeptTexts.{known_kept, number_few, same_charges, same_share, same_texts, searched_kept}
use Rattle.ion_symbols.proofs.Answering.{none-not-some, some-not-none}
use Rattle.ion_symbols.proofs.output.OutSymbols.id_of.Goals as goal

-- ---- a text of the system table

pub returns-in-Some-clause-found : goal.returns-in-Some-clause-found
returns-in-Some-clause-found g c id known =
    (id_answered c.args.self.now.texts c.args.text.now _ id (system_known c.args.self.now.texts c.args.text.now _ c.in-Some.ensures) known, ap (λ (s : Output). s.texts) c.self.view_is, refl)

pub returns-in-Some-clause-gives : goal.returns-in-Some-clause-gives
returns-in-Some-clause-gives g c =
    known_given c.args.self.now.limit _ c.args.self.now.texts c.args.text.now _ (ap (λ (s : Output). s.texts) c.self.view_is) (system_known c.args.self.now.texts c.args.text.now _ c.in-Some.ensures)

pub returns-in-Some-clause-charges : goal.returns-in-Some-clause-charges
returns-in-Some-clause-charges g c =
    let e = ap (λ (s : Output). s.texts) c.self.view_is in same_charges _ _ _ _ _ _ e (ap (λ (s : Output). s.limit) c.self.view_is) c.self.invariant.1 e

-- ---- one that is there

pub number_at-requires : goal.number_at-requires
number_at-requires g c =
    let k = searched_kept _ _ c.put_in_order.ensures.kept c.put_in_order.ensures.ordered c.search-search.ensures.texts in
    record { within = found_within _ _ _ _ c.args.text.now _ k c.in-Ok.ensures.found refl }

pub overflow_add-result : goal.overflow_add-result
overflow_add-result g c =
    let k = searched_kept _ _ c.put_in_order.ensures.kept c.put_in_order.ensures.ordered c.search-search.ensures.texts in
    omega (arith, number_few _ c.args.text.now _ c.put_in_order.ensures.kept (found_number _ _ _ _ _ _ k c.in-Ok.ensures.found c.number_at.ensures))

pub invariant_of-self-in-Ok : goal.invariant_of-self-in-Ok
invariant_of-self-in-Ok g c =
    (c.put_in_order.ensures.kept, same_share _ _ _ (same_texts c.self.inside.kept _ _ c.put_in_order.ensures.texts refl) c.self.invariant.1, c.self.invariant.2)

pub returns-in-Ok-clause-gives : goal.returns-in-Ok-clause-gives
returns-in-Ok-clause-gives g c =
    let same = same_texts c.self.inside.kept _ _ c.put_in_order.ensures.texts (ap (λ (s : Output). s.texts) c.self.view_is) in
    let k = searched_kept _ _ c.put_in_order.ensures.kept c.put_in_order.ensures.ordered c.search-search.ensures.texts in
    known_given c.args.self.now.limit _ c.args.self.now.texts c.args.text.now _ same
    (known_kept _ _ _ _ c.put_in_order.ensures.kept same (found_number _ _ _ _ _ _ k c.in-Ok.ensures.found c.number_at.ensures))

pub returns-in-Ok-clause-found : goal.returns-in-Ok-clause-found
returns-in-Ok-clause-found g c id known =
    let same = same_texts c.self.inside.kept _ _ c.put_in_order.ensures.texts (ap (λ (s : Output). s.texts) c.self.view_is) in
    let k = searched_kept _ _ c.put_in_order.ensures.kept c.put_in_order.ensures.ordered c.search-search.ensures.texts in
    let found = known_kept _ _ _ _ c.put_in_order.ensures.kept same (found_number _ _ _ _ _ _ k c.in-Ok.ensures.found c.number_at.ensures) in
    (id_answered c.args.self.now.texts c.args.text.now _ id found known, same, refl)

pub returns-in-Ok-clause-charges : goal.returns-in-Ok-clause-charges
returns-in-Ok-clause-charges g c =
    let e = ap (λ (s : Output). s.texts) c.self.view_is in
    same_charges _ _ _ _ _ _ e (ap (λ (s : Output). s.limit) c.self.view_is) c.self.invariant.1 (same_texts c.self.inside.kept _ _ c.put_in_order.ensures.texts e)

pub returns-in-Ok-clause-probes : goal.returns-in-Ok-clause-probes
returns-in-Ok-clause-probes g c = grind (arith, common_steps)

pub returns-in-Ok-clause-searched : goal.returns-in-Ok-clause-searched
returns-in-Ok-clause-searched g c sorted is none =
    let same = same_texts c.self.inside.kept _ _ c.put_in_order.ensures.texts (ap (λ (s : Output). s.texts) c.self.view_is) in
    let k = searched_kept _ _ c.put_in_order.ensures.kept c.put_in_order.ensures.ordered c.search-search.ensures.texts in
    probes_sorted _ _ _ _ _ k (c.probes-self-inside.ensures ∙ c.place_of-found.ensures.exact) sorted (subst (IsSorted sorted) (sym same) is)

-- ---- one that is new

pub add-requires-clause-new : goal.add-requires-clause-new
add-requires-clause-new g c =
    let k = searched_kept _ _ c.put_in_order.ensures.kept c.put_in_order.ensures.ordered c.search-search.ensures.texts in
    found_new _ _ _ _ _ k c.in_default.ensures c.in-Err.ensures.belongs

pub add-requires-clause-spot : goal.add-requires-clause-spot
add-requires-clause-spot g c =
    (c.put_in_order.ensures.ordered, subst (λ (ts : List (List ℕ)). Belongs ts c.args.text.now c.in-Err.place) c.search-search.ensures.texts c.in-Err.ensures.belongs)

pub add-requires-clause-can_add : goal.add-requires-clause-can_add
add-requires-clause-can_add g c =
    can_add _ _ _ (same_texts c.self.inside.kept _ _ c.put_in_order.ensures.texts (ap (λ (s : Output). s.texts) c.self.view_is)) c.requires.room c.requires.held c.requires.countable

pub add-requires-clause-share : goal.add-requires-clause-share
add-requires-clause-share g c = same_share _ _ _ (same_texts c.self.inside.kept _ _ c.put_in_order.ensures.texts refl) c.self.invariant.1

pub returns-in-Err-clause-gives : goal.returns-in-Err-clause-gives
returns-in-Err-clause-gives g c =
    let same = same_texts c.self.inside.kept _ _ c.put_in_order.ensures.texts (ap (λ (s : Output). s.texts) c.self.view_is) in
    subst₂ (λ (ts : List (List ℕ)) (l : ℕ). IfOk c.add.result (λ id. (id, texts_of c.add.new.kept) ≡ id_given l ts c.args.text.now)) same (ap (λ (s : Output). s.limit) c.self.view_is) c.add.ensures.gives

pub returns-in-Err-clause-found : goal.returns-in-Err-clause-found
returns-in-Err-clause-found g c id known =
    let same = same_texts c.self.inside.kept _ _ c.put_in_order.ensures.texts (ap (λ (s : Output). s.texts) c.self.view_is) in
    let k = searched_kept _ _ c.put_in_order.ensures.kept c.put_in_order.ensures.ordered c.search-search.ensures.texts in
    let none = new_unknown _ _ (found_new _ _ _ _ _ k c.in_default.ensures c.in-Err.ensures.belongs) in
    absurd (none-not-some _ (sym none ∙ (ap (λ (ts : List (List ℕ)). known_id ts c.args.text.now) same ∙ known)))

pub returns-in-Err-clause-probes : goal.returns-in-Err-clause-probes
returns-in-Err-clause-probes g c = grind (arith, common_steps)

pub returns-in-Err-clause-searched : goal.returns-in-Err-clause-searched
returns-in-Err-clause-searched g c sorted is none =
    let same = same_texts c.self.inside.kept _ _ c.put_in_order.ensures.texts (ap (λ (s : Output). s.texts) c.self.view_is) in
    let k = searched_kept _ _ c.put_in_order.ensures.kept c.put_in_order.ensures.ordered c.search-search.ensures.texts in
    probes_sorted _ _ _ _ _ k (c.probes-self-inside.ensures ∙ c.place_of-found.ensures.exact) sorted (subst (IsSorted sorted) (sym same) is)

pub returns-in-Err-clause-memory : goal.returns-in-Err-clause-memory
returns-in-Err-clause-memory g c =
    let same = same_texts c.self.inside.kept _ _ c.put_in_order.ensures.texts (ap (λ (s : Output). s.texts) c.self.view_is) in
    subst (λ (ts : List (List ℕ)). IfErr c.add.result (λ fault. (fault ≡ Memory) × (texts_of c.add.new.kept ≡ ts) × (c.add.new.meter.refused ≡ c.args.meter.now.refused + 1))) same c.add.ensures.memory

pub returns-in-Err-clause-charges : goal.returns-in-Err-clause-charges
returns-in-Err-clause-charges g c =
    let same = same_texts c.self.inside.kept _ _ c.put_in_order.ensures.texts (ap (λ (s : Output). s.texts) c.self.view_is) in
    subst₂ (λ (ts : List (List ℕ)) (l : ℕ). Charges c.args.meter.now c.add.new.meter (texts_cost ts) (texts_cost (texts_of c.add.new.kept)) l) same (ap (λ (s : Output). s.limit) c.self.view_is) c.add.ensures.charges

-- ---- what is over the limit, what grows, and the order

pub returns-in-Some-clause-over : goal.returns-in-Some-clause-over
returns-in-Some-clause-over g c none over = absurd (some-not-none _ (system_known c.args.self.now.texts c.args.text.now _ c.in-Some.ensures ∙ none))

pub returns-in-Some-clause-grows : goal.returns-in-Some-clause-grows
returns-in-Some-clause-grows g c id none e = absurd (some-not-none _ (system_known c.args.self.now.texts c.args.text.now _ c.in-Some.ensures ∙ none))

pub returns-in-Some-clause-ordered : goal.returns-in-Some-clause-ordered
returns-in-Some-clause-ordered g c none = absurd (some-not-none _ (c.in-Some.ensures ∙ none))

pub returns-in-Some-clause-stays : goal.returns-in-Some-clause-stays
returns-in-Some-clause-stays g c id e = ap (λ (s : Output). s.is_ordered) c.self.view_is

pub returns-in-Ok-clause-over : goal.returns-in-Ok-clause-over
returns-in-Ok-clause-over g c none over =
    let same = same_texts c.self.inside.kept _ _ c.put_in_order.ensures.texts (ap (λ (s : Output). s.texts) c.self.view_is) in
    let k = searched_kept _ _ c.put_in_order.ensures.kept c.put_in_order.ensures.ordered c.search-search.ensures.texts in
    absurd (some-not-none _ (known_kept _ _ _ _ c.put_in_order.ensures.kept same (found_number _ _ _ _ _ _ k c.in-Ok.ensures.found c.number_at.ensures) ∙ none))

pub returns-in-Ok-clause-grows : goal.returns-in-Ok-clause-grows
returns-in-Ok-clause-grows g c id none is =
    let same = same_texts c.self.inside.kept _ _ c.put_in_order.ensures.texts (ap (λ (s : Output). s.texts) c.self.view_is) in
    let k = searched_kept _ _ c.put_in_order.ensures.kept c.put_in_order.ensures.ordered c.search-search.ensures.texts in
    absurd (some-not-none _ (known_kept _ _ _ _ c.put_in_order.ensures.kept same (found_number _ _ _ _ _ _ k c.in-Ok.ensures.found c.number_at.ensures) ∙ none))

pub returns-in-Ok-clause-ordered : goal.returns-in-Ok-clause-ordered
returns-in-Ok-clause-ordered g c none = c.put_in_order.ensures.ordered

pub returns-in-Ok-clause-stays : goal.returns-in-Ok-clause-stays
returns-in-Ok-clause-stays g c id is = absurd (none-not-some _ (c.in_default.ensures ∙ is))

pub returns-in-Err-clause-over : goal.returns-in-Err-clause-over
returns-in-Err-clause-over g c none over =
    let same = same_texts c.self.inside.kept _ _ c.put_in_order.ensures.texts (ap (λ (s : Output). s.texts) c.self.view_is) in
    let limit = ap (λ (s : Output). s.limit) c.self.view_is in
    c.add.ensures.over (subst₂ (λ (ts : List (List ℕ)) (l : ℕ). l < texts_cost ts + (16 + length c.args.text.now)) (sym same) (sym limit) over)

pub returns-in-Err-clause-grows : goal.returns-in-Err-clause-grows
returns-in-Err-clause-grows g c id none e = c.add.ensures.grows id e

pub returns-in-Err-clause-ordered : goal.returns-in-Err-clause-ordered
returns-in-Err-clause-ordered g c none = c.add.ensures.order ∙ c.put_in_order.ensures.ordered

pub returns-in-Err-clause-stays : goal.returns-in-Err-clause-stays
returns-in-Err-clause-stays g c id is = absurd (none-not-some _ (c.in_default.ensures ∙ is))

pub returns-in-Err-clause-limit : goal.returns-in-Err-clause-limit
returns-in-Err-clause-limit g c = grind (arith, common_steps)

pub returns-in-Err-clause-system : goal.returns-in-Err-clause-system
returns-in-Err-clause-system g c = grind (arith, common_steps)

pub returns-in-Ok-clause-system : goal.returns-in-Ok-clause-system
returns-in-Ok-clause-system g c = grind (arith, common_steps)

pub returns-in-Ok-clause-limit : goal.returns-in-Ok-clause-limit
returns-in-Ok-clause-limit g c = grind (arith, common_steps)

pub returns-in-Some-clause-searched : goal.returns-in-Some-clause-searched
returns-in-Some-clause-searched g c = grind (arith, common_steps)

pub add-requires-clause-small : goal.add-requires-clause-small
add-requires-clause-small g c = grind (arith, common_steps)

pub returns-in-Err-clause-counted : goal.returns-in-Err-clause-counted
returns-in-Err-clause-counted g c = grind (arith, common_steps)

pub returns-in-Some-clause-limit : goal.returns-in-Some-clause-limit
returns-in-Some-clause-limit g c = grind (arith, common_steps)

pub add-requires-clause-kept : goal.add-requires-clause-kept
add-requires-clause-kept g c = grind (arith, common_steps)

pub returns-in-Ok-clause-counted : goal.returns-in-Ok-clause-counted
returns-in-Ok-clause-counted g c = grind (arith, common_steps)
