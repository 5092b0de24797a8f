-- What the texts of an output are, by how they are kept.
use Rattle.std.proofs.Common.{◌≡◌, ℕ, ◌+◌, ◌^◌, ◌<◌, ◌≤◌, Bool, true, List, [], length, get_or, Option, Some, None, refl, ap, sym, subst, ◌∙◌, arith}
use Rattle.std.proofs.lemmas.List.{length-map}
use Rattle.ion_meter.specs.Counts.{Counts}
use Rattle.ion_value.specs.Shares.{Charges}
use Rattle.ion_symbols.specs.declared.out_texts.OutTexts.{OutTexts}
use Rattle.ion_symbols.specs.Output.{Output, texts_cost, position, system_id, known_id}
use Rattle.ion_symbols.specs.Ordered.{in_order}
use Rattle.ion_symbols.specs.OutTexts.{AreKept, texts_of}
use Rattle.ion_symbols.proofs.Adding.{nothing_charged}
use Rattle.ion_symbols.proofs.Finding.{AreSearched, known_at, known_system, position_within}

-- ---- texts that are kept

-- they are few
pub few_texts : {A : Type 0} (k : OutTexts A) → AreKept k → length (texts_of k) < 2 ^ 31
few_texts k h = simp length-map (h.texts.few)

-- none of them is of the system table
pub none_of_system : {A : Type 0} (k : OutTexts A) → AreKept k → (i : ℕ) → i < length (texts_of k) → system_id (get_or (texts_of k) i []) ≡ None
none_of_system k h i l = h.texts.no_system i (simp length-map at l)

-- the number of one of them is small
pub number_few : {A : Type 0} (k : OutTexts A) (t : List ℕ) (n : ℕ) → AreKept k → position (texts_of k) t ≡ Some n → n < 2 ^ 31
number_few k t n h e = omega (arith, few_texts k h, position_within (texts_of k) t n e)

-- and gives its id
pub known_kept : {A : Type 0} (k : OutTexts A) (texts : List (List ℕ)) (t : List ℕ) (n : ℕ) → AreKept k → texts_of k ≡ texts → position (texts_of k) t ≡ Some n
    → ◌≡◌ {A = Option ℕ} (Some (10 + n)) (known_id texts t)
known_kept k texts t n h same e = known_at (texts_of k) t n (none_of_system k h) e ∙ ap (λ ts. known_id ts t) same

-- a text that is not there has the id of the system table, or none
pub unknown_kept : {A : Type 0} (k : OutTexts A) (texts : List (List ℕ)) (t : List ℕ) → texts_of k ≡ texts → position (texts_of k) t ≡ None → system_id t ≡ known_id texts t
unknown_kept k texts t same e = known_system (texts_of k) t e ∙ ap (λ ts. known_id ts t) same

-- ---- texts that were put in order

-- they are the same ones
pub same_texts : {A : Type 0} (k k2 : OutTexts A) (texts : List (List ℕ)) → k2 ≡ record k { ids = k2.ids; is_ordered = k2.is_ordered } → texts_of k ≡ texts → texts_of k2 ≡ texts
same_texts k k2 texts is same = ap (λ j. texts_of j) is ∙ same

-- what is searched then
pub searched_kept : {A : Type 0} (k : OutTexts A) (searched : List (List ℕ)) → AreKept k → k.is_ordered ≡ true → searched ≡ in_order (texts_of k) k.ids.items → AreSearched (texts_of k) k.ids.items searched
searched_kept k searched h o s = record { orders = h.order o; are = s }

-- ---- what they cost

-- texts that are the same keep a limit
pub same_share : (texts texts2 : List (List ℕ)) (limit : ℕ) → texts2 ≡ texts → texts_cost texts ≤ limit → texts_cost texts2 ≤ limit
same_share texts texts2 limit e h = let k : texts_cost texts2 ≡ texts_cost texts = ap texts_cost e in omega (arith, k, h)

-- and for them nothing is charged
pub same_charges : (m : Counts) (kept texts texts2 : List (List ℕ)) (limit most : ℕ) → kept ≡ texts → limit ≡ most → texts_cost kept ≤ limit → texts2 ≡ texts → Charges m m (texts_cost texts) (texts_cost texts2) most
same_charges m kept texts texts2 limit most k l h e =
    let c : texts_cost kept ≡ texts_cost texts = ap texts_cost k in
    subst (λ ts. Charges m m (texts_cost texts) (texts_cost ts) most) (sym e) (nothing_charged m (texts_cost texts) most (omega (arith, c, l, h)))

-- ---- what is seen of them

-- the same texts with the same limit and probes, in order or not
pub same_output : (texts texts2 : List (List ℕ)) (limit limit2 probes : ℕ) (is_ordered is_ordered2 : Bool) → texts ≡ texts2 → limit ≡ limit2 → is_ordered ≡ is_ordered2
    → ◌≡◌ {A = Output} (record { texts = texts; limit = limit; probes = probes; is_ordered = is_ordered }) (record { texts = texts2; limit = limit2; probes = probes; is_ordered = is_ordered2 })
same_output texts texts2 limit limit2 probes is_ordered is_ordered2 e l o = rw (e, l, o) refl
