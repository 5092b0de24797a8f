-- The id of a text that is looked for among the texts of an output.
use Rattle.std.proofs.Common.{◌≡◌, ℕ, ◌+◌, ◌<◌, List, [], length, get_or, slice_get, Option, Some, None, Result, Ok, refl, ap, ap₂, sym, subst, ◌∙◌, arith}
use Rattle.std.proofs.lemmas.List.{length-map}
use Rattle.std.proofs.lemmas.Option.{slice_get_within, get_or_from_slice_get}
use Rattle.ion_meter.specs.declared.fault.Fault.{Fault}
use Rattle.ion_symbols.specs.Output.{Belongs, IsNew, IsSorted, probes_for, position, system_id, or_given, known_id, id_or_new, id_given}
use Rattle.ion_symbols.specs.Ordered.{Orders, in_order}
use Rattle.ion_symbols.proofs.Orders.{orders_sorted, one_sorted, found_position, belongs_none, position_has}

-- ---- by its position

-- a text that has a position is none of the system table
pub known_at : (texts : List (List ℕ)) (t : List ℕ) (n : ℕ) → ((i : ℕ) → i < length texts → system_id (get_or texts i []) ≡ None) → position texts t ≡ Some n
    → ◌≡◌ {A = Option ℕ} (Some (10 + n)) (known_id texts t)
known_at texts t n none e =
    let there = position_has texts t n e in
    let no : system_id t ≡ None = ap system_id (sym (get_or_from_slice_get texts n t [] there)) ∙ none n (slice_get_within texts n t there) in
    let i : 10 + n ≡ n + 10 = omega arith in
    ap Some i ∙ sym (ap₂ or_given no e)

-- its number is that of one of the texts
pub position_within : (texts : List (List ℕ)) (t : List ℕ) (n : ℕ) → position texts t ≡ Some n → n < length texts
position_within texts t n e = slice_get_within texts n t (position_has texts t n e)

-- an id of the system table, or none
system_alone : (id : Option ℕ) → or_given id None ≡ id
system_alone None = refl
system_alone (Some id) = refl

-- a text without a position has the id of the system table, or none
pub known_system : (texts : List (List ℕ)) (t : List ℕ) → position texts t ≡ None → system_id t ≡ known_id texts t
known_system texts t e = sym (ap (or_given (system_id t)) e ∙ system_alone (system_id t))

-- and one of the system table that one
pub system_known : (texts : List (List ℕ)) (t : List ℕ) (id : ℕ) → Some id ≡ system_id t → ◌≡◌ {A = Option ℕ} (Some id) (known_id texts t)
system_known texts t id s = ap (λ (o : Option ℕ). or_given o (position texts t)) s

-- a text that is known is given its id, and nothing is added
pub known_given : (limit : ℕ) (texts by_id : List (List ℕ)) (t : List ℕ) (id : ℕ) → texts ≡ by_id → Some id ≡ known_id by_id t → ◌≡◌ {A = Option ℕ × List (List ℕ)} (Some id, texts) (id_given limit by_id t)
known_given limit texts by_id t id i k = ap (λ (ts : List (List ℕ)). (Some id, ts)) i ∙ ap (id_or_new limit by_id t) k

-- the id that was found is the one that the text has
pub id_answered : (texts : List (List ℕ)) (t : List ℕ) (found : Option ℕ) (id : ℕ) → found ≡ known_id texts t → known_id texts t ≡ Some id → ◌≡◌ {A = Result (Option ℕ) Fault} (Ok found) (Ok (Some id))
id_answered texts t found id f k = ap (λ (o : Option ℕ). Ok o) (f ∙ k)

-- ---- by halving

-- what is searched are the texts, in an order of bytes
pub record AreSearched (texts : List (List ℕ)) (order : List ℕ) (searched : List (List ℕ)) : Type 0 where
  pub orders : Orders texts order
  pub are : searched ≡ in_order texts order

pub looked : (texts by_id : List (List ℕ)) (order : List ℕ) (searched : List (List ℕ)) → by_id ≡ texts → Orders by_id order → searched ≡ in_order by_id order → AreSearched texts order searched
looked texts by_id order searched e o s = record { orders = subst (λ ts. Orders ts order) e o; are = s ∙ ap (λ ts. in_order ts order) e }

-- the place where a text was found is within the order
pub found_within : (texts : List (List ℕ)) (order order2 : List ℕ) (searched : List (List ℕ)) (t : List ℕ) (place : ℕ) → AreSearched texts order searched → slice_get searched place ≡ Some t → order2 ≡ order → place < length order2
found_within texts order order2 searched t place k h o =
    let l : place < length (in_order texts order) = subst (λ ts. place < length ts) k.are (slice_get_within searched place t h) in
    rw o (simp length-map at l)

-- the number there is its position
pub found_at : (texts : List (List ℕ)) (order order2 : List ℕ) (searched : List (List ℕ)) (t : List ℕ) (place : ℕ) → AreSearched texts order searched → order2 ≡ order → slice_get searched place ≡ Some t
    → position texts t ≡ Some (get_or order2 place 0)
found_at texts order order2 searched t place k o h =
    found_position texts order t place k.orders (subst (λ ts. slice_get ts place ≡ Some t) k.are h) ∙ ap (λ (ids : List ℕ). Some (get_or ids place 0)) (sym o)

-- so is one that was read there
pub found_number : (texts : List (List ℕ)) (order : List ℕ) (searched : List (List ℕ)) (t : List ℕ) (place number : ℕ) → AreSearched texts order searched → slice_get searched place ≡ Some t
    → number ≡ get_or order place 0 → position texts t ≡ Some number
found_number texts order searched t place number k h n = found_at texts order order searched t place k refl h ∙ ap (λ (i : ℕ). Some i) (sym n)

-- a text that was not found is new
pub found_new : (texts : List (List ℕ)) (order : List ℕ) (searched : List (List ℕ)) (t : List ℕ) (place : ℕ) → AreSearched texts order searched → None ≡ system_id t → Belongs searched t place → IsNew texts t
found_new texts order searched t place k s b =
    record { absent = belongs_none texts order t place k.orders (subst (λ ts. Belongs ts t place) k.are b); no_system = sym s }

-- in any order by bytes it is looked for with as many probes
pub probes_sorted : (texts : List (List ℕ)) (order : List ℕ) (searched : List (List ℕ)) (t : List ℕ) (probes : ℕ) → AreSearched texts order searched → probes ≡ probes_for searched t → (sorted : List (List ℕ)) → IsSorted sorted texts → probes ≡ probes_for sorted t
probes_sorted texts order searched t probes k n sorted is =
    n ∙ ap (λ ts. probes_for ts t) (k.are ∙ one_sorted texts (in_order texts order) sorted (orders_sorted texts order k.orders) is)

-- a text for which a spot was found is new
pub spot_new : (texts texts2 : List (List ℕ)) (t : List ℕ) → texts2 ≡ texts → None ≡ system_id t → position texts t ≡ None → IsNew texts2 t
spot_new texts texts2 t e s p = record { absent = ap (λ ts. position ts t) e ∙ p; no_system = sym s }
