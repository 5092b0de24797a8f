-- Laws of the verdict and the output of a reading.
use Rattle.std.proofs.Common.{◌≡◌, ℕ, ◌+◌, List, [], ◌∷◌, ◌++◌, Option, Some, None, refl, ap, sym, ◌∙◌, subst, append_assoc, arith}
use Rattle.std.proofs.lemmas.List.{append-nil}
use Rattle.ion_meter.specs.Windows.{HasPrefix}
use Rattle.ion_meter.specs.declared.fault.Reason.{Reason}
use Rattle.ion_value.specs.declared.ion_type.Kind.{Kind}
use Rattle.ion_value.specs.Value.{PlacedItem}
use Rattle.ion_value.specs.Reading.{Reading, Finished, Stopped, More}
use Rattle.ion_value.specs.Standing.{open_after, open_after_all}
use Rattle.ion_value.specs.Outcome.{Rejected, one_if_closed, values_in, verdict_with, verdict_after, output_with, output_after}

-- ---- prefixes

pub prefix-self : (xs : List ℕ) → HasPrefix xs xs
prefix-self xs = ([], sym (append-nil xs))

pub prefix-then : (xs ys zs : List ℕ) → HasPrefix zs ys → HasPrefix ys xs → HasPrefix zs xs
prefix-then xs ys zs f g = (g.0 ++ f.0, f.1 ∙ ap (λ l. l ++ f.0) g.1 ∙ append_assoc xs g.0 f.0)

pub prefix-after : (before xs ys : List ℕ) → HasPrefix ys xs → HasPrefix (before ++ ys) (before ++ xs)
prefix-after before xs ys f = (f.0, ap (λ l. before ++ l) f.1 ∙ sym (append_assoc before xs f.0))

-- ---- one item more

-- the open containers after one item more
pub open_after_all-append : (kinds : List Kind) (path : List PlacedItem) (item : PlacedItem) → open_after_all kinds (path ++ item ∷ []) ≡ open_after (open_after_all kinds path) item.head
open_after_all-append kinds [] item = refl
open_after_all-append kinds (first ∷ path) item = open_after_all-append (open_after kinds first.head) path item

pub values_in-append : (kinds : List Kind) (path : List PlacedItem) (item : PlacedItem) → values_in kinds (path ++ item ∷ []) ≡ values_in kinds path + one_if_closed (open_after (open_after_all kinds path) item.head)
values_in-append kinds [] item = omega arith
values_in-append kinds (first ∷ path) item =
    let more = values_in-append (open_after kinds first.head) path item in
    omega arith

-- ---- a writer's laws

abbrev pub Grows : (List PlacedItem → List ℕ) → (List PlacedItem → PlacedItem → List ℕ) → (List PlacedItem → PlacedItem → Option (Reason × ℕ)) → Type 0
Grows puts adds refusal = (path : List PlacedItem) (item : PlacedItem) → refusal path item ≡ None → puts (path ++ item ∷ []) ≡ puts path ++ adds path item

abbrev pub Silent : (List PlacedItem → PlacedItem → List ℕ) → (List PlacedItem → PlacedItem → Option (Reason × ℕ)) → Type 0
Silent adds refusal = (path : List PlacedItem) (item : PlacedItem) (why : Reason × ℕ) → refusal path item ≡ Some why → adds path item ≡ []

-- what was put is a prefix of all that is put
with_refusal-prefix : (puts : List PlacedItem → List ℕ) (adds : List PlacedItem → PlacedItem → List ℕ) (refusal : List PlacedItem → PlacedItem → Option (Reason × ℕ)) → Grows puts adds refusal
    → (path : List PlacedItem) (item : PlacedItem) (rest : List ℕ) → HasPrefix rest (puts (path ++ item ∷ [])) → (o : Option (Reason × ℕ)) → refusal path item ≡ o → HasPrefix (output_with o (puts path) rest) (puts path)
with_refusal-prefix puts adds refusal grows path item rest f None e =
    prefix-then (puts path) (puts (path ++ item ∷ [])) rest f (adds path item, grows path item e)
with_refusal-prefix puts adds refusal grows path item rest f (Some why) e = prefix-self (puts path)

pub output_after-prefix : (puts : List PlacedItem → List ℕ) (adds : List PlacedItem → PlacedItem → List ℕ) (refusal : List PlacedItem → PlacedItem → Option (Reason × ℕ)) → Grows puts adds refusal
    → (path : List PlacedItem) (r : Reading) → HasPrefix (output_after puts refusal path r) (puts path)
output_after-prefix puts adds refusal grows path Finished = prefix-self (puts path)
output_after-prefix puts adds refusal grows path (Stopped reason place) = prefix-self (puts path)
output_after-prefix puts adds refusal grows path (More item rest) =
    with_refusal-prefix puts adds refusal grows path item _ (output_after-prefix puts adds refusal grows (path ++ item ∷ []) rest) (refusal path item) refl

-- and so is what an item puts before a fault
with_refusal-adds : (puts : List PlacedItem → List ℕ) (adds : List PlacedItem → PlacedItem → List ℕ) (refusal : List PlacedItem → PlacedItem → Option (Reason × ℕ)) → Grows puts adds refusal → Silent adds refusal
    → (path : List PlacedItem) (item : PlacedItem) (rest : List ℕ) → HasPrefix rest (puts (path ++ item ∷ [])) → (o : Option (Reason × ℕ)) → refusal path item ≡ o → HasPrefix (output_with o (puts path) rest) (puts path ++ adds path item)
with_refusal-adds puts adds refusal grows silent path item rest f None e = subst (HasPrefix rest) (grows path item e) f
with_refusal-adds puts adds refusal grows silent path item rest f (Some why) e =
    subst (HasPrefix (puts path)) (sym (ap (λ l. puts path ++ l) (silent path item why e) ∙ append-nil (puts path))) (prefix-self (puts path))

pub item-begins : (puts : List PlacedItem → List ℕ) (adds : List PlacedItem → PlacedItem → List ℕ) (refusal : List PlacedItem → PlacedItem → Option (Reason × ℕ)) → Grows puts adds refusal → Silent adds refusal
    → (path : List PlacedItem) (item : PlacedItem) (rest : Reading) → HasPrefix (output_after puts refusal path (More item rest)) (puts path ++ adds path item)
item-begins puts adds refusal grows silent path item rest =
    with_refusal-adds puts adds refusal grows silent path item _ (output_after-prefix puts adds refusal grows (path ++ item ∷ []) rest) (refusal path item) refl

-- ---- a path that was put, and what is to come after it

pub record Walk (stands : List PlacedItem → Type 0) (puts : List PlacedItem → List ℕ) (refusal : List PlacedItem → PlacedItem → Option (Reason × ℕ)) (reads writes : Type 0) (kinds : List Kind) (values : ℕ) (all rest : Reading) (before now : List ℕ) : Type 0 where
  pub path : List PlacedItem
  pub stands_at : stands path
  pub kinds_at : open_after_all [] path ≡ kinds
  pub values_at : values_in [] path ≡ values
  pub verdict : reads → verdict_after refusal [] all ≡ verdict_after refusal path rest
  pub output : reads → output_after puts refusal [] all ≡ output_after puts refusal path rest
  pub put : writes → now ≡ before ++ puts path

-- an item was put, and the path is longer
pub walk-more : {stands later : List PlacedItem → Type 0} {puts : List PlacedItem → List ℕ} {refusal : List PlacedItem → PlacedItem → Option (Reason × ℕ)} {reads writes : Type 0} {kinds : List Kind} {values : ℕ} {all rest : Reading} {before now : List ℕ}
    (w : Walk stands puts refusal reads writes kinds values all rest before now) (adds : List PlacedItem → PlacedItem → List ℕ) → Grows puts adds refusal
    → (item : PlacedItem) (after : Reading) (then : List ℕ) (kinds_then : List Kind) (values_then : ℕ) → (reads → rest ≡ More item after) → refusal w.path item ≡ None → later (w.path ++ item ∷ [])
    → (writes → then ≡ now ++ adds w.path item) → kinds_then ≡ open_after kinds item.head → values_then ≡ values + one_if_closed kinds_then
    → Walk later puts refusal reads writes kinds_then values_then all after before then
walk-more {puts = puts} {refusal = refusal} {kinds = kinds} {values = values} {before = before} w adds grows item after then kinds_then values_then is none stands put opens counts =
    let open_now : open_after_all [] (w.path ++ item ∷ []) ≡ kinds_then = open_after_all-append [] w.path item ∙ ap (λ k. open_after k item.head) w.kinds_at ∙ sym opens in
    record {
      path = w.path ++ item ∷ [];
      stands_at = stands;
      kinds_at = open_now;
      values_at = values_in-append [] w.path item ∙ ap (λ v. v + one_if_closed (open_after (open_after_all [] w.path) item.head)) w.values_at
          ∙ ap (λ k. values + one_if_closed k) (ap (λ k. open_after k item.head) w.kinds_at ∙ sym opens) ∙ sym counts;
      verdict = λ r. w.verdict r ∙ ap (verdict_after refusal w.path) (is r) ∙ ap (λ o. verdict_with o (verdict_after refusal (w.path ++ item ∷ []) after)) none;
      output = λ r. w.output r ∙ ap (output_after puts refusal w.path) (is r) ∙ ap (λ o. output_with o (puts w.path) (output_after puts refusal (w.path ++ item ∷ []) after)) none;
      put = λ o. put o ∙ ap (λ l. l ++ adds w.path item) (w.put o) ∙ append_assoc before (puts w.path) (adds w.path item) ∙ ap (λ l. before ++ l) (sym (grows w.path item none));
    }

-- what is written when nothing more is put is a prefix of all that is put
pub walk-prefix : {stands : List PlacedItem → Type 0} {puts : List PlacedItem → List ℕ} {refusal : List PlacedItem → PlacedItem → Option (Reason × ℕ)} {reads writes : Type 0} {kinds : List Kind} {values : ℕ} {all rest : Reading} {before now : List ℕ}
    (w : Walk stands puts refusal reads writes kinds values all rest before now) (adds : List PlacedItem → PlacedItem → List ℕ) → Grows puts adds refusal
    → (written : List ℕ) → reads → writes → HasPrefix now written → HasPrefix (before ++ output_after puts refusal [] all) written
walk-prefix {puts = puts} {refusal = refusal} {all = all} {rest = rest} {before = before} {now = now} w adds grows written r o f =
    let whole : HasPrefix (output_after puts refusal [] all) (puts w.path) = subst (λ l. HasPrefix l (puts w.path)) (sym (w.output r)) (output_after-prefix puts adds refusal grows w.path rest) in
    prefix-then written (before ++ puts w.path) (before ++ output_after puts refusal [] all) (prefix-after before (puts w.path) (output_after puts refusal [] all) whole) (subst (λ l. HasPrefix l written) (w.put o) f)

-- and so is what is written of an item before a fault
pub walk-fault : {stands : List PlacedItem → Type 0} {puts : List PlacedItem → List ℕ} {refusal : List PlacedItem → PlacedItem → Option (Reason × ℕ)} {reads writes : Type 0} {kinds : List Kind} {values : ℕ} {all rest : Reading} {before now : List ℕ}
    (w : Walk stands puts refusal reads writes kinds values all rest before now) (adds : List PlacedItem → PlacedItem → List ℕ) → Grows puts adds refusal → Silent adds refusal
    → (item : PlacedItem) (after : Reading) (written : List ℕ) → reads → writes → rest ≡ More item after → HasPrefix (now ++ adds w.path item) written → HasPrefix (before ++ output_after puts refusal [] all) written
walk-fault {puts = puts} {refusal = refusal} {all = all} {before = before} {now = now} w adds grows silent item after written r o is f =
    let whole : HasPrefix (output_after puts refusal [] all) (puts w.path ++ adds w.path item) =
    subst (λ l. HasPrefix l (puts w.path ++ adds w.path item)) (sym (w.output r ∙ ap (output_after puts refusal w.path) is)) (item-begins puts adds refusal grows silent w.path item after) in
    let same : now ++ adds w.path item ≡ before ++ (puts w.path ++ adds w.path item) = ap (λ l. l ++ adds w.path item) (w.put o) ∙ append_assoc before (puts w.path) (adds w.path item) in
    prefix-then written (before ++ (puts w.path ++ adds w.path item)) (before ++ output_after puts refusal [] all)
    (prefix-after before (puts w.path ++ adds w.path item) (output_after puts refusal [] all) whole)
    (subst (λ l. HasPrefix l written) same f)

-- a refusal of the item ends the walk with it
pub walk-refused : {stands : List PlacedItem → Type 0} {puts : List PlacedItem → List ℕ} {refusal : List PlacedItem → PlacedItem → Option (Reason × ℕ)} {reads writes : Type 0} {kinds : List Kind} {values : ℕ} {all rest : Reading} {before now : List ℕ}
    (w : Walk stands puts refusal reads writes kinds values all rest before now)
    → (item : PlacedItem) (after : Reading) (reason : Reason) (place : ℕ) → reads → rest ≡ More item after → refusal w.path item ≡ Some (reason, place)
    → (verdict_after refusal [] all ≡ Rejected reason place) × (writes → now ≡ before ++ output_after puts refusal [] all)
walk-refused {puts = puts} {refusal = refusal} {all = all} {before = before} w item after reason place r is why = (
  w.verdict r ∙ ap (verdict_after refusal w.path) is ∙ ap (λ o. verdict_with o (verdict_after refusal (w.path ++ item ∷ []) after)) why,
  λ o. w.put o ∙ ap (λ l. before ++ l) (sym (w.output r ∙ ap (output_after puts refusal w.path) is ∙ ap (λ o. output_with o (puts w.path) (output_after puts refusal (w.path ++ item ∷ []) after)) why)),
)
