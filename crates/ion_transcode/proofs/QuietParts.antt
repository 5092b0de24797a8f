-- What is written of user items for a target that refuses nothing: it is that of whole values, and then that of the items behind them.
use Rattle.std.proofs.Common.{◌≡◌, ℕ, ◌+◌, Bool, true, false, List, [], ◌∷◌, ◌++◌, map, Option, Some, None, option_map, refl, sym, ap, ap₂, ◌∙◌, append_assoc, append-nil, arith}
use Rattle.std.specs.List.{flat_map}
use Rattle.std.proofs.lemmas.List.{map-append}
use Rattle.ion_meter.specs.declared.fault.Reason.{Reason}
use Rattle.ion_value.specs.declared.ion_type.Kind.{Kind}
use Rattle.ion_value.specs.Further.{symbol_further, item_further, further}
use Rattle.ion_value.specs.Outcome.{Verdict, Accepted, Rejected, one_if_closed, values_in, verdict_after, output_after}
use Rattle.ion_value.specs.Reading.{Reading, Finished, Stopped, More, items_of, items_then}
use Rattle.ion_value.specs.ReadingLaws.{ending_of}
use Rattle.ion_value.specs.Standing as standing
use Rattle.ion_value.specs.Value as value
use Rattle.ion_value.specs.Value.{SymbolAt, UserSymbol, Scalar, Head, Value, Members, Top, Item, PlacedItem, bare_item, value_items, member_items, top_items, map_scalar, map_head, user_symbol_at, user_item, user_items}
use Rattle.ion_value.proofs.ReadingLaws.{ending_of-items_then}
use Rattle.ion_value.proofs.Readings.{items_of-items_then}
use Rattle.ion_text_out.specs.Layout.{Layout}
use Rattle.ion_text_out.specs.Text as text
use Rattle.ion_text_out.specs.Text.{Open, annotation_text, field_text_by, head_text, item_text, items_text_by, with_member}
use Rattle.ion_transcode.specs.Outputs.{Outputs, never, to_text_by, to_nothing}

-- ---- readings

pub items_of-further : (far : ℕ) (r : Reading) → items_of (further far r) ≡ map (item_further far) (items_of r)
items_of-further far Finished = refl
items_of-further far (Stopped reason place) = refl
items_of-further far (More item r) = ap (λ (l : List PlacedItem). item_further far item ∷ l) (items_of-further far r)

-- ---- a target that refuses nothing

-- the verdict on a reading that ends so, with so many values
abbrev pub ended : Reading → ℕ → Verdict
ended Finished n = Accepted n
ended (Stopped reason place) n = Rejected reason place
ended (More item r) n = Accepted n

never-verdict : (path : List PlacedItem) (r : Reading) → verdict_after never path r ≡ ended (ending_of r) (values_in [] (path ++ items_of r))
never-verdict path Finished = ap (λ (l : List PlacedItem). Accepted (values_in [] l)) (sym (append-nil path))
never-verdict path (Stopped reason place) = refl
never-verdict path (More item r) =
    never-verdict (path ++ item ∷ []) r ∙ ap (λ (l : List PlacedItem). ended (ending_of r) (values_in [] l)) (append_assoc path (item ∷ []) (items_of r))

never-output : (puts : List PlacedItem → List ℕ) (path : List PlacedItem) (r : Reading) → output_after puts never path r ≡ puts (path ++ items_of r)
never-output puts path Finished = ap puts (sym (append-nil path))
never-output puts path (Stopped reason place) = ap puts (sym (append-nil path))
never-output puts path (More item r) = never-output puts (path ++ item ∷ []) r ∙ ap puts (append_assoc path (item ∷ []) (items_of r))

-- ---- how many values

same-open : (far : ℕ) (kinds : List Kind) (head : Head SymbolAt) → standing.open_after kinds (map_head (symbol_further far) head) ≡ standing.open_after kinds head
same-open far kinds (value.whole body) = refl
same-open far kinds (value.begin kind) = refl
same-open far kinds value.end = refl
same-open far kinds value.marker = refl

values-further : (far : ℕ) (kinds : List Kind) (items : List PlacedItem) → values_in kinds (map (item_further far) items) ≡ values_in kinds items
values-further far kinds [] = refl
values-further far kinds (item ∷ items) =
    ap (λ (k : List Kind). one_if_closed k + values_in k (map (item_further far) items)) (same-open far kinds item.head)
    ∙ ap (λ (n : ℕ). one_if_closed (standing.open_after kinds item.head) + n) (values-further far (standing.open_after kinds item.head) items)

values-append : (kinds : List Kind) (xs ys : List PlacedItem) → values_in kinds (xs ++ ys) ≡ values_in kinds xs + values_in (standing.open_after_all kinds xs) ys
values-append kinds [] ys = omega arith
values-append kinds (x ∷ xs) ys = let rest = values-append (standing.open_after kinds x.head) xs ys in omega (arith, rest)

-- the kinds that are open after items as a user knows them
abbrev kinds_after : List Kind → List (Item UserSymbol ℕ) → List Kind
kinds_after kinds [] = kinds
kinds_after kinds (item ∷ items) = kinds_after (standing.open_after kinds item.head) items

user-open : (kinds : List Kind) (head : Head SymbolAt) → standing.open_after kinds head ≡ standing.open_after kinds (map_head user_symbol_at head)
user-open kinds (value.whole body) = refl
user-open kinds (value.begin kind) = refl
user-open kinds value.end = refl
user-open kinds value.marker = refl

user-kinds : (kinds : List Kind) (items : List PlacedItem) → standing.open_after_all kinds items ≡ kinds_after kinds (user_items items)
user-kinds kinds [] = refl
user-kinds kinds (item ∷ items) = user-kinds (standing.open_after kinds item.head) items ∙ ap (λ (k : List Kind). kinds_after k (user_items items)) (user-open kinds item.head)

mutual
  value-kinds : (x : Value UserSymbol ℕ) (top place : ℕ) (f : Option UserSymbol) (annotations : List UserSymbol) (kinds : List Kind) (rest : List (Item UserSymbol ℕ))
      → kinds_after kinds (value_items top f annotations place x ++ rest) ≡ kinds_after kinds rest
  value-kinds (value.scalar body) top place f annotations kinds rest = refl
  value-kinds (value.container kind members last) top place f annotations kinds rest =
      ap (kinds_after (kind ∷ kinds)) (append_assoc (member_items top members) (bare_item value.end last top ∷ []) rest)
      ∙ member-kinds members top (kind ∷ kinds) (bare_item value.end last top ∷ rest)

  member-kinds : (members : Members UserSymbol ℕ) (top : ℕ) (kinds : List Kind) (rest : List (Item UserSymbol ℕ)) → kinds_after kinds (member_items top members ++ rest) ≡ kinds_after kinds rest
  member-kinds value.nothing top kinds rest = refl
  member-kinds (value.member before f annotations place x) top kinds rest =
      ap (kinds_after kinds) (append_assoc (member_items top before) (value_items top f annotations place x) rest)
      ∙ member-kinds before top kinds (value_items top f annotations place x ++ rest)
      ∙ value-kinds x top place f annotations kinds rest

tops-kinds : (us : List (Top UserSymbol ℕ)) → kinds_after [] (top_items us) ≡ []
tops-kinds [] = refl
tops-kinds (value.version place ∷ us) = tops-kinds us
tops-kinds (value.tree first annotations place x ∷ us) = value-kinds x first place None annotations [] (top_items us) ∙ tops-kinds us

-- of whole values and items behind them, that are further on
pub values-behind : (far : ℕ) (mine xs : List PlacedItem) (us : List (Top UserSymbol ℕ)) → user_items mine ≡ top_items us
    → values_in [] (mine ++ map (item_further far) xs) ≡ values_in [] mine + values_in [] xs
values-behind far mine xs us e =
    let closed : standing.open_after_all [] mine ≡ [] = user-kinds [] mine ∙ ap (kinds_after []) e ∙ tops-kinds us in
    values-append [] mine (map (item_further far) xs)
    ∙ ap (λ (k : List Kind). values_in [] mine + values_in k (map (item_further far) xs)) closed
    ∙ ap (λ (n : ℕ). values_in [] mine + n) (values-further far [] xs)

-- ---- the text

module _ (layout : Layout) where
  field-further : (far : ℕ) (f : Option SymbolAt) → option_map user_symbol_at (option_map (symbol_further far) f) ≡ option_map user_symbol_at f
  field-further far None = refl
  field-further far (Some s) = refl

  annotations-further : (far : ℕ) (ss : List SymbolAt) → map user_symbol_at (map (symbol_further far) ss) ≡ map user_symbol_at ss
  annotations-further far [] = refl
  annotations-further far (s ∷ ss) = ap (λ (l : List UserSymbol). user_symbol_at s ∷ l) (annotations-further far ss)

  scalar-further : (far : ℕ) (v : Scalar SymbolAt) → map_scalar user_symbol_at (map_scalar (symbol_further far) v) ≡ map_scalar user_symbol_at v
  scalar-further far (value.null type) = refl
  scalar-further far (value.bool truth) = refl
  scalar-further far (value.int number) = refl
  scalar-further far (value.float number) = refl
  scalar-further far (value.decimal number) = refl
  scalar-further far (value.timestamp moment) = refl
  scalar-further far (value.symbol s) = refl
  scalar-further far (value.string bytes) = refl
  scalar-further far (value.clob bytes) = refl
  scalar-further far (value.blob bytes) = refl

  head-further : (far : ℕ) (h : Head SymbolAt) → map_head user_symbol_at (map_head (symbol_further far) h) ≡ map_head user_symbol_at h
  head-further far (value.whole body) = ap value.whole (scalar-further far body)
  head-further far (value.begin kind) = refl
  head-further far value.end = refl
  head-further far value.marker = refl

  -- what an item adds, by its parts
  abbrev added : Open → Option UserSymbol → List UserSymbol → Head UserSymbol → List ℕ
  added cs f ss h = head_text layout cs (field_text_by layout f ++ flat_map annotation_text ss) h

  item-further : (far : ℕ) (cs : Open) (i : PlacedItem) → item_text layout cs (user_item (item_further far i)) ≡ item_text layout cs (user_item i)
  item-further far cs i =
      ap (λ (f : Option UserSymbol). added cs f (map user_symbol_at (map (symbol_further far) i.annotations)) (map_head user_symbol_at (map_head (symbol_further far) i.head))) (field-further far i.field)
      ∙ ap₂ (added cs (option_map user_symbol_at i.field)) (annotations-further far i.annotations) (head-further far i.head)

  pub text-further : (far : ℕ) (cs : Open) (items : List PlacedItem) → items_text_by layout cs (user_items (map (item_further far) items)) ≡ items_text_by layout cs (user_items items)
  text-further far cs [] = refl
  text-further far cs (i ∷ items) =
      ap₂ (λ (xs ys : List ℕ). xs ++ ys) (item-further far cs i)
      (ap (λ (h : Head UserSymbol). items_text_by layout (text.open_after cs h) (user_items (map (item_further far) items))) (head-further far i.head)
      ∙ text-further far (text.open_after cs (map_head user_symbol_at i.head)) items)

  text-append : (cs : Open) (xs ys : List (Item UserSymbol ℕ)) → items_text_by layout cs (xs ++ ys) ≡ items_text_by layout cs xs ++ items_text_by layout (text.open_after_all cs xs) ys
  text-append cs [] ys = refl
  text-append cs (x ∷ xs) ys =
      ap (λ (l : List ℕ). item_text layout cs x ++ l) (text-append (text.open_after cs x.head) xs ys)
      ∙ sym (append_assoc (item_text layout cs x) (items_text_by layout (text.open_after cs x.head) xs) (items_text_by layout (text.open_after_all (text.open_after cs x.head) xs) ys))

  mutual
    value-opens : (x : Value UserSymbol ℕ) (top place : ℕ) (f : Option UserSymbol) (annotations : List UserSymbol) (cs : Open) (rest : List (Item UserSymbol ℕ))
        → text.open_after_all cs (value_items top f annotations place x ++ rest) ≡ text.open_after_all (with_member cs) rest
    value-opens (value.scalar body) top place f annotations cs rest = refl
    value-opens (value.container kind members last) top place f annotations cs rest =
        let inside = member-opens members top kind true (with_member cs) (bare_item value.end last top ∷ rest) in
        ap (text.open_after_all ((kind, true) ∷ with_member cs)) (append_assoc (member_items top members) (bare_item value.end last top ∷ []) rest)
        ∙ inside.1

    member-opens : (members : Members UserSymbol ℕ) (top : ℕ) (kind : Kind) (empty : Bool) (cs : Open) (rest : List (Item UserSymbol ℕ))
        → (still : Bool) × (text.open_after_all ((kind, empty) ∷ cs) (member_items top members ++ rest) ≡ text.open_after_all ((kind, still) ∷ cs) rest)
    member-opens value.nothing top kind empty cs rest = (empty, refl)
    member-opens (value.member before f annotations place x) top kind empty cs rest =
        let first = member-opens before top kind empty cs (value_items top f annotations place x ++ rest) in (
          false,
          ap (text.open_after_all ((kind, empty) ∷ cs)) (append_assoc (member_items top before) (value_items top f annotations place x) rest)
              ∙ first.1 ∙ value-opens x top place f annotations ((kind, first.0) ∷ cs) rest,
        )

  tops-open : (us : List (Top UserSymbol ℕ)) → text.open_after_all [] (top_items us) ≡ []
  tops-open [] = refl
  tops-open (value.version place ∷ us) = tops-open us
  tops-open (value.tree first annotations place x ∷ us) = value-opens x first place None annotations [] (top_items us) ∙ tops-open us

  pub text-behind : (far : ℕ) (mine xs : List PlacedItem) (us : List (Top UserSymbol ℕ)) → user_items mine ≡ top_items us
      → items_text_by layout [] (user_items (mine ++ map (item_further far) xs)) ≡ items_text_by layout [] (user_items mine) ++ items_text_by layout [] (user_items xs)
  text-behind far mine xs us e =
      let closed : text.open_after_all [] (user_items mine) ≡ [] = ap (text.open_after_all []) e ∙ tops-open us in
      ap (items_text_by layout []) (map-append user_item mine (map (item_further far) xs))
      ∙ text-append [] (user_items mine) (user_items (map (item_further far) xs))
      ∙ ap (λ (cs : Open). items_text_by layout [] (user_items mine) ++ items_text_by layout cs (user_items (map (item_further far) xs))) closed
      ∙ ap (λ (l : List ℕ). items_text_by layout [] (user_items mine) ++ l) (text-further far [] xs)

-- ---- such targets

-- nothing is refused; no place is written; and what is behind whole values is written behind them
pub record IsQuiet (o : Outputs) : Type 0 where
  pub none_refused : o.refusal ≡ never
  pub moved : (far : ℕ) (xs : List PlacedItem) → o.open_output (map (item_further far) xs) ≡ o.open_output xs
  pub joins : (far : ℕ) (mine xs : List PlacedItem) (us : List (Top UserSymbol ℕ)) → user_items mine ≡ top_items us
      → o.open_output (mine ++ map (item_further far) xs) ≡ o.open_output mine ++ o.open_output xs

pub text-quiet : (layout : Layout) → IsQuiet (to_text_by layout)
text-quiet layout = record { none_refused = refl; moved = λ far xs. text-further layout far [] xs; joins = text-behind layout }

pub nothing-quiet : IsQuiet to_nothing
nothing-quiet = record { none_refused = refl; moved = λ far xs. refl; joins = λ far mine xs us e. refl }

-- ---- the verdict and the output behind whole values

module _ (o : Outputs) (quiet : IsQuiet o) where
  pub quiet-verdict : (r : Reading) → verdict_after o.refusal [] r ≡ ended (ending_of r) (values_in [] (items_of r))
  quiet-verdict r = ap (λ (refusal : List PlacedItem → PlacedItem → Option (Reason × ℕ)). verdict_after refusal [] r) quiet.none_refused ∙ never-verdict [] r

  pub quiet-output : (r : Reading) → output_after o.open_output o.refusal [] r ≡ o.open_output (items_of r)
  quiet-output r = ap (λ (refusal : List PlacedItem → PlacedItem → Option (Reason × ℕ)). output_after o.open_output refusal [] r) quiet.none_refused ∙ never-output o.open_output [] r

  -- of items further on alone
  pub verdict-further : (far : ℕ) (r : Reading) → verdict_after o.refusal [] (further far r) ≡ ended (ending_of (further far r)) (values_in [] (items_of r))
  verdict-further far r =
      quiet-verdict (further far r) ∙ ap (λ (l : List PlacedItem). ended (ending_of (further far r)) (values_in [] l)) (items_of-further far r)
      ∙ ap (ended (ending_of (further far r))) (values-further far [] (items_of r))

  pub output-further : (far : ℕ) (r : Reading) → output_after o.open_output o.refusal [] (further far r) ≡ o.open_output (items_of r)
  output-further far r = quiet-output (further far r) ∙ ap o.open_output (items_of-further far r) ∙ quiet.moved far (items_of r)

  module _ (mine : List PlacedItem) (us : List (Top UserSymbol ℕ)) (whole : user_items mine ≡ top_items us) (far : ℕ) (r : Reading) where
    items-then : items_of (items_then mine (further far r)) ≡ mine ++ map (item_further far) (items_of r)
    items-then = items_of-items_then mine (further far r) ∙ ap (λ (l : List PlacedItem). mine ++ l) (items_of-further far r)

    pub verdict-behind : verdict_after o.refusal [] (items_then mine (further far r)) ≡ ended (ending_of (further far r)) (values_in [] mine + values_in [] (items_of r))
    verdict-behind =
        quiet-verdict (items_then mine (further far r))
        ∙ ap₂ (λ (e : Reading) (l : List PlacedItem). ended e (values_in [] l)) (ending_of-items_then mine (further far r)) items-then
        ∙ ap (ended (ending_of (further far r))) (values-behind far mine (items_of r) us whole)

    pub output-behind : output_after o.open_output o.refusal [] (items_then mine (further far r)) ≡ o.open_output mine ++ o.open_output (items_of r)
    output-behind = quiet-output (items_then mine (further far r)) ∙ ap o.open_output items-then ∙ quiet.joins far mine (items_of r) us whole

  -- of whole values alone
  module _ (mine : List PlacedItem) where
    whole-items : items_of (items_then mine Finished) ≡ mine
    whole-items = items_of-items_then mine Finished ∙ append-nil mine

    pub verdict-whole : verdict_after o.refusal [] (items_then mine Finished) ≡ Accepted (values_in [] mine)
    verdict-whole = quiet-verdict (items_then mine Finished) ∙ ap₂ (λ (e : Reading) (l : List PlacedItem). ended e (values_in [] l)) (ending_of-items_then mine Finished) whole-items

    pub output-whole : output_after o.open_output o.refusal [] (items_then mine Finished) ≡ o.open_output mine
    output-whole = quiet-output (items_then mine Finished) ∙ ap o.open_output whole-items
