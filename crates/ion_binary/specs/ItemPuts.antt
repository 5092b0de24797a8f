-- What is put grows by what an item adds, and by nothing where it is refused.
use Rattle.std.proofs.Common.{◌≡◌, ℕ, Bool, true, false, List, [], ◌∷◌, ◌++◌, Option, Some, None, refl, ap, sym, ◌∙◌, append-nil}
use Rattle.ion_meter.specs.declared.fault.Reason.{Reason}
use Rattle.ion_meter.specs.declared.limits.Limits.{Limits}
use Rattle.std.specs.Prelude.{not, ◌&&◌}
use Rattle.ion_value.specs.Standing.{is_marker}
use Rattle.ion_value.specs.Value as value
use Rattle.ion_value.specs.Value.{UserSymbol, Head, Item, PlacedItem, user_item, user_items}
use Rattle.ion_binary.specs.Canonical.{id_in, is_over}
use Rattle.ion_binary.specs.Writing.{Unclosed, Written, after, after_all, at_begin, binary_adds, binary_puts, binary_refusal, closed_with, end_puts, forgetting, head_puts, item_puts, with_ids_given, unless_refused, value_puts, with_end, with_head, with_value, written_after}

value-octets : (w : Written) (cs : List Unclosed) (x : List ℕ) → (with_value w cs x).octets ≡ w.octets ++ value_puts w cs x
value-octets w [] x = refl
value-octets w (c ∷ cs) x = sym (append-nil w.octets)

end-octets : (w : Written) (cs : List Unclosed) → (with_end w cs).octets ≡ w.octets ++ end_puts w cs
end-octets w [] = sym (append-nil w.octets)
end-octets w (c ∷ cs) = value-octets w cs (closed_with c c.body)

head-octets : (w : Written) (ids : UserSymbol → ℕ) (f : Option UserSymbol) (annotations : List UserSymbol) (h : Head UserSymbol)
    → (with_head w ids f annotations h).octets ≡ w.octets ++ head_puts w ids f annotations h
head-octets w ids f annotations (value.whole body) = value-octets w w.open_containers _
head-octets w ids f annotations (value.begin kind) = sym (append-nil w.octets)
head-octets w ids f annotations value.end = end-octets w w.open_containers
head-octets w ids f annotations value.marker = sym (append-nil w.octets)

forgetting-octets : (w : Written) (cs : List Unclosed) (over : Bool) → (forgetting w cs over).octets ≡ w.octets
forgetting-octets w [] true = refl
forgetting-octets w [] false = refl
forgetting-octets w (c ∷ cs) over = refl

-- an item adds what it puts
after-octets : (limit : ℕ) (w : Written) (i : Item UserSymbol ℕ) → (after limit w i).octets ≡ w.octets ++ item_puts limit w i
after-octets limit w i =
    let n : Written = with_ids_given limit w i in
    head-octets n (id_in n.texts) i.field i.annotations i.head
    ∙ ap (λ (o : List ℕ). o ++ item_puts limit w i) (forgetting-octets w w.open_containers (not (is_marker i.head) && is_over limit w.texts))

-- the state after items and one more is that which the last makes of the state after the others
pub after_all-last : (limit : ℕ) (w : Written) (path : List PlacedItem) (item : PlacedItem)
    → after_all limit w (user_items (path ++ item ∷ [])) ≡ after limit (after_all limit w (user_items path)) (user_item item)
after_all-last limit w [] item = refl
after_all-last limit w (i ∷ path) item = after_all-last limit (after limit w (user_item i)) path item

-- after what is put for items comes what one more adds, where it is not refused
pub binary_grows : (limits : Limits) (path : List PlacedItem) (item : PlacedItem) → binary_refusal limits path item ≡ None
    → binary_puts limits (path ++ item ∷ []) ≡ binary_puts limits path ++ binary_adds limits path item
binary_grows limits path item none =
    let w : Written = written_after limits path in
    let x : List ℕ = item_puts limits.symbols w (user_item item) in
    ap (λ (y : Written). y.octets) (after_all-last limits.symbols at_begin path item)
    ∙ (after-octets limits.symbols w (user_item item)
    ∙ ap (λ (r : Option (Reason × ℕ)). w.octets ++ unless_refused r x) (sym none))

-- an item that is refused adds nothing
pub binary_silent : (limits : Limits) (path : List PlacedItem) (item : PlacedItem) (why : Reason × ℕ) → binary_refusal limits path item ≡ Some why
    → binary_adds limits path item ≡ []
binary_silent limits path item why some =
    ap (λ (r : Option (Reason × ℕ)). unless_refused r (item_puts limits.symbols (written_after limits path) (user_item item))) some
