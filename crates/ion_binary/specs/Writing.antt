-- What is put for items, one after the other: the streaming definition of the canonical binary form.
use Rattle.std.specs.Prelude.{ℕ, Bool, true, false, not, ◌&&◌, nat_lt, if◌then◌else◌, List, [], ◌∷◌, ◌++◌, length, drop, Option, Some, None}
use Rattle.ion_meter.specs.declared.fault.Reason.{Reason}
use Rattle.ion_meter.specs.declared.fault.Reason.TheVariants.{SymbolLimit, ValueLimit}
use Rattle.ion_meter.specs.declared.limits.Limits.{Limits}
use Rattle.ion_value.specs.declared.ion_type.Kind.{Kind}
use Rattle.ion_value.specs.Standing.{is_marker}
use Rattle.ion_value.specs.Value as value
use Rattle.ion_value.specs.Value.{SymbolAt, UserSymbol, user_symbol_at, user_item, user_items, Head, Item, PlacedItem}
use Rattle.ion_value.specs.Writable.{field_symbols, scalar_symbols}
use Rattle.ion_symbols.specs.Output.{texts_cost}
use Rattle.ion_binary.specs.Grammar.{type_code}
use Rattle.ion_binary.specs.Canonical.{annotation_octets, declaration, field_octets, headed, id_in, is_over, marker_if, marker_octets, member_octets, scalar_octets, with_symbol, with_symbols, wrapped}

-- ---- open containers

-- an open container: its type code, the octets of its field and of its annotations, and those of its whole members
pub record Unclosed : Type 0 where
  pub code : ℕ
  pub field : List ℕ
  pub annotations : List ℕ
  pub body : List ℕ

-- an open container by its field, its annotations, its kind, and the octets of its whole members (`body`)
abbrev pub opened_with : (UserSymbol → ℕ) → Option UserSymbol → List UserSymbol → Kind → List ℕ → Unclosed
opened_with ids f annotations kind body =
    record { code = type_code kind; field = field_octets ids f; annotations = annotation_octets ids annotations; body = body }

-- the octets of a container that is closed with a body
abbrev pub closed_with : Unclosed → List ℕ → List ℕ
closed_with c body = c.field ++ wrapped c.annotations (headed c.code body)

-- those of the outermost, where all are closed, with more octets in the innermost, which is the first
abbrev pub all_closed : List Unclosed → List ℕ → List ℕ
all_closed [] x = x
all_closed (c ∷ cs) x = all_closed cs (closed_with c (c.body ++ x))

-- ---- one item after the other

-- the texts that have been given ids, and how many of them have been declared; whether a version marker is due; the open containers,
-- the innermost first; and all that has been put
pub record Written : Type 0 where
  pub texts : List (List ℕ)
  pub declared : ℕ
  pub due : Bool
  pub open_containers : List Unclosed
  pub octets : List ℕ

-- the symbol of a head that is a symbol value, and none of any other
abbrev pub head_symbols : {S : Type 0} → Head S → List S
head_symbols (value.whole body) = scalar_symbols body
head_symbols (value.begin kind) = []
head_symbols value.end = []
head_symbols value.marker = []

-- the symbols of an item in order: its field, its annotations, and a symbol value
abbrev pub item_symbols : {S P : Type 0} → Item S P → List S
item_symbols i = field_symbols i.field ++ (i.annotations ++ head_symbols i.head)

-- what octets of a whole value put: nothing where they are in a container
abbrev pub value_puts : Written → List Unclosed → List ℕ → List ℕ
value_puts w [] x = marker_if w.due ++ (declaration (drop w.declared w.texts) ++ x)
value_puts w (c ∷ cs) x = []

-- the state after a whole value of these octets: they are put at top level, or else belong to the innermost open container
abbrev pub with_value : Written → List Unclosed → List ℕ → Written
with_value w [] x = record w { declared = length w.texts; due = false; open_containers = []; octets = w.octets ++ value_puts w [] x }
with_value w (c ∷ cs) x = record w { open_containers = (record c { body = c.body ++ x }) ∷ cs }

-- the innermost container closes
abbrev pub end_puts : Written → List Unclosed → List ℕ
end_puts w [] = []
end_puts w (c ∷ cs) = value_puts w cs (closed_with c c.body)

-- the state where the innermost of these open containers has closed
abbrev pub with_end : Written → List Unclosed → Written
with_end w [] = w
with_end w (c ∷ cs) = with_value w cs (closed_with c c.body)

-- the texts are forgotten as a value at top level begins, where they cost too much
abbrev pub forgetting : Written → List Unclosed → Bool → Written
forgetting w [] true = record w { texts = []; declared = 0; due = true }
forgetting w [] false = w
forgetting w (c ∷ cs) over = w

-- the state as an item with this head comes: without the texts, where they are forgotten before it
abbrev pub begun : ℕ → Written → Head UserSymbol → Written
begun limit w head = forgetting w w.open_containers (not (is_marker head) && is_over limit w.texts)

-- an item's own octets, where a container that begins is empty
abbrev pub own_octets : (UserSymbol → ℕ) → Option UserSymbol → List UserSymbol → Head UserSymbol → List ℕ
own_octets ids f annotations (value.whole body) = member_octets ids f annotations (scalar_octets ids body)
own_octets ids f annotations (value.begin kind) = member_octets ids f annotations (headed (type_code kind) [])
own_octets ids f annotations value.end = []
own_octets ids f annotations value.marker = []

-- what an item puts, by the ids of symbols and its own parts: nothing while its value at top level is open
abbrev pub head_puts : Written → (UserSymbol → ℕ) → Option UserSymbol → List UserSymbol → Head UserSymbol → List ℕ
head_puts w ids f annotations (value.whole body) = value_puts w w.open_containers (member_octets ids f annotations (scalar_octets ids body))
head_puts w ids f annotations (value.begin kind) = []
head_puts w ids f annotations value.end = end_puts w w.open_containers
head_puts w ids f annotations value.marker = []

-- the state after an item, by the ids of symbols and the item's own parts
abbrev pub with_head : Written → (UserSymbol → ℕ) → Option UserSymbol → List UserSymbol → Head UserSymbol → Written
with_head w ids f annotations (value.whole body) = with_value w w.open_containers (member_octets ids f annotations (scalar_octets ids body))
with_head w ids f annotations (value.begin kind) = record w { open_containers = opened_with ids f annotations kind [] ∷ w.open_containers }
with_head w ids f annotations value.end = with_end w w.open_containers
with_head w ids f annotations value.marker = w

-- the texts of an item are given ids first
abbrev pub with_ids_given : {P : Type 0} → ℕ → Written → Item UserSymbol P → Written
with_ids_given limit w i =
    let b = begun limit w i.head in
    record b { texts = with_symbols b.texts (item_symbols i) }

-- the state after an item, under the limit on symbol tables
abbrev pub after : {P : Type 0} → ℕ → Written → Item UserSymbol P → Written
after limit w i =
    let n = with_ids_given limit w i in
    with_head n (id_in n.texts) i.field i.annotations i.head

-- the state after items, one after the other
abbrev pub after_all : {P : Type 0} → ℕ → Written → List (Item UserSymbol P) → Written
after_all limit w [] = w
after_all limit w (i ∷ is) = after_all limit (after limit w i) is

-- the version marker, before all items
abbrev pub at_begin : Written
at_begin = record { texts = []; declared = 0; due = false; open_containers = []; octets = marker_octets }

-- what an item puts
abbrev pub item_puts : {P : Type 0} → ℕ → Written → Item UserSymbol P → List ℕ
item_puts limit w i =
    let n = with_ids_given limit w i in
    head_puts n (id_in n.texts) i.field i.annotations i.head

-- the length of the open value with an item, where all containers are closed after it
abbrev pub closed_size : {P : Type 0} → ℕ → Written → Item UserSymbol P → ℕ
closed_size limit w i =
    let n = with_ids_given limit w i in
    length (all_closed n.open_containers (own_octets (id_in n.texts) i.field i.annotations i.head))

-- ---- with limits

-- the place of the first symbol with which the texts cost more than the limit
abbrev pub first_over : ℕ → List (List ℕ) → List SymbolAt → Option ℕ
first_over limit texts [] = None
first_over limit texts (s ∷ ss) =
    let more = with_symbol texts (user_symbol_at s) in
    if nat_lt limit (texts_cost more) then Some s.place else first_over limit more ss

-- the refusal of a value that is longer than the limit: at the place where it begins (`top`)
abbrev pub too_long : ℕ → ℕ → ℕ → Option (Reason × ℕ)
too_long limit size top = if nat_lt limit size then Some (ValueLimit, top) else None

-- the refusal at the place of a symbol whose text costs too much, if there is one; else that of a value of this size, if too long
abbrev pub refused_by : ℕ → ℕ → ℕ → Option ℕ → Option (Reason × ℕ)
refused_by limit size top (Some place) = Some (SymbolLimit, place)
refused_by limit size top None = too_long limit size top

-- an item is refused at the first of its symbols with which the texts cost more than their limit; or else, where its value at top level
-- would be longer than the limit on values, at the first byte of that value
abbrev pub refused_at : Limits → Written → PlacedItem → Option (Reason × ℕ)
refused_at limits w item =
    refused_by limits.value (closed_size limits.symbols w (user_item item)) item.top
    (first_over limits.symbols (begun limits.symbols w (user_item item).head).texts (item_symbols item))

-- the state after items, from the beginning of the output on
abbrev pub written_after : Limits → List PlacedItem → Written
written_after limits path = after_all limits.symbols at_begin (user_items path)

-- these octets, and none where there is a refusal
abbrev pub unless_refused : Option (Reason × ℕ) → List ℕ → List ℕ
unless_refused (Some why) octets = []
unless_refused None octets = octets

-- what is put for items
abbrev pub binary_puts : Limits → List PlacedItem → List ℕ
binary_puts limits path = (written_after limits path).octets

-- the reason and the place for which an item after others is refused, if it is
abbrev pub binary_refusal : Limits → List PlacedItem → PlacedItem → Option (Reason × ℕ)
binary_refusal limits path item = refused_at limits (written_after limits path) item

-- what an item after others adds: nothing where it is refused
abbrev pub binary_adds : Limits → List PlacedItem → PlacedItem → List ℕ
binary_adds limits path item =
    unless_refused (binary_refusal limits path item) (item_puts limits.symbols (written_after limits path) (user_item item))
