-- What a writer of the canonical form may hold: the octets of the open value, which come without the headers of its open containers, and
-- where these go in. It tells all that the streaming definition needs.
use Rattle.std.specs.Prelude.{◌≡◌, ℕ, ◌+◌, ◌-◌, ◌<◌, Bool, true, false, not, ◌&&◌, nat_eq, if◌then◌else◌, List, [], ◌∷◌, ◌++◌, length, map, take, drop}
use Rattle.std.specs.List.{AllByRecursion}
use Rattle.ion_value.specs.declared.ion_type.Kind.{Kind}
use Rattle.ion_value.specs.Number.{var_uint_octets}
use Rattle.ion_value.specs.Standing.{Fits, is_marker}
use Rattle.ion_value.specs.Value as value
use Rattle.ion_value.specs.Value.{UserSymbol, Head, Item}
use Rattle.ion_binary.specs.declared.headers.HeaderPlace.{HeaderPlace}
use Rattle.ion_binary.specs.Grammar.{type_code}
use Rattle.ion_binary.specs.Canonical.{declaration, field_octets, header, id_in, id_octets, is_over, marker_if, scalar_octets, with_symbols, wrapped}
use Rattle.ion_binary.specs.Writing.{Unclosed, Written, after, closed_size, item_puts, item_symbols}
use Rattle.ion_binary.specs.Counting.{place_of_header}
use Rattle.ion_binary.specs.Places.{closed_length, unheaded}

-- the octets that are there, the headers that are missing, the innermost first, and the rest as in the streaming definition
pub record Held : Type 0 where
  pub octets : List ℕ
  pub headers : List HeaderPlace
  pub texts : List (List ℕ)
  pub declared : ℕ
  pub due : Bool

-- ---- what is held where this is written

-- a missing header, by the place where it goes in and its type code
abbrev pub header_at : ℕ → ℕ → HeaderPlace
header_at place code = record { place = place; code = code }

-- a wrapper's header, which has the type code 14, is missing where there are annotations
abbrev pub wrapper_headers : List ℕ → ℕ → List HeaderPlace
wrapper_headers [] place = []
wrapper_headers (n ∷ ns) place = header_at place 14 ∷ []

-- the headers that open containers lack, the innermost first: each its own, and its wrapper's where it has annotations
abbrev pub headers_of : List Unclosed → List HeaderPlace
headers_of [] = []
headers_of (c ∷ cs) =
    header_at (length (unheaded cs) + (length c.field + length c.annotations)) c.code
    ∷ (wrapper_headers c.annotations (length (unheaded cs) + length c.field) ++ headers_of cs)

-- what a writer holds where the streaming definition has come so far
abbrev pub held_of : Written → Held
held_of w = record {
  octets = unheaded w.open_containers;
  headers = headers_of w.open_containers;
  texts = w.texts;
  declared = w.declared;
  due = w.due;
}

-- no container has the type code of annotations
abbrev pub HaveCodes : List Unclosed → Type 0
HaveCodes cs = AllByRecursion (λ c. c.code < 14) cs

-- ---- headers that go in

-- octets into which others (`x`) were put, at a place that is counted from 0
abbrev pub put_at : ℕ → List ℕ → List ℕ → List ℕ
put_at place x octets = take place octets ++ (x ++ drop place octets)

-- the header of all that is after its place
abbrev pub headed_at : HeaderPlace → List ℕ → List ℕ
headed_at h octets = put_at h.place (header h.code (length octets - h.place)) octets

-- a wrapper's header goes in where the innermost is one
abbrev pub wrapped_in : List ℕ → List HeaderPlace → List ℕ
wrapped_in octets [] = octets
wrapped_in octets (h ∷ hs) = if nat_eq h.code 14 then headed_at h octets else octets

-- the headers without the first, where that is a wrapper's
abbrev pub without_wrapper : List HeaderPlace → List HeaderPlace
without_wrapper [] = []
without_wrapper (h ∷ hs) = if nat_eq h.code 14 then hs else h ∷ hs

-- the octets where the innermost container's own header has gone in, which stands first in the list
abbrev pub innermost_in : List ℕ → List HeaderPlace → List ℕ
innermost_in octets [] = octets
innermost_in octets (h ∷ hs) = headed_at h octets

-- the octets where the innermost container has closed: its own header has gone in, and then its wrapper's, where it has one
abbrev pub closed_in : List ℕ → List HeaderPlace → List ℕ
closed_in octets hs = wrapped_in (innermost_in octets hs) (drop 1 hs)

-- the headers that are still missing where the innermost container has closed
abbrev pub headers_around : List HeaderPlace → List HeaderPlace
headers_around hs = without_wrapper (drop 1 hs)

-- ---- an item more

-- the ids of annotations after the length of all of them, and nothing where there are no annotations
abbrev pub counted_ids : List ℕ → List ℕ
counted_ids [] = []
counted_ids (n ∷ ns) = var_uint_octets (length (n ∷ ns)) ++ (n ∷ ns)

-- octets with a scalar's after them, in a wrapper where the ids of annotations stand from the place on
abbrev pub whole_at : ℕ → List ℕ → List ℕ → List ℕ
whole_at place octets x = take place octets ++ wrapped (counted_ids (drop place octets)) x

-- octets after which a container begins: where the ids of annotations stand from the place on, their length goes in there
abbrev pub begun_at : ℕ → List ℕ → List ℕ
begun_at place octets = take place octets ++ counted_ids (drop place octets)

-- the headers that are missing where a container so begins: its own, its wrapper's where it has annotations, and those before
abbrev pub begun_headers : ℕ → List ℕ → Kind → List HeaderPlace → List HeaderPlace
begun_headers place octets kind hs = header_at (length (begun_at place octets)) (type_code kind) ∷ (wrapper_headers (drop place octets) place ++ hs)

-- the octets after an item, before a value that is whole is put
abbrev pub moved_octets : ℕ → List ℕ → List HeaderPlace → (UserSymbol → ℕ) → Head UserSymbol → List ℕ
moved_octets place octets hs ids (value.whole body) = whole_at place octets (scalar_octets ids body)
moved_octets place octets hs ids (value.begin kind) = begun_at place octets
moved_octets place octets hs ids value.end = closed_in octets hs
moved_octets place octets hs ids value.marker = octets

-- the headers that are missing after an item: a container's beginning adds its own, and its end takes them away
abbrev pub moved_headers : {S : Type 0} → ℕ → List ℕ → List HeaderPlace → Head S → List HeaderPlace
moved_headers place octets hs (value.whole body) = hs
moved_headers place octets hs (value.begin kind) = begun_headers place octets kind hs
moved_headers place octets hs value.end = headers_around hs
moved_headers place octets hs value.marker = hs

-- the texts are forgotten where no container is open and the last argument says that they cost too much
abbrev pub texts_forgotten : Held → List HeaderPlace → Bool → Held
texts_forgotten h [] true = record h { texts = []; declared = 0; due = true }
texts_forgotten h [] false = h
texts_forgotten h (e ∷ es) over = h

-- what is held as an item comes: no texts where it begins a value at top level and they cost more than half of the limit
abbrev pub held_forgotten : {S : Type 0} → ℕ → Held → Head S → Held
held_forgotten limit h head = texts_forgotten h h.headers (not (is_marker head) && is_over limit h.texts)

-- what is held where the texts of an item's symbols have been given ids
abbrev pub with_names : Held → Item UserSymbol ℕ → Held
with_names h i = record h { texts = with_symbols h.texts (item_symbols i) }

-- both: what is held without texts that cost too much, and with those of the item
abbrev pub held_with_ids : ℕ → Held → Item UserSymbol ℕ → Held
held_with_ids limit h i = with_names (held_forgotten limit h i.head) i

-- where the ids of an item's annotations begin, after its field: the number of octets before them
abbrev pub ids_place : Held → Item UserSymbol ℕ → ℕ
ids_place h i = length h.octets + length (field_octets (id_in h.texts) i.field)

-- the octets that are held, the item's field, and the ids of its annotations
abbrev pub with_front : Held → Item UserSymbol ℕ → List ℕ
with_front h i = h.octets ++ (field_octets (id_in h.texts) i.field ++ id_octets (id_in h.texts) i.annotations)

-- with all of it, where its symbols have ids
abbrev pub octets_with : Held → Item UserSymbol ℕ → List ℕ
octets_with n i = moved_octets (ids_place n i) (with_front n i) n.headers (id_in n.texts) i.head

-- the headers that are missing with an item, where its symbols have ids
abbrev pub headers_with : Held → Item UserSymbol ℕ → List HeaderPlace
headers_with n i = moved_headers (ids_place n i) (with_front n i) n.headers i.head

-- a value at top level that is whole is put
abbrev pub value_put : Held → List HeaderPlace → List ℕ → List ℕ
value_put h [] octets = marker_if h.due ++ (declaration (drop h.declared h.texts) ++ octets)
value_put h (e ∷ es) octets = []

-- what is held then: no octets of a value that is whole, all texts being declared; of one that is open these octets and headers
abbrev pub value_held : Held → List HeaderPlace → List ℕ → Held
value_held h [] octets = record h { octets = []; headers = []; declared = length h.texts; due = false }
value_held h (e ∷ es) octets = record h { octets = octets; headers = e ∷ es }

-- what is held after an item, by what is held before it and the limit on symbol tables
abbrev pub held_after : ℕ → Held → Item UserSymbol ℕ → Held
held_after limit h i =
    let n = held_with_ids limit h i in
    value_held n (headers_with n i) (octets_with n i)

-- what is put as an item comes: the value at top level that it makes whole, after its declaration; nothing while that is open
abbrev pub held_puts : ℕ → Held → Item UserSymbol ℕ → List ℕ
held_puts limit h i =
    let n = held_with_ids limit h i in
    value_put n (headers_with n i) (octets_with n i)

-- the closed size, by the places of the headers that are missing
abbrev pub size_of : List ℕ → List HeaderPlace → ℕ
size_of octets hs = closed_length (length octets) (map place_of_header hs)

-- the closed size with an item, by what is held before it
abbrev pub held_size : ℕ → Held → Item UserSymbol ℕ → ℕ
held_size limit h i =
    let n = held_with_ids limit h i in
    size_of (octets_with n i) (headers_with n i)

-- ---- what is held moves with the items, and says what is put and how long the closed value is

-- an item that is no marker may come where these containers are open
pub record MayCome (depth : ℕ) (w : Written) (i : Item UserSymbol ℕ) : Type 0 where
  pub kinds : List Kind
  pub level : length kinds ≡ length w.open_containers
  pub fits : Fits depth kinds i
  pub value : is_marker i.head ≡ false

-- with the item what is held moves as the streaming definition does, and it says what that puts and its closed size
pub record Moves (limit : ℕ) (w : Written) (i : Item UserSymbol ℕ) : Type 0 where
  pub held : held_after limit (held_of w) i ≡ held_of (after limit w i)
  pub puts : held_puts limit (held_of w) i ≡ item_puts limit w i
  pub size : held_size limit (held_of w) i ≡ closed_size limit w i

-- so it is with each item that may come, where no open container has the type code of annotations
abbrev pub WhatIsHeldMoves : Type 0
WhatIsHeldMoves = (limit depth : ℕ) (w : Written) (i : Item UserSymbol ℕ) → HaveCodes w.open_containers → MayCome depth w i → Moves limit w i
