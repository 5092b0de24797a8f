-- Reading on: what the items of a part of a stream lead to, and which of them are needed to read what follows. Laws that contracts cite.
use Rattle.std.specs.Prelude.{◌≡◌, ℕ, ◌+◌, Bool, false, if◌then◌else◌, List, [], ◌∷◌, ◌++◌, length, map, Option, Some, None}
use Rattle.ion_value.specs.Further.{further}
use Rattle.ion_value.specs.Reading.{Reading, Finished, Step, Ends, Stops, Gives, GoesOn, items_then}
use Rattle.ion_value.specs.Standing.{is_marker}
use Rattle.ion_value.specs.Value.{SymbolAt, Top, PlacedItem, top_items, map_item}
use Rattle.ion_symbols.specs.Table.{Shared, Table}
use Rattle.ion_symbols.specs.Users.{Mode, State, plain, declaring, at_start, user_step, users}

-- ---- what items lead to

-- the items of user values that items give, and the state after them
pub record Led : Type 0 where
  pub mine : List PlacedItem
  pub after : State

-- one more item of a user value before them
abbrev pub with_own : PlacedItem → Option Led → Option Led
with_own own None = None
with_own own (Some l) = Some (record { mine = own ∷ l.mine; after = l.after })

-- what an item leads to by its step, with those after it; None where it is refused
abbrev pub led_by : Step State → (State → Option Led) → Option Led
led_by Ends later = None
led_by (Stops reason place) later = None
led_by (Gives own after) later = with_own own (later after)
led_by (GoesOn after) later = later after

-- what items lead to from a state on
abbrev pub led : List Shared → ℕ → State → List PlacedItem → Option Led
led catalog limit s [] = Some (record { mine = []; after = s })
led catalog limit s (i ∷ is) = led_by (user_step catalog limit s i) (λ t. led catalog limit t is)

-- nothing is open, and this is the symbol table
abbrev pub at_top : Table → State
at_top t = record { table = t; mode = plain 0 }

-- items lead from nothing to the top level with this symbol table
abbrev pub LeadTo : List Shared → ℕ → List PlacedItem → List PlacedItem → Table → Type 0
LeadTo catalog limit items mine t = led catalog limit at_start items ≡ Some (record { mine = mine; after = at_top t })

-- ---- which items are needed

-- a version marker at top level: the table is the system table behind it
abbrev pub resets : Mode → PlacedItem → Bool
resets (plain n) i = is_marker i.head
resets (declaring d) i = false

-- what is kept after an item by its step, before those that follow: an item of a user value is not, nor one that is refused
abbrev pub kept_by : List PlacedItem → List PlacedItem → Step State → (State → List PlacedItem → List PlacedItem) → List PlacedItem
kept_by before grown Ends later = before
kept_by before grown (Stops reason place) later = before
kept_by before grown (Gives own after) later = later after before
kept_by before grown (GoesOn after) later = later after grown

-- the items of declarations behind the last version marker, after those that are kept so far
abbrev pub declarations_from : List Shared → ℕ → State → List PlacedItem → List PlacedItem → List PlacedItem
declarations_from catalog limit s kept [] = kept
declarations_from catalog limit s kept (i ∷ is) =
    kept_by kept (if resets s.mode i then [] else kept ++ i ∷ []) (user_step catalog limit s i) (λ t others. declarations_from catalog limit t others is)

-- those of a whole stream
abbrev pub declarations : List Shared → ℕ → List PlacedItem → List PlacedItem
declarations catalog limit items = declarations_from catalog limit at_start [] items

-- ---- laws

-- what follows items is read from where they lead
abbrev pub UsersReadOn : Type 0
UsersReadOn =
    (catalog : List Shared) (limit : ℕ) (s : State) (items : List PlacedItem) (l : Led) (rest : Reading) → led catalog limit s items ≡ Some l
    → users catalog limit s (items_then items rest) ≡ items_then l.mine (users catalog limit l.after rest)

-- at top level nothing in what a user is given hangs on where the bytes begin, but the places
abbrev pub UsersHangOnNoPlace : Type 0
UsersHangOnNoPlace =
    (catalog : List Shared) (limit : ℕ) (t : Table) (far : ℕ) (rest : Reading)
    → users catalog limit (at_top t) (further far rest) ≡ further far (users catalog limit (at_top t) rest)

-- the declarations behind the last version marker, read from nothing, give no user value, and leave the symbol table that all leaves
abbrev pub DeclarationsLeaveTheTable : Type 0
DeclarationsLeaveTheTable =
    (catalog : List Shared) (limit : ℕ) (items mine : List PlacedItem) (t : Table) → LeadTo catalog limit items mine t
    → LeadTo catalog limit (declarations catalog limit items) [] t

-- where a whole stream of version markers and values is accepted, its items lead to the top level
abbrev pub AcceptedStreamsLeadToTheTop : Type 0
AcceptedStreamsLeadToTheTop =
    (catalog : List Shared) (limit : ℕ) (tops : List (Top SymbolAt ℕ)) (mine : List PlacedItem)
    → users catalog limit at_start (items_then (top_items tops) Finished) ≡ items_then mine Finished
    → (t : Table) × LeadTo catalog limit (top_items tops) mine t

-- items of which each is one of a user value leave the symbol table that stands before them
abbrev pub ValuesKeepTheTable : Type 0
ValuesKeepTheTable =
    (catalog : List Shared) (limit : ℕ) (items more mine all : List PlacedItem) (t u : Table) → LeadTo catalog limit items mine t
    → LeadTo catalog limit (items ++ more) all u → length all ≡ length mine + length more → u ≡ t

-- an item with its symbols, and with its top-level value, where each place is another
abbrev pub placed_by : (ℕ → ℕ) → PlacedItem → PlacedItem
placed_by g item = map_item (λ (s : SymbolAt). record { symbol = s.symbol; place = g s.place }) g item

-- items are the same but for their places
abbrev pub AreAlike : List PlacedItem → List PlacedItem → Type 0
AreAlike items others = map (placed_by (λ place. 0)) items ≡ map (placed_by (λ place. 0)) others

-- so do items that are the same but for their places
abbrev pub TablesHangOnNoPlace : Type 0
TablesHangOnNoPlace =
    (catalog : List Shared) (limit : ℕ) (items others mine : List PlacedItem) (t : Table) → AreAlike items others → LeadTo catalog limit items mine t
    → (own : List PlacedItem) × LeadTo catalog limit others own t × AreAlike mine own
