-- A turn of a declaration, by what is being read of it.
use Rattle.std.proofs.Common.{◌≡◌, ◌≤◌, Bool, false, if◌then◌else◌, Result, ap, sym, subst, ◌∙◌, arith}
use Rattle.ion_meter.specs.declared.fault.Fault.{Fault}
use Rattle.ion_symbols.specs.Table.{Table}
use Rattle.ion_symbols.specs.Declaration.{Ground, Declaring, ItemView, Turn, turn, turn_at, area_turn, part_turn, is_end, import_ended, then_turn, on, at}
use Rattle.ion_symbols.specs.Buffer.{TurnAs}
use Rattle.ion_symbols.specs.declared.known_text.Area.{Area}
use Rattle.ion_symbols.specs.declared.known_text.Area.TheVariants as area

-- outside of what is ignored the area says what is done
turn-area : (g : Ground) (d : Declaring) (t : ItemView) (a : Area) → d.inside ≤ 0 → d.area ≡ a → turn g d t ≡ area_turn g t d.pending a
turn-area g d t a out e =
    let none : d.inside ≡ 0 = omega (arith, out) in
    ap (turn_at g d t) none ∙ ap (area_turn g t d.pending) e

-- so a call that does it answers the turn
pub turn_by_area : (g : Ground) (d : Declaring) (met t : ItemView) (a : Area) (r : Result Bool Fault) (e : Declaring) (u : Table)
    → d.inside ≤ 0 → d.area ≡ a → met ≡ t → TurnAs (area_turn g met d.pending a) r e u → TurnAs (turn g d t) r e u
turn_by_area g d met t a r e u out is same h =
    subst (λ n. TurnAs n r e u) (sym (turn-area g d t a out is)) (subst (λ m. TurnAs (area_turn g m d.pending a) r e u) same h)

-- an item that is no end goes the other way
other_way : (b : Bool) (one other : Turn) (r : Result Bool Fault) (e : Declaring) (u : Table)
    → b ≡ false → TurnAs other r e u → TurnAs (if b then one else other) r e u
other_way b one other r e u goes h = subst (λ k. TurnAs (if k then one else other) r e u) (sym goes) h

-- a field of an import
pub turn_by_part : (g : Ground) (d : Declaring) (met t : ItemView) (r : Result Bool Fault) (e : Declaring) (u : Table)
    → d.inside ≤ 0 → d.area ≡ area.Import → met ≡ t → is_end met.what ≡ false → TurnAs (part_turn g met d.pending) r e u → TurnAs (turn g d t) r e u
turn_by_part g d met t r e u out is same goes h =
    turn_by_area g d met t area.Import r e u out is same
    (other_way (is_end met.what) (then_turn (import_ended g d.pending) (λ q. on (at area.Imports q))) (part_turn g met d.pending) r e u goes h)
