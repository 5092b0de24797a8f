-- What a window that was read on shows.
use Rattle.std.proofs.Common.{◌≡◌, ℕ, ◌+◌, ◌-◌, ◌≤◌, List, [], ◌++◌, length, min, Option, Some, None, slice_get, refl, sym, ap, ◌∙◌, inl, inr, arith}
use Rattle.std.proofs.lemmas.List.{length-append, length-take, append-nil, nil_from_length}
use Rattle.std.proofs.lemmas.Option.{slice_get_cases}
use Rattle.ion_meter.specs.declared.device.Input.{Ghosts as InputOf}
use Rattle.ion_meter.specs.declared.fault.Fault.{Fault}
use Rattle.ion_meter.specs.Windows.{Incoming, left, lent, lent_by, Extends}
use Rattle.ion_text_in.specs.declared.piece.Piece.{Piece as CodePiece}
use Rattle.ion_text_in.specs.declared.piece.Piece.TheVariants as code
use Rattle.ion_text_in.specs.Quoted.{Quote, piece_at}
use Rattle.ion_text_in.specs.Pieces.{piece_of, ShowsPiece}
use Rattle.ion_text_in.proofs.Shown.{after_lent, lent-left}

shows-piece : (q : Quote) (bytes : List ℕ) (piece : CodePiece) → (piece ≡ code.Cut → ⊥) → ShowsPiece q bytes piece → (more : List ℕ) → piece_at q (bytes ++ more) ≡ piece_of piece
shows-piece q bytes (code.Text m n) whole shows more = shows more
shows-piece q bytes (code.Close n) whole shows more = shows more
shows-piece q bytes code.Illegal whole shows more = shows more
shows-piece q bytes code.Cut whole shows more = absurd (whole refl)

-- a piece that the window shows
pub piece-left : {I : Type 0} (rest : I → List ℕ) (s : Incoming I) (q : Quote) (piece : CodePiece) → (piece ≡ code.Cut → ⊥) → ShowsPiece q (lent s) piece → piece_of piece ≡ piece_at q (left rest s)
piece-left rest s q piece whole shows =
    let more : List ℕ = after_lent s.fault (s.limit - s.place) s.buffered ++ rest s.device in
    sym (ap (λ (l : List ℕ). piece_at q l) (lent-left rest s) ∙ shows-piece q (lent s) piece whole shows more)

lent_by-length : (f : Option Fault) (most : ℕ) (bytes : List ℕ) → f ≡ None → length (lent_by f most bytes) ≡ min most (length bytes)
lent_by-length None most bytes e = length-take most bytes
lent_by-length (Some f) most bytes e = absurd (cc e)

pub lent-grows : {I : Type 0} (device : InputOf I) (s t : Incoming I) → Extends device s t → s.fault ≡ None → t.fault ≡ None → length (lent s) ≤ length (lent t)
lent-grows device s t kept ws wt =
    let a = lent_by-length s.fault (s.limit - s.place) s.buffered ws in
    let b = lent_by-length t.fault (t.limit - t.place) t.buffered wt in
    let longer : length t.buffered ≡ length s.buffered + length kept.prefix.0 = ap (λ (l : List ℕ). length l) kept.prefix.1 ∙ length-append s.buffered kept.prefix.0 in
    let place = kept.place in let limit = kept.limit in
    let room : t.limit - t.place ≡ s.limit - s.place = rw (place, limit) refl in
    omega (arith, a, b, longer, room)

no-byte : (xs : List ℕ) (n : ℕ) → slice_get xs n ≡ None → length xs ≤ n
no-byte xs n e = elim (slice_get_cases xs n).1 [
  | inl there ↦ absurd (cc (e, there.2))
  | inr past ↦ past.0
]

none-after : (xs ys all : List ℕ) → all ≡ xs ++ ys → length all ≤ length xs → xs ≡ all
none-after xs ys all e le =
    let long = ap (λ (l : List ℕ). length l) e ∙ length-append xs ys in
    let none : ys ≡ [] = nil_from_length ys (omega (arith, long, le)) in
    sym (e ∙ ap (λ (l : List ℕ). xs ++ l) none ∙ append-nil xs)

-- at the input's end the window shows all
pub lent-all : {I : Type 0} (device : InputOf I) (s t : Incoming I) → Extends device s t → s.fault ≡ None → t.fault ≡ None → device.observable s.device
    → None ≡ slice_get (left device.rest s) (length (lent s)) → lent t ≡ left device.rest s
lent-all device s t kept ws wt h none =
    let rest = device.rest in
    let short = no-byte (left rest s) (length (lent s)) (sym none) in
    let grows = lent-grows device s t kept ws wt in
    let same = kept.same_left h in
    let long : length (left rest t) ≤ length (lent t) = rw same (omega (arith, short, grows)) in
    none-after (lent t) (after_lent t.fault (t.limit - t.place) t.buffered ++ rest t.device) (left rest t) (lent-left rest t) long ∙ same
