-- Where a stream is read to its end, the limits allow what stands in it: else the reading stops at the first that they do not allow.
use Rattle.std.proofs.Common.{◌≡◌, ◌⊎◌, inl, inr, ℕ, suc, arith, Bool, true, false, not, nat_le, nat_lt, sum_by, List, [], ◌∷◌, ◌++◌, length, Option, None, Some, Ok, Result, refl, sym, ap, subst, ◌∙◌}
use Rattle.std.proofs.lemmas.Bool.{cases_lt, lt-ltb, lt-leb, le-leb}
use lib.Ieee.{Float}
use Rattle.ion_meter.specs.declared.fault.Reason.{Reason}
use Rattle.ion_meter.specs.declared.fault.Reason.TheVariants as reasons
use Rattle.ion_meter.specs.declared.fault.Reason.TheVariants.{AnnotationLimit, DepthLimit, ScalarLimit}
use Rattle.ion_meter.specs.declared.profile.Rules.{Rules}
use Rattle.ion_meter.specs.Sources.{Cursor}
use Rattle.ion_value.specs.declared.ion_type.Kind.{Kind}
use Rattle.ion_value.specs.Name.{version_word}
use Rattle.ion_value.specs.Parts.{part, refuse, ◌>>◌}
use Rattle.ion_value.specs.Path.{closed, path_items}
use Rattle.ion_value.specs.Reading.{Finished, Stopped, items_then, Step, Gives, GoesOn, Stops, next_reading, reading_by}
use Rattle.ion_value.specs.ReadingLaws.{ending_of}
use Rattle.ion_value.specs.Value as value
use Rattle.ion_value.specs.Value.{Symbol, SymbolAt, Value, Members, Top, PlacedItem, top_items}
use Rattle.ion_value.proofs.ReadingLaws.{ending_of-items_then}
use Rattle.ion_value.proofs.Readings.{items_then-append, reading_by-step}
use Rattle.ion_text_in.specs.Grammar.{Tok, Annotations, Field, Txt, Inside, Tops, start_of}
use Rattle.ion_text_in.specs.Meaning.{counts}
use Rattle.ion_text_in.specs.Positions.{Wants, a_value, a_field, State, innermost, in_sexp, at}
use Rattle.ion_text_in.specs.Reading as reading
use Rattle.ion_text_in.specs.Reading.{at_member, cost, may_come, member_of, item_of, part_at, size, start, step, step_of, take, top_of}
use Rattle.ion_text_in.specs.ReadWithin.{WhatIsReadIsWithin}
use Rattle.ion_text_in.specs.Token.{Token, plain, float, name, text, operator, begin, colons}
use Rattle.ion_text_in.specs.Within.{TokenWithin, AnnotationsWithin, FieldWithin, TxtWithin, InsideWithin, TopsWithin}
use Rattle.ion_text_in.proofs.Complete.{Reads, read_from, reading-read_from, reads-gives, annotations-read, field-read, members-read, mark-within, not-refused, tops-read}
use Rattle.ion_text_in.proofs.Falling.{each_step_falls}
use Rattle.ion_text_in.proofs.Tokens.{state, Suits, step-token, token-stops, value-suits, naming-suits, colons-stand}

-- ---- a reading that stops

-- from a state on it gives items, and stops
record Halts (limits : Rules) (s : State) : Type 0 where
  items : List PlacedItem
  reason : Reason
  place : ℕ
  stops : read_from limits s ≡ items_then items (Stopped reason place)

halts-here : (limits : Rules) (s : State) (reason : Reason) (place : ℕ) → step limits s ≡ Stops reason place → Halts limits s
unfolding read_from
halts-here limits s reason place e = record {
  items = [];
  reason = reason;
  place = place;
  stops = reading_by-step (step limits) size (each_step_falls limits) s ∙ ap (next_reading (reading_by (step limits) size)) e;
}

halts-later : (limits : Rules) (s t : State) (items : List PlacedItem) → Reads limits s items t → Halts limits t → Halts limits s
halts-later limits s t items read h = record {
  items = items ++ h.items;
  reason = h.reason;
  place = h.place;
  stops = read ∙ (ap (items_then items) h.stops ∙ sym (items_then-append items h.items (Stopped h.reason h.place)));
}

-- something is so, or else the reading stops; and with one thing so, another is
or-then : {A B H : Type 0} → A ⊎ H → (A → B ⊎ H) → B ⊎ H
or-then (inl a) f = f a
or-then (inr h) f = inr h

-- from a state that is read later
or-later : {A : Type 0} (limits : Rules) (s t : State) (items : List PlacedItem) → Reads limits s items t → A ⊎ Halts limits t → A ⊎ Halts limits s
or-later limits s t items read (inl a) = inl a
or-later limits s t items read (inr h) = inr (halts-later limits s t items read h)

token-or : (limits : Rules) (kinds : List Kind) (top : ℕ) (wants : Wants) (c : Cursor) (t : Token) (p : ℕ) (d : Cursor) → Suits wants t
    → Tok (in_sexp (innermost kinds)) c t p d → TokenWithin limits t p d ⊎ Halts limits (state kinds top wants c)
token-or limits kinds top wants c t p d suits tok =
    elim (cases_lt limits.scalar (counts t p d.place)) [
      | inl over ↦ inr (halts-here limits (state kinds top wants c) ScalarLimit p (token-stops limits kinds top wants c t p d suits tok over))
      | inr le ↦ inl le
    ]

-- ---- annotations and fields

refused : (p : ℕ) (b : Bool) (reason : Reason) (o : Result (Step State) Reason) → b ≡ true → step_of (part p (refuse b reason >> o)) ≡ Stops reason p
refused p b reason o e = ap (λ b. step_of (part p (refuse b reason >> o))) e

annotations-or : (limits : Rules) (kinds : List Kind) (top : ℕ) (field : Option SymbolAt) (sexp : Bool) (c d : Cursor) (annotations : List SymbolAt) → in_sexp (innermost kinds) ≡ sexp
    → (ns : Annotations sexp c annotations d) → AnnotationsWithin limits ns ⊎ Halts limits (state kinds top (a_value field []) c)
unfolding take
annotations-or limits kinds top field sexp c _ _ is Annotations.nothing = inl (omega arith, tt)
annotations-or limits kinds top field sexp c f _ is (Annotations.then {annotations = annotations} {d = d} {e = e} {p = p} {q = q} {quoted = quoted} {symbol = symbol} before tok after) =
    or-then (annotations-or limits kinds top field sexp c d annotations is before) (λ w.
    let from : State = state kinds top (a_value field []) c in
    let here : State = state kinds top (a_value field annotations) d in
    let prefix : Reads limits from [] here = annotations-read limits kinds top field sexp c d annotations is before w in
    let all : List SymbolAt = annotations ++ at symbol p ∷ [] in
    let own : Tok (in_sexp (innermost kinds)) d (name quoted symbol) p e = subst (λ sexp. Tok sexp d (name quoted symbol) p e) (sym is) tok in
    or-then (or-later limits from here [] prefix (token-or limits kinds top (a_value field annotations) d (name quoted symbol) p e (value-suits field annotations (name quoted symbol)) own)) (λ fits.
    elim (cases_lt limits.scalar (sum_by cost all)) [
      | inl over ↦
          let next : State = state kinds top (a_value field all) f in
          let stops : step limits here ≡ Stops AnnotationLimit p =
          step-token limits kinds top (a_value field annotations) d (name quoted symbol) p e (value-suits field annotations (name quoted symbol)) fits own
          ∙ (ap (λ o. step_of (part p (reading.symbol_step limits kinds top field annotations quoted (at symbol p) e o)))
          (colons-stand (in_sexp (innermost kinds)) e f q (subst (λ sexp. Tok sexp e colons q f) (sym is) after))
          ∙ refused p (nat_lt limits.scalar (sum_by cost all)) AnnotationLimit (Ok (GoesOn next)) (lt-ltb limits.scalar (sum_by cost all) over))
          in
          inr (halts-later limits from here [] prefix (halts-here limits here AnnotationLimit p stops))
      | inr le ↦ inl (le, (w.1, fits))
    ]))

field-or : (limits : Rules) (kinds : List Kind) (top : ℕ) (k : Option Kind) (field : Option SymbolAt) (c d : Cursor) → innermost kinds ≡ k → (own : Field k c field d)
    → FieldWithin limits own ⊎ Halts limits (state kinds top (at_member k) c)
field-or limits kinds top _ _ c _ is Field.at_top = inl tt
field-or limits kinds top _ _ c _ is Field.in_list = inl tt
field-or limits kinds top _ _ c _ is Field.in_a_sexp = inl tt
field-or limits kinds top _ _ c e is (Field.named {d = d} {p = p} {quoted = quoted} {symbol = symbol} tok after) =
    token-or limits kinds top a_field c (name quoted symbol) p d (naming-suits (name quoted symbol) refl refl) (subst (λ k. Tok (in_sexp k) c (name quoted symbol) p d) (sym is) tok)
field-or limits kinds top _ _ c e is (Field.in_quotes {d = d} {p = p} {bytes = bytes} tok after) =
    token-or limits kinds top a_field c (text bytes) p d (naming-suits (text bytes) refl refl) (subst (λ k. Tok (in_sexp k) c (text bytes) p d) (sym is) tok)

-- ---- values and members

scalar-or : (limits : Rules) (kinds : List Kind) (top : ℕ) (field : Option SymbolAt) (annotations : List SymbolAt) (sexp : Bool) (c d e : Cursor) (p : ℕ) (t : Token)
    → in_sexp (innermost kinds) ≡ sexp → (ns : Annotations sexp c annotations d) → Tok sexp d t p e
    → (AnnotationsWithin limits ns × TokenWithin limits t p e) ⊎ Halts limits (state kinds top (a_value field []) c)
scalar-or limits kinds top field annotations sexp c d e p t is ns tok =
    or-then (annotations-or limits kinds top field sexp c d annotations is ns) (λ w.
    or-then (or-later limits (state kinds top (a_value field []) c) (state kinds top (a_value field annotations) d) [] (annotations-read limits kinds top field sexp c d annotations is ns w)
    (token-or limits kinds top (a_value field annotations) d t p e (value-suits field annotations t) (subst (λ sexp. Tok sexp d t p e) (sym is) tok))) (λ fits. inl (w, fits)))

module _ (limits : Rules) where
  -- a float is read, or the reading stops at it
  float-or : (kinds : List Kind) (top : ℕ) (field : Option SymbolAt) (annotations : List SymbolAt) (sexp : Bool) (c d e : Cursor) (p : ℕ) (x : Float)
      → in_sexp (innermost kinds) ≡ sexp → (ns : Annotations sexp c annotations d) → Tok sexp d (float (Some x)) p e
      → AnnotationsWithin limits ns × TokenWithin limits (float (Some x)) p e → (b : Bool) → limits.floats ≡ b
      → (AnnotationsWithin limits ns × (TokenWithin limits (float (Some x)) p e × (limits.floats ≡ true))) ⊎ Halts limits (state kinds top (a_value field []) c)
  unfolding take
  float-or kinds top field annotations sexp c d e p x is ns tok w true on = inl (w.0, (w.1, on))
  float-or kinds top field annotations sexp c d e p x is ns tok w false off =
      let here : State = state kinds top (a_value field annotations) d in
      let stops : step limits here ≡ Stops reasons.Float p =
      step-token limits kinds top (a_value field annotations) d (float (Some x)) p e (value-suits field annotations (float (Some x))) w.1 (subst (λ sexp. Tok sexp d (float (Some x)) p e) (sym is) tok)
      ∙ refused p (not limits.floats) reasons.Float (Ok (reading.scalar_step kinds top field annotations p (value.float x) e)) (ap not off)
      in
      inr (halts-later limits (state kinds top (a_value field []) c) here [] (annotations-read limits kinds top field sexp c d annotations is ns w.0) (halts-here limits here reasons.Float p stops))

  mutual
    unfolding take

    value-or : (kinds : List Kind) (top : ℕ) (field : Option SymbolAt) (k : Option Kind) (c e : Cursor) (annotations : List SymbolAt) (p : ℕ) (v : Value SymbolAt ℕ) → innermost kinds ≡ k
        → (txt : Txt k c annotations p v e) → TxtWithin limits (length kinds) txt ⊎ Halts limits (state kinds top (a_value field []) c)
    value-or kinds top field _ c e _ p _ is (Txt.of_plain {k = k} {d = d} {annotations = annotations} {v = v} ns tok) =
        scalar-or limits kinds top field annotations (in_sexp k) c d e p (plain v) (ap in_sexp is) ns tok
    value-or kinds top field _ c e _ p _ is (Txt.of_float {k = k} {d = d} {annotations = annotations} {x = x} ns tok) =
        or-then (scalar-or limits kinds top field annotations (in_sexp k) c d e p (float (Some x)) (ap in_sexp is) ns tok) (λ w.
        float-or kinds top field annotations (in_sexp k) c d e p x (ap in_sexp is) ns tok w limits.floats refl)
    value-or kinds top field _ c e _ p _ is (Txt.of_text {k = k} {d = d} {annotations = annotations} {bytes = bytes} ns tok) =
        scalar-or limits kinds top field annotations (in_sexp k) c d e p (text bytes) (ap in_sexp is) ns tok
    value-or kinds top field _ c e _ p _ is (Txt.of_operator {k = k} {d = d} {annotations = annotations} {bytes = bytes} ns tok) =
        scalar-or limits kinds top field annotations (in_sexp k) c d e p (operator bytes) (ap in_sexp is) ns tok
    value-or kinds top field _ c e _ p _ is (Txt.of_symbol {k = k} {d = d} {annotations = annotations} {quoted = quoted} {symbol = symbol} ns tok alone no_version) =
        scalar-or limits kinds top field annotations (in_sexp k) c d e p (name quoted symbol) (ap in_sexp is) ns tok
    value-or kinds top field _ c g _ p _ is (Txt.of_members {k = k} {d = d} {e = e} {f = f} {annotations = annotations} {q = q} {j = j} {members = members} {full = full} ns tok ins tok') =
        or-then (annotations-or limits kinds top field (in_sexp k) c d annotations (ap in_sexp is) ns) (λ w.
        let from : State = state kinds top (a_value field []) c in
        let here : State = state kinds top (a_value field annotations) d in
        let prefix : Reads limits from [] here = annotations-read limits kinds top field (in_sexp k) c d annotations (ap in_sexp is) ns w in
        let top' : ℕ = top_of kinds top annotations p in
        let within : State = state (j ∷ kinds) top' (member_of j) e in
        let item : PlacedItem = item_of top' field annotations p (value.begin j) in
        let token : step limits here ≡ step_of (take limits kinds top (a_value field annotations) p (begin j) e) =
        step-token limits kinds top (a_value field annotations) d (begin j) p e (value-suits field annotations (begin j)) (mark-within limits (begin j) p e refl)
        (subst (λ k. Tok (in_sexp k) d (begin j) p e) (sym is) tok)
        in
        elim (cases_lt (length kinds) limits.depth) [
          | inr deep ↦
              let stops : step limits here ≡ Stops DepthLimit p = token ∙ refused p (nat_le limits.depth (length kinds)) DepthLimit (Ok (Gives item within)) (le-leb limits.depth (length kinds) deep) in
              inr (halts-later limits from here [] prefix (halts-here limits here DepthLimit p stops))
          | inl room ↦
              let begun : step limits here ≡ Gives item within = token ∙ not-refused p (nat_le limits.depth (length kinds)) DepthLimit (Ok (Gives item within)) (lt-leb limits.depth (length kinds) room) in
              let first : Reads limits from (item ∷ []) within = prefix ∙ reads-gives limits here within item begun in
              or-then (or-later limits from within (item ∷ []) first (members-or kinds top' j e f members full ins)) (λ inside. inl (w, (room, inside)))
        ])

    members-or : (kinds : List Kind) (top : ℕ) (j : Kind) (c d : Cursor) (members : Members SymbolAt ℕ) (full : Bool) → (inside : Inside j c members full d)
        → InsideWithin limits (suc (length kinds)) inside ⊎ Halts limits (state (j ∷ kinds) top (member_of j) c)
    members-or kinds top j c _ _ _ Inside.nothing = inl tt
    members-or kinds top j c f _ _ (Inside.with_value {d = d} {e = e} {members = members} {field = field} {annotations = annotations} {p = p} {v = v} ins own txt) =
        or-then (members-or kinds top j c d members false ins) (λ before.
        let from : State = state (j ∷ kinds) top (member_of j) c in
        let here : State = state (j ∷ kinds) top (at_member (Some j)) d in
        let read : Reads limits from (value.member_items top members) here = members-read limits kinds top j c d members false ins before in
        or-then (or-later limits from here (value.member_items top members) read (field-or limits (j ∷ kinds) top (Some j) field d e refl own)) (λ named.
        let after_name : State = state (j ∷ kinds) top (a_value field []) e in
        let name_read : Reads limits here [] after_name = field-read limits (j ∷ kinds) top (Some j) field d e refl own named in
        or-then (or-later limits from here (value.member_items top members) read (or-later limits here after_name [] name_read (value-or (j ∷ kinds) top field (Some j) e f annotations p v refl txt)))
        (λ fits. inl (before, (named, fits)))))
    members-or kinds top j c e _ _ (Inside.with_comma {d = d} {members = members} ins tok) = members-or kinds top j c d members true ins

-- ---- the top level

tops-or : (limits : Rules) (bytes : List ℕ) (c : Cursor) (tops : List (Top SymbolAt ℕ)) → (t : Tops (start_of bytes) tops c) → TopsWithin limits t ⊎ Halts limits (start bytes)
tops-or limits bytes _ _ Tops.nothing = inl tt
tops-or limits bytes e _ (Tops.marker {tops = tops} {d = d} {p = p} before tok alone) =
    or-then (tops-or limits bytes d tops before) (λ w.
    let prefix = tops-read limits bytes d tops before w in
    let word : Token = name false (value.Text version_word) in
    or-then (or-later limits (start bytes) (state [] prefix.0 (a_value None []) d) (top_items tops) prefix.1
    (token-or limits [] prefix.0 (a_value None []) d word p e (value-suits None [] word) tok)) (λ fits. inl (w, fits)))
tops-or limits bytes e _ (Tops.with_value {tops = tops} {d = d} {annotations = annotations} {p = p} {v = v} before txt) =
    or-then (tops-or limits bytes d tops before) (λ w.
    let prefix = tops-read limits bytes d tops before w in
    or-then (or-later limits (start bytes) (state [] prefix.0 (a_value None []) d) (top_items tops) prefix.1 (value-or limits [] prefix.0 None None d e annotations p v refl txt))
    (λ fits. inl (w, fits)))

pub what_is_read_is_within : WhatIsReadIsWithin
what_is_read_is_within limits bytes tops is read =
    elim (tops-or limits bytes is.last tops is.spells) [
      | inl within ↦ within
      | inr h ↦
          let same : items_then (path_items (closed tops)) Finished ≡ items_then h.items (Stopped h.reason h.place) = sym read ∙ (reading-read_from limits bytes ∙ h.stops) in
          let ends : Finished ≡ Stopped h.reason h.place =
          sym (ending_of-items_then (path_items (closed tops)) Finished) ∙ (ap ending_of same ∙ ending_of-items_then h.items (Stopped h.reason h.place))
          in
          absurd (cc ends)
    ]
