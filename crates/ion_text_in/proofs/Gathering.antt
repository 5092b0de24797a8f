-- A text that is gathered: the pieces after what was read, and the calls that read them.
use Rattle.std.proofs.Common.{◌≡◌, ℕ, ◌+◌, ◌≤◌, Bool, true, false, List, ◌++◌, length, take, drop, Some, Result, Ok, Err, refl, sym, ap, subst, ◌∙◌, inl, inr, append_assoc, append-nil, arith}
use Rattle.std.proofs.lemmas.List.{length-append, length-take-le, take-append-drop}
use Rattle.std.proofs.lemmas.Bool.{cases_Bool, le-ltb}
use Rattle.std.proofs.lemmas.Str.{length-encode, len_utf8_bounds}
use Rattle.ion_meter.specs.declared.fault.Fault.{Fault}
use Rattle.ion_meter.specs.declared.fault.Fault.TheVariants.{Refused, Memory, ReadFault, WriteFault, InputLimit}
use Rattle.ion_meter.specs.declared.fault.Reason.{Reason}
use Rattle.ion_meter.specs.declared.fault.Reason.TheVariants.{ScalarLimit}
use Rattle.ion_meter.specs.Sources.{Cursor, skip}
use Rattle.ion_meter.specs.Windows.{Incoming, left, lent}
use Rattle.ion_meter.proofs.Lent.{lent-take}
use Rattle.ion_value.proofs.Passing.{lent-there}
use Rattle.ion_value.specs.Digits.{all_are}
use Rattle.ion_value.specs.Parts.{refuse, ◌>>◌}
use Rattle.ion_text_in.specs.declared.piece.Piece.{Piece as CodePiece}
use Rattle.ion_text_in.specs.declared.piece.Piece.TheVariants as code
use Rattle.ion_text_in.specs.Limit.{passes}
use Rattle.ion_text_in.specs.Meaning.{at}
use Rattle.ion_text_in.specs.Quoted.{Quote, Piece, piece_at, with_piece}
use Rattle.ion_text_in.specs.Scanning.{Spelled, IsQuote, pieces, is_plain_byte, with_front}
use Rattle.ion_text_in.specs.declared.quoted.Quote.{Quote as CodeQuote}
use Rattle.ion_text_in.specs.Quotes.{quote_of}
use Rattle.ion_text_in.proofs.Quotes.{quote_of-is}
use Rattle.ion_text_in.specs.declared.piece.Meant.{Meant}
use Rattle.ion_text_in.specs.declared.piece.Meant.TheVariants as meant
use Rattle.ion_text_in.specs.Pieces.{piece_of, bytes_of, after_piece, taken_of}
use Rattle.ion_text_in.specs.Gathered.{Continues, PutsOn, onward}
use Rattle.ion_text_in.proofs.Fuel.{pieces-first}
use Rattle.ion_text_in.proofs.Plain.{plain-spelled}

pub front-front : (text xs : List ℕ) (o : Spelled) → with_front text (with_front xs o) ≡ with_front (text ++ xs) o
front-front text xs (Ok x) = ap (λ (l : List ℕ). Ok (l, x.1)) (sym (append_assoc text xs x.0))
front-front text xs (Err reason) = refl

-- more was read, and the rest is spelled after it
pub onward-more : (q : Quote) (limit : ℕ) (text xs : List ℕ) (c : Cursor)
    → with_front text (with_front xs (pieces q (Some limit) (length text + length xs) c)) ≡ onward q limit (text ++ xs) c
onward-more q limit text xs c =
    front-front text xs (pieces q (Some limit) (length text + length xs) c)
    ∙ ap (λ (n : ℕ). with_front (text ++ xs) (pieces q (Some limit) n c)) (sym (length-append text xs))

-- ---- runs

split : (c : Cursor) (n : ℕ) → c ≡ at c.place (take n c.rest ++ drop n c.rest)
split c n = ap (λ (l : List ℕ). at c.place l) (sym (take-append-drop n c.rest))

-- so many plain bytes
pub onward-plain : (q : Quote) (limit : ℕ) (text : List ℕ) (c : Cursor) (n : ℕ) → IsQuote q → n ≤ length c.rest → all_are (is_plain_byte q) (take n c.rest) ≡ true → length text ≤ limit
    → onward q limit text c ≡ (refuse (passes (Some limit) (length text + length (take n c.rest))) ScalarLimit >> onward q limit (text ++ take n c.rest) (skip n c))
onward-plain q limit text c n is there plain within =
    let spelled = plain-spelled q (Some limit) (length text) c.place (take n c.rest) (drop n c.rest) is plain in
    ap (λ (d : Cursor). onward q limit text d) (split c n)
    ∙ elim (cases_Bool (passes (Some limit) (length text + length (take n c.rest)))) [
      | inl over ↦ rw over (ap (λ (o : Spelled). with_front text o) (spelled.over (le-ltb limit (length text) within) over))
      | inr free ↦ rw free (ap (λ (o : Spelled). with_front text o) (spelled.within free)
          ∙ onward-more q limit text (take n c.rest) (at (c.place + length (take n c.rest)) (drop n c.rest))
          ∙ ap (λ (k : ℕ). onward q limit (text ++ take n c.rest) (at (c.place + k) (drop n c.rest))) (length-take-le n c.rest there))
    ]

-- that a window lends
pub plain-lent : {I : Type 0} (rest : I → List ℕ) (q : CodeQuote) (limit : ℕ) (text : List ℕ) (s : Incoming I) (bytes : List ℕ) (n : ℕ) → length text ≤ limit → bytes ≡ lent s → n ≤ length bytes
    → all_are (is_plain_byte (quote_of q)) (take n bytes) ≡ true
    → onward (quote_of q) limit text (at s.place (left rest s))
    ≡ (refuse (passes (Some limit) (length text + length (take n bytes))) ScalarLimit >> onward (quote_of q) limit (text ++ take n bytes) (skip n (at s.place (left rest s))))
plain-lent rest q limit text s bytes n within is there plain =
    let lies : n ≤ length (lent s) = subst (λ (l : List ℕ). n ≤ length l) is there in
    let same : take n (left rest s) ≡ take n bytes = lent-take rest s n lies ∙ ap (λ (l : List ℕ). take n l) (sym is) in
    subst (λ (l : List ℕ). onward (quote_of q) limit text (at s.place (left rest s))
    ≡ (refuse (passes (Some limit) (length text + length l)) ScalarLimit >> onward (quote_of q) limit (text ++ l) (skip n (at s.place (left rest s))))) same
    (onward-plain (quote_of q) limit text (at s.place (left rest s)) n (quote_of-is q) (lent-there rest s n lies) (subst (λ (l : List ℕ). all_are (is_plain_byte (quote_of q)) l ≡ true) (sym same) plain) within)

-- ---- pieces

-- what is read from a piece on, by the piece
pub onward-piece : (q : Quote) (limit : ℕ) (text : List ℕ) (c : Cursor) (piece : CodePiece) → IsQuote q → piece_of piece ≡ piece_at q c.rest
    → onward q limit text c ≡ after_piece q limit text (skip (taken_of piece) c) piece
onward-piece q limit text c piece is e =
    ap (λ (o : Spelled). with_front text o)
    (pieces-first q (Some limit) (length text) c is
    ∙ ap (λ (p : Piece). with_piece (λ n d. pieces q (Some limit) n d) q (Some limit) (length text) c p) (sym e)) ∙ by piece
  where
    over : (more : Bool) (xs : List ℕ) (d : Cursor)
        → with_front text (refuse more ScalarLimit >> with_front xs (pieces q (Some limit) (length text + length xs) d)) ≡ (refuse more ScalarLimit >> onward q limit (text ++ xs) d)
    over true xs d = refl
    over false xs d = onward-more q limit text xs d

    by : (piece : CodePiece) → with_front text (with_piece (λ n d. pieces q (Some limit) n d) q (Some limit) (length text) c (piece_of piece)) ≡ after_piece q limit text (skip (taken_of piece) c) piece
    by (code.Text m taken) = over (passes (Some limit) (length text + length (bytes_of m))) (bytes_of m) (skip taken c)
    by (code.Close taken) = ap (λ (l : List ℕ). Ok (l, skip taken c)) (append-nil text)
    by code.Illegal = refl
    by code.Cut = refl

pub meant-few : (m : Meant) → length (bytes_of m) ≤ 4
meant-few (meant.Char c) = let bounds = len_utf8_bounds c in omega (arith, length-encode c, bounds.1)
meant-few (meant.Byte b) = omega arith
meant-few meant.Nothing = omega arith

-- ---- what is answered

-- the fault of a part is the whole's
pub continues-err : {T U A B : Type 0} {one : Result A Reason} {all : Result B Reason} (next : T → Result A Reason) (after : U → Result B Reason) (f : Fault) (place : ℕ) → ((e : Reason) → one ≡ Err e → all ≡ Err e)
    → Continues (Err f) place one next → Continues (Err f) place all after
continues-err next after (Refused reason p) place refused h = (refused reason h.0, h.1)
continues-err next after Memory place refused h = tt
continues-err next after ReadFault place refused h = tt
continues-err next after WriteFault place refused h = tt
continues-err next after InputLimit place refused h = tt

-- bytes are put after a text, or the limit is passed
pub continues-puts : {T A : Type 0} (r : Result T Fault) (old new bytes : List ℕ) (limit place : ℕ) (on : List ℕ → Result A Reason) → PutsOn old new bytes limit place r
    → Continues r place (refuse (passes (Some limit) (length old + length bytes)) ScalarLimit >> on (old ++ bytes)) (λ _. on new)
continues-puts (Ok x) old new bytes limit place on h = rw (h.1, h.0) refl
continues-puts (Err (Refused reason at)) old new bytes limit place on h = (rw (h.0, h.1) refl, h.2)
continues-puts (Err Memory) old new bytes limit place on h = tt
continues-puts (Err ReadFault) old new bytes limit place on h = tt
continues-puts (Err WriteFault) old new bytes limit place on h = tt
continues-puts (Err InputLimit) old new bytes limit place on h = tt
