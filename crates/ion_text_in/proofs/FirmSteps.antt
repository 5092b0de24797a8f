-- A step of a reading in a line is the same whatever follows the line.
use Rattle.std.proofs.Common.{◌≡◌, ℕ, ◌+◌, ◌<◌, Bool, true, false, not, List, [], ◌∷◌, ◌++◌, length, is_some, nat_le, nat_lt, sum_by, inr, Option, Some, None, Result, Ok, Err, refl, sym, ap, subst, ◌∙◌, arith}
use lib.Ieee.{Float}
use Rattle.ion_meter.specs.declared.fault.Reason.{Reason}
use Rattle.ion_meter.specs.declared.fault.Reason.TheVariants as reason
use Rattle.ion_meter.specs.declared.profile.Rules.{Rules}
use Rattle.ion_meter.specs.Sources.{Cursor, skip}
use Rattle.ion_value.specs.declared.ion_type.Kind.{Kind}
use Rattle.ion_value.specs.Parts.{Placed, part, refuse, ◌>>=◌, ◌>>◌}
use Rattle.ion_value.specs.Reading.{Step, Ends, Stops, Gives, GoesOn}
use Rattle.ion_value.specs.Value as value
use Rattle.ion_value.specs.Value.{Symbol, SymbolAt, PlacedItem}
use Rattle.ion_text_in.specs.Blanks.{blanks}
use Rattle.ion_text_in.specs.Firm.{head_goes_on}
use Rattle.ion_text_in.specs.Meaning as cursors
use Rattle.ion_text_in.specs.Positions.{at, Wants, a_value, a_field, a_separator, State, innermost, in_sexp}
use Rattle.ion_text_in.specs.Quoted.{long_quote, next_segment, text_at}
use Rattle.ion_text_in.specs.Reading as reading
use Rattle.ion_text_in.specs.Reading.{cost, may_come, colons_at, colons_after, after_colons, tells_version, take, part_at, step, step_of}
use Rattle.ion_text_in.specs.Token.{First, a_long, a_colon, two_colons, first_at, Token, plain, float, name, text, operator, begin, end, comma, token_of}
use Rattle.ion_text_in.proofs.FirmTexts.{StaysIf, Stays, NoNext, next-none}
use Rattle.ion_text_in.proofs.FirmTokens.{Room, first-room, first_at-same, token-stays}
use Rattle.ion_text_in.proofs.Lines.{Line, Lines, Leads, line-some, lines-line, leads-self, leads-then, leads-skip, followed, skip-followed, bare-tail, blanks-firm, blanks-stop}
use Rattle.ion_text_in.proofs.Shrinking.{NoBlank, blanks-within}

pub nothing-some : {A : Type 0} (o : Option A) → is_some o ≡ false → o ≡ None
nothing-some (Some x) e = absurd (cc e)
nothing-some None e = refl

module _ (z : List ℕ) where
  -- a state with more bytes
  abbrev pub grown : State → State
  grown s = record { kinds = s.kinds; top = s.top; wants = s.wants; cursor = followed z s.cursor }

  -- an item does not go on: after it blanks end, and where no byte is left then, nothing is open, and it goes on with nothing that stands after the line
  pub record Quiet (item : PlacedItem) (after : State) : Type 0 where
    pub last : Cursor
    pub blank : blanks after.cursor ≡ Ok last
    pub alone : last.rest ≡ [] → (after.kinds ≡ []) × (head_goes_on item.head (cursors.at last.place z) ≡ false)

  -- a step by a token, and the step with more bytes after the line
  abbrev pub StepStays : Cursor → Step State → Step State → Type 0
  StepStays c Ends w = ⊥
  StepStays c (Stops why place) w = Unit {0}
  StepStays c (Gives item after) w = (Quiet item after → w ≡ Gives item (grown after)) × Leads c after.cursor
  StepStays c (GoesOn after) w = (w ≡ GoesOn (grown after)) × Leads c after.cursor

  abbrev PartStays : Cursor → Placed (Step State) → Placed (Step State) → Type 0
  PartStays c o w = StepStays c (step_of o) (step_of w)

  step-from : (c d : Cursor) (o w : Step State) → Leads c d → StepStays d o w → StepStays c o w
  step-from c d Ends w leads s = s
  step-from c d (Stops why place) w leads s = tt
  step-from c d (Gives item after) w leads s = (s.0, leads-then c d after.cursor leads s.1)
  step-from c d (GoesOn after) w leads s = (s.0, leads-then c d after.cursor leads s.1)

  refused-stays : (c : Cursor) (p : ℕ) (b : Bool) (why : Reason) (o w : Step State) → StepStays c o w → PartStays c (part p (refuse b why >> Ok o)) (part p (refuse b why >> Ok w))
  refused-stays c p true why o w s = tt
  refused-stays c p false why o w s = s

  -- ---- brackets, and floats

  end-stays : (kinds : List Kind) (top : ℕ) (k : Kind) (p : ℕ) (d : Cursor) → Line d.rest
      → PartStays d (part p (reading.end_step kinds top k p d)) (part p (reading.end_step kinds top k p (followed z d)))
  end-stays [] top k p d l = tt
  end-stays (j ∷ kinds) top k p d l = refused-stays d p (not (reading.is_same j k)) reason.BadToken _ _ (λ _. refl, leads-self d l)

  bare-stays : (field : Option SymbolAt) (annotations : List SymbolAt) (kinds : List Kind) (top : ℕ) (k : Kind) (p : ℕ) (d : Cursor) → Line d.rest
      → PartStays d (part p (reading.bare_end_step field annotations kinds top k p d)) (part p (reading.bare_end_step field annotations kinds top k p (followed z d)))
  bare-stays None [] kinds top k p d l = end-stays kinds top k p d l
  bare-stays field annotations kinds top k p d l = tt

  float-stays : (limits : Rules) (kinds : List Kind) (top : ℕ) (field : Option SymbolAt) (annotations : List SymbolAt) (p : ℕ) (number : Option Float) (d : Cursor) → Line d.rest
      → PartStays d (part p (reading.float_step limits kinds top field annotations p number d)) (part p (reading.float_step limits kinds top field annotations p number (followed z d)))
  float-stays limits kinds top field annotations p number d l = by (not limits.floats) number
    where
      by : (b : Bool) (number : Option Float)
          → PartStays d (part p (refuse b reason.Float >> (reading.in_range number >>= (λ x. Ok (reading.scalar_step kinds top field annotations p (value.float x) d)))))
          (part p (refuse b reason.Float >> (reading.in_range number >>= (λ x. Ok (reading.scalar_step kinds top field annotations p (value.float x) (followed z d))))))
      by true number = tt
      by false None = tt
      by false (Some x) = (λ _. refl, leads-self d l)

  -- ---- what begins after blanks

  line-at : (d e : Cursor) (b : ℕ) (bytes : List ℕ) → Line d.rest → blanks d ≡ Ok e → e.rest ≡ b ∷ bytes → Line (b ∷ bytes)
  line-at d e b bytes l is there = lines-line b bytes (subst Lines there (blanks-firm z d e (inr l) is).1)

  tail-at : (d e : Cursor) (b : ℕ) (bytes : List ℕ) → Line d.rest → blanks d ≡ Ok e → e.rest ≡ b ∷ bytes → Line bytes
  tail-at d e b bytes l is there = bare-tail z b bytes (line-at d e b bytes l is there) (subst NoBlank there (blanks-within d e is).1)

  stop-at : (d e : Cursor) (b : ℕ) (bytes : List ℕ) → Line d.rest → blanks d ≡ Ok e → e.rest ≡ b ∷ bytes → (blanks (followed z d) ≡ Ok (followed z e)) × Leads d e
  stop-at d e b bytes l is there =
      let line : Line e.rest = subst Line (sym there) (line-at d e b bytes l is there) in
      (blanks-stop z d e (inr l) is line, record { line = line; total = (blanks-firm z d e (inr l) is).2 })

  -- a colon after a field's name
  named-stays : (kinds : List Kind) (top : ℕ) (a : SymbolAt) (d : Cursor) → Line d.rest → PartStays d (reading.field_step kinds top a d) (reading.field_step kinds top a (followed z d))
  named-stays kinds top a d l = by (blanks d) refl
    where
      colon-by : (e : Cursor) (first : First) → Leads d e → 1 < length e.rest → PartStays d (reading.colon_of kinds top a e first) (reading.colon_of kinds top a (followed z e) first)
      colon-by e a_colon leads less =
          (ap (λ (c : Cursor). reading.onward_step kinds top (a_value (Some a) []) c) (skip-followed z 1 e (omega (arith, less))), leads-then d e (skip 1 e) leads (leads-skip 1 e leads.line less))
      colon-by e first leads less = tt

      from : (e : Cursor) → blanks d ≡ Ok e → (rest : List ℕ) → e.rest ≡ rest → PartStays d (reading.colon_from kinds top a e rest) (reading.field_step kinds top a (followed z d))
      from e is [] there = tt
      from e is (b ∷ bytes) there =
          let on = stop-at d e b bytes l is there in
          let tail : Line bytes = tail-at d e b bytes l is there in
          let long : reading.field_step kinds top a (followed z d) ≡ reading.colon_of kinds top a (followed z e) (first_at false (b ∷ bytes)) =
          ap (λ (o : Placed Cursor). o >>= (λ e. reading.colon_from kinds top a e e.rest)) on.0
          ∙ ap (λ (rest : List ℕ). reading.colon_from kinds top a (followed z e) (rest ++ z)) there
          ∙ ap (reading.colon_of kinds top a (followed z e)) (first_at-same z false b bytes tail) in
          subst (λ (w : Placed (Step State)). PartStays d (reading.colon_of kinds top a e (first_at false (b ∷ bytes))) w) (sym long)
          (colon-by e (first_at false (b ∷ bytes)) on.1 (omega (arith, ap length there, line-some bytes tail)))

      by : (o : Placed Cursor) → blanks d ≡ o → PartStays d (o >>= (λ e. reading.colon_from kinds top a e e.rest)) (reading.field_step kinds top a (followed z d))
      by (Err fault) is = tt
      by (Ok e) is = from e is e.rest refl

  -- ---- two colons

  colons-by : (d e : Cursor) (first : First) → Line d.rest → Room first d.rest → colons_at first d ≡ Some e → (colons_at first (followed z d) ≡ Some (followed z e)) × Leads d e
  colons-by d e two_colons l room is =
      let same : skip 2 d ≡ e = cc is in
      (ap Some (skip-followed z 2 d (omega (arith, room)) ∙ ap (followed z) same), subst (λ (e : Cursor). Leads d e) same (leads-skip 2 d l room))
  colons-by d e first l room is = absurd (cc is)

  none-by : (first : First) (d : Cursor) → colons_at first d ≡ None → colons_at first (followed z d) ≡ None
  none-by two_colons d is = absurd (cc is)
  none-by first d is = refl

  colons-long : (sexp : Bool) (d e : Cursor) (b : ℕ) (bytes : List ℕ) → Line d.rest → blanks d ≡ Ok e → e.rest ≡ b ∷ bytes
      → after_colons sexp (followed z d) ≡ colons_at (first_at sexp (b ∷ bytes)) (followed z e)
  colons-long sexp d e b bytes l is there =
      ap (colons_after sexp) (stop-at d e b bytes l is there).0 ∙ ap (λ (rest : List ℕ). colons_at (first_at sexp (rest ++ z)) (followed z e)) there
      ∙ ap (λ (first : First). colons_at first (followed z e)) (first_at-same z sexp b bytes (tail-at d e b bytes l is there))

  colons-some : (sexp : Bool) (d e : Cursor) → Line d.rest → after_colons sexp d ≡ Some e → (after_colons sexp (followed z d) ≡ Some (followed z e)) × Leads d e
  unfolding first_at
  colons-some sexp d e l is = by (blanks d) refl is
    where
      from : (k : Cursor) → blanks d ≡ Ok k → (rest : List ℕ) → k.rest ≡ rest → colons_at (first_at sexp rest) k ≡ Some e
          → (after_colons sexp (followed z d) ≡ Some (followed z e)) × Leads d e
      from k at_k [] there is = absurd (cc is)
      from k at_k (b ∷ bytes) there is =
          let on = stop-at d k b bytes l at_k there in
          let room : Room (first_at sexp (b ∷ bytes)) k.rest = subst (λ (rest : List ℕ). Room (first_at sexp (b ∷ bytes)) rest) (sym there) (first-room sexp b bytes (tail-at d k b bytes l at_k there)) in
          let colons = colons-by k e (first_at sexp (b ∷ bytes)) on.1.line room is in
          (colons-long sexp d k b bytes l at_k there ∙ colons.0, leads-then d k e on.1 colons.1)

      by : (o : Placed Cursor) → blanks d ≡ o → colons_after sexp o ≡ Some e → (after_colons sexp (followed z d) ≡ Some (followed z e)) × Leads d e
      by (Ok k) at_k is = from k at_k k.rest refl is
      by (Err fault) at_k is = absurd (cc is)

  -- no colons follow where an item does not go on
  colons-none : (kinds : List Kind) (d e : Cursor) → Line d.rest → blanks d ≡ Ok e → (e.rest ≡ [] → (kinds ≡ []) × (is_some (after_colons false (cursors.at e.place z)) ≡ false))
      → after_colons (in_sexp (innermost kinds)) d ≡ None → after_colons (in_sexp (innermost kinds)) (followed z d) ≡ None
  colons-none kinds d e l at_e alone none = by e.rest refl
    where
      firm : (blanks (followed z d) ≡ blanks (followed z e)) × Lines e.rest × (d.place + length d.rest ≡ e.place + length e.rest)
      firm = blanks-firm z d e (inr l) at_e

      by : (rest : List ℕ) → e.rest ≡ rest → after_colons (in_sexp (innermost kinds)) (followed z d) ≡ None
      by [] there =
          let so = alone there in
          ap (colons_after (in_sexp (innermost kinds))) (firm.0 ∙ ap (λ (rest : List ℕ). blanks (cursors.at e.place (rest ++ z))) there)
          ∙ ap (λ (kinds : List Kind). after_colons (in_sexp (innermost kinds)) (cursors.at e.place z)) so.0
          ∙ nothing-some (after_colons false (cursors.at e.place z)) so.1
      by (b ∷ bytes) there =
          colons-long (in_sexp (innermost kinds)) d e b bytes l at_e there
          ∙ none-by (first_at (in_sexp (innermost kinds)) (b ∷ bytes)) e
          (sym (ap (λ (rest : List ℕ). colons_at (first_at (in_sexp (innermost kinds)) rest) e) there) ∙ sym (ap (colons_after (in_sexp (innermost kinds))) at_e) ∙ none)

  -- ---- symbols

  module _ (limits : Rules) (kinds : List Kind) (top : ℕ) where
    abbrev sexp : Bool
    sexp = in_sexp (innermost kinds)

    module _ (field : Option SymbolAt) (annotations : List SymbolAt) (quoted : Bool) (symbol : Symbol) (p : ℕ) (d : Cursor) (l : Line d.rest) where
      abbrev long : Placed (Step State)
      long = part p (reading.symbol_step limits kinds top field annotations quoted (at symbol p) (followed z d) (after_colons sexp (followed z d)))

      -- with no colons after it
      long-none : (told : Bool) → tells_version (innermost kinds) annotations quoted symbol ≡ told → after_colons sexp (followed z d) ≡ None
          → step_of long ≡ step_of (part p (reading.value_or_version kinds top field annotations (at symbol p) (followed z d) told))
      long-none told is none =
          ap (λ (o : Option Cursor). step_of (part p (reading.symbol_step limits kinds top field annotations quoted (at symbol p) (followed z d) o))) none
          ∙ ap (λ (told : Bool). step_of (part p (reading.value_or_version kinds top field annotations (at symbol p) (followed z d) told))) is

      marker-stays : (other : Bool) → not (reading.is_marker symbol) ≡ other → tells_version (innermost kinds) annotations quoted symbol ≡ true → after_colons sexp d ≡ None
          → PartStays d (part p (refuse other reason.BadVersion >> Ok (reading.item_step kinds top field annotations p value.marker kinds (reading.after_member (innermost kinds)) d))) long
      marker-stays true e is none = tt
      marker-stays false e is none = (
        λ quiet. long-none true is (colons-none kinds d quiet.last l quiet.blank quiet.alone none)
            ∙ ap (λ (other : Bool). step_of (part p (refuse other reason.BadVersion >> Ok (reading.item_step kinds top field annotations p value.marker kinds (reading.after_member (innermost kinds)) (followed z d))))) e,
        leads-self d l,
      )

      told-stays : (told : Bool) → tells_version (innermost kinds) annotations quoted symbol ≡ told → after_colons sexp d ≡ None
          → PartStays d (part p (reading.value_or_version kinds top field annotations (at symbol p) d told)) long
      told-stays true is none = marker-stays (not (reading.is_marker symbol)) refl is none
      told-stays false is none = (λ quiet. long-none false is (colons-none kinds d quiet.last l quiet.blank quiet.alone none), leads-self d l)

      symbol-stays : (o : Option Cursor) → after_colons sexp d ≡ o → PartStays d (part p (reading.symbol_step limits kinds top field annotations quoted (at symbol p) d o)) long
      symbol-stays None none = told-stays (tells_version (innermost kinds) annotations quoted symbol) refl none
      symbol-stays (Some e) there =
          let on = colons-some sexp d e l there in
          subst (λ (o : Option Cursor). PartStays d (part p (reading.with_annotation limits kinds top field annotations (at symbol p) e))
          (part p (reading.symbol_step limits kinds top field annotations quoted (at symbol p) (followed z d) o)))
          (sym on.0)
          (refused-stays d p (nat_lt limits.scalar (sum_by cost (annotations ++ at symbol p ∷ []))) reason.AnnotationLimit _ _ (refl, on.1))

    -- ---- a token that was read

    take-stays : (wants : Wants) (p : ℕ) (t : Token) (d : Cursor) → Line d.rest → PartStays d (take limits kinds top wants p t d) (take limits kinds top wants p t (followed z d))
    unfolding take
    take-stays a_separator p (end k) d l = end-stays kinds top k p d l
    take-stays a_separator p comma d l = (refl, leads-self d l)
    take-stays a_field p (end k) d l = end-stays kinds top k p d l
    take-stays a_field p (name quoted symbol) d l = named-stays kinds top (at symbol p) d l
    take-stays a_field p (text t) d l = named-stays kinds top (at (value.Text t) p) d l
    take-stays (a_value field annotations) p (end k) d l = bare-stays field annotations kinds top k p d l
    take-stays (a_value field annotations) p (plain v) d l = (λ _. refl, leads-self d l)
    take-stays (a_value field annotations) p (float number) d l = float-stays limits kinds top field annotations p number d l
    take-stays (a_value field annotations) p (text t) d l = (λ _. refl, leads-self d l)
    take-stays (a_value field annotations) p (operator t) d l = (λ _. refl, leads-self d l)
    take-stays (a_value field annotations) p (name quoted symbol) d l = symbol-stays field annotations quoted symbol p d l (after_colons sexp d) refl
    take-stays (a_value field annotations) p (begin k) d l = refused-stays d p (nat_le limits.depth (length kinds)) reason.DepthLimit _ _ (λ _. refl, leads-self d l)
    take-stays wants p t d l = tt

    abbrev taken : Wants → ℕ → Result (Token × Cursor) Reason → Placed (Step State)
    taken wants p o = part p o >>= (λ t. take limits kinds top wants p t.0 t.1)

    -- a token that nothing after the line changes
    known-stays : (wants : Wants) (p : ℕ) (c : Cursor) (o w : Result (Token × Cursor) Reason) → Stays z {A = Token} c o w → PartStays c (taken wants p o) (taken wants p w)
    known-stays wants p c (Ok x) w s =
        subst (λ (w : Result (Token × Cursor) Reason). PartStays c (take limits kinds top wants p x.0 x.1) (taken wants p w)) (sym (s.0 tt))
        (step-from c x.1 (step_of (take limits kinds top wants p x.0 x.1)) (step_of (take limits kinds top wants p x.0 (followed z x.1))) s.1 (take-stays wants p x.0 x.1 s.1.line))
    known-stays wants p c (Err why) w s = tt

    -- a field's name
    field-stays : (p : ℕ) (c d : Cursor) (a : SymbolAt) (w : Placed (Step State)) → Leads c d → (NoNext z (long_quote false) d → w ≡ reading.field_step kinds top a (followed z d))
        → PartStays c (reading.field_step kinds top a d) w
    field-stays p c d a w leads given = by (blanks d) refl
      where
        from : (e : Cursor) → blanks d ≡ Ok e → (rest : List ℕ) → e.rest ≡ rest → PartStays c (reading.colon_from kinds top a e rest) w
        from e is [] there = tt
        from e is (b ∷ bytes) there =
            let short : reading.field_step kinds top a d ≡ reading.colon_from kinds top a e (b ∷ bytes) =
            ap (λ (o : Placed Cursor). o >>= (λ e. reading.colon_from kinds top a e e.rest)) is ∙ ap (reading.colon_from kinds top a e) there in
            subst (λ (o : Placed (Step State)). PartStays c o w) short
            (subst (λ (w : Placed (Step State)). PartStays c (reading.field_step kinds top a d) w) (sym (given (next-none z d e leads.line is (λ none. absurd (cc (sym there ∙ none))))))
            (step-from c d (step_of (reading.field_step kinds top a d)) (step_of (reading.field_step kinds top a (followed z d))) leads (named-stays kinds top a d leads.line)))

        by : (o : Placed Cursor) → blanks d ≡ o → PartStays c (o >>= (λ e. reading.colon_from kinds top a e e.rest)) w
        by (Err fault) is = tt
        by (Ok e) is = from e is e.rest refl

    -- a long string, to which a segment after the line may be added
    text-stays : (wants : Wants) (p : ℕ) (c d : Cursor) (t : List ℕ) (w : Result (Token × Cursor) Reason) → Leads c d → (NoNext z (long_quote false) d → w ≡ Ok (text t, followed z d))
        → PartStays c (take limits kinds top wants p (text t) d) (taken wants p w)
    unfolding take
    text-stays a_separator p c d t w leads given = tt
    text-stays a_field p c d t w leads given = field-stays p c d (at (value.Text t) p) (taken a_field p w) leads (λ none. ap (taken a_field p) (given none))
    text-stays (a_value field annotations) p c d t w leads given = (
      λ quiet.
          let none = next-none z d quiet.last leads.line quiet.blank (λ none. nothing-some (next_segment (long_quote false) (cursors.at quiet.last.place z)) (quiet.alone none).1) in
          ap (λ (w : Result (Token × Cursor) Reason). step_of (taken (a_value field annotations) p w)) (given none),
      leads,
    )

    long-stays : (wants : Wants) (p : ℕ) (c : Cursor) (o : Result (List ℕ × Cursor) Reason) (w : Result (Token × Cursor) Reason)
        → StaysIf z {A = Token} (NoNext z (long_quote false)) c (o >>= (λ t. Ok (text t.0, t.1))) w → PartStays c (taken wants p (o >>= (λ t. Ok (text t.0, t.1)))) (taken wants p w)
    long-stays wants p c (Ok t) w s = text-stays wants p c t.1 t.0 w s.1 s.0
    long-stays wants p c (Err why) w s = tt

    first-stays : (wants : Wants) (first : First) (p b : ℕ) (bytes : List ℕ) → Line bytes → Room first (b ∷ bytes)
        → PartStays (cursors.at p (b ∷ bytes)) (taken wants p (token_of (Some limits.scalar) first (cursors.at p (b ∷ bytes)))) (taken wants p (token_of (Some limits.scalar) first (cursors.at p (b ∷ (bytes ++ z)))))
    unfolding token_of
    first-stays wants a_long p b bytes l room =
        long-stays wants p (cursors.at p (b ∷ bytes)) (text_at (long_quote false) (Some limits.scalar) (skip 3 (cursors.at p (b ∷ bytes)))) (token_of (Some limits.scalar) a_long (cursors.at p (b ∷ (bytes ++ z))))
        (token-stays z (Some limits.scalar) a_long p b bytes l room)
    first-stays wants first p b bytes l room =
        known-stays wants p (cursors.at p (b ∷ bytes)) (token_of (Some limits.scalar) first (cursors.at p (b ∷ bytes))) (token_of (Some limits.scalar) first (cursors.at p (b ∷ (bytes ++ z))))
        (token-stays z (Some limits.scalar) first p b bytes l room)

  -- ---- a step

  part-stays : (limits : Rules) (s : State) (first : First) (may : Bool) (p b : ℕ) (bytes : List ℕ) → Line bytes → Room first (b ∷ bytes)
      → PartStays (cursors.at p (b ∷ bytes)) (reading.next_part limits s (cursors.at p (b ∷ bytes)) first may) (reading.next_part limits (grown s) (cursors.at p (b ∷ (bytes ++ z))) first may)
  part-stays limits s first false p b bytes l room = tt
  part-stays limits s first true p b bytes l room = first-stays limits s.kinds s.top s.wants first p b bytes l room

  pub step-stays : (limits : Rules) (s : State) (c : Cursor) (b : ℕ) (bytes : List ℕ) → Line s.cursor.rest → blanks s.cursor ≡ Ok c → c.rest ≡ b ∷ bytes
      → StepStays s.cursor (step limits s) (step limits (grown s))
  unfolding step part_at
  step-stays limits s c b bytes l is there =
      let on = stop-at s.cursor c b bytes l is there in
      let tail : Line bytes = tail-at s.cursor c b bytes l is there in
      let short : part_at limits s ≡ reading.part_from limits s c (first_at (in_sexp (innermost s.kinds)) (b ∷ bytes)) =
      ap (λ (o : Placed Cursor). o >>= (λ c. reading.part_after limits s c c.rest)) is ∙ ap (reading.part_after limits s c) there in
      let long : part_at limits (grown s) ≡ reading.part_from limits (grown s) (followed z c) (first_at (in_sexp (innermost s.kinds)) (b ∷ bytes)) =
      ap (λ (o : Placed Cursor). o >>= (λ c. reading.part_after limits (grown s) c c.rest)) on.0
      ∙ ap (λ (rest : List ℕ). reading.part_after limits (grown s) (followed z c) (rest ++ z)) there
      ∙ ap (reading.part_from limits (grown s) (followed z c)) (first_at-same z (in_sexp (innermost s.kinds)) b bytes tail) in
      subst (λ (o : Placed (Step State)). PartStays s.cursor o (part_at limits (grown s))) (sym short)
      (subst (λ (w : Placed (Step State)). PartStays s.cursor (reading.part_from limits s c (first_at (in_sexp (innermost s.kinds)) (b ∷ bytes))) w) (sym long)
      (step-from s.cursor c (step_of (reading.part_from limits s c (first_at (in_sexp (innermost s.kinds)) (b ∷ bytes))))
      (step_of (reading.part_from limits (grown s) (followed z c) (first_at (in_sexp (innermost s.kinds)) (b ∷ bytes)))) on.1
      (subst (λ (rest : List ℕ). PartStays (cursors.at c.place rest) (reading.part_from limits s (cursors.at c.place rest) (first_at (in_sexp (innermost s.kinds)) (b ∷ bytes)))
      (reading.part_from limits (grown s) (cursors.at c.place (rest ++ z)) (first_at (in_sexp (innermost s.kinds)) (b ∷ bytes))))
      (sym there)
      (part-stays limits s (first_at (in_sexp (innermost s.kinds)) (b ∷ bytes)) (may_come s.wants (first_at (in_sexp (innermost s.kinds)) (b ∷ bytes))) c.place b bytes tail
      (first-room (in_sexp (innermost s.kinds)) b bytes tail)))))
