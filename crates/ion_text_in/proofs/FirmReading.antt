-- A reading that comes to the end of a line goes on, where more bytes follow, as one that begins there.
use Rattle.std.proofs.Common.{◌≡◌, ℕ, zero, suc, ◌+◌, ◌<◌, Bool, true, false, not, ◌||◌, ◌==◌, nat_lt, sum_by, is_some, if◌then◌else◌, List, [], ◌∷◌, ◌++◌, length, codes, inl, inr, Option, Some, None, Ok, Err, refl, sym, ap, subst, ◌∙◌, arith}
use Rattle.std.proofs.lemmas.Bool.Decides.{nat_tests}
use Rattle.ion_meter.specs.declared.fault.Reason.{Reason}
use Rattle.ion_meter.specs.declared.fault.Reason.TheVariants as reason
use Rattle.ion_meter.specs.declared.profile.Rules.{Rules}
use Rattle.ion_meter.specs.Sources.{Cursor, skip}
use Rattle.ion_value.specs.declared.ion_type.Kind.{Kind}
use Rattle.ion_value.specs.Name.{begins_with, is_identifier_start, is_one_of}
use Rattle.ion_value.specs.Parts.{Placed, part, refuse, ◌>>=◌, ◌>>◌}
use Rattle.ion_value.specs.Reading.{Reading, Finished, Stopped, More, Step, Ends, Stops, Gives, GoesOn, Leaves, after_item, after_nothing, items_then, next_reading, reading_by}
use Rattle.ion_value.specs.Value as value
use Rattle.ion_value.specs.Value.{Symbol, SymbolAt, Scalar, Head, PlacedItem}
use Rattle.ion_value.proofs.Readings.{reading_by-step}
use Rattle.ion_text_in.specs.Blanks.{is_white, blanks}
use Rattle.ion_text_in.specs.Firm.{ends_line, is_firm, cannot_go_on, head_goes_on, last_goes_on, LinesAreReadApart, NoneGoesOn, FirmEnds, CutWhereOneBegins, CutAfterFirm}
use Rattle.ion_text_in.specs.Meaning as cursors
use Rattle.ion_text_in.specs.Positions.{at, Wants, a_value, a_field, a_separator, State}
use Rattle.ion_text_in.specs.Quoted.{long_quote, next_segment}
use Rattle.ion_text_in.specs.Reading as reading
use Rattle.ion_text_in.specs.Reading.{cost, may_come, colons_at, colons_after, after_colons, tells_version, take, part_at, step, step_of, size, start_at, reading_from}
use Rattle.ion_text_in.specs.Token.{First, a_word, a_run, a_short, a_long, a_quoted, a_lob, an_infinity, a_comma, a_colon, begins_run, is_infinity, first_at, Token, plain, float, name, text, operator, begin, end, comma, token_of}
use Rattle.ion_text_in.proofs.After.{no-blanks}
use Rattle.ion_text_in.proofs.Falling.{each_step_falls}
use Rattle.ion_text_in.proofs.FirmSteps.{grown, Quiet, StepStays, step-stays}
use Rattle.ion_text_in.proofs.Lines.{Line, Lines, Leads, lines-of, followed, blanks-firm}

-- ---- at top level nothing hangs on where the last value began

-- nothing is open
abbrev pub top_state : ℕ → Wants → Cursor → State
top_state top wants c = record { kinds = []; top = top; wants = wants; cursor = c }

-- one step, or steps that go on alike
data Alike : Step State → Step State → Type 0 where
  one : (o : Step State) → Alike o o
  on : (t u : ℕ) (wants : Wants) (c : Cursor) → Alike (GoesOn (top_state t wants c)) (GoesOn (top_state u wants c))

abbrev PartsAlike : Placed (Step State) → Placed (Step State) → Type 0
PartsAlike o w = Alike (step_of o) (step_of w)

module _ (limits : Rules) (t u : ℕ) where
  colon-alike : (a : SymbolAt) (e : Cursor) (rest : List ℕ) → PartsAlike (reading.colon_from [] t a e rest) (reading.colon_from [] u a e rest)
  colon-alike a e [] = one _
  colon-alike a e (b ∷ bytes) = by (first_at false (b ∷ bytes))
    where
      by : (first : First) → PartsAlike (reading.colon_of [] t a e first) (reading.colon_of [] u a e first)
      by a_colon = on t u (a_value (Some a) []) (skip 1 e)
      by first = one _

  field-alike : (a : SymbolAt) (o : Placed Cursor) → PartsAlike (o >>= (λ e. reading.colon_from [] t a e e.rest)) (o >>= (λ e. reading.colon_from [] u a e e.rest))
  field-alike a (Ok e) = colon-alike a e e.rest
  field-alike a (Err fault) = one _

  end-alike : (field : Option SymbolAt) (annotations : List SymbolAt) (k : Kind) (p : ℕ) (d : Cursor)
      → PartsAlike (part p (reading.bare_end_step field annotations [] t k p d)) (part p (reading.bare_end_step field annotations [] u k p d))
  end-alike None [] k p d = one _
  end-alike field annotations k p d = one _

  told-alike : (field : Option SymbolAt) (annotations : List SymbolAt) (a : SymbolAt) (p : ℕ) (d : Cursor) (told : Bool)
      → PartsAlike (part p (reading.value_or_version [] t field annotations a d told)) (part p (reading.value_or_version [] u field annotations a d told))
  told-alike field annotations a p d true = one _
  told-alike field annotations a p d false = one _

  symbol-alike : (field : Option SymbolAt) (annotations : List SymbolAt) (quoted : Bool) (a : SymbolAt) (p : ℕ) (d : Cursor) (o : Option Cursor)
      → PartsAlike (part p (reading.symbol_step limits [] t field annotations quoted a d o)) (part p (reading.symbol_step limits [] u field annotations quoted a d o))
  symbol-alike field annotations quoted a p d None = told-alike field annotations a p d (tells_version None annotations quoted a.symbol)
  symbol-alike field annotations quoted a p d (Some e) = by (nat_lt limits.scalar (sum_by cost (annotations ++ a ∷ [])))
    where
      by : (over : Bool) → PartsAlike (part p (refuse over reason.AnnotationLimit >> Ok (reading.onward_step [] t (a_value field (annotations ++ a ∷ [])) e)))
          (part p (refuse over reason.AnnotationLimit >> Ok (reading.onward_step [] u (a_value field (annotations ++ a ∷ [])) e)))
      by true = one _
      by false = on t u (a_value field (annotations ++ a ∷ [])) e

  take-alike : (wants : Wants) (p : ℕ) (x : Token) (d : Cursor) → PartsAlike (take limits [] t wants p x d) (take limits [] u wants p x d)
  unfolding take
  take-alike a_separator p (end k) d = one _
  take-alike a_separator p comma d = on t u (reading.at_member None) d
  take-alike a_field p (end k) d = one _
  take-alike a_field p (name quoted symbol) d = field-alike (at symbol p) (blanks d)
  take-alike a_field p (text bytes) d = field-alike (at (value.Text bytes) p) (blanks d)
  take-alike (a_value field annotations) p (end k) d = end-alike field annotations k p d
  take-alike (a_value field annotations) p (plain v) d = one _
  take-alike (a_value field annotations) p (float number) d = one _
  take-alike (a_value field annotations) p (text bytes) d = one _
  take-alike (a_value field annotations) p (operator bytes) d = one _
  take-alike (a_value field annotations) p (name quoted symbol) d = symbol-alike field annotations quoted (at symbol p) p d (after_colons false d)
  take-alike (a_value field annotations) p (begin k) d = one _
  take-alike wants p x d = one _

  token-alike : (wants : Wants) (p : ℕ) (o : Placed (Token × Cursor)) → PartsAlike (o >>= (λ x. take limits [] t wants p x.0 x.1)) (o >>= (λ x. take limits [] u wants p x.0 x.1))
  token-alike wants p (Ok x) = take-alike wants p x.0 x.1
  token-alike wants p (Err fault) = one _

  next-alike : (wants : Wants) (c d : Cursor) (first : First) (may : Bool) → PartsAlike (reading.next_part limits (top_state t wants c) d first may) (reading.next_part limits (top_state u wants c) d first may)
  next-alike wants c d first true = token-alike wants d.place (part d.place (token_of (Some limits.scalar) first d))
  next-alike wants c d first false = one _

  after-alike : (wants : Wants) (c d : Cursor) (rest : List ℕ) → PartsAlike (reading.part_after limits (top_state t wants c) d rest) (reading.part_after limits (top_state u wants c) d rest)
  after-alike wants c d [] = one _
  after-alike wants c d (b ∷ bytes) = next-alike wants c d (first_at false (b ∷ bytes)) (may_come wants (first_at false (b ∷ bytes)))

  step-alike : (wants : Wants) (c : Cursor) → Alike (step limits (top_state t wants c)) (step limits (top_state u wants c))
  unfolding step part_at
  step-alike wants c = by (blanks c)
    where
      by : (o : Placed Cursor) → PartsAlike (o >>= (λ d. reading.part_after limits (top_state t wants c) d d.rest)) (o >>= (λ d. reading.part_after limits (top_state u wants c) d d.rest))
      by (Ok d) = after-alike wants c d d.rest
      by (Err fault) = one _

module _ (limits : Rules) where
  -- all that is read from a state on
  abbrev pub read : State → Reading
  read s = reading_by (step limits) size s

  pub in-turn : (s : State) → read s ≡ next_reading read (step limits s)
  in-turn s = reading_by-step (step limits) size (each_step_falls limits) s

  alike-by : (o w : Step State) → Alike o w → ((t u : ℕ) (wants : Wants) (c : Cursor) → Leaves o (top_state t wants c) → read (top_state t wants c) ≡ read (top_state u wants c))
      → next_reading read o ≡ next_reading read w
  alike-by _ _ (one o) same = refl
  alike-by _ _ (on t u wants c) same = same t u wants c (after_nothing (top_state t wants c))

  -- wherever the last value began
  pub top-alike : (n t u : ℕ) (wants : Wants) (c : Cursor) → length c.rest < n → read (top_state t wants c) ≡ read (top_state u wants c)
  top-alike zero t u wants c less = absurd (omega (arith, less))
  top-alike (suc n) t u wants c less =
      in-turn (top_state t wants c)
      ∙ alike-by (step limits (top_state t wants c)) (step limits (top_state u wants c)) (step-alike limits t u wants c)
      (λ v w others d leaves. let falls : length d.rest < length c.rest = each_step_falls limits (top_state t wants c) (top_state v others d) leaves in top-alike n v w others d (omega (arith, less, falls)))
      ∙ sym (in-turn (top_state u wants c))

  -- ---- a reading that comes to the end

  stopped-not : (why : Reason) (place : ℕ) (items : List PlacedItem) → Stopped why place ≡ items_then items Finished → ⊥
  stopped-not why place [] e = cc e
  stopped-not why place (item ∷ items) e = cc e

  finished-none : (items : List PlacedItem) → Finished ≡ items_then items Finished → items ≡ []
  finished-none [] e = refl
  finished-none (item ∷ items) e = absurd (cc e)

  -- blanks end, and where no byte is left then, nothing is open, nothing is begun, and no items are left
  record Comes (s : State) (items : List PlacedItem) : Type 0 where
    last : Cursor
    blank : blanks s.cursor ≡ Ok last
    ends : last.rest ≡ [] → (s.kinds ≡ []) × (s.wants ≡ a_value None []) × (items ≡ [])

  final-comes : (kinds : List Kind) (wants : Wants) (p : ℕ) (items : List PlacedItem) → next_reading read (step_of (reading.final_step kinds wants p)) ≡ items_then items Finished
      → (kinds ≡ []) × (wants ≡ a_value None []) × (items ≡ [])
  final-comes [] (a_value None []) p items e = (refl, refl, finished-none items e)
  final-comes kinds wants p items e = absurd (stopped-not reason.Truncated p items e)

  comes : (s : State) (items : List PlacedItem) → read s ≡ items_then items Finished → Comes s items
  unfolding step part_at
  comes s items e = by (blanks s.cursor) refl (sym (in-turn s) ∙ e)
    where
      by : (o : Placed Cursor) → blanks s.cursor ≡ o → next_reading read (step_of (o >>= (λ c. reading.part_after limits s c c.rest))) ≡ items_then items Finished → Comes s items
      by (Ok c) is e = record {
        last = c;
        blank = is;
        ends = λ none. final-comes s.kinds s.wants c.place items (subst (λ (rest : List ℕ). next_reading read (step_of (reading.part_after limits s c rest)) ≡ items_then items Finished) none e);
      }
      by (Err fault) is e = absurd (stopped-not fault.0 fault.1 items e)

  module _ (z : List ℕ) where
    -- how the items go on, from the first byte after a cursor's
    abbrev after : Cursor → Cursor
    after c = cursors.at (c.place + length c.rest) z

    abbrev Firm : State → List PlacedItem → Type 0
    Firm s items = read (grown z s) ≡ items_then items (reading_from limits (after s.cursor))

    -- the step after blanks
    blank-step : (s : State) (c : Cursor) → blanks (followed z s.cursor) ≡ blanks c
        → step limits (grown z s) ≡ step limits (record { kinds = s.kinds; top = s.top; wants = s.wants; cursor = c })
    unfolding step part_at
    blank-step s c e = ap (λ (o : Placed Cursor). step_of (o >>= (λ c. reading.part_after limits s c c.rest))) e

    ended : (s : State) (last : Cursor) → Line s.cursor.rest → blanks s.cursor ≡ Ok last → last.rest ≡ [] → s.kinds ≡ [] → s.wants ≡ a_value None [] → Firm s []
    ended s last l blank none kinds wants =
        let firm = blanks-firm z s.cursor last (inr l) blank in
        let place : last.place ≡ s.cursor.place + length s.cursor.rest = omega (arith, firm.2, ap length none) in
        let here : blanks (followed z s.cursor) ≡ blanks (after s.cursor) =
        firm.0 ∙ ap (λ (rest : List ℕ). blanks (cursors.at last.place (rest ++ z))) none ∙ ap (λ (p : ℕ). blanks (cursors.at p z)) place in
        in-turn (grown z s)
        ∙ ap (next_reading read) (blank-step s (after s.cursor) here)
        ∙ sym (in-turn (record { kinds = s.kinds; top = s.top; wants = s.wants; cursor = after s.cursor }))
        ∙ ap (λ (kinds : List Kind). read (record { kinds = kinds; top = s.top; wants = s.wants; cursor = after s.cursor })) kinds
        ∙ ap (λ (wants : Wants). read (top_state s.top wants (after s.cursor))) wants
        ∙ top-alike (suc (length z)) s.top 0 (a_value None []) (after s.cursor) (omega arith)

    -- the items that are left after the first
    left-over : (item : PlacedItem) (items : List PlacedItem) (c : Cursor) → last_goes_on (item ∷ items) c ≡ false → last_goes_on items c ≡ false
    left-over item [] c e = refl
    left-over item (next ∷ items) c e = e

    -- the last item goes on with nothing
    alone : (s t : State) (item first : PlacedItem) (items : List PlacedItem) (come : Comes t items) → item ≡ first → Leads s.cursor t.cursor
        → last_goes_on (first ∷ items) (after s.cursor) ≡ false → come.last.rest ≡ [] → (t.kinds ≡ []) × (head_goes_on item.head (cursors.at come.last.place z) ≡ false)
    alone s t item first items come same leads quiet none =
        let so = come.ends none in
        let firm = blanks-firm z t.cursor come.last (inr leads.line) come.blank in
        let place : come.last.place ≡ s.cursor.place + length s.cursor.rest = omega (arith, firm.2, leads.total, ap length none) in
        let only : head_goes_on first.head (after s.cursor) ≡ false = subst (λ (items : List PlacedItem). last_goes_on (first ∷ items) (after s.cursor) ≡ false) so.2 quiet in (
          so.0,
          ap (λ (i : PlacedItem). head_goes_on i.head (cursors.at come.last.place z)) same ∙ ap (λ (p : ℕ). head_goes_on first.head (cursors.at p z)) place ∙ only,
        )

    firm-by : (s : State) (o w : Step State) (items : List PlacedItem) → Line s.cursor.rest → step limits s ≡ o → step limits (grown z s) ≡ w → StepStays z s.cursor o w
        → next_reading read o ≡ items_then items Finished → last_goes_on items (after s.cursor) ≡ false
        → ((t : State) (others : List PlacedItem) → Leaves (step limits s) t → Leads s.cursor t.cursor → read t ≡ items_then others Finished → last_goes_on others (after s.cursor) ≡ false
        → read (grown z t) ≡ items_then others (reading_from limits (after s.cursor)))
        → Firm s items
    firm-by s Ends w items l is long stays e quiet more = absurd stays
    firm-by s (Stops why place) w items l is long stays e quiet more = absurd (stopped-not why place items e)
    firm-by s (GoesOn t) w items l is long stays e quiet more =
        in-turn (grown z s) ∙ ap (next_reading read) (long ∙ stays.0)
        ∙ more t items (subst (λ (o : Step State). Leaves o t) (sym is) (after_nothing t)) stays.1 e quiet
    firm-by s (Gives item t) w [] l is long stays e quiet more = absurd (cc e)
    firm-by s (Gives item t) w (first ∷ items) l is long stays e quiet more =
        let same : item ≡ first = cc e in
        let rest : read t ≡ items_then items Finished = cc e in
        let come = comes t items rest in
        let quiet_here : Quiet z item t = record { last = come.last; blank = come.blank; alone = λ none. alone s t item first items come same stays.1 quiet none } in
        in-turn (grown z s) ∙ ap (next_reading read) (long ∙ stays.0 quiet_here)
        ∙ ap (λ (rest : Reading). More item rest) (more t items (subst (λ (o : Step State). Leaves o t) (sym is) (after_item item t)) stays.1 rest (left-over first items (after s.cursor) quiet))
        ∙ ap (λ (item : PlacedItem). More item (items_then items (reading_from limits (after s.cursor)))) same

    firm-reads : (n : ℕ) (s : State) (items : List PlacedItem) → length s.cursor.rest < n → Line s.cursor.rest → read s ≡ items_then items Finished
        → last_goes_on items (after s.cursor) ≡ false → Firm s items
    firm-reads zero s items less l e quiet = absurd (omega (arith, less))
    firm-reads (suc n) s items less l e quiet =
        from-last s items l e quiet (comes s items e)
        (λ t others leaves leads e quiet.
        let falls : length t.cursor.rest < length s.cursor.rest = each_step_falls limits s t leaves in
        let here : after t.cursor ≡ after s.cursor = ap (λ (p : ℕ). cursors.at p z) (sym leads.total) in
        firm-reads n t others (omega (arith, less, falls)) leads.line e (ap (last_goes_on others) here ∙ quiet)
        ∙ ap (λ (c : Cursor). items_then others (reading_from limits c)) here)
      where
        from-last : (s : State) (items : List PlacedItem) → Line s.cursor.rest → read s ≡ items_then items Finished → last_goes_on items (after s.cursor) ≡ false → Comes s items
            → ((t : State) (others : List PlacedItem) → Leaves (step limits s) t → Leads s.cursor t.cursor → read t ≡ items_then others Finished → last_goes_on others (after s.cursor) ≡ false
            → read (grown z t) ≡ items_then others (reading_from limits (after s.cursor)))
            → Firm s items
        from-last s items l e quiet come more = by come.last.rest refl
          where
            by : (rest : List ℕ) → come.last.rest ≡ rest → Firm s items
            by [] none =
                let so = come.ends none in
                subst (λ (items : List PlacedItem). Firm s items) (sym so.2) (ended s come.last l come.blank none so.0 so.1)
            by (b ∷ bytes) there =
                firm-by s (step limits s) (step limits (grown z s)) items l refl refl (step-stays z limits s come.last b bytes l come.blank there) (sym (in-turn s) ∙ e) quiet more

-- ---- the laws

pub lines-are-read-apart : LinesAreReadApart
lines-are-read-apart limits place y z items line quiet e = by (lines-of y line)
  where
    by : Lines y → reading_from limits (cursors.at place (y ++ z)) ≡ items_then items (reading_from limits (cursors.at (place + length y) z))
    by (inl none) =
        let nothing : items ≡ [] = no-items y none e in
        let here : place + length y ≡ place = omega (arith, ap length none) in
        ap (λ (y : List ℕ). reading_from limits (cursors.at place (y ++ z))) none
        ∙ ap (λ (p : ℕ). reading_from limits (cursors.at p z)) (sym here)
        ∙ ap (λ (items : List PlacedItem). items_then items (reading_from limits (cursors.at (place + length y) z))) (sym nothing)
      where
        no-items : (y : List ℕ) → y ≡ [] → reading_from limits (cursors.at place y) ≡ items_then items Finished → items ≡ []
        no-items y none e =
            let come = comes limits (start_at (cursors.at place y)) items e in
            let blank : Ok (cursors.at place []) ≡ Ok come.last = sym (no-blanks place [] tt) ∙ ap (λ (y : List ℕ). blanks (cursors.at place y)) (sym none) ∙ come.blank in
            let last : cursors.at place [] ≡ come.last = cc blank in
            (come.ends (sym (ap (λ (c : Cursor). c.rest) last))).2
    by (inr l) = firm-reads limits z (suc (length y)) (start_at (cursors.at place y)) items (omega arith) l e quiet

-- ---- what begins a value

colons-if : (c : Cursor) (b : Bool) (x y : First) → colons_at x c ≡ None → colons_at y c ≡ None → colons_at (if b then x else y) c ≡ None
colons-if c true x y ex ey = ex
colons-if c false x y ex ey = ey

no-colons : (b : ℕ) (bytes : List ℕ) (c : Cursor) → (b == 58) ≡ false → colons_at (first_at false (b ∷ bytes)) c ≡ None
unfolding first_at
no-colons b bytes c off =
    colons-if c (is_identifier_start b) a_word _ refl
    (colons-if c (begins_run b bytes) a_run _ refl
    (colons-if c (b == 34) a_short _ refl
    (colons-if c (begins_with (39 ∷ 39 ∷ 39 ∷ []) (b ∷ bytes)) a_long _ refl
    (colons-if c (b == 39) a_quoted _ refl
    (colons-if c (begins_with (codes "{{") (b ∷ bytes)) a_lob _ refl
    (colons-if c (is_infinity (b ∷ bytes)) an_infinity _ refl
    (colons-if c (b == 123) _ _ refl
    (colons-if c (b == 91) _ _ refl
    (colons-if c (b == 40) _ _ refl
    (colons-if c (b == 125) _ _ refl
    (colons-if c (b == 93) _ _ refl
    (colons-if c (b == 41) _ _ refl
    (colons-if c (b == 44) a_comma _ refl (rw off refl))))))))))))))

-- no blank, no colon and no quote
record Begins (b : ℕ) : Type 0 where
  dark : is_white b ≡ false
  no_slash : (b == 47) ≡ false
  no_colon : (b == 58) ≡ false
  no_quote : (39 == b) ≡ false

begins-by : (b : ℕ) → not (is_white b || is_one_of (codes "'/:") b) ≡ true → Begins b
begins-by b e = record { dark = grind (arith, nat_tests); no_slash = grind (arith, nat_tests); no_colon = grind (arith, nat_tests); no_quote = grind (arith, nat_tests) }

module _ (place b : ℕ) (bytes : List ℕ) (is : Begins b) where
  abbrev begun : Cursor
  begun = cursors.at place (b ∷ bytes)

  bare : blanks begun ≡ Ok begun
  bare = no-blanks place (b ∷ bytes) (rw (is.dark, is.no_slash) refl)

  alone-colons : is_some (after_colons false begun) ≡ false
  alone-colons = ap (λ (o : Placed Cursor). is_some (colons_after false o)) bare ∙ ap is_some (no-colons b bytes begun is.no_colon)

  alone-quotes : is_some (next_segment (long_quote false) begun) ≡ false
  alone-quotes = rw (bare, is.no_quote) refl

  scalar-alone : (body : Scalar SymbolAt) → head_goes_on (value.whole body) begun ≡ false
  scalar-alone (value.symbol s) = alone-colons
  scalar-alone (value.string t) = alone-quotes
  scalar-alone body = refl

  head-alone : (head : Head SymbolAt) → head_goes_on head begun ≡ false
  head-alone (value.whole body) = scalar-alone body
  head-alone (value.begin k) = refl
  head-alone value.end = refl
  head-alone value.marker = alone-colons

  last-alone : (items : List PlacedItem) → last_goes_on items begun ≡ false
  last-alone [] = refl
  last-alone (item ∷ []) = head-alone item.head
  last-alone (item ∷ next ∷ items) = last-alone (next ∷ items)

pub none-goes-on : NoneGoesOn
none-goes-on place [] items e = absurd (cc e)
none-goes-on place (b ∷ bytes) items e = last-alone place b bytes (begins-by b e) items

-- ---- firm values

scalar-firm : (c : Cursor) (body : Scalar SymbolAt) → is_firm (value.whole body) ≡ true → head_goes_on (value.whole body) c ≡ false
scalar-firm c (value.symbol s) e = absurd (cc e)
scalar-firm c (value.string t) e = absurd (cc e)
scalar-firm c body e = refl

head-firm : (c : Cursor) (head : Head SymbolAt) → is_firm head ≡ true → head_goes_on head c ≡ false
head-firm c (value.whole body) e = scalar-firm c body e
head-firm c (value.begin k) e = refl
head-firm c value.end e = refl
head-firm c value.marker e = absurd (cc e)

pub firm-ends : FirmEnds
firm-ends c [] e = refl
firm-ends c (item ∷ []) e = head-firm c item.head e
firm-ends c (item ∷ next ∷ items) e = firm-ends c (next ∷ items) e

-- ---- from the beginning

cut-by : (limits : Rules) (y z : List ℕ) (items : List PlacedItem) → reading.reading limits y ≡ items_then items Finished → ends_line y ≡ true
    → ((c : Cursor) → c.rest ≡ z → last_goes_on items c ≡ false) → reading.reading limits (y ++ z) ≡ items_then items (reading_from limits (cursors.at (length y) z))
unfolding reading.reading
cut-by limits y z items e line quiet =
    lines-are-read-apart limits 0 y z items line (quiet (cursors.at (0 + length y) z) refl) e
    ∙ ap (λ (p : ℕ). items_then items (reading_from limits (cursors.at p z))) (omega arith)

pub cut-where-one-begins : CutWhereOneBegins
cut-where-one-begins limits y z items e line begins =
    cut-by limits y z items e line (λ c is. none-goes-on c.place c.rest items (ap cannot_go_on is ∙ begins))

pub cut-after-firm : CutAfterFirm
cut-after-firm limits y z items e line firm = cut-by limits y z items e line (λ c is. firm-ends c items firm)
