-- What marks say of the bytes that were counted.
use Rattle.std.proofs.Common.{arith, ◌≡◌, inr, ⊎_elim, ℕ, zero, suc, Result, Ok, Err, replicate, ◌+◌, ◌-◌, ◌%◌, ◌<◌, ◌≤◌, ◌^◌, true, false, List, [], ◌∷◌, ◌++◌, length, take, drop, refl, sym, ap, subst, ◌∙◌}
use Rattle.std.proofs.lemmas.Bool.{cases_lt}
use Rattle.std.proofs.lemmas.List.{append-nil, append_assoc, get_or-append-add, get_or-set_other, get_or-set_same, get_or-take, get_or_append_left, length-append, length-set, length-take-le, take-append-drop, take-append-le, take_all}
use Rattle.std.proofs.Math.Seq.{take-add}
use Rattle.std.specs.Prelude.{◌≢◌, is_err, min, slice_index, Option, Some, None, MatchOption, OnOk}
use Rattle.ion_meter.specs.Windows.{HasPrefix}
use Rattle.ion_transcode.specs.Forms.{form_by, form_of}
use Rattle.ion_tool.specs.Counting.{with_line, BeginsAt, Finds, HasCounted, HasMarks, Marks}
use Rattle.ion_tool.specs.LineNumbers.{is_line_end, line_ends, since_line_end}
use Rattle.ion_tool.specs.declared.marks.Position.{Position}
use Rattle.ion_tool.proofs.LineEnds.{line_ends-append, line_ends-later, line_ends-more, line_ends-none, line_ends-split, since_line_end-from}

-- the first of some numbers is 0, also after zeros that are added
pub first-zero : (xs : List ℕ) (n : ℕ) → slice_index xs 0 ≡ 0 → slice_index (xs ++ replicate n 0) 0 ≡ 0
first-zero [] zero first = refl
first-zero [] (suc n) first = refl
first-zero (x ∷ xs) n first = first

-- what is said of a value that is there
pub on_ok : {T E P : Type 0} (r : Result T E) → is_err r ≡ false → OnOk r P → P
on_ok (Ok x) ok is = is
on_ok (Err e) ok is = absurd (cc ok)

-- a line begins where it did, whatever follows
begins-append : (bytes more : List ℕ) (before offset : ℕ) → BeginsAt bytes before offset → BeginsAt (bytes ++ more) before offset
begins-append bytes more before offset is = record {
  within = omega (arith, length-append bytes more, is.within);
  lines = rw (take-append-le offset bytes more is.within) is.lines;
  after_end = λ some.
      let within : offset - 1 < length bytes = omega (arith, is.within) in
      rw (get_or_append_left bytes more 0 (offset - 1) within) (is.after_end some);
}

-- bytes more of which none ends a line
pub marks-within : (counted more : List ℕ) (m : Marks) → HasMarks counted m → line_ends more ≡ 0 → HasMarks (counted ++ more) (record m { count = m.count + length more })
marks-within counted more m has none = record {
  count = ap (λ (n : ℕ). n + length more) has.count ∙ sym (length-append counted more);
  ends = omega (arith, has.ends, line_ends-append counted more);
  begins = λ line low high. begins-append counted more line _ (has.begins line low high);
}

-- two numbers that are apart, but by less than 65,536, have two places
apart : (low high : ℕ) → low < high → high < low + 65536 → low % 65536 ≢ high % 65536
apart low high less near same = omega arith

-- the line that begins after bytes of which the last ends a line
begins-line : (counted line : List ℕ) (m : Marks) (n : ℕ) → HasMarks counted m → n ≡ length line → 0 < n → line_ends line ≡ 1 → is_line_end (slice_index line (n - 1)) ≡ true
    → BeginsAt (counted ++ line) (m.ends + 1) (m.count + n)
begins-line counted line m n has is some one ends =
    let whole : m.count + n ≡ length (counted ++ line) = omega (arith, has.count, length-append counted line) in
    let last : m.count + n - 1 ≡ length counted + (n - 1) = omega (arith, has.count) in
    record {
      within = omega arith;
      lines = ap line_ends (take_all (m.count + n) (counted ++ line) (omega arith)) ∙ omega (arith, has.ends, line_ends-append counted line);
      after_end = λ all. rw (last, get_or-append-add counted line (n - 1) 0) ends;
    }

-- bytes more of which the last alone ends a line
pub marks-line : (counted line : List ℕ) (m : Marks) (n : ℕ) → HasMarks counted m → length m.begins ≡ 65536 → n ≡ length line → 0 < n → line_ends line ≡ 1
    → is_line_end (slice_index line (n - 1)) ≡ true → HasMarks (counted ++ line) (with_line m n)
marks-line counted line m n has room is some one ends = record {
  count = omega (arith, has.count, length-append counted line);
  ends = omega (arith, has.ends, line_ends-append counted line);
  begins = λ at low high. ⊎_elim (old at low high) (new at low high) (cases_lt at (m.ends + 1));
}
  where
    place : (k : ℕ) → k % 65536 < length m.begins
    place k = omega arith

    old : (at : ℕ) → at ≤ m.ends + 1 → m.ends + 1 < at + 65536 → at < m.ends + 1 → BeginsAt (counted ++ line) at (slice_index (with_line m n).begins (at % 65536))
    old at low high less =
        rw (get_or-set_other m.begins ((m.ends + 1) % 65536) (at % 65536) (m.count + n) 0 (apart at (m.ends + 1) less high))
        (begins-append counted line at _ (has.begins at (omega arith) (omega arith)))

    new : (at : ℕ) → at ≤ m.ends + 1 → m.ends + 1 < at + 65536 → m.ends + 1 ≤ at → BeginsAt (counted ++ line) at (slice_index (with_line m n).begins (at % 65536))
    new at low high more =
        let same : at ≡ m.ends + 1 = omega arith in
        rw (same, get_or-set_same m.begins ((m.ends + 1) % 65536) (m.count + n) 0 (place (m.ends + 1)))
        (begins-line counted line m n has is some one ends)

-- bytes that are found to end a line with their last, after those up to a place
pub marks-found : (counted bytes rest : List ℕ) (at found : ℕ) (m new : Marks) → rest ≡ drop at bytes → HasMarks (counted ++ take at bytes) m → new ≡ with_line m (found + 1)
    → length new.begins ≡ 65536 → found < length rest → ((k : ℕ) → k < found → is_line_end (slice_index rest k) ≡ true → ⊥) → is_line_end (slice_index rest found) ≡ true
    → HasMarks (counted ++ take (at + (found + 1)) bytes) new
marks-found counted bytes rest at found m new is_rest has is room within before ends =
    let line = take (found + 1) rest in
    let len : length line ≡ found + 1 = length-take-le (found + 1) rest (omega arith) in
    let short : length (take found rest) ≡ found = length-take-le found rest (omega arith) in
    let none : line_ends (take found rest) ≡ 0 =
    line_ends-none (take found rest) (λ k less ends. before k (omega arith) (rw (sym (get_or-take found rest k 0 (omega arith))) ends)) in
    let one : line_ends line ≡ 1 = omega (arith, line_ends-more found rest within ends) in
    let end : found + 1 - 1 ≡ found = omega arith in
    let last : is_line_end (slice_index line (found + 1 - 1)) ≡ true = rw (end, get_or-take (found + 1) rest found 0 (omega arith)) ends in
    let kept : length m.begins ≡ 65536 = sym (length-set m.begins ((m.ends + 1) % 65536) (m.count + (found + 1))) ∙ (ap (λ (x : Marks). length x.begins) (sym is) ∙ room) in
    let joined : (counted ++ take at bytes) ++ line ≡ counted ++ take (at + (found + 1)) bytes =
    append_assoc counted (take at bytes) line
    ∙ ap (λ (l : List ℕ). counted ++ l) (ap (λ (l : List ℕ). take at bytes ++ take (found + 1) l) is_rest ∙ sym (take-add at (found + 1) bytes)) in
    subst (λ (x : Marks). HasMarks (counted ++ take (at + (found + 1)) bytes) x) (sym is)
    (subst (λ (l : List ℕ). HasMarks l (with_line m (found + 1))) joined (marks-line (counted ++ take at bytes) line m (found + 1) has kept (sym len) (omega arith) one last))

-- after those up to a place the others, of which none ends a line
pub marks-rest : (counted bytes rest : List ℕ) (at n : ℕ) (m : Marks) → rest ≡ drop at bytes → HasMarks (counted ++ take at bytes) m → n ≡ length rest
    → ((k : ℕ) → k < length rest → is_line_end (slice_index rest k) ≡ true → ⊥) → HasMarks (counted ++ bytes) (record m { count = m.count + n })
marks-rest counted bytes rest at n m is_rest has is none =
    let joined : (counted ++ take at bytes) ++ rest ≡ counted ++ bytes =
    append_assoc counted (take at bytes) rest
    ∙ ap (λ (l : List ℕ). counted ++ l) (ap (λ (l : List ℕ). take at bytes ++ l) is_rest ∙ take-append-drop at bytes) in
    subst (λ (k : ℕ). HasMarks (counted ++ bytes) (record m { count = m.count + k })) (sym is)
    (subst (λ (l : List ℕ). HasMarks l (record m { count = m.count + length rest })) joined (marks-within (counted ++ take at bytes) rest m has (line_ends-none rest none)))

-- the line of a place is at most this one, and begins no later: so it is this one
pub found_here : (counted : List ℕ) (line begin place : ℕ) → BeginsAt counted line begin → begin ≤ place → place ≤ length counted → line_ends (take place counted) ≤ line
    → (line ≡ line_ends (take place counted)) × (place - begin ≡ since_line_end (take place counted))
found_here counted line begin place is low within most =
    let later = line_ends-later begin place counted low in
    let same : line_ends (take begin counted) ≡ line_ends (take place counted) = omega (arith, is.lines) in (
      sym is.lines ∙ same,
      sym (since_line_end-from begin place counted low within same is.after_end),
    )

-- it begins later: so the place stands in an earlier line
pub found_before : (counted : List ℕ) (line begin place : ℕ) → BeginsAt counted line begin → place < begin → line_ends (take place counted) + 1 ≤ line
found_before counted line begin place is later =
    let last : begin - 1 < length counted = omega (arith, is.within) in
    let more = line_ends-more (begin - 1) counted last (is.after_end (omega arith)) in
    let all : begin - 1 + 1 ≡ begin = omega arith in
    let most = line_ends-later place (begin - 1) counted (omega arith) in
    let one : line_ends (take begin counted) ≡ line_ends (take (begin - 1) counted) + 1 = subst (λ (n : ℕ). line_ends (take n counted) ≡ line_ends (take (begin - 1) counted) + 1) all more in
    omega (arith, is.lines)

-- whether bytes are binary is no matter for where their lines are
marks-form : (counted : List ℕ) (m new : Marks) → HasMarks counted m → new ≡ record m { is_binary = new.is_binary } → HasMarks counted new
marks-form counted m new has is = rw is (record { count = has.count; ends = has.ends; begins = has.begins })

-- some bytes have a form, whatever follows
pub form-append : (bytes more : List ℕ) → 0 < length bytes → form_of (bytes ++ more) ≡ form_of bytes
form-append [] more some = absurd (omega arith)
form-append (b ∷ bytes) more some = refl

none_there : (xs : List ℕ) → length xs ≡ 0 → xs ≡ []
none_there [] e = refl
none_there (x ∷ xs) e = absurd (omega arith)

-- of bytes more as many are counted as can be
module _ (read bytes part : List ℕ) (n : ℕ) (old mid new : Marks) (has : HasCounted read old) (small : old.count ≤ 2 ^ 64 - 1) (is : n ≡ min (2 ^ 64 - 1 - old.count) (length bytes))
    (is_part : part ≡ take n bytes) (count : new.count ≡ old.count + length part) where
  length-part : length part ≡ n
  length-part = ap length is_part ∙ length-take-le n bytes (omega arith)

  counted-prefix : HasPrefix (read ++ bytes) (has.counted ++ part)
  counted-prefix = ⊎_elim some full (cases_lt old.count (2 ^ 64 - 1))
    where
      some : old.count < 2 ^ 64 - 1 → HasPrefix (read ++ bytes) (has.counted ++ part)
      some less = (
        drop n bytes,
        ap (λ (l : List ℕ). l ++ bytes) (sym (has.whole less))
            ∙ (ap (λ (l : List ℕ). has.counted ++ l) (sym (take-append-drop n bytes) ∙ ap (λ (l : List ℕ). l ++ drop n bytes) (sym is_part))
            ∙ sym (append_assoc has.counted part (drop n bytes))),
      )

      full : 2 ^ 64 - 1 ≤ old.count → HasPrefix (read ++ bytes) (has.counted ++ part)
      full more =
          let nil : part ≡ [] = none_there part (omega (arith, length-part)) in (
            has.prefix.0 ++ bytes,
            ap (λ (l : List ℕ). l ++ bytes) has.prefix.1
                ∙ (append_assoc has.counted has.prefix.0 bytes
                ∙ ap (λ (l : List ℕ). l ++ (has.prefix.0 ++ bytes)) (sym (append-nil has.counted) ∙ ap (λ (l : List ℕ). has.counted ++ l) (sym nil))),
          )

  counted-whole : new.count < 2 ^ 64 - 1 → has.counted ++ part ≡ read ++ bytes
  counted-whole less =
      let len = length-part in
      ap (λ (l : List ℕ). l ++ part) (has.whole (omega arith)) ∙ ap (λ (l : List ℕ). read ++ l) (is_part ∙ take_all n bytes (omega arith))

  counted-form : (old.count ≡ 0 → form_of bytes ≡ form_by mid.is_binary) → (old.count ≢ 0 → mid.is_binary ≡ old.is_binary) → new.is_binary ≡ mid.is_binary
      → form_of (read ++ bytes) ≡ form_by new.is_binary
  counted-form first known same = ⊎_elim some begun (cases_lt 0 old.count)
    where
      some : 0 < old.count → form_of (read ++ bytes) ≡ form_by new.is_binary
      some more =
          form-append read bytes (omega (arith, has.marks.count, ap length has.prefix.1, length-append has.counted has.prefix.0))
          ∙ (has.form ∙ ap form_by (sym (same ∙ known (λ e. omega arith))))

      begun : old.count ≤ 0 → form_of (read ++ bytes) ≡ form_by new.is_binary
      begun none =
          let nil : read ≡ [] = sym (has.whole (omega arith)) ∙ none_there has.counted (omega (arith, has.marks.count)) in
          ap (λ (l : List ℕ). form_of (l ++ bytes)) nil ∙ (first (omega arith) ∙ ap form_by (sym same))

  pub counted-more : mid ≡ record old { is_binary = mid.is_binary } → (old.count ≡ 0 → form_of bytes ≡ form_by mid.is_binary) → (old.count ≢ 0 → mid.is_binary ≡ old.is_binary)
      → ((counted : List ℕ) → HasMarks counted mid → HasMarks (counted ++ part) new) → new.is_binary ≡ mid.is_binary → HasCounted (read ++ bytes) new
  counted-more only first known marks same = record {
    counted = has.counted ++ part;
    prefix = counted-prefix;
    whole = counted-whole;
    marks = marks has.counted (marks-form has.counted old mid has.marks only);
    form = counted-form first known same;
  }

-- what is found in what was counted is found in what was read
pub finds : (read : List ℕ) (place at : ℕ) (m : Marks) (found : Option Position) → HasCounted read m → place < 2 ^ 64 → at ≡ min place m.count → m.is_binary ≡ false
    → ((counted : List ℕ) → HasMarks counted m → at ≤ length counted → MatchOption found (65536 ≤ line_ends (drop at counted))
    (λ p. (p.lines ≡ line_ends (take at counted)) × (p.bytes ≡ since_line_end (take at counted))))
    → Finds read place found
finds read place at m found has small is text search =
    let same : take at has.counted ≡ take place read = ⊎_elim within past (cases_lt place m.count) in
    go found (search has.counted has.marks (omega (arith, has.marks.count))) same
  where
    all : read ≡ has.counted ++ has.prefix.0
    all = has.prefix.1

    within : place < m.count → take at has.counted ≡ take place read
    within less =
        let here : at ≡ place = omega arith in
        ap (λ (k : ℕ). take k has.counted) here
        ∙ (sym (take-append-le place has.counted has.prefix.0 (omega (arith, has.marks.count))) ∙ ap (take place) (sym all))

    past : m.count ≤ place → take at has.counted ≡ take place read
    past more =
        let end : at ≡ m.count = omega arith in
        ⊎_elim
        (λ less.
        let whole = has.whole less in
        take_all at has.counted (omega (arith, has.marks.count)) ∙ (whole ∙ sym (take_all place read (omega (arith, has.marks.count, ap length whole)))))
        (λ full.
        let here : at ≡ place = omega arith in
        ap (λ (k : ℕ). take k has.counted) here
        ∙ (sym (take-append-le place has.counted has.prefix.0 (omega (arith, has.marks.count))) ∙ ap (take place) (sym all)))
        (cases_lt m.count (2 ^ 64 - 1))

    go : (found : Option Position) → MatchOption found (65536 ≤ line_ends (drop at has.counted))
        (λ p. (p.lines ≡ line_ends (take at has.counted)) × (p.bytes ≡ since_line_end (take at has.counted)))
        → take at has.counted ≡ take place read → Finds read place found
    go (Some p) (lines, bytes) same = (has.form ∙ ap form_by text, lines ∙ ap line_ends same, bytes ∙ ap since_line_end same)
    go None after same =
        let whole = line_ends-split at has.counted in
        let others = line_ends-split place read in
        let more = line_ends-append has.counted has.prefix.0 in
        inr (omega (arith, ap line_ends all, ap line_ends same))
