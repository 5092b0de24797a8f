-- Blanks with comments, over the bytes of a window.
use Rattle.std.proofs.Common.{◌≡◌, ℕ, ◌+◌, ◌-◌, ◌<◌, ◌≤◌, true, false, List, [], ◌∷◌, ◌++◌, length, take, drop, get_or, Some, sym, ap, subst, ◌∙◌, arith, append_assoc}
use Rattle.std.specs.Prelude.{slice_get}
use Rattle.std.proofs.lemmas.List.{take-append-drop, length-drop, length-take-le}
use Rattle.ion_meter.specs.Sources.{Cursor}
use Rattle.ion_value.specs.Digits.{all_are, first_is}
use Rattle.ion_value.specs.Parts.{Placed}
use Rattle.ion_text_in.specs.Blanks.{blanks_at, in_block, in_line, is_white}
use Rattle.ion_text_in.specs.Feeding.{LeadsTo, PassesBlanks}
use Rattle.ion_text_in.specs.Overrun.{is_neither}
use Rattle.ion_text_in.proofs.BlankRuns.{white-over}
use Rattle.ion_text_in.proofs.BlankTurns.{block-begins, block-over-run, line-begins, line-over-end, star-other, star-stands, star-then}
use Rattle.ion_text_in.proofs.FeedReading.{after-then, some-after}

-- ---- one after the other

pub leads-then : (f g h : ℕ → List ℕ → Placed Cursor) (x y z : List ℕ) → LeadsTo f g x y → LeadsTo g h y z → LeadsTo f h x z
leads-then f g h x y z a b =
    let first = a.fewer in
    let second = b.fewer in
    record {
      part = after-then x y z a.part b.part;
      fewer = omega (arith, first, second);
      same = λ p r more e.
          let q : ℕ = p + (length x - length y) in
          a.same p q more (omega (arith, first)) ∙ b.same q r more (omega (arith, first, second, e));
    }

pub passes-after : (x y z : List ℕ) → LeadsTo blanks_at blanks_at x y → PassesBlanks y z → PassesBlanks x z
passes-after x y z a b =
    let first = a.fewer in
    let second = b.fewer in
    record {
      part = after-then x y z a.part b.part;
      fewer = omega (arith, first, second);
      blank = λ p r more e.
          let q : ℕ = p + (length x - length y) in
          a.same p q more (omega (arith, first)) ∙ b.blank q r more (omega (arith, first, second, e));
      bare = b.bare;
    }

-- over so many bytes in front
leads-over : (f g : ℕ → List ℕ → Placed Cursor) (bytes : List ℕ) (n : ℕ) → n ≤ length bytes
    → ((p : ℕ) (rest : List ℕ) → f p (take n bytes ++ rest) ≡ g (p + length (take n bytes)) rest) → LeadsTo f g bytes (drop n bytes)
leads-over f g bytes n within over =
    let rest = drop n bytes in
    let long : length rest ≡ length bytes - n = length-drop n bytes in
    let taken_long : length (take n bytes) ≡ n = length-take-le n bytes within in
    record {
      part = some-after bytes n within;
      fewer = omega (arith, long);
      same = λ p q more e.
          let q_is : p + length (take n bytes) ≡ q = omega (arith, e, long, within, taken_long) in
          ap (λ (l : List ℕ). f p (l ++ more)) (sym (take-append-drop n bytes))
          ∙ (ap (λ (l : List ℕ). f p l) (append_assoc (take n bytes) rest more)
          ∙ (over p (rest ++ more)
          ∙ ap (λ (k : ℕ). g k (rest ++ more)) q_is));
    }

-- ---- white space, and where a comment begins

pub leads-white : (bytes : List ℕ) (n : ℕ) → n ≤ length bytes → all_are is_white (take n bytes) ≡ true → LeadsTo blanks_at blanks_at bytes (drop n bytes)
leads-white bytes n within white = leads-over blanks_at blanks_at bytes n within (λ p rest. white-over p (take n bytes) rest white)

line-after : (line rest : List ℕ) → LeadsTo in_line blanks_at line rest → LeadsTo blanks_at blanks_at (47 ∷ 47 ∷ line) rest
line-after line rest a =
    let fewer = a.fewer in
    record {
      part = after-then (47 ∷ 47 ∷ line) line rest (some-after (47 ∷ 47 ∷ line) 2 (omega arith)) a.part;
      fewer = omega (arith, fewer);
      same = λ p q more e. line-begins p (line ++ more) ∙ a.same (p + 2) q more (omega (arith, e));
    }

block-after : (block rest : List ℕ) → ((start : ℕ) → LeadsTo (in_block start) blanks_at block rest) → LeadsTo blanks_at blanks_at (47 ∷ 42 ∷ block) rest
block-after block rest a =
    let any = a 0 in
    let fewer = any.fewer in
    record {
      part = after-then (47 ∷ 42 ∷ block) block rest (some-after (47 ∷ 42 ∷ block) 2 (omega arith)) any.part;
      fewer = omega (arith, fewer);
      same = λ p q more e. let own = a p in block-begins p (block ++ more) ∙ own.same (p + 2) q more (omega (arith, e));
    }

pub leads-to-line : (bytes line rest : List ℕ) → 2 ≤ length bytes → get_or bytes 0 0 ≡ 47 → get_or bytes 1 0 ≡ 47 → line ≡ drop 2 bytes → LeadsTo in_line blanks_at line rest → LeadsTo blanks_at blanks_at bytes rest
leads-to-line [] line rest two first second is a = absurd (omega (arith, two))
leads-to-line (b ∷ []) line rest two first second is a = absurd (omega (arith, two))
leads-to-line (b ∷ c ∷ bytes) line rest two first second is a =
    subst (λ (x : ℕ). LeadsTo blanks_at blanks_at (x ∷ c ∷ bytes) rest) (sym first)
    (subst (λ (x : ℕ). LeadsTo blanks_at blanks_at (47 ∷ x ∷ bytes) rest) (sym second) (line-after bytes rest (subst (λ (l : List ℕ). LeadsTo in_line blanks_at l rest) is a)))

pub leads-to-block : (bytes block rest : List ℕ) → 2 ≤ length bytes → get_or bytes 0 0 ≡ 47 → get_or bytes 1 0 ≡ 42 → block ≡ drop 2 bytes → ((start : ℕ) → LeadsTo (in_block start) blanks_at block rest)
    → LeadsTo blanks_at blanks_at bytes rest
leads-to-block [] block rest two first second is a = absurd (omega (arith, two))
leads-to-block (b ∷ []) block rest two first second is a = absurd (omega (arith, two))
leads-to-block (b ∷ c ∷ bytes) block rest two first second is a =
    subst (λ (x : ℕ). LeadsTo blanks_at blanks_at (x ∷ c ∷ bytes) rest) (sym first)
    (subst (λ (x : ℕ). LeadsTo blanks_at blanks_at (47 ∷ x ∷ bytes) rest) (sym second) (block-after bytes rest (λ start. subst (λ (l : List ℕ). LeadsTo (in_block start) blanks_at l rest) is (a start))))

-- ---- where it ends

pub leads-line : (bytes : List ℕ) (n : ℕ) → n < length bytes → all_are (is_neither 10 13) (take n bytes) ≡ true → first_is (is_neither 10 13) (drop n bytes) ≡ false → LeadsTo in_line blanks_at bytes (drop (n + 1) bytes)
leads-line bytes n less run ends = leads-over in_line blanks_at bytes (n + 1) (omega (arith, less)) (λ p rest. line-over-end p n bytes rest run less ends)

leads-plain : (start : ℕ) (bytes : List ℕ) (n : ℕ) → n ≤ length bytes → all_are (is_neither 42 42) (take n bytes) ≡ true → LeadsTo (in_block start) (in_block start) bytes (drop n bytes)
leads-plain start bytes n within run = leads-over (in_block start) (in_block start) bytes n within (λ p rest. block-over-run start p (take n bytes) rest run)

star-ends : (start : ℕ) (t rest : List ℕ) → 2 ≤ length t → slice_get t 0 ≡ Some 42 → get_or t 1 0 ≡ 47 → rest ≡ drop 2 t → LeadsTo (in_block start) blanks_at t rest
star-ends start [] rest two first second is = absurd (omega (arith, two))
star-ends start (a ∷ []) rest two first second is = absurd (omega (arith, two))
star-ends start (a ∷ b ∷ t) rest two first second is = subst (λ (l : List ℕ). LeadsTo (in_block start) blanks_at (a ∷ b ∷ t) l) (sym is) (record {
  part = some-after (a ∷ b ∷ t) 2 (omega arith);
  fewer = omega arith;
  same = λ p q more e.
      let q_is : p + 2 ≡ q = omega (arith, e) in
      star-then start p (a ∷ b ∷ (t ++ more)) first (ap (λ (k : ℕ). Some k) second) ∙ ap (λ (k : ℕ). blanks_at k (t ++ more)) q_is;
})

star-passed : (start : ℕ) (t rest : List ℕ) → 2 ≤ length t → slice_get t 0 ≡ Some 42 → (get_or t 1 0 ≡ 47 → ⊥) → rest ≡ drop 1 t → LeadsTo (in_block start) (in_block start) t rest
star-passed start [] rest two first other is = absurd (omega (arith, two))
star-passed start (a ∷ []) rest two first other is = absurd (omega (arith, two))
star-passed start (a ∷ b ∷ t) rest two first other is = subst (λ (l : List ℕ). LeadsTo (in_block start) (in_block start) (a ∷ b ∷ t) l) (sym is) (record {
  part = some-after (a ∷ b ∷ t) 1 (omega arith);
  fewer = omega arith;
  same = λ p q more e.
      let q_is : p + 1 ≡ q = omega (arith, e) in
      star-other start p (a ∷ b ∷ (t ++ more)) first (λ h. other (cc h)) ∙ ap (λ (k : ℕ). in_block start k (b ∷ (t ++ more))) q_is;
})

star-at : (bytes star : List ℕ) (n : ℕ) → star ≡ drop n bytes → n ≤ length bytes → 2 ≤ length star → first_is (is_neither 42 42) (drop n bytes) ≡ false → slice_get star 0 ≡ Some 42
star-at bytes star n is within two ends =
    let long = length-drop n bytes in
    let same = ap (λ (l : List ℕ). length l) is in
    ap (λ (l : List ℕ). slice_get l 0) is ∙ star-stands bytes n (omega (arith, long, same, two, within)) ends

pub leads-block : (start : ℕ) (bytes star rest : List ℕ) (n : ℕ) → n ≤ length bytes → all_are (is_neither 42 42) (take n bytes) ≡ true → first_is (is_neither 42 42) (drop n bytes) ≡ false → star ≡ drop n bytes
    → 2 ≤ length star → get_or star 1 0 ≡ 47 → rest ≡ drop 2 star → LeadsTo (in_block start) blanks_at bytes rest
leads-block start bytes star rest n within run ends is two slash after =
    leads-then (in_block start) (in_block start) blanks_at bytes star rest (subst (λ (l : List ℕ). LeadsTo (in_block start) (in_block start) bytes l) (sym is) (leads-plain start bytes n within run))
    (star-ends start star rest two (star-at bytes star n is within two ends) slash after)

pub leads-star : (start : ℕ) (bytes star rest : List ℕ) (n : ℕ) → n ≤ length bytes → all_are (is_neither 42 42) (take n bytes) ≡ true → first_is (is_neither 42 42) (drop n bytes) ≡ false → star ≡ drop n bytes
    → 2 ≤ length star → (get_or star 1 0 ≡ 47 → ⊥) → rest ≡ drop 1 star → LeadsTo (in_block start) (in_block start) bytes rest
leads-star start bytes star rest n within run ends is two other after =
    leads-then (in_block start) (in_block start) (in_block start) bytes star rest (subst (λ (l : List ℕ). LeadsTo (in_block start) (in_block start) bytes l) (sym is) (leads-plain start bytes n within run))
    (star-passed start star rest two (star-at bytes star n is within two ends) other after)
