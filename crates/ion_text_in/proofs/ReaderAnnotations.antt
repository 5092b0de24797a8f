-- The annotations that the reader keeps.
use Rattle.std.proofs.Common.{◌≡◌, ℕ, ◌+◌, ◌*◌, ◌-◌, ◌≤◌, List, [], ◌∷◌, ◌++◌, length, take, drop, slice_range, sum_by, refl, ap, ◌∙◌, arith, length-append}
use Rattle.std.proofs.lemmas.List.{take-append-le, drop-append-le, length-drop}
use Rattle.std.proofs.lemmas.List.Sums.{sum_by-append}
use Rattle.ion_value.specs.declared.item.Annotation.{Annotation}
use Rattle.ion_value.specs.declared.item.Annotation.TheVariants as annotation
use Rattle.ion_value.specs.Items.{raw_annotation}
use Rattle.ion_value.specs.Value.{SymbolAt}
use Rattle.ion_value.specs.Value as value
use Rattle.ion_text_in.specs.declared.token.Symbol.{Symbol}
use Rattle.ion_text_in.specs.declared.token.Symbol.TheVariants as symbol
use Rattle.ion_text_in.specs.Positions.{at}
use Rattle.ion_text_in.specs.Reading.{cost}
use Rattle.ion_text_in.specs.Tokens.{as_symbol}
use Rattle.ion_text_in.specs.Symbols.{as_annotations, kept_text, AreKept, AreWithin, IsKept, IsWithin}

part-same : (texts more : List ℕ) (from to : ℕ) → from ≤ to → to ≤ length texts → slice_range (texts ++ more) from to ≡ slice_range texts from to
part-same texts more from to first last =
    ap (λ (l : List ℕ). take (to - from) l) (drop-append-le from texts more (omega (arith, first, last)))
    ∙ take-append-le (to - from) (drop from texts) more (let n = length-drop from texts in omega (arith, n, first, last))

told-same : (texts more : List ℕ) (a : Annotation) → IsWithin (length texts) a → raw_annotation (texts ++ more) a ≡ raw_annotation texts a
told-same texts more (annotation.Text from to place) h = ap (λ (l : List ℕ). at (value.Text l) place) (part-same texts more from to h.0 h.1)
told-same texts more (annotation.Id id place) h = refl

told-more : (texts more : List ℕ) (annotations : List Annotation) → AreWithin (length texts) annotations → as_annotations (texts ++ more) annotations ≡ as_annotations texts annotations
told-more texts more [] h = refl
told-more texts more (a ∷ annotations) h =
    ap (λ (x : SymbolAt). x ∷ as_annotations (texts ++ more) annotations) (told-same texts more a h.0)
    ∙ ap (λ (l : List SymbolAt). raw_annotation texts a ∷ l) (told-more texts more annotations h.1)

within-more : (n m : ℕ) (a : Annotation) → n ≤ m → IsWithin n a → IsWithin m a
within-more n m (annotation.Text from to place) le h = (h.0, omega (arith, h.1, le))
within-more n m (annotation.Id id place) le h = tt

all-within : (n m : ℕ) (annotations : List Annotation) (a : Annotation) → n ≤ m → AreWithin n annotations → IsWithin m a → AreWithin m (annotations ++ a ∷ [])
all-within n m [] a le h last = (last, tt)
all-within n m (b ∷ annotations) a le h last = (within-more n m b le h.0, all-within n m annotations a le h.1 last)

told-append : (texts : List ℕ) (annotations : List Annotation) (a : Annotation) → as_annotations texts (annotations ++ a ∷ []) ≡ as_annotations texts annotations ++ raw_annotation texts a ∷ []
told-append texts [] a = refl
told-append texts (b ∷ annotations) a = ap (λ (l : List SymbolAt). raw_annotation texts b ∷ l) (told-append texts annotations a)

-- one more
pub told-kept : (annotations : List Annotation) (texts new text : List ℕ) (s : Symbol) (place : ℕ) (a : Annotation) → AreKept annotations texts → IsKept texts new text s place a
    → as_annotations new (annotations ++ a ∷ []) ≡ as_annotations texts annotations ++ at (as_symbol text s) place ∷ []
told-kept annotations texts new text s place a kept one =
    told-append new annotations a
    ∙ (ap (λ (x : SymbolAt). as_annotations new annotations ++ x ∷ []) one.told
    ∙ ap (λ (l : List SymbolAt). l ++ at (as_symbol text s) place ∷ []) (ap (λ (t : List ℕ). as_annotations t annotations) one.texts ∙ told-more texts (kept_text text s) annotations kept.within))

pub cost-kept : (text : List ℕ) (s : Symbol) (place : ℕ) → cost (at (as_symbol text s) place) ≡ 16 + length (kept_text text s)
cost-kept text symbol.Text place = refl
cost-kept text (symbol.Id id) place = refl

-- what the annotations cost with one more
pub costs-kept : (annotations : List Annotation) (texts text : List ℕ) (s : Symbol) (place : ℕ) → AreKept annotations texts
    → sum_by cost (as_annotations texts annotations ++ at (as_symbol text s) place ∷ []) ≡ 16 * length annotations + length texts + (16 + length (kept_text text s))
costs-kept annotations texts text s place kept =
    let all = sum_by-append cost (as_annotations texts annotations) (at (as_symbol text s) place ∷ []) in
    let before = kept.costs in
    let one = cost-kept text s place in
    omega (arith, all, before, one)

pub kept-more : (annotations : List Annotation) (texts new text : List ℕ) (s : Symbol) (place : ℕ) (a : Annotation) → AreKept annotations texts → IsKept texts new text s place a
    → AreKept (annotations ++ a ∷ []) new
kept-more annotations texts new text s place a kept one =
    let grown : length new ≡ length texts + length (kept_text text s) = ap (λ (l : List ℕ). length l) one.texts ∙ length-append texts (kept_text text s) in
    let more : length (annotations ++ a ∷ []) ≡ length annotations + 1 = length-append annotations (a ∷ []) in
    record {
      within = all-within (length texts) (length new) annotations a (omega (arith, grown)) kept.within one.within;
      costs =
          ap (λ (l : List SymbolAt). sum_by cost l) (told-kept annotations texts new text s place a kept one)
          ∙ (costs-kept annotations texts text s place kept ∙ omega (arith, grown, more));
    }
