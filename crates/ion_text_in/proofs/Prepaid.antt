-- What may be taken for a word or a token that was read.
use Rattle.std.proofs.Common.{◌≡◌, ◌≤◌, ℕ, List, length, refl, arith}
use Rattle.ion_text_in.specs.declared.word.Word.{Word}
use Rattle.ion_text_in.specs.declared.word.Word.TheVariants as word
use Rattle.ion_text_in.specs.Symbols.{prepaid_word}

-- for a word its text at most
pub prepaid_word-most : (text : List ℕ) (w : Word) → prepaid_word text w ≤ length text
prepaid_word-most text (word.Null type) = omega arith
prepaid_word-most text w = omega arith

-- nothing for one that is no name
pub prepaid_word-none : (text : List ℕ) (w : Word) → (w ≡ word.Name → ⊥) → prepaid_word text w ≡ 0
prepaid_word-none text word.Name other = absurd (other refl)
prepaid_word-none text w other = refl
