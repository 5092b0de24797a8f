-- Worked rows of binary that was written and is read again under the same limits: the least limits under which it is accepted.
use Rattle.std.proofs.Common.{inl, inr, arith}
use Rattle.std.specs.Prelude.{◌≡◌, refl, codes, ℕ, false, List, [], ◌∷◌, ◌++◌, length, Some, None}
use Rattle.ion_meter.specs.declared.fault.Reason.TheVariants.{AnnotationLimit, DepthLimit, ScalarLimit}
use Rattle.ion_meter.specs.declared.limits.Limits.{Limits}
use Rattle.ion_meter.specs.Rules.{strict}
use Rattle.ion_value.specs.declared.ion_type.Kind.TheVariants as kind
use Rattle.ion_value.specs.Number.{digits_within, uint_octets}
use Rattle.ion_value.specs.Outcome.{Accepted, Rejected}
use Rattle.ion_value.specs.Value as value
use Rattle.ion_value.specs.Value.{UserSymbol, Known, Value, Top, container, nothing, member, tree}
use Rattle.ion_symbols.specs.Table.{Shared, system}
use Rattle.ion_symbols.specs.Tree.{user_tops}
use Rattle.ion_transcode.specs.declared.to.To.TheVariants as to
use Rattle.ion_transcode.specs.WrittenAgain.{WrittenFits}
use Rattle.ion_transcode.proofs.TopRows.{told, octets, usual}

abbrev within : ℕ → ℕ → ℕ → Limits
within depth scalar symbols = record usual { depth = depth; scalar = scalar; symbols = symbols }

-- the symbol `a`, and its binary: a declaration and an id
abbrev symbol_in_binary : List ℕ
symbol_in_binary = octets "E0 01 00 EA EA 81 83 D7 86 71 03 87 B2 81 61 71 0A"

a_symbol_converted : told [] (within 2 16 64) to.Other (codes "a") ≡ (symbol_in_binary, Accepted 1)
unfolding told
a_symbol_converted = refl

it_is_shown : told [] (within 2 16 64) to.Other symbol_in_binary ≡ (codes "a\n", Accepted 1)
unfolding told
it_is_shown = refl

-- with a lower limit it is written all the same, and refused: a declaration opens two containers, and its annotation counts 16
a_symbol_converted_less_deep : told [] (within 1 16 64) to.Other (codes "a") ≡ (symbol_in_binary, Accepted 1)
unfolding told
a_symbol_converted_less_deep = refl

it_is_too_deep : told [] (within 1 16 64) to.Other symbol_in_binary ≡ ([], Rejected DepthLimit 12)
unfolding told
it_is_too_deep = refl

a_symbol_converted_below_sixteen : told [] (within 2 15 64) to.Other (codes "a") ≡ (symbol_in_binary, Accepted 1)
unfolding told
a_symbol_converted_below_sixteen = refl

its_annotation_is_too_much : told [] (within 2 15 64) to.Other symbol_in_binary ≡ ([], Rejected AnnotationLimit 6)
unfolding told
its_annotation_is_too_much = refl

-- a text of a catalogue that is longer than the limit on scalars is written too, where the limit on symbols is higher
abbrev seventeen : List ℕ
seventeen = codes "abcdefghijklmnopq"

abbrev long_text : List Shared
long_text = record { name = codes "x"; version = 1; slots = Some seventeen ∷ [] } ∷ []

abbrev long_in_binary : List ℕ
long_in_binary = octets "E0 01 00 EA EE 9D 81 83 DE 99 86 71 03 87 BE 93 8E 91" ++ (seventeen ++ octets "71 0A")

a_long_text_converted : told long_text (within 3 16 33) to.Other (codes "$3::{$6:[{$4:\"x\",$8:1}]}$10") ≡ (long_in_binary, Accepted 1)
unfolding told
a_long_text_converted = refl

it_is_too_long : told long_text (within 3 16 33) to.Other long_in_binary ≡ ([], Rejected ScalarLimit 16)
unfolding told
it_is_too_long = refl

-- ---- what the law asks of limits, met by values that declare nothing, or nothing long

abbrev an_int : {S : Type 0} → ℕ → Value S ℕ
an_int n = value.scalar (value.int (record { negative = false; magnitude = n }))

abbrev a_list : {S : Type 0} → List (Top S ℕ)
a_list = tree 0 [] 0 (container kind.List (member nothing None [] 1 (an_int 1)) 2) ∷ []

a_list_converted : told [] (within 1 16 64) to.Other (codes "[1]") ≡ (octets "E0 01 00 EA B2 21 01", Accepted 1)
unfolding told
a_list_converted = refl

a_list_shown : told [] (within 1 16 64) to.Other (octets "E0 01 00 EA B2 21 01") ≡ (codes "[1]\n", Accepted 1)
unfolding told
a_list_shown = refl

its_user_values : user_tops [] system a_list ≡ Some a_list
its_user_values = refl

it_declares_nothing : WrittenFits strict (within 1 16 64) [] a_list
it_declares_nothing = inl (omega arith, inl (tt, tt))

-- the catalogue has a text that is too long, and no value uses it
a_five_converted : told long_text (within 2 16 33) to.Other (codes "5") ≡ (octets "E0 01 00 EA 21 05", Accepted 1)
unfolding told
a_five_converted = refl

abbrev just_five : List (Top UserSymbol ℕ)
just_five = tree 0 [] 0 (an_int 5) ∷ []

a_five : WrittenFits strict (within 2 16 33) long_text just_five
a_five = inl (omega arith, inl (tt, tt))

-- and under the least limits, by its one octet
a_five_at_the_least : told [] (within 0 1 0) to.Other (codes "5") ≡ (octets "E0 01 00 EA 21 05", Accepted 1)
unfolding told
a_five_at_the_least = refl

five_octets : length (uint_octets 5) ≡ 1
unfolding digits_within
five_octets = refl

by_its_octet : WrittenFits strict (within 0 1 0) [] just_five
by_its_octet = inr ((omega arith, omega (arith, five_octets), tt, tt), tt)

abbrev just_a : Value UserSymbol ℕ
just_a = value.scalar (value.symbol (Known (codes "a")))

a_short_text : WrittenFits strict (within 2 16 33) long_text (tree 0 [] 0 just_a ∷ [])
a_short_text = inl (omega arith, inr (record { depth = omega arith; scalar = omega arith }, inl ((λ e. omega arith, tt), tt)))
