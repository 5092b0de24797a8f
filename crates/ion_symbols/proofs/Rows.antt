-- Worked rows, by computing: raw items in, the items of user values and how they end out.
use Rattle.std.specs.Prelude.{◌≡◌, refl, ℕ, List, [], ◌∷◌, Bool, true, false, Option, Some, None, codes}
use Rattle.ion_meter.specs.declared.fault.Reason.TheVariants as reasons
use Rattle.ion_value.specs.declared.ion_type.IonType.TheVariants as type
use Rattle.ion_value.specs.declared.ion_type.Kind.TheVariants as kind
use Rattle.ion_value.specs.Value as v
use Rattle.ion_value.specs.Value.{Symbol, SymbolAt, Head, PlacedItem, begin, marker}
use Rattle.ion_value.specs.Reading.{Finished, Stopped, More}
use Rattle.ion_symbols.specs.Table.{Shared}
use Rattle.ion_symbols.specs.Users.{users, at_start}

abbrev it : ℕ → Option SymbolAt → List SymbolAt → ℕ → Head SymbolAt → PlacedItem
it top field annotations place head = record { field = field; annotations = annotations; head = head; place = place; top = top }

abbrev text : List ℕ → Symbol
text t = v.Text t

abbrev id : ℕ → Symbol
id n = v.Id n

abbrev sym : Symbol → ℕ → SymbolAt
sym s p = record { symbol = s; place = p }

abbrev int_head : Bool → ℕ → Head SymbolAt
int_head b n = v.whole (v.int (record { negative = b; magnitude = n }))

abbrev sym_head : SymbolAt → Head SymbolAt
sym_head m = v.whole (v.symbol m)

abbrev str_head : List ℕ → Head SymbolAt
str_head t = v.whole (v.string t)

abbrev other_head : Head SymbolAt
other_head = v.whole (v.null type.Null)

abbrev shared : List ℕ → ℕ → List (Option (List ℕ)) → Shared
shared n k s = record { name = n; version = k; slots = s }

import_not_found : users [] 1048576 at_start (More (it 0 None (sym (text (codes "$ion_symbol_table")) 0 ∷ []) 19 (begin kind.Struct)) (More (it 0 (Some (sym (text (codes "imports")) 20)) [] 28 (begin kind.List)) (More (it 0 None [] 29 (begin kind.Struct)) (More (it 0 (Some (sym (text (codes "name")) 30)) [] 35 (str_head (codes "x"))) (More (it 0 (Some (sym (text (codes "version")) 39)) [] 47 (int_head false 1)) (More (it 0 (Some (sym (text (codes "max_id")) 49)) [] 56 (int_head false 2)) (More (it 0 None [] 57 (v.end)) (More (it 0 None [] 58 (v.end)) (More (it 0 (Some (sym (text (codes "symbols")) 60)) [] 68 (begin kind.List)) (More (it 0 None [] 69 (str_head (codes "a"))) (More (it 0 None [] 72 (v.end)) (More (it 0 None [] 73 (v.end)) (More (it 75 None [] 75 (sym_head (sym (id 12) 75))) (More (it 79 None [] 79 (sym_head (sym (id 10) 79))) (Finished))))))))))))))) ≡ (More (it 75 None [] 75 (sym_head (sym (text (codes "a")) 75))) (Stopped reasons.UnknownSymbol 79))
import_not_found = refl

import_found : users (shared (codes "x") 1 (Some (codes "p") ∷ Some (codes "q") ∷ []) ∷ []) 1048576 at_start (More (it 0 None (sym (text (codes "$ion_symbol_table")) 0 ∷ []) 19 (begin kind.Struct)) (More (it 0 (Some (sym (text (codes "imports")) 20)) [] 28 (begin kind.List)) (More (it 0 None [] 29 (begin kind.Struct)) (More (it 0 (Some (sym (text (codes "name")) 30)) [] 35 (str_head (codes "x"))) (More (it 0 (Some (sym (text (codes "version")) 39)) [] 47 (int_head false 1)) (More (it 0 (Some (sym (text (codes "max_id")) 49)) [] 56 (int_head false 2)) (More (it 0 None [] 57 (v.end)) (More (it 0 None [] 58 (v.end)) (More (it 0 (Some (sym (text (codes "symbols")) 60)) [] 68 (begin kind.List)) (More (it 0 None [] 69 (str_head (codes "a"))) (More (it 0 None [] 72 (v.end)) (More (it 0 None [] 73 (v.end)) (More (it 75 None [] 75 (sym_head (sym (id 12) 75))) (More (it 79 None [] 79 (sym_head (sym (id 10) 79))) (Finished))))))))))))))) ≡ (More (it 75 None [] 75 (sym_head (sym (text (codes "a")) 75))) (More (it 79 None [] 79 (sym_head (sym (text (codes "p")) 79))) (Finished)))
import_found = refl

appended : users [] 1048576 at_start (More (it 0 None [] 0 (marker)) (More (it 4 None (sym (id 3) 6 ∷ []) 7 (begin kind.Struct)) (More (it 4 (Some (sym (id 7) 8)) [] 9 (begin kind.List)) (More (it 4 None [] 10 (str_head (codes "a"))) (More (it 4 None [] 12 (v.end)) (More (it 4 (Some (sym (id 6) 12)) [] 13 (sym_head (sym (id 3) 13))) (More (it 4 None [] 15 (v.end)) (More (it 15 None (sym (id 3) 17 ∷ []) 18 (begin kind.Struct)) (More (it 15 (Some (sym (id 7) 19)) [] 20 (begin kind.List)) (More (it 15 None [] 21 (str_head (codes "b"))) (More (it 15 None [] 23 (v.end)) (More (it 15 (Some (sym (id 6) 23)) [] 24 (sym_head (sym (id 3) 24))) (More (it 15 None [] 26 (v.end)) (More (it 26 None [] 26 (sym_head (sym (id 10) 26))) (More (it 28 None [] 28 (sym_head (sym (id 11) 28))) (Finished)))))))))))))))) ≡ (More (it 26 None [] 26 (sym_head (sym (text (codes "a")) 26))) (More (it 28 None [] 28 (sym_head (sym (text (codes "b")) 28))) (Finished)))
appended = refl

appended_past_limit : users [] 33 at_start (More (it 0 None [] 0 (marker)) (More (it 4 None (sym (id 3) 6 ∷ []) 7 (begin kind.Struct)) (More (it 4 (Some (sym (id 7) 8)) [] 9 (begin kind.List)) (More (it 4 None [] 10 (str_head (codes "a"))) (More (it 4 None [] 12 (v.end)) (More (it 4 (Some (sym (id 6) 12)) [] 13 (sym_head (sym (id 3) 13))) (More (it 4 None [] 15 (v.end)) (More (it 15 None (sym (id 3) 17 ∷ []) 18 (begin kind.Struct)) (More (it 15 (Some (sym (id 7) 19)) [] 20 (begin kind.List)) (More (it 15 None [] 21 (str_head (codes "b"))) (More (it 15 None [] 23 (v.end)) (More (it 15 (Some (sym (id 6) 23)) [] 24 (sym_head (sym (id 3) 24))) (More (it 15 None [] 26 (v.end)) (More (it 26 None [] 26 (sym_head (sym (id 10) 26))) (More (it 28 None [] 28 (sym_head (sym (id 11) 28))) (Finished)))))))))))))))) ≡ (Stopped reasons.SymbolLimit 24)
appended_past_limit = refl

appended_within_limit : users [] 34 at_start (More (it 0 None [] 0 (marker)) (More (it 4 None (sym (id 3) 6 ∷ []) 7 (begin kind.Struct)) (More (it 4 (Some (sym (id 7) 8)) [] 9 (begin kind.List)) (More (it 4 None [] 10 (str_head (codes "a"))) (More (it 4 None [] 12 (v.end)) (More (it 4 (Some (sym (id 6) 12)) [] 13 (sym_head (sym (id 3) 13))) (More (it 4 None [] 15 (v.end)) (More (it 15 None (sym (id 3) 17 ∷ []) 18 (begin kind.Struct)) (More (it 15 (Some (sym (id 7) 19)) [] 20 (begin kind.List)) (More (it 15 None [] 21 (str_head (codes "b"))) (More (it 15 None [] 23 (v.end)) (More (it 15 (Some (sym (id 6) 23)) [] 24 (sym_head (sym (id 3) 24))) (More (it 15 None [] 26 (v.end)) (More (it 26 None [] 26 (sym_head (sym (id 10) 26))) (More (it 28 None [] 28 (sym_head (sym (id 11) 28))) (Finished)))))))))))))))) ≡ (More (it 26 None [] 26 (sym_head (sym (text (codes "a")) 26))) (More (it 28 None [] 28 (sym_head (sym (text (codes "b")) 28))) (Finished)))
appended_within_limit = refl

field_before_nop_pad : users [] 1048576 at_start (More (it 0 None [] 0 (marker)) (More (it 4 None [] 4 (begin kind.Struct)) (More (it 4 (Some (sym (id 4) 8)) [] 9 (other_head)) (More (it 4 None [] 10 (v.end)) (Finished))))) ≡ (More (it 4 None [] 4 (begin kind.Struct)) (More (it 4 (Some (sym (text (codes "name")) 8)) [] 9 (other_head)) (More (it 4 None [] 10 (v.end)) (Finished))))
field_before_nop_pad = refl

field_above : users [] 1048576 at_start (More (it 0 None [] 0 (begin kind.Struct)) (More (it 0 (Some (sym (id 99) 1)) [] 5 (int_head false 1)) (More (it 0 None [] 6 (v.end)) (Finished)))) ≡ (More (it 0 None [] 0 (begin kind.Struct)) (Stopped reasons.BadSymbol 1))
field_above = refl

own_parts_first : users [] 1048576 at_start (More (it 0 None [] 0 (begin kind.Struct)) (Stopped reasons.BadToken 5)) ≡ (More (it 0 None [] 0 (begin kind.Struct)) (Stopped reasons.BadToken 5))
own_parts_first = refl

symbol_above : users [] 1048576 at_start (More (it 0 None [] 0 (marker)) (More (it 4 None [] 4 (sym_head (sym (id 10) 4))) (Finished))) ≡ (Stopped reasons.BadSymbol 4)
symbol_above = refl

id_zero : users [] 1048576 at_start (More (it 0 None [] 0 (marker)) (More (it 4 None [] 4 (sym_head (sym (id 0) 4))) (Finished))) ≡ (More (it 4 None [] 4 (sym_head (sym (id 0) 4))) (Finished))
id_zero = refl

element_without_text : users [] 1048576 at_start (More (it 0 None [] 0 (marker)) (More (it 4 None (sym (id 3) 6 ∷ []) 7 (begin kind.Struct)) (More (it 4 (Some (sym (id 6) 8)) [] 9 (sym_head (sym (id 3) 9))) (More (it 4 (Some (sym (id 7) 11)) [] 12 (begin kind.List)) (More (it 4 None [] 13 (int_head false 5)) (More (it 4 None [] 15 (v.end)) (More (it 4 None [] 15 (v.end)) (More (it 15 None [] 15 (sym_head (sym (id 10) 15))) (Finished))))))))) ≡ (More (it 15 None [] 15 (sym_head (sym (id 10) 15))) (Finished))
element_without_text = refl

symbols_twice : users [] 1048576 at_start (More (it 0 None [] 0 (marker)) (More (it 4 None (sym (id 3) 6 ∷ []) 7 (begin kind.Struct)) (More (it 4 (Some (sym (id 7) 8)) [] 9 (begin kind.List)) (More (it 4 None [] 10 (v.end)) (More (it 4 (Some (sym (id 7) 10)) [] 11 (begin kind.List)) (More (it 4 None [] 12 (v.end)) (More (it 4 None [] 12 (v.end)) (Finished)))))))) ≡ (Stopped reasons.BadTable 10)
symbols_twice = refl

marker_resets : users [] 1048576 at_start (More (it 0 None [] 0 (marker)) (More (it 4 None (sym (id 3) 6 ∷ []) 7 (begin kind.Struct)) (More (it 4 (Some (sym (id 7) 8)) [] 9 (begin kind.List)) (More (it 4 None [] 10 (str_head (codes "a"))) (More (it 4 None [] 12 (v.end)) (More (it 4 (Some (sym (id 6) 12)) [] 13 (sym_head (sym (id 3) 13))) (More (it 4 None [] 15 (v.end)) (More (it 15 None [] 15 (marker)) (More (it 19 None [] 19 (sym_head (sym (id 10) 19))) (Finished)))))))))) ≡ (Stopped reasons.BadSymbol 19)
marker_resets = refl

greatest_version : users (shared (codes "x") 1 (Some (codes "p") ∷ Some (codes "q") ∷ []) ∷ shared (codes "x") 3 (Some (codes "r") ∷ Some (codes "s") ∷ Some (codes "t") ∷ []) ∷ []) 1048576 at_start (More (it 0 None (sym (text (codes "$ion_symbol_table")) 0 ∷ []) 19 (begin kind.Struct)) (More (it 0 (Some (sym (text (codes "imports")) 20)) [] 28 (begin kind.List)) (More (it 0 None [] 29 (begin kind.Struct)) (More (it 0 (Some (sym (text (codes "name")) 30)) [] 35 (str_head (codes "x"))) (More (it 0 (Some (sym (text (codes "version")) 39)) [] 47 (int_head false 2)) (More (it 0 (Some (sym (text (codes "max_id")) 49)) [] 56 (int_head false 4)) (More (it 0 None [] 57 (v.end)) (More (it 0 None [] 58 (v.end)) (More (it 0 None [] 59 (v.end)) (More (it 61 None [] 61 (sym_head (sym (id 10) 61))) (More (it 65 None [] 65 (sym_head (sym (id 12) 65))) (More (it 69 None [] 69 (sym_head (sym (id 13) 69))) (Finished))))))))))))) ≡ (More (it 61 None [] 61 (sym_head (sym (text (codes "r")) 61))) (More (it 65 None [] 65 (sym_head (sym (text (codes "t")) 65))) (Stopped reasons.UnknownSymbol 69)))
greatest_version = refl

exact_version_missing : users (shared (codes "x") 1 (Some (codes "p") ∷ Some (codes "q") ∷ []) ∷ shared (codes "x") 3 (Some (codes "r") ∷ Some (codes "s") ∷ Some (codes "t") ∷ []) ∷ []) 1048576 at_start (More (it 0 None (sym (text (codes "$ion_symbol_table")) 0 ∷ []) 19 (begin kind.Struct)) (More (it 0 (Some (sym (text (codes "imports")) 20)) [] 28 (begin kind.List)) (More (it 0 None [] 29 (begin kind.Struct)) (More (it 0 (Some (sym (text (codes "name")) 30)) [] 35 (str_head (codes "x"))) (More (it 0 (Some (sym (text (codes "version")) 39)) [] 47 (int_head false 2)) (More (it 0 None [] 48 (v.end)) (More (it 0 None [] 49 (v.end)) (More (it 0 None [] 50 (v.end)) (Finished))))))))) ≡ (Stopped reasons.BadTable 29)
exact_version_missing = refl

import_past_limit : users (shared (codes "x") 1 (Some (codes "p") ∷ Some (codes "q") ∷ []) ∷ shared (codes "x") 3 (Some (codes "r") ∷ Some (codes "s") ∷ Some (codes "t") ∷ []) ∷ []) 31 at_start (More (it 0 None (sym (text (codes "$ion_symbol_table")) 0 ∷ []) 19 (begin kind.Struct)) (More (it 0 (Some (sym (text (codes "imports")) 20)) [] 28 (begin kind.List)) (More (it 0 None [] 29 (begin kind.Struct)) (More (it 0 (Some (sym (text (codes "name")) 30)) [] 35 (str_head (codes "x"))) (More (it 0 (Some (sym (text (codes "max_id")) 39)) [] 46 (int_head false 1)) (More (it 0 None [] 47 (v.end)) (More (it 0 None [] 48 (v.end)) (More (it 0 None [] 49 (v.end)) (Finished))))))))) ≡ (Stopped reasons.SymbolLimit 29)
import_past_limit = refl

import_within_limit : users (shared (codes "x") 1 (Some (codes "p") ∷ Some (codes "q") ∷ []) ∷ shared (codes "x") 3 (Some (codes "r") ∷ Some (codes "s") ∷ Some (codes "t") ∷ []) ∷ []) 32 at_start (More (it 0 None (sym (text (codes "$ion_symbol_table")) 0 ∷ []) 19 (begin kind.Struct)) (More (it 0 (Some (sym (text (codes "imports")) 20)) [] 28 (begin kind.List)) (More (it 0 None [] 29 (begin kind.Struct)) (More (it 0 (Some (sym (text (codes "name")) 30)) [] 35 (str_head (codes "x"))) (More (it 0 (Some (sym (text (codes "max_id")) 39)) [] 46 (int_head false 1)) (More (it 0 None [] 47 (v.end)) (More (it 0 None [] 48 (v.end)) (More (it 0 None [] 49 (v.end)) (Finished))))))))) ≡ Finished
import_within_limit = refl

most_ids : users [] 1048576 at_start (More (it 0 None (sym (text (codes "$ion_symbol_table")) 0 ∷ []) 19 (begin kind.Struct)) (More (it 0 (Some (sym (text (codes "imports")) 20)) [] 28 (begin kind.List)) (More (it 0 None [] 29 (begin kind.Struct)) (More (it 0 (Some (sym (text (codes "name")) 30)) [] 35 (str_head (codes "x"))) (More (it 0 (Some (sym (text (codes "max_id")) 39)) [] 46 (int_head false 2147483638)) (More (it 0 None [] 56 (v.end)) (More (it 0 None [] 57 (v.end)) (More (it 0 None [] 58 (v.end)) (More (it 60 None [] 60 (int_head false 1)) (Finished)))))))))) ≡ (More (it 60 None [] 60 (int_head false 1)) (Finished))
most_ids = refl

too_many_ids : users [] 1048576 at_start (More (it 0 None (sym (text (codes "$ion_symbol_table")) 0 ∷ []) 19 (begin kind.Struct)) (More (it 0 (Some (sym (text (codes "imports")) 20)) [] 28 (begin kind.List)) (More (it 0 None [] 29 (begin kind.Struct)) (More (it 0 (Some (sym (text (codes "name")) 30)) [] 35 (str_head (codes "x"))) (More (it 0 (Some (sym (text (codes "max_id")) 39)) [] 46 (int_head false 2147483639)) (More (it 0 None [] 56 (v.end)) (More (it 0 None [] 57 (v.end)) (More (it 0 None [] 58 (v.end)) (More (it 60 None [] 60 (int_head false 1)) (Finished)))))))))) ≡ (Stopped reasons.SymbolLimit 29)
too_many_ids = refl

ignored_name : users [] 3 at_start (More (it 0 None (sym (text (codes "$ion_symbol_table")) 0 ∷ []) 19 (begin kind.Struct)) (More (it 0 (Some (sym (text (codes "imports")) 20)) [] 28 (begin kind.List)) (More (it 0 None [] 29 (begin kind.Struct)) (More (it 0 (Some (sym (text (codes "name")) 30)) [] 35 (str_head (codes "$ion"))) (More (it 0 None [] 41 (v.end)) (More (it 0 None [] 42 (v.end)) (More (it 0 None [] 43 (v.end)) (More (it 45 None [] 45 (int_head false 1)) (Finished))))))))) ≡ (Stopped reasons.SymbolLimit 35)
ignored_name = refl

annotated_element : users [] 16 at_start (More (it 0 None (sym (text (codes "$ion_symbol_table")) 0 ∷ []) 19 (begin kind.Struct)) (More (it 0 (Some (sym (text (codes "symbols")) 20)) [] 28 (begin kind.List)) (More (it 0 None (sym (text (codes "a")) 29 ∷ []) 32 (str_head (codes "b"))) (More (it 0 None [] 35 (v.end)) (More (it 0 None [] 36 (v.end)) (Finished)))))) ≡ (Stopped reasons.SymbolLimit 32)
annotated_element = refl

annotated_passes : users [] 15 at_start (More (it 0 None (sym (text (codes "$ion_symbol_table")) 0 ∷ []) 19 (begin kind.Struct)) (More (it 0 (Some (sym (text (codes "symbols")) 20)) [] 28 (begin kind.List)) (More (it 0 None (sym (text (codes "a")) 29 ∷ []) 32 (str_head (codes "b"))) (More (it 0 None [] 35 (v.end)) (More (it 0 None [] 36 (v.end)) (Finished)))))) ≡ (Stopped reasons.SymbolLimit 32)
annotated_passes = refl

element_container : users [] 1048576 at_start (More (it 0 None (sym (text (codes "$ion_symbol_table")) 0 ∷ []) 19 (begin kind.Struct)) (More (it 0 (Some (sym (text (codes "symbols")) 20)) [] 28 (begin kind.List)) (More (it 0 None [] 29 (begin kind.List)) (More (it 0 None [] 30 (int_head false 1)) (More (it 0 None [] 32 (str_head (codes "c"))) (More (it 0 None [] 36 (begin kind.Struct)) (More (it 0 (Some (sym (text (codes "name")) 37)) [] 42 (int_head false 2)) (More (it 0 None [] 43 (v.end)) (More (it 0 None [] 44 (v.end)) (More (it 0 None [] 46 (str_head (codes "d"))) (More (it 0 None [] 49 (v.end)) (More (it 0 None [] 50 (v.end)) (More (it 52 None [] 52 (sym_head (sym (id 10) 52))) (More (it 56 None [] 56 (sym_head (sym (id 11) 56))) (More (it 60 None [] 60 (sym_head (sym (id 12) 60))) (Finished)))))))))))))))) ≡ (More (it 52 None [] 52 (sym_head (sym (id 10) 52))) (More (it 56 None [] 56 (sym_head (sym (text (codes "d")) 56))) (Stopped reasons.BadSymbol 60)))
element_container = refl

element_content : users [] 1048576 at_start (More (it 0 None (sym (text (codes "$ion_symbol_table")) 0 ∷ []) 19 (begin kind.Struct)) (More (it 0 (Some (sym (text (codes "symbols")) 20)) [] 28 (begin kind.List)) (More (it 0 None [] 29 (begin kind.List)) (More (it 0 None [] 30 (sym_head (sym (id 11) 30))) (More (it 0 None [] 33 (v.end)) (More (it 0 None [] 34 (v.end)) (More (it 0 None [] 35 (v.end)) (More (it 37 None [] 37 (sym_head (sym (id 10) 37))) (Finished))))))))) ≡ (Stopped reasons.BadSymbol 30)
element_content = refl

ignored_list : users [] 1024 at_start (More (it 0 None (sym (text (codes "$ion_symbol_table")) 0 ∷ []) 19 (begin kind.Struct)) (More (it 0 (Some (sym (text (codes "name")) 20)) [] 25 (begin kind.List)) (More (it 0 None [] 26 (int_head false 5)) (More (it 0 None [] 28 (int_head false 5)) (More (it 0 None [] 30 (int_head false 5)) (More (it 0 None [] 32 (begin kind.List)) (More (it 0 None [] 33 (int_head false 5)) (More (it 0 None [] 34 (v.end)) (More (it 0 None [] 35 (v.end)) (More (it 0 (Some (sym (text (codes "symbols")) 37)) [] 45 (begin kind.List)) (More (it 0 None [] 46 (str_head (codes "a"))) (More (it 0 None [] 49 (v.end)) (More (it 0 None [] 50 (v.end)) (More (it 52 None [] 52 (sym_head (sym (id 10) 52))) (Finished))))))))))))))) ≡ (More (it 52 None [] 52 (sym_head (sym (text (codes "a")) 52))) (Finished))
ignored_list = refl

own_annotations : users [] 1048576 at_start (More (it 0 None (sym (text (codes "$ion_symbol_table")) 0 ∷ []) 19 (begin kind.Struct)) (More (it 0 (Some (sym (text (codes "imports")) 20)) [] 28 (begin kind.List)) (More (it 0 None [] 29 (begin kind.Struct)) (More (it 0 (Some (sym (text (codes "name")) 30)) [] 35 (str_head (codes "x"))) (More (it 0 (Some (sym (text (codes "max_id")) 39)) [] 46 (int_head false 4)) (More (it 0 None [] 47 (v.end)) (More (it 0 None [] 48 (v.end)) (More (it 0 None [] 49 (v.end)) (More (it 51 None (sym (text (codes "$ion_symbol_table")) 51 ∷ sym (id 13) 70 ∷ []) 75 (begin kind.Struct)) (More (it 51 (Some (sym (text (codes "symbols")) 76)) [] 84 (begin kind.List)) (More (it 51 None [] 85 (str_head (codes "e"))) (More (it 51 None [] 88 (v.end)) (More (it 51 None [] 89 (v.end)) (More (it 91 None [] 91 (sym_head (sym (id 10) 91))) (Finished))))))))))))))) ≡ (More (it 91 None [] 91 (sym_head (sym (text (codes "e")) 91))) (Finished))
own_annotations = refl

first_gap : users [] 1048576 at_start (More (it 0 None (sym (text (codes "$ion_symbol_table")) 0 ∷ []) 19 (begin kind.Struct)) (More (it 0 (Some (sym (text (codes "imports")) 20)) [] 28 (begin kind.List)) (More (it 0 None [] 29 (begin kind.Struct)) (More (it 0 (Some (sym (text (codes "name")) 30)) [] 35 (str_head (codes "x"))) (More (it 0 (Some (sym (text (codes "max_id")) 39)) [] 46 (int_head false 4)) (More (it 0 None [] 47 (v.end)) (More (it 0 None [] 48 (v.end)) (More (it 0 None [] 49 (v.end)) (More (it 51 None (sym (id 13) 51 ∷ sym (text (codes "$ion_symbol_table")) 56 ∷ []) 75 (begin kind.Struct)) (More (it 51 None [] 76 (v.end)) (Finished))))))))))) ≡ (Stopped reasons.UnknownSymbol 51)
first_gap = refl

order_gap_first : users [] 1048576 at_start (More (it 0 None (sym (text (codes "$ion_symbol_table")) 0 ∷ []) 19 (begin kind.Struct)) (More (it 0 (Some (sym (text (codes "imports")) 20)) [] 28 (begin kind.List)) (More (it 0 None [] 29 (begin kind.Struct)) (More (it 0 (Some (sym (text (codes "name")) 30)) [] 35 (str_head (codes "x"))) (More (it 0 (Some (sym (text (codes "version")) 39)) [] 47 (int_head false 1)) (More (it 0 (Some (sym (text (codes "max_id")) 49)) [] 56 (int_head false 2)) (More (it 0 None [] 57 (v.end)) (More (it 0 None [] 58 (v.end)) (More (it 0 None [] 59 (v.end)) (More (it 61 None [] 61 (begin kind.Struct)) (More (it 61 (Some (sym (id 11) 62)) [] 66 (sym_head (sym (id 99) 66))) (More (it 61 None [] 69 (v.end)) (Finished))))))))))))) ≡ (More (it 61 None [] 61 (begin kind.Struct)) (Stopped reasons.UnknownSymbol 62))
order_gap_first = refl

order_meaning_last : users [] 1048576 at_start (More (it 0 None (sym (text (codes "$ion_symbol_table")) 0 ∷ []) 19 (begin kind.Struct)) (More (it 0 (Some (sym (text (codes "symbols")) 20)) [] 28 (begin kind.List)) (More (it 0 None [] 29 (v.end)) (More (it 0 (Some (sym (text (codes "symbols")) 31)) [] 39 (sym_head (sym (id 99) 39))) (More (it 0 None [] 42 (v.end)) (Finished)))))) ≡ (Stopped reasons.BadSymbol 39)
order_meaning_last = refl

doubled_before_limit : users [] 33 at_start (More (it 0 None (sym (text (codes "$ion_symbol_table")) 0 ∷ []) 19 (begin kind.Struct)) (More (it 0 (Some (sym (text (codes "symbols")) 20)) [] 28 (begin kind.List)) (More (it 0 None [] 29 (str_head (codes "a"))) (More (it 0 None [] 32 (v.end)) (More (it 0 None [] 33 (v.end)) (More (it 35 None (sym (text (codes "$ion_symbol_table")) 35 ∷ []) 54 (begin kind.Struct)) (More (it 35 (Some (sym (text (codes "symbols")) 55)) [] 63 (begin kind.List)) (More (it 35 None [] 64 (str_head (codes "b"))) (More (it 35 None [] 67 (v.end)) (More (it 35 (Some (sym (text (codes "imports")) 69)) [] 77 (begin kind.List)) (More (it 35 None [] 78 (v.end)) (More (it 35 (Some (sym (text (codes "imports")) 80)) [] 88 (sym_head (sym (text (codes "$ion_symbol_table")) 88))) (More (it 35 None [] 105 (v.end)) (Finished)))))))))))))) ≡ (Stopped reasons.BadTable 80)
doubled_before_limit = refl

doubled_name : users [] 1048576 at_start (More (it 0 None (sym (text (codes "$ion_symbol_table")) 0 ∷ []) 19 (begin kind.Struct)) (More (it 0 (Some (sym (text (codes "imports")) 20)) [] 28 (begin kind.List)) (More (it 0 None [] 29 (begin kind.Struct)) (More (it 0 (Some (sym (text (codes "name")) 30)) [] 35 (int_head false 5)) (More (it 0 (Some (sym (text (codes "name")) 37)) [] 42 (str_head (codes "x"))) (More (it 0 None [] 45 (v.end)) (More (it 0 None [] 46 (v.end)) (More (it 0 None [] 47 (v.end)) (Finished))))))))) ≡ (Stopped reasons.BadTable 37)
doubled_name = refl

version_zero : users (shared (codes "x") 1 (Some (codes "p") ∷ Some (codes "q") ∷ []) ∷ []) 1048576 at_start (More (it 0 None (sym (text (codes "$ion_symbol_table")) 0 ∷ []) 19 (begin kind.Struct)) (More (it 0 (Some (sym (text (codes "imports")) 20)) [] 28 (begin kind.List)) (More (it 0 None [] 29 (begin kind.Struct)) (More (it 0 (Some (sym (text (codes "name")) 30)) [] 35 (str_head (codes "x"))) (More (it 0 (Some (sym (text (codes "version")) 39)) [] 47 (int_head false 0)) (More (it 0 None [] 48 (v.end)) (More (it 0 None [] 50 (begin kind.Struct)) (More (it 0 (Some (sym (text (codes "name")) 51)) [] 56 (str_head (codes "x"))) (More (it 0 (Some (sym (text (codes "version")) 60)) [] 68 (int_head true 3)) (More (it 0 None [] 70 (v.end)) (More (it 0 None [] 71 (v.end)) (More (it 0 None [] 72 (v.end)) (More (it 74 None [] 74 (sym_head (sym (id 10) 74))) (More (it 78 None [] 78 (sym_head (sym (id 12) 78))) (Finished))))))))))))))) ≡ (More (it 74 None [] 74 (sym_head (sym (text (codes "p")) 74))) (More (it 78 None [] 78 (sym_head (sym (text (codes "p")) 78))) (Finished)))
version_zero = refl

null_max : users (shared (codes "x") 1 (Some (codes "p") ∷ Some (codes "q") ∷ []) ∷ []) 1048576 at_start (More (it 0 None (sym (text (codes "$ion_symbol_table")) 0 ∷ []) 19 (begin kind.Struct)) (More (it 0 (Some (sym (text (codes "imports")) 20)) [] 28 (begin kind.List)) (More (it 0 None [] 29 (begin kind.Struct)) (More (it 0 (Some (sym (text (codes "name")) 30)) [] 35 (str_head (codes "x"))) (More (it 0 (Some (sym (text (codes "max_id")) 39)) [] 46 (int_head true 1)) (More (it 0 None [] 48 (v.end)) (More (it 0 None [] 51 (int_head false 5)) (More (it 0 None [] 54 (begin kind.List)) (More (it 0 None [] 55 (int_head false 1)) (More (it 0 None [] 56 (v.end)) (More (it 0 None [] 59 (begin kind.Struct)) (More (it 0 (Some (sym (text (codes "name")) 60)) [] 65 (str_head (codes "x"))) (More (it 0 (Some (sym (text (codes "max_id")) 69)) [] 76 (other_head)) (More (it 0 None [] 80 (v.end)) (More (it 0 None [] 81 (v.end)) (More (it 0 None [] 82 (v.end)) (More (it 84 None [] 84 (sym_head (sym (id 10) 84))) (More (it 88 None [] 88 (sym_head (sym (id 13) 88))) (More (it 92 None [] 92 (sym_head (sym (id 14) 92))) (Finished)))))))))))))))))))) ≡ (More (it 84 None [] 84 (sym_head (sym (text (codes "p")) 84))) (More (it 88 None [] 88 (sym_head (sym (text (codes "q")) 88))) (Stopped reasons.BadSymbol 92)))
null_max = refl

many_gaps : users (shared (codes "x") 1 (Some (codes "p") ∷ Some (codes "q") ∷ []) ∷ []) 1048576 at_start (More (it 0 None (sym (text (codes "$ion_symbol_table")) 0 ∷ []) 19 (begin kind.Struct)) (More (it 0 (Some (sym (text (codes "imports")) 20)) [] 28 (begin kind.List)) (More (it 0 None [] 29 (begin kind.Struct)) (More (it 0 (Some (sym (text (codes "name")) 30)) [] 35 (str_head (codes "x"))) (More (it 0 (Some (sym (text (codes "max_id")) 39)) [] 46 (int_head false 1000000)) (More (it 0 None [] 53 (v.end)) (More (it 0 None [] 55 (begin kind.Struct)) (More (it 0 (Some (sym (text (codes "name")) 56)) [] 61 (str_head (codes "x"))) (More (it 0 (Some (sym (text (codes "max_id")) 65)) [] 72 (int_head false 1)) (More (it 0 None [] 73 (v.end)) (More (it 0 None [] 74 (v.end)) (More (it 0 (Some (sym (text (codes "symbols")) 76)) [] 84 (begin kind.List)) (More (it 0 None [] 85 (str_head (codes "l"))) (More (it 0 None [] 88 (v.end)) (More (it 0 None [] 89 (v.end)) (More (it 91 None [] 91 (sym_head (sym (id 10) 91))) (More (it 95 None [] 95 (sym_head (sym (id 11) 95))) (More (it 99 None [] 99 (sym_head (sym (id 1000010) 99))) (More (it 108 None [] 108 (sym_head (sym (id 1000011) 108))) (Finished)))))))))))))))))))) ≡ (More (it 91 None [] 91 (sym_head (sym (text (codes "p")) 91))) (More (it 95 None [] 95 (sym_head (sym (text (codes "q")) 95))) (More (it 99 None [] 99 (sym_head (sym (text (codes "p")) 99))) (More (it 108 None [] 108 (sym_head (sym (text (codes "l")) 108))) (Finished)))))
many_gaps = refl

cut : users [] 1048576 at_start (More (it 0 None (sym (text (codes "$ion_symbol_table")) 0 ∷ []) 19 (begin kind.Struct)) (More (it 0 (Some (sym (text (codes "symbols")) 20)) [] 28 (begin kind.List)) (More (it 0 None [] 29 (str_head (codes "a"))) (Stopped reasons.Truncated 32)))) ≡ (Stopped reasons.Truncated 32)
cut = refl
