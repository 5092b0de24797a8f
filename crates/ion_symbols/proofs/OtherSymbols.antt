-- A value with other symbols has these in the places of its own, is as writable, and has the same bytes.
use Rattle.std.proofs.Common.{◌≡◌, List, [], ◌++◌, map, Option, None, Some, is_some, option_map, refl, ◌∙◌}
use Rattle.std.proofs.lemmas.List.{map-append}
use Rattle.ion_value.specs.declared.ion_type.Kind.{Kind}
use Rattle.ion_value.specs.Standing.{InRange}
use Rattle.ion_value.specs.Value as value
use Rattle.ion_value.specs.Value.{Scalar, Value, Members, scalar, container, nothing, member, map_scalar, map_value, map_members}
use Rattle.ion_value.specs.Writable.{field_symbols, scalar_symbols, value_symbols, members_symbols, HasText, IsWritable, AreWritable, HasBytes, ValueHasBytes, MembersHaveBytes}

module _ {S T P Q : Type 0} (f : S → T) (g : P → Q) where
  -- ---- numbers, texts and bytes

  InRange-map : (body : Scalar S) → InRange body → InRange (map_scalar f body)
  InRange-map (value.symbol s) h = h
  InRange-map body h = h

  HasText-map : (body : Scalar S) → HasText body → HasText (map_scalar f body)
  HasText-map (value.symbol s) h = h
  HasText-map body h = h

  HasBytes-map : (body : Scalar S) → HasBytes body → HasBytes (map_scalar f body)
  HasBytes-map (value.symbol s) h = h
  HasBytes-map body h = h

  is_some-map : (field : Option S) → is_some (option_map f field) ≡ is_some field
  is_some-map None = refl
  is_some-map (Some s) = refl

  mutual
    pub IsWritable-map : (x : Value S P) → IsWritable x → IsWritable (map_value f g x)
    IsWritable-map (scalar body) h = (InRange-map body h.0, HasText-map body h.1)
    IsWritable-map (container kind members last) h = AreWritable-map kind members h

    AreWritable-map : (kind : Kind) (members : Members S P) → AreWritable kind members → AreWritable kind (map_members f g members)
    AreWritable-map kind nothing h = tt
    AreWritable-map kind (member before field annotations place x) h =
        (AreWritable-map kind before h.0, (is_some-map field ∙ h.1.0, IsWritable-map x h.1.1))

  mutual
    pub ValueHasBytes-map : (x : Value S P) → ValueHasBytes x → ValueHasBytes (map_value f g x)
    ValueHasBytes-map (scalar body) h = HasBytes-map body h
    ValueHasBytes-map (container kind members last) h = MembersHaveBytes-map members h

    MembersHaveBytes-map : (members : Members S P) → MembersHaveBytes members → MembersHaveBytes (map_members f g members)
    MembersHaveBytes-map nothing h = tt
    MembersHaveBytes-map (member before field annotations place x) h = (MembersHaveBytes-map before h.0, ValueHasBytes-map x h.1)

  -- ---- symbols

  field_symbols-map : (field : Option S) → field_symbols (option_map f field) ≡ map f (field_symbols field)
  field_symbols-map None = refl
  field_symbols-map (Some s) = refl

  scalar_symbols-map : (body : Scalar S) → scalar_symbols (map_scalar f body) ≡ map f (scalar_symbols body)
  scalar_symbols-map (value.symbol s) = refl
  scalar_symbols-map body = refl

  -- the symbols of a first item
  first_symbols-map : (field : Option S) (annotations others : List S) (these : List T) → these ≡ map f others
      → field_symbols (option_map f field) ++ (map f annotations ++ these) ≡ map f (field_symbols field ++ (annotations ++ others))
  first_symbols-map field annotations others these e = rw (field_symbols-map field, e) (simp map-append refl)

  mutual
    pub value_symbols-map : (field : Option S) (annotations : List S) (x : Value S P)
        → value_symbols (option_map f field) (map f annotations) (map_value f g x) ≡ map f (value_symbols field annotations x)
    value_symbols-map field annotations (scalar body) =
        first_symbols-map field annotations (scalar_symbols body) (scalar_symbols (map_scalar f body)) (scalar_symbols-map body)
    value_symbols-map field annotations (container kind members last) =
        rw (first_symbols-map field annotations [] [] refl, members_symbols-map members) (simp map-append refl)

    members_symbols-map : (members : Members S P) → members_symbols (map_members f g members) ≡ map f (members_symbols members)
    members_symbols-map nothing = refl
    members_symbols-map (member before field annotations place x) =
        rw (members_symbols-map before, value_symbols-map field annotations x) (simp map-append refl)
