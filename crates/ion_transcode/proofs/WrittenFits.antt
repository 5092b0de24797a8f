-- The user values of a text that was read under limits fit them in binary too.
use Rattle.std.proofs.Common.{◌≡◌, inl, inr, ℕ, suc, ◌*◌, ◌≤◌, Bool, true, false, if◌then◌else◌, sum_by, List, [], ◌∷◌, length, map, Option, None, Some, IfSome, option_map, subst, arith}
use Rattle.std.specs.List.{AllByRecursion}
use Rattle.std.specs.Bool.{⊤}
use Rattle.std.specs.Int.{w32, w64, to_be_bytes}
use lib.Ieee.{Float, binary32, binary64, fits, to_bits}
use Rattle.std.proofs.lemmas.List.Sums.{sum_by-cons}
use Rattle.ion_meter.specs.declared.limits.Limits.{Limits}
use Rattle.ion_meter.specs.declared.profile.Profile.{Profile}
use Rattle.ion_meter.specs.declared.profile.Rules.{Rules}
use Rattle.ion_meter.specs.Rules.{rules}
use Rattle.ion_value.specs.declared.ion_type.Kind.{Kind}
use Rattle.ion_value.specs.declared.int.Int.{Int}
use Rattle.ion_value.specs.FloatOctets.{float_octets, is_positive_zero}
use Rattle.ion_value.specs.Int.{IsInt}
use Rattle.ion_value.specs.Number.{uint_octets}
use Rattle.ion_value.specs.Standing.{InRange}
use Rattle.ion_value.specs.Value as value
use Rattle.ion_value.specs.Value.{Symbol, SymbolAt, UserSymbol, Known, Unknown, Scalar, Value, Members, scalar, container, nothing, member, Top, version, tree, map_scalar, map_value, map_members}
use Rattle.ion_value.specs.Writable.{IsWritable, AreWritable, IsRaw, value_symbols}
use Rattle.ion_value.proofs.Octets.{Digits-fewest, digits_in-Digits}
use Rattle.ion_symbols.specs.Output.{system_id}
use Rattle.ion_symbols.specs.Table.{Shared, Table, system, text_at}
use Rattle.ion_symbols.specs.TextsOfUsers.{SymbolHas, ScalarHas, ValueHas, MembersHave, TopHas, UserHas, UserTopHas, IsShort, TextsOfUsersAreShort}
use Rattle.ion_symbols.specs.Tree.{user_at, declares_table, next_table, user_tops}
use Rattle.ion_binary.specs.Refusals.{AreWithin}
use Rattle.ion_binary.specs.WrittenNumbers.{NumbersInTextFit}
use Rattle.ion_binary.specs.WrittenSymbols.{SymbolsFit, TextsWithinFit}
use Rattle.ion_binary.specs.WrittenLimits.{AllowDeclarations, id_size, IdFits, ScalarFits, AnnotationsFit, ValueFits, MembersFit, SymbolFits, MayBeDeclared, FitsBinary}
use Rattle.ion_text_in.specs.Reading.{cost}
use Rattle.ion_transcode.specs.WrittenAgain.{IsSystem, DeclareNothing, TextsFit, DeclarationsFit}
use Rattle.ion_text_in.specs.ReadWithin.{SymbolIsWithin, ScalarIsWithin, AnnotationsAreWithin, ValueIsWithin, MembersAreWithin, TopIsWithin}

-- a float has eight octets at most
eight-most : (z f : Bool) (a b : ℕ) → length (if z then [] else (if f then to_be_bytes w32 a else to_be_bytes w64 b)) ≤ 8
eight-most true f a b = omega arith
eight-most false true a b = omega arith
eight-most false false a b = omega arith

float-fewer : (x : Float) → length (float_octets x) ≤ 8
float-fewer x = eight-most (is_positive_zero x) (fits binary32 x) (to_bits binary32 x) (to_bits binary64 x)

-- ---- texts

module _ (limits : Rules) where
  abbrev Short : List ℕ → Type 0
  Short = IsShort limits.scalar

  abbrev SymbolWithin : SymbolAt → Type 0
  SymbolWithin s = SymbolIsWithin limits s.symbol

  abbrev SymbolShort : SymbolAt → Type 0
  SymbolShort s = SymbolHas Short s.symbol

  symbol-short : (s : Symbol) → SymbolIsWithin limits s → SymbolHas Short s
  symbol-short (value.Text bytes) le = λ e. le
  symbol-short (value.Id id) le = tt

  symbols-short : (ss : List SymbolAt) → AllByRecursion SymbolWithin ss → AllByRecursion SymbolShort ss
  symbols-short [] h = tt
  symbols-short (s ∷ ss) h = (symbol-short s.symbol h.0, symbols-short ss h.1)

  scalar-short : (body : Scalar SymbolAt) → ScalarIsWithin limits body → ScalarHas Short body
  scalar-short (value.string bytes) h = λ e. h
  scalar-short (value.null type) h = tt
  scalar-short (value.bool truth) h = tt
  scalar-short (value.int number) h = tt
  scalar-short (value.float number) h = tt
  scalar-short (value.decimal number) h = tt
  scalar-short (value.timestamp moment) h = tt
  scalar-short (value.symbol name) h = tt
  scalar-short (value.clob bytes) h = tt
  scalar-short (value.blob bytes) h = tt

  mutual
    value-short : (depth : ℕ) (x : Value SymbolAt ℕ) → ValueIsWithin limits depth x → ValueHas Short x
    value-short depth (scalar body) h = scalar-short body h
    value-short depth (container kind members last) h = members-short (suc depth) members h.1

    members-short : (depth : ℕ) (members : Members SymbolAt ℕ) → MembersAreWithin limits depth members → MembersHave Short members
    members-short depth nothing h = tt
    members-short depth (member before field annotations place x) h = (members-short depth before h.0, value-short depth x h.2)

  tops-short : (tops : List (Top SymbolAt ℕ)) → AllByRecursion (TopIsWithin limits) tops → AllByRecursion (TopHas Short) tops
  tops-short [] h = tt
  tops-short (version place ∷ tops) h = (tt, tops-short tops h.1)
  tops-short (tree first annotations place x ∷ tops) h =
      ((value-short 0 x h.0.1, symbols-short (value_symbols None annotations x) h.0.2), tops-short tops h.1)

  -- ---- values

  -- an int has 16 octets at most, and an id four
  int-fits : (i : Int) → IsInt i → 16 ≤ limits.scalar → ScalarFits limits (value.int i)
  int-fits i range enough =
      let sixteen : List ℕ = 0 ∷ 0 ∷ 0 ∷ 0 ∷ 0 ∷ 0 ∷ 0 ∷ 0 ∷ 0 ∷ 0 ∷ 0 ∷ 0 ∷ 0 ∷ 0 ∷ 0 ∷ 0 ∷ [] in
      let few : length (uint_octets i.magnitude) ≤ length sixteen =
      Digits-fewest 256 i.magnitude (uint_octets i.magnitude) sixteen (digits_in-Digits 256 i.magnitude (omega arith)) (omega (arith, range.fits)) in
      omega (arith, few, enough)

  size-few : (id : Option ℕ) → id_size id ≤ 4
  size-few (Some id) = omega arith
  size-few None = omega arith

  id-fits : (s : UserSymbol) → 16 ≤ limits.scalar → IdFits limits s
  id-fits (Known t) enough = omega (arith, size-few (system_id t), enough)
  id-fits Unknown enough = tt

  module _ (numbers : NumbersInTextFit) (enough : 16 ≤ limits.scalar) (f : SymbolAt → UserSymbol) where
    scalar-fits : (body : Scalar SymbolAt) → InRange body → ScalarIsWithin limits body → ScalarFits limits (map_scalar f body)
    scalar-fits (value.null type) range h = tt
    scalar-fits (value.bool truth) range h = tt
    scalar-fits (value.int number) range h = int-fits number range enough
    scalar-fits (value.float number) range h = (omega (arith, float-fewer number, enough), h.0)
    scalar-fits (value.decimal number) range h = (numbers limits enough).0 number h.0 range h.1 h.2
    scalar-fits (value.timestamp moment) range h = (numbers limits enough).1 moment h.0 range h.1 h.2
    scalar-fits (value.symbol name) range h = id-fits (f name) enough
    scalar-fits (value.string bytes) range h = h
    scalar-fits (value.clob bytes) range h = h
    scalar-fits (value.blob bytes) range h = h

    cost-least : (symbol : Symbol) (place : ℕ) → 16 ≤ cost (record { symbol = symbol; place = place })
    cost-least (value.Text bytes) place = omega arith
    cost-least (value.Id id) place = omega arith

    costs-least : (annotations : List SymbolAt) → 16 * length (map f annotations) ≤ sum_by cost annotations
    costs-least [] = omega arith
    costs-least (a ∷ annotations) = omega (arith, cost-least a.symbol a.place, costs-least annotations, sum_by-cons cost a annotations)

    annotations-fit : (annotations : List SymbolAt) → AnnotationsAreWithin limits annotations → AnnotationsFit limits (map f annotations)
    annotations-fit annotations h = omega (arith, h, costs-least annotations)

    mutual
      value-fits : (depth : ℕ) (x : Value SymbolAt ℕ) → IsWritable x → ValueIsWithin limits depth x → ValueFits limits depth (map_value f (λ (p : ℕ). p) x)
      value-fits depth (scalar body) writable h = scalar-fits body writable.0 h
      value-fits depth (container kind members last) writable h = (h.0, members-fit kind (suc depth) members writable h.1)

      members-fit : (kind : Kind) (depth : ℕ) (members : Members SymbolAt ℕ) → AreWritable kind members → MembersAreWithin limits depth members
          → MembersFit limits depth (map_members f (λ (p : ℕ). p) members)
      members-fit kind depth nothing writable h = tt
      members-fit kind depth (member before field annotations place x) writable h =
          (members-fit kind depth before writable.0 h.0, annotations-fit annotations h.1, value-fits depth x writable.1.1 h.2)

  -- a value at top level, but for its symbols
  abbrev TopFits : Top UserSymbol ℕ → Type 0
  TopFits (version place) = ⊤
  TopFits (tree first annotations place x) = AnnotationsFit limits annotations × ValueFits limits 0 x

  abbrev TopsFit : List (Top UserSymbol ℕ) → Type 0
  TopsFit us = AllByRecursion TopFits us

  tree-fits : NumbersInTextFit → 16 ≤ limits.scalar → (t : Table) (first : ℕ) (annotations : List SymbolAt) (place : ℕ) (x : Value SymbolAt ℕ) → IsRaw (tree first annotations place x)
      → TopIsWithin limits (tree first annotations place x) → TopFits (tree first (map (user_at t) annotations) place (map_value (user_at t) (λ (p : ℕ). p) x))
  tree-fits numbers enough t first annotations place x raw h = (annotations-fit numbers enough (user_at t) annotations h.0, value-fits numbers enough (user_at t) 0 x raw.0 h.1)

  -- from each table on
  abbrev FromEach : List Shared → List (Top SymbolAt ℕ) → Type 0
  FromEach catalog tops = (t : Table) → IfSome (user_tops catalog t tops) TopsFit

  tree-after : (catalog : List Shared) (t : Table) (tops : List (Top SymbolAt ℕ)) (user : Top UserSymbol ℕ) (declares : Option (Members SymbolAt ℕ)) → TopFits user
      → FromEach catalog tops
      → IfSome (elim declares [
        | Some members ↦ elim (next_table catalog (text_at t) t members) [ None ↦ None | Some u ↦ user_tops catalog u tops ]
        | None ↦ option_map (λ us. user ∷ us) (user_tops catalog t tops)
      ]) TopsFit
  tree-after catalog t tops user (Some members) fits later = by (next_table catalog (text_at t) t members)
    where
      by : (next : Option Table) → IfSome (elim next [ None ↦ None | Some u ↦ user_tops catalog u tops ]) TopsFit
      by None = tt
      by (Some u) = later u
  tree-after catalog t tops user None fits later = by (user_tops catalog t tops) (later t)
    where
      by : (others : Option (List (Top UserSymbol ℕ))) → IfSome others TopsFit → IfSome (option_map (λ us. user ∷ us) others) TopsFit
      by None k = tt
      by (Some us) k = (fits, k)

  tops-fit : NumbersInTextFit → 16 ≤ limits.scalar → (catalog : List Shared) (tops : List (Top SymbolAt ℕ)) → AllByRecursion IsRaw tops → AllByRecursion (TopIsWithin limits) tops → FromEach catalog tops
  tops-fit numbers enough catalog [] raw h t = tt
  tops-fit numbers enough catalog (version place ∷ tops) raw h t = tops-fit numbers enough catalog tops raw.1 h.1 system
  tops-fit numbers enough catalog (tree first annotations place x ∷ tops) raw h t =
      tree-after catalog t tops (tree first (map (user_at t) annotations) place (map_value (user_at t) (λ (p : ℕ). p) x)) (declares_table t annotations x)
      (tree-fits numbers enough t first annotations place x raw.0 h.0) (tops-fit numbers enough catalog tops raw.1 h.1)

  -- ---- both

  user-fits : (s : UserSymbol) → UserHas Short s → SymbolFits limits s
  user-fits (Known bytes) h = h
  user-fits Unknown h = tt

  users-fit : (ss : List UserSymbol) → AllByRecursion (UserHas Short) ss → AllByRecursion (SymbolFits limits) ss
  users-fit [] h = tt
  users-fit (s ∷ ss) h = (user-fits s h.0, users-fit ss h.1)

  symbols-fit : (us : List (Top UserSymbol ℕ)) → AllByRecursion (UserTopHas Short) us → AllByRecursion (SymbolsFit limits) us
  symbols-fit [] h = tt
  symbols-fit (version place ∷ us) h = (tt, symbols-fit us h.1)
  symbols-fit (tree first annotations place x ∷ us) h = (users-fit (value_symbols None annotations x) h.0, symbols-fit us h.1)

  -- a text that is not declared is not too long, and needs no leave
  system-symbols : (ss : List UserSymbol) → AllByRecursion (UserHas IsSystem) ss
      → AllByRecursion (SymbolFits limits) ss × AllByRecursion (MayBeDeclared limits) ss
  system-symbols [] h = (tt, tt)
  system-symbols (Known t ∷ ss) h =
      let others = system-symbols ss h.1 in
      let fits : SymbolFits limits (Known t) = λ e. absurd (h.0 e) in
      let may : MayBeDeclared limits (Known t) = λ e. absurd (h.0 e) in
      ((fits, others.0), (may, others.1))
  system-symbols (Unknown ∷ ss) h =
      let others = system-symbols ss h.1 in ((tt, others.0), (tt, others.1))

  undeclared-fit : (us : List (Top UserSymbol ℕ)) → TopsFit us → DeclareNothing us → AllByRecursion (FitsBinary limits) us
  undeclared-fit [] h none = tt
  undeclared-fit (version place ∷ us) h none = (tt, undeclared-fit us h.1 none.1)
  undeclared-fit (tree first annotations place x ∷ us) h none =
      let symbols = system-symbols (value_symbols None annotations x) none.0 in
      ((h.0.0, h.0.1, symbols.0, symbols.1), undeclared-fit us h.1 none.1)

  -- where declarations are allowed, each text may be declared
  all-may : AllowDeclarations limits → (ss : List UserSymbol) → AllByRecursion (MayBeDeclared limits) ss
  all-may allow [] = tt
  all-may allow (Known t ∷ ss) = ((λ e. allow), all-may allow ss)
  all-may allow (Unknown ∷ ss) = (tt, all-may allow ss)

  declared-fit : AllowDeclarations limits → (us : List (Top UserSymbol ℕ)) → TopsFit us → AllByRecursion (SymbolsFit limits) us → AllByRecursion (FitsBinary limits) us
  declared-fit allow [] h k = tt
  declared-fit allow (version place ∷ us) h k = (tt, declared-fit allow us h.1 k.1)
  declared-fit allow (tree first annotations place x ∷ us) h k =
      ((h.0.0, h.0.1, k.0, all-may allow (value_symbols None annotations x)), declared-fit allow us h.1 k.1)

-- what was read within the limits has user values that fit them, where their declared texts do
module _ (profile : Profile) (limits : Limits) where
  abbrev own : Rules
  own = rules limits profile

  pub users-of-read-fit : NumbersInTextFit → 16 ≤ limits.scalar → TextsOfUsersAreShort → TextsWithinFit
      → (catalog : List Shared) (tops : List (Top SymbolAt ℕ)) (us : List (Top UserSymbol ℕ)) → DeclarationsFit profile limits catalog us
      → AllByRecursion IsRaw tops → AllByRecursion (TopIsWithin own) tops → AreWithin limits [] us → user_tops catalog system tops ≡ Some us
      → AllByRecursion (FitsBinary own) us
  users-of-read-fit numbers enough short fit catalog tops us declared raw h within e =
      by declared
    where
      values : TopsFit own us
      values = subst (λ o. IfSome o (TopsFit own)) e (tops-fit own numbers enough catalog tops raw h system)

      fit-by : TextsFit limits catalog us → AllByRecursion (SymbolsFit own) us
      fit-by (inl s) = symbols-fit own us s
      fit-by (inr (inl c)) = symbols-fit own us (short limits.scalar catalog tops us c (tops-short own tops h) e)
      fit-by (inr (inr room)) = fit limits profile us room within

      by : DeclarationsFit profile limits catalog us → AllByRecursion (FitsBinary own) us
      by (inl none) = undeclared-fit own us values none
      by (inr d) = declared-fit own d.0 us values (fit-by d.1)
