-- Which streams are accepted, told by their trees: of each declaration and of each user value what it must be. Laws that contracts cite.
use Rattle.std.specs.Prelude.{◌≡◌, ℕ, ◌≤◌, List, [], ◌∷◌, length, Some, None, IsSomeAnd, ⊤}
use Rattle.std.specs.List.{AllByRecursion}
use Rattle.ion_meter.specs.declared.limits.Limits.{Limits}
use Rattle.ion_meter.specs.declared.profile.Profile.{Profile}
use Rattle.ion_meter.specs.Rules.{rules}
use Rattle.ion_value.specs.Outcome.{Accepted}
use Rattle.ion_value.specs.ReadingLaws.{ArePermitted}
use Rattle.ion_value.specs.Value.{SymbolAt, UserSymbol, Members, Top, version, tree, top_items}
use Rattle.ion_symbols.specs.Counted.{FieldsFit, fields_kept}
use Rattle.ion_symbols.specs.Declaration.{Ground}
use Rattle.ion_symbols.specs.Laws.{AnyAbove, SomeAbove, IsDoubled, Stands, ValueStands, fields_slots}
use Rattle.ion_symbols.specs.Table.{Shared, Table, system, text_at, most_slots}
use Rattle.ion_symbols.specs.Tree.{declares_table, next_table, user_tops}
use Rattle.ion_transcode.specs.declared.to.Target.{Target}
use Rattle.ion_transcode.specs.declared.to.To.{To}
use Rattle.ion_transcode.specs.Acceptance.{PassesNoLimit, AreTaken}
use Rattle.ion_transcode.specs.Forms.{encoding_of, form_of}
use Rattle.ion_transcode.specs.Outputs.{outputs_of, resolved}
use Rattle.ion_transcode.specs.Verdict.{HasVerdictWith}

-- a declaration by its annotations and members: no id in it is above the table before it, neither a field of it nor one of an
-- import stands twice, what is counted for it is within the limit, with the name of each import while that is read, and it has no
-- more slots than there are ids
pub record IsInOrder (g : Ground) (annotations : List SymbolAt) (members : Members SymbolAt ℕ) : Type 0 where
  pub named : AnyAbove g.old annotations → ⊥
  pub below : SomeAbove g.old members → ⊥
  pub single : IsDoubled (text_at g.old) members → ⊥
  pub cost : fields_kept g members ≤ g.limit
  pub names : FieldsFit g members
  pub count : fields_slots g members ≤ most_slots

-- from a table on: each declaration is in order, and each table is there that it imports whole; each id of any other value stands
-- in the table at its place, and in no gap of it
abbrev pub TreesAreInOrder : List Shared → ℕ → Table → List (Top SymbolAt ℕ) → Type 0
TreesAreInOrder catalog limit t [] = ⊤
TreesAreInOrder catalog limit t (version place ∷ tops) = TreesAreInOrder catalog limit system tops
TreesAreInOrder catalog limit t (tree first annotations place x ∷ tops) =
    elim (declares_table t annotations x) [
      | Some members ↦
          IsInOrder (record { catalog = catalog; limit = limit; old = t }) annotations members
          × IsSomeAnd (next_table catalog (text_at t) t members) (λ u. TreesAreInOrder catalog limit u tops)
      | None ↦ AllByRecursion (Stands t) annotations × ValueStands t x × TreesAreInOrder catalog limit t tops
    ]

-- a stream of the grammar that the profile permits and that passes no limit, whose trees are in order, and of whose user values the writer refuses nothing, is
-- accepted
abbrev pub TreesInOrderAreAccepted : Type 0
TreesInOrderAreAccepted =
    (profile : Profile) (catalog : List Shared) (limits : Limits) (to : To) (bytes : List ℕ) (target : Target) (tops : List (Top SymbolAt ℕ)) (us : List (Top UserSymbol ℕ))
    → resolved (form_of bytes) to ≡ Some target → (encoding_of profile (form_of bytes)).Stream bytes tops
    → ArePermitted (rules limits profile) (top_items tops) → PassesNoLimit (form_of bytes) (rules limits profile) bytes
    → TreesAreInOrder catalog limits.symbols system tops → user_tops catalog system tops ≡ Some us → AreTaken target limits us
    → HasVerdictWith profile catalog limits to bytes (Accepted (length us)) ((outputs_of target limits).whole_output us)
