-- A handle by value: its machine value is its pointer, and beside it there is what it owns. Assumes `Logic`.
use Rattle.std.proofs.Common.{◌≡◌, ℕ, List, [], ◌∷◌, ◌++◌, refl, subst}
use seplogic.Ra.Ura.{Ura}
use mir.Raw.{raw as bare}
use mir.Val.{Val, vstruct, vcons, vnil, of_list}
use base.Logic.{ent, via, snd∗, guard, guard_i}
use types.Logic.{Logic, sem}
use types.Kit.{Item, Goal, Seq, Step, step, ‵, given, ◌$◌, learn, use1, drop, fsplit, fjoin, fpick, fpack, feq_i, feq_l}
use contract.Monad.{fact_use}
use denote.RattleType.{RattleType, Valss}
use denote.Builtin.{RawPtr}
use denote.Memory.{lone}
use denote.RawPtr.{Ptr, block_ptr, null_ptr, ptr_val, lies_at, Testable}
use base.Fraction.{full_share}
use denote.Steps.{nothing}
use denote.Struct.Struct.{within}
use denote.Struct.Owning.{shape}
use Rattle.std.specs.contracts.impls.GlobalAllocator.TheImpl.{ghosts}
use Rattle.std.specs.declared.alloc.Global.{Global}
use Rattle.std.proofs.GlobalToken.{dealloc_token-Testable}
use Rattle.ion_symbols.specs.Table.{Shared}
use Rattle.cozgelt_c.specs.Handles.{Owner, boxed, owns_tables}
use Rattle.cozgelt_c.specs.contracts.handle.CozgeltCatalog as handle

abbrev pub word : Ptr → Val
word p = vstruct (vcons (ptr_val p) vnil)

abbrev pub Row : RattleType
Row = handle.the_row

module _ {M : Type 1} {𝓤 : Ura M} (𝓛 : Logic 𝓤) (h : Global) where
  pub tested : (p : Ptr) (x : Owner.Denot) → ent 𝓤 (sem 𝓛 (boxed p x)) (guard 𝓤 (Testable p) (sem 𝓛 (boxed p x)))
  tested p x = fact_use 𝓤 (Testable p) (via 𝓤 _ (snd∗ 𝓤 (sem 𝓛 (lies_at Owner full_share p x)) (sem 𝓛 (ghosts.dealloc_token h (bare (lone Owner.mir)) p))) (dealloc_token-Testable 𝓛 h (bare (lone Owner.mir)) p)) (guard_i 𝓤 (Testable p) (sem 𝓛 (boxed p x)))

module _ {M : Type 1} {𝓤 : Ura M} {𝓛 : Logic 𝓤} {K : Type 0} {Γ : List (Item 𝓤)} {G : Goal 𝓤 𝓛.H} where
  pub handle_in : K → (p : Ptr) (xs : List Shared) → Step K 𝓛 (‵ (Row.own_val (record { at = p; tables = xs }) (word p ∷ [])) ∷ Γ) G (‵ (owns_tables p xs) ∷ Γ) G
  handle_in t p xs = step (λ s. nothing t $ feq_i t (List Val) (ptr_val p ∷ []) (ptr_val p ∷ []) refl $ fjoin t $ feq_i t (List Val) (word p ∷ []) (word p ∷ []) refl $ fjoin t $
      fpack t (Valss (RawPtr ∷ [])) (within (shape handle.the_type) (p, tt) (word p ∷ [])) (ptr_val p ∷ [], tt) $ fjoin t $ s)

  pub handle_out : K → (d : Row.Denot) (vs : List Val) → (vs ≡ word d.at ∷ [] → Seq K 𝓛 (‵ (owns_tables d.at d.tables) ∷ Γ) G) → Seq K 𝓛 (‵ (Row.own_val d vs) ∷ Γ) G
  handle_out t d vs k = fsplit t $ fpick t (λ vss. fsplit t $ feq_l t (λ ev. fsplit t $ feq_l t (λ ep. drop t $
      k (subst (λ (ps : List Val). vs ≡ vstruct (of_list (ps ++ [])) ∷ []) ep ev))))

  -- it is null, and there is nothing, or it is a box, and may be compared with null
  pub either_owned : K → (h : Global) (p : Ptr) (xs : List Shared) → (p ≡ null_ptr → xs ≡ [] → Seq K 𝓛 Γ G)
      → ((b o : ℕ) (x : Owner.Denot) → p ≡ block_ptr b o → Testable (block_ptr b o) → xs ≡ x.value → Seq K 𝓛 (‵ (boxed (block_ptr b o) x) ∷ Γ) G) → Seq K 𝓛 (‵ (owns_tables p xs) ∷ Γ) G
  either_owned t h null_ptr xs none some = feq_l t (λ e. none refl e)
  either_owned t h (block_ptr b o) xs none some = fpick t (λ x. fsplit t $ feq_l t (λ e. use1 𝓛 (given (Testable (block_ptr b o)) (‵ (boxed (block_ptr b o) x))) (tested 𝓛 h (block_ptr b o) x) $ learn t (λ test. some b o x refl test e)))
