-- `into_loose` has the box back where the pointer is not null. Assumes `Logic`.
use Rattle.std.proofs.Common.{◌≡◌, List, [], ◌∷◌, ◌++◌, refl, sym, ap, ◌∙◌, subst, lit<}
use mir.Val.{Val, vptr, vcons, vnil}
use base.Logic.{SProp, ent, emp, id⊢}
use prog.Wp.{WpFn}
use types.Kit.{‵, raw, ◌⊛◌, at_ret, ◌$◌, ◌∵◌, !, qed, by, move, keep, split, fsplit, fjoin, suffices, use0, use1, rewrite}
use types.Run.{stop, fld, lit, of_opd, bin, no_more, and_then, first, branches, exec, returns, enter}
use types.ByLocal.{alloc_all, pass_all, free_all, look_at, get, get_in, sets, sets_last, env}
use types.Part.{agg, sub, whole}
use types.Match.{live}
use contract.Monad.{fact, fact_i}
use contract.Running.{tables}
use denote.Exit.{yes}
use denote.RattleType.{RattleType, owns as owned}
use denote.RawPtr.{Ptr, block_ptr, null_ptr, tests_null}
use denote.Signature.{types_at, type_at, plain}
use denote.Steps.{nothing}
use denote.Param.{layout}
use denote.Triple.Entry.{alive}
use denote.Triple.Walked.{Stays, stay_dropped, walk_of, Goes-dropped}
use Rattle.core.specs.declared.option.Option.TheVariants.{None, Some}
use Rattle.core.proofs.alloc.Calls.{Goes-blank}
use Rattle.core.proofs.alloc.Shapes.{after}
use Rattle.core.proofs.atomic.Steps.{Ptr-Good}
use Rattle.core.proofs.cell.Inside.{Good, one}
use Rattle.core.proofs.option.Made.{Some-of, none_of}
use Rattle.std.proofs.raw_atomic.Walks.{proved_at, leaves}
use Rattle.std.specs.contracts.alloc.Global as heap
use Rattle.std.proofs.alloc.Global.TheLaws as heap_laws
use Rattle.std.specs.contracts.impls.GlobalAllocator.TheImpl.{ghosts}
use Rattle.std_alloc.proofs.ResultValues.{and_tt}
use Rattle.cozgelt_c.specs.Handles.{Owner}
use Rattle.cozgelt_c.proofs.LooseParts.{both, Loose, loose_good, loose_in}
use Rattle.cozgelt_c.proofs.Handled.{Row, word, handle_out, either_owned}
use Rattle.cozgelt_c.specs.contracts.handle.CozgeltCatalog.into_loose.{ended, clauses}
use Rattle.cozgelt_c.specs.contracts.handle.CozgeltCatalog.into_loose.Key.{name as #self}
use Rattle.cozgelt_c.proofs.handle.CozgeltCatalog.into_loose.Statement.{statement}
use Rattle.cozgelt_c.proofs.handle.CozgeltCatalog.into_loose.Code as code

pub into_loose_spec : {M : Type 1} → statement M
into_loose_spec 𝓤 𝓛 𝓜 𝓡 wired =
    let H = 𝓛.H in let 𝓣 = tables 𝓤 H 𝓜 𝓡 𝓡.env in let c = clauses 𝓛 𝓜.mem 𝓡.returns in let fn = code.function in let Z : RattleType = heap.the_row in let LZ = heap_laws.the_row_laws in
    let Lr : RattleType = Loose Owner Z LZ ghosts in let hs : Stays ended.signature.params ended.kept = (stay_dropped (plain (λ _. Row)) yes, (stay_dropped (plain (λ _. Z)) yes, tt)) in
    proved_at 𝓛 ended hs c 𝓜 𝓡 (Goes-blank 𝓛 0 (plain (λ _. Row)) yes (λ κs x f. tt), (Goes-dropped 𝓛 0 (plain (λ _. Z)) yes (λ κs x f. refl), tt)) #self fn (code.unfolded 𝓤 H 𝓜 𝓡 wired) (λ z are.
    let κs = z.0.0 in let d = z.0.3.0 in let a = z.0.3.1.0 in let Post : Val → SProp 𝓤 = (walk_of 𝓛 ended hs c).post z in let Run : List Val → SProp 𝓤 = λ ws. WpFn 𝓤 H 𝓣.C 𝓣.Λ fn ws Post in let Out : RattleType = type_at ended.signature.result κs in
    let h = one (layout Z) z.0.4.1.0 ((LZ.lawful 𝓛).typed a z.0.4.1.0 are.1.0) in
    qed 𝓛 ((raw (alive 𝓛 ended.signature κs z.0.1) ⊛ ‵ (owned (types_at ended.signature.params κs) z.0.3 z.0.4)) ∷ raw ((c κs z.0.3).requires z.1) ∷ []) ∵ split ! $ move ! (1 ∷ []) $ fsplit ! $ move ! (1 ∷ []) $ fsplit ! $
    rewrite ! 0 (λ (us : List Val). ‵ (Z.own_val a us)) h.1 refl $ move ! (2 ∷ []) $
    handle_out ! d z.0.4.0 (λ ws. let starts = λ (p : Ptr) (e : d.at ≡ p). let vs = word p ∷ h.0 ∷ [] in
    subst (λ (us : List Val). ent 𝓤 (Run vs) (Run us)) (sym (λ i. (ws ∙ ap (λ (q : Ptr). word q ∷ []) e) i ++ (h.1 i ++ []))) (id⊢ 𝓤 (Run vs)) in
    -- [what is owned; the allocator; no more parameters; the tokens; the requires]
    either_owned ! a d.at d.tables
    (λ at none. suffices ! (Run (word null_ptr ∷ h.0 ∷ [])) (starts null_ptr at) $
    enter ! 𝓣.C 𝓣.Λ fn (word null_ptr ∷ h.0 ∷ []) Post $ alloc_all ! (λ l. pass_all ! refl ((tt, (record { fits = lit< tt }, tt)), (h.2, tt)) $ let Ev = env fn.locals l in
    sets ! (of_opd ! (get_in ! (fld ! refl (stop !)) (sub ! 0 refl (whole !)))) refl (Ptr-Good null_ptr) $
    sets ! (bin ! (get ! refl) (lit ! tt) tt) refl (tt, tt) $ first ! $ branches ! (get ! refl)
    (λ _. sets_last ! (agg ! (and_then ! (lit ! tt) (no_more !))) refl (tt, (record { fits = lit< tt }, tt)) $ exec ! 𝓣.C 𝓣.Λ Ev (after 3 fn.body) (at_ret Ev Post) $
    sets ! (of_opd ! (get ! refl)) refl (tt, (record { fits = lit< tt }, tt)) $ returns ! (look_at ! 0 refl) $ free_all ! refl $
    use0 𝓛 (‵ (Out.own_val None (live 0 vnil ∷ []))) (none_of 𝓛 Lr) $ use0 𝓛 (raw (fact 𝓤 (d.tables ≡ []))) (fact_i 𝓤 (d.tables ≡ []) (emp 𝓤) none) $
    nothing ! $ nothing ! $ fjoin ! $ nothing ! $ fjoin ! $
    keep ! (5 ∷ 0 ∷ 2 ∷ 1 ∷ []) $ by ! (leaves 𝓛 ended hs c z (live 0 vnil) None (tt, (tt, tt)) (tt, (tt, tt))))
    (λ wrong. absurd wrong)))
    (λ b o x at test same. let made : Val = both (vptr b o) h.0 in let typed = loose_good Owner Z LZ ghosts b o h.0 h.2 in let v₁ : Val = live 1 (vcons made vnil) in let r : Lr.Denot = record { at = block_ptr b o; alloc = a; value = x } in
    let good : Good (layout Out) v₁ = (and_tt _ typed.0, (record { fits = lit< tt }, (typed.1, tt))) in
    suffices ! (Run (word (block_ptr b o) ∷ h.0 ∷ [])) (starts (block_ptr b o) at) $
    enter ! 𝓣.C 𝓣.Λ fn (word (block_ptr b o) ∷ h.0 ∷ []) Post $ alloc_all ! (λ l. pass_all ! refl ((tt, (tt, tt)), (h.2, tt)) $ let Ev = env fn.locals l in
    sets ! (of_opd ! (get_in ! (fld ! refl (stop !)) (sub ! 0 refl (whole !)))) refl (tt, tt) $
    sets ! (bin ! (get ! refl) (lit ! tt) (tests_null (block_ptr b o) test)) refl (tt, tt) $ first ! $ branches ! (get ! refl)
    (λ wrong. absurd wrong)
    (λ _. sets ! (of_opd ! (get ! refl)) refl (tt, tt) $ sets ! (agg ! (and_then ! (get ! refl) (and_then ! (get ! refl) (no_more !)))) refl typed $ sets_last ! (agg ! (and_then ! (lit ! tt) (and_then ! (get ! refl) (no_more !)))) refl good $
    exec ! 𝓣.C 𝓣.Λ Ev (after 3 fn.body) (at_ret Ev Post) $ sets ! (of_opd ! (get ! refl)) refl good $ returns ! (look_at ! 0 refl) $ free_all ! refl $
    loose_in Owner Z LZ ghosts ! b o h.0 a x $ use1 𝓛 (‵ (Out.own_val (Some r) (v₁ ∷ []))) (Some-of 𝓛 Lr r made) $
    use0 𝓛 (raw (fact 𝓤 (d.tables ≡ x.value))) (fact_i 𝓤 (d.tables ≡ x.value) (emp 𝓤) same) $
    nothing ! $ nothing ! $ fjoin ! $ nothing ! $ fjoin ! $
    keep ! (4 ∷ 0 ∷ 2 ∷ 1 ∷ []) $ by ! (leaves 𝓛 ended hs c z v₁ (Some r) (tt, (tt, tt)) (tt, (tt, tt))))))))
