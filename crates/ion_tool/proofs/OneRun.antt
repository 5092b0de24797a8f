-- The words ask for one run at most.
use Rattle.std.proofs.Common.{◌≡◌, List, [], Option, None, Some, inl, inr, refl, sym, ap, subst, ◌∙◌}
use Rattle.std.specs.Prelude.{option_map}
use Rattle.clap.specs.Words.{Row, Text}
use Rattle.ion_meter.specs.declared.limits.Limits.{Limits}
use Rattle.ion_transcode.specs.declared.to.Form.{Form}
use Rattle.ion_transcode.specs.declared.to.Form.TheVariants as form
use Rattle.ion_tool.specs.declared.words.Action.{Action}
use Rattle.ion_tool.specs.declared.words.Action.TheVariants.{Show, ShowPretty, Check, Convert, ConvertPretty, Rewrite}
use Rattle.ion_tool.specs.declared.words.Task.{Task}
use Rattle.ion_tool.specs.Words.{action_name, catalog_in, files_in, form_in, form_name, form_word, limits_in, lines_in, profile_in, IsRun, Names, is_pretty, is_rewritten, pretty_in, rewrite_in}

pub some_is : {T : Type 0} {x y : T} → Some x ≡ Some y → x ≡ y
some_is e = cc e

form_is : (f g : Option Form) → option_map form_name f ≡ option_map form_name g → f ≡ g
form_is None None e = refl
form_is None (Some g) e = absurd (cc e)
form_is (Some f) None e = absurd (cc e)
form_is (Some form.Text) (Some form.Text) e = refl
form_is (Some form.Text) (Some form.Binary) e = absurd (cc e)
form_is (Some form.Binary) (Some form.Text) e = absurd (cc e)
form_is (Some form.Binary) (Some form.Binary) e = refl

pub action_is : (a b : Action) → action_name a ≡ action_name b → form_word a ≡ form_word b → is_pretty a ≡ is_pretty b → is_rewritten a ≡ is_rewritten b → a ≡ b
action_is Show Show e w p r = refl
action_is Show ShowPretty e w p r = absurd (cc p)
action_is Show Check e w p r = absurd (cc e)
action_is Show (Convert g) e w p r = absurd (cc e)
action_is Show ConvertPretty e w p r = absurd (cc e)
action_is Show Rewrite e w p r = absurd (cc e)
action_is ShowPretty Show e w p r = absurd (cc p)
action_is ShowPretty ShowPretty e w p r = refl
action_is ShowPretty Check e w p r = absurd (cc e)
action_is ShowPretty (Convert g) e w p r = absurd (cc e)
action_is ShowPretty ConvertPretty e w p r = absurd (cc e)
action_is ShowPretty Rewrite e w p r = absurd (cc e)
action_is Check Show e w p r = absurd (cc e)
action_is Check ShowPretty e w p r = absurd (cc e)
action_is Check Check e w p r = refl
action_is Check (Convert g) e w p r = absurd (cc e)
action_is Check ConvertPretty e w p r = absurd (cc e)
action_is Check Rewrite e w p r = absurd (cc e)
action_is (Convert f) Show e w p r = absurd (cc e)
action_is (Convert f) ShowPretty e w p r = absurd (cc e)
action_is (Convert f) Check e w p r = absurd (cc e)
action_is (Convert f) (Convert g) e w p r = ap (λ (t : Option Form). Convert t) (form_is f g w)
action_is (Convert f) ConvertPretty e w p r = absurd (cc p)
action_is (Convert f) Rewrite e w p r = absurd (cc r)
action_is ConvertPretty Show e w p r = absurd (cc e)
action_is ConvertPretty ShowPretty e w p r = absurd (cc e)
action_is ConvertPretty Check e w p r = absurd (cc e)
action_is ConvertPretty (Convert g) e w p r = absurd (cc p)
action_is ConvertPretty ConvertPretty e w p r = refl
action_is ConvertPretty Rewrite e w p r = absurd (cc r)
action_is Rewrite Show e w p r = absurd (cc e)
action_is Rewrite ShowPretty e w p r = absurd (cc e)
action_is Rewrite Check e w p r = absurd (cc e)
action_is Rewrite (Convert g) e w p r = absurd (cc r)
action_is Rewrite ConvertPretty e w p r = absurd (cc r)
action_is Rewrite Rewrite e w p r = refl

-- no words name nothing
names_nothing : (b : Task) (m : Limits) (d : Option Text) (h : List Text) → Names [] b m d h → ⊥
names_nothing b m d h n = cc (sym n.named)

-- what the same rows give is the same
same_limits : (l m : Limits) (r q : List Row) → r ≡ q → limits_in r ≡ Some l → limits_in q ≡ Some m → l ≡ m
same_limits l m r q same lr lq = some_is (sym lr ∙ (ap limits_in same ∙ lq))

same_part : {T : Type 0} (name : List Row → T) (f h : T) (r q : List Row) → r ≡ q → name r ≡ f → name q ≡ h → f ≡ h
same_part name f h r q same fr fq = sym fr ∙ (ap name same ∙ fq)

-- a task is its action, its profile and what is said of its fault
task_is : (a b : Task) → a.action ≡ b.action → a.profile ≡ b.profile → a.lines ≡ b.lines → a ≡ b
task_is a b e p l = rw (e, p, l) refl

pub one_run : (words : List Text) (a b : Task) (l m : Limits) (c d : Option Text) (f h : List Text) → IsRun words a l c f → IsRun words b m d h
    → (a ≡ b) × (l ≡ m) × (c ≡ d) × (f ≡ h)
one_run words a b l m c d f h (inl none) (inl nothing) =
    (none.1 ∙ sym nothing.1, none.2 ∙ sym nothing.2, none.3 ∙ sym nothing.3, none.4 ∙ sym nothing.4)
one_run words a b l m c d f h (inl none) (inr n) = absurd (names_nothing b m d h (subst (λ (w : List Text). Names w b m d h) none.0 n))
one_run words a b l m c d f h (inr n) (inl none) = absurd (names_nothing a l c f (subst (λ (w : List Text). Names w a l c f) none.0 n))
one_run words a b l m c d f h (inr n) (inr o) =
    let both : (action_name a.action, n.rows) ≡ (action_name b.action, o.rows) = some_is (sym n.named ∙ o.named) in
    let same = ap (λ p. p.1) both in (
      task_is a b (action_is a.action b.action (ap (λ p. p.0) both) (sym n.formed ∙ (ap form_in same ∙ o.formed)) (sym n.laid_out ∙ (ap pretty_in same ∙ o.laid_out)) (sym n.rewritten ∙ (ap rewrite_in same ∙ o.rewritten))) (sym n.profiled ∙ (ap profile_in same ∙ o.profiled))
          (sym n.lined ∙ (ap lines_in same ∙ o.lined)),
      same_limits l m n.rows o.rows same n.limited o.limited,
      same_part catalog_in c d n.rows o.rows same n.catalogued o.catalogued,
      same_part files_in f h n.rows o.rows same n.filed o.filed,
    )

-- what has no file's name has no file
pub no_file : {T : Type 0} (name : T → Text) (file : Option T) → None ≡ option_map name file → file ≡ None
no_file name None e = refl
no_file name (Some x) e = absurd (cc e)
