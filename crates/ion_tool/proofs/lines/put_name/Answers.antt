use Rattle.std.proofs.Common.{rules, ◌≡◌, ℕ, List, IsUtf8, sym, subst}
use Rattle.std.proofs.lemmas.Str.{IsUtf8-past_char}
use Rattle.std.specs.Str.Iter.{chars_rest}
use Rattle.ion_tool.specs.Serving.{name_in_line}
use Rattle.ion_tool.proofs.NamesInLines.{no_char, one_char}
use Rattle.ion_tool.proofs.Writing.{left_all, left_cut, left_none, left_then, IsLeft}
use Rattle.ion_tool.proofs.lines.put_name.Goals as goal

pub loop-character-init : goal.loop-character-init
loop-character-init g c =
    let rest : chars_rest c.into_iter-character-iterator.result ≡ c.args.name.now = search rules in
    record {
      utf8 = subst (λ (t : List ℕ). IsUtf8 t) (sym rest) c.utf8.name;
      left = subst (λ (t : List ℕ). IsLeft g.D.Output (name_in_line c.args.name.now) (name_in_line t) c.args.device.now c.args.device.now) (sym rest) (left_all g.D.Output _ _);
    }

pub returns-then-not-put_char : goal.returns-then-not-put_char
returns-then-not-put_char g c =
    let i = c.loop-character.invariant in
    left_cut g.D.Output _ _ _ _ _ c.loop-character.device _ c.put_char.result (one_char _ _ c.in-Some.character i.utf8 c.in-Some.ensures.steps.0) c.if-not-put_char.true i.left c.put_char.ensures

pub loop-character-preserved : goal.loop-character-preserved
loop-character-preserved g c =
    let i = c.loop-character.invariant in
    record {
      utf8 = IsUtf8-past_char _ _ c.in-Some.character i.utf8 c.in-Some.ensures.steps.0;
      left = left_then g.D.Output _ _ _ _ _ c.loop-character.device _ c.put_char.result (one_char _ _ c.in-Some.character i.utf8 c.in-Some.ensures.steps.0) c.if-not-put_char.false i.left c.put_char.ensures;
    }

pub returns : goal.returns
returns g c = let i = c.loop-character.invariant in left_none g.D.Output _ _ _ _ (no_char _ c.in-None.ensures.steps.0.0) i.left
