use Rattle.std.proofs.Common.{◌≡◌, false, not, ap, sym, ◌∙◌}
use Rattle.ion_value.specs.Name.{is_plain, is_version}
use Rattle.ion_value.proofs.Words.{a_keyword, an_id, no_identifier, no_version}
use Rattle.ion_value.proofs.name.is_plain.Goals.{then-is_identifier, else-is_identifier, then-not-is_keyword, else-not-is_keyword}
use Rattle.ion_value.proofs.name.is_plain.Goals as goal

pub returns-else-not-is_id : goal.returns-else-not-is_id
returns-else-not-is_id c =
    let word = c.args.name.now in
    let quoted : is_plain word ≡ false =
    elim c.if-not-is_keyword.branch [
      | then-not-is_keyword w ↦ an_id word (ap not (sym w.is_id.ensures) ∙ (sym w.value-is ∙ c.if-not-is_id.false))
      | else-not-is_keyword w ↦
          elim c.if-is_identifier.branch [
            | then-is_identifier v ↦ a_keyword word (ap not (sym v.is_keyword.ensures) ∙ (sym v.value-is ∙ w.if-not-is_keyword.false))
            | else-is_identifier v ↦ no_identifier word (sym c.is_identifier.ensures ∙ v.if-is_identifier.false)
          ]
    ] in
    c.if-not-is_id.false ∙ sym quoted

pub returns-then-not-is_id : goal.returns-then-not-is_id
returns-then-not-is_id c =
    let word = c.args.name.now in
    let plain : is_plain word ≡ not (is_version word) =
    elim c.if-not-is_keyword.branch [
      | then-not-is_keyword w ↦
          elim c.if-is_identifier.branch [
            | then-is_identifier v ↦
                let name = sym c.is_identifier.ensures ∙ v.if-is_identifier.true in
                let other = ap not (sym v.is_keyword.ensures) ∙ (sym v.value-is ∙ w.if-not-is_keyword.true) in
                let no_id = ap not (sym w.is_id.ensures) ∙ (sym w.value-is ∙ c.if-not-is_id.true) in
                no_version word name other no_id
            | else-is_identifier v ↦ absurd (cc (sym v.if-is_identifier.false ∙ (sym v.value-is ∙ w.if-not-is_keyword.true)))
          ]
      | else-not-is_keyword w ↦ absurd (cc (c.if-not-is_id.true, w.value-is, w.if-not-is_keyword.false))
    ] in
    ap not c.is_version.ensures ∙ sym plain
