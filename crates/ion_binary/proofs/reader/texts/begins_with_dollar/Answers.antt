use Rattle.ion_binary.proofs.Below.{sym, subst, coded, IsQuotedAs}
use Rattle.ion_binary.proofs.Handing.{simple-no_dollar}
use Rattle.ion_binary.proofs.reader.texts.begins_with_dollar.Goals as goal

pub returns-then-text-eq-BARE : goal.returns-then-text-eq-BARE
returns-then-text-eq-BARE c =
    let bytes = c.args.text.text.now in
    sym (simple-no_dollar bytes (subst (λ n. IsQuotedAs (coded n) bytes) c.if-text-eq-BARE.true c.requires))
