use Rattle.std.proofs.Common.{rules, ◌≡◌, ◌+◌, ◌≤◌, true, false, nat_le, Ok, ap, sym, ◌∙◌, arith}
use Rattle.std.proofs.lemmas.Grind.{common_steps}
use Rattle.ion_symbols.specs.Table.{text_length}
use Rattle.ion_symbols.specs.Declaration.{string_in}
use Rattle.ion_symbols.specs.declared.catalog_builder.Stage.TheVariants as stage
use Rattle.ion_symbols.specs.CatalogItems.{at, counted, passed, with_text}
use Rattle.ion_symbols.specs.Building.{draft_of, loading_of, view_of}
use Rattle.ion_symbols.proofs.CatalogCosts.{counted-text, element-refused, element-taken}
use Rattle.ion_symbols.proofs.catalog_builder.CatalogBuilder.element.Goals as goal

pub returns-then-not-fits-clause-gives : goal.returns-then-not-fits-clause-gives
returns-then-not-fits-clause-gives g c =
    let b = c.args.self.now in
    let t = view_of c.args.entry.now in
    let passes : nat_le (counted (draft_of b) + (16 + text_length (string_in t.what))) b.limits.symbols ≡ false = search rules in
    element-refused b.limits.symbols t (draft_of b) passes

pub returns-clause-gives : goal.returns-clause-gives
returns-clause-gives g c =
    let b = c.args.self.now in
    let t = view_of c.args.entry.now in
    let fits : nat_le (counted (draft_of b) + (16 + text_length (string_in t.what))) b.limits.symbols ≡ true = search rules in
    let now : loading_of c.pass.new.self ≡ passed t.what (at stage.Symbols (with_text (string_in t.what) (draft_of b))) = search rules in
    element-taken b.limits.symbols t (draft_of b) fits ∙ ap (λ s. Ok s) (sym now)

pub returns-clause-built : goal.returns-clause-built
returns-clause-built g c =
    let b = c.args.self.now in
    let t = view_of c.args.entry.now in
    let more = counted-text (string_in t.what) (draft_of b) in
    let fits : counted (draft_of b) + (16 + text_length (string_in t.what)) ≤ b.limits.symbols = search rules in
    record {
      building = record { checked = grind (arith, common_steps); exact = grind (arith, common_steps); cheap = grind (arith, common_steps) };
      limits = grind (arith, common_steps);
      failed = grind (arith, common_steps);
      causes = grind (arith, common_steps);
      charges = grind (arith, common_steps);
    }

pub push_bytes-requires-clause-room : goal.push_bytes-requires-clause-room
push_bytes-requires-clause-room g c = grind (arith, common_steps)

pub pass-requires : goal.pass-requires
pass-requires g c = grind (arith, common_steps)
