-- What a pending table is after a slot or an import more.
use Rattle.std.proofs.Common.{◌≡◌, ℕ, ◌+◌, ◌-◌, ◌*◌, ◌≤◌, true, false, List, [], ◌∷◌, ◌++◌, length, Option, ap, sym, subst, ◌∙◌, arith, length-append}
use Rattle.std.proofs.lemmas.Bool.{false≢true}
use Rattle.ion_meter.specs.Entries.{Entries}
use Rattle.ion_symbols.specs.Table.{Table, most_slots, text_length}
use Rattle.ion_symbols.specs.Present.{Starts}
use Rattle.ion_symbols.specs.Buffer.{IsPending, is_importing}
use Rattle.ion_symbols.specs.declared.known_text.Area.TheVariants as area
use Rattle.ion_symbols.specs.declared.symbols.FoundImport.{FoundImport}
use Rattle.ion_symbols.specs.declared.buffer.SymbolBuffer.{SymbolBuffer}
use Rattle.ion_symbols.proofs.Keeping.{cost_push}

-- an import that begins where the last one ends
starts_push : (from : ℕ) (fs : List FoundImport) (end : ℕ) (f : FoundImport) → Starts from fs end → f.start ≡ end → Starts from (fs ++ f ∷ []) (end + f.count)
starts_push from [] end f h e = (e ∙ sym h, omega (arith, h))
starts_push from (g ∷ fs) end f h e = (h.0, starts_push (from + g.count) fs end f h.1 e)

-- one more of something is one more
length_push : {T : Type 0} (xs : List T) (x : T) → length (xs ++ x ∷ []) ≡ length xs + 1
length_push xs x = length-append xs (x ∷ [])

-- a slot more
slot_pending : {A : Type 0} {limit : ℕ} {old : Table} {b : SymbolBuffer A} (x : Option (List ℕ)) (cost inside : ℕ)
    → IsPending limit old b → b.area ≡ area.Symbols → cost ≡ b.cost + (16 + text_length x) → cost ≤ limit → b.count + 1 ≤ most_slots
    → IsPending limit old (record b { inside = inside; slots = b.slots ++ x ∷ []; cost = cost; count = b.count + 1 })
slot_pending {b = b} x cost inside p at c cheap few =
    let s = cost_push b.slots x in
    let n = length_push b.slots x in
    record {
      starts = p.starts;
      each = p.each;
      exact = omega (arith, p.exact, s, c);
      cheap = cheap;
      number = omega (arith, p.number, n);
      few = few;
      unnamed = p.unnamed;
      fresh = p.fresh;
      importing = p.importing;
      alone = p.alone;
    }

-- a slot was pushed, then its cost was counted and what it begins passed over
pub slot_pushed : {A : Type 0} {limit : ℕ} {old : Table} (b m n : SymbolBuffer A) (x : Option (List ℕ)) (cost : ℕ) (slots : List (Option (List ℕ)))
    → IsPending limit old b → b.area ≡ area.Symbols → m ≡ record b { slots = slots } → slots ≡ b.slots ++ x ∷ []
    → n ≡ record (record m { cost = m.cost + cost; count = m.count + 1 }) { inside = n.inside }
    → cost ≡ 16 + text_length x → b.cost + cost ≤ limit → b.count + 1 ≤ most_slots → IsPending limit old n
slot_pushed {limit = limit} {old = old} b m n x cost slots p at em es en ec cheap few =
    subst (λ y. IsPending limit old y) (sym en)
    (subst (λ y. IsPending limit old (record (record y { cost = y.cost + cost; count = y.count + 1 }) { inside = n.inside })) (sym em)
    (subst (λ s. IsPending limit old (record b { inside = n.inside; slots = s; cost = b.cost + cost; count = b.count + 1 })) (sym es)
    (slot_pending x (b.cost + cost) n.inside p at (ap (λ k. b.cost + k) ec) cheap few)))

-- an import more, whose name was given back
pub import_pushed : {A : Type 0} {limit : ℕ} {old : Table} (b : SymbolBuffer A) (imports : Entries FoundImport) (f : FoundImport) (length_was : ℕ) (name : List ℕ)
    → IsPending limit old b → b.area ≡ area.Import → imports.items ≡ b.imports.items ++ f ∷ [] → imports.cost ≡ b.imports.cost → f.start ≡ b.import_slots
    → length_was ≡ length b.name → name ≡ [] → (b.cost - length_was) + 32 ≤ limit → b.count + f.count ≤ most_slots
    → IsPending limit old (record b {
      area = area.Imports;
      imports = imports;
      import_slots = b.import_slots + f.count;
      cost = (b.cost - length_was) + 32;
      count = b.count + f.count;
      name = name;
    })
import_pushed b imports f length_was name p at ei ec es el en cheap few =
    let met : (b.has_imports ≡ true) × (b.keeps ≡ false) = p.importing (ap is_importing at) in
    let n : length imports.items ≡ length b.imports.items + 1 = ap length ei ∙ length_push b.imports.items f in
    let z : length name ≡ 0 = ap length en in
    let each : imports.cost ≡ 32 = ec ∙ p.each in
    let was : b.imports.cost * length b.imports.items ≡ 32 * length b.imports.items = ap (λ k. k * length b.imports.items) p.each in
    let is : imports.cost * length imports.items ≡ 32 * length imports.items = ap (λ k. k * length imports.items) each in
    record {
      starts = subst (λ is. Starts 0 is (b.import_slots + f.count)) (sym ei) (starts_push 0 b.imports.items b.import_slots f p.starts es);
      each = each;
      exact = omega (arith, p.exact, n, z, was, is, el);
      cheap = cheap;
      number = omega (arith, p.number);
      few = few;
      unnamed = λ u. en;
      fresh = λ u. absurd (false≢true (sym u ∙ met.0));
      importing = λ u. met;
      alone = λ u. absurd (false≢true (sym met.1 ∙ u));
    }
