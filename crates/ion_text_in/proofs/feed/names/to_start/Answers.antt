use Rattle.std.proofs.Common.{◌≡◌, ◌∙◌, ◌⊎◌, inl, inr, Bool, false, ap}
use Rattle.ion_value.specs.declared.ion_type.Kind.{Kind}
use Rattle.ion_value.specs.declared.ion_type.Kind.TheVariants as a_kind
use Rattle.ion_text_in.specs.declared.expected.Expected.TheVariants as codes
use Rattle.ion_text_in.specs.Expecting.{expected_in}
use Rattle.ion_text_in.specs.Feeding.{expected_of}
use Rattle.ion_text_in.proofs.FeedReading.{start-value}
use Rattle.ion_text_in.proofs.FeedNames.{expects-field, next-begins, start-field, named-bare}
use Rattle.ion_text_in.proofs.feed.names.to_start.Goals as goal

value-in : (kind : Kind) → (kind ≡ a_kind.List) ⊎ (kind ≡ a_kind.Sexp) → expected_in false kind ≡ codes.Value
value-in kind (inl list) = ap (λ (k : Kind). expected_in false k) list
value-in kind (inr sexp) = ap (λ (k : Kind). expected_in false k) sexp

pub returns-in-List : goal.returns-in-List
returns-in-List c =
    let spot = c.args.spot in
    let e = c.value_start.ensures in
    let value : expected_of spot ≡ codes.Value = ap (λ (b : Bool). expected_in b spot.kind) c.if-spot.false ∙ value-in spot.kind c.in-List.is in
    record {
      start = start-value c.args.bounds spot c.args.next c.value_start.result value c.requires.next e.field e.note e.next e.some;
      bare = e.note;
    }

pub field_start-requires : goal.field_start-requires
field_start-requires c = λ told. next-begins c.requires.next (c.requires.next.some told)

pub returns-in-Struct-clause-start : goal.returns-in-Struct-clause-start
returns-in-Struct-clause-start c =
    let spot = c.args.spot in
    start-field c.args.bounds spot c.args.next c.field_start.result c.place_after.ensures c.requires.within (expects-field spot c.if-spot.false c.in-Struct.is) c.requires.next c.field_start.ensures

pub returns-in-Struct-clause-bare : goal.returns-in-Struct-clause-bare
returns-in-Struct-clause-bare c = named-bare c.args.bounds.limits c.place_after.result c.args.next.rest.now c.field_start.result c.field_start.ensures
