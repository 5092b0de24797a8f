-- The number that an option is given, as `u64` reads it.
use Rattle.std.proofs.Common.{◌≡◌, ◌≤◌, ◌∙◌, ap, sym, refl, arith, ℕ, Bool, true, false, Option, Some, None, Result, Ok, Err}
use Rattle.std.proofs.lemmas.Bool.{leb-false, leb-true}
use Rattle.std.specs.Option.{option_map_or}
use Rattle.std.specs.Prelude.{nat_le, if◌then◌else◌}
use Rattle.std.specs.Str.Parse.{ExplainsUnsignedError, HasUnsignedDigitsIfOk, ParsesUnsigned, digits_value, without_leading_plus}
use Rattle.std.specs.declared.num.ParseIntError.{ParseIntError}
use Rattle.clap.proofs.ValueTestLemmas.{accepts-Accepts, Accepts-accepts}
use Rattle.clap.proofs.WalkLemmas.{one_text-rows}
use Rattle.clap.specs.ValueTests.{accepts}
use Rattle.clap.specs.Words.{Accepts, TriesOne, Text, one_of, one_text, rows_of}
use Rattle.clap.specs.declared.builder.value_parser.ValueParser.TheVariants.{Unsigned}
use Rattle.clap.specs.declared.parser.matches.Found.{Found}
use Rattle.ion_tool.specs.Words.{limit_in, number_in}

-- what `u64` makes of a text
abbrev pub Reads : Text → Result ℕ ParseIntError → Type 0
Reads text r = ParsesUnsigned 64 10 text r × ExplainsUnsignedError 10 text r × HasUnsignedDigitsIfOk text r

-- what is made of a number that was read
abbrev pub up_to : ℕ → ℕ → Option ℕ
up_to most n = if nat_le n most then Some n else None

-- what is made of an option that was read
abbrev pub allowed : ℕ → ℕ → Result (Option ℕ) ParseIntError → Option ℕ
allowed most usual (Ok (Some n)) = up_to most n
allowed most usual (Ok None) = Some usual
allowed most usual (Err e) = None

refused : (most : ℕ) (text : Text) → (Accepts false (Unsigned 0 most) text → ⊥) → number_in most text ≡ None
refused most text unfit = go (accepts false (Unsigned 0 most) text) refl
  where
    go : (b : Bool) → accepts false (Unsigned 0 most) text ≡ b → number_in most text ≡ None
    go true e = absurd (unfit (accepts-Accepts false (Unsigned 0 most) text e))
    go false e = rw e refl

read : (most n : ℕ) (text : Text) → Reads text (Ok n) → number_in most text ≡ up_to most n
read most n text h = go (nat_le n most) refl
  where
    go : (b : Bool) → nat_le n most ≡ b → number_in most text ≡ up_to most n
    go true e =
        let low = leb-true n most e in
        let small : digits_value 10 (without_leading_plus text) ≤ most = omega (arith, h.0.1, low) in
        rw (e, Accepts-accepts false (Unsigned 0 most) text (h.0.0.0, h.0.0.1, omega arith, small)) (ap Some (sym h.0.1))
    go false e =
        let large = leb-false n most e in
        rw e (refused most text (λ a. omega (arith, h.0.1, a.3, large)))

given : (most usual : ℕ) (o : Option Text) (r : Result (Option ℕ) ParseIntError)
    → (o ≡ None → r ≡ Ok None) → ((t : Text) → o ≡ Some t → TriesOne Reads t r) → option_map_or (number_in most) o (Some usual) ≡ allowed most usual r
given most usual None r none value = rw (none refl) refl
given most usual (Some t) r none value = go r (value t refl)
  where
    go : (r : Result (Option ℕ) ParseIntError) → TriesOne Reads t r → number_in most t ≡ allowed most usual r
    go (Ok (Some n)) h = read most n t h
    go (Ok None) h = absurd h
    go (Err e) h = refused most t (λ a. h.0 (a.0, a.1))

-- an option that is read gives the number of its text, or without a text the usual one
pub limit_read : (f : Found) (id : Text) (most usual : ℕ) (r : Result (Option ℕ) ParseIntError)
    → (one_text f id ≡ None → r ≡ Ok None) → ((t : Text) → one_text f id ≡ Some t → TriesOne Reads t r)
    → limit_in id most usual (rows_of f) ≡ allowed most usual r
limit_read f id most usual r none value =
    let same = one_text-rows f id in
    given most usual (one_of id (rows_of f)) r (λ e. none (same ∙ e)) (λ t e. value t (same ∙ e))
