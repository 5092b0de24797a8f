-- What a run says of what was put into a buffer, where the buffer's size stands before that.
use Rattle.std.proofs.Common.{◌≡◌, ◌⊎◌, inl, inr, ℕ, Bool, true, List, [], ◌∷◌, ◌++◌, take, drop, ap, ◌∙◌, sym, subst, append-nil, arith}
use Rattle.std.proofs.lemmas.Grind.{common_steps}
use Rattle.ion_meter.specs.declared.fault.Reason.{Reason}
use Rattle.ion_meter.specs.declared.limits.Limits.{Limits}
use Rattle.ion_meter.specs.declared.profile.Profile.{Profile}
use Rattle.ion_value.specs.Outcome.{Verdict}
use Rattle.ion_symbols.specs.Table.{Shared}
use Rattle.ion_transcode.specs.declared.to.To.{To}
use Rattle.ion_transcode.specs.PartCalls.{IsRefused, Takes, kept_by}
use Rattle.ion_transcode.specs.Verdict.{HasVerdictWith, IsWrittenWith}

-- a list without its first
abbrev others_of : List ℕ → List ℕ
others_of [] = []
others_of (x ∷ xs) = xs

-- what was written after nothing was put is what was put
put_is : (most most' : ℕ) (put put' out : List ℕ) → put ≡ [] → most' ∷ put' ≡ (most ∷ put) ++ out → put' ≡ out
put_is most most' put put' out none written = ap others_of written ∙ ap (λ it. it ++ out) none

-- so the stream has this verdict with what was put
pub verdict_is : (profile : Profile) (tables : List Shared) (limits : Limits) (to : To) (bytes : List ℕ) (v : Verdict) (most most' : ℕ) (put put' : List ℕ) → put ≡ []
    → IsWrittenWith profile tables limits to bytes v (Unit {0}) (most ∷ put) (most' ∷ put') → HasVerdictWith profile tables limits to bytes v put'
verdict_is profile tables limits to bytes v most most' put put' none it =
    subst (λ (out : List ℕ). HasVerdictWith profile tables limits to bytes v out) (sym (put_is most most' put put' it.output none (it.written tt))) it.has_verdict

-- and so is a part taken
pub takes_so : (profile : Profile) (tables : List Shared) (limits : Limits) (to : To) (kept part : List ℕ) (bytes values : ℕ) (then_kept : List ℕ) (most most' : ℕ)
    (put put' : List ℕ) → put ≡ [] → Takes profile tables limits to kept part bytes values then_kept (Unit {0}) (most ∷ put) (most' ∷ put')
    → Takes profile tables limits to kept part bytes values then_kept (Unit {0}) [] put'
takes_so profile tables limits to kept part bytes values then_kept most most' put put' none it = record {
  within = it.within;
  takes = record {
    out = it.takes.out;
    taken = it.takes.taken;
    keeps = it.takes.keeps;
    written = λ _. put_is most most' put put' it.takes.out none (it.takes.written tt);
  };
}

-- or refused
pub refused_so : (profile : Profile) (tables : List Shared) (limits : Limits) (to : To) (kept part : List ℕ) (last : Bool) (r : Reason) (p most most' : ℕ)
    (put put' : List ℕ) → put ≡ [] → IsRefused profile tables limits to kept part last r p (Unit {0}) (most ∷ put) (most' ∷ put')
    → IsRefused profile tables limits to kept part last r p (Unit {0}) [] put'
refused_so profile tables limits to kept part last r p most most' put put' none it = record {
  out = it.out;
  at = it.at;
  counted = it.counted;
  behind = it.behind;
  refused = it.refused;
  written = λ _. put_is most most' put put' it.out none (it.written tt);
}

-- what was kept stays, with nothing behind it
pub stays_so : (stays : Bool) (kept more : List ℕ) → (stays ≡ true) × (more ≡ []) → kept_by stays kept more ≡ kept
stays_so stays kept more e = ap (λ s. kept_by s kept more) e.0 ∙ (ap (λ bytes. kept ++ bytes) e.1 ∙ append-nil kept)

-- what goes into the first of two buffers, while the second is empty, and what goes into the second
pub in_two : (front rest bytes : List ℕ) (n : ℕ) → (n ≡ 0) ⊎ (rest ≡ []) → (front ++ take n bytes) ++ (rest ++ drop n bytes) ≡ (front ++ rest) ++ bytes
in_two front rest bytes n (inl none) = grind (arith, common_steps, none)
in_two front rest bytes n (inr none) = grind (arith, common_steps, none)
