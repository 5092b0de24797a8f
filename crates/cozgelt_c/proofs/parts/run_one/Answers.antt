use Rattle.std.proofs.Common.{◌≡◌, ◌≤◌, ◌<◌, ◌++◌, ℕ, Bool, List, [], length, take, drop, ap, ◌∙◌, sym, subst, refl, inl, arith, rules}
use Rattle.ion_meter.specs.Reasons.{number_of}
use Rattle.ion_meter.specs.declared.fault.Reason.{Reason}
use Rattle.ion_meter.specs.declared.limits.Limits.{Limits}
use Rattle.ion_meter.specs.declared.profile.Profile.{Profile}
use Rattle.ion_symbols.specs.Table.{Shared}
use Rattle.ion_transcode.specs.declared.to.To.{To}
use Rattle.ion_transcode.specs.PartCalls.{IsRefused}
use Rattle.cozgelt_c.specs.declared.CozgeltAnswer.{CozgeltAnswer}
use Rattle.cozgelt_c.specs.declared.parts.CozgeltPart.{CozgeltPart}
use Rattle.cozgelt_c.specs.PartAnswers.{AnswersRun}
use Rattle.cozgelt_c.proofs.parts.run_one.Goals as goal

-- a part that is refused, where reason, place and length of the output are told, and nothing else is done
refused_at : (profile : Profile) (tables : List Shared) (limits : Limits) (to : To) (last : Bool) (bytes : List ℕ) (part : CozgeltPart) (kept room left out : List ℕ)
    (answer : CozgeltAnswer) (r : Reason) (p : ℕ) → IsRefused profile tables limits to (take part.kept kept) bytes last r p (Unit {0}) [] out
    → (length out ≤ length room → left ≡ out ++ drop (length out) room) → (length room < length out → left ≡ room)
    → AnswersRun profile tables limits to last bytes 1 (record { part = part; kept = kept; room = room; answer = answer })
    (record { part = part; kept = kept; room = left; answer = record answer { reason = number_of r; place = p; needed = length out } })
refused_at profile tables limits to last bytes part kept room left out answer r p it fits does_not_fit = record {
  taken = λ e. absurd (omega (arith, e));
  refused = λ _. record { reason = r; output = out; refused = it; told = refl; needed = refl; fits = fits; does_not_fit = does_not_fit; part_kept = (refl, refl); answer_keeps = refl };
  long = λ e. absurd (omega (arith, e));
  no_room = λ e. absurd (omega (arith, e));
  known = inl (omega arith);
  others_keep = λ above _. absurd (omega (arith, above));
}

-- reason and place are told, and then how long the output is
pub returns-in-Err-Refused-clause-answers : goal.returns-in-Err-Refused-clause-answers
returns-in-Err-Refused-clause-answers c =
    let task = c.args.call.task in
    let part = c.args.call.part in
    let r = c.in-Err-Refused.reason in
    let p = c.in-Err-Refused.place in
    let output = c.run_part_within-output.result.1.put in
    let old = c.args.answer.now in
    let told : c.leave.new.answer ≡ record old { reason = number_of r; place = p; needed = length output } =
    c.leave.ensures.told ∙ ap {A = CozgeltAnswer} (λ answer. record answer { needed = length output }) c.refuse.ensures in
    subst (λ answer. AnswersRun task.profile c.args.tables.now c.args.call.limits task.to part.last part.bytes.now 1
    (record { part = c.args.part.now; kept = c.args.kept.now; room = c.args.room.now; answer = old })
    (record { part = c.args.part.now; kept = c.args.kept.now; room = c.leave.new.room; answer = answer })) (sym told)
    (refused_at task.profile c.args.tables.now c.args.call.limits task.to part.last part.bytes.now c.args.part.now c.args.kept.now c.args.room.now c.leave.new.room output old r p
    (c.run_part_within-output.ensures.refused r p (search rules)) c.leave.ensures.fits c.leave.ensures.does_not_fit)
