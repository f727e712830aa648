use Rattle.std.proofs.Common.{arith, rules}
use Rattle.ceal_cli.proofs.Outputs.OutputOfBytes.{output_for, answer_for, refusal_for, prefix_for, readable_for}
use Rattle.ceal_cli.proofs.Outputs.OutputOfBytes.{short_for, taken_for, refused_for, done_for, not_refused_for}
use Rattle.ceal_cli.proofs.Outputs.OutputOfBytes.{not_done_for, not_taken_for, none_for, first_for, none_first_for, beyond_for, kept_for}
use Rattle.ceal_cli.proofs.top.answer_input.Goals as goal

pub returns-in-Ok-true-clause-output : goal.returns-in-Ok-true-clause-output
returns-in-Ok-true-clause-output g c =
    λ _. output_for _ _ _ _ c.in-Ok.ensures.all c.in-Ok.ensures.end c.deref.ensures.value _ _ _ c.in-Ok-true.ensures.writes.all

pub returns-in-Ok-true-clause-within : goal.returns-in-Ok-true-clause-within
returns-in-Ok-true-clause-within g c =
    λ _. short_for _ _ _ _ c.in-Ok.ensures.all c.in-Ok.ensures.end c.deref.ensures.value (omega (arith, c.deref.ensures.len, c.in-Ok.ensures.within))

pub returns-in-Ok-true-clause-prefix : goal.returns-in-Ok-true-clause-prefix
returns-in-Ok-true-clause-prefix g c =
    prefix_for _ _ _ _ c.in-Ok.ensures.all c.in-Ok.ensures.end c.deref.ensures.value _ _ _ c.write_answer.ensures.writes.part

pub returns-in-Ok-true-clause-done : goal.returns-in-Ok-true-clause-done
returns-in-Ok-true-clause-done g c =
    λ _. taken_for _ _ _ _ c.in-Ok.ensures.all c.in-Ok.ensures.end c.deref.ensures.value c.args.mode (c.in-Ok-true.ensures.taken.0 c.in-Ok-true.field-0-test)

pub returns-in-Ok-true-clause-refuses : goal.returns-in-Ok-true-clause-refuses
returns-in-Ok-true-clause-refuses g c =
    not_refused_for _ _ _ _ c.in-Ok.ensures.all c.in-Ok.ensures.end c.deref.ensures.value c.args.mode _ _ (c.in-Ok-true.ensures.taken.0 c.in-Ok-true.field-0-test)

pub returns-in-Ok-false-clause-prefix : goal.returns-in-Ok-false-clause-prefix
returns-in-Ok-false-clause-prefix g c =
    prefix_for _ _ _ _ c.in-Ok.ensures.all c.in-Ok.ensures.end c.deref.ensures.value _ _ _ c.write_answer.ensures.writes.part

pub returns-in-Ok-false-clause-refused : goal.returns-in-Ok-false-clause-refused
returns-in-Ok-false-clause-refused g c =
    λ _. refused_for _ _ _ _ c.in-Ok.ensures.all c.in-Ok.ensures.end c.deref.ensures.value c.args.mode
    (λ h. let t = c.in-Ok-false.ensures.taken.1 h in let f = c.in-Ok-false.field-0-test in absurd (cc (t, f)))

pub returns-in-Ok-false-clause-refuses : goal.returns-in-Ok-false-clause-refuses
returns-in-Ok-false-clause-refuses g c = not_taken_for _ _ _ _ c.in-Ok.ensures.all c.in-Ok.ensures.end c.deref.ensures.value c.args.mode _ _

pub returns-in-Ok-false-clause-complete : goal.returns-in-Ok-false-clause-complete
returns-in-Ok-false-clause-complete g c =
    not_done_for _ _ _ _ c.in-Ok.ensures.all c.in-Ok.ensures.end c.deref.ensures.value c.args.mode _ _
    (λ h. let t = c.in-Ok-false.ensures.taken.1 h in let f = c.in-Ok-false.field-0-test in absurd (cc (t, f)))

pub returns-in-Ok-false-clause-output : goal.returns-in-Ok-false-clause-output
returns-in-Ok-false-clause-output g c =
    λ _. output_for _ _ _ _ c.in-Ok.ensures.all c.in-Ok.ensures.end c.deref.ensures.value _ _ _ c.in-Ok-false.ensures.writes.all

pub returns-in-Err-Memory-write_answer-clause-prefix : goal.returns-in-Err-Memory-write_answer-clause-prefix
returns-in-Err-Memory-write_answer-clause-prefix g c =
    prefix_for _ _ _ _ c.in-Ok.ensures.all c.in-Ok.ensures.end c.deref.ensures.value _ _ _ c.write_answer.ensures.writes.part

pub returns-clause-prefix : goal.returns-clause-prefix
returns-clause-prefix g c =
    prefix_for _ _ _ _ c.in-Ok.ensures.all c.in-Ok.ensures.end c.deref.ensures.value _ _ _ c.write_answer.ensures.writes.part

pub returns-in-Ok-true-clause-complete : goal.returns-in-Ok-true-clause-complete
returns-in-Ok-true-clause-complete g c = done_for _ _ _ _ c.in-Ok.ensures.all c.in-Ok.ensures.end c.deref.ensures.value c.args.mode _ _

pub returns-in-Err-TooLong-clause-prefix : goal.returns-in-Err-TooLong-clause-prefix
returns-in-Err-TooLong-clause-prefix g c = none_for _ _ c.args.mode

pub returns-in-Ok-true-clause-answered : goal.returns-in-Ok-true-clause-answered
returns-in-Ok-true-clause-answered g c =
    λ _. answer_for _ _ _ _ c.in-Ok.ensures.all c.in-Ok.ensures.end c.deref.ensures.value _ _ c.args.mode c.one_side.ensures.answered
    (c.in-Ok-true.ensures.taken.0 c.in-Ok-true.field-0-test) c.in-Ok-true.ensures.writes.all

-- an input that is accepted would have been taken
pub returns-in-Ok-false-clause-told : goal.returns-in-Ok-false-clause-told
returns-in-Ok-false-clause-told g c =
    λ _. refusal_for _ _ _ _ c.in-Ok.ensures.all c.in-Ok.ensures.end c.deref.ensures.value _ _ c.args.mode c.one_side.ensures.refused c.requires.reads
    (λ h. let t = c.in-Ok-false.ensures.taken.1 h in let f = c.in-Ok-false.field-0-test in absurd (cc (t, f))) c.in-Ok-false.ensures.writes.all

pub returns-in-Ok-false-clause-within : goal.returns-in-Ok-false-clause-within
returns-in-Ok-false-clause-within g c =
    λ _. short_for _ _ _ _ c.in-Ok.ensures.all c.in-Ok.ensures.end c.deref.ensures.value (omega (arith, c.deref.ensures.len, c.in-Ok.ensures.within))

pub returns-clause-within : goal.returns-clause-within
returns-clause-within g c =
    λ _. short_for _ _ _ _ c.in-Ok.ensures.all c.in-Ok.ensures.end c.deref.ensures.value (omega (arith, c.deref.ensures.len, c.in-Ok.ensures.within))

pub returns-in-Ok-true-clause-readable : goal.returns-in-Ok-true-clause-readable
returns-in-Ok-true-clause-readable g c =
    λ _. readable_for _ _ _ _ c.in-Ok.ensures.all c.in-Ok.ensures.end c.deref.ensures.value _ _ c.args.mode
    (c.in-Ok-true.ensures.readable c.in-Ok-true.field-0-test)

pub returns-in-Ok-true-clause-beyond : goal.returns-in-Ok-true-clause-beyond
returns-in-Ok-true-clause-beyond g c =
    beyond_for _ _ _ _ c.in-Ok.ensures.all c.in-Ok.ensures.end c.deref.ensures.value _ (omega (arith, c.deref.ensures.len, c.in-Ok.ensures.within))

pub returns-in-Ok-false-clause-beyond : goal.returns-in-Ok-false-clause-beyond
returns-in-Ok-false-clause-beyond g c =
    beyond_for _ _ _ _ c.in-Ok.ensures.all c.in-Ok.ensures.end c.deref.ensures.value _ (omega (arith, c.deref.ensures.len, c.in-Ok.ensures.within))

pub returns-in-Err-Memory-write_answer-clause-beyond : goal.returns-in-Err-Memory-write_answer-clause-beyond
returns-in-Err-Memory-write_answer-clause-beyond g c =
    beyond_for _ _ _ _ c.in-Ok.ensures.all c.in-Ok.ensures.end c.deref.ensures.value _ (omega (arith, c.deref.ensures.len, c.in-Ok.ensures.within))

pub returns-clause-beyond : goal.returns-clause-beyond
returns-clause-beyond g c =
    beyond_for _ _ _ _ c.in-Ok.ensures.all c.in-Ok.ensures.end c.deref.ensures.value _ (omega (arith, c.deref.ensures.len, c.in-Ok.ensures.within))

pub returns-in-Err-Memory-clause-beyond : goal.returns-in-Err-Memory-clause-beyond
returns-in-Err-Memory-clause-beyond g c = kept_for _ _

pub returns-in-Err-TooLong-clause-beyond : goal.returns-in-Err-TooLong-clause-beyond
returns-in-Err-TooLong-clause-beyond g c = kept_for _ _

pub returns-in-Err-ReadFault-clause-beyond : goal.returns-in-Err-ReadFault-clause-beyond
returns-in-Err-ReadFault-clause-beyond g c = kept_for _ _

-- memory ran out for the input
pub returns-in-Err-Memory-clause-cut : goal.returns-in-Err-Memory-clause-cut
returns-in-Err-Memory-clause-cut g c = λ _ _ fuel _. none_first_for _ _ fuel

-- memory ran out after the replies to the first lines
pub returns-in-Err-Memory-write_answer-clause-cut : goal.returns-in-Err-Memory-write_answer-clause-cut
returns-in-Err-Memory-write_answer-clause-cut g c =
    λ _ own fuel is. first_for _ _ _ _ c.in-Ok.ensures.all c.in-Ok.ensures.end c.deref.ensures.value _ _ fuel (c.write_answer.ensures.cut (search rules) own fuel is)
