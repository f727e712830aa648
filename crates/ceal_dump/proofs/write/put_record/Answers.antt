use Rattle.std.proofs.Common.{◌++◌, ap, ◌∙◌}
use Rattle.std.specs.Prelude.{codes}
use Rattle.ceal_dump.proofs.Loops.{joined, on-ok}
use Rattle.ceal_dump.specs.DumpText.{inputs_text, call_text, trace_text, memory_text, dump_text}
use Rattle.ceal_dump.proofs.write.put_record.Goals as goal

-- the inputs, the call, the trace, the memory, and the last line
pub returns-clause-text : goal.returns-clause-text
unfolding dump_text
returns-clause-text c =
    let out = c.args.out.now in
    let r = c.args.kept.now in
    let i = inputs_text r.inputs in
    let f = call_text r.function r.args in
    let t = trace_text r.forest in
    let m = memory_text r.memory.inputs r.memory.made in
    on-ok c.append.result _ _ (λ e.
    joined out (i ++ f ++ t ++ m) (codes "end\n") c.put_memory.new.out c.append.new.self
    (joined out (i ++ f ++ t) m c.put_trace.new.out c.put_memory.new.out
    (joined out (i ++ f) t c.put_call.new.out c.put_trace.new.out
    (joined out i f c.put_inputs.new.out c.put_call.new.out
    (c.in_ok-put_inputs.ensures.text ∙ ap (λ bs. out ++ inputs_text bs) c.items.ensures.value)
    (c.in_ok-put_call.ensures.text ∙ ap (λ args. c.put_inputs.new.out ++ call_text r.function args) c.items-2.ensures.value))
    (c.in_ok-put_trace.ensures.text ∙ ap (λ is. c.put_call.new.out ++ trace_text is) c.items-3.ensures.value))
    c.in_ok-put_memory.ensures.text) e) c.append.ensures.ok
