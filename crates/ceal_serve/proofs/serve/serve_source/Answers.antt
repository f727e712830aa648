use Rattle.std.proofs.Common.{◌≡◌, ◌<◌, ◌^◌, rules, arith, true, false, None, length}
use Rattle.ceal_serve.proofs.Opening.{at-known, done-known, heard-begins, owes-fault, part-begins, refused-known, whole-begins}
use Rattle.ceal_serve.proofs.serve.serve_source.Goals as goal

pub returns-then-not-source-clause-over : goal.returns-then-not-source-clause-over
returns-then-not-source-clause-over g c =
    let reads = rw c.deref.ensures.value at c.in-Ok.ensures.found in
    let open-is : c.args.source.now.marked ≡ false = search rules in
    done-known _ _ _ _ _ c.requires.heard c.requires.source c.in-Ok.program reads c.in-Ok.ensures.compiled open-is

pub returns-then-not-source-clause-beginning : goal.returns-then-not-source-clause-beginning
returns-then-not-source-clause-beginning g c = heard-begins _ _ _ _ _ c.requires.heard

pub returns-in_err-session-in-Ok-clause-beginning : goal.returns-in_err-session-in-Ok-clause-beginning
returns-in_err-session-in-Ok-clause-beginning g c = heard-begins _ _ _ _ _ c.requires.heard

pub returns-in-Err-Memory-clause-beginning : goal.returns-in-Err-Memory-clause-beginning
returns-in-Err-Memory-clause-beginning g c = heard-begins _ _ _ _ _ c.requires.heard

pub serve_script-requires : goal.serve_script-requires
serve_script-requires g c =
    let reads = rw c.deref.ensures.value at c.in-Ok.ensures.found in
    let marked-is : c.args.source.now.marked ≡ true = search rules in
    let small : length c.args.source.now.text.items < 2 ^ 32 = omega (arith, c.requires.small, c.args.source.now.text.ok.0) in
    record {
      at = at-known _ _ _ _ _ c.requires.heard c.requires.source c.in-Ok.program reads c.in-Ok.ensures.compiled c.some_reply.ensures.begun small marked-is _ c.in_ok-session-in-Ok.ensures.state;
    }

pub refuse-requires-clause-owed : goal.refuse-requires-clause-owed
refuse-requires-clause-owed g c =
    let small : length c.args.source.now.text.items < 2 ^ 32 = omega (arith, c.requires.small, c.args.source.now.text.ok.0) in
    rw c.deref-in-Err-Fault.ensures.value (owes-fault _ _ _ _ _ c.requires.heard c.requires.source small None)

pub returns-in_err-refuse-in-Err-Fault-clause-beginning : goal.returns-in_err-refuse-in-Err-Fault-clause-beginning
returns-in_err-refuse-in-Err-Fault-clause-beginning g c =
    let small : length c.args.source.now.text.items < 2 ^ 32 = omega (arith, c.requires.small, c.args.source.now.text.ok.0) in
    part-begins _ _ _ _ _ c.requires.heard c.requires.source small _ (rw c.deref-in-Err-Fault.ensures.value at c.in_err-refuse-in-Err-Fault.ensures.part)

pub returns-in_ok-refuse-in-Err-Fault-clause-over : goal.returns-in_ok-refuse-in-Err-Fault-clause-over
returns-in_ok-refuse-in-Err-Fault-clause-over g c =
    let small : length c.args.source.now.text.items < 2 ^ 32 = omega (arith, c.requires.small, c.args.source.now.text.ok.0) in
    refused-known _ _ _ _ _ c.requires.heard c.requires.source small _ (rw c.deref-in-Err-Fault.ensures.value at c.in_ok-refuse-in-Err-Fault.ensures.all)

pub returns-in_ok-refuse-in-Err-Fault-clause-beginning : goal.returns-in_ok-refuse-in-Err-Fault-clause-beginning
returns-in_ok-refuse-in-Err-Fault-clause-beginning g c =
    let small : length c.args.source.now.text.items < 2 ^ 32 = omega (arith, c.requires.small, c.args.source.now.text.ok.0) in
    whole-begins _ _ _ _ _ c.requires.heard c.requires.source small _ (rw c.deref-in-Err-Fault.ensures.value at c.in_ok-refuse-in-Err-Fault.ensures.all)
