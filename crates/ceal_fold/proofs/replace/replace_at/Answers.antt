use Rattle.std.proofs.Common.{◌≡◌, ◌+◌, [], length, ap, ◌∙◌, sym, subst, arith, if◌then◌else◌}
use Rattle.ceal_code.specs.Valid.{followers}
use Rattle.ceal_fold.specs.Folding.{copies_after, is_among, folded_command}
use Rattle.ceal_fold.specs.States.{last_of, time, copy_at, copies_at, AllUntil}
use Rattle.ceal_fold.proofs.ReplaceSteps.{set-length, copies-is, until-at, until-none, until-set, until-more, handed-is}
use Rattle.ceal_fold.proofs.replace.replace_at.Goals as goal

-- each assignment that is known here was made earlier on the path
pub pass_on-requires : goal.pass_on-requires
pass_on-requires c = record {
  room = c.requires.room;
  state = λ u. let h = until-at c.args.index c.args.states.now.items c.requires.earlier c.args.index u in
      let e = ap (λ s. time (last_of s u)) c.take_state-known.ensures.state in omega (arith, h, e);
  earlier = subst (AllUntil (c.args.index + 1)) (sym c.take_state-known.ensures.left)
      (until-set (c.args.index + 1) c.args.states.now.items c.args.index [] (until-more c.args.index c.args.states.now.items c.requires.earlier) (until-none (c.args.index + 1)));
}

pub returns-in-Ok-clause-command : goal.returns-in-Ok-clause-command
returns-in-Ok-clause-command c =
    c.in_ok-command.ensures.value
    ∙ ap (λ k. folded_command c.args.structs.now k c.args.command.now) (ap copy_at c.take_state-known.ensures.state ∙ sym (copies-is c.args.states.now.items c.args.index))

-- the commands that follow this one know what is known after it, and others what they knew
pub returns-in-Ok-clause-handed : goal.returns-in-Ok-clause-handed
returns-in-Ok-clause-handed c j lo hi =
    let states = c.args.states.now.items in
    let i = c.args.index in
    let command = c.in_ok-command.command in
    let known = c.take_state-known.result in
    let long : length c.take_state-known.new.states.items ≡ length c.args.states.now.items = ap length c.take_state-known.ensures.left ∙ set-length states i [] in
    let same : copies_after (copy_at known) command ≡ copies_after (copies_at states i) command =
    ap (λ k. copies_after k command) (ap copy_at c.take_state-known.ensures.state ∙ sym (copies-is states i)) in
    handed-is states i command (copies_after (copy_at known) command) j (copies_at c.pass_on.new.states.items j)
    (c.in-Ok.ensures.value j (omega (arith, hi, long)) ∙ ap (λ s. if is_among j (followers command i) then copies_after (copy_at known) command else copies_at s j) c.take_state-known.ensures.left)
    same lo
