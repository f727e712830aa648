use Rattle.std.proofs.Common.{◌<◌, ◌==◌, ◌||◌, length, take, get_or, ap, sym, ◌∙◌, arith}
use Rattle.std.proofs.lemmas.List.{take_more}
use Rattle.ceal_live.proofs.BeginFacts.{in-push}
use Rattle.ceal_live.proofs.uses.set_of.Goals as goal

-- the set has this variable and those before it, in ascending order
pub loop-v-preserved : goal.loop-v-preserved
loop-v-preserved c =
    let used = c.args.used.now in
    let i = c.loop-v.v-index in
    let within : c.loop-v.v-index < length c.args.used.now = omega arith in
    record {
      all = λ w. c.in_ok-insert.ensures.ok w ∙ ap (λ b. get_or used i 0 == w || b) (c.loop-v.invariant.all w)
          ∙ sym (rw (take_more used i 0 within) (in-push (take i used) (get_or used i 0) w));
      ascending = c.in_ok-insert.ensures.ascending;
      few = c.in_ok-insert.ensures.few;
    }
