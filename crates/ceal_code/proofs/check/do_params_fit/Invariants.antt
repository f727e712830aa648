use Rattle.std.proofs.Common.{◌≡◌, length}
use Rattle.ceal_code.specs.Valid.{params_fit}
use Rattle.ceal_code.proofs.check.do_params_fit.Given as goal

abbrev pub invariant-loop-p : goal.invariant-loop-p
invariant-loop-p l =
    params_fit l.typing.structs.now l.typing.kinds.now l.typing.known.now l.theirs l.params l.args
    ≡ params_fit l.typing.structs.now l.typing.kinds.now l.typing.known.now l.theirs l.fn.params l.fn.args

abbrev pub decreases-loop-p : goal.decreases-loop-p
decreases-loop-p l = length l.params
