use Rattle.std.proofs.Common.{◌≡◌, false, length, replicate}
use Rattle.ceal_code.specs.Parts.{parts_ok, weights}
use Rattle.ceal_code.specs.Step.{kinds_of}
use Rattle.ceal_code.specs.Valid.{paths_ok, with_params}
use Rattle.ceal_code.proofs.paths.are_paths_ok.Given as goal

abbrev pub invariant-loop-part : goal.invariant-loop-part
invariant-loop-part l =
    parts_ok l.code l.f l.body l.parts.items
    ≡ paths_ok l.code l.f l.body (length l.body) 0 (with_params (replicate (length (kinds_of l.code l.f)) false) l.params) false

abbrev pub decreases-loop-part : goal.decreases-loop-part
decreases-loop-part l = weights l.parts.items
