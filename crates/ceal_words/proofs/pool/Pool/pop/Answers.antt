use Rattle.std.proofs.Common.{◌≡◌, ◌<◌, ap, sym, ◌∙◌, subst, Some, None, slice_get, arith}
use Rattle.ceal_words.specs.SizeClass.{SizeClass, taken}
use Rattle.ceal_words.specs.Lengths.{RoundsTo}
use Rattle.ceal_words.proofs.PoolLemmas.{place, head_is_free, laid_popped, was_free, found, length_found, view_popped}
use Rattle.ceal_words.proofs.pool.Pool.pop.Goals as goal

pub get-next-requires : goal.get-next-requires
get-next-requires c =
    let p = c.self.inside in let laid = c.self.invariant in
    let some = subst (λ (s : SizeClass). 0 < s.spare) (sym c.self.view_is) c.requires.some in
    let free = head_is_free p.size p.made p.head p.spare p.chunk p.marks.lens laid some in
    let h = place p.size p.made p.head p.spare p.chunk p.marks.lens laid p.head 0 (omega (arith, free.0, laid.counted)) laid.some in omega (arith, h)

pub mark-requires : goal.mark-requires
mark-requires c =
    let p = c.self.inside in let some = subst (λ (s : SizeClass). 0 < s.spare) (sym c.self.view_is) c.requires.some in
    (head_is_free p.size p.made p.head p.spare p.chunk p.marks.lens c.self.invariant some).0

pub invariant_of-self : goal.invariant_of-self
invariant_of-self c =
    let p = c.self.inside in let some = subst (λ (s : SizeClass). 0 < s.spare) (sym c.self.view_is) c.requires.some in
    let rounds = subst (λ (s : SizeClass). RoundsTo c.args.len s.size) (sym c.self.view_is) c.requires.length in
    rw (c.mark.ensures, c.get-next.ensures) (laid_popped p.size p.made p.head p.spare p.chunk p.marks.lens c.self.invariant some c.args.len rounds)

pub returns-clause-was_free : goal.returns-clause-was_free
returns-clause-was_free c =
    let p = c.self.inside in let some = subst (λ (s : SizeClass). 0 < s.spare) (sym c.self.view_is) c.requires.some in
    subst (λ (s : SizeClass). slice_get s.pieces p.head ≡ Some None) c.self.view_is (was_free p.size p.made p.head p.spare p.chunk p.marks.lens c.self.invariant some)

pub returns-clause-taken : goal.returns-clause-taken
returns-clause-taken c =
    let p = c.self.inside in let some = subst (λ (s : SizeClass). 0 < s.spare) (sym c.self.view_is) c.requires.some in
    let rounds = subst (λ (s : SizeClass). RoundsTo c.args.len s.size) (sym c.self.view_is) c.requires.length in
    let words = found p.size p.made p.head p.spare p.chunk p.marks.lens c.self.invariant c.args.len in (
      words,
      length_found p.size p.made p.head p.spare p.chunk p.marks.lens c.self.invariant some c.args.len rounds,
      rw c.mark.ensures (view_popped p.size p.made p.head p.spare p.chunk p.marks.lens c.self.invariant some c.args.len rounds) ∙ ap (taken p.head words) c.self.view_is,
    )
