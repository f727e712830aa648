use Rattle.std.proofs.Common.{◌≡◌, ◌∙◌, ◌+◌, ◌-◌, ℕ, sym, ap, subst, arith}
use Rattle.ceal_words.specs.SizeClass.{SizeClass, grown}
use Rattle.ceal_words.specs.Layout.{IsLaidOut, class_of}
use Rattle.ceal_words.proofs.PoolLemmas.{laid_longer, view_longer, grown_none, on_err}
use Rattle.ceal_words.proofs.pool.Pool.reserve.Goals as goal

pub invariant_of-self : goal.invariant_of-self
invariant_of-self c =
    let p = c.self.inside in let kept = c.reserve.ensures.kept in
    rw kept.1 (laid_longer p.size p.made p.head p.spare p.chunk p.marks.lens c.self.invariant kept.0)

pub returns-in_err-reserve-clause-kept : goal.returns-in_err-reserve-clause-kept
returns-in_err-reserve-clause-kept c =
    let p = c.self.inside in let kept = c.reserve.ensures.kept in
    let none : p.spare - c.args.self.now.spare ≡ 0 = subst (λ (s : SizeClass). p.spare - s.spare ≡ 0) c.self.view_is (omega arith) in
    rw kept.1 (view_longer p.size p.made p.head p.spare p.chunk p.marks.lens c.self.invariant kept.0) ∙ c.self.view_is ∙ sym (grown_none (p.spare - c.args.self.now.spare) c.args.self.now none)

pub returns-in_err-reserve-clause-err : goal.returns-in_err-reserve-clause-err
returns-in_err-reserve-clause-err c =
    let p = c.self.inside in let kept = c.reserve.ensures.kept in
    on_err c.from_residual.result (rw kept.1 (view_longer p.size p.made p.head p.spare p.chunk p.marks.lens c.self.invariant kept.0) ∙ c.self.view_is)

pub invariant_of-self-2 : goal.invariant_of-self-2
invariant_of-self-2 c =
    let p = c.self.inside in let kept = c.reserve.ensures.kept in
    let now : IsLaidOut p.size c.reserve.new.self p.marks.lens p.made p.head p.spare =
    rw kept.1 (laid_longer p.size p.made p.head p.spare p.chunk p.marks.lens c.self.invariant kept.0) in
    c.link_pieces-self-inside.ensures.laid p.spare now

pub returns-clause-kept : goal.returns-clause-kept
returns-clause-kept c =
    let p = c.self.inside in let kept = c.reserve.ensures.kept in
    let more = c.saturating_sub-more.result in
    let now : IsLaidOut p.size c.reserve.new.self p.marks.lens p.made p.head p.spare =
    rw kept.1 (laid_longer p.size p.made p.head p.spare p.chunk p.marks.lens c.self.invariant kept.0) in
    let same : class_of p.size c.reserve.new.self p.marks.lens p.spare ≡ c.args.self.now =
    rw kept.1 (view_longer p.size p.made p.head p.spare p.chunk p.marks.lens c.self.invariant kept.0) ∙ c.self.view_is in
    let count : more ≡ p.spare + more - c.args.self.now.spare = subst (λ (s : SizeClass). more ≡ p.spare + more - s.spare) c.self.view_is (omega arith) in
    c.link_pieces-self-inside.ensures.class p.spare now ∙ ap (grown more) same ∙ ap (λ (k : ℕ). grown k c.args.self.now) count
