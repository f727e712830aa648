use Rattle.std.proofs.Common.{arith}
use Rattle.std.proofs.lemmas.List.{take_rest}
use Rattle.ceal_serve.proofs.Pieces.{heard-piece}
use Rattle.ceal_serve.proofs.scripted.ScriptedConversation.read.Goals as goal

pub returns-clause-heard : goal.returns-clause-heard
returns-clause-heard c =
    let copied = rw c.deref-2.ensures.value at (simp take_rest at c.copy_piece-count.ensures.copied) in
    rw (← c.self.view_is) (heard-piece _ _ _ _ _ _ _ (λ e. grind (arith, e, c.if-count-eq0.false)) c.copy_piece-count.ensures.bound copied)
