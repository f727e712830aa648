use Rattle.std.proofs.Common.{◌≡◌, ◌++◌, refl, subst, List, ℕ, codes}
use Rattle.std.specs.Fmt.{signed_decimal}
use Rattle.std.specs.Prelude.{IfSome}
use Rattle.ceal_c.specs.Statuses.{IsToldOf}
use Rattle.ceal_c.proofs.Asked.{asked}
use Rattle.ceal_c.proofs.open.Open.ask.Goals as goal

-- the bytes that are looked at are those of the answer
pub returns-in-Ok : goal.returns-in-Ok
returns-in-Ok c =
    asked c.args.self.now (record { session = c.answer.new.self; reply = c.args.self.now.reply }) c.args.line.now c.in-Ok.answer c.args.number.now c.told_by.new.number
    c.in-Ok.ensures.reply refl c.number_in-found.result c.status_of_reply-status.result c.told_by.result
    (subst (λ (t : List ℕ). IsToldOf t c.status_of_reply-status.result) c.items-in-Ok.ensures.value c.status_of_reply-status.ensures)
    (subst (λ (t : List ℕ). IfSome c.number_in-found.result (λ n. t ≡ signed_decimal n ++ codes "\n")) c.items.ensures.value c.number_in-found.ensures)
    c.told_by.ensures
