use Rattle.std.proofs.Common.{◌≡◌, ◌+◌, ℕ, ◌∙◌, sym, ap, append_assoc, arith}
use Rattle.ceal_gen.specs.Draws.{next_state, drawn}
use Rattle.ceal_gen.specs.ListText.{head_of, head}
use Rattle.ceal_gen.proofs.Steps.{state-more}
use Rattle.ceal_gen.proofs.list.list.Goals as goal

-- after the cells two numbers are drawn, for the head of the list and for its new first cell
pub returns : goal.returns
returns c =
    let cells = rw c.from_seed-draws.ensures at c.in_ok-put_cells.ensures.state in
    let one = c.draw_head.ensures.state ∙ ap next_state cells ∙ sym (state-more c.args.seed c.args.size) in
    let two = c.draw_head-2.ensures.state ∙ ap next_state one ∙ sym (state-more c.args.seed (c.args.size + 1)) in
    let number : c.args.size + 1 + 1 ≡ c.args.size + 2 = omega arith in
    let first : c.draw_head.result ≡ head c.args.seed (c.args.size + 1) = c.draw_head.ensures.value ∙ ap (λ (s : ℕ). head_of (drawn s)) one in
    let second : c.draw_head-2.result ≡ head c.args.seed (c.args.size + 2) =
    c.draw_head-2.ensures.value ∙ ap (λ (s : ℕ). head_of (drawn s)) two ∙ ap (λ (n : ℕ). head c.args.seed n) number in
    grind (arith, append_assoc, first, second)
