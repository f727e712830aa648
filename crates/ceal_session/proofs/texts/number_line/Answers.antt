use Rattle.std.proofs.Common.{◌≡◌, ℕ, ◌≤◌, ◌++◌, List, length, length-append, refl, sym, ap, subst, arith}
use Rattle.std.specs.Prelude.{codes}
use Rattle.ceal_session.proofs.Replies.TextOfReply.{if-ok}
use Rattle.ceal_session.proofs.texts.number_line.Goals as goal

-- a number has ten digits at most
short : (digits text : List ℕ) → length digits ≤ 10 → text ≡ digits ++ codes "\n" → length text ≤ 12
short digits text l e =
    let b = length-append digits (codes "\n") in
    let c : length (codes "\n") ≡ 1 = refl in
    let d = ap length e in
    omega (arith, l, b, c, d)

pub returns-clause-short : goal.returns-clause-short
returns-clause-short c =
    if-ok c.line.result
    (λ text h. short c.as_bytes.result.now text (subst (λ xs. length xs ≤ 10) (sym c.as_bytes.ensures.value) c.format.ensures.fits) h)
    c.line.ensures.line
