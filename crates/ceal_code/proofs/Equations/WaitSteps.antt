-- Units that wait, and their words one after another.
use Rattle.std.proofs.Common.{◌≡◌, true, ℕ, ◌-◌, List, [], ◌∷◌, ◌++◌, length, take, drop, refl, sym, ap, ◌∙◌, arith}
use Rattle.std.proofs.Math.Seq.{drop-append_seam, take-append_seam}
use Rattle.std.proofs.lemmas.List.{reverse-append, length-append}
use Rattle.ceal_base.specs.declared.word.Word.{Word}
use Rattle.ceal_code.specs.Init.{arguments}
use Rattle.ceal_code.specs.Program.{Code}
use Rattle.ceal_code.specs.Stacks.{Stands, act_on, over, topped, waiting, waiting_on, waits_in, stack_in}
use Rattle.ceal_code.specs.Step.{Stack, Empty, Run, acted, command_at, next, stack_after_quiet_at, stack_after_quiet}
use Rattle.ceal_code.specs.Value.{Plain}
use Rattle.ceal_code.specs.declared.command.Cmd.{Cmd}
use Rattle.ceal_code.specs.declared.stack.Stack.{Stack as CodeStack}
use Rattle.ceal_code.specs.declared.waits.Waiting.{Waiting}

pub wait-none : (words : List Word) → waiting [] words ≡ Empty
unfolding waiting
wait-none words = refl

pub wait-empty : (units : List Waiting) (words : List Word) → length units ≡ 0 → waiting units words ≡ Empty
wait-empty [] words e = wait-none words
wait-empty (w ∷ units) words e = absurd (omega (arith, e))

pub wait-next : (units : List Waiting) (w : Waiting) (words : List Word)
    → waiting (units ++ w ∷ []) words
    ≡ Run w.unit w.index (arguments (drop (length words - w.count) words)) (waiting units (take (length words - w.count) words))
unfolding waiting
wait-next units w words = ap (λ us. waiting_on us words) (reverse-append units (w ∷ []))

pub wait-over : (units : List Waiting) (u i n : ℕ) (words env : List Word) → n ≡ length env
    → waiting (units ++ record { unit = u; index = i; count = n } ∷ []) (words ++ env) ≡ Run u i (arguments env) (waiting units words)
wait-over units u i n words env e =
    let m : length (words ++ env) - n ≡ length words = omega (arith, length-append words env, e) in
    wait-next units (record { unit = u; index = i; count = n }) (words ++ env)
    ∙ (ap (λ k. Run u i (arguments (drop k (words ++ env))) (waiting units (take k (words ++ env)))) m
    ∙ (ap (λ ws. Run u i (arguments ws) (waiting units (take (length words) (words ++ env)))) (drop-append_seam words env)
    ∙ ap (λ ws. Run u i (arguments env) (waiting units ws)) (take-append_seam words env)))

pub wait-pop : (old new : List Waiting) (w : Waiting) (words env rest : List Word) (from : ℕ) → old ≡ new ++ w ∷ [] → from ≡ length words - w.count
    → env ≡ drop from words → rest ≡ take from words → waiting old words ≡ Run w.unit w.index (arguments env) (waiting new rest)
wait-pop old new w words env rest from e n k m =
    ap (λ us. waiting us words) e
    ∙ (wait-next new w words
    ∙ (ap (λ i. Run w.unit w.index (arguments (drop i words)) (waiting new (take i words))) (sym n)
    ∙ (ap (λ ws. Run w.unit w.index (arguments ws) (waiting new (take from words))) (sym k)
    ∙ ap (λ ws. Run w.unit w.index (arguments env) (waiting new ws)) (sym m))))

-- the unit that runs, over those that wait
pub runs-over : (s : CodeStack) → s.runs ≡ true → over s.top (waits_in s.waits) ≡ stack_in s
unfolding stack_in
runs-over s e = ap (λ b. topped b s.top (waits_in s.waits)) (sym e)

module _ (code : Code) (x : Plain) where
  -- a unit that is over at once
  pub settle-over : (s : CodeStack) → s.runs ≡ true
      → ((rest : Stack) → stack_after_quiet_at code x (command_at code s.top.unit s.top.index) s.top.unit s.top.index (arguments s.top.env.items) (waits_in s.waits) rest ≡ rest)
      → stack_after_quiet code x (stack_in s) ≡ stack_after_quiet code x (waits_in s.waits)
  unfolding stack_after_quiet
  settle-over s e h = ap (stack_after_quiet code x) (sym (runs-over s e)) ∙ h (stack_after_quiet code x (waits_in s.waits))

  -- and one that takes the next step, or calls a unit that does
  pub settle-found : (s : CodeStack) (st : Stack) → s.runs ≡ true
      → ((rest : Stack) → stack_after_quiet_at code x (command_at code s.top.unit s.top.index) s.top.unit s.top.index (arguments s.top.env.items) (waits_in s.waits) rest ≡ st)
      → stack_after_quiet code x (stack_in s) ≡ st
  unfolding stack_after_quiet
  settle-found s st e h = ap (stack_after_quiet code x) (sym (runs-over s e)) ∙ h (stack_after_quiet code x (waits_in s.waits))

  pub settle-none : (st : Stack) → st ≡ Empty → stack_after_quiet code x st ≡ Empty
  unfolding stack_after_quiet
  settle-none st e = ap (stack_after_quiet code x) e

-- the next step, by the command of the unit that takes it
pub next-of : (code : Code) (x : Plain) (st : Stack) (s : CodeStack) (c : Cmd) → stack_after_quiet code x st ≡ stack_in s → Stands code c s
    → next code x st ≡ act_on code x c s.top (waits_in s.waits)
unfolding next
next-of code x st s c e h =
    ap (acted code x) (e ∙ sym (runs-over s h.runs))
    ∙ ap (λ d. act_on code x d s.top (waits_in s.waits)) (sym h.command)
