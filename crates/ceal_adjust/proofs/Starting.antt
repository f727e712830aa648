-- The machine at the beginning, as the code makes it.
use Rattle.std.proofs.Common.{◌≡◌, ℕ, List, [], refl, ◌∙◌, subst}
use Rattle.ceal_base.specs.Block.{Block}
use Rattle.ceal_base.specs.Trace.{Trace, flat}
use Rattle.ceal_base.specs.declared.forest.Item.{Item}
use Rattle.ceal_base.specs.declared.word.Word.{Word}
use Rattle.ceal_code.proofs.Equations.TableSteps.{plain-of-flat}
use Rattle.ceal_code.specs.Program.{Code}
use Rattle.ceal_code.specs.Replay.{Store, bases, input_plain, plain_of}
use Rattle.ceal_code.specs.Stacks.{stack_in}
use Rattle.ceal_code.specs.Step.{started}
use Rattle.ceal_code.specs.Tables.{plain_flat}
use Rattle.ceal_code.specs.Value.{Plain}
use Rattle.ceal_code.specs.declared.stack.Stack.{Stack as CodeStack}
use Rattle.ceal_theory.proofs.Reuse.FlatTake.{first-of-flat}
use Rattle.ceal_adjust.proofs.Completing.{begin, begin-fix}
use Rattle.ceal_theory.specs.Moves.{Machine}
use Rattle.ceal_adjust.specs.Answers.{Answered}
use Rattle.ceal_adjust.specs.Machines.{machine_of}
use Rattle.ceal_adjust.specs.declared.adjust.Adjusted.{Adjusted}
use Rattle.ceal_adjust.specs.declared.frame.Mode.TheVariants.{Fixing as IsFixing, Running as IsRunning}

pub first-begins : (code : Code) (inputs : List Block) (f : ℕ) (args : List Word) (x : Plain) (s : Store) (stack : CodeStack) (is : List Item)
    → s ≡ bases code inputs → x ≡ input_plain code inputs → stack_in stack ≡ started code f args
    → machine_of IsRunning (record { store = s; plain = x; number = 0; work = 0 }) stack 0 [] is ≡ begin code inputs f args
unfolding machine_of
first-begins code inputs f args x s stack is e k l = rw (e, k, l) refl

pub fix-begins : (code : Code) (inputs : List Block) (l : Trace) (number : ℕ) (forest : List Item) (x y : Plain) (s : Store) (stack : CodeStack) → forest ≡ flat l → s ≡ bases code inputs
    → y ≡ input_plain code inputs → x ≡ plain_flat code y forest
    → machine_of IsFixing (record { store = s; plain = x; number = number; work = 0 }) stack 0 [] forest ≡ begin-fix code inputs l number
unfolding machine_of
fix-begins code inputs l number forest x y s stack e k m n =
    let plain : x ≡ plain_of code inputs l = n ∙ (rw (m, e) refl ∙ plain-of-flat code inputs l) in
    rw (e, k, plain, first-of-flat l) refl

-- the answer of a machine that is the one at the beginning
pub answered-by : (code now : Code) (fuel : ℕ) (m start : Machine) (a : Adjusted) → now ≡ code → m ≡ start → Answered now fuel m a → Answered code fuel start a
answered-by code now fuel m start a e k h = subst (λ n. Answered code fuel n a) k (subst (λ c. Answered c fuel m a) e h)
