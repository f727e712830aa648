-- The functions of a program and those of its code.
use Rattle.std.proofs.Common.{◌≡◌, ℕ, true, Option, Some, None, List, take, is_none, refl, sym, ap, ◌∙◌, slice_get, arith}
use Rattle.ceal_base.specs.Block.{Blocks, alone}
use Rattle.ceal_base.specs.Fitting.{words_fit, inputs_fit}
use Rattle.ceal_base.specs.Usage.{IsCore}
use Rattle.ceal_base.specs.declared.typed.StructInfo.{StructInfo}
use Rattle.ceal_base.specs.declared.typed.Typed.{Typed}
use Rattle.ceal_base.specs.declared.typed.TypedFunction.{TypedFunction}
use Rattle.ceal_base.specs.declared.word.Word.{Word}
use Rattle.ceal_code.proofs.Words.SameIsEqual.{both}
use Rattle.ceal_code.specs.Fitting.{args_fit, Fits}
use Rattle.ceal_code.specs.Program.{Code}
use Rattle.ceal_code.specs.Valid.{valid}
use Rattle.ceal_compile.proofs.Coded.{same_calls, same_structs}
use Rattle.ceal_compile.specs.Compiled.{IsCodeOf}
use Rattle.ceal_compile.specs.Laws.{call_fits}
use Rattle.ceal_session.specs.State.{State}
use Rattle.ceal_session.specs.Steps.{is_call_of}

module _ (p : Typed) (code : Code) (c : IsCodeOf p code) where
  pub same-structs : code.structs ≡ p.structs
  same-structs = same_structs p code c

  module _ (structs : List StructInfo) (x : Blocks) (args : List Word) where
    fits-core : (o : Option TypedFunction) → call_fits structs x o args ≡ true → IsCore o
    fits-core None h = absurd (grind (arith, h))
    fits-core (Some g) h = by_initialiser g.initialiser refl (both (is_none g.initialiser) (words_fit structs x (take g.params g.kinds) args) h).0
      where
        by_initialiser : (i : Option ℕ) → g.initialiser ≡ i → is_none i ≡ true → IsCore (Some g)
        by_initialiser None e k = rw e refl
        by_initialiser (Some s) e k = absurd (grind (arith, k))

    -- code has arguments that fit only for core functions
    pub core-of : (f : ℕ) → args_fit structs x (slice_get code.functions f) args ≡ true → IsCore (slice_get p.functions f)
    core-of f h = fits-core (slice_get p.functions f) (sym (same_calls p code c structs x f args) ∙ h)

  module _ (s : State) (f : ℕ) (args : List Word) (same : s.program ≡ p) where
    is-call : (o : Option TypedFunction) → call_fits s.program.structs (alone s.inputs) o args ≡ is_call_of s o args
    is-call None = refl
    is-call (Some g) = refl

    args-are : args_fit code.structs (alone s.inputs) (slice_get code.functions f) args ≡ is_call_of s (slice_get p.functions f) args
    args-are =
        same_calls p code c code.structs (alone s.inputs) f args
        ∙ ap (λ structs. call_fits structs (alone s.inputs) (slice_get p.functions f) args) (same-structs ∙ ap (λ p. p.structs) (sym same))
        ∙ is-call (slice_get p.functions f)

  -- the arguments of a call that is accepted fit the code's function, which is a core function
  pub call-fits : valid code ≡ true → (s : State) (f : ℕ) (args : List Word) → s.program ≡ p → inputs_fit code.structs s.inputs ≡ true
      → is_call_of s (slice_get p.functions f) args ≡ true → Fits code s.inputs f args
  call-fits ok s f args same fit h = record { is_valid = ok; blocks = fit; words = args-are s f args same ∙ h }

  -- and a call that fits is one that is accepted
  pub call-back : (s : State) (f : ℕ) (args : List Word) → s.program ≡ p → Fits code s.inputs f args → is_call_of s (slice_get p.functions f) args ≡ true
  call-back s f args same h = sym (args-are s f args same) ∙ h.words
