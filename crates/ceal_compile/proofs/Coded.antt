-- The code of a program: there is one, and its functions are those of the program.
use Rattle.std.proofs.Common.{◌≡◌, ℕ, zero, suc, ◌+◌, ◌&&◌, Option, Some, None, List, [], ◌∷◌, take, is_none, refl, sym, ap, ◌∙◌, slice_get}
use Rattle.std.specs.Option.{option_map}
use Rattle.std.proofs.lemmas.Option.{slice_get-map}
use Rattle.ceal_base.specs.Block.{Blocks}
use Rattle.ceal_base.specs.Fitting.{words_fit}
use Rattle.ceal_base.specs.declared.typed.StructInfo.{StructInfo}
use Rattle.ceal_base.specs.declared.typed.TypedFunction.{TypedFunction}
use Rattle.ceal_base.specs.declared.word.Word.{Word}
use Rattle.ceal_code.specs.Fitting.{args_fit}
use Rattle.ceal_code.specs.Program.{Code}
use Rattle.ceal_flow.specs.Laws.{OneLaw, SomeLaw}
use Rattle.ceal_flow.specs.Lowering.{graph_of, function_size, function_in, function_at, functions_from}
use Rattle.ceal_flow.specs.declared.function.GraphFunction.{GraphFunction}
use Rattle.ceal_fold.specs.Folding.{folded}
use Rattle.ceal_norm.specs.Laws.{source_of}
use Rattle.ceal_norm.specs.Units.{Source, code_of, function_code}
use Rattle.ceal_compile.specs.Laws.{OneCodeLaw, SomeCodeLaw, StructsLaw, CallsLaw, call_fits}

pub one_code : OneLaw → OneCodeLaw
one_code lives p c d h k =
    let live : h.units.live ≡ k.units.live = lives (graph_of p).blocks h.units.live k.units.live h.units.exact_live k.units.exact_live in
    let unfolded : h.unfolded ≡ k.unfolded = h.units.same ∙ ap (λ sets. code_of (source_of p sets)) live ∙ sym k.units.same in
    h.same ∙ ap folded unfolded ∙ sym k.same

pub some_code : SomeLaw → SomeCodeLaw
some_code lives p =
    let live = lives (graph_of p).blocks in
    let units : Code = code_of (source_of p live.0) in
    (folded units, record { unfolded = units; units = record { live = live.0; exact_live = live.1; same = refl }; same = refl })

pub same_structs : StructsLaw
same_structs p code c = ap (λ k. k.structs) c.same ∙ ap (λ k. k.structs) c.units.same

-- the function of a graph, by that of the program
abbrev Graphed : Option GraphFunction → Option TypedFunction → Type 0
Graphed None None = Unit {0}
Graphed (Some g) (Some f) = (n : ℕ) × (g ≡ function_at f n)
Graphed None (Some f) = ⊥
Graphed (Some g) None = ⊥

graphed : (n : ℕ) (fs : List TypedFunction) (f : ℕ) → Graphed (slice_get (functions_from n fs) f) (slice_get fs f)
unfolding functions_from
graphed n [] f = tt
graphed n (h ∷ fs) zero = (n, refl)
graphed n (h ∷ fs) (suc f) = graphed (n + function_size h) fs f

module _ (structs : List StructInfo) (m : Blocks) (args : List Word) (source : Source) where
  in_fits : (i : Option ℕ) (f : TypedFunction) (n : ℕ) → args_fit structs m (Some (function_code source (function_in i f n))) args ≡ (is_none i && words_fit structs m (take f.params f.kinds) args)
  in_fits None f n = refl
  in_fits (Some s) f n = refl

  same_fits : (g : Option GraphFunction) (f : Option TypedFunction) → Graphed g f → args_fit structs m (option_map (function_code source) g) args ≡ call_fits structs m f args
  same_fits None None h = refl
  same_fits (Some g) (Some f) h = ap (λ g. args_fit structs m (Some (function_code source g)) args) h.1 ∙ in_fits f.initialiser f h.0
  same_fits None (Some f) h = absurd h
  same_fits (Some g) None h = absurd h

pub same_calls : CallsLaw
same_calls p code c structs m f args =
    let source : Source = source_of p c.units.live in
    let get : slice_get code.functions f ≡ option_map (function_code source) (slice_get (functions_from 0 p.functions) f) =
    ap (λ k. slice_get k.functions f) c.same ∙ ap (λ k. slice_get k.functions f) c.units.same ∙ slice_get-map (function_code source) (functions_from 0 p.functions) f in
    ap (λ o. args_fit structs m o args) get
    ∙ same_fits structs m args source (slice_get (functions_from 0 p.functions) f) (slice_get p.functions f) (graphed 0 p.functions f)
