-- The first fault of a tree.
use Rattle.std.proofs.Common.{◌≡◌, ◌↔◌, Some, Ok, Err, List, [], ◌∷◌, ◌++◌, slice_get, refl, sym, subst, ap, ◌∙◌}
use Rattle.std.specs.Prelude.{IsOk}
use Rattle.ceal_base.specs.Faults.{faults_of_each}
use Rattle.ceal_base.specs.declared.fault.Fault.{Fault}
use Rattle.ceal_base.specs.declared.fault.FaultCode.TheVariants.{N2}
use Rattle.ceal_base.specs.declared.syntax.Entry.{Entry}
use Rattle.ceal_base.specs.declared.syntax.Entry.TheVariants.{Struct, Function}
use Rattle.ceal_base.specs.declared.syntax.FunctionDecl.{FunctionDecl}
use Rattle.ceal_base.specs.declared.syntax.Tree.{Tree}
use Rattle.ceal_base.specs.declared.typed.TypedFunction.{TypedFunction}
use Rattle.ceal_types.specs.Checked.{function_of, function_body, typed_function, with_body, program_of, bodies, checked}
use Rattle.ceal_types.specs.Faults.{one_if, own_faults, parameter_faults, head_faults, faults_after, stmts_faults, body_context, body_faults, tree_faults}
use Rattle.ceal_types.specs.Heads.{head_of, with_entry, struct_names, no_entries, heads}
use Rattle.ceal_types.specs.Known.{structs_in, functions_in, Declared, declared_in, TypingContext}
use Rattle.ceal_types.specs.Statements.{inner_block, typed_stmts}
use Rattle.ceal_types.specs.Tables.{Name, has}
use Rattle.ceal_types.specs.Walk.{after, in_turn, at_end}
use Rattle.ceal_types.specs.declared.program.Head.{Head}
use Rattle.ceal_types.specs.declared.program.Program.{Program}
use Rattle.ceal_types.proofs.FirstFault.ExpressionsTell.{known_variables}
use Rattle.ceal_types.proofs.FirstFault.HeadsTell.{head-tells, EntriesAs, entry-tells}
use Rattle.ceal_types.proofs.FirstFault.MembersTell.{Shown}
use Rattle.ceal_types.proofs.FirstFault.StatementsTell.{Any, HeadKnown, HeadsKnown, body-tells}
use Rattle.ceal_types.proofs.FirstFault.WalkTells.{Tells, after-tells, mapped-tells, tells-and-none, something, none-front, none-of-both, as-list, turn-tells, tells-first, tells-none}

-- ---- bodies, where the heads have no fault
module _ (p : Program) (functions : List (Name × FunctionDecl)) (known : HeadsKnown p.names p.functions functions) where
  abbrev D : Declared
  D = Shown p functions

  -- a function's head has no fault where it has none among the entries
  head-there : (before : List Entry) (f : FunctionDecl) → head_faults p.names before (Function f) ≡ [] → (h : Head) × (head_of p.names f ≡ Ok h) × HeadKnown p.names f h
  head-there before f none =
      let gs = own_faults p.names f.initialiser in
      let hs = faults_after (parameter_faults p.names) [] f.params in
      let both = none-of-both (one_if (has (functions_in before) f.name.text) N2 f.name.span ++ gs) hs none in
      let own = none-of-both (one_if (has (functions_in before) f.name.text) N2 f.name.span) gs both.0 in
      something (HeadKnown p.names f) (gs ++ hs) (head_of p.names f) (none-front gs hs own.1 ∙ both.1) (head-tells p.names f)

  context-same : (f : FunctionDecl) (h : Head) → HeadKnown p.names f h
      → ◌≡◌ {A = TypingContext} (record { declared = D; initialiser = f.initialiser; scope = known_variables h.parameters.scope }) (body_context D f)
  context-same f h k = λ i. record { declared = D; initialiser = f.initialiser; scope = k.scope i }

  function-tells : (before : List Entry) (f : FunctionDecl) (gs : List TypedFunction) → head_faults p.names before (Function f) ≡ []
      → Tells Any (body_faults D (Function f)) (with_body p (Function f) gs)
  unfolding with_body typed_function
  function-tells before f gs none =
      let h = head-there before f none in
      let fs = body_faults D (Function f) in
      mapped-tells Any Any fs (at_end gs) (typed_function p f)
      (subst (λ (r : _). Tells Any fs (after (function_body p f) r)) (sym h.1)
      (mapped-tells Any Any fs (function_of f h.0) (inner_block (typed_stmts p h.0.own f.body) h.0.parameters)
      (as-list Any (stmts_faults (record { declared = D; initialiser = f.initialiser; scope = known_variables h.0.parameters.scope }) f.body) fs
      (inner_block (typed_stmts p h.0.own f.body) h.0.parameters)
      (ap (λ (c : TypingContext). stmts_faults c f.body) (context-same f h.0 h.2))
      (body-tells p functions known f.initialiser h.0.own h.2.own f.body h.0.parameters))
      (λ b u. tt)))
      (λ g u. tt)

  bodies-tell : (entries before : List Entry) (gs : List TypedFunction) → faults_after (head_faults p.names) before entries ≡ []
      → Tells Any (faults_of_each (body_faults D) entries) (in_turn (with_body p) entries gs)
  unfolding in_turn faults_of_each faults_after with_body
  bodies-tell [] before gs none = (refl, tt)
  bodies-tell (Struct s ∷ rest) before gs none =
      let parts = none-of-both (head_faults p.names before (Struct s)) (faults_after (head_faults p.names) (before ++ Struct s ∷ []) rest) none in
      bodies-tell rest (before ++ Struct s ∷ []) gs parts.1
  bodies-tell (Function f ∷ rest) before gs none =
      let parts = none-of-both (head_faults p.names before (Function f)) (faults_after (head_faults p.names) (before ++ Function f ∷ []) rest) none in
      after-tells Any Any (body_faults D (Function f)) (faults_of_each (body_faults D) rest) (in_turn (with_body p) rest) (with_body p (Function f) gs)
      (function-tells before f gs parts.0) (λ hs u. bodies-tell rest (before ++ Function f ∷ []) hs parts.1)

-- ---- heads, and then bodies
module _ (entries : List Entry) where
  abbrev Names : List Name
  Names = struct_names entries []

  none-declared : EntriesAs Names [] (no_entries Names)
  unfolding structs_in functions_in
  none-declared = record { names_kept = refl; structs = refl; functions = tt }

  heads-tell : Tells (λ p. EntriesAs Names entries p × (faults_after (head_faults Names) [] entries ≡ [])) (faults_after (head_faults Names) [] entries) (heads entries)
  unfolding heads
  heads-tell =
      tells-and-none (EntriesAs Names entries) (faults_after (head_faults Names) [] entries) (in_turn with_entry entries (no_entries Names))
      (turn-tells with_entry (head_faults Names) (EntriesAs Names) (entry-tells Names) entries [] (no_entries Names) none-declared)

  declared-same : (p : Program) → EntriesAs Names entries p → Shown p (functions_in entries) ≡ declared_in entries
  declared-same p k = λ i. record { names = k.names_kept i; structs = k.structs i; functions = functions_in entries }

  program-tells : (p : Program) → EntriesAs Names entries p → faults_after (head_faults Names) [] entries ≡ []
      → Tells Any (faults_of_each (body_faults (declared_in entries)) entries) (bodies entries p)
  program-tells p k none =
      let fs = faults_of_each (body_faults (declared_in entries)) entries in
      mapped-tells Any Any fs (program_of p) (in_turn (with_body p) entries [])
      (as-list Any (faults_of_each (body_faults (Shown p (functions_in entries))) entries) fs (in_turn (with_body p) entries [])
      (ap (λ (d : Declared). faults_of_each (body_faults d) entries) (declared-same p k))
      (bodies-tell p (functions_in entries) (subst (λ (l : List Name). HeadsKnown l p.functions (functions_in entries)) (sym k.names_kept) k.functions) entries [] []
      (ap (λ (l : List Name). faults_after (head_faults l) [] entries) k.names_kept ∙ none)))
      (λ gs u. tt)

tree-tells : (tree : Tree) → Tells Any (tree_faults tree) (checked tree)
unfolding checked
tree-tells tree =
    let entries = tree.entries in
    let hs = faults_after (head_faults (struct_names entries [])) [] entries in
    after-tells (λ p. EntriesAs (struct_names entries []) entries p × (hs ≡ [])) Any hs (faults_of_each (body_faults (declared_in entries)) entries) (bodies entries) (heads entries)
    (heads-tell entries) (λ p k. program-tells entries p k.0 k.1)

-- the fault that is answered is the first of all
pub first-fault : (tree : Tree) (f : Fault) → (checked tree ≡ Err f) ↔ (slice_get (tree_faults tree) 0 ≡ Some f)
first-fault tree f = tells-first Any (tree_faults tree) (checked tree) (tree-tells tree) f

-- there is a program exactly when there are no faults
pub no-fault : (tree : Tree) → IsOk (checked tree) ↔ (tree_faults tree ≡ [])
no-fault tree = tells-none Any (tree_faults tree) (checked tree) (tree-tells tree)
