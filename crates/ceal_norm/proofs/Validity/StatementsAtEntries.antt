-- Each entry of a program's graph is a block of a core function, at which there are well typed statements.
use Rattle.std.proofs.Common.{◌≡◌, ℕ, ◌≤◌, true, false, Option, Some, None, List, [], ◌∷◌, slice_get, All, refl, sym, ap, ◌∙◌, subst, arith}
use Rattle.ceal_base.specs.Usage.{CoreUsage, InitUsage, FunctionUsage, KeepsUsage}
use Rattle.ceal_base.specs.WellTyped.{Context, FunctionTyped, WellTyped, context_of, numbers_below}
use Rattle.ceal_base.specs.declared.typed.Typed.{Typed}
use Rattle.ceal_base.specs.declared.typed.TypedFunction.{TypedFunction}
use Rattle.ceal_base.specs.declared.typed.TypedStmt.{TypedStmt}
use Rattle.ceal_flow.specs.Blocks.{sizes, no_loop, all_blocks}
use Rattle.ceal_flow.specs.Lowering.{end_of, first_of, function_in, function_at, graph_of}
use Rattle.ceal_flow.specs.Paths.{stays, jumps_to, Leads}
use Rattle.ceal_flow.specs.Program.{Graph}
use Rattle.ceal_flow.specs.declared.block.GraphBlock.TheVariants.{Done}
use Rattle.ceal_flow.specs.declared.function.GraphFunction.TheVariants.{Core, Init}
use Rattle.ceal_flow.proofs.BlockSteps.{all-length}
use Rattle.ceal_flow.proofs.Placing.{placed-head, placed-left, placed-right, made-at, all-at}
use Rattle.ceal_norm.specs.Entries.{is_entry}
use Rattle.ceal_norm.proofs.Validity.LiveVariablesInScope.{onward}
use Rattle.ceal_norm.proofs.Jumps.FunctionOfBlock.{Home, home, functions-there, begins}
use Rattle.ceal_norm.proofs.Validity.StatementsAtBlocks.{Stands, ends, goes, View, view, all-in-loop}
use Rattle.ceal_norm.proofs.Validity.UnitsOfEntries.{entry-reached}

abbrev BodyUsage : List TypedFunction → List TypedStmt → Option ℕ → Type 0
BodyUsage fs body None = All (CoreUsage fs false) body
BodyUsage fs body (Some s) = All InitUsage body

usage-of : (fs : List TypedFunction) (f : TypedFunction) → f.initialiser ≡ None → FunctionUsage fs f → All (CoreUsage fs false) f.body
usage-of fs f e u = let P : Option ℕ → Type 0 = λ i. BodyUsage fs f.body i in subst P e u

pub init-usage : (fs : List TypedFunction) (f : TypedFunction) (s : ℕ) → f.initialiser ≡ Some s → FunctionUsage fs f → All InitUsage f.body
init-usage fs f s e u = let P : Option ℕ → Type 0 = λ i. BodyUsage fs f.body i in subst P e u

-- an initialiser or a core function
pub data Sort (f : TypedFunction) : Type 0 where
  core : f.initialiser ≡ None → Sort f
  initialiser : (s : ℕ) → f.initialiser ≡ Some s → Sort f

pub sort-of : (f : TypedFunction) → Sort f
sort-of f = go f.initialiser refl
  where
    go : (i : Option ℕ) → f.initialiser ≡ i → Sort f
    go None e = core e
    go (Some s) e = initialiser s e

pub init-function : (f : TypedFunction) (n s : ℕ) → f.initialiser ≡ Some s → function_at f n ≡ Init f
init-function f n s e = ap (λ i. function_in i f n) e

module _ (p : Typed) where
  abbrev g : Graph
  g = graph_of p

  abbrev pub context : TypedFunction → Context
  context f = context_of p.structs p.functions f

  -- a core function, and where it begins
  pub record Function (k : ℕ) : Type 0 where
    pub f : TypedFunction
    pub is : slice_get p.functions k ≡ Some f
    pub none : f.initialiser ≡ None
    pub typed : FunctionTyped p.structs p.functions f
    pub home : Home p.functions k f
    pub over : slice_get g.blocks (end_of f.body home.start) ≡ Some Done
    pub room : home.start ≤ end_of f.body home.start
    pub first : Stands p.functions (context f) g.blocks home.start (end_of f.body home.start) (numbers_below f.params) (first_of f.body home.start)

  -- it is at a block of the function, where these variables are in scope
  abbrev pub StandsIn : (k : ℕ) → Function k → List ℕ → ℕ → Type 0
  StandsIn k fn seen b = Stands p.functions (context fn.f) g.blocks fn.home.start (end_of fn.f.body fn.home.start) seen b

  -- what is there
  abbrev pub ViewIn : (k : ℕ) → Function k → List ℕ → ℕ → Type 0
  ViewIn k fn seen b = View p.functions (context fn.f) g.blocks fn.home.start (end_of fn.f.body fn.home.start) fn.over fn.room seen b

  pub view-in : (k : ℕ) (fn : Function k) (seen : List ℕ) (b : ℕ) → StandsIn k fn seen b → ViewIn k fn seen b
  view-in k fn seen b st = view p.functions (context fn.f) g.blocks fn.home.start (end_of fn.f.body fn.home.start) fn.over fn.room seen b st

  -- a block of a core function
  pub record Spot (b : ℕ) : Type 0 where
    pub k : ℕ
    pub function : Function k
    pub seen : List ℕ
    pub stands : StandsIn k function seen b

  -- the function from which a jump leads is that to which it leads
  lead-spot : (a b : ℕ) → Spot a → Leads g.blocks a b → Spot b
  lead-spot a b spot stays = spot
  lead-spot a b spot (jumps_to {b = x} {c = y} {d = z} t j h) =
      let fn = spot.function in
      let o = onward p.functions (context fn.f) g.blocks fn.home.start (end_of fn.f.body fn.home.start) fn.over fn.room spot.seen x y (view-in spot.k fn spot.seen x spot.stands) j in
      lead-spot y b (record { k = spot.k; function = fn; seen = o.after; stands = o.stands }) h

  module _ (typed : WellTyped p) (kept : KeepsUsage p) where
    pub function-of : (k : ℕ) (f : TypedFunction) → slice_get p.functions k ≡ Some f → f.initialiser ≡ None → Function k
    function-of k f is none =
        let h = home p.functions k f is none in
        let done = end_of f.body h.start in
        let stmts = all_blocks f.body h.start done (no_loop done) in
        let t = all-at (FunctionTyped p.structs p.functions) p.functions k f typed.functions is in
        let usage = all-in-loop p.functions f.body (usage-of p.functions f none (all-at (FunctionUsage p.functions) p.functions k f kept is)) in
        record {
          f = f;
          is = is;
          none = none;
          typed = t;
          home = h;
          over = placed-head g.blocks done Done [] (placed-right g.blocks h.start stmts (Done ∷ []) (sizes f.body) (sym (all-length f.body h.start done (no_loop done))) h.placed);
          room = omega arith;
          first = goes f.body h.start done f.params (no_loop done) (numbers_below f.params) (numbers_below f.params) refl usage t.body
              (placed-left g.blocks h.start stmts (Done ∷ []) h.placed) (omega arith) (omega arith) (λ v i. i) (λ on. ends refl) refl (λ v i. i) (ends refl) (ends refl);
        }

    first-spot : (b : ℕ) (name : List ℕ) (params : ℕ) (kinds : _) (k : ℕ) (f : TypedFunction) → slice_get g.functions k ≡ Some (Core name b params kinds)
        → slice_get p.functions k ≡ Some f → Sort f → Spot b
    first-spot b name params kinds k f there is (core none) =
        let fn = function-of k f is none in
        let same : Core fn.f.name.text (first_of fn.f.body fn.home.start) fn.f.params fn.f.kinds ≡ Core name b params kinds = cc (fn.home.function, there) in
        let at : first_of fn.f.body fn.home.start ≡ b = cc same in
        record {
          k = k;
          function = fn;
          seen = numbers_below fn.f.params;
          stands = subst (λ x. StandsIn k fn (numbers_below fn.f.params) x) at fn.first;
        }
    first-spot b name params kinds k f there is (initialiser s e) =
        let m = made-at p.functions k f is in
        let same : Some (Init f) ≡ Some (Core name b params kinds) = sym (m.function ∙ ap Some (init-function f m.start s e)) ∙ there in cc

    pub entry-spot : (b : ℕ) → is_entry g b ≡ true → Spot b
    entry-spot b e =
        let r = entry-reached p b e in
        let x = begins g.functions r.0 r.1 in
        let f = functions-there p.functions 0 x.k _ x.is in
        lead-spot r.0 b (first-spot r.0 x.name x.params x.kinds x.k f.0 x.is f.1 (sort-of f.0)) r.2
