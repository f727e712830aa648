-- The core functions of a graph, and the blocks of each.
use Rattle.std.proofs.Common.{◌≡◌, inl, inr, ℕ, ◌+◌, Option, Some, None, List, [], ◌∷◌, ◌++◌, length, slice_get, Contains, refl, subst, arith, append_assoc, length-append}
use Rattle.std.proofs.lemmas.List.Elements.{Contains-push, Contains-append_left, Contains-append_right}
use Rattle.ceal_base.specs.declared.typed.Typed.{Typed}
use Rattle.ceal_base.specs.declared.typed.TypedFunction.{TypedFunction}
use Rattle.ceal_base.specs.declared.typed.TypedStmt.{TypedStmt}
use Rattle.ceal_flow.specs.Laws.{firsts}
use Rattle.ceal_flow.specs.Lowering.{function_size, first_of, core_blocks, function_in, function_at, blocks_in, blocks_at, functions_from, blocks_from, graph_of}
use Rattle.ceal_flow.specs.declared.block.GraphBlock.{GraphBlock}
use Rattle.ceal_flow.specs.declared.function.GraphFunction.{GraphFunction}
use Rattle.ceal_flow.specs.declared.function.GraphFunction.TheVariants.{Core, Init}
use Rattle.ceal_flow.proofs.FunctionSteps.{blocks_in-length}
use Rattle.ceal_flow.proofs.Placing.{Placed, placed-part}
use Rattle.ceal_flow.proofs.Reach.{parted}

-- the core function to which a block belongs
pub record Owner (blocks : List GraphBlock) (functions : List GraphFunction) (b : ℕ) (block : GraphBlock) : Type 0 where
  pub body : List TypedStmt
  pub start : ℕ
  pub i : ℕ
  pub at : b ≡ start + i
  pub item : slice_get (core_blocks body start) i ≡ Some block
  pub placed : Placed blocks start (core_blocks body start)
  pub first : Contains (firsts functions) (first_of body start)

firsts-more : (f : GraphFunction) (fs : List GraphFunction) (x : ℕ) → Contains (firsts fs) x → Contains (firsts (f ∷ fs)) x
firsts-more (Core name first params kinds) fs x h = Contains-append_right (first ∷ []) (firsts fs) x h
firsts-more (Init f) fs x h = h

first-here : (f : TypedFunction) (n : ℕ) (fs : List GraphFunction) → Contains (firsts (function_in None f n ∷ fs)) (first_of f.body n)
first-here f n fs = Contains-append_left (first_of f.body n ∷ []) (firsts fs) (first_of f.body n) (Contains-push [] (first_of f.body n))

owner-here : (before : List GraphBlock) (n : ℕ) (f : TypedFunction) (rest : List GraphBlock) (fs : List GraphFunction) (i : Option ℕ) (j : ℕ) (block : GraphBlock)
    → n ≡ length before → slice_get (blocks_in i f.body n) j ≡ Some block → Owner (before ++ (blocks_in i f.body n ++ rest)) (function_in i f n ∷ fs) (n + j) block
owner-here before n f rest fs None j block e h = record {
  body = f.body;
  start = n;
  i = j;
  at = refl;
  item = h;
  placed = placed-part before (core_blocks f.body n) rest n e;
  first = first-here f n fs;
}
owner-here before n f rest fs (Some s) j block e h = cc

owner-from : (before : List GraphBlock) (n : ℕ) (fs : List TypedFunction) (j : ℕ) (block : GraphBlock) → n ≡ length before
    → slice_get (blocks_from n fs) j ≡ Some block → Owner (before ++ blocks_from n fs) (functions_from n fs) (n + j) block
unfolding blocks_from functions_from
owner-from before n [] j block e h = cc
owner-from before n (f ∷ fs) j block e h = elim (parted (λ o. o ≡ Some block) (blocks_at f n) (blocks_from (n + function_size f) fs) j h) [
  | inl l ↦ owner-here before n f (blocks_from (n + function_size f) fs) (functions_from (n + function_size f) fs) f.initialiser j block e l.1
  | inr l ↦
      let long = blocks_in-length f.initialiser f.body n in
      let longer : n + function_size f ≡ length (before ++ blocks_at f n) = simp length-append (omega (arith, long, e)) in
      let o = owner-from (before ++ blocks_at f n) (n + function_size f) fs l.0 block longer l.2 in
      let q = l.1 in
      let at = o.at in
      record {
        body = o.body;
        start = o.start;
        i = o.i;
        item = o.item;
        at = omega (arith, q, long, at);
        placed = rw append_assoc at o.placed;
        first = firsts-more (function_at f n) (functions_from (n + function_size f) fs) (first_of o.body o.start) o.first;
      }
]

pub owner-of : (p : Typed) (b : ℕ) (block : GraphBlock) → slice_get (graph_of p).blocks b ≡ Some block
    → Owner (graph_of p).blocks (graph_of p).functions b block
owner-of p b block e =
    let same : 0 + b ≡ b = omega arith in
    subst (λ c. Owner (graph_of p).blocks (graph_of p).functions c block) same (owner-from [] 0 p.functions b block refl e)
