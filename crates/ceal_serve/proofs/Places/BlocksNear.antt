-- Where a program is near, so are the places of its blocks.
use Rattle.std.proofs.Common.{◌≡◌, ℕ, zero, suc, Option, Some, None, List, [], ◌∷◌, ◌++◌, slice_get, subst}
use Rattle.ceal_base.specs.declared.fault.Span.{Span}
use Rattle.ceal_base.specs.declared.typed.TypedFunction.{TypedFunction}
use Rattle.ceal_base.specs.declared.typed.TypedStmt.{TypedStmt, Declare, Assign, SetField, Write, Call, If', While', Return, Break, Continue}
use Rattle.ceal_base.specs.declared.typed.TypedStmt.{Row_of-TypedStmt, end_of-TypedStmt, more_of-TypedStmt}
use Rattle.ceal_flow.specs.Lowering.{places, row_places, all_places, places_in, function_places}
use Rattle.ceal_serve.proofs.Places.Near.{Near, Each, each-append, TypedStmtNear, TypedStmtsNear, FunctionNear}

module _ (n : ℕ) where
  both : (a b : List Span) → Each (Near n) a → Each (Near n) b → Each (Near n) (a ++ b)
  both a b h k = each-append (Near n) a b h k

  mutual
    unfolding places TypedStmtNear Each

    places-near : (s : TypedStmt) → TypedStmtNear n s → Each (Near n) (places s)
    places-near (Declare at x kind value) h = (h.0, tt)
    places-near (Assign at x value) h = (h.0, tt)
    places-near (SetField at left s field e) h = (h.0, tt)
    places-near (Write at place e) h = (h.0, tt)
    places-near (Call at f args) h = (h.0, tt)
    places-near (If' at test _ first _ second) h = (h.0, both _ _ (rows-near first h.2) (rows-near second h.3))
    places-near (While' at test _ body) h = (h.0, rows-near body h.2)
    places-near (Return at) h = tt
    places-near (Break at) h = tt
    places-near (Continue at) h = tt

    rows-near : {k : _} (r : Row_of-TypedStmt k) → TypedStmtsNear n r → Each (Near n) (row_places r)
    rows-near end_of-TypedStmt h = tt
    rows-near (more_of-TypedStmt s rest) h = both _ _ (places-near s h.0) (rows-near rest h.1)

  bodies-near : (ss : List TypedStmt) → Each (TypedStmtNear n) ss → Each (Near n) (all_places ss)
  unfolding all_places Each
  bodies-near [] h = tt
  bodies-near (s ∷ ss) h = both _ _ (places-near s h.0) (bodies-near ss h.1)

  owned-near : (own : Option ℕ) (f : TypedFunction) → FunctionNear n f → Each (Near n) (places_in own f.body f.close)
  unfolding Each
  owned-near None f h = both _ _ (bodies-near f.body h.0) (h.1, tt)
  owned-near (Some s) f h = tt

  pub blocks-near : (fs : List TypedFunction) → Each (FunctionNear n) fs → Each (Near n) (function_places fs)
  unfolding function_places Each
  blocks-near [] h = tt
  blocks-near (f ∷ fs) h = both _ _ (owned-near f.initialiser f h.0) (blocks-near fs h.1)

-- so is any of them
pub item-near : {A : Type 0} (P : A → Type 0) (xs : List A) (i : ℕ) (x : A) → slice_get xs i ≡ Some x → Each P xs → P x
unfolding Each
item-near P [] i x e h = cc
item-near {A = A} P (y ∷ xs) zero x e h = subst P (some-same y x e) h.0
  where
    some-same : (a b : A) → Some a ≡ Some b → a ≡ b
    some-same a b e = cc
item-near P (y ∷ xs) (suc i) x e h = item-near P xs i x e h.1
