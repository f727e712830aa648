-- `read` sees a word through a `&`. Assumes `Logic`.
use Rattle.std.proofs.Common.{ℕ, ◌+◌, ◌*◌, ◌^◌, ◌<◌, List, [], ◌∷◌, Option, None, IsSome, get_or, sym, refl, ap, ◌∙◌, arith, w64, unwrap_or}
use Rattle.std.proofs.raw_atomic.Walks.{proved}
use base.Logic.{id⊢, never}
use base.Fml.{ftrue, flft}
use mir.Syntax.{named, ty_ptr}
use mir.Val.{Val, vint, vptr}
use contract.Running.{tables}
use contract.Monad.{fact}
use types.Kit.{‵, raw, ◌⊛◌, at_ret, ◌$◌, ◌∵◌, !, qed, done, move, keep, drop, use1, split, join, rewrite, fsplit, fjoin, feq_i, feq_l, flt_l, flt_i, suffices}
use types.Run.{enter, of_opd, lit, bin, load, look, stop, fld, first, blocks, exec, returns}
use types.ByLocal.{alloc_all, pass_all, free_all, look_at, get, through, sets, sets_last, env}
use denote.Exit.{yes}
use denote.Builtin.{u64, usize, RefOf}
use denote.Copied.{plain_Copied, uint_Copied}
use denote.Index.{place, place_is}
use denote.Memory.{cell_at}
use denote.Opens.{unhide, hide}
use denote.Plain.{uint_vals, uint_Tells, uint_Makes}
use denote.RattleType.{owns}
use denote.RawPtr.{Ptr, RawPtr, coded_ptr, ptr_own, rawptr_pure, ptr_val, in_a_block}
use denote.Ref.{shr_vals, shr_Tells}
use denote.Signature.{plain, types_at}
use denote.Steps.{nothing, heard, looks, shuts, owned}
use denote.Struct.Laws.{RawPtr-laws}
use denote.Triple.Walked.{Stays, walk_of, stay_dropped, Goes-dropped, says, ends_at}
use Rattle.std.proofs.VecSteps.Shapes.{after}
use Rattle.ceal_words.specs.Memory.{cell_lent, block_lends}
use Rattle.ceal_words.proofs.MemoryLemmas.{seen, some_is, is_there}
use Rattle.ceal_words.specs.contracts.block.Block.read as f
use Rattle.ceal_words.proofs.block.Block.read.Statement.{statement}
use Rattle.ceal_words.proofs.block.Block.read.Code as code
use Rattle.ceal_words.specs.contracts.block.Block.{the_row as R}

abbrev stayed : Stays f.ended.signature.params f.ended.kept
stayed = (stay_dropped (RefOf (0 ∷ []) tt (plain (λ _. R)) (λ _. tt)) yes, (stay_dropped (plain (λ _. usize)) yes, tt))

pub read_spec : {M : Type 1} → statement M
read_spec 𝓤 𝓛 𝓜 𝓡 wired =
    let c = f.clauses 𝓛 𝓜.mem 𝓡.returns in let W = walk_of 𝓛 f.ended stayed c in let 𝓣 = tables 𝓤 𝓛.H 𝓜 𝓡 𝓡.env in
    proved 𝓛 f.ended stayed c 𝓜 𝓡 (Goes-dropped 𝓛 1 (RefOf (0 ∷ []) tt (plain (λ _. R)) (λ _. tt)) yes (λ κs x w. refl), (Goes-dropped 𝓛 1 (plain (λ _. usize)) yes (λ κs x w. refl), tt))
    f.Key.name code.function (code.unfolded 𝓤 𝓛.H 𝓜 𝓡 wired)
    (λ κs. (shr_vals, (uint_vals w64, tt))) (λ κs. (shr_Tells (named 0) κs.0 R, (uint_Tells w64, tt))) (λ κs qs bounds a g are.
    let κ = κs.0 in let b = a.0.ref_ptr.0 in let o = a.0.ref_ptr.1 in let h = a.0.now in let vs = shr_vals a.0 in let i : ℕ = a.1.0 in
    let cs : List (Option ℕ) = h.words in let x : ℕ = unwrap_or (get_or cs i None) 0 in
    let y : W.Ghost = ((κs, qs, bounds, a, (vs, (vint w64 i ∷ [], tt))), g) in
    qed 𝓛 (((‵ (flft κ qs.0) ⊛ ‵ ftrue) ⊛ ‵ (owns (types_at f.ended.signature.params κs) a y.0.4)) ∷ raw (fact 𝓤 (IsSome (get_or cs i None))) ∷ []) ∵
    move ! (1 ∷ []) $ heard ! _ (λ some. let inside = is_there cs i some in let holds = some_is (get_or cs i None) some in
    split ! $ split ! $ move ! (2 ∷ []) $ fsplit ! $ fsplit ! $ drop ! $ keep ! (0 ∷ 2 ∷ []) $
    enter ! _ _ _ _ _ $ alloc_all ! (λ l. pass_all ! refl ((tt, tt), ((tt, record { fits = are.1.0.1 }), tt)) $
    unhide ! $ fsplit ! $ move ! (1 ∷ []) $ in_a_block ! h.at (λ p. block_lends p cs κ) (id⊢ 𝓤 (never 𝓤)) (λ b' o' e. fsplit ! $ flt_l ! (λ small.
    let far : i * 8 < 2 ^ 64 = omega (arith, inside, small) in
    use1 𝓛 (‵ (cell_lent b' (place 8 o' i) (get_or cs i None) κ)) (seen 𝓛 b' κ cs i o' inside) $
    rewrite ! 0 (λ (k : ℕ). ‵ (cell_lent b' k (get_or cs i None) κ)) (place_is 8 o' i) refl $
    rewrite ! 0 (λ (d : Option ℕ). ‵ (cell_lent b' (i * 8 + o') d κ)) holds refl $ hide ! $ move ! (1 ∷ []) $ fsplit ! $ fsplit ! $ hide ! $ move ! (0 ∷ 4 ∷ 3 ∷ []) $
    first ! $ blocks ! $
    -- [the pointer; the token; the word]
    looks ! tt RawPtr (plain_Copied 𝓛 Ptr coded_ptr (ty_ptr ∷ []) ptr_own rawptr_pure ptr_val RawPtr-laws.tells).opens h.at b (o + 0) (λ q' ws. move ! (1 ∷ []) $ feq_l ! (λ ew.
    rewrite ! 0 (λ (us : List Val). ‵ (cell_at q' RawPtr.mir us b (o + 0))) (ew ∙ ap (λ (r : Ptr). ptr_val r ∷ []) e) refl $
    sets ! (of_opd ! (load ! (through ! refl (fld ! refl (stop !))) (look ! 0 refl))) refl (tt, tt) $
    feq_i ! (List Val) (vptr b' o' ∷ []) (ptr_val h.at ∷ []) (ap (λ (r : Ptr). ptr_val r ∷ []) (sym e)) $ move ! (1 ∷ 0 ∷ []) $ shuts ! tt RawPtr q' h.at (vptr b' o' ∷ []) b (o + 0) $
    sets ! (bin ! (get ! refl) (lit ! tt) (record { fits = far })) refl (tt, record { fits = far }) $
    sets ! (bin ! (get ! refl) (get ! refl) tt) refl (tt, tt) $
    -- [the token; the pointer; the word]
    move ! (2 ∷ 0 ∷ []) $ looks ! tt u64 (uint_Copied 𝓛 w64).opens x b' (i * 8 + o') (λ q'' xs. move ! (1 ∷ []) $ fsplit ! $ feq_l ! (λ ex. flt_l ! (λ fx.
    rewrite ! 0 (λ (us : List Val). ‵ (cell_at q'' u64.mir us b' (i * 8 + o'))) ex refl $
    sets_last ! (of_opd ! (load ! (through ! refl (stop !)) (look ! 0 refl))) refl (tt, record { fits = fx }) $
    exec ! 𝓣.C 𝓣.Λ (env code.Mir.locals l) (after 1 (code.function).body) (at_ret _ (W.post y)) $
    sets ! (of_opd ! (get ! refl)) refl (tt, record { fits = fx }) $
    flt_i ! x (2 ^ 64) fx $ feq_i ! (List Val) (vint w64 x ∷ []) (vint w64 x ∷ []) refl $ fjoin ! $ move ! (1 ∷ 0 ∷ []) $ shuts ! tt u64 q'' x (vint w64 x ∷ []) b' (i * 8 + o') $
    returns ! (look_at ! 0 refl) $ free_all ! refl $ keep ! (0 ∷ []) $
    suffices ! _ (ends_at 𝓛 f.ended stayed c y (vint w64 x) x (tt, (tt, tt)) (tt, (tt, tt))) $ says ! holds $
    owned ! u64 _ (uint_Makes 𝓛 w64) x _ (refl, fx) $ nothing ! $ nothing ! $ join ! $ nothing ! $ join ! $ nothing ! $ move ! (3 ∷ 0 ∷ []) $ join ! $ done !))))))))))
