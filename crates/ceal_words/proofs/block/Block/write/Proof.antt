-- `write` puts a word into one cell. Assumes `Logic`.
use Rattle.std.proofs.Common.{ℕ, ◌+◌, ◌*◌, ◌^◌, ◌<◌, List, [], ◌∷◌, Some, length, set, sym, refl, ap, ◌∙◌, subst, arith, length-set, w64}
use Rattle.std.proofs.raw_atomic.Walks.{proved}
use base.Fraction.{full_share}
use base.Logic.{id⊢}
use base.Fml.{ftrue, flft, froom}
use mir.Syntax.{named, ty_int}
use mir.Val.{Val, vunit, vint}
use contract.Running.{tables}
use types.Kit.{‵, raw, ◌⊛◌, at_ret, ◌$◌, ◌∵◌, !, qed, done, move, keep, use1, use2, split, join, rewrite, fsplit, fsplit3, fjoin, feq_i, flt_l, flt_i, suffices, frame, group}
use types.Part.{sub, whole, look_in}
use types.Run.{enter, of_opd, lit, unit_lit, bin, load, init, stop, fld, first, blocks, assigns_last, exec, returns}
use types.ByLocal.{alloc_all, pass_all, free_all, look_at, get, through, sets, env}
use contract.Monad.{fact}
use denote.Exit.{yes}
use denote.Builtin.{u64, usize}
use denote.Laws.{shows}
use denote.Memory.{cell_at}
use denote.Plain.{uint_vals, uint_Tells}
use denote.RattleType.{owns}
use denote.RawPtr.{Ptr, in_a_block}
use denote.Ref.{mut_vals, mut_Tells}
use denote.Signature.{plain, types_at}
use denote.Steps.{nothing, heard, opens, closes, peeks}
use denote.Triple.Walked.{Stays, walk_of, stay_dropped, Goes-dropped, stay_ref, Goes-ref, says, ends_at}
use Rattle.std.proofs.VecSteps.Shapes.{after}
use Rattle.ceal_words.specs.Memory.{cells, block_owns}
use Rattle.ceal_words.proofs.MemoryLemmas.{besides, room_out, written}
use Rattle.ceal_words.specs.contracts.block.Block.write as f
use Rattle.ceal_words.proofs.block.Block.write.Statement.{statement}
use Rattle.ceal_words.proofs.block.Block.write.Code as code
use Rattle.ceal_words.specs.contracts.block.Block.{the_row as R}
use Rattle.ceal_words.proofs.block.Block.TheLaws.{lowers}

abbrev stayed : Stays f.ended.signature.params f.ended.kept
stayed = (stay_ref (0 ∷ []) tt (plain (λ _. R)), (stay_dropped (plain (λ _. usize)) yes, (stay_dropped (plain (λ _. u64)) yes, tt)))

pub write_spec : {M : Type 1} → statement M
write_spec 𝓤 𝓛 𝓜 𝓡 wired =
    let c = f.clauses 𝓛 𝓜.mem 𝓡.returns in let W = walk_of 𝓛 f.ended stayed c in let 𝓣 = tables 𝓤 𝓛.H 𝓜 𝓡 𝓡.env in
    proved 𝓛 f.ended stayed c 𝓜 𝓡 (Goes-ref 𝓛 1 0 tt (plain (λ _. R)), (Goes-dropped 𝓛 1 (plain (λ _. usize)) yes (λ κs x w. refl), (Goes-dropped 𝓛 1 (plain (λ _. u64)) yes (λ κs x w. refl), tt)))
    f.Key.name code.function (code.unfolded 𝓤 𝓛.H 𝓜 𝓡 wired)
    (λ κs. (mut_vals, (uint_vals w64, (uint_vals w64, tt)))) (λ κs. (mut_Tells (named 0) κs.0 R, (uint_Tells w64, (uint_Tells w64, tt)))) (λ κs qs bounds a g are.
    let b = a.0.ref_ptr.0 in let o = a.0.ref_ptr.1 in let h = a.0.now in let vs = mut_vals a.0 in let i : ℕ = a.1.0 in let x : ℕ = a.1.1.0 in
    let y : W.Ghost = ((κs, qs, bounds, a, (vs, (vint w64 i ∷ [], (vint w64 x ∷ [], tt)))), g) in
    qed 𝓛 (((‵ (flft κs.0 qs.0) ⊛ ‵ ftrue) ⊛ ‵ (owns (types_at f.ended.signature.params κs) a y.0.4)) ∷ raw (fact 𝓤 (i < length h.words)) ∷ []) ∵
    move ! (1 ∷ []) $ heard ! _ (λ inside. split ! $ split ! $ move ! (2 ∷ []) $ fsplit ! $ keep ! (0 ∷ 2 ∷ []) $
    enter ! _ _ _ _ _ $ alloc_all ! (λ l. pass_all ! refl ((tt, tt), ((tt, record { fits = are.1.0.1 }), ((tt, record { fits = are.1.1.0.1 }), tt))) $
    fsplit3 ! $ move ! (1 ∷ 2 ∷ 3 ∷ []) $ opens ! tt R b o (λ us.
    move ! (1 ∷ []) $ peeks ! R _ (shows 𝓛 R) h us (λ is. fsplit ! $ move ! (1 ∷ []) $
    in_a_block ! h.at (λ p. block_owns p h.words) (id⊢ 𝓤 _) (λ b' o' e. fsplit ! $ flt_l ! (λ small.
    let far : i * 8 < 2 ^ 64 = omega (arith, inside, small) in
    use1 𝓛 (‵ (froom (ty_int w64) b' (i * 8 + o')) ⊛ ‵ (besides b' o' h.words i)) (room_out 𝓛 b' h.words i o' inside) $ split ! $
    let word = lowers.val_is h us is ∙ ap (λ (p : Ptr). lowers.lowered (record h { at = p }) ∷ []) e in
    let Cell = λ (ws : List Val). ‵ (cell_at full_share R.mir ws b o) in
    rewrite ! 3 Cell word refl $
    -- [the room; the other cells; what the fields own; the struct's cell; the open borrow]
    first ! $ blocks ! $
    sets ! (of_opd ! (load ! (through ! refl (fld ! refl (stop !))) (look_in ! 3 (sub ! 0 refl (whole !))))) refl (tt, tt) $
    sets ! (bin ! (get ! refl) (lit ! tt) (record { fits = far })) refl (tt, record { fits = far }) $
    sets ! (bin ! (get ! refl) (get ! refl) tt) refl (tt, tt) $
    assigns_last ! (of_opd ! (get ! refl)) (through ! refl (stop !)) (init ! 0 refl (tt, record { fits = are.1.1.0.1 })) $
    exec ! 𝓣.C 𝓣.Λ (env code.Mir.locals l) (after 1 (code.function).body) (at_ret _ (W.post y)) $
    sets ! (of_opd ! (unit_lit !)) refl (tt, tt) $
    let new = set h.words i (Some x) in
    use2 𝓛 (‵ (cells b' o' new)) (written 𝓛 b' h.words i x o' inside) $
    flt_i ! (length new * 8) (2 ^ 63) (subst (λ (k : ℕ). k * 8 < 2 ^ 63) (sym (length-set h.words i (Some x))) small) $ fjoin ! $
    rewrite ! 0 (λ (p : Ptr). ‵ (block_owns p new)) (sym e) refl $ rewrite ! 2 Cell (sym word) refl $
    move ! (1 ∷ []) $ fjoin ! $ move ! (1 ∷ []) $ closes ! tt R (record h { words = new }) us b o $
    -- [two parts of self; the token; self's first part]
    returns ! (look_at ! 0 refl) $ free_all ! refl $ move ! (3 ∷ []) $
    suffices ! _ (ends_at 𝓛 f.ended stayed c y vunit tt (record h { words = new }, (tt, (tt, tt))) (tt, (tt, (tt, tt)))) $ says ! (refl, refl) $
    group ! 3 $ nothing ! $ nothing ! $ join ! $ nothing ! $ join ! $ move ! (1 ∷ 0 ∷ []) $ join ! $ nothing ! $ move ! (2 ∷ 0 ∷ []) $ join ! $ frame ! $ frame ! $
    feq_i ! _ (vunit ∷ []) _ refl $ done !)))))))
