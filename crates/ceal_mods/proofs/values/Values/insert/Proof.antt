-- `insert` changes what the proofs know, and no memory. Assumes `Logic`.
use Rattle.std.proofs.Common.{ℕ, [], ◌∷◌, refl, w64}
use Rattle.std.specs.List.{insert}
use Rattle.std.proofs.raw_atomic.Walks.{proved}
use base.Fml.{ftrue, fsep, flft}
use mir.Syntax.{named}
use mir.Val.{vunit, vint}
use types.Kit.{‵, ◌⊛◌, ◌$◌, ◌∵◌, !, qed, done, move, keep, split, join, fsplit, fsplit3, feq_i, suffices, frame, group}
use types.Run.{enter, of_opd, unit_lit, returns}
use types.ByLocal.{alloc_all, pass_all, free_all, look_at, sets}
use denote.Exit.{yes}
use denote.Builtin.{usize, RefOf}
use denote.Plain.{uint_vals, uint_Tells}
use denote.RattleType.{owns}
use denote.Ref.{mut_vals, mut_Tells, shr_vals}
use denote.Signature.{plain, types_at}
use denote.Steps.{nothing, opens, closes}
use denote.Triple.Walked.{Stays, walk_of, stay_dropped, Goes-dropped, stay_ref, Goes-ref, says, ends_at}
use Rattle.ceal_base.specs.contracts.word.Word as word
use Rattle.ceal_mods.specs.contracts.values.Values.insert as f
use Rattle.ceal_mods.proofs.values.Values.insert.Statement.{statement}
use Rattle.ceal_mods.proofs.values.Values.insert.Code as code
use Rattle.ceal_mods.specs.contracts.values.Values.{the_row as R}

abbrev stayed : Stays f.ended.signature.params f.ended.kept
stayed = (stay_ref (0 ∷ []) tt (plain (λ _. R)), (stay_dropped (plain (λ _. usize)) yes, (stay_dropped (RefOf (1 ∷ []) tt (plain (λ _. word.the_row)) (λ _. tt)) yes, tt)))

pub insert_spec : {M : Type 1} → statement M
insert_spec 𝓤 𝓛 𝓜 𝓡 wired =
    let c = f.clauses 𝓛 𝓜.mem 𝓡.returns in let W = walk_of 𝓛 f.ended stayed c in
    proved 𝓛 f.ended stayed c 𝓜 𝓡 (
      Goes-ref 𝓛 2 0 tt (plain (λ _. R)),
      (
        Goes-dropped 𝓛 2 (plain (λ _. usize)) yes (λ κs x w. refl),
        (Goes-dropped 𝓛 2 (RefOf (1 ∷ []) tt (plain (λ _. word.the_row)) (λ _. tt)) yes (λ κs x w. refl), tt),
      ),
    )
    f.Key.name code.function (code.unfolded 𝓤 𝓛.H 𝓜 𝓡 wired)
    (λ κs. (mut_vals, (uint_vals w64, (shr_vals, tt)))) (λ κs. (mut_Tells (named 0) κs.0 R, (uint_Tells w64, ((λ r vs s. s.0), tt)))) (λ κs qs bounds a g are.
    let b = a.0.ref_ptr.0 in let o = a.0.ref_ptr.1 in let h = a.0.now in let vs = mut_vals a.0 in let at : ℕ = a.1.0 in let r = a.1.1.0 in
    let y : W.Ghost = ((κs, qs, bounds, a, (vs, (vint w64 at ∷ [], (shr_vals r, tt)))), g) in
    let new = record h { list = insert h.list at r.now } in
    qed 𝓛 (((‵ (flft κs.0 qs.0) ⊛ ‵ (fsep (flft κs.1.0 qs.1.0) ftrue)) ⊛ ‵ (owns (types_at f.ended.signature.params κs) a y.0.4)) ∷ ‵ ftrue ∷ []) ∵
    split ! $ split ! $ move ! (2 ∷ []) $ fsplit ! $ keep ! (0 ∷ 2 ∷ 3 ∷ []) $
    enter ! _ _ _ _ _ $ alloc_all ! (λ l. pass_all ! refl ((tt, tt), ((tt, record { fits = are.1.0.1 }), ((tt, tt), tt))) $
    fsplit3 ! $ move ! (1 ∷ 2 ∷ 3 ∷ []) $ opens ! tt R b o (λ us. closes ! tt R new us b o $
    -- [two parts of self; the token; self's first part]
    sets ! (of_opd ! (unit_lit !)) refl (tt, tt) $
    returns ! (look_at ! 0 refl) $ free_all ! refl $ move ! (3 ∷ []) $
    suffices ! _ (ends_at 𝓛 f.ended stayed c y vunit tt (new, (tt, (tt, tt))) (tt, (tt, (tt, tt)))) $ says ! refl $
    group ! 3 $ nothing ! $ nothing ! $ join ! $ nothing ! $ join ! $ move ! (1 ∷ 0 ∷ []) $ join ! $ move ! (1 ∷ 2 ∷ []) $ join ! $ frame ! $ frame ! $
    feq_i ! _ (vunit ∷ []) _ refl $ done !)))
