-- `new` makes a value of no bytes. Assumes `Logic`.
use Rattle.std.proofs.Common.{List, [], ◌∷◌, refl}
use Rattle.std.proofs.raw_atomic.Walks.{proved}
use base.Logic.{ent, emp}
use base.Fml.{Fml, ftrue}
use seplogic.Ra.Ura.{Ura}
use mir.Val.{Val, vstruct, vnil}
use types.Logic.{Logic, sem}
use types.Kit.{‵, ◌⊛◌, ◌$◌, ◌∵◌, !, qed, done, keep, use0, fjoin, suffices}
use types.Part.{agg}
use types.Run.{enter, no_more, returns}
use types.ByLocal.{alloc_all, pass_all, free_all, look_at, sets}
use denote.Shadow.{makes_shadow}
use denote.Steps.{nothing}
use denote.Triple.Walked.{Stays, walk_of, says, ends_at}
use denote.RattleType.{RattleType}
use denote.Struct.Struct.{Struct}
use Rattle.ceal_mods.specs.contracts.values.Values.new as f
use Rattle.ceal_mods.proofs.values.Values.new.Statement.{statement}
use Rattle.ceal_mods.proofs.values.Values.new.Code as code
use Rattle.ceal_mods.specs.contracts.values.Values.{the_row as R}

-- a struct only by its fields
abbrev plainly : List RattleType → RattleType
plainly Rs = Struct (record { name = []; args = []; types = []; fields = Rs })

abbrev stayed : Stays f.ended.signature.params f.ended.kept
stayed = tt

abbrev values_own : List Val → Fml
values_own = (plainly []).own_val tt

values_made : {M : Type 1} {𝓤 : Ura M} (𝓛 : Logic 𝓤) → ent 𝓤 (emp 𝓤) (sem 𝓛 (values_own (vstruct vnil ∷ [])))
values_made 𝓛 = makes_shadow 𝓛 (values_own (vstruct vnil ∷ [])) (λ _. (tt, tt)) (tt, (refl, tt))

pub new_spec : {M : Type 1} → statement M
new_spec 𝓤 𝓛 𝓜 𝓡 wired =
    let c = f.clauses 𝓛 𝓜.mem 𝓡.returns in let W = walk_of 𝓛 f.ended stayed c in
    proved 𝓛 f.ended stayed c 𝓜 𝓡 tt
    f.Key.name code.function (code.unfolded 𝓤 𝓛.H 𝓜 𝓡 wired)
    (λ κs. tt) (λ κs. tt) (λ κs qs bounds a g are.
    let y : W.Ghost = ((κs, qs, bounds, a, tt), g) in
    let made : R.Denot = record { list = [] } in
    qed 𝓛 ((‵ ftrue ⊛ ‵ ftrue) ∷ ‵ ftrue ∷ []) ∵ keep ! [] $
    enter ! _ _ _ _ _ $ alloc_all ! (λ l. pass_all ! refl tt $
    sets ! (agg ! (no_more !)) refl (tt, tt) $
    returns ! (look_at ! 0 refl) $ free_all ! refl $
    suffices ! _ (ends_at 𝓛 f.ended stayed c y (vstruct vnil) made tt tt) $ says ! refl $
    nothing ! $ use0 𝓛 (‵ (values_own (vstruct vnil ∷ []))) (values_made 𝓛) $ fjoin ! $ nothing ! $ nothing ! $ done !))
