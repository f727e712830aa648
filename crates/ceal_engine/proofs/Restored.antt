-- An engine whose run is that of a forest.
use Rattle.std.proofs.Common.{◌≡◌, ℕ, true, Option, Some, None, List, refl, sym, ap, ◌∙◌, subst}
use Rattle.std.specs.Option.{IsSomeAnd}
use Rattle.std.specs.Prelude.{IfSome, is_some}
use Rattle.ceal_base.proofs.TraceLemmas.{trace-flat}
use Rattle.ceal_base.specs.Block.{Block}
use Rattle.ceal_base.specs.Trace.{Trace, trace_of, blocks_of}
use Rattle.ceal_base.specs.declared.call.Call.{Call}
use Rattle.ceal_base.specs.declared.forest.Item.{Item}
use Rattle.ceal_base.specs.declared.word.Word.{Word}
use Rattle.ceal_code.proofs.Alike.BlockPairs.{zip-one}
use Rattle.ceal_code.proofs.Replay.ReplayedCall.{trace-law}
use Rattle.ceal_code.proofs.Words.SameIsEqual.{none-some, some-same}
use Rattle.ceal_code.specs.Alike.{zipped}
use Rattle.ceal_code.specs.Fresh.{fresh}
use Rattle.ceal_code.specs.Program.{Code}
use Rattle.ceal_code.specs.Replay.{Replays, IsHonest, core_numbers}
use Rattle.ceal_engine.specs.Engine.{EngineState, ReplaysCall, IsTraced, IsEngine, fresh_of, has_run, trace}
use Rattle.ceal_engine.specs.Repaired.{IsRenamed, IsRestorable, IsRestored}
use Rattle.ceal_engine.specs.declared.phase.Phase.TheVariants.{Finished as IsFinished}
use Rattle.ceal_theory.proofs.Repair.RepairLaws.{unique-law}

module _ (code : Code) (fuel : ℕ) (inputs : List Block) (f : ℕ) (args : List Word) (items : List Item) (r : IsRestorable code fuel inputs f args items) where
  -- the run from scratch ends within the fuel
  pub not-out : fresh code f args inputs fuel ≡ None → ⊥
  not-out e = none-some _ (sym e ∙ (trace-law code inputs f args r.fits r.trace r.replays r.honest).ends fuel r.few)

  pub not-out-of : (e : EngineState) → e.code ≡ code → e.fuel ≡ fuel → e.inputs ≡ inputs → e.call ≡ Some (record { function = f; args = args }) → fresh_of e ≡ None → ⊥
  not-out-of e c n i k h = not-out (sym (rw (c, n, i, k) refl) ∙ h)

  renamed : (m : Trace) → Replays code inputs f args m → IsHonest code inputs m → IsRestored items m
  renamed m s h l e =
      let same : l ≡ r.trace = some-same l r.trace (sym (trace-flat l) ∙ (ap trace_of (sym e ∙ r.flat_form) ∙ trace-flat r.trace)) in
      subst (λ l. IsRenamed l m) (sym same)
      (record {
        pairs = zipped (core_numbers (blocks_of r.trace)) (core_numbers (blocks_of m));
        one = zip-one (core_numbers (blocks_of r.trace)) (core_numbers (blocks_of m)) r.replays.distinct s.distinct;
        alike = (unique-law code inputs f args r.fits r.trace m r.replays s r.honest h).traces;
      })

  -- an engine with a finished run of the call has the trace
  pub engine-restored : (e : EngineState) → IsEngine e → e.code ≡ code → e.inputs ≡ inputs → e.call ≡ Some (record { function = f; args = args }) → e.phase ≡ IsFinished
      → IsSomeAnd (trace e) (IsRestored items)
  engine-restored e w c i k p = go (trace e) (w.kept ∙ ap has_run p) (w.replays (rw p refl)) (w.traced p)
    where
      go : (o : Option Trace) → is_some o ≡ true → IfSome o (ReplaysCall e) → IfSome o (IsTraced e) → IsSomeAnd o (IsRestored items)
      go None h s t = absurd (cc h)
      go (Some m) h s t =
          let q : IfSome {T = Call} (Some (record { function = f; args = args })) (λ call. Replays e.code e.inputs call.function call.args m) =
          subst (λ o. IfSome {T = Call} o (λ call. Replays e.code e.inputs call.function call.args m)) k s in
          renamed m (subst (λ i. Replays code i f args m) i (subst (λ c. Replays c e.inputs f args m) c q)) (subst (λ i. IsHonest code i m) i (subst (λ c. IsHonest c e.inputs m) c t.honest))
