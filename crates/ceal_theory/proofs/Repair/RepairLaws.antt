-- The laws of repair.
use Rattle.std.proofs.Common.{◌≡◌, ℕ, List, length, sym, ap, ◌∙◌, subst, arith}
use Rattle.ceal_base.specs.Block.{Block}
use Rattle.ceal_base.specs.Trace.{Trace, steps_of, blocks_of}
use Rattle.ceal_base.specs.declared.word.Word.{Word}
use Rattle.ceal_code.proofs.Replay.ReplayedCall.{trace-law}
use Rattle.ceal_code.proofs.Words.SameIsEqual.{some-same}
use Rattle.ceal_code.specs.Determined.{Determined}
use Rattle.ceal_code.specs.Program.{Code}
use Rattle.ceal_code.specs.Replay.{Store}
use Rattle.ceal_theory.proofs.Repair.EndAsFromScratch.{repaired, ended}
use Rattle.ceal_theory.proofs.Repair.FunctionOfRules.{adjusted-sound, adjusted-found, first-sound, first-found}
use Rattle.ceal_theory.proofs.Renaming.RenamedTrace.{renamed-replays, renamed-honest}
use Rattle.ceal_theory.proofs.Renaming.RenamedRepair.{repair-renamed}
use Rattle.ceal_theory.proofs.Repair.RepairReplays.{mentions-new, adjust-replays, adjust-honest, adjust-old}
use Rattle.ceal_theory.proofs.Repair.HonestUnchanged.{adjust-same}
use Rattle.ceal_theory.proofs.Repair.Uniqueness.{same-traces, same-steps}
use Rattle.ceal_theory.specs.Laws.{MemoryAfter, RepairLaw, UniqueLaw, RenamedLaw, RenamedRepairLaw, EndLaw, UnchangedLaw, FunctionLaw}

pub repair-law : RepairLaw
repair-law code old new f args l m number work e a = record {
  replays = adjust-replays code old new f args e.call e.fit e.extended l e.trace number e.above m work a;
  honest = adjust-honest code old new f args e.call e.fit e.extended l e.trace number e.above m work a;
  blocks = adjust-old code old new f args e.call e.fit e.extended l e.trace number e.above m work a;
}

pub unique-law : UniqueLaw
unique-law code inputs f args fits l m r r' h k =
    let d = trace-law code inputs f args fits l r h in
    let d' = trace-law code inputs f args fits m r' k in
    let steps = same-steps code inputs f args fits l m r r' h k in
    let is : d.memory ≡ d'.memory = one code inputs f args l m h.after k.after d d' steps in
    record {
      traces = same-traces code inputs f args fits l m r r' h k;
      steps = steps;
      memory = d.memory;
      left = d.same;
      right = subst (λ memory. MemoryAfter code inputs m k.after memory) (sym is) d'.same;
    }
  where
    one : (code : Code) (inputs : List Block) (f : ℕ) (args : List Word) (l m : Trace) (s t : Store)
        (d : Determined code inputs f args l s) (d' : Determined code inputs f args m t) → steps_of l ≡ steps_of m
        → d.memory ≡ d'.memory
    one code inputs f args l m s t d d' e =
        let same = some-same (record { memory = d.memory; steps = steps_of l; blocks = length (blocks_of l) }) (record { memory = d'.memory; steps = steps_of m; blocks = length (blocks_of m) })
        (sym (d.ends (steps_of l) (omega arith)) ∙ d'.ends (steps_of l) (omega (arith, e))) in
        ap (λ r. r.memory) same

pub renamed-law : RenamedLaw
renamed-law code inputs f args fits ps one l m alike r = (
  renamed-replays code inputs f args fits ps one l m alike r,
  λ h. renamed-honest code inputs f args fits ps one l m alike r h,
)

pub renamed-repair-law : RenamedRepairLaw
renamed-repair-law code old new f args l number e ps one m alike other above n =
    repair-renamed code new e.fit ps one l m alike e.trace.known (mentions-new code old new f args e.call e.fit e.extended l e.trace) number other e.above above n

pub end-law : EndLaw
end-law code old new f args l number e n = record {
  repaired = repaired code old new f args e.call e.fit e.extended l e.trace number e.above n;
  ended = ended code old new f args e.call e.fit e.extended l e.trace number e.above n;
}

pub unchanged-law : UnchangedLaw
unchanged-law code inputs l h number n = adjusted-found code inputs number n l l 0 (adjust-same code inputs number l h) (omega arith)

pub function-law : FunctionLaw
function-law code inputs n a = (
  λ number l. (adjusted-sound code inputs number n l a, λ h. adjusted-found code inputs number n l a.items a.work h.0 h.1),
  λ f args. (first-sound code inputs n f args a, λ h. first-found code inputs n f args a.items a.work h.0 h.1),
)
