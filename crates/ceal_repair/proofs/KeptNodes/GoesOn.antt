-- After a read among kept nodes whose unit is over, the kept nodes continue, in code.
use Rattle.std.proofs.Common.{◌≡◌, ℕ, Some, List, refl, sym, ap, ◌∙◌}
use Rattle.ceal_base.specs.Block.{Block}
use Rattle.ceal_base.specs.declared.word.Place.{Place}
use Rattle.ceal_code.specs.Program.{Code}
use Rattle.ceal_order.specs.declared.stamp.Stamp.{Stamp}
use Rattle.ceal_repair.proofs.KeptNodes.StaleReadEnd.{next-kept, lies-kept, first-kept, now-go-on}
use Rattle.ceal_repair.proofs.Reuse.ReadReuseInCode.{passes-as}
use Rattle.ceal_repair.specs.Blocks.{HasBlocks, KeepsReadable}
use Rattle.ceal_repair.specs.Entries.{stamp_of_number, first_in, Lies}
use Rattle.ceal_repair.specs.Kept.{Kept, base_in}
use Rattle.ceal_repair.specs.Moment.{Start, through}
use Rattle.ceal_repair.specs.Reads.{EndsKept}
use Rattle.ceal_repair.specs.Repairs.{code_of, inputs_of, view, PassesOn}
use Rattle.ceal_repair.specs.declared.repair.Repair.{Repair}
use Rattle.ceal_repair.specs.declared.running.Running.{Running}
use Rattle.ceal_theory.specs.Groves.{Grove, Bare}
use Rattle.ceal_trace.specs.Nodes.{Entry}

module _ (old : Repair) (start : Start) (until end : Stamp) (a : EndsKept start until old) (at_end : old.limit ≡ Some end) where
  same-end : stamp_of_number (next-kept (code_of old) (inputs_of old) start a.stack (view old) until a.now).end ≡ end
  same-end =
      let n = next-kept (code_of old) (inputs_of old) start a.stack (view old) until a.now in
      let both : Some (stamp_of_number n.end) ≡ Some end = sym n.now_is ∙ at_end in
      cc

  -- its end is the first node after what is left over
  pub end-first : first_in a.now.tail ≡ Some end.0
  end-first = first-kept (code_of old) (inputs_of old) start a.stack (view old) until a.now ∙ ap (λ (s : Stamp). Some s.0) same-end

  -- what is left over was revoked
  module _ (run : Running)
      (all : (front : List Entry) (left : Grove) (tail : List Entry) → Lies old.cursor.0 front left tail old.running.now.tables → first_in tail ≡ Some end.0
      → Lies old.cursor.0 front Bare tail run.tables)
      (bases : (p : Place) → base_in run.tables.mods p ≡ base_in old.running.now.tables.mods p) (blocks : KeepsReadable old.running.now.heap run.heap)
      (has : (code : Code) (inputs : List Block) → HasBlocks code inputs old.running.now.heap old.running.now.tables → HasBlocks code inputs run.heap run.tables)
      (spent : run.spent ≡ old.running.now.spent) (kept : Kept run.tables) where
    lies-bare : Lies old.cursor.0 (through a.now.placed.done a.now.placed.last) Bare a.now.tail run.tables
    lies-bare = all (through a.now.placed.done a.now.placed.last) a.now.left a.now.tail (lies-kept (code_of old) (inputs_of old) start a.stack (view old) until a.now) end-first

    pub goes-on : PassesOn start (record old { running = record old.running { now = run }; cursor = end; limit = Some until })
    goes-on =
        let n = next-kept (code_of old) (inputs_of old) start a.stack (view old) until a.now in (
          until,
          passes-as (code_of old) (inputs_of old) start until
              (record { tables = run.tables; heap = run.heap; spent = old.running.now.spent; cursor = n.end; limit = Some until; frames = (view old).frames })
              (record old { running = record old.running { now = run }; cursor = end; limit = Some until })
              (now-go-on (code_of old) (inputs_of old) start a.stack (view old) until a.now run.tables run.heap a.over lies-bare bases blocks (has (code_of old) (inputs_of old)) kept) refl refl
              (ap (λ (k : ℕ). record { tables = run.tables; heap = run.heap; spent = k; cursor = end.0; limit = Some until; frames = (view old).frames }) spent
              ∙ ap (λ (s : Stamp). record { tables = run.tables; heap = run.heap; spent = old.running.now.spent; cursor = s.0; limit = Some until; frames = (view old).frames }) (sym same-end)),
        )
