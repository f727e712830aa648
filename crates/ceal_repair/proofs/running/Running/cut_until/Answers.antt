use Rattle.std.proofs.Common.{◌≡◌, ℕ, inl, inr, Some, List}
use Rattle.ceal_order.specs.Stamps.{successor}
use Rattle.ceal_repair.proofs.Revocation.UpToNode.{Revoking, cursor-is, next-first, one-revoked, revoked-to, all-revoked}
use Rattle.ceal_repair.proofs.Runs.Nearness.{cuts-to, cuts-all}
use Rattle.ceal_repair.specs.Distance.{CutsAfter}
use Rattle.ceal_repair.specs.Entries.{IsNoneOr, IsUntil, Lies, first_in}
use Rattle.ceal_repair.specs.Kept.{Kept}
use Rattle.ceal_repair.specs.Lists.{nodes_after}
use Rattle.ceal_repair.specs.declared.running.Running.{Running}
use Rattle.ceal_theory.specs.Groves.{Grove}
use Rattle.ceal_trace.specs.Nodes.{Entry, stamps_in}
use Rattle.ceal_repair.proofs.running.Running.cut_until.Goals as goal

pub next_before-requires : goal.next_before-requires
next_before-requires c =
    let l = c.requires.lies in
    record { here = cursor-is c.args.cursor.0 c.args.until.0 c.args.self.now c.loop-revoked.self c.loop-revoked.invariant l.0 l.1 l.2 l.3 l.4 }

pub returns-in-None-clause-there : goal.returns-in-None-clause-there
returns-in-None-clause-there c = revoked-to c.args.cursor.0 c.args.until.0 c.args.self.now c.loop-revoked.self c.loop-revoked.invariant c.in-None.ensures.none

pub returns-in-None-clause-all : goal.returns-in-None-clause-all
returns-in-None-clause-all c = all-revoked c.args.cursor.0 c.args.until.0 c.args.self.now c.loop-revoked.self c.loop-revoked.invariant c.in-None.ensures.none

pub cut-requires-clause-lies : goal.cut-requires-clause-lies
cut-requires-clause-lies c =
    let l = c.requires.lies in
    let e = c.in-Some.ensures in
    let k = c.loop-revoked.invariant.left l.0 l.1 l.2 l.3 l.4 in
    (l.0, k.rest, l.2, k.lies, next-first c.args.cursor.0 c.args.until.0 c.args.self.now c.loop-revoked.self c.loop-revoked.invariant c.in-Some.node.0 e.next e.some l.0 l.1 l.2 l.3 l.4)

pub loop-revoked-preserved : goal.loop-revoked-preserved
loop-revoked-preserved c =
    let e = c.in-Some.ensures in
    let f = c.in_ok-cut-in-Some.ensures in
    one-revoked c.args.cursor.0 c.args.until.0 c.args.self.now c.loop-revoked.self c.loop-revoked.invariant c.in-Some.node.0 c.cut.new.self e.next e.some f.lies f.bases f.blocks f.has f.spent f.looks
    f.differed f.touched f.counts f.marks f.kept

-- what was taken out was after the cursor, and the node up to which it was is the first one then
cut-so-far : (cursor until : ℕ) (old now : Running) → Revoking cursor until old now → Kept old.tables → IsNoneOr until (successor cursor (stamps_in now.tables.trace.nodes))
    → (front : List Entry) (left : Grove) (tail : List Entry) → Lies cursor front left tail old.tables → IsUntil until left tail
    → CutsAfter cursor old.tables.trace.nodes now.tables.trace.nodes × (first_in (nodes_after cursor now.tables.trace.nodes) ≡ Some until)
cut-so-far cursor until old now r kept none front left tail l (inl i) =
    let s = revoked-to cursor until old now r none front left tail l i in cuts-to cursor until front left s.0 tail old.tables now.tables kept r.kept l s.1 s.2
cut-so-far cursor until old now r kept none front left tail l (inr f) =
    cuts-all cursor until front left tail old.tables now.tables kept r.kept l f (all-revoked cursor until old now r none front left tail l f)

pub returns-in-None-clause-cuts : goal.returns-in-None-clause-cuts
returns-in-None-clause-cuts c =
    let l = c.requires.lies in (cut-so-far c.args.cursor.0 c.args.until.0 c.args.self.now c.loop-revoked.self c.loop-revoked.invariant c.requires.kept c.in-None.ensures.none l.0 l.1 l.2 l.3 l.4).0

pub returns-in-None-clause-first : goal.returns-in-None-clause-first
returns-in-None-clause-first c =
    let l = c.requires.lies in (cut-so-far c.args.cursor.0 c.args.until.0 c.args.self.now c.loop-revoked.self c.loop-revoked.invariant c.requires.kept c.in-None.ensures.none l.0 l.1 l.2 l.3 l.4).1
