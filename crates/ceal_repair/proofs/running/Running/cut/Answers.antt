use Rattle.std.proofs.Common.{ap, refl}
use Rattle.ceal_repair.proofs.Revocation.FirstNode.{has-first, plain-first, queued-from, end-some, alloc-live, cut-alloc-lies, cut-write-lies, cut-read-lies, alloc-has, write-has, read-has}
use Rattle.ceal_repair.proofs.TableCalls.FewLooks.{owed-same, due-cut, due-cut-write, due-cut-two}
use Rattle.ceal_repair.specs.Kept.{base_in}
use Rattle.ceal_repair.proofs.Runs.FewNumbers.{alloc-readable, next-revoked}
use Rattle.ceal_repair.proofs.running.Running.cut.Goals as goal

pub cut_of-requires-clause-here : goal.cut_of-requires-clause-here
cut_of-requires-clause-here c =
    let l = c.requires.lies in has-first c.args.cursor.0 c.args.node.0 l.0 l.1 l.2 c.args.self.now.tables c.requires.kept l.3 l.4

pub cut_of-requires-clause-plain : goal.cut_of-requires-clause-plain
cut_of-requires-clause-plain c =
    let l = c.requires.lies in plain-first c.args.cursor.0 c.args.node.0 l.0 l.1 l.2 c.args.self.now.tables c.requires.kept l.3 l.4

pub revoke-requires : goal.revoke-requires
revoke-requires c = record {
  live = alloc-live c.in-Alloc.block c.in-Alloc.ensures.0 c.args.node.0 c.args.self.now.heap c.args.self.now.tables.trace.nodes c.in-Alloc.ensures.1 c.requires.has.2.lives;
}

pub cut_write-requires-clause-first : goal.cut_write-requires-clause-first
cut_write-requires-clause-first c =
    let l = c.requires.lies in queued-from c.args.cursor.0 c.args.node.0 l.0 l.1 l.2 c.args.self.now.tables c.requires.kept l.3 l.4

pub cut_read-requires-clause-finished : goal.cut_read-requires-clause-finished
cut_read-requires-clause-finished c =
    let l = c.requires.lies in end-some c.args.cursor.0 c.args.node.0 l.0 l.1 l.2 c.args.self.now.tables c.requires.kept l.3 l.4 c.in-Read.ensures

pub cut_read-requires-clause-first : goal.cut_read-requires-clause-first
cut_read-requires-clause-first c =
    let l = c.requires.lies in queued-from c.args.cursor.0 c.args.node.0 l.0 l.1 l.2 c.args.self.now.tables c.requires.kept l.3 l.4

pub returns-in-Alloc-clause-lies : goal.returns-in-Alloc-clause-lies
returns-in-Alloc-clause-lies c = λ front left tail l f.
    cut-alloc-lies c.args.cursor.0 c.args.node.0 front left tail c.args.self.now.tables c.requires.kept l f c.cut_alloc.new.self c.in-Alloc.block c.in-Alloc.ensures.0 c.in-Alloc.ensures.1
    c.cut_alloc.ensures.nodes c.cut_alloc.ensures.queue

pub returns-in-Alloc-clause-has : goal.returns-in-Alloc-clause-has
returns-in-Alloc-clause-has c = λ code inputs h.
    alloc-has code inputs c.args.self.now.heap c.revoke.new.self c.args.self.now.tables c.cut_alloc.new.self c.args.node.0 c.in-Alloc.block c.in-Alloc.ensures.0
    c.requires.kept.step.whole.order.distinct c.in-Alloc.ensures.1 c.cut_alloc.ensures.nodes (λ p. ap (λ d. base_in d p) c.cut_alloc.ensures.mods) c.revoke.ensures.revoked c.revoke.ensures.others h

pub returns-in_ok-cut_write-in-Write-clause-lies : goal.returns-in_ok-cut_write-in-Write-clause-lies
returns-in_ok-cut_write-in-Write-clause-lies c = λ front left tail l f.
    let e = c.in_ok-cut_write-in-Write.ensures in
    cut-write-lies c.args.cursor.0 c.args.node.0 front left tail c.args.self.now.tables c.requires.kept l f c.cut_write.new.self c.in-Write.place c.in-Write.ensures.0 c.in-Write.ensures.1 e.nodes
    e.behind

pub returns-in_ok-cut_write-in-Write-clause-has : goal.returns-in_ok-cut_write-in-Write-clause-has
returns-in_ok-cut_write-in-Write-clause-has c = λ code inputs h.
    let e = c.in_ok-cut_write-in-Write.ensures in
    write-has code inputs c.args.self.now.heap c.args.self.now.tables c.cut_write.new.self c.args.node.0 c.in-Write.place c.in-Write.ensures.0
    c.requires.kept.step.whole.order.distinct c.in-Write.ensures.1 e.nodes e.bases h

pub returns-in-Read-clause-lies : goal.returns-in-Read-clause-lies
returns-in-Read-clause-lies c = λ front left tail l f.
    let e = c.cut_read.ensures in
    cut-read-lies c.args.cursor.0 c.args.node.0 front left tail c.args.self.now.tables c.requires.kept l f c.cut_read.new.self e.nodes.0 c.in-Read.ensures e.nodes.1 e.nodes.2 e.behind

pub returns-in-Read-clause-has : goal.returns-in-Read-clause-has
returns-in-Read-clause-has c = λ code inputs h.
    let e = c.cut_read.ensures in
    read-has code inputs c.args.self.now.heap c.args.self.now.tables c.cut_read.new.self c.args.node.0 e.nodes.0 c.requires.kept c.in-Read.ensures e.nodes.1 e.nodes.2 e.bases h

pub returns-in-Alloc-clause-looks : goal.returns-in-Alloc-clause-looks
returns-in-Alloc-clause-looks c =
    due-cut c.args.self.now.tables c.cut_alloc.new.self c.args.node.0 c.cut_alloc.ensures.nodes
    (owed-same c.args.self.now.tables c.cut_alloc.new.self c.cut_alloc.ensures.mods c.cut_alloc.ensures.queue)

pub returns-in_ok-cut_write-in-Write-clause-looks : goal.returns-in_ok-cut_write-in-Write-clause-looks
returns-in_ok-cut_write-in-Write-clause-looks c =
    let e = c.in_ok-cut_write-in-Write.ensures in
    due-cut-write c.args.self.now.tables c.cut_write.new.self c.args.node.0 c.in-Write.place c.in-Write.ensures.0 c.in-Write.ensures.1 e.nodes e.looks

pub returns-in-Read-clause-looks : goal.returns-in-Read-clause-looks
returns-in-Read-clause-looks c =
    let e = c.cut_read.ensures in
    due-cut-two c.args.self.now.tables c.cut_read.new.self c.args.node.0 e.nodes.0 e.nodes.2 e.looks

pub returns-in-Alloc-clause-differed : goal.returns-in-Alloc-clause-differed
returns-in-Alloc-clause-differed c = ap (λ m. m.differed) c.cut_alloc.ensures.mods

pub returns-in-Alloc-clause-blocks : goal.returns-in-Alloc-clause-blocks
returns-in-Alloc-clause-blocks c = record {
  blocks = alloc-readable c.in-Alloc.block c.args.self.now.heap c.revoke.new.self c.revoke.ensures.revoked c.revoke.ensures.others;
  numbers = next-revoked c.args.self.now.heap c.revoke.new.self c.in-Alloc.block c.revoke.ensures.revoked c.revoke.ensures.others;
}

pub returns-in_ok-cut_write-in-Write-clause-blocks : goal.returns-in_ok-cut_write-in-Write-clause-blocks
returns-in_ok-cut_write-in-Write-clause-blocks c = record { blocks = λ b. refl; numbers = refl }

pub returns-in-Read-clause-blocks : goal.returns-in-Read-clause-blocks
returns-in-Read-clause-blocks c = record { blocks = λ b. refl; numbers = refl }

pub returns-in-Alloc-clause-marks : goal.returns-in-Alloc-clause-marks
returns-in-Alloc-clause-marks c = ap (λ m. m.marked) c.cut_alloc.ensures.mods

pub returns-in-Alloc-clause-counts : goal.returns-in-Alloc-clause-counts
returns-in-Alloc-clause-counts c = c.cut_alloc.ensures.counts
