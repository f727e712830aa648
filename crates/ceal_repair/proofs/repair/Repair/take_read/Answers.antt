use Rattle.std.proofs.Common.{◌≡◌, true, Some, reverse, refl, sym, ap, subst, ◌∙◌}
use Rattle.ceal_base.specs.declared.word.Word.{Word}
use Rattle.ceal_code.specs.Stacks.{stack_in, aside_in, above_floor}
use Rattle.ceal_code.specs.declared.stack.Closure.{Closure}
use Rattle.ceal_order.specs.Stamps.{is_in}
use Rattle.ceal_order.specs.declared.stamp.Stamp.{Stamp}
use Rattle.ceal_repair.proofs.Reuse.ReadReuseInCode.{until-read, entered-view, passes-as, limit-is, same-value}
use Rattle.ceal_repair.proofs.Reuse.ReadTaken.{IsCut, IsRenewed, IsHonestHere, step-taken, cut-before, taken, is-there, comes-first, records-now, end-renewed, retakes, end-honest, enters}
use Rattle.ceal_repair.proofs.Nodes.NodeItems.{more}
use Rattle.ceal_repair.proofs.Reuse.AllocReuseInCode.{has-stepped, lies-code}
use Rattle.ceal_repair.proofs.Runs.NewRead.{resumed-as}
use Rattle.ceal_repair.proofs.Runs.RepairView.{running-here, runs-as, IsStepped, with_parts, taken-frames}
use Rattle.ceal_repair.specs.Entries.{stamp_of_number}
use Rattle.ceal_repair.specs.Kept.{contents_at}
use Rattle.ceal_repair.specs.Moment.{through}
use Rattle.ceal_repair.specs.Repairs.{code_of, inputs_of, running_of, stack_of, arguments_of, view}
use Rattle.ceal_repair.specs.Frames.{Taken, frames_in}
use Rattle.ceal_repair.specs.declared.repair.Repair.{Repair}
use Rattle.ceal_repair.specs.declared.tables.Tables.{Tables}
use Rattle.ceal_theory.specs.Repair.{resumed}
use Rattle.ceal_trace.proofs.Entries.{has-held, stamps-changed}
use Rattle.ceal_trace.specs.Nodes.{Timeline, is_read, node_at, stamps_in, value_set}
use Rattle.ceal_trace.specs.declared.node.Node.TheVariants.{Read}
use Rattle.std.proofs.Common.{arith}
use Rattle.ceal_repair.proofs.Runs.Paid.{step-pays, spends, pays-then, one-pays, stays, due-value, due-steps, due-same, none-left, none-put, found-stale, ends-more}
use Rattle.ceal_repair.proofs.TableCalls.FewLooks.{touched-still}
use Rattle.ceal_repair.specs.Looks.{Account, found, touched_ahead, ends_ahead}
use Rattle.ceal_repair.specs.Repairs.{account}
use Rattle.ceal_repair.specs.declared.frame.Frame.TheVariants.{Taken as CodeTaken}
use Rattle.ceal_repair.proofs.Runs.Paid.{ahead-more}
use Rattle.std.proofs.Common.{◌+◌}
use Rattle.ceal_repair.proofs.Runs.Nearness.{came-steps, came-cut, came-cut-to, came-same, in-first}
use Rattle.ceal_repair.specs.Lists.{nodes_after}
use Rattle.ceal_repair.proofs.repair.Repair.take_read.Goals as goal

pub step-requires-clause-here : goal.step-requires-clause-here
step-requires-clause-here c = running-here c.requires.acts.0 c.requires.acts.1.stack c.args.self.now c.requires.acts.1.now

-- the blocks of the nodes are in the heap still, since the step only counts
pub cut_until-requires-clause-has : goal.cut_until-requires-clause-has
cut_until-requires-clause-has c =
    let old : Repair = c.args.self.now in
    let new : Repair = c.step.new.self in
    let e = c.in_ok-step.ensures in
    let h : IsStepped old new = step-taken e.rest e.heap e.spent (record { nodes = e.nodes; mods = e.mods; queue = e.queue; kept = e.kept }) in
    let start = c.requires.acts.0 in
    let a = c.requires.acts.1 in
    (code_of old, inputs_of old, has-stepped old new h start a.stack a.now)

-- the read lies in what is left over, so what will be revoked is between the cursor and it
pub cut_until-requires-clause-lies : goal.cut_until-requires-clause-lies
cut_until-requires-clause-lies c =
    let old : Repair = c.args.self.now in
    let new : Repair = c.step.new.self in
    let e = c.in_ok-step.ensures in
    let h : IsStepped old new = step-taken e.rest e.heap e.spent (record { nodes = e.nodes; mods = e.mods; queue = e.queue; kept = e.kept }) in
    let start = c.requires.acts.0 in
    let a = c.requires.acts.1 in (
      through a.now.placed.done (more a.now.placed.last),
      a.now.left,
      a.now.tail,
      lies-code old new h start a.stack a.now,
      until-read old new h start a.stack a.now c.args.reading.place c.args.reading.unit c.args.reading.var (arguments_of c.args.self.now) c.args.found c.requires.found,
    )

-- the node that was found is a read, and what was revoked stood before it
pub look-requires-clause-here : goal.look-requires-clause-here
look-requires-clause-here c =
    let e = c.in_ok-step.ensures in
    let f = c.in_ok-cut_until.ensures in
    let h : IsStepped c.args.self.now c.step.new.self = step-taken e.rest e.heap e.spent (record { nodes = e.nodes; mods = e.mods; queue = e.queue; kept = e.kept }) in
    let reading : Closure = record { place = c.args.reading.place; unit = c.args.reading.unit; var = c.args.reading.var; args = arguments_of c.args.self.now } in
    let cut : IsCut c.args.self.now c.step.new.self reading c.args.found c.cut_until.new.self (above_floor c.in_ok-below.below (aside_in c.set_aside.new.self)) =
    cut-before h c.requires.found f.there f.bases f.blocks f.has f.kept c.in_ok-below.ensures.above in
    ap is_read
    (is-there c.args.self.now c.step.new.self reading c.args.found c.cut_until.new.self (above_floor c.in_ok-below.below (aside_in c.set_aside.new.self)) cut c.requires.acts.0 c.requires.acts.1)

-- no queued read is between the cursor and it, since those were revoked
pub look-requires-clause-first : goal.look-requires-clause-first
look-requires-clause-first c =
    let e = c.in_ok-step.ensures in
    let f = c.in_ok-cut_until.ensures in
    let h : IsStepped c.args.self.now c.step.new.self = step-taken e.rest e.heap e.spent (record { nodes = e.nodes; mods = e.mods; queue = e.queue; kept = e.kept }) in
    let reading : Closure = record { place = c.args.reading.place; unit = c.args.reading.unit; var = c.args.reading.var; args = arguments_of c.args.self.now } in
    let cut : IsCut c.args.self.now c.step.new.self reading c.args.found c.cut_until.new.self (above_floor c.in_ok-below.below (aside_in c.set_aside.new.self)) =
    cut-before h c.requires.found f.there f.bases f.blocks f.has f.kept c.in_ok-below.ensures.above in
    comes-first c.args.self.now c.step.new.self reading c.args.found c.cut_until.new.self (above_floor c.in_ok-below.below (aside_in c.set_aside.new.self)) cut c.requires.acts.0 c.requires.acts.1

-- looking at the read changed its value at most, so its node is still there
pub set_steps-requires-clause-here : goal.set_steps-requires-clause-here
set_steps-requires-clause-here c =
    let e = c.in_ok-step.ensures in
    let f = c.in_ok-cut_until.ensures in
    let h : IsStepped c.args.self.now c.step.new.self = step-taken e.rest e.heap e.spent (record { nodes = e.nodes; mods = e.mods; queue = e.queue; kept = e.kept }) in
    let reading : Closure = record { place = c.args.reading.place; unit = c.args.reading.unit; var = c.args.reading.var; args = arguments_of c.args.self.now } in
    let cut : IsCut c.args.self.now c.step.new.self reading c.args.found c.cut_until.new.self (above_floor c.in_ok-below.below (aside_in c.set_aside.new.self)) =
    cut-before h c.requires.found f.there f.bases f.blocks f.has f.kept c.in_ok-below.ensures.above in
    let before : Tables = c.cut_until.new.self.tables in
    let seen = c.look.ensures.nodes c.if-look.true in
    subst (λ ss. is_in c.args.found.0 ss ≡ true) (sym (ap stamps_in seen.3 ∙ stamps-changed c.args.found.0 (value_set (contents_at c.args.found.0 before seen.0)) (λ e. refl) before.trace.nodes))
    (has-held c.args.found.0 (Read reading.place _ reading.unit reading.var reading.args) before.trace.nodes
    (is-there c.args.self.now c.step.new.self reading c.args.found c.cut_until.new.self (above_floor c.in_ok-below.below (aside_in c.set_aside.new.self)) cut c.requires.acts.0 c.requires.acts.1))

-- the node is still a read, with the value of its moment
pub value_at-value-requires : goal.value_at-value-requires
value_at-value-requires c =
    let e = c.in_ok-step.ensures in
    let f = c.in_ok-cut_until.ensures in
    let h : IsStepped c.args.self.now c.step.new.self = step-taken e.rest e.heap e.spent (record { nodes = e.nodes; mods = e.mods; queue = e.queue; kept = e.kept }) in
    let reading : Closure = record { place = c.args.reading.place; unit = c.args.reading.unit; var = c.args.reading.var; args = arguments_of c.args.self.now } in
    let cut : IsCut c.args.self.now c.step.new.self reading c.args.found c.cut_until.new.self (above_floor c.in_ok-below.below (aside_in c.set_aside.new.self)) =
    cut-before h c.requires.found f.there f.bases f.blocks f.has f.kept c.in_ok-below.ensures.above in
    let k = c.look.ensures in
    let g = c.set_steps.ensures in
    let t : Tables = c.set_steps.new.self in
    let renewed : IsRenewed c.args.found.0 c.cut_until.new.self.tables c.look.new.self t =
    record { stale = k.stale c.if-look.true; value = k.nodes c.if-look.true; cells = k.cells; late = k.behind; nodes = g.nodes; mods = g.mods; queue = g.queue; kept = g.kept } in
    record {
      read = ap is_read (records-now c.args.self.now c.step.new.self reading c.args.found c.cut_until.new.self
          (above_floor c.in_ok-below.below (aside_in c.set_aside.new.self)) cut c.requires.acts.0 c.requires.acts.1 c.look.new.self t renewed);
    }

-- the read was stale: its unit runs with the value of its moment, and what is inside the read is left over
pub returns-in_ok-resume-clause-runs : goal.returns-in_ok-resume-clause-runs
returns-in_ok-resume-clause-runs c = λ start a.
    let e = c.in_ok-step.ensures in
    let f = c.in_ok-cut_until.ensures in
    let h : IsStepped c.args.self.now c.step.new.self = step-taken e.rest e.heap e.spent (record { nodes = e.nodes; mods = e.mods; queue = e.queue; kept = e.kept }) in
    let reading : Closure = record { place = c.args.reading.place; unit = c.args.reading.unit; var = c.args.reading.var; args = arguments_of c.args.self.now } in
    let cut : IsCut c.args.self.now c.step.new.self reading c.args.found c.cut_until.new.self (above_floor c.in_ok-below.below (aside_in c.set_aside.new.self)) =
    cut-before h c.requires.found f.there f.bases f.blocks f.has f.kept c.in_ok-below.ensures.above in
    let k = c.look.ensures in
    let g = c.set_steps.ensures in
    let t : Tables = c.set_steps.new.self in
    let renewed : IsRenewed c.args.found.0 c.cut_until.new.self.tables c.look.new.self t =
    record { stale = k.stale c.if-look.true; value = k.nodes c.if-look.true; cells = k.cells; late = k.behind; nodes = g.nodes; mods = g.mods; queue = g.queue; kept = g.kept } in
    let old : Repair = c.args.self.now in
    let gone : Repair = c.go_inside.new.self in
    let i = c.in_ok-go_inside.ensures in
    let m = taken c.args.self.now c.step.new.self reading c.args.found c.cut_until.new.self (above_floor c.in_ok-below.below (aside_in c.set_aside.new.self)) cut start a in
    let word : Word = contents_at c.args.found.0 c.cut_until.new.self.tables reading.place in
    let read : Word = c.value_at-value.result in
    let is-word : read ≡ word = same-value (node_at c.args.found.0 t.trace.nodes) reading.place c.value_at-value.ensures.0 word read reading.unit reading.var reading.args
    (records-now c.args.self.now c.step.new.self reading c.args.found c.cut_until.new.self
    (above_floor c.in_ok-below.below (aside_in c.set_aside.new.self)) cut start a c.look.new.self t renewed) c.value_at-value.ensures.1 in
    let until : Stamp = c.in-Some.limit in
    let limit : old.limit ≡ Some until = sym (ap (λ (r : Repair). r.limit) h.rest) ∙ c.in-Some.is in
    let ends : gone.limit ≡ Some (stamp_of_number m.end) = limit-is gone.limit m.end (i.limit ∙ end-renewed c.args.self.now c.step.new.self reading c.args.found c.cut_until.new.self
    (above_floor c.in_ok-below.below (aside_in c.set_aside.new.self)) cut start a c.look.new.self t renewed) in
    let args-kept : c.as_slice-args.result.now ≡ arguments_of old = c.as_slice-args.ensures.value ∙ (ap arguments_of i.rest ∙ ap arguments_of h.rest) in
    let code-kept : code_of gone ≡ code_of old = ap code_of i.rest ∙ ap code_of h.rest in
    runs-as (code_of old) (inputs_of old) start (resumed (code_of old) reading.unit reading.var reading.args word) _
    (with_parts gone (running_of gone) c.resume.new.self gone.frames.now)
    (retakes c.args.self.now c.step.new.self reading c.args.found c.cut_until.new.self
    (above_floor c.in_ok-below.below (aside_in c.set_aside.new.self)) cut start a c.look.new.self t renewed until limit)
    code-kept (ap inputs_of i.rest ∙ ap inputs_of h.rest)
    (resumed-as (code_of gone) (code_of old) code-kept reading.unit reading.var c.as_slice-args.result.now read (stack_in c.resume.new.self) (stack_in (stack_of gone))
    (ap (λ (r : Repair). stack_in r.stack.now) i.rest ∙ c.in_ok-below.ensures.empty) c.in_ok-resume.ensures.resumed
    ∙ (ap (λ ws. resumed (code_of old) reading.unit reading.var ws read) args-kept
    ∙ ap (λ (w : Word). resumed (code_of old) reading.unit reading.var reading.args w) is-word))
    (ap (λ (r : Repair). record (view r) { frames = frames_in (aside_in c.resume.new.self) (reverse r.frames.now.items) }) i.rest
    ∙ entered-view old c.step.new.self h t c.cut_until.new.self.heap c.cut_until.new.self.spent c.args.found.0 gone.limit (Some (stamp_of_number m.end))
    (Taken (above_floor c.in_ok-below.below (aside_in c.set_aside.new.self)) until) _ f.spent ends
    (taken-frames (aside_in c.step.new.self.stack.now) (aside_in c.set_aside.new.self) (aside_in c.resume.new.self) c.in_ok-below.below until c.step.new.self.frames.now.items gone.frames.now.items
    (c.in_ok-resume.ensures.aside ∙ ap (λ (r : Repair). aside_in r.stack.now) i.rest) c.in_ok-below.ensures.under i.frames))

-- nothing has changed since the read was found, so it is one still
pub go_inside-requires-else-look : goal.go_inside-requires-else-look
go_inside-requires-else-look c =
    let e = c.in_ok-step.ensures in
    let f = c.in_ok-cut_until.ensures in
    let h : IsStepped c.args.self.now c.step.new.self = step-taken e.rest e.heap e.spent (record { nodes = e.nodes; mods = e.mods; queue = e.queue; kept = e.kept }) in
    let reading : Closure = record { place = c.args.reading.place; unit = c.args.reading.unit; var = c.args.reading.var; args = arguments_of c.args.self.now } in
    let cut : IsCut c.args.self.now c.step.new.self reading c.args.found c.cut_until.new.self (above_floor c.in_ok-below.below (aside_in c.set_aside.new.self)) =
    cut-before h c.requires.found f.there f.bases f.blocks f.has f.kept c.in_ok-below.ensures.above in
    record {
      read = subst (λ (l : Timeline). is_read (node_at c.args.found.0 l.nodes) ≡ true) (sym (c.look.ensures.same c.if-look.false))
          (ap is_read (is-there c.args.self.now c.step.new.self reading c.args.found c.cut_until.new.self
          (above_floor c.in_ok-below.below (aside_in c.set_aside.new.self)) cut c.requires.acts.0 c.requires.acts.1));
    }

-- the read is honest: the cursor passes what is inside it, up to its end
pub returns-in_ok-go_inside-2-clause-runs : goal.returns-in_ok-go_inside-2-clause-runs
returns-in_ok-go_inside-2-clause-runs c = λ start a.
    let e = c.in_ok-step.ensures in
    let f = c.in_ok-cut_until.ensures in
    let h : IsStepped c.args.self.now c.step.new.self = step-taken e.rest e.heap e.spent (record { nodes = e.nodes; mods = e.mods; queue = e.queue; kept = e.kept }) in
    let reading : Closure = record { place = c.args.reading.place; unit = c.args.reading.unit; var = c.args.reading.var; args = arguments_of c.args.self.now } in
    let cut : IsCut c.args.self.now c.step.new.self reading c.args.found c.cut_until.new.self (above_floor c.in_ok-below.below (aside_in c.set_aside.new.self)) =
    cut-before h c.requires.found f.there f.bases f.blocks f.has f.kept c.in_ok-below.ensures.above in
    let old : Repair = c.args.self.now in
    let gone : Repair = c.go_inside-else-look.new.self in
    let k = c.look.ensures in
    let i = c.in_ok-go_inside-2.ensures in
    let honest : IsHonestHere c.args.found.0 c.cut_until.new.self.tables c.look.new.self =
    record { honest = k.honest c.if-look.false; same = k.same c.if-look.false; cells = k.cells; late = k.behind; kept = k.kept } in
    let m = taken c.args.self.now c.step.new.self reading c.args.found c.cut_until.new.self (above_floor c.in_ok-below.below (aside_in c.set_aside.new.self)) cut start a in
    let until : Stamp = c.in-Some.limit in
    let limit : old.limit ≡ Some until = sym (ap (λ (r : Repair). r.limit) h.rest) ∙ c.in-Some.is in
    let ends : gone.limit ≡ Some (stamp_of_number m.end) = limit-is gone.limit m.end (i.limit ∙ end-honest c.args.self.now c.step.new.self reading c.args.found c.cut_until.new.self
    (above_floor c.in_ok-below.below (aside_in c.set_aside.new.self)) cut start a c.look.new.self honest) in (
      stamp_of_number m.end,
      passes-as (code_of old) (inputs_of old) start (stamp_of_number m.end) _ gone (enters c.args.self.now c.step.new.self reading c.args.found c.cut_until.new.self
          (above_floor c.in_ok-below.below (aside_in c.set_aside.new.self)) cut start a c.look.new.self honest until limit)
          (ap code_of i.rest ∙ ap code_of h.rest) (ap inputs_of i.rest ∙ ap inputs_of h.rest)
          (ap view i.rest ∙ entered-view old c.step.new.self h c.look.new.self c.cut_until.new.self.heap c.cut_until.new.self.spent c.args.found.0 gone.limit (Some (stamp_of_number m.end))
          (Taken (above_floor c.in_ok-below.below (aside_in c.set_aside.new.self)) until) _ f.spent ends
          (taken-frames (aside_in c.step.new.self.stack.now) (aside_in c.set_aside.new.self)
          (aside_in c.set_aside.new.self) c.in_ok-below.below until c.step.new.self.frames.now.items gone.frames.now.items
          refl c.in_ok-below.ensures.under i.frames)),
    )

-- a read was looked at, which differed, and each other act is paid by what it revoked
pub returns-in_ok-resume-clause-pays : goal.returns-in_ok-resume-clause-pays
returns-in_ok-resume-clause-pays c =
    let a : Account = account c.args.self.now in
    let e = c.in_ok-step.ensures in
    let b : Account = record {
      tables = c.step.new.self.running.now.tables;
      cursor = c.step.new.self.cursor.0;
      spent = c.step.new.self.running.now.spent;
      ahead = a.ahead + 4;
      ends = a.ends + 2;
    } in
    let s = e.touched in
    let stepped = step-pays a b _ e.nodes e.mods e.queue e.spent s refl refl (ap (λ (r : Repair). r.cursor.0) e.rest) e.counts in
    let hh = ap (λ (r : Repair). touched_ahead r.frames.now.items) e.rest in
    let ii = ap (λ (r : Repair). ends_ahead r.frames.now.items) e.rest in
    let f = c.in_ok-cut_until.ensures in
    let i = c.in_ok-go_inside.ensures in
    let p = ap touched_ahead i.frames ∙ ahead-more c.step.new.self.frames.now.items (CodeTaken c.in_ok-below.below c.in-Some.limit) in
    let q = ap ends_ahead i.frames ∙ ends-more c.step.new.self.frames.now.items (CodeTaken c.in_ok-below.below c.in-Some.limit) in
    let t : Account = record {
      tables = c.cut_until.new.self.tables;
      cursor = b.cursor;
      spent = c.cut_until.new.self.spent;
      ahead = touched_ahead c.go_inside.new.self.frames.now.items;
      ends = ends_ahead c.go_inside.new.self.frames.now.items;
    } in
    let u : Account = found c.args.found.0 (record t { tables = c.look.new.self }) in
    let g = c.set_steps.ensures in
    let w : Account = record t { tables = c.set_steps.new.self; cursor = c.args.found.0 } in
    let n = c.look.ensures.nodes c.if-look.true in
    let x = f.touched in
    let y = c.look.ensures.touched in
    let z = g.touched in
    let after = in-first c.args.found.0 (nodes_after b.cursor t.tables.trace.nodes) f.first in
    let first = pays-then 0 a t u (spends 5 0 a b t stepped (let l = f.looks in omega (arith, l)) (omega (arith, x, hh, p)) f.spent f.differed f.counts (omega (arith, ii, q))
    (none-put b t (λ o n m r. came-cut o n m b.cursor b.tables.trace.nodes t.tables.trace.nodes f.cuts.front (f.cuts.back o) r)))
    (one-pays t u (due-value t.tables c.look.new.self _ _ 1 n.3 c.look.ensures.looks) (omega (arith, y)) refl (c.look.ensures.differs c.if-look.true) c.look.ensures.counts (omega arith)
    (found-stale t c.look.new.self c.args.found.0 u.ahead u.ends f.kept (c.look.ensures.stale c.if-look.true) n.0 n.1 n.2 n.3 after)) in
    rw (ap running_of i.rest, ap (λ (r : Repair). r.cursor) i.rest)
    (pays-then 0 a u w first (stays u w (due-steps u.tables c.set_steps.new.self _ _ g.nodes g.mods g.queue) (omega (arith, z)) refl (ap (λ m. m.differed) g.mods) g.counts (omega arith)
    (λ o n m r. came-steps o n m c.args.found.0 0 c.look.new.self.trace.nodes c.set_steps.new.self.trace.nodes g.nodes r)))

-- a read was looked at, which did not differ, and each other act is paid by what it revoked
pub returns-in_ok-go_inside-2-clause-pays : goal.returns-in_ok-go_inside-2-clause-pays
returns-in_ok-go_inside-2-clause-pays c =
    let a : Account = account c.args.self.now in
    let e = c.in_ok-step.ensures in
    let b : Account = record {
      tables = c.step.new.self.running.now.tables;
      cursor = c.step.new.self.cursor.0;
      spent = c.step.new.self.running.now.spent;
      ahead = a.ahead + 4;
      ends = a.ends + 2;
    } in
    let s = e.touched in
    let stepped = step-pays a b _ e.nodes e.mods e.queue e.spent s refl refl (ap (λ (r : Repair). r.cursor.0) e.rest) e.counts in
    let hh = ap (λ (r : Repair). touched_ahead r.frames.now.items) e.rest in
    let ii = ap (λ (r : Repair). ends_ahead r.frames.now.items) e.rest in
    let f = c.in_ok-cut_until.ensures in
    let i = c.in_ok-go_inside-2.ensures in
    let p = ap touched_ahead i.frames ∙ ahead-more c.step.new.self.frames.now.items (CodeTaken c.in_ok-below.below c.in-Some.limit) in
    let q = ap ends_ahead i.frames ∙ ends-more c.step.new.self.frames.now.items (CodeTaken c.in_ok-below.below c.in-Some.limit) in
    let t : Account = record {
      tables = c.cut_until.new.self.tables;
      cursor = c.args.found.0;
      spent = c.cut_until.new.self.spent;
      ahead = touched_ahead c.go_inside-else-look.new.self.frames.now.items;
      ends = ends_ahead c.go_inside-else-look.new.self.frames.now.items;
    } in
    let u : Account = record t { tables = c.look.new.self } in
    let same = c.look.ensures.same c.if-look.false in
    let x = f.touched in
    let y = touched-still t.tables c.look.new.self same in
    rw (ap running_of i.rest, ap (λ (r : Repair). r.cursor) i.rest)
    (pays-then 0 a t u (spends 5 0 a b t stepped (let l = f.looks in omega (arith, l)) (omega (arith, x, hh, p)) f.spent f.differed f.counts (omega (arith, ii, q))
    (none-put b t (λ o n m r. came-cut-to o n m b.cursor c.args.found.0 b.tables.trace.nodes t.tables.trace.nodes f.cuts f.first f.kept.step.whole.order.distinct r)))
    (stays t u (due-same t.tables c.look.new.self same (c.look.ensures.idle c.if-look.false)) (omega (arith, y)) refl (c.look.ensures.none_differs c.if-look.false)
    c.look.ensures.counts (omega arith) (λ o n m r. came-same o n m c.args.found.0 t.tables.trace c.look.new.self.trace same r)))

-- without a limit no read is left over
pub returns-in_ok-resume-clause-anew : goal.returns-in_ok-resume-clause-anew
returns-in_ok-resume-clause-anew c = λ none. none-left c.args.self.now _ c.args.found.0 none c.requires.found

pub returns-in_ok-go_inside-2-clause-anew : goal.returns-in_ok-go_inside-2-clause-anew
returns-in_ok-go_inside-2-clause-anew c = λ none. none-left c.args.self.now _ c.args.found.0 none c.requires.found
