use Rattle.ceal_order.specs.declared.stamp.Stamp.{Stamp}
use Rattle.ceal_trace.specs.Keeping.{timeline}
use Rattle.ceal_trace.proofs.Entries.{has-read}
use Rattle.ceal_trace.proofs.Keeps.{there_is, row_bound}
use Rattle.ceal_trace.proofs.Ends.{if_some_map, if_none_map, no_end, an_end, end_there, end_behind}
use Rattle.ceal_trace.proofs.trace.Trace.end_of.Goals as goal

pub end-requires : goal.end-requires
end-requires c =
    let reads = rw (← c.self.view_is) at c.requires.read in
    row_bound _ _ _ c.self.invariant.is_order c.self.invariant.has_nodes
    (there_is c.self.inside.order c.self.inside.table c.args.read.0 (has-read c.args.read.0 (timeline c.self.inside.order c.self.inside.table).nodes reads))

pub returns-clause-finished : goal.returns-clause-finished
returns-clause-finished c =
    let reads = rw (← c.self.view_is) at c.requires.read in
    if_some_map c.end.result (λ (s : Stamp) is. rw (← c.self.view_is) (an_end _ _ _ _ c.self.invariant reads s.0 is)) c.end.ensures.some

pub returns-clause-there : goal.returns-clause-there
returns-clause-there c =
    let reads = rw (← c.self.view_is) at c.requires.read in
    if_some_map c.end.result (λ (s : Stamp) is. rw (← c.self.view_is) (end_there _ _ _ _ c.self.invariant reads s.0 is)) c.end.ensures.some

pub returns-clause-behind : goal.returns-clause-behind
returns-clause-behind c =
    let reads = rw (← c.self.view_is) at c.requires.read in
    if_some_map c.end.result (λ (s : Stamp) is. rw (← c.self.view_is) (end_behind _ _ _ _ c.self.invariant reads s.0 is)) c.end.ensures.some

pub returns-clause-open : goal.returns-clause-open
returns-clause-open c =
    let reads = rw (← c.self.view_is) at c.requires.read in
    if_none_map c.end.result (λ none. rw (← c.self.view_is) (no_end _ _ _ _ c.self.invariant reads none)) c.end.ensures.none
