use Rattle.std.proofs.Common.{◌≡◌, ◌<◌, ap, ap₂, sym, subst, ◌∙◌, ◌||◌, ◌&&◌, not, length}
use Rattle.ceal_flow.specs.Bits.{has_bit, members}
use Rattle.ceal_flow.specs.Sets.{is_in, is_that}
use Rattle.ceal_flow.proofs.BitFacts.{in-members, members-ascend, members-few, members-more, or-left}
use Rattle.ceal_flow.proofs.live_set.LiveSet.join.Goals as goal

pub returns-in_err-grown-clause-ascending : goal.returns-in_err-grown-clause-ascending
returns-in_err-grown-clause-ascending c = rw c.self.view_is at (members-ascend c.self.inside.chunks.items)

pub returns-in_err-grown-clause-few : goal.returns-in_err-grown-clause-few
returns-in_err-grown-clause-few c = rw c.self.view_is at (members-few c.self.inside.chunks.items)

pub returns-in_err-changed-clause-ascending : goal.returns-in_err-changed-clause-ascending
returns-in_err-changed-clause-ascending c = rw c.self.view_is at (members-ascend c.self.inside.chunks.items)

pub returns-in_err-changed-clause-few : goal.returns-in_err-changed-clause-few
returns-in_err-changed-clause-few c = rw c.self.view_is at (members-few c.self.inside.chunks.items)

pub returns-clause-ok : goal.returns-clause-ok
returns-clause-ok c = λ w.
    let old = c.self.inside.chunks.items in
    let other = c.other.inside.chunks.items in
    let new = c.add.new.chunks.items in
    let copied : c.in_ok-grown.grown.items ≡ old = c.in_ok-grown.ensures.equal ∙ c.as_slice.ensures.value in
    let old_is = ap (λ cs. has_bit cs w) copied ∙ sym (in-members old c.self.invariant w) ∙ ap (is_in w) c.self.view_is in
    let other_is = ap (λ cs. has_bit cs w) c.as_slice-2.ensures.value ∙ sym (in-members other c.other.invariant w) ∙ ap (is_in w) c.other.view_is in
    in-members new c.in_ok-changed.ensures.ordered w ∙ c.in_ok-changed.ensures.joined w
    ∙ ap₂ (λ a b. a || (b && not (is_that c.args.except w))) old_is other_is

pub returns-clause-more : goal.returns-clause-more
returns-clause-more c = λ e.
    let old = c.self.inside.chunks.items in
    let new = c.add.new.chunks.items in
    let copied : c.in_ok-grown.grown.items ≡ old = c.in_ok-grown.ensures.equal ∙ c.as_slice.ensures.value in
    let added = c.in_ok-changed.ensures.more e in
    let out = ap (λ cs. has_bit cs added.0) (sym copied) ∙ added.1 in
    subst (λ xs. length xs < length (members new)) c.self.view_is
    (members-more old new c.in_ok-changed.ensures.ordered
    (λ v h. c.in_ok-changed.ensures.joined v ∙ or-left (has_bit c.in_ok-grown.grown.items v) _ (ap (λ cs. has_bit cs v) copied ∙ h))
    (record { number = added.0; out = out; inside = added.2 }))

pub returns-clause-ascending : goal.returns-clause-ascending
returns-clause-ascending c = members-ascend c.add.new.chunks.items

pub returns-clause-few : goal.returns-clause-few
returns-clause-few c = members-few c.add.new.chunks.items
