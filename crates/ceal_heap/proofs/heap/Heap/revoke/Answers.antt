use Rattle.std.proofs.Common.{◌≡◌, ◌∙◌, ap, sym, subst, ℕ}
use Rattle.ceal_base.specs.declared.word.BlockId.{BlockId}
use Rattle.ceal_base.specs.declared.word.BlockId.TheVariants.{Core}
use Rattle.ceal_heap.specs.Heap.{Contents, IsLive, KeepsBlocks, standing, revoked}
use Rattle.ceal_heap.specs.Table.{IsLiveAt}
use Rattle.ceal_heap.proofs.HeapLemmas.{slots_of, live_at, revoke_kept, revoke_here, revoke_others, revoke_count}
use Rattle.ceal_heap.proofs.heap.Heap.revoke.Goals as goal

pub revoke-requires : goal.revoke-requires
revoke-requires c =
    let v = c.self.inside in let heap : Contents = record { numbers = v.table.numbers; region = v.pieces } in
    let live : IsLive heap c.args.block = subst (λ (h : Contents). IsLive h c.args.block) (sym c.self.view_is) c.requires.live in
    subst (λ (n : ℕ). IsLiveAt v.table.numbers n) (sym c.number_of.ensures) (live_at heap c.args.block live).1

pub invariant_of-self : goal.invariant_of-self
invariant_of-self c =
    let v = c.self.inside in revoke_kept v.table.numbers c.revoke.new.self.numbers v.pieces c.number_of.result c.revoke.ensures c.self.invariant

pub returns-clause-revoked : goal.returns-clause-revoked
returns-clause-revoked c =
    let v = c.self.inside in let heap : Contents = record { numbers = v.table.numbers; region = v.pieces } in
    let after : Contents = record { numbers = c.revoke.new.self.numbers; region = v.pieces } in
    let live : IsLive heap c.args.block = subst (λ (h : Contents). IsLive h c.args.block) (sym c.self.view_is) c.requires.live in
    let core : Core c.number_of.result ≡ c.args.block = ap Core c.number_of.ensures ∙ sym (live_at heap c.args.block live).0 in
    subst (λ (h : Contents). standing after c.args.block ≡ revoked (standing h c.args.block)) c.self.view_is
    (subst (λ (b : BlockId). standing after b ≡ revoked (standing heap b)) core
    (revoke_here v.table.numbers c.revoke.new.self.numbers v.pieces c.number_of.result c.revoke.ensures))

pub returns-clause-others : goal.returns-clause-others
returns-clause-others c =
    let v = c.self.inside in let heap : Contents = record { numbers = v.table.numbers; region = v.pieces } in
    let after : Contents = record { numbers = c.revoke.new.self.numbers; region = v.pieces } in
    let live : IsLive heap c.args.block = subst (λ (h : Contents). IsLive h c.args.block) (sym c.self.view_is) c.requires.live in
    let core : Core c.number_of.result ≡ c.args.block = ap Core c.number_of.ensures ∙ sym (live_at heap c.args.block live).0 in
    subst (λ (h : Contents). KeepsBlocks c.args.block h after) c.self.view_is
    (subst (λ (b : BlockId). KeepsBlocks b heap after) core
    (revoke_others v.table.numbers c.revoke.new.self.numbers v.pieces c.number_of.result c.revoke.ensures))

pub returns-clause-count : goal.returns-clause-count
returns-clause-count c =
    let v = c.self.inside in rw (← c.self.view_is) (revoke_count v.table.numbers c.revoke.new.self.numbers v.pieces c.number_of.result c.revoke.ensures)

pub returns-clause-slots : goal.returns-clause-slots
returns-clause-slots c =
    let v = c.self.inside in
    slots_of (record { numbers = c.revoke.new.self.numbers; region = v.pieces })
    (revoke_kept v.table.numbers c.revoke.new.self.numbers v.pieces c.number_of.result c.revoke.ensures c.self.invariant)
