use Rattle.std.proofs.Common.{◌≡◌, ◌<◌, ◌≤◌, ◌^◌, ◌||◌, ℕ, Some, [], length, slice_get, slice_set, refl, ap, ap₂, ◌∙◌, arith}
use Rattle.std.proofs.lemmas.Option.{slice_get_read}
use Rattle.ceal_flow.specs.Sets.{is_in, set_at}
use Rattle.ceal_live.specs.Rounds.{comes}
use Rattle.ceal_live.proofs.RoundFacts.{set-twice, put-underway, put-same, put-closed, put-more}
use Rattle.ceal_live.proofs.round.update.Goals as goal

within : (c : goal.After-put_set) → c.args.at < length c.args.sets.now.items
within c = omega (arith, c.requires.within, c.requires.underway.each)

look : (c : goal.After-put_set) → slice_get c.args.blocks.now c.args.at ≡ Some c.index-blocks-at.result
look c = slice_get_read c.args.blocks.now (length c.args.blocks.now) c.args.at c.index-blocks-at.result refl c.requires.within c.index-blocks-at.is

new_is : (c : goal.After-put_set) → c.put_set.new.sets.items ≡ slice_set c.args.sets.now.items c.args.at c.join_jumps.new.set
new_is c =
    c.put_set.ensures ∙ ap (λ ss. slice_set ss c.args.at c.join_jumps.new.set) c.take_set-set.ensures.left
    ∙ set-twice c.args.sets.now.items c.args.at [] c.join_jumps.new.set

joined : (c : goal.After-put_set) → (w : ℕ)
    → is_in w c.join_jumps.new.set ≡ (is_in w (set_at c.args.sets.now.items c.args.at) || comes (slice_set c.args.sets.now.items c.args.at []) c.index-blocks-at.result w)
joined c = λ w.
    c.in_ok-changed.ensures.ok w
    ∙ ap₂ (λ s ss. is_in w s || comes ss c.index-blocks-at.result w) c.take_set-set.ensures.set (c.as_slice.ensures.value ∙ c.take_set-set.ensures.left)

few : (c : goal.After-put_set) → length c.join_jumps.new.set ≤ 2 ^ 32
few c = c.in_ok-changed.ensures.few (rw c.take_set-set.ensures.set (c.requires.underway.few c.args.at))

-- the set gets variables that are live after the block and not assigned in it, so they are live at it
pub returns-clause-underway : goal.returns-clause-underway
returns-clause-underway c =
    let ascending = c.in_ok-changed.ensures.ascending (rw c.take_set-set.ensures.set (c.requires.underway.ascending c.args.at)) in
    rw (new_is c) (put-underway c.args.blocks.now c.args.sets.now.items c.args.at c.index-blocks-at.result c.join_jumps.new.set c.requires.underway (look c) (within c) (joined c)
    ascending (few c))

-- where nothing was added the sets are as they were
pub returns-clause-same : goal.returns-clause-same
returns-clause-same c = λ e.
    new_is c ∙ put-same c.args.blocks.now c.args.sets.now.items c.args.at c.index-blocks-at.result c.join_jumps.new.set c.requires.underway (look c) (within c) (joined c)
    (c.in_ok-changed.ensures.same e ∙ c.take_set-set.ensures.set)

-- where nothing was added the set has all that its block asks for
pub returns-clause-closed : goal.returns-clause-closed
returns-clause-closed c = λ e.
    rw (new_is c) (put-closed c.args.blocks.now c.args.sets.now.items c.args.at c.index-blocks-at.result c.join_jumps.new.set c.requires.underway (look c) (within c) (joined c)
    (c.in_ok-changed.ensures.same e ∙ c.take_set-set.ensures.set))

-- where something was added the sets have grown
pub returns-clause-more : goal.returns-clause-more
returns-clause-more c = λ e.
    let more = rw c.take_set-set.ensures.set at (c.in_ok-changed.ensures.more e) in
    rw (new_is c) (put-more c.args.blocks.now c.args.sets.now.items c.args.at c.index-blocks-at.result c.join_jumps.new.set c.requires.underway (look c) (within c) (joined c)
    more (few c))
