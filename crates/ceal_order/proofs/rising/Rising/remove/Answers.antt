use Rattle.std.proofs.Common.{arith, ◌∙◌}
use Rattle.ceal_order.specs.Rising.{numbers}
use Rattle.ceal_order.proofs.Searching.{length-numbers}
use Rattle.ceal_order.proofs.Editing.{numbers-remove, count_of_member, place_within, remove_place, rising_without}
use Rattle.ceal_order.proofs.rising.Rising.remove.Goals as goal

pub remove-requires : goal.remove-requires
remove-requires c =
    let rising = rw (← c.self.view_is) at c.requires.rising in
    let there = rw (← c.self.view_is) at c.requires.there in
    let at = c.searched-at.ensures.count ∙ count_of_member _ _ _ rising there in
    omega (arith, at, place_within c.args.stamp.0 (numbers c.self.inside.stamps) there, length-numbers c.self.inside.stamps)

pub returns-clause-at : goal.returns-clause-at
returns-clause-at c =
    let rising = rw (← c.self.view_is) at c.requires.rising in
    let there = rw (← c.self.view_is) at c.requires.there in
    rw (← c.self.view_is) (c.searched-at.ensures.count ∙ count_of_member _ _ _ rising there)

pub returns-clause-within : goal.returns-clause-within
returns-clause-within c =
    let rising = rw (← c.self.view_is) at c.requires.rising in
    let there = rw (← c.self.view_is) at c.requires.there in
    let at = c.searched-at.ensures.count ∙ count_of_member _ _ _ rising there in
    rw (at, ← c.self.view_is) (place_within c.args.stamp.0 (numbers c.self.inside.stamps) there)

pub returns-clause-stamps : goal.returns-clause-stamps
returns-clause-stamps c =
    let rising = rw (← c.self.view_is) at c.requires.rising in
    let there = rw (← c.self.view_is) at c.requires.there in
    let at = c.searched-at.ensures.count ∙ count_of_member _ _ _ rising there in
    rw (c.remove.ensures, numbers-remove, at, ← c.self.view_is) (remove_place c.args.stamp.0 (numbers c.self.inside.stamps) there)

pub returns-clause-rising : goal.returns-clause-rising
returns-clause-rising c =
    let rising = rw (← c.self.view_is) at c.requires.rising in
    let there = rw (← c.self.view_is) at c.requires.there in
    let at = c.searched-at.ensures.count ∙ count_of_member _ _ _ rising there in
    rw (c.remove.ensures, numbers-remove, at, remove_place c.args.stamp.0 (numbers c.self.inside.stamps) there) (rising_without _ _ _ rising)
