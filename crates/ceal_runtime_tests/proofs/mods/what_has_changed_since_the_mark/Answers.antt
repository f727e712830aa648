use Rattle.ceal_runtime_tests.proofs.ToldTwos.{on-ok, told-based, told-none, told-same}
use Rattle.ceal_runtime_tests.proofs.mods.what_has_changed_since_the_mark.Goals as goal

pub changed-requires-clause-values : goal.changed-requires-clause-values
changed-requires-clause-values g c =
    let one = told-based c.expect-mods.result c.set_base.new.self _ _ (on-ok _ _ c.expect.ensures c.set_base.ensures.ok)
    (told-none c.expect-mods.result (rw c.expect-mods.ensures at c.new.ensures.cells)) in
    let two = told-same c.set_base.new.self c.mark.new.self c.mark.ensures.cells one in
    let three = told-based c.mark.new.self c.set_base-2.new.self _ _ (on-ok _ _ c.expect-3.ensures c.set_base-2.ensures.ok) two in
    told-based c.set_base-2.new.self c.set_base-3.new.self _ _ (on-ok _ _ c.expect-4.ensures c.set_base-3.ensures.ok) three

pub changed-requires-2-clause-values : goal.changed-requires-2-clause-values
changed-requires-2-clause-values g c =
    let one = told-based c.expect-mods.result c.set_base.new.self _ _ (on-ok _ _ c.expect.ensures c.set_base.ensures.ok)
    (told-none c.expect-mods.result (rw c.expect-mods.ensures at c.new.ensures.cells)) in
    let two = told-same c.set_base.new.self c.mark.new.self c.mark.ensures.cells one in
    let three = told-based c.mark.new.self c.set_base-2.new.self _ _ (on-ok _ _ c.expect-3.ensures c.set_base-2.ensures.ok) two in
    let four = told-based c.set_base-2.new.self c.set_base-3.new.self _ _ (on-ok _ _ c.expect-4.ensures c.set_base-3.ensures.ok) three in
    told-based c.set_base-3.new.self c.set_base-4.new.self _ _ (on-ok _ _ c.expect-6.ensures c.set_base-4.ensures.ok) four

pub mark-requires-2 : goal.mark-requires-2
mark-requires-2 g c =
    let one = told-based c.expect-mods.result c.set_base.new.self _ _ (on-ok _ _ c.expect.ensures c.set_base.ensures.ok)
    (told-none c.expect-mods.result (rw c.expect-mods.ensures at c.new.ensures.cells)) in
    let two = told-same c.set_base.new.self c.mark.new.self c.mark.ensures.cells one in
    let three = told-based c.mark.new.self c.set_base-2.new.self _ _ (on-ok _ _ c.expect-3.ensures c.set_base-2.ensures.ok) two in
    let four = told-based c.set_base-2.new.self c.set_base-3.new.self _ _ (on-ok _ _ c.expect-4.ensures c.set_base-3.ensures.ok) three in
    record { values = told-based c.set_base-3.new.self c.set_base-4.new.self _ _ (on-ok _ _ c.expect-6.ensures c.set_base-4.ensures.ok) four }

pub changed-requires-3-clause-values : goal.changed-requires-3-clause-values
changed-requires-3-clause-values g c =
    let one = told-based c.expect-mods.result c.set_base.new.self _ _ (on-ok _ _ c.expect.ensures c.set_base.ensures.ok)
    (told-none c.expect-mods.result (rw c.expect-mods.ensures at c.new.ensures.cells)) in
    let two = told-same c.set_base.new.self c.mark.new.self c.mark.ensures.cells one in
    let three = told-based c.mark.new.self c.set_base-2.new.self _ _ (on-ok _ _ c.expect-3.ensures c.set_base-2.ensures.ok) two in
    let four = told-based c.set_base-2.new.self c.set_base-3.new.self _ _ (on-ok _ _ c.expect-4.ensures c.set_base-3.ensures.ok) three in
    let five = told-based c.set_base-3.new.self c.set_base-4.new.self _ _ (on-ok _ _ c.expect-6.ensures c.set_base-4.ensures.ok) four in
    told-same c.set_base-4.new.self c.mark-2.new.self c.mark-2.ensures.cells five
