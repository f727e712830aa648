use Rattle.std.proofs.Common.{◌∙◌, ap}
use Rattle.ceal_mods.specs.Marks.{Marked, held_in}
use Rattle.ceal_mods.proofs.ChangedPlaces.{held-now, renewed-held}
use Rattle.ceal_mods.proofs.MarksLemmas.{whole-marked, whole-renewed}
use Rattle.ceal_mods.proofs.ToldCells.{told-all}
use Rattle.ceal_mods.proofs.mods.Mods.mark.Goals as goal

pub renew-requires-clause-values : goal.renew-requires-clause-values
renew-requires-clause-values g c =
    rw c.deref.ensures.value (told-all (g.W.Written.tells c.args.written.now) c.self.inside.cells.items c.self.invariant.apart (rw (← c.self.view_is) at c.requires.values))

pub first_marks-requires : goal.first_marks-requires
first_marks-requires g c =
    rw c.deref-in-None.ensures.value (told-all (g.W.Written.tells c.args.written.now) c.self.inside.cells.items c.self.invariant.apart (rw (← c.self.view_is) at c.requires.values))

pub invariant_of-self : goal.invariant_of-self
invariant_of-self g c =
    let v = c.self.inside in
    whole-renewed v.index v.cells.items v.marks c.self.invariant c.in-Some.marks c.renew.new.self c.renew.result c.in-Some.is (rw c.deref.ensures.value at c.renew.ensures.ok) c.renew.ensures.err

pub invariant_of-self-in-None : goal.invariant_of-self-in-None
invariant_of-self-in-None g c =
    let v = c.self.inside in
    whole-marked v.index v.cells.items v.marks c.self.invariant c.in_ok-first_marks-in-None.field-0 (rw c.deref-in-None.ensures.value at c.in_ok-first_marks-in-None.ensures)

pub returns-in-Some-clause-held : goal.returns-in-Some-clause-held
returns-in-Some-clause-held g c = renewed-held c.renew.result c.renew.new.self c.self.inside.cells.items (rw c.deref.ensures.value at c.renew.ensures.ok)

pub returns-in_ok-first_marks-in-None-clause-held : goal.returns-in_ok-first_marks-in-None-clause-held
returns-in_ok-first_marks-in-None-clause-held g c = λ p.
    ap (λ (m : Marked). held_in m.ends p) (rw c.deref-in-None.ensures.value at c.in_ok-first_marks-in-None.ensures) ∙ held-now c.self.inside.cells.items p
