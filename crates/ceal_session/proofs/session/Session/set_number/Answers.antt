use Rattle.std.proofs.Common.{w64}
use Rattle.std.proofs.lemmas.Int.{to_z-of_z}
use Rattle.ceal_session.proofs.Replies.StandsAfter.{after-edit}
use Rattle.ceal_session.proofs.session.Session.set_number.Goals as goal

pub invariant_of-self : goal.invariant_of-self
invariant_of-self c =
    let o = c.set_number in
    let set = rw (to_z-of_z w64 c.args.number c.ranges.number) at o.ensures.set in
    after-edit c.kept_edit.ensures.law c.self.inside.state o.new.state c.self.invariant c.args.handle c.args.number o.result set o.ensures.trace o.ensures.err
