-- Lines one after another have replies in a situation that a session comes to.
use Rattle.std.proofs.Common.{[], ◌∷◌, ◌++◌, refl}
use Rattle.ceal_session.specs.Laws.{Replied, SomeReplyLaw, Led, SomeScriptLaw}
use Rattle.ceal_session.specs.Replies.{Leads}

pub some-script : SomeReplyLaw → SomeScriptLaw
unfolding Leads
some-script reply m [] st = record { out = []; end = m; leads = (refl, refl); stands = st }
some-script reply m (line ∷ lines) st =
    let a : Replied m line = reply m line st in
    let r : Led a.next lines = some-script reply a.next lines a.stands in
    record { out = a.text ++ r.out; end = r.end; leads = (a.text, a.next, r.out, a.replies, r.leads, refl); stands = r.stands }
