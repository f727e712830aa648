use Rattle.ceal_c.specs.declared.status.Status.TheVariants.{Done}
use Rattle.ceal_c.proofs.ceal_resume.Goals as goal

-- there was no session, and now there is the one that continues
pub returns-in-Ok : goal.returns-in-Ok
returns-in-Ok c =
    rw (c.in_default.ensures.taken, c.put-in-Ok.ensures.put) (Done, c.number_of-in-Ok.ensures, (c.in-Ok.ensures.resumed, c.in-Ok.ensures.quiet))
