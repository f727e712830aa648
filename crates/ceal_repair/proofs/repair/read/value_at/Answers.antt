use Rattle.ceal_repair.proofs.repair.read.value_at.Goals as goal

pub returns : goal.returns
returns c =
    let seen = c.read_at.result in
    (seen.place, record { unit = seen.unit; var = seen.var; args = seen.args.now; is = c.read_at.ensures.read })
