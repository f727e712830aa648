use Rattle.ceal_mods.proofs.laws.follows_still.Goals as goal

pub returns-clause-law : goal.returns-clause-law
returns-clause-law c = λ mods old new follows keeps p. record {
  writes = c.rising_still.ensures.law _ old new (follows p).writes (keeps p).0;
  reads = c.rising_still.ensures.law _ old new (follows p).reads (keeps p).1;
}

pub returns-clause-inserted : goal.returns-clause-inserted
returns-clause-inserted c = λ s mods old new follows more p. record {
  writes = c.rising_still.ensures.inserted s _ old new (follows p).writes more;
  reads = c.rising_still.ensures.inserted s _ old new (follows p).reads more;
}

pub returns-clause-deleted : goal.returns-clause-deleted
returns-clause-deleted c = λ s mods old new follows more free p. record {
  writes = c.rising_still.ensures.deleted s _ old new (follows p).writes more (free p).0;
  reads = c.rising_still.ensures.deleted s _ old new (follows p).reads more (free p).1;
}
