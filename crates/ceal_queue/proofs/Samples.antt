-- Three stale reads that wait, and the earliest of them.
use Rattle.std.proofs.Common.{ℕ, List, [], ◌∷◌, Some, refl, sym, lit<, arith}
use Rattle.ceal_queue.proofs.QueueLemmas.{in_other}
use Rattle.ceal_queue.specs.Queue.{Waiting, Follows, IsBefore, IsEarliest, IsWithout}

-- time is told by an order of stamps, and not by their numbers
abbrev order : List ℕ
order = 0 ∷ 7 ∷ 3 ∷ 9 ∷ 4 ∷ []

abbrev waiting : Waiting
waiting = record { stamps = 7 ∷ 9 ∷ 4 ∷ []; spare = 1 }

they_rise : Follows order waiting
they_rise = (refl, (lit< tt, (lit< tt, tt)), (refl, (lit< tt, tt), (refl, tt, tt)))

the_earliest : IsEarliest order waiting.stamps 7
the_earliest = record { there = refl; first = λ t there. grind (arith) }

-- before the limit 3 the earliest is taken out, and then nothing is
before_the_limit : IsBefore order (Some (record { 0 = 3 })) 7
before_the_limit = lit< tt

not_before_it : IsBefore order (Some (record { 0 = 3 })) 9 → ⊥
not_before_it h = absurd (omega (arith, h))

taken_out : IsWithout 7 waiting.stamps (9 ∷ 4 ∷ [])
taken_out = record { gone = refl; others = λ t other. sym (in_other t 7 (9 ∷ 4 ∷ []) (λ e. other (sym e))) }
