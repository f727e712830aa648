-- No end comes in where nodes are revoked.
use Rattle.std.proofs.Common.{◌≡◌, ℕ, inl, inr, Some, None, List, [], ◌∷◌, ◌++◌, refl, sym, subst}
use Rattle.std.proofs.lemmas.Bool.{cases_Bool}
use Rattle.ceal_repair.proofs.Nodes.NodeItems.{entries-joined}
use Rattle.ceal_repair.specs.Entries.{end_entry, entries, CutTo}
use Rattle.ceal_repair.specs.Moment.{Unfinished}
use Rattle.ceal_repair.specs.Frames.{Frame, Begun, Taken, Kept as FrameKept}
use Rattle.ceal_theory.specs.Groves.{Grove, Bare, Made, Put, Got, cut}
use Rattle.ceal_trace.specs.Nodes.{Entry, end_in, ends}

pub end-append : (r : ℕ) (xs ys : List Entry) → end_in r (xs ++ ys) ≡ None → (end_in r xs ≡ None) × (end_in r ys ≡ None)
end-append r [] ys h = (refl, h)
end-append r (x ∷ xs) ys h = elim (cases_Bool (ends r x.node)) [
  | inl e ↦ absurd (let bad : Some x.stamp ≡ None = rw e at h in cc)
  | inr e ↦ let k = end-append r xs ys (rw e at h) in (rw e k.0, k.1)
]

pub append-end : (r : ℕ) (xs ys : List Entry) → end_in r xs ≡ None → end_in r ys ≡ None → end_in r (xs ++ ys) ≡ None
append-end r [] ys h k = k
append-end r (x ∷ xs) ys h k = elim (cases_Bool (ends r x.node)) [
  | inl e ↦ absurd (let bad : Some x.stamp ≡ None = rw e at h in cc)
  | inr e ↦ rw e (append-end r xs ys (rw e at h) k)
]

cut-end : (r : ℕ) (g : Grove) → end_in r (entries g) ≡ None → end_in r (entries (cut g)) ≡ None
cut-end r Bare h = h
cut-end r (Made t b k n rest) h = h
cut-end r (Put t p v n rest) h = h
cut-end r (Got t p v u x args n inside e m rest) h =
    let k = end-append r (entries inside) (end_entry e t m ∷ entries rest) h in
    let l = end-append r (end_entry e t m ∷ []) (entries rest) k.1 in
    subst (λ es. end_in r es ≡ None) (sym (entries-joined inside rest)) (append-end r (entries inside) (entries rest) k.0 l.1)

pub cut-to-end : (r : ℕ) {s : ℕ} {g h : Grove} → CutTo s g h → end_in r (entries g) ≡ None → end_in r (entries h) ≡ None
cut-to-end r (CutTo.there f) e = e
cut-to-end r (CutTo.more {g = g} f c) e = cut-to-end r c (cut-end r g e)

pub unfinished-none : (fs : List Frame) (old new : List Entry) → ((r : ℕ) → end_in r old ≡ None → end_in r new ≡ None) → Unfinished fs old → Unfinished fs new
unfinished-none [] old new h u = tt
unfinished-none (Begun below read ∷ fs) old new h u = (h read.0 u.0, unfinished-none fs old new h u.1)
unfinished-none (Taken below limit ∷ fs) old new h u = unfinished-none fs old new h u
unfinished-none (FrameKept until ∷ fs) old new h u = unfinished-none fs old new h u
