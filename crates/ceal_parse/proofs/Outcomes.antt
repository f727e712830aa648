-- From what a reading comes to, to what it means.
use Rattle.std.proofs.Common.{◌≡◌, ℕ, ◌≤◌, ◌<◌, ◌+◌, Option, Some, None, Result, Ok, Err, List, [], ◌∷◌, ◌∙◌, sym, ap, IfOk, length, drop, get_or, drop-cons, add-one, refl, arith, inl, inr, subst}
use Rattle.std.proofs.lemmas.Bool.Decides.{leb_tells}
use Rattle.std.proofs.lemmas.List.{drop_all}
use Rattle.ceal_base.specs.declared.fault.Fault.{Fault}
use Rattle.ceal_base.specs.declared.fault.FaultCode.TheVariants.{S5}
use Rattle.ceal_base.specs.declared.fault.FrontError.{FrontError}
use Rattle.ceal_base.specs.declared.fault.FrontError.TheVariants.{Memory, Fault as FaultError}
use Rattle.ceal_base.specs.declared.syntax.Entry.{Entry}
use Rattle.ceal_base.specs.declared.syntax.Tree.{Tree}
use Rattle.ceal_base.specs.Answers.{Gives, Fails, IfFault}
use Rattle.ceal_lex.specs.Tokens.{IsEnded}
use Rattle.ceal_lex.specs.declared.token.Token.{Token}
use Rattle.ceal_grammar.specs.declared.state.State.{State}
use Rattle.ceal_grammar.specs.declared.state.State.TheVariants.{Top, Struct, Head as InHead, In, Finished}
use Rattle.ceal_grammar.specs.Faults.{Accepts, IsFirstFault}
use Rattle.ceal_grammar.specs.Judged.{tree_or_fault, within_limits, next_state, tree_at_end, entries_of}
use Rattle.ceal_grammar.specs.Machine.{step, nesting_of, item_of, operators_of}
use Rattle.ceal_parse.specs.Reading.{Fits}
use Rattle.ceal_parse.proofs.Fitting.{step_fits}

module _ (ts : List Token) where
  pub found_from : (accepted : (tree : Tree) → tree_or_fault (Top []) ts ≡ Ok tree → Accepts ts tree) (r : Result Tree FrontError)
      → Gives r (tree_or_fault (Top []) ts) → IfOk r (λ tree. Accepts ts tree)
  found_from accepted (Ok tree) h = accepted tree h
  found_from accepted (Err e) h = tt

  pub all_from : (complete : (tree : Tree) → Accepts ts tree → tree_or_fault (Top []) ts ≡ Ok tree) (r : Result Tree FrontError)
      → Gives r (tree_or_fault (Top []) ts) → (tree : Tree) → Accepts ts tree → Gives r (Ok tree)
  all_from complete (Ok x) h tree a = sym (complete tree a) ∙ h
  all_from complete (Err Memory) h tree a = tt
  all_from complete (Err (FaultError f)) h tree a = sym (complete tree a) ∙ h

  pub fault_from : (faulty : (f : Fault) → IsEnded ts → tree_or_fault (Top []) ts ≡ Err f → IsFirstFault ts f) (r : Result Tree FrontError)
      → IsEnded ts → Gives r (tree_or_fault (Top []) ts) → IfFault r (λ fault. IsFirstFault ts fault)
  fault_from faulty (Ok x) e h = tt
  fault_from faulty (Err Memory) e h = tt
  fault_from faulty (Err (FaultError f)) e h = faulty f e h

  pub only_from : (first : (f : Fault) → IsFirstFault ts f → tree_or_fault (Top []) ts ≡ Err f) (r : Result Tree FrontError)
      → Gives r (tree_or_fault (Top []) ts) → (fault : Fault) → IsFirstFault ts fault → Gives r (Err fault)
  only_from first (Ok x) h f a = sym (first f a) ∙ h
  only_from first (Err Memory) h f a = tt
  only_from first (Err (FaultError g)) h f a = sym (first f a) ∙ h

abbrev ok : State → Result State Fault
ok s = Ok s

abbrev err : Fault → Result State Fault
err f = Err f

not_ok : (f : Fault) (s : State) → err f ≡ ok s → ⊥
not_ok f s h = absurd (cc)

-- one token of a reading
judged_on : (s : State) (t : Token) (ts : List Token) (next : State) → next_state s t (step s t) ≡ Ok next → tree_or_fault s (t ∷ ts) ≡ tree_or_fault next ts
unfolding tree_or_fault
judged_on s t ts next e = let J : Result State Fault → Result Tree Fault = λ r. elim r [ Ok z ↦ tree_or_fault z ts | Err f ↦ Err f ] in ap J e

judged_off : (s : State) (t : Token) (ts : List Token) (f : Fault) → next_state s t (step s t) ≡ Err f → tree_or_fault s (t ∷ ts) ≡ Err f
unfolding tree_or_fault
judged_off s t ts f e = let J : Result State Fault → Result Tree Fault = λ r. elim r [ Ok z ↦ tree_or_fault z ts | Err g ↦ Err g ] in ap J e

-- the loop over the tokens
module _ (s : State) (ts : List Token) (i : ℕ) (t : Token) (lt : i < length ts) (J : Result Tree Fault) (same : tree_or_fault s (drop i ts) ≡ J) where
  front : tree_or_fault s (get_or ts i t ∷ drop (i + 1) ts) ≡ J
  front = rw add-one (rw (drop-cons ts i t lt) at same)

  pub loop_fault : (e : FrontError) → Fails e (next_state s (get_or ts i t) (step s (get_or ts i t))) → Fails e J
  loop_fault Memory f = tt
  loop_fault (FaultError g) f = sym front ∙ judged_off s (get_or ts i t) (drop (i + 1) ts) g f

  pub loop_on : (next : State) → next_state s (get_or ts i t) (step s (get_or ts i t)) ≡ Ok next → tree_or_fault next (drop (i + 1) ts) ≡ J
  loop_on next h = sym (judged_on s (get_or ts i t) (drop (i + 1) ts) next h) ∙ front

-- A state that a reading reaches keeps the limits.
abbrev Kept : State → Type 0
Kept s = (nesting_of s ≤ 64) × (operators_of s ≤ 255) × Fits s

same_ok : (a b : State) → ok a ≡ ok b → a ≡ b
same_ok a b h = cc

tested_kept : (item : ℕ) (t : Token) (s next : State) → within_limits item t s ≡ Ok next → (item ≤ 255 → Fits s) → Kept next
tested_kept item t s next h fits = elim (leb_tells 65 (nesting_of s)) [
  | inl p ↦ absurd (not_ok _ next (rw p.0 at h))
  | inr p ↦ elim (leb_tells 256 item) [
    | inl q ↦ absurd (not_ok _ next (rw (p.0, q.0) at h))
    | inr q ↦ elim (leb_tells 256 (operators_of s)) [
      | inl r ↦ absurd (not_ok _ next (rw (p.0, q.0, r.0) at h))
      | inr r ↦ subst Kept (same_ok s next (rw (p.0, q.0, r.0) at h)) (omega (arith, p.1), omega (arith, r.1), fits (omega (arith, q.1)))
    ]
  ]
]

pub kept : (s : State) (t : Token) (next : State) → Fits s → next_state s t (step s t) ≡ Ok next → Kept next
kept s t next fits h = go (step s t) refl h
  where
    go : (o : Option State) → step s t ≡ o → next_state s t o ≡ Ok next → Kept next
    go None g e = absurd (not_ok _ next e)
    go (Some z) g e = tested_kept (item_of s t) t z next e (λ i. step_fits s t z g i fits)

pub at_end : (s : State) (ts : List Token) (i : ℕ) (J : Result Tree Fault) → length ts ≤ i → tree_or_fault s (drop i ts) ≡ J → J ≡ tree_at_end s
unfolding tree_or_fault
at_end s ts i J h e = sym (rw (drop_all i ts h) at e)

pub has_entries : (s : State) (es : List Entry) → entries_of s ≡ Some es → tree_at_end s ≡ Ok (record { entries = es })
has_entries (Finished fs) es h = cc
has_entries (Top fs) es h = absurd (cc)
has_entries (Struct fs p) es h = absurd (cc)
has_entries (InHead fs p) es h = absurd (cc)
has_entries (In i m) es h = absurd (cc)

pub has_none : (s : State) → entries_of s ≡ None → tree_at_end s ≡ Err (record { code = S5; span = record { from = 0; to = 0 } })
has_none (Finished fs) h = absurd (cc)
has_none (Top fs) h = refl
has_none (Struct fs p) h = refl
has_none (InHead fs p) h = refl
has_none (In i m) h = refl
