-- What a session is after its modifiables were marked, and which of them are told as changed.
use Rattle.std.proofs.Common.{◌≡◌, ◌≢◌, ◌≤◌, ℕ, pos, Bool, true, false, cond, inl, inr, Option, List, length, count_by, refl, sym, ap, ap₂, subst, ◌∙◌, arith}
use Rattle.std.specs.List.{filter}
use Rattle.std.specs.Prelude.{IsSome, IsPermutation, IsSorted}
use Rattle.std.proofs.lemmas.Bool.{cases_Bool}
use Rattle.std.proofs.lemmas.List.Sorted.{All-permutation, sum_by-IsPermutation}
use Rattle.ceal_base.specs.contracts.word.PlaceOrd.TheImpl.{ghosts as order}
use Rattle.ceal_base.specs.contracts.word.PlacePartialEq.TheImpl.{ghosts}
use Rattle.ceal_base.specs.declared.call.Call.{Call}
use Rattle.ceal_base.specs.declared.typed.Typed.{Typed}
use Rattle.ceal_base.specs.declared.word.BlockId.{BlockId}
use Rattle.ceal_base.specs.declared.word.BlockId.TheVariants.{Input, Core}
use Rattle.ceal_base.specs.declared.word.Place.{Place}
use Rattle.ceal_base.specs.declared.word.Word.{Word}
use Rattle.ceal_base.specs.declared.word.Word.TheVariants.{Num}
use Rattle.ceal_engine.specs.Engine.{EngineState, IsEngine}
use Rattle.ceal_engine.specs.Marks.{IsModifiable, held_at_end, held_at_mark, is_modifiable}
use Rattle.ceal_session.proofs.Engine.ProgramAndCode.{same-structs}
use Rattle.ceal_session.proofs.Memory.EngineTellsRun.{told-value}
use Rattle.ceal_session.proofs.Moves.PlacesOfInputs.{all-inputs, count-inputs}
use Rattle.ceal_session.proofs.Moves.StateAfterEdit.{bound-same, if-call, measured-same, past-same, run-same, was-same}
use Rattle.ceal_session.specs.Journal.{JournalState}
use Rattle.ceal_session.specs.Marks.{AreChanged, HasChanged, HoldsNumbers, IsMarked, is_input, is_of_input}
use Rattle.ceal_session.specs.Questions.{IsCellOf, IsReady}
use Rattle.ceal_session.specs.SessionState.{Held, IsSettledOn, SessionInvariant, held_of, settled_of, situation_of}
use Rattle.ceal_theory.specs.Pasts.{Past}

module _ (p : Typed) (names : List (List ℕ)) (e : EngineState) (j : JournalState) (pending : Bool) (h : SessionInvariant p names e j pending) where
  abbrev held : Held
  held = held_of p names e j pending

  -- the modifiables of inputs are those of the engine
  cell-there : (b : BlockId) (field : ℕ) → IsCellOf held.state (record { block = b; field = field }) → IsModifiable e (record { block = b; field = field })
  cell-there (Input n) field cell = rw (same-structs p e.code h.compiled.code) cell
  cell-there (Core n) field cell = absurd (grind (arith, cell))

  cell-back : (n field : ℕ) → IsModifiable e (record { block = Input n; field = field }) → IsCellOf held.state (record { block = Input n; field = field })
  cell-back n field there = rw (← same-structs p e.code h.compiled.code) there

  pub cell-modifiable : (q : Place) → IsCellOf held.state q → IsModifiable e q
  cell-modifiable q cell = cell-there q.block q.field cell

  pub holds-numbers : IsEngine e → IsReady held.state → HoldsNumbers held
  holds-numbers k ready = λ q cell. told-value p names e j pending h k ready q (held_at_end e q) cell refl

  module _ (marks : Option (List (Place × Word))) where
    abbrev e' : EngineState
    e' = record e { marked = marks }

    settled-marked : (xs : _) (c : Call) → IsSettledOn e xs c → IsSettledOn e' xs c
    settled-marked xs c r = record { run = run-same e e' refl refl refl refl refl refl xs c r.run; extended = r.extended }

    pub marked-holds : SessionInvariant p names e' j pending
    marked-holds = record {
      compiled = h.compiled;
      named = h.named;
      spelled = h.spelled;
      done = h.done;
      edited = h.edited;
      partial = h.partial;
      present = h.present;
      within = h.within;
      settled = λ i. if-call e e' refl refl refl refl refl refl (settled-marked (settled_of e j)) (h.settled i);
      was = λ i. was-same e e' refl refl refl refl refl refl (settled_of e j) (h.was i);
      measured = measured-same e e' refl refl refl refl refl refl (settled_of e j) j.measure h.measured;
    }

    pub marked-situation : situation_of p names e' j pending ≡ situation_of p names e j pending
    marked-situation =
        ap₂ (λ (q : Past) (b : ℕ). record { state = held.state; code = e.code; past = q; bound = b }) (past-same e e' refl refl refl refl refl refl refl)
        (bound-same e e' refl refl refl refl refl refl (settled_of e j) j.measure)

    pub is-marked : IsSome marks → ((q : Place) → IsModifiable e q → held_at_mark e' q ≡ held_at_end e q)
        → ((i field : ℕ) → length e.inputs ≤ i → held_at_mark e' (record { block = Input i; field = field }) ≡ Num (pos 0))
        → IsMarked held (held_of p names e' j pending)
    is-marked there marked later = record { there = there; held = λ q cell. marked q (cell-modifiable q cell); later = later }

  -- the places that the engine tells
  module _ (ts : List Place) (told : (q : Place) → IsModifiable e q → held_at_end e q ≢ held_at_mark e q → count_by (ghosts.eq q) ts ≡ 1)
      (only : (q : Place) → IsModifiable e q → held_at_end e q ≡ held_at_mark e q → count_by (ghosts.eq q) ts ≡ 0)
      (others : (q : Place) → is_modifiable e q ≡ false → count_by (ghosts.eq q) ts ≡ 0) where
    has-changed : (q : Place) → 1 ≤ count_by (ghosts.eq q) ts → is_of_input q ≡ true → HasChanged held q
    has-changed q there input = go q.block q.field refl
      where
        go : (b : BlockId) (field : ℕ) → q ≡ record { block = b; field = field } → HasChanged held q
        go (Input n) field i = elim (cases_Bool (is_modifiable e q)) [
          | inl one ↦ record {
            input = n;
            of_input = ap (λ (r : Place). r.block) i;
            modifiable = subst (IsCellOf held.state) (sym i) (cell-back n field (subst (IsModifiable e) i one));
            differs = λ same. let none = only q one same in omega (arith, none, there);
          }
          | inr other ↦ absurd (let none = others q other in omega (arith, none, there))
        ]
        go (Core n) field i = absurd (let no : is_input (Core n) ≡ true = subst (λ (r : Place). is_of_input r ≡ true) i input in grind (arith, no))

    pub are-changed : (fs : List Place) → IsPermutation (filter is_of_input ts) fs → IsSorted order.cmp fs → IsSome e.marked → AreChanged held fs
    are-changed fs moved rising marked = record {
      marked = marked;
      only = All-permutation (HasChanged held) (filter is_of_input ts) fs moved (all-inputs (HasChanged held) ts has-changed ts (λ q. omega arith));
      all = λ q c. sum_by-IsPermutation (λ (r : Place). cond (ghosts.eq q r) 1 0) (filter is_of_input ts) fs moved
          ∙ (count-inputs q ts (ap is_input c.of_input) ∙ told q (cell-modifiable q c.modifiable) c.differs);
      sorted = rising;
    }
