-- The machine of repair over the flat list of old items.
use Rattle.std.proofs.Common.{◌≡◌, ℕ, suc, Bool, true, false, Option, Some, None, List, [], ◌∷◌, ◌++◌, append_assoc, append-nil, refl, sym, ap, ◌∙◌, subst}
use Rattle.ceal_base.specs.Operators.{same_word}
use Rattle.ceal_base.specs.Trace.{Trace, Nothing, Stepped, Allocated, Wrote, WasRead, flat}
use Rattle.ceal_base.specs.declared.forest.Item.{Item}
use Rattle.ceal_base.specs.declared.forest.Item.TheVariants.{Step, Alloc, Write, Read, End}
use Rattle.ceal_base.specs.declared.forest.Key.{Key}
use Rattle.ceal_base.specs.declared.forest.UnitId.{UnitId}
use Rattle.ceal_base.specs.declared.word.BlockId.TheVariants.{Core}
use Rattle.ceal_base.specs.declared.word.Place.{Place}
use Rattle.ceal_base.specs.declared.word.Word.{Word}
use Rattle.ceal_code.proofs.Words.SameIsEqual.{word-same, word-refl, some-same, none-some}
use Rattle.ceal_code.specs.Init.{pointer}
use Rattle.ceal_code.specs.Program.{Code}
use Rattle.ceal_code.specs.Step.{Stack, Run, Over, Quiet, Makes, Writes, Reads, next}
use Rattle.ceal_code.specs.Value.{Variables, set}
use Rattle.ceal_theory.proofs.Reuse.FlatTake.{first-of-flat, loose-one, take-found, found-beyond, take-found-read, found-beyond-read, skipped-levels}
use Rattle.ceal_theory.proofs.MoveMachine.MachineLaws.{leads-stays, leads-then, leads-move, machine-law}
use Rattle.ceal_theory.specs.FlatMachine.{GoesThrough, Runs, FlatFrame, Fixes, Mends, GoesOn, frames_of, flat_machine, passes, then_passes, passes_all, FlatMachineLaw}
use Rattle.ceal_theory.specs.Levels.{levels, loose, beyond, skipped, FoundAlloc, find_alloc, FoundRead, find_read}
use Rattle.ceal_theory.specs.Repair.{State, clears, puts, works, grows, resumed}
use Rattle.ceal_theory.specs.Moves.{Machine, Fixing, Bottom, Ended, Went, next_move, Resumes, Finishes, BecomesBy}
use Rattle.ceal_theory.specs.Walk.{store_after, AgreesAll, with_store, PrefixLaw}

differ : (v w : Word) → ¬ (v ≡ w) → same_word v w ≡ false
differ v w h = go (same_word v w) refl
  where
    go : (b : Bool) → same_word v w ≡ b → b ≡ false
    go true e = absurd (h (word-same v w e))
    go false e = refl

module _ (code : Code) (names : ℕ → ℕ) where
  pub begins : (s : State) (l : Trace) → flat_machine s GoesThrough [] (flat l) ≡ record { state = s; mode = Fixing l; frames = Bottom }
  begins s l = ap (λ t. record { state = s; mode = Fixing t; frames = Bottom }) (first-of-flat l)

  one-item : (m m' m'' : Machine) (i : Item) (is : List Item) → next_move code names m ≡ Went (i ∷ []) m' → BecomesBy code names m' m'' is → BecomesBy code names m m'' (i ∷ is)
  one-item m m' m'' i is e h = leads-then code names m m' m'' (i ∷ []) is (leads-move code names m m' (i ∷ []) e) h

  pub read-move : (s : State) (fs : List FlatFrame) (p : Place) (v : Word) (u : UnitId) (x : ℕ) (args : List Word) (is : List Item) → s.store p ≡ v
      → next_move code names (flat_machine s GoesThrough fs (Read p v u x args ∷ is)) ≡ Went (Read p v u x args ∷ []) (flat_machine s GoesThrough (Fixes ∷ fs) is)
  unfolding next_move
  read-move s fs p v u x args is e = rw (e, word-refl v) refl

  pub stays : (s : State) (fs fs' : List FlatFrame) (front back : List Item) → AgreesAll code s.store front → passes_all front fs ≡ Some fs'
      → BecomesBy code names (flat_machine s GoesThrough fs (front ++ back)) (flat_machine (with_store s (store_after code s.store front)) GoesThrough fs' back) front
  unfolding next_move
  stays s fs fs' [] back h e =
      subst (λ gs. BecomesBy code names (flat_machine s GoesThrough fs back) (flat_machine s GoesThrough gs back) []) (some-same fs fs' e) (leads-stays code names (flat_machine s GoesThrough fs back))
  stays s fs fs' (Step ∷ front) back h e =
      one-item (flat_machine s GoesThrough fs (Step ∷ front ++ back)) (flat_machine s GoesThrough fs (front ++ back)) _ Step front refl (stays s fs fs' front back h.1 e)
  stays s fs fs' (Alloc b key ∷ front) back h e =
      one-item (flat_machine s GoesThrough fs (Alloc b key ∷ front ++ back))
      (flat_machine (clears code s b key) GoesThrough fs (front ++ back)) _ (Alloc b key) front refl
      (stays (clears code s b key) fs fs' front back h.1 e)
  stays s fs fs' (Write p v ∷ front) back h e =
      one-item (flat_machine s GoesThrough fs (Write p v ∷ front ++ back))
      (flat_machine (puts s p v) GoesThrough fs (front ++ back)) _ (Write p v) front refl
      (stays (puts s p v) fs fs' front back h.1 e)
  stays s fs fs' (Read p v u x args ∷ front) back h e =
      one-item (flat_machine s GoesThrough fs (Read p v u x args ∷ front ++ back)) (flat_machine s GoesThrough (Fixes ∷ fs) (front ++ back)) _ (Read p v u x args) front
      (read-move s fs p v u x args (front ++ back) h.0) (stays s (Fixes ∷ fs) fs' front back h.1 e)
  stays s (Fixes ∷ fs) fs' (End ∷ front) back h e =
      one-item (flat_machine s GoesThrough (Fixes ∷ fs) (End ∷ front ++ back)) (flat_machine s GoesThrough fs (front ++ back)) _ End front refl (stays s fs fs' front back h.1 e)
  stays s (Mends below n ∷ fs) fs' (End ∷ front) back h e = none-some fs' e
  stays s (GoesOn below ∷ fs) fs' (End ∷ front) back h e = none-some fs' e
  stays s [] fs' (End ∷ front) back h e = none-some fs' e

  stale-move : (s : State) (fs : List FlatFrame) (p : Place) (value : Word) (u : UnitId) (v : ℕ) (args : List Word) (is : List Item) → ¬ (s.store p ≡ value)
      → next_move code names (flat_machine s GoesThrough fs (Read p value u v args ∷ is)) ≡ Went
      (Read p (s.store p) u v args ∷ []) (flat_machine s (Runs (resumed code u v args (s.store p)) 1)
      (Fixes ∷ fs) is)
  unfolding next_move
  stale-move s fs p value u v args is h = rw (differ (s.store p) value h, loose-one (levels is)) refl

  mended-move : (s : State) (fs : List FlatFrame) (below : Stack) (n : ℕ) (is : List Item)
      → next_move code names (flat_machine s GoesThrough (Mends below n ∷ fs) (End ∷ is)) ≡ Went (End ∷ []) (flat_machine s (Runs below n) fs is)
  unfolding next_move
  mended-move s fs below n is = refl

  last : (s : State) → next_move code names (flat_machine s GoesThrough [] []) ≡ Ended
  unfolding next_move
  last s = refl

  fixes-move : (s : State) (fs : List FlatFrame) (st : Stack) (n : ℕ) (is : List Item) → next code s.plain st ≡ Over
      → next_move code names (flat_machine s (Runs st n) (Fixes ∷ fs) is) ≡ Went (End ∷ []) (flat_machine s GoesThrough fs (skipped n is))
  unfolding next_move
  fixes-move s fs st n is e = rw (e, skipped-levels n is) refl

  mends-move : (s : State) (fs : List FlatFrame) (st below : Stack) (n m : ℕ) (is : List Item) → next code s.plain st ≡ Over
      → next_move code names (flat_machine s (Runs st n) (Mends below m ∷ fs) is) ≡ Went (End ∷ []) (flat_machine s (Runs below m) fs (skipped n is))
  unfolding next_move
  mends-move s fs st below n m is e = rw (e, skipped-levels n is) refl

  goes-on-move : (s : State) (fs : List FlatFrame) (st below : Stack) (n : ℕ) (is : List Item) → next code s.plain st ≡ Over
      → next_move code names (flat_machine s (Runs st n) (GoesOn below ∷ fs) is) ≡ Went (End ∷ []) (flat_machine s (Runs below n) fs is)
  unfolding next_move
  goes-on-move s fs st below n is e = rw e refl

  over-last : (s : State) (st : Stack) (n : ℕ) (is : List Item) → next code s.plain st ≡ Over → next_move code names (flat_machine s (Runs st n) [] is) ≡ Ended
  unfolding next_move
  over-last s st n is e = rw e refl

  quiet-move : (s : State) (fs : List FlatFrame) (st after : Stack) (n : ℕ) (is : List Item) → next code s.plain st ≡ Quiet after
      → next_move code names (flat_machine s (Runs st n) fs is) ≡ Went (Step ∷ []) (flat_machine (works s) (Runs after n) fs is)
  unfolding next_move
  quiet-move s fs st after n is e = rw e refl

  writes-move : (s : State) (fs : List FlatFrame) (st after : Stack) (p : Place) (value : Word) (n : ℕ) (is : List Item) → next code s.plain st ≡ Writes p value after
      → next_move code names (flat_machine s (Runs st n) fs is) ≡ Went (Step ∷ Write p value ∷ []) (flat_machine (puts (works s) p value) (Runs after n) fs is)
  unfolding next_move
  writes-move s fs st after p value n is e = rw e refl

  makes-move : (s : State) (fs : List FlatFrame) (st below : Stack) (key : Key) (v u i : ℕ) (env : Variables) (n : ℕ) (is : List Item) → next code s.plain st ≡ Makes key v u i env below
      → find_alloc key n is ≡ None → (b : ℕ) → names s.number ≡ b
      → next_move code names (flat_machine s (Runs st n) fs is) ≡ Went (Step ∷ Alloc (Core b) key ∷ [])
      (flat_machine (grows code (λ k. b) (works s) key)
      (Runs (Run u i (set env v (pointer key (Core b))) below) n) fs is)
  unfolding next_move
  makes-move s fs st below key v u i env n is e w b h = rw (e, take-found key is n, w, h) refl

  takes-alloc-move : (s : State) (fs : List FlatFrame) (st below : Stack) (key : Key) (v u i : ℕ) (env : Variables) (n : ℕ) (is : List Item) → next code s.plain st ≡ Makes key v u i env below
      → (f : FoundAlloc) → find_alloc key n is ≡ Some f
      → next_move code names (flat_machine s (Runs st n) fs is) ≡ Went (Step ∷ Alloc f.block key ∷ [])
      (flat_machine (clears code (works s) f.block key)
      (Runs (Run u i (set env v (pointer key f.block)) below) f.levels) fs f.rest)
  unfolding next_move
  takes-alloc-move s fs st below key v u i env n is e f w = rw (e, take-found key is n, w, found-beyond key is n f w) refl

  reads-move : (s : State) (fs : List FlatFrame) (st below : Stack) (p : Place) (u : UnitId) (v : ℕ) (args : List Word) (n : ℕ) (is : List Item) → next code s.plain st ≡ Reads p u v args below
      → find_read p u v args n is ≡ None
      → next_move code names (flat_machine s (Runs st n) fs is)
      ≡ Went (Step ∷ Read p (s.store p) u v args ∷ []) (flat_machine (works s) (Runs (resumed code u v args (s.store p)) n) (GoesOn below ∷ fs) is)
  unfolding next_move
  reads-move s fs st below p u v args n is e w = rw (e, take-found-read p u v args is n, w) refl

  takes-read-move : (s : State) (fs : List FlatFrame) (st below : Stack) (p : Place) (u : UnitId) (v : ℕ) (args : List Word) (n : ℕ) (is : List Item) → next code s.plain st ≡ Reads p u v args below
      → (f : FoundRead) → find_read p u v args n is ≡ Some f → same_word (s.store p) f.value ≡ true
      → next_move code names (flat_machine s (Runs st n) fs is) ≡ Went (Step ∷ Read p (s.store p) u v args ∷ []) (flat_machine (works s) GoesThrough (Mends below f.levels ∷ fs) f.rest)
  unfolding next_move
  takes-read-move s fs st below p u v args n is e f w k = rw (e, take-found-read p u v args is n, w, k, found-beyond-read p u v args is n f w) refl

  takes-stale-move : (s : State) (fs : List FlatFrame) (st below : Stack) (p : Place) (u : UnitId) (v : ℕ) (args : List Word) (n : ℕ) (is : List Item) → next code s.plain st ≡ Reads p u v args below
      → (f : FoundRead) → find_read p u v args n is ≡ Some f → same_word (s.store p) f.value ≡ false
      → next_move code names (flat_machine s (Runs st n) fs is) ≡ Went (Step ∷ Read p (s.store p) u v args ∷ [])
      (flat_machine (works s) (Runs (resumed code u v args (s.store p)) 1) (Mends below f.levels ∷ fs) f.rest)
  unfolding next_move
  takes-stale-move s fs st below p u v args n is e f w k = rw (e, take-found-read p u v args is n, w, k, found-beyond-read p u v args is n f w, loose-one (levels f.rest)) refl

  -- a machine whose move is known
  by : (m m' : Machine) (written : List Item) → next_move code names m ≡ Went written m' → BecomesBy code names m m' written
  by = leads-move code names

pub flat-law : FlatMachineLaw
flat-law code names = record {
  begins = begins code names;
  stays = stays code names;
  stale = λ s fs p value u v args is h. by code names _ _ _ (stale-move code names s fs p value u v args is h);
  mended = λ s fs below n is. by code names _ _ _ (mended-move code names s fs below n is);
  last = last code names;
  over_fixes = λ s fs st n is e. by code names _ _ _ (fixes-move code names s fs st n is e);
  over_mends = λ s fs st below n m is e. by code names _ _ _ (mends-move code names s fs st below n m is e);
  over_goes_on = λ s fs st below n is e. by code names _ _ _ (goes-on-move code names s fs st below n is e);
  over_last = over-last code names;
  quiet = λ s fs st after n is e. by code names _ _ _ (quiet-move code names s fs st after n is e);
  writes = λ s fs st after p value n is e. by code names _ _ _ (writes-move code names s fs st after p value n is e);
  makes = λ s fs st below key v u i env n is e w b h. by code names _ _ _ (makes-move code names s fs st below key v u i env n is e w b h);
  takes_alloc = λ s fs st below key v u i env n is e f w. by code names _ _ _ (takes-alloc-move code names s fs st below key v u i env n is e f w);
  reads = λ s fs st below p u v args n is e w. by code names _ _ _ (reads-move code names s fs st below p u v args n is e w);
  takes_read = λ s fs st below p u v args n is e f w k. by code names _ _ _ (takes-read-move code names s fs st below p u v args n is e f w (ap (λ x. same_word x f.value) k ∙ word-refl f.value));
  takes_stale = λ s fs st below p u v args n is e f w k. by code names _ _ _ (takes-stale-move code names s fs st below p u v args n is e f w (differ (s.store p) f.value k));
  bare = λ s fs st n is. (machine-law code names).bare s st (loose (suc n) (levels is)) (frames_of fs (beyond (suc n) (levels is)));
}

-- what closes no more than it opens passes so in each of its fronts
pub passes-flat : (l : Trace) (is : List Item) (fs : List FlatFrame) → passes_all (flat l ++ is) fs ≡ passes_all is fs
passes-flat Nothing is fs = refl
passes-flat (Stepped rest) is fs = passes-flat rest is fs
passes-flat (Allocated b k rest) is fs = passes-flat rest is fs
passes-flat (Wrote p v rest) is fs = passes-flat rest is fs
passes-flat (WasRead p v u x args inside rest) is fs = rw (append_assoc (flat inside) (End ∷ flat rest) is, passes-flat inside (End ∷ (flat rest ++ is)) (Fixes ∷ fs)) (passes-flat rest is fs)

pub passes-front : (front back : List Item) (fs gs : List FlatFrame) → passes_all (front ++ back) fs ≡ Some gs → (hs : List FlatFrame) × (passes_all front fs ≡ Some hs)
passes-front [] back fs gs e = (fs, refl)
passes-front (i ∷ front) back fs gs e = go (passes i fs) (λ hs. passes-front front back hs gs) e
  where
    go : (o : Option (List FlatFrame)) → ((hs : List FlatFrame) → passes_all (front ++ back) hs ≡ Some gs → (ks : List FlatFrame) × (passes_all front hs ≡ Some ks))
        → then_passes o (passes_all (front ++ back)) ≡ Some gs → (ks : List FlatFrame) × (then_passes o (passes_all front) ≡ Some ks)
    go None f e = none-some gs e
    go (Some hs) f e = f hs e

pub prefix-law : PrefixLaw
prefix-law code names s s' l m f h =
    let back = Read h.place h.value h.unit h.var h.args ∷ h.back in
    let whole : passes_all (flat l) [] ≡ Some [] = ap (λ is. passes_all is []) (sym (append-nil (flat l))) ∙ passes-flat l [] [] in
    let o = passes-front h.front back [] [] (ap (λ is. passes_all is []) (sym h.split) ∙ whole) in
    let j = stays code names s [] o.0 h.front back h.agrees o.1 in
    let at : flat_machine s GoesThrough [] (h.front ++ back) ≡ record { state = s; mode = Fixing l; frames = Bottom } = ap (flat_machine s GoesThrough []) (sym h.split) ∙ begins code names s l in
    let start : Finishes code names (flat_machine s GoesThrough [] (h.front ++ back)) s' (flat m ++ []) = subst
    (λ k. Finishes code names k s' (flat m ++ [])) (sym at) (Finishes.fixes f Resumes.bottom) in
    let g = j.ahead s' (flat m ++ []) start in
    (g.rest, sym (append-nil (flat m)) ∙ g.same)
