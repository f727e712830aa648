-- What a machine of repair knows.
use Rattle.std.proofs.Common.{◌≡◌, ◌⊎◌, inl, inr, ℕ, ◌+◌, Bool, true, false, Option, Some, None, List, [], ◌∷◌, ◌++◌, length, refl, sym, subst, arith}
use Rattle.std.specs.Prelude.{⊤}
use Rattle.ceal_base.specs.Block.{Block}
use Rattle.ceal_base.specs.Operators.{same_word}
use Rattle.ceal_base.specs.Trace.{Trace, Nothing, Stepped, Allocated, Wrote, WasRead}
use Rattle.ceal_base.specs.declared.forest.Item.{Item}
use Rattle.ceal_base.specs.declared.forest.Item.TheVariants.{Step, Alloc, Write, Read, End}
use Rattle.ceal_base.specs.declared.forest.Key.{Key}
use Rattle.ceal_base.specs.declared.forest.UnitId.{UnitId}
use Rattle.ceal_base.specs.declared.word.BlockId.TheVariants.{Input, Core}
use Rattle.ceal_base.specs.declared.word.Place.{Place}
use Rattle.ceal_base.specs.declared.word.Word.{Word}
use Rattle.ceal_code.proofs.TypedCode.FittingWords.{args-known}
use Rattle.ceal_code.proofs.Words.StepLocality.{block-more, word-more, words-more, key-more, variables-more, stack-more, set-known, words_after_read-known, next-known, made-known}
use Rattle.ceal_code.proofs.Words.SameIsEqual.{some-same, none-some, word-same}
use Rattle.ceal_code.specs.Fitting.{Fits}
use Rattle.ceal_code.specs.Init.{made, pointer}
use Rattle.ceal_code.specs.Known.{Subset, Holds, KnownVariables, KnownStack, KnownAct}
use Rattle.ceal_code.specs.Program.{Code}
use Rattle.ceal_code.specs.Replay.{In, here, KnownBlock, KnownWord, KnownWords, KnownKey, learnt, plain_of, input_plain}
use Rattle.ceal_code.specs.Step.{Stack, Empty, Run, Act, Over, Quiet, Makes, Writes, Reads, started, next}
use Rattle.ceal_code.specs.Value.{Plain, Variables, set}
use Rattle.ceal_theory.proofs.MoveMachine.FlatMachine.{read-move}
use Rattle.ceal_theory.proofs.Repair.RepairInvariant.{Extends}
use Rattle.ceal_theory.proofs.Store.WordsGrow.{learnt-here}
use Rattle.ceal_theory.proofs.Store.FittingInputs.{inputs-hold, bases-known, started-known}
use Rattle.ceal_theory.proofs.Repair.RepairYields.{wider, pointer-known, holds-with, cleared-known, stored-known, store-more}
use Rattle.ceal_theory.proofs.Repair.RepairReplays.{extends-at, holds-over, known-new, from-new, held-new, yields-new, mentions-new}
use Rattle.ceal_theory.proofs.Reuse.OldBlocksOnly.{told-more, sure-more, sure-alloc, sure-read, yields-sure}
use Rattle.ceal_theory.proofs.Repair.YieldsByStep.{yields-told}
use Rattle.ceal_theory.specs.Chosen.{repair_begins, first_begins}
use Rattle.ceal_theory.specs.FlatMachine.{GoesThrough, FlatFrame, Fixes, Mends, GoesOn, flat_machine, passes_all}
use Rattle.ceal_theory.specs.Known.{Told, Sure, Ready, KnowsMode, KnowsFrames, Knows, KnownItems, GoesKnowing, KnownLaw}
use Rattle.ceal_theory.specs.Laws.{Edited}
use Rattle.ceal_theory.specs.Levels.{first, around, levels}
use Rattle.ceal_theory.specs.Repair.{State, clears, puts, works, grows, resumed}
use Rattle.ceal_theory.specs.Take.{TakenAlloc, TakenRead, take_alloc, take_read}
use Rattle.ceal_theory.specs.Moves.{Mode, Fixing, Running, Frames, Bottom, AfterFix, AfterMend, AfterRun, Machine, Move, Ended, Went, closing_move, mode_inside, fix_move, alloc_move, read_move}
use Rattle.ceal_theory.specs.Moves.{act_move, mode_move, next_move}
use Rattle.ceal_theory.specs.Walk.{store_after, AgreesAll, with_store}

-- what holds after a turn
abbrev Then : Code → ℕ → List ℕ → List ℕ → Move → Type 0
Then code n ds bs Ended = ⊤
Then code n ds bs (Went written m) = GoesKnowing code n ds bs written m

module _ (code : Code) (n : ℕ) (ds : List ℕ) where
  act-more : (bs cs : List ℕ) → Subset bs cs → (a : Act) → KnownAct n bs a → KnownAct n cs a
  act-more bs cs sub Over k = k
  act-more bs cs sub (Quiet after) k = stack-more n bs cs sub after k
  act-more bs cs sub (Makes key v u i env below) k = (key-more n bs cs sub key k.0, variables-more n bs cs sub env k.1, stack-more n bs cs sub below k.2)
  act-more bs cs sub (Writes p value after) k = (block-more n bs cs sub p.block k.0, word-more n bs cs sub value k.1, stack-more n bs cs sub after k.2)
  act-more bs cs sub (Reads p u v args below) k = (block-more n bs cs sub p.block k.0, words-more n bs cs sub args k.1, stack-more n bs cs sub below k.2)

  module _ (x y : Plain) (bs cs : List ℕ) (old : Holds n ds x) (ext : Extends x y) (sub : Subset bs cs) where
    ready-more : {l : Trace} → Sure code n ds x l → Ready code n ds x bs l → Ready code n ds y cs l
    ready-more s (Ready.whole {a = a} k d t) = Ready.whole (act-more bs cs sub a k) d (told-more code n ds x y old ext t d s)
    ready-more s (Ready.stepped {a = a} k d t) = Ready.stepped (act-more bs cs sub a k) d (told-more code n ds x y old ext t d s)

    frames-more : (fs : Frames) → KnowsFrames code n ds x bs fs → KnowsFrames code n ds y cs fs
    frames-more Bottom k = k
    frames-more (AfterFix rest outer) k = (ready-more k.1 k.0, sure-more code n ds x y old ext rest k.1, frames-more outer k.2)
    frames-more (AfterMend below l outer) k = (stack-more n bs cs sub below k.0, sure-more code n ds x y old ext l k.1, frames-more outer k.2)
    frames-more (AfterRun below outer) k = (stack-more n bs cs sub below k.0, frames-more outer k.1)

  -- what a state knows, without mode and frames
  record StateKnows (bs : List ℕ) (s : State) : Type 0 where
    plain : Holds n bs s.plain
    old : Holds n ds s.plain
    store : (p : Place) → KnownWord n bs (s.store p)

  all : (bs : List ℕ) (s : State) (mode : Mode) (fs : Frames) → StateKnows bs s → KnowsMode code n ds s.plain bs mode → KnowsFrames code n ds s.plain bs fs
      → Knows code n ds bs (record { state = s; mode = mode; frames = fs })
  all bs s mode fs g m f = record { plain = g.plain; old = g.old; store = g.store; mode = m; frames = f }

  whole-at : (bs : List ℕ) (x : Plain) → Holds n bs x → Holds n ds x → (st : Stack) {l : Trace} → KnownStack n bs st → KnownStack n ds st → Told code x (next code x st) l → Ready code n ds x bs l
  whole-at bs x h d st k j t = Ready.whole (next-known n bs x h x (λ b i. refl) code st k) (next-known n ds x d x (λ b i. refl) code st j) t

  -- a part is over
  closed-knows : (bs : List ℕ) (s : State) (left : Trace) (fs : Frames) → StateKnows bs s → Sure code n ds s.plain left → KnowsFrames code n ds s.plain bs fs
      → Then code n ds bs (closing_move s left fs)
  closed-knows bs s left Bottom g h k = tt
  closed-knows bs s left (AfterFix rest outer) g h k = record { known = bs; items = KnownItems.close KnownItems.none; knows = all bs s (Fixing rest) outer g (k.0, k.1) k.2 }
  closed-knows bs s left (AfterMend below old outer) g h k = record { known = bs; items = KnownItems.close KnownItems.none; knows = all bs s (Running below old) outer g (k.0, k.1) k.2 }
  closed-knows bs s left (AfterRun below outer) g h k = record { known = bs; items = KnownItems.close KnownItems.none; knows = all bs s (Running below left) outer g (k.0, h) k.1 }

  -- a read with old items inside
  opened-knows : (bs : List ℕ) (s : State) (u : UnitId) (v : ℕ) (args : List Word) (value now : Word) (inside : Trace) (b : Bool) → same_word now value ≡ b → StateKnows bs s
      → KnownWords n bs args → KnownWord n bs now → KnownWords n ds args → KnownWord n ds value → Told code s.plain
      (next code s.plain (resumed code u v args value)) inside → Sure code n ds s.plain inside
      → KnowsMode code n ds s.plain bs (mode_inside code b u v args now inside)
  opened-knows bs s u v args value now inside true e g ka kn da dv t h =
      let k : KnownWord n bs value = subst (KnownWord n bs) (word-same now value e) kn in
      let before = words_after_read-known n bs code u.0 v args value Empty ka k tt in
      let after = words_after_read-known n ds code u.0 v args value Empty da dv tt in
      (whole-at bs s.plain g.plain g.old (resumed code u v args value) before after t, h)
  opened-knows bs s u v args value now inside false e g ka kn da dv t h = (words_after_read-known n bs code u.0 v args now Empty ka kn tt, h)

  -- with a block whose words are those of a known key
  clears-knows : (bs : List ℕ) (s : State) (b : ℕ) (key : Key) → StateKnows bs s → KnownKey n bs key → s.plain
      (Core b) ≡ Some (made code s.plain key) → StateKnows (b ∷ bs) (clears code s (Core b) key)
  clears-knows bs s b key g k e = record {
    plain = holds-with n bs s.plain s.plain b g.plain (λ c block i. i) (record {
      block = made code s.plain key;
      there = e;
      known = words-more n bs (b ∷ bs) (wider b bs) (made code s.plain key).words (made-known n bs s.plain g.plain s.plain (λ c i. refl) code key k);
    });
    old = g.old;
    store = cleared-known code n (b ∷ bs) s.store (Core b) key (store-more n bs (b ∷ bs) s.store (wider b bs) g.store);
  }

  grows-knows : (bs : List ℕ) (names : ℕ → ℕ) (s : State) (key : Key) → StateKnows bs s → KnownKey n bs key → s.plain
      (Core (names s.number)) ≡ None → StateKnows (names s.number ∷ bs) (grows code names s key)
  grows-knows bs names s key g k e =
      let b = names s.number in
      let ext = extends-at s.plain b (made code s.plain key) e in
      record {
        plain = holds-with n bs s.plain (learnt s.plain (Core b) (made code s.plain key)) b g.plain ext (record {
          block = made code s.plain key;
          there = learnt-here s.plain (Core b) (made code s.plain key);
          known = words-more n bs (b ∷ bs) (wider b bs) (made code s.plain key).words (made-known n bs s.plain g.plain s.plain (λ c i. refl) code key k);
        });
        old = holds-over n ds s.plain (learnt s.plain (Core b) (made code s.plain key)) g.old ext;
        store = cleared-known code n (b ∷ bs) s.store (Core b) key (store-more n bs (b ∷ bs) s.store (wider b bs) g.store);
      }

  run-knows : (bs : List ℕ) (key : Key) (b v u i : ℕ) (env : Variables) (below : Stack) → In b bs
      → KnownVariables n bs env → KnownStack n bs below → KnownStack n bs
      (Run u i (set env v (pointer key (Core b))) below)
  run-knows bs key b v u i env below j h k = (set-known n bs env v (pointer key (Core b)) h (pointer-known n bs key (Core b) j), k)

  -- what is after a step that was gone through
  record BeforeAlloc (bs : List ℕ) (s : State) (b : ℕ) (key : Key) (rest : Trace) : Type 0 where
    known : KnownKey n bs key
    ready : StateKnows (b ∷ bs) (clears code s (Core b) key) → Ready code n ds s.plain (b ∷ bs) rest

  before-alloc : (bs : List ℕ) (s : State) (b : ℕ) (key : Key) (rest : Trace) → In b ds → Ready code n ds s.plain bs (Allocated (Core b) key rest) → BeforeAlloc bs s b key rest
  before-alloc bs s b key rest j (Ready.stepped {a = Makes k v u i env below} ka kd (Told.makes e r)) = record {
    known = ka.0;
    ready = λ g. whole-at (b ∷ bs) s.plain g.plain g.old (Run u i (set env v (pointer key (Core b))) below)
        (run-knows (b ∷ bs) key b v u i env below here (variables-more n bs (b ∷ bs) (wider b bs) env ka.1) (stack-more n bs (b ∷ bs) (wider b bs) below ka.2))
        (run-knows ds key b v u i env below j kd.1 kd.2) r;
  }
  before-alloc bs s b key rest j (Ready.stepped {a = Quiet after} ka kd (Told.quiet r)) = elim-alloc (next code s.plain after) r
    where
      elim-alloc : (a : Act) → Told code s.plain a (Allocated (Core b) key rest) → BeforeAlloc bs s b key rest
      elim-alloc a t = elim t [ ]
  before-alloc bs s b key rest j (Ready.stepped {a = Over} ka kd t) = elim t [ ]
  before-alloc bs s b key rest j (Ready.stepped {a = Writes p value after} ka kd t) = elim t [ ]
  before-alloc bs s b key rest j (Ready.stepped {a = Reads p u v args below} ka kd t) = elim t [ ]
  before-alloc bs s b key rest j (Ready.whole ka kd t) = elim t [ ]

  record BeforeWrite (bs : List ℕ) (s : State) (p : Place) (value : Word) (rest : Trace) : Type 0 where
    place : KnownBlock n bs p.block
    word : KnownWord n bs value
    ready : Ready code n ds s.plain bs rest

  before-write : (bs : List ℕ) (s : State) (p : Place) (value : Word) (rest : Trace) → StateKnows bs s → Ready code n ds s.plain bs (Wrote p value rest) → BeforeWrite bs s p value rest
  before-write bs s p value rest g (Ready.stepped {a = Writes q w after} ka kd (Told.writes r)) = record { place = ka.0; word = ka.1; ready = whole-at bs s.plain g.plain g.old after ka.2 kd.2 r }
  before-write bs s p value rest g (Ready.stepped {a = Quiet after} ka kd (Told.quiet r)) = go (next code s.plain after) r
    where
      go : (a : Act) → Told code s.plain a (Wrote p value rest) → BeforeWrite bs s p value rest
      go a t = elim t [ ]
  before-write bs s p value rest g (Ready.stepped {a = Over} ka kd t) = elim t [ ]
  before-write bs s p value rest g (Ready.stepped {a = Makes k v u i env below} ka kd t) = elim t [ ]
  before-write bs s p value rest g (Ready.stepped {a = Reads q u v args below} ka kd t) = elim t [ ]
  before-write bs s p value rest g (Ready.whole ka kd t) = elim t [ ]

  record BeforeRead (bs : List ℕ) (s : State) (p : Place) (value : Word) (u : UnitId) (v : ℕ) (args : List Word) (inside rest : Trace) : Type 0 where
    place : KnownBlock n bs p.block
    words : KnownWords n bs args
    ready : Ready code n ds s.plain bs rest

  before-read : (bs : List ℕ) (s : State) (p : Place) (value : Word) (u : UnitId) (v : ℕ) (args : List Word) (inside rest : Trace) → StateKnows bs s
      → Ready code n ds s.plain bs (WasRead p value u v args inside rest) → BeforeRead bs s p value u v args inside rest
  before-read bs s p value u v args inside rest g (Ready.stepped {a = Reads q w z vs below} ka kd (Told.reads r1 r2)) =
      record { place = ka.0; words = ka.1; ready = whole-at bs s.plain g.plain g.old below ka.2 kd.2 r2 }
  before-read bs s p value u v args inside rest g (Ready.stepped {a = Quiet after} ka kd (Told.quiet r)) = go (next code s.plain after) r
    where
      go : (a : Act) → Told code s.plain a (WasRead p value u v args inside rest) → BeforeRead bs s p value u v args inside rest
      go a t = elim t [ ]
  before-read bs s p value u v args inside rest g (Ready.stepped {a = Over} ka kd t) = elim t [ ]
  before-read bs s p value u v args inside rest g (Ready.stepped {a = Makes k w z i env below} ka kd t) = elim t [ ]
  before-read bs s p value u v args inside rest g (Ready.stepped {a = Writes q w after} ka kd t) = elim t [ ]
  before-read bs s p value u v args inside rest g (Ready.whole ka kd t) = elim t [ ]

  before-step : (bs : List ℕ) (s : State) (rest : Trace) → StateKnows bs s → Ready code n ds s.plain bs (Stepped rest) → Ready code n ds s.plain bs rest
  before-step bs s rest g (Ready.whole ka kd t) = Ready.stepped ka kd t
  before-step bs s rest g (Ready.stepped {a = Quiet after} ka kd (Told.quiet r)) =
      Ready.stepped (next-known n bs s.plain g.plain s.plain (λ b i. refl) code after ka) (next-known n ds s.plain g.old s.plain (λ b i. refl) code after kd) r
  before-step bs s rest g (Ready.stepped {a = Over} ka kd t) = elim t [ ]
  before-step bs s rest g (Ready.stepped {a = Makes k v u i env below} ka kd t) = elim t [ ]
  before-step bs s rest g (Ready.stepped {a = Writes p value after} ka kd t) = elim t [ ]
  before-step bs s rest g (Ready.stepped {a = Reads p u v args below} ka kd t) = elim t [ ]

  fixing-knows : (bs : List ℕ) (s : State) (fs : Frames) (todo : Trace) → StateKnows bs s → Ready code n ds s.plain bs todo → Sure code n ds s.plain todo → KnowsFrames code n ds s.plain bs fs
      → Then code n ds bs (fix_move code s fs todo)
  fixing-knows bs s fs Nothing g r h k = closed-knows bs s Nothing fs g tt k
  fixing-knows bs s fs (Stepped rest) g r h k = record { known = bs; items = KnownItems.step KnownItems.none; knows = all bs s (Fixing rest) fs g (before-step bs s rest g r, h) k }
  fixing-knows bs s fs (Allocated (Core b) key rest) g r h k =
      let a = before-alloc bs s b key rest h.0 r in
      let g' = clears-knows bs s b key g a.known h.2 in
      record {
        known = b ∷ bs;
        items = KnownItems.alloc a.known KnownItems.none;
        knows = all (b ∷ bs) (clears code s (Core b) key) (Fixing rest) fs g' (a.ready g', h.3) (frames-more s.plain s.plain bs (b ∷ bs) g.old (λ c block i. i) (wider b bs) fs k);
      }
  fixing-knows bs s fs (Allocated (Input i) key rest) g r h k = absurd h
  fixing-knows bs s fs (Wrote p value rest) g r h k =
      let a = before-write bs s p value rest g r in
      record {
        known = bs;
        items = KnownItems.write a.place a.word KnownItems.none;
        knows = all bs (puts s p value) (Fixing rest) fs (record { plain = g.plain; old = g.old; store = stored-known n bs s.store p value g.store a.word }) (a.ready, h) k;
      }
  fixing-knows bs s fs (WasRead p value u v args inside rest) g r h k =
      let a = before-read bs s p value u v args inside rest g r in
      record {
        known = bs;
        items = KnownItems.read a.place (g.store p) a.words KnownItems.none;
        knows = all bs s (mode_inside code (same_word (s.store p) value) u v args (s.store p) inside) (AfterFix rest fs) g
            (opened-knows bs s u v args value (s.store p) inside (same_word (s.store p) value) refl g a.words (g.store p) h.1 h.0 h.2 h.3) (a.ready, h.4, k);
      }

  -- the number stays, or it is that of no block
  NewNumber : (ℕ → ℕ) → State → Move → Type 0
  NewNumber names s Ended = ⊤
  NewNumber names s (Went written m) = (m.state.number ≡ s.number) ⊎ (s.plain (Core (names s.number)) ≡ None)

  works-knows : (bs : List ℕ) (s : State) → StateKnows bs s → StateKnows bs (works s)
  works-knows bs s g = record { plain = g.plain; old = g.old; store = g.store }

  made-number : (names : ℕ → ℕ) (s : State) → (s.number + 1 ≡ s.number) ⊎ (s.plain (Core (names s.number)) ≡ None) → s.plain (Core (names s.number)) ≡ None
  made-number names s (inl e) = absurd (omega (arith, e))
  made-number names s (inr e) = e

  making-knows : (names : ℕ → ℕ) (bs : List ℕ) (s : State) (fs : Frames) (key : Key) (v u i : ℕ) (env : Variables) (below : Stack) (old : Trace) (o : Option TakenAlloc) → take_alloc key old ≡ o
      → StateKnows bs s → KnownAct n bs (Makes key v u i env below) → Sure code n ds s.plain old → KnowsFrames code n ds s.plain bs fs
      → NewNumber names s (alloc_move code names s fs key v u i env below old o) → Then code n ds bs (alloc_move code names s fs key v u i env below old o)
  unfolding NewNumber
  making-knows names bs s fs key v u i env below old (Some t) w g ka h k j =
      let a = sure-alloc code n ds s.plain key old h t w in
      subst (λ d. GoesKnowing code n ds bs (Step ∷ Alloc d key ∷ [])
      (record {
        state = clears code (works s) d key;
        mode = Running
            (Run u i (set env v (pointer key d)) below) t.leftover;
        frames = fs;
      })) (sym a.is)
      (record {
        known = a.core ∷ bs;
        items = KnownItems.step (KnownItems.alloc ka.0 KnownItems.none);
        knows = all (a.core ∷ bs) (clears code (works s) (Core a.core) key) (Running (Run u i (set env v (pointer key (Core a.core))) below) t.leftover) fs
            (clears-knows bs (works s) a.core key (works-knows bs s g) ka.0 a.held) (
              run-knows (a.core ∷ bs) key a.core v u i env below here
                  (variables-more n bs (a.core ∷ bs) (wider a.core bs) env ka.1)
                  (stack-more n bs (a.core ∷ bs) (wider a.core bs) below ka.2),
              a.left,
            )
            (frames-more s.plain s.plain bs (a.core ∷ bs) g.old (λ c block i. i) (wider a.core bs) fs k);
      })
  making-knows names bs s fs key v u i env below old None w g ka h k j =
      let b = names s.number in
      let e = made-number names s j in
      let ext = extends-at s.plain b (made code s.plain key) e in
      let y = learnt s.plain (Core b) (made code s.plain key) in
      record {
        known = b ∷ bs;
        items = KnownItems.step (KnownItems.alloc ka.0 KnownItems.none);
        knows = all (b ∷ bs) (grows code names (works s) key) (Running (Run u i (set env v (pointer key (Core b))) below) old) fs
            (grows-knows bs names (works s) key (works-knows bs s g) ka.0 e) (
              run-knows (b ∷ bs) key b v u i env below here (variables-more n bs (b ∷ bs) (wider b bs) env ka.1)
                  (stack-more n bs (b ∷ bs) (wider b bs) below ka.2),
              sure-more code n ds s.plain y g.old ext old h,
            )
            (frames-more s.plain y bs (b ∷ bs) g.old ext (wider b bs) fs k);
      }

  reading-knows : (bs : List ℕ) (s : State) (fs : Frames) (p : Place) (u : UnitId) (v : ℕ) (args : List Word) (below : Stack) (old : Trace) (o : Option TakenRead) → take_read p u v args old ≡ o
      → StateKnows bs s → KnownAct n bs (Reads p u v args below) → Sure code n ds s.plain old → KnowsFrames code n ds s.plain bs fs
      → Then code n ds bs (read_move code s fs p u v args below old o)
  reading-knows bs s fs p u v args below old (Some r) w g ka h k =
      let a = sure-read code n ds s.plain p u v args old h r w in
      record {
        known = bs;
        items = KnownItems.step (KnownItems.read ka.0 (g.store p) ka.1 KnownItems.none);
        knows = all bs (works s) (mode_inside code (same_word (s.store p) r.value) u v args (s.store p) r.inside) (AfterMend below r.leftover fs) (works-knows bs s g)
            (opened-knows bs (works s) u v args r.value (s.store p) r.inside (same_word (s.store p) r.value) refl
            (works-knows bs s g) ka.1 (g.store p) a.words a.value a.told a.inside) (ka.2, a.left, k);
      }
  reading-knows bs s fs p u v args below old None w g ka h k = record {
    known = bs;
    items = KnownItems.step (KnownItems.read ka.0 (g.store p) ka.1 KnownItems.none);
    knows = all bs (works s) (Running (resumed code u v args (s.store p)) old) (AfterRun below fs)
        (works-knows bs s g) (words_after_read-known n bs code u.0 v args (s.store p) Empty ka.1 (g.store p) tt, h) (ka.2, k);
  }

  acting-knows : (names : ℕ → ℕ) (bs : List ℕ) (s : State) (fs : Frames) (old : Trace) (a : Act) → StateKnows bs s → KnownAct n bs a → Sure code n ds s.plain old → KnowsFrames code n ds s.plain bs fs
      → NewNumber names s (act_move code names s fs old a) → Then code n ds bs (act_move code names s fs old a)
  acting-knows names bs s fs old Over g ka h k j = closed-knows bs s old fs g h k
  acting-knows names bs s fs old (Quiet after) g ka h k j =
      record {
        known = bs;
        items = KnownItems.step KnownItems.none;
        knows = all bs (works s) (Running after old) fs
            (works-knows bs s g) (ka, h) k;
      }
  acting-knows names bs s fs old (Makes key v u i env below) g ka h k j = making-knows names bs s fs key v u i env below old (take_alloc key old) refl g ka h k j
  acting-knows names bs s fs old (Writes p value after) g ka h k j = record {
    known = bs;
    items = KnownItems.step (KnownItems.write ka.0 ka.1 KnownItems.none);
    knows = all bs (puts (works s) p value) (Running after old) fs (record { plain = g.plain; old = g.old; store = stored-known n bs s.store p value g.store ka.1 }) (ka.2, h) k;
  }
  acting-knows names bs s fs old (Reads p u v args below) g ka h k j = reading-knows bs s fs p u v args below old (take_read p u v args old) refl g ka h k

  moving-knows : (names : ℕ → ℕ) (bs : List ℕ) (s : State) (fs : Frames) (mode : Mode) → StateKnows bs s → KnowsMode code n ds s.plain bs mode → KnowsFrames code n ds s.plain bs fs
      → NewNumber names s (mode_move code names s fs mode) → Then code n ds bs (mode_move code names s fs mode)
  moving-knows names bs s fs (Fixing todo) g m k j = fixing-knows bs s fs todo g m.0 m.1 k
  moving-knows names bs s fs (Running st old) g m k j = acting-knows names bs s fs old (next code s.plain st) g (next-known n bs s.plain g.plain s.plain (λ b i. refl) code st m.0) m.1 k j

  state-of : (bs : List ℕ) (m : Machine) → Knows code n ds bs m → StateKnows bs m.state
  state-of bs m k = record { plain = k.plain; old = k.old; store = k.store }

  pub move-knows : (names : ℕ → ℕ) (bs : List ℕ) (m m' : Machine) (written : List Item) → Knows code n ds bs m → next_move code names m ≡ Went written m'
      → (m'.state.number ≡ m.state.number) ⊎ (m.state.plain (Core (names m.state.number)) ≡ None) → GoesKnowing code n ds bs written m'
  unfolding next_move NewNumber
  move-knows names bs m m' written k e j =
      let j' : NewNumber names m.state (next_move code names m) = rw e j in
      rw e at (moving-knows names bs m.state m.frames m.mode (state-of bs m k) k.mode k.frames j')

  known-then : {bs cs es : List ℕ} {is js : List Item} → KnownItems n bs is cs → KnownItems n cs js es → KnownItems n bs (is ++ js) es
  known-then KnownItems.none k = k
  known-then (KnownItems.step h) k = KnownItems.step (known-then h k)
  known-then (KnownItems.close h) k = KnownItems.close (known-then h k)
  known-then (KnownItems.alloc i h) k = KnownItems.alloc i (known-then h k)
  known-then (KnownItems.write i j h) k = KnownItems.write i j (known-then h k)
  known-then (KnownItems.read i j l h) k = KnownItems.read i j l (known-then h k)

  -- one item that agrees, and then those after it
  one-more : (bs : List ℕ) (m m' m'' : Machine) (i : Item) (is : List Item) → Knows code n ds bs m → ((names : ℕ → ℕ) → next_move code names m ≡ Went (i ∷ []) m') → m'.state.number ≡ m.state.number
      → ((cs : List ℕ) → Knows code n ds cs m' → GoesKnowing code n ds cs is m'') → GoesKnowing code n ds bs (i ∷ is) m''
  one-more bs m m' m'' i is k e j f =
      let a = move-knows (λ z. z) bs m m' (i ∷ []) k (e (λ z. z)) (inl j) in
      let b = f a.known a.knows in
      record { known = b.known; items = known-then a.items b.items; knows = b.knows }

  pub stays-knows : (bs : List ℕ) (s : State) (fs fs' : List FlatFrame) (front back : List Item) → Knows code n ds bs (flat_machine s GoesThrough fs (front ++ back))
      → AgreesAll code s.store front → passes_all front fs ≡ Some fs'
      → GoesKnowing code n ds bs front (flat_machine (with_store s (store_after code s.store front)) GoesThrough fs' back)
  unfolding next_move
  stays-knows bs s fs fs' [] back k h e = record { known = bs; items = KnownItems.none; knows = subst (λ gs. Knows code n ds bs (flat_machine s GoesThrough gs back)) (some-same fs fs' e) k }
  stays-knows bs s fs fs' (Step ∷ front) back k h e =
      one-more bs (flat_machine s GoesThrough fs (Step ∷ front ++ back))
      (flat_machine s GoesThrough fs (front ++ back)) _ Step front k (λ names. refl) refl
      (λ cs q. stays-knows cs s fs fs' front back q h.1 e)
  stays-knows bs s fs fs' (Alloc b key ∷ front) back k h e =
      one-more bs (flat_machine s GoesThrough fs (Alloc b key ∷ front ++ back)) (flat_machine (clears code s b key) GoesThrough fs (front ++ back)) _ (Alloc b key) front k (λ names. refl) refl
      (λ cs q. stays-knows cs (clears code s b key) fs fs' front back q h.1 e)
  stays-knows bs s fs fs' (Write p v ∷ front) back k h e =
      one-more bs (flat_machine s GoesThrough fs (Write p v ∷ front ++ back)) (flat_machine (puts s p v) GoesThrough fs (front ++ back)) _ (Write p v) front k (λ names. refl) refl
      (λ cs q. stays-knows cs (puts s p v) fs fs' front back q h.1 e)
  stays-knows bs s fs fs' (Read p v u x args ∷ front) back k h e =
      one-more bs (flat_machine s GoesThrough fs (Read p v u x args ∷ front ++ back)) (flat_machine s GoesThrough (Fixes ∷ fs) (front ++ back)) _ (Read p v u x args) front k
      (λ names. read-move code names s fs p v u x args (front ++ back) h.0) refl (λ cs q. stays-knows cs s (Fixes ∷ fs) fs' front back q h.1 e)
  stays-knows bs s (Fixes ∷ fs) fs' (End ∷ front) back k h e =
      one-more bs (flat_machine s GoesThrough (Fixes ∷ fs) (End ∷ front ++ back))
      (flat_machine s GoesThrough fs (front ++ back)) _ End front k (λ names. refl) refl
      (λ cs q. stays-knows cs s fs fs' front back q h.1 e)
  stays-knows bs s (Mends below m ∷ fs) fs' (End ∷ front) back k h e = none-some fs' e
  stays-knows bs s (GoesOn below ∷ fs) fs' (End ∷ front) back k h e = none-some fs' e
  stays-knows bs s [] fs' (End ∷ front) back k h e = none-some fs' e

  pub next-read : (bs : List ℕ) (s : State) (fs : List FlatFrame) (p : Place) (value : Word) (u : UnitId) (v : ℕ) (args : List Word) (back : List Item)
      → Knows code n ds bs (flat_machine s GoesThrough fs (Read p value u v args ∷ back)) → KnownBlock n bs p.block × KnownWords n bs args
  next-read bs s fs p value u v args back k =
      let a = before-read bs s p value u v args (first (levels back)) (first (around (levels back))) (state-of bs (flat_machine s GoesThrough fs (Read p value u v args ∷ back)) k) k.mode.0 in
      (a.place, a.words)

module _ (code : Code) where
  begins : (old new : List Block) (f : ℕ) (args : List Word) (l : Trace) (number : ℕ) → (e : Edited code old new f args l number) → Knows code (length new) e.trace.known [] (repair_begins code new l)
  begins old new f args l number e =
      let x = plain_of code new l in
      let held = held-new code old new f args e.call e.fit e.extended l e.trace in
      let none : Holds (length new) [] x = holds-over (length new) [] (input_plain code new) x (inputs-hold code new e.fit) (from-new code old new f args e.call e.fit e.extended l e.trace) in
      let known = started-known (length new) [] code f args (known-new code old new f args e.call e.fit e.extended l e.trace) in
      let yields = yields-new code old new f args e.call e.fit e.extended l e.trace in
      record {
        plain = none;
        old = held;
        store = bases-known code new e.fit;
        mode = (
          whole-at code (length new) e.trace.known [] x none held (started code f args) known
              (stack-more (length new) [] e.trace.known (λ b i. elim i [ ]) (started code f args) known)
              (yields-told code x yields),
          yields-sure code (length new) e.trace.known x yields [] e.trace.known (mentions-new code old new f args e.call e.fit e.extended l e.trace) (λ b i. i),
        );
        frames = tt;
      }

  first-begins : (inputs : List Block) (f : ℕ) (args : List Word) → Fits code inputs f args → Knows code (length inputs) [] [] (first_begins code inputs f args)
  first-begins inputs f args fits = record {
    plain = inputs-hold code inputs fits.blocks;
    old = inputs-hold code inputs fits.blocks;
    store = bases-known code inputs fits.blocks;
    mode = (started-known (length inputs) [] code f args (args-known code inputs f args fits), tt);
    frames = tt;
  }

pub knowing-law : KnownLaw
knowing-law code = record {
  begins = begins code;
  first_begins = first-begins code;
  moves = λ names n ds bs m m' written k e j. move-knows code n ds names bs m m' written k e j;
  stays = λ n ds. stays-knows code n ds;
  next_read = λ n ds. next-read code n ds;
}
