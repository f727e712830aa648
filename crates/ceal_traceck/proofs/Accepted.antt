-- Flat items beside the steps of the code are those of a trace that the stack yields.
use Rattle.std.proofs.Common.{◌≡◌, Some, List, [], ◌∷◌, ◌++◌, refl, sym, ap, ◌∙◌, subst, append_assoc, append-nil}
use Rattle.std.specs.Prelude.{⊤}
use Rattle.ceal_base.specs.Trace.{Trace, Nothing, Stepped, Allocated, Wrote, WasRead, flat}
use Rattle.ceal_base.specs.declared.forest.Item.{Item}
use Rattle.ceal_base.specs.declared.forest.Item.TheVariants.{Step, Alloc, Write, Read, End}
use Rattle.ceal_base.specs.declared.word.BlockId.TheVariants.{Input, Core}
use Rattle.ceal_code.specs.Init.{made, pointer}
use Rattle.ceal_code.specs.Program.{Code}
use Rattle.ceal_code.specs.Replay.{Yields}
use Rattle.ceal_code.specs.Step.{Stack, Empty, Run, Act, Over, Quiet, Makes, Writes, Reads, entered, words_after_read, next}
use Rattle.ceal_code.specs.Value.{Plain, set}
use Rattle.ceal_traceck.specs.Walk.{Accepts}

-- each block that the items allocate has what its key gives
abbrev pub MadeItems : Code → Plain → List Item → Type 0
MadeItems code x [] = ⊤
MadeItems code x (Step ∷ is) = MadeItems code x is
MadeItems code x (Alloc (Core b) key ∷ is) = (x (Core b) ≡ Some (made code x key)) × MadeItems code x is
MadeItems code x (Alloc (Input i) key ∷ is) = ⊥
MadeItems code x (Write p value ∷ is) = MadeItems code x is
MadeItems code x (Read p value u v args ∷ is) = MadeItems code x is
MadeItems code x (End ∷ is) = MadeItems code x is

module _ (code : Code) (x : Plain) where
  -- what a stack yields is accepted, where what follows it is
  pub yields-accepts : {st : Stack} {l : Trace} → Yields code x st l → (below : List Stack) (is : List Item) → Accepts code x Over below is → Accepts code x (next code x st) below (flat l ++ is)
  yields-accepts (Yields.over e) below is k = rw e k
  yields-accepts (Yields.quiet e r) below is k = rw e (Accepts.quiet (yields-accepts r below is k))
  yields-accepts (Yields.makes e g r) below is k = rw e (Accepts.makes (yields-accepts r below is k))
  yields-accepts (Yields.writes e r) below is k = rw e (Accepts.writes (yields-accepts r below is k))
  yields-accepts (Yields.reads {below = st} {inside = inside} {rest = rest} e r1 r2) below is k =
      rw (e, append_assoc (flat inside) (End ∷ flat rest) is)
      (Accepts.reads (yields-accepts r1 (st ∷ below) (End ∷ (flat rest ++ is)) (Accepts.closes (yields-accepts r2 below is k))))

  -- each stack with this next step yields the trace
  abbrev Yielded : Act → Trace → Type 0
  Yielded a l = (st : Stack) → next code x st ≡ a → Yields code x st l

  -- the items are those of a trace for the running stack, and of one for each stack that waits
  abbrev pub Parsed : List Stack → Act → List Item → Type 0
  Parsed [] a is = (l : Trace) × (is ≡ flat l) × Yielded a l
  Parsed (st ∷ below) a is = (l : Trace) × (rest : List Item) × (is ≡ flat l ++ End ∷ rest) × Yielded a l × Parsed below (next code x st) rest

  -- with items in front of the trace of the running stack
  lift : (below : List Stack) (a b : Act) (f : Trace → Trace) (front : List Item) → ((l : Trace) → flat (f l) ≡ front ++ flat l) → ((l : Trace) → Yielded a l → Yielded b (f l))
      → (is : List Item) → Parsed below a is → Parsed below b (front ++ is)
  lift [] a b f front e y is (l, k, h) = (f l, ap (λ is. front ++ is) k ∙ sym (e l), y l h)
  lift (st ∷ below) a b f front e y is (l, rest, k, h, p) =
      (f l, rest, ap (λ is. front ++ is) k ∙ (sym (append_assoc front (flat l) (End ∷ rest)) ∙ ap (λ is. is ++ End ∷ rest) (sym (e l))), y l h, p)

  pub accepts-parsed : {a : Act} {below : List Stack} {is : List Item} → Accepts code x a below is → MadeItems code x is → Parsed below a is
  accepts-parsed Accepts.ends g = (Nothing, refl, λ st e. Yields.over e)
  accepts-parsed (Accepts.closes {is = is} h) g = (Nothing, is, refl, λ st e. Yields.over e, accepts-parsed h g)
  accepts-parsed (Accepts.quiet {st = st} {below = below} {is = is} h) g =
      lift below (next code x st) (Quiet st) Stepped (Step ∷ []) (λ l. refl) (λ l y s e. Yields.quiet e (y st refl)) is (accepts-parsed h g)
  accepts-parsed (Accepts.makes {key = key} {v = v} {u = u} {i = i} {env = env} {st = st} {b = b} {below = below} {is = is} h) g =
      lift below (next code x (Run u i (set env v (pointer key (Core b))) st)) (Makes key v u i env st) (λ l. Stepped (Allocated (Core b) key l)) (Step ∷ Alloc (Core b) key ∷ []) (λ l. refl)
      (λ l y s e. Yields.makes e g.0 (y (Run u i (set env v (pointer key (Core b))) st) refl)) is (accepts-parsed h g.1)
  accepts-parsed (Accepts.writes {p = p} {value = value} {st = st} {below = below} {is = is} h) g =
      lift below (next code x st) (Writes p value st) (λ l. Stepped (Wrote p value l)) (Step ∷ Write p value ∷ []) (λ l. refl)
      (λ l y s e. Yields.writes e (y st refl)) is (accepts-parsed h g)
  accepts-parsed (Accepts.reads {p = p} {u = u} {v = v} {args = args} {value = value} {st = st} {below = below} {is = is} h) g =
      around (accepts-parsed h g)
    where
      around : Parsed (st ∷ below) (next code x (entered code u.0 (words_after_read code u.0 v args value) Empty)) is → Parsed below (Reads p u v args st) (Step ∷ Read p value u v args ∷ is)
      around (l, rest, k, y, q) =
          let front : List Item = Step ∷ Read p value u v args ∷ (flat l ++ End ∷ []) in
          let same : front ++ rest ≡ Step ∷ Read p value u v args ∷ is = ap (λ is. Step ∷ Read p value u v args ∷ is) (append_assoc (flat l) (End ∷ []) rest ∙ sym k) in
          subst (λ is. Parsed below (Reads p u v args st) is) same
          (lift below (next code x st) (Reads p u v args st) (λ m. Stepped (WasRead p value u v args l m)) front
          (λ m. ap (λ is. Step ∷ Read p value u v args ∷ is) (sym (append_assoc (flat l) (End ∷ []) (flat m))))
          (λ m z s e. Yields.reads e (y (entered code u.0 (words_after_read code u.0 v args value) Empty) refl) (z st refl)) rest q)

  -- items that are accepted with nothing that waits are those of a trace that the stack yields
  pub accepted : (st : Stack) (is : List Item) → Accepts code x (next code x st) [] is → MadeItems code x is → (l : Trace) × (is ≡ flat l) × Yields code x st l
  accepted st is h g = let q = accepts-parsed h g in (q.0, q.1, q.2 st refl)

  pub yielded : (st : Stack) (l : Trace) → Yields code x st l → Accepts code x (next code x st) [] (flat l)
  yielded st l y = subst (λ is. Accepts code x (next code x st) [] is) (append-nil (flat l)) (yields-accepts y [] [] Accepts.ends)
