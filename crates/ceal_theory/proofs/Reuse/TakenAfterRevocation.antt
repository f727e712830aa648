-- What is taken from old nodes stays when nodes before it are revoked.
use Rattle.std.proofs.Common.{◌≡◌, ℕ, zero, suc, Bool, true, false, if◌then◌else◌, Option, Some, None, List, [], ◌∷◌, ◌++◌, refl, sym, ap, ◌∙◌}
use Rattle.ceal_base.specs.Trace.{Trace, Nothing, Stepped, Allocated, Wrote, WasRead, trace_then}
use Rattle.ceal_base.specs.declared.forest.Item.TheVariants.{End}
use Rattle.ceal_base.specs.declared.forest.Key.{Key}
use Rattle.ceal_base.specs.declared.forest.UnitId.{UnitId}
use Rattle.ceal_base.specs.declared.word.BlockId.{BlockId}
use Rattle.ceal_base.specs.declared.word.Place.{Place}
use Rattle.ceal_base.specs.declared.word.Word.{Word}
use Rattle.ceal_theory.proofs.Reuse.FlatTake.{alloc-followed, read-followed}
use Rattle.ceal_theory.specs.Groves.{Knot, bare_alloc, bare_read, first_has, first_reads, Lacks, LacksRead, TakingLaw, Grove, Bare, Made, Put, Got, stepped, trace_in, knots, joined, cut, bare}
use Rattle.ceal_theory.specs.Levels.{same_read}
use Rattle.ceal_theory.specs.Take.{TakenAlloc, TakenRead, same_key, alloc_then, read_then, take_alloc, take_read}

bare-followed : (f g : Trace) → bare (trace_then f g) ≡ trace_then (bare f) (bare g)
bare-followed Nothing g = refl
bare-followed (Stepped rest) g = bare-followed rest g
bare-followed (Allocated b key rest) g = ap (Allocated b key) (bare-followed rest g)
bare-followed (Wrote p v rest) g = ap (Wrote p v) (bare-followed rest g)
bare-followed (WasRead p v u x args inside rest) g = ap (WasRead p v u x args inside) (bare-followed rest g)

bare-bare : (f : Trace) → bare (bare f) ≡ bare f
bare-bare Nothing = refl
bare-bare (Stepped rest) = bare-bare rest
bare-bare (Allocated b key rest) = ap (Allocated b key) (bare-bare rest)
bare-bare (Wrote p v rest) = ap (Wrote p v) (bare-bare rest)
bare-bare (WasRead p v u x args inside rest) = ap (WasRead p v u x args inside) (bare-bare rest)

pub bare-stepped : (n : ℕ) (t : Trace) → bare (stepped n t) ≡ bare t
bare-stepped zero t = refl
bare-stepped (suc n) t = bare-stepped n t

bare-then : (rest : Trace) (a c c' : Option TakenAlloc) → bare_alloc c ≡ bare_alloc c' → bare_alloc (alloc_then (bare rest) a c) ≡ bare_alloc (alloc_then rest a c')
bare-then rest None c c' e = e
bare-then rest (Some t) c c' e = ap (λ l. Some (record t { leftover = l }))
    (bare-followed t.leftover (bare rest) ∙ (ap (λ r. trace_then (bare t.leftover) r) (bare-bare rest) ∙ sym
    (bare-followed t.leftover rest)))

bare-if : (b : Bool) (block : BlockId) (rest : Trace) (c c' : Option TakenAlloc) → bare_alloc c ≡ bare_alloc c'
    → bare_alloc (if b then Some (record { block = block; leftover = bare rest }) else c) ≡ bare_alloc (if b then Some (record { block = block; leftover = rest }) else c')
bare-if true block rest c c' e = ap (λ l. Some (record { block = block; leftover = l })) (bare-bare rest)
bare-if false block rest c c' e = e

-- steps between the items do not matter
pub bare-take : (key : Key) (l : Trace) → bare_alloc (take_alloc key (bare l)) ≡ bare_alloc (take_alloc key l)
unfolding take_alloc
bare-take key Nothing = refl
bare-take key (Stepped rest) = bare-take key rest
bare-take key (Allocated b k rest) = bare-if (same_key k key) b rest (take_alloc key (bare rest)) (take_alloc key rest) (bare-take key rest)
bare-take key (Wrote p v rest) = bare-take key rest
bare-take key (WasRead p v u x args inside rest) = bare-then rest (take_alloc key inside) (take_alloc key (bare rest)) (take_alloc key rest) (bare-take key rest)

bare-then-read : (rest : Trace) (a c c' : Option TakenRead) → bare_read c ≡ bare_read c' → bare_read (read_then (bare rest) a c) ≡ bare_read (read_then rest a c')
bare-then-read rest None c c' e = e
bare-then-read rest (Some t) c c' e = ap (λ l. Some (record t { leftover = l }))
    (bare-followed t.leftover (bare rest) ∙ (ap (λ r. trace_then (bare t.leftover) r) (bare-bare rest) ∙ sym
    (bare-followed t.leftover rest)))

bare-if-read : (b : Bool) (v : Word) (inside rest : Trace) (c c' : Option TakenRead) → bare_read c ≡ bare_read c'
    → bare_read (if b then Some (record { value = v; inside = inside; leftover = bare rest }) else c) ≡ bare_read (if b then Some (record { value = v; inside = inside; leftover = rest }) else c')
bare-if-read true v inside rest c c' e = ap (λ l. Some (record { value = v; inside = inside; leftover = l })) (bare-bare rest)
bare-if-read false v inside rest c c' e = e

pub bare-take-read : (p : Place) (u : UnitId) (x : ℕ) (args : List Word) (l : Trace) → bare_read (take_read p u x args (bare l)) ≡ bare_read (take_read p u x args l)
unfolding take_read
bare-take-read p u x args Nothing = refl
bare-take-read p u x args (Stepped rest) = bare-take-read p u x args rest
bare-take-read p u x args (Allocated b k rest) = bare-take-read p u x args rest
bare-take-read p u x args (Wrote q v rest) = bare-take-read p u x args rest
bare-take-read p u x args (WasRead q v w y words inside rest) =
    bare-if-read (same_read q w y words p u x args) v inside rest
    (read_then (bare rest) (take_read p u x args inside) (take_read p u x args (bare rest)))
    (read_then rest (take_read p u x args inside) (take_read p u x args rest))
    (bare-then-read rest (take_read p u x args inside) (take_read p u x args (bare rest)) (take_read p u x args rest) (bare-take-read p u x args rest))

-- the trace of nodes that were parts
stepped-followed : (n : ℕ) (f g : Trace) → trace_then (stepped n f) g ≡ stepped n (trace_then f g)
stepped-followed zero f g = refl
stepped-followed (suc n) f g = ap Stepped (stepped-followed n f g)

pub trace-joined : (f g : Grove) → trace_in (joined f g) ≡ trace_then (trace_in f) (trace_in g)
trace-joined Bare g = refl
trace-joined (Made s b key n rest) g = ap (λ t. Allocated b key (stepped n t)) (trace-joined rest g) ∙ ap (Allocated b key) (sym (stepped-followed n (trace_in rest) (trace_in g)))
trace-joined (Put s p v n rest) g = ap (λ t. Wrote p v (stepped n t)) (trace-joined rest g) ∙ ap (Wrote p v) (sym (stepped-followed n (trace_in rest) (trace_in g)))
trace-joined (Got s p v u x args n inside e m rest) g =
    ap (λ t. WasRead p v u x args (stepped n (trace_in inside)) (stepped m t)) (trace-joined rest g) ∙ ap
    (WasRead p v u x args (stepped n (trace_in inside))) (sym (stepped-followed m (trace_in rest) (trace_in g)))

take-stepped : (key : Key) (n : ℕ) (t : Trace) → take_alloc key (stepped n t) ≡ take_alloc key t
unfolding take_alloc
take-stepped key zero t = refl
take-stepped key (suc n) t = take-stepped key n t

take-stepped-read : (p : Place) (u : UnitId) (x : ℕ) (args : List Word) (n : ℕ) (t : Trace) → take_read p u x args (stepped n t) ≡ take_read p u x args t
unfolding take_read
take-stepped-read p u x args zero t = refl
take-stepped-read p u x args (suc n) t = take-stepped-read p u x args n t

then-stepped : (m : ℕ) (rest : Trace) (a c : Option TakenAlloc) → bare_alloc (alloc_then rest a c) ≡ bare_alloc (alloc_then (stepped m rest) a c)
then-stepped m rest None c = refl
then-stepped m rest (Some t) c =
    ap (λ l. Some (record t { leftover = l }))
    (bare-followed t.leftover rest ∙ (ap (λ r. trace_then (bare t.leftover) r) (sym (bare-stepped m rest)) ∙ sym (bare-followed t.leftover (stepped m rest))))

then-stepped-read : (m : ℕ) (rest : Trace) (a c : Option TakenRead) → bare_read (read_then rest a c) ≡ bare_read (read_then (stepped m rest) a c)
then-stepped-read m rest None c = refl
then-stepped-read m rest (Some t) c =
    ap (λ l. Some (record t { leftover = l }))
    (bare-followed t.leftover rest ∙ (ap (λ r. trace_then (bare t.leftover) r) (sym (bare-stepped m rest)) ∙ sym (bare-followed t.leftover (stepped m rest))))

-- to revoke the first node, where it has not the key, changes nothing of what is taken
pub cut-take : (key : Key) (g : Grove) → first_has key g ≡ false → bare_alloc (take_alloc key (trace_in (cut g))) ≡ bare_alloc (take_alloc key (trace_in g))
unfolding take_alloc
cut-take key Bare e = refl
cut-take key (Made s b k n rest) e = rw e (ap bare_alloc (sym (take-stepped key n (trace_in rest))))
cut-take key (Put s p v n rest) e = ap bare_alloc (sym (take-stepped key n (trace_in rest)))
cut-take key (Got s p v u x args n inside en m rest) e =
    rw (trace-joined inside rest, alloc-followed key (trace_in inside) (trace_in rest), take-stepped key n (trace_in inside), take-stepped key m (trace_in rest))
    (then-stepped m (trace_in rest) (take_alloc key (trace_in inside)) (take_alloc key (trace_in rest)))

pub cut-take-read : (p : Place) (u : UnitId) (x : ℕ) (args : List Word) (g : Grove) → first_reads p u x args g ≡ false
    → bare_read (take_read p u x args (trace_in (cut g))) ≡ bare_read (take_read p u x args (trace_in g))
unfolding take_read
cut-take-read p u x args Bare e = refl
cut-take-read p u x args (Made s b k n rest) e = ap bare_read (sym (take-stepped-read p u x args n (trace_in rest)))
cut-take-read p u x args (Put s q v n rest) e = ap bare_read (sym (take-stepped-read p u x args n (trace_in rest)))
cut-take-read p u x args (Got s q v w y words n inside en m rest) e =
    rw (e, trace-joined inside rest, read-followed p u x args (trace_in inside) (trace_in rest), take-stepped-read p u x args n (trace_in inside), take-stepped-read p u x args m (trace_in rest))
    (then-stepped-read m (trace_in rest) (take_read p u x args (trace_in inside)) (take_read p u x args (trace_in rest)))

-- the first node that has the key is taken
pub found-take : (key : Key) (s : ℕ) (b : BlockId) (k : Key) (n : ℕ) (rest : Grove) → same_key k key ≡ true
    → take_alloc key (trace_in (Made s b k n rest)) ≡ Some (record { block = b; leftover = stepped n (trace_in rest) })
unfolding take_alloc
found-take key s b k n rest e = rw e refl

pub found-take-read : (p : Place) (u : UnitId) (x : ℕ) (args : List Word) (s : ℕ) (q : Place) (v : Word) (w : UnitId) (y : ℕ) (words : List Word) (n : ℕ) (inside : Grove) (e m : ℕ) (rest : Grove)
    → same_read q w y words p u x args ≡ true
    → take_read p u x args (trace_in (Got s q v w y words n inside e m rest)) ≡ Some (record { value = v; inside = stepped n (trace_in inside); leftover = stepped m (trace_in rest) })
unfolding take_read
found-take-read p u x args s q v w y words n inside e m rest h = rw h refl

lacks-front : (key : Key) (f g : List Knot) → Lacks key (f ++ g) → Lacks key f
lacks-front key [] g h = tt
lacks-front key (k ∷ ks) g h = (h.0, lacks-front key ks g h.1)

lacks-back : (key : Key) (f g : List Knot) → Lacks key (f ++ g) → Lacks key g
lacks-back key [] g h = h
lacks-back key (k ∷ ks) g h = lacks-back key ks g h.1

-- and nothing is taken
pub absent-take : (key : Key) (g : Grove) → Lacks key (knots g) → take_alloc key (trace_in g) ≡ None
unfolding take_alloc
absent-take key Bare h = refl
absent-take key (Made s b k n rest) h = rw (h.0, take-stepped key n (trace_in rest)) (absent-take key rest h.1)
absent-take key (Put s p v n rest) h = rw (take-stepped key n (trace_in rest)) (absent-take key rest h.1)
absent-take key (Got s p v u x args n inside e m rest) h =
    rw (
      take-stepped key n (trace_in inside),
      take-stepped key m (trace_in rest),
      absent-take key inside (lacks-front key (knots inside) (record { stamp = e; item = End; steps = m } ∷ knots rest) h.1),
      absent-take key rest (lacks-back key (knots inside) (record { stamp = e; item = End; steps = m } ∷ knots rest) h.1).1,
    ) refl

lacks-front-read : (p : Place) (u : UnitId) (x : ℕ) (args : List Word) (f g : List Knot) → LacksRead p u x args (f ++ g) → LacksRead p u x args f
lacks-front-read p u x args [] g h = tt
lacks-front-read p u x args (k ∷ ks) g h = (h.0, lacks-front-read p u x args ks g h.1)

lacks-back-read : (p : Place) (u : UnitId) (x : ℕ) (args : List Word) (f g : List Knot) → LacksRead p u x args (f ++ g) → LacksRead p u x args g
lacks-back-read p u x args [] g h = h
lacks-back-read p u x args (k ∷ ks) g h = lacks-back-read p u x args ks g h.1

pub absent-take-read : (p : Place) (u : UnitId) (x : ℕ) (args : List Word) (g : Grove) → LacksRead p u x args (knots g) → take_read p u x args (trace_in g) ≡ None
unfolding take_read
absent-take-read p u x args Bare h = refl
absent-take-read p u x args (Made s b k n rest) h = rw (take-stepped-read p u x args n (trace_in rest)) (absent-take-read p u x args rest h.1)
absent-take-read p u x args (Put s q v n rest) h = rw (take-stepped-read p u x args n (trace_in rest)) (absent-take-read p u x args rest h.1)
absent-take-read p u x args (Got s q v w y words n inside e m rest) h =
    rw (
      h.0,
      take-stepped-read p u x args n (trace_in inside),
      take-stepped-read p u x args m (trace_in rest),
      absent-take-read p u x args inside (lacks-front-read p u x args (knots inside) (record { stamp = e; item = End; steps = m } ∷ knots rest) h.1),
      absent-take-read p u x args rest (lacks-back-read p u x args (knots inside) (record { stamp = e; item = End; steps = m } ∷ knots rest) h.1).1,
    ) refl

pub taking-law : TakingLaw
taking-law = record {
  alloc_kept = cut-take;
  alloc_found = found-take;
  alloc_absent = absent-take;
  read_kept = cut-take-read;
  read_found = found-take-read;
  read_absent = absent-take-read;
}
