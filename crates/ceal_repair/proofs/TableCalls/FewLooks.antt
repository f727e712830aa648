-- How many contents are looked at.
use Rattle.std.proofs.Common.{◌≡◌, ◌≤◌, ◌+◌, ℕ, inl, inr, List, [], ◌∷◌, length, Some, None, true, false, refl, ap, ◌∙◌, arith}
use Rattle.std.proofs.Math.Nat.{min-le_left, le-min, max-le, eq-or-lt_of_le}
use Rattle.std.proofs.lemmas.Bool.{cases_lt}
use Rattle.std.proofs.lemmas.Bool.Decides.{eqb_tells}
use Rattle.std.specs.Prelude.{min, max, ◌-◌, ◌^◌, ◌<◌, ◌⊎◌, ◌*◌, Option, IfSome, IfNone}
use Rattle.std.specs.Option.{is_some}
use Rattle.ceal_base.specs.declared.word.Place.{Place}
use Rattle.ceal_base.specs.declared.word.Word.{Word}
use Rattle.ceal_code.proofs.Words.SameIsEqual.{some-same, none-some}
use Rattle.ceal_memo.specs.Memo.{Contents as Memo}
use Rattle.ceal_mods.specs.Mods.{Contents}
use Rattle.ceal_order.specs.Stamps.{room_beyond}
use Rattle.ceal_repair.specs.Looks.{looks_owed, touched_owed, due, writes_at, write_count, slots, Grows, CountsOn, NoneDiffers}
use Rattle.ceal_repair.specs.declared.tables.Tables.{Tables}
use Rattle.ceal_trace.specs.Nodes.{Entry, Timeline, TouchesOne, OneMoreNode, SameBut, stamps_in, node_at, without_entry}
use Rattle.ceal_trace.specs.declared.node.Node.TheVariants.{Write}

-- a node is taken out
pub count-without : (s : ℕ) (es : List Entry) → write_count (without_entry s es) ≤ write_count es
count-without s [] = omega arith
count-without s (e ∷ es) = elim (eqb_tells e.stamp s) [
  | inl p ↦ rw p.0 (omega arith)
  | inr p ↦ rw p.0 (let a = count-without s es in omega (arith, a))
]

-- and where it is a write there is one less
pub count-write : (s : ℕ) (p : Place) (v : Word) (es : List Entry) → node_at s es ≡ Some (Write p v) → write_count (without_entry s es) + 1 ≤ write_count es
count-write s p v [] h = none-some (Write p v) h
count-write s p v (e ∷ es) h = elim (eqb_tells e.stamp s) [
  | inl q ↦ rw q.0 (own (some-same e.node (Write p v) (rw q.0 at h)))
  | inr q ↦ rw q.0 (let a = count-write s p v es (rw q.0 at h) in omega (arith, a))
]
  where
    own : e.node ≡ Write p v → write_count es + 1 ≤ writes_at e.node + write_count es
    own k = rw k (omega arith)

-- ---- what was counted

-- as many nodes, and as much room
pub grows-as : (a b : Timeline) → length b.nodes ≡ length a.nodes → b.spare ≡ a.spare → a.touched ≤ b.touched → Grows a b
grows-as a b n s t = record { nodes = omega (arith, n, t); room = inl (omega (arith, n, s)) }

pub grows-still : (a b : Timeline) → b ≡ a → Grows a b
grows-still a b e =
    grows-as a b (ap (λ (x : Timeline). length x.nodes) e) (ap (λ (x : Timeline). x.spare) e) (let t = ap (λ (x : Timeline). x.touched) e in omega (arith, t))

pub grows-then : (a b c : Timeline) → a.touched ≤ b.touched → b.touched ≤ c.touched → Grows a b → Grows b c → Grows a c
grows-then a b c t u g h = record {
  nodes = (let m = g.nodes in let n = h.nodes in omega (arith, m, n));
  room = by g.room h.room;
}
  where
    by : (slots b ≤ slots a) ⊎ (slots b + a.touched ≤ length a.nodes + b.touched + room_beyond) → (slots c ≤ slots b) ⊎ (slots c + b.touched ≤ length b.nodes + c.touched + room_beyond)
        → (slots c ≤ slots a) ⊎ (slots c + a.touched ≤ length a.nodes + c.touched + room_beyond)
    by (inl p) (inl q) = inl (omega (arith, p, q))
    by (inr p) (inl q) = inr (omega (arith, p, q, u))
    by p (inr q) = let m = g.nodes in inr (omega (arith, m, q))

-- nothing was looked at, and the nodes are the same
pub counts-as : (a b : Tables) → b.mods.looked ≡ a.mods.looked → NoneDiffers a b → b.trace ≡ a.trace → b.memo ≡ a.memo → CountsOn a b
counts-as a b l d f m = record {
  looked = omega (arith, l);
  differed = omega (arith, d);
  touched = (let t = ap (λ (x : Timeline). x.touched) f in omega (arith, t));
  grows = λ few. grows-still a.trace b.trace f;
  seed = ap (λ (x : Memo). x.seed) m;
}

pub counts-still : (a b : Tables) → b.mods ≡ a.mods → b.trace ≡ a.trace → b.memo ≡ a.memo → CountsOn a b
counts-still a b e f m = counts-as a b (ap (λ (m : Contents). m.looked) e) (ap (λ (m : Contents). m.differed) e) f m

pub counts-then : (a b c : Tables) → CountsOn a b → CountsOn b c → CountsOn a c
counts-then a b c p q =
    let l = p.looked in
    let m = q.looked in
    let d = p.differed in
    let e = q.differed in
    let t = p.touched in
    let u = q.touched in
    record {
      looked = omega (arith, l, m);
      differed = omega (arith, d, e);
      touched = omega (arith, t, u);
      grows = λ few. grows-then a.trace b.trace c.trace t u (p.grows (omega (arith, few, u))) (q.grows few);
      seed = q.seed ∙ p.seed;
    }

-- ---- what was touched

stamps-long : (es : List Entry) → length (stamps_in es) ≡ length es
stamps-long [] = refl
stamps-long (e ∷ es) = let n = stamps-long es in omega (arith, n)

-- a node was put in, after room was made
pub touched-more : (s : ℕ) (a r b : Timeline) → r.nodes ≡ a.nodes → r.touched ≡ a.touched → TouchesOne r b → OneMoreNode s r.nodes b.nodes → b.touched + length b.nodes ≤ a.touched + length a.nodes + 2
touched-more s a r b e t one more =
    let c = one.counted in
    let m = min-le_left (r.touched + 1) (2 ^ 64 - 1) in
    let l = more.long in
    let x = stamps-long b.nodes in
    let y = stamps-long r.nodes in
    let z = ap (λ (es : List Entry). length es) e in omega (arith, t, c, m, l, x, y, z)

pub touched-on : (a r b : Timeline) → r.touched ≡ a.touched → TouchesOne r b → a.touched ≤ b.touched
touched-on a r b t one = let n = one.no_fewer in omega (arith, t, n)

-- as long as it is counted
pub touched-once : (a b : Timeline) → TouchesOne a b → b.touched < 2 ^ 64 - 1 → b.touched ≡ a.touched + 1
touched-once a b one few = elim (eq-or-lt_of_le (min-le_left (a.touched + 1) (2 ^ 64 - 1))) [
  | inl h ↦ one.counted ∙ h
  | inr h ↦ absurd (let e = one.counted in let k : b.touched + 1 ≤ min (a.touched + 1) (2 ^ 64 - 1) = le-min (omega (arith, e, h)) (omega (arith, few)) in omega (arith, e, k))
]

pub grows-put : (s : ℕ) (a r b : Timeline) → r.nodes ≡ a.nodes → r.touched ≡ a.touched → r.spare ≤ max a.spare (1 + room_beyond) → TouchesOne r b → OneMoreNode s r.nodes b.nodes
    → b.spare + 1 ≡ r.spare → b.touched < 2 ^ 64 - 1 → Grows a b
grows-put s a r b e t most one more spare few =
    let l = more.long in
    let x = stamps-long b.nodes in
    let y = stamps-long r.nodes in
    let z = ap (λ (es : List Entry). length es) e in
    let c = touched-once r b one few in
    record {
      nodes = omega (arith, t, c, l, x, y, z);
      room = elim (cases_lt a.spare (1 + room_beyond)) [
        | inl g ↦ (let h : max a.spare (1 + room_beyond) ≤ 1 + room_beyond = max-le (omega (arith, g)) (omega arith) in inr (omega (arith, most, h, spare, l, x, y, z, t, c)))
        | inr g ↦ (let h : max a.spare (1 + room_beyond) ≤ a.spare = max-le (omega arith) g in inl (omega (arith, most, h, spare, l, x, y, z)))
      ];
    }

pub grows-cut : (s : ℕ) (a b : Timeline) → TouchesOne a b → OneMoreNode s b.nodes a.nodes → b.spare ≡ a.spare + 1 → Grows a b
grows-cut s a b one more spare =
    let n = one.no_fewer in
    let l = more.long in
    let x = stamps-long b.nodes in
    let y = stamps-long a.nodes in record { nodes = omega (arith, n, l, x, y); room = inl (omega (arith, l, x, y, spare)) }

pub grows-but : (s : ℕ) (a b : Timeline) → TouchesOne a b → SameBut s a.nodes b.nodes → b.spare ≡ a.spare → Grows a b
grows-but s a b one same spare =
    let l = ap (λ (ns : List ℕ). length ns) same.stamps in
    let x = stamps-long b.nodes in
    let y = stamps-long a.nodes in grows-as a b (omega (arith, l, x, y)) spare one.no_fewer

-- a node was taken out
pub touched-less : (s : ℕ) (a b : Timeline) → TouchesOne a b → OneMoreNode s b.nodes a.nodes → b.touched + length b.nodes ≤ a.touched + length a.nodes
touched-less s a b one more =
    let c = one.counted in
    let m = min-le_left (a.touched + 1) (2 ^ 64 - 1) in
    let l = more.long in
    let x = stamps-long b.nodes in
    let y = stamps-long a.nodes in omega (arith, c, m, l, x, y)

-- a node was changed
pub touched-same : (s : ℕ) (a b : Timeline) → TouchesOne a b → SameBut s a.nodes b.nodes → b.touched + length b.nodes ≤ a.touched + length a.nodes + 1
touched-same s a b one same =
    let c = one.counted in
    let m = min-le_left (a.touched + 1) (2 ^ 64 - 1) in
    let l = ap (λ (ns : List ℕ). length ns) same.stamps in
    let x = stamps-long b.nodes in
    let y = stamps-long a.nodes in omega (arith, c, m, l, x, y)

-- nothing was touched
pub touched-still : (a b : Tables) → b.trace ≡ a.trace → touched_owed b ≤ touched_owed a
touched-still a b e = let t = ap (λ (x : Timeline). x.touched + length x.nodes) e in omega (arith, t)

-- ---- what is owed

-- one look-up
pub one-look : (a b : Contents) → b.looked ≡ min (a.looked + 1) (2 ^ 64 - 1) → b.looked ≤ a.looked + 1
one-look a b e = let m = min-le_left (a.looked + 1) (2 ^ 64 - 1) in omega (arith, e, m)

pub owed-same : (old new : Tables) → new.mods ≡ old.mods → new.stale ≡ old.stale → looks_owed new ≤ looks_owed old
owed-same old new e f = rw (e, f) (omega arith)

pub due-cut : (old new : Tables) (s : ℕ) → new.trace.nodes ≡ without_entry s old.trace.nodes → looks_owed new ≤ looks_owed old → due new ≤ due old
due-cut old new s is o =
    let a = count-without s old.trace.nodes in
    let b = ap write_count is in omega (arith, o, a, b)

pub due-cut-write : (old new : Tables) (s : ℕ) (p : Place) (v : Word) → node_at s old.trace.nodes ≡ Some (Write p v) → new.trace.nodes ≡ without_entry s old.trace.nodes
    → looks_owed new ≤ looks_owed old + 3 → due new ≤ due old
due-cut-write old new s p v at is o =
    let a = count-write s p v old.trace.nodes at in
    let b = ap write_count is in omega (arith, o, a, b)

pub due-cut-two : (old new : Tables) (s z : ℕ) → new.trace.nodes ≡ without_entry z (without_entry s old.trace.nodes) → looks_owed new ≤ looks_owed old → due new ≤ due old
due-cut-two old new s z is o =
    let a = count-without s old.trace.nodes in
    let c = count-without z (without_entry s old.trace.nodes) in
    let b = ap write_count is in omega (arith, o, a, b, c)

-- what is said of an answer that is there, or is none
pub of-some : {A P : Type 0} (o : Option A) → is_some o ≡ true → IfSome o (λ x. P) → P
of-some None e p = absurd (let no : false ≡ true = e in cc)
of-some (Some x) e p = p

pub of-none : {A P : Type 0} (o : Option A) → is_some o ≡ false → IfNone o P → P
of-none None e p = p
of-none (Some x) e p = absurd (let no : true ≡ false = e in cc)
