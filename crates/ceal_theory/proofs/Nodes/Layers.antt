-- Nodes after the cursor as layers: what is inside the innermost open read, up to its end, then what is around it.
use Rattle.std.proofs.Common.{◌≡◌, ℕ, zero, suc, List, ◌∷◌, ◌++◌, refl, sym, ap, ◌∙◌, subst, append_assoc, append-nil}
use Rattle.ceal_base.specs.declared.forest.Item.TheVariants.{Alloc, Write, Read, End}
use Rattle.ceal_base.specs.declared.forest.Key.{Key}
use Rattle.ceal_base.specs.declared.forest.UnitId.{UnitId}
use Rattle.ceal_base.specs.declared.word.BlockId.{BlockId}
use Rattle.ceal_base.specs.declared.word.Place.{Place}
use Rattle.ceal_base.specs.declared.word.Word.{Word}
use Rattle.ceal_theory.specs.Groves.{Knot, Grove, Bare, Made, Put, Got, knot, knots, Closed, done, alloc', write', read', end', Opened, OpenedLaw}

pub data Layers : ℕ → Type 0 where
  last : (g : Grove) → Layers zero
  more : {n : ℕ} (g : Grove) (e m : ℕ) (ls : Layers n) → Layers (suc n)

abbrev pub spread : {n : ℕ} → Layers n → List Knot
spread (last g) = knots g
spread (more g e m ls) = knots g ++ knot e End m ∷ spread ls

pub record Layered (n : ℕ) (ks : List Knot) : Type 0 where
  pub layers : Layers n
  pub same : ks ≡ spread layers

-- a node in front of the first layer
on-alloc : {n : ℕ} {ks : List Knot} (s : ℕ) (b : BlockId) (key : Key) (m : ℕ) (ls : Layers n) → ks ≡ spread ls → Layered n (knot s (Alloc b key) m ∷ ks)
on-alloc s b key m (last g) e = record { layers = last (Made s b key m g); same = ap (λ l. knot s (Alloc b key) m ∷ l) e }
on-alloc s b key m (more g f k ls) e = record { layers = more (Made s b key m g) f k ls; same = ap (λ l. knot s (Alloc b key) m ∷ l) e }

on-write : {n : ℕ} {ks : List Knot} (s : ℕ) (p : Place) (v : Word) (m : ℕ) (ls : Layers n) → ks ≡ spread ls → Layered n (knot s (Write p v) m ∷ ks)
on-write s p v m (last g) e = record { layers = last (Put s p v m g); same = ap (λ l. knot s (Write p v) m ∷ l) e }
on-write s p v m (more g f k ls) e = record { layers = more (Put s p v m g) f k ls; same = ap (λ l. knot s (Write p v) m ∷ l) e }

-- a read takes the first layer and its end into itself
on-read : {n : ℕ} {ks : List Knot} (s : ℕ) (p : Place) (v : Word) (u : UnitId) (x : ℕ) (args : List Word) (m : ℕ) (ls : Layers (suc n)) → ks ≡ spread ls → Layered n (knot s (Read p v u x args) m ∷ ks)
on-read s p v u x args m (more g f k (last h)) e = record { layers = last (Got s p v u x args m g f k h); same = ap (λ l. knot s (Read p v u x args) m ∷ l) e }
on-read s p v u x args m (more g f k (more h i j ls)) e = record {
  layers = more (Got s p v u x args m g f k h) i j ls;
  same = ap (λ l. knot s (Read p v u x args) m ∷ l) (e ∙ sym (append_assoc (knots g) (knot f End k ∷ knots h) (knot i End j ∷ spread ls)));
}

pub layered : {n : ℕ} {ks : List Knot} → Closed n ks → Layered n ks
layered done = record { layers = last Bare; same = refl }
layered (alloc' s b key m c) = let r = layered c in on-alloc s b key m r.layers r.same
layered (write' s p v m c) = let r = layered c in on-write s p v m r.layers r.same
layered (read' s p v u x args m c) = let r = layered c in on-read s p v u x args m r.layers r.same
layered (end' s m c) = let r = layered c in record { layers = more Bare s m r.layers; same = ap (λ l. knot s End m ∷ l) r.same }

-- the layers of a grove close nothing
pub closed-knots : (g : Grove) {n : ℕ} {ks : List Knot} → Closed n ks → Closed n (knots g ++ ks)
closed-knots Bare c = c
closed-knots (Made s b key m rest) c = alloc' s b key m (closed-knots rest c)
closed-knots (Put s p v m rest) c = write' s p v m (closed-knots rest c)
closed-knots (Got s p v u x args m inside e k rest) {n} {ks} c =
    read' s p v u x args m (subst (λ l. Closed (suc n) l) (sym (append_assoc (knots inside) (knot e End k ∷ knots rest) ks)) (closed-knots inside (end' e k (closed-knots rest c))))

spread-closed : {n : ℕ} (ls : Layers n) → Closed n (spread ls)
spread-closed (last g) = subst (λ l. Closed zero l) (append-nil (knots g)) (closed-knots g done)
spread-closed (more g e m ls) = closed-knots g (end' e m (spread-closed ls))

pub opened : {n : ℕ} {ks : List Knot} → Closed (suc n) ks → Opened n ks
opened {n} {ks} c = go (layered c).layers (layered c).same
  where
    go : (ls : Layers (suc n)) → ks ≡ spread ls → Opened n ks
    go (more g e m ls) h = record { inside = g; end = e; steps = m; rest = spread ls; same = h; closed = spread-closed ls }

pub opened-law : OpenedLaw
opened-law n ks c = opened c
