-- Nodes that are left over are revoked one after another, up to a node.
use Rattle.std.proofs.Common.{◌≡◌, ◌≢◌, ◌≤◌, ℕ, inl, inr, true, Some, List, ◌∙◌, arith}
use Rattle.ceal_base.specs.Block.{Block}
use Rattle.ceal_base.specs.declared.word.Place.{Place}
use Rattle.ceal_code.specs.Program.{Code}
use Rattle.ceal_order.specs.Stamps.{is_in, successor}
use Rattle.ceal_repair.proofs.TableCalls.FewLooks.{counts-then}
use Rattle.ceal_repair.proofs.Revocation.FirstNode.{LeftOf, until-still, is-first, cut-more, cut-there, cut-all, not-none, cursor-there}
use Rattle.ceal_repair.specs.Blocks.{HasBlocks, KeepsReadable}
use Rattle.ceal_repair.specs.Entries.{first_stamp, first_in, starts, CutTo, IsNoneOr, IsUntil, Lies}
use Rattle.ceal_repair.specs.declared.running.Running.{Running}
use Rattle.ceal_repair.specs.Kept.{Kept, base_in}
use Rattle.ceal_repair.specs.Looks.{due, touched_owed, CountsOn, NoneDiffers, KeepsMarks}
use Rattle.ceal_theory.specs.Groves.{Grove, Bare, cut}
use Rattle.ceal_trace.specs.Nodes.{Entry, stamps_in, has_node}

pub record Revoking (cursor until : ℕ) (old now : Running) : Type 0 where
  pub kept : Kept now.tables
  pub left : (front : List Entry) (left : Grove) (tail : List Entry) → Lies cursor front left tail old.tables → IsUntil until left tail → LeftOf cursor until front left tail now.tables
  pub bases : (p : Place) → base_in now.tables.mods p ≡ base_in old.tables.mods p
  pub blocks : KeepsReadable old.heap now.heap
  pub has : (code : Code) (inputs : List Block) → HasBlocks code inputs old.heap old.tables → HasBlocks code inputs now.heap now.tables
  pub spent : now.spent ≡ old.spent
  pub looks : due now.tables ≤ due old.tables
  pub differed : NoneDiffers old.tables now.tables
  pub touched : touched_owed now.tables ≤ touched_owed old.tables
  pub counts : CountsOn old.tables now.tables
  pub marks : KeepsMarks old.tables now.tables

module _ (cursor until : ℕ) (old now : Running) (r : Revoking cursor until old now) where
  pub cursor-is : (front : List Entry) (left : Grove) (tail : List Entry) → Lies cursor front left tail old.tables → IsUntil until left tail → has_node cursor now.tables.trace.nodes ≡ true
  cursor-is front left tail l u = let k = r.left front left tail l u in cursor-there cursor front k.rest tail now.tables r.kept k.lies

  pub next-first : (s : ℕ) → successor cursor (stamps_in now.tables.trace.nodes) ≡ Some s → s ≢ until → (front : List Entry) (left : Grove) (tail : List Entry)
      → (l : Lies cursor front left tail old.tables) (u : IsUntil until left tail) → first_stamp (r.left front left tail l u).rest ≡ Some s
  next-first s n other front left tail l u =
      let k = r.left front left tail l u in
      is-first cursor until s front k.rest tail now.tables r.kept k.lies (until-still cursor until front left tail now.tables k u) n other

  pub one-revoked : (s : ℕ) (new : Running) → successor cursor (stamps_in now.tables.trace.nodes) ≡ Some s → s ≢ until
      → ((front : List Entry) (left : Grove) (tail : List Entry) → Lies cursor front left tail now.tables → first_stamp left ≡ Some s → Lies cursor front (cut left) tail new.tables)
      → ((p : Place) → base_in new.tables.mods p ≡ base_in now.tables.mods p) → KeepsReadable now.heap new.heap
      → ((code : Code) (inputs : List Block) → HasBlocks code inputs now.heap now.tables → HasBlocks code inputs new.heap new.tables) → new.spent ≡ now.spent → due new.tables ≤ due now.tables
      → NoneDiffers now.tables new.tables → touched_owed new.tables ≤ touched_owed now.tables → CountsOn now.tables new.tables → KeepsMarks now.tables new.tables → Kept new.tables
      → Revoking cursor until old new
  one-revoked s new n other lies bases blocks has spent looks differed touched counts marks kept = record {
    kept = kept;
    left = λ front left tail l u.
        let k = r.left front left tail l u in
        let f = next-first s n other front left tail l u in
        cut-more cursor until s front left tail now.tables new.tables k f other (lies front k.rest tail k.lies f);
    bases = λ p. bases p ∙ r.bases p;
    blocks = record { blocks = λ b. blocks.blocks b ∙ r.blocks.blocks b; numbers = blocks.numbers ∙ r.blocks.numbers };
    has = λ code inputs h. has code inputs (r.has code inputs h);
    spent = spent ∙ r.spent;
    looks = omega (arith, looks, r.looks);
    differed = differed ∙ r.differed;
    touched = omega (arith, touched, r.touched);
    counts = counts-then old.tables now.tables new.tables r.counts counts;
    marks = marks ∙ r.marks;
  }

  the-until : (front : List Entry) (left : Grove) (tail : List Entry) → Lies cursor front left tail old.tables → IsUntil until left tail
      → IsNoneOr until (successor cursor (stamps_in now.tables.trace.nodes)) → successor cursor (stamps_in now.tables.trace.nodes) ≡ Some until
  the-until front left tail l u (inl n) = absurd (not-none cursor until front left tail now.tables r.kept (r.left front left tail l u) u n)
  the-until front left tail l u (inr n) = n

  pub revoked-to : IsNoneOr until (successor cursor (stamps_in now.tables.trace.nodes)) → (front : List Entry) (left : Grove) (tail : List Entry) → Lies cursor front left tail old.tables
      → is_in until (starts left) ≡ true → (rest : Grove) × CutTo until left rest × Lies cursor front rest tail now.tables
  revoked-to o front left tail l i = cut-there cursor until front left tail now.tables r.kept (r.left front left tail l (inl i)) i (the-until front left tail l (inl i) o)

  pub all-revoked : IsNoneOr until (successor cursor (stamps_in now.tables.trace.nodes)) → (front : List Entry) (left : Grove) (tail : List Entry) → Lies cursor front left tail old.tables
      → first_in tail ≡ Some until → Lies cursor front Bare tail now.tables
  all-revoked o front left tail l i = cut-all cursor until front left tail now.tables r.kept (r.left front left tail l (inr i)) i (the-until front left tail l (inr i) o)
