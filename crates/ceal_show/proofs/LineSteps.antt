-- The lines of blocks, piece by piece.
use Rattle.std.proofs.Common.{◌≡◌, ℕ, ◌+◌, ◌<◌, ◌≤◌, zero, suc, List, [], ◌∷◌, ◌++◌, length, drop, get_or, Option, Some, None, refl, ap, ◌∙◌, arith, append_assoc, add-one, drop-cons}
use Rattle.std.specs.Prelude.{slice_get, IsTrue}
use Rattle.std.proofs.lemmas.List.{append-nil}
use Rattle.ceal_base.specs.declared.kind.Shape.{Shape}
use Rattle.ceal_base.specs.declared.word.BlockId.{BlockId}
use Rattle.ceal_base.specs.declared.word.Word.{Word}
use Rattle.ceal_show.specs.Graph.{Scene, field_word_text, fields_text, block_text, lines_text}
use Rattle.ceal_show.specs.Paths.{is_in, target_of}
use Rattle.ceal_show.specs.Search.{AreAmong, AreClosed}
use Rattle.ceal_show.specs.Shown.{Shown, shape_at, word_at, target}
use Rattle.ceal_show.proofs.Finding.{drop_get}

-- a block to which a word of a block that is met leads
pub among_target : (memory : Shown) (met : List BlockId) (b : BlockId) (field : ℕ) (w : Word) → AreClosed memory met → IsTrue (is_in b met) → word_at memory b field ≡ Some w
    → AreAmong met (target w)
among_target memory met b field w closed h e = by_target (target w) refl
  where
    by_target : (o : Option BlockId) → target w ≡ o → AreAmong met o
    by_target None f = tt
    by_target (Some c) f = closed.closed b field c h (ap target_of e ∙ f)

module _ (scene : Scene) where
  pub fields_more : (shape : Shape) (out next : List ℕ) (words : List Word) (i : ℕ) (w : Word) → slice_get words i ≡ Some w → next ≡ out ++ field_word_text scene shape i w
      → next ++ fields_text scene shape (i + 1) (drop (i + 1) words) ≡ out ++ fields_text scene shape i (drop i words)
  unfolding fields_text
  fields_more shape out next words i w e f =
      rw (drop_get words i w e, f) (rw add-one (append_assoc out (field_word_text scene shape i w) (fields_text scene shape (suc i) (drop (suc i) words))))

  pub fields_all : (shape : Shape) (out : List ℕ) (words : List Word) (i : ℕ) → length words ≤ i → out ++ fields_text scene shape i (drop i words) ≡ out
  unfolding fields_text
  fields_all shape out [] zero h = append-nil out
  fields_all shape out [] (suc i) h = append-nil out
  fields_all shape out (w ∷ words) zero h = absurd (omega (arith, h))
  fields_all shape out (w ∷ words) (suc i) h = rest words i (omega (arith, h))
    where
      rest : (ws : List Word) (j : ℕ) → length ws ≤ j → out ++ fields_text scene shape (suc i) (drop j ws) ≡ out
      rest [] zero k = append-nil out
      rest [] (suc j) k = append-nil out
      rest (x ∷ ws) zero k = absurd (omega (arith, k))
      rest (x ∷ ws) (suc j) k = rest ws j (omega (arith, k))

  pub lines_more : (out next : List ℕ) (blocks : List BlockId) (i : ℕ) (d : BlockId) → i < length blocks
      → next ≡ out ++ block_text scene (get_or blocks i d) (shape_at scene.memory (get_or blocks i d))
      → next ++ lines_text scene (drop (i + 1) blocks) ≡ out ++ lines_text scene (drop i blocks)
  unfolding lines_text
  lines_more out next blocks i d h f =
      rw (drop-cons blocks i d h, f) (rw add-one (append_assoc out (block_text scene (get_or blocks i d) (shape_at scene.memory (get_or blocks i d))) (lines_text scene (drop (suc i) blocks))))

  pub lines_all : (out : List ℕ) (blocks : List BlockId) (i : ℕ) → length blocks ≤ i → out ++ lines_text scene (drop i blocks) ≡ out
  unfolding lines_text
  lines_all out [] zero h = append-nil out
  lines_all out [] (suc i) h = append-nil out
  lines_all out (b ∷ blocks) zero h = absurd (omega (arith, h))
  lines_all out (b ∷ blocks) (suc i) h = lines_all out blocks i (omega (arith, h))
