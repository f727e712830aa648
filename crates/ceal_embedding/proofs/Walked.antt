-- Lists of cells, from one cell to the next.
use Rattle.std.proofs.Common.{◌≡◌, ◌∙◌, ◌+◌, ◌%◌, ℕ, ℤ, ap, Option, Some, None, List, [], ◌∷◌, refl, sym, subst, IsSome}
use Rattle.std.proofs.Math.Facts.{of_z-to_z}
use Rattle.std.specs.Int.{w64, int_wrapping_add}
use mir.Val.{Fits, of_z, to_z}
use Rattle.ceal_base.specs.declared.word.BlockId.{BlockId}
use Rattle.ceal_base.specs.declared.word.Word.{Word}
use Rattle.ceal_base.specs.declared.word.Word.TheVariants.{Null, Block as BlockWord}
use Rattle.ceal_engine.specs.Engine.{EngineState}
use Rattle.ceal_embedding.specs.Lists.{held, number_in, tail_of, IsListFrom}

module _ (e : EngineState) where
  -- a list with a cell before it
  pub longer : (word tail : Word) (cell : BlockId) (n : ℤ) (ns : List ℤ) → word ≡ BlockWord cell → number_in e cell ≡ Some n → held e (tail_of cell) ≡ Some tail
      → IsListFrom e tail ns → IsListFrom e word (n ∷ ns)
  unfolding IsListFrom
  longer word tail cell n ns is number next list = (cell, tail, is, number, next, list)

  -- what comes after the first cell of a list
  pub record After (cell : BlockId) (ns : List ℤ) : Type 0 where
    pub number : ℤ
    pub rest : List ℤ
    pub tail : Word
    pub same : ns ≡ number ∷ rest
    pub has_number : number_in e cell ≡ Some number
    pub has_tail : held e (tail_of cell) ≡ Some tail
    pub list : IsListFrom e tail rest

  pub after : (word : Word) (cell : BlockId) (ns : List ℤ) → word ≡ BlockWord cell → IsListFrom e word ns → After cell ns
  unfolding IsListFrom
  after word cell [] is h = absurd (none h is)
    where
      none : word ≡ Null → word ≡ BlockWord cell → ⊥
      none a b = cc
  after word cell (n ∷ ns) is h = record {
    number = n;
    rest = ns;
    tail = h.1;
    same = refl;
    has_number = subst (λ (b : BlockId). number_in e b ≡ Some n) (same h.0 h.2 is) h.3;
    has_tail = subst (λ (b : BlockId). held e (tail_of b) ≡ Some h.1) (same h.0 h.2 is) h.4;
    list = h.5;
  }
    where
      same : (b : BlockId) → word ≡ BlockWord b → word ≡ BlockWord cell → b ≡ cell
      same b p q = cc

  -- a word that is no block begins no cell
  pub ends : (word : Word) (ns : List ℤ) → ((b : BlockId) → word ≡ BlockWord b → ⊥) → IsListFrom e word ns → word ≡ Null
  unfolding IsListFrom
  ends word [] other h = h
  ends word (n ∷ ns) other h = absurd (other h.0 h.2)

  pub empty : (word : Word) → word ≡ Null → IsListFrom e word []
  unfolding IsListFrom
  empty word h = h

  -- what the tail holds is one word
  pub same-tail : (cell : BlockId) (a b : Word) (ns : List ℤ) → held e (tail_of cell) ≡ Some a → held e (tail_of cell) ≡ Some b → IsListFrom e a ns → IsListFrom e b ns
  same-tail cell a b ns h k list = subst (λ (w : Word). IsListFrom e w ns) (one a b (sym h ∙ k)) list
    where
      one : (x y : Word) → Some x ≡ Some y → x ≡ y
      one x y q = cc

pub some-of : {A : Type 0} {o : Option A} {x : A} → o ≡ Some x → IsSome o
some-of {A = A} {o = o} {x = x} h = subst (λ (p : Option A). IsSome p) (sym h) refl

pub not-none : {A : Type 0} (o : Option A) → o ≡ None → IsSome o → ⊥
not-none None e h = cc
not-none (Some x) e h = cc

-- a sum as the processor makes it
pub wraps : (b : ℕ) (n : ℤ) → Fits w64 b → int_wrapping_add w64 (to_z w64 b) n ≡ to_z w64 ((b + of_z w64 n) % 18446744073709551616)
wraps b n fits = ap (λ (k : ℕ). to_z w64 ((k + of_z w64 n) % 18446744073709551616)) (of_z-to_z fits)
