-- Pairs the other way round.
use Rattle.std.proofs.Common.{ℕ, List, [], ◌∷◌, sym}
use Rattle.ceal_base.specs.Trace.{Trace}
use Rattle.ceal_base.specs.declared.forest.Key.{Key}
use Rattle.ceal_base.specs.declared.word.BlockId.{BlockId}
use Rattle.ceal_base.specs.declared.word.Place.{Place}
use Rattle.ceal_base.specs.declared.word.Word.{Word}
use Rattle.ceal_code.specs.Alike.{Pair, Pairs, Tied, IdAlike, PlaceAlike, WordAlike, WordsAlike, KeyAlike, TraceAlike, OneToOne}

abbrev pub flipped : Pairs → Pairs
flipped [] = []
flipped (p ∷ ps) = record { left = p.right; right = p.left } ∷ flipped ps

tied-flip : (ps : Pairs) (b c : ℕ) → Tied b c ps → Tied c b (flipped ps)
tied-flip (p ∷ ps) b c Tied.here = Tied.here
tied-flip (p ∷ ps) b c (Tied.there t) = Tied.there (tied-flip ps b c t)
tied-flip [] b c t = elim t [ ]

pub tied-back : (ps : Pairs) (b c : ℕ) → Tied c b (flipped ps) → Tied b c ps
tied-back [] b c t = elim t [ ]
tied-back (p ∷ ps) b c t = back p ps b c t (tied-back ps b c)
  where
    back : (p : Pair) (ps : Pairs) (b c : ℕ) → Tied c b (record { left = p.right; right = p.left } ∷ flipped ps) → (Tied c b (flipped ps) → Tied b c ps) → Tied b c (p ∷ ps)
    back p ps b c Tied.here h = Tied.here
    back p ps b c (Tied.there t) h = Tied.there (h t)

pub one-flip : (ps : Pairs) → OneToOne ps → OneToOne (flipped ps)
one-flip ps one = record {
  left = λ b c d s t. one.right c d b (tied-back ps c b s) (tied-back ps d b t);
  right = λ b c d s t. one.left d b c (tied-back ps d b s) (tied-back ps d c t);
}

module _ (ps : Pairs) where
  id-flip : {b c : BlockId} → IdAlike ps b c → IdAlike (flipped ps) c b
  id-flip IdAlike.input = IdAlike.input
  id-flip (IdAlike.core {b = b} {c = c} t) = IdAlike.core (tied-flip ps b c t)

  place-flip : {p q : Place} → PlaceAlike ps p q → PlaceAlike (flipped ps) q p
  place-flip h = record { block = id-flip h.block; field = sym h.field }

  pub word-flip : {v w : Word} → WordAlike ps v w → WordAlike (flipped ps) w v
  word-flip WordAlike.num = WordAlike.num
  word-flip WordAlike.null = WordAlike.null
  word-flip (WordAlike.block h) = WordAlike.block (id-flip h)
  word-flip (WordAlike.at h) = WordAlike.at (place-flip h)

  words-flip : {vs ws : List Word} → WordsAlike ps vs ws → WordsAlike (flipped ps) ws vs
  words-flip WordsAlike.none = WordsAlike.none
  words-flip (WordsAlike.more h k) = WordsAlike.more (word-flip h) (words-flip k)

  key-flip : {k l : Key} → KeyAlike ps k l → KeyAlike (flipped ps) l k
  key-flip (KeyAlike.init h) = KeyAlike.init (words-flip h)
  key-flip KeyAlike.int = KeyAlike.int
  key-flip KeyAlike.pointer = KeyAlike.pointer

  pub trace-flip : {l m : Trace} → TraceAlike ps l m → TraceAlike (flipped ps) m l
  trace-flip TraceAlike.nothing = TraceAlike.nothing
  trace-flip (TraceAlike.stepped h) = TraceAlike.stepped (trace-flip h)
  trace-flip (TraceAlike.allocated b k h) = TraceAlike.allocated (id-flip b) (key-flip k) (trace-flip h)
  trace-flip (TraceAlike.wrote p w h) = TraceAlike.wrote (place-flip p) (word-flip w) (trace-flip h)
  trace-flip (TraceAlike.was_read p w vs i h) = TraceAlike.was_read (place-flip p) (word-flip w) (words-flip vs) (trace-flip i) (trace-flip h)
