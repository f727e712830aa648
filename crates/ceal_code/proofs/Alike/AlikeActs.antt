-- What a step that is like another one is.
use Rattle.std.proofs.Common.{◌≡◌, ℕ, List, refl}
use Rattle.ceal_base.specs.declared.forest.Key.{Key}
use Rattle.ceal_base.specs.declared.forest.UnitId.{UnitId}
use Rattle.ceal_base.specs.declared.word.Place.{Place}
use Rattle.ceal_base.specs.declared.word.Word.{Word}
use Rattle.ceal_code.specs.Alike.{Pairs, PlaceAlike, WordAlike, WordsAlike, KeyAlike, VariablesAlike, StackAlike, ActAlike}
use Rattle.ceal_code.specs.Step.{Stack, Act, Over, Quiet, Makes, Writes, Reads}
use Rattle.ceal_code.specs.Value.{Variables}

pub record QuietToo (ps : Pairs) (after : Stack) (a : Act) : Type 0 where
  pub after' : Stack
  pub is : a ≡ Quiet after'
  pub alike : StackAlike ps after after'

pub record MakesToo (ps : Pairs) (key : Key) (v u i : ℕ) (env : Variables) (below : Stack) (a : Act) : Type 0 where
  pub key' : Key
  pub env' : Variables
  pub below' : Stack
  pub is : a ≡ Makes key' v u i env' below'
  pub keys : KeyAlike ps key key'
  pub envs : VariablesAlike ps env env'
  pub alike : StackAlike ps below below'

pub record WritesToo (ps : Pairs) (p : Place) (value : Word) (after : Stack) (a : Act) : Type 0 where
  pub p' : Place
  pub value' : Word
  pub after' : Stack
  pub is : a ≡ Writes p' value' after'
  pub places : PlaceAlike ps p p'
  pub words : WordAlike ps value value'
  pub alike : StackAlike ps after after'

pub record ReadsToo (ps : Pairs) (p : Place) (u : UnitId) (v : ℕ) (args : List Word) (below : Stack) (a : Act) : Type 0 where
  pub p' : Place
  pub args' : List Word
  pub below' : Stack
  pub is : a ≡ Reads p' u v args' below'
  pub places : PlaceAlike ps p p'
  pub words : WordsAlike ps args args'
  pub alike : StackAlike ps below below'

pub over-too : (ps : Pairs) (a : Act) → ActAlike ps Over a → a ≡ Over
over-too ps a ActAlike.over = refl

pub quiet-too : (ps : Pairs) (after : Stack) (a : Act) → ActAlike ps (Quiet after) a → QuietToo ps after a
quiet-too ps after a (ActAlike.quiet {st' = after'} k) = record { after' = after'; is = refl; alike = k }

pub makes-too : (ps : Pairs) (key : Key) (v u i : ℕ) (env : Variables) (below : Stack) (a : Act) → ActAlike ps (Makes key v u i env below) a → MakesToo ps key v u i env below a
makes-too ps key v u i env below a (ActAlike.makes {k' = key'} {env' = env'} {st' = below'} kk kv ks) =
    record { key' = key'; env' = env'; below' = below'; is = refl; keys = kk; envs = kv; alike = ks }

pub writes-too : (ps : Pairs) (p : Place) (value : Word) (after : Stack) (a : Act) → ActAlike ps (Writes p value after) a → WritesToo ps p value after a
writes-too ps p value after a (ActAlike.writes {q = p'} {w = value'} {st' = after'} kp kv ks) =
    record { p' = p'; value' = value'; after' = after'; is = refl; places = kp; words = kv; alike = ks }

pub reads-too : (ps : Pairs) (p : Place) (u : UnitId) (v : ℕ) (args : List Word) (below : Stack) (a : Act) → ActAlike ps (Reads p u v args below) a → ReadsToo ps p u v args below a
reads-too ps p u v args below a (ActAlike.reads {q = p'} {ws = args'} {st' = below'} kp ka ks) =
    record { p' = p'; args' = args'; below' = below'; is = refl; places = kp; words = ka; alike = ks }
