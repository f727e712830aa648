-- A step depends only on the plain words of known blocks, and leads to known blocks.
use Rattle.std.proofs.Common.{◌≡◌, ℕ, ◌+◌, ◌^◌, nat_lt, pos, negsuc, ◌&&◌, Bool, true, false, List, [], ◌∷◌, if◌then◌else◌, ap, is_some}
use Rattle.ceal_base.specs.Access.{of_struct, is_struct, place_in}
use Rattle.ceal_base.specs.declared.forest.Key.{Key}
use Rattle.ceal_base.specs.declared.forest.Key.TheVariants.{Init, ModInt as IntKey, ModPtr as PtrKey}
use Rattle.ceal_base.specs.Operators.{picked_element}
use Rattle.ceal_base.specs.declared.kind.Shape.TheVariants.{Struct}
use Rattle.ceal_base.specs.declared.typed.StructInfo.{StructInfo}
use Rattle.ceal_base.specs.declared.word.BlockId.{BlockId}
use Rattle.ceal_base.specs.declared.word.BlockId.TheVariants.{Input, Core}
use Rattle.ceal_base.specs.declared.word.Place.{Place}
use Rattle.ceal_base.specs.declared.word.Word.{Word}
use Rattle.ceal_base.specs.declared.word.Word.TheVariants.{Num, Null, Block as BlockWord, At}
use Rattle.ceal_code.proofs.Words.Closed.{Each, OfStack, OfKey, OfAct, Closed, Equal, field_in-of, set-of, words_after_read-of, next-of, next-equal}
use Rattle.ceal_code.proofs.Words.ClosedInit.{made-of, made-equal}
use Rattle.ceal_code.proofs.Words.PickedRows.{Any, any-code}
use Rattle.ceal_code.specs.Init.{made}
use Rattle.ceal_code.specs.Known.{Subset, Agree, Holds, KnownVariables, KnownStack, KnownAct}
use Rattle.ceal_code.specs.Program.{Code}
use Rattle.ceal_code.specs.Replay.{KnownBlock, KnownWord, KnownWords, KnownKey}
use Rattle.ceal_code.specs.Step.{Stack, Empty, Run, Act, Over, Quiet, Makes, Writes, Reads, entered, words_after_read, next}
use Rattle.ceal_code.specs.Value.{Plain, Variables, set, field_kind, is_cell, field_in, expr_value}

module _ (inputs : ℕ) (bs cs : List ℕ) (sub : Subset bs cs) where
  pub block-more : (b : BlockId) → KnownBlock inputs bs b → KnownBlock inputs cs b
  block-more (Input i) h = h
  block-more (Core b) h = sub b h

  pub word-more : (w : Word) → KnownWord inputs bs w → KnownWord inputs cs w
  word-more (Num n) h = h
  word-more Null h = h
  word-more (BlockWord b) h = block-more b h
  word-more (At p) h = block-more p.block h

  pub words-more : (ws : List Word) → KnownWords inputs bs ws → KnownWords inputs cs ws
  words-more [] h = h
  words-more (w ∷ ws) h = (word-more w h.0, words-more ws h.1)

  pub key-more : (key : Key) → KnownKey inputs bs key → KnownKey inputs cs key
  key-more (Init f args) h = words-more args h
  key-more IntKey h = h
  key-more (PtrKey s) h = h

  pub variables-more : (env : Variables) → KnownVariables inputs bs env → KnownVariables inputs cs env
  variables-more env h v = word-more (env v) (h v)

  pub stack-more : (st : Stack) → KnownStack inputs bs st → KnownStack inputs cs st
  stack-more Empty h = h
  stack-more (Run u i env below) h = (variables-more env h.0, stack-more below h.1)

module _ (inputs : ℕ) (bs : List ℕ) where
  pub each-words : (ws : List Word) → KnownWords inputs bs ws → Each (KnownWord inputs bs) ws
  each-words [] h = h
  each-words (w ∷ ws) h = (h.0, each-words ws h.1)

  pub words-each : (ws : List Word) → Each (KnownWord inputs bs) ws → KnownWords inputs bs ws
  words-each [] h = h
  words-each (w ∷ ws) h = (h.0, words-each ws h.1)

  pub of-stack : (st : Stack) → KnownStack inputs bs st → OfStack (KnownWord inputs bs) st
  of-stack Empty h = h
  of-stack (Run u i env below) h = (h.0, of-stack below h.1)

  pub stack-of : (st : Stack) → OfStack (KnownWord inputs bs) st → KnownStack inputs bs st
  stack-of Empty h = h
  stack-of (Run u i env below) h = (h.0, stack-of below h.1)

  of-key : (key : Key) → KnownKey inputs bs key → OfKey (KnownWord inputs bs) key
  of-key (Init f args) h = each-words args h
  of-key IntKey h = h
  of-key (PtrKey s) h = h

  key-of : (key : Key) → OfKey (KnownWord inputs bs) key → KnownKey inputs bs key
  key-of (Init f args) h = words-each args h
  key-of IntKey h = h
  key-of (PtrKey s) h = h

  act-of : (a : Act) → OfAct (KnownWord inputs bs) a → KnownAct inputs bs a
  act-of Over h = h
  act-of (Quiet after) h = stack-of after h
  act-of (Makes key v u i env below) h = (key-of key h.0, h.1, stack-of below h.2)
  act-of (Writes p value after) h = (h.0, h.1, stack-of after h.2)
  act-of (Reads p u v args below) h = (h.0, words-each args h.1, stack-of below h.2)

  pub set-known : (env : Variables) (v : ℕ) (w : Word) → KnownVariables inputs bs env → KnownWord inputs bs w → KnownVariables inputs bs (set env v w)
  set-known = set-of (KnownWord inputs bs) (λ n. tt) tt

  pub words_after_read-known : (code : Code) (u v : ℕ) (args : List Word) (w : Word) (below : Stack) → KnownWords inputs bs args → KnownWord inputs bs w → KnownStack inputs bs below
      → KnownStack inputs bs (entered code u (words_after_read code u v args w) below)
  words_after_read-known code u v args w below h k l =
      stack-of (entered code u (words_after_read code u v args w) below)
      (words_after_read-of (KnownWord inputs bs) (λ n. tt) tt code u v args w below (each-words args h) k (of-stack below l))

  address-known : (b : Bool) (c : BlockId) (field : ℕ) → KnownBlock inputs bs c → KnownWord inputs bs (if b then place_in (BlockWord c) field else Null)
  address-known false c field h = tt
  address-known true c field h = h

  module _ (x : Plain) (has : Holds inputs bs x) where
    field-known : (structs : List StructInfo) (b : BlockId) (s f : ℕ) → KnownBlock inputs bs b
        → KnownWord inputs bs (field_in (field_kind structs (Struct s) f) (of_struct s (x b)) f)
    field-known structs b s f h =
        let k = has b h in
        rw k.there (field_in-of (KnownWord inputs bs) (λ n. tt) tt (field_kind structs (Struct s) f) (is_struct s k.block.shape) k.block f (each-words k.block.words k.known))

    known-if : (row : ℕ) (p : Place) (f : ℕ) (b : Bool) → KnownBlock inputs bs p.block → KnownWord inputs bs (if b then At (record { block = p.block; field = f }) else Null)
    known-if row p f true h = h
    known-if row p f false h = tt

    element-known : (row : ℕ) (w i : Word) → KnownWord inputs bs w → KnownWord inputs bs (picked_element row w i)
    element-known row (At p) (Num (pos i)) h = known-if row p (p.field + i) (nat_lt i row && nat_lt (p.field + i) (2 ^ 32)) h
    element-known row (At p) (Num (negsuc i)) h = tt
    element-known row (At p) Null h = tt
    element-known row (At p) (BlockWord b) h = tt
    element-known row (At p) (At q) h = tt
    element-known row (Num n) i h = tt
    element-known row Null i h = tt
    element-known row (BlockWord b) i h = tt

    known-closed : (structs : List StructInfo) → Closed structs x Any (KnownWord inputs bs)
    known-closed structs = record {
      num = λ n. tt;
      null = tt;
      field = field-known structs;
      address = λ b s f h. address-known (is_cell (field_kind structs (Struct s) f) && is_some (of_struct s (x b))) b f h;
      element = λ env row a i s h. element-known row (expr_value structs x env a) i h;
    }

    module _ (y : Plain) (agree : Agree inputs bs x y) where
      known-equal : (structs : List StructInfo) → Equal structs x y (KnownWord inputs bs)
      known-equal structs = record {
        field = λ b s f h. ap (λ o. field_in (field_kind structs (Struct s) f) (of_struct s o) f) (agree b h);
        address = λ b s f h. ap (λ o. if is_cell (field_kind structs (Struct s) f) && is_some (of_struct s o) then place_in (BlockWord b) f else Null) (agree b h);
      }

      module _ (code : Code) where
        -- the next step knows what the stack knows
        pub next-known : (st : Stack) → KnownStack inputs bs st → KnownAct inputs bs (next code x st)
        next-known st h = act-of (next code x st) (next-of Any (KnownWord inputs bs) code x (known-closed code.structs) (any-code code) st (of-stack st h))

        -- and is the same over more plain words
        pub next-same : (st : Stack) → KnownStack inputs bs st → next code x st ≡ next code y st
        next-same st h = next-equal Any (KnownWord inputs bs) code x (known-closed code.structs) (any-code code) y (known-equal code.structs) st (of-stack st h)

        -- the words of a new block name blocks that its key knows
        pub made-known : (key : Key) → KnownKey inputs bs key → KnownWords inputs bs (made code x key).words
        made-known key h = words-each (made code x key).words (made-of Any (KnownWord inputs bs) code x (known-closed code.structs) (any-code code) key (of-key key h))

        -- and are the same over any plain words that agree on the known blocks
        pub made-same : (key : Key) → KnownKey inputs bs key → made code x key ≡ made code y key
        made-same key h = made-equal Any (KnownWord inputs bs) code x (known-closed code.structs) (any-code code) y (known-equal code.structs) key (of-key key h)
