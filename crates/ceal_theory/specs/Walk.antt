-- The store along flat items, and what a repair does where it finds nothing stale.
use Rattle.std.specs.Prelude.{◌≡◌, ◌↔◌, ◌⊎◌, ℕ, List, [], ◌∷◌, ◌++◌, ⊤, if◌then◌else◌}
use Rattle.ceal_base.specs.Trace.{Trace, flat}
use Rattle.ceal_base.specs.declared.forest.Item.{Item}
use Rattle.ceal_base.specs.declared.forest.Item.TheVariants.{Step, Alloc, Write, Read, End}
use Rattle.ceal_base.specs.declared.forest.UnitId.{UnitId}
use Rattle.ceal_base.specs.declared.word.Place.{Place}
use Rattle.ceal_base.specs.declared.word.Word.{Word}
use Rattle.ceal_code.specs.Program.{Code}
use Rattle.ceal_base.specs.Operators.{same_block, same_place}
use Rattle.ceal_code.specs.Replay.{Store, cell_default, shape_of, cleared, stored, Honest}
use Rattle.ceal_code.specs.Value.{field_kind}
use Rattle.ceal_theory.specs.Repair.{State, Fix}

-- with the effect of an item
abbrev pub store_item : Code → Store → Item → Store
store_item code s (Alloc b key) = cleared code s b key
store_item code s (Write p value) = stored s p value
store_item code s Step = s
store_item code s (Read p value u v args) = s
store_item code s End = s

-- and of items in their order
abbrev pub store_after : Code → Store → List Item → Store
store_after code s [] = s
store_after code s (i ∷ is) = store_after code (store_item code s i) is

-- a read records what the store has
abbrev pub Agrees : Store → Item → Type 0
Agrees s (Read p value u v args) = s p ≡ value
Agrees s Step = ⊤
Agrees s (Alloc b key) = ⊤
Agrees s (Write p value) = ⊤
Agrees s End = ⊤

-- each item agrees with the store before it
abbrev pub AgreesAll : Code → Store → List Item → Type 0
AgreesAll code s [] = ⊤
AgreesAll code s (i ∷ is) = Agrees s i × AgreesAll code (store_item code s i) is

-- a trace is honest where each flat read agrees with the walk, and the walk gives the store at the end
abbrev pub WalkLaw : Type 0
WalkLaw = (code : Code)
    → ((s t : Store) (l : Trace) → Honest code s l t ↔ (AgreesAll code s (flat l) × (t ≡ store_after code s (flat l))))
    × ((s : Store) (is js : List Item) → store_after code s (is ++ js) ≡ store_after code (store_after code s is) js)

-- the content of one place after items: that of the last write, or the default since its block was allocated
abbrev pub content_item : Code → Place → Word → Item → Word
content_item code p now (Alloc b key) =
    if same_block p.block b then cell_default (field_kind code.structs (shape_of code key) p.field) else now
content_item code p now (Write q value) = if same_place p q then value else now
content_item code p now Step = now
content_item code p now (Read q value u v args) = now
content_item code p now End = now

-- what a place holds after items, where it held `now`
abbrev pub content_after : Code → Place → Word → List Item → Word
content_after code p now [] = now
content_after code p now (i ∷ is) = content_after code p (content_item code p now i) is

abbrev pub ContentLaw : Type 0
ContentLaw =
    (code : Code) (s : Store) (is : List Item) (p : Place) → store_after code s is p ≡ content_after code p (s p) is

-- the first read that does not agree, with the items before it, which do, and those after it
pub record Stale (code : Code) (s : Store) (is : List Item) : Type 0 where
  pub front : List Item
  pub place : Place
  pub value : Word
  pub unit : UnitId
  pub var : ℕ
  pub args : List Word
  pub back : List Item
  pub split : is ≡ front ++ Read place value unit var args ∷ back
  pub agrees : AgreesAll code s front
  pub stale : ¬ (store_after code s front place ≡ value)

abbrev pub StaleLaw : Type 0
StaleLaw = (code : Code) (s : Store) (is : List Item) → AgreesAll code s is ⊎ Stale code s is

-- with another store
abbrev pub with_store : State → Store → State
with_store s t = record s { store = t }

-- an honest stretch is left as it is
abbrev pub HonestFixLaw : Type 0
HonestFixLaw =
    (code : Code) (names : ℕ → ℕ) (s : State) (l : Trace) (t : Store) → Honest code s.store l t
    → Fix code names s l (with_store s t) l

-- what is before the first read that is stale stays as it is
abbrev pub PrefixLaw : Type 0
PrefixLaw = (code : Code) (names : ℕ → ℕ) (s s' : State) (l m : Trace) → Fix code names s l s' m
    → (h : Stale code s.store (flat l)) → (rest : List Item) × (flat m ≡ h.front ++ rest)
