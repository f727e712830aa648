-- What is found in an interval of flat items, and flat items renamed.
use Rattle.std.specs.Prelude.{◌≡◌, ℕ, zero, suc, Option, Some, None, List, [], ◌∷◌, ◌++◌, ⊤}
use Rattle.ceal_base.specs.Trace.{Trace, flat}
use Rattle.ceal_base.specs.declared.forest.Item.{Item}
use Rattle.ceal_base.specs.declared.forest.Item.TheVariants.{Step, Alloc, Write, Read, End}
use Rattle.ceal_base.specs.declared.forest.Key.{Key}
use Rattle.ceal_base.specs.declared.forest.UnitId.{UnitId}
use Rattle.ceal_base.specs.declared.word.BlockId.{BlockId}
use Rattle.ceal_base.specs.declared.word.Place.{Place}
use Rattle.ceal_base.specs.declared.word.Word.{Word}
use Rattle.ceal_theory.specs.Levels.{block_of_key, value_of_read, skipped, find_alloc, find_read}
use Rattle.ceal_theory.specs.Named.{id_by, place_by, word_by, words_by, key_by, trace_by}

-- how many reads are open after an item, by how many are open before it; none where it closes more
abbrev pub opens : Item → ℕ → Option ℕ
opens (Read p value u v args) n = Some (suc n)
opens End zero = None
opens End (suc n) = Some n
opens Step n = Some n
opens (Alloc b key) n = Some n
opens (Write p value) n = Some n

-- what follows, where the number is there
abbrev pub then_opens : Option ℕ → (ℕ → Option ℕ) → Option ℕ
then_opens None f = None
then_opens (Some n) f = f n

-- how many reads are open after items
abbrev pub opens_all : List Item → ℕ → Option ℕ
opens_all [] n = Some n
opens_all (i ∷ is) n = then_opens (opens i n) (opens_all is)

-- no item is an allocation with this key
abbrev pub NoAlloc : Key → List Item → Type 0
NoAlloc key [] = ⊤
NoAlloc key (i ∷ is) = (block_of_key i key ≡ None) × NoAlloc key is

-- no item is a read of this place with this unit, variable and arguments
abbrev pub NoRead : Place → UnitId → ℕ → List Word → List Item → Type 0
NoRead p u v args [] = ⊤
NoRead p u v args (i ∷ is) = (value_of_read i p u v args ≡ None) × NoRead p u v args is

-- After n levels are the items after the End that closes them.
-- The first item with the key before the End that closes n levels is found, with the levels that are open there;
-- where there is none before that End nothing is found.
abbrev pub SegmentLaw : Type 0
SegmentLaw = (n k : ℕ) (front : List Item) → opens_all front n ≡ Some k
    → ((back : List Item) → k ≡ 0 → skipped (suc n) (front ++ End ∷ back) ≡ back)
    × ((key : Key) → NoAlloc key front
    → ((i : Item) (block : BlockId) (back : List Item) → block_of_key i key ≡ Some block
    → find_alloc key (suc n) (front ++ i ∷ back) ≡ Some (record { block = block; rest = back; levels = suc k }))
    × ((back : List Item) → k ≡ 0 → find_alloc key (suc n) (front ++ End ∷ back) ≡ None))
    × ((p : Place) (u : UnitId) (v : ℕ) (args : List Word) → NoRead p u v args front
    → ((i : Item) (value : Word) (back : List Item) → value_of_read i p u v args ≡ Some value
    → find_read p u v args (suc n) (front ++ i ∷ back) ≡ Some (record { value = value; rest = back; levels = suc k }))
    × ((back : List Item) → k ≡ 0 → find_read p u v args (suc n) (front ++ End ∷ back) ≡ None))

-- an item with its blocks renamed
abbrev pub item_by : (ℕ → ℕ) → Item → Item
item_by r Step = Step
item_by r (Alloc block key) = Alloc (id_by r block) (key_by r key)
item_by r (Write place value) = Write (place_by r place) (word_by r value)
item_by r (Read place value unit var args) = Read (place_by r place) (word_by r value) unit var (words_by r args)
item_by r End = End

-- the same of each item
abbrev pub items_by : (ℕ → ℕ) → List Item → List Item
items_by r [] = []
items_by r (i ∷ is) = item_by r i ∷ items_by r is

-- to rename flat items is to rename their trace
abbrev pub RenamedItemsLaw : Type 0
RenamedItemsLaw = (r : ℕ → ℕ) (l : Trace) → flat (trace_by r l) ≡ items_by r (flat l)
