-- What the places of an engine held at the end when they were marked.
use Rattle.std.specs.Prelude.{◌≡◌, Bool, true, [], unwrap_or}
use Rattle.ceal_base.specs.Access.{word_in}
use Rattle.ceal_base.specs.Fitting.{kind_in}
use Rattle.ceal_base.specs.declared.word.Place.{Place}
use Rattle.ceal_base.specs.declared.word.Word.{Word}
use Rattle.ceal_base.specs.declared.word.Word.TheVariants.{Null}
use Rattle.ceal_code.specs.Value.{is_cell}
use Rattle.ceal_engine.specs.Engine.{EngineState, block_in, stored_at}
use Rattle.ceal_mods.specs.Marks.{held_in}

-- what a place held at the end when the places were marked
abbrev pub held_at_mark : EngineState → Place → Word
held_at_mark e p = held_in (unwrap_or e.marked []) p

-- what a place holds at the end of the run
abbrev pub held_at_end : EngineState → Place → Word
held_at_end e p = word_in (stored_at e.memory p.block) p.field Null

-- the place is that of a modifiable of an input or of a core block
abbrev pub is_modifiable : EngineState → Place → Bool
is_modifiable e p = is_cell (kind_in e.code.structs (block_in e p.block) p.field)

abbrev pub IsModifiable : EngineState → Place → Type 0
IsModifiable e p = is_modifiable e p ≡ true
