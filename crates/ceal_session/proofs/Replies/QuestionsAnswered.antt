-- Which questions are answered, and about what.
use Rattle.std.proofs.Common.{◌≡◌, ℕ, ◌<◌, ◌||◌, Bool, true, false, Option, Some, None, Result, Ok, Err, List, [], ◌∷◌}
use Rattle.std.proofs.Common.{length, map, is_none, is_some, if◌then◌else◌, position, refl, ap, subst, slice_get, arith}
use Rattle.std.specs.List.{list_any}
use Rattle.std.specs.Option.{option_map}
use Rattle.std.specs.Prelude.{bytes_eq}
use Rattle.std.proofs.lemmas.Option.{slice_get-map}
use Rattle.ceal_base.specs.Block.{Block}
use Rattle.ceal_base.specs.Fitting.{kind_in, kind_at, block_fits}
use Rattle.ceal_base.specs.Shapes.{field_kinds, kind_of_field}
use Rattle.ceal_base.specs.declared.kind.FieldKind.{FieldKind}
use Rattle.ceal_base.specs.declared.kind.FieldKind.TheVariants.{Plain as PlainField, CellInt, CellPtr}
use Rattle.ceal_base.specs.declared.kind.Shape.{Shape}
use Rattle.ceal_base.specs.declared.kind.Shape.TheVariants.{Struct, ModInt, ModPtr}
use Rattle.ceal_base.specs.declared.typed.FieldInfo.{FieldInfo}
use Rattle.ceal_base.specs.declared.typed.StructInfo.{StructInfo}
use Rattle.ceal_base.specs.declared.typed.TypedFunction.{TypedFunction}
use Rattle.ceal_base.specs.declared.word.Word.{Word}
use Rattle.ceal_base.specs.declared.word.Word.TheVariants.{Num, Null, Block as BlockWord, At}
use Rattle.ceal_code.specs.Value.{is_cell}
use Rattle.ceal_base.specs.declared.call.Call.{Call}
use Rattle.ceal_script.specs.Lines.{IsLineOf}
use Rattle.ceal_script.specs.declared.command.Command.{Command}
use Rattle.ceal_script.specs.declared.command.Command.TheVariants.{Blank, Mod, New, Set, Run, Propagate, Slice, Get, Show, Blocks, Steps, Work, Bound}
use Rattle.ceal_script.specs.declared.command.PlaceWord.{PlaceWord}
use Rattle.ceal_session.specs.Questions.{IsCellSense, IsFor, CanTell, HasReads}
use Rattle.ceal_session.specs.Runs.{memory_of, run_of}
use Rattle.ceal_session.specs.Senses.{fields_of, fields_numbered, field_named, input_named, block_sense, kind_sense}
use Rattle.ceal_session.specs.Senses.{field_sense, member_sense, part_sense, found_sense, place_sense}
use Rattle.ceal_session.specs.Senses.{value_sense, is_unknown, words_of, mod_shape, struct_shape, struct_named}
use Rattle.ceal_session.specs.Senses.{function_named}
use Rattle.ceal_session.specs.State.{State}
use Rattle.ceal_session.specs.Steps.{Step, refuses, step_of_words, step_of_shape, fits_cell, step_of_word, step_of_set, fits_function}
use Rattle.ceal_session.specs.Steps.{IsFirst, call_of_words, call_of_function, call_of_run, call_again, run_reply, runs}
use Rattle.ceal_session.specs.Steps.{has_no_run, reply_to_query, reply_to_get, reply_to_show, step_of_command, block_of}
use Rattle.ceal_session.specs.declared.refusal.Refusal.{Refusal}
use Rattle.ceal_session.specs.declared.refusal.Refusal.TheVariants.{C2, C3, C4, C5, C6, C7, C8}
use Rattle.ceal_session.specs.declared.reply.Query.{Query}
use Rattle.ceal_session.specs.declared.reply.Query.TheVariants.{Get as GetOf, Show as ShowOf, Blocks as BlocksOf, Steps as StepsOf, Work as WorkOf, Bound as BoundOf}
use Rattle.ceal_session.specs.declared.reply.Reply.TheVariants.{Refused, Told}
use Rattle.ceal_session.specs.declared.sense.Sense.{Sense}
use Rattle.ceal_session.specs.declared.sense.Sense.TheVariants.{Unknown, Plain, Word as IsWord}
use Rattle.ceal_show.specs.Shown.{shape_in}

-- what passes is within the list
position-within : {A : Type 0} (test : A → Bool) (xs : List A) (n : ℕ) → position test xs ≡ Some n → n < length xs
position-within test xs n h = grind (arith, h)

module _ (s : State) where
  -- a place stands for a modifiable of an input
  kind-cell : (n : ℕ) (field : ℕ) (kind : FieldKind) → kind_in s.program.structs (slice_get s.inputs n) field ≡ Some kind → IsCellSense s (kind_sense n field kind)
  kind-cell n field (PlainField kind) h = tt
  kind-cell n field CellInt h = ap is_cell h
  kind-cell n field (CellPtr t) h = ap is_cell h

  block-cell : (n : ℕ) (o : Option Block) → slice_get s.inputs n ≡ o → IsCellSense s (block_sense n (shape_in o))
  block-cell n None h = tt
  block-cell n (Some block) h = go block.shape refl
    where
      go : (shape : Shape) → block.shape ≡ shape → IsCellSense s (block_sense n (Some shape))
      go (Struct t) i = tt
      go ModInt i = rw (h, i) refl
      go (ModPtr t) i = rw (h, i) refl

  get-field : (n number : ℕ) (block : Block) → slice_get s.inputs n ≡ Some block → block.shape ≡ Struct number → (field : ℕ)
      → kind_in s.program.structs (slice_get s.inputs n) field ≡ option_map kind_of_field (slice_get (fields_numbered s number) field)
  get-field n number block h i field = rw (h, i) (go (slice_get s.program.structs number))
    where
      go : (o : Option StructInfo) → slice_get (field_kinds o) field ≡ option_map kind_of_field (slice_get (fields_of o) field)
      go None = refl
      go (Some info) = slice_get-map kind_of_field info.fields field

  field-cell : (n field : ℕ) (o : Option FieldInfo) → kind_in s.program.structs (slice_get s.inputs n) field ≡ option_map kind_of_field o → IsCellSense s (field_sense n field o)
  field-cell n field None h = tt
  field-cell n field (Some info) h = kind-cell n field info.kind h

  member-cell : (n number : ℕ) (block : Block) → slice_get s.inputs n ≡ Some block → block.shape ≡ Struct number → (o : Option ℕ) → IsCellSense s (member_sense n (fields_numbered s number) o)
  member-cell n number block h i None = tt
  member-cell n number block h i (Some field) = field-cell n field (slice_get (fields_numbered s number) field) (get-field n number block h i field)

  part-cell : (n : ℕ) (name : List ℕ) (o : Option Block) → slice_get s.inputs n ≡ o → IsCellSense s (part_sense s n name (shape_in o))
  part-cell n name None h = tt
  part-cell n name (Some block) h = go block.shape refl
    where
      go : (shape : Shape) → block.shape ≡ shape → IsCellSense s (part_sense s n name (Some shape))
      go (Struct number) i = member-cell n number block h i (field_named (fields_numbered s number) name)
      go ModInt i = tt
      go (ModPtr t) i = tt

  found-cell : (o : Option ℕ) (field : Option (List ℕ)) → IsCellSense s (found_sense s o field)
  found-cell None field = tt
  found-cell (Some n) None = block-cell n (slice_get s.inputs n) refl
  found-cell (Some n) (Some name) = part-cell n name (slice_get s.inputs n) refl

  pub cell-sense : (place : PlaceWord) → IsCellSense s (place_sense s place)
  cell-sense place = found-cell (input_named s place.name) place.field

-- the reply can be told from the state
abbrev Tells : State → Step → Type 0
Tells s step = CanTell s step.reply

either : (s : State) (b : Bool) (x y : Step) → Tells s x → Tells s y → Tells s (if b then x else y)
either s true x y h k = h
either s false x y h k = k

module _ (s : State) where
  made-with-tells : (name : List ℕ) (shape : Shape) (o : Option (List Word)) → Tells s (step_of_words s name shape o)
  made-with-tells name shape None = tt
  made-with-tells name shape (Some words) = either s (block_fits s.program.structs (memory_of s) (block_of shape words)) _ (refuses s C4) tt tt

  made-tells : (name : List ℕ) (o : Option Shape) (senses : List Sense) → Tells s (step_of_shape s name o senses)
  made-tells name None senses = tt
  made-tells name (Some shape) senses =
      either s (list_any is_unknown senses) (refuses s C2) _ tt (either s (list_any (bytes_eq name) s.names) (refuses s C3) _ tt (made-with-tells name shape (words_of senses)))

  set-word-tells : (place value : Sense) → Tells s (step_of_word s place value)
  set-word-tells (IsWord (At p)) (IsWord word) = either s (fits_cell s (kind_at s.program.structs (memory_of s) p) word) _ (refuses s C4) tt tt
  set-word-tells (IsWord (At p)) Unknown = tt
  set-word-tells (IsWord (At p)) Plain = tt
  set-word-tells (IsWord (Num n)) value = tt
  set-word-tells (IsWord Null) value = tt
  set-word-tells (IsWord (BlockWord b)) value = tt
  set-word-tells Unknown value = tt
  set-word-tells Plain value = tt

  set-tells : (place value : Sense) → Tells s (step_of_set s place value)
  set-tells place value = either s (is_unknown place || is_unknown value) (refuses s C2) _ tt (set-word-tells place value)

  runs-tells : (reads : Option ℕ) (more : Bool) (r : Result Call Refusal) → Tells s (runs s reads more r)
  runs-tells reads more (Err r) = tt
  runs-tells reads more (Ok call) = go reads more (is_none (run_of s call))
    where
      go : (reads : Option ℕ) (more out : Bool) → CanTell s (run_reply reads more out)
      go None more true = tt
      go None more false = tt
      go (Some n) true out = tt
      go (Some n) false true = tt
      go (Some n) false false = tt

  asked-tells : (q : Query) → IsFor s q → CanTell s (reply_to_query s q)
  asked-tells q h = go (has_no_run s) s.pending refl refl
    where
      go : (a b : Bool) → has_no_run s ≡ a → s.pending ≡ b → CanTell s (if a then Refused C7 else if b then Refused C8 else Told q)
      go true b i j = tt
      go false true i j = tt
      go false false i j = (record { run = i; edited = j }, h)

  got-tells : (sense : Sense) → IsCellSense s sense → CanTell s (reply_to_get s sense)
  got-tells (IsWord (At p)) h = asked-tells (GetOf p) h
  got-tells (IsWord (Num n)) h = tt
  got-tells (IsWord Null) h = tt
  got-tells (IsWord (BlockWord b)) h = tt
  got-tells Unknown h = tt
  got-tells Plain h = tt

  shown-tells : length s.names ≡ length s.inputs → (name : List ℕ) (o : Option ℕ) → input_named s name ≡ o → CanTell s (reply_to_show s o)
  shown-tells c name None e = tt
  shown-tells c name (Some n) e = asked-tells (ShowOf n) (subst (λ k. n < k) c (position-within (bytes_eq name) s.names n e))

  pub can-tell : (more : Bool) → length s.names ≡ length s.inputs → (command : Command) → CanTell s (step_of_command s more command).reply
  can-tell more c Blank = tt
  can-tell more c (Mod name kind value) = made-tells name (mod_shape s kind) (value_sense s value ∷ [])
  can-tell more c (New name shape values) = made-tells name (struct_shape (struct_named s shape)) (map (value_sense s) values)
  can-tell more c (Set place value) = set-tells (place_sense s place) (value_sense s value)
  can-tell more c (Run function args) = runs-tells None more (call_of_run s (function_named s function) (map (value_sense s) args))
  can-tell more c Propagate = runs-tells None more (call_again s.call)
  can-tell more c (Slice reads) = runs-tells (Some reads) more (call_again s.call)
  can-tell more c (Get place) = got-tells (place_sense s place) (cell-sense s place)
  can-tell more c (Show name) = shown-tells c name (input_named s name) refl
  can-tell more c Blocks = asked-tells BlocksOf tt
  can-tell more c Steps = asked-tells StepsOf tt
  can-tell more c Work = asked-tells WorkOf tt
  can-tell more c Bound = asked-tells BoundOf tt

  -- a call that is accepted is a first one
  with-first : (n : ℕ) (f : TypedFunction) (o : Option (List Word)) (call : Call) → slice_get s.program.functions n ≡ Some f → call_of_words s n f o ≡ Ok call → IsFirst s call
  with-first n f None call e h = absurd (grind (arith, h))
  with-first n f (Some words) call e h = go (fits_function s f words) (is_some s.call) refl refl h
    where
      none : (o : Option Call) → is_some o ≡ false → o ≡ None
      none None i = refl
      none (Some c) i = absurd (grind (arith, i))

      go : (a b : Bool) → fits_function s f words ≡ a → is_some s.call ≡ b
          → (if a then if b then Err C6 else Ok (record { function = n; args = words }) else Err C5) ≡ Ok call → IsFirst s call
      go false b i j k = absurd (grind (arith, k))
      go true true i j k = absurd (grind (arith, k))
      go true false i j k =
          let is : record { function = n; args = words } ≡ call = grind (arith, k) in
          subst (IsFirst s) is (record { fits = rw e i; none = none s.call j })

  function-first : (n : ℕ) (o : Option TypedFunction) (senses : List Sense) (call : Call) → slice_get s.program.functions n ≡ o → call_of_function s n o senses ≡ Ok call → IsFirst s call
  function-first n None senses call e h = absurd (grind (arith, h))
  function-first n (Some f) senses call e h = go (list_any is_unknown senses) h
    where
      go : (a : Bool) → (if a then Err C2 else call_of_words s n f (words_of senses)) ≡ Ok call → IsFirst s call
      go true k = absurd (grind (arith, k))
      go false k = with-first n f (words_of senses) call e k

  pub called-first : (o : Option ℕ) (senses : List Sense) (call : Call) → call_of_run s o senses ≡ Ok call → IsFirst s call
  called-first None senses call h = absurd (grind (arith, h))
  called-first (Some n) senses call h = function-first n (slice_get s.program.functions n) senses call refl h

-- a part of a repair that a line asks for has a read
pub has-reads : (command : Command) (line : List ℕ) → IsLineOf command line → HasReads command
has-reads Blank line h = tt
has-reads (Mod name kind value) line h = tt
has-reads (New name shape values) line h = tt
has-reads (Set place value) line h = tt
has-reads (Run function args) line h = tt
has-reads Propagate line h = tt
has-reads (Slice reads) line h = h.says.2.2
has-reads (Get place) line h = tt
has-reads (Show name) line h = tt
has-reads Blocks line h = tt
has-reads Steps line h = tt
has-reads Work line h = tt
has-reads Bound line h = tt
