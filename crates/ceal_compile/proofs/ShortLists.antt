-- A program within the limits has short lists of fields and of parameters.
use Rattle.std.proofs.Common.{◌≡◌, ◌≤◌, ℕ, suc, ◌+◌, List, [], ◌∷◌, length, All, refl, arith}
use Rattle.std.proofs.lemmas.List.Elements.{All-nil, All-cons}
use Rattle.ceal_base.specs.declared.syntax.Tree.{Tree}
use Rattle.ceal_base.specs.declared.fault.Span.{Span}
use Rattle.ceal_lex.specs.declared.token.Token.{Token}
use Rattle.ceal_grammar.specs.Faults.{AllWithin, Accepts}
use Rattle.ceal_grammar.specs.Grammar.{Phrase, number, null, variable, own, parens, arrow, prefix, address, element}
use Rattle.ceal_grammar.specs.Grammar.{binary, Written, int, pointer, mod_int, mod_pointer, cell_int, cell_pointer}
use Rattle.ceal_grammar.specs.Grammar.{Arguments, no_arguments, arguments, Given, plainly, reading, allocation}
use Rattle.ceal_grammar.specs.Grammar.{modref_int, modref, Statement, declare, assign, set, store, call, branch, loop}
use Rattle.ceal_grammar.specs.Grammar.{exit, break, continue, Branch, when, Otherwise, nothing, otherwise, chained}
use Rattle.ceal_grammar.specs.Grammar.{Block, block, Statements, ended, followed, Parameter, Parameters, no_parameters}
use Rattle.ceal_grammar.specs.Grammar.{parameters, Signature, core, init, Size, single, row, Member, SizeProper}
use Rattle.ceal_grammar.specs.Grammar.{MembersProper, Part, structure, function, PartProper, PartsProper}
use Rattle.ceal_grammar.specs.Spelled.{Mark, spelled, spelled_type, spelled_more, spelled_arguments, spelled_given}
use Rattle.ceal_grammar.specs.Spelled.{spelled_statement, spelled_branch, spelled_otherwise, spelled_block}
use Rattle.ceal_grammar.specs.Spelled.{spelled_statements, spelled_others, spelled_parameters, spelled_signature}
use Rattle.ceal_grammar.specs.Spelled.{fields_up_to, spelled_size, spelled_members, spelled_part, spelled_parts}
use Rattle.ceal_grammar.specs.Trees.{type_form, sized_form, member_trees, other_trees, parameter_trees, part_tree, part_trees}
use Rattle.ceal_types.specs.Heads.{row_of}
use Rattle.ceal_types.specs.Limits.{width, fields_in, IsShort, HasShortLists}

-- what follows a phrase is within the limits too
after_phrase : (d i n : ℕ) (a : Phrase) (rest : List Mark) → AllWithin (spelled d i n a rest) → AllWithin rest
unfolding AllWithin spelled
after_phrase d i n (number v s) rest h = h.1
after_phrase d i n (null s) rest h = h.1
after_phrase d i n (variable x) rest h = h.1
after_phrase d i n (own s) rest h = h.1
after_phrase d i n (parens l a r) rest h = (after_phrase (suc d) 0 n a _ h.1).1
after_phrase d i n (arrow a s x) rest h = (after_phrase d i n a _ h).1.1
after_phrase d i n (prefix op s a) rest h = after_phrase d 0 (suc n) a rest h.1
after_phrase d i n (address s a) rest h = after_phrase d 0 (suc n) a rest h.1
after_phrase d i n (element s a l b r) rest h = (after_phrase (suc d) 0 _ b _ (after_phrase d 0 (suc n) a _ h.1).1).1
after_phrase d i n (binary op a s b) rest h = after_phrase d 0 _ b rest (after_phrase d i n a _ h).1

after_type : (d i : ℕ) (w : Written) (rest : List Mark) → AllWithin (spelled_type d i w rest) → AllWithin rest
unfolding AllWithin
after_type d i (int s) rest h = h.1
after_type d i (pointer s x t) rest h = h.1.1.1
after_type d i (mod_int s k t) rest h = h.1.1.1
after_type d i (mod_pointer s k x t) rest h = h.1.1.1.1
after_type d i (cell_int s k) rest h = h.1.1
after_type d i (cell_pointer s k x) rest h = h.1.1.1

-- its first token begins the item of this number
type_item : (d i : ℕ) (w : Written) (rest : List Mark) → AllWithin (spelled_type d i w rest) → i ≤ 255
unfolding AllWithin
type_item d i (int s) rest h = h.0.item
type_item d i (pointer s x t) rest h = h.0.item
type_item d i (mod_int s k t) rest h = h.0.item
type_item d i (mod_pointer s k x t) rest h = h.0.item
type_item d i (cell_int s k) rest h = h.0.item
type_item d i (cell_pointer s k x) rest h = h.0.item

after_more : (d i : ℕ) (more : List (Span × Phrase)) (rest : List Mark) → AllWithin (spelled_more d i more rest) → AllWithin rest
unfolding AllWithin spelled_more
after_more d i [] rest h = h
after_more d i (a ∷ more) rest h = after_more d (suc i) more rest (after_phrase d i 0 a.1 _ h.1)

after_arguments : (d : ℕ) (args : Arguments) (rest : List Mark) → AllWithin (spelled_arguments d args rest) → AllWithin rest
after_arguments d no_arguments rest h = h
after_arguments d (arguments e more) rest h = after_more d 2 more rest (after_phrase d 1 0 e _ h)

after_given : (d : ℕ) (g : Given) (rest : List Mark) → AllWithin (spelled_given d g rest) → AllWithin rest
unfolding AllWithin
after_given d (plainly e) rest h = after_phrase d 0 0 e rest h
after_given d (reading s l e r) rest h = (after_phrase (suc d) 0 0 e _ h.1.1).1
after_given d (allocation s y x l args r) rest h = (after_arguments (suc d) args _ h.1.1.1.1).1
after_given d (modref_int s k l r) rest h = h.1.1.1.1
after_given d (modref s y l r) rest h = h.1.1.1.1

mutual
  unfolding AllWithin spelled_statement spelled_branch spelled_otherwise spelled_block spelled_statements

  after_statement : (d : ℕ) (s : Statement) (rest : List Mark) → AllWithin (spelled_statement d s rest) → AllWithin rest
  after_statement d (declare w x q g semi) rest h = (after_given d g _ (after_type d 0 w _ h).1.1).1
  after_statement d (assign x q g semi) rest h = (after_given d g _ h.1.1).1
  after_statement d (set p s x q e semi) rest h = (after_phrase d 0 0 e _ (after_phrase d 0 0 p _ h).1.1.1).1
  after_statement d (store s l a c e r semi) rest h = (after_phrase (suc d) 0 0 e _ (after_phrase (suc d) 0 0 a _ h.1.1).1).1.1
  after_statement d (call x l args r semi) rest h = (after_arguments (suc d) args _ h.1.1).1.1
  after_statement d (branch b) rest h = after_branch d b rest h
  after_statement d (loop s l e r b) rest h = after_block d b rest (after_phrase (suc d) 0 0 e _ h.1.1).1
  after_statement d (exit s semi) rest h = h.1.1
  after_statement d (break s semi) rest h = h.1.1
  after_statement d (continue s semi) rest h = h.1.1

  after_branch : (d : ℕ) (b : Branch) (rest : List Mark) → AllWithin (spelled_branch d b rest) → AllWithin rest
  after_branch d (when s l e r b other) rest h =
      after_otherwise d other rest (after_block d b _ (after_phrase (suc d) 0 0 e _ h.1.1).1)

  after_otherwise : (d : ℕ) (o : Otherwise) (rest : List Mark) → AllWithin (spelled_otherwise d o rest) → AllWithin rest
  after_otherwise d nothing rest h = h
  after_otherwise d (otherwise s b) rest h = after_block d b rest h.1
  after_otherwise d (chained s b) rest h = after_branch (suc d) b rest h.1

  after_block : (d : ℕ) (b : Block) (rest : List Mark) → AllWithin (spelled_block d b rest) → AllWithin rest
  after_block d (block l ss r) rest h = (after_statements (suc d) ss _ h.1).1

  after_statements : (d : ℕ) (ss : Statements) (rest : List Mark) → AllWithin (spelled_statements d ss rest) → AllWithin rest
  after_statements d ended rest h = h
  after_statements d (followed s ss) rest h = after_statements d ss rest (after_statement d s _ h)

-- a member is one field, or as many as its row is long
width_is : (w : Written) (s : Size) (c : ℕ) → SizeProper w s → fields_up_to c s ≡ c + width (row_of (sized_form (type_form w) s))
width_is (int s) single c h = omega arith
width_is (pointer s x t) single c h = omega arith
width_is (mod_int s k t) single c h = omega arith
width_is (mod_pointer s k x t) single c h = omega arith
width_is (cell_int s k) single c h = omega arith
width_is (cell_pointer s k x) single c h = omega arith
width_is (int s) (row l n a r) c h = absurd h.0
width_is (pointer s x t) (row l n a r) c h = absurd h.0
width_is (mod_int s k t) (row l n a r) c h = absurd h.0
width_is (mod_pointer s k x t) (row l n a r) c h = absurd h.0
width_is (cell_int s k) (row l n a r) c h = refl
width_is (cell_pointer s k x) (row l n a r) c h = refl

after_size : (c : ℕ) (s : Size) (rest : List Mark) → AllWithin (spelled_size c s rest) → AllWithin rest
unfolding AllWithin
after_size c single rest h = h
after_size c (row l n a r) rest h = h.1.1.1

-- the last of them is an item
size_item : (c : ℕ) (s : Size) (rest : List Mark) → suc c ≤ 255 → AllWithin (spelled_size c s rest) → fields_up_to c s ≤ 255
unfolding AllWithin
size_item c single rest few h = few
size_item c (row l n a r) rest few h = let here = h.1.0 in here.item

-- fields are items, after c others
members_short : (c : ℕ) (ms : List Member) (rest : List Mark) → MembersProper ms → c ≤ 255 → AllWithin (spelled_members c ms rest)
    → c + fields_in (member_trees ms) ≤ 255
unfolding MembersProper AllWithin spelled_members member_trees fields_in
members_short c [] rest proper few h = omega (arith, few)
members_short c (m ∷ ms) rest proper few h =
    let named = after_type 1 (suc c) m.type _ h in
    let item = size_item c m.size _ (type_item 1 (suc c) m.type _ h) named.1 in
    let wide = width_is m.type m.size c proper.0 in
    let more = members_short (fields_up_to c m.size) ms rest proper.1 item (after_size c m.size _ named.1).1 in omega (arith, more, wide)

after_members : (c : ℕ) (ms : List Member) (rest : List Mark) → AllWithin (spelled_members c ms rest) → AllWithin rest
unfolding AllWithin spelled_members
after_members c [] rest h = h
after_members c (m ∷ ms) rest h =
    let named = after_type 1 (suc c) m.type _ h in after_members (fields_up_to c m.size) ms rest (after_size c m.size _ named.1).1

-- so are parameters
others_short : (i : ℕ) (more : List (Span × Parameter)) (rest : List Mark) → i ≤ 256 → AllWithin (spelled_others i more rest) → i + length (other_trees more) ≤ 256
unfolding AllWithin spelled_others other_trees
others_short i [] rest few h = omega (arith, few)
others_short i (p ∷ more) rest few h =
    let item = type_item 1 i p.1.type _ h.1 in
    let others = others_short (suc i) more rest (omega (arith, item)) (after_type 1 i p.1.type _ h.1).1 in omega (arith, others)

after_others : (i : ℕ) (more : List (Span × Parameter)) (rest : List Mark) → AllWithin (spelled_others i more rest) → AllWithin rest
unfolding AllWithin spelled_others
after_others i [] rest h = h
after_others i (p ∷ more) rest h = after_others (suc i) more rest (after_type 1 i p.1.type _ h.1).1

parameters_short : (ps : Parameters) (rest : List Mark) → AllWithin (spelled_parameters ps rest) → length (parameter_trees ps) ≤ 255
unfolding AllWithin
parameters_short no_parameters rest h = omega arith
parameters_short (parameters p more) rest h =
    let others = others_short 2 more rest (omega arith) (after_type 1 1 p.type _ h).1 in omega (arith, others)

after_parameters : (ps : Parameters) (rest : List Mark) → AllWithin (spelled_parameters ps rest) → AllWithin rest
unfolding AllWithin
after_parameters no_parameters rest h = h
after_parameters (parameters p more) rest h = after_others 2 more rest (after_type 1 1 p.type _ h).1

after_signature : (s : Signature) (rest : List Mark) → AllWithin (spelled_signature s rest) → AllWithin rest
unfolding AllWithin
after_signature (core s x l ps r) rest h = (after_parameters ps _ h.1.1.1).1
after_signature (init s x l k y t o more r) rest h = (after_others 1 more _ h.1.1.1.1.1.1.1).1

after_part : (p : Part) (rest : List Mark) → AllWithin (spelled_part p rest) → AllWithin rest
unfolding AllWithin
after_part (structure s x l ms r semi) rest h = (after_members 0 ms _ h.1.1.1).1.1
after_part (function head b) rest h = after_block 0 b rest (after_signature head _ h)

part_short : (p : Part) (rest : List Mark) → PartProper p → AllWithin (spelled_part p rest) → IsShort (part_tree p)
unfolding AllWithin
part_short (structure s x l ms r semi) rest proper h = let few = members_short 0 ms _ proper (omega arith) h.1.1.1 in omega (arith, few)
part_short (function (core s x l ps r) b) rest proper h = parameters_short ps _ h.1.1.1
part_short (function (init s x l k y t o more r) b) rest proper h = let few = others_short 1 more _ (omega arith) h.1.1.1.1.1.1.1 in omega (arith, few)

parts_short : (ps : List Part) (rest : List Mark) → PartsProper ps → AllWithin (spelled_parts ps rest) → All IsShort (part_trees ps)
unfolding PartsProper spelled_parts part_trees
parts_short [] rest proper h = All-nil IsShort
parts_short (p ∷ ps) rest proper h = All-cons IsShort (part_tree p) (part_trees ps) (part_short p _ proper.0 h) (parts_short ps rest proper.1 (after_part p _ h))

pub short_lists : (ts : List Token) (tree : Tree) → Accepts ts tree → HasShortLists tree
short_lists ts tree a = rw (← a.same) (parts_short a.program.parts _ a.proper a.within)
