-- Each program is read.
use Rattle.std.proofs.Common.{◌≡◌, ℕ, zero, suc, ◌+◌, ◌<◌, pos, ap, true, false, Some, None, List, [], ◌∷◌, ◌++◌, length, refl, arith, append_assoc, length-append, append-nil}
use Rattle.ceal_base.specs.declared.fault.Span.{Span}
use Rattle.ceal_base.specs.declared.syntax.Entry.{Entry}
use Rattle.ceal_base.specs.declared.syntax.Entry.TheVariants.{Function as FunctionEntry}
use Rattle.ceal_base.specs.declared.syntax.Ident.{Ident}
use Rattle.ceal_base.specs.declared.syntax.FieldDecl.{FieldDecl}
use Rattle.ceal_lex.specs.declared.token.Reserved.{Reserved as ReservedWord}
use Rattle.ceal_lex.specs.declared.token.Sign.TheVariants as Signs
use Rattle.ceal_lex.specs.declared.token.TokenKind.TheVariants.{Number, Reserved, Sign}
use Rattle.ceal_grammar.specs.declared.state.Head.{Head}
use Rattle.ceal_grammar.specs.declared.state.HeadPlace.TheVariants as Heads
use Rattle.ceal_grammar.specs.declared.state.Layout.{Layout}
use Rattle.ceal_grammar.specs.declared.state.State.{State}
use Rattle.ceal_grammar.specs.declared.state.State.TheVariants.{Top, Struct, Head as InHead}
use Rattle.ceal_grammar.specs.declared.state.StructPlace.TheVariants as Structs
use Rattle.ceal_grammar.specs.declared.state.TypePart.{TypePart}
use Rattle.ceal_grammar.specs.Grammar.{Written, int, pointer, mod_int, mod_pointer, cell_int, cell_pointer, Allowed}
use Rattle.ceal_grammar.specs.Grammar.{Block, block, Parameter, Parameters, no_parameters, parameters, core, init, Size}
use Rattle.ceal_grammar.specs.Grammar.{single, row, Member, Part, structure, function, Program, StatementProper}
use Rattle.ceal_grammar.specs.Grammar.{BlockProper, MoreProper, ParametersProper, IsCell, SizeProper, MembersProper}
use Rattle.ceal_grammar.specs.Grammar.{PartProper, PartsProper}
use Rattle.ceal_grammar.specs.Spelled.{Mark, plain, spelled_statement, spelled_block, spelled_parameter, spelled_others}
use Rattle.ceal_grammar.specs.Spelled.{spelled_parameters, fields_up_to, spelled_size, spelled_members, spelled_part}
use Rattle.ceal_grammar.specs.Spelled.{spelled_parts, spelled_program}
use Rattle.ceal_grammar.specs.Trees.{type_form, type_first, statement_tree, block_trees, other_trees, parameter_tree}
use Rattle.ceal_grammar.specs.Trees.{parameter_trees, close_of, row_form, sized_form, member_trees, part_tree}
use Rattle.ceal_grammar.specs.Trees.{part_trees}
use Rattle.ceal_grammar.specs.Machine.{same_sign, same_word, type_begin, fields_with_member, with_member, is_cell, length_of, at_length, begun_struct, with_parameter, step, length_item, item_of}
use Rattle.ceal_grammar.specs.Follows.{Follows}
use Rattle.ceal_grammar.proofs.CompleteStatement.{read_type, read_statements}

module _ (tree : List Entry) (es : List Entry) where
  -- a member begins where its struct is open
  member_starts : (l : Layout) (s : Span) (k : ReservedWord) (p : TypePart) → type_begin k ≡ Some p
      → step (Struct es (Structs.Members l)) (record { kind = Reserved k; span = s }) ≡ Some (Struct es (Structs.Typing l p))
  member_starts l s k p e = rw e refl

  always : (w : Written) → Allowed true w
  always (int s) = tt
  always (pointer s x t) = tt
  always (mod_int s k t) = tt
  always (mod_pointer s k x t) = tt
  always (cell_int s k) = refl
  always (cell_pointer s k x) = refl

  -- a member of one field
  one_field : (c : ℕ) (w : Written) → fields_with_member c (type_form w) ≡ suc c
  one_field c (int s) = refl
  one_field c (pointer s x t) = refl
  one_field c (mod_int s k t) = refl
  one_field c (mod_pointer s k x t) = refl
  one_field c (cell_int s k) = refl
  one_field c (cell_pointer s k x) = refl

  -- a row
  row_fields : (c : ℕ) (w : Written) (n : ℕ) → IsCell w → fields_with_member c (row_form (type_form w) n) ≡ c + n
  row_fields c (cell_int s k) n h = refl
  row_fields c (cell_pointer s k x) n h = refl
  row_fields c (int s) n h = absurd h
  row_fields c (pointer s x t) n h = absurd h
  row_fields c (mod_int s k t) n h = absurd h
  row_fields c (mod_pointer s k x t) n h = absurd h

  cell_tells : (w : Written) → IsCell w → is_cell (type_form w) ≡ true
  cell_tells (cell_int s k) h = refl
  cell_tells (cell_pointer s k x) h = refl
  cell_tells (int s) h = absurd h
  cell_tells (pointer s x t) h = absurd h
  cell_tells (mod_int s k t) h = absurd h
  cell_tells (mod_pointer s k x t) h = absurd h

  length_tells : (n : ℕ) → 0 < n → length_of (Number (pos n)) ≡ Some n
  length_tells zero h = absurd (omega (arith, h))
  length_tells (suc n) h = refl

  sized_count : (c : ℕ) (w : Written) (z : Size) → SizeProper w z → fields_with_member c (sized_form (type_form w) z) ≡ fields_up_to c z
  sized_count c w single h = one_field c w
  sized_count c w (row l n s r) h = row_fields c w n h.0

  read_size : (z : Size) (w : Written) (x : Ident) (l : Layout) (semi : Span) (rest : List Mark) → SizeProper w z
      → Follows (Struct es (Structs.Members (with_member l (record { form = sized_form (type_form w) z; name = x })))) rest tree
      → Follows (Struct es (Structs.Ends l (record { form = type_form w; name = x }))) (spelled_size l.count z (plain 1 (Sign Signs.Semicolon) semi ∷ rest)) tree
  unfolding Follows same_sign
  read_size single w x l semi rest h f = (_, refl, refl, refl, refl, f)
  read_size (row o n s r) w x l semi rest h f =
      let m : FieldDecl = record { form = type_form w; name = x } in
      let e = length_tells n h.1 in (
        Struct es (Structs.Length l m),
        rw (cell_tells w h.0) refl,
        refl,
        refl,
        refl,
        (Struct es (Structs.Sized l m n), ap (at_length es l m) e, refl, ap (length_item l.count) e, refl, (_, refl, refl, refl, refl, (_, refl, refl, refl, refl, f))),
      )

  read_members : (ms : List Member) (l : Layout) (c : ℕ) (right : Span) (rest : List Mark) → MembersProper ms → l.count ≡ c
      → Follows (Struct es (Structs.Closed (record { name = l.decl.name; fields = l.decl.fields ++ member_trees ms }))) rest tree
      → Follows (Struct es (Structs.Members l)) (spelled_members c ms (plain 0 (Sign Signs.RightBrace) right ∷ rest)) tree
  unfolding Follows spelled_members member_trees MembersProper same_sign
  read_members [] l c right rest h e f = (_, refl, refl, refl, refl, rw append-nil at f)
  read_members (m ∷ ms) l c right rest h e f =
      let d : FieldDecl = record { form = sized_form (type_form m.type) m.size; name = m.x } in
      read_type tree true 1 (λ p. Struct es (Structs.Typing l p)) (λ form x. Struct es (Structs.Ends l (record { form = form; name = x })))
      (λ p s j. refl) (λ p. refl) (λ form x. refl) (λ p t. refl) (λ p. refl) (λ form x. refl)
      m.type m.x (suc c) (Struct es (Structs.Members l)) _ (always m.type) (λ j p b. member_starts l (type_first m.type) j p b) (λ j p b. ap suc e)
      (rw (← e) (read_size m.size m.type m.x l m.semi _ h.0
      (read_members ms (with_member l d) (fields_up_to l.count m.size) right rest h.1 (sized_count l.count m.type m.size h.0) (rw append_assoc f))))

  read_parameter : (p : Parameter) (h : Head) (k : ℕ) (σ : State) (rest : List Mark) → Allowed false p.type
      → ((j : ReservedWord) (q : TypePart) → type_begin j ≡ Some q → step σ (record { kind = Reserved j; span = type_first p.type }) ≡ Some (InHead es (Heads.Typing h q)))
      → ((j : ReservedWord) (q : TypePart) → type_begin j ≡ Some q → item_of σ (record { kind = Reserved j; span = type_first p.type }) ≡ k)
      → Follows (InHead es (Heads.Named (with_parameter h (parameter_tree p)))) rest tree
      → Follows σ (spelled_parameter k p rest) tree
  read_parameter p h k σ rest a st it f =
      read_type tree false 1 (λ q. InHead es (Heads.Typing h q)) (λ form x. InHead es (Heads.Named (with_parameter h (record { form = form; name = x }))))
      (λ q s j. refl) (λ q. refl) (λ form x. refl) (λ q t. refl) (λ q. refl) (λ form x. refl)
      p.type p.x k σ rest a st it f

  first_starts : (h : Head) (s : Span) (k : ReservedWord) (p : TypePart) → type_begin k ≡ Some p
      → step (InHead es (Heads.First h)) (record { kind = Reserved k; span = s }) ≡ Some (InHead es (Heads.Typing h p))
  first_starts h s k p e = rw e refl

  next_starts : (h : Head) (s : Span) (k : ReservedWord) (p : TypePart) → type_begin k ≡ Some p
      → step (InHead es (Heads.Next h)) (record { kind = Reserved k; span = s }) ≡ Some (InHead es (Heads.Typing h p))
  next_starts h s k p e = rw e refl

  read_others : (l : List (Span × Parameter)) (h : Head) (k : ℕ) (right : Span) (rest : List Mark) → MoreProper l → suc (length h.params) ≡ k
      → Follows (InHead es (Heads.Done (record { initialiser = h.initialiser; name = h.name; params = h.params ++ other_trees l }))) rest tree
      → Follows (InHead es (Heads.Named h)) (spelled_others k l (plain 0 (Sign Signs.RightParenthesis) right ∷ rest)) tree
  unfolding Follows spelled_others other_trees MoreProper same_sign
  read_others [] h k right rest a e f = (_, refl, refl, refl, refl, rw append-nil at f)
  read_others (p ∷ l) h k right rest a e f = (
    _,
    refl,
    refl,
    refl,
    refl,
    read_parameter p.1 h k (InHead es (Heads.Next h)) _ a.0
        (λ j q r. next_starts h (type_first p.1.type) j q r) (λ j q r. e)
        (read_others l (with_parameter h (parameter_tree p.1)) (suc k) right rest a.1
        (omega (arith, length-append h.params (parameter_tree p.1 ∷ []))) (rw append_assoc f)),
  )

  read_parameters : (ps : Parameters) (x : Ident) (right : Span) (rest : List Mark) → ParametersProper ps
      → Follows (InHead es (Heads.Done (record { initialiser = None; name = x; params = parameter_trees ps }))) rest tree
      → Follows (InHead es (Heads.First (record { initialiser = None; name = x; params = [] }))) (spelled_parameters ps (plain 0 (Sign Signs.RightParenthesis) right ∷ rest)) tree
  unfolding Follows same_sign
  read_parameters no_parameters x right rest a f = (_, refl, refl, refl, refl, f)
  read_parameters (parameters p l) x right rest a f =
      read_parameter p (record { initialiser = None; name = x; params = [] }) 1 (InHead es (Heads.First (record { initialiser = None; name = x; params = [] }))) _ a.0
      (λ j q r. first_starts (record { initialiser = None; name = x; params = [] }) (type_first p.type) j q r) (λ j q r. refl)
      (read_others l (record { initialiser = None; name = x; params = parameter_tree p ∷ [] }) 2 right rest a.1 refl f)

  read_body : (b : Block) (h : Head) (rest : List Mark) → BlockProper b
      → Follows (Top (es ++ FunctionEntry (record { initialiser = h.initialiser; name = h.name; params = h.params; body = block_trees b; close = close_of b }) ∷ [])) rest tree
      → Follows (InHead es (Heads.Done h)) (spelled_block 0 b rest) tree
  unfolding Follows spelled_statement statement_tree StatementProper same_sign
  read_body (block l ss r) h rest g f =
      (_, refl, refl, refl, refl, read_statements tree ss es h [] [] 1 _ g (_, refl, refl, refl, refl, f))

  read_part : (p : Part) (rest : List Mark) → PartProper p
      → Follows (Top (es ++ part_tree p ∷ [])) rest tree → Follows (Top es) (spelled_part p rest) tree
  unfolding Follows same_sign same_word
  read_part (structure s x l ms r semi) rest a f = (
    _,
    refl,
    refl,
    refl,
    refl,
    (
      _,
      refl,
      refl,
      refl,
      refl,
      (
        _,
        refl,
        refl,
        refl,
        refl,
        read_members ms (begun_struct x) 0 r _ a refl (_, refl, refl, refl, refl, f),
      ),
    ),
  )
  read_part (function (core s x l ps r) b) rest a f = (
    _,
    refl,
    refl,
    refl,
    refl,
    (
      _,
      refl,
      refl,
      refl,
      refl,
      (
        _,
        refl,
        refl,
        refl,
        refl,
        read_parameters ps x r _ a.0 (read_body b (record { initialiser = None; name = x; params = parameter_trees ps }) rest a.1 f),
      ),
    ),
  )
  read_part (function (init s x l k y t o more r) b) rest a f = (
    _,
    refl,
    refl,
    refl,
    refl,
    (
      _,
      refl,
      refl,
      refl,
      refl,
      (
        _,
        refl,
        refl,
        refl,
        refl,
        (
          _,
          refl,
          refl,
          refl,
          refl,
          (
            _,
            refl,
            refl,
            refl,
            refl,
            (
              _,
              refl,
              refl,
              refl,
              refl,
              (
                _,
                refl,
                refl,
                refl,
                refl,
                read_others more (record { initialiser = Some y; name = x; params = [] }) 1 r _ a.0 refl
                    (read_body b (record { initialiser = Some y; name = x; params = other_trees more }) rest a.1 f),
              ),
            ),
          ),
        ),
      ),
    ),
  )

module _ (tree : List Entry) where
  read_parts : (ps : List Part) (es : List Entry) (rest : List Mark) → PartsProper ps
      → Follows (Top (es ++ part_trees ps)) rest tree → Follows (Top es) (spelled_parts ps rest) tree
  unfolding Follows spelled_parts part_trees PartsProper
  read_parts [] es rest g f = rw append-nil at f
  read_parts (p ∷ ps) es rest g f = read_part tree es p _ g.0 (read_parts ps (es ++ part_tree p ∷ []) rest g.1 (rw append_assoc f))

-- The tokens of a program are read, and give its tree.
pub read_program : (p : Program) → PartsProper p.parts → Follows (Top []) (spelled_program p) (part_trees p.parts)
unfolding Follows
read_program p g = read_parts (part_trees p.parts) p.parts [] _ g (_, refl, refl, refl, refl, refl)
