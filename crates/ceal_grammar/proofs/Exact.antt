-- A reading finds exactly the first fault.
use Rattle.std.proofs.Common.{◌≡◌, ◌≤◌, ◌≢◌, Bool, true, false, Option, Some, None, Result, Ok, Err, List, [], ◌∷◌, ◌++◌, refl, sym, ap, ◌∙◌, subst, arith, inl, inr, ◌⊎◌, append-nil, append_assoc}
use Rattle.std.specs.Prelude.{if◌then◌else◌}
use Rattle.std.proofs.lemmas.Bool.Decides.{leb_tells}
use Rattle.ceal_base.specs.declared.fault.Fault.{Fault}
use Rattle.ceal_base.specs.declared.fault.FaultCode.{FaultCode}
use Rattle.ceal_base.specs.declared.fault.FaultCode.TheVariants.{S1, S2, S3, S4, S5, S6, N1, N2, T1, T2, T3, T4, T5, U1, U2, U3, U4, U5, U6, L1}
use Rattle.ceal_base.specs.declared.fault.Span.{Span}
use Rattle.ceal_base.specs.declared.syntax.Entry.{Entry}
use Rattle.ceal_base.specs.declared.syntax.Ident.{Ident}
use Rattle.ceal_base.specs.declared.syntax.Tree.{Tree}
use Rattle.ceal_base.specs.declared.syntax.TypeForm.{TypeForm}
use Rattle.ceal_lex.specs.Tokens.{IsEnded}
use Rattle.ceal_lex.specs.declared.token.Token.{Token}
use Rattle.ceal_lex.specs.declared.token.TokenKind.{TokenKind}
use Rattle.ceal_lex.specs.declared.token.TokenKind.TheVariants.{Name, Number, Reserved, Sign, End, Cut}
use Rattle.ceal_grammar.specs.declared.state.HeadPlace.{HeadPlace}
use Rattle.ceal_grammar.specs.declared.state.HeadPlace.TheVariants as Heads
use Rattle.ceal_grammar.specs.declared.state.Inside.{Inside}
use Rattle.ceal_grammar.specs.declared.state.Making.{Making}
use Rattle.ceal_grammar.specs.declared.state.Making.TheVariants as Makings
use Rattle.ceal_grammar.specs.declared.state.Mode.{Mode}
use Rattle.ceal_grammar.specs.declared.state.Mode.TheVariants as Modes
use Rattle.ceal_grammar.specs.declared.state.Place.{Place}
use Rattle.ceal_grammar.specs.declared.state.Place.TheVariants.{Want, Post, Have, Element, Access}
use Rattle.ceal_grammar.specs.declared.state.State.{State}
use Rattle.ceal_grammar.specs.declared.state.State.TheVariants.{Top, Struct, Head as InHead, In, Finished}
use Rattle.ceal_grammar.specs.declared.state.StructPlace.{StructPlace}
use Rattle.ceal_grammar.specs.declared.state.StructPlace.TheVariants as Structs
use Rattle.ceal_grammar.specs.declared.state.TypePart.{TypePart}
use Rattle.ceal_grammar.specs.declared.state.TypePart.TheVariants as Types
use Rattle.ceal_grammar.specs.declared.state.Whole.{Whole}
use Rattle.ceal_grammar.specs.Faults.{Begins, IsWithin, AllWithin, Accepts, IsClean, StandsAt, IsFirstFault}
use Rattle.ceal_grammar.specs.Follows.{Follows}
use Rattle.ceal_grammar.specs.Grammar.{Program}
use Rattle.ceal_grammar.specs.Judged.{code_at, fault_at, tree_at_end, within_limits, next_state, tree_or_fault}
use Rattle.ceal_grammar.specs.Machine.{at_mode, at_type, with_typing, with_parameter, state_in, at_making, at_place, is_cell, at_struct, at_head, step, nesting_of, item_of, operators_of}
use Rattle.ceal_grammar.specs.Spelled.{Mark, spelled_program, tokens_of}
use Rattle.ceal_grammar.specs.Trees.{part_trees}
use Rattle.ceal_grammar.proofs.CompleteProgram.{read_program}
use Rattle.ceal_grammar.proofs.Words.{bare_program}
use Rattle.ceal_grammar.proofs.Future.{Future}
use Rattle.ceal_grammar.proofs.Viable.{step_back, typed_in}
use Rattle.ceal_grammar.proofs.Possible.{possible}

unfoldable Steps : State → List Token → State → Type 0
Steps s [] z = s ≡ z
Steps s (t ∷ ts) z = (next : State) × (step s t ≡ Some next) × Steps next ts z

same_next : (a b : State) (o : Option State) → o ≡ Some a → o ≡ Some b → a ≡ b
same_next a b o p q = cc

steps_back : (ts : List Token) (s z : State) (u : List Token) → Steps s ts z → Future z u → Future s (ts ++ u)
unfolding Steps
steps_back [] s z u st f = subst (λ (ρ : State). Future ρ u) (sym st) f
steps_back (t ∷ ts) s z u st f = step_back t.span st.0 (ts ++ u) s t.kind st.1 (steps_back ts st.0 z u st.2 f)

follow_steps : (ms rest : List Mark) (s z : State) (tree : List Entry) → Follows s (ms ++ rest) tree → Steps s (tokens_of ms) z → Follows z rest tree
unfolding Steps Follows tokens_of
follow_steps [] rest s z tree f st = subst (λ (ρ : State). Follows ρ rest tree) st f
follow_steps (m ∷ ms) rest s z tree f st =
    follow_steps ms rest f.0 z tree f.5 (subst (λ (ρ : State). Steps ρ (tokens_of ms) z) (sym (same_next f.0 st.0 _ f.1 st.1)) st.2)

module _ (before : List Token) (t : Token) (s : State) (st : Steps (Top []) before s) where
  followed : (b : Begins before t) → Follows s (b.at ∷ b.later) (part_trees b.program.parts)
  followed b =
      follow_steps b.earlier (b.at ∷ b.later) (Top []) s _ (rw b.spelled at (read_program b.program b.proper)) (rw b.same st)

  stuck : step s t ≡ None → Begins before t → ⊥
  unfolding Follows
  stuck h b = let f = followed b in wrong f.0 (sym (ap (step s) (sym b.here) ∙ f.1) ∙ h)
    where
      wrong : (z : State) → Some z ≡ None → ⊥
      wrong z e = cc

  marked : (next : State) → step s t ≡ Some next → (b : Begins before t)
      → (nesting_of next ≡ b.at.nesting) × (item_of s t ≡ b.at.item) × (operators_of next ≡ b.at.operators)
  unfolding Follows
  marked next h b =
      let f = followed b in
      let e = same_next f.0 next (step s t) (ap (step s) (sym b.here) ∙ f.1) h in
      (ap nesting_of (sym e) ∙ f.2, ap (item_of s) (sym b.here) ∙ f.3, ap operators_of (sym e) ∙ f.4)

  cut_marks : (a : List Token) (u : List Token) (ms : List Mark) → tokens_of ms ≡ a ++ t ∷ u
      → (l : List Mark) × (m : Mark) × (r : List Mark) × (ms ≡ l ++ m ∷ r) × (tokens_of l ≡ a) × (m.token ≡ t)
  unfolding tokens_of
  cut_marks [] u [] h = absurd (cc)
  cut_marks [] u (m ∷ ms) h = ([], m, ms, refl, refl, cc)
  cut_marks (x ∷ a) u [] h = absurd (cc)
  cut_marks (x ∷ a) u (m ∷ ms) h =
      let e : tokens_of ms ≡ a ++ t ∷ u = cc in
      let d : m.token ≡ x = cc in
      let c = cut_marks a u ms e in
      let g : tokens_of (m ∷ c.0) ≡ x ∷ a = cc (c.4, d) in
      (m ∷ c.0, c.1, c.2, ap (λ (l : List Mark). m ∷ l) c.3, g, c.5)

  exists : (next : State) → step s t ≡ Some next → Begins before t
  exists next h =
      let p = possible next in
      let f = steps_back before (Top []) s (t ∷ p.0) st (step_back t.span next p.0 s t.kind h p.1) in
      let d : Program = record { parts = f.0; last = f.1 } in
      let c = cut_marks before p.0 (spelled_program d) (bare_program d ∙ sym f.3) in
      record { program = d; proper = f.2; earlier = c.0; at = c.1; later = c.2; spelled = c.3; same = c.4; here = c.5 }

-- Each token is read, within the limits.
unfoldable Quiet : State → List Token → State → Type 0
Quiet s [] z = s ≡ z
Quiet s (t ∷ ts) z = (next : State) × (step s t ≡ Some next) × (nesting_of next ≤ 64) × (item_of s t ≤ 255) × (operators_of next ≤ 255) × Quiet next ts z

quiet_steps : (ts : List Token) (s z : State) → Quiet s ts z → Steps s ts z
unfolding Quiet Steps
quiet_steps [] s z q = q
quiet_steps (t ∷ ts) s z q = (q.0, q.1, quiet_steps ts q.0 z q.5)

quiet_front : (a b : List Token) (s z : State) → Quiet s (a ++ b) z → (m : State) × Quiet s a m × Quiet m b z
unfolding Quiet
quiet_front [] b s z q = (s, refl, q)
quiet_front (t ∷ a) b s z q = let r = quiet_front a b q.0 z q.5 in (r.0, (q.0, q.1, q.2, q.3, q.4, r.1), r.2)

-- What goes wrong at t.
abbrev pub Fails : State → Token → Fault → Type 0
Fails s t f = ((step s t ≡ None) × (f ≡ fault_at (code_at t.kind) t))
    ⊎ ((next : State) × (step s t ≡ Some next) × (65 ≤ nesting_of next) × (f ≡ fault_at S4 t))
    ⊎ ((next : State) × (step s t ≡ Some next) × (nesting_of next ≤ 64) × ((256 ≤ item_of s t) ⊎ (256 ≤ operators_of next)) × (f ≡ fault_at S6 t))

abbrev pub Passes : State → Token → State → Type 0
Passes s t next = (step s t ≡ Some next) × (nesting_of next ≤ 64) × (item_of s t ≤ 255) × (operators_of next ≤ 255)

-- One step: it passes, or it fails.
tell_next : (s : State) (t : Token) (next : State) → step s t ≡ Some next
    → (Passes s t next × (within_limits (item_of s t) t next ≡ Ok next)) ⊎ ((f : Fault) × Fails s t f × (within_limits (item_of s t) t next ≡ Err f))
tell_next s t next e = elim (leb_tells 65 (nesting_of next)) [
  | inl p ↦ inr (fault_at S4 t, inr (inl (next, e, p.1, refl)), rw p.0 refl)
  | inr p ↦ elim (leb_tells 256 (item_of s t)) [
    | inl q ↦ inr (fault_at S6 t, inr (inr (next, e, omega arith, inl q.1, refl)), rw (p.0, q.0) refl)
    | inr q ↦ elim (leb_tells 256 (operators_of next)) [
      | inl r ↦ inr (fault_at S6 t, inr (inr (next, e, omega arith, inr r.1, refl)), rw (p.0, q.0, r.0) refl)
      | inr r ↦ inl ((e, omega arith, omega arith, omega arith), rw (p.0, q.0, r.0) refl)
    ]
  ]
]

pub tell : (s : State) (t : Token)
    → ((next : State) × Passes s t next × (next_state s t (step s t) ≡ Ok next)) ⊎ ((f : Fault) × Fails s t f × (next_state s t (step s t) ≡ Err f))
tell s t = go (step s t) refl
  where
    go : (o : Option State) → step s t ≡ o
        → ((next : State) × Passes s t next × (next_state s t (step s t) ≡ Ok next)) ⊎ ((f : Fault) × Fails s t f × (next_state s t (step s t) ≡ Err f))
    go None e = inr (fault_at (code_at t.kind) t, inl (e, refl), ap (next_state s t) e)
    go (Some next) e = elim (tell_next s t next e)
        [ inl a ↦ inl (next, a.0, ap (next_state s t) e ∙ a.1) | inr b ↦ inr (b.0, b.1, ap (next_state s t) e ∙ b.2) ]

abbrev ok : Tree → Result Tree Fault
ok tree = Ok tree

same_ok : (a b : Tree) → ok a ≡ ok b → a ≡ b
same_ok a b h = cc

finished_ok : (s : State) (tree : Tree) → tree_at_end s ≡ Ok tree → s ≡ Finished tree.entries
finished_ok (Finished es) tree h = ap (λ (t : Tree). Finished t.entries) (same_ok (record { entries = es }) tree h)
finished_ok (Top es) tree h = absurd (cc)
finished_ok (Struct es p) tree h = absurd (cc)
finished_ok (InHead es p) tree h = absurd (cc)
finished_ok (In i m) tree h = absurd (cc)

abbrev err : Fault → Result Tree Fault
err f = Err f

pub judged_on : (s : State) (t : Token) (ts : List Token) (next : State) → next_state s t (step s t) ≡ Ok next → tree_or_fault s (t ∷ ts) ≡ tree_or_fault next ts
unfolding tree_or_fault
judged_on s t ts next e = let J : Result State Fault → Result Tree Fault = λ r. elim r [ Ok z ↦ tree_or_fault z ts | Err f ↦ Err f ] in ap J e

pub judged_off : (s : State) (t : Token) (ts : List Token) (f : Fault) → next_state s t (step s t) ≡ Err f → tree_or_fault s (t ∷ ts) ≡ Err f
unfolding tree_or_fault
judged_off s t ts f e = let J : Result State Fault → Result Tree Fault = λ r. elim r [ Ok z ↦ tree_or_fault z ts | Err f ↦ Err f ] in ap J e

not_ok : {P : Type 0} (f : Fault) (tree : Tree) → Err f ≡ Ok tree → P
not_ok f tree h = absurd (cc)

judged_ok : (ts : List Token) (s : State) (tree : Tree) → tree_or_fault s ts ≡ Ok tree → Quiet s ts (Finished tree.entries)
unfolding tree_or_fault Quiet
judged_ok [] s tree h = finished_ok s tree h
judged_ok (t ∷ ts) s tree h = elim (tell s t) [
  | inl a ↦ (a.0, a.1.0, a.1.1, a.1.2, a.1.3, judged_ok ts a.0 tree (sym (judged_on s t ts a.0 a.2) ∙ h))
  | inr b ↦ not_ok b.0 tree (sym (judged_off s t ts b.0 b.2) ∙ h)
]

same_fault : (f g : Fault) → err f ≡ err g → f ≡ g
same_fault f g h = cc

judged_err : (ts : List Token) (s : State) (f : Fault) → tree_or_fault s ts ≡ Err f
    → ((a : List Token) × (t : Token) × (b : List Token) × (z : State) × (ts ≡ a ++ t ∷ b) × Quiet s a z × Fails z t f)
    ⊎ ((z : State) × Quiet s ts z × (tree_at_end z ≡ Err f))
unfolding tree_or_fault Quiet
judged_err [] s f h = inr (s, refl, h)
judged_err (t ∷ ts) s f h = elim (tell s t) [
  | inl a ↦ elim (judged_err ts a.0 f (sym (judged_on s t ts a.0 a.2) ∙ h)) [
    | inl c ↦ inl (t ∷ c.0, c.1, c.2, c.3, ap (λ (l : List Token). t ∷ l) c.4, (a.0, a.1.0, a.1.1, a.1.2, a.1.3, c.5), c.6)
    | inr c ↦ inr (c.0, (a.0, a.1.0, a.1.1, a.1.2, a.1.3, c.1), c.2)
  ]
  | inr b ↦ inl ([], t, ts, s, refl, refl, subst (Fails s t) (same_fault b.0 f (sym (judged_off s t ts b.0 b.2) ∙ h)) b.1)
]

-- A program that is read within the limits.
limited : (ms : List Mark) (s z : State) (tree : List Entry) → Follows s ms tree → Quiet s (tokens_of ms) z → AllWithin ms × (z ≡ Finished tree)
unfolding Follows Quiet tokens_of AllWithin
limited [] s z tree f q = (tt, sym q ∙ f)
limited (m ∷ ms) s z tree f q =
    let e = same_next q.0 f.0 _ q.1 f.1 in
    let r = limited ms f.0 z tree f.5 (subst (λ (ρ : State). Quiet ρ (tokens_of ms) z) e q.5) in
    let n : m.nesting ≤ 64 = omega (arith, ap nesting_of e, f.2, q.2) in
    let i : m.item ≤ 255 = omega (arith, f.3, q.3) in
    let o : m.operators ≤ 255 = omega (arith, ap operators_of e, f.4, q.4) in
    ((record { nesting = n; item = i; operators = o }, r.0), r.1)

abbrev none : Option State
none = None

abbrev tree_of : List Entry → Tree
tree_of es = record { entries = es }

same_tree : (a b : List Entry) → Finished a ≡ Finished b → a ≡ b
same_tree a b h = cc

-- What is accepted is a program within the limits.
pub accepted : (ts : List Token) (tree : Tree) → tree_or_fault (Top []) ts ≡ Ok tree → Accepts ts tree
accepted ts tree h =
    let end = Finished tree.entries in
    let q = judged_ok ts (Top []) tree h in
    let f = steps_back ts (Top []) end [] (quiet_steps ts (Top []) end q) refl in
    let d : Program = record { parts = f.0; last = f.1 } in
    let e : tokens_of (spelled_program d) ≡ ts = bare_program d ∙ (sym f.3 ∙ append-nil ts) in
    let w = limited (spelled_program d) (Top []) end (part_trees d.parts) (read_program d f.2) (rw (← e) at q) in
    record { program = d; proper = f.2; within = w.0; tokens = e; same = ap tree_of (same_tree _ tree.entries (sym w.1)) }

passes : (s : State) (m : Mark) (next : State) → step s m.token ≡ Some next → nesting_of next ≡ m.nesting → item_of s m.token ≡ m.item → operators_of next ≡ m.operators
    → IsWithin m → next_state s m.token (step s m.token) ≡ Ok next
passes s m next h a b c w = ap (next_state s m.token) h ∙ elim (leb_tells 65 (nesting_of next)) [
  | inl p ↦ absurd (omega (arith, w.nesting))
  | inr p ↦ elim (leb_tells 256 (item_of s m.token)) [
    | inl q ↦ absurd (omega (arith, w.item))
    | inr q ↦ elim (leb_tells 256 (operators_of next))
        [ inl r ↦ absurd (omega (arith, w.operators)) | inr r ↦ rw (p.0, q.0, r.0) refl ]
  ]
]

within_judged : (ms : List Mark) (s : State) (tree : List Entry) → Follows s ms tree → AllWithin ms → tree_or_fault s (tokens_of ms) ≡ Ok (record { entries = tree })
unfolding Follows tokens_of AllWithin tree_or_fault
within_judged [] s tree f w = ap tree_at_end f
within_judged (m ∷ ms) s tree f w = judged_on s m.token (tokens_of ms) f.0 (passes s m f.0 f.1 f.2 f.3 f.4 w.0) ∙ within_judged ms f.0 tree f.5 w.1

-- Each program within the limits is accepted, with its tree and no other.
pub complete : (ts : List Token) (tree : Tree) → Accepts ts tree → tree_or_fault (Top []) ts ≡ Ok tree
complete ts tree a =
    ap (tree_or_fault (Top [])) (sym a.tokens) ∙ (within_judged (spelled_program a.program) (Top []) _ (read_program a.program a.proper) a.within ∙ ap Ok a.same)

-- The first fault.
module _ (s : Span) (z : State) where
  no_way : (b : Bool) → (if b then none else none) ≡ Some z → ⊥
  no_way true h = absurd (cc)
  no_way false h = absurd (cc)

  place_end : (i : Inside) (w : Whole) (p : Place) → at_place i w p s End ≡ Some z → ⊥
  place_end i w Want h = absurd (cc)
  place_end i w Post h = absurd (cc)
  place_end i w (Have p) h = absurd (cc)
  place_end i w (Element p) h = absurd (cc)
  place_end i w (Access p) h = absurd (cc)

  making_end : (i : Inside) (m : Making) → state_in i (at_making m s End) ≡ Some z → ⊥
  making_end i (Makings.Alloc t at) h = absurd (cc)
  making_end i (Makings.Shape t at y) h = absurd (cc)
  making_end i (Makings.Modref t at) h = absurd (cc)
  making_end i (Makings.Typed st) h = absurd (cc)
  making_end i (Makings.Opened st) h = absurd (cc)

  type_end : (on : TypePart → State) (done : TypeForm → Ident → State) (cells : Bool) (p : TypePart) → with_typing on done (at_type cells p s End) ≡ Some z → ⊥
  type_end on done cells Types.Struct h = absurd (cc)
  type_end on done cells (Types.StructNamed y) h = absurd (cc)
  type_end on done cells Types.Mod h = absurd (cc)
  type_end on done true Types.ModInt h = absurd (cc)
  type_end on done false Types.ModInt h = absurd (cc)
  type_end on done cells Types.ModStruct h = absurd (cc)
  type_end on done true (Types.ModNamed y) h = absurd (cc)
  type_end on done false (Types.ModNamed y) h = absurd (cc)
  type_end on done cells (Types.Done form) h = absurd (cc)

  mode_end : (i : Inside) (m : Mode) → at_mode i m s End ≡ Some z → ⊥
  mode_end i Modes.Body h = absurd (cc)
  mode_end i (Modes.Typing at p) h = type_end (λ q. In i (Modes.Typing at q))
      (λ form x. In i (Modes.Declared at form x)) false p
      (typed_in i (λ q. Modes.Typing at q) (λ form x. Modes.Declared at form x) (at_type false p s End) z h)
  mode_end i (Modes.Declared at form x) h = absurd (cc)
  mode_end i (Modes.Named x) h = absurd (cc)
  mode_end i (Modes.Owned at) h = absurd (cc)
  mode_end i (Modes.Path e n) h = absurd (cc)
  mode_end i (Modes.Reached e x n) h = absurd (cc)
  mode_end i (Modes.Value t) h = absurd (cc)
  mode_end i (Modes.Making m) h = making_end i m h
  mode_end i (Modes.Calls f) h = absurd (cc)
  mode_end i (Modes.First f) h = absurd (cc)
  mode_end i (Modes.Before r) h = absurd (cc)
  mode_end i (Modes.Within w p) h = place_end i w p h
  mode_end i (Modes.Ends st) h = absurd (cc)
  mode_end i (Modes.Ended st) h = absurd (cc)
  mode_end i (Modes.Opens o) h = absurd (cc)
  mode_end i (Modes.Closed at e first) h = absurd (cc)
  mode_end i (Modes.Otherwise at e first) h = absurd (cc)

  struct_end : (es : List Entry) (p : StructPlace) → at_struct es p s End ≡ Some z → ⊥
  struct_end es Structs.Begun h = absurd (cc)
  struct_end es (Structs.Named x) h = absurd (cc)
  struct_end es (Structs.Members d) h = absurd (cc)
  struct_end es (Structs.Typing d p) h = type_end (λ q. Struct es (Structs.Typing d q)) (λ form x. Struct es (Structs.Ends d (record { form = form; name = x }))) true p h
  struct_end es (Structs.Ends d m) h = no_way (is_cell m.form) h
  struct_end es (Structs.Length d m) h = absurd (cc)
  struct_end es (Structs.Sized d m n) h = absurd (cc)
  struct_end es (Structs.Closed d) h = absurd (cc)

  head_end : (es : List Entry) (p : HeadPlace) → at_head es p s End ≡ Some z → ⊥
  head_end es Heads.Ceal h = absurd (cc)
  head_end es (Heads.CealNamed x) h = absurd (cc)
  head_end es Heads.Init h = absurd (cc)
  head_end es (Heads.InitNamed x) h = absurd (cc)
  head_end es (Heads.InitOpened x) h = absurd (cc)
  head_end es (Heads.InitStruct x) h = absurd (cc)
  head_end es (Heads.Shaped d) h = absurd (cc)
  head_end es (Heads.Starred d) h = absurd (cc)
  head_end es (Heads.First d) h = absurd (cc)
  head_end es (Heads.Next d) h = absurd (cc)
  head_end es (Heads.Typing d p) h =
      type_end (λ q. InHead es (Heads.Typing d q)) (λ form x. InHead es (Heads.Named (with_parameter d (record { form = form; name = x })))) false p h
  head_end es (Heads.Named d) h = absurd (cc)
  head_end es (Heads.Done d) h = absurd (cc)

  place_cut : (i : Inside) (w : Whole) (p : Place) → at_place i w p s Cut ≡ Some z → ⊥
  place_cut i w Want h = absurd (cc)
  place_cut i w Post h = absurd (cc)
  place_cut i w (Have p) h = absurd (cc)
  place_cut i w (Element p) h = absurd (cc)
  place_cut i w (Access p) h = absurd (cc)

  making_cut : (i : Inside) (m : Making) → state_in i (at_making m s Cut) ≡ Some z → ⊥
  making_cut i (Makings.Alloc t at) h = absurd (cc)
  making_cut i (Makings.Shape t at y) h = absurd (cc)
  making_cut i (Makings.Modref t at) h = absurd (cc)
  making_cut i (Makings.Typed st) h = absurd (cc)
  making_cut i (Makings.Opened st) h = absurd (cc)

  type_cut : (on : TypePart → State) (done : TypeForm → Ident → State) (cells : Bool) (p : TypePart) → with_typing on done (at_type cells p s Cut) ≡ Some z → ⊥
  type_cut on done cells Types.Struct h = absurd (cc)
  type_cut on done cells (Types.StructNamed y) h = absurd (cc)
  type_cut on done cells Types.Mod h = absurd (cc)
  type_cut on done true Types.ModInt h = absurd (cc)
  type_cut on done false Types.ModInt h = absurd (cc)
  type_cut on done cells Types.ModStruct h = absurd (cc)
  type_cut on done true (Types.ModNamed y) h = absurd (cc)
  type_cut on done false (Types.ModNamed y) h = absurd (cc)
  type_cut on done cells (Types.Done form) h = absurd (cc)

  mode_cut : (i : Inside) (m : Mode) → at_mode i m s Cut ≡ Some z → ⊥
  mode_cut i Modes.Body h = absurd (cc)
  mode_cut i (Modes.Typing at p) h = type_cut (λ q. In i (Modes.Typing at q))
      (λ form x. In i (Modes.Declared at form x)) false p
      (typed_in i (λ q. Modes.Typing at q) (λ form x. Modes.Declared at form x) (at_type false p s Cut) z h)
  mode_cut i (Modes.Declared at form x) h = absurd (cc)
  mode_cut i (Modes.Named x) h = absurd (cc)
  mode_cut i (Modes.Owned at) h = absurd (cc)
  mode_cut i (Modes.Path e n) h = absurd (cc)
  mode_cut i (Modes.Reached e x n) h = absurd (cc)
  mode_cut i (Modes.Value t) h = absurd (cc)
  mode_cut i (Modes.Making m) h = making_cut i m h
  mode_cut i (Modes.Calls f) h = absurd (cc)
  mode_cut i (Modes.First f) h = absurd (cc)
  mode_cut i (Modes.Before r) h = absurd (cc)
  mode_cut i (Modes.Within w p) h = place_cut i w p h
  mode_cut i (Modes.Ends st) h = absurd (cc)
  mode_cut i (Modes.Ended st) h = absurd (cc)
  mode_cut i (Modes.Opens o) h = absurd (cc)
  mode_cut i (Modes.Closed at e first) h = absurd (cc)
  mode_cut i (Modes.Otherwise at e first) h = absurd (cc)

  struct_cut : (es : List Entry) (p : StructPlace) → at_struct es p s Cut ≡ Some z → ⊥
  struct_cut es Structs.Begun h = absurd (cc)
  struct_cut es (Structs.Named x) h = absurd (cc)
  struct_cut es (Structs.Members d) h = absurd (cc)
  struct_cut es (Structs.Typing d p) h = type_cut (λ q. Struct es (Structs.Typing d q)) (λ form x. Struct es (Structs.Ends d (record { form = form; name = x }))) true p h
  struct_cut es (Structs.Ends d m) h = no_way (is_cell m.form) h
  struct_cut es (Structs.Length d m) h = absurd (cc)
  struct_cut es (Structs.Sized d m n) h = absurd (cc)
  struct_cut es (Structs.Closed d) h = absurd (cc)

  head_cut : (es : List Entry) (p : HeadPlace) → at_head es p s Cut ≡ Some z → ⊥
  head_cut es Heads.Ceal h = absurd (cc)
  head_cut es (Heads.CealNamed x) h = absurd (cc)
  head_cut es Heads.Init h = absurd (cc)
  head_cut es (Heads.InitNamed x) h = absurd (cc)
  head_cut es (Heads.InitOpened x) h = absurd (cc)
  head_cut es (Heads.InitStruct x) h = absurd (cc)
  head_cut es (Heads.Shaped d) h = absurd (cc)
  head_cut es (Heads.Starred d) h = absurd (cc)
  head_cut es (Heads.First d) h = absurd (cc)
  head_cut es (Heads.Next d) h = absurd (cc)
  head_cut es (Heads.Typing d p) h =
      type_cut (λ q. InHead es (Heads.Typing d q)) (λ form x. InHead es (Heads.Named (with_parameter d (record { form = form; name = x })))) false p h
  head_cut es (Heads.Named d) h = absurd (cc)
  head_cut es (Heads.Done d) h = absurd (cc)

  step_end : (m : State) → step m (record { kind = End; span = s }) ≡ Some z → (tree : List Entry) × (z ≡ Finished tree)
  step_end (Top es) h = (es, cc)
  step_end (Struct es p) h = absurd (struct_end es p h)
  step_end (InHead es p) h = absurd (head_end es p h)
  step_end (In i m) h = absurd (mode_end i m h)
  step_end (Finished es) h = absurd (cc)

  step_cut : (m : State) → step m (record { kind = Cut; span = s }) ≡ Some z → ⊥
  step_cut (Top es) h = absurd (cc)
  step_cut (Struct es p) h = struct_cut es p h
  step_cut (InHead es p) h = head_cut es p h
  step_cut (In i m) h = mode_cut i m h
  step_cut (Finished es) h = absurd (cc)

ended_finished : (m z : State) (t : Token) (f : Fault) → (t.kind ≡ End) ⊎ (t.kind ≡ Cut) → step m t ≡ Some z → tree_at_end z ≡ Err f → ⊥
ended_finished m z t f (inl e) h g =
    let r = step_end t.span z m (ap (λ k. step m (record { kind = k; span = t.span })) (sym e) ∙ h) in
    not_ok f (tree_of r.0) (sym g ∙ ap tree_at_end r.1)
ended_finished m z t f (inr e) h g = step_cut t.span z m (ap (λ k. step m (record { kind = k; span = t.span })) (sym e) ∙ h)

cleaned : (a : List Token) (t : Token) (b : List Token) (z : State) → Quiet (Top []) (a ++ t ∷ b) z → IsClean a t
unfolding Quiet
cleaned a t b z q =
    let r = quiet_front a (t ∷ b) (Top []) z q in
    let st = quiet_steps a (Top []) r.0 r.1 in
    let c = exists a t r.0 st r.2.0 r.2.1 in
    let m = marked a t r.0 st r.2.0 r.2.1 c in
    let n : c.at.nesting ≤ 64 = omega (arith, m.0, r.2.2) in
    let i : c.at.item ≤ 255 = omega (arith, m.1, r.2.3) in
    let o : c.at.operators ≤ 255 = omega (arith, m.2, r.2.4) in
    (c, record { nesting = n; item = i; operators = o })

code_stands : (before : List Token) (k : TokenKind) (s : Span) → (Begins before (record { kind = k; span = s }) → ⊥) → StandsAt before (record { kind = k; span = s }) (code_at k)
code_stands before End s n = (inl refl, n)
code_stands before Cut s n = (inr refl, n)
code_stands before (Name x) s n = ((λ e. absurd (cc)), (λ e. absurd (cc)), n)
code_stands before (Number x) s n = ((λ e. absurd (cc)), (λ e. absurd (cc)), n)
code_stands before (Reserved x) s n = ((λ e. absurd (cc)), (λ e. absurd (cc)), n)
code_stands before (Sign x) s n = ((λ e. absurd (cc)), (λ e. absurd (cc)), n)

module _ (ts before : List Token) (t : Token) (later : List Token) (z : State) (e : ts ≡ before ++ t ∷ later) (q : Quiet (Top []) before z) where
  fails_first : (f : Fault) → Fails z t f → IsFirstFault ts f
  fails_first f (inl h) = subst (IsFirstFault ts) (sym h.1)
      (record {
        before = before;
        at = t;
        later = later;
        tokens = e;
        clean = λ a x b p. cleaned a x b z (rw p at q);
        span = refl;
        stands = code_stands before t.kind t.span (stuck before t z (quiet_steps before (Top []) z q) h.0);
      })
  fails_first f (inr (inl h)) =
      let st = quiet_steps before (Top []) z q in
      let b = exists before t z st h.0 h.1 in
      let deep : 65 ≤ b.at.nesting = omega (arith, (marked before t z st h.0 h.1 b).0, h.2) in
      subst (IsFirstFault ts) (sym h.3)
      (record { before = before; at = t; later = later; tokens = e; clean = λ a x b p. cleaned a x b z (rw p at q); span = refl; stands = (b, deep) })
  fails_first f (inr (inr h)) =
      let st = quiet_steps before (Top []) z q in
      let b = exists before t z st h.0 h.1 in
      let m = marked before t z st h.0 h.1 b in
      let low : b.at.nesting ≤ 64 = omega (arith, m.0, h.2) in
      let many : (256 ≤ b.at.item) ⊎ (256 ≤ b.at.operators) = elim h.3 [ inl c ↦ inl (omega (arith, m.1, c)) | inr c ↦ inr (omega (arith, m.2, c)) ] in
      subst (IsFirstFault ts) (sym h.4)
      (record { before = before; at = t; later = later; tokens = e; clean = λ a x b p. cleaned a x b z (rw p at q); span = refl; stands = (b, low, many) })

-- The fault that a reading gives is the first one.
pub faulty : (ts : List Token) (f : Fault) → IsEnded ts → tree_or_fault (Top []) ts ≡ Err f → IsFirstFault ts f
unfolding Quiet
faulty ts f ended h = elim (judged_err ts (Top []) f h) [
  | inl c ↦ fails_first ts c.0 c.1 c.2 c.3 c.4 c.5 f c.6
  | inr c ↦
      let r = quiet_front ended.before (ended.last ∷ []) (Top []) c.0 (rw ended.whole at c.1) in
      absurd (ended_finished r.0 r.2.0 ended.last f ended.kind r.2.1 (ap tree_at_end r.2.5 ∙ c.2))
]

-- No other fault is the first.
steps_append : (a b : List Token) (s m z : State) → Steps s a m → Steps m b z → Steps s (a ++ b) z
unfolding Steps
steps_append [] b s m z p q = subst (λ (ρ : State). Steps ρ b z) (sym p) q
steps_append (t ∷ a) b s m z p q = (p.0, p.1, steps_append a b p.0 m z p.2 q)

-- where the tokens so far are read, a program that begins with one more shows that it is read
goes : (before : List Token) (t : Token) (s : State) → Steps (Top []) before s → (b : Begins before t)
    → (next : State) × (step s t ≡ Some next) × (nesting_of next ≡ b.at.nesting) × (item_of s t ≡ b.at.item) × (operators_of next ≡ b.at.operators)
unfolding Follows
goes before t s st b =
    let f = followed before t s st b in
    let h = ap (step s) (sym b.here) ∙ f.1 in
    let m = marked before t s st f.0 h b in
    (f.0, h, m.0, m.1, m.2)

clean_quiet : (rest done : List Token) (s : State) → Steps (Top []) done s
    → ((a : List Token) (t : Token) (b : List Token) → done ++ rest ≡ a ++ t ∷ b → IsClean a t)
    → (z : State) × Quiet s rest z
unfolding Quiet Steps
clean_quiet [] done s st c = (s, refl)
clean_quiet (t ∷ rest) done s st c =
    let b = c done t rest refl in
    let g = goes done t s st b.0 in
    let r = clean_quiet rest (done ++ t ∷ []) g.0 (steps_append done (t ∷ []) (Top []) s g.0 st (g.0, g.1, refl))
    (λ a x l p. c a x l (sym (append_assoc done (t ∷ []) rest) ∙ p)) in
    let n : nesting_of g.0 ≤ 64 = omega (arith, g.2, b.1.nesting) in
    let i : item_of s t ≤ 255 = omega (arith, g.3, b.1.item) in
    let o : operators_of g.0 ≤ 255 = omega (arith, g.4, b.1.operators) in
    (r.0, (g.0, g.1, n, i, o, r.1))

judged_append : (a b : List Token) (s z : State) → Quiet s a z → tree_or_fault s (a ++ b) ≡ tree_or_fault z b
unfolding Quiet
judged_append [] b s z q = ap (λ (ρ : State). tree_or_fault ρ b) q
judged_append (t ∷ a) b s z q =
    judged_on s t (a ++ b) q.0 (passes s (record { token = t; nesting = nesting_of q.0; item = item_of s t; operators = operators_of q.0 }) q.0 q.1 refl refl refl
    (record { nesting = q.2; item = q.3; operators = q.4 })) ∙ judged_append a b q.0 z q.5

stuck_at : (before : List Token) (t : Token) (s : State) → Steps (Top []) before s → (Begins before t → ⊥) → step s t ≡ None
stuck_at before t s st n = go (step s t) refl
  where
    go : (o : Option State) → step s t ≡ o → step s t ≡ None
    go None e = e
    go (Some z) e = absurd (n (exists before t s st z e))

not_code : (k : TokenKind) → k ≢ End → k ≢ Cut → code_at k ≡ S3
not_code End e c = absurd (e refl)
not_code Cut e c = absurd (c refl)
not_code (Name x) e c = refl
not_code (Number x) e c = refl
not_code (Reserved x) e c = refl
not_code (Sign x) e c = refl

last_code : (k : TokenKind) → (k ≡ End) ⊎ (k ≡ Cut) → code_at k ≡ S5
last_code k (inl e) = ap code_at e
last_code k (inr e) = ap code_at e

deep_fails : (s next : State) (t : Token) → step s t ≡ Some next → 65 ≤ nesting_of next → next_state s t (step s t) ≡ Err (fault_at S4 t)
deep_fails s next t e h = ap (next_state s t) e ∙ elim (leb_tells 65 (nesting_of next)) [ inl p ↦ rw p.0 refl | inr p ↦ absurd (omega arith) ]

many_fails : (s next : State) (t : Token) → step s t ≡ Some next → nesting_of next ≤ 64 → (256 ≤ item_of s t) ⊎ (256 ≤ operators_of next)
    → next_state s t (step s t) ≡ Err (fault_at S6 t)
many_fails s next t e h c = ap (next_state s t) e ∙ elim (leb_tells 65 (nesting_of next)) [
  | inl p ↦ absurd (omega arith)
  | inr p ↦ elim (leb_tells 256 (item_of s t)) [
    | inl q ↦ rw (p.0, q.0) refl
    | inr q ↦ elim c [
      | inl k ↦ absurd (omega arith)
      | inr k ↦ elim (leb_tells 256 (operators_of next)) [ inl r ↦ rw (p.0, q.0, r.0) refl | inr r ↦ absurd (omega arith) ]
    ]
  ]
]

stands_fails : (before : List Token) (t : Token) (s : State) → Steps (Top []) before s → (code : FaultCode) → StandsAt before t code
    → next_state s t (step s t) ≡ Err (fault_at code t)
stands_fails before t s st S3 h =
    ap (next_state s t) (stuck_at before t s st h.2) ∙ ap (λ (c : FaultCode). advanced_err c) (not_code t.kind h.0 h.1)
  where
    advanced_err : FaultCode → Result State Fault
    advanced_err c = Err (fault_at c t)
stands_fails before t s st S5 h =
    ap (next_state s t) (stuck_at before t s st h.1) ∙ ap (λ (c : FaultCode). advanced_err c) (last_code t.kind h.0)
  where
    advanced_err : FaultCode → Result State Fault
    advanced_err c = Err (fault_at c t)
stands_fails before t s st S1 h = absurd h
stands_fails before t s st S2 h = absurd h
stands_fails before t s st N1 h = absurd h
stands_fails before t s st N2 h = absurd h
stands_fails before t s st T1 h = absurd h
stands_fails before t s st T2 h = absurd h
stands_fails before t s st T3 h = absurd h
stands_fails before t s st T4 h = absurd h
stands_fails before t s st T5 h = absurd h
stands_fails before t s st U1 h = absurd h
stands_fails before t s st U2 h = absurd h
stands_fails before t s st U3 h = absurd h
stands_fails before t s st U4 h = absurd h
stands_fails before t s st U5 h = absurd h
stands_fails before t s st U6 h = absurd h
stands_fails before t s st L1 h = absurd h
stands_fails before t s st S4 h =
    let g = goes before t s st h.0 in
    let n : 65 ≤ nesting_of g.0 = omega (arith, g.2, h.1) in deep_fails s g.0 t g.1 n
stands_fails before t s st S6 h =
    let g = goes before t s st h.0 in
    let n : nesting_of g.0 ≤ 64 = omega (arith, g.2, h.1) in
    let m : (256 ≤ item_of s t) ⊎ (256 ≤ operators_of g.0) = elim h.2 [ inl c ↦ inl (omega (arith, g.3, c)) | inr c ↦ inr (omega (arith, g.4, c)) ] in
    many_fails s g.0 t g.1 n m

pub first_given : (ts : List Token) (f : Fault) → IsFirstFault ts f → tree_or_fault (Top []) ts ≡ Err f
unfolding Steps
first_given ts f h =
    let q = clean_quiet h.before [] (Top []) refl h.clean in
    let st = quiet_steps h.before (Top []) q.0 q.1 in
    ap (tree_or_fault (Top [])) h.tokens ∙ (judged_append h.before (h.at ∷ h.later) (Top []) q.0 q.1
    ∙ (judged_off q.0 h.at h.later (fault_at f.code h.at) (stands_fails h.before h.at q.0 st f.code h.stands)
    ∙ ap (λ (s : Span). err (record { code = f.code; span = s })) (sym h.span)))
