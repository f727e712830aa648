-- What the sessions that are kept answer, for the states that they stand for.
use Rattle.std.proofs.Common.{◌≡◌, ℕ, Bool, true, false, nat_le, Option, Some, None, List, [], length, get_or, slice_set, Result, Ok, Err, IfOk, OnErr, refl, sym, ap, ◌∙◌, subst}
use Rattle.std.specs.Prelude.{is_none, unwrap_or, position, ◌&&◌, if◌then◌else◌}
use Rattle.ceal_many.specs.Kept.{StandFor, Begins}
use Rattle.ceal_many.specs.Lines.{Said, Blank, For, Unreadable, said, is_blank, addressed}
use Rattle.ceal_many.specs.Prefixes.{full_text, unreadable_text}
use Rattle.ceal_many.specs.Replies.{Writes, LeavesOne, AnswersUnless, AnswersFor, LeavesAs, LeavesFor, AnswersSaid, Answers, LeavesSaid, Leaves}
use Rattle.ceal_many.specs.Sessions.{MOST, Named, with_state, state_for, is_refused}
use Rattle.ceal_many.specs.Standing.{IsAnswered, IsLeft}
use Rattle.ceal_many.specs.declared.entry.Entry.{Entry}
use Rattle.ceal_many.proofs.Finding.{is_its, found, its-name, missing, behind, no-room}

-- a new name is not there, and after running out of memory it is not there either
module _ {A S : Type 0} (stands : A → S → Type 0) (answers : S → List ℕ → List ℕ → S → Type 0) (leaves : S → List ℕ → S → Type 0)
    (held : List (Entry A)) (name line : List ℕ) (p : position (is_its stands name) held ≡ None) where
  none-left : (ss : List (Named S)) → StandFor stands held ss → LeavesFor answers leaves name ss line ss
  none-left ss t = subst (λ (o : Option S). LeavesAs o answers leaves name ss line ss) (sym (missing stands name held ss p t)) refl

module _ {A S E : Type 0} (stands : A → S → Type 0) (answers : S → List ℕ → List ℕ → S → Type 0) (leaves : S → List ℕ → S → Type 0) (opening : S)
    (held : List (Entry A)) (name line : List ℕ) where
  abbrev Replied : Result (List ℕ) E → List (Entry A) → Type 0
  Replied r new = IfOk r (λ text. IsAnswered (StandFor stands) (AnswersFor answers opening name) held line text new)

  abbrev Lost : Result (List ℕ) E → List (Entry A) → Type 0
  Lost r new = OnErr r (IsLeft (StandFor stands) (LeavesFor answers leaves name) held line new)

  -- a session that is there
  module _ (at : ℕ) (e f : Entry A) (p : position (is_its stands name) held ≡ Some at) (is : e ≡ get_or held at e) (same : f.name ≡ e.name) where
    pub there-replied : (r : Result (List ℕ) E) → IfOk r (λ text. IsAnswered stands (Writes answers e.name) e.answerer line text f.answerer)
        → Replied r (slice_set held at f)
    there-replied (Err x) h = tt
    there-replied (Ok text) h = λ ss t.
        (let q = found stands name held ss at e p is t in
        let a = h q.0 q.2 in
        let now : q.0 ≡ state_for opening name ss = sym (ap (λ (o : Option S). unwrap_or o opening) q.1) in
        let fits : is_refused name ss ≡ false = ap (λ (o : Option S). is_none o && nat_le MOST (length ss)) q.1 in
        let writes : Writes answers name q.0 line text a.0 = subst (λ (m : List ℕ). Writes answers m q.0 line text a.0) (sym (its-name stands name held at e p is)) a.2 in (
          with_state name a.0 ss,
          q.3 f a.0 same a.1,
          subst (λ (b : Bool). AnswersUnless b answers opening name ss line text (with_state name a.0 ss)) (sym fits)
              (record { state = a.0; writes = subst (λ (s : S). Writes answers name s line text a.0) now writes; others = refl }),
        ))

    pub there-lost : (r : Result (List ℕ) E) → OnErr r (IsLeft stands (LeavesOne answers leaves) e.answerer line f.answerer) → Lost r (slice_set held at f)
    there-lost (Ok text) h = tt
    there-lost (Err x) h = λ ss t.
        (let q = found stands name held ss at e p is t in
        let a = h q.0 q.2 in (
          with_state name a.0 ss,
          q.3 f a.0 same a.1,
          subst (λ (o : Option S). LeavesAs o answers leaves name ss line (with_state name a.0 ss)) (sym q.1) (a.0, a.2, refl),
        ))

  -- a new name
  module _ (p : position (is_its stands name) held ≡ None) where
    pub full-replied : nat_le MOST (length held) ≡ true → (r : Result (List ℕ) E) → IfOk r (λ text. text ≡ full_text) → Replied r held
    full-replied many (Err x) h = tt
    full-replied many (Ok text) h = λ ss t. (
      ss,
      t,
      subst (λ (b : Bool). AnswersUnless b answers opening name ss line text ss) (sym (no-room stands name held ss true p many t))
          (record { written = h; same = refl }),
    )

    pub full-lost : (r : Result (List ℕ) E) → Lost r held
    full-lost (Ok text) = tt
    full-lost (Err x) = λ ss t. (ss, t, none-left stands answers leaves held name line p ss t)

    pub begun-replied : nat_le MOST (length held) ≡ false → (new : List (Entry A)) (r : Result (List ℕ) E)
        → IfOk r (λ text. Begins stands answers opening name line held text new) → Replied r new
    begun-replied few new (Err x) h = tt
    begun-replied few new (Ok text) h = λ ss t.
        (let none = missing stands name held ss p t in
        let now : opening ≡ state_for opening name ss = sym (ap (λ (o : Option S). unwrap_or o opening) none) in (
          with_state name h.state ss,
          subst (λ (es : List (Entry A)). StandFor stands es (with_state name h.state ss)) (sym h.sessions)
              (behind stands name held ss (record { name = name; answerer = h.answerer }) h.state none t refl h.stand),
          subst (λ (b : Bool). AnswersUnless b answers opening name ss line text (with_state name h.state ss)) (sym (no-room stands name held ss false p few t))
              (record { state = h.state; writes = subst (λ (s : S). Writes answers name s line text h.state) now h.writes; others = refl }),
        ))

    pub begun-lost : (new : List (Entry A)) (r : Result (List ℕ) E) → OnErr r (new ≡ held) → Lost r new
    begun-lost new (Ok text) h = tt
    begun-lost new (Err x) h = λ ss t. (ss, subst (λ (es : List (Entry A)). StandFor stands es ss) (sym h) t, none-left stands answers leaves held name line p ss t)

-- what a line says
pub blank-said : (line : List ℕ) (b : Bool) → b ≡ is_blank line → b ≡ true → said line ≡ Blank
unfolding said
blank-said line b e f = ap (λ (t : Bool). if t then Blank else addressed line) (sym e ∙ f)

pub other-said : (line : List ℕ) (b : Bool) (w : Said) → b ≡ is_blank line → b ≡ false → addressed line ≡ w → said line ≡ w
unfolding said
other-said line b w e f g = ap (λ (t : Bool). if t then Blank else addressed line) (sym e ∙ f) ∙ g

module _ {A S : Type 0} (stands : A → S → Type 0) (answers : S → List ℕ → List ℕ → S → Type 0) (opening : S) (leaves : S → List ℕ → S → Type 0)
    (held : List (Entry A)) (line : List ℕ) where
  abbrev SaidReply : List ℕ → List (Entry A) → Type 0
  SaidReply text new = IsAnswered (StandFor stands) (Answers answers opening) held line text new

  abbrev SaidLoss : List (Entry A) → Type 0
  SaidLoss new = IsLeft (StandFor stands) (Leaves answers leaves) held line new

  pub blank-replied : (text : List ℕ) → said line ≡ Blank → text ≡ [] → SaidReply text held
  blank-replied text w e = λ ss t.
      (ss, t, subst (λ (x : Said). AnswersSaid answers opening ss x text ss) (sym w) (record { written = e; same = refl }))

  module _ {E : Type 0} (w : said line ≡ Unreadable) where
    pub unreadable-replied : (r : Result (List ℕ) E) → IfOk r (λ text. text ≡ unreadable_text) → IfOk r (λ text. SaidReply text held)
    unreadable-replied (Err x) e = tt
    unreadable-replied (Ok text) e = λ ss t.
        (ss, t, subst (λ (x : Said). AnswersSaid answers opening ss x text ss) (sym w) (record { written = e; same = refl }))

    pub unreadable-lost : (r : Result (List ℕ) E) → OnErr r (SaidLoss held)
    unreadable-lost (Ok text) = tt
    unreadable-lost (Err x) = λ ss t. (ss, t, subst (λ (y : Said). LeavesSaid answers leaves ss y ss) (sym w) refl)

  module _ {E : Type 0} (name own : List ℕ) (w : said line ≡ For name own) (new : List (Entry A)) where
    pub named-replied : (r : Result (List ℕ) E)
        → IfOk r (λ text. IsAnswered (StandFor stands) (AnswersFor answers opening name) held own text new) → IfOk r (λ text. SaidReply text new)
    named-replied (Err x) h = tt
    named-replied (Ok text) h = λ ss t.
        (let a = h ss t in (a.0, a.1, subst (λ (x : Said). AnswersSaid answers opening ss x text a.0) (sym w) a.2))

    pub named-lost : (r : Result (List ℕ) E) → OnErr r (IsLeft (StandFor stands) (LeavesFor answers leaves name) held own new) → OnErr r (SaidLoss new)
    named-lost (Ok text) h = tt
    named-lost (Err x) h = λ ss t. (let a = h ss t in (a.0, a.1, subst (λ (y : Said). LeavesSaid answers leaves ss y a.0) (sym w) a.2))
