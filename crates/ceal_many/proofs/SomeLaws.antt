-- Each line has a reply, and a condition is kept.
use Rattle.std.proofs.Common.{ℕ, Bool, true, false, Some, List, [], ◌∷◌, refl, sym, subst}
use Rattle.std.specs.Prelude.{unwrap_or, bytes_eq, if◌then◌else◌}
use Rattle.ceal_many.specs.Kept.{AllMeet}
use Rattle.ceal_many.specs.Laws.{Keeps, KeptLaw, GoesOn, SomeReplyLaw}
use Rattle.ceal_many.specs.Lines.{Said, Blank, For, Unreadable, said}
use Rattle.ceal_many.specs.Prefixes.{full_text, unreadable_text, prefixed}
use Rattle.ceal_many.specs.Replies.{AnswersUnless, AnswersSaid, AreReplies}
use Rattle.ceal_many.specs.Sessions.{Named, session, state_of, with_state, state_for, is_refused}
use Rattle.ceal_many.specs.Standing.{Answering}

module _ {S : Type 0} (needs : S → Type 0) where
  put-meets : (name : List ℕ) (n : S) (ss : List (Named S)) → needs n → AllMeet needs ss → AllMeet needs (with_state name n ss)
  unfolding with_state
  put-meets name n [] h m = (h, tt)
  put-meets name n (s ∷ ss) h m =
      let go : (b : Bool) → AllMeet needs (if b then session s.name n ∷ ss else s ∷ with_state name n ss) =
      elim [ true ↦ (h, m.1) | false ↦ (m.0, put-meets name n ss h m.1) ] in
      go (bytes_eq name s.name)

  meets-for : (opening : S) (name : List ℕ) (ss : List (Named S)) → needs opening → AllMeet needs ss → needs (state_for opening name ss)
  unfolding state_of
  meets-for opening name [] h m = h
  meets-for opening name (s ∷ ss) h m =
      let go : (b : Bool) → needs (unwrap_or (if b then Some s.state else state_of name ss) opening) =
      elim [ true ↦ m.0 | false ↦ meets-for opening name ss h m.1 ] in
      go (bytes_eq name s.name)

  module _ (answers : Answering S) (opening : S) (h : needs opening) where
    kept-for : (keeps : Keeps needs answers) (name line text : List ℕ) (ss next : List (Named S)) (r : Bool) → AllMeet needs ss
        → AnswersUnless r answers opening name ss line text next → AllMeet needs next
    kept-for keeps name line text ss next true m a = subst (λ (es : List (Named S)). AllMeet needs es) (sym a.same) m
    kept-for keeps name line text ss next false m a =
        subst (λ (es : List (Named S)). AllMeet needs es) (sym a.others)
        (put-meets name a.state ss (keeps (state_for opening name ss) line a.writes.reply a.state (meets-for opening name ss h m) a.writes.answer) m)

    kept-said : (keeps : Keeps needs answers) (w : Said) (text : List ℕ) (ss next : List (Named S)) → AllMeet needs ss
        → AnswersSaid answers opening ss w text next → AllMeet needs next
    kept-said keeps Blank text ss next m a = subst (λ (es : List (Named S)). AllMeet needs es) (sym a.same) m
    kept-said keeps Unreadable text ss next m a = subst (λ (es : List (Named S)). AllMeet needs es) (sym a.same) m
    kept-said keeps (For name line) text ss next m a = kept-for keeps name line text ss next (is_refused name ss) m a

    some-for : (goes : GoesOn needs answers) (name line : List ℕ) (ss : List (Named S)) (r : Bool) → AllMeet needs ss
        → (text : List ℕ) × (next : List (Named S)) × AnswersUnless r answers opening name ss line text next × AllMeet needs next
    some-for goes name line ss true m = (full_text, ss, record { written = refl; same = refl }, m)
    some-for goes name line ss false m =
        let a = goes (state_for opening name ss) line (meets-for opening name ss h m) in (
          prefixed name a.0,
          with_state name a.1 ss,
          record { state = a.1; writes = record { reply = a.0; answer = a.2; written = refl }; others = refl },
          put-meets name a.1 ss a.3 m,
        )

    some-said : (goes : GoesOn needs answers) (w : Said) (ss : List (Named S)) → AllMeet needs ss
        → (text : List ℕ) × (next : List (Named S)) × AnswersSaid answers opening ss w text next × AllMeet needs next
    some-said goes Blank ss m = ([], ss, record { written = refl; same = refl }, m)
    some-said goes Unreadable ss m = (unreadable_text, ss, record { written = refl; same = refl }, m)
    some-said goes (For name line) ss m = some-for goes name line ss (is_refused name ss) m

    some-lines : (goes : GoesOn needs answers) (lines : List (List ℕ)) (ss : List (Named S)) → AllMeet needs ss
        → (texts : List (List ℕ)) × (next : List (Named S)) × AreReplies answers opening ss lines texts next
    unfolding AreReplies
    some-lines goes [] ss m = ([], ss, (refl, refl))
    some-lines goes (line ∷ lines) ss m =
        let a = some-said goes (said line) ss m in
        let b = some-lines goes lines a.1 a.3 in
        (a.0 ∷ b.0, b.1, (a.0, a.1, b.0, a.2, b.2, refl))

pub kept-law : {S : Type 0} (needs : S → Type 0) (answers : Answering S) → KeptLaw needs answers
kept-law needs answers opening ss next line text keeps h m a = kept-said needs answers opening h keeps (said line) text ss next m a

pub some-law : {S : Type 0} (needs : S → Type 0) (answers : Answering S) → SomeReplyLaw needs answers
some-law needs answers opening ss lines goes h m = some-lines needs answers opening h goes lines ss m
