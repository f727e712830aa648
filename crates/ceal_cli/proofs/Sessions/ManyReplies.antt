-- The replies of many sessions, one line after another.
use Rattle.std.proofs.Common.{◌≡◌, inl, inr, ℕ, List, [], ◌∷◌, ◌++◌, Option, refl, sym, ap, subst, append_assoc, append-nil}
use Rattle.std.specs.Io.KnownBytes.{Appends}
use Rattle.std.proofs.KnownBytes.{Appends-trans, Appends-nil}
use Rattle.ceal_many.specs.Kept.{AllMeet}
use Rattle.ceal_many.specs.Laws.{KeptLaw, SomeReplyLaw}
use Rattle.ceal_many.specs.Replies.{Answers, AreReplies}
use Rattle.ceal_many.specs.Sessions.{Named}
use Rattle.ceal_many.specs.declared.entry.Entry.{Entry}
use Rattle.ceal_session.specs.Laws.{OneReplyLaw, SomeReplyLaw as Session_law}
use Rattle.ceal_session.specs.Replies.{Replies}
use Rattle.ceal_session.specs.Consistency.{IsConsistent}
use Rattle.ceal_session.specs.State.{Situation}
use Rattle.ceal_cli.specs.ManySessions.{joined_texts, AreTold}
use Rattle.ceal_cli.specs.Members.{AreIn, Answered}
use Rattle.ceal_cli.specs.SinkGrowth.{Grows}
use Rattle.ceal_cli.specs.Output.{Begins}
use Rattle.ceal_cli.specs.declared.members.Member.{Member}
use Rattle.ceal_cli.proofs.Sessions.GrowingReplies.{weaker}
use Rattle.ceal_cli.proofs.Sessions.ReplyPrefixes.{same-front, more-behind, nothing-first}
use Rattle.ceal_cli.proofs.Sessions.SessionInSituation.{goes-on, keeps}

-- so far this was written, and the sessions are in these situations
pub record ToldSoFar (old now : Option (List ℕ)) (first : Situation) (all left : List (List ℕ)) (sessions : List (Entry Member)) : Type 0 where
  pub part : List ℕ
  pub appends : Appends old now part
  pub situations : List (Named Situation)
  pub are_in : AreIn sessions situations
  pub sound : AllMeet IsConsistent situations
  pub whole : (out : List ℕ) → AreTold first situations left out → AreTold first [] all (part ++ out)

pub none-told : (a : Option (List ℕ)) (first : Situation) (lines : List (List ℕ)) (sessions : List (Entry Member)) → sessions ≡ [] → ToldSoFar a a first lines lines sessions
none-told a first lines sessions e =
    subst (ToldSoFar a a first lines lines) (sym e) (record { part = []; appends = Appends-nil a; situations = []; are_in = tt; sound = tt; whole = λ out h. h })

-- one line more in front
front : (first : Situation) (ss next : List (Named Situation)) (line text : List ℕ) (lines : List (List ℕ)) (out : List ℕ)
    → Answers Replies first ss line text next → AreTold first next lines out → AreTold first ss (line ∷ lines) (text ++ out)
unfolding AreReplies
front first ss next line text lines out answers h =
    record { texts = text ∷ h.texts; next = h.next; replies = (text, next, h.texts, answers, h.replies, refl); whole = ap (λ o. text ++ o) h.whole }

no-lines : (first : Situation) (ss : List (Named Situation)) → AreTold first ss [] []
unfolding AreReplies
no-lines first ss = record { texts = []; next = ss; replies = (refl, refl); whole = refl }

module _ (session : Session_law) (once : OneReplyLaw) (kept : KeptLaw IsConsistent Replies) (some : SomeReplyLaw IsConsistent Replies) (first : Situation) (begins : IsConsistent first) where
  -- there is a text of replies
  pub told-for : (ss : List (Named Situation)) (lines : List (List ℕ)) → AllMeet IsConsistent ss → (out : List ℕ) × AreTold first ss lines out
  told-for ss lines h =
      let t = some first ss lines (goes-on session) begins h in
      (joined_texts t.0, record { texts = t.0; next = t.1; replies = t.2; whole = refl })

  sound-next : (ss next : List (Named Situation)) (line text : List ℕ) → AllMeet IsConsistent ss → Answers Replies first ss line text next → AllMeet IsConsistent next
  sound-next ss next line text h answers = kept first ss next line text (keeps session once) begins h answers

  module _ (a b c : Option (List ℕ)) (all lines : List (List ℕ)) (line : List ℕ) (old new : List (Entry Member)) (so_far : ToldSoFar a b first all (line ∷ lines) old) where
    -- one more reply was written whole
    pub one-told : Grows b c (Answered first old line new) → ToldSoFar a c first all lines new
    one-told g =
        let next = g.is so_far.situations so_far.are_in in
        record {
          part = so_far.part ++ g.out;
          appends = Appends-trans a b c so_far.part g.out so_far.appends g.appends;
          situations = next.0;
          are_in = next.1;
          sound = sound-next so_far.situations next.0 line g.out so_far.sound next.2;
          whole = λ out h. rw (append_assoc so_far.part g.out out) (so_far.whole (g.out ++ out) (front first so_far.situations next.0 line g.out lines out next.2 h));
        }

    begun-by : (out : List ℕ) → Begins (Answered first old line new) out → Begins (AreTold first [] all) (so_far.part ++ out)
    begun-by out (inl e) =
        let rest = told-for so_far.situations (line ∷ lines) so_far.sound in
        inr (so_far.part ++ rest.0, so_far.whole rest.0 rest.1, same-front so_far.part out rest.0 (nothing-first out rest.0 e))
    begun-by out (inr (text, answered, prefix)) =
        let next = answered so_far.situations so_far.are_in in
        let rest = told-for next.0 lines (sound-next so_far.situations next.0 line text so_far.sound next.2) in
        inr (
          so_far.part ++ (text ++ rest.0),
          so_far.whole (text ++ rest.0) (front first so_far.situations next.0 line text lines rest.0 next.2 rest.1),
          same-front so_far.part out (text ++ rest.0) (more-behind out text rest.0 prefix),
        )

    -- a part of the next one was
    pub part-told : Grows b c (Begins (Answered first old line new)) → Grows a c (Begins (AreTold first [] all))
    part-told g = record { out = so_far.part ++ g.out; is = begun-by g.out g.is; appends = Appends-trans a b c so_far.part g.out so_far.appends g.appends }

-- no line is left
pub all-told : (a b : Option (List ℕ)) (first : Situation) (all : List (List ℕ)) (sessions : List (Entry Member)) → ToldSoFar a b first all [] sessions → Grows a b (AreTold first [] all)
all-told a b first all sessions h =
    record { out = h.part; is = rw (← append-nil h.part) (h.whole [] (no-lines first h.situations)); appends = h.appends }

pub all-begun : (a b : Option (List ℕ)) (first : Situation) (all : List (List ℕ)) (sessions : List (Entry Member)) → ToldSoFar a b first all [] sessions
    → Grows a b (Begins (AreTold first [] all))
all-begun a b first all sessions h = weaker (λ out is. inr (out, is, record { rest = []; same = append-nil out })) (all-told a b first all sessions h)
