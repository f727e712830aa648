-- One session among many.
use Rattle.std.proofs.Common.{◌≡◌, ℕ, Bool, true, false, not, ◌||◌, ◌&&◌, nat_le, Option, Some, List, [], ◌∷◌, ◌++◌, length, refl, sym, ap, ap₂, ◌∙◌, subst, arith}
use Rattle.std.specs.Prelude.{is_none, unwrap_or, bytes_eq, if◌then◌else◌}
use Rattle.std.specs.List.{list_any, AllByRecursion}
use Rattle.std.proofs.lemmas.List.{length-map}
use Rattle.std.proofs.lemmas.List.Folds.{list_any-append}
use Rattle.ceal_many.specs.Alone.{own_line, own_lines, own_text, own_texts, AnswersAlone, with_name, names_with, names_after}
use Rattle.ceal_many.specs.Laws.{names_of, HasSession, HasNoSession, IsDetermined, OwnRepliesLaw, RefusedLaw, NamesLaw, AloneLaw}
use Rattle.ceal_many.specs.Lines.{Said, Blank, For, Unreadable, said}
use Rattle.ceal_many.specs.Prefixes.{full_text, prefixed}
use Rattle.ceal_many.specs.Replies.{Writes, AnswersUnless, AnswersSaid, AreReplies}
use Rattle.ceal_many.specs.Sessions.{MOST, Named, state_of, with_state, state_for, is_refused}
use Rattle.ceal_many.proofs.SessionLaws.{same-name, put, names_put, there, kept}

-- two truth values: the name is there, and there is no room
no-more : {X : Type 0} (l f : Bool) (few more : X) → (not l && f) ≡ true → (if l || f then few else more) ≡ few
no-more true f few more h = absurd (grind (arith, h))
no-more false true few more h = refl
no-more false false few more h = absurd (grind (arith, h))

one-more : {X : Type 0} (l f : Bool) (few more : X) → (not l && f) ≡ false → (if l || f then few else more) ≡ (if l then few else more)
one-more true f few more h = refl
one-more false true few more h = absurd (grind (arith, h))
one-more false false few more h = refl

both-left : (l f : Bool) → (not l && f) ≡ true → l ≡ false
both-left true f h = absurd (grind (arith, h))
both-left false f h = refl

both-right : (l f : Bool) → (not l && f) ≡ true → f ≡ true
both-right true f h = absurd (grind (arith, h))
both-right false f h = h

abbrev has : List ℕ → List (List ℕ) → Bool
has name names = list_any (bytes_eq name) names

abbrev full : List (List ℕ) → Bool
full names = nat_le MOST (length names)

-- where there is no room no name is new
full-with : (names : List (List ℕ)) (w : Said) → full names ≡ true → names_with names w ≡ names
full-with names Blank h = refl
full-with names Unreadable h = refl
full-with names (For name line) h =
    let go : (l f : Bool) → f ≡ true → (if l || f then names else names ++ name ∷ []) ≡ names =
    elim [ true ↦ λ f e. refl | false ↦ λ f e. ap (λ (b : Bool). if b then names else names ++ name ∷ []) e ] in
    go (has name names) (full names) h

full-after : (lines : List (List ℕ)) (names : List (List ℕ)) → full names ≡ true → names_after names lines ≡ names
unfolding names_after
full-after [] names h = refl
full-after (line ∷ lines) names h = ap (λ (ns : List (List ℕ)). names_after ns lines) (full-with names (said line) h) ∙ full-after lines names h

-- a name stays
stay-with : (name : List ℕ) (names : List (List ℕ)) (w : Said) → has name names ≡ true → has name (names_with names w) ≡ true
stay-with name names Blank h = h
stay-with name names Unreadable h = h
stay-with name names (For other line) h =
    let go : (b : Bool) → has name (if b then names else names ++ other ∷ []) ≡ true =
    elim [
      | true ↦ h
      | false ↦ list_any-append (bytes_eq name) names (other ∷ []) ∙ ap (λ (b : Bool). b || has name (other ∷ [])) h
    ] in
    go (has other names || full names)

stay-after : (name : List ℕ) (lines : List (List ℕ)) (names : List (List ℕ)) → has name names ≡ true → has name (names_after names lines) ≡ true
unfolding names_after
stay-after name [] names h = h
stay-after name (line ∷ lines) names h = stay-after name lines (names_with names (said line)) (stay-with name names (said line) h)

module _ {S : Type 0} (answers : S → List ℕ → List ℕ → S → Type 0) (opening : S) where
  refused-is : (name : List ℕ) (ss : List (Named S)) → is_refused name ss ≡ (not (has name (names_of ss)) && full (names_of ss))
  refused-is name ss =
      ap₂ (λ (a b : Bool). a && b) (there name ss) (ap (nat_le MOST) (sym (length-map ss (λ s. s.name))))

  -- the names after a line
  step-for : (other line text : List ℕ) (ss mid : List (Named S)) (r : Bool) → is_refused other ss ≡ r
      → AnswersUnless r answers opening other ss line text mid → names_of mid ≡ with_name (names_of ss) other
  step-for other line text ss mid true e h =
      ap names_of h.same ∙ sym (no-more (has other (names_of ss)) (full (names_of ss)) (names_of ss) (names_of ss ++ other ∷ []) (sym (refused-is other ss) ∙ e))
  step-for other line text ss mid false e h =
      ap names_of h.others ∙ names_put other h.state ss
      ∙ sym (one-more (has other (names_of ss)) (full (names_of ss)) (names_of ss) (names_of ss ++ other ∷ []) (sym (refused-is other ss) ∙ e))

  names-step : (ss mid : List (Named S)) (w : Said) (text : List ℕ) → AnswersSaid answers opening ss w text mid → names_of mid ≡ names_with (names_of ss) w
  names-step ss mid Blank text h = ap names_of h.same
  names-step ss mid Unreadable text h = ap names_of h.same
  names-step ss mid (For other line) text h = step-for other line text ss mid (is_refused other ss) refl h

  pub names : (lines : List (List ℕ)) (ss next : List (Named S)) (texts : List (List ℕ)) → AreReplies answers opening ss lines texts next
      → names_of next ≡ names_after (names_of ss) lines
  unfolding AreReplies names_after
  names [] ss next texts h = ap names_of h.1
  names (line ∷ lines) ss next texts h =
      names lines h.1 next h.2 h.4 ∙ ap (λ (ns : List (List ℕ)). names_after ns lines) (names-step ss h.1 (said line) h.0 h.3)

  module _ (name : List ℕ) where
    -- one line of a name that is not among those without a session
    own-for : (other line text : List ℕ) (ss mid : List (Named S)) (ls ts : List (List ℕ)) (b r : Bool)
        → bytes_eq name other ≡ b → is_refused other ss ≡ r → AnswersUnless r answers opening other ss line text mid
        → (full (names_of ss) ≡ true → HasSession name (names_of ss))
        → AnswersAlone answers name (state_for opening name mid) ls ts
        → AnswersAlone answers name (state_for opening name ss) (if b then line ∷ ls else ls) (if b then text ∷ ts else ts)
    unfolding AnswersAlone
    own-for other line text ss mid ls ts true true e f h room ih =
        let t : (not (has other (names_of ss)) && full (names_of ss)) ≡ true =
        sym (refused-is other ss) ∙ f in
        let none : has other (names_of ss) ≡ false =
        both-left (has other (names_of ss)) (full (names_of ss)) t in
        let some : has name (names_of ss) ≡ true =
        room (both-right (has other (names_of ss)) (full (names_of ss)) t) in
        let wrong : has other (names_of ss) ≡ true =
        subst (λ (m : List ℕ). has m (names_of ss) ≡ true) (same-name name other e) some in
        absurd (grind (arith, none, wrong))
    own-for other line text ss mid ls ts false true e f h room ih =
        subst (λ (m : List (Named S)). AnswersAlone answers name (state_for opening name m) ls ts) h.same ih
    own-for other line text ss mid ls ts true false e f h room ih =
        let same : other ≡ name =
        sym (same-name name other e) in
        let now : state_for opening name mid ≡ h.state =
        ap (λ (m : List (Named S)). state_for opening name m) (h.others ∙ ap (λ (m : List ℕ). with_state m h.state ss) same)
        ∙ ap (λ (o : Option S). unwrap_or o opening) (put name h.state ss) in (
          text,
          h.state,
          ts,
          subst (λ (m : List ℕ). Writes answers m (state_for opening m ss) line text h.state) same h.writes,
          subst (λ (s : S). AnswersAlone answers name s ls ts) now ih,
          refl,
        )
    own-for other line text ss mid ls ts false false e f h room ih =
        let same : state_for opening name mid ≡ state_for opening name ss =
        ap (λ (m : List (Named S)). state_for opening name m) h.others ∙ ap (λ (o : Option S). unwrap_or o opening) (kept name other h.state e ss) in
        subst (λ (s : S). AnswersAlone answers name s ls ts) same ih

    own-step : (w : Said) (text : List ℕ) (ss mid : List (Named S)) (ls ts : List (List ℕ)) → AnswersSaid answers opening ss w text mid
        → (full (names_of ss) ≡ true → HasSession name (names_of ss))
        → AnswersAlone answers name (state_for opening name mid) ls ts
        → AnswersAlone answers name (state_for opening name ss) (own_line name w ls) (own_text name w text ts)
    own-step Blank text ss mid ls ts h room ih = subst (λ (m : List (Named S)). AnswersAlone answers name (state_for opening name m) ls ts) h.same ih
    own-step Unreadable text ss mid ls ts h room ih = subst (λ (m : List (Named S)). AnswersAlone answers name (state_for opening name m) ls ts) h.same ih
    own-step (For other line) text ss mid ls ts h room ih =
        own-for other line text ss mid ls ts (bytes_eq name other) (is_refused other ss) refl refl h room ih

    pub own : (lines : List (List ℕ)) (ss next : List (Named S)) (texts : List (List ℕ)) → AreReplies answers opening ss lines texts next
        → HasSession name (names_after (names_of ss) lines)
        → AnswersAlone answers name (state_for opening name ss) (own_lines name lines) (own_texts name lines texts)
    unfolding AreReplies AnswersAlone names_after own_lines own_texts
    own [] ss next texts h k = refl
    own (line ∷ lines) ss next texts h k =
        let more : HasSession name (names_after (names_of h.1) lines) =
        subst (λ (ns : List (List ℕ)). HasSession name (names_after ns lines)) (sym (names-step ss h.1 (said line) h.0 h.3)) k in
        let room : full (names_of ss) ≡ true → HasSession name (names_of ss) =
        λ e. subst (λ (ns : List (List ℕ)). HasSession name ns) (full-after (line ∷ lines) (names_of ss) e) k in
        subst (λ (ts : List (List ℕ)). AnswersAlone answers name (state_for opening name ss) (own_lines name (line ∷ lines)) (own_texts name (line ∷ lines) ts)) (sym h.5)
        (own-step (said line) h.0 ss h.1 (own_lines name lines) (own_texts name lines h.2) h.3 room (own lines h.1 next h.2 h.4 more))

    -- the replies to a name without a session
    abbrev AllRefused : List (List ℕ) → Type 0
    AllRefused ts = AllByRecursion (λ text. text ≡ full_text) ts

    refused-for : (other line text : List ℕ) (ss mid : List (Named S)) (ts : List (List ℕ)) (b r : Bool)
        → bytes_eq name other ≡ b → is_refused other ss ≡ r → AnswersUnless r answers opening other ss line text mid
        → (has name (names_of mid) ≡ true → ⊥) → AllRefused ts → AllRefused (if b then text ∷ ts else ts)
    refused-for other line text ss mid ts true true e f h none ih = (h.written, ih)
    refused-for other line text ss mid ts false r e f h none ih = ih
    refused-for other line text ss mid ts true false e f h none ih =
        let same : other ≡ name =
        sym (same-name name other e) in
        let now : state_of name mid ≡ Some h.state =
        ap (state_of name) (h.others ∙ ap (λ (m : List ℕ). with_state m h.state ss) same) ∙ put name h.state ss in
        let held : false ≡ not (has name (names_of mid)) =
        sym (ap is_none now) ∙ there name mid in
        let go : (b : Bool) → false ≡ not b → b ≡ true =
        elim [ true ↦ λ x. refl | false ↦ λ x. x ] in
        absurd (none (go (has name (names_of mid)) held))

    refused-step : (w : Said) (text : List ℕ) (ss mid : List (Named S)) (ts : List (List ℕ)) → AnswersSaid answers opening ss w text mid
        → (has name (names_of mid) ≡ true → ⊥) → AllRefused ts → AllRefused (own_text name w text ts)
    refused-step Blank text ss mid ts h none ih = ih
    refused-step Unreadable text ss mid ts h none ih = ih
    refused-step (For other line) text ss mid ts h none ih =
        refused-for other line text ss mid ts (bytes_eq name other) (is_refused other ss) refl refl h none ih

    pub refused : (lines : List (List ℕ)) (ss next : List (Named S)) (texts : List (List ℕ)) → AreReplies answers opening ss lines texts next
        → HasNoSession name (names_after (names_of ss) lines) → AllRefused (own_texts name lines texts)
    unfolding AreReplies names_after own_texts
    refused [] ss next texts h k = tt
    refused (line ∷ lines) ss next texts h k =
        let more : HasNoSession name (names_after (names_of h.1) lines) =
        subst (λ (ns : List (List ℕ)). HasNoSession name (names_after ns lines)) (sym (names-step ss h.1 (said line) h.0 h.3)) k in
        let none : has name (names_of h.1) ≡ true → ⊥ =
        λ e. absurd (grind (arith, stay-after name lines (names_of h.1) e, more)) in
        subst (λ (ts : List (List ℕ)). AllRefused (own_texts name (line ∷ lines) ts)) (sym h.5)
        (refused-step (said line) h.0 ss h.1 (own_texts name lines h.2) h.3 none (refused lines h.1 next h.2 h.4 more))

    -- a session by itself has one list of replies
    pub alone-one : IsDetermined answers → (lines : List (List ℕ)) (s : S) (a b : List (List ℕ))
        → AnswersAlone answers name s lines a → AnswersAlone answers name s lines b → a ≡ b
    unfolding AnswersAlone
    alone-one det [] s a b h k = h ∙ sym k
    alone-one det (line ∷ lines) s a b h k =
        let text : h.0 ≡ k.0 =
        h.3.written ∙ ap (prefixed name) (det.reply s line h.3.reply k.3.reply h.1 k.1 h.3.answer k.3.answer) ∙ sym k.3.written in
        let state : k.1 ≡ h.1 =
        det.state s line k.3.reply h.3.reply k.1 h.1 k.3.answer h.3.answer in
        let rest : h.2 ≡ k.2 =
        alone-one det lines h.1 h.2 k.2 h.4 (subst (λ (m : S). AnswersAlone answers name m lines k.2) state k.4) in
        h.5 ∙ ap₂ ◌∷◌ text rest ∙ sym k.5

pub own-law : {S : Type 0} (answers : S → List ℕ → List ℕ → S → Type 0) → OwnRepliesLaw answers
own-law answers opening ss next lines texts name h k = own answers opening name lines ss next texts h k

pub refused-law : {S : Type 0} (answers : S → List ℕ → List ℕ → S → Type 0) → RefusedLaw answers
refused-law answers opening ss next lines texts name h k = refused answers opening name lines ss next texts h k

pub names-law : {S : Type 0} (answers : S → List ℕ → List ℕ → S → Type 0) → NamesLaw answers
names-law answers opening ss next lines texts h = names answers opening lines ss next texts h

pub alone-law : {S : Type 0} (answers : S → List ℕ → List ℕ → S → Type 0) → AloneLaw answers
unfolding state_of
alone-law answers opening next after lines others texts told name det h k has-h has-k same =
    alone-one answers opening name det (own_lines name others) opening (own_texts name lines texts) (own_texts name others told)
    (subst (λ (ls : List (List ℕ)). AnswersAlone answers name opening ls (own_texts name lines texts)) same (own answers opening name lines [] next texts h has-h))
    (own answers opening name others [] after told k has-k)
