-- The source part, line after line.
use Rattle.std.proofs.Common.{◌≡◌, inl, inr, ℕ, ◌+◌, ◌-◌, Bool, true, false, IsTrue, ◌↔◌, take, drop}
use Rattle.std.proofs.Common.{Option, Result, List, [], ◌∷◌, ◌++◌, length, option_map, refl, sym, ap, ◌∙◌, subst}
use Rattle.std.proofs.Common.{append_assoc}
use Rattle.std.specs.Prelude.{IfSome, OnErr}
use Rattle.ceal_lex.specs.Parts.{IsBeforeLine, IsMark}
use Rattle.ceal_serve.specs.Exchange.{Exchange}
use Rattle.ceal_serve.specs.Listening.{IsCaughtUp, IsListening, IsHeardSource, Hears, HearsEnd, HearsSome, HasLine, TakesLine}
use Rattle.ceal_serve.specs.Listening.{heard_end, heard_more}
use Rattle.ceal_serve.specs.Turns.{HasNoMark, IsBeginning, IsLong, IsTooLong, LIMIT}
use Rattle.ceal_serve.proofs.Following.{take-line, drop-line}
use Rattle.ceal_serve.proofs.Hearing.{known-after, known-same, on-err, unsaid-begins}
use Rattle.ceal_serve.proofs.Marks.{no-mark-more}

pub listening-more : (fuel : ℕ) (text before after : List ℕ) (o n : Option Exchange) → Hears o n before after → IfSome o (IsListening fuel text before) → IfSome n (IsListening fuel text after)
listening-more fuel text before after o n h k =
    known-after o n (heard_more h.more) (IsListening fuel text before) (IsListening fuel text after) h.exchange (λ e b. record {
      fuel_is = b.fuel_is;
      heard = ap (λ (l : List ℕ). l ++ h.more) b.heard ∙ (append_assoc text before h.more ∙ ap (λ (l : List ℕ). text ++ l) (sym h.there));
      going = b.going;
      unsaid = b.unsaid;
    }) k

pub listening-caught-up : (fuel : ℕ) (text rest : List ℕ) (o : Option Exchange) → HasNoMark text → IsBeforeLine text → IfSome o (IsListening fuel text rest) → IfSome o (IsCaughtUp rest)
listening-caught-up fuel text rest o none complete k =
    known-same o o (IsListening fuel text rest) (IsCaughtUp rest) refl
    (λ e b. record { going = b.going; lines = text; heard = b.heard; complete = complete; answered = inl (none, b.unsaid) }) k

-- nothing was said yet, however much more was heard
module _ {A E : Type 0} (r : Result A E) (fuel : ℕ) (text before : List ℕ) (o n : Option Exchange) (k : IfSome o (IsListening fuel text before)) where
  pub some-begins : HearsSome o n → OnErr r (IfSome n IsBeginning)
  some-begins (more, h) =
      on-err r (IfSome n IsBeginning) (known-after o n (heard_more more) (IsListening fuel text before) IsBeginning h (λ e b. unsaid-begins (heard_more more e) b.unsaid) k)

  pub line-begins : (after : List ℕ) → Hears o n before after → OnErr r (IfSome n IsBeginning)
  line-begins after h = some-begins (h.more, h.exchange)

  pub end-begins : (after : List ℕ) → HearsEnd o n before after → OnErr r (IfSome n IsBeginning)
  end-begins after h =
      on-err r (IfSome n IsBeginning)
      (known-after (option_map (heard_more h.more) o) n heard_end (IsListening fuel text after) IsBeginning h.exchange
      (λ e b. unsaid-begins (heard_end e) b.unsaid)
      (listening-more fuel text before after o (option_map (heard_more h.more) o) (record { more = h.more; exchange = refl; there = h.there }) k))

-- a line was taken to the text
pub listening-taken : (fuel : ℕ) (old new lines rest : List ℕ) (marked : Bool) (o : Option Exchange)
    → TakesLine old new lines rest marked → IfSome o (IsListening fuel old lines) → IfSome o
    (IsListening fuel new rest)
listening-taken fuel old new lines rest marked o t k =
    known-same o o (IsListening fuel old lines) (IsListening fuel new rest) refl (λ e b. record {
      fuel_is = b.fuel_is;
      heard = b.heard
          ∙ (ap (λ (l : List ℕ). old ++ l) (t.lines_are ∙ sym (append_assoc t.line (10 ∷ []) rest))
          ∙ (sym (append_assoc old (t.line ++ 10 ∷ []) rest) ∙ ap (λ (l : List ℕ). l ++ rest) (sym t.text)));
      going = b.going;
      unsaid = b.unsaid;
    }) k

pub taken-complete : (old new lines rest : List ℕ) (marked : Bool) → TakesLine old new lines rest marked → IsBeforeLine new
taken-complete old new lines rest marked t = inr (old ++ t.line, t.text ∙ sym (append_assoc old t.line (10 ∷ [])))

pub taken-none : (old new lines rest : List ℕ) (marked : Bool) → TakesLine old new lines rest marked → (IsTrue marked → ⊥) → HasNoMark old → IsBeforeLine old → HasNoMark new
taken-none old new lines rest marked t other none complete =
    subst HasNoMark (sym t.text) (no-mark-more old t.line none complete t.one (λ m. other (t.is_mark.1 m)))

-- the source part was heard, with its mark or to its end
pub heard-marked : (fuel : ℕ) (text rest : List ℕ) (o : Option Exchange) → IfSome o (IsListening fuel text rest) → IfSome o (IsHeardSource fuel true text rest)
heard-marked fuel text rest o k =
    known-same o o (IsListening fuel text rest) (IsHeardSource fuel true text rest) refl (λ e b. record { fuel_is = b.fuel_is; unsaid = b.unsaid; heard = inl (refl, b.going, b.heard) }) k

pub heard-open : (fuel : ℕ) (text whole before after : List ℕ) (o n : Option Exchange) → HearsEnd o n before after
    → whole ≡ text ++ after → IfSome o (IsListening fuel text before) → IfSome n
    (IsHeardSource fuel false whole after)
heard-open fuel text whole before after o n h w k =
    known-after (option_map (heard_more h.more) o) n heard_end (IsListening fuel text after) (IsHeardSource fuel false whole after) h.exchange
    (λ e b. record { fuel_is = b.fuel_is; unsaid = b.unsaid; heard = inr (refl, refl, b.heard ∙ sym w) })
    (listening-more fuel text before after o (option_map (heard_more h.more) o) (record { more = h.more; exchange = refl; there = h.there }) k)

pub source-too-long : (fuel : ℕ) (text before after : List ℕ) (limit : ℕ) (o n : Option Exchange) → limit ≡ LIMIT - length text → HasNoMark text → IsBeforeLine text
    → Hears o n before after → IsLong limit after → IfSome o (IsListening fuel text before) → IfSome n IsTooLong
source-too-long fuel text before after limit o n is none complete h long k =
    known-same n n (IsListening fuel text after) IsTooLong refl
    (λ e b. record { lines = text; part = after; heard = b.heard; complete = complete; long = inr (none, subst (λ m. IsLong m after) is long) })
    (listening-more fuel text before after o n h k)

pub takes-line : (old new lines rest first : List ℕ) (end : ℕ) (marked : Bool) → HasLine lines end → first ≡ take end lines → (IsTrue marked ↔ IsMark first)
    → new ≡ (old ++ first) ++ 10 ∷ [] → rest ≡ drop (end + 1) lines → TakesLine old new lines rest marked
takes-line old new lines rest first end marked h is mark text left =
    let line : first ≡ h.line = is ∙ take-line lines end h in
    record {
      line = h.line;
      lines_are = h.whole ∙ ap (λ (l : List ℕ). h.line ++ 10 ∷ l) (sym (left ∙ drop-line lines end h));
      one = h.one;
      text = text ∙ (ap (λ (l : List ℕ). (old ++ l) ++ 10 ∷ []) line ∙ append_assoc old h.line (10 ∷ []));
      is_mark = subst (λ (l : List ℕ). IsTrue marked ↔ IsMark l) line mark;
    }
