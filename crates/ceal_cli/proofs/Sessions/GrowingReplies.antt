-- Writing replies one after another.
use Rattle.std.proofs.Common.{◌≡◌, ◌≤◌, inl, inr, ℕ, Some, None, List, [], ◌∷◌, ◌++◌, Bool, Option, Result, Ok, Err, IfOk, OnOk, take, drop, refl, sym}
use Rattle.std.proofs.Common.{◌∙◌, subst, append_assoc, append-nil, take-append-drop}
use Rattle.std.specs.Io.KnownBytes.{Appends, Keeps}
use Rattle.std.proofs.KnownBytes.{Appends-trans, Appends-nil}
use Rattle.std.specs.Prelude.{IsErrOf, IsTrue}
use Rattle.ceal_io.specs.Streams.{GrowsByPrefix, Rose}
use Rattle.ceal_io.specs.declared.streams.Stopped.{Stopped}
use Rattle.ceal_io.specs.declared.streams.Stopped.TheVariants.{Failed}
use Rattle.ceal_session.specs.State.{Situation}
use Rattle.ceal_cli.specs.SinkGrowth.{Grows, Puts, Writes}
use Rattle.ceal_cli.specs.ServedLines.{Serves, AreServed, BeginServed, FirstAreServed, IsReply, WritesReply, WritesPart, BeginsReply, WritesReplies, BeginsToReply}
use Rattle.ceal_cli.specs.Output.{IsPrefix, Begins}

-- what was written of a piece begins it
pub of_prefix : (a b : Option (List ℕ)) (piece : List ℕ) → GrowsByPrefix a b piece → Grows a b (λ out. IsPrefix out piece)
of_prefix a b piece (k, within, more) =
    record { out = take k piece; is = record { rest = drop k piece; same = take-append-drop k piece }; appends = more }

-- what was appended before, where nothing was after it
kept_after : (a b c : Option (List ℕ)) (out : List ℕ) → Appends a b out → Keeps b c → Appends a c out
kept_after None b c out p q = tt
kept_after (Some x) None c out p q = absurd p
kept_after (Some x) (Some y) None out p q = absurd q
kept_after (Some x) (Some y) (Some z) out p q = q ∙ p

-- where nothing was written
pub kept : (a b : Option (List ℕ)) (P : List ℕ → Type 0) → P [] → Keeps a b → Grows a b P
kept a b P h keeps = record { out = []; is = h; appends = kept_after a a b [] (Appends-nil a) keeps }

pub nothing : (a : Option (List ℕ)) (P : List ℕ → Type 0) → P [] → Grows a a P
nothing a P h = record { out = []; is = h; appends = Appends-nil a }

pub weaker : {a b : Option (List ℕ)} {P Q : List ℕ → Type 0} → ((out : List ℕ) → P out → Q out) → Grows a b P → Grows a b Q
weaker f g = record { out = g.out; is = f g.out g.is; appends = g.appends }

pub whole_text : {E : Type 0} (r : Result (Unit {0}) E) (a b : Option (List ℕ)) (P : List ℕ → Type 0) (text : List ℕ) → P text → OnOk r (Appends a b text) → OnOk r (Grows a b P)
whole_text (Ok u) a b P text h w = record { out = text; is = h; appends = w }
whole_text (Err e) a b P text h w = tt

-- a text of the one sort was given to the sink, and what begins it is of the other
pub puts_text : (r : Result (Unit {0}) Stopped) (a b : Option (List ℕ)) (m n : ℕ) (P Q : List ℕ → Type 0) (text : List ℕ) → P text
    → ((out : List ℕ) → IsPrefix out text → Q out)
    → OnOk r (Appends a b text) → GrowsByPrefix a b text → (IsErrOf r Failed → Rose m n) → m ≤ n → Puts r a b m n P Q
puts_text r a b m n P Q text h begins all prefix fault later =
    record { all = whole_text r a b P text h all; part = weaker begins (of_prefix a b text prefix); fault = fault; later = later }

-- where nothing is said of what was put
pub unsaid : {A E : Type 0} (r : Result A E) → OnOk r (Unit {0})
unsaid (Ok u) = tt
unsaid (Err e) = tt

pub untold : {E : Type 0} (r : Result Bool E) → IfOk r (λ taken. IsTrue taken → Unit {0})
untold (Ok taken) = λ _. tt
untold (Err e) = tt

pub writes_text : (r : Result (Unit {0}) Stopped) (a b : Option (List ℕ)) (m n : ℕ) (P : List ℕ → Type 0) (text : List ℕ) → P text
    → OnOk r (Appends a b text) → GrowsByPrefix a b text → (IsErrOf r Failed → Rose m n) → m ≤ n → Writes r a b m n P
writes_text r a b m n P text h all prefix fault later =
    puts_text r a b m n P (Begins P) text h (λ out begins. inr (text, h, begins)) all prefix fault later

-- what was put is of other sorts too
pub all_as : {A : Type 0} (r : Result A Stopped) (a b : Option (List ℕ)) (P Q : List ℕ → Type 0) → ((out : List ℕ) → P out → Q out) → OnOk r (Grows a b P) → OnOk r (Grows a b Q)
all_as (Ok u) a b P Q f h = weaker f h
all_as (Err e) a b P Q f h = tt

module _ {A : Type 0} (r : Result A Stopped) (a b : Option (List ℕ)) (m n : ℕ) (P Q R S : List ℕ → Type 0) where
  pub puts_as : ((out : List ℕ) → P out → R out) → ((out : List ℕ) → Q out → S out) → Puts r a b m n P Q → Puts r a b m n R S
  puts_as f g w = record { all = all_as r a b P R f w.all; part = weaker g w.part; fault = w.fault; later = w.later }

pub writes_as : {A : Type 0} (r : Result A Stopped) (a b : Option (List ℕ)) (m n : ℕ) (P Q : List ℕ → Type 0)
    → ((out : List ℕ) → P out → Q out) → Writes r a b m n P → Writes r a b m n Q
writes_as r a b m n P Q f w =
    puts_as r a b m n P (Begins P) Q (Begins Q) f (λ out begun. elim begun [ inl e ↦ inl e | inr w ↦ inr (w.0, f w.0 w.1, w.2) ]) w

-- So far the replies to the first lines were written. Those to more lines, or what begins those to what is left,
-- should follow.
pub record SoFar (old now : Option (List ℕ)) (start here : Situation) (all left : List (List ℕ)) : Type 0 where
  pub part : List ℕ
  pub appends : Appends old now part
  pub front : List (List ℕ)
  pub cut : all ≡ front ++ left
  pub whole : (more : List (List ℕ)) (rest : List ℕ) → AreServed here more rest → AreServed start (front ++ more) (part ++ rest)
  pub begun : (rest : List ℕ) → BeginServed here left rest → BeginServed start all (part ++ rest)

pub none_so_far : (a : Option (List ℕ)) (start : Situation) (all : List (List ℕ)) → SoFar a a start start all all
none_so_far a start all = record { part = []; appends = Appends-nil a; front = []; cut = refl; whole = λ more rest h. h; begun = λ rest h. h }

none_more : (here : Situation) → AreServed here [] []
unfolding AreServed
none_more here = refl

-- what was written whole, where the sink kept it
module _ (a b c : Option (List ℕ)) (start here : Situation) (all left : List (List ℕ)) (so_far : SoFar a b start here all left) where
  front_served : AreServed start so_far.front so_far.part
  front_served =
      subst (λ lines. AreServed start lines so_far.part) (append-nil so_far.front)
      (subst (λ out. AreServed start (so_far.front ++ []) out) (append-nil so_far.part) (so_far.whole [] [] (none_more here)))

  pub first_served : Keeps b c → Grows a c (λ out. FirstAreServed start all out)
  first_served keeps = record { out = so_far.part; is = (so_far.front, left, so_far.cut, front_served); appends = kept_after a b c so_far.part so_far.appends keeps }

module _ (a b c : Option (List ℕ)) (start here next : Situation) (all lines : List (List ℕ)) (line : List ℕ) (so_far : SoFar a b start here all (line ∷ lines)) where
  more_replies : (more : List (List ℕ)) (text rest : List ℕ) → Serves here line text next → AreServed next more rest → AreServed here (line ∷ more) (text ++ rest)
  unfolding AreServed
  more_replies more text rest answers h = (text, next, rest, answers, h, refl)

  more_begun : (text rest : List ℕ) → Serves here line text next → BeginServed next lines rest → BeginServed here (line ∷ lines) (text ++ rest)
  unfolding BeginServed
  more_begun text rest answers h = inr (text, next, answers, inr (rest, refl, h))

  -- one more reply was written whole
  pub one_more : WritesReply b c here line next → SoFar a c start next all lines
  one_more w = record {
    part = so_far.part ++ w.out;
    appends = Appends-trans a b c so_far.part w.out so_far.appends w.appends;
    front = so_far.front ++ line ∷ [];
    cut = so_far.cut ∙ sym (append_assoc so_far.front (line ∷ []) lines);
    whole = λ more rest h.
        rw (append_assoc so_far.front (line ∷ []) more, append_assoc so_far.part w.out rest)
        (so_far.whole (line ∷ more) (w.out ++ rest) (more_replies more w.out rest w.is h));
    begun = λ rest h. rw (append_assoc so_far.part w.out rest) (so_far.begun (w.out ++ rest) (more_begun w.out rest w.is h));
  }

  part_begun : (out : List ℕ) → BeginsReply here line out → BeginServed here (line ∷ lines) out
  unfolding BeginServed
  part_begun out (inl e) = inl e
  part_begun out (inr (text, after, answers, prefix)) = inr (text, after, answers, inl prefix)

  -- a part of the next reply was written
  pub some_of_it : WritesPart b c here line → BeginsToReply a c start all
  some_of_it w = record {
    out = so_far.part ++ w.out;
    is = so_far.begun w.out (part_begun w.out w.is);
    appends = Appends-trans a b c so_far.part w.out so_far.appends w.appends;
  }

module _ (a b : Option (List ℕ)) (start here : Situation) (all : List (List ℕ)) (so_far : SoFar a b start here all []) where
  none_begun : BeginServed here [] []
  unfolding BeginServed
  none_begun = refl

  pub all_written : WritesReplies a b start all
  all_written = record {
    out = so_far.part;
    is = subst (λ lines. AreServed start lines so_far.part) (sym (so_far.cut ∙ append-nil so_far.front)) (front_served a b b start here all [] so_far);
    appends = so_far.appends;
  }

  pub all_begun : BeginsToReply a b start all
  all_begun = record { out = so_far.part; is = rw (← append-nil so_far.part) (so_far.begun [] none_begun); appends = so_far.appends }

-- the reply to a line was given to the sink
pub puts_reply : (r : Result (Unit {0}) Stopped) (a b : Option (List ℕ)) (m n : ℕ) (s next : Situation) (line text : List ℕ) → Serves s line text next
    → OnOk r (Appends a b text) → GrowsByPrefix a b text → (IsErrOf r Failed → Rose m n) → m ≤ n
    → Puts r a b m n (IsReply s line next) (BeginsReply s line)
puts_reply r a b m n s next line text serves all prefix fault later =
    puts_text r a b m n (IsReply s line next) (BeginsReply s line) text serves (λ out begins. inr (text, next, serves, begins)) all prefix fault later
