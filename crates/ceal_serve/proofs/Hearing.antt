-- What was heard, piece after piece.
use Rattle.std.proofs.Common.{◌≡◌, inl, ℕ, zero, suc, ◌<◌, ◌≤◌, Option, Some, None, Result, Ok, Err, List}
use Rattle.std.proofs.Common.{[], ◌∷◌, ◌++◌, length, take, drop, take-append-drop, refl, sym, ap, ◌∙◌, subst}
use Rattle.std.proofs.Common.{append_assoc, append-nil, arith, option_map}
use Rattle.std.specs.Prelude.{IfSome, OnErr}
use Rattle.ceal_cli.specs.Output.{IsPrefix}
use Rattle.ceal_serve.specs.Exchange.{Exchange, Says, SaysPrefix, given, hearing, saying}
use Rattle.ceal_serve.specs.Listening.{IsCaughtUp, Hears, HearsEnd, HearsMore, HearsSome, heard_end, heard_more}
use Rattle.ceal_serve.specs.Turns.{IsBeginning, IsOneLine, IsTurn}

pub more-twice : (o : Option Exchange) (a b : List ℕ) → option_map (heard_more b) (option_map (heard_more a) o) ≡ option_map (heard_more (a ++ b)) o
more-twice None a b = refl
more-twice (Some e) a b = ap (λ (h : List ℕ). Some (record e { heard = h })) (append_assoc e.heard a b)

pub more-none : (o : Option Exchange) → option_map (heard_more []) o ≡ o
more-none None = refl
more-none (Some e) = ap (λ (h : List ℕ). Some (record e { heard = h })) (append-nil e.heard)

pub some-heard : (o : Option Exchange) (bytes : List ℕ) → 0 < length bytes → option_map (hearing bytes) o ≡ option_map (heard_more bytes) o
some-heard o [] h = absurd (omega (arith, h))
some-heard o (b ∷ bs) h = refl

pub said-twice : (o : Option Exchange) (a b : List ℕ) → option_map (saying b) (option_map (saying a) o) ≡ option_map (saying (a ++ b)) o
said-twice None a b = refl
said-twice (Some e) a b = ap (λ (s : List ℕ). Some (record e { said = s })) (append_assoc e.said a b)

pub said-none : (o : Option Exchange) → option_map (saying []) o ≡ o
said-none None = refl
said-none (Some e) = ap (λ (s : List ℕ). Some (record e { said = s })) (append-nil e.said)

-- the fuel and what there is to hear stay
pub given-said : (o n : Option Exchange) (bytes : List ℕ) → n ≡ option_map (saying bytes) o → given n ≡ given o
unfolding given
given-said None n bytes e = ap given e
given-said (Some x) n bytes e = ap given e

pub given-heard : (o n : Option Exchange) (bytes : List ℕ) → n ≡ option_map (hearing bytes) o → given n ≡ given o
unfolding given
given-heard None n bytes e = ap given e
given-heard (Some x) n [] e = ap given e
given-heard (Some x) n (b ∷ bs) e = ap given e

-- what is true of what is known stays true
pub known-after : (o n : Option Exchange) (f : Exchange → Exchange) (P Q : Exchange → Type 0) → n ≡ option_map f o → ((e : Exchange) → P e → Q (f e)) → IfSome o P → IfSome n Q
known-after None n f P Q e step h = subst (λ (x : Option Exchange). IfSome x Q) (sym e) tt
known-after (Some x) n f P Q e step h = subst (λ (y : Option Exchange). IfSome y Q) (sym e) (step x h)

pub is-turn : (rest : List ℕ) (e : Exchange) → IsOneLine rest → IsCaughtUp rest e → IsTurn e
is-turn rest e one h = record { going = h.going; lines = h.lines; part = rest; heard = h.heard; complete = h.complete; one = one; answered = h.answered }

pub caught-up : (rest more : List ℕ) (e : Exchange) → IsCaughtUp rest e → IsCaughtUp (rest ++ more) (heard_more more e)
caught-up rest more e h = record { going = h.going; lines = h.lines; heard = ap (λ (l : List ℕ). l ++ more) h.heard ∙ append_assoc h.lines rest more; complete = h.complete; answered = h.answered }

-- an error leaves what is known of it
pub on-err : {A E : Type 0} (r : Result A E) (P : Type 0) → P → OnErr r P
on-err (Ok a) P h = tt
on-err (Err e) P h = h

length-take : (n : ℕ) (xs : List ℕ) → n ≤ length xs → length (take n xs) ≡ n
length-take zero xs h = refl
length-take (suc n) [] h = absurd (omega (arith, h))
length-take (suc n) (x ∷ xs) h = ap suc (length-take n xs (omega (arith, h)))

pub taken-some : (count : ℕ) (piece : List ℕ) → (count ≡ 0 → ⊥) → count ≤ length piece → 0 < length (take count piece)
taken-some count piece some within = let e = length-take count piece within in grind (arith, some, e)

-- some bytes were read
pub some-read : (o n : Option Exchange) (count : ℕ) (piece : List ℕ) → (count ≡ 0 → ⊥) → count ≤ length piece
    → n ≡ option_map (hearing (take count piece)) o → n ≡ option_map (heard_more (take count piece)) o
some-read o n count piece some within h = h ∙ some-heard o (take count piece) (taken-some count piece some within)

-- where more was heard of one line, it may be asked for still more
pub turn-after : (o n : Option Exchange) (before after : List ℕ) → IfSome o (IsCaughtUp before) → Hears o n before after → IsOneLine after → IfSome n IsTurn
turn-after o n before after h k one =
    known-after o n (heard_more k.more) (IsCaughtUp before) IsTurn k.exchange
    (λ e c. is-turn after (heard_more k.more e) one (subst (λ (l : List ℕ). IsCaughtUp l (heard_more k.more e)) (sym k.there) (caught-up before k.more e c))) h

pub hears-nothing : (o : Option Exchange) (before : List ℕ) → Hears o o before before
hears-nothing o before = record { more = []; exchange = sym (more-none o); there = sym (append-nil before) }

pub hears-more : (o m n : Option Exchange) (a b c : List ℕ) → Hears o m a b → HearsMore m n b c → Hears o n a c
hears-more o m n a b c h k = record {
  more = h.more ++ k.more;
  exchange = k.exchange ∙ (ap (option_map (heard_more k.more)) h.exchange ∙ more-twice o h.more k.more);
  there = k.there ∙ (ap (λ (l : List ℕ). l ++ k.more) h.there ∙ append_assoc a h.more k.more);
}

-- nothing was said yet
pub unsaid-begins : (e : Exchange) → e.said ≡ [] → IsBeginning e
unfolding IsBeginning
unsaid-begins e none = λ more over. inl none

-- what was said
pub nothing-said : (o : Option Exchange) (P : List ℕ → Type 0) → P [] → Says o o P
nothing-said o P h = ([], h, sym (said-none o))

pub prefix-said : (old new : Option Exchange) (text : List ℕ) → SaysPrefix old new text → Says old new (λ out. IsPrefix out text)
prefix-said old new text (count, within, e) = (take count text, record { rest = drop count text; same = take-append-drop count text }, e)

pub says-as : (old new : Option Exchange) (P Q : List ℕ → Type 0) → ((text : List ℕ) → P text → Q text) → Says old new P → Says old new Q
says-as old new P Q f (text, h, e) = (text, f text h, e)

pub known-said : (old new : Option Exchange) (P : List ℕ → Type 0) (A B : Exchange → Type 0) → Says old new P
    → ((text : List ℕ) (e : Exchange) → P text → A e → B (saying text e)) → IfSome old A → IfSome new B
known-said old new P A B (text, p, e) step h = known-after old new (saying text) A B e (λ x a. step text x p a) h

pub known-same : (old new : Option Exchange) (A B : Exchange → Type 0) → new ≡ old → ((e : Exchange) → A e → B e) → IfSome old A → IfSome new B
known-same None new A B e step h = subst (λ (o : Option Exchange). IfSome o B) (sym e) tt
known-same (Some x) new A B e step h = subst (λ (o : Option Exchange). IfSome o B) (sym e) (step x h)

pub hears-to-end : (o m n : Option Exchange) (a b c : List ℕ) → Hears o m a b → HearsEnd m n b c → HearsEnd o n a c
hears-to-end o m n a b c h k = record {
  more = h.more ++ k.more;
  exchange = k.exchange ∙ ap (option_map heard_end) (ap (option_map (heard_more k.more)) h.exchange ∙ more-twice o h.more k.more);
  there = k.there ∙ (ap (λ (l : List ℕ). l ++ k.more) h.there ∙ append_assoc a h.more k.more);
}

pub hears-lost : (o m n : Option Exchange) (a b : List ℕ) → Hears o m a b → HearsSome m n → HearsSome o n
hears-lost o m n a b h (more, e) = (h.more ++ more, e ∙ (ap (option_map (heard_more more)) h.exchange ∙ more-twice o h.more more))

pub said-more : (o m n : Option Exchange) (a b : List ℕ) → m ≡ option_map (saying a) o → n ≡ option_map (saying b) m → n ≡ option_map (saying (a ++ b)) o
said-more o m n a b h k = k ∙ (ap (option_map (saying b)) h ∙ said-twice o a b)

-- what was read was lost
pub piece-lost : {A E : Type 0} (r : Result A E) (o n : Option Exchange) (count : ℕ) (piece : List ℕ) → (count ≡ 0 → ⊥) → count ≤ length piece
    → n ≡ option_map (hearing (take count piece)) o → OnErr r (HearsSome o n)
piece-lost r o n count piece some within h = on-err r (HearsSome o n) (take count piece, some-read o n count piece some within h)

pub lost-after : {A E : Type 0} (r : Result A E) (o m n : Option Exchange) (a b : List ℕ) → Hears o m a b → HearsSome m n → OnErr r (HearsSome o n)
lost-after r o m n a b h k = on-err r (HearsSome o n) (hears-lost o m n a b h k)
