-- Marks of which some are left out, the others with no larger counts.
use Rattle.std.proofs.Common.{◌≡◌, ℕ, ◌+◌, ◌≤◌, max, Bool, true, false, List, [], ◌∷◌, ◌++◌, length, arith}
use Rattle.std.proofs.lemmas.Bool.{false≢true}
use Rattle.ceal_base.specs.declared.fault.Span.{Span}
use Rattle.ceal_lex.specs.Spelling.{Spells}
use Rattle.ceal_lex.specs.declared.token.Token.{Token}
use Rattle.ceal_lex.specs.declared.token.TokenKind.{TokenKind}
use Rattle.ceal_lex.specs.declared.token.TokenKind.TheVariants.{Name, Number, Reserved, Sign, End, Cut}
use Rattle.ceal_grammar.specs.Faults.{AllWithin}
use Rattle.ceal_print.specs.PrintWords.{kind_text, gap}
use Rattle.ceal_grammar.specs.Spelled.{Mark, mark, plain, tokens_of}

-- how many bytes tokens are printed as
unfoldable pub total : List Token → ℕ
total [] = 0
total (t ∷ ts) = length (kind_text t.kind ++ gap t.kind) + total ts

-- The last token is an end; what each other is printed as spells it.
abbrev pub SpellsBefore : TokenKind → List Token → Type 0 → Type 0
SpellsBefore (Name text) ts rest = Spells (Name text) text × rest
SpellsBefore (Number n) ts rest = Spells (Number n) (kind_text (Number n)) × rest
SpellsBefore (Reserved w) ts rest = rest
SpellsBefore (Sign s) ts rest = rest
SpellsBefore End ts rest = ts ≡ []
SpellsBefore Cut ts rest = ts ≡ []

unfoldable pub AreSpelled : List Token → Type 0
AreSpelled [] = ⊥
AreSpelled (t ∷ ts) = SpellsBefore t.kind ts (AreSpelled ts)

abbrev pub is_inner : TokenKind → Bool
is_inner (Name text) = true
is_inner (Number n) = true
is_inner (Reserved w) = true
is_inner (Sign s) = true
is_inner End = false
is_inner Cut = false

-- The marks ms are those of ns, of which some are left out. The first may be an item up to the c-th.
pub record Thinner (c : ℕ) (ms ns : List Mark) : Type 0 where
  pub within : c ≤ 255 → AllWithin ns → AllWithin ms
  pub short : total (tokens_of ms) ≤ total (tokens_of ns)
  pub spelled : AreSpelled (tokens_of ns) → AreSpelled (tokens_of ms)

spelled_kept : (k : TokenKind) (us vs : List Token) → is_inner k ≡ true → (AreSpelled vs → AreSpelled us)
    → SpellsBefore k vs (AreSpelled vs) → SpellsBefore k us (AreSpelled us)
spelled_kept (Name text) us vs i f h = (h.0, f h.1)
spelled_kept (Number n) us vs i f h = (h.0, f h.1)
spelled_kept (Reserved w) us vs i f h = f h
spelled_kept (Sign s) us vs i f h = f h
spelled_kept End us vs i f h = absurd (false≢true i)
spelled_kept Cut us vs i f h = absurd (false≢true i)

spelled_dropped : (k : TokenKind) (vs : List Token) → is_inner k ≡ true → SpellsBefore k vs (AreSpelled vs) → AreSpelled vs
spelled_dropped (Name text) vs i h = h.1
spelled_dropped (Number n) vs i h = h.1
spelled_dropped (Reserved w) vs i h = h
spelled_dropped (Sign s) vs i h = h
spelled_dropped End vs i h = absurd (false≢true i)
spelled_dropped Cut vs i h = absurd (false≢true i)

pub kept : {c d e i j n m : ℕ} {k : TokenKind} {s t : Span} {ms ns : List Mark}
    → is_inner k ≡ true → d ≤ e → i ≤ max j c → n ≤ m → Thinner 0 ms ns → Thinner c (mark d i n k s ∷ ms) (mark e j m k t ∷ ns)
unfolding AllWithin total AreSpelled tokens_of
kept {c} {d} {e} {i} {j} {n} {m} {k} {s} {t} {ms} {ns} inner de ij nm th = record {
  within = λ small w. (
    record {
      nesting = let h = w.0.nesting in omega (arith, de, h);
      item = let h = w.0.item in omega (arith, ij, small, h);
      operators = let h = w.0.operators in omega (arith, nm, h);
    },
    th.within (omega arith) w.1,
  );
  short = let h = th.short in omega (arith, h);
  spelled = spelled_kept k (tokens_of ms) (tokens_of ns) inner th.spelled;
}

-- the same mark
pub same : {c d i n : ℕ} {k : TokenKind} {s t : Span} {ms ns : List Mark}
    → is_inner k ≡ true → Thinner 0 ms ns → Thinner c (mark d i n k s ∷ ms) (mark d i n k t ∷ ns)
same inner th = kept inner (omega arith) (omega arith) (omega arith) th

pub dropped : {c e j m : ℕ} {k : TokenKind} {t : Span} {ms ns : List Mark}
    → is_inner k ≡ true → Thinner (max j c) ms ns → Thinner c ms (mark e j m k t ∷ ns)
unfolding AllWithin total AreSpelled tokens_of
dropped {c} {e} {j} {m} {k} {t} {ms} {ns} inner th = record {
  within = λ small w. th.within (let h = w.0.item in omega (arith, small, h)) w.1;
  short = let h = th.short in omega (arith, h);
  spelled = λ h. th.spelled (spelled_dropped k (tokens_of ns) inner h);
}

pub the_end : {s t : Span} → Thinner 0 (plain 0 End s ∷ []) (plain 0 End t ∷ [])
unfolding AllWithin total AreSpelled tokens_of
the_end = record {
  within = λ small w. (record { nesting = omega arith; item = omega arith; operators = omega arith }, tt);
  short = omega arith;
  spelled = λ h. h;
}
