-- The replies are told apart: no text has a line feed but those that end its lines.
use Rattle.std.proofs.Common.{◌≡◌, ◌≢◌, ◌⊎◌, ◌+◌, ◌<◌, ◌/◌, ◌%◌, ◌==◌, ◌&&◌, ◌||◌, inl, inr, ℕ, ℤ, pos, negsuc, zero, suc, Bool, true, false, not}
use Rattle.std.proofs.Common.{nat_eq, Option, Some, None, Err, Ok, Result, List, [], ◌∷◌, ◌++◌, map, append_assoc, slice_get, unwrap_or}
use Rattle.std.proofs.Common.{if◌then◌else◌, refl, sym, ◌∙◌, subst, arith}
use Rattle.std.specs.Fmt.{decimal, signed_decimal, digits, digits_onto, digit_glyph}
use Rattle.std.specs.List.{list_all, list_any}
use Rattle.std.specs.Prelude.{bytes_eq, codes, is_none}
use Rattle.std.proofs.lemmas.Bool.{false≢true}
use Rattle.std.proofs.lemmas.List.Folds.{list_all-append, list_any-append}
use Rattle.std.proofs.lemmas.Nat.{mod_below}
use Rattle.ceal_base.specs.Access.{content_of}
use Rattle.ceal_base.specs.Block.{block_at}
use Rattle.ceal_base.specs.Finished.{Finished}
use Rattle.ceal_base.specs.Fitting.{block_fits, kind_at}
use Rattle.ceal_base.specs.declared.call.Call.{Call}
use Rattle.ceal_base.specs.declared.kind.Shape.{Shape}
use Rattle.ceal_base.specs.declared.kind.Shape.TheVariants.{Struct, ModInt, ModPtr}
use Rattle.ceal_base.specs.declared.typed.FieldInfo.{FieldInfo}
use Rattle.ceal_base.specs.declared.typed.StructInfo.{StructInfo}
use Rattle.ceal_base.specs.declared.word.BlockId.{BlockId}
use Rattle.ceal_base.specs.declared.word.BlockId.TheVariants.{Input, Core}
use Rattle.ceal_base.specs.declared.word.Word.{Word}
use Rattle.ceal_base.specs.declared.word.Word.TheVariants.{Num, Null, Block as BlockWord, At}
use Rattle.ceal_code.proofs.Words.SameIsEqual.{both, both-true, nat-same}
use Rattle.ceal_script.specs.Characters.{is_letter, is_name_byte}
use Rattle.ceal_script.specs.Spelling.{IsName}
use Rattle.ceal_script.specs.declared.command.Command.{Command}
use Rattle.ceal_script.specs.declared.command.Command.TheVariants.{Blank, Mod, New, Set, Run, Propagate, Slice, Get}
use Rattle.ceal_script.specs.declared.command.Command.TheVariants.{Show, Blocks, Steps, Work, Bound}
use Rattle.ceal_session.specs.Framing.{FramedLaw, HavePlainNames, IsFramed, IsLine, IsPlain, IsRefusal, IsToEnd, has_plain_name, has_plain_names, is_in_line, is_plain}
use Rattle.ceal_session.specs.InputNames.{AreSpelled}
use Rattle.ceal_session.specs.Laws.{OneCommandLaw}
use Rattle.ceal_session.specs.Refusals.{refusal_text}
use Rattle.ceal_session.specs.Runs.{memory_of, present_run, run_of}
use Rattle.ceal_session.specs.Senses.{function_named, input_named, is_unknown, mod_shape, place_sense, struct_named, struct_shape, value_sense, words_of}
use Rattle.ceal_session.specs.State.{Numbers, State, numbers_in}
use Rattle.ceal_session.specs.Steps.{Step, block_of, refuses, stays, with_base, with_input, call_again, call_of_run, fits_cell, has_no_run}
use Rattle.ceal_session.specs.Steps.{reply_to_get, reply_to_query, reply_to_show, run_reply, runs, step_of_line, step_of_set, step_of_shape}
use Rattle.ceal_session.specs.Steps.{step_of_word, step_of_words}
use Rattle.ceal_session.specs.Texts.{IsText, TellsOf, input_name, value_text}
use Rattle.ceal_session.specs.Works.{past_in}
use Rattle.ceal_session.specs.declared.refusal.Refusal.{Refusal}
use Rattle.ceal_session.specs.declared.refusal.Refusal.TheVariants.{C1, C2, C3, C4, C5, C6, C7, C8}
use Rattle.ceal_session.specs.declared.reply.Query.{Query}
use Rattle.ceal_session.specs.declared.reply.Query.TheVariants as query
use Rattle.ceal_session.specs.declared.reply.Reply.{Reply}
use Rattle.ceal_session.specs.declared.reply.Reply.TheVariants as reply
use Rattle.ceal_session.specs.declared.sense.Sense.{Sense}
use Rattle.ceal_session.specs.declared.sense.Sense.TheVariants.{Unknown, Plain, Word as IsWord}
use Rattle.ceal_show.specs.Graph.{Scene, block_text, cores_before, field_in, field_name, field_text, field_word_text, fields_text}
use Rattle.ceal_show.specs.Graph.{kind_text, label_text, lines_text, struct_name, suffix_text, word_text}
use Rattle.ceal_show.specs.Shown.{shape_at, words_at}
use Rattle.ceal_theory.specs.Pasts.{goes}

-- ---- plain texts

plain-both : (xs ys : List ℕ) → IsPlain xs → IsPlain ys → IsPlain (xs ++ ys)
plain-both xs ys h k = list_all-append is_plain xs ys ∙ both-true (list_all is_plain xs) (list_all is_plain ys) h k

in-line : (b : ℕ) → is_plain b ≡ true → is_in_line b ≡ true
in-line b h = go (nat_eq b 10) h
  where
    go : (c : Bool) → not (c || nat_eq b 58) ≡ true → not c ≡ true
    go true k = k
    go false k = refl

plain-line : (xs : List ℕ) → IsPlain xs → list_all is_in_line xs ≡ true
plain-line [] h = refl
plain-line (x ∷ xs) h = let k = both (is_plain x) (list_all is_plain xs) h in both-true (is_in_line x) (list_all is_in_line xs) (in-line x k.0) (plain-line xs k.1)

-- a digit is plain
glyph-plain : (d : ℕ) → d < 10 → is_plain (digit_glyph false d) ≡ true
glyph-plain zero h = refl
glyph-plain (suc zero) h = refl
glyph-plain (suc (suc zero)) h = refl
glyph-plain (suc (suc (suc zero))) h = refl
glyph-plain (suc (suc (suc (suc zero)))) h = refl
glyph-plain (suc (suc (suc (suc (suc zero))))) h = refl
glyph-plain (suc (suc (suc (suc (suc (suc zero)))))) h = refl
glyph-plain (suc (suc (suc (suc (suc (suc (suc zero))))))) h = refl
glyph-plain (suc (suc (suc (suc (suc (suc (suc (suc zero)))))))) h = refl
glyph-plain (suc (suc (suc (suc (suc (suc (suc (suc (suc zero))))))))) h = refl
glyph-plain (suc (suc (suc (suc (suc (suc (suc (suc (suc (suc d)))))))))) h = absurd (omega (arith, h))

digit-plain : (n : ℕ) (acc : List ℕ) → IsPlain acc → IsPlain (digit_glyph false (n % 10) ∷ acc)
digit-plain n acc h = both-true (is_plain (digit_glyph false (n % 10))) (list_all is_plain acc) (glyph-plain (n % 10) (mod_below n 10 (omega arith))) h

if-plain : (b : Bool) (xs ys : List ℕ) → IsPlain xs → IsPlain ys → IsPlain (if b then xs else ys)
if-plain true xs ys h k = h
if-plain false xs ys h k = k

digits-plain : (k n : ℕ) (acc : List ℕ) → IsPlain acc → IsPlain (digits_onto k 10 false n acc)
digits-plain zero n acc h = h
digits-plain (suc k) n acc h =
    let more = digit-plain n acc h in
    let glyphs = digit_glyph false (n % 10) ∷ acc in
    if-plain (n / 10 == 0) glyphs (digits_onto k 10 false (n / 10) glyphs) more (digits-plain k (n / 10) glyphs more)

decimal-plain : (n : ℕ) → IsPlain (decimal n)
unfolding digits
decimal-plain n = digits-plain 64 n [] refl

signed-plain : (n : ℤ) → IsPlain (signed_decimal n)
signed-plain (pos n) = decimal-plain n
signed-plain (negsuc n) = decimal-plain (suc n)

-- a byte of a name is plain
name-byte-plain : (b : ℕ) → is_name_byte b ≡ true → is_plain b ≡ true
name-byte-plain b h = go (nat_eq b 10) (nat_eq b 58) refl refl
  where
    go : (c d : Bool) → nat_eq b 10 ≡ c → nat_eq b 58 ≡ d → not (nat_eq b 10 || nat_eq b 58) ≡ true
    go true d e f = absurd (let same : b ≡ 10 = nat-same b 10 e in let no : is_name_byte 10 ≡ true = subst (λ (x : ℕ). is_name_byte x ≡ true) same h in false≢true no)
    go false true e f = absurd (let same : b ≡ 58 = nat-same b 58 f in let no : is_name_byte 58 ≡ true = subst (λ (x : ℕ). is_name_byte x ≡ true) same h in false≢true no)
    go false false e f = rw (e, f) refl

bytes-plain : (bs : List ℕ) → list_all is_name_byte bs ≡ true → IsPlain bs
bytes-plain [] h = refl
bytes-plain (b ∷ bs) h = let k = both (is_name_byte b) (list_all is_name_byte bs) h in both-true (is_plain b) (list_all is_plain bs) (name-byte-plain b k.0) (bytes-plain bs k.1)

letter-byte : (b : ℕ) → is_letter b ≡ true → is_name_byte b ≡ true
letter-byte b h = rw h refl

name-plain : (name : List ℕ) → IsName name → IsPlain name
name-plain [] h = refl
name-plain (b ∷ bs) h =
    let word = (both (is_letter b && list_all is_name_byte bs) _ h).0 in
    let k = both (is_letter b) (list_all is_name_byte bs) word in
    both-true (is_plain b) (list_all is_plain bs) (name-byte-plain b (letter-byte b k.0)) (bytes-plain bs k.1)

names-plain : (names : List (List ℕ)) → AreSpelled names → (n : ℕ) → IsPlain (unwrap_or (slice_get names n) [])
names-plain [] h n = refl
names-plain (name ∷ names) h zero = name-plain name h.0
names-plain (name ∷ names) h (suc n) = names-plain names h.1 n

-- ---- the lines of a graph

or-true : (a : Bool) → (a || true) ≡ true
or-true true = refl
or-true false = refl

-- a space on either side is one of both
has-left : (xs ys : List ℕ) → list_any (nat_eq 32) xs ≡ true → list_any (nat_eq 32) (xs ++ ys) ≡ true
has-left xs ys h = list_any-append (nat_eq 32) xs ys ∙ rw h refl

has-right : (xs ys : List ℕ) → list_any (nat_eq 32) ys ≡ true → list_any (nat_eq 32) (xs ++ ys) ≡ true
has-right xs ys h = list_any-append (nat_eq 32) xs ys ∙ rw h (or-true (list_any (nat_eq 32) xs))

field-at : (fields : List FieldInfo) → list_all has_plain_name fields ≡ true → (n : ℕ) → IsPlain (field_text (slice_get fields n))
field-at [] h n = refl
field-at (f ∷ fields) h zero = (both (has_plain_name f) (list_all has_plain_name fields) h).0
field-at (f ∷ fields) h (suc n) = field-at fields (both (has_plain_name f) (list_all has_plain_name fields) h).1 n

struct-plain : (structs : List StructInfo) → HavePlainNames structs → (s : ℕ) → IsPlain (struct_name structs s)
struct-plain [] h s = refl
struct-plain (x ∷ structs) h zero = let k = both (has_plain_names x) (list_all has_plain_names structs) h in (both (list_all is_plain x.name) (list_all has_plain_name x.fields) k.0).0
struct-plain (x ∷ structs) h (suc s) = struct-plain structs (both (has_plain_names x) (list_all has_plain_names structs) h).1 s

field-plain : (structs : List StructInfo) → HavePlainNames structs → (s field : ℕ) → IsPlain (field_in (slice_get structs s) field)
field-plain [] h s field = refl
field-plain (x ∷ structs) h zero field =
    let k = both (has_plain_names x) (list_all has_plain_names structs) h in field-at x.fields (both (list_all is_plain x.name) (list_all has_plain_name x.fields) k.0).1 field
field-plain (x ∷ structs) h (suc s) field = field-plain structs (both (has_plain_names x) (list_all has_plain_names structs) h).1 s field

module _ (scene : Scene) (structs : HavePlainNames scene.structs) (inputs : (n : ℕ) → IsPlain (scene.name n)) where
  label-plain : (b : BlockId) → IsPlain (label_text scene.name scene.blocks b)
  label-plain (Input n) = inputs n
  label-plain (Core n) = plain-both (codes "#") (decimal (cores_before (Core n) scene.blocks + 1)) refl (decimal-plain _)

  kind-plain : (shape : Shape) → IsPlain (kind_text scene.structs shape)
  kind-plain (Struct s) = struct-plain scene.structs structs s
  kind-plain ModInt = refl
  kind-plain (ModPtr s) = plain-both (codes "mod ") (struct_name scene.structs s) refl (struct-plain scene.structs structs s)

  name-of-field : (shape : Shape) (field : ℕ) → IsPlain (field_name scene.structs shape field)
  name-of-field (Struct s) field = field-plain scene.structs structs s field
  name-of-field ModInt field = refl
  name-of-field (ModPtr s) field = refl

  suffix-plain : (shape : Option Shape) (field : ℕ) → IsPlain (suffix_text scene.structs shape field)
  suffix-plain None field = refl
  suffix-plain (Some (Struct s)) field = plain-both (codes ".") (field_in (slice_get scene.structs s) field) refl (field-plain scene.structs structs s field)
  suffix-plain (Some ModInt) field = refl
  suffix-plain (Some (ModPtr s)) field = refl

  word-plain : (word : Word) → IsPlain (word_text scene word)
  word-plain (Num n) = signed-plain n
  word-plain Null = refl
  word-plain (BlockWord b) = label-plain b
  word-plain (At p) = plain-both (label_text scene.name scene.blocks p.block) (suffix_text scene.structs (shape_at scene.memory p.block) p.field) (label-plain p.block) (suffix-plain _ p.field)

  fields-plain : (shape : Shape) (field : ℕ) (words : List Word) → IsPlain (fields_text scene shape field words)
  unfolding fields_text
  fields-plain shape field [] = refl
  fields-plain shape field (word ∷ words) =
      let name = field_name scene.structs shape field in
      plain-both (field_word_text scene shape field word) (fields_text scene shape (field + 1) words)
      (plain-both (codes " " ++ name ++ codes "=") (word_text scene word) (plain-both (codes " " ++ name) (codes "=") (plain-both (codes " ") name refl (name-of-field shape field)) refl)
      (word-plain word))
      (fields-plain shape (field + 1) words)

  -- a line without its line feed
  abbrev bare : BlockId → Shape → List ℕ
  bare b shape = label_text scene.name scene.blocks b ++ codes " " ++ kind_text scene.structs shape ++ fields_text scene shape 0 (words_at scene.memory b)

  bare-plain : (b : BlockId) (shape : Shape) → IsPlain (bare b shape)
  bare-plain b shape =
      let label = label_text scene.name scene.blocks b in
      let kind = kind_text scene.structs shape in
      plain-both (label ++ codes " " ++ kind) (fields_text scene shape 0 (words_at scene.memory b))
      (plain-both (label ++ codes " ") kind (plain-both label (codes " ") (label-plain b) refl) (kind-plain shape)) (fields-plain shape 0 (words_at scene.memory b))

  -- it has a space, and so is not `end`
  not-end : (b : BlockId) (shape : Shape) → bare b shape ≢ codes "end"
  not-end b shape same =
      let label = label_text scene.name scene.blocks b in
      let kind = kind_text scene.structs shape in
      let spaced = has-left (label ++ codes " " ++ kind) (fields_text scene shape 0 (words_at scene.memory b)) (has-left (label ++ codes " ") kind (has-right label (codes " ") refl)) in
      let no : list_any (nat_eq 32) (codes "end") ≡ true = subst (λ (l : List ℕ). list_any (nat_eq 32) l ≡ true) same spaced in
      false≢true no

  with-line : (b : BlockId) (o : Option Shape) (rest : List ℕ) → IsToEnd rest → IsToEnd (block_text scene b o ++ rest)
  with-line b None rest h = h
  with-line b (Some shape) rest h = IsToEnd.more (bare-plain b shape) (not-end b shape) h

  graph-ends : (bs : List BlockId) → IsToEnd (lines_text scene bs ++ codes "end\n")
  unfolding lines_text
  graph-ends [] = IsToEnd.end
  graph-ends (b ∷ bs) =
      subst IsToEnd (sym (append_assoc (block_text scene b (shape_at scene.memory b)) (lines_text scene bs) (codes "end\n")))
      (with-line b (shape_at scene.memory b) (lines_text scene bs ++ codes "end\n") (graph-ends bs))

-- ---- the replies

line-of : (text line : List ℕ) → IsPlain line → text ≡ line ++ codes "\n" → IsLine text
line-of text line h e = record { line = line; within = plain-line line h; is = e }

refusal-line : (r : Refusal) → IsLine (refusal_text r)
refusal-line C1 = record { line = codes "refused C1: unreadable line"; within = refl; is = refl }
refusal-line C2 = record { line = codes "refused C2: unknown name"; within = refl; is = refl }
refusal-line C3 = record { line = codes "refused C3: name taken"; within = refl; is = refl }
refusal-line C4 = record { line = codes "refused C4: wrong kind"; within = refl; is = refl }
refusal-line C5 = record { line = codes "refused C5: wrong function or arguments"; within = refl; is = refl }
refusal-line C6 = record { line = codes "refused C6: already run"; within = refl; is = refl }
refusal-line C7 = record { line = codes "refused C7: no finished run"; within = refl; is = refl }
refusal-line C8 = record { line = codes "refused C8: edits pending"; within = refl; is = refl }

-- a question that is not `show`
abbrev IsShort : Query → Type 0
IsShort (query.Show n) = ⊥
IsShort _ = Unit {0}

-- a reply that is neither nothing nor a graph
abbrev IsOne : Reply → Type 0
IsOne reply.Nothing = ⊥
IsOne (reply.Told q) = IsShort q
IsOne _ = Unit {0}

module _ (s : State) (names : AreSpelled s.names) (numbers : Numbers) where
  input-plain : (n : ℕ) → IsPlain (input_name s n)
  input-plain n = names-plain s.names names n

  block-plain : (b : BlockId) → IsPlain (Rattle.ceal_session.specs.Texts.block_text s b)
  block-plain (Input n) = input-plain n
  block-plain (Core n) = refl

  value-plain : (w : Word) → IsPlain (value_text s w)
  value-plain (Num n) = signed-plain n
  value-plain Null = refl
  value-plain (BlockWord b) = block-plain b
  value-plain (At p) = block-plain p.block

  short : (q : Query) → IsShort q → (o : Option Finished) (text : List ℕ) → TellsOf s numbers q o text → IsLine text
  short q h None text t = subst IsLine (sym t) (refusal-line C7)
  short (query.Get p) h (Some f) text t = line-of text (value_text s (content_of f.memory (At p) Null)) (value-plain _) t
  short query.Blocks h (Some f) text t = line-of text (decimal f.blocks) (decimal-plain f.blocks) t
  short query.Steps h (Some f) text t = line-of text (decimal f.steps) (decimal-plain f.steps) t
  short query.Work h (Some f) text t = line-of text (decimal numbers.work) (decimal-plain numbers.work) t
  short query.Bound h (Some f) text t = line-of text (decimal numbers.bound) (decimal-plain numbers.bound) t
  short (query.Show n) h (Some f) text t = absurd h

  shown : HavePlainNames s.program.structs → (n : ℕ) (o : Option Finished) (text : List ℕ) → TellsOf s numbers (query.Show n) o text → IsRefusal text ⊎ IsToEnd text
  shown structs n None text t = inl (C7, t)
  shown structs n (Some f) text t =
      let scene : Scene = record { structs = s.program.structs; memory = block_at f.memory; name = input_name s; blocks = t.blocks } in
      inr (subst IsToEnd (sym t.is_text) (graph-ends scene structs input-plain t.blocks))

  one-line : (r : Reply) → IsOne r → (text : List ℕ) → IsText s numbers r text → IsLine text
  one-line reply.Nothing h text t = absurd h
  one-line reply.Ok h text t = record { line = codes "ok"; within = refl; is = t }
  one-line reply.OutOfFuel h text t = record { line = codes "out of fuel"; within = refl; is = t }
  one-line reply.More h text t = record { line = codes "more"; within = refl; is = t }
  one-line reply.Done h text t = record { line = codes "done"; within = refl; is = t }
  one-line (reply.Refused r) h text t = subst IsLine (sym t) (refusal-line r)
  one-line (reply.Told q) h text t = short q h (present_run s) text t

-- each command but a blank line and `show` has such a reply
if-one : (b : Bool) (x y : Step) → IsOne x.reply → IsOne y.reply → IsOne (if b then x else y).reply
if-one true x y h k = h
if-one false x y h k = k

if-told : (b : Bool) (x y : Reply) → IsOne x → IsOne y → IsOne (if b then x else y)
if-told true x y h k = h
if-told false x y h k = k

module _ (s : State) where
  words-one : (name : List ℕ) (shape : Shape) (o : Option (List Word)) → IsOne (step_of_words s name shape o).reply
  words-one name shape None = tt
  words-one name shape (Some words) =
      if-one (block_fits s.program.structs (memory_of s) (block_of shape words)) (stays (with_input s name (block_of shape words)) reply.Ok) (refuses s C4) tt tt

  shape-one : (name : List ℕ) (o : Option Shape) (senses : List Sense) → IsOne (step_of_shape s name o senses).reply
  shape-one name None senses = tt
  shape-one name (Some shape) senses =
      if-one (list_any is_unknown senses) (refuses s C2) (if list_any (bytes_eq name) s.names then refuses s C3 else step_of_words s name shape (words_of senses)) tt
      (if-one (list_any (bytes_eq name) s.names) (refuses s C3) (step_of_words s name shape (words_of senses)) tt (words-one name shape (words_of senses)))

  word-one : (place value : Sense) → IsOne (step_of_word s place value).reply
  word-one (IsWord (At p)) (IsWord word) = if-one (fits_cell s (kind_at s.program.structs (memory_of s) p) word) (stays (with_base s p word) reply.Ok) (refuses s C4) tt tt
  word-one (IsWord (At p)) Unknown = tt
  word-one (IsWord (At p)) Plain = tt
  word-one (IsWord (Num n)) value = tt
  word-one (IsWord Null) value = tt
  word-one (IsWord (BlockWord b)) value = tt
  word-one Unknown value = tt
  word-one Plain value = tt

  set-one : (place value : Sense) → IsOne (step_of_set s place value).reply
  set-one place value = if-one (is_unknown place || is_unknown value) (refuses s C2) (step_of_word s place value) tt (word-one place value)

  ran-one : (reads : Option ℕ) (more out : Bool) → IsOne (run_reply reads more out)
  ran-one None more true = tt
  ran-one None more false = tt
  ran-one (Some reads) true out = tt
  ran-one (Some reads) false true = tt
  ran-one (Some reads) false false = tt

  runs-one : (reads : Option ℕ) (more : Bool) (r : Result Call Refusal) → IsOne (runs s reads more r).reply
  runs-one reads more (Err r) = tt
  runs-one reads more (Ok call) = ran-one reads more (is_none (run_of s call))

  query-one : (q : Query) → IsShort q → IsOne (reply_to_query s q)
  query-one q h =
      if-told (has_no_run s) (reply.Refused C7) (if s.pending then reply.Refused C8 else reply.Told q) tt (if-told s.pending (reply.Refused C8) (reply.Told q) tt h)

  get-one : (place : Sense) → IsOne (reply_to_get s place)
  get-one (IsWord (At p)) = query-one (query.Get p) tt
  get-one (IsWord (Num n)) = tt
  get-one (IsWord Null) = tt
  get-one (IsWord (BlockWord b)) = tt
  get-one Unknown = tt
  get-one Plain = tt

  module _ (names : AreSpelled s.names) (structs : HavePlainNames s.program.structs) (numbers : Numbers) (more : Bool) (text : List ℕ) where
    one : (reply : Reply) → IsOne reply → IsText s numbers reply text → IsLine text
    one reply h t = one-line s names numbers reply h text t

    asked : (n : ℕ) → IsText s numbers (reply_to_query s (query.Show n)) text → IsRefusal text ⊎ IsToEnd text
    asked n = go (has_no_run s) s.pending
      where
        go : (a b : Bool) → IsText s numbers (if a then reply.Refused C7 else if b then reply.Refused C8 else reply.Told (query.Show n)) text → IsRefusal text ⊎ IsToEnd text
        go true b t = inl (C7, t)
        go false true t = inl (C8, t)
        go false false t = shown s names numbers structs n (present_run s) text t

    shows : (o : Option ℕ) → IsText s numbers (reply_to_show s o) text → IsRefusal text ⊎ IsToEnd text
    shows None t = inl (C2, t)
    shows (Some n) t = asked n t

    abbrev reply-to : Option Command → Reply
    reply-to command = (step_of_line s more command).reply

    framed : (command : Option Command) → IsText s numbers (reply-to command) text → IsFramed command text
    framed None t = one (reply-to None) tt t
    framed (Some Blank) t = t
    framed (Some (Mod name kind value)) t = one (reply-to (Some (Mod name kind value))) (shape-one name (mod_shape s kind) (value_sense s value ∷ [])) t
    framed (Some (New name shape values)) t = one (reply-to (Some (New name shape values))) (shape-one name (struct_shape (struct_named s shape)) (map (value_sense s) values)) t
    framed (Some (Set place value)) t = one (reply-to (Some (Set place value))) (set-one (place_sense s place) (value_sense s value)) t
    framed (Some (Run function args)) t = one (reply-to (Some (Run function args))) (runs-one None more (call_of_run s (function_named s function) (map (value_sense s) args))) t
    framed (Some Propagate) t = one (reply-to (Some Propagate)) (runs-one None more (call_again s.call)) t
    framed (Some (Slice reads)) t = one (reply-to (Some (Slice reads))) (runs-one (Some reads) more (call_again s.call)) t
    framed (Some (Get place)) t = one (reply-to (Some (Get place))) (get-one (place_sense s place)) t
    framed (Some (Show name)) t = shows (input_named s name) t
    framed (Some Blocks) t = one (reply-to (Some Blocks)) (query-one query.Blocks tt) t
    framed (Some Steps) t = one (reply-to (Some Steps)) (query-one query.Steps tt) t
    framed (Some Work) t = one (reply-to (Some Work)) (query-one query.Work tt) t
    framed (Some Bound) t = one (reply-to (Some Bound)) (query-one query.Bound tt) t

pub framed-law : OneCommandLaw → FramedLaw
framed-law one_command m n command line text st structs reads r =
    let t = subst (λ (c : Option Command). IsText m.state (numbers_in m) (step_of_line m.state (goes (past_in m c)) c).reply text) (one_command line r.command command r.reads reads) r.reply in
    framed m.state st.spelled structs (numbers_in m) (goes (past_in m command)) text command t
