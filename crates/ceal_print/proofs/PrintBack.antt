-- The printed text reads back.
use Rattle.std.proofs.Common.{◌≡◌, ℕ, ◌+◌, ◌*◌, ◌≤◌, ◌<◌, ◌^◌, List, [], ◌∷◌, ◌++◌, length, refl, ap, sym, ◌∙◌, subst, arith}
use Rattle.std.proofs.lemmas.List.{length-append}
use Rattle.ceal_base.specs.declared.fault.Span.{Span}
use Rattle.ceal_base.specs.declared.syntax.Tree.{Tree}
use Rattle.ceal_lex.specs.declared.token.Token.{Token}
use Rattle.ceal_lex.specs.declared.token.TokenKind.{TokenKind}
use Rattle.ceal_lex.specs.declared.token.TokenKind.TheVariants.{End}
use Rattle.ceal_print.specs.Print.{bare_tree, IsParsed, ReadsBack}
use Rattle.ceal_print.specs.PrintWords.{texts, tree_kinds}
use Rattle.ceal_grammar.specs.Spelled.{spelled_program, tokens_of}
use Rattle.ceal_grammar.specs.Trees.{program_tree}
use Rattle.ceal_print.proofs.PrintMarks.{total, AreSpelled}
use Rattle.ceal_print.proofs.PrintPhrase.{spanned}
use Rattle.ceal_print.proofs.PrintProgram.{printed_program}
use Rattle.ceal_print.proofs.PrintSource.{source_spelled, source_total}
use Rattle.ceal_print.proofs.PrintSteps.{texts-append}
use Rattle.ceal_print.proofs.PrintText.{all_spell, total_texts, place, text_tokens, text_split, entries_end}

module _ (tree : Tree) (parsed : IsParsed tree) where
  abbrev kinds : List TokenKind
  kinds = tree_kinds (program_tree parsed.accepted.program)

  abbrev σ : List TokenKind → Span
  σ = place (length (texts kinds))

  same_kinds : kinds ≡ tree_kinds tree
  same_kinds = ap tree_kinds parsed.accepted.same

  spells : AreSpelled (spanned σ (kinds ++ End ∷ []))
  spells =
      let P = printed_program σ parsed.accepted.program parsed.accepted.proper in
      let old : AreSpelled (tokens_of (spelled_program parsed.accepted.program)) =
      subst AreSpelled (sym parsed.accepted.tokens) (source_spelled parsed.source parsed.marked parsed.tokens parsed.lexed) in
      subst AreSpelled P.words (P.thinner.spelled old)

  short : length (texts kinds) + 3 < 2 ^ 32
  short =
      let P = printed_program σ parsed.accepted.program parsed.accepted.proper in
      let old : total (tokens_of (spelled_program parsed.accepted.program)) ≤ 21 * length parsed.source =
      subst (λ (us : List Token). total us ≤ 21 * length parsed.source) (sym parsed.accepted.tokens) (source_total parsed.source parsed.marked parsed.tokens parsed.lexed) in
      let new : total (tokens_of (spelled_program P.made)) ≡ length (texts (kinds ++ End ∷ [])) = ap total P.words ∙ total_texts σ (kinds ++ End ∷ []) in
      let thin = P.thinner.short in
      let small = parsed.small in
      let all : length (texts kinds) ≤ length (texts (kinds ++ End ∷ [])) =
      let a = ap length (texts-append kinds (End ∷ [])) ∙ length-append (texts kinds) (texts (End ∷ [])) in omega (arith, a) in
      omega (arith, old, new, thin, small, all)

  pub reads_back : (text : List ℕ) → text ≡ texts (tree_kinds tree) → ReadsBack text tree
  reads_back text e =
      let P = printed_program σ parsed.accepted.program parsed.accepted.proper in
      let h = all_spell σ kinds spells in
      let here : text ≡ texts kinds = e ∙ ap texts (sym same_kinds) in
      let cut = text_split kinds h (entries_end (program_tree parsed.accepted.program).entries) short in
      let back : ReadsBack (texts kinds) tree = record {
        part = cut.0;
        tokens = spanned σ (kinds ++ End ∷ []);
        again = program_tree P.made;
        split = cut.1;
        lexed = rw (cut.2, cut.3) (text_tokens kinds h);
        accepted = record {
          program = P.made;
          proper = P.proper;
          within = P.thinner.within (omega arith) parsed.accepted.within;
          tokens = P.words;
          same = refl;
        };
        same = P.bare ∙ ap bare_tree parsed.accepted.same;
      } in
      subst (λ (t : List ℕ). ReadsBack t tree) (sym here) back
