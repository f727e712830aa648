-- A reading of marked tokens.
use Rattle.std.specs.Prelude.{◌≡◌, Some, List, [], ◌∷◌}
use Rattle.ceal_base.specs.declared.syntax.Entry.{Entry}
use Rattle.ceal_grammar.specs.declared.state.State.{State}
use Rattle.ceal_grammar.specs.declared.state.State.TheVariants.{Finished}
use Rattle.ceal_grammar.specs.Spelled.{Mark}
use Rattle.ceal_grammar.specs.Machine.{step, nesting_of, item_of, operators_of}

-- A reading at the state `s` goes over the tokens, ends with the entries, and has the marks at each token.
unfoldable pub Follows : State → List Mark → List Entry → Type 0
Follows s [] es = s ≡ Finished es
Follows s (m ∷ ms) es = (next : State) × (step s m.token ≡ Some next) × (nesting_of next ≡ m.nesting)
    × (item_of s m.token ≡ m.item) × (operators_of next ≡ m.operators) × Follows next ms es
