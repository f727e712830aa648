use Rattle.std.proofs.Common.{rules, ap, ap₂, codes, true, ◌≡◌, ◌∙◌, Option, Some, None, IsSomeAnd}
use Rattle.std.proofs.lemmas.Result.{IfOk-weaker}
use Rattle.clap.specs.Words.{App, Rule, app_of, rule_of, with_rule, new_app}
use Rattle.clap.specs.Simple.{app_of_fields}
use Rattle.clap.specs.declared.builder.range.ValueRange.{ValueRange}
use Rattle.ceal_cli.specs.CommandLine.{bare, fuel_option, plain_words}
use Rattle.ceal_cli.proofs.command_line.command_line.Goals as goal

is_range : (o : Option ValueRange) (v : ValueRange) → IsSomeAnd o (λ r. r ≡ v) → o ≡ Some v
is_range (Some r) v h = ap (λ (x : ValueRange). Some x) h
is_range None v h = absurd h

-- the words are read by the rules of the table, and then by the shape of the mode
pub returns : goal.returns
returns c =
    let fuel_is : rule_of c.long-fuel.result ≡ fuel_option = search rules in
    let plain_is : rule_of c.num_args-plain.result ≡ plain_words =
    ap rule_of c.num_args-plain.ensures.0 ∙ ap₂ (λ (r : Rule) (o : Option ValueRange). record r { range = o }) c.new-2.ensures.rule (is_range _ _ c.num_args-plain.ensures.1) in
    let named : app_of c.no_binary_name.result ≡ record (new_app (codes "ceal")) { top = record (new_app (codes "ceal")).top { no_binary_name = true } } =
    ap app_of_fields c.no_binary_name.ensures ∙ ap (λ (a : App). record a { top = record a.top { no_binary_name = true } }) c.new-3.ensures.app in
    let helped = ap app_of_fields c.disable_help_flag.ensures ∙ ap (λ (a : App). record a { top = record a.top { disable_help_flag = true } }) named in
    let bare_is : app_of c.disable_version_flag-command.result ≡ bare =
    ap app_of_fields c.disable_version_flag-command.ensures ∙ ap (λ (a : App). record a { top = record a.top { disable_version_flag = true } }) helped in
    let first : app_of c.in_ok-arg.field-0 ≡ with_rule bare fuel_option =
    c.in_ok-arg.ensures.shape (search rules) ∙ ap₂ with_rule bare_is fuel_is in
    IfOk-weaker c.arg-2.result _ _ (λ m h. h.shape (search rules) ∙ ap₂ with_rule first plain_is) c.arg-2.ensures
