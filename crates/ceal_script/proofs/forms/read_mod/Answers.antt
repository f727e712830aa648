use Rattle.ceal_script.proofs.FormLaws.{says_mod}
use Rattle.ceal_script.proofs.forms.read_mod.Goals as goal

pub returns : goal.returns
returns c =
    says_mod c.args.rest.now _ c.in-len3.len_at_least c.in-len3.len_below _ c.in_ok-kind.kind c.in_ok-value.value c.in_ok-name.ensures c.in_ok-kind.ensures c.in_ok-value.ensures
