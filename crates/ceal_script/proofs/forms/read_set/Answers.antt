use Rattle.ceal_script.proofs.FormLaws.{says_set}
use Rattle.ceal_script.proofs.forms.read_set.Goals as goal

pub returns : goal.returns
returns c =
    says_set c.args.rest.now _ c.in-len2.len_at_least c.in-len2.len_below c.in_ok-place.place c.in_ok-value.value c.in_ok-place.ensures c.in_ok-value.ensures
