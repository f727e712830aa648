-- The words that commands begin with.
use Rattle.std.specs.Prelude.{ℕ, List, codes}
use Rattle.ceal_script.specs.declared.keyword.Keyword.{Keyword}
use Rattle.ceal_script.specs.declared.keyword.Keyword.TheVariants.{Mod, New, Set, Run, Propagate, Get, Show, Blocks}
use Rattle.ceal_script.specs.declared.keyword.Keyword.TheVariants.{Steps, Work, Bound}

-- how a keyword is spelled
abbrev pub keyword_text : Keyword → List ℕ
keyword_text Mod = codes "mod"
keyword_text New = codes "new"
keyword_text Set = codes "set"
keyword_text Run = codes "run"
keyword_text Propagate = codes "propagate"
keyword_text Get = codes "get"
keyword_text Show = codes "show"
keyword_text Blocks = codes "blocks"
keyword_text Steps = codes "steps"
keyword_text Work = codes "work"
keyword_text Bound = codes "bound"
