-- A stack over another one.
use Rattle.ceal_code.specs.Step.{Stack, Empty, Run, Act, Over, Quiet, Makes, Writes, Reads}

-- the one stack, and the other when nothing of the one is left
abbrev pub on : Stack → Stack → Stack
on Empty below = below
on (Run u i env st) below = Run u i env (on st below)

-- the same step over another stack, whose own step comes when nothing is left
abbrev pub act_on : Act → Stack → Act → Act
act_on Over below later = later
act_on (Quiet after) below later = Quiet (on after below)
act_on (Makes key v u i env st) below later = Makes key v u i env (on st below)
act_on (Writes p value after) below later = Writes p value (on after below)
act_on (Reads p u v args st) below later = Reads p u v args (on st below)
