use Rattle.ceal_lex.specs.Parts.{source_of}
use Rattle.ceal_lex.proofs.Outcomes.{all_from, only_from, ended_from, order_from, source_length}
use Rattle.ceal_lex.proofs.lex.lex.Goals as goal

-- what `read` found, and its fault, said of the source part of the input
pub returns : goal.returns
returns c =
    let source = source_of c.args.input.now c.args.part.now in
    let marked = c.args.part.now.marked in
    let r = c.read_all.result in
    let found = c.read_all.ensures.found in
    let fault = c.read_all.ensures.fault in
    record {
      found = found;
      all = all_from source marked r found fault;
      fault = fault;
      only = only_from source marked r found fault;
      ended = ended_from source marked r found;
      order = order_from source marked c.args.part.now.source.to r (source_length c.args.input.now c.args.part.now c.requires) found;
    }
