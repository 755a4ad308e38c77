use Rattle.std.proofs.Common.{map}
use Rattle.cfa_tree.specs.Plain.{plain_block}
use Rattle.cfa_served.proofs.IndexLemmas.{tables_answer}
use Rattle.cfa_served.proofs.index.Index.new.Goals as goal

pub returns : goal.returns
returns c =
    tables_answer _ (map plain_block c.args.blocks.now) c.in_ok-first_places.ensures c.in_ok-body_places.ensures c.in_ok-body_places-2.ensures
    c.in_ok-body_places-3.ensures c.in_ok-body_places-4.ensures c.in_ok-body_places-5.ensures c.in_ok-body_places-6.ensures c.in_ok-body_places-7.ensures
    c.in_ok-body_places-8.ensures c.in_ok-body_places-9.ensures c.in_ok-body_places-10.ensures c.in_ok-body_places-11.ensures
