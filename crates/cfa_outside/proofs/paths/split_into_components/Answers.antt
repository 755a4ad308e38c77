use Rattle.std.proofs.Common.{lit<, rules, tests}
use Rattle.std.proofs.lemmas.Iterator.Consumers.{map_from_collect, YieldsList-from_filter}
use Rattle.std.proofs.lemmas.Iterator.Splits.{YieldsList-from_str_split}
use Rattle.std.specs.Iterator.Adapters.{filter_source}
use Rattle.cfa_outside.proofs.paths.split_into_components.Goals as goal

pub returns : goal.returns
returns c =
    map_from_collect _ c.collect.ensures.ran
    (YieldsList-from_filter {s = c.filter.result} _ _
    (YieldsList-from_str_split {s = filter_source c.filter.result} 47 c.args.text.now (lit< tt) (cc) (cc) (cc))
    c.filter.ensures.closure (λ x b q k. search (rules, tests)))
