use Rattle.std.proofs.Common.{◌∙◌, ap, map, sym}
use Rattle.cfa_tree.specs.Plain.{plain_promise}
use Rattle.cfa_schema.specs.Collected.{promiser_how, seen_pattern}
use Rattle.cfa_kinds.specs.Kinds.{promise_type}
use Rattle.cfa_schema.proofs.CollectedLemmas.{no_patterns}
use Rattle.cfa_schema.proofs.patterns.add_of_section.Goals as goal

pub returns-in-None : goal.returns-in-None
returns-in-None c =
    no_patterns (promise_type c.args.section.now.kind) (map seen_pattern c.args.patterns.now.items) (map plain_promise c.args.section.now.promises)
    (sym c.in-None.is ∙ c.how_promisers_match.ensures ∙ ap (λ word. promiser_how (promise_type word)) c.as_str.ensures)
