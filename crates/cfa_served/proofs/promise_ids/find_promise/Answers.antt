use Rattle.std.proofs.Common.{◌∙◌, ap, sym}
use Rattle.std.specs.Prelude.{option_map}
use Rattle.cfa_tree.specs.Plain.{plain_policy}
use Rattle.cfa_served.specs.Parts.{seen_placed}
use Rattle.cfa_served.specs.lemmas.Promises.{second, second_is}
use Rattle.cfa_served.proofs.promise_ids.find_promise.Goals as goal

pub returns-in-Some : goal.returns-in-Some
returns-in-Some c =
    ap (option_map second) (sym (ap (option_map seen_placed) c.in-Some.is) ∙ c.find_placed.ensures) ∙ second_is (plain_policy c.args.policy.now) c.args.id.now

pub returns-in-None : goal.returns-in-None
returns-in-None c =
    ap (option_map second) (sym (ap (option_map seen_placed) c.in-None.is) ∙ c.find_placed.ensures) ∙ second_is (plain_policy c.args.policy.now) c.args.id.now
