-- Of the code alone: what a block says as `body common control`, and a promise that was found, with the word of its type.
use Rattle.std.specs.Prelude.{ℕ, List, Option, Some, None, if◌then◌else◌}
use Rattle.cfa_tree.specs.Tree.{AttributeTree, PromiseTree, BlockTree, bundle, body}
use Rattle.cfa_tree.specs.Plain.{plain_promise}
use Rattle.cfa_served.specs.declared.promise_ids.Placed.{Placed}
use Rattle.cfa_served.specs.Control.{is_control}

-- the attributes of a block that is `body common control`
abbrev pub control_in : BlockTree → Option (List AttributeTree)
control_in (bundle type_name name params sections place) = None
control_in (body type_name name params attributes place) = if is_control type_name name then Some attributes else None

abbrev pub seen_placed : Placed → List ℕ × PromiseTree
seen_placed p = (p.word.now, plain_promise p.promise.now)
