-- Minutes are at most those of a year.
use Rattle.std.proofs.Common.{◌≡◌, ◌≤◌, ℕ, Bool, true, false, List, Option, Some, None, if◌then◌else◌, refl, lit≤}
use Rattle.std.specs.Prelude.{option_and_then, codes}
use Rattle.std.specs.Str.Parse.{digits_value}
use Rattle.cfa_tree.specs.Tree.{ValueTree, NamedTree, BlockTree, bundle, body, PolicyTree}
use Rattle.cfa_kinds.specs.declared.kinds.BodyType.TheVariants as bodies
use Rattle.cfa_kinds.specs.declared.kinds.Form.TheVariants.{Minutes}
use Rattle.cfa_kinds.specs.Forms.{has_form}
use Rattle.cfa_kinds.specs.lemmas.Digits.{small_digits}
use Rattle.cfa_values.specs.Attributes.{value_of}
use Rattle.cfa_values.specs.Values.{known_named}
use Rattle.cfa_served.specs.Served.{body_of, minutes_named, minutes_in, or_one, minutes_of}

written_so : (b : Bool) (text : List ℕ) → has_form Minutes text ≡ b → or_one (if b then Some (digits_value 10 text) else None) ≤ 525600
written_so true text h = small_digits text h
written_so false text h = lit≤ tt

named_small : (n : Option NamedTree) → or_one (minutes_named n) ≤ 525600
named_small None = lit≤ tt
named_small (Some n) = written_so (has_form Minutes n.name) n.name refl

given_small : (v : Option ValueTree) → or_one (option_and_then (λ x. minutes_named (known_named x)) v) ≤ 525600
given_small None = lit≤ tt
given_small (Some v) = named_small (known_named v)

block_small : (b : Option BlockTree) → or_one (minutes_in b) ≤ 525600
block_small None = lit≤ tt
block_small (Some (bundle type_name named params sections place)) = lit≤ tt
block_small (Some (body type_name named params attributes place)) = given_small (value_of (codes "ifelapsed") attributes)

pub minutes_small : (policy : PolicyTree) → minutes_of policy ≤ 525600
unfolding minutes_of
minutes_small policy = block_small (body_of policy bodies.Agent (codes "control"))
