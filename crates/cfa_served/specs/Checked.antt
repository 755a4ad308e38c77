-- The promises of a policy by their ids: the bundle, the number in it from 1 over all types in text order, and the line of the
-- promiser.
use Rattle.std.specs.Prelude.{ℕ, ◌+◌, ◌-◌, ◌==◌, ◌≤◌, All, length, List, [], ◌∷◌, Option, Some, None, slice_get, nat_lt, if◌then◌else◌, map, option_map, option_and_then}
use Rattle.std.specs.List.{flat_map}
use Rattle.std.specs.Str.{bytes_eq}
use Rattle.cfa_kinds.specs.declared.kinds.PromiseType.{PromiseType}
use Rattle.cfa_kinds.specs.Kinds.{promise_type}
use Rattle.cfa_base.specs.declared.places.PromiseId.{PromiseId}
use Rattle.cfa_tree.specs.Tree.{PromiseTree, SectionTree, BlockTree, bundle, body, PolicyTree}

abbrev pub promises_of : SectionTree → List PromiseTree
promises_of section = section.promises

-- each promise of a section with the word of its type
abbrev pub worded_promises_of : SectionTree → List (List ℕ × PromiseTree)
worded_promises_of section = map (λ p. (section.kind, p)) section.promises

-- what the sections of the first bundle of a name give, in text order
abbrev pub given_in_bundle : {X : Type 0} → (SectionTree → List X) → List ℕ → PolicyTree → List X
given_in_bundle parts name [] = []
given_in_bundle parts name (bundle type_name named params sections place ∷ rest) =
    if bytes_eq name named.name then flat_map parts sections else given_in_bundle parts name rest
given_in_bundle parts name (body type_name named params attributes place ∷ rest) = given_in_bundle parts name rest

abbrev pub on_line : ℕ → Option PromiseTree → Option PromiseTree
on_line line None = None
on_line line (Some p) = if p.place.line == line then Some p else None

abbrev pub word_on_line : ℕ → Option (List ℕ × PromiseTree) → Option (List ℕ × PromiseTree)
word_on_line line None = None
word_on_line line (Some x) = if x.1.place.line == line then Some x else None

-- the promise that an id names
unfoldable pub promise_of : PolicyTree → PromiseId → Option PromiseTree
promise_of policy id =
    if nat_lt 0 id.number then on_line id.line (slice_get (given_in_bundle promises_of id.bundle policy) (id.number - 1)) else None

-- the same with the word of its type
unfoldable pub worded_promise_of : PolicyTree → PromiseId → Option (List ℕ × PromiseTree)
worded_promise_of policy id =
    if nat_lt 0 id.number then word_on_line id.line (slice_get (given_in_bundle worded_promises_of id.bundle policy) (id.number - 1)) else None

abbrev pub typed : (List ℕ × PromiseTree) → Option (PromiseType × PromiseTree)
typed x = option_map (λ type. (type, x.1)) (promise_type x.0)

-- the promise that an id names, with its type, where that is one of the profile
abbrev pub typed_promise_of : PolicyTree → PromiseId → Option (PromiseType × PromiseTree)
typed_promise_of policy id = option_and_then typed (worded_promise_of policy id)

abbrev pub id_at : (bundle_name : List ℕ) → (number line : ℕ) → PromiseId
id_at name number line = record { bundle = name; number = number; line = line }

-- the ids of promises of one bundle, numbered from a number on
abbrev pub ids_from : (bundle_name : List ℕ) → ℕ → List PromiseTree → List PromiseId
ids_from name number [] = []
ids_from name number (p ∷ more) = id_at name number p.place.line ∷ ids_from name (number + 1) more

abbrev pub ids_in_block : BlockTree → List PromiseId
ids_in_block (bundle type_name named params sections place) = ids_from named.name 1 (flat_map promises_of sections)
ids_in_block (body type_name named params attributes place) = []

-- the ids of the promises of all bundles, in text order
unfoldable pub promise_ids_of : PolicyTree → List PromiseId
promise_ids_of policy = flat_map ids_in_block policy

abbrev pub promise_count : BlockTree → ℕ
promise_count (bundle type_name named params sections place) = length (flat_map promises_of sections)
promise_count (body type_name named params attributes place) = 0

-- no block has more promises than this
abbrev pub HasFew : ℕ → PolicyTree → Type 0
HasFew most policy = All (λ b. promise_count b ≤ most) policy
