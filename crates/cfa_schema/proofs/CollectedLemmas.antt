-- Collecting from the parts of a policy, one after another.
use Rattle.std.proofs.Common.{◌≡◌, ◌<◌, ◌≤◌, ◌+◌, ℕ, List, [], ◌∷◌, ◌++◌, length, drop, get_or, map, refl, ap, sym, ◌∙◌, append_assoc, append-nil, take, subst}
use Rattle.std.specs.Prelude.{Option, Some, None, All}
use Rattle.std.specs.List.{filter_map, flat_map}
use Rattle.std.proofs.lemmas.List.{drop_more, map-append, take_all, take_more, take-append-drop}
use Rattle.std.proofs.lemmas.List.Elements.{All-push}
use Rattle.cfa_tree.specs.Tree.{PromiseTree, bundle, body, PolicyTree}
use Rattle.cfa_kinds.specs.declared.kinds.PromiseType.{PromiseType}
use Rattle.cfa_kinds.specs.declared.kinds.PromiseType.TheVariants as promises
use Rattle.cfa_schema.specs.declared.patterns.KnownPattern.{KnownPattern as FoundPattern}
use Rattle.cfa_base.specs.Patterns.{refuses, SizeRefusal}
use Rattle.cfa_base.specs.Shown.{Shown, HasFailed}
use Rattle.cfa_values.specs.declared.refusals.Refusal.{Refusal}
use Rattle.cfa_schema.specs.declared.errors.SchemaErr.{SchemaErr}
use Rattle.cfa_schema.specs.declared.errors.SchemaErr.TheVariants.{Refused, PatternTooBig, NoMemory}
use Rattle.cfa_schema.specs.Errors.{size_refusal}
use Rattle.cfa_schema.specs.Collected.{promiser_how, seen_pattern, bundle_head_of, body_head_of, with_block, with_blocks, HasFirstBad, HasRefused, IsRefusedAs, IfRefused, IsBad}
use Rattle.cfa_values.specs.Definitions.{Definitions}
use Rattle.cfa_served.specs.Control.{sequence_of}
use Rattle.cfa_schema.specs.Defined.{bundle_head, body_head, definitions_of}
use Rattle.cfa_schema.specs.Valid.{KnownPattern, IsPattern, promiser_pattern}

known_with : (definitions : Definitions) (policy : PolicyTree) →
    with_blocks definitions policy ≡ record definitions { bundles = definitions.bundles ++ filter_map bundle_head policy; bodies = definitions.bodies ++ filter_map body_head policy }
known_with definitions [] = λ i. record definitions { bundles = sym (append-nil definitions.bundles) i; bodies = sym (append-nil definitions.bodies) i }
known_with definitions (bundle kind name params sections place ∷ rest) =
    let more = known_with (with_block definitions (bundle kind name params sections place)) rest in
    more ∙ (λ i. record definitions { bundles = append_assoc definitions.bundles (bundle_head_of kind name params ∷ []) (filter_map bundle_head rest) i; bodies = definitions.bodies ++ filter_map body_head rest })
known_with definitions (body kind name params attributes place ∷ rest) =
    let more = known_with (with_block definitions (body kind name params attributes place)) rest in
    more ∙ (λ i. record definitions { bundles = definitions.bundles ++ filter_map bundle_head rest; bodies = append_assoc definitions.bodies (body_head_of kind name params ∷ []) (filter_map body_head rest) i })

known_by_blocks : (policy : PolicyTree) → with_blocks (record { bundles = []; bodies = []; sequence = sequence_of policy }) policy ≡ definitions_of policy
unfolding definitions_of
known_by_blocks policy = known_with (record { bundles = []; bodies = []; sequence = sequence_of policy }) policy

-- what all blocks define, one after the other, is what the policy defines
pub known_from_none : (policy left : PolicyTree) (definitions : Definitions) (sequence : List (List ℕ)) →
    definitions ≡ record { bundles = []; bodies = []; sequence = sequence } → sequence ≡ sequence_of policy → left ≡ policy → with_blocks definitions left ≡ definitions_of policy
known_from_none policy left definitions sequence k s l =
    ap (λ n. with_blocks n left) (k ∙ ap (λ (names : List (List ℕ)). let none : Definitions = record { bundles = []; bodies = []; sequence = names } in none) s)
    ∙ ap (λ p. with_blocks (record { bundles = []; bodies = []; sequence = sequence_of policy }) p) l
    ∙ known_by_blocks policy

-- ---- patterns

nothing_of : {X Y : Type 0} (xs : List X) → flat_map (λ x. let none : List Y = [] in none) xs ≡ []
nothing_of [] = refl
nothing_of (x ∷ xs) = nothing_of xs

-- promisers that don't match have no patterns
pub no_patterns : (type : Option PromiseType) (so_far : List KnownPattern) (ps : List PromiseTree) → None ≡ promiser_how type → so_far ≡ so_far ++ flat_map (promiser_pattern type) ps
no_patterns None so_far ps e = sym (ap (λ xs. so_far ++ xs) (nothing_of ps) ∙ append-nil so_far)
no_patterns (Some promises.DeleteLines) so_far ps e = absurd (cc)
no_patterns (Some promises.FieldEdits) so_far ps e = absurd (cc)
no_patterns (Some promises.ReplacePatterns) so_far ps e = absurd (cc)
no_patterns (Some type) so_far ps e = sym (ap (λ xs. so_far ++ xs) (nothing_of ps) ∙ append-nil so_far)

module _ (patterns : List FoundPattern) (i : ℕ) (d : FoundPattern) (within : i < length patterns) where
  before : List KnownPattern
  before = map seen_pattern (take i patterns)

  after : List KnownPattern
  after = map seen_pattern (drop (i + 1) patterns)

  stands : map seen_pattern patterns ≡ before ++ seen_pattern (get_or patterns i d) ∷ after
  unfolding before after
  stands =
      ap (map seen_pattern) (sym (take-append-drop i patterns)) ∙ map-append seen_pattern (take i patterns) (drop i patterns)
      ∙ ap (λ ps. before ++ map seen_pattern ps) (drop_more patterns i d within)

  -- all before it are patterns, and this one is none
  pub first_bad : (r : Refusal) → All IsPattern (map seen_pattern (take i patterns)) → IsBad (seen_pattern (get_or patterns i d)) r → HasFirstBad (map seen_pattern patterns) r
  unfolding before
  first_bad r good is = record {
    pattern = seen_pattern (get_or patterns i d);
    first = record { before = before; after = after; stands = stands; good = good; bad = is.bad };
    is = is.is;
  }

  pub refused_here : (t : List ℕ) → All IsPattern (map seen_pattern (take i patterns)) → IsRefusedAs (seen_pattern (get_or patterns i d)) t → HasRefused (map seen_pattern patterns) t
  unfolding before
  refused_here t good is = record { pattern = seen_pattern (get_or patterns i d); before = before; after = after; stands = stands; good = good; reads = is.reads; text = is.text }

  pub good_more : All IsPattern (map seen_pattern (take i patterns)) → IsPattern (seen_pattern (get_or patterns i d)) → All IsPattern (map seen_pattern (take (i + 1) patterns))
  good_more good is =
      subst (All IsPattern) (sym (ap (map seen_pattern) (take_more patterns i d within) ∙ map-append seen_pattern (take i patterns) (get_or patterns i d ∷ [])))
      (All-push IsPattern (map seen_pattern (take i patterns)) (seen_pattern (get_or patterns i d)) good is)

pub all_good : (patterns : List FoundPattern) (i : ℕ) → length patterns ≤ i → All IsPattern (map seen_pattern (take i patterns)) → All IsPattern (map seen_pattern patterns)
all_good patterns i past good = subst (λ (ps : List FoundPattern). All IsPattern (map seen_pattern ps)) (take_all i patterns past) good

-- the refusal of a pattern is told as it is
pub bad_stands : (patterns : List FoundPattern) (i : ℕ) (d : FoundPattern) → i < length patterns → All IsPattern (map seen_pattern (take i patterns)) → (e : SchemaErr) →
    IfRefused e (IsBad (seen_pattern (get_or patterns i d))) → IfRefused e (HasFirstBad (map seen_pattern patterns))
bad_stands patterns i d within good (Refused r) is = first_bad patterns i d within r good is
bad_stands patterns i d within good (PatternTooBig text) is = is
bad_stands patterns i d within good NoMemory is = is

pub refused_stands : (patterns : List FoundPattern) (i : ℕ) (d : FoundPattern) → i < length patterns → All IsPattern (map seen_pattern (take i patterns)) → (e : SchemaErr) →
    (first before after : Shown (List (List ℕ))) → before ≡ first → SizeRefusal (IsRefusedAs (seen_pattern (get_or patterns i d))) (size_refusal e) before after →
    SizeRefusal (HasRefused (map seen_pattern patterns)) (size_refusal e) first after
refused_stands patterns i d within good (Refused r) first before after same is = is ∙ same
refused_stands patterns i d within good (PatternTooBig text) first before after same is =
    (refused_here patterns i d within text good is.0, subst (λ (s : Shown (List (List ℕ))). HasFailed (refuses text) s after) same is.1)
refused_stands patterns i d within good NoMemory first before after same is = is ∙ same
