-- A chain of calls of which none lies on a cycle has as many callers as calls.
use Rattle.std.proofs.Common.{◌≡◌, ◌≤◌, ℕ, Bool, true, false, List, [], ◌∷◌, ◌++◌, length, map, Option, Some, None, inr, refl, sym, subst}
use Rattle.std.specs.Prelude.{if◌then◌else◌, ⊤}
use Rattle.std.specs.List.{Contains, IsDistinct, AllByRecursion, cons_option, flat_map, filter_map}
use Rattle.std.specs.Str.{bytes_eq}
use Rattle.std.proofs.lemmas.Slice.Eq.{bytes_eq-Decides}
use Rattle.std.proofs.lemmas.Cmp.{nat_list_eq_equiv}
use Rattle.std.proofs.lemmas.Map.Made.{is_member-Decides, length-le_from_is_member}
use Rattle.std.proofs.lemmas.List.Elements.{All-contains, All-from_recursion, Contains-push, Contains-append_left, Contains-append_right}
use Rattle.std.proofs.lemmas.List.{length-map}
use Rattle.cfa_base.specs.lemmas.Lists.{each_append, each_weaker, each_flat}
use Rattle.cfa_tree.specs.Tree.{ValueTree, AttributeTree, PromiseTree, SectionTree, NamedTree, BlockTree, bundle, body, PolicyTree}
use Rattle.cfa_kinds.specs.declared.kinds.BundleType.{BundleType}
use Rattle.cfa_kinds.specs.declared.kinds.BundleType.TheVariants as bundles
use Rattle.cfa_kinds.specs.declared.kinds.PromiseType.{PromiseType}
use Rattle.cfa_kinds.specs.declared.kinds.PromiseType.TheVariants as promises
use Rattle.cfa_kinds.specs.declared.kinds.Kind.{Kind}
use Rattle.cfa_kinds.specs.declared.kinds.Kind.TheVariants as kinds
use Rattle.cfa_kinds.specs.Kinds.{bundle_type, promise_type, promise_attribute}
use Rattle.cfa_values.specs.Definitions.{is_one_of}
use Rattle.cfa_values.specs.Refusals.{refusal}
use Rattle.cfa_values.specs.declared.refusals.Code.TheVariants.{CallCycle}
use Rattle.cfa_values.specs.Values.{name_in}
use Rattle.cfa_calls.specs.Cycles.{Call, Reaches, NoneOnCycle}
use Rattle.cfa_calls.specs.Cycles.Reaches.{here, onward}
use Rattle.cfa_schema.specs.Valid.{bundle_name, callee_named, called_by, call_of_kind, call_in_attribute, calls_in_promise, calls_by_type, calls_in_section, calls_in_bundle, calls_in_block, first_bundles_after, calls_of}
use Rattle.cfa_schema.specs.Laws.{IsChain, one_call, more_calls, ChainsAreShort}

caller_of : Call → List ℕ
caller_of c = c.caller

module _ (calls : List Call) where
  joined : {a b c : List ℕ} → Reaches calls a b → Reaches calls b c → Reaches calls a c
  joined here q = q
  joined (onward call h p) q = onward call h (joined p q)

  first_is_call : (c : Call) (rest : List Call) → IsChain calls (c ∷ rest) → Contains calls c
  first_is_call c [] (one_call h) = h
  first_is_call c (d ∷ rest) (more_calls h is more) = h

  not_same_by : NoneOnCycle calls → (c d : Call) (b : Bool) → bytes_eq c.caller d.caller ≡ b → Contains calls c → Reaches calls c.callee d.caller → b ≡ false
  not_same_by none c d false e h r = refl
  not_same_by none c d true e h r =
      absurd (none c h (subst (λ to. Reaches calls c.callee to) (sym ((bytes_eq-Decides c.caller d.caller).0 e)) r))

  -- the callers behind a call are others than its own
  apart : NoneOnCycle calls → (c : Call) → Contains calls c → (d : Call) (rest : List Call) → Reaches calls c.callee d.caller → IsChain calls (d ∷ rest) →
      AllByRecursion (λ y. bytes_eq c.caller y ≡ false) (map caller_of (d ∷ rest))
  unfolding caller_of
  apart none c h d [] r chain = (not_same_by none c d (bytes_eq c.caller d.caller) refl h r, tt)
  apart none c h d (e ∷ rest) r (more_calls g is more) = (
    not_same_by none c d (bytes_eq c.caller d.caller) refl h r,
    apart none c h e rest (joined r (subst (λ to. Reaches calls d.caller to) is (onward d g here))) more,
  )

  distinct : NoneOnCycle calls → (chain : List Call) → IsChain calls chain → IsDistinct bytes_eq (map caller_of chain)
  unfolding caller_of IsDistinct
  distinct none [] chain = tt
  distinct none (c ∷ []) chain = (tt, tt)
  distinct none (c ∷ d ∷ rest) (more_calls h is more) =
      (apart none c h d rest (subst (λ to. Reaches calls c.callee to) is here) more, distinct none (d ∷ rest) more)

  module _ (P : Call → Type 0) (each : (c : Call) → Contains calls c → P c) where
    chain_each : (chain : List Call) → IsChain calls chain → AllByRecursion P chain
    chain_each [] chain = tt
    chain_each (c ∷ []) (one_call h) = (each c h, tt)
    chain_each (c ∷ d ∷ rest) (more_calls h is more) = (each c h, chain_each (d ∷ rest) more)

-- ---- the callers are bundles

module _ {X : Type 0} (P : X → Type 0) where
  abbrev Holds : Option X → Type 0
  Holds None = ⊤
  Holds (Some x) = P x

  one_more : (o : Option X) (xs : List X) → Holds o → AllByRecursion P xs → AllByRecursion P (cons_option o xs)
  one_more None xs h g = g
  one_more (Some x) xs h g = (h, g)

  of_some : {Y : Type 0} (f : Y → Option X) → ((y : Y) → Holds (f y)) → (ys : List Y) → AllByRecursion P (filter_map f ys)
  of_some f each [] = tt
  of_some f each (y ∷ ys) = one_more (f y) (filter_map f ys) (each y) (of_some f each ys)

abbrev IsBy : List ℕ → Call → Type 0
IsBy name c = c.caller ≡ name

by_named : (name : List ℕ) (o : Option NamedTree) → Holds (IsBy name) (called_by name o)
by_named name None = tt
by_named name (Some n) = refl

by_kind : (name : List ℕ) (kind : Option Kind) (v : ValueTree) → Holds (IsBy name) (call_of_kind name kind v)
by_kind name None v = tt
by_kind name (Some kinds.AgentBundle) v = by_named name (callee_named v)
by_kind name (Some kind) v = tt

by_attribute : (name : List ℕ) (a : AttributeTree) → Holds (IsBy name) (call_in_attribute name a)
by_attribute name a = by_kind name (promise_attribute promises.Methods a.name) a.value

by_promise : (name : List ℕ) (p : PromiseTree) → AllByRecursion (IsBy name) (calls_in_promise name p)
by_promise name p = of_some (IsBy name) (call_in_attribute name) (by_attribute name) p.attributes

by_type : (name : List ℕ) (type : Option PromiseType) (ps : List PromiseTree) → AllByRecursion (IsBy name) (calls_by_type name type ps)
by_type name None ps = tt
by_type name (Some promises.Methods) ps = each_flat (IsBy name) (calls_in_promise name) (by_promise name) ps
by_type name (Some type) ps = tt

by_section : (name : List ℕ) (s : SectionTree) → AllByRecursion (IsBy name) (calls_in_section name s)
by_section name s = by_type name (promise_type s.kind) s.promises

abbrev names_of : PolicyTree → List (List ℕ)
names_of policy = map name_in (filter_map bundle_name policy)

by_bundle : (name : List ℕ) (type : Option BundleType) (sections : List SectionTree) → AllByRecursion (IsBy name) (calls_in_bundle name type sections)
by_bundle name None sections = tt
by_bundle name (Some bundles.Agent) sections = each_flat (IsBy name) (calls_in_section name) (by_section name) sections
by_bundle name (Some type) sections = tt

-- the calls of a bundle, where it makes some, and those of the bundles behind it
calls_with : (P : Call → Type 0) (b : BlockTree) (behind : PolicyTree) (is_known : Bool) → AllByRecursion P (calls_in_block b) → AllByRecursion P (flat_map calls_in_block behind) →
    AllByRecursion P (flat_map calls_in_block ((if is_known then [] else b ∷ []) ++ behind))
calls_with P b behind true own more = more
calls_with P b behind false own more = each_append P (calls_in_block b) (flat_map calls_in_block behind) own more

callers_named : (before : List (List ℕ)) (policy : PolicyTree) → AllByRecursion (λ c. Contains (names_of policy) c.caller) (flat_map calls_in_block (first_bundles_after before policy))
callers_named before [] = tt
callers_named before (bundle type_name name params sections place ∷ rest) =
    let behind = first_bundles_after (before ++ name.name ∷ []) rest in
    calls_with (λ (c : Call). Contains (name.name ∷ names_of rest) c.caller) (bundle type_name name params sections place) behind (is_one_of name.name before)
    (each_weaker (IsBy name.name) (λ c. Contains (name.name ∷ names_of rest) c.caller)
    (λ c e. subst (Contains (name.name ∷ names_of rest)) (sym e) (Contains-append_left (name.name ∷ []) (names_of rest) name.name (Contains-push [] name.name)))
    (calls_in_block (bundle type_name name params sections place)) (by_bundle name.name (bundle_type type_name.name) sections))
    (each_weaker (λ (c : Call). Contains (names_of rest) c.caller) (λ c. Contains (name.name ∷ names_of rest) c.caller)
    (λ c h. Contains-append_right (name.name ∷ []) (names_of rest) c.caller h) (flat_map calls_in_block behind) (callers_named (before ++ name.name ∷ []) rest))
callers_named before (body type_name name params attributes place ∷ rest) = callers_named before rest

caller_named : (policy : PolicyTree) (c : Call) → Contains (calls_of policy) c → Contains (names_of policy) c.caller
unfolding calls_of
caller_named policy c h =
    let calls = flat_map calls_in_block (first_bundles_after [] policy) in
    All-contains (λ (d : Call). Contains (names_of policy) d.caller) calls c
    (All-from_recursion (λ (d : Call). Contains (names_of policy) d.caller) calls (callers_named [] policy)) h

seen_all : (names : List (List ℕ)) (chain : List Call) → AllByRecursion (λ (c : Call). Contains names c.caller) chain → AllByRecursion (Contains names) (map caller_of chain)
unfolding caller_of
seen_all names [] h = tt
seen_all names (c ∷ chain) h = (h.0, seen_all names chain h.1)

pub chains_are_short : ChainsAreShort
chains_are_short policy chain valid is =
    let none : NoneOnCycle (calls_of policy) = λ c h on. valid.none_applies (refusal CallCycle c.place) (inr (c, h, on, refl)) in
    let names = names_of policy in
    let named = seen_all names chain (chain_each (calls_of policy) (λ c. Contains names c.caller) (caller_named policy) chain is) in
    let within = length-le_from_is_member nat_list_eq_equiv (map caller_of chain) names (distinct (calls_of policy) none chain is)
    (λ q h. (is_member-Decides bytes_eq-Decides names q).1
    (All-contains (Contains names) (map caller_of chain) q (All-from_recursion (Contains names) (map caller_of chain) named) ((is_member-Decides bytes_eq-Decides (map caller_of chain) q).0 h))) in
    subst (λ n. n ≤ length (filter_map bundle_name policy)) (length-map chain caller_of)
    (subst (λ n. length (map caller_of chain) ≤ n) (length-map (filter_map bundle_name policy) name_in) within)
