-- In a run of a valid policy no call lacks a level: a chain of calls that used up all levels would be longer than the policy has
-- bundles.
use Rattle.std.proofs.Common.{◌≡◌, ◌∙◌, ◌≤◌, ℕ, zero, suc, ◌+◌, true, List, [], ◌∷◌, length, Option, Some, None, refl, ap, sym, subst, arith}
use Rattle.std.specs.List.{AllByRecursion as Each, Contains, filter_map}
use Rattle.std.specs.Prelude.{find}
use Rattle.std.proofs.lemmas.Bool.{false≢true}
use Rattle.std.proofs.lemmas.List.Elements.{recursion_from_All}
use Rattle.std.proofs.lemmas.Option.{none-some, option_and_then_some, same_Some}
use Rattle.std.proofs.lemmas.Slice.Eq.{bytes_eq-Decides}
use Rattle.cfa_base.specs.lemmas.Lists.{each_weaker}
use Rattle.cfa_calls.specs.Cycles.{Call as CallOf}
use Rattle.cfa_kinds.specs.declared.kinds.BundleType.{BundleType}
use Rattle.cfa_kinds.specs.declared.kinds.BundleType.TheVariants as bundles
use Rattle.cfa_resolve.specs.Instances.{call_by}
use Rattle.cfa_resolve.specs.declared.instances.Work.{Work}
use Rattle.cfa_resolve.specs.declared.instances.Work.TheVariants.{Call}
use Rattle.cfa_schema.specs.Laws.{IsChain, one_call, more_calls, ChainsAreShort, CommonBundlesStand, EachBundleCalls}
use Rattle.cfa_schema.specs.Valid.{Valid, bundle_name, calls_of as calls_in}
use Rattle.cfa_schema.specs.lemmas.Found.{IsFound, found}
use Rattle.cfa_served.specs.Control.{sequence_of}
use Rattle.cfa_served.specs.Served.{bundle_of, common_bundles_of, if_bundle, is_bundle_of}
use Rattle.cfa_states.specs.History.{History, everywhere}
use Rattle.cfa_states.specs.Numbered.{Numbered, name_of, numbered_in, common_types}
use Rattle.cfa_states.specs.Passes.{Calls, each, called_by, calls_of, all_calls, activation, type_of_block, common_passes, run}
use Rattle.cfa_states.specs.Tellers.{Teller, inner_path}
use Rattle.cfa_states.specs.Views.{Setting}
use Rattle.cfa_statuses.specs.declared.levels.Status.{Status}
use Rattle.cfa_statuses.specs.declared.levels.Status.TheVariants.{Yes}
use Rattle.cfa_tree.specs.Tree.{BlockTree, bundle, body, PolicyTree}
use Rattle.cfa_vars.specs.declared.scoping.Datum.{Datum}
use Rattle.cfa_frames.specs.Depths.{calls_before, common_with, rounds_with, by_type_with, named_with, run_with}
use Rattle.cfa_frames.proofs.CalleeLemmas.{HasCall, CallsWell, block_calls}
use Rattle.cfa_frames.proofs.SameLemmas.{both_same, each_same, all_same, SameFor, PromiseMayCall, types_same, activation_same}
use Rattle.cfa_frames.proofs.WorkLemmas.{MayCall}

-- ---- chains

abbrev BeginsAt : List ℕ → List CallOf → Type 0
BeginsAt name [] = Unit {0}
BeginsAt name (c ∷ chain) = c.caller ≡ name

-- so many levels are enough for all chains of calls from a bundle on
abbrev HasRoom : PolicyTree → List ℕ → ℕ → Type 0
HasRoom policy name n = (chain : List CallOf) → IsChain (calls_in policy) chain → BeginsAt name chain → length chain ≤ n

bundles_few : (policy : PolicyTree) → length (filter_map bundle_name policy) ≤ length policy
bundles_few [] = omega arith
bundles_few (bundle type_name name params sections place ∷ rest) = let fewer = bundles_few rest in omega (arith, fewer)
bundles_few (body type_name name params attributes place ∷ rest) = let fewer = bundles_few rest in omega (arith, fewer)

room_for_all : (policy : PolicyTree) → Valid policy → ChainsAreShort → (name : List ℕ) → HasRoom policy name (length policy)
room_for_all policy valid short name chain is begins =
    let few = short policy chain valid is in
    let fewer = bundles_few policy in
    omega (arith, few, fewer)

no_room : (policy : PolicyTree) (caller callee : List ℕ) → HasCall policy caller callee → HasRoom policy caller zero → ⊥
no_room policy caller callee has room = let none = room (has.call ∷ []) (one_call has.is_call) has.from in omega (arith, none)

longer : (policy : PolicyTree) (c : CallOf) (chain : List CallOf) → Contains (calls_in policy) c → IsChain (calls_in policy) chain → BeginsAt c.callee chain → IsChain (calls_in policy) (c ∷ chain)
longer policy c [] is chain begins = one_call is
longer policy c (d ∷ chain) is more begins = more_calls is (sym begins) more

-- the bundle that is called has one less
room_behind : (policy : PolicyTree) (caller callee : List ℕ) (n : ℕ) → HasCall policy caller callee → HasRoom policy caller (suc n) → HasRoom policy callee n
room_behind policy caller callee n has room chain is begins =
    let at : BeginsAt has.call.callee chain = subst (λ (name : List ℕ). BeginsAt name chain) (sym has.to) begins in
    let enough = room (has.call ∷ chain) (longer policy has.call chain has.is_call is at) has.from in
    omega (arith, enough)

-- ---- bundles that are found

found_block : (policy : PolicyTree) (name : List ℕ) (block one : BlockTree) → IsFound (is_bundle_of name) policy one → if_bundle one ≡ Some block → IsFound (is_bundle_of name) policy block
found_block policy name block (bundle type_name named params sections place) is e = subst (IsFound (is_bundle_of name) policy) (same_Some (bundle type_name named params sections place) block e) is
found_block policy name block (body type_name named params attributes place) is e = absurd (none-some block e)

bundle_found : (policy : PolicyTree) (name : List ℕ) (block : BlockTree) → bundle_of policy name ≡ Some block → IsFound (is_bundle_of name) policy block
unfolding bundle_of
bundle_found policy name block e =
    option_and_then_some if_bundle (find (is_bundle_of name) policy) block e
    (λ one is same. found_block policy name block one (found (is_bundle_of name) policy one is) same)

name_is : (name : List ℕ) (block : BlockTree) → is_bundle_of name block ≡ true → name ≡ name_of block
name_is name (bundle type_name named params sections place) is = (bytes_eq-Decides name named.name).0 is
name_is name (body type_name named params attributes place) is = absurd (false≢true is)

-- ---- calls with so many levels, whatever is behind them

module _ (s : Setting) (t : Teller) (valid : Valid s.policy) (calls : EachBundleCalls) where
  -- a promise that makes its call calls no other bundle
  promise_may : (caller : List ℕ) (p : Numbered) → CallsWell s.policy caller p → PromiseMayCall (HasCall s.policy caller) p
  promise_may caller p well methods r choice =
      let made = well methods in
      subst (λ o. MayCall (HasCall s.policy caller) (call_by r choice o)) (sym made.is_given) made.has

  promises_may : (block : BlockTree) → Contains s.policy block → Each (PromiseMayCall (HasCall s.policy (name_of block))) (numbered_in block)
  promises_may block has =
      each_weaker (CallsWell s.policy (name_of block)) (PromiseMayCall (HasCall s.policy (name_of block))) (promise_may (name_of block)) (numbered_in block) (block_calls s.policy valid calls block has)

  -- calls that do the same from each bundle on that has room so
  abbrev AreSame : ℕ → Calls → Calls → Type 0
  AreSame n a b = (name : List ℕ) → HasRoom s.policy name n → SameFor (HasCall s.policy name) a b

  activated_same : (n : ℕ) (a b : Calls) → AreSame n a b → (path name : List ℕ) (status : Status) (given : List Datum) (o : Option BlockTree) (h : History) →
      HasRoom s.policy name n → bundle_of s.policy name ≡ o → activation s t a path status given o h ≡ activation s t b path status given o h
  activated_same n a b same path name status given None h room is = refl
  activated_same n a b same path name status given (Some block) h room is =
      let there = bundle_found s.policy name block is in
      let here : HasRoom s.policy (name_of block) n = subst (λ name. HasRoom s.policy name n) (name_is name block there.passes) room in
      activation_same s t a b (HasCall s.policy (name_of block)) (same (name_of block) here) path status given block h (promises_may block there.there)

  called_same : (n : ℕ) (a b : Calls) → AreSame n a b → (path caller name : List ℕ) (w : Work) (given : List Datum) (status : Status) (h : History) →
      HasRoom s.policy caller (suc n) → w ≡ Call name given → HasCall s.policy caller name → called_by s t a path w status h ≡ called_by s t b path w status h
  called_same n a b same path caller name w given status h room is has =
      subst (λ w. called_by s t a path w status h ≡ called_by s t b path w status h) (sym is)
      (activated_same n a b same path name status given (bundle_of s.policy name) h (room_behind s.policy caller name n has room) refl)

  levels_same : (a b : Calls) (n : ℕ) → AreSame n (calls_before s t a n) (calls_before s t b n)
  unfolding calls_before
  levels_same a b zero name room i status h callee given is has = absurd (no_room s.policy name callee has room)
  levels_same a b (suc n) name room i status h callee given is has =
      called_same n (calls_before s t a n) (calls_before s t b n) (levels_same a b n) (inner_path i) name callee i.work given status h room is has

  -- ---- a run

  module _ (n : ℕ) (a b : Calls) (same : AreSame n a b) (room : (name : List ℕ) → HasRoom s.policy name n) where
    common_same : (block : BlockTree) → Contains s.policy block → (h : History) → common_with s t a block h ≡ common_with s t b block h
    common_same block has h =
        types_same s t a b (HasCall s.policy (name_of block)) (same (name_of block) (room (name_of block))) everywhere (record { path = name_of block; bundle = name_of block }) Yes (numbered_in block)
        (promises_may block has) common_types h

    rounds_same : CommonBundlesStand → (k : ℕ) (h : History) → rounds_with s t a k h ≡ rounds_with s t b k h
    unfolding rounds_with
    rounds_same stand zero h = refl
    rounds_same stand (suc k) h =
        both_same (each (common_with s t a) (common_bundles_of s.policy) h) (each (common_with s t b) (common_bundles_of s.policy) h) (rounds_with s t a k) (rounds_with s t b k)
        (each_same (Contains s.policy) (common_with s t a) (common_with s t b) common_same (common_bundles_of s.policy)
        (recursion_from_All (Contains s.policy) (common_bundles_of s.policy) (stand s.policy)) h)
        (rounds_same stand k)

    by_type_same : (name : List ℕ) (type : Option BundleType) (o : Option BlockTree) (h : History) → bundle_of s.policy name ≡ o → by_type_with s t a name type o h ≡ by_type_with s t b name type o h
    by_type_same name None o h is = refl
    by_type_same name (Some bundles.Agent) o h is = activated_same n a b same name name Yes [] o h (room name) is
    by_type_same name (Some bundles.Common) o h is = refl
    by_type_same name (Some bundles.EditLine) o h is = refl

    named_same : (name : List ℕ) (h : History) → named_with s t a name h ≡ named_with s t b name h
    named_same name h = by_type_same name (type_of_block s t (bundle_of s.policy name)) (bundle_of s.policy name) h refl

    runs_same : CommonBundlesStand → run_with s t a ≡ run_with s t b
    unfolding run_with
    runs_same stand =
        both_same (rounds_with s t a 3 []) (rounds_with s t b 3 []) (each (named_with s t a) (sequence_of s.policy)) (each (named_with s t b) (sequence_of s.policy)) (rounds_same stand 3 [])
        (all_same (named_with s t a) (named_with s t b) named_same (sequence_of s.policy))

-- ---- the run of the definition

module _ (s : Setting) (t : Teller) where
  one_more : (k : ℕ) (c : Calls) → calls_of s t k ≡ c → calls_of s t (suc k) ≡ (λ i status h. called_by s t c (inner_path i) i.work status h)
  unfolding calls_of
  one_more k c is = ap (λ (c : Calls). λ i status h. called_by s t c (inner_path i) i.work status h) is

  calls_split : (n m : ℕ) → calls_of s t (n + m) ≡ calls_before s t (calls_of s t n) m
  unfolding calls_before
  calls_split n zero = ap (calls_of s t) (omega arith)
  calls_split n (suc m) = ap (calls_of s t) (omega arith) ∙ one_more (n + m) (calls_before s t (calls_of s t n) m) (calls_split n m)

  pub is_run : run_with s t (all_calls s t) ≡ run s t
  unfolding run_with rounds_with run common_passes
  is_run = refl

  module _ (valid : Valid s.policy) (calls : EachBundleCalls) (short : ChainsAreShort) (stand : CommonBundlesStand) where
    pub never_reached : (others : Calls) → run_with s t (calls_before s t others (length s.policy)) ≡ run s t
    never_reached others =
        let n : ℕ = length s.policy in
        runs_same s t valid calls n (calls_before s t others n) (calls_before s t (calls_of s t zero) n) (levels_same s t valid calls others (calls_of s t zero) n) (room_for_all s.policy valid short) stand
        ∙ (ap (run_with s t) (sym (calls_split zero n) ∙ ap (calls_of s t) (omega arith)) ∙ is_run)

    pub deeper : (n : ℕ) → run_with s t (calls_of s t (n + length s.policy)) ≡ run s t
    deeper n = ap (run_with s t) (calls_split n (length s.policy)) ∙ never_reached (calls_of s t n)
