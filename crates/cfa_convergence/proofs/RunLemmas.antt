-- A run without failures lies within the open walk: calls inside calls, common bundles and the sequence.
use Rattle.std.proofs.Common.{◌≡◌, ℕ, zero, suc, ◌≤◌, Bool, true, false, List, [], ◌∷◌, length, Option, Some, None, refl, sym, ap, subst, ◌∙◌, ◌⊎◌, inl, inr, arith}
use Rattle.std.specs.List.{AllByRecursion as Each}
use Rattle.std.specs.Str.{bytes_eq}
use Rattle.std.proofs.lemmas.Bool.{false≢true}
use Rattle.cfa_base.specs.lemmas.EqualTexts.{same_text}
use Rattle.cfa_statuses.specs.declared.levels.Status.{Status}
use Rattle.cfa_statuses.specs.declared.levels.Status.TheVariants.{No, Maybe, Yes}
use Rattle.cfa_kinds.specs.declared.kinds.BundleType.{BundleType}
use Rattle.cfa_kinds.specs.declared.kinds.BundleType.TheVariants as bundles
use Rattle.cfa_kinds.specs.declared.kinds.PromiseType.{PromiseType}
use Rattle.cfa_resolve.specs.declared.instances.Instance.{Instance}
use Rattle.cfa_resolve.specs.declared.instances.Work.{Work}
use Rattle.cfa_resolve.specs.declared.instances.Work.TheVariants.{Acts, Call, Report}
use Rattle.cfa_served.specs.Control.{sequence_of}
use Rattle.cfa_served.specs.Served.{bundle_of, common_bundles_of}
use Rattle.cfa_tree.specs.Tree.{BlockTree}
use Rattle.cfa_vars.specs.declared.scoping.Datum.{Datum}
use Rattle.cfa_vars.specs.Scopes.{Table}
use Rattle.cfa_states.specs.History.{History, everywhere, within, Begun, scope_in, locally}
use Rattle.cfa_states.specs.Numbered.{numbered_in, params_of, name_of, common_types, of_type}
use Rattle.cfa_states.specs.Passes.{goes, bind, passes, activation, called_by, calls_of, all_calls, through_common, commons_from, common_passes, by_type, type_of_block, in_sequence, sequence_from, run}
use Rattle.cfa_states.specs.Tellers.{Teller, inner_path}
use Rattle.cfa_states.specs.Views.{Setting, Home}
use Rattle.cfa_convergence.specs.Contained.{unfailing, IsSettled, LiesWithin, UnfailingRunsAreContained}
use Rattle.cfa_laws.specs.Keys.{IsResolved, InstancesAreKeyed}
use Rattle.cfa_convergence.specs.Keys.{KeysTellWorks}
use Rattle.cfa_convergence.specs.Policies.{HasKnown}
use Rattle.cfa_laws.specs.Statuses.{InstancesAreSame, RaisesLieTogether, Within, no_no, no_maybe, yes_maybe, yes_yes}
use Rattle.cfa_convergence.specs.Told.{teller_of}
use Rattle.cfa_convergence.proofs.AlwaysLemmas.{Any, Any_at, Any_home, Always, each_made, Kept_along}
use Rattle.cfa_convergence.proofs.ContainedLemmas.{Both, Contained, Settles, If_settled, then_both, both_bound, both_more}
use Rattle.cfa_convergence.proofs.ContainmentLemmas.{steps_settle, Settling, calls_settle, activation_settles, known_any, IsShallow, AreShallowOpen, plain_shallow, CallsWithin, VisitsQuietly, types_both, passes_both}
use Rattle.cfa_convergence.proofs.DepthLemmas.{depth, depth_inner}
use Rattle.cfa_convergence.proofs.LevelLemmas.{each_level, visit_level, types_level, calls_level, common_level}
use Rattle.cfa_convergence.proofs.PlainLemmas.{Known_at, Known_common, known_commons}
use Rattle.cfa_convergence.proofs.QuietLemmas.{either_way, Quiet, quiet_same, quiet_then, IsDeep, IsDeepPlace, steps_quiet}

-- the open scopes, and one more
abbrev And_one : (List ℕ → Type 0) → List ℕ → List ℕ → Type 0
And_one Open q p = Open p ⊎ (p ≡ q)

-- no open scope is deeper than this
abbrev IsDeepest : (List ℕ → Type 0) → List ℕ → Type 0
IsDeepest Open q = (p : List ℕ) → Open p → depth p ≤ depth q

contained_fewer : (Open : List ℕ → Type 0) (q : List ℕ) (a b : History) → Contained (And_one Open q) a b → Contained Open a b
contained_fewer Open q a b c =
    record { globals = c.globals; locals = λ p o x. c.locals p (inl o) x; scopes = λ p o. c.scopes p (inl o); marks = c.marks; placed = c.placed }

reset_within : (b : Bool) (r w : Status) → (b ≡ false → Within r w) → Within (elim b [ true ↦ No | false ↦ r ]) (elim b [ true ↦ No | false ↦ w ])
reset_within true r w f = no_no
reset_within false r w f = f refl

reset_same : (b : Bool) (r w : Table) → (b ≡ false → r ≡ w) → ◌≡◌ {A = Table} (elim b [ true ↦ [] | false ↦ r ]) (elim b [ true ↦ [] | false ↦ w ])
reset_same true r w f = refl
reset_same false r w f = f refl

-- a scope that isn't the one that begins was open before
was_open : (Open : List ℕ → Type 0) (q p : List ℕ) → And_one Open q p → bytes_eq q p ≡ false → Open p
was_open Open q p (inl o) e = o
was_open Open q p (inr is) e = absurd (false≢true (sym e ∙ ap (bytes_eq q) is ∙ same_text q))

begun_both : (Open : List ℕ → Type 0) (q : List ℕ) (given : List Datum) (a b : History) → Contained Open a b → Contained (And_one Open q) (Begun q given ∷ a) (Begun q given ∷ b)
begun_both Open q given a b c = record {
  globals = c.globals;
  locals = λ p o x. reset_within (bytes_eq q p) (locally a p x) (locally b p x) (λ e. c.locals p (was_open Open q p o e) x);
  scopes = λ p o. reset_same (bytes_eq q p) (scope_in a p) (scope_in b p) (λ e. c.scopes p (was_open Open q p o e));
  marks = c.marks;
  placed = c.placed;
}

module _ (s : Setting) (tells : KeysTellWorks) (keyed : InstancesAreKeyed) (together : RaisesLieTogether) (same' : InstancesAreSame) (known : HasKnown s.policy) (repairs : History → Instance → Bool) where
  abbrev run_tells : Teller
  run_tells = teller_of (unfailing repairs)

  abbrev walk_tells : Teller
  walk_tells = teller_of either_way

  -- the walk alone, in the calls of a scope that is the deepest
  quietly : (n : ℕ) (Open : List ℕ → Type 0) (path : List ℕ) → IsDeepest Open path → VisitsQuietly Open path (calls_of s walk_tells n)
  quietly n Open path deepest i guard act h fit ok =
      let steps = steps_quiet Open (depth path) deepest s keyed Known_at (λ home p k. k.plain) in
      let calls = calls_level s either_way either_way (Kept_along (Quiet Open) (quiet_same Open) (quiet_then Open)) (IsDeep Open (depth path) deepest) (IsDeepPlace Open (depth path) deepest) (λ status. status ≡ Maybe)
      IsResolved Known_at steps (λ path name block at is. known.bundles name block is) n in
      let same : depth i.path ≡ depth path = ap depth fit.path in
      let less = depth_inner i in
      visit_level s either_way either_way (Kept_along (Quiet Open) (quiet_same Open) (quiet_then Open)) (IsDeep Open (depth path) deepest) (IsDeepPlace Open (depth path) deepest) (λ status. status ≡ Maybe)
      IsResolved Known_at steps (calls_of s walk_tells n) (calls_of s walk_tells n) calls path guard act i h ok fit (omega arith)

  module _ (n : ℕ)
      (inner_calls : (Open : List ℕ → Type 0) (path : List ℕ) → IsDeepest Open path → AreShallowOpen Open → CallsWithin s Open path (calls_of s run_tells n) (calls_of s walk_tells n)) where
    activation_both : (Open : List ℕ → Type 0) (q : List ℕ) → IsDeepest Open q → AreShallowOpen Open → (status : Status) → Within Yes status → (given : List Datum) (name : List ℕ) (found : Option BlockTree) →
        bundle_of s.policy name ≡ found → (a b : History) → Contained Open a b →
        Both (activation s run_tells (calls_of s run_tells n) q Yes given found a) (activation s walk_tells (calls_of s walk_tells n) q status given found b) (If_settled s Open)
    activation_both Open q deepest shallow status v given name None is a b c = λ st. contained_fewer Open q (Begun q given ∷ a) (Begun q given ∷ b) (begun_both Open q given a b c)
    activation_both Open q deepest shallow status v given name (Some block) is a b c =
        let home : Home = record { path = q; bundle = name_of block } in
        let a1 : History = bind q (params_of block) given (Begun q given ∷ a) in
        let b1 : History = bind q (params_of block) given (Begun q given ∷ b) in
        both_more (passes s run_tells (calls_of s run_tells n) (within q) home Yes (numbered_in block) 3 a1) (passes s walk_tells (calls_of s walk_tells n) (within q) home status (numbered_in block) 3 b1)
        (If_settled s (And_one Open q)) (If_settled s Open) (λ x y p st. contained_fewer Open q x y (p st))
        (passes_both s tells keyed together same' known.shared repairs (And_one Open q) (λ p e. inl (shallow p e)) (calls_of s run_tells n) (calls_of s walk_tells n) (calls_settle s n) home (inr refl) (within q) status v
        (inner_calls (And_one Open q) q deepest_one (λ p e. inl (shallow p e))) (quietly n (And_one Open q) q deepest_one) (numbered_in block) (known.bundles name block is) 3 a1 b1
        (both_bound (And_one Open q) q (params_of block) given (Begun q given ∷ a) (Begun q given ∷ b) (begun_both Open q given a b c)))
      where
        deepest_one : IsDeepest (And_one Open q) q
        deepest_one p (inl o) = deepest p o
        deepest_one p (inr e) = let same : depth p ≡ depth q = ap depth e in omega arith

    called_both : (Open : List ℕ → Type 0) (q : List ℕ) → IsDeepest Open q → AreShallowOpen Open → (w : Work) (status : Status) → Within Yes status → (a b : History) → Contained Open a b →
        Both (called_by s run_tells (calls_of s run_tells n) q w Yes a) (called_by s walk_tells (calls_of s walk_tells n) q w status b) (If_settled s Open)
    called_both Open q deepest shallow (Acts acts) status v a b c = λ st. c
    called_both Open q deepest shallow (Report content) status v a b c = λ st. c
    called_both Open q deepest shallow (Call name given) status v a b c =
        activation_both Open q deepest shallow status v given name (bundle_of s.policy name) refl a b c

  calls_both : (n : ℕ) (Open : List ℕ → Type 0) (path : List ℕ) → IsDeepest Open path → AreShallowOpen Open → CallsWithin s Open path (calls_of s run_tells n) (calls_of s walk_tells n)
  unfolding calls_of
  calls_both zero Open path deepest shallow i status a b fit v c = λ st.
      contained_fewer Open (inner_path i) (Begun (inner_path i) [] ∷ a) (Begun (inner_path i) [] ∷ b) (begun_both Open (inner_path i) [] a b c)
  calls_both (suc n) Open path deepest shallow i status a b fit v c =
      called_both n (calls_both n) Open (inner_path i) deeper shallow i.work status v a b c
    where
      deeper : IsDeepest Open (inner_path i)
      deeper p o =
          let least = deepest p o in
          let same : depth i.path ≡ depth path = ap depth fit.path in
          let less = depth_inner i in
          omega arith

  -- ---- the whole run

  shallow_deepest : (q : List ℕ) → IsDeepest IsShallow q
  shallow_deepest q p e = omega arith

  abbrev deep : ℕ
  deep = length s.policy

  common_both : (block : BlockTree) → Known_common block → (a b : History) → Contained IsShallow a b → Both (through_common s run_tells block a) (through_common s walk_tells block b) (If_settled s IsShallow)
  common_both block ok a b c =
      types_both s tells keyed together same' known.shared repairs IsShallow (λ q e. e) (all_calls s run_tells) (all_calls s walk_tells) (calls_settle s deep) (record { path = name_of block; bundle = name_of block })
      (plain_shallow (name_of block) ok.0) everywhere Yes yes_yes (calls_both deep IsShallow (name_of block) (shallow_deepest (name_of block)) (λ q e. e))
      (quietly deep IsShallow (name_of block) (shallow_deepest (name_of block))) (numbered_in block) common_types ok.1 a b c

  -- what was settled before the rest
  abbrev Any_common : BlockTree → Type 0
  Any_common block = Any (name_of block) × Each (λ (type : PromiseType). Each (Any_home (record { path = name_of block; bundle = name_of block })) (of_type type (numbered_in block))) common_types

  any_commons : (blocks : List BlockTree) → Each Any_common blocks
  any_commons = each_made Any_common (λ (block : BlockTree). (
    tt,
    each_made (λ (type : PromiseType). Each (Any_home (record { path = name_of block; bundle = name_of block })) (of_type type (numbered_in block)))
        (λ type. each_made (Any_home (record { path = name_of block; bundle = name_of block })) (λ p. tt) (of_type type (numbered_in block))) common_types,
  ))

  through_settles : (block : BlockTree) (h : History) → Always (through_common s walk_tells block h) (Settles s h)
  through_settles block h =
      types_level s either_way either_way (Settling s) Any Any Any Any_at Any_home (steps_settle s) (all_calls s walk_tells) (all_calls s walk_tells) (calls_settle s deep)
      (record { path = name_of block; bundle = name_of block }) tt everywhere tt Yes tt (numbered_in block) common_types ((any_commons (block ∷ [])).0.1) h

  blocks_settle : (blocks : List BlockTree) (h : History) → Always (commons_from s walk_tells blocks h) (Settles s h)
  blocks_settle blocks h =
      each_level s either_way either_way (Settling s) Any Any Any Any_at Any_home (steps_settle s) Any (through_common s walk_tells) (through_common s walk_tells) (λ block k ok. through_settles block k)
      blocks (each_made Any (λ block. tt) blocks) h

  commons_settle : (n : ℕ) (h : History) → Always (common_passes s walk_tells n h) (Settles s h)
  commons_settle =
      common_level s either_way either_way (Settling s) Any Any Any Any_at Any_home (steps_settle s) (known_any s) tt tt (any_commons (common_bundles_of s.policy)) (each_made Any (λ name. tt) (sequence_of s.policy))

  blocks_both : (blocks : List BlockTree) → Each Known_common blocks → (a b : History) → Contained IsShallow a b →
      Both (commons_from s run_tells blocks a) (commons_from s walk_tells blocks b) (If_settled s IsShallow)
  blocks_both [] ok a b c = λ st. c
  blocks_both (block ∷ blocks) ok a b c =
      then_both s IsShallow (through_common s run_tells block a) (through_common s walk_tells block b) (commons_from s run_tells blocks) (commons_from s walk_tells blocks)
      (common_both block ok.0 a b c) (λ k. blocks_settle blocks k) (λ h k d. blocks_both blocks ok.1 h k d)

  commons_both : (n : ℕ) (a b : History) → Contained IsShallow a b → Both (common_passes s run_tells n a) (common_passes s walk_tells n b) (If_settled s IsShallow)
  unfolding common_passes
  commons_both zero a b c = λ st. c
  commons_both (suc n) a b c =
      then_both s IsShallow (commons_from s run_tells (common_bundles_of s.policy) a) (commons_from s walk_tells (common_bundles_of s.policy) b) (common_passes s run_tells n) (common_passes s walk_tells n)
      (blocks_both (common_bundles_of s.policy) (known_commons (common_bundles_of s.policy) known.commons) a b c) (λ k. commons_settle n k) (λ h k d. commons_both n h k d)

  type_both : (name : List ℕ) (type : Option BundleType) (a b : History) → Contained IsShallow a b →
      Both (by_type s run_tells name type (bundle_of s.policy name) a) (by_type s walk_tells name type (bundle_of s.policy name) b) (If_settled s IsShallow)
  type_both name None a b c = λ st. c
  type_both name (Some bundles.Common) a b c = λ st. c
  type_both name (Some bundles.EditLine) a b c = λ st. c
  type_both name (Some bundles.Agent) a b c =
      activation_both deep (calls_both deep) IsShallow name (shallow_deepest name) (λ q e. e) Yes yes_yes [] name (bundle_of s.policy name) refl a b c

  type_settles : (name : List ℕ) (type : Option BundleType) (h : History) → Always (by_type s walk_tells name type (bundle_of s.policy name) h) (Settles s h)
  type_settles name None h = λ st. st
  type_settles name (Some bundles.Common) h = λ st. st
  type_settles name (Some bundles.EditLine) h = λ st. st
  type_settles name (Some bundles.Agent) h = activation_settles s (all_calls s walk_tells) (calls_settle s deep) name Yes [] name h

  sequence_settles : (names : List (List ℕ)) (h : History) → Always (sequence_from s walk_tells names h) (Settles s h)
  sequence_settles names h =
      each_level s either_way either_way (Settling s) Any Any Any Any_at Any_home (steps_settle s) Any (λ name. in_sequence s walk_tells name (bundle_of s.policy name)) (λ name. in_sequence s walk_tells name (bundle_of s.policy name))
      (λ name k ok. type_settles name (type_of_block s walk_tells (bundle_of s.policy name)) k) names (each_made Any (λ name. tt) names) h

  sequence_both : (names : List (List ℕ)) (a b : History) → Contained IsShallow a b → Both (sequence_from s run_tells names a) (sequence_from s walk_tells names b) (If_settled s IsShallow)
  sequence_both [] a b c = λ st. c
  sequence_both (name ∷ names) a b c =
      then_both s IsShallow (in_sequence s run_tells name (bundle_of s.policy name) a) (in_sequence s walk_tells name (bundle_of s.policy name) b) (sequence_from s run_tells names) (sequence_from s walk_tells names)
      (type_both name (type_of_block s run_tells (bundle_of s.policy name)) a b c) (λ k. sequence_settles names k) (λ h k d. sequence_both names h k d)

  nothing_yet : Contained IsShallow [] []
  nothing_yet = record {
    globals = λ c. no_no;
    locals = λ p o c. no_no;
    scopes = λ p o. refl;
    marks = λ p x. no_no;
    placed = ((λ i m. absurd m), tt, (λ i key has e. absurd (cc)), (λ i e. absurd (false≢true e)));
  }

  run_both : Both (run s run_tells) (run s walk_tells) (If_settled s IsShallow)
  unfolding run
  run_both =
      then_both s IsShallow (common_passes s run_tells 3 []) (common_passes s walk_tells 3 []) (sequence_from s run_tells (sequence_of s.policy)) (sequence_from s walk_tells (sequence_of s.policy))
      (commons_both 3 [] [] nothing_yet) (λ k. sequence_settles (sequence_of s.policy) k) (λ h k d. sequence_both (sequence_of s.policy) h k d)

  -- a run without failures, and a walk that leaves nothing unsettled
  pub run_contained : (a b : History) → run s run_tells ≡ goes a → run s walk_tells ≡ goes b → IsSettled s b → Contained IsShallow a b
  run_contained a b is_a is_b st =
      subst (λ d. Both (goes a) d (If_settled s IsShallow)) is_b (subst (λ c. Both c (run s walk_tells) (If_settled s IsShallow)) is_a run_both) st

greatest : {r w : Status} → Within r w → w ≡ Yes → r ≡ Yes
greatest no_no e = e
greatest no_maybe e = absurd (cc)
greatest yes_maybe e = refl
greatest yes_yes e = refl

pub is_within : (a b : History) → Contained IsShallow a b → LiesWithin a b
is_within a b c = record {
  visits = c.placed.3;
  acted = c.placed.0;
  order = c.placed.1;
  sure = λ i key has e. c.placed.2 i key has (greatest (c.marks i.path i.text) e);
}

pub unfailing_contained : KeysTellWorks → RaisesLieTogether → InstancesAreSame → InstancesAreKeyed → UnfailingRunsAreContained
unfailing_contained tells together same' keyed s repairs a b known is_a is_b settled =
    is_within a b (run_contained s tells keyed together same' known repairs a b is_a is_b settled)
