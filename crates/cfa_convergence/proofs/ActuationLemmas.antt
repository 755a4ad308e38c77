-- What actuations do to the posts of acts.
use Rattle.std.proofs.Common.{◌≡◌, false, List, [], ◌∷◌, None, refl, sym, ap, subst, ◌∙◌}
use Rattle.std.specs.Prelude.{IsTrue, not}
use Rattle.std.specs.List.{AllByRecursion as Each}
use Rattle.std.specs.FinMap as map
use Rattle.cfa_outside.specs.declared.worlds.World.{World}
use Rattle.cfa_outside.specs.Worlds.{is_file, is_directory, perms_in, HasParents}
use Rattle.cfa_outside.specs.Sites.{after_change, ChangesKeepParents}
use Rattle.cfa_acts.specs.declared.acts.Act.{Act}
use Rattle.cfa_acts.specs.declared.acts.Act.TheVariants as act
use Rattle.cfa_acts.specs.declared.acts.Decision.{Decision}
use Rattle.cfa_acts.specs.declared.acts.Decision.TheVariants.{Kept, Needs, Fail, Fault}
use Rattle.cfa_acts.specs.Acts.{post, decision, has_bytes, is_copied, has_perms, has_row}
use Rattle.cfa_acts.specs.Settling.{is_settled}
use Rattle.cfa_acts.specs.Laws.{is_restart, HasScript, KeptWherePostHolds, NeededFits, NeededMakesPost, NeededKeepsPost}
use Rattle.cfa_states.specs.Tellers.{Actuated, no_more, actuated_by, actuated, after_all}
use Rattle.cfa_laws.specs.Keys.{IsGiven}
use Rattle.cfa_convergence.specs.Conflicts.{AreQuiet, AreSpared, SpareThemselves}
use Rattle.cfa_agent.specs.Hosts.{SameHost}
use Rattle.cfa_convergence.specs.Lasting.{PostsHold}

-- ---- hosts

pub post_same : (a : Act) (w v : World) → SameHost w v → post a w ≡ post a v
unfolding post
post_same (act.Create path) w v same = ap (λ n. is_file (map.get n path)) same.nodes
post_same (act.MakeDir path) w v same = ap (λ n. is_directory (map.get n path)) same.nodes
post_same (act.Delete path with_directories) w v same = ap (λ n. not (map.contains_key n path)) same.nodes
post_same (act.Content path bytes) w v same = ap (λ n. has_bytes bytes (map.get n path)) same.nodes
post_same (act.Copy source path) w v same = ap (λ n. is_copied (map.get n source) (map.get n path)) same.nodes
post_same (act.Edit path script) w v same = ap (λ n. is_settled script (map.get n path)) same.nodes
post_same (act.Perms path mode owners groups) w v same = ap (λ n. has_perms mode owners groups (perms_in (map.get n path))) same.nodes
post_same (act.Start name) w v same = ap (λ n. has_row (λ row. row.running) (map.get n name)) same.services
post_same (act.Stop name) w v same = ap (λ n. has_row (λ row. not row.running) (map.get n name)) same.services
post_same (act.Enable name) w v same = ap (λ n. has_row (λ row. row.enabled) (map.get n name)) same.services
post_same (act.Disable name) w v same = ap (λ n. has_row (λ row. not row.enabled) (map.get n name)) same.services
post_same (act.Restart name) w v same = refl
post_same (act.Bust reason) w v same = refl

pub posts_same : (acts : List Act) (w v : World) → SameHost w v → PostsHold v acts → PostsHold w acts
posts_same [] w v same p = tt
posts_same (a ∷ acts) w v same p = (subst IsTrue (sym (post_same a w v same)) p.0, posts_same acts w v same p.1)

pub has_script : (a : Act) → IsGiven a → HasScript a
has_script (act.Edit path script) given = given
has_script a given = tt

-- ---- acts

-- the laws of acts
pub record ActLaws : Type 0 where
  pub kept : KeptWherePostHolds
  pub fits : NeededFits
  pub makes : NeededMakesPost
  pub keeps : NeededKeepsPost
  pub parents : ChangesKeepParents

-- the world that acts leave
abbrev pub left_by : List Act → World → World
left_by acts w = after_all (actuated acts w).changes w

abbrev left_after : Actuated → World → World
left_after done w = after_all done.changes w

module _ (laws : ActLaws) where
  pub parents_left : (bs : List Act) (w : World) → HasParents w.nodes → HasParents (left_by bs w).nodes
  parents_left [] w ok = ok
  parents_left (b ∷ bs) w ok = go (parents_left bs) (decision b w) refl
    where
      go : ((x : World) → HasParents x.nodes → HasParents (left_by bs x).nodes) → (d : Decision) → decision b w ≡ d →
          HasParents (left_after (actuated_by d (actuated bs w) (λ c. actuated bs (after_change c w))) w).nodes
      go later Kept e = later w ok
      go later (Needs c) e = later (after_change c w) (laws.parents c w (laws.fits b w c e) ok)
      go later (Fail reason) e = ok
      go later (Fault call) e = ok

  -- a post that none of the acts disturbs stays
  post_stays : (a : Act) → HasScript a → (bs : List Act) → Each IsGiven bs → AreQuiet bs a → (w : World) → HasParents w.nodes → IsTrue (post a w) → IsTrue (post a (left_by bs w))
  post_stays a script [] given quiet w ok p = p
  post_stays a script (b ∷ bs) given quiet w ok p = go (post_stays a script bs given.1 quiet.1) (decision b w) refl
    where
      go : ((x : World) → HasParents x.nodes → IsTrue (post a x) → IsTrue (post a (left_by bs x))) → (d : Decision) → decision b w ≡ d →
          IsTrue (post a (left_after (actuated_by d (actuated bs w) (λ c. actuated bs (after_change c w))) w))
      go later Kept e = later w ok p
      go later (Needs c) e =
          later (after_change c w) (laws.parents c w (laws.fits b w c e) ok) (laws.keeps a b w c script (has_script b given.0) ok p e quiet.0)
      go later (Fail reason) e = p
      go later (Fault call) e = p

  pub posts_stay : (as' bs : List Act) → Each IsGiven as' → Each IsGiven bs → AreSpared as' bs → (w : World) → HasParents w.nodes → PostsHold w as' → PostsHold (left_by bs w) as'
  posts_stay [] bs given given' spared w ok p = tt
  posts_stay (a ∷ as') bs given given' spared w ok p =
      (post_stays a (has_script a given.0) bs given' spared.0 w ok p.0, posts_stay as' bs given.1 given' spared.1 w ok p.1)

  -- acts that don't fail make their posts
  pub posts_made : (as' : List Act) → Each IsGiven as' → Each (λ (a : Act). is_restart a ≡ false) as' → SpareThemselves as' → (w : World) → HasParents w.nodes →
      (actuated as' w).failure ≡ None → PostsHold (left_by as' w) as'
  posts_made [] given calm spared w ok fine = tt
  posts_made (a ∷ as') given calm spared w ok fine = go (posts_made as' given.1 calm.1 spared.1) (decision a w) refl fine
    where
      go : ((x : World) → HasParents x.nodes → (actuated as' x).failure ≡ None → PostsHold (left_by as' x) as') → (d : Decision) → decision a w ≡ d →
          (actuated_by d (actuated as' w) (λ c. actuated as' (after_change c w))).failure ≡ None →
          PostsHold (left_after (actuated_by d (actuated as' w) (λ c. actuated as' (after_change c w))) w) (a ∷ as')
      go later Kept e f = (post_stays a (has_script a given.0) as' given.1 spared.0 w ok ((laws.kept a w).0 e), later w ok f)
      go later (Needs c) e f =
          let x : World = after_change c w in
          let valid : HasParents x.nodes = laws.parents c w (laws.fits a w c e) ok in
          (post_stays a (has_script a given.0) as' given.1 spared.0 x valid (laws.makes a w c calm.0 e), later x valid f)
      go later (Fail reason) e f = absurd (cc)
      go later (Fault call) e f = absurd (cc)

-- acts whose posts hold need nothing
pub kept_acts : KeptWherePostHolds → (as' : List Act) (w : World) → PostsHold w as' → actuated as' w ≡ no_more
kept_acts keeps [] w p = refl
kept_acts keeps (a ∷ as') w p =
    ap (λ d. actuated_by d (actuated as' w) (λ c. actuated as' (after_change c w))) ((keeps a w).1 p.0) ∙ kept_acts keeps as' w p.1
