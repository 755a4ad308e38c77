-- Where no live instance is in conflict, the posts of each that every agent has actuated hold.
use Rattle.std.proofs.Common.{◌≡◌, ℕ, Bool, true, false, [], ◌∷◌, None, refl, sym, subst, inl, inr, eq-eqb}
use Rattle.std.specs.Prelude.{◌==◌}
use Rattle.std.specs.List.{AllByRecursion as Each}
use Rattle.cfa_outside.specs.declared.worlds.World.{World}
use Rattle.cfa_outside.specs.Worlds.{HasParents}
use Rattle.cfa_resolve.specs.declared.instances.Instance.{Instance}
use Rattle.cfa_states.specs.History.{History}
use Rattle.cfa_states.specs.Tellers.{actuated, acts_of}
use Rattle.cfa_laws.specs.Keys.{IsKeyed}
use Rattle.cfa_convergence.specs.Keys.{KeysTellWorks}
use Rattle.cfa_convergence.specs.Conflicts.{IsLive, is_same, IsAfter, AreFree}
use Rattle.cfa_convergence.specs.Lasting.{PostsHold, Trace, by_agent, Becomes, unchanged, actuates, IsAmong, Follow, PostsLast}
use Rattle.cfa_convergence.proofs.NameLemmas.{one_acts, given_acts}
use Rattle.cfa_convergence.proofs.ActuationLemmas.{ActLaws, posts_same, left_by, parents_left, posts_stay, posts_made}

module _ (laws : ActLaws) (tell : KeysTellWorks) (kept walk : History) (free : AreFree kept walk) (is_agent : ℕ → Bool) (one : ℕ) (is_one : is_agent one ≡ true) where
  -- an agent's list without what another instance did last
  earlier_among : (k : ℕ) (step : ℕ × Instance) (trace : Trace) (i : Instance) → is_same i step.1 ≡ false → IsAmong i (by_agent k (step ∷ trace)) → IsAmong i (by_agent k trace)
  earlier_among k step trace i other = go (step.0 == k)
    where
      go : (b : Bool) → IsAmong i (elim b [ true ↦ step.1 ∷ by_agent k trace | false ↦ by_agent k trace ]) → IsAmong i (by_agent k trace)
      go true (inl e) = absurd (cc)
      go true (inr among) = among
      go false among = among

  earlier_follow : (k : ℕ) (step : ℕ × Instance) (trace : Trace) → Follow (IsAfter walk) (by_agent k (step ∷ trace)) → Follow (IsAfter walk) (by_agent k trace)
  earlier_follow k step trace = go (step.0 == k)
    where
      go : (b : Bool) → Follow (IsAfter walk) (elim b [ true ↦ step.1 ∷ by_agent k trace | false ↦ by_agent k trace ]) → Follow (IsAfter walk) (by_agent k trace)
      go true f = f.1
      go false f = f

  own_follow : (step : ℕ × Instance) (trace : Trace) → Follow (IsAfter walk) (by_agent step.0 (step ∷ trace)) → Follow (IsAfter walk) (step.1 ∷ by_agent step.0 trace)
  own_follow step trace f =
      subst (λ b. Follow (IsAfter walk) (elim b [ true ↦ step.1 ∷ by_agent step.0 trace | false ↦ by_agent step.0 trace ])) (eq-eqb step.0 step.0 refl) f

  module _ (first : World) (valid : HasParents first.nodes) where
    parents_then : (trace : Trace) (world : World) → Becomes first trace world → HasParents world.nodes
    parents_then [] world unchanged = valid
    parents_then (step ∷ trace) world (actuates {world = before} so_far fine same) =
        subst HasParents (sym same.nodes) (parents_left laws (acts_of step.1.work) before (parents_then trace before so_far))

    -- the posts of what each agent has actuated
    posts_then : (trace : Trace) (world : World) → Becomes first trace world → Each (λ (step : ℕ × Instance). (is_agent step.0 ≡ true) × IsKeyed step.1) trace →
        ((agent : ℕ) → is_agent agent ≡ true → Follow (IsAfter walk) (by_agent agent trace)) →
        (i : Instance) → IsKeyed i → IsLive kept i → ((agent : ℕ) → is_agent agent ≡ true → IsAmong i (by_agent agent trace)) → PostsHold world (acts_of i.work)
    posts_then [] world unchanged members follow i key live among = absurd (among one is_one)
    posts_then (step ∷ trace) world (actuates {world = before} so_far fine same) members follow i key live among =
        posts_same (acts_of i.work) world (left_by (acts_of step.1.work) before) same
        (go (posts_then trace before so_far members.1 (λ k m. earlier_follow k step trace (follow k m)) i key live) (is_same i step.1) refl)
      where
        go : (((agent : ℕ) → is_agent agent ≡ true → IsAmong i (by_agent agent trace)) → PostsHold before (acts_of i.work)) → (b : Bool) → is_same i step.1 ≡ b →
            PostsHold (left_by (acts_of step.1.work) before) (acts_of i.work)
        go stood true e =
            let acts : acts_of step.1.work ≡ acts_of i.work = one_acts tell i step.1 key members.0.1 e in
            subst (λ bs. PostsHold (left_by bs before) (acts_of i.work)) (sym acts)
            (posts_made laws (acts_of i.work) (given_acts i.work key.acts) (free.restarts i key live) (free.itself i key live) before (parents_then trace before so_far)
            (subst (λ bs. (actuated bs before).failure ≡ None) acts fine))
        go stood false e =
            let there : (agent : ℕ) → is_agent agent ≡ true → IsAmong i (by_agent agent trace) = λ k m. earlier_among k step trace i e (among k m) in
            posts_stay laws (acts_of i.work) (acts_of step.1.work) (given_acts i.work key.acts) (given_acts step.1.work members.0.1.acts)
            (free.spared i step.1 key members.0.1 live e ((own_follow step trace (follow step.0 members.0.0)).0 i (there step.0 members.0.0)))
            before (parents_then trace before so_far) (stood there)

pub posts_last : ActLaws → KeysTellWorks → PostsLast
posts_last laws tell kept walk is_agent one first world trace free is_one valid becomes members follow =
    posts_then laws tell kept walk free is_agent one is_one first valid trace world becomes members follow
