-- What a machine comes to where the next bundle that is ahead begins.
use denote.Ref.{Bor}
use Rattle.std.proofs.Common.{◌≡◌, ◌∙◌, ℕ, zero, suc, ◌+◌, ◌<◌, ◌≤◌, List, [], ◌∷◌, drop, length, map, reverse, slice_get, Option, Some, None, refl, ap, sym, subst, arith}
use Rattle.std.specs.Prelude.{Ok}
use Rattle.std.specs.Slice.{IsGetResult}
use Rattle.std.proofs.lemmas.List.{length-map}
use Rattle.std.proofs.lemmas.Option.{get_or_from_slice_get, slice_get_within}
use Rattle.cfa_schema.specs.Seen.{tree_of}
use Rattle.cfa_served.specs.Control.{sequence_of}
use Rattle.cfa_tree.specs.Tree.{BlockTree, PolicyTree}
use Rattle.cfa_tree.specs.declared.blocks.Bundle.{Bundle}
use Rattle.cfa_frames.specs.Frames.{Ahead, Frame, common}
use Rattle.cfa_frames.specs.Moves.{ahead, ahead_next, goes_on, moved, stack}
use Rattle.cfa_frames.specs.Standing.{NextIsNested}
use Rattle.cfa_states.specs.declared.states.State.{State}
use Rattle.cfa_states.specs.History.{History}
use Rattle.cfa_states.specs.Kept.{KeepsLocally}
use Rattle.cfa_states.specs.Views.{Setting}
use Rattle.cfa_machine.specs.declared.frames.Doing.{Doing as Code}
use Rattle.cfa_machine.specs.declared.frames.Frame.{Frame as Held}
use Rattle.cfa_machine.specs.declared.machines.Machine.{Machine}
use Rattle.cfa_machine.specs.declared.tops.Top.{Top}
use Rattle.cfa_machine.specs.declared.tops.Top.TheVariants as tops
use Rattle.cfa_machine.specs.Beginning.{CommonBegins, KeepsAlone, NamedBegins, TopHoldsAlone, seen_alone}
use Rattle.cfa_visits.specs.Bundles.{IsShared, seen_bundle}
use Rattle.cfa_machine.specs.Commons.{seen_common}
use Rattle.cfa_machine.specs.Machines.{row_in, seen_frame}
use Rattle.cfa_machine.specs.Stacks.{AreAll, CalledAs, Came, Holds, NotCommon, TopHolds, TopKeeps, seen_ahead, seen_bundles, seen_frames, seen_stack}
use Rattle.cfa_machine.specs.Stacks.{Stands as MachineStands}
use Rattle.cfa_machine.specs.Standing.{FrameHolds}
use Rattle.cfa_visits.specs.lemmas.Served.{commons_shared, sequence_shared}
use Rattle.cfa_machine.proofs.AheadLemmas.{none_ahead}
use Rattle.cfa_machine.proofs.GoneLemmas.{GoneTo, gone_came}
use Rattle.cfa_machine.proofs.StepLemmas.{drop_at}

pub got_past : {X : Type 0} (xs : List X) (i : ℕ) (r : Option (Bor X)) → IsGetResult xs i i r → r ≡ None → length xs ≤ i
got_past xs i None got none = got.3
got_past xs i (Some x) got none = cc

found_block : (bundles : List (Bor Bundle)) (k : ℕ) (b : Bor Bundle) → slice_get bundles k ≡ Some b → slice_get (seen_bundles bundles) k ≡ Some (seen_bundle b.now)
found_block [] k b found = cc
found_block (x ∷ xs) zero b found = let same : x ≡ b = cc in ap (λ (y : Bor Bundle). Some (seen_bundle y.now)) same
found_block (x ∷ xs) (suc k) b found = found_block xs k b found

module _ (m : Machine) (holds : Holds m) (none : m.top ≡ tops.Nothing) where
  abbrev policy : PolicyTree
  policy = tree_of m.checked.now

  abbrev blocks : List BlockTree
  blocks = seen_bundles m.commons.items

  nothing_below : reverse m.below.items ≡ []
  nothing_below = subst (λ (top : Top). TopHolds policy m.state top (reverse m.below.items)) none holds.top

  moved_is : (s : Setting) (h : History) → moved s (seen_stack m) h ≡ ahead_next s (drop m.round blocks) m.rounds (drop m.at m.names) h
  moved_is s h = ap (λ (top : Top). moved s (stack (seen_frames m.depth top (reverse m.below.items)) (seen_ahead m)) h) none

  -- ---- a common bundle

  module _ (b : Bor Bundle) (found : slice_get m.commons.items m.round ≡ Some b) where
    not_yet : (n : ℕ) → m.at ≡ n → m.at ≡ 0
    not_yet zero is = is
    not_yet (suc n) is =
        let inside : m.round < length m.commons.items = slice_get_within m.commons.items m.round b found in
        let some : 0 < m.at = omega (arith, is) in
        let past : length m.commons.items ≤ m.round = (holds.begun some).round in
        absurd (omega (arith, inside, past))

    pub none_begun : m.at ≡ 0
    none_begun = not_yet m.at refl

    pub common_shared : (s : Setting) → s.policy ≡ policy → IsShared s.policy b.now.name.name
    common_shared s same =
        let at_place : IsShared policy b.now.name.name =
        subst (λ (x : Bor Bundle). IsShared policy x.now.name.name) (get_or_from_slice_get m.commons.items m.round b b found)
        (commons_shared policy m.commons.items holds.commons m.round b (slice_get_within m.commons.items m.round b found)) in
        subst (λ (p : PolicyTree). IsShared p b.now.name.name) (sym same) at_place

    blocks_are : drop m.round blocks ≡ seen_bundle b.now ∷ drop (suc m.round) blocks
    blocks_are = drop_at blocks m.round (seen_bundle b.now) (found_block m.commons.items m.round b found)

    module _ (top' : Top) where
      module _ (s : Setting) (h : History) (stands : MachineStands s m h) where
        depth_is : m.depth ≡ length s.policy
        depth_is = holds.depth ∙ ap length (sym stands.policy)

        common_gone : (top : Top) → CommonBegins s (seen_bundle b.now) top h →
            GoneTo s (record m { top = top; round = m.round + 1 }) (goes_on (stack (common s (seen_bundle b.now) ∷ []) (ahead (drop (suc m.round) blocks) m.rounds (drop m.at m.names))) h)
        common_gone tops.Nothing begins = absurd begins
        common_gone (tops.Agent f) begins = absurd begins
        common_gone (tops.Common c) begins =
            let one : m.round + 1 ≡ suc m.round = omega arith in (
              ap (λ (n : ℕ). stack (seen_common n c ∷ []) (ahead (drop (m.round + 1) blocks) m.rounds (drop m.at m.names))) depth_is
                  ∙ (ap (λ (f : Frame). stack (f ∷ []) (ahead (drop (m.round + 1) blocks) m.rounds (drop m.at m.names))) begins.0
                  ∙ ap (λ (n : ℕ). stack (common s (seen_bundle b.now) ∷ []) (ahead (drop n blocks) m.rounds (drop m.at m.names))) one),
              (stands.state, (begins.1, stands.clear)),
            )

        pub common_came : CommonBegins s (seen_bundle b.now) top' h → NextIsNested (moved s (seen_stack m) h) →
            Came s (record m { top = top'; round = m.round + 1 }) (Ok tt) (moved s (seen_stack m) h)
        common_came begins nested =
            let after : Machine = record m { top = top'; round = m.round + 1 } in
            gone_came s after (moved s (seen_stack m) h) stands.policy nested
            (subst (GoneTo s after) (sym (moved_is s h ∙ ap (λ (bs : List BlockTree). ahead_next s bs m.rounds (drop m.at m.names) h) blocks_are)) (common_gone top' begins))

  -- ---- a bundle of the sequence

  module _ (past : length m.commons.items ≤ m.round) (last : m.rounds ≡ 0) where
    no_blocks : drop m.round blocks ≡ []
    no_blocks =
        let long : length blocks ≡ length m.commons.items = length-map m.commons.items (λ (x : Bor Bundle). seen_bundle x.now) in
        none_ahead blocks m.round (omega (arith, long, past))

    module _ (name : List ℕ) (found : slice_get m.names m.at ≡ Some name) where
      pub name_shared : (s : Setting) → s.policy ≡ policy → IsShared s.policy name
      name_shared s same =
          let listed : slice_get (sequence_of policy) m.at ≡ Some name = subst (λ (names : List (List ℕ)). slice_get names m.at ≡ Some name) holds.names found in
          let at_place : IsShared policy name =
          subst (IsShared policy) (get_or_from_slice_get (sequence_of policy) m.at name name listed)
          (sequence_shared policy m.at name (slice_get_within (sequence_of policy) m.at name listed)) in
          subst (λ (p : PolicyTree). IsShared p name) (sym same) at_place

      module _ (top' : Top) (st' : State) (now : TopHoldsAlone policy st' top') where
        not_common : (top : Top) → TopHoldsAlone policy st' top → NotCommon top
        not_common tops.Nothing hold = tt
        not_common (tops.Common c) hold = hold
        not_common (tops.Agent f) hold = tt

        holds_as : (top : Top) → TopHoldsAlone policy st' top → TopHolds policy st' top (reverse m.below.items)
        holds_as tops.Nothing hold = nothing_below
        holds_as (tops.Common c) hold = absurd hold
        holds_as (tops.Agent f) hold = (hold, subst (AreAll (FrameHolds policy st')) (sym nothing_below) tt)

        late : m.at + 1 ≡ 0 → ⊥
        late is = omega (arith, is)

        pub named_holds : Holds (record m { top = top'; state = st'; at = m.at + 1 })
        named_holds = record {
          top = holds_as top' now;
          depth = holds.depth;
          commons = holds.commons;
          names = holds.names;
          begun = λ _. record { rounds = last; round = past; top = not_common top' now };
          unbegun = λ is. absurd (late is);
        }

        module _ (s : Setting) (h : History) (stands : MachineStands s m h) (begins : NamedBegins s name top' st' h) where
          abbrev behind : Ahead
          behind = ahead [] 0 (drop (suc m.at) m.names)

          named_is : moved s (seen_stack m) h ≡ goes_on (stack (seen_alone (length s.policy) top') behind) begins.after
          named_is =
              moved_is s h
              ∙ (ap (λ (bs : List BlockTree). ahead_next s bs m.rounds (drop m.at m.names) h) no_blocks
              ∙ (ap (λ (n : ℕ). ahead_next s [] n (drop m.at m.names) h) last
              ∙ (ap (λ (names : List (List ℕ)). ahead_next s [] 0 names h) (drop_at m.names m.at name found)
              ∙ begins.next behind)))

          frames_alone : (top : Top) → TopHoldsAlone policy st' top → seen_frames m.depth top (reverse m.below.items) ≡ seen_alone (length s.policy) top
          frames_alone tops.Nothing hold = refl
          frames_alone (tops.Common c) hold = absurd hold
          frames_alone (tops.Agent f) hold = ap (λ (fs : List Held). seen_frame f ∷ map seen_frame fs) nothing_below

          keeps_as : (top : Top) → TopHoldsAlone policy st' top → KeepsAlone s top begins.after → TopKeeps s top (reverse m.below.items) begins.after
          keeps_as tops.Nothing hold keep = tt
          keeps_as (tops.Common c) hold keep = absurd hold
          keeps_as (tops.Agent f) hold keep = (
            keep.0,
            (
              subst (λ (d : Code). CalledAs d (row_in f.rows.items f.hand) begins.after) (sym keep.1) tt,
              subst (AreAll (λ (g : Held). KeepsLocally s g.activation begins.after)) (sym nothing_below) tt,
            ),
          )

          named_gone : GoneTo s (record m { top = top'; state = st'; at = m.at + 1 }) (goes_on (stack (seen_alone (length s.policy) top') behind) begins.after)
          named_gone =
              let one : m.at + 1 ≡ suc m.at = omega arith in (
                ap (λ (fs : List Frame). stack fs (ahead (drop m.round blocks) m.rounds (drop (m.at + 1) m.names))) (frames_alone top' now)
                    ∙ (ap (λ (bs : List BlockTree). stack (seen_alone (length s.policy) top') (ahead bs m.rounds (drop (m.at + 1) m.names))) no_blocks
                    ∙ (ap (λ (n : ℕ). stack (seen_alone (length s.policy) top') (ahead [] n (drop (m.at + 1) m.names))) last
                    ∙ ap (λ (n : ℕ). stack (seen_alone (length s.policy) top') (ahead [] 0 (drop n m.names))) one)),
                (begins.keeps, (keeps_as top' now begins.local, λ is. absurd (late is))),
              )

          pub named_came : NextIsNested (moved s (seen_stack m) h) → Came s (record m { top = top'; state = st'; at = m.at + 1 }) (Ok tt) (moved s (seen_stack m) h)
          named_came nested =
              let after : Machine = record m { top = top'; state = st'; at = m.at + 1 } in
              gone_came s after (moved s (seen_stack m) h) stands.policy nested (subst (GoneTo s after) (sym named_is) named_gone)
