-- Answers to the visit in hand of an activation.
use denote.Ref.{Bor}
use Rattle.std.proofs.Common.{◌≡◌, ◌∙◌, ℕ, zero, suc, ◌-◌, false, List, [], ◌∷◌, length, map, drop, All, Option, Some, None, OnOk, refl, ap, sym, subst, arith, slice_get}
use Rattle.std.specs.Prelude.{IfOk, Result, Ok, Err}
use Rattle.std.specs.Option.{option_copied}
use Rattle.std.specs.Slice.{IsGetResult}
use Rattle.std.proofs.lemmas.List.{length-map}
use Rattle.std.proofs.lemmas.Option.{get_or_from_slice_get, slice_get-get_or, slice_get_past, slice_get_within}
use Rattle.cfa_acts.specs.declared.acts.Act.{Act}
use Rattle.cfa_base.specs.Index.{is_listed}
use Rattle.cfa_outcomes.specs.declared.outcomes.Outcome.{Outcome}
use Rattle.cfa_resolve.specs.declared.instances.Instance.{Instance}
use Rattle.cfa_resolve.specs.declared.instances.Work.TheVariants.{Acts, Call, Report}
use Rattle.cfa_served.specs.Served.{bundle_of}
use Rattle.cfa_statuses.specs.declared.levels.Status.{Status}
use Rattle.cfa_tree.specs.Tree.{BlockTree}
use Rattle.cfa_vars.specs.declared.scoping.Datum.{Datum}
use Rattle.cfa_frames.specs.Frames.{Ahead, Frame, fresh}
use Rattle.cfa_frames.specs.Moves.{activated, begun_by, called, goes_on, stack}
use Rattle.cfa_states.specs.declared.activations.Activation.{Activation}
use Rattle.cfa_states.specs.declared.endings.Ending.{Ending}
use Rattle.cfa_states.specs.declared.states.State.{State}
use Rattle.cfa_states.specs.History.{History, Begun, Listed, Told}
use Rattle.cfa_states.specs.Kept.{Keeps, KeepsLocally, IsOf, Stands, seen_numbered}
use Rattle.cfa_states.specs.Numbered.{Numbered, name_of, numbered_in, params_of}
use Rattle.cfa_states.specs.Passes.{bind}
use Rattle.cfa_states.specs.Tellers.{inner_path, outcomes_in}
use Rattle.cfa_states.specs.Views.{Setting, shared_names}
use Rattle.cfa_states.specs.Waits.{waits_in}
use Rattle.cfa_states.specs.lemmas.Courses.{passed_bind}
use Rattle.cfa_states.specs.lemmas.Keeping.{keeps_begun}
use Rattle.cfa_states.specs.lemmas.Locals.{local_listed}
use Rattle.cfa_states.specs.lemmas.Spared.{spare_none, spare_then, spare_begun}
use Rattle.cfa_machine.specs.declared.frames.Doing.{Doing as Code}
use Rattle.cfa_machine.specs.declared.frames.Doing.TheVariants.{Asked, Running}
use Rattle.cfa_visits.specs.declared.remembered.Remembered.{Remembered}
use Rattle.cfa_machine.specs.Answering.{Begins, ended_at, ended_by, skipped_at, skipped_by}
use Rattle.cfa_visits.specs.Calling.{BeginsCall}
use Rattle.cfa_visits.specs.Counting.{IsAt}
use Rattle.cfa_visits.specs.Endings.{raise_ending}
use Rattle.cfa_machine.specs.Machines.{fresh_held, seen_frame}
use Rattle.cfa_visits.specs.lemmas.Calls.{begun_kept}
use Rattle.cfa_visits.specs.lemmas.Told.{keeps_told, local_raised_lists, local_skipped, told_is}
use Rattle.cfa_machine.proofs.StepLemmas.{drop_past}

-- ---- what is taken of a list

pub got_is : {X : Type 0} (xs : List X) (i : ℕ) (r : Option (Bor X)) → IsGetResult xs i i r → slice_get xs i ≡ option_copied r
got_is xs i None h = slice_get_past xs i h.3
got_is xs i (Some x) h = slice_get-get_or xs i x.now h.3.0 ∙ sym (ap Some (h.3.1 x.now))

pub path_at : (row : List Instance) (path : List ℕ) (at : ℕ) (i : Instance) → All (IsAt path) row → slice_get row at ≡ Some i → i.path ≡ path
path_at row path at i all found =
    let there : IsAt path i = subst (IsAt path) (get_or_from_slice_get row at i i found) (all at i (slice_get_within row at i found)) in there.0

-- ---- what follows where a call ended well

pub ok_then : {X E : Type 0} {P Q : Type 0} (result : Result X E) → OnOk result P → (P → Q) → OnOk result Q
ok_then (Ok answer) holds then = then holds
ok_then (Err error) holds then = tt

pub ok_then_both : {X E : Type 0} {P Q R : Type 0} (result : Result X E) → OnOk result P → OnOk result Q → (P → Q → R) → OnOk result R
ok_then_both (Ok answer) first second then = then first second
ok_then_both (Err error) first second then = tt

pub ok_then_all : {X E : Type 0} {P Q R T : Type 0} (result : Result X E) → OnOk result P → OnOk result Q → OnOk result R → (P → Q → R → T) → OnOk result T
ok_then_all (Ok answer) first second third then = then first second third
ok_then_all (Err error) first second third then = tt

pub ok_each : {X E : Type 0} {P Q : X → Type 0} (result : Result X E) → IfOk result P → ((x : X) → P x → Q x) → IfOk result Q
ok_each (Ok answer) holds then = then answer holds
ok_each (Err error) holds then = tt

pub is_next : (n : ℕ) → (n ≡ 0 → ⊥) → n ≡ suc (n - 1)
is_next zero some = absurd (some refl)
is_next (suc n) some = omega arith

-- ---- a frame that begins

pub fresh_seen : (depth : ℕ) (a : Activation) (made : Remembered) (path name : List ℕ) (status : Status) (block : BlockTree) → IsOf path name status a → name_of block ≡ name →
    map seen_numbered made.promises.items ≡ numbered_in block → seen_frame (fresh_held depth a made) ≡ fresh depth path status block
fresh_seen depth a made path name status block of named numbered =
    let none : drop (length made.promises.items) (map seen_numbered made.promises.items) ≡ [] =
    (let long = length-map made.promises.items seen_numbered in drop_past (map seen_numbered made.promises.items) (length made.promises.items) (omega (arith, long))) in
    let G : (path bundle : List ℕ) → Status → (all left : List Numbered) → Frame =
    λ path bundle status all left. record (fresh depth path status block) { home = record { path = path; bundle = bundle }; all = all; promises = left } in
    ap (λ (x : List ℕ). G x a.bundle a.status (map seen_numbered made.promises.items) (drop (length made.promises.items) (map seen_numbered made.promises.items))) of.path
    ∙ (ap (λ (x : List ℕ). G path x a.status (map seen_numbered made.promises.items) (drop (length made.promises.items) (map seen_numbered made.promises.items))) (of.bundle ∙ sym named)
    ∙ (ap (λ (x : Status). G path (name_of block) x (map seen_numbered made.promises.items) (drop (length made.promises.items) (map seen_numbered made.promises.items))) of.status
    ∙ (ap (λ (x : List Numbered). G path (name_of block) status (map seen_numbered made.promises.items) x) none
    ∙ ap (λ (x : List Numbered). G path (name_of block) status x []) numbered)))

-- ---- a visit that is listed

module _ (s : Setting) (h : History) (st st' : State) (a : Activation) (row : List Instance) (at : ℕ) (status : Status) (instance : Instance)
    (found : slice_get row at ≡ Some instance) (path : instance.path ≡ a.path)
    (lists : (s : Setting) (h : History) → a.waits ≡ waits_in s h instance.path → Keeps s st h → Keeps s st' (Listed instance status ∷ h)) (stands : Stands s st a h) where
  listed_keeps : Keeps s st' (Listed instance status ∷ h)
  listed_keeps = lists s h (stands.1.1.1.0.1 ∙ ap (waits_in s h) (sym path)) stands.0

  pub listed_stands : Stands s st' a (Listed instance status ∷ h)
  listed_stands = (listed_keeps, local_listed s a h instance status stands.1)

  pub skip_stands : (doing : Code) → doing ≡ Asked at status → Stands s st' a (skipped_by row doing h)
  skip_stands doing is =
      let k : History = Listed instance status ∷ h in
      subst (λ (d : Code). Stands s st' a (skipped_by row d h)) (sym is)
      (subst (λ (o : Option Instance). Stands s st' a (skipped_at status o h)) (sym found)
      (keeps_told s st' k instance [] listed_keeps, local_skipped s a k instance (local_listed s a h instance status stands.1)))

-- no visit was in hand
pub skip_nothing : (s : Setting) (h : History) (st : State) (a : Activation) (row : List Instance) (at : ℕ) (status : Status) (doing : Code) → doing ≡ Asked at status → slice_get row at ≡ None →
    Stands s st a h → Stands s st a (skipped_by row doing h)
skip_nothing s h st a row at status doing is none stands =
    subst (λ (d : Code). Stands s st a (skipped_by row d h)) (sym is) (subst (λ (o : Option Instance). Stands s st a (skipped_at status o h)) (sym none) stands)

-- ---- what is called

module _ (s : Setting) (depth : ℕ) (instance : Instance) (status : Status) (st : State) (h : History) (keeps : Keeps s st h) where
  pub acts_begin : (acts : List Act) → Begins s depth instance status (Acts acts) None st h
  acts_begin acts = record { after = h; next = λ frames a. refl; keeps = keeps; spare = spare_none (length (inner_path instance)) h; local = tt; called = λ none. tt }

  pub report_begins : (content : List ℕ) → Begins s depth instance status (Report content) None st h
  report_begins content = record { after = h; next = λ frames a. refl; keeps = keeps; spare = spare_none (length (inner_path instance)) h; local = tt; called = λ none. tt }

  module _ (name : List ℕ) (given : List Datum) (apart : is_listed (shared_names s.policy) (inner_path instance) ≡ false) where
    abbrev path : List ℕ
    path = inner_path instance

    pub deepest_begins : depth ≡ 0 → Begins s depth instance status (Call name given) None st h
    deepest_begins none = record {
      after = Begun path [] ∷ h;
      next = λ frames a. ap (λ (n : ℕ). called s n instance status name given frames a h) none;
      keeps = keeps_begun s st h path [] apart keeps;
      spare = spare_begun (length path) h path [] (omega arith);
      local = tt;
      called = λ _. sym (begun_kept path [] h);
    }

    module _ (n : ℕ) (deep : depth ≡ suc n) (found : Option BlockTree) (is : bundle_of s.policy name ≡ found) where
      called_is : (frames : List Frame) (a : Ahead) → begun_by s depth instance status (Call name given) frames a h ≡ activated n path status given found frames a h
      called_is frames a =
          ap (λ (m : ℕ). called s m instance status name given frames a h) deep ∙ ap (λ (o : Option BlockTree). activated n path status given o frames a h) is

      pub missing_begins : found ≡ None → Begins s depth instance status (Call name given) None st h
      missing_begins none = record {
        after = Begun path given ∷ h;
        next = λ frames a. called_is frames a ∙ ap (λ (o : Option BlockTree). activated n path status given o frames a h) none;
        keeps = keeps_begun s st h path given apart keeps;
        spare = spare_begun (length path) h path given (omega arith);
        local = tt;
        called = λ _. sym (begun_kept path given h);
      }

      pub bundle_begins : (block : BlockTree) (a' : Activation) (made : Remembered) (st' : State) → found ≡ Some block → name_of block ≡ name →
          IsOf path name status a' → map seen_numbered made.promises.items ≡ numbered_in block → BeginsCall path (params_of block) given st st' a' →
          Begins s depth instance status (Call name given) (Some (fresh_held n a' made)) st' h
      bundle_begins block a' made st' some named of numbered begins =
          let k : History = Begun path given ∷ h in
          let m : History = bind path (params_of block) given k in
          let stands : Stands s st' a' m = begins s h keeps apart in
          record {
            after = m;
            next = λ frames a.
                called_is frames a
                ∙ (ap (λ (o : Option BlockTree). activated n path status given o frames a h) some
                ∙ ap (λ (f : Frame). goes_on (stack (f ∷ frames) a) m) (sym (fresh_seen n a' made path name status block of named numbered)));
            keeps = stands.0;
            spare = spare_then (length path) h k m (spare_begun (length path) h path given (omega arith)) (passed_bind false path (params_of block) given k).1.0;
            local = (stands.1, refl);
            called = λ none. cc;
          }

-- ---- an instance that ended

pub end_stands : (s : Setting) (h : History) (st st' : State) (a a' : Activation) (row : List Instance) (at : ℕ) (status : Status) (worst : Outcome) (instance : Instance) (ending : Ending) (doing : Code) →
    doing ≡ Running at status worst → slice_get row at ≡ Some instance → instance.path ≡ a.path →
    ((s : Setting) (h : History) (i : Instance) → i.path ≡ a.path → KeepsLocally s a h → KeepsLocally s a' (Told i (outcomes_in ending) ∷ h)) →
    ((s : Setting) (h : History) → Keeps s st h → Keeps s st' (raise_ending instance ending status h)) → Stands s st a h → Stands s st' a' (ended_by ending row doing h)
end_stands s h st st' a a' row at status worst instance ending doing is found path notes raises stands =
    let k : History = Told instance (outcomes_in ending) ∷ h in
    subst (λ (d : Code). Stands s st' a' (ended_by ending row d h)) (sym is)
    (subst (λ (o : Option Instance). Stands s st' a' (ended_at ending status o h)) (sym found)
    (subst (λ (m : History). Stands s st' a' m) (sym (told_is instance ending status h)) (
      raises s k (keeps_told s st h instance (outcomes_in ending) stands.0),
      local_raised_lists instance (outcomes_in ending) status s a' (outcomes_in ending) k (notes s h instance path stands.1),
    )))

pub end_nothing : (s : Setting) (h : History) (st : State) (a : Activation) (row : List Instance) (at : ℕ) (status : Status) (worst : Outcome) (ending : Ending) (doing : Code) →
    doing ≡ Running at status worst → slice_get row at ≡ None → Stands s st a h → Stands s st a (ended_by ending row doing h)
end_nothing s h st a row at status worst ending doing is none stands =
    subst (λ (d : Code). Stands s st a (ended_by ending row d h)) (sym is) (subst (λ (o : Option Instance). Stands s st a (ended_at ending status o h)) (sym none) stands)
