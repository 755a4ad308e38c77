-- The instances of a demo's promises, in whatever view: each acts on the file of its promise alone, and no act of one disturbs an
-- act of another or of itself.
use Rattle.std.proofs.Common.{◌≡◌, refl, sym, ◌∙◌, ap, subst, ℕ, zero, suc, ◌<◌, ◌≤◌, Bool, true, false, ◌&&◌, ◌||◌, List, [], length, drop, codes, Option, Some, None, arith}
use Rattle.std.specs.Prelude.{not}
use Rattle.std.specs.Fmt.{decimal}
use Rattle.std.specs.List.{AllByRecursion as Each}
use Rattle.std.specs.Str.{bytes_eq}
use Rattle.std.proofs.lemmas.Fmt.{length-decimal-le}
use Rattle.cfa_base.specs.declared.places.PromiseId.{PromiseId}
use Rattle.cfa_base.specs.lemmas.EqualTexts.{same_text, is_text}
use Rattle.cfa_base.specs.lemmas.Truths.{and_false}
use Rattle.cfa_acts.specs.declared.acts.Act.{Act}
use Rattle.cfa_acts.specs.declared.acts.Act.TheVariants.{Create, MakeDir, Delete, Content, Copy, Edit, Perms, Start, Stop, Enable, Disable, Restart, Bust}
use Rattle.cfa_acts.specs.Disturbs.{deletes, rewrites, modes_differ, lists_differ, gives_other_perms, disturbs}
use Rattle.cfa_statuses.specs.declared.levels.Status.{Status}
use Rattle.cfa_kinds.specs.declared.kinds.PromiseType.TheVariants as promises
use Rattle.cfa_kinds.specs.Kinds.{files_attribute, outcome_attribute, perms_attribute}
use Rattle.cfa_served.specs.Served.{body_of}
use Rattle.cfa_vars.specs.References.{reference_at, pieces, list_reference_of}
use Rattle.cfa_vars.specs.Scopes.{InScope, look, key_of}
use Rattle.cfa_vars.specs.Expansion.{Chosen, scalar, expanded}
use Rattle.cfa_functions.specs.Calls.{expanded_text}
use Rattle.cfa_bodies.specs.Bodies.{Bodies, whole_or_empty, datum_given, bodies_of}
use Rattle.cfa_resolve.specs.declared.instances.Work.{Work}
use Rattle.cfa_resolve.specs.declared.instances.Work.TheVariants.{Acts, Call, Report}
use Rattle.cfa_resolve.specs.FileActs.{file_acts}
use Rattle.cfa_resolve.specs.Instances.{Reached, done_text, work_by}
use Rattle.cfa_resolve.specs.Resolution.{walked_for, scripted_in, reached_at, resolution}
use Rattle.cfa_demo_laws.specs.Trees.{file_of, promise_by, demo_tree}
use Rattle.cfa_demo_laws.proofs.Plain.{decimal_is_plain, file_is_plain}
use Rattle.cfa_demo_laws.proofs.Acting.{IsActOf, plain_expanded, IsContent, Perms644, SayNoMore, file_acts_are}
use Rattle.cfa_demo_laws.proofs.Resolving.{instances_work}

abbrev pub DoesFor : ℕ → Work → Type 0
DoesFor k (Acts acts) = Each (IsActOf k) acts
DoesFor k (Call name arguments) = ⊥
DoesFor k (Report content) = ⊥

short : (k : ℕ) → k < 10000 → length (decimal k) ≤ 4
short k below = length-decimal-le 4 k (omega arith) below (omega arith)

module _ (n line k : ℕ) (below : k < 10000) (id : PromiseId) (scopes : InScope) (statuses : List ℕ → Status) (path : List ℕ) where
  abbrev reached_as : (kind : ℕ) → Reached
  reached_as kind = reached_at (demo_tree n) id scopes statuses path (promises.Files, promise_by line kind k)

  file_given : (choice : Chosen) → done_text (expanded scopes choice (file_of k)) ≡ file_of k
  file_given choice = let few = short k below in ap done_text (plain_expanded scopes choice (file_of k) (file_is_plain k below) (omega arith))

  number_given : (choice : Chosen) → whole_or_empty (expanded_text (expanded scopes choice (decimal k))) ≡ decimal k
  number_given choice =
      let few = short k below in
      ap (λ e. whole_or_empty (expanded_text e)) (plain_expanded scopes choice (decimal k) (decimal_is_plain k below) (omega arith))

  acts_as : (choice : Chosen) (create content : Option (List ℕ)) (bodies : Bodies) → IsContent k content → SayNoMore bodies → Perms644 k bodies →
      Each (IsActOf k) (file_acts (done_text (expanded scopes choice (file_of k))) create content bodies None)
  acts_as choice create content bodies is_content no_more perms =
      subst (λ (file : List ℕ). Each (IsActOf k) (file_acts file create content bodies None)) (sym (file_given choice))
      (file_acts_are k create content bodies is_content no_more perms below)

  abbrev DoesIn : (kind : ℕ) (choice : Chosen) → Type 0
  DoesIn kind choice =
      let r = reached_as kind in
      DoesFor k (work_by r choice (bodies_of r.policy r.scopes choice r.type r.promise) (scripted_in (walked_for r choice)) r.type)

  does_by : (kind : ℕ) (choice : Chosen) → kind < 4 → DoesIn kind choice
  unfolding bodies_of files_attribute outcome_attribute perms_attribute body_of demo_tree datum_given expanded scalar look key_of pieces reference_at list_reference_of
  does_by zero choice small =
      acts_as choice None (Some (whole_or_empty (expanded_text (expanded scopes choice (decimal k))))) [] (number_given choice)
      (record { no_delete = refl; no_copy = refl }) (λ p is. tt)
  does_by (suc zero) choice small =
      acts_as choice (Some (whole_or_empty (expanded_text (expanded scopes choice (codes "true"))))) None [] tt
      (record { no_delete = refl; no_copy = refl }) (λ p is. tt)
  does_by (suc (suc zero)) choice small =
      let r = reached_as 2 in
      acts_as choice (Some (whole_or_empty (expanded_text (expanded scopes choice (codes "true"))))) None
      (bodies_of r.policy r.scopes choice r.type r.promise) tt
      (record { no_delete = refl; no_copy = refl }) (λ p is. ((is, refl, refl, refl), tt))
  does_by (suc (suc (suc zero))) choice small =
      let r = reached_as 3 in
      acts_as choice None (Some (whole_or_empty (expanded_text (expanded scopes choice (decimal k)))))
      (bodies_of r.policy r.scopes choice r.type r.promise) (number_given choice)
      (record { no_delete = refl; no_copy = refl }) (λ p is. tt)
  does_by (suc (suc (suc (suc more)))) choice small = absurd (omega arith)

  pub instances_do : (kind : ℕ) → kind < 4 → Each (λ i. DoesFor k i.work) (resolution (reached_as kind)).instances
  instances_do kind small = instances_work (reached_as kind) (DoesFor k) (λ reason. (tt, tt)) (λ choice. does_by kind choice small)

-- ---- which act disturbs which

never_deletes : (j : ℕ) (path : List ℕ) (later : Act) → IsActOf j later → deletes path later ≡ false
never_deletes j path (Create other) is = refl
never_deletes j path (MakeDir other) is = refl
never_deletes j path (Delete other with_directories) is = absurd is
never_deletes j path (Content other bytes) is = refl
never_deletes j path (Copy source other) is = refl
never_deletes j path (Edit other script) is = refl
never_deletes j path (Perms other mode owners groups) is = refl
never_deletes j path (Start name) is = refl
never_deletes j path (Stop name) is = refl
never_deletes j path (Enable name) is = refl
never_deletes j path (Disable name) is = refl
never_deletes j path (Restart name) is = refl
never_deletes j path (Bust reason) is = refl

same_or_apart : (a b x y : List ℕ) → (a ≡ b → x ≡ y) → (bytes_eq a b && not (bytes_eq x y)) ≡ false
same_or_apart a b x y same = by (bytes_eq a b) refl
  where
    by : (test : Bool) → bytes_eq a b ≡ test → (test && not (bytes_eq x y)) ≡ false
    by true is = ap not (subst (λ (z : List ℕ). bytes_eq x z ≡ true) (same (is_text a b is)) (same_text x))
    by false is = refl

never_rewrites : (j k : ℕ) (path bytes : List ℕ) (later : Act) → IsActOf j later → path ≡ file_of k → bytes ≡ decimal k → rewrites path bytes later ≡ false
never_rewrites j k path bytes (Create other) is p b = refl
never_rewrites j k path bytes (MakeDir other) is p b = refl
never_rewrites j k path bytes (Delete other with_directories) is p b = refl
never_rewrites j k path bytes (Content other content) is p b =
    same_or_apart path other bytes content (λ same. b ∙ ap (drop 4) (sym p ∙ same ∙ is.0) ∙ sym is.1)
never_rewrites j k path bytes (Copy source other) is p b = absurd is
never_rewrites j k path bytes (Edit other script) is p b = absurd is
never_rewrites j k path bytes (Perms other mode owners groups) is p b = refl
never_rewrites j k path bytes (Start name) is p b = refl
never_rewrites j k path bytes (Stop name) is p b = refl
never_rewrites j k path bytes (Enable name) is p b = refl
never_rewrites j k path bytes (Disable name) is p b = refl
never_rewrites j k path bytes (Restart name) is p b = refl
never_rewrites j k path bytes (Bust reason) is p b = refl

never_other_perms : (j : ℕ) (path : List ℕ) (mode : Option ℕ) (owners groups : List (List ℕ)) (later : Act) → IsActOf j later → mode ≡ Some 420 → owners ≡ [] → groups ≡ [] →
    gives_other_perms path mode owners groups later ≡ false
never_other_perms j path mode owners groups (Create other) is m o g = refl
never_other_perms j path mode owners groups (MakeDir other) is m o g = refl
never_other_perms j path mode owners groups (Delete other with_directories) is m o g = refl
never_other_perms j path mode owners groups (Content other content) is m o g = refl
never_other_perms j path mode owners groups (Copy source other) is m o g = refl
never_other_perms j path mode owners groups (Edit other script) is m o g = refl
never_other_perms j path mode owners groups (Perms other also os gs) is m o g =
    (λ i. bytes_eq path other && (modes_differ (m i) (is.1 i) || (lists_differ (o i) (is.2 i) || lists_differ (g i) (is.3 i))))
    ∙ and_false (bytes_eq path other)
never_other_perms j path mode owners groups (Start name) is m o g = refl
never_other_perms j path mode owners groups (Stop name) is m o g = refl
never_other_perms j path mode owners groups (Enable name) is m o g = refl
never_other_perms j path mode owners groups (Disable name) is m o g = refl
never_other_perms j path mode owners groups (Restart name) is m o g = refl
never_other_perms j path mode owners groups (Bust reason) is m o g = refl

pub never_disturbs : (j k : ℕ) (later earlier : Act) → IsActOf j later → IsActOf k earlier → disturbs later earlier ≡ false
unfolding disturbs
never_disturbs j k later (Create path) is known = never_deletes j path later is
never_disturbs j k later (MakeDir path) is known = absurd known
never_disturbs j k later (Delete path with_directories) is known = absurd known
never_disturbs j k later (Content path bytes) is known = λ i. never_deletes j path later is i || never_rewrites j k path bytes later is known.0 known.1 i
never_disturbs j k later (Copy source path) is known = absurd known
never_disturbs j k later (Edit path script) is known = absurd known
never_disturbs j k later (Perms path mode owners groups) is known =
    λ i. never_deletes j path later is i || never_other_perms j path mode owners groups later is known.1 known.2 known.3 i
never_disturbs j k later (Start name) is known = absurd known
never_disturbs j k later (Stop name) is known = absurd known
never_disturbs j k later (Enable name) is known = absurd known
never_disturbs j k later (Disable name) is known = absurd known
never_disturbs j k later (Restart name) is known = absurd known
never_disturbs j k later (Bust reason) is known = refl
