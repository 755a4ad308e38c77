-- What an environment tells after a change.
use Rattle.std.proofs.Common.{◌≡◌, ◌≢◌, ℕ, ◌<◌, ◌+◌, List, [], ◌∷◌, length, take, get_or, Option, Some, None, is_some, Bool, true, false, cond, ◌||◌, if◌then◌else◌, map, unwrap_or, refl, sym, ap, subst, ◌∙◌}
use Rattle.std.proofs.lemmas.Bool.{false≢true}
use Rattle.std.proofs.lemmas.List.Folds.{list_any_more}
use Rattle.std.proofs.lemmas.Map.Steps.{set_value_same}
use Rattle.std.proofs.lemmas.Slice.Eq.{bytes_eq-Decides}
use Rattle.std.specs.Cmp.Lexicographic.{nat_list_cmp_total}
use Rattle.std.specs.FinMap as finite
use Rattle.std.specs.HashMap as hash
use Rattle.std.specs.Option.{option_or}
use Rattle.std.specs.Prelude.{IsSome}
use Rattle.std.specs.Str.{bytes_eq}
use Rattle.cfa_base.specs.TextMaps.{text_cmp, text_map}
use Rattle.cfa_base.specs.declared.places.PromiseId.{PromiseId}
use Rattle.cfa_base.specs.lemmas.TextKeys.{in_hash}
use Rattle.cfa_base.specs.lemmas.TextMaps.{get-put, remove-insert, ties_alike, same_texts}
use Rattle.cfa_base.specs.lemmas.EqualTexts.{same_text, texts_apart}
use Rattle.cfa_statuses.specs.declared.levels.Status.{Status}
use Rattle.cfa_statuses.specs.declared.levels.Status.TheVariants.{No, Maybe, Yes}
use Rattle.cfa_statuses.specs.Status.{greater}
use Rattle.cfa_statuses.specs.Raised.{Raised, none_raised, status_in, raised}
use Rattle.cfa_statuses.specs.lemmas.Raised.{unwrap_or-cond, status_in-none_raised, status_in-raised_same, status_in-raised_other}
use Rattle.cfa_base.specs.Index.{is_listed}
use Rattle.cfa_outcomes.specs.Environments.{EnvironmentMaps, with_class, Sources, Marks, marks_at, mark_in, marked, sourced, all_yes}
use Rattle.cfa_outcomes.proofs.HashedTexts.{get-hashed, hashed-put}

-- ---- marks

pub marks_at-marked : (marks : Marks) (path text : List ℕ) (to : Status) (other : List ℕ)
    → marks_at (marked marks path text to) other ≡ cond (bytes_eq path other) (raised (marks_at marks path) text to) (marks_at marks other)
unfolding marks_at marked
marks_at-marked marks path text to other =
    ap (λ o. unwrap_or o none_raised) (get-put marks path _ other) ∙ unwrap_or-cond (bytes_eq path other) _ none_raised (finite.get marks other)

pub mark_in-marked_same : (marks : Marks) (path text : List ℕ) (to : Status) → mark_in (marked marks path text to) path text ≡ greater (mark_in marks path text) to
mark_in-marked_same marks path text to =
    ap (λ r. status_in r text) (marks_at-marked marks path text to path ∙ ap (λ b. cond b (raised (marks_at marks path) text to) (marks_at marks path)) (same_text path))
    ∙ status_in-raised_same (marks_at marks path) text to

pub mark_in-marked_other : (marks : Marks) (path text : List ℕ) (to : Status) (other_path other_text : List ℕ)
    → ¬ ((other_path ≡ path) × (other_text ≡ text)) → mark_in (marked marks path text to) other_path other_text ≡ mark_in marks other_path other_text
mark_in-marked_other marks path text to other_path other_text differ =
    ap (λ r. status_in r other_text) (marks_at-marked marks path text to other_path)
    ∙ elim (bytes_eq path other_path) as (λ b. bytes_eq path other_path ≡ b → status_in (cond b (raised (marks_at marks path) text to) (marks_at marks other_path)) other_text ≡ mark_in marks other_path other_text) [
      | true ↦ λ e.
          let one : path ≡ other_path = (bytes_eq-Decides path other_path).0 e in
          status_in-raised_other (marks_at marks path) text to other_text (λ t. differ (sym one, t)) ∙ ap (λ p. mark_in marks p other_text) one
      | false ↦ λ _. refl
    ] refl

pub marks_at-none : (path : List ℕ) → marks_at finite.empty path ≡ none_raised
unfolding marks_at
marks_at-none path = ap (λ o. unwrap_or o none_raised) (finite.get-empty text_cmp path)

pub mark_in-none : (path text : List ℕ) → mark_in finite.empty path text ≡ No
mark_in-none path text = ap (λ r. status_in r text) (marks_at-none path) ∙ status_in-none_raised text

-- ---- sources

pub sourced_same : (sources : Sources) (class : List ℕ) (source : Option PromiseId) → finite.get (sourced sources class source) class ≡ option_or (finite.get sources class) source
unfolding sourced
sourced_same sources class None = elim (finite.get sources class) as (λ o. o ≡ option_or o None) [ None ↦ refl | Some id ↦ refl ]
sourced_same sources class (Some source) =
    elim (finite.get sources class) as (λ o. finite.get sources class ≡ o → finite.get (cond (is_some o) sources (finite.insert sources class source)) class ≡ option_or o (Some source)) [
      | None ↦ λ _. get-put sources class source class ∙ ap (λ b. cond b (Some source) (finite.get sources class)) (same_text class)
      | Some known ↦ λ e. e
    ] refl

pub sourced_other : (sources : Sources) (class : List ℕ) (source : Option PromiseId) (other : List ℕ) → other ≢ class → finite.get (sourced sources class source) other ≡ finite.get sources other
unfolding sourced
sourced_other sources class None other differ = refl
sourced_other sources class (Some source) other differ =
    elim (finite.contains_key sources class) as (λ b. finite.get (cond b sources (finite.insert sources class source)) other ≡ finite.get sources other) [
      | true ↦ refl
      | false ↦ get-put sources class source other ∙ ap (λ b. cond b (Some source) (finite.get sources other)) (texts_apart class other (λ e. differ (sym e)))
    ]

pub get-sourced : (sources : Sources) (class : List ℕ) (source : Option PromiseId) (other : List ℕ)
    → finite.get (sourced sources class source) other ≡ cond (bytes_eq class other) (option_or (finite.get sources class) source) (finite.get sources other)
get-sourced sources class source other =
    elim (bytes_eq class other) as (λ b. bytes_eq class other ≡ b → finite.get (sourced sources class source) other ≡ cond b (option_or (finite.get sources class) source) (finite.get sources other)) [
      | true ↦ λ e. ap (finite.get (sourced sources class source)) (sym ((bytes_eq-Decides class other).0 e)) ∙ sourced_same sources class source
      | false ↦ λ e. sourced_other sources class source other (λ one. false≢true (sym e ∙ (bytes_eq-Decides class other).1 (sym one)))
    ] refl

-- a class that has a source keeps it
pub sourced_known : (sources : Sources) (class : List ℕ) (source : Option PromiseId) → finite.contains_key sources class ≡ true → sourced sources class source ≡ sources
unfolding sourced
sourced_known sources class None known = refl
sourced_known sources class (Some source) known = ap (λ b. cond b sources (finite.insert sources class source)) known

pub sourced_by_none : (sources : Sources) (class : List ℕ) → sourced sources class None ≡ sources
unfolding sourced
sourced_by_none sources class = refl

pub sourced_new : (sources : Sources) (class : List ℕ) (source : PromiseId) → finite.get sources class ≡ None → sourced sources class (Some source) ≡ finite.insert sources class source
unfolding sourced
sourced_new sources class source none = ap (λ o. cond (is_some o) sources (finite.insert sources class source)) none

-- a source that was put for a class without one, and taken out again
pub source_taken_out : (sources put left : Sources) (class key again : List ℕ) (source : PromiseId)
    → put ≡ finite.insert sources key source → key ≡ class → left ≡ finite.remove put again → again ≡ class → finite.get sources class ≡ None → left ≡ sources
source_taken_out sources put left class key again source puts by_key takes by_again none =
    takes ∙ ap (λ k. finite.remove put k) by_again
    ∙ ap (λ s. finite.remove s class) (puts ∙ ap (λ k. finite.insert sources k source) by_key)
    ∙ remove-insert sources class source none

-- what was changed part by part
pub is_with_class : (before now after : EnvironmentMaps) (class : List ℕ) (to : Status) (source : Option PromiseId)
    → before ≡ now → after.statuses ≡ raised before.statuses class to → after.sources ≡ sourced before.sources class source → after.marks ≡ before.marks
    → after ≡ with_class now class to source
is_with_class before now after class to source view statuses sources marks =
    let parts : after ≡ with_class before class to source = λ i. record { statuses = statuses i; sources = sources i; marks = marks i } in
    parts ∙ ap (λ e. with_class e class to source) view

-- ---- the first environment

greater_yes : (status : Status) → greater status Yes ≡ Yes
greater_yes No = refl
greater_yes Maybe = refl
greater_yes Yes = refl

-- a listed class is Yes
abbrev pub given : List (List ℕ) → List ℕ → Option Status
given classes class = if is_listed classes class then Some Yes else None

find-all_yes : (classes : List (List ℕ)) (class : List ℕ) → finite.find text_cmp class (map (λ c. (c, Yes)) classes) ≡ given classes class
find-all_yes [] class = refl
find-all_yes (c ∷ cs) class =
    ap (λ b. cond b (Some Yes) (finite.find text_cmp class (map (λ c. (c, Yes)) cs))) (ties_alike c class)
    ∙ ap (cond (bytes_eq c class) (Some Yes)) (find-all_yes cs class)
    ∙ elim (bytes_eq c class) as (λ b. cond b (Some Yes) (given cs class) ≡ cond (b || is_listed cs class) (Some Yes) None) [ true ↦ refl | false ↦ refl ]

pub get-all_yes : (classes : List (List ℕ)) (class : List ℕ) → finite.get (all_yes classes) class ≡ given classes class
unfolding all_yes
get-all_yes classes class = finite.get-from_entries nat_list_cmp_total (map (λ c. (c, Yes)) classes) class ∙ find-all_yes classes class

pub are_all_yes : (statuses : Raised) (classes : List (List ℕ)) → ((class : List ℕ) → finite.get statuses class ≡ given classes class) → statuses ≡ all_yes classes
are_all_yes statuses classes each = finite.same_map nat_list_cmp_total same_texts _ _ (λ class. each class ∙ sym (get-all_yes classes class))

pub status_in-all_yes : (classes : List (List ℕ)) (class : List ℕ) → status_in (all_yes classes) class ≡ (if is_listed classes class then Yes else No)
unfolding status_in
status_in-all_yes classes class = ap (λ o. unwrap_or o No) (get-all_yes classes class) ∙ unwrap_or-cond (is_listed classes class) Yes No None

-- one more class of the list is raised
pub one_more_yes : (statuses : Raised) (classes : List (List ℕ)) (i : ℕ) (class : List ℕ) → i < length classes → get_or classes i class ≡ class
    → ((q : List ℕ) → finite.get statuses q ≡ given (take i classes) q) → (q : List ℕ) → finite.get (raised statuses class Yes) q ≡ given (take (i + 1) classes) q
unfolding raised
one_more_yes statuses classes i class within at so_far q =
    get-put statuses class _ q
    ∙ ap (λ s. cond (bytes_eq class q) (Some s) (finite.get statuses q)) (greater_yes (status_in statuses class))
    ∙ ap (cond (bytes_eq class q) (Some Yes)) (so_far q)
    ∙ turned (is_listed (take i classes) q) (bytes_eq class q)
    ∙ ap (λ b. cond b (Some Yes) None) (ap (λ c. is_listed (take i classes) q || bytes_eq c q) (sym at) ∙ sym (list_any_more (λ other. bytes_eq other q) classes i class within)) where
      turned : (a b : Bool) → cond b (Some Yes) (cond a (Some Yes) None) ≡ cond (a || b) (Some Yes) None
      turned true true = refl
      turned true false = refl
      turned false true = refl
      turned false false = refl

-- ---- the marks of paths, in a hash map

-- what is found at a path
pub marks_at-found : {K S : Type 0} (bytes : K → List ℕ) (m : hash.HashMap K Raised S) (marks : Marks) (bs path : List ℕ) (found : Option Raised)
    → text_map bytes m.entries ≡ marks → bs ≡ path → found ≡ in_hash bytes m bs → marks_at marks path ≡ unwrap_or found none_raised
unfolding marks_at
marks_at-found bytes m marks bs path found view by_path is =
    let e : finite.get marks path ≡ found = ap (finite.get marks) (sym by_path) ∙ ap (λ n. finite.get n bs) (sym view) ∙ get-hashed bytes m bs ∙ sym is in
    ap (λ o. unwrap_or o none_raised) e

-- the marks of a path were raised where they lie
pub marked-written : {K S : Type 0} (bytes : K → List ℕ) (m n : hash.HashMap K Raised S) (marks : Marks) (bs path text : List ℕ) (to : Status) (before after : Raised)
    → text_map bytes m.entries ≡ marks → bs ≡ path → Some before ≡ in_hash bytes m bs
    → hash.WritesThrough (λ x y. bytes_eq (bytes x) (bytes y)) (λ k. bytes_eq bs (bytes k)) m after n → after ≡ raised before text to
    → text_map bytes n.entries ≡ marked marks path text to
unfolding marked
marked-written bytes m n marks bs path text to before after view by_path is writes raises =
    let there : IsSome (in_hash bytes m bs) = subst IsSome is refl in
    let put : text_map bytes n.entries ≡ finite.insert (text_map bytes m.entries) bs after = hashed-put bytes bs m n after (writes.3 there) in
    let at : marks_at marks path ≡ before = marks_at-found bytes m marks bs path (Some before) view by_path is in
    let value : after ≡ raised (marks_at marks path) text to = raises ∙ ap (λ r. raised r text to) (sym at) in
    put ∙ ap (λ t. finite.insert t bs after) view ∙ ap (λ p. finite.insert marks p after) by_path ∙ ap (finite.insert marks path) value

-- nothing was written
pub marked-left : {K S : Type 0} (bytes : K → List ℕ) (m n : hash.HashMap K Raised S) (marks : Marks) (bs : List ℕ) (before after : Raised)
    → text_map bytes m.entries ≡ marks → Some before ≡ in_hash bytes m bs
    → hash.WritesThrough (λ x y. bytes_eq (bytes x) (bytes y)) (λ k. bytes_eq bs (bytes k)) m after n → after ≡ before
    → text_map bytes n.entries ≡ marks
marked-left bytes m n marks bs before after view is writes stays =
    ap (text_map bytes) (writes.0 ∙ set_value_same _ m.entries after (sym (ap Some stays ∙ is))) ∙ view

-- a path got its first mark
pub marked-added : {K S : Type 0} (bytes : K → List ℕ) (m n : hash.HashMap K Raised S) (marks : Marks) (key : K) (bs path text : List ℕ) (to : Status) (texts : Raised)
    → text_map bytes m.entries ≡ marks → bs ≡ path → bytes key ≡ path → None ≡ in_hash bytes m bs
    → hash.Updates (λ x y. bytes_eq (bytes x) (bytes y)) m n key (Some texts) → texts ≡ raised none_raised text to
    → text_map bytes n.entries ≡ marked marks path text to
unfolding marked
marked-added bytes m n marks key bs path text to texts view by_path by_key is updates raises =
    let put : text_map bytes n.entries ≡ finite.insert (text_map bytes m.entries) (bytes key) texts = hashed-put bytes (bytes key) m n texts updates in
    let at : marks_at marks path ≡ none_raised = marks_at-found bytes m marks bs path None view by_path is in
    let value : texts ≡ raised (marks_at marks path) text to = raises ∙ ap (λ r. raised r text to) (sym at) in
    put ∙ ap (λ t. finite.insert t (bytes key) texts) view ∙ ap (λ p. finite.insert marks p texts) by_key ∙ ap (finite.insert marks path) value
