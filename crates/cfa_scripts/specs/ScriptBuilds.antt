-- The patterns that an edit bundle builds in one combination of the promise that calls it: for each of its promises that is
-- reached with a guard that may hold, those of the calls of a classes promise, and of a promise that edits the pattern of each
-- of its combinations in which all that its bodies say is known.
use Rattle.std.specs.Prelude.{◌≡◌, ℕ, List, [], ◌∷◌, codes, Contains, Option, Some, None, IsTrue, ◌⊎◌}
use Rattle.cfa_base.specs.Patterns.{PatternText, pattern_of, is_pattern}
use Rattle.cfa_base.specs.declared.patterns.How.{How}
use Rattle.cfa_base.specs.declared.patterns.How.TheVariants.{Whole, Part}
use Rattle.cfa_tree.specs.Tree.{ValueTree, BlockTree, PolicyTree, PromiseTree}
use Rattle.cfa_kinds.specs.declared.kinds.PromiseType.{PromiseType}
use Rattle.cfa_kinds.specs.declared.kinds.PromiseType.TheVariants as promises
use Rattle.cfa_statuses.specs.declared.levels.Status.{Status}
use Rattle.cfa_statuses.specs.declared.levels.Status.TheVariants.{No, Maybe, Yes}
use Rattle.cfa_served.specs.Served.{bundle_of}
use Rattle.cfa_vars.specs.Scopes.{InScope}
use Rattle.cfa_vars.specs.Expansion.{Chosen, expanded}
use Rattle.cfa_defines.specs.declared.combining.Combined.{Combined}
use Rattle.cfa_defines.specs.OwnTexts.{choices_found, combined, own_reads}
use Rattle.cfa_defines.specs.VarsPromises.{setting_choices}
use Rattle.cfa_defines.specs.Builds.{BuiltBy}
use Rattle.cfa_bodies.specs.declared.sayings.Said.{Said}
use Rattle.cfa_bodies.specs.declared.hearing.Heard.TheVariants.{All as all_heard}
use Rattle.cfa_bodies.specs.Bodies.{Bodies, bodies_of, said_in, text_in, name_given, heard}
use Rattle.cfa_scripts.specs.Numbered.{Numbered, numbered_in}
use Rattle.cfa_scripts.specs.EditPromises.{whole_text}
use Rattle.cfa_scripts.specs.EditBundles.{Around, scopes_at, statuses_at, guard_under, reach}
use Rattle.cfa_scripts.specs.EditScripts.{Caller, around_of, walk_from_first, in_order}
use Rattle.cfa_scripts.specs.declared.walking.Walk.{Walk}
use Rattle.cfa_scripts.specs.declared.walking.Inside.{Inside}

-- ---- a promise that edits

abbrev pub anchor_built : Option Said → Option PatternText
anchor_built None = None
anchor_built (Some said) = Some (pattern_of Whole (text_in said))

-- the pattern of an edit, by the promiser and the bodies of its promise
abbrev pub pattern_for : PromiseType → (promiser : List ℕ) → Bodies → Option PatternText
pattern_for promises.InsertLines promiser bodies = anchor_built (said_in bodies (codes "location") (codes "select_line_matching"))
pattern_for promises.ReplacePatterns promiser bodies = Some (pattern_of Part promiser)
pattern_for type promiser bodies = Some (pattern_of Whole promiser)

-- the text is the one that is built, and it is a pattern
pub record IsBuiltAs (pattern : Option PatternText) (content : List ℕ) : Type 0 where
  pub how : How
  pub built : pattern ≡ Some (pattern_of how content)
  pub reads : IsTrue (is_pattern how content)

module _ (policy : PolicyTree) (scopes : InScope) (type : PromiseType) (promise : PromiseTree) where
  abbrev pub bodies_in : Chosen → Bodies
  bodies_in choice = bodies_of policy scopes choice type promise

  -- the text is built in a combination
  pub record BuiltIn (choice : Chosen) (content : List ℕ) : Type 0 where
    pub is_heard : heard (bodies_in choice) ≡ all_heard
    pub is_built : IsBuiltAs (pattern_for type (whole_text (expanded scopes choice promise.promiser)) (bodies_in choice)) content

  -- the text is built in one of these combinations
  pub record BuiltAmong (choices : List Chosen) (content : List ℕ) : Type 0 where
    pub choice : Chosen
    pub is_combination : Contains choices choice
    pub is_built : BuiltIn choice content

  abbrev pub BuiltFor : Combined → (text : List ℕ) → Type 0
  BuiltFor combined content = BuiltAmong (choices_found combined) content

  abbrev pub BuiltForEdits : (text : List ℕ) → Type 0
  BuiltForEdits content = BuiltFor (combined scopes (own_reads type promise)) content

-- ---- a promise that is reached

module _ (around : Around) where
  abbrev pub BuiltByType : Inside → Numbered → PromiseType → List ℕ → Type 0
  BuiltByType inside p promises.Vars content = ⊥
  BuiltByType inside p promises.Classes content =
      BuiltBy (scopes_at around inside) p.promise (setting_choices (scopes_at around inside) promises.Classes p.promise) content
  BuiltByType inside p type content = BuiltForEdits around.policy (scopes_at around inside) p.type p.promise content

  abbrev pub BuiltUnder : Inside → Numbered → Status → List ℕ → Type 0
  BuiltUnder inside p No content = ⊥
  BuiltUnder inside p Maybe content = BuiltByType inside p p.type content
  BuiltUnder inside p Yes content = BuiltByType inside p p.type content

  abbrev pub BuiltAt : Inside → Numbered → List ℕ → Type 0
  BuiltAt inside p content = BuiltUnder inside p (guard_under (statuses_at around inside) p.promise.guard) content

  -- one promise after the other
  abbrev pub BuiltAlong : Walk → List Numbered → List ℕ → Type 0
  BuiltAlong w [] content = ⊥
  BuiltAlong w (p ∷ more) content = BuiltAt w.inside p content ⊎ BuiltAlong (reach around w p) more content

-- ---- the bundle that is called

abbrev pub BuiltInBundle : Caller → ValueTree → Option BlockTree → List ℕ → Type 0
BuiltInBundle caller value None content = ⊥
BuiltInBundle caller value (Some block) content =
    BuiltAlong (around_of caller block) (walk_from_first caller value block) (in_order (numbered_in block)) content

unfoldable pub IsBuiltBy : Caller → ValueTree → (text : List ℕ) → Type 0
IsBuiltBy caller value content = BuiltInBundle caller value (bundle_of caller.policy (name_given value)) content
