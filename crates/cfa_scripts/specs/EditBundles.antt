-- A walk of an edit bundle: its promises are reached one after the other, its vars promises first and then its classes promises,
-- each once, by the state that those before it left. It begins with a scope of its own, which holds its parameters with what
-- the arguments give, and with no class of its own. Its promises see this scope, other scopes by qualified names, their own
-- classes and the global ones.
--
-- A vars promise, or one that edits, whose guard may hold or not is unsettled, and is taken as if its guard held. A class that is
-- raised to Maybe goes back to the origin of the first Maybe class in the guard, else in the expressions. The origin of a class
-- is itself where it is Maybe globally, else that of the first raise that handed it one.
use Rattle.std.specs.Prelude.{ℕ, ◌+◌, Bool, true, false, List, [], ◌∷◌, ◌++◌, map, Option, Some, None, unwrap_or, if◌then◌else◌}
use Rattle.std.specs.FinMap as finite
use Rattle.cfa_base.specs.TextMaps.{TextMap}
use Rattle.cfa_base.specs.declared.places.PromiseId.{PromiseId}
use Rattle.cfa_tree.specs.Tree.{ExprTree, PolicyTree}
use Rattle.cfa_kinds.specs.declared.kinds.PromiseType.{PromiseType}
use Rattle.cfa_kinds.specs.declared.kinds.PromiseType.TheVariants as promises
use Rattle.cfa_statuses.specs.declared.levels.Status.{Status}
use Rattle.cfa_statuses.specs.declared.levels.Status.TheVariants.{No, Maybe, Yes}
use Rattle.cfa_statuses.specs.Status.{lesser, greater, value_of}
use Rattle.cfa_statuses.specs.Raised.{none_raised, status_in, raised}
use Rattle.cfa_vars.specs.declared.scoping.Datum.{Datum}
use Rattle.cfa_vars.specs.Named.{put}
use Rattle.cfa_vars.specs.Scopes.{Table, InScope}
use Rattle.cfa_vars.specs.Expansion.{Chosen}
use Rattle.cfa_defines.specs.FirstMaybe.{first_maybe_of_guard}
use Rattle.cfa_defines.specs.VarsPromises.{setting_choices, count_choices, data_set}
use Rattle.cfa_defines.specs.ClassPromises.{Raise, raises_of}
use Rattle.cfa_scripts.specs.declared.blaming.Unsettled.{Unsettled}
use Rattle.cfa_scripts.specs.declared.raising.HandedRaise.{HandedRaise}
use Rattle.cfa_scripts.specs.declared.walking.Inside.{Inside}
use Rattle.cfa_scripts.specs.declared.walking.Walk.{Walk}
use Rattle.cfa_scripts.specs.Numbered.{Numbered}
use Rattle.cfa_scripts.specs.EditPromises.{edits_of, edit_visits}

-- what an edit bundle is walked in: the policy, its name, the scopes of other bundles, and the global classes
pub record Around : Type 0 where
  pub policy : PolicyTree
  pub bundle : List ℕ
  pub shared : List (List ℕ × Table)
  pub statuses : List ℕ → Status

-- at the beginning nothing is set but the parameters
abbrev pub inside_at_first : Table → Inside
inside_at_first params = record { own = params; raised = none_raised; origins = finite.empty }

abbrev pub walk_at_first : Table → Walk
walk_at_first params = record { inside = inside_at_first params; visits = 0; unsettled = []; edits = [] }

abbrev pub with_each : Table → (name : List ℕ) → List Datum → Table
with_each table name [] = table
with_each table name (datum ∷ more) = with_each (put table name datum) name more

-- a class keeps the first origin that it is handed
abbrev pub with_origin : TextMap (List ℕ) → (class : List ℕ) → Option (List ℕ) → TextMap (List ℕ)
with_origin origins class None = origins
with_origin origins class (Some origin) =
    if finite.contains_key origins class then origins else finite.insert origins class origin

-- raises, one after the other
abbrev pub raised_after : Inside → List HandedRaise → Inside
raised_after inside [] = inside
raised_after inside (r ∷ more) =
    raised_after (record inside {
      raised = raised inside.raised r.class r.to;
      origins = with_origin inside.origins r.class r.origin;
    }) more

abbrev pub guard_under : (List ℕ → Status) → Option ExprTree → Status
guard_under statuses None = Yes
guard_under statuses (Some guard) = value_of guard statuses

abbrev pub is_edit_type : PromiseType → Bool
is_edit_type promises.DeleteLines = true
is_edit_type promises.FieldEdits = true
is_edit_type promises.InsertLines = true
is_edit_type promises.ReplacePatterns = true
is_edit_type type = false

module _ (around : Around) where
  -- ---- what a promise reads

  abbrev pub scopes_at : Inside → InScope
  scopes_at inside = record { own = inside.own; own_name = around.bundle; shared = around.shared }

  abbrev pub statuses_at : Inside → List ℕ → Status
  statuses_at inside class = greater (around.statuses class) (status_in inside.raised class)

  abbrev pub origin_by : Inside → (class : List ℕ) → (globally : Status) → List ℕ
  origin_by inside class No = unwrap_or (finite.get inside.origins class) class
  origin_by inside class Maybe = class
  origin_by inside class Yes = unwrap_or (finite.get inside.origins class) class

  abbrev pub origin_of : Inside → (class : List ℕ) → List ℕ
  origin_of inside class = origin_by inside class (around.statuses class)

  -- ---- unsettled promises

  abbrev pub unsettled_for : Inside → PromiseId → Option (List ℕ) → List Unsettled
  unsettled_for inside id None = []
  unsettled_for inside id (Some class) = record { promise = id; class = class; origin = origin_of inside class } ∷ []

  abbrev pub unsettled_by : Inside → Numbered → (guard : Status) → List Unsettled
  unsettled_by inside p No = []
  unsettled_by inside p Maybe = unsettled_for inside p.id (first_maybe_of_guard p.promise.guard (statuses_at inside))
  unsettled_by inside p Yes = []

  -- ---- vars promises

  abbrev pub vars_kept : Walk → Numbered → Status → Option (List Chosen) → Walk
  vars_kept w p guard choices = record w {
    inside = record w.inside { own = with_each w.inside.own p.promise.promiser (data_set (scopes_at w.inside) p.promise choices) };
    visits = w.visits + count_choices choices;
    unsettled = w.unsettled ++ unsettled_by w.inside p guard;
  }

  -- ---- classes promises: all combinations read the state before the promise

  -- the origin that a class is handed where it is raised to Maybe
  abbrev pub handed : Inside → (in_guard in_expressions : Option (List ℕ)) → (to : Status) → Option (List ℕ)
  handed before in_guard in_expressions No = None
  handed before in_guard in_expressions Yes = None
  handed before (Some class) in_expressions Maybe = Some (origin_of before class)
  handed before None (Some class) Maybe = Some (origin_of before class)
  handed before None None Maybe = None

  abbrev pub handed_raise : (before : Inside) → (guard : Status) → (in_guard : Option (List ℕ)) → Raise → HandedRaise
  handed_raise before guard in_guard (class, (status, first)) = record {
    class = class;
    to = lesser guard status;
    origin = handed before in_guard first (lesser guard status);
  }

  abbrev pub classes_kept : Walk → Numbered → Status → Option (List Chosen) → Walk
  classes_kept w p guard choices = record w {
    inside = raised_after w.inside (map (handed_raise w.inside guard (first_maybe_of_guard p.promise.guard (statuses_at w.inside)))
        (raises_of (statuses_at w.inside) (scopes_at w.inside) p.promise choices));
    visits = w.visits + count_choices choices;
  }

  -- ---- promises that edit

  abbrev pub edits_kept : Walk → Numbered → Status → Walk
  edits_kept w p guard = record w {
    visits = w.visits + edit_visits (scopes_at w.inside) p.type p.promise;
    unsettled = w.unsettled ++ unsettled_by w.inside p guard;
    edits = w.edits ++ edits_of around.policy (scopes_at w.inside) p.type p.promise;
  }

  -- ---- a promise is reached

  -- one whose guard may hold
  abbrev pub kept_by : Walk → Numbered → Status → PromiseType → Walk
  kept_by w p guard promises.Vars = vars_kept w p guard (setting_choices (scopes_at w.inside) promises.Vars p.promise)
  kept_by w p guard promises.Classes = classes_kept w p guard (setting_choices (scopes_at w.inside) promises.Classes p.promise)
  kept_by w p guard type = edits_kept w p guard

  -- where its guard isn't set a promise counts once and does nothing
  abbrev pub guarded : Walk → Numbered → Status → Walk
  guarded w p No = record w { visits = w.visits + 1 }
  guarded w p Maybe = kept_by w p Maybe p.type
  guarded w p Yes = kept_by w p Yes p.type

  unfoldable pub reach : Walk → Numbered → Walk
  reach w p = guarded w p (guard_under (statuses_at w.inside) p.promise.guard)

  -- one promise after the other
  abbrev pub walked_from : Walk → List Numbered → Walk
  walked_from w [] = w
  walked_from w (p ∷ more) = walked_from (reach w p) more
