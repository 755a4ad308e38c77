-- What is local to a path is spared by each event of another path.
use Rattle.std.proofs.Common.{◌≡◌, ℕ, ◌≤◌, ◌<◌, Bool, true, false, List, ◌∷◌, length, Option, refl, ap, ◌∙◌, arith}
use Rattle.std.specs.Prelude.{◌&&◌}
use Rattle.std.specs.List.{Contains}
use Rattle.std.specs.Str.{bytes_eq}
use Rattle.std.proofs.lemmas.List.{length-append}
use Rattle.std.proofs.lemmas.List.Elements.{Contains-append_right}
use Rattle.cfa_base.specs.declared.places.PromiseId.{PromiseId}
use Rattle.cfa_base.specs.lemmas.EqualTexts.{texts_apart}
use Rattle.cfa_statuses.specs.declared.levels.Status.{Status}
use Rattle.cfa_outcomes.specs.declared.outcomes.Outcome.{Outcome}
use Rattle.cfa_resolve.specs.declared.instances.Instance.{Instance}
use Rattle.cfa_vars.specs.declared.scoping.Datum.{Datum}
use Rattle.cfa_states.specs.declared.activations.Activation.{Activation}
use Rattle.cfa_states.specs.History.{History, Home, Begun, Set, Raised, Reached, Listed, Told, everywhere, within, locally, local_source}
use Rattle.cfa_states.specs.Kept.{KeepsLocally, SpareShorter, SpareLocals}
use Rattle.cfa_states.specs.Levels.{SpareIf}
use Rattle.cfa_states.specs.Numbered.{Numbered}
use Rattle.cfa_states.specs.Tellers.{worst_in, inner_path}
use Rattle.cfa_states.specs.Views.{Setting}
use Rattle.cfa_states.specs.lemmas.Keeping.{IsIdle, waits_idle, waits_elsewhere, waits_begun}
use Rattle.cfa_states.specs.lemmas.Locals.{other_begun, other_set, local_same}

-- ---- events of one path, at another

module _ (h : History) (at path : List ℕ) (differ : bytes_eq at path ≡ false) where
  pub locally_begun : (given : List Datum) (class : List ℕ) → locally (Begun at given ∷ h) path class ≡ locally h path class
  locally_begun given class = rw (differ, locally) refl

  pub source_begun : (given : List Datum) (class : List ℕ) → local_source (Begun at given ∷ h) path class ≡ local_source h path class
  source_begun given class = rw (differ, local_source) refl

  pub locally_raised : (raised : List ℕ) (status : Status) (source : Option PromiseId) (class : List ℕ) → locally (Raised (within at) raised status source ∷ h) path class ≡ locally h path class
  locally_raised raised status source class = rw (ap (λ b. b && bytes_eq raised class) differ, locally) refl

  pub source_raised : (raised : List ℕ) (status : Status) (source : Option PromiseId) (class : List ℕ) →
      local_source (Raised (within at) raised status source ∷ h) path class ≡ local_source h path class
  source_raised raised status source class = rw (ap (λ b. b && bytes_eq raised class) differ, local_source) refl

  pub worst_begun : (given : List Datum) → worst_in (Begun at given ∷ h) path ≡ worst_in h path
  worst_begun given = rw (differ, worst_in) refl

pub worst_told : (h : History) (instance : Instance) (outcomes : List Outcome) (path : List ℕ) → bytes_eq instance.path path ≡ false →
    worst_in (Told instance outcomes ∷ h) path ≡ worst_in h path
worst_told h instance outcomes path differ = rw (differ, worst_in) refl

-- ---- shorter paths

-- a longer path is another
pub longer_is_other : (at path : List ℕ) → length path < length at → bytes_eq at path ≡ false
longer_is_other at path longer = texts_apart at path (λ same. let e = ap length same in absurd (omega arith))

pub spare_none : (bound : ℕ) (h : History) → SpareShorter bound h h
spare_none bound h =
    record { locals = λ path class short. refl; sources = λ path class short. refl; worst = λ path short. refl; waits = λ s path short. refl; scopes = λ path short. refl }

pub spare_then : (bound : ℕ) (h k l : History) → SpareShorter bound h k → SpareShorter bound k l → SpareShorter bound h l
spare_then bound h k l first next = record {
  locals = λ path class short. next.locals path class short ∙ first.locals path class short;
  sources = λ path class short. next.sources path class short ∙ first.sources path class short;
  worst = λ path short. next.worst path short ∙ first.worst path short;
  waits = λ s path short. next.waits s path short ∙ first.waits s path short;
  scopes = λ path short. next.scopes path short ∙ first.scopes path short;
}

pub spare_fewer : (bound fewer : ℕ) (h k : History) → fewer ≤ bound → SpareShorter bound h k → SpareShorter fewer h k
spare_fewer bound fewer h k less spare = record {
  locals = λ path class short. spare.locals path class (omega arith);
  sources = λ path class short. spare.sources path class (omega arith);
  worst = λ path short. spare.worst path (omega arith);
  waits = λ s path short. spare.waits s path (omega arith);
  scopes = λ path short. spare.scopes path (omega arith);
}

module _ (bound : ℕ) (h : History) where
  other : (at path : List ℕ) → bound ≤ length at → length path < bound → bytes_eq at path ≡ false
  other at path long short = longer_is_other at path (omega arith)

  pub spare_begun : (at : List ℕ) (given : List Datum) → bound ≤ length at → SpareShorter bound h (Begun at given ∷ h)
  spare_begun at given long = record {
    locals = λ path class short. locally_begun h at path (other at path long short) given class;
    sources = λ path class short. source_begun h at path (other at path long short) given class;
    worst = λ path short. worst_begun h at path (other at path long short) given;
    waits = λ s path short. waits_begun s h at given path (other at path long short);
    scopes = λ path short. other_begun at given h path (other at path long short);
  }

  pub spare_set : (at name : List ℕ) (datum : Datum) → bound ≤ length at → SpareShorter bound h (Set at name datum ∷ h)
  spare_set at name datum long = record {
    locals = λ path class short. refl;
    sources = λ path class short. refl;
    worst = λ path short. refl;
    waits = λ s path short. refl;
    scopes = λ path short. other_set at name datum h path (other at path long short);
  }

  pub spare_raised_within : (at class : List ℕ) (status : Status) (source : Option PromiseId) → bound ≤ length at → SpareShorter bound h (Raised (within at) class status source ∷ h)
  spare_raised_within at raised status source long = record {
    locals = λ path class short. locally_raised h at path (other at path long short) raised status source class;
    sources = λ path class short. source_raised h at path (other at path long short) raised status source class;
    worst = λ path short. refl;
    waits = λ s path short. refl;
    scopes = λ path short. refl;
  }

  pub spare_told : (instance : Instance) (outcomes : List Outcome) → bound ≤ length instance.path → SpareShorter bound h (Told instance outcomes ∷ h)
  spare_told instance outcomes long = record {
    locals = λ path class short. refl;
    sources = λ path class short. refl;
    worst = λ path short. worst_told h instance outcomes path (other instance.path path long short);
    waits = λ s path short. refl;
    scopes = λ path short. refl;
  }

  pub spare_raised_everywhere : (class : List ℕ) (status : Status) (source : Option PromiseId) → SpareShorter bound h (Raised everywhere class status source ∷ h)
  spare_raised_everywhere raised status source =
      record { locals = λ path class short. refl; sources = λ path class short. refl; worst = λ path short. refl; waits = λ s path short. refl; scopes = λ path short. refl }

  pub spare_reached : (at : Home) (promise : Numbered) (guard : Status) (sets : Bool) (visits : ℕ) → bound ≤ length at.path → SpareShorter bound h (Reached at promise guard sets visits ∷ h)
  spare_reached at promise guard sets visits long = record {
    locals = λ path class short. refl;
    sources = λ path class short. refl;
    worst = λ path short. refl;
    waits = λ s path short. waits_elsewhere s at promise sets visits h path guard (other at.path path long short);
    scopes = λ path short. refl;
  }

  pub spare_listed : (instance : Instance) (status : Status) → SpareShorter bound h (Listed instance status ∷ h)
  spare_listed instance status =
      record { locals = λ path class short. refl; sources = λ path class short. refl; worst = λ path short. refl; waits = λ s path short. refl; scopes = λ path short. refl }

-- an activation of a shorter path is kept
pub local_spared : (bound : ℕ) (s : Setting) (a : Activation) (h k : History) → SpareShorter bound h k → length a.path < bound → KeepsLocally s a h → KeepsLocally s a k
local_spared bound s a h k spare short =
    local_same s a h k (λ class. spare.locals a.path class short) (λ class. spare.sources a.path class short) (spare.worst a.path short) (spare.waits s a.path short) (spare.scopes a.path short)

-- ---- what is local to any path

pub locals_none : (h : History) → SpareLocals h h
locals_none h = record { locals = λ path class. refl; sources = λ path class. refl; worst = λ path. refl; waits = λ s path. refl }

pub locals_then : (h k l : History) → SpareLocals h k → SpareLocals k l → SpareLocals h l
locals_then h k l first next = record {
  locals = λ path class. next.locals path class ∙ first.locals path class;
  sources = λ path class. next.sources path class ∙ first.sources path class;
  worst = λ path. next.worst path ∙ first.worst path;
  waits = λ s path. next.waits s path ∙ first.waits s path;
}

pub spare_if : (is_common : Bool) (h k : History) → SpareLocals h k → SpareIf is_common h k
spare_if true h k spares = spares
spare_if false h k spares = tt

pub spare_if_then : (is_common : Bool) (h k l : History) → SpareIf is_common h k → SpareIf is_common k l → SpareIf is_common h l
spare_if_then true h k l first next = locals_then h k l first next
spare_if_then false h k l first next = tt

pub locals_set : (h : History) (at name : List ℕ) (datum : Datum) → SpareLocals h (Set at name datum ∷ h)
locals_set h at name datum = record { locals = λ path class. refl; sources = λ path class. refl; worst = λ path. refl; waits = λ s path. refl }

pub locals_raised_everywhere : (h : History) (class : List ℕ) (status : Status) (source : Option PromiseId) → SpareLocals h (Raised everywhere class status source ∷ h)
locals_raised_everywhere h raised status source = record { locals = λ path class. refl; sources = λ path class. refl; worst = λ path. refl; waits = λ s path. refl }

pub locals_reached : (h : History) (at : Home) (promise : Numbered) (guard : Status) (sets : Bool) (visits : ℕ) → IsIdle promise guard → SpareLocals h (Reached at promise guard sets visits ∷ h)
locals_reached h at promise guard sets visits idle =
    record { locals = λ path class. refl; sources = λ path class. refl; worst = λ path. refl; waits = λ s path. waits_idle s at promise sets visits h path guard idle }

-- ---- the path of a call

pub inner_is_longer : (instance : Instance) → length instance.path < length (inner_path instance)
inner_is_longer instance = let e = length-append instance.path (10 ∷ instance.text) in omega arith

pub inner_has_newline : (instance : Instance) → Contains (inner_path instance) 10
inner_has_newline instance = Contains-append_right instance.path (10 ∷ instance.text) 10 (0, omega arith, refl)
