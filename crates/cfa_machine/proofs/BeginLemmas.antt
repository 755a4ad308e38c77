-- Bundles that begin are those of the definition.
use Rattle.std.proofs.Common.{◌≡◌, ◌∙◌, ℕ, false, List, [], ◌∷◌, length, map, drop, Option, Some, refl, ap, sym}
use Rattle.std.proofs.lemmas.Bool.{false≢true}
use Rattle.cfa_base.specs.Index.{is_listed}
use Rattle.cfa_kinds.specs.Kinds.{bundle_type}
use Rattle.cfa_kinds.specs.declared.kinds.BundleType.{BundleType}
use Rattle.cfa_kinds.specs.declared.kinds.BundleType.TheVariants.{Agent}
use Rattle.cfa_served.specs.Served.{bundle_of}
use Rattle.cfa_statuses.specs.declared.levels.Status.{Status}
use Rattle.cfa_statuses.specs.declared.levels.Status.TheVariants.{Yes}
use Rattle.cfa_tree.specs.Tree.{BlockTree, NamedTree}
use Rattle.cfa_tree.specs.declared.blocks.Bundle.{Bundle}
use Rattle.cfa_frames.specs.Frames.{Frame, common, fresh}
use Rattle.cfa_frames.specs.Moves.{by_type_next, goes_on, named_next, stack}
use Rattle.cfa_states.specs.declared.activations.Activation.{Activation}
use Rattle.cfa_states.specs.declared.states.State.{State}
use Rattle.cfa_states.specs.History.{History, Begun}
use Rattle.cfa_states.specs.Kept.{IsOf, IsUntouched, Stands, seen_numbered}
use Rattle.cfa_states.specs.Numbered.{Numbered, common_types, name_of, numbered_in, params_of}
use Rattle.cfa_states.specs.Passes.{bind}
use Rattle.cfa_states.specs.Views.{Setting, shared_names}
use Rattle.cfa_machine.specs.declared.commons.Common.{Common}
use Rattle.cfa_visits.specs.declared.remembered.Remembered.{Remembered}
use Rattle.cfa_machine.specs.declared.tops.Top.{Top}
use Rattle.cfa_machine.specs.declared.tops.Top.TheVariants as tops
use Rattle.cfa_machine.specs.Beginning.{AgentBegins, CommonBegins, NamedBegins}
use Rattle.cfa_visits.specs.Bundles.{IsShared, seen_bundle}
use Rattle.cfa_visits.specs.Clear.{IsClear}
use Rattle.cfa_machine.specs.Machines.{fresh_held}
use Rattle.cfa_machine.proofs.AnswerLemmas.{fresh_seen}

pub untouched : (h : History) (path : List ℕ) → IsClear h → IsUntouched h path
untouched h path clear = record { statuses = clear.locals path; sources = clear.sources path; worst = clear.worst path; waits = λ s. clear.waits s path }

pub not_shared : {X : Type 0} (s : Setting) (name : List ℕ) → is_listed (shared_names s.policy) name ≡ false → IsShared s.policy name → X
not_shared s name none shared = absurd (false≢true (sym none ∙ shared))

pub common_begins : (s : Setting) (h : History) (block : BlockTree) (st : State) (c : Common) → c.kind ≡ 0 → c.place ≡ 0 → IsOf (name_of block) (name_of block) Yes c.activation →
    map seen_numbered c.promises.items ≡ numbered_in block → Stands s st c.activation h → CommonBegins s block (tops.Common c) h
common_begins s h block st c kind place of numbered stands =
    let G : (kind place : ℕ) → (path bundle : List ℕ) → Status → List Numbered → Frame =
    λ kind place path bundle status all. record (common s block) {
      home = record { path = path; bundle = bundle };
      status = status;
      all = all;
      types = drop kind common_types;
      promises = drop place all;
    } in (
      ap (λ (x : ℕ). G x c.place c.activation.path c.activation.bundle c.activation.status (map seen_numbered c.promises.items)) kind
          ∙ (ap (λ (x : ℕ). G 0 x c.activation.path c.activation.bundle c.activation.status (map seen_numbered c.promises.items)) place
          ∙ (ap (λ (x : List ℕ). G 0 0 x c.activation.bundle c.activation.status (map seen_numbered c.promises.items)) of.path
          ∙ (ap (λ (x : List ℕ). G 0 0 (name_of block) x c.activation.status (map seen_numbered c.promises.items)) of.bundle
          ∙ (ap (λ (x : Status). G 0 0 (name_of block) (name_of block) x (map seen_numbered c.promises.items)) of.status
          ∙ ap (λ (x : List Numbered). G 0 0 (name_of block) (name_of block) Yes x) numbered)))),
      stands.1,
    )

bind_none : (path : List ℕ) (params : List NamedTree) (h : History) → bind path params [] h ≡ h
bind_none path [] h = refl
bind_none path (p ∷ params) h = refl

pub agent_begins : (s : Setting) (h : History) (name : List ℕ) (block : BlockTree) (depth : ℕ) (a : Activation) (made : Remembered) (st' : State) → depth ≡ length s.policy →
    name_of block ≡ name → IsOf name name Yes a → map seen_numbered made.promises.items ≡ numbered_in block → Stands s st' a (Begun name [] ∷ h) →
    AgentBegins s name block (tops.Agent (fresh_held depth a made)) st' h
agent_begins s h name block depth a made st' deep named of numbered stands = record {
  after = Begun name [] ∷ h;
  next = λ ahead.
      ap (λ (k : History). goes_on (stack (fresh (length s.policy) name Yes block ∷ []) ahead) k) (bind_none name (params_of block) (Begun name [] ∷ h))
      ∙ ap (λ (f : Frame). goes_on (stack (f ∷ []) ahead) (Begun name [] ∷ h))
      (ap (λ (n : ℕ). fresh n name Yes block) (sym deep) ∙ sym (fresh_seen depth a made name name Yes block of named numbered));
  keeps = stands.0;
  local = (stands.1, refl);
}

-- one of the sequence that is an agent bundle
pub named_begins : (s : Setting) (h : History) (name : List ℕ) (b : Bundle) (top : Top) (st : State) → bundle_of s.policy name ≡ Some (seen_bundle b) → bundle_type b.kind.name ≡ Some Agent →
    AgentBegins s name (seen_bundle b) top st h → NamedBegins s name top st h
named_begins s h name b top st found kind begins = record {
  after = begins.after;
  next = λ a.
      ap (λ (o : Option BlockTree). named_next s name o a h) found
      ∙ (ap (λ (type : Option BundleType). by_type_next s name type (Some (seen_bundle b)) a h) kind ∙ begins.next a);
  keeps = begins.keeps;
  local = begins.local;
}
