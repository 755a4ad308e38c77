-- How statuses of a run and of the open walk lie together: what is decided in the walk is so in the run, and in the run nothing is
-- undecided.
use Rattle.std.proofs.Common.{◌≡◌, refl, Bool, true, false, ◌⊎◌, inl, inr}
use Rattle.cfa_statuses.specs.declared.levels.Status.{Status}
use Rattle.cfa_statuses.specs.declared.levels.Status.TheVariants.{No, Maybe, Yes}
use Rattle.cfa_statuses.specs.Status.{lesser, greater}
use Rattle.cfa_states.specs.Passes.{visit_status}
use Rattle.cfa_laws.specs.Statuses.{Within, no_no, no_maybe, yes_maybe, yes_yes}
use Rattle.cfa_laws.specs.lemmas.Within.{within_swapped, within_lesser, within_greater}

pub within_visit : {r w s v m n : Status} → Within r w → Within s v → Within m n → Within (visit_status r s m) (visit_status w v n)
within_visit p q o = within_lesser p (within_lesser q (within_swapped o))

-- ---- the walk alone

-- what a walk alone may do to a status
pub data Lifts : Status → Status → Type 0 where
  stays : {s : Status} → Lifts s s
  lifts : Lifts No Maybe

pub lift_then : {a b c : Status} → Lifts a b → Lifts b c → Lifts a c
lift_then stays q = q
lift_then lifts stays = lifts

pub within_lift : {r w v : Status} → Within r w → Lifts w v → Within r v
within_lift no_no stays = no_no
within_lift no_no lifts = no_maybe
within_lift no_maybe stays = no_maybe
within_lift yes_maybe stays = yes_maybe
within_lift yes_yes stays = yes_yes

pub lift_maybe : (s : Status) → Lifts s (greater Maybe s)
lift_maybe No = lifts
lift_maybe Maybe = stays
lift_maybe Yes = stays

-- a visit in an activation that may come or not comes so, if it does
pub maybe_visit : (guard act mark : Status) → act ≡ Maybe → (visit_status guard act mark ≡ No) ⊎ (visit_status guard act mark ≡ Maybe)
maybe_visit No act mark is = inl refl
maybe_visit Maybe No mark is = absurd (cc)
maybe_visit Maybe Yes mark is = absurd (cc)
maybe_visit Maybe Maybe No is = inr refl
maybe_visit Maybe Maybe Maybe is = inr refl
maybe_visit Maybe Maybe Yes is = inl refl
maybe_visit Yes No mark is = absurd (cc)
maybe_visit Yes Yes mark is = absurd (cc)
maybe_visit Yes Maybe No is = inr refl
maybe_visit Yes Maybe Maybe is = inr refl
maybe_visit Yes Maybe Yes is = inl refl

-- so does one whose guard may hold or not
pub maybe_guard : (act mark : Status) → (visit_status Maybe act mark ≡ No) ⊎ (visit_status Maybe act mark ≡ Maybe)
maybe_guard No mark = inl refl
maybe_guard Maybe No = inr refl
maybe_guard Maybe Maybe = inr refl
maybe_guard Maybe Yes = inl refl
maybe_guard Yes No = inr refl
maybe_guard Yes Maybe = inr refl
maybe_guard Yes Yes = inl refl

-- a raise to Maybe at most in the walk alone
pub within_up : (b : Bool) (s : Status) {r w : Status} → Within r w → Within r (elim b [ true ↦ greater (lesser Maybe s) w | false ↦ w ])
within_up false s q = q
within_up true No q = q
within_up true Maybe no_no = no_maybe
within_up true Maybe no_maybe = no_maybe
within_up true Maybe yes_maybe = yes_maybe
within_up true Maybe yes_yes = yes_yes
within_up true Yes no_no = no_maybe
within_up true Yes no_maybe = no_maybe
within_up true Yes yes_maybe = yes_maybe
within_up true Yes yes_yes = yes_yes

-- a raise in both
pub within_if : (b : Bool) {r s g w : Status} → Within r s → Within g w → Within (elim b [ true ↦ greater r g | false ↦ g ]) (elim b [ true ↦ greater s w | false ↦ w ])
within_if true v q = within_greater v q
within_if false v q = q

-- a run decides
pub decided : {r w : Status} → Within r w → (r ≡ Maybe → ⊥)
decided no_no e = cc
decided no_maybe e = cc
decided yes_maybe e = cc
decided yes_yes e = cc
