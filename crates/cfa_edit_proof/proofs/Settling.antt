-- A quiet script settles: each of its edits brings about what it is to, no later one undoes it, and lines that are as all
-- edits leave them are left by the script.
use Rattle.std.proofs.Common.{◌≡◌, ℕ, ◌+◌, ◌-◌, ◌<◌, ◌≤◌, suc, false, List, [], ◌∷◌, length, get_or, All, Result, Ok, Err, refl, sym, ap, ◌∙◌, subst, arith, inl, inr, IsUtf8, slice_get}
use Rattle.std.proofs.lemmas.Bool.{false_from_ne_true}
use Rattle.std.proofs.lemmas.List.Elements.{All-nil, All-cons, All-head, All-tail, All-weaker}
use Rattle.std.proofs.lemmas.Option.{slice_get-get_or}
use Rattle.cfa_edits.specs.declared.edits.Edit.{Edit}
use Rattle.cfa_edits.specs.declared.edits.EditErr.{EditErr}
use Rattle.cfa_edits.specs.Edits.{Lines, unless_refused, edited, edited_by}
use Rattle.cfa_edits.specs.Scripts.{AreInOrder, AreEdits, rank}
use Rattle.cfa_edit_proof.specs.Clashes.{clashes_alone, clash_by}
use Rattle.cfa_edit_proof.specs.Quiet.{IsNumbered, IsQuiet, HasTexts, Settles, QuietSettles}
use Rattle.cfa_edit_proof.proofs.Kept.{Kept, IsSafe, kept_stays, made}
use Rattle.cfa_edit_proof.proofs.Later.{Apart, Carries, lines_hold, carries_utf8, brings_about, leaves}

abbrev Follows : Edit → Edit → Type 0
Follows first later = IsSafe later × (rank first ≤ rank later) × Apart first later

-- no edit clashes with itself or with a later one
abbrev pub AreSafe : List Edit → Type 0
AreSafe [] = Unit {0}
AreSafe (edit ∷ edits) = IsSafe edit × All (Follows edit) edits × AreSafe edits

-- ---- from numbers of edits to lists of them

numbered : (script : List Edit) (k : ℕ) (d : Edit) → k < length script → IsNumbered script (k + 1) (get_or script k d)
numbered script k d inside =
    let same : k ≡ k + 1 - 1 = omega arith in
    record { counted = omega arith; is = ap (λ (i : ℕ). slice_get script i) (sym same) ∙ slice_get-get_or script k d inside }

none_alone : (script : List Edit) → IsQuiet script → All (λ edit. clashes_alone edit ≡ false) script
none_alone script quiet k d inside =
    false_from_ne_true (clashes_alone (get_or script k d))
    (λ holds. quiet (record { first = k + 1; second = k + 1; rule = 1 })
    (inl (get_or script k d, record { place = numbered script k d inside; same = refl; rule = refl; holds = holds })))

abbrev PairsApart : List Edit → Type 0
PairsApart script = (i j : ℕ) (d : Edit) → i < j → j < length script → Apart (get_or script i d) (get_or script j d)

none_of_two : (script : List Edit) → IsQuiet script → PairsApart script
none_of_two script quiet i j d order inside rule =
    false_from_ne_true (clash_by rule (get_or script i d) (get_or script j d))
    (λ holds. quiet (record { first = i + 1; second = j + 1; rule = rule })
    (inr (
      get_or script i d,
      get_or script j d,
      record { place = numbered script i d (omega arith); later = numbered script j d inside; order = omega arith; holds = holds },
    )))

order_tail : (edit : Edit) (edits : List Edit) → AreInOrder (edit ∷ edits) → AreInOrder edits
order_tail edit [] order = tt
order_tail edit (next ∷ more) order = order.1

ranked : (n : ℕ) (edit : Edit) (edits : List Edit) → n ≤ rank edit → AreInOrder (edit ∷ edits) → All (λ later. n ≤ rank later) edits
ranked n edit [] low order = All-nil (λ later. n ≤ rank later)
ranked n edit (next ∷ more) low order =
    let step : rank edit ≤ rank next = order.0 in
    let here : n ≤ rank next = omega (arith, low, step) in
    All-cons (λ later. n ≤ rank later) next more here (ranked n next more here order.1)

are_safe : (script : List Edit) → All IsSafe script → PairsApart script → AreInOrder script → AreSafe script
are_safe [] safe pairs order = tt
are_safe (edit ∷ edits) safe pairs order =
    let rest = All-tail IsSafe edit edits safe in
    let ranks = ranked (rank edit) edit edits (omega arith) order in (
      All-head IsSafe edit edits safe,
      (λ k d inside. (rest k d inside, ranks k d inside, pairs 0 (suc k) d (omega arith) (omega arith))),
      are_safe edits rest (λ i j d before inside. pairs (suc i) (suc j) d (omega arith) (omega arith)) (order_tail edit edits order),
    )

pub safe_script : (script : List Edit) → AreEdits script → All HasTexts script → IsQuiet script → AreSafe script
safe_script script edits texts quiet =
    let alone = none_alone script quiet in
    are_safe script (λ k d inside. record { edit_is = edits.each k d inside; texts = texts k d inside; alone = alone k d inside })
    (none_of_two script quiet) edits.order

-- ---- one edit after the other

first_made : (next : Lines → Result Lines EditErr) (found : Result Lines EditErr) (left : Lines) → unless_refused next found ≡ Ok left
    → (between : Lines) × (found ≡ Ok between) × (next between ≡ Ok left)
first_made next (Err refused) left e = absurd cc
first_made next (Ok between) left e = (between, refl, e)

carried : (edit : Edit) (edits : List Edit) (lines left : Lines) → IsSafe edit → All (Follows edit) edits → All IsUtf8 lines → Kept edit lines → edited edits lines ≡ Ok left → Kept edit left
carried edit [] lines left safe later texts kept e = subst (Kept edit) (made lines left e) kept
carried edit (next ∷ more) lines left safe later texts kept e =
    let step = first_made (edited more) (edited_by next lines) left e in
    let follows = All-head (Follows edit) next more later in
    carried edit more step.0 left safe (All-tail (Follows edit) next more later)
    (lines_hold IsUtf8 next lines step.0 (carries_utf8 next follows.0) texts step.1)
    (leaves edit next lines step.0 safe follows.0 follows.1 follows.2 texts kept step.1) step.2

-- what holds of each line at first holds of those that are left
pub all_hold : (Q : List ℕ → Type 0) → ((edit : Edit) → IsSafe edit → Carries Q edit) → (edits : List Edit) (lines left : Lines) → AreSafe edits → All Q lines → edited edits lines ≡ Ok left → All Q left
all_hold Q carries [] lines left safe all e = subst (All Q) (made lines left e) all
all_hold Q carries (edit ∷ edits) lines left safe all e =
    let step = first_made (edited edits) (edited_by edit lines) left e in
    all_hold Q carries edits step.0 left safe.2 (lines_hold Q edit lines step.0 (carries edit safe.0) all step.1) step.2

all_kept : (edits : List Edit) (lines left : Lines) → AreSafe edits → All IsUtf8 lines → edited edits lines ≡ Ok left → All (λ edit. IsSafe edit × Kept edit left) edits
all_kept [] lines left safe texts e = All-nil (λ edit. IsSafe edit × Kept edit left)
all_kept (edit ∷ edits) lines left safe texts e =
    let step = first_made (edited edits) (edited_by edit lines) left e in
    let between = lines_hold IsUtf8 edit lines step.0 (carries_utf8 edit safe.0) texts step.1 in
    All-cons (λ one. IsSafe one × Kept one left) edit edits
    (safe.0, carried edit edits step.0 left safe.0 safe.1 between (brings_about edit lines step.0 safe.0 texts step.1) step.2)
    (all_kept edits step.0 left safe.2 between step.2)

all_stay : (edits : List Edit) (left : Lines) → All (λ edit. edited_by edit left ≡ Ok left) edits → edited edits left ≡ Ok left
all_stay [] left all = refl
all_stay (edit ∷ edits) left all =
    ap (unless_refused (edited edits)) (All-head (λ one. edited_by one left ≡ Ok left) edit edits all)
    ∙ all_stay edits left (All-tail (λ one. edited_by one left ≡ Ok left) edit edits all)

pub safe_settles : (script : List Edit) → AreSafe script → Settles script
safe_settles script safe lines left texts e =
    let lasts = all_hold IsUtf8 carries_utf8 script lines left safe texts e in
    all_stay script left
    (All-weaker (λ edit. IsSafe edit × Kept edit left) (λ edit. edited_by edit left ≡ Ok left) (λ edit is. kept_stays edit left is.0 lasts is.1) script
    (all_kept script lines left safe texts e))

pub quiet_settles : QuietSettles
quiet_settles script edits texts quiet = safe_settles script (safe_script script edits texts quiet)
