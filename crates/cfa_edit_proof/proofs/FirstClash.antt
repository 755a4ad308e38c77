-- The least clash of a script, from what is found place by place.
use Rattle.std.proofs.Common.{◌≡◌, ℕ, ◌+◌, ◌-◌, ◌<◌, ◌≤◌, Bool, true, false, ◌&&◌, ◌||◌, List, length, get_or, None, Some, refl, sym, ap, ◌∙◌, subst, arith, ⊎_elim, ◌⊎◌, inl, inr, nat_eq, slice_get}
use Rattle.std.proofs.lemmas.Bool.{true≢false, false≢true, both_ways, and_parts, or_cases, or_left, eqb-true, cases_lt, cases_order}
use Rattle.std.proofs.lemmas.Option.{same_Some, slice_get_within, get_or_from_slice_get}
use Rattle.std.specs.List.{AllWithin}
use Rattle.cfa_edits.specs.declared.edits.Edit.{Edit}
use Rattle.cfa_edits.specs.declared.edits.Edit.TheVariants.{Delete, Field, Insert, Replace}
use Rattle.cfa_edits.specs.declared.edits.Spot.{Spot}
use Rattle.cfa_edit_proof.specs.declared.clashes.Clash.{Clash}
use Rattle.cfa_edit_proof.specs.Clashes.{clashes_alone, clash_by, deletes_inserted, replaces_inserted, changes_matched, replaces_again, edits_inserted}
use Rattle.cfa_edit_proof.specs.Quiet.{IsNumbered, IsClashAlone, IsClashOfTwo, IsClash, IsAtMost, IsQuiet, IsFirstClash}
use Rattle.cfa_edit_proof.specs.Steps.{clash_of_two, rule_between, is_replace, NoneClash, IsFirstPlace, IsFirstOf}

-- ---- the one rule of two edits

pub rule_holds : (first second : Edit) → clash_of_two first second ≡ true → clash_by (rule_between first second) first second ≡ true
rule_holds (Delete _) (Delete _) h = h
rule_holds (Delete _) (Field _ _ _ _) h = h
rule_holds (Delete _) (Insert _ _) h = h
rule_holds (Delete _) (Replace _ _ _) h = h
rule_holds (Field _ _ _ _) (Delete _) h = h
rule_holds (Field _ _ _ _) (Field _ _ _ _) h = h
rule_holds (Field _ _ _ _) (Insert _ _) h = h
rule_holds (Field _ _ _ _) (Replace _ _ _) h = h
rule_holds (Insert _ _) (Delete _) h = h
rule_holds (Insert _ _) (Field _ _ _ _) h = h
rule_holds (Insert _ _) (Insert _ _) h = h
rule_holds (Insert _ _) (Replace _ _ _) h = h
rule_holds (Replace _ _ _) (Delete _) h = h
rule_holds (Replace _ _ _) (Field _ _ _ _) h = h
rule_holds (Replace _ _ _) (Insert _ _) h = h
rule_holds (Replace _ _ _) (Replace _ _ _) h = h

-- one of the five rules
abbrev ByRule : ℕ → (two three four five six : Bool) → Type 0
ByRule rule two three four five six =
    ((rule ≡ 2) × (two ≡ true)) ⊎ (((rule ≡ 3) × (three ≡ true)) ⊎ (((rule ≡ 4) × (four ≡ true)) ⊎ (((rule ≡ 5) × (five ≡ true)) ⊎ ((rule ≡ 6) × (six ≡ true)))))

rule_is : (rule n : ℕ) (x : Bool) → (nat_eq rule n && x) ≡ true → (rule ≡ n) × (x ≡ true)
rule_is rule n x h = let both = and_parts (nat_eq rule n) x h in (eqb-true rule n both.0, both.1)

by_rule : (rule : ℕ) (two three four five six : Bool)
    → ((nat_eq rule 2 && two) || ((nat_eq rule 3 && three) || ((nat_eq rule 4 && four) || ((nat_eq rule 5 && five) || (nat_eq rule 6 && six))))) ≡ true
    → ByRule rule two three four five six
by_rule rule two three four five six h =
    ⊎_elim (λ a. inl (rule_is rule 2 two a))
    (λ rest. ⊎_elim (λ a. inr (inl (rule_is rule 3 three a)))
    (λ rest. ⊎_elim (λ a. inr (inr (inl (rule_is rule 4 four a))))
    (λ rest. ⊎_elim (λ a. inr (inr (inr (inl (rule_is rule 5 five a)))))
    (λ a. inr (inr (inr (inr (rule_is rule 6 six a)))))
    (or_cases (nat_eq rule 5 && five) (nat_eq rule 6 && six) rest))
    (or_cases (nat_eq rule 4 && four) ((nat_eq rule 5 && five) || (nat_eq rule 6 && six)) rest))
    (or_cases (nat_eq rule 3 && three) ((nat_eq rule 4 && four) || ((nat_eq rule 5 && five) || (nat_eq rule 6 && six))) rest))
    (or_cases (nat_eq rule 2 && two) ((nat_eq rule 3 && three) || ((nat_eq rule 4 && four) || ((nat_eq rule 5 && five) || (nat_eq rule 6 && six)))) h)

none_of : {P : Type 0} → false ≡ true → P
none_of e = absurd (false≢true e)

only_two : (rule : ℕ) (x : Bool) → ByRule rule x false false false false → (2 ≡ rule) × (x ≡ true)
only_two rule x h =
    ⊎_elim (λ a. (sym a.0, a.1)) (λ r. ⊎_elim (λ a. none_of a.1) (λ r. ⊎_elim (λ a. none_of a.1) (λ r. ⊎_elim (λ a. none_of a.1) (λ a. none_of a.1) r) r) r) h

only_three : (rule : ℕ) (x : Bool) → ByRule rule false x false false false → (3 ≡ rule) × (x ≡ true)
only_three rule x h =
    ⊎_elim (λ a. none_of a.1) (λ r. ⊎_elim (λ a. (sym a.0, a.1)) (λ r. ⊎_elim (λ a. none_of a.1) (λ r. ⊎_elim (λ a. none_of a.1) (λ a. none_of a.1) r) r) r) h

only_four : (rule : ℕ) (x : Bool) → ByRule rule false false x false false → (4 ≡ rule) × (x ≡ true)
only_four rule x h =
    ⊎_elim (λ a. none_of a.1) (λ r. ⊎_elim (λ a. none_of a.1) (λ r. ⊎_elim (λ a. (sym a.0, a.1)) (λ r. ⊎_elim (λ a. none_of a.1) (λ a. none_of a.1) r) r) r) h

only_five : (rule : ℕ) (x : Bool) → ByRule rule false false false x false → (5 ≡ rule) × (x ≡ true)
only_five rule x h =
    ⊎_elim (λ a. none_of a.1) (λ r. ⊎_elim (λ a. none_of a.1) (λ r. ⊎_elim (λ a. none_of a.1) (λ r. ⊎_elim (λ a. (sym a.0, a.1)) (λ a. none_of a.1) r) r) r) h

only_six : (rule : ℕ) (x : Bool) → ByRule rule false false false false x → (6 ≡ rule) × (x ≡ true)
only_six rule x h =
    ⊎_elim (λ a. none_of a.1) (λ r. ⊎_elim (λ a. none_of a.1) (λ r. ⊎_elim (λ a. none_of a.1) (λ r. ⊎_elim (λ a. none_of a.1) (λ a. (sym a.0, a.1)) r) r) r) h

cases_by : (rule : ℕ) (first second : Edit) → clash_by rule first second ≡ true
    → ByRule rule (deletes_inserted first second) (replaces_inserted first second) (changes_matched first second) (replaces_again first second) (edits_inserted first second)
cases_by rule first second h =
    by_rule rule (deletes_inserted first second) (replaces_inserted first second) (changes_matched first second) (replaces_again first second) (edits_inserted first second) h

pub rule_only : (first second : Edit) (rule : ℕ) → clash_by rule first second ≡ true → (rule_between first second ≡ rule) × (clash_of_two first second ≡ true)
rule_only (Delete p) (Delete q) rule h = only_four rule false (cases_by rule (Delete p) (Delete q) h)
rule_only (Delete p) (Field q s n v) rule h = only_four rule true (cases_by rule (Delete p) (Field q s n v) h)
rule_only (Delete p) (Insert b s) rule h =
    let found = only_two rule (deletes_inserted (Delete p) (Insert b s)) (cases_by rule (Delete p) (Insert b s) h) in (found.0, or_left (deletes_inserted (Delete p) (Insert b s)) false found.1)
rule_only (Delete p) (Replace q v a) rule h = only_four rule true (cases_by rule (Delete p) (Replace q v a) h)
rule_only (Field p s n v) (Delete q) rule h = only_four rule false (cases_by rule (Field p s n v) (Delete q) h)
rule_only (Field p s n v) (Field q t m w) rule h = only_four rule true (cases_by rule (Field p s n v) (Field q t m w) h)
rule_only (Field p s n v) (Insert b t) rule h = only_six rule (edits_inserted (Field p s n v) (Insert b t)) (cases_by rule (Field p s n v) (Insert b t) h)
rule_only (Field p s n v) (Replace q w a) rule h = only_four rule true (cases_by rule (Field p s n v) (Replace q w a) h)
rule_only (Insert b s) (Delete q) rule h = only_three rule false (cases_by rule (Insert b s) (Delete q) h)
rule_only (Insert b s) (Field q t n v) rule h = only_three rule false (cases_by rule (Insert b s) (Field q t n v) h)
rule_only (Insert b s) (Insert c t) rule h = only_three rule false (cases_by rule (Insert b s) (Insert c t) h)
rule_only (Insert b s) (Replace q v a) rule h =
    let found = only_three rule (replaces_inserted (Insert b s) (Replace q v a)) (cases_by rule (Insert b s) (Replace q v a) h) in (found.0, or_left (replaces_inserted (Insert b s) (Replace q v a)) false found.1)
rule_only (Replace p v a) (Delete q) rule h = only_five rule false (cases_by rule (Replace p v a) (Delete q) h)
rule_only (Replace p v a) (Field q s n w) rule h = only_five rule false (cases_by rule (Replace p v a) (Field q s n w) h)
rule_only (Replace p v a) (Insert b s) rule h = only_five rule false (cases_by rule (Replace p v a) (Insert b s) h)
rule_only (Replace p v a) (Replace q w b) rule h =
    let found = only_five rule (replaces_again (Replace p v a) (Replace q w b)) (cases_by rule (Replace p v a) (Replace q w b) h) in (found.0, or_left (replaces_again (Replace p v a) (Replace q w b)) false found.1)

-- ---- inserts before the first replace

pub no_replace_clashes : (block : List (List ℕ)) (spot : Spot) (other : Edit) → is_replace other ≡ false → clash_of_two (Insert block spot) other ≡ false
no_replace_clashes block spot (Delete _) h = refl
no_replace_clashes block spot (Field _ _ _ _) h = refl
no_replace_clashes block spot (Insert _ _) h = refl
no_replace_clashes block spot (Replace _ _ _) h = absurd (true≢false h)

-- ---- the clashes of one edit

-- the edit with a number is the one at the place before
same_edit : (script : List Edit) (number place : ℕ) (edit other : Edit) → IsNumbered script number other → number ≡ place + 1 → slice_get script place ≡ Some edit → other ≡ edit
same_edit script number place edit other numbered at is =
    let before : number - 1 ≡ place = omega (arith, at) in
    same_Some other edit (sym numbered.is ∙ ap (λ (i : ℕ). slice_get script i) before ∙ is)

pub numbered_at : (script : List Edit) (place : ℕ) (edit : Edit) → slice_get script place ≡ Some edit → IsNumbered script (place + 1) edit
numbered_at script place edit is =
    let before : place + 1 - 1 ≡ place = omega arith in
    record { counted = omega arith; is = ap (λ (i : ℕ). slice_get script i) before ∙ is }

-- none of two, if none of the later edits clashes
unclashed : (script : List Edit) (place to : ℕ) (edit : Edit) → slice_get script place ≡ Some edit → NoneClash edit script (place + 1) to
    → (clash : Clash) (first second : Edit) → IsClashOfTwo script clash first second → clash.first ≡ place + 1 → clash.second ≤ to → ⊥
unclashed script place to edit is none clash first second two at within =
    let order = two.order in
    let same = same_edit script clash.first place edit first two.place at is in
    let there : get_or script (clash.second - 1) second ≡ second = get_or_from_slice_get script (clash.second - 1) second second two.later.is in
    let apart : clash_of_two edit second ≡ false =
    subst (λ (other : Edit). clash_of_two edit other ≡ false) there (none (clash.second - 1) second (omega (arith, order, at)) (omega (arith, order, at, within))) in
    both_ways (clash_of_two edit second) apart
    (subst (λ (one : Edit). clash_of_two one second ≡ true) same (rule_only first second clash.rule two.holds).1)

inside : (script : List Edit) (number : ℕ) (edit : Edit) → IsNumbered script number edit → number ≤ length script
inside script number edit numbered = let lt = slice_get_within script (number - 1) edit numbered.is in omega (arith, lt)

no_alone : (script : List Edit) (place : ℕ) (edit : Edit) → slice_get script place ≡ Some edit → clashes_alone edit ≡ false
    → (clash : Clash) (other : Edit) → IsClashAlone script clash other → clash.first ≡ place + 1 → ⊥
no_alone script place edit is safe clash other alone at =
    both_ways (clashes_alone edit) safe
    (subst (λ (one : Edit). clashes_alone one ≡ true) (same_edit script clash.first place edit other alone.place at is) alone.holds)

pub none_first : (script : List Edit) (place : ℕ) (edit : Edit) → slice_get script place ≡ Some edit → clashes_alone edit ≡ false
    → IsFirstPlace edit script (place + 1) None → IsFirstOf script (place + 1) None
none_first script place edit is safe none clash (inl (other, alone)) at = no_alone script place edit is safe clash other alone at
none_first script place edit is safe none clash (inr (first, second, two)) at =
    unclashed script place (length script) edit is none clash first second two at (inside script clash.second second two.later)

pub alone_first : (script : List Edit) (place : ℕ) (edit : Edit) (clash : Clash) → slice_get script place ≡ Some edit → clashes_alone edit ≡ true
    → clash.first ≡ place + 1 → clash.second ≡ place + 1 → clash.rule ≡ 1 → IsFirstOf script (place + 1) (Some clash)
alone_first script place edit clash is holds first second rule = (
  inl (
    edit,
    record {
      place = subst (λ (n : ℕ). IsNumbered script n edit) (sym first) (numbered_at script place edit is);
      same = second ∙ sym first;
      rule = rule;
      holds = holds;
    },
  ),
  first,
  least,
)
  where
    least : (other : Clash) → IsClash script other → other.first ≡ place + 1 → IsAtMost clash other
    least other (inl (one, alone)) at =
        let same = alone.same in
        let other_rule = alone.rule in
        inr (first ∙ sym at, inr (second ∙ sym (same ∙ at), omega (arith, rule, other_rule)))
    least other (inr (one, two, both)) at = let order = both.order in inr (first ∙ sym at, inl (omega (arith, second, order, at)))

pub two_first : (script : List Edit) (place second_place : ℕ) (edit second : Edit) (clash : Clash) → slice_get script place ≡ Some edit → clashes_alone edit ≡ false
    → slice_get script second_place ≡ Some second → IsFirstPlace edit script (place + 1) (Some second_place)
    → clash.first ≡ place + 1 → clash.second ≡ second_place + 1 → clash.rule ≡ rule_between edit second → IsFirstOf script (place + 1) (Some clash)
two_first script place second_place edit second clash is safe there found first number rule = (
  inr (
    edit,
    second,
    record {
      place = subst (λ (n : ℕ). IsNumbered script n edit) (sym first) (numbered_at script place edit is);
      later = subst (λ (n : ℕ). IsNumbered script n second) (sym number) (numbered_at script second_place second there);
      order = omega (arith, first, number, from);
      holds = ap (λ (r : ℕ). clash_by r edit second) rule ∙ rule_holds edit second holds;
    },
  ),
  first,
  least,
)
  where
    from : place + 1 ≤ second_place
    from = found.0

    holds : clash_of_two edit second ≡ true
    holds =
        subst (λ (other : Edit). clash_of_two edit other ≡ true) (get_or_from_slice_get script second_place second second there) (found.2 second)

    least : (other : Clash) → IsClash script other → other.first ≡ place + 1 → IsAtMost clash other
    least other (inl (one, alone)) at = absurd (no_alone script place edit is safe other one alone at)
    least other (inr (one, two, both)) at =
        ⊎_elim
        (λ (same : clash.second ≡ other.second).
        let edit_is = same_edit script other.first place edit one both.place at is in
        let second_is = same_edit script other.second second_place second two both.later (sym same ∙ number) there in
        let only : rule_between one two ≡ other.rule = (rule_only one two other.rule both.holds).0 in
        let equal : clash.rule ≡ other.rule =
        rule ∙ ap (λ (e : Edit). rule_between e second) (sym edit_is) ∙ ap (λ (e : Edit). rule_between one e) (sym second_is) ∙ only in
        inr (first ∙ sym at, inr (same, omega (arith, equal))))
        (λ rest. ⊎_elim
        (λ (later : clash.second < other.second). inr (first ∙ sym at, inl later))
        (λ (earlier : other.second < clash.second).
        absurd (unclashed script place second_place edit is found.3 other one two both at (omega (arith, earlier, number))))
        rest)
        (cases_order clash.second other.second)

-- ---- the script

pub counted : (script : List Edit) (clash : Clash) → IsClash script clash → 0 < clash.first
counted script clash (inl (edit, alone)) = let at = alone.place.counted in omega (arith, at)
counted script clash (inr (first, second, two)) = let at = two.place.counted in omega (arith, at)

pub within : (script : List Edit) (clash : Clash) → IsClash script clash → clash.first ≤ length script
within script clash (inl (edit, alone)) = inside script clash.first edit alone.place
within script clash (inr (first, second, two)) = inside script clash.first first two.place

pub goes_on : (script : List Edit) (place : ℕ) → ((clash : Clash) → IsClash script clash → place < clash.first) → IsFirstOf script (place + 1) None
    → (clash : Clash) → IsClash script clash → place + 1 < clash.first
goes_on script place none here clash is =
    let past = none clash is in
    ⊎_elim
    (λ (same : clash.first ≡ place + 1). absurd (here clash is same))
    (λ rest. ⊎_elim (λ (below : clash.first < place + 1). absurd (omega (arith, past, below))) (λ (above : place + 1 < clash.first). above) rest)
    (cases_order clash.first (place + 1))

pub is_least : (script : List Edit) (place : ℕ) (clash : Clash) → ((other : Clash) → IsClash script other → place < other.first) → IsFirstOf script (place + 1) (Some clash)
    → IsFirstClash script (Some clash)
is_least script place clash none found = (found.0, least) where
  least : (other : Clash) → IsClash script other → IsAtMost clash other
  least other is =
      let past = none other is in
      ⊎_elim
      (λ (same : other.first ≡ place + 1). found.2 other is same)
      (λ rest. ⊎_elim
      (λ (below : other.first < place + 1). absurd (omega (arith, past, below)))
      (λ (above : place + 1 < other.first). let first : clash.first ≡ place + 1 = found.1 in inl (omega (arith, first, above)))
      rest)
      (cases_order other.first (place + 1))

pub none_left : (script : List Edit) (place : ℕ) → length script ≤ place → ((clash : Clash) → IsClash script clash → place < clash.first) → IsQuiet script
none_left script place all none clash is = let past = none clash is in let most = within script clash is in omega (arith, all, past, most)

-- ---- where the search begins

-- what stands before the place from which an insert is compared is no replace
pub passed_over : (block : List (List ℕ)) (spot : Spot) (edits : List Edit) (from replaces start to : ℕ) → AllWithin (λ edit. is_replace edit ≡ false) edits 0 replaces
    → (start ≤ from) ⊎ (start ≤ replaces) → NoneClash (Insert block spot) edits start to → NoneClash (Insert block spot) edits from to
passed_over block spot edits from replaces start to before begins none k d low high =
    ⊎_elim
    (λ (passed : k < start).
    ⊎_elim
    (λ (here : start ≤ from). absurd (omega (arith, passed, here, low)))
    (λ (later : start ≤ replaces). no_replace_clashes block spot (get_or edits k d) (before k d (omega arith) (omega (arith, passed, later))))
    begins)
    (λ (behind : start ≤ k). none k d behind high)
    (cases_lt k start)
