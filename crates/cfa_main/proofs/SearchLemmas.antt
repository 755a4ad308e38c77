-- What a search finds, as it is found and told, and that it is one thing alone.
use Rattle.std.proofs.Common.{◌≡◌, inl, inr, ℕ, ◌+◌, ◌<◌, Bool, true, false, if◌then◌else◌, List, [], ◌∷◌, ◌++◌, All, cond, filter, get_or, length, map, take, Option, Some, None, is_some, Result, Ok, Err, IfOk, IfErr, refl, sym, ap, subst, ◌∙◌, append-nil, arith}
use Rattle.std.specs.List.{list_any}
use Rattle.std.specs.Prelude.{unwrap_or}
use Rattle.std.proofs.lemmas.List.{map-append, take_more}
use Rattle.std.proofs.lemmas.List.Elements.{All-nil, All-head, All-tail, All-push, filter-append}
use Rattle.cfa_base.specs.Shown.{Shown, followed, Follows}
use Rattle.cfa_outside.specs.Sinks.{adds_bytes}
use Rattle.cfa_outside.specs.Sites.{Told}
use Rattle.cfa_output.specs.declared.ends.Object.TheVariants.{Inputs, Site, Sink}
use Rattle.cfa_output.specs.declared.ends.Stop.{Stop}
use Rattle.cfa_output.specs.declared.ends.Stop.TheVariants.{Outside, Memory, Visits, Pattern}
use Rattle.cfa_edits.specs.declared.edits.Edit.{Edit}
use Rattle.cfa_edit_proof.specs.declared.clashes.Clash.{Clash}
use Rattle.cfa_edit_proof.specs.Quiet.{IsAtMost, IsFirstClash}
use Rattle.cfa_resolve.specs.declared.instances.Instance.{Instance}
use Rattle.cfa_states.specs.declared.walks.Walk.{Walk}
use Rattle.cfa_states.specs.Levels.{GoesTo}
use Rattle.cfa_states.specs.Passes.{Course, goes, too_large, run}
use Rattle.cfa_states.specs.Tellers.{open_walk}
use Rattle.cfa_states.specs.Views.{Setting}
use Rattle.cfa_states.specs.Walks.{walked}
use Rattle.cfa_agent.specs.lemmas.Hosts.{adds_none}
use Rattle.cfa_main.specs.declared.searching.Found.{Found}
use Rattle.cfa_main.specs.declared.ends.End.{End}
use Rattle.cfa_main.specs.declared.ends.End.TheVariants.{Ended, InConflict}
use Rattle.cfa_main.specs.Done.{Done, IsDone, IsPut, all_lines, status_of}
use Rattle.cfa_main.specs.Searches.{edits_file, script_of, script_of_work, seen_finding, Finding, has_clash, AreFindings, search_text, search_end, searched, SearchDoes, IsFindingsText, IsSearchText, TellsFindings, TellsSearch}
use Rattle.cfa_main.specs.Stages.{StopsPutting, PolicySearched}

-- ---- one first clash

same_clash : (a b : Clash) → IsAtMost a b → IsAtMost b a → a ≡ b
same_clash a b (inl less) (inl more) = absurd (omega (arith, less, more))
same_clash a b (inl less) (inr (first, more)) = absurd (omega (arith, less, first))
same_clash a b (inr (first, less)) (inl more) = absurd (omega (arith, first, more))
same_clash a b (inr (first, inl less)) (inr (other, inl more)) = absurd (omega (arith, less, more))
same_clash a b (inr (first, inl less)) (inr (other, inr (second, more))) = absurd (omega (arith, less, second))
same_clash a b (inr (first, inr (second, less))) (inr (other, inl more)) = absurd (omega (arith, second, more))
same_clash a b (inr (first, inr (second, less))) (inr (other, inr (third, more))) =
    let rule : a.rule ≡ b.rule = omega (arith, less, more) in
    λ i. record { first = first i; second = second i; rule = rule i }

one_clash : (script : List Edit) (a b : Option Clash) → IsFirstClash script a → IsFirstClash script b → a ≡ b
one_clash script None None p q = refl
one_clash script None (Some b) p q = absurd (p b q.0)
one_clash script (Some a) None p q = absurd (q a p.0)
one_clash script (Some a) (Some b) p q = ap Some (same_clash a b (p.1 b q.0) (q.1 a p.0))

-- ---- one search

abbrev instance_of : Finding → Instance
instance_of finding = finding.instance

abbrev HasFirst : Finding → Type 0
HasFirst finding = IsFirstClash (script_of finding.instance) finding.clash

abbrev behind : List Instance → List Instance
behind [] = []
behind (x ∷ xs) = xs

abbrev head_or : Instance → List Instance → Instance
head_or d [] = d
head_or d (x ∷ xs) = x

abbrev IsFull : List Instance → Type 0
IsFull [] = ⊥
IsFull (x ∷ xs) = Unit {0}

same_finding : (f g : Finding) → f.instance ≡ g.instance → HasFirst f → HasFirst g → f ≡ g
same_finding f g same p q =
    let clash : f.clash ≡ g.clash = one_clash (script_of g.instance) f.clash g.clash (subst (λ (x : Instance). IsFirstClash (script_of x) f.clash) same p) q in
    λ i. record { instance = same i; clash = clash i }

same_findings : (fs gs : List Finding) → map instance_of fs ≡ map instance_of gs → All HasFirst fs → All HasFirst gs → fs ≡ gs
same_findings [] [] same p q = refl
same_findings [] (g ∷ gs) same p q = absurd (subst IsFull (sym same) tt)
same_findings (f ∷ fs) [] same p q = absurd (subst IsFull same tt)
same_findings (f ∷ fs) (g ∷ gs) same p q =
    let one = same_finding f g (ap (head_or f.instance) same) (All-head HasFirst f fs p) (All-head HasFirst g gs q) in
    let more = same_findings fs gs (ap behind same) (All-tail HasFirst f fs p) (All-tail HasFirst g gs q) in
    λ i. one i ∷ more i

pub search_one : (setting : Setting) (course : Course) (a b : Done) → SearchDoes setting course a → SearchDoes setting course b → a ≡ b
search_one setting (too_large h) a b d e = absurd d
search_one setting (goes h) a b d e =
    let p : AreFindings (walked setting h).instances d.0 = d.1 in
    let q : AreFindings (walked setting h).instances e.0 = e.1 in
    d.2 ∙ ap searched (same_findings d.0 e.0 (p.each ∙ sym q.each) p.first q.first) ∙ sym e.2

-- ---- what was found

pub none_found : AreFindings [] []
none_found = record { each = refl; first = All-nil HasFirst }

pub one_more : (instances : List Instance) (findings : List Finding) (instance : Instance) (clash : Option Clash) → AreFindings instances findings →
    edits_file instance ≡ true → IsFirstClash (script_of instance) clash → AreFindings (instances ++ instance ∷ []) (findings ++ record { instance = instance; clash = clash } ∷ [])
one_more instances findings instance clash are edits first = record {
  each = map-append instance_of findings (record { instance = instance; clash = clash } ∷ []) ∙ ap (λ (xs : List Instance). xs ++ instance ∷ []) are.each
      ∙ sym (filter-append edits_file instances (instance ∷ []) ∙ ap (λ (b : Bool). filter edits_file instances ++ cond b (instance ∷ []) []) edits);
  first = All-push HasFirst findings (record { instance = instance; clash = clash }) are.first first;
}

pub passed_over : (instances : List Instance) (findings : List Finding) (instance : Instance) → AreFindings instances findings → edits_file instance ≡ false →
    AreFindings (instances ++ instance ∷ []) findings
passed_over instances findings instance are idle = record {
  each = are.each ∙ sym (filter-append edits_file instances (instance ∷ []) ∙ ap (λ (b : Bool). filter edits_file instances ++ cond b (instance ∷ []) []) idle ∙ append-nil (filter edits_file instances));
  first = are.first;
}

-- one turn of the search
taken : (instances : List Instance) (i : ℕ) (instance : Instance) → i < length instances → instance ≡ get_or instances i instance → take (i + 1) instances ≡ take i instances ++ instance ∷ []
taken instances i instance within is = take_more instances i instance within ∙ ap (λ (x : Instance). take i instances ++ x ∷ []) (sym is)

pub turn_found : (instances : List Instance) (i : ℕ) (instance : Instance) (found found' : List Found) (f : Found) (script : List Edit) → i < length instances → instance ≡ get_or instances i instance →
    AreFindings (take i instances) (map seen_finding found) → found' ≡ found ++ f ∷ [] → f.instance.now ≡ instance → Some script ≡ script_of_work instance.work → IsFirstClash script f.clash →
    AreFindings (take (i + 1) instances) (map seen_finding found')
turn_found instances i instance found found' f script within is are found_are same has first =
    let edits : edits_file instance ≡ true = ap (λ (o : Option (List Edit)). is_some o) (sym has) in
    let script_is : script ≡ script_of instance = ap (λ (o : Option (List Edit)). unwrap_or o []) has in
    let more = one_more (take i instances) (map seen_finding found) instance f.clash are edits (subst (λ s. IsFirstClash s f.clash) script_is first) in
    let last : seen_finding f ≡ record { instance = instance; clash = f.clash } = λ j. record { instance = same j; clash = f.clash } in
    let all : map seen_finding found' ≡ map seen_finding found ++ record { instance = instance; clash = f.clash } ∷ [] =
    ap (map seen_finding) found_are ∙ map-append seen_finding found (f ∷ []) ∙ ap (λ (x : Finding). map seen_finding found ++ x ∷ []) last in
    subst (λ xs. AreFindings xs (map seen_finding found')) (sym (taken instances i instance within is)) (subst (AreFindings (take i instances ++ instance ∷ [])) (sym all) more)

pub turn_passed : (instances : List Instance) (i : ℕ) (instance : Instance) (found found' : List Found) → i < length instances → instance ≡ get_or instances i instance →
    AreFindings (take i instances) (map seen_finding found) → found' ≡ found → None ≡ script_of_work instance.work → AreFindings (take (i + 1) instances) (map seen_finding found')
turn_passed instances i instance found found' within is are found_are has =
    let idle : edits_file instance ≡ false = ap (λ (o : Option (List Edit)). is_some o) (sym has) in
    let more = passed_over (take i instances) (map seen_finding found) instance are idle in
    subst (λ xs. AreFindings xs (map seen_finding found')) (sym (taken instances i instance within is)) (subst (λ (fs : List Found). AreFindings (take i instances ++ instance ∷ []) (map seen_finding fs)) (sym found_are) more)

-- ---- what is told

pub search_told : (setting : Setting) (course : Course) (walk : Walk) (end : End) (out out' : Shown (List ℕ)) → GoesTo course (λ h. walk ≡ walked setting h) → TellsFindings walk.instances end out out' →
    TellsSearch setting course end out out'
search_told setting (goes h) walk end out out' is told = subst (λ (w : Walk). TellsFindings w.instances end out out') is told
search_told setting (too_large h) walk end out out' is told = absurd is

abbrev IsInTime : Result End Stop → Type 0
IsInTime (Ok end) = Unit {0}
IsInTime (Err (Outside object)) = Unit {0}
IsInTime (Err Memory) = Unit {0}
IsInTime (Err Visits) = ⊥
IsInTime (Err (Pattern text)) = Unit {0}

putting_searched : (setting : Setting) (out out' : Shown (List ℕ)) (pats pats' : Shown (List (List ℕ))) (stop : Stop) → pats' ≡ pats → StopsPutting (IsSearchText setting (run setting open_walk)) out out' stop →
    PolicySearched setting out out' pats pats' (Err stop)
putting_searched setting out out' pats pats' (Outside Inputs) kept stops = absurd stops
putting_searched setting out out' pats pats' (Outside Site) kept stops = absurd stops
putting_searched setting out out' pats pats' (Outside Sink) kept stops = record { told = tt; too_large = λ is. absurd (subst IsInTime is tt); stopped = stops; built = tt; patterns_are = kept }
putting_searched setting out out' pats pats' Memory kept stops = record { told = tt; too_large = λ is. absurd (subst IsInTime is tt); stopped = stops; built = tt; patterns_are = kept }
putting_searched setting out out' pats pats' Visits kept stops = absurd stops
putting_searched setting out out' pats pats' (Pattern text) kept stops = absurd stops

-- the text of a walk's instances is that of its search
search_text_of : (setting : Setting) (course : Course) (walk : Walk) (instances : List Instance) (text : List ℕ) → GoesTo course (λ h. walk ≡ walked setting h) → instances ≡ walk.instances →
    IsFindingsText instances text → IsSearchText setting course text
search_text_of setting (goes h) walk instances text is are found = subst (λ (xs : List Instance). IsFindingsText xs text) (are ∙ ap (λ (w : Walk). w.instances) is) found
search_text_of setting (too_large h) walk instances text is are found = absurd is

putting_walked : (setting : Setting) (course : Course) (walk : Walk) (instances : List Instance) (out out' : Shown (List ℕ)) (stop : Stop) → GoesTo course (λ h. walk ≡ walked setting h) →
    instances ≡ walk.instances → StopsPutting (IsFindingsText instances) out out' stop → StopsPutting (IsSearchText setting course) out out' stop
putting_walked setting course walk instances out out' (Outside Inputs) is are stops = absurd stops
putting_walked setting course walk instances out out' (Outside Site) is are stops = absurd stops
putting_walked setting course walk instances out out' (Outside Sink) is are stops = (stops.0, search_text_of setting course walk instances stops.0 is are stops.1, stops.2)
putting_walked setting course walk instances out out' Memory is are stops = stops
putting_walked setting course walk instances out out' Visits is are stops = absurd stops
putting_walked setting course walk instances out out' (Pattern text) is are stops = absurd stops

-- a walk that was made, and its lines
pub policy_searched : (setting : Setting) (walk : Walk) (instances : List Instance) (out out' : Shown (List ℕ)) (pats pats' : Shown (List (List ℕ))) (result : Result End Stop) → GoesTo (run setting open_walk) (λ h. walk ≡ walked setting h) →
    instances ≡ walk.instances → IfOk result (λ end. TellsFindings instances end out out') → IfErr result (StopsPutting (IsFindingsText instances) out out') → pats' ≡ pats → PolicySearched setting out out' pats pats' result
policy_searched setting walk instances out out' pats pats' (Ok end) is are told stopped kept = record {
  told = search_told setting (run setting open_walk) walk end out out' is (subst (λ (xs : List Instance). TellsFindings xs end out out') are told);
  too_large = λ is. absurd (subst IsInTime is tt);
  stopped = tt;
  built = tt;
  patterns_are = kept;
}
policy_searched setting walk instances out out' pats pats' (Err stop) is are told stopped kept =
    putting_searched setting out out' pats pats' stop kept (putting_walked setting (run setting open_walk) walk instances out out' stop is are stopped)

-- ---- what is done by the definition

abbrev status_by : Bool → ℕ → Type 0
status_by b n = status_of (if b then InConflict else Ended) ≡ n

not_two : (b : Bool) → status_by b 2 → ⊥
not_two true is = omega (arith, is)
not_two false is = omega (arith, is)

pub search_not_failed : (setting : Setting) (course : Course) (end : End) (out out' : Shown (List ℕ)) → TellsSearch setting course end out out' → status_of end ≡ 2 → ⊥
search_not_failed setting (too_large h) end out out' told two = told
search_not_failed setting (goes h) end out out' told two = not_two (list_any has_clash told.0) (sym (ap status_of told.2) ∙ two)

pub search_text_done : (setting : Setting) (course : Course) (text : List ℕ) → IsSearchText setting course text → (done : Done) × SearchDoes setting course done × (text ≡ all_lines done.steps)
search_text_done setting (too_large h) text is = absurd is
search_text_done setting (goes h) text is = (searched is.0, (is.0, is.1, refl), is.2 ∙ sym (append-nil (search_text is.0)))

pub search_done : (setting : Setting) (course : Course) (t : Told) (out out' : Shown (List ℕ)) (end : End) (n : ℕ) → n ≡ status_of end → TellsSearch setting course end out out' →
    (done : Done) × SearchDoes setting course done × IsDone done t t out out' n
search_done setting (too_large h) t out out' end n is told = absurd told
search_done setting (goes h) t out out' end n is told = (
  searched told.0,
  (told.0, told.1, refl),
  record {
    logged = sym (adds_none t);
    put = told.3 ∙ ap (λ bs. followed (adds_bytes bs) out) (sym (append-nil (search_text told.0)));
    status_is = is ∙ ap status_of told.2;
  },
)

pub search_put : (setting : Setting) (course : Course) (out out' : Shown (List ℕ)) (end : End) (n : ℕ) → n ≡ status_of end → TellsSearch setting course end out out' →
    (done : Done) × SearchDoes setting course done × IsPut done out out' n
search_put setting (too_large h) out out' end n is told = absurd told
search_put setting (goes h) out out' end n is told = (
  searched told.0,
  (told.0, told.1, refl),
  record {
    no_entry = refl;
    put = told.3 ∙ ap (λ bs. followed (adds_bytes bs) out) (sym (append-nil (search_text told.0)));
    status_is = is ∙ ap status_of told.2;
  },
)
