-- The edits of a walk are those of a script: each is one, deletes come first, then field edits, inserts and replaces. And what holds
-- of a script of the edits among contributions, and of all that is no script, holds of what the contributions come to.
use Rattle.std.proofs.Common.{◌≡◌, ◌≢◌, ◌≤◌, ◌<◌, ◌==◌, ◌&&◌, ℕ, Bool, true, false, cond, List, [], ◌∷◌, ◌++◌, length, map, append_assoc, ap, sym, subst, refl, Option, Some, None, option_map, IfSome, arith, codes}
use Rattle.std.specs.Prelude.{chars, not}
use Rattle.std.specs.List.{AllByRecursion as Each, onto_first}
use Rattle.std.specs.Str.Parse.{digits_value}
use Rattle.std.proofs.lemmas.Bool.{and_parts}
use Rattle.std.proofs.lemmas.List.{append-nil}
use Rattle.std.proofs.lemmas.List.Elements.{All-nil, All-cons, All-from_recursion, filter_map-append}
use Rattle.std.proofs.lemmas.List.Splits.{length-slice_split}
use Rattle.cfa_base.specs.Patterns.{PatternText, pattern_of, is_pattern}
use Rattle.cfa_base.specs.declared.patterns.How.{How}
use Rattle.cfa_base.specs.declared.patterns.How.TheVariants.{Whole, Part}
use Rattle.cfa_bodies.specs.declared.sayings.Said.{Said}
use Rattle.cfa_bodies.specs.declared.hearing.Heard.{Heard}
use Rattle.cfa_bodies.specs.declared.hearing.Heard.TheVariants.{Lacks as lacks_body, TooMany as many_in_body, TooLong as long_in_body, All as all_heard}
use Rattle.cfa_bodies.specs.Bodies.{Bodies, bodies_of, said_in, text_in, heard, text_or_empty}
use Rattle.cfa_statuses.specs.declared.levels.Status.{Status}
use Rattle.cfa_statuses.specs.declared.levels.Status.TheVariants.{No, Maybe, Yes}
use Rattle.cfa_defines.specs.declared.combining.Combined.{Combined}
use Rattle.cfa_defines.specs.declared.combining.Combined.TheVariants.{Lacks as lacks, TooMany as too_many, TooLong as too_long, Found as found}
use Rattle.cfa_defines.specs.OwnTexts.{combined, own_reads}
use Rattle.cfa_edits.specs.declared.edits.Edit.{Edit}
use Rattle.cfa_edits.specs.declared.edits.Edit.TheVariants.{Delete, Field, Insert, Replace}
use Rattle.cfa_edits.specs.Scripts.{IsEdit, IsSpot, IsOneLine, AreInOrder, AreEdits, rank}
use Rattle.cfa_kinds.specs.declared.kinds.PromiseType.{PromiseType}
use Rattle.cfa_kinds.specs.declared.kinds.PromiseType.TheVariants as promises
use Rattle.cfa_kinds.specs.declared.kinds.Form.TheVariants as forms
use Rattle.cfa_kinds.specs.Forms.{has_form}
use Rattle.cfa_tree.specs.Tree.{PromiseTree, PolicyTree}
use Rattle.cfa_vars.specs.Scopes.{InScope, Table}
use Rattle.cfa_vars.specs.Expansion.{Chosen, expanded}
use Rattle.cfa_scripts.specs.declared.contributing.Contribution.{Contribution}
use Rattle.cfa_scripts.specs.declared.contributing.Contribution.TheVariants.{Edit as an_edit, Unresolved as unresolved, TooMany as many, TooLong as long, BadPattern as bad_pattern, BadValue as bad_value}
use Rattle.cfa_scripts.specs.declared.walking.Walk.{Walk}
use Rattle.cfa_scripts.specs.declared.scripting.Scripted.{Scripted}
use Rattle.cfa_scripts.specs.declared.scripting.Scripted.TheVariants.{Script as a_script, Unresolved as no_script, TooMany as script_many, TooLong as script_long, BadPattern as script_bad_pattern, BadValue as script_bad_value}
use Rattle.cfa_scripts.specs.Numbered.{Numbered, is_type, of_type}
use Rattle.cfa_scripts.specs.EditPromises.{is_one_line, first_character, is_right, is_word_said, pattern_read, pattern_if_given, unless_wrong, edit_with, delete_for, is_right_field, field_by, field_for, block_of, spot_for, insert_by, insert_for, replace_by, replace_for, edit_for, whole_text, contribution_by, contribution, edits_by, edits_of}
use Rattle.cfa_scripts.specs.EditBundles.{Around, walk_at_first, scopes_at, statuses_at, guard_under, kept_by, guarded, reach, walked_from}
use Rattle.cfa_scripts.specs.EditScripts.{edits_among, edit_in, first_unresolved, first_handed, first_bad, concluded_by, concluded, in_order}
use Rattle.cfa_scripts.specs.lemmas.FieldNumbers.{number_bounds}
use Rattle.cfa_scripts.specs.lemmas.OneLine.{not_newline, one_line}

-- ---- edits by themselves

onto : (b : ℕ) (parts : List (List ℕ)) → b ≢ 10 → Each IsOneLine parts → Each IsOneLine (onto_first b parts)
onto b [] h each = (All-cons (λ byte. byte ≢ 10) b [] h (All-nil (λ byte. byte ≢ 10)), tt)
onto b (part ∷ parts) h each = (All-cons (λ byte. byte ≢ 10) b part h each.0, each.1)

parts_by : (b : ℕ) (t : Bool) (parts : List (List ℕ)) → (b == 10) ≡ t → Each IsOneLine parts → Each IsOneLine (cond t ([] ∷ parts) (onto_first b parts))
parts_by b true parts h each = (All-nil (λ byte. byte ≢ 10), each)
parts_by b false parts h each = onto b parts (not_newline b h) each

block_lines : (content : List ℕ) → Each IsOneLine (block_of content)
block_lines [] = (All-nil (λ byte. byte ≢ 10), tt)
block_lines (b ∷ rest) = parts_by b (b == 10) (block_of rest) refl (block_lines rest)

block_some : (content : List ℕ) → 0 < length (block_of content)
block_some content = omega (arith, length-slice_split (λ byte. byte == 10) content)

-- the rank of what a type of promises gives
abbrev rank_of : PromiseType → ℕ
rank_of promises.FieldEdits = 1
rank_of promises.InsertLines = 2
rank_of promises.ReplacePatterns = 3
rank_of type = 0

abbrev IsOf : ℕ → Edit → Type 0
IsOf n edit = IsEdit edit × (rank edit ≡ n)

-- it gives nothing, or such an edit
abbrev Gives : ℕ → Contribution → Type 0
Gives n (an_edit edit) = IsOf n edit
Gives n (unresolved name) = Unit {0}
Gives n many = Unit {0}
Gives n long = Unit {0}
Gives n bad_pattern = Unit {0}
Gives n bad_value = Unit {0}

gives_unless : (n : ℕ) (right : Bool) (edit : Edit) → (right ≡ true → IsOf n edit) → Gives n (unless_wrong right edit)
gives_unless n true edit h = h refl
gives_unless n false edit h = tt

-- a pattern that is read was built so
read_by : (how : How) (content : List ℕ) (t : Bool) (p : PatternText) → cond t (Some (pattern_of how content)) None ≡ Some p → p.how ≡ how
read_by how content true p h = let same : pattern_of how content ≡ p = cc in ap (λ (x : PatternText). x.how) (sym same)
read_by how content false p h = cc

gives_with : {X : Type 0} (n : ℕ) (o : Option X) (make : X → Contribution) → ((x : X) → o ≡ Some x → Gives n (make x)) → Gives n (edit_with o make)
gives_with n None make h = tt
gives_with n (Some x) make h = h x refl

delete_gives : (content : List ℕ) → Gives 0 (delete_for content)
delete_gives content = gives_with 0 (pattern_read Whole content) (λ p. an_edit (Delete p)) (λ p e. (read_by Whole content (is_pattern Whole content) p e, refl))

field_gives : (pattern separator number value : List ℕ) (operation : Option Said) → Gives 1 (field_for pattern separator number value operation)
field_gives pattern separator number value operation =
    gives_with 1 (pattern_read Whole pattern) (λ p. field_by p separator number value operation) (λ p e.
    gives_unless 1 (is_right_field separator number value operation) (Field p (first_character (chars separator)) (digits_value 10 number) value) (λ right.
    let a = and_parts (has_form forms.Character separator) (has_form forms.FieldNumber number && (is_one_line value && is_right forms.FieldOperation operation)) right in
    let b = and_parts (has_form forms.FieldNumber number) (is_one_line value && is_right forms.FieldOperation operation) a.1 in
    let c = and_parts (is_one_line value) (is_right forms.FieldOperation operation) b.1 in
    let bounds = number_bounds number b.0 in
    ((read_by Whole pattern (is_pattern Whole pattern) p e, bounds.0, bounds.1, one_line value c.0), refl)))

given_read : (content : List ℕ) (t : Bool) (p : PatternText) → option_map (λ (x : PatternText). Some x) (cond t (Some (pattern_of Whole content)) None) ≡ Some (Some p) → p.how ≡ Whole
given_read content true p e = let same : pattern_of Whole content ≡ p = cc in ap (λ (x : PatternText). x.how) (sym same)
given_read content false p e = cc

given_by : (said : Option Said) (anchor : Option PatternText) (side first : Bool) → pattern_if_given said ≡ Some anchor → IsSpot (spot_for anchor side first)
given_by None (Some p) true first e = cc
given_by None (Some p) false first e = cc
given_by None None true first e = tt
given_by None None false first e = tt
given_by (Some said) None true first e = tt
given_by (Some said) None false first e = tt
given_by (Some said) (Some p) true first e = given_read (text_in said) (is_pattern Whole (text_in said)) p e
given_by (Some said) (Some p) false first e = given_read (text_in said) (is_pattern Whole (text_in said)) p e

insert_gives : (promiser : List ℕ) (anchor side end : Option Said) → Gives 2 (insert_for promiser anchor side end)
insert_gives promiser anchor side end =
    gives_with 2 (pattern_if_given anchor) (λ p. insert_by promiser p side end) (λ p e.
    gives_unless 2 (is_right forms.Side side && is_right forms.End end)
    (Insert (block_of promiser) (spot_for p (is_word_said (codes "before") side) (is_word_said (codes "first") end))) (λ right.
    ((given_by anchor p (is_word_said (codes "before") side) (is_word_said (codes "first") end) e, block_some promiser, All-from_recursion IsOneLine (block_of promiser) (block_lines promiser)), refl)))

replace_gives : (pattern value : List ℕ) (occurrences : Option Said) → Gives 3 (replace_for pattern value occurrences)
replace_gives pattern value occurrences =
    gives_with 3 (pattern_read Part pattern) (λ p. replace_by p value occurrences) (λ p e.
    gives_unless 3 (is_one_line value && is_right forms.Occurrences occurrences)
    (Replace p value (not (is_word_said (codes "first") occurrences))) (λ right.
    let a = and_parts (is_one_line value) (is_right forms.Occurrences occurrences) right in
    ((read_by Part pattern (is_pattern Part pattern) p e, one_line value a.0), refl)))

edit_gives : (type : PromiseType) (promiser : List ℕ) (bodies : Bodies) → Gives (rank_of type) (edit_for type promiser bodies)
edit_gives promises.FieldEdits promiser bodies =
    field_gives promiser (text_or_empty (said_in bodies (codes "edit_field") (codes "field_separator")))
    (text_or_empty (said_in bodies (codes "edit_field") (codes "select_field")))
    (text_or_empty (said_in bodies (codes "edit_field") (codes "field_value"))) (said_in bodies (codes "edit_field") (codes "field_operation"))
edit_gives promises.InsertLines promiser bodies =
    insert_gives promiser (said_in bodies (codes "location") (codes "select_line_matching"))
    (said_in bodies (codes "location") (codes "before_after")) (said_in bodies (codes "location") (codes "first_last"))
edit_gives promises.ReplacePatterns promiser bodies =
    replace_gives promiser (text_or_empty (said_in bodies (codes "replace_with") (codes "replace_value"))) (said_in bodies (codes "replace_with") (codes "occurrences"))
edit_gives promises.Vars promiser bodies = delete_gives promiser
edit_gives promises.Classes promiser bodies = delete_gives promiser
edit_gives promises.Files promiser bodies = delete_gives promiser
edit_gives promises.Methods promiser bodies = delete_gives promiser
edit_gives promises.Services promiser bodies = delete_gives promiser
edit_gives promises.Reports promiser bodies = delete_gives promiser
edit_gives promises.DeleteLines promiser bodies = delete_gives promiser

gives_heard : (type : PromiseType) (promiser : List ℕ) (bodies : Bodies) (h : Heard) → Gives (rank_of type) (contribution_by type promiser bodies h)
gives_heard type promiser bodies (lacks_body name) = tt
gives_heard type promiser bodies many_in_body = tt
gives_heard type promiser bodies long_in_body = tt
gives_heard type promiser bodies all_heard = edit_gives type promiser bodies

module _ (policy : PolicyTree) (scopes : InScope) (type : PromiseType) (promise : PromiseTree) where
  gives_one : (choice : Chosen) → Gives (rank_of type) (contribution policy scopes type promise choice)
  unfolding contribution
  gives_one choice =
      let bodies = bodies_of policy scopes choice type promise in
      gives_heard type (whole_text (expanded scopes choice promise.promiser)) bodies (heard bodies)

  gives_each : (choices : List Chosen) → Each (Gives (rank_of type)) (map (contribution policy scopes type promise) choices)
  gives_each [] = tt
  gives_each (choice ∷ choices) = (gives_one choice, gives_each choices)

  gives_combined : (c : Combined) → Each (Gives (rank_of type)) (edits_by policy scopes type promise c)
  gives_combined (lacks name) = (tt, tt)
  gives_combined too_many = (tt, tt)
  gives_combined (too_long combinations) = (tt, tt)
  gives_combined (found choices) = gives_each choices

  gives_all : Each (Gives (rank_of type)) (edits_of policy scopes type promise)
  unfolding edits_of
  gives_all = gives_combined (combined scopes (own_reads type promise))

-- ---- edits in their order

-- so far a script, with no rank above this one
pub record Sorted (n : ℕ) (edits : List Edit) : Type 0 where
  pub each : Each IsEdit edits
  pub order : AreInOrder edits
  pub most : Each (λ e. rank e ≤ n) edits

each_push : {X : Type 0} (P : X → Type 0) (xs : List X) (x : X) → Each P xs → P x → Each P (xs ++ x ∷ [])
each_push P [] x h here = (here, tt)
each_push P (y ∷ xs) x h here = (h.0, each_push P xs x h.1 here)

order_push : (edits : List Edit) (edit : Edit) (n : ℕ) → AreInOrder edits → Each (λ e. rank e ≤ n) edits → n ≤ rank edit → AreInOrder (edits ++ edit ∷ [])
order_push [] edit n h most le = tt
order_push (a ∷ []) edit n h most le = let first = most.0 in (omega (arith, first), tt)
order_push (a ∷ b ∷ more) edit n h most le = (h.0, order_push (b ∷ more) edit n h.1 most.1 le)

sorted_push : (n : ℕ) (edits : List Edit) (edit : Edit) → Sorted n edits → IsOf n edit → Sorted n (edits ++ edit ∷ [])
sorted_push n edits edit s of =
    let is = of.1 in
    record {
      each = each_push IsEdit edits edit s.each of.0;
      order = order_push edits edit n s.order s.most (omega (arith, is));
      most = each_push (λ e. rank e ≤ n) edits edit s.most (omega (arith, is));
    }

sorted_add : (n : ℕ) (edits : List Edit) (cs : List Contribution) → Sorted n edits → Each (Gives n) cs → Sorted n (edits ++ edits_among cs)
sorted_add n edits [] s h = subst (λ (es : List Edit). Sorted n es) (sym (append-nil edits)) s
sorted_add n edits (an_edit edit ∷ cs) s h = subst (λ (es : List Edit). Sorted n es) (append_assoc edits (edit ∷ []) (edits_among cs)) (sorted_add n (edits ++ edit ∷ []) cs (sorted_push n edits edit s h.0) h.1)
sorted_add n edits (unresolved name ∷ cs) s h = sorted_add n edits cs s h.1
sorted_add n edits (many ∷ cs) s h = sorted_add n edits cs s h.1
sorted_add n edits (long ∷ cs) s h = sorted_add n edits cs s h.1
sorted_add n edits (bad_pattern ∷ cs) s h = sorted_add n edits cs s h.1
sorted_add n edits (bad_value ∷ cs) s h = sorted_add n edits cs s h.1

sorted_more : (n : ℕ) (cs more : List Contribution) → Sorted n (edits_among cs) → Each (Gives n) more → Sorted n (edits_among (cs ++ more))
sorted_more n cs more s h = subst (λ (es : List Edit). Sorted n es) (sym (filter_map-append edit_in cs more)) (sorted_add n (edits_among cs) more s h)

each_weaker : (n m : ℕ) (edits : List Edit) → n ≤ m → Each (λ e. rank e ≤ n) edits → Each (λ e. rank e ≤ m) edits
each_weaker n m [] le h = tt
each_weaker n m (e ∷ edits) le h = let first = h.0 in (omega (arith, first), each_weaker n m edits le h.1)

sorted_weaker : (n m : ℕ) (edits : List Edit) → n ≤ m → Sorted n edits → Sorted m edits
sorted_weaker n m edits le s = record { each = s.each; order = s.order; most = each_weaker n m edits le s.most }

-- ---- walks

module _ (around : Around) (n : ℕ) (w : Walk) (p : Numbered) where
  sorted_edits : n ≤ rank_of p.type → Sorted n (edits_among w.edits) → Sorted (rank_of p.type) (edits_among (w.edits ++ edits_of around.policy (scopes_at around w.inside) p.type p.promise))
  sorted_edits le s =
      sorted_more (rank_of p.type) w.edits (edits_of around.policy (scopes_at around w.inside) p.type p.promise)
      (sorted_weaker n (rank_of p.type) (edits_among w.edits) le s) (gives_all around.policy (scopes_at around w.inside) p.type p.promise)

  sorted_kept : (type : PromiseType) (guard : Status) → n ≤ rank_of p.type → Sorted n (edits_among w.edits) → Sorted (rank_of p.type) (edits_among (kept_by around w p guard type).edits)
  sorted_kept promises.Vars guard le s = sorted_weaker n (rank_of p.type) (edits_among w.edits) le s
  sorted_kept promises.Classes guard le s = sorted_weaker n (rank_of p.type) (edits_among w.edits) le s
  sorted_kept promises.Files guard le s = sorted_edits le s
  sorted_kept promises.Methods guard le s = sorted_edits le s
  sorted_kept promises.Services guard le s = sorted_edits le s
  sorted_kept promises.Reports guard le s = sorted_edits le s
  sorted_kept promises.DeleteLines guard le s = sorted_edits le s
  sorted_kept promises.FieldEdits guard le s = sorted_edits le s
  sorted_kept promises.InsertLines guard le s = sorted_edits le s
  sorted_kept promises.ReplacePatterns guard le s = sorted_edits le s

  sorted_guarded : (guard : Status) → n ≤ rank_of p.type → Sorted n (edits_among w.edits) → Sorted (rank_of p.type) (edits_among (guarded around w p guard).edits)
  sorted_guarded No le s = sorted_weaker n (rank_of p.type) (edits_among w.edits) le s
  sorted_guarded Maybe le s = sorted_kept p.type Maybe le s
  sorted_guarded Yes le s = sorted_kept p.type Yes le s

  sorted_reach : n ≤ rank_of p.type → Sorted n (edits_among w.edits) → Sorted (rank_of p.type) (edits_among (reach around w p).edits)
  unfolding reach
  sorted_reach le s = sorted_guarded (guard_under (statuses_at around w.inside) p.promise.guard) le s

-- ranks that never fall
abbrev Ascending : ℕ → List Numbered → Type 0
Ascending n [] = Unit {0}
Ascending n (p ∷ ps) = (n ≤ rank_of p.type) × Ascending (rank_of p.type) ps

are_edits : (n : ℕ) (edits : List Edit) → Sorted n edits → AreEdits edits
are_edits n edits s = record { each = All-from_recursion IsEdit edits s.each; order = s.order }

walked_edits : (around : Around) (n : ℕ) (w : Walk) (ps : List Numbered) → Ascending n ps → Sorted n (edits_among w.edits) → AreEdits (edits_among (walked_from around w ps).edits)
walked_edits around n w [] h s = are_edits n (edits_among w.edits) s
walked_edits around n w (p ∷ ps) h s = walked_edits around (rank_of p.type) (reach around w p) ps h.1 (sorted_reach around n w p h.0 s)

-- ---- the order of types

same_rank : (t u : PromiseType) → is_type t u ≡ true → rank_of u ≡ rank_of t
same_rank promises.Vars promises.Vars h = refl
same_rank promises.Vars u h = cc
same_rank promises.Classes promises.Classes h = refl
same_rank promises.Classes u h = cc
same_rank promises.Files promises.Files h = refl
same_rank promises.Files u h = cc
same_rank promises.Methods promises.Methods h = refl
same_rank promises.Methods u h = cc
same_rank promises.Services promises.Services h = refl
same_rank promises.Services u h = cc
same_rank promises.Reports promises.Reports h = refl
same_rank promises.Reports u h = cc
same_rank promises.DeleteLines promises.DeleteLines h = refl
same_rank promises.DeleteLines u h = cc
same_rank promises.FieldEdits promises.FieldEdits h = refl
same_rank promises.FieldEdits u h = cc
same_rank promises.InsertLines promises.InsertLines h = refl
same_rank promises.InsertLines u h = cc
same_rank promises.ReplacePatterns promises.ReplacePatterns h = refl
same_rank promises.ReplacePatterns u h = cc

of_rank_by : (t : PromiseType) (p : Numbered) (rest : List Numbered) (b : Bool) → is_type t p.type ≡ b → Each (λ q. rank_of q.type ≡ rank_of t) rest → Each (λ q. rank_of q.type ≡ rank_of t) (cond b (p ∷ rest) rest)
of_rank_by t p rest true h each = (same_rank t p.type h, each)
of_rank_by t p rest false h each = each

of_rank : (t : PromiseType) (ps : List Numbered) → Each (λ q. rank_of q.type ≡ rank_of t) (of_type t ps)
of_rank t [] = tt
of_rank t (p ∷ ps) = of_rank_by t p (of_type t ps) (is_type t p.type) refl (of_rank t ps)

lower : (n m : ℕ) (ps : List Numbered) → n ≤ m → Ascending m ps → Ascending n ps
lower n m [] le h = tt
lower n m (p ∷ ps) le h = let first = h.0 in (omega (arith, first), h.1)

joined : (n m : ℕ) (ps qs : List Numbered) → n ≤ m → Each (λ q. rank_of q.type ≡ m) ps → Ascending m qs → Ascending n (ps ++ qs)
joined n m [] qs le each h = lower n m qs le h
joined n m (p ∷ ps) qs le each h =
    let first = each.0 in
    (omega (arith, first), joined (rank_of p.type) m ps qs (omega (arith, first)) each.1 h)

ascending : (ps : List Numbered) → Ascending 0 (in_order ps)
ascending ps =
    joined 0 0 (of_type promises.Vars ps) _ (omega arith) (of_rank promises.Vars ps) (
    joined 0 0 (of_type promises.Classes ps) _ (omega arith) (of_rank promises.Classes ps) (
    joined 0 0 (of_type promises.DeleteLines ps) _ (omega arith) (of_rank promises.DeleteLines ps) (
    joined 0 1 (of_type promises.FieldEdits ps) _ (omega arith) (of_rank promises.FieldEdits ps) (
    joined 1 2 (of_type promises.InsertLines ps) _ (omega arith) (of_rank promises.InsertLines ps) (
    joined 2 3 (of_type promises.ReplacePatterns ps) [] (omega arith) (of_rank promises.ReplacePatterns ps) tt)))))

-- the edits of a walk are those of a script
pub script_edits : (around : Around) (params : Table) (ps : List Numbered) → AreEdits (edits_among (walked_from around (walk_at_first params) (in_order ps)).edits)
script_edits around params ps = walked_edits around 0 (walk_at_first params) (in_order ps) (ascending ps) (record { each = tt; order = tt; most = tt })

-- ---- what contributions come to

module _ (P : Scripted → Type 0) (unresolved_is : (name : Option (List ℕ)) → P (no_script name)) (many_is : P script_many) (long_is : P script_long) (pattern_is : P script_bad_pattern) (value_is : P script_bad_value) where
  handed_is : (cs : List Contribution) → IfSome (first_handed cs) P
  handed_is [] = tt
  handed_is (an_edit edit ∷ cs) = handed_is cs
  handed_is (unresolved name ∷ cs) = handed_is cs
  handed_is (many ∷ cs) = many_is
  handed_is (long ∷ cs) = long_is
  handed_is (bad_pattern ∷ cs) = handed_is cs
  handed_is (bad_value ∷ cs) = handed_is cs

  bad_is : (cs : List Contribution) → IfSome (first_bad cs) P
  bad_is [] = tt
  bad_is (an_edit edit ∷ cs) = bad_is cs
  bad_is (unresolved name ∷ cs) = bad_is cs
  bad_is (many ∷ cs) = bad_is cs
  bad_is (long ∷ cs) = bad_is cs
  bad_is (bad_pattern ∷ cs) = pattern_is
  bad_is (bad_value ∷ cs) = value_is

  concluded_so : (edits : List Edit) → P (a_script edits) → (unknown : Option (Option (List ℕ))) (handed bad : Option Scripted) → IfSome handed P → IfSome bad P → P (concluded_by unknown handed bad edits)
  concluded_so edits is (Some name) handed bad h i = unresolved_is name
  concluded_so edits is None (Some over) bad h i = h
  concluded_so edits is None None (Some wrong) h i = i
  concluded_so edits is None None None h i = is

  pub concluded_is : (cs : List Contribution) → P (a_script (edits_among cs)) → P (concluded cs)
  unfolding concluded
  concluded_is cs is = concluded_so (edits_among cs) is (first_unresolved cs) (first_handed cs) (first_bad cs) (handed_is cs) (bad_is cs)
