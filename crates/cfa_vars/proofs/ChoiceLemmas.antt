-- The names of several texts, the lists among them, and the choices of their items.
use Rattle.std.proofs.Common.{◌≡◌, ◌<◌, ◌≤◌, ◌+◌, ◌*◌, ◌==◌, ℕ, suc, zero, min, Bool, true, false, ◌||◌, cond, eqb, nat_lt, List, [], ◌∷◌, ◌++◌, length, map, drop, get_or, find, is_none, Option, Some, None, refl, arith, ⊎_elim, ap, sym, ◌∙◌}
use Rattle.std.specs.List.{cons_option, flat_map, list_any, slice_get}
use Rattle.std.specs.Str.{bytes_eq}
use Rattle.std.proofs.lemmas.List.{append-nil, append_assoc, length-append, length-map, map-append, map-id, drop_more}
use Rattle.std.proofs.lemmas.List.Concat.{flat_map-append}
use Rattle.std.proofs.lemmas.List.Sums.{fold-append}
use Rattle.std.proofs.lemmas.List.Elements.{filter_map-append}
use Rattle.std.proofs.lemmas.Bool.{false≢true, cases_lt, le-ltb}
use Rattle.std.proofs.lemmas.Bool.Decides.{nat_tests}
use Rattle.std.proofs.Math.Nat.{mul_assoc}
use Rattle.std.proofs.lemmas.Option.{slice_get-map, slice_get_within, get_or_from_slice_get}
use Rattle.std.specs.Option.{option_map}
use denote.Ref.{Bor}
use Rattle.indexmap.specs.IndexMap.{insert_entry, insert_all}
use Rattle.cfa_vars.specs.declared.scoping.Datum.TheVariants.{List as list_of}
use Rattle.cfa_vars.specs.References.{literal, reference, pieces, names_in}
use Rattle.cfa_vars.specs.Scopes.{InScope, look, key_of}
use Rattle.cfa_vars.specs.Expansion.{Chosen}
use Rattle.cfa_vars.specs.Choices.{Lists, list_under, lists_named, all_choices, extended, seen_lists, first_unset}
use Rattle.cfa_vars.specs.lemmas.Names.{names_in_more, names_in_none}

-- the first name that is found in two lists, one after the other
find_past : {X : Type 0} (t : Bool) (x : X) (inner outer other : Option X) → cond t (Some x) inner ≡ None → (inner ≡ None → outer ≡ other) → cond t (Some x) outer ≡ other
find_past true x inner outer other h f = cc
find_past false x inner outer other h f = f h

find-append : {X : Type 0} (p : X → Bool) (xs ys : List X) → find p xs ≡ None → find p (xs ++ ys) ≡ find p ys
find-append p [] ys h = refl
find-append p (x ∷ xs) ys h = find_past (p x) x (find p xs) (find p (xs ++ ys)) (find p ys) h (find-append p xs ys)

find_here : {X : Type 0} (t : Bool) (x : X) (inner outer other : Option X) → cond t (Some x) inner ≡ other → (inner ≡ other → outer ≡ other) → cond t (Some x) outer ≡ other
find_here true x inner outer other h f = h
find_here false x inner outer other h f = f h

find-append_found : {X : Type 0} (p : X → Bool) (xs ys : List X) (y : X) → find p xs ≡ Some y → find p (xs ++ ys) ≡ Some y
find-append_found p [] ys y h = cc
find-append_found p (x ∷ xs) ys y h = find_here (p x) x (find p xs) (find p (xs ++ ys)) (Some y) h (find-append_found p xs ys y)

module _ (scopes : InScope) where
  unset : List ℕ → Bool
  unset name = is_none (look scopes name)

  pub unset_here : (text before name after : List ℕ) → pieces text ≡ map literal before ++ reference name ∷ pieces after → is_none (look scopes name) ≡ true → first_unset scopes (names_in text) ≡ Some name
  unset_here text before name after h e = ap (first_unset scopes) (names_in_more text before name after h) ∙ ap (λ t. cond t (Some name) (first_unset scopes (names_in after))) e

  pub unset_later : (text before name after : List ℕ) → pieces text ≡ map literal before ++ reference name ∷ pieces after → is_none (look scopes name) ≡ false → first_unset scopes (names_in text) ≡ first_unset scopes (names_in after)
  unset_later text before name after h e = ap (first_unset scopes) (names_in_more text before name after h) ∙ ap (λ t. cond t (Some name) (first_unset scopes (names_in after))) e

  pub unset_none : (text : List ℕ) → pieces text ≡ map literal text → first_unset scopes (names_in text) ≡ None
  unset_none text h = ap (first_unset scopes) (names_in_none text h)

  pub unset_in_first : (text : List ℕ) (texts : List (List ℕ)) (name : List ℕ) → first_unset scopes (names_in text) ≡ Some name → first_unset scopes (flat_map names_in (text ∷ texts)) ≡ Some name
  unset_in_first text texts name h = find-append_found (λ n. is_none (look scopes n)) (names_in text) (flat_map names_in texts) name h

  pub unset_behind_first : (text : List ℕ) (texts : List (List ℕ)) → first_unset scopes (names_in text) ≡ None → first_unset scopes (flat_map names_in (text ∷ texts)) ≡ first_unset scopes (flat_map names_in texts)
  unset_behind_first text texts h = find-append (λ n. is_none (look scopes n)) (names_in text) (flat_map names_in texts) h

  -- the lists of names that stand one after another are put one after another
  lists-append : (table : Lists) (names more : List (List ℕ)) → insert_all bytes_eq table (lists_named scopes (names ++ more)) ≡ insert_all bytes_eq (insert_all bytes_eq table (lists_named scopes names)) (lists_named scopes more)
  lists-append table names more =
      ap (insert_all bytes_eq table) (filter_map-append (λ name. list_under (key_of scopes name) (look scopes name)) names more) ∙ fold-append (λ done l. insert_entry bytes_eq done l.0 l.1) table (lists_named scopes names) (lists_named scopes more)

  pub gathered_more : (table new : Lists) (text before name after : List ℕ) → pieces text ≡ map literal before ++ reference name ∷ pieces after → new ≡ insert_all bytes_eq table (lists_named scopes (name ∷ [])) → insert_all bytes_eq new (lists_named scopes (names_in after)) ≡ insert_all bytes_eq table (lists_named scopes (names_in text))
  gathered_more table new text before name after h e =
      ap (λ t. insert_all bytes_eq t (lists_named scopes (names_in after))) e ∙ sym (lists-append table (name ∷ []) (names_in after)) ∙ ap (λ n. insert_all bytes_eq table (lists_named scopes n)) (sym (names_in_more text before name after h))

  pub gathered_all : (table : Lists) (text : List ℕ) → pieces text ≡ map literal text → insert_all bytes_eq table (lists_named scopes (names_in text)) ≡ table
  gathered_all table text h = ap (λ n. insert_all bytes_eq table (lists_named scopes n)) (names_in_none text h)

  pub gathered_text : (table new : Lists) (text : List ℕ) (texts : List (List ℕ)) → new ≡ insert_all bytes_eq table (lists_named scopes (names_in text)) → insert_all bytes_eq new (lists_named scopes (flat_map names_in texts)) ≡ insert_all bytes_eq table (lists_named scopes (flat_map names_in (text ∷ texts)))
  gathered_text table new text texts e =
      ap (λ t. insert_all bytes_eq t (lists_named scopes (flat_map names_in texts))) e ∙ sym (lists-append table (names_in text) (flat_map names_in texts))

-- the choices that begin with one of these, and go on with an item of each of some lists
abbrev pub completed : List Chosen → Lists → List Chosen
completed choices lists = flat_map (λ choice. map (λ rest. choice ++ rest) (all_choices lists)) choices

-- each list within the limit so far, with the count of the choices so far, at most one past the limit
pub record StillToCount (count : ℕ) (rest lists : Lists) : Type 0 where
  pub short : list_any (λ m. nat_lt 4096 (length m.1)) rest ≡ list_any (λ m. nat_lt 4096 (length m.1)) lists
  pub counted : min (count * length (all_choices rest)) 4097 ≡ min (length (all_choices lists)) 4097
  pub bound : count ≤ 4097

-- the one choice of nothing, which a list was made of
pub completed_start : (lists : Lists) (none pushed : List Chosen) (nothing : Chosen) → none ≡ [] → nothing ≡ [] → pushed ≡ none ++ nothing ∷ [] → completed pushed lists ≡ all_choices lists
completed_start lists none pushed nothing n e p =
    ap (λ t. completed t lists) (p ∙ ap (λ t. t ++ nothing ∷ []) n ∙ ap (λ x. x ∷ []) e) ∙ append-nil (map (λ rest. rest) (all_choices lists)) ∙ map-id (all_choices lists)

-- each item in turn gives as many
length-flat_map_same : {X A : Type 0} (f : X → List A) (n : ℕ) → ((x : X) → length (f x) ≡ n) → (xs : List X) → length (flat_map f xs) ≡ length xs * n
length-flat_map_same f n h [] = omega arith
length-flat_map_same f n h (x ∷ xs) = omega (arith, length-append (f x) (flat_map f xs), h x, length-flat_map_same f n h xs)

pub length-all_choices : (key : List ℕ) (items : List (List ℕ)) (lists : Lists) → length (all_choices ((key, items) ∷ lists)) ≡ length items * length (all_choices lists)
length-all_choices key items lists =
    length-flat_map_same (λ item. map (λ choice. (key, item) ∷ choice) (all_choices lists)) (length (all_choices lists)) (λ item. length-map (all_choices lists) (λ choice. (key, item) ∷ choice)) items

-- a product stays at one past the limit once it came so far, but for nothing
capped_product : (b r : ℕ) → min (min b 4097 * r) 4097 ≡ min (b * r) 4097
capped_product b zero = omega arith
capped_product b (suc r) = ⊎_elim (λ h. omega arith) (λ h. let same : min b 4097 ≡ b = omega arith in ap (λ n. min (n * suc r) 4097) same) (cases_lt 4097 b)

not_zero : (n : ℕ) → eqb (suc n) 0 ≡ false
not_zero n = grind (arith, nat_tests)

pub count_more : (count : ℕ) (key : List ℕ) (items : List (List ℕ)) (rest lists : Lists) → StillToCount count ((key, items) ∷ rest) lists → length items ≤ 4096 → StillToCount (min (count * length items) 4097) rest lists
count_more count key items rest lists so_far short = record {
  short = sym (ap (λ t. t || list_any (λ m. nat_lt 4096 (length m.1)) rest) (le-ltb 4096 (length items) short)) ∙ so_far.short;
  counted = capped_product (count * length items) (length (all_choices rest)) ∙ ap (λ n. min n 4097) (mul_assoc count (length items) (length (all_choices rest)) ∙ ap (λ n. count * n) (sym (length-all_choices key items rest))) ∙ so_far.counted;
  bound = omega arith;
}

flat_map_nothing : {X A : Type 0} (xs : List X) → flat_map {A = A} (λ (x : X). []) xs ≡ []
flat_map_nothing [] = refl
flat_map_nothing (x ∷ xs) = flat_map_nothing xs

pub empty_list : (lists : Lists) → list_any (λ m. length m.1 == 0) lists ≡ true → all_choices lists ≡ []
empty_list [] h = absurd (false≢true h)
empty_list ((key, []) ∷ ls) h = refl
empty_list ((key, item ∷ items) ∷ ls) h = ap (λ cs. flat_map (λ i. map (λ choice. (key, i) ∷ choice) cs) (item ∷ items)) (empty_list ls (ap (λ t. t || list_any (λ m. length m.1 == 0) ls) (sym (not_zero (length items))) ∙ h)) ∙ flat_map_nothing (item ∷ items)

-- a choice that goes on with one more item
map_longer : (choice : Chosen) (key item : List ℕ) (rests : List Chosen) → map (λ rest. choice ++ (key, item) ∷ [] ++ rest) rests ≡ map (λ rest. choice ++ rest) (map (λ rest. (key, item) ∷ rest) rests)
map_longer choice key item [] = refl
map_longer choice key item (r ∷ rs) = λ j. append_assoc choice ((key, item) ∷ []) r j ∷ map_longer choice key item rs j

one_choice : (choice : Chosen) (key : List ℕ) (items : List (List ℕ)) (lists : Lists) → completed (map (λ item. choice ++ (key, item) ∷ []) items) lists ≡ map (λ rest. choice ++ rest) (all_choices ((key, items) ∷ lists))
one_choice choice key [] lists = refl
one_choice choice key (i ∷ is) lists =
    (λ j. map_longer choice key i (all_choices lists) j ++ one_choice choice key is lists j) ∙ sym (map-append (λ rest. choice ++ rest) (map (λ rest. (key, i) ∷ rest) (all_choices lists)) (flat_map (λ item. map (λ rest. (key, item) ∷ rest) (all_choices lists)) is))

pub completed-extended : (choices : List Chosen) (key : List ℕ) (items : List (List ℕ)) (lists : Lists) → completed (extended choices key items) lists ≡ completed choices ((key, items) ∷ lists)
completed-extended [] key items lists = refl
completed-extended (c ∷ cs) key items lists =
    flat_map-append (λ choice. map (λ rest. choice ++ rest) (all_choices lists)) (map (λ item. c ++ (key, item) ∷ []) items) (extended cs key items) ∙ (λ j. one_choice c key items lists j ++ completed-extended cs key items lists j)

pub completed_last : (choices : List Chosen) → completed choices [] ≡ choices
completed_last [] = refl
completed_last (c ∷ cs) = λ j. append-nil c j ∷ completed_last cs j

drop-slice_get : {X : Type 0} (xs : List X) (place : ℕ) (x : X) → slice_get xs place ≡ Some x → drop place xs ≡ x ∷ drop (place + 1) xs
drop-slice_get xs place x h =
    drop_more xs place x (slice_get_within xs place x h) ∙ ap (λ y. y ∷ drop (place + 1) xs) (get_or_from_slice_get xs place x x h)

-- the list at a place of the map, and those behind it
pub list_seen : (entries : List (Bor (List ℕ) × Bor (List (List ℕ)))) (place : ℕ) (key : Bor (List ℕ)) (items : Bor (List (List ℕ))) → slice_get entries place ≡ Some (key, items) → drop place (seen_lists entries) ≡ (key.now, items.now) ∷ drop (place + 1) (seen_lists entries)
list_seen entries place key items h =
    drop-slice_get (seen_lists entries) place (key.now, items.now) (slice_get-map (λ e. (e.0.now, e.1.now)) entries place ∙ ap (option_map (λ e. (e.0.now, e.1.now))) h)

-- an insertion at a key that is a reference to a text, seen
module _ (eq : Bor (List ℕ) → Bor (List ℕ) → Bool) (same : (x y : Bor (List ℕ)) → eq x y ≡ bytes_eq x.now y.now) where
  insert_step : (t : Bool) (e : Bor (List ℕ) × Bor (List (List ℕ))) (es behind : List (Bor (List ℕ) × Bor (List (List ℕ)))) (key : Bor (List ℕ)) (items : Bor (List (List ℕ))) → seen_lists behind ≡ insert_entry bytes_eq (seen_lists es) key.now items.now → seen_lists (cond t ((e.0, items) ∷ es) (e ∷ behind)) ≡ cond t ((e.0.now, items.now) ∷ seen_lists es) ((e.0.now, e.1.now) ∷ insert_entry bytes_eq (seen_lists es) key.now items.now)
  insert_step true e es behind key items h = refl
  insert_step false e es behind key items h = ap (λ r. (e.0.now, e.1.now) ∷ r) h

  seen_lists-insert_entry : (entries : List (Bor (List ℕ) × Bor (List (List ℕ)))) (key : Bor (List ℕ)) (items : Bor (List (List ℕ))) → seen_lists (insert_entry eq entries key items) ≡ insert_entry bytes_eq (seen_lists entries) key.now items.now
  seen_lists-insert_entry [] key items = refl
  seen_lists-insert_entry (e ∷ es) key items =
      insert_step (eq key e.0) e es (insert_entry eq es key items) key items (seen_lists-insert_entry es key items) ∙ ap (λ t. cond t ((e.0.now, items.now) ∷ seen_lists es) ((e.0.now, e.1.now) ∷ insert_entry bytes_eq (seen_lists es) key.now items.now)) (same key e.0)

  pub list_put : (scopes : InScope) (new old : List (Bor (List ℕ) × Bor (List (List ℕ)))) (key : Bor (List ℕ)) (items : Bor (List (List ℕ))) (name : List ℕ) → new ≡ insert_entry eq old key items → key.now ≡ key_of scopes name → Some (list_of items.now) ≡ look scopes name → seen_lists new ≡ insert_all bytes_eq (seen_lists old) (lists_named scopes (name ∷ []))
  list_put scopes new old key items name h k l =
      ap seen_lists h ∙ seen_lists-insert_entry old key items ∙ ap (λ n. insert_entry bytes_eq (seen_lists old) n items.now) k ∙ ap (λ o. insert_all bytes_eq (seen_lists old) (cons_option (list_under (key_of scopes name) o) [])) l

-- the item at a place of a list, and those behind it
pub front_item : {X : Type 0} (xs : List X) (place : ℕ) (x : X) → place < length xs → x ≡ get_or xs place x → drop place xs ≡ x ∷ drop (place + 1) xs
front_item xs place x h e = drop_more xs place x h ∙ ap (λ y. y ∷ drop (place + 1) xs) (sym e)
