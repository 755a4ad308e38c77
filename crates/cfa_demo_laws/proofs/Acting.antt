-- What the promise of a number acts on: its file alone, which is created, given the number as its content, or the permissions 644.
use Rattle.std.proofs.Common.{◌≡◌, refl, sym, ◌∙◌, ap, subst, ℕ, zero, suc, ◌-◌, ◌<◌, ◌≤◌, ◌==◌, inl, inr, Bool, true, false, cond, List, [], ◌∷◌, ◌++◌, map, length, take, drop, ◌&&◌, codes, Option, Some, None, if◌then◌else◌, append-nil, arith}
use Rattle.std.specs.Prelude.{⊤, not, nat_le, find, filter, is_none}
use Rattle.std.specs.Fmt.{decimal}
use Rattle.std.specs.List.{AllByRecursion as Each, flat_map, list_all, slice_split, onto_first}
use Rattle.std.specs.Str.{bytes_eq}
use Rattle.std.specs.Str.Parse.{AllDigits}
use Rattle.std.proofs.lemmas.Bool.{ne_eqb, le-leb}
use Rattle.std.proofs.lemmas.Fmt.{decimal_is_IsNumeral}
use Rattle.std.proofs.lemmas.List.Splits.{slice_split-cons_no}
use Rattle.std.proofs.lemmas.Str.Parse.{digit_from_value}
use Rattle.cfa_base.specs.lemmas.EqualTexts.{texts_apart}
use Rattle.cfa_base.specs.lemmas.Lists.{each_append}
use Rattle.cfa_outside.specs.Paths.{is_rooted, is_component, components, joined, path_of}
use Rattle.cfa_acts.specs.declared.acts.Act.{Act}
use Rattle.cfa_acts.specs.declared.acts.Act.TheVariants.{Create, MakeDir, Delete, Content, Copy, Edit, Perms, Start, Stop, Enable, Disable, Restart, Bust}
use Rattle.cfa_vars.specs.References.{literal}
use Rattle.cfa_vars.specs.Named.{thing_at}
use Rattle.cfa_vars.specs.Scopes.{InScope}
use Rattle.cfa_vars.specs.Expansion.{Chosen, scalar, filled_piece, filled, within_limit, done_or_too_long, told_of, expanded}
use Rattle.cfa_vars.specs.declared.expanding.Expanded.TheVariants.{Done}
use Rattle.cfa_bodies.specs.Bodies.{Bodies}
use Rattle.cfa_resolve.specs.FileActs.{truth, is_directory_form, target_of, delete_acts, copy_acts, create_by, create_acts, content_acts, perms_acts, acts_at, acts_by, file_acts}
use Rattle.cfa_demo_laws.specs.Trees.{file_of}
use Rattle.cfa_demo_laws.proofs.Plain.{IsPlainByte, IsPlain, file_is_plain}
use Rattle.cfa_demo_laws.proofs.References.{plain_pieces, plain_names_none}

abbrev pub IsActOf : ℕ → Act → Type 0
IsActOf k (Create path) = path ≡ file_of k
IsActOf k (MakeDir path) = ⊥
IsActOf k (Delete path with_directories) = ⊥
IsActOf k (Content path bytes) = (path ≡ file_of k) × (bytes ≡ decimal k)
IsActOf k (Copy source path) = ⊥
IsActOf k (Edit path script) = ⊥
IsActOf k (Perms path mode owners groups) = (path ≡ file_of k) × (mode ≡ Some 420) × (owners ≡ []) × (groups ≡ [])
IsActOf k (Start name) = ⊥
IsActOf k (Stop name) = ⊥
IsActOf k (Enable name) = ⊥
IsActOf k (Disable name) = ⊥
IsActOf k (Restart name) = ⊥
IsActOf k (Bust reason) = ⊤

-- ---- a plain text stands for itself

literals_filled : (scopes : InScope) (choice : Chosen) (text : List ℕ) → flat_map (filled_piece scopes choice) (map literal text) ≡ text
literals_filled scopes choice [] = refl
literals_filled scopes choice (b ∷ rest) = ap (λ more. b ∷ more) (literals_filled scopes choice rest)

plain_filled : (scopes : InScope) (choice : Chosen) (text : List ℕ) → IsPlain text → filled scopes choice text ≡ text
plain_filled scopes choice text p = ap (flat_map (filled_piece scopes choice)) (plain_pieces text p) ∙ literals_filled scopes choice text

short_within : (text : List ℕ) → length text ≤ 65536 → within_limit text ≡ Some text
short_within text short = ap (λ fits. if fits then Some text else None) (le-leb (length text) 65536 short)

pub plain_expanded : (scopes : InScope) (choice : Chosen) (text : List ℕ) → IsPlain text → length text ≤ 65536 → expanded scopes choice text ≡ Done text
unfolding expanded
plain_expanded scopes choice text p short =
    (λ i. told_of (find (λ name. is_none (scalar scopes choice name)) (plain_names_none text p i)) (plain_filled scopes choice text p i))
    ∙ ap done_or_too_long (short_within text short)

-- ---- its path

plain_dropped : (m : ℕ) (text : List ℕ) → IsPlain text → IsPlain (drop m text)
plain_dropped zero text p = p
plain_dropped (suc m) [] p = p
plain_dropped (suc m) (b ∷ rest) p = plain_dropped m rest p.1

no_plain_dot : IsPlainByte 46 → ⊥
no_plain_dot (inl h) = omega arith
no_plain_dot (inr h) = omega arith

not_dot : (text : List ℕ) → IsPlain text → bytes_eq text (codes "/.") ≡ false
not_dot text p = texts_apart text (codes "/.") (λ same. no_plain_dot (subst IsPlain same p).1.0)

no_directory : (k : ℕ) → k < 10000 → is_directory_form (file_of k) ≡ false
no_directory k below = not_dot (drop (length (file_of k) - 2) (file_of k)) (plain_dropped (length (file_of k) - 2) (file_of k) (file_is_plain k below))

abbrev is_slash : ℕ → Bool
is_slash b = b == 47

digits_whole : (ds : List ℕ) → AllDigits 10 ds → slice_split is_slash ds ≡ ds ∷ []
digits_whole [] d = refl
digits_whole (c ∷ cs) d =
    let digit = digit_from_value c d.0 in
    slice_split-cons_no is_slash c cs (ne_eqb c 47 (λ e. omega arith)) ∙ ap (onto_first c) (digits_whole cs d.1)

is_part : (b : ℕ) (bs : List ℕ) → (length (b ∷ bs) == 0) ≡ false
is_part b bs = ne_eqb (length (b ∷ bs)) 0 (λ e. omega arith)

abbrev full_parts : List (List ℕ) → List (List ℕ)
full_parts parts = filter (λ part. not (length part == 0)) parts

path_is_file : (k : ℕ) → k < 10000 → joined (components (file_of k)) ≡ file_of k
path_is_file k below =
    let whole = digits_whole (decimal k) (decimal_is_IsNumeral k (omega arith)).0.1 in
    ap (λ parts. joined (full_parts ((100 ∷ []) ∷ onto_first 102 parts))) whole
    ∙ (λ i. joined ((100 ∷ []) ∷ cond (not (is_part 102 (decimal k) i)) ((102 ∷ decimal k) ∷ []) []))
    ∙ ap (λ end. 47 ∷ 100 ∷ 47 ∷ 102 ∷ end) (append-nil (decimal k))

abbrev IsFile : ℕ → Option (List ℕ) → Type 0
IsFile k None = ⊤
IsFile k (Some path) = path ≡ file_of k

if_file : (k : ℕ) (is_path : Bool) (path : List ℕ) → path ≡ file_of k → IsFile k (if is_path then Some path else None)
if_file k true path is = is
if_file k false path is = tt

path_target : (k : ℕ) → k < 10000 → IsFile k (path_of (file_of k))
unfolding path_of
path_target k below =
    if_file k ((is_rooted (file_of k) && list_all is_component (components (file_of k))) && nat_le (length (joined (components (file_of k)))) 1024)
    (joined (components (file_of k))) (path_is_file k below)

target_is : (k : ℕ) → k < 10000 → IsFile k (target_of (file_of k))
target_is k below =
    subst (λ (is_directory : Bool). IsFile k (path_of (if is_directory then take (length (file_of k) - 2) (file_of k) else file_of k)))
    (sym (no_directory k below)) (path_target k below)

-- ---- its acts

abbrev pub IsContent : ℕ → Option (List ℕ) → Type 0
IsContent k None = ⊤
IsContent k (Some content) = content ≡ decimal k

abbrev pub Perms644 : ℕ → Bodies → Type 0
Perms644 k bodies = (path : List ℕ) → path ≡ file_of k → Each (IsActOf k) (perms_acts path (thing_at bodies (codes "perms")))

-- what the bodies of a demo promise say of other acts
pub record SayNoMore (bodies : Bodies) : Type 0 where
  pub no_delete : thing_at bodies (codes "delete") ≡ None
  pub no_copy : thing_at bodies (codes "copy_from") ≡ None

created_by : (k : ℕ) (path : List ℕ) (truth : Option Bool) → path ≡ file_of k → Each (IsActOf k) (create_by path false truth)
created_by k path None is = (tt, tt)
created_by k path (Some false) is = tt
created_by k path (Some true) is = (is, tt)

created : (k : ℕ) (path : List ℕ) (create : Option (List ℕ)) → path ≡ file_of k → Each (IsActOf k) (create_acts path false create)
created k path None is = tt
created k path (Some content) is = created_by k path (truth content) is

contents : (k : ℕ) (path : List ℕ) (content : Option (List ℕ)) → path ≡ file_of k → IsContent k content → Each (IsActOf k) (content_acts path false content)
contents k path None is c = tt
contents k path (Some content) is c = ((is, c), tt)

module _ (k : ℕ) (create content : Option (List ℕ)) (bodies : Bodies) (is_content : IsContent k content) (no_more : SayNoMore bodies) (perms : Perms644 k bodies) where
  at_path : (path : List ℕ) → path ≡ file_of k → Each (IsActOf k) (acts_at path false create content bodies None)
  at_path path is =
      subst (λ (acts : List Act). Each (IsActOf k) acts)
      (λ i. (delete_acts path (sym no_more.no_delete i) ++ (create_acts path false create ++ (copy_acts path false (sym no_more.no_copy i) ++ content_acts path false content)))
      ++ perms_acts path (thing_at bodies (codes "perms")))
      (each_append (IsActOf k) (create_acts path false create ++ content_acts path false content) (perms_acts path (thing_at bodies (codes "perms")))
      (each_append (IsActOf k) (create_acts path false create) (content_acts path false content) (created k path create is) (contents k path content is is_content))
      (perms path is))

  by_target : (target : Option (List ℕ)) → IsFile k target → Each (IsActOf k) (acts_by target false create content bodies None)
  by_target None is = (tt, tt)
  by_target (Some path) is = at_path path is

  pub file_acts_are : k < 10000 → Each (IsActOf k) (file_acts (file_of k) create content bodies None)
  unfolding file_acts
  file_acts_are below =
      subst (λ (is_directory : Bool). Each (IsActOf k) (acts_by (target_of (file_of k)) is_directory create content bodies None))
      (sym (no_directory k below)) (by_target (target_of (file_of k)) (target_is k below))
