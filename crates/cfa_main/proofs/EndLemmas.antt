-- How lists of bytes end: a list is gone through with what was seen last, so that its end alone counts.
use Rattle.std.proofs.Common.{◌≡◌, ◌≢◌, ℕ, ◌==◌, Bool, if◌then◌else◌, List, [], ◌∷◌, ◌++◌, Option, Some, None, option_map, codes, All, refl, sym, ap, ◌∙◌, ne_eqb, arith}
use Rattle.std.proofs.lemmas.List.Elements.{All-head, All-tail}
use Rattle.std.proofs.lemmas.Option.{none-some, same_Some}
use Rattle.cfa_base.specs.Escapes.{escaped}
use Rattle.cfa_base.specs.lemmas.Escapes.{escaped-avoids}
use Rattle.cfa_base.specs.Shown.{Shown, Follows}
use Rattle.cfa_base.specs.declared.places.PromiseId.{PromiseId}
use Rattle.cfa_outside.specs.Sinks.{adds_bytes}
use Rattle.cfa_output.specs.declared.items.End.{End as SettledEnd}
use Rattle.cfa_output.specs.declared.items.End.TheVariants.{Yes, Locks, Failed, Conflict as HasConflict, Limit}
use Rattle.cfa_output.specs.Lines.{moment_line, settled_line, id_text, conflict_line}
use Rattle.cfa_conflict.specs.Analyses.{IsResource, presence, content, perms, running, enabled, restart, class, nothing}
use Rattle.cfa_main.specs.Ends.{EndsWith}

-- ---- what was seen last

-- two numbers are kept while a list is gone through
abbrev Seen : Type 0
Seen = ℕ × ℕ

abbrev pub through : (ℕ → Seen → Seen) → Seen → List ℕ → Seen
through step s [] = s
through step s (x ∷ xs) = through step (step x s) xs

-- the end of a list tells this, whatever was seen before it
abbrev Tells : (step : ℕ → Seen → Seen) → (out : Seen → ℕ) → List ℕ → ℕ → Type 0
Tells step out end n = (s : Seen) → out (through step s end) ≡ n

tells_behind : (step : ℕ → Seen → Seen) (out : Seen → ℕ) (before end : List ℕ) (n : ℕ) → Tells step out end n → Tells step out (before ++ end) n
tells_behind step out [] end n is s = is s
tells_behind step out (x ∷ before) end n is s = tells_behind step out before end n is (step x s)

-- two texts that end so differ
tells_apart : (step : ℕ → Seen → Seen) (out : Seen → ℕ) (a b : List ℕ) (m n : ℕ) → Tells step out a m → Tells step out b n → a ≡ b → m ≡ n
tells_apart step out a b m n tells other same = sym (tells (0, 0)) ∙ ap (λ xs. out (through step (0, 0) xs)) same ∙ other (0, 0)

-- the last byte but one
abbrev next : ℕ → Seen → Seen
next x s = (s.1, x)

abbrev last_but_one : Seen → ℕ
last_but_one s = s.0

-- the byte before the last space
abbrev spaced : ℕ → Seen → Seen
spaced x s = (x, if x == 32 then s.0 else s.1)

abbrev before_space : Seen → ℕ
before_space s = s.1

-- ---- the lines that a run may end with

abbrev mark_of : SettledEnd → ℕ
mark_of Yes = 115
mark_of Locks = 41
mark_of Failed = 41
mark_of HasConflict = 41
mark_of Limit = 41

mark_at : (end : SettledEnd) → Tells next last_but_one (settled_line end ++ []) (mark_of end)
mark_at Yes s = refl
mark_at Locks s = refl
mark_at Failed s = refl
mark_at HasConflict s = refl
mark_at Limit s = refl

yes_at : Tells next last_but_one (settled_line Yes) 115
yes_at s = refl

moment_at : Tells next last_but_one moment_line 100
moment_at s = refl

space_at : Tells next last_but_one (32 ∷ 10 ∷ []) 32
space_at s = refl

colon_at : Tells spaced before_space (settled_line Yes) 58
colon_at s = refl

only_yes : (end : SettledEnd) → mark_of end ≡ 115 → end ≡ Yes
only_yes Yes same = refl
only_yes Locks same = absurd (omega (arith, same))
only_yes Failed same = absurd (omega (arith, same))
only_yes HasConflict same = absurd (omega (arith, same))
only_yes Limit same = absurd (omega (arith, same))

-- ---- the line of a conflict

-- what has no space is passed over
no_space : (xs : List ℕ) → All (λ x. x ≢ 32) xs → (s : Seen) → before_space (through spaced s (xs ++ 10 ∷ [])) ≡ s.1
no_space [] all s = refl
no_space (x ∷ xs) all s = no_space xs (All-tail (λ x. x ≢ 32) x xs all) (spaced x s)
    ∙ ap (λ (b : Bool). if b then s.0 else s.1) (ne_eqb x 32 (All-head (λ x. x ≢ 32) x xs all))

no_space_in : (name : List ℕ) (s : Seen) → before_space (through spaced s (escaped name ++ 10 ∷ [])) ≡ s.1
no_space_in name s = no_space (escaped name) (escaped-avoids 32 name (omega arith) refl) s

conflict_behind : (step : ℕ → Seen → Seen) (out : Seen → ℕ) (cause : List ℕ) (first second : PromiseId) (resource : List ℕ) (n : ℕ) →
    Tells step out (32 ∷ (resource ++ 10 ∷ [])) n → Tells step out (conflict_line cause first second resource) n
unfolding conflict_line
conflict_behind step out cause first second resource n is =
    let line : List ℕ = 32 ∷ (resource ++ 10 ∷ []) in
    let behind_second : List ℕ = id_text second ++ line in
    let behind_space : List ℕ = codes " " ++ behind_second in
    let behind_first : List ℕ = id_text first ++ behind_space in
    let behind_cause : List ℕ = codes " " ++ behind_first in
    let behind_word : List ℕ = cause ++ behind_cause in
    tells_behind step out (codes "conflict ") behind_word n (tells_behind step out cause behind_cause n (tells_behind step out (codes " ") behind_first n
    (tells_behind step out (id_text first) behind_space n (tells_behind step out (codes " ") behind_second n (tells_behind step out (id_text second) line n is)))))

module _ (bytes : List ℕ) (ends : EndsWith (settled_line Yes) bytes) where
  differs : (step : ℕ → Seen → Seen) (out : Seen → ℕ) (before line : List ℕ) (m n : ℕ) → Tells step out (settled_line Yes) m → Tells step out line n → bytes ≡ before ++ line → m ≡ n
  differs step out before line m n told other is =
      tells_apart step out (ends.0 ++ settled_line Yes) (before ++ line) m n (tells_behind step out ends.0 (settled_line Yes) m told) (tells_behind step out before line n other) (sym ends.1 ∙ is)

  -- the line of a settled run alone ends so
  pub settled_by_line : (before text : List ℕ) (end : SettledEnd) → bytes ≡ before ++ (text ++ (settled_line end ++ [])) → end ≡ Yes
  settled_by_line before text end is = only_yes end (sym (differs next last_but_one before (text ++ (settled_line end ++ [])) 115 (mark_of end) yes_at
      (tells_behind next last_but_one text (settled_line end ++ []) (mark_of end) (mark_at end)) is))

  pub moment_ends_otherwise : (before : List ℕ) → bytes ≡ before ++ moment_line → ⊥
  moment_ends_otherwise before is = omega (arith, differs next last_but_one before moment_line 115 100 yes_at moment_at is)

  module _ (before cause : List ℕ) (first second : PromiseId) where
    by_kind : (resource : List ℕ) (n : ℕ) → Tells spaced before_space (32 ∷ (resource ++ 10 ∷ [])) n → bytes ≡ before ++ conflict_line cause first second resource → 58 ≡ n
    by_kind resource n tells is = differs spaced before_space before (conflict_line cause first second resource) 58 n colon_at (conflict_behind spaced before_space cause first second resource n tells) is

    pub conflict_ends_otherwise : (resource : List ℕ) → IsResource resource → bytes ≡ before ++ conflict_line cause first second resource → ⊥
    conflict_ends_otherwise resource (presence name) is = omega (arith, by_kind resource 101 (λ s. no_space_in name (32, 101)) is)
    conflict_ends_otherwise resource (content name) is = omega (arith, by_kind resource 116 (λ s. no_space_in name (32, 116)) is)
    conflict_ends_otherwise resource (perms name) is = omega (arith, by_kind resource 115 (λ s. no_space_in name (32, 115)) is)
    conflict_ends_otherwise resource (running name) is = omega (arith, by_kind resource 103 (λ s. no_space_in name (32, 103)) is)
    conflict_ends_otherwise resource (enabled name) is = omega (arith, by_kind resource 100 (λ s. no_space_in name (32, 100)) is)
    conflict_ends_otherwise resource (restart name) is = omega (arith, by_kind resource 116 (λ s. no_space_in name (32, 116)) is)
    conflict_ends_otherwise resource (class name) is = omega (arith, by_kind resource 115 (λ s. no_space_in name (32, 115)) is)
    conflict_ends_otherwise resource nothing is = omega (
      arith,
      differs next last_but_one before (conflict_line cause first second []) 115 32 yes_at
          (conflict_behind next last_but_one cause first second [] 32 space_at) is,
    )

-- ---- what was put before

pub put_behind : (line bytes : List ℕ) (out out' : Shown (List ℕ)) → Follows (adds_bytes line) out out' → out'.told ≡ Some bytes → (before : List ℕ) × (bytes ≡ before ++ line)
put_behind line bytes out out' put told = by out.told (sym (ap (λ (s : Shown (List ℕ)). s.told) put) ∙ told) where
  by : (o : Option (List ℕ)) → option_map (adds_bytes line) o ≡ Some bytes → (before : List ℕ) × (bytes ≡ before ++ line)
  by None e = absurd (none-some bytes e)
  by (Some before) e = (before, sym (same_Some (before ++ line) bytes e))
