-- What a counting site shows before and after a call, and that its counts are exact.
use Rattle.std.proofs.Common.{◌≡◌, ℕ, zero, suc, ◌+◌, ◌-◌, List, [], ◌∷◌, ◌++◌, length, Option, Some, None, option_map, Result, Ok, Err, refl, sym, ap, ap₂, subst, ◌∙◌, append_assoc, length-append, arith}
use Rattle.cfa_base.specs.Shown.{Shown, Follows, Untouched, HasFailed, IsLeft}
use Rattle.cfa_outside.specs.declared.errors.OutsideErr.{OutsideErr}
use Rattle.cfa_outside.specs.declared.errors.OutsideErr.TheVariants.{Failed, NoMemory}
use Rattle.cfa_outside.specs.declared.sites.Call.{Call}
use Rattle.cfa_outside.specs.declared.sites.Call.TheVariants.{Change as Change'}
use Rattle.cfa_outside.specs.declared.sites.Change.{Change}
use Rattle.cfa_outside.specs.declared.sites.Entry.{Entry}
use Rattle.cfa_outside.specs.declared.sites.Entry.TheVariants.{Did, Refused}
use Rattle.cfa_outside.specs.Answered.{Answered}
use Rattle.cfa_outside.specs.Sites.{Told, adds, after, Seen}
use Rattle.cfa_demo.specs.Counts.{changes_of, changes_in, refusals, additions, changes_made, coded, counted_log, counted_told, counted, CountsAreExact}

-- ---- one entry more

changes-append : (a b : List Entry) → changes_in (a ++ b) ≡ changes_in a + changes_in b
changes-append [] b = omega arith
changes-append (Did change ∷ a) b = omega (arith, changes-append a b)
changes-append (Refused call ∷ a) b = changes-append a b

one_more : (e c : ℕ) (x : Entry) (log : List Entry) → counted_log (e + 1) (c + changes_in (x ∷ [])) (log ++ x ∷ []) ≡ counted_log e c log ++ x ∷ []
one_more e c x log =
    let longer : suc (length (log ++ x ∷ [])) - (e + 1) ≡ suc (length log) - e = omega (arith, length-append log (x ∷ [])) in
    let changed : suc (changes_in (log ++ x ∷ [])) - (c + changes_in (x ∷ [])) ≡ suc (changes_in log) - c = omega (arith, changes-append log (x ∷ [])) in
    ap₂ (λ m n. coded m ++ (coded n ++ (log ++ x ∷ []))) longer changed
    ∙ ap (λ rest. coded (suc (length log) - e) ++ rest) (sym (append_assoc (coded (suc (changes_in log) - c)) log (x ∷ [])))
    ∙ sym (append_assoc (coded (suc (length log) - e)) (coded (suc (changes_in log) - c) ++ log) (x ∷ []))

told_more : (e c : ℕ) (x : Entry) (t : Told) → counted_told (e + 1) (c + changes_in (x ∷ [])) (adds (x ∷ []) t) ≡ adds (x ∷ []) (counted_told e c t)
told_more e c x t i = record { world = after (x ∷ []) t.world; log = one_more e c x t.log i }

some_more : (e c : ℕ) (x : Entry) (told : Option Told) →
    option_map (counted_told (e + 1) (c + changes_in (x ∷ []))) (option_map (adds (x ∷ [])) told) ≡ option_map (adds (x ∷ [])) (option_map (counted_told e c) told)
some_more e c x None = refl
some_more e c x (Some t) = ap Some (told_more e c x t)

-- ---- a call

ok-err : {X : Type 0} {answer : X} {error : OutsideErr} → Path (Result X OutsideErr) (Ok answer) (Err error) → ⊥
ok-err is = grind (arith, is)

failed-memory : {X : Type 0} → Path (Result X OutsideErr) (Err Failed) (Err NoMemory) → ⊥
failed-memory is = grind (arith, is)

module _ (e c : ℕ) (s s' : Shown Told) where
  same : Untouched s s' → Untouched (counted e c s) (counted (e + 0) c s')
  same un = ap₂ (λ n (x : Shown Told). counted n c x) (omega arith) un

  failed : (call : Call) → HasFailed (adds (Refused call ∷ [])) s s' → HasFailed (adds (Refused call ∷ [])) (counted e c s) (counted (e + 1) c s')
  failed call h = record {
    told =
        ap (λ n. option_map (counted_told (e + 1) n) s'.told) (omega arith)
        ∙ ap (option_map (counted_told (e + 1) (c + 0))) h.told ∙ some_more e c (Refused call) s.told;
    rose = h.rose;
    later = h.later;
  }

  left : IsLeft s s' → IsLeft (counted e c s) (counted (e + 0) c s')
  left h = record {
    told = ap₂ (λ n (x : Option Told). option_map (counted_told n c) x) (omega arith) h.told;
    later = h.later;
  }

  seen_by : {X : Type 0} (call : Call) (r : Result X OutsideErr) → Seen call s s' r → Seen call (counted e c s) (counted (e + refusals r) c s') r
  seen_by call (Ok answer) h = record { ok = same h.ok; failed = λ is. absurd (ok-err is); memory = λ is. absurd (ok-err is) }
  seen_by call (Err Failed) h = record { ok = tt; failed = λ is. failed call (h.failed is); memory = λ is. absurd (failed-memory is) }
  seen_by call (Err NoMemory) h = record { ok = tt; failed = λ is. absurd (failed-memory (sym is)); memory = λ is. left (h.memory is) }

  pub seen : {X : Type 0} (call : Call) (r : Result X OutsideErr) (n : ℕ) → n ≡ refusals r → Seen call s s' r → Seen call (counted e c s) (counted (e + n) c s') r
  seen call r n is h = subst (λ m. Seen call (counted e c s) (counted (e + m) c s') r) (sym is) (seen_by call r h)

  -- a change that was made or refused
  abbrev pub Changed : Change → (before after : Shown Told) → Result (Unit {0}) OutsideErr → Type 0
  Changed change before after r = Answered (λ _. Follows (adds (Did change ∷ []))) (adds (Refused Change' ∷ [])) before after r

  follows : (change : Change) (n : ℕ) → n ≡ changes_of change → Follows (adds (Did change ∷ [])) s s' → Follows (adds (Did change ∷ [])) (counted e c s) (counted (e + 1) (c + n) s')
  follows change n is h =
      ap₂ (λ m (x : Shown Told). counted (e + 1) m x) (omega (arith, is)) h
      ∙ ap (λ (told : Option Told). record { told = told; faults = s.faults }) (some_more e c (Did change) s.told)

  unchanged : IsLeft s s' → IsLeft (counted e c s) (counted (e + 0) (c + 0) s')
  unchanged h = record {
    told = ap₂ (λ n (x : Option Told). option_map (counted_told n (c + 0)) x) (omega arith) h.told ∙ ap (λ n. option_map (counted_told e n) s.told) (omega arith);
    later = h.later;
  }

  failed_change : HasFailed (adds (Refused Change' ∷ [])) s s' → HasFailed (adds (Refused Change' ∷ [])) (counted e c s) (counted (e + 1) (c + 0) s')
  failed_change h = subst (λ n. HasFailed (adds (Refused Change' ∷ [])) (counted e c s) (counted (e + 1) n s')) (omega arith) (failed Change' h)

  changed_by : (change : Change) (r : Result (Unit {0}) OutsideErr) → Changed change s s' r → Changed change (counted e c s) (counted (e + additions r) (c + changes_made r change) s') r
  changed_by change (Ok done) h = record { ok = follows change (changes_of change) refl h.ok; failed = λ is. absurd (ok-err is); memory = λ is. absurd (ok-err is) }
  changed_by change (Err Failed) h = record { ok = tt; failed = λ is. failed_change (h.failed is); memory = λ is. absurd (failed-memory is) }
  changed_by change (Err NoMemory) h = record { ok = tt; failed = λ is. absurd (failed-memory (sym is)); memory = λ is. unchanged (h.memory is) }

  pub changed : (change : Change) (r : Result (Unit {0}) OutsideErr) (m n : ℕ) → m ≡ additions r → n ≡ changes_made r change → Changed change s s' r → Changed change (counted e c s) (counted (e + m) (c + n) s') r
  changed change r m n entries changes h = subst (λ (x : ℕ × ℕ). Changed change (counted e c s) (counted (e + x.0) (c + x.1) s') r) (λ i. (sym entries i, sym changes i)) (changed_by change r h)

-- ---- the counts are exact

pub record Decoded (m n : ℕ) (a b : List Entry) : Type 0 where
  pub number_is : m ≡ n
  pub rest_is : a ≡ b

decoded : (m n : ℕ) (a b : List Entry) → coded m ++ a ≡ coded n ++ b → Decoded m n a b
decoded zero zero a b is = record { number_is = refl; rest_is = grind (arith, is) }
decoded zero (suc n) a b is = absurd (grind (arith, is))
decoded (suc m) zero a b is = absurd (grind (arith, is))
decoded (suc m) (suc n) a b is = let d = decoded m n a b (grind (arith, is)) in record { number_is = ap suc d.number_is; rest_is = d.rest_is }

pub exact : CountsAreExact
exact e c before after added is =
    let world_is = ap (λ (t : Told). t.world) is in
    let log_is = ap (λ (t : Told). t.log) is in
    let whole = log_is
    ∙ append_assoc (coded (suc (length before.log) - 0)) (coded (suc (changes_in before.log) - 0) ++ before.log) added
    ∙ ap (λ rest. coded (suc (length before.log) - 0) ++ rest) (append_assoc (coded (suc (changes_in before.log) - 0)) before.log added) in
    let first = decoded _ _ _ _ whole in
    let second = decoded _ _ _ _ first.rest_is in
    record {
      site_is = λ i. record { world = world_is i; log = second.rest_is i };
      entries_are = omega (arith, first.number_is, ap length second.rest_is, length-append before.log added);
      changes_are = omega (arith, second.number_is, ap changes_in second.rest_is, changes-append before.log added);
    }
