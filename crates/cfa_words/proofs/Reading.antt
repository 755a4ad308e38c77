-- The parser's walk gives what the definition of command lines says, word by word.
use Rattle.std.proofs.Common.{◌≡◌, ◌∙◌, ◌==◌, ◌&&◌, ◌||◌, ◌<◌, ◌++◌, ◌∷◌, [], List, ℕ, Bool, cond, if◌then◌else◌, Option, Some, None, true, false, not, true≢false, refl, sym, ap, ap₂, subst, codes, is_some, length, get_or, arith, lit<}
use Rattle.std.specs.List.{list_all, slice_get}
use Rattle.std.specs.Option.{option_and_then, option_map_or}
use Rattle.std.specs.Str.{IsUtf8, bytes_eq, chars, is_utf8}
use Rattle.std.proofs.lemmas.Bool.{and_parts, eq-eqb, eqb-true, ne_eqb}
use Rattle.std.proofs.lemmas.Str.{IsUtf8-from_is_utf8}
use Rattle.std.specs.Prelude.{drop, encode_utf8}
use Rattle.clap.specs.Lexer.{long_of, short_of}
use Rattle.clap.specs.Walk.{Held, Outcome, Row, Rule, Step, Text, Waiting, Walk, after_flag, after_step, arg_by_index, arg_by_long, arg_by_short, bundle_met, bundle_step, long_met, nothing_held, option_met, walk, done, finished, idle, is_pending, long_word, option, plain_word, pushed, reacted, settled, settled_rows, short_or_plain, short_word, attached_value, long_or_other, takes_values, trailing, used, value as own_word, with_default, has_row, walked}
use Rattle.clap.specs.Kinds.{Kinds, or_else}
use Rattle.clap.specs.Faults.{entered_fault, fault_of, is_simple_and_free, level_fault, bundle_fault, bundle_step_fault, check_fault, default_fault, defaults_fault, flags_fault, long_fault, option_fault, react_fault, settle_fault, flag_word_fault, short_fault, step_fault, use_fault}
use Rattle.clap.specs.Simple.{built, entered, matches_of}
use Rattle.std.proofs.lemmas.Slice.Eq.{bytes_eq-Decides}
use Rattle.clap.specs.declared.error.kind.ErrorKind.TheVariants as kind
use Rattle.clap.proofs.OnLiterals.{clap_on_literals}
use Rattle.cfa_base.specs.lemmas.Truths.{or_false, and_false}
use Rattle.cfa_words.specs.OfTheCode.{command_line, command_rule}
use Rattle.cfa_words.specs.Words.{Given, Next, Piece, after_D, define, flag, given, also, any, classes, letters, named, no_lock, pieces, plain, plain_only, strict, unknown, value, whole, with_pieces, word_read}
use Rattle.cfa_words.proofs.Looks.{Look, end_look, first_D, first_K, first_char, is_end, letters_look, long_look, own_look, seen, text_after}
use Rattle.cfa_words.proofs.Rows.{used_new}
use Rattle.cfa_words.proofs.Walking.{or_else-assoc, run-faults, run-rows, at, end_fault, held, rules, run, shape, start}
use Rattle.cfa_words.proofs.Law.{argument_free, command_free, define_free, define_taken, define_used, extra_free, lock_free, lock_taken, lock_used, strict_free, strict_taken, strict_used, Agrees, Holds, Shows, argument_there, command_there, cond_same, cons≢nil, definer, fails_first, fails_second, holds_argument, holds_command, holds_define, holds_extra, holds_lock, holds_strict, lock, mk, none_first, place, shown, stricter, with_flag_defaults}

-- ---- the end of the line

abbrev needs : Bool → Bool → Kinds
needs a b = if not a || (not b || false) then kind.MissingRequiredArgument ∷ [] else []

-- no default of these arguments is refused
abbrev Passing : List Rule → Type 0
Passing [] = Unit {0}
Passing (a ∷ more) = ((rows : List Row) → default_fault rows a ≡ []) × Passing more

no_default_refused : (rows : List Row) (args : List Rule) → Passing args → defaults_fault rows args ≡ []
unfolding defaults_fault
no_default_refused rows [] h = refl
no_default_refused rows (a ∷ more) h = none_first _ _ (h.0 rows) ∙ no_default_refused (with_default rows a) more h.1

all_passing : Passing rules
all_passing = (
  λ rows. cond_same (has_row (codes "command") rows || true) [],
  (
    λ rows. cond_same (has_row (codes "argument") rows || true) [],
    (
      λ rows. cond_same (has_row (codes "extra") rows || true) [],
      (
        λ rows. cond_same (has_row (codes "no-lock") rows || false) [],
        (
          λ rows. cond_same (has_row (codes "strict") rows || false) [],
          (λ rows. cond_same (has_row (codes "define") rows || true) [], tt),
        ),
      ),
    ),
  ),
)

abbrev settled_list : List Row → Option (Text × List Text) → List Row
settled_list rows pending = settled_rows rules pending rows

-- what is missing at the end
ends_with : (ws : List Text) (n s : Bool) (c : Option Text) (rows : List Row) (pending : Option (Text × List Text))
    → settle_fault rules false (held rows pending) ≡ [] → Holds ws n s c (settled_list rows pending)
    → end_fault (held rows pending) ≡ needs (is_some (slice_get ws 0)) (is_some (slice_get ws 1))
ends_with ws n s c rows pending fine h =
    none_first _ _ fine ∙ none_first _ _ (no_default_refused (settled_list rows pending) rules all_passing)
    ∙ ap (λ (r : List Row). check_fault shape r false) (with_flag_defaults (settled_list rows pending))
    ∙ ap₂ needs (command_there ws n s c (settled_list rows pending) h) (argument_there ws n s c (settled_list rows pending) h)

missing_fails : (r : Kinds) → r ≡ kind.MissingRequiredArgument ∷ [] → r ≡ [] → ⊥
missing_fails r e none = cons≢nil kind.MissingRequiredArgument [] (sym e ∙ none)

pub law_end : (ws : List Text) (n s : Bool) (c : Option Text) (rows : List Row) (pending : Option (Text × List Text))
    → settle_fault rules false (held rows pending) ≡ [] → Holds ws n s c (settled_list rows pending)
    → Agrees (whole (mk ws n s c)) (end_fault (held rows pending), finished rules (held rows pending))
law_end [] n s c rows pending fine h = missing_fails _ (ends_with [] n s c rows pending fine h)
law_end (a ∷ []) n s c rows pending fine h = missing_fails _ (ends_with (a ∷ []) n s c rows pending fine h)
law_end (a ∷ b ∷ more) n s c rows pending fine h = (
  ends_with (a ∷ b ∷ more) n s c rows pending fine h,
  subst (Shows (mk (a ∷ b ∷ more) n s c)) (sym (with_flag_defaults (settled_list rows pending))) (shown (a ∷ b ∷ more) n s c (settled_list rows pending) h),
)

-- ---- one word more

-- the rest of the line after a word with this fault and this step
abbrev onward : Kinds → Held × Step → Walk → Text → List Text → Kinds × List Row
onward fault met w word rest = (
  or_else (or_else fault (step_fault shape w.position met.0 met.1)) (run (after_step rules word w met.0 met.1) rest).0,
  (run (after_step rules word w met.0 met.1) rest).1,
)

-- a word that may be `--` or a long option
abbrev by_long : Bool → Option (Text × Option Text) → Walk → Text → List Text → Kinds × List Row
by_long ends long w word rest = onward (if ends then [] else flag_word_fault rules false long word w.held)
    (if ends then (w.held, trailing w.position) else long_or_other rules w.waiting word long w.held) w word rest

-- a word that may be letters after a dash
abbrev by_short : Option Text → Walk → Text → List Text → Kinds × List Row
by_short short w word rest =
    onward (option_map_or (λ flags. bundle_fault rules false flags w.held) short []) (short_or_plain rules w.waiting word short w.held) w word rest

looked : (rows : List Row) (pending : Option (Text × List Text)) (position : ℕ) (word : Text) (rest : List Text) (ends : Bool) (long : Option (Text × Option Text))
    → is_end word ≡ ends → long_of word ≡ long
    → run (at rows pending idle position false) (word ∷ rest) ≡ by_long ends long (at rows pending idle position false) word rest
unfolding walked
looked rows pending position word rest ends long e l = λ i. by_long (e i) (l i) (at rows pending idle position false) word rest

looked_waiting : (rows : List Row) (pending : Option (Text × List Text)) (id : Text) (position : ℕ) (word : Text) (rest : List Text) (ends : Bool) (long : Option (Text × Option Text))
    → is_end word ≡ ends → long_of word ≡ long
    → run (at rows pending (option id) position false) (word ∷ rest) ≡ by_long ends long (at rows pending (option id) position false) word rest
unfolding walked
looked_waiting rows pending id position word rest ends long e l = λ i. by_long (e i) (l i) (at rows pending (option id) position false) word rest

looked_short : (w : Walk) (word : Text) (rest : List Text) (short : Option Text) → short_of word ≡ short → by_long false None w word rest ≡ by_short short w word rest
looked_short w word rest short s = λ i. by_short (s i) w word rest

-- ---- a fault that waits

abbrev Fails : Kinds × List Row → Type 0
Fails r = r.0 ≡ [] → ⊥

fails_by : (r t : Kinds × List Row) → r ≡ t → Fails t → Fails r
fails_by r t e bad none = bad (ap (λ (x : Kinds × List Row). x.0) (sym e) ∙ none)

onward_fails : (fault : Kinds) (met : Held × Step) (w : Walk) (word : Text) (rest : List Text) → (fault ≡ [] → ⊥) → Fails (onward fault met w word rest)
onward_fails fault met w word rest bad = fails_first _ _ (fails_first _ _ bad)

word_text : (word : Text) (rest : List Text) → list_all is_utf8 (word ∷ rest) ≡ true → IsUtf8 word
word_text word rest u = IsUtf8-from_is_utf8 word (and_parts _ _ u).0

rest_texts : (word : Text) (rest : List Text) → list_all is_utf8 (word ∷ rest) ≡ true → list_all is_utf8 rest ≡ true
rest_texts word rest u = (and_parts _ _ u).1

letters_text : (word : Text) (c : ℕ) (more : Text) → word ≡ 45 ∷ c ∷ more → IsUtf8 word → IsUtf8 (c ∷ more)
letters_text word c more is u = text_after 45 (c ∷ more) (lit< tt) (subst IsUtf8 is u)

-- a word of its own that is read when something is pending
abbrev owned : List Text → List Row → Option (Text × List Text) → Bool → Text → List Text → Kinds × List Row
owned ws rows pending ended word rest = onward [] (held rows pending, own_word) (at rows pending idle (place ws) ended) word rest

module _ (rows : List Row) (pending : Option (Text × List Text)) (bad : settle_fault rules false (held rows pending) ≡ [] → ⊥) where
  unsettled : (b : Bool) → cond (b && false) [] (settle_fault rules false (held rows pending)) ≡ [] → ⊥
  unsettled b none = bad (ap (λ x. cond x [] (settle_fault rules false (held rows pending))) (sym (and_false b)) ∙ none)

  own_fails : (ws : List Text) (w : Walk) (word : Text) (rest : List Text) → w.position ≡ place ws → Fails (onward [] (held rows pending, own_word) w word rest)
  own_fails [] w word rest e = fails_first _ _ (λ none. unsettled (is_pending (get_or rules 0 command_rule) pending) (ap (λ k. step_fault shape k (held rows pending) own_word) (sym e) ∙ none))
  own_fails (a ∷ []) w word rest e = fails_first _ _ (λ none. unsettled (is_pending (get_or rules 1 command_rule) pending) (ap (λ k. step_fault shape k (held rows pending) own_word) (sym e) ∙ none))
  own_fails (a ∷ b ∷ []) w word rest e = fails_first _ _ (λ none. unsettled (is_pending (get_or rules 2 command_rule) pending) (ap (λ k. step_fault shape k (held rows pending) own_word) (sym e) ∙ none))
  own_fails (a ∷ b ∷ c ∷ more) w word rest e = fails_first _ _ (λ none. cons≢nil kind.UnknownArgument [] (ap (λ k. step_fault shape k (held rows pending) own_word) (sym e) ∙ none))

  react_fails : (a : Rule) (values : List Text) → react_fault rules false a values (held rows pending) ≡ [] → ⊥
  react_fails a values = fails_first _ _ bad

  option_fails : (a : Rule) (v : Option Text) → option_fault rules false a v (held rows pending) ≡ [] → ⊥
  option_fails a (Some v) = react_fails a (v ∷ [])
  option_fails a None = bad

  long_fails : (o : Option Rule) (v : Option Text) → long_fault rules false o v (held rows pending) ≡ [] → ⊥
  long_fails None v = cons≢nil kind.UnknownArgument []
  long_fails (Some a) v = go (takes_values a) v
    where
      go : (b : Bool) (v : Option Text) → cond b (option_fault rules false a v (held rows pending))
          (cond (is_some v) (kind.TooManyValues ∷ []) (react_fault rules false a [] (held rows pending))) ≡ [] → ⊥
      go true v = option_fails a v
      go false (Some t) = cons≢nil kind.TooManyValues []
      go false None = react_fails a []

  short_fails : (o : Option Rule) (rest : Text) (next : Held → Kinds) → short_fault rules false o rest (held rows pending) next ≡ [] → ⊥
  short_fails None rest next = cons≢nil kind.UnknownArgument []
  short_fails (Some a) rest next = go (takes_values a)
    where
      go : (b : Bool) → cond b (option_fault rules false a (attached_value rest) (held rows pending))
          (or_else (react_fault rules false a [] (held rows pending)) (next (reacted rules a [] (held rows pending)))) ≡ [] → ⊥
      go true = option_fails a (attached_value rest)
      go false = fails_first _ _ (react_fails a [])

  -- after `--` each word is one of its own
  ended_fails : (ws : List Text) (waiting : Waiting) (words : List Text) → Fails (run (at rows pending waiting (place ws) true) words)
  unfolding walked
  ended_fails ws waiting [] = fails_first _ _ bad
  ended_fails ws waiting (word ∷ rest) = own_fails ws (at rows pending waiting (place ws) true) word rest refl

  letters_fail : (c : ℕ) (more : Text) → IsUtf8 (c ∷ more) → bundle_fault rules false (c ∷ more) (held rows pending) ≡ [] → ⊥
  unfolding flags_fault
  letters_fail c more u none =
      let x = first_char c more u in
      short_fails (arg_by_short rules x.0) (drop (length (encode_utf8 x.0)) (c ∷ more)) (flags_fault rules false (length more) (drop (length (encode_utf8 x.0)) (c ∷ more)) 0)
      (ap (λ (o : Option ℕ). bundle_step_fault rules false o (c ∷ more) 0 (held rows pending) (flags_fault rules false (length more))) (sym x.1.0) ∙ none)

  -- before `--` any next word meets it
  idle_fails : (ws : List Text) (words : List Text) → list_all is_utf8 words ≡ true → Fails (run (at rows pending idle (place ws) false) words)
  idle_fails ws [] u = fails_first _ _ bad
  idle_fails ws (word ∷ rest) u = go (seen word)
    where
      go : Look word → Fails (run (at rows pending idle (place ws) false) (word ∷ rest))
      go (own_look e l s r d) = fails_by _ _ (looked rows pending (place ws) word rest false None e l ∙ looked_short (at rows pending idle (place ws) false) word rest None s)
          (own_fails ws (at rows pending idle (place ws) false) word rest refl)
      go (end_look e r d) = fails_by _ _ (looked rows pending (place ws) word rest true (long_of word) e refl) (ended_fails ws idle rest)
      go (long_look name v e l r d) = fails_by _ _ (looked rows pending (place ws) word rest false (Some (name, v)) e l)
          (onward_fails _ _ (at rows pending idle (place ws) false) word rest (long_fails (arg_by_long rules name) v))
      go (letters_look c more is e l s r d) = fails_by _ _ (looked rows pending (place ws) word rest false None e l ∙ looked_short (at rows pending idle (place ws) false) word rest (Some (c ∷ more)) s)
          (onward_fails _ _ (at rows pending idle (place ws) false) word rest (letters_fail c more (letters_text word c more is (word_text word rest u))))

-- ---- one word more, where nothing fails yet

abbrev target : Given → List Piece → Option Given
target g ps = option_and_then whole (with_pieces g ps)

agrees_by : (t : Option Given) (r q : Kinds × List Row) → r ≡ q → Agrees t q → Agrees t r
agrees_by t r q e a = subst (Agrees t) (sym e) a

onward_then : (a fault : Kinds) (met : Held × Step) (w : Walk) (word : Text) (rest : List Text)
    → onward (or_else a fault) met w word rest ≡ (or_else a (onward fault met w word rest).0, (onward fault met w word rest).1)
onward_then a fault met w word rest =
    let later : Kinds × List Row = run (after_step rules word w met.0 met.1) rest in
    let stepped : Kinds = step_fault shape w.position met.0 met.1 in
    λ i. ((ap (λ x. or_else x later.0) (or_else-assoc a fault stepped) ∙ or_else-assoc a (or_else fault stepped) later.0) i, later.1)

-- the state before a word: nothing fails yet, and the rows show what was given
pub record Stands (ws : List Text) (n s : Bool) (c : Option Text) (rows : List Row) (pending : Option (Text × List Text)) : Type 0 where
  pub fine : settle_fault rules false (held rows pending) ≡ []
  pub holds : Holds ws n s c (settled_list rows pending)

-- a use of a flag or of `-D`, before a rest of the line that gives r
abbrev after_use : Rule → List Text → List Row → Option (Text × List Text) → Kinds × List Row → Kinds × List Row
after_use a values rows pending r = (or_else (react_fault rules false a values (held rows pending)) r.0, r.1)

use_fails : (a : Rule) (values : List Text) (rows : List Row) (pending : Option (Text × List Text)) (r : Kinds × List Row)
    → use_fault false a values (settled_list rows pending) ≡ kind.ArgumentConflict ∷ [] → Fails (after_use a values rows pending r)
use_fails a values rows pending r e = fails_first _ _ (fails_second _ _ (λ none. cons≢nil kind.ArgumentConflict [] (sym e ∙ none)))

use_passes : (a : Rule) (values : List Text) (rows : List Row) (pending : Option (Text × List Text)) (r : Kinds × List Row)
    → settle_fault rules false (held rows pending) ≡ [] → use_fault false a values (settled_list rows pending) ≡ [] → after_use a values rows pending r ≡ r
use_passes a values rows pending r fine free = λ i. ((none_first _ r.0 (none_first _ _ fine ∙ free)) i, r.1)

lock_law : (ws : List Text) (n s : Bool) (c : Option Text) (rows : List Row) (pending : Option (Text × List Text)) (ps : List Piece) (r : Kinds × List Row) → Stands ws n s c rows pending
    → (Holds ws true s c (used lock [] (settled_list rows pending)) → Agrees (target (mk ws true s c) ps) r)
    → Agrees (target (mk ws n s c) (no_lock ∷ ps)) (after_use lock [] rows pending r)
lock_law ws true s c rows pending ps r st more = use_fails lock [] rows pending r (lock_taken (settled_list rows pending) _ st.holds.locks)
lock_law ws false s c rows pending ps r st more =
    agrees_by (target (mk ws true s c) ps) (after_use lock [] rows pending r) r (use_passes lock [] rows pending r st.fine (lock_free (settled_list rows pending) st.holds.locks))
    (more (holds_lock ws false s c (settled_list rows pending) _ st.holds refl (lock_used (settled_list rows pending) st.holds.locks)))

strict_law : (ws : List Text) (n s : Bool) (c : Option Text) (rows : List Row) (pending : Option (Text × List Text)) (ps : List Piece) (r : Kinds × List Row) → Stands ws n s c rows pending
    → (Holds ws n true c (used stricter [] (settled_list rows pending)) → Agrees (target (mk ws n true c) ps) r)
    → Agrees (target (mk ws n s c) (strict ∷ ps)) (after_use stricter [] rows pending r)
strict_law ws n true c rows pending ps r st more = use_fails stricter [] rows pending r (strict_taken (settled_list rows pending) _ st.holds.strictly)
strict_law ws n false c rows pending ps r st more =
    agrees_by (target (mk ws n true c) ps) (after_use stricter [] rows pending r) r (use_passes stricter [] rows pending r st.fine (strict_free (settled_list rows pending) st.holds.strictly))
    (more (holds_strict ws n false c (settled_list rows pending) _ st.holds refl (strict_used (settled_list rows pending) st.holds.strictly)))

define_law : (ws : List Text) (n s : Bool) (c : Option Text) (rows : List Row) (pending : Option (Text × List Text)) (v : Text) (ps : List Piece) (r : Kinds × List Row) → Stands ws n s c rows pending
    → (Holds ws n s (Some v) (used definer (v ∷ []) (settled_list rows pending)) → Agrees (target (mk ws n s (Some v)) ps) r)
    → Agrees (target (mk ws n s c) (classes v ∷ ps)) (after_use definer (v ∷ []) rows pending r)
define_law ws n s (Some t) rows pending v ps r st more = use_fails definer (v ∷ []) rows pending r (define_taken (settled_list rows pending) v _ st.holds.defines)
define_law ws n s None rows pending v ps r st more =
    agrees_by (target (mk ws n s (Some v)) ps) (after_use definer (v ∷ []) rows pending r) r (use_passes definer (v ∷ []) rows pending r st.fine (define_free (settled_list rows pending) v st.holds.defines))
    (more (holds_define ws n s None (settled_list rows pending) _ st.holds v refl (define_used (settled_list rows pending) v st.holds.defines)))

-- ---- what is to be shown of the rest of a line, by how its first word is read

abbrev Any_law : List Text → Type 0
Any_law rest = (ws : List Text) (n s : Bool) (c : Option Text) (rows : List Row) (pending : Option (Text × List Text)) → Stands ws n s c rows pending
    → Agrees (target (mk ws n s c) (pieces any rest)) (run (at rows pending idle (place ws) false) rest)

abbrev Value_law : List Text → Type 0
Value_law rest = (ws : List Text) (n s : Bool) (c : Option Text) (rows : List Row) → Holds ws n s c rows
    → Agrees (target (mk ws n s c) (pieces value rest)) (run (at rows (Some (codes "define", [])) (option (codes "define")) (place ws) false) rest)

abbrev Plain_law : List Text → Type 0
Plain_law rest = (ws : List Text) (n s : Bool) (c : Option Text) (rows : List Row) (pending : Option (Text × List Text)) → Stands ws n s c rows pending
    → Agrees (target (mk ws n s c) (pieces plain_only rest)) (run (at rows pending idle (place ws) true) rest)

-- ---- words of their own

abbrev goes_on : List Row → Option (Text × List Text) → Text → ℕ → Bool → Text → List Text → Kinds × List Row
goes_on rows pending id next ended word rest = run (at (settled_list rows pending) (Some (id, word ∷ [])) idle next ended) rest

-- what an own word comes to, with the test that asks for more values of what is pending
abbrev own_by : Bool → Bool → List Row → Option (Text × List Text) → Text → ℕ → Text → List Text → Kinds × List Row
own_by more ended rows pending id next word rest =
    let w : Walk = record {
      held = pushed id word (cond more (held rows pending) (settled rules (held rows pending)));
      waiting = idle;
      position = next;
      is_trailing = ended;
      stopped = None;
    } in
    (or_else (or_else [] (cond more [] (settle_fault rules false (held rows pending)))) (run w rest).0, (run w rest).1)

own_goes_on : (b ended : Bool) (rows : List Row) (pending : Option (Text × List Text)) (id : Text) (next : ℕ) (word : Text) (rest : List Text)
    → settle_fault rules false (held rows pending) ≡ [] → own_by (b && false) (ended || false) rows pending id next word rest ≡ goes_on rows pending id next ended word rest
own_goes_on b ended rows pending id next word rest fine =
    (λ i. own_by (and_false b i) (or_false ended i) rows pending id next word rest)
    ∙ (λ i. (or_else (or_else [] (fine i)) (goes_on rows pending id next ended word rest).0, (goes_on rows pending id next ended word rest).1))

own_law : (ws : List Text) (n s : Bool) (c : Option Text) (rows : List Row) (pending : Option (Text × List Text)) (ended : Bool) (word : Text) (rest : List Text) (ps : List Piece) → Stands ws n s c rows pending
    → ((ws : List Text) (n s : Bool) (c : Option Text) (rows : List Row) (pending : Option (Text × List Text)) → Stands ws n s c rows pending → Agrees (target (mk ws n s c) ps) (run (at rows pending idle (place ws) ended) rest))
    → Agrees (target (mk ws n s c) (plain word ∷ ps)) (owned ws rows pending ended word rest)
own_law [] n s c rows pending ended word rest ps st more =
    let before : List Row = settled_list rows pending in
    let free = st.holds.command in
    agrees_by (target (mk (word ∷ []) n s c) ps) _ _ (own_goes_on (is_pending (get_or rules 0 command_rule) pending) ended rows pending (codes "command") 2 word rest st.fine)
    (more (word ∷ []) n s c before (Some (codes "command", word ∷ [])) (record {
      fine = command_free before word free;
      holds = holds_command [] n s c before _ st.holds word refl (used_new (codes "command") word before free);
    }))
own_law (a ∷ []) n s c rows pending ended word rest ps st more =
    let before : List Row = settled_list rows pending in
    let free = st.holds.argument in
    agrees_by (target (mk (a ∷ word ∷ []) n s c) ps) _ _ (own_goes_on (is_pending (get_or rules 1 command_rule) pending) ended rows pending (codes "argument") 3 word rest st.fine)
    (more (a ∷ word ∷ []) n s c before (Some (codes "argument", word ∷ [])) (record {
      fine = argument_free before word free;
      holds = holds_argument (a ∷ []) n s c before _ st.holds a word refl (used_new (codes "argument") word before free);
    }))
own_law (a ∷ b ∷ []) n s c rows pending ended word rest ps st more =
    let before : List Row = settled_list rows pending in
    let free = st.holds.extra in
    agrees_by (target (mk (a ∷ b ∷ word ∷ []) n s c) ps) _ _ (own_goes_on (is_pending (get_or rules 2 command_rule) pending) ended rows pending (codes "extra") 4 word rest st.fine)
    (more (a ∷ b ∷ word ∷ []) n s c before (Some (codes "extra", word ∷ [])) (record {
      fine = extra_free before word free;
      holds = holds_extra (a ∷ b ∷ []) n s c before _ st.holds a b word refl (used_new (codes "extra") word before free);
    }))
own_law (a ∷ b ∷ d ∷ others) n s c rows pending ended word rest ps st more =
    fails_first (kind.UnknownArgument ∷ []) (run (after_step rules word (at rows pending idle 4 ended) (held rows pending) own_word) rest).0 (cons≢nil kind.UnknownArgument [])

-- ---- letters after a dash

abbrev lettered : Text → Outcome → List Row → Option (Text × List Text) → Walk → Text → List Text → Kinds × List Row
lettered flags so_far rows pending w word rest = onward (flags_fault rules false (length flags) flags 0 (held rows pending))
    (after_flag rules w.waiting word (bundle_met rules (length flags) flags 0 so_far (held rows pending)).0 (bundle_met rules (length flags) flags 0 so_far (held rows pending)).1) w word rest

-- the same by the first letter
abbrev lettered_by : Option ℕ → ℕ → Text → Outcome → List Row → Option (Text × List Text) → Walk → Text → List Text → Kinds × List Row
lettered_by o b bs so_far rows pending w word rest =
    onward (bundle_step_fault rules false o (b ∷ bs) 0 (held rows pending) (flags_fault rules false (length bs)))
    (after_flag rules w.waiting word (bundle_step rules o (b ∷ bs) 0 so_far (held rows pending) (bundle_met rules (length bs))).0
    (bundle_step rules o (b ∷ bs) 0 so_far (held rows pending) (bundle_met rules (length bs))).1) w word rest

first_letter : (b : ℕ) (bs : Text) (o : Option ℕ) (so_far : Outcome) (rows : List Row) (pending : Option (Text × List Text)) (w : Walk) (word : Text) (rest : List Text)
    → slice_get (chars (b ∷ bs)) 0 ≡ o → lettered (b ∷ bs) so_far rows pending w word rest ≡ lettered_by o b bs so_far rows pending w word rest
unfolding flags_fault bundle_met
first_letter b bs o so_far rows pending w word rest e = λ i. lettered_by (e i) b bs so_far rows pending w word rest

abbrev read_target : Given → List Piece × Next → List Text → Option Given
read_target g read rest = target g (read.0 ++ pieces read.1 rest)

abbrev Letters_law : Text → Outcome → Text → List Text → Type 0
Letters_law flags so_far word rest = (ws : List Text) (n s : Bool) (c : Option Text) (rows : List Row) (pending : Option (Text × List Text)) (rows₀ : List Row) (pending₀ : Option (Text × List Text))
    → Stands ws n s c rows pending
    → Agrees (read_target (mk ws n s c) (letters flags) rest) (lettered flags so_far rows pending (at rows₀ pending₀ idle (place ws) false) word rest)

or_else-nil : (a : Kinds) → or_else a [] ≡ a
or_else-nil [] = refl
or_else-nil (k ∷ ks) = refl

at_K : (bs : Text) (so_far : Outcome) (word : Text) (rest : List Text) → Letters_law bs done word rest → Letters_law (75 ∷ bs) so_far word rest
unfolding clap_on_literals
at_K bs so_far word rest more ws n s c rows pending rows₀ pending₀ st =
    let w : Walk = at rows₀ pending₀ idle (place ws) false in
    let before : List Row = settled_list rows pending in
    let r : Kinds × List Row = lettered bs done (used lock [] before) None w word rest in
    agrees_by (read_target (mk ws n s c) (letters (75 ∷ bs)) rest) _ (after_use lock [] rows pending r)
    (first_letter 75 bs (Some 75) so_far rows pending w word rest (first_K bs)
    ∙ onward_then (react_fault rules false lock [] (held rows pending)) (flags_fault rules false (length bs) bs 0 (held (used lock [] before) None))
    (after_flag rules idle word (bundle_met rules (length bs) bs 0 done (held (used lock [] before) None)).0 (bundle_met rules (length bs) bs 0 done (held (used lock [] before) None)).1) w word rest)
    (lock_law ws n s c rows pending ((letters bs).0 ++ pieces (letters bs).1 rest) r st
    (λ holds. more ws true s c (used lock [] before) None rows₀ pending₀ (record { fine = refl; holds = holds })))

attached : (c : ℕ) (cs : Text) → attached_value (c ∷ cs) ≡ Some (if c == 61 then cs else c ∷ cs)
attached c cs = go (c == 61)
  where
    go : (b : Bool) → option_map_or (λ v. Some v) (cond b (Some cs) None) (Some (c ∷ cs)) ≡ Some (cond b cs (c ∷ cs))
    go true = refl
    go false = refl

-- `-D`, with its text or without
abbrev defined_by : Option Text → List Row → Option (Text × List Text) → Walk → Text → List Text → Kinds × List Row
defined_by o rows pending w word rest = onward (option_fault rules false definer o (held rows pending))
    (after_flag rules w.waiting word (option_met rules definer o (held rows pending)).0 (option_met rules definer o (held rows pending)).1) w word rest

waits_law : (word : Text) (rest : List Text) → Value_law rest → (ws : List Text) (n s : Bool) (c : Option Text) (rows : List Row) (pending : Option (Text × List Text)) (rows₀ : List Row) (pending₀ : Option (Text × List Text))
    → Stands ws n s c rows pending
    → Agrees (target (mk ws n s c) (pieces value rest)) (defined_by None rows pending (at rows₀ pending₀ idle (place ws) false) word rest)
waits_law word rest more ws n s c rows pending rows₀ pending₀ st =
    let before : List Row = settled_list rows pending in
    let r : Kinds × List Row = run (at before (Some (codes "define", [])) (option (codes "define")) (place ws) false) rest in
    agrees_by (target (mk ws n s c) (pieces value rest)) _ r (λ i. (or_else (or_else (st.fine i) []) r.0, r.1)) (more ws n s c before st.holds)

defines_law : (v : Text) (word : Text) (rest : List Text) → Any_law rest → (ws : List Text) (n s : Bool) (c : Option Text) (rows : List Row) (pending : Option (Text × List Text)) (rows₀ : List Row) (pending₀ : Option (Text × List Text))
    → Stands ws n s c rows pending
    → Agrees (target (mk ws n s c) (classes v ∷ pieces any rest)) (defined_by (Some v) rows pending (at rows₀ pending₀ idle (place ws) false) word rest)
defines_law v word rest more ws n s c rows pending rows₀ pending₀ st =
    let before : List Row = settled_list rows pending in
    let r : Kinds × List Row = run (at (used definer (v ∷ []) before) None idle (place ws) false) rest in
    agrees_by (target (mk ws n s c) (classes v ∷ pieces any rest)) _ (after_use definer (v ∷ []) rows pending r)
    (λ i. (or_else (or_else-nil (react_fault rules false definer (v ∷ []) (held rows pending)) i) r.0, r.1))
    (define_law ws n s c rows pending v (pieces any rest) r st (λ holds. more ws n s (Some v) (used definer (v ∷ []) before) None (record { fine = refl; holds = holds })))

at_D : (bs : Text) (so_far : Outcome) (word : Text) (rest : List Text) → Any_law rest → Value_law rest → Letters_law (68 ∷ bs) so_far word rest
unfolding clap_on_literals
at_D [] so_far word rest more wait ws n s c rows pending rows₀ pending₀ st =
    agrees_by (target (mk ws n s c) (pieces value rest)) _ _ (first_letter 68 [] (Some 68) so_far rows pending (at rows₀ pending₀ idle (place ws) false) word rest (first_D []))
    (waits_law word rest wait ws n s c rows pending rows₀ pending₀ st)
at_D (x ∷ xs) so_far word rest more wait ws n s c rows pending rows₀ pending₀ st =
    let w : Walk = at rows₀ pending₀ idle (place ws) false in
    let v : Text = if x == 61 then xs else x ∷ xs in
    agrees_by (target (mk ws n s c) (classes v ∷ pieces any rest)) _ _
    (first_letter 68 (x ∷ xs) (Some 68) so_far rows pending w word rest (first_D (x ∷ xs)) ∙ (λ i. defined_by (attached x xs i) rows pending w word rest))
    (defines_law v word rest more ws n s c rows pending rows₀ pending₀ st)

no_short : (x : ℕ) → (75 == x) ≡ false → (68 == x) ≡ false → arg_by_short rules x ≡ None
no_short x k d = λ i. cond (k i || false) (Some lock) (cond (d i || false) (Some definer) None)

not_first : (letter x b : ℕ) → letter < 128 → (b == letter) ≡ false → (x < 128 → x ≡ b) → (letter == x) ≡ false
not_first letter x b lt e same =
    ne_eqb letter x (λ q. let here : x ≡ b = same (omega arith) in true≢false (sym (eq-eqb b letter (omega arith)) ∙ e))

at_other : (b : ℕ) (bs : Text) (so_far : Outcome) (word : Text) (rest : List Text) → IsUtf8 (b ∷ bs) → (b == 75) ≡ false → (b == 68) ≡ false → Letters_law (b ∷ bs) so_far word rest
at_other b bs so_far word rest u k d ws n s c rows pending rows₀ pending₀ st =
    let w : Walk = at rows₀ pending₀ idle (place ws) false in
    let x = first_char b bs u in
    let read : letters (b ∷ bs) ≡ (unknown ∷ [], any) = λ i. cond (k i) (also no_lock (letters bs)) (cond (d i) (after_D bs) (unknown ∷ [], any)) in
    let none : arg_by_short rules x.0 ≡ None = no_short x.0 (not_first 75 x.0 b (lit< tt) k x.1.1) (not_first 68 x.0 b (lit< tt) d x.1.1) in
    let left : Text = drop (length (encode_utf8 x.0)) (b ∷ bs) in
    subst (λ (p : List Piece × Next). Agrees (read_target (mk ws n s c) p rest) (lettered (b ∷ bs) so_far rows pending w word rest)) (sym read)
    (fails_by _ _ (first_letter b bs (Some x.0) so_far rows pending w word rest x.1.0)
    (onward_fails _ _ w word rest (λ fine. cons≢nil kind.UnknownArgument []
    (ap (λ (o : Option Rule). short_fault rules false o left (held rows pending) (flags_fault rules false (length bs) left 0)) (sym none) ∙ fine))))

letter_law : (b : ℕ) (bs : Text) (so_far : Outcome) (word : Text) (rest : List Text) → IsUtf8 (b ∷ bs) → Any_law rest → Value_law rest → (IsUtf8 bs → Letters_law bs done word rest) → Letters_law (b ∷ bs) so_far word rest
letter_law b bs so_far word rest u more wait next = go (b == 75) (b == 68) refl refl
  where
    go : (k d : Bool) → (b == 75) ≡ k → (b == 68) ≡ d → Letters_law (b ∷ bs) so_far word rest
    go true d e f =
        let is : b ≡ 75 = eqb-true b 75 e in
        subst (λ (x : ℕ). Letters_law (x ∷ bs) so_far word rest) (sym is) (at_K bs so_far word rest (next (text_after 75 bs (lit< tt) (subst (λ (x : ℕ). IsUtf8 (x ∷ bs)) is u))))
    go false true e f = subst (λ (x : ℕ). Letters_law (x ∷ bs) so_far word rest) (sym (eqb-true b 68 f)) (at_D bs so_far word rest more wait)
    go false false e f = at_other b bs so_far word rest u e f

letters_law : (flags : Text) (word : Text) (rest : List Text) → IsUtf8 flags → Any_law rest → Value_law rest → Letters_law flags done word rest
unfolding clap_on_literals
letters_law [] word rest u more wait = λ ws n s c rows pending rows₀ pending₀ st. more ws n s c rows pending st
letters_law (b ∷ bs) word rest u more wait = letter_law b bs done word rest u more wait (λ v. letters_law bs word rest v more wait)

-- ---- long options

abbrev longed : Option Rule → Text → Option Text → List Row → Option (Text × List Text) → Walk → Text → List Text → Kinds × List Row
longed o name v rows pending w word rest = onward (long_fault rules false o v (held rows pending))
    (after_flag rules w.waiting word (long_met rules o v (held rows pending)).0 (long_met rules o v (held rows pending)).1) w word rest

abbrev Long_law : Text → Option Text → Text → List Text → Type 0
Long_law name v word rest = (ws : List Text) (n s : Bool) (c : Option Text) (rows : List Row) (pending : Option (Text × List Text)) → Stands ws n s c rows pending
    → Agrees (read_target (mk ws n s c) (named name v) rest) (longed (arg_by_long rules name) name v rows pending (at rows pending idle (place ws) false) word rest)

long_define : (v : Option Text) (word : Text) (rest : List Text) → Any_law rest → Value_law rest → Long_law (codes "define") v word rest
long_define None word rest more wait = λ ws n s c rows pending st. waits_law word rest wait ws n s c rows pending rows pending st
long_define (Some t) word rest more wait = λ ws n s c rows pending st. defines_law t word rest more ws n s c rows pending rows pending st

long_lock : (v : Option Text) (word : Text) (rest : List Text) → Any_law rest → Long_law (codes "no-lock") v word rest
long_lock (Some t) word rest more = λ ws n s c rows pending st. onward_fails (kind.TooManyValues ∷ []) (plain_word rules idle word (held rows pending))
    (at rows pending idle (place ws) false) word rest (cons≢nil kind.TooManyValues [])
long_lock None word rest more = λ ws n s c rows pending st.
    let before : List Row = settled_list rows pending in
    let r : Kinds × List Row = run (at (used lock [] before) None idle (place ws) false) rest in
    agrees_by (target (mk ws n s c) (no_lock ∷ pieces any rest)) _ (after_use lock [] rows pending r)
    (λ i. (or_else (or_else-nil (react_fault rules false lock [] (held rows pending)) i) r.0, r.1))
    (lock_law ws n s c rows pending (pieces any rest) r st (λ holds. more ws true s c (used lock [] before) None (record { fine = refl; holds = holds })))

long_strict : (v : Option Text) (word : Text) (rest : List Text) → Any_law rest → Long_law (codes "strict") v word rest
long_strict (Some t) word rest more = λ ws n s c rows pending st. onward_fails (kind.TooManyValues ∷ []) (plain_word rules idle word (held rows pending))
    (at rows pending idle (place ws) false) word rest (cons≢nil kind.TooManyValues [])
long_strict None word rest more = λ ws n s c rows pending st.
    let before : List Row = settled_list rows pending in
    let r : Kinds × List Row = run (at (used stricter [] before) None idle (place ws) false) rest in
    agrees_by (target (mk ws n s c) (strict ∷ pieces any rest)) _ (after_use stricter [] rows pending r)
    (λ i. (or_else (or_else-nil (react_fault rules false stricter [] (held rows pending)) i) r.0, r.1))
    (strict_law ws n s c rows pending (pieces any rest) r st (λ holds. more ws n true c (used stricter [] before) None (record { fine = refl; holds = holds })))

abbrev long_by : Bool → Bool → Bool → Option Rule
long_by d k t = cond (k || false) (Some lock) (cond (t || false) (Some stricter) (cond (d || false) (Some definer) None))

abbrev named_by : Bool → Bool → Bool → Option Text → List Piece × Next
named_by d k t v = cond d (define v) (cond k (flag no_lock v) (cond t (flag strict v) (unknown ∷ [], any)))

long_other : (name : Text) (v : Option Text) (word : Text) (rest : List Text) → bytes_eq (codes "define") name ≡ false → bytes_eq (codes "no-lock") name ≡ false → bytes_eq (codes "strict") name ≡ false → Long_law name v word rest
long_other name v word rest d k t ws n s c rows pending st =
    let w : Walk = at rows pending idle (place ws) false in
    let read : named name v ≡ (unknown ∷ [], any) = λ i. named_by (d i) (k i) (t i) v in
    let none : arg_by_long rules name ≡ None = λ i. long_by (d i) (k i) (t i) in
    subst (λ (p : List Piece × Next). Agrees (read_target (mk ws n s c) p rest) (longed (arg_by_long rules name) name v rows pending w word rest)) (sym read)
    (fails_by _ (longed None name v rows pending w word rest) (ap (λ (o : Option Rule). longed o name v rows pending w word rest) none)
    (onward_fails (kind.UnknownArgument ∷ []) (plain_word rules idle word (held rows pending)) w word rest (cons≢nil kind.UnknownArgument [])))

long_law : (name : Text) (v : Option Text) (word : Text) (rest : List Text) → Any_law rest → Value_law rest → Long_law name v word rest
long_law name v word rest more wait = go (bytes_eq (codes "define") name) (bytes_eq (codes "no-lock") name) (bytes_eq (codes "strict") name) refl refl refl
  where
    same : (id : Text) → bytes_eq id name ≡ true → id ≡ name
    same id e = (bytes_eq-Decides id name).0 e

    go : (d k t : Bool) → bytes_eq (codes "define") name ≡ d → bytes_eq (codes "no-lock") name ≡ k → bytes_eq (codes "strict") name ≡ t → Long_law name v word rest
    go true k t e f g = subst (λ (x : Text). Long_law x v word rest) (same (codes "define") e) (long_define v word rest more wait)
    go false true t e f g = subst (λ (x : Text). Long_law x v word rest) (same (codes "no-lock") f) (long_lock v word rest more)
    go false false true e f g = subst (λ (x : Text). Long_law x v word rest) (same (codes "strict") g) (long_strict v word rest more)
    go false false false e f g = long_other name v word rest e f g

-- ---- the whole line

any_word : (word : Text) (rest : List Text) → list_all is_utf8 (word ∷ rest) ≡ true → Any_law rest → Value_law rest → Plain_law rest → Any_law (word ∷ rest)
any_word word rest u more wait ended ws n s c rows pending st = go (seen word)
  where
    read_as : (p : List Piece × Next) → word_read word ≡ p → Agrees (read_target (mk ws n s c) p rest) (run (at rows pending idle (place ws) false) (word ∷ rest))
        → Agrees (target (mk ws n s c) (pieces any (word ∷ rest))) (run (at rows pending idle (place ws) false) (word ∷ rest))
    read_as p e = subst (λ (q : List Piece × Next). Agrees (read_target (mk ws n s c) q rest) (run (at rows pending idle (place ws) false) (word ∷ rest))) (sym e)

    go : Look word → Agrees (target (mk ws n s c) (pieces any (word ∷ rest))) (run (at rows pending idle (place ws) false) (word ∷ rest))
    go (own_look e l short r d) = read_as (plain word ∷ [], any) r (agrees_by (target (mk ws n s c) (plain word ∷ pieces any rest)) _ (owned ws rows pending false word rest)
        (looked rows pending (place ws) word rest false None e l ∙ looked_short (at rows pending idle (place ws) false) word rest None short)
        (own_law ws n s c rows pending false word rest (pieces any rest) st more))
    go (end_look e r d) = read_as ([], plain_only) r (agrees_by (target (mk ws n s c) (pieces plain_only rest)) _ (run (at rows pending idle (place ws) true) rest)
        (looked rows pending (place ws) word rest true (long_of word) e refl) (ended ws n s c rows pending st))
    go (long_look name v e l r d) = read_as (named name v) r (agrees_by (read_target (mk ws n s c) (named name v) rest) _ (longed (arg_by_long rules name) name v rows pending (at rows pending idle (place ws) false) word rest)
        (looked rows pending (place ws) word rest false (Some (name, v)) e l) (long_law name v word rest more wait ws n s c rows pending st))
    go (letters_look x xs is e l short r d) =
        let text : IsUtf8 (x ∷ xs) = letters_text word x xs is (word_text word rest u) in
        read_as (letters (x ∷ xs)) r (agrees_by (read_target (mk ws n s c) (letters (x ∷ xs)) rest) _ (lettered (x ∷ xs) Rattle.clap.specs.Walk.plain rows pending (at rows pending idle (place ws) false) word rest)
        (looked rows pending (place ws) word rest false None e l ∙ looked_short (at rows pending idle (place ws) false) word rest (Some (x ∷ xs)) short)
        (letter_law x xs Rattle.clap.specs.Walk.plain word rest text more wait (λ v. letters_law xs word rest v more wait) ws n s c rows pending rows pending st))

-- `-D` waits for its text
abbrev no_text : Option (Text × List Text)
no_text = Some (codes "define", [])

no_text_fails : (rows : List Row) → settle_fault rules false (held rows no_text) ≡ [] → ⊥
no_text_fails rows = cons≢nil kind.InvalidValue []

value_end : Value_law []
value_end ws n s c rows h =
    fails_first (settle_fault rules false (held rows no_text)) (or_else (defaults_fault (settled_list rows no_text) rules) (check_fault shape (finished rules (held rows no_text)) false))
    (no_text_fails rows)

value_own : (word : Text) (rest : List Text) → list_all is_utf8 rest ≡ true → Any_law rest → (ws : List Text) (n s : Bool) (c : Option Text) (rows : List Row) → Holds ws n s c rows
    → Agrees (target (mk ws n s c) (classes word ∷ pieces any rest)) (run (at rows (Some (codes "define", word ∷ [])) idle (place ws) false) rest)
value_own word rest u more ws n s (Some t) rows h =
    idle_fails rows (Some (codes "define", word ∷ [])) (λ none. cons≢nil kind.ArgumentConflict [] (sym (define_taken rows word _ h.defines) ∙ none)) ws rest u
value_own word rest u more ws n s None rows h = more ws n s (Some word) rows (Some (codes "define", word ∷ [])) (record {
  fine = define_free rows word h.defines;
  holds = holds_define ws n s None rows _ h word refl (define_used rows word h.defines);
})

value_word : (word : Text) (rest : List Text) → list_all is_utf8 (word ∷ rest) ≡ true → Any_law rest → Value_law (word ∷ rest)
value_word word rest u more ws n s c rows h = go (seen word)
  where
    go : Look word → Agrees (target (mk ws n s c) (pieces value (word ∷ rest))) (run (at rows no_text (option (codes "define")) (place ws) false) (word ∷ rest))
    go (own_look e l short r d) =
        subst (λ (b : Bool). Agrees (target (mk ws n s c) (cond b (unknown ∷ []) (classes word ∷ pieces any rest))) (run (at rows no_text (option (codes "define")) (place ws) false) (word ∷ rest))) (sym d)
        (agrees_by (target (mk ws n s c) (classes word ∷ pieces any rest)) _ (run (at rows (Some (codes "define", word ∷ [])) idle (place ws) false) rest)
        (looked_waiting rows no_text (codes "define") (place ws) word rest false None e l ∙ looked_short (at rows no_text (option (codes "define")) (place ws) false) word rest None short)
        (value_own word rest (rest_texts word rest u) more ws n s c rows h))
    go (end_look e r d) =
        subst (λ (b : Bool). Agrees (target (mk ws n s c) (cond b (unknown ∷ []) (classes word ∷ pieces any rest))) (run (at rows no_text (option (codes "define")) (place ws) false) (word ∷ rest))) (sym d)
        (fails_by _ _ (looked_waiting rows no_text (codes "define") (place ws) word rest true (long_of word) e refl) (ended_fails rows no_text (no_text_fails rows) ws (option (codes "define")) rest))
    go (long_look name v e l r d) =
        subst (λ (b : Bool). Agrees (target (mk ws n s c) (cond b (unknown ∷ []) (classes word ∷ pieces any rest))) (run (at rows no_text (option (codes "define")) (place ws) false) (word ∷ rest))) (sym d)
        (fails_by _ _ (looked_waiting rows no_text (codes "define") (place ws) word rest false (Some (name, v)) e l)
        (onward_fails _ _ (at rows no_text (option (codes "define")) (place ws) false) word rest (long_fails rows no_text (no_text_fails rows) (arg_by_long rules name) v)))
    go (letters_look x xs is e l short r d) =
        subst (λ (b : Bool). Agrees (target (mk ws n s c) (cond b (unknown ∷ []) (classes word ∷ pieces any rest))) (run (at rows no_text (option (codes "define")) (place ws) false) (word ∷ rest))) (sym d)
        (fails_by _ _ (looked_waiting rows no_text (codes "define") (place ws) word rest false None e l ∙ looked_short (at rows no_text (option (codes "define")) (place ws) false) word rest (Some (x ∷ xs)) short)
        (onward_fails _ _ (at rows no_text (option (codes "define")) (place ws) false) word rest
        (letters_fail rows no_text (no_text_fails rows) x xs (letters_text word x xs is (word_text word rest u)))))

plain_law : (words : List Text) → Plain_law words
unfolding walked
plain_law [] = λ ws n s c rows pending st. law_end ws n s c rows pending st.fine st.holds
plain_law (word ∷ rest) = λ ws n s c rows pending st. own_law ws n s c rows pending true word rest (pieces plain_only rest) st (plain_law rest)

laws : (words : List Text) → list_all is_utf8 words ≡ true → Any_law words × Value_law words
laws [] u = ((λ ws n s c rows pending st. law_end ws n s c rows pending st.fine st.holds), value_end)
laws (word ∷ rest) u =
    let more = laws rest (rest_texts word rest u) in
    (any_word word rest u more.0 more.1 (plain_law rest), value_word word rest u more.0)

-- the command has no commands below it
entered_none : (stop : Option (Text × List Text)) → is_some (entered (built command_line) stop) ≡ false
entered_none None = refl
entered_none (Some p) = refl

entered_fault_none : (stop : Option (Text × List Text)) → entered_fault (built command_line) stop ≡ []
entered_fault_none None = refl
entered_fault_none (Some p) = refl

faults_are : (words : List Text) → fault_of command_line words ≡ (run start words).0
faults_are words =
    let stop : Option (Text × List Text) = (walk rules [] nothing_held words).stopped in
    (λ i. level_fault shape [] nothing_held words (entered_none stop i) (entered_fault_none stop i)) ∙ sym (run-faults start words)

-- the parser takes a command line exactly where the definition gives something, and its matches show that
pub reading : (words : List Text) → list_all is_utf8 words ≡ true → Agrees (given words) (fault_of command_line words, matches_of command_line words)
reading words u =
    agrees_by (given words) _ (run start words) (λ i. (faults_are words i, sym (run-rows start words) i))
    ((laws words u).0 [] false false None [] None (record {
      fine = refl;
      holds = record { command = refl; argument = refl; extra = refl; locks = refl; strictly = refl; defines = refl };
    }))

pub is_plain_command : is_simple_and_free command_line ≡ true
is_plain_command = refl
