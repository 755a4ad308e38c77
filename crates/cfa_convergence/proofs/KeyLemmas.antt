-- The key text of an instance tells its acts: none of its parts holds a semicolon, and the words of acts tell their kinds.
use Rattle.std.proofs.Common.{◌≡◌, ◌≢◌, ℕ, ◌+◌, ◌*◌, ◌%◌, Bool, true, false, List, [], ◌∷◌, ◌++◌, length, map, get_or, drop, codes, Option, Some, None, refl, sym, ap, ap₂, subst, ◌∙◌, append_assoc, append-nil, arith, All}
use Rattle.std.specs.Prelude.{◌==◌}
use Rattle.std.specs.Fmt.{decimal}
use Rattle.std.specs.List.{join_with_byte, flat_map, list_all}
use Rattle.std.proofs.lemmas.Bool.{ne_eqb, cond-false}
use Rattle.std.proofs.lemmas.List.Elements.{All-nil, All-cons, All-head, All-tail, All-append}
use Rattle.cfa_base.specs.declared.places.PromiseId.{PromiseId}
use Rattle.cfa_base.specs.Escapes.{escaped, is_field_byte}
use Rattle.cfa_base.specs.Octal.{octal_digit}
use Rattle.cfa_base.specs.lemmas.Modes.{mode_length, mode-lacks, mode_tells}
use Rattle.cfa_base.specs.lemmas.Escapes.{escaped-cut, at_end, at_byte}
use Rattle.cfa_edits.specs.Laws.{TextsTellScripts}
use Rattle.cfa_edits.specs.Scripts.{AreEdits, edit_text, script_text}
use Rattle.cfa_edits.specs.declared.edits.Edit.{Edit as LineEdit}
use Rattle.cfa_acts.specs.declared.acts.Act.{Act}
use Rattle.cfa_acts.specs.declared.acts.Act.TheVariants.{Create, MakeDir, Delete, Content, Copy, Edit, Perms, Start, Stop, Enable, Disable, Restart, Bust}
use Rattle.cfa_acts.specs.declared.acts.Reason.{Reason}
use Rattle.cfa_acts.specs.declared.acts.Reason.TheVariants.{BadPath, Missing, Obstructed, NotText, NonConvergent, NoAnchor, FieldCount, UnknownService, BadPattern, BadValue, Fault, TooLong, TooMany}
use Rattle.cfa_acts.specs.Reasons.{code_of}
use Rattle.cfa_resolve.specs.declared.instances.Work.{Work}
use Rattle.cfa_resolve.specs.declared.instances.Work.TheVariants.{Acts, Call, Report}
use Rattle.cfa_resolve.specs.KeyTexts.{fields_after, mode_field, names_field, yes_or_no, act_text, work_text, classes_text, key_text}
use Rattle.cfa_laws.specs.Keys.{IsMode, IsGiven, AreGiven, IsPlainId}
use Rattle.cfa_convergence.specs.Keys.{AreAlike, KeysTellWorks}
use Rattle.cfa_base.specs.Lacking.{Lacks}
use Rattle.cfa_edits.specs.lemmas.Fields.{all_two, all_four, texts_lack}
use Rattle.cfa_edits.specs.lemmas.Parts.{clash, joined_tells, lacks_joined, IsSeparator, lacks_word, lacks_escaped, all_escaped, lacks_decimal, all_tell, comma}
use Rattle.cfa_rows.specs.lemmas.Cuts.{one_cut}
use Rattle.cfa_convergence.proofs.PartLemmas.{lacks_led, semicolon, space, asterisk}

-- ---- fields

one_field : (x y : List ℕ) → escaped x ++ [] ≡ escaped y ++ [] → x ≡ y
one_field x y e = (escaped-cut x y [] [] at_end at_end e).0

first_field : (x y r s : List ℕ) → escaped x ++ 32 ∷ r ≡ escaped y ++ 32 ∷ s → (x ≡ y) × (r ≡ s)
first_field x y r s e =
    let parts = escaped-cut x y (32 ∷ r) (32 ∷ s) (at_byte 32 r refl) (at_byte 32 s refl) e in
    (parts.0, ap (drop 1) parts.1)

last_part : (x y : List ℕ) → x ++ [] ≡ y ++ [] → x ≡ y
last_part x y e = sym (append-nil x) ∙ e ∙ append-nil y

flags_tell : (b c : Bool) → yes_or_no b ++ [] ≡ yes_or_no c ++ [] → b ≡ c
flags_tell true true e = refl
flags_tell false false e = refl
flags_tell true false e = absurd (clash 3 2 refl (ap length e))
flags_tell false true e = absurd (clash 2 3 refl (ap length e))

-- ---- modes

modes_tell : (m n : Option ℕ) → IsMode m → IsMode n → mode_field m ≡ mode_field n → m ≡ n
modes_tell None None is is' e = refl
modes_tell None (Some n) is is' e = absurd (clash 1 4 refl (ap length e ∙ mode_length n))
modes_tell (Some m) None is is' e = absurd (clash 4 1 refl (sym (mode_length m) ∙ ap length e))
modes_tell (Some m) (Some n) is is' e = ap Some (mode_tells m n is is' e)

octal_differs : (c n : ℕ) → IsSeparator c → octal_digit n ≢ c
octal_differs c n s = s.no_digit (n % 8) (omega arith)

lacks_mode : (c : ℕ) (m : Option ℕ) → IsSeparator c → 42 ≢ c → Lacks c (mode_field m)
lacks_mode c None s ne = All-cons (λ b. b ≢ c) 42 [] ne (All-nil (λ b. b ≢ c))
lacks_mode c (Some m) s ne = mode-lacks c m (λ n. octal_differs c n s)

-- ---- lists of names

some_names : (x : List ℕ) (xs : List (List ℕ)) → names_field (x ∷ xs) ≡ join_with_byte 44 (map escaped (x ∷ xs))
some_names x xs = cond-false (length (x ∷ xs) == 0) (codes "*") (join_with_byte 44 (map escaped (x ∷ xs))) (ne_eqb (length (x ∷ xs)) 0 (λ e. omega arith))

lacks_names : (c : ℕ) (names : List (List ℕ)) → IsSeparator c → 42 ≢ c → 44 ≢ c → Lacks c (names_field names)
lacks_names c [] s ne ne' = All-cons (λ b. b ≢ c) 42 [] ne (All-nil (λ b. b ≢ c))
lacks_names c (x ∷ xs) s ne ne' = subst (Lacks c) (sym (some_names x xs)) (lacks_joined c 44 (map escaped (x ∷ xs)) ne' (all_escaped c (x ∷ xs) s))

-- a list that is given isn't an asterisk
no_asterisk : (x : List ℕ) (xs : List (List ℕ)) → 42 ∷ [] ≡ join_with_byte 44 (map escaped (x ∷ xs)) → ⊥
no_asterisk x xs e =
    All-head (λ b. b ≢ 42) 42 [] (subst (Lacks 42) (sym e) (lacks_joined 42 44 (map escaped (x ∷ xs)) (λ is. omega arith) (all_escaped 42 (x ∷ xs) asterisk))) refl

names_tell : (names others : List (List ℕ)) → names_field names ≡ names_field others → names ≡ others
names_tell [] [] e = refl
names_tell [] (y ∷ ys) e = absurd (no_asterisk y ys (e ∙ some_names y ys))
names_tell (x ∷ xs) [] e = absurd (no_asterisk x xs (sym e ∙ some_names x xs))
names_tell (x ∷ xs) (y ∷ ys) e =
    all_tell (x ∷ xs) (y ∷ ys)
    (joined_tells 44 (escaped x) (escaped y) (map escaped xs) (map escaped ys) (all_escaped 44 (x ∷ xs) comma) (all_escaped 44 (y ∷ ys) comma)
    (sym (some_names x xs) ∙ e ∙ some_names y ys))

-- ---- reasons

-- tells words by their first three letters
abbrev sign : List ℕ → ℕ
sign text = get_or text 0 0 + (1000 * get_or text 1 0 + 1000000 * get_or text 2 0)

reasons_tell : (r s : Reason) (x y : List ℕ) → code_of r ++ 32 ∷ x ≡ code_of s ++ 32 ∷ y → r ≡ s
reasons_tell BadPath BadPath x y e = refl
reasons_tell Missing Missing x y e = refl
reasons_tell Obstructed Obstructed x y e = refl
reasons_tell NotText NotText x y e = refl
reasons_tell NonConvergent NonConvergent x y e = refl
reasons_tell NoAnchor NoAnchor x y e = refl
reasons_tell FieldCount FieldCount x y e = refl
reasons_tell UnknownService UnknownService x y e = refl
reasons_tell BadPattern BadPattern x y e = refl
reasons_tell BadValue BadValue x y e = refl
reasons_tell Fault Fault x y e = refl
reasons_tell TooLong TooLong x y e = refl
reasons_tell TooMany TooMany x y e = refl
reasons_tell r s x y e = absurd (clash (sign (code_of r ++ 32 ∷ x)) (sign (code_of s ++ 32 ∷ y)) refl (ap sign e))

-- ---- acts

module _ (scripts : TextsTellScripts) (p q : List ℕ) where
  acts_tell : (a b : Act) → IsGiven a → IsGiven b → act_text p a ≡ act_text q b → a ≡ b
  acts_tell (Create x) (Create y) is is' e = ap Create (one_field x y (ap (drop 7) e))
  acts_tell (MakeDir x) (MakeDir y) is is' e = ap MakeDir (one_field x y (ap (drop 6) e))
  acts_tell (Start x) (Start y) is is' e = ap Start (one_field x y (ap (drop 6) e))
  acts_tell (Stop x) (Stop y) is is' e = ap Stop (one_field x y (ap (drop 5) e))
  acts_tell (Enable x) (Enable y) is is' e = ap Enable (one_field x y (ap (drop 7) e))
  acts_tell (Disable x) (Disable y) is is' e = ap Disable (one_field x y (ap (drop 8) e))
  acts_tell (Restart x) (Restart y) is is' e = ap Restart (one_field x y (ap (drop 8) e))
  acts_tell (Delete x b) (Delete y c) is is' e =
      let parts = first_field x y (yes_or_no b ++ []) (yes_or_no c ++ []) (ap (drop 7) e) in
      ap₂ Delete parts.0 (flags_tell b c parts.1)
  acts_tell (Content x v) (Content y w) is is' e =
      let parts = first_field x y (escaped v ++ []) (escaped w ++ []) (ap (drop 8) e) in
      ap₂ Content parts.0 (one_field v w parts.1)
  acts_tell (Copy x v) (Copy y w) is is' e =
      let parts = first_field x y (escaped v ++ []) (escaped w ++ []) (ap (drop 5) e) in
      ap₂ Copy parts.0 (one_field v w parts.1)
  acts_tell (Edit x s) (Edit y t) is is' e =
      let parts = first_field x y (script_text s ++ []) (script_text t ++ []) (ap (drop 5) e) in
      ap₂ Edit parts.0 (scripts s t is is' (last_part (script_text s) (script_text t) parts.1))
  acts_tell (Perms x m o g) (Perms y n os gs) is is' e =
      let parts = first_field x y (mode_field m ++ 32 ∷ (names_field o ++ 32 ∷ (names_field g ++ []))) (mode_field n ++ 32 ∷ (names_field os ++ 32 ∷ (names_field gs ++ []))) (ap (drop 6) e) in
      let modes = one_cut 32 (mode_field m) (names_field o ++ 32 ∷ (names_field g ++ [])) (mode_field n) (names_field os ++ 32 ∷ (names_field gs ++ []))
      (lacks_mode 32 m space (λ is. omega arith)) (lacks_mode 32 n space (λ is. omega arith)) parts.1 in
      let owners = one_cut 32 (names_field o) (names_field g ++ []) (names_field os) (names_field gs ++ [])
      (lacks_names 32 o space (λ is. omega arith) (λ is. omega arith)) (lacks_names 32 os space (λ is. omega arith) (λ is. omega arith)) modes.1 in
      let path : x ≡ y = parts.0 in
      let mode : m ≡ n = modes_tell m n is is' modes.0 in
      let owner : o ≡ os = names_tell o os owners.0 in
      let group : g ≡ gs = names_tell g gs (last_part (names_field g) (names_field gs) owners.1) in
      cc
  acts_tell (Bust r) (Bust s) is is' e = ap Bust (reasons_tell r s (escaped p ++ []) (escaped q ++ []) (ap (drop 5) e))
  acts_tell a b is is' e = absurd (clash (sign (act_text p a)) (sign (act_text q b)) refl (ap sign e))

-- ---- bytes that stand in no text of an act

-- a separator that acts don't have
pub record IsForeign (c : ℕ) : Type 0 where
  pub is_separator : IsSeparator c
  pub no_space : 32 ≢ c
  pub no_asterisk : 42 ≢ c
  pub no_plus : 43 ≢ c
  pub no_comma : 44 ≢ c
  pub no_colon : 58 ≢ c

pub semicolon_is : IsForeign 59
semicolon_is = record {
  is_separator = semicolon;
  no_space = λ e. omega arith;
  no_asterisk = λ e. omega arith;
  no_plus = λ e. omega arith;
  no_comma = λ e. omega arith;
  no_colon = λ e. omega arith;
}

lacks_fields : (c : ℕ) (first : List ℕ) (fields : List (List ℕ)) → 32 ≢ c → Lacks c first → All (Lacks c) fields → Lacks c (fields_after first fields)
lacks_fields c first fields ne word all = All-append (λ b. b ≢ c) first (flat_map (λ field. 32 ∷ field) fields) word (lacks_led c 32 fields ne all)

all_one : (c : ℕ) (x : List ℕ) → Lacks c x → All (Lacks c) (x ∷ [])
all_one c x h = All-cons (Lacks c) x [] h (All-nil (Lacks c))

module _ (c : ℕ) (f : IsForeign c) where
  word_lacks : (word : List ℕ) → list_all is_field_byte word ≡ true → Lacks c word
  word_lacks word all = lacks_word c word f.is_separator.none all

  field_lacks : (text : List ℕ) → Lacks c (escaped text)
  field_lacks text = lacks_escaped c text f.is_separator

  script_lacks : (script : List LineEdit) → AreEdits script → Lacks c (script_text script)
  unfolding script_text
  script_lacks script are = lacks_joined c 44 (map edit_text script) f.no_comma (texts_lack c script f.is_separator f.no_plus f.no_colon are.each)

  flag_lacks : (b : Bool) → Lacks c (yes_or_no b)
  flag_lacks true = word_lacks (codes "yes") refl
  flag_lacks false = word_lacks (codes "no") refl

  reason_lacks : (r : Reason) → Lacks c (code_of r)
  reason_lacks BadPath = word_lacks (codes "F1") refl
  reason_lacks Missing = word_lacks (codes "F2") refl
  reason_lacks Obstructed = word_lacks (codes "F3") refl
  reason_lacks NotText = word_lacks (codes "F4") refl
  reason_lacks NonConvergent = word_lacks (codes "F5") refl
  reason_lacks NoAnchor = word_lacks (codes "F6") refl
  reason_lacks FieldCount = word_lacks (codes "F7") refl
  reason_lacks UnknownService = word_lacks (codes "F8") refl
  reason_lacks BadPattern = word_lacks (codes "F9") refl
  reason_lacks BadValue = word_lacks (codes "F10") refl
  reason_lacks Fault = word_lacks (codes "F11") refl
  reason_lacks TooLong = word_lacks (codes "F12") refl
  reason_lacks TooMany = word_lacks (codes "F13") refl

  one_lacks : (word field : List ℕ) → list_all is_field_byte word ≡ true → Lacks c (fields_after word (escaped field ∷ []))
  one_lacks word field is = lacks_fields c word (escaped field ∷ []) f.no_space (word_lacks word is) (all_one c (escaped field) (field_lacks field))

  two_lack : (word x y : List ℕ) → list_all is_field_byte word ≡ true → Lacks c x → Lacks c y → Lacks c (fields_after word (x ∷ y ∷ []))
  two_lack word x y is h i = lacks_fields c word (x ∷ y ∷ []) f.no_space (word_lacks word is) (all_two c x y h i)

  -- the text of an act
  pub act_lacks : (p : List ℕ) (act : Act) → IsGiven act → Lacks c (act_text p act)
  act_lacks p (Create x) is = one_lacks (codes "create") x refl
  act_lacks p (MakeDir x) is = one_lacks (codes "mkdir") x refl
  act_lacks p (Start x) is = one_lacks (codes "start") x refl
  act_lacks p (Stop x) is = one_lacks (codes "stop") x refl
  act_lacks p (Enable x) is = one_lacks (codes "enable") x refl
  act_lacks p (Disable x) is = one_lacks (codes "disable") x refl
  act_lacks p (Restart x) is = one_lacks (codes "restart") x refl
  act_lacks p (Delete x b) is = two_lack (codes "delete") (escaped x) (yes_or_no b) refl (field_lacks x) (flag_lacks b)
  act_lacks p (Content x v) is = two_lack (codes "content") (escaped x) (escaped v) refl (field_lacks x) (field_lacks v)
  act_lacks p (Copy x y) is = two_lack (codes "copy") (escaped x) (escaped y) refl (field_lacks x) (field_lacks y)
  act_lacks p (Edit x s) is = two_lack (codes "edit") (escaped x) (script_text s) refl (field_lacks x) (script_lacks s is)
  act_lacks p (Perms x m o g) is =
      lacks_fields c (codes "perms") (escaped x ∷ mode_field m ∷ names_field o ∷ names_field g ∷ []) f.no_space (word_lacks (codes "perms") refl)
      (all_four c (escaped x) (mode_field m) (names_field o) (names_field g) (field_lacks x) (lacks_mode c m f.is_separator f.no_asterisk)
      (lacks_names c o f.is_separator f.no_asterisk f.no_comma) (lacks_names c g f.is_separator f.no_asterisk f.no_comma))
  act_lacks p (Bust r) is = two_lack (codes "bust") (code_of r) (escaped p) refl (reason_lacks r) (field_lacks p)

-- ---- works

-- what stands behind the first semicolon of the parts of acts
abbrev behind : (promiser : List ℕ) → List Act → (tail : List ℕ) → List ℕ
behind p [] tail = 107 ∷ 61 ∷ tail
behind p (act ∷ acts) tail = act_text p act ++ 59 ∷ behind p acts tail

begins : (p : List ℕ) (acts : List Act) (tail : List ℕ) → flat_map (λ (act : Act). 59 ∷ act_text p act) acts ++ 59 ∷ 107 ∷ 61 ∷ tail ≡ 59 ∷ behind p acts tail
begins p [] tail = refl
begins p (act ∷ acts) tail =
    ap (λ t. 59 ∷ t)
    (append_assoc (act_text p act) (flat_map (λ (act : Act). 59 ∷ act_text p act) acts) (59 ∷ 107 ∷ 61 ∷ tail) ∙ ap (λ t. act_text p act ++ t) (begins p acts tail))

abbrev letter : List ℕ → ℕ
letter text = get_or text 0 0

-- no act begins as the classes that are kept
no_classes : (p : List ℕ) (act : Act) (x y : List ℕ) → 107 ∷ 61 ∷ x ≡ act_text p act ++ y → ⊥
no_classes p (Create z) x y e = clash 107 99 refl (ap letter e)
no_classes p act x y e = clash 107 (letter (act_text p act ++ y)) refl (ap letter e)

module _ (scripts : TextsTellScripts) (p q : List ℕ) where
  lists_tell : (acts others : List Act) (x y : List ℕ) → All IsGiven acts → All IsGiven others → behind p acts x ≡ behind q others y → acts ≡ others
  lists_tell [] [] x y all all' e = refl
  lists_tell [] (b ∷ bs) x y all all' e = absurd (no_classes q b x (59 ∷ behind q bs y) e)
  lists_tell (a ∷ as') [] x y all all' e = absurd (no_classes p a y (59 ∷ behind p as' x) (sym e))
  lists_tell (a ∷ as') (b ∷ bs) x y all all' e =
      let given = All-head IsGiven a as' all in
      let given' = All-head IsGiven b bs all' in
      let parts = one_cut 59 (act_text p a) (behind p as' x) (act_text q b) (behind q bs y) (act_lacks 59 semicolon_is p a given) (act_lacks 59 semicolon_is q b given') e in
      let first : a ≡ b = acts_tell scripts p q a b given given' parts.0 in
      let rest : as' ≡ bs = lists_tell as' bs x y (All-tail IsGiven a as' all) (All-tail IsGiven b bs all') parts.1 in
      cc

-- acts and a call, or a report
no_call : (p : List ℕ) (acts : List Act) (x y : List ℕ) → behind p acts x ≡ codes "call" ++ y → ⊥
no_call p [] x y e = clash 107 99 refl (ap letter e)
no_call p (Create z ∷ acts) x y e = clash (sign (behind p (Create z ∷ acts) x)) (sign (codes "call" ++ y)) refl (ap sign e)
no_call p (act ∷ acts) x y e = clash (sign (behind p (act ∷ acts) x)) (sign (codes "call" ++ y)) refl (ap sign e)

no_report : (p : List ℕ) (acts : List Act) (x y : List ℕ) → behind p acts x ≡ codes "report" ++ y → ⊥
no_report p [] x y e = clash 107 114 refl (ap letter e)
no_report p (Create z ∷ acts) x y e = clash (sign (behind p (Create z ∷ acts) x)) (sign (codes "report" ++ y)) refl (ap sign e)
no_report p (act ∷ acts) x y e = clash (sign (behind p (act ∷ acts) x)) (sign (codes "report" ++ y)) refl (ap sign e)

module _ (scripts : TextsTellScripts) (p q x y : List ℕ) where
  works_tell : (w v : Work) → AreGiven w → AreGiven v → work_text p w ++ 59 ∷ 107 ∷ 61 ∷ x ≡ work_text q v ++ 59 ∷ 107 ∷ 61 ∷ y → AreAlike w v
  works_tell (Acts acts) (Acts others) all all' e = lists_tell scripts p q acts others x y all all' (ap (drop 1) (sym (begins p acts x) ∙ e ∙ begins q others y))
  works_tell (Acts acts) (Call name given) all all' e = no_call p acts x _ (ap (drop 1) (sym (begins p acts x) ∙ e))
  works_tell (Acts acts) (Report content) all all' e = no_report p acts x _ (ap (drop 1) (sym (begins p acts x) ∙ e))
  works_tell (Call name given) (Acts others) all all' e = no_call q others y _ (ap (drop 1) (sym (begins q others y) ∙ sym e))
  works_tell (Call name given) (Call other given') all all' e = tt
  works_tell (Call name given) (Report content) all all' e = clash 99 114 refl (ap (λ t. letter (drop 1 t)) e)
  works_tell (Report content) (Acts others) all all' e = no_report q others y _ (ap (drop 1) (sym (begins q others y) ∙ sym e))
  works_tell (Report content) (Call name given) all all' e = clash 114 99 refl (ap (λ t. letter (drop 1 t)) e)
  works_tell (Report content) (Report other) all all' e = tt

-- ---- keys

-- the classes and the minutes behind `;k=`
abbrev tail_of : (kept repaired failed : List (List ℕ)) → (minutes : ℕ) → List ℕ
tail_of kept repaired failed minutes =
    classes_text kept
    ++ (codes ";r=" ++ (classes_text repaired
    ++ (codes ";f=" ++ (classes_text failed
    ++ (codes ";e=" ++ decimal minutes)))))

-- the bundle and the number of a promise
abbrev front_of : PromiseId → List ℕ
front_of id = id.bundle ++ 32 ∷ decimal id.number

key_is : (id : PromiseId) (p : List ℕ) (w : Work) (kept repaired failed : List (List ℕ)) (minutes : ℕ) →
    key_text id p w kept repaired failed minutes ≡ front_of id ++ (work_text p w ++ 59 ∷ 107 ∷ 61 ∷ tail_of kept repaired failed minutes)
unfolding key_text
key_is id p w kept repaired failed minutes = sym (append_assoc id.bundle (32 ∷ decimal id.number) (work_text p w ++ 59 ∷ 107 ∷ 61 ∷ tail_of kept repaired failed minutes))

-- a semicolon stands behind the number
led : (p : List ℕ) (w : Work) (x : List ℕ) → (rest : List ℕ) × (work_text p w ++ 59 ∷ 107 ∷ 61 ∷ x ≡ 59 ∷ rest)
led p (Acts acts) x = (behind p acts x, begins p acts x)
led p (Call name given) x = (_, refl)
led p (Report content) x = (_, refl)

front_lacks : (id : PromiseId) → IsPlainId id → Lacks 59 (front_of id)
front_lacks id plain =
    All-append (λ b. b ≢ 59) id.bundle (32 ∷ decimal id.number) plain.bundle.no_semicolon
    (All-cons (λ b. b ≢ 59) 32 (decimal id.number) (λ e. omega arith) (lacks_decimal 59 id.number semicolon plain.number))

pub keys_tell : TextsTellScripts → KeysTellWorks
keys_tell scripts i j key other same =
    let x = tail_of i.kept i.repaired i.failed i.elapsed in
    let y = tail_of j.kept j.repaired j.failed j.elapsed in
    let a = led key.promiser i.work x in
    let b = led other.promiser j.work y in
    let texts : front_of i.source ++ 59 ∷ a.0 ≡ front_of j.source ++ 59 ∷ b.0 =
    ap (λ t. front_of i.source ++ t) (sym a.1)
    ∙ sym (key_is i.source key.promiser i.work i.kept i.repaired i.failed i.elapsed)
    ∙ sym key.text ∙ same ∙ other.text
    ∙ key_is j.source other.promiser j.work j.kept j.repaired j.failed j.elapsed
    ∙ ap (λ t. front_of j.source ++ t) b.1 in
    let parts = one_cut 59 (front_of i.source) a.0 (front_of j.source) b.0 (front_lacks i.source key.source) (front_lacks j.source other.source) texts in
    works_tell scripts key.promiser other.promiser x y i.work j.work key.acts other.acts (a.1 ∙ ap (λ t. 59 ∷ t) parts.1 ∙ sym b.1)
