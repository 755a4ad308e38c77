-- What is left of a bundle or of a body, behind its brace, at a state of the machine. It is kept one token earlier, and
-- some tokens lead each state to an end.
use Rattle.std.proofs.Common.{◌≡◌, ℕ, List, [], ◌∷◌, ◌++◌, Option, Some, None, ap, ◌∙◌, sym, subst, append-nil}
use Rattle.cfa_base.specs.declared.places.Place.{Place}
use Rattle.cfa_base.specs.declared.tokens.Kind.{Kind}
use Rattle.cfa_base.specs.declared.tokens.Kind.TheVariants.{Word, Text, FatArrow, ThinArrow, DoubleColon, Colon, Comma, Semicolon, CloseBrace, OpenParen, Bang}
use Rattle.cfa_base.specs.Tokens.{Token}
use Rattle.cfa_base.specs.Lexing.{content_of}
use Rattle.cfa_tree.specs.Tree.{ExprTree, ValueTree, word, AttributeTree, PromiseTree, SectionTree}
use Rattle.cfa_tree.specs.Grammar.{token, Levels, Guard, Value, an_item, a_word, attribute, Attributes, no_attribute, last_attribute, next_attribute, Promisee, no_promisee, a_promisee, Promises, no_promise, new_guard, a_promise, Sections, no_section, a_section, BodyAttributes, no_more, one_more}
use Rattle.cfa_tree.specs.Guards.{GuardState, guard_start, GuardProgress, goes_on as guard_goes_on, ended as guard_ended, guard_step}
use Rattle.cfa_parser.specs.Values.{ValueState, value_start, ValueProgress, goes_on as value_goes_on, ended as value_ended, value_step}
use Rattle.cfa_parser.specs.Machine.{OpenSection, OpenPromise, SectionState, between_promises, has_word, in_guard, has_promiser, in_promisee, wants_attribute, has_name, in_value, BundleState, no_section as no_section_yet, has_section_word, in_section, BodyState, between_attributes, has_body_name, in_body_value, Section, guard_next, with_guard, new_section, new_promise, with_attribute, with_promise, closed_section, guard_word, section_step, within, promisee_next, attribute_next, promiser_next, value_next, BundleProgress, goes_on, ended, in_section_step, bundle_step, BodyProgress, body_goes_on, body_ended, body_value_next, body_step}
use Rattle.cfa_tree.specs.lemmas.Lists.{append_one}
use Rattle.cfa_tree.specs.lemmas.GuardRest.{GuardRest, GuardEarlier, guard_earlier, guard_alive, guard_starts, somewhere}
use Rattle.cfa_parser.proofs.Openings.{with_attributes}
use Rattle.cfa_parser.proofs.ValueRest.{ValueRest, ValueEarlier, value_earlier, value_alive, value_starts}

-- the rest of a bundle between the promises of a section
pub data SectionRest : Levels → List SectionTree → OpenSection → List Token → List SectionTree → List Token → Type 0 where
  section_rest : {limit : Levels} {ss more : List SectionTree} {s : OpenSection} {promises : List PromiseTree} {us vs rest : List Token} →
      Promises limit us s.guard promises vs → Sections limit vs more rest →
      SectionRest limit ss s us (ss ++ record { kind = s.kind; promises = s.promises ++ promises; place = s.place } ∷ more) rest

-- the rest of the attributes behind one of them
pub data AttributesRest : Levels → List Token → List AttributeTree → List Token → Type 0 where
  semicolon_next : {limit : Levels} {x : List ℕ} {p : Place} {rest : List Token} → AttributesRest limit (token Semicolon x p ∷ rest) [] rest
  comma_next : {limit : Levels} {x : List ℕ} {p : Place} {us rest : List Token} {more : List AttributeTree} → Attributes limit us more rest → AttributesRest limit (token Comma x p ∷ us) more rest

pub data BundleRest : Levels → List SectionTree → BundleState → List Token → List SectionTree → List Token → Type 0 where
  before_sections : {limit : Levels} {ss more : List SectionTree} {us rest : List Token} → Sections limit us more rest → BundleRest limit ss no_section_yet us (ss ++ more) rest
  behind_section_word : {limit : Levels} {ss more : List SectionTree} {x y : List ℕ} {p q : Place} {promises : List PromiseTree} {ts us rest : List Token} →
      Promises limit ts None promises us → Sections limit us more rest →
      BundleRest limit ss (has_section_word x p) (token Colon y q ∷ ts) (ss ++ record { kind = x; promises = promises; place = p } ∷ more) rest
  before_promises : {limit : Levels} {ss all : List SectionTree} {s : OpenSection} {us rest : List Token} → SectionRest limit ss s us all rest → BundleRest limit ss (in_section s between_promises) us all rest
  word_of_section : {limit : Levels} {ss all : List SectionTree} {s : OpenSection} {x : List ℕ} {p : Place} {us rest : List Token} →
      BundleRest limit (ss ++ closed_section s ∷ []) (has_section_word x p) us all rest → BundleRest limit ss (in_section s (has_word x p)) us all rest
  word_of_guard : {limit : Levels} {ss all : List SectionTree} {s : OpenSection} {x y : List ℕ} {p q : Place} {e : ExprTree} {us vs rest : List Token} →
      GuardRest limit (guard_word x) us e (token DoubleColon y q ∷ vs) → SectionRest limit ss (with_guard s e) vs all rest → BundleRest limit ss (in_section s (has_word x p)) us all rest
  within_guard : {limit : Levels} {ss all : List SectionTree} {s : OpenSection} {g : GuardState} {y : List ℕ} {q : Place} {e : ExprTree} {us vs rest : List Token} →
      GuardRest limit g us e (token DoubleColon y q ∷ vs) → SectionRest limit ss (with_guard s e) vs all rest → BundleRest limit ss (in_section s (in_guard g)) us all rest
  behind_promiser : {limit : Levels} {ss all : List SectionTree} {s : OpenSection} {x : List ℕ} {p : Place} {v : Option ValueTree} {attrs : List AttributeTree} {us vs ws rest : List Token} →
      Promisee limit us v vs → Attributes limit vs attrs ws → SectionRest limit ss (with_promise s (with_attributes (new_promise x p v) attrs)) ws all rest →
      BundleRest limit ss (in_section s (has_promiser x p)) us all rest
  within_promisee : {limit : Levels} {ss all : List SectionTree} {s : OpenSection} {x : List ℕ} {p : Place} {w : ValueState} {v : ValueTree} {attrs : List AttributeTree} {us vs ws rest : List Token} →
      ValueRest limit w us v vs → Attributes limit vs attrs ws → SectionRest limit ss (with_promise s (with_attributes (new_promise x p (Some v)) attrs)) ws all rest →
      BundleRest limit ss (in_section s (in_promisee x p w)) us all rest
  before_attribute : {limit : Levels} {ss all : List SectionTree} {s : OpenSection} {o : OpenPromise} {attrs : List AttributeTree} {us vs rest : List Token} →
      Attributes limit us attrs vs → SectionRest limit ss (with_promise s (with_attributes o attrs)) vs all rest → BundleRest limit ss (in_section s (wants_attribute o)) us all rest
  behind_name : {limit : Levels} {ss all : List SectionTree} {s : OpenSection} {o : OpenPromise} {x y : List ℕ} {p q : Place} {v : ValueTree} {attrs : List AttributeTree} {us vs ws rest : List Token} →
      Value limit us v vs → AttributesRest limit vs attrs ws → SectionRest limit ss (with_promise s (with_attributes o (record { name = x; value = v; place = p } ∷ attrs))) ws all rest →
      BundleRest limit ss (in_section s (has_name o x p)) (token FatArrow y q ∷ us) all rest
  within_value : {limit : Levels} {ss all : List SectionTree} {s : OpenSection} {o : OpenPromise} {x : List ℕ} {p : Place} {w : ValueState} {v : ValueTree} {attrs : List AttributeTree} {us vs ws rest : List Token} →
      ValueRest limit w us v vs → AttributesRest limit vs attrs ws → SectionRest limit ss (with_promise s (with_attributes o (record { name = x; value = v; place = p } ∷ attrs))) ws all rest →
      BundleRest limit ss (in_section s (in_value o x p w)) us all rest

section_done : (limit : Levels) (ss : List SectionTree) (s : OpenSection) (rest : List Token) → SectionRest limit ss s rest (ss ++ closed_section s ∷ []) rest
section_done limit ss s rest =
    subst (λ z. SectionRest limit ss s rest (ss ++ record { kind = s.kind; promises = z; place = s.place } ∷ []) rest) (append-nil s.promises) (section_rest no_promise no_section)

-- one token earlier, within a section
abbrev SectionEarlier : Levels → List SectionTree → OpenSection → SectionState → Token → Option Section → Type 0
SectionEarlier limit ss s state t None = Unit {0}
SectionEarlier limit ss s state t (Some next) =
    (us rest : List Token) (all : List SectionTree) → BundleRest limit ss (in_section next.open_section next.state) us all rest → BundleRest limit ss (in_section s state) (t ∷ us) all rest

-- a state whose rest is also another's
along : (limit : Levels) (ss : List SectionTree) (s : OpenSection) (from to : SectionState) (t : Token) (o : Option Section) →
    ((us rest : List Token) (all : List SectionTree) → BundleRest limit ss (in_section s from) us all rest → BundleRest limit ss (in_section s to) us all rest) →
    SectionEarlier limit ss s from t o → SectionEarlier limit ss s to t o
along limit ss s from to t None f h = tt
along limit ss s from to t (Some next) f h = λ us rest all r. f (t ∷ us) rest all (h us rest all r)

promise_first : {limit : Levels} {ss : List SectionTree} {s : OpenSection} {x : List ℕ} {p : Place} {us rest : List Token} {all : List SectionTree} →
    BundleRest limit ss (in_section s (has_promiser (content_of x) p)) us all rest → BundleRest limit ss (in_section s between_promises) (token Text x p ∷ us) all rest
promise_first {limit = limit} {ss = ss} {s = s} {x = x} {p = p} {us = us} {rest = rest} (behind_promiser {v = v} {attrs = attrs} promisee attributes (section_rest {more = more} {promises = promises} others sections)) =
    let first : PromiseTree = record { guard = s.guard; promiser = content_of x; promisee = v; attributes = attrs; place = p } in
    before_promises (subst (λ z. SectionRest limit ss s (token Text x p ∷ us) (ss ++ record { kind = s.kind; promises = z; place = s.place } ∷ more) rest) (sym (append_one s.promises first promises))
    (section_rest (a_promise promisee attributes others) sections))

section_word_first : {limit : Levels} {ss all : List SectionTree} {s : OpenSection} {x : List ℕ} {p : Place} {us rest : List Token} →
    BundleRest limit (ss ++ closed_section s ∷ []) (has_section_word x p) us all rest → SectionRest limit ss s (token Word x p ∷ us) all rest
section_word_first {limit = limit} {ss = ss} {s = s} {x = x} {p = p} {us = us} {rest = rest} (behind_section_word {more = more} {promises = promises} ps sections) =
    let next : SectionTree = record { kind = x; promises = promises; place = p } in
    let same : ss ++ record { kind = s.kind; promises = s.promises ++ []; place = s.place } ∷ next ∷ more ≡ (ss ++ closed_section s ∷ []) ++ next ∷ more =
    ap (λ z. ss ++ record { kind = s.kind; promises = z; place = s.place } ∷ next ∷ more) (append-nil s.promises) ∙ sym (append_one ss (closed_section s) (next ∷ more)) in
    subst (λ z. SectionRest limit ss s (token Word x p ∷ us) z rest) same (section_rest no_promise (a_section ps sections))

guard_first : {limit : Levels} {ss all : List SectionTree} {s : OpenSection} {y : List ℕ} {q : Place} {e : ExprTree} {us vs rest : List Token} →
    Guard limit us e (token DoubleColon y q ∷ vs) → SectionRest limit ss (with_guard s e) vs all rest → SectionRest limit ss s us all rest
guard_first g (section_rest others sections) = section_rest (new_guard g others) sections

word_first : {limit : Levels} {ss all : List SectionTree} {s : OpenSection} {x : List ℕ} {p : Place} {us rest : List Token} →
    BundleRest limit ss (in_section s (has_word x p)) us all rest → BundleRest limit ss (in_section s between_promises) (token Word x p ∷ us) all rest
word_first (word_of_section r) = before_promises (section_word_first r)
word_first {limit = limit} {x = x} {p = p} {us = us} (word_of_guard {y = y} {q = q} {e = e} {vs = vs} g r) =
    before_promises (guard_first (guard_starts limit (guard_earlier limit guard_start Word x p us (token DoubleColon y q ∷ vs) e g)) r)

guard_begins : {limit : Levels} {ss : List SectionTree} {s : OpenSection} (us rest : List Token) (all : List SectionTree) →
    BundleRest limit ss (in_section s (in_guard guard_start)) us all rest → BundleRest limit ss (in_section s between_promises) us all rest
guard_begins {limit = limit} us rest all (within_guard g r) = before_promises (guard_first (guard_starts limit g) r)

as_guard_word : {limit : Levels} {ss : List SectionTree} {s : OpenSection} (y : List ℕ) (q : Place) (us rest : List Token) (all : List SectionTree) →
    BundleRest limit ss (in_section s (in_guard (guard_word y))) us all rest → BundleRest limit ss (in_section s (has_word y q)) us all rest
as_guard_word y q us rest all (within_guard g r) = word_of_guard g r

in_guard_earlier : {limit : Levels} {ss : List SectionTree} {s : OpenSection} {g next : GuardState} {t : Token} →
    ((us rest : List Token) (tree : ExprTree) → GuardRest limit next us tree rest → GuardRest limit g (t ∷ us) tree rest) →
    (us rest : List Token) (all : List SectionTree) → BundleRest limit ss (in_section s (in_guard next)) us all rest → BundleRest limit ss (in_section s (in_guard g)) (t ∷ us) all rest
in_guard_earlier h us rest all (within_guard {y = y} {q = q} {e = e} {vs = vs} g r) = within_guard (h us (token DoubleColon y q ∷ vs) e g) r

guard_done : {limit : Levels} {ss all : List SectionTree} {s : OpenSection} {g : GuardState} {e : ExprTree} {us rest : List Token} (x : List ℕ) (p : Place) → ((rest : List Token) → GuardRest limit g rest e rest) →
    BundleRest limit ss (in_section (with_guard s e) between_promises) us all rest → BundleRest limit ss (in_section s (in_guard g)) (token DoubleColon x p ∷ us) all rest
guard_done {us = us} x p h (before_promises r) = within_guard (h (token DoubleColon x p ∷ us)) r

guard_next_earlier : (limit : Levels) (ss : List SectionTree) (s : OpenSection) (g : GuardState) (k : Kind) (x : List ℕ) (p : Place) (o : Option GuardProgress) →
    GuardEarlier limit g (token k x p) o → SectionEarlier limit ss s (in_guard g) (token k x p) (guard_next s o k)
guard_next_earlier limit ss s g k x p None h = tt
guard_next_earlier limit ss s g k x p (Some (guard_goes_on next)) h = in_guard_earlier h
guard_next_earlier limit ss s g DoubleColon x p (Some (guard_ended e)) h = λ us rest all r. guard_done x p h r
guard_next_earlier limit ss s g _ x p (Some (guard_ended e)) h = tt

in_guard_step : (limit : Levels) (ss : List SectionTree) (s : OpenSection) (g : GuardState) (k : Kind) (x : List ℕ) (p : Place) →
    SectionEarlier limit ss s (in_guard g) (token k x p) (guard_next s (guard_step limit g k x) k)
in_guard_step limit ss s g k x p = guard_next_earlier limit ss s g k x p (guard_step limit g k x) (guard_earlier limit g k x p)

name_first : {limit : Levels} {ss all : List SectionTree} {s : OpenSection} {o : OpenPromise} {x : List ℕ} {p : Place} {us rest : List Token} →
    BundleRest limit ss (in_section s (has_name o x p)) us all rest → BundleRest limit ss (in_section s (wants_attribute o)) (token Word x p ∷ us) all rest
name_first (behind_name v semicolon_next r) = before_attribute (last_attribute (attribute v)) r
name_first (behind_name v (comma_next more) r) = before_attribute (next_attribute (attribute v) more) r

semicolon_first : {limit : Levels} {ss all : List SectionTree} {s : OpenSection} {o : OpenPromise} {us rest : List Token} (x : List ℕ) (p : Place) →
    BundleRest limit ss (in_section (with_promise s o) between_promises) us all rest → BundleRest limit ss (in_section s (wants_attribute o)) (token Semicolon x p ∷ us) all rest
semicolon_first {limit = limit} {ss = ss} {all = all} {s = s} {o = o} {us = us} {rest = rest} x p (before_promises r) =
    before_attribute no_attribute
    (subst (λ z. SectionRest limit ss (with_promise s (record { promiser = o.promiser; place = o.place; promisee = o.promisee; attributes = z })) us all rest) (sym (append-nil o.attributes)) r)

attribute_earlier : (limit : Levels) (ss : List SectionTree) (s : OpenSection) (o : OpenPromise) (k : Kind) (x : List ℕ) (p : Place) →
    SectionEarlier limit ss s (wants_attribute o) (token k x p) (attribute_next s o k x p)
attribute_earlier limit ss s o Word x p = λ us rest all r. name_first r
attribute_earlier limit ss s o Semicolon x p = λ us rest all r. semicolon_first x p r
attribute_earlier limit ss s o _ x p = tt

without_promisee : {limit : Levels} {ss : List SectionTree} {s : OpenSection} (y : List ℕ) (q : Place) (us rest : List Token) (all : List SectionTree) →
    BundleRest limit ss (in_section s (wants_attribute (new_promise y q None))) us all rest → BundleRest limit ss (in_section s (has_promiser y q)) us all rest
without_promisee y q us rest all (before_attribute attributes r) = behind_promiser no_promisee attributes r

promisee_first : {limit : Levels} {ss all : List SectionTree} {s : OpenSection} {y : List ℕ} {q : Place} {us rest : List Token} (x : List ℕ) (p : Place) →
    BundleRest limit ss (in_section s (in_promisee y q value_start)) us all rest → BundleRest limit ss (in_section s (has_promiser y q)) (token ThinArrow x p ∷ us) all rest
promisee_first {limit = limit} x p (within_promisee v attributes r) = behind_promiser (a_promisee (value_starts limit v)) attributes r

promiser_earlier : (limit : Levels) (ss : List SectionTree) (s : OpenSection) (y : List ℕ) (q : Place) (k : Kind) (x : List ℕ) (p : Place) →
    SectionEarlier limit ss s (has_promiser y q) (token k x p) (promiser_next s y q k x p)
promiser_earlier limit ss s y q ThinArrow x p = λ us rest all r. promisee_first x p r
promiser_earlier limit ss s y q k x p =
    along limit ss s (wants_attribute (new_promise y q None)) (has_promiser y q) (token k x p) (attribute_next s (new_promise y q None) k x p) (without_promisee y q) (attribute_earlier limit ss s (new_promise y q None) k x p)

in_promisee_earlier : {limit : Levels} {ss : List SectionTree} {s : OpenSection} {y : List ℕ} {q : Place} {w next : ValueState} {t : Token} →
    ((us rest : List Token) (tree : ValueTree) → ValueRest limit next us tree rest → ValueRest limit w (t ∷ us) tree rest) →
    (us rest : List Token) (all : List SectionTree) → BundleRest limit ss (in_section s (in_promisee y q next)) us all rest → BundleRest limit ss (in_section s (in_promisee y q w)) (t ∷ us) all rest
in_promisee_earlier h us rest all (within_promisee {v = v} {vs = vs} value attributes r) = within_promisee (h us vs v value) attributes r

promisee_done : {limit : Levels} {ss : List SectionTree} {s : OpenSection} {w : ValueState} {v : ValueTree} (y : List ℕ) (q : Place) → ((rest : List Token) → ValueRest limit w rest v rest) → (us rest : List Token) (all : List SectionTree) →
    BundleRest limit ss (in_section s (wants_attribute (new_promise y q (Some v)))) us all rest → BundleRest limit ss (in_section s (in_promisee y q w)) us all rest
promisee_done y q h us rest all (before_attribute attributes r) = within_promisee (h us) attributes r

promisee_earlier : (limit : Levels) (ss : List SectionTree) (s : OpenSection) (y : List ℕ) (q : Place) (w : ValueState) (k : Kind) (x : List ℕ) (p : Place) (o : Option ValueProgress) →
    ValueEarlier limit w (token k x p) o → SectionEarlier limit ss s (in_promisee y q w) (token k x p) (promisee_next s y q o k x p)
promisee_earlier limit ss s y q w k x p None h = tt
promisee_earlier limit ss s y q w k x p (Some (value_goes_on next)) h = in_promisee_earlier h
promisee_earlier limit ss s y q w k x p (Some (value_ended v)) h =
    along limit ss s (wants_attribute (new_promise y q (Some v))) (in_promisee y q w) (token k x p) (attribute_next s (new_promise y q (Some v)) k x p) (promisee_done y q h) (attribute_earlier limit ss s (new_promise y q (Some v)) k x p)

value_first : {limit : Levels} {ss all : List SectionTree} {s : OpenSection} {o : OpenPromise} {y : List ℕ} {q : Place} {us rest : List Token} (x : List ℕ) (p : Place) →
    BundleRest limit ss (in_section s (in_value o y q value_start)) us all rest → BundleRest limit ss (in_section s (has_name o y q)) (token FatArrow x p ∷ us) all rest
value_first {limit = limit} x p (within_value v attributes r) = behind_name (value_starts limit v) attributes r

in_value_earlier : {limit : Levels} {ss : List SectionTree} {s : OpenSection} {o : OpenPromise} {y : List ℕ} {q : Place} {w next : ValueState} {t : Token} →
    ((us rest : List Token) (tree : ValueTree) → ValueRest limit next us tree rest → ValueRest limit w (t ∷ us) tree rest) →
    (us rest : List Token) (all : List SectionTree) → BundleRest limit ss (in_section s (in_value o y q next)) us all rest → BundleRest limit ss (in_section s (in_value o y q w)) (t ∷ us) all rest
in_value_earlier h us rest all (within_value {v = v} {vs = vs} value attributes r) = within_value (h us vs v value) attributes r

value_comma : {limit : Levels} {ss all : List SectionTree} {s : OpenSection} {o : OpenPromise} {y : List ℕ} {q : Place} {w : ValueState} {v : ValueTree} {us rest : List Token} (x : List ℕ) (p : Place) → ((rest : List Token) → ValueRest limit w rest v rest) →
    BundleRest limit ss (in_section s (wants_attribute (with_attribute o y q v))) us all rest → BundleRest limit ss (in_section s (in_value o y q w)) (token Comma x p ∷ us) all rest
value_comma {limit = limit} {ss = ss} {all = all} {s = s} {o = o} {y = y} {q = q} {v = v} {us = us} {rest = rest} x p h (before_attribute {attrs = attrs} {vs = vs} attributes r) =
    within_value (h (token Comma x p ∷ us)) (comma_next attributes)
    (subst (λ z. SectionRest limit ss (with_promise s (record { promiser = o.promiser; place = o.place; promisee = o.promisee; attributes = z })) vs all rest)
    (append_one o.attributes (record { name = y; value = v; place = q }) attrs) r)

value_semicolon : {limit : Levels} {ss all : List SectionTree} {s : OpenSection} {o : OpenPromise} {y : List ℕ} {q : Place} {w : ValueState} {v : ValueTree} {us rest : List Token} (x : List ℕ) (p : Place) → ((rest : List Token) → ValueRest limit w rest v rest) →
    BundleRest limit ss (in_section (with_promise s (with_attribute o y q v)) between_promises) us all rest → BundleRest limit ss (in_section s (in_value o y q w)) (token Semicolon x p ∷ us) all rest
value_semicolon {us = us} x p h (before_promises r) = within_value (h (token Semicolon x p ∷ us)) semicolon_next r

value_next_earlier : (limit : Levels) (ss : List SectionTree) (s : OpenSection) (o : OpenPromise) (y : List ℕ) (q : Place) (w : ValueState) (k : Kind) (x : List ℕ) (p : Place) (progress : Option ValueProgress) →
    ValueEarlier limit w (token k x p) progress → SectionEarlier limit ss s (in_value o y q w) (token k x p) (value_next s o y q progress k)
value_next_earlier limit ss s o y q w k x p None h = tt
value_next_earlier limit ss s o y q w k x p (Some (value_goes_on next)) h = in_value_earlier h
value_next_earlier limit ss s o y q w Comma x p (Some (value_ended v)) h = λ us rest all r. value_comma x p h r
value_next_earlier limit ss s o y q w Semicolon x p (Some (value_ended v)) h = λ us rest all r. value_semicolon x p h r
value_next_earlier limit ss s o y q w _ x p (Some (value_ended v)) h = tt

section_earlier : (limit : Levels) (ss : List SectionTree) (s : OpenSection) (state : SectionState) (k : Kind) (x : List ℕ) (p : Place) →
    SectionEarlier limit ss s state (token k x p) (section_step limit s state k x p)
section_earlier limit ss s between_promises Text x p = λ us rest all r. promise_first r
section_earlier limit ss s between_promises Word x p = λ us rest all r. word_first r
section_earlier limit ss s between_promises Bang x p =
    along limit ss s (in_guard guard_start) between_promises (token Bang x p) (guard_next s (guard_step limit guard_start Bang x) Bang) guard_begins (in_guard_step limit ss s guard_start Bang x p)
section_earlier limit ss s between_promises OpenParen x p =
    along limit ss s (in_guard guard_start) between_promises (token OpenParen x p) (guard_next s (guard_step limit guard_start OpenParen x) OpenParen) guard_begins (in_guard_step limit ss s guard_start OpenParen x p)
section_earlier limit ss s between_promises _ x p = tt
section_earlier limit ss s (has_word y q) k x p =
    along limit ss s (in_guard (guard_word y)) (has_word y q) (token k x p) (guard_next s (guard_step limit (guard_word y) k x) k) (as_guard_word y q) (in_guard_step limit ss s (guard_word y) k x p)
section_earlier limit ss s (in_guard g) k x p = in_guard_step limit ss s g k x p
section_earlier limit ss s (has_promiser y q) k x p = promiser_earlier limit ss s y q k x p
section_earlier limit ss s (in_promisee y q w) k x p = promisee_earlier limit ss s y q w k x p (value_step limit w k x p) (value_earlier limit w k x p)
section_earlier limit ss s (wants_attribute o) k x p = attribute_earlier limit ss s o k x p
section_earlier limit ss s (has_name o y q) FatArrow x p = λ us rest all r. value_first x p r
section_earlier limit ss s (has_name o y q) _ x p = tt
section_earlier limit ss s (in_value o y q w) k x p = value_next_earlier limit ss s o y q w k x p (value_step limit w k x p) (value_earlier limit w k x p)

-- the token that closes a block
pub data IsCloseBrace : Token → Type 0 where
  close_brace : {x : List ℕ} {p : Place} → IsCloseBrace (token CloseBrace x p)

-- one token earlier
abbrev pub BundleEarlier : Levels → List SectionTree → BundleState → Token → Option BundleProgress → Type 0
BundleEarlier limit ss state t None = Unit {0}
BundleEarlier limit ss state t (Some (goes_on next to)) = (us rest : List Token) (all : List SectionTree) → BundleRest limit next to us all rest → BundleRest limit ss state (t ∷ us) all rest
BundleEarlier limit ss state t (Some (ended all)) = IsCloseBrace t × ((rest : List Token) → BundleRest limit ss state rest all rest)

within_earlier : (limit : Levels) (ss : List SectionTree) (s : OpenSection) (state : SectionState) (t : Token) (o : Option Section) →
    SectionEarlier limit ss s state t o → BundleEarlier limit ss (in_section s state) t (within ss o)
within_earlier limit ss s state t None h = tt
within_earlier limit ss s state t (Some next) h = h

colon_rest : {limit : Levels} {ss all : List SectionTree} {y : List ℕ} {q : Place} {us rest : List Token} (x : List ℕ) (p : Place) →
    BundleRest limit ss (in_section (new_section y q) between_promises) us all rest → BundleRest limit ss (has_section_word y q) (token Colon x p ∷ us) all rest
colon_rest x p (before_promises (section_rest promises sections)) = behind_section_word promises sections

first_section : {limit : Levels} {ss all : List SectionTree} {x : List ℕ} {p : Place} {us rest : List Token} →
    BundleRest limit ss (has_section_word x p) us all rest → BundleRest limit ss no_section_yet (token Word x p ∷ us) all rest
first_section (behind_section_word promises sections) = before_sections (a_section promises sections)

no_section_done : (limit : Levels) (ss : List SectionTree) (rest : List Token) → BundleRest limit ss no_section_yet rest ss rest
no_section_done limit ss rest = subst (λ z. BundleRest limit ss no_section_yet rest z rest) (append-nil ss) (before_sections no_section)

in_section_earlier : (limit : Levels) (ss : List SectionTree) (s : OpenSection) (state : SectionState) (k : Kind) (x : List ℕ) (p : Place) →
    BundleEarlier limit ss (in_section s state) (token k x p) (in_section_step limit ss s state k x p)
in_section_earlier limit ss s between_promises CloseBrace x p = (close_brace, λ rest. before_promises (section_done limit ss s rest))
in_section_earlier limit ss s (has_word y q) Colon x p = λ us rest all r. word_of_section (colon_rest x p r)
in_section_earlier limit ss s state k x p = within_earlier limit ss s state (token k x p) (section_step limit s state k x p) (section_earlier limit ss s state k x p)

pub bundle_earlier : (limit : Levels) (ss : List SectionTree) (state : BundleState) (k : Kind) (x : List ℕ) (p : Place) → BundleEarlier limit ss state (token k x p) (bundle_step limit ss state k x p)
bundle_earlier limit ss no_section_yet Word x p = λ us rest all r. first_section r
bundle_earlier limit ss no_section_yet CloseBrace x p = (close_brace, no_section_done limit ss)
bundle_earlier limit ss no_section_yet _ x p = tt
bundle_earlier limit ss (has_section_word y q) Colon x p = λ us rest all r. colon_rest x p r
bundle_earlier limit ss (has_section_word y q) _ x p = tt
bundle_earlier limit ss (in_section s state) k x p = in_section_earlier limit ss s state k x p

-- from each state some tokens lead to the end of the bundle
section_alive : (limit : Levels) (ss : List SectionTree) (s : OpenSection) (state : SectionState) (rest : List Token) → (us : List Token) × (all : List SectionTree) × BundleRest limit ss (in_section s state) us all rest
section_alive limit ss s between_promises rest = (rest, ss ++ closed_section s ∷ [], before_promises (section_done limit ss s rest))
section_alive limit ss s (has_word x p) rest =
    (token Colon [] somewhere ∷ rest, (ss ++ closed_section s ∷ []) ++ record { kind = x; promises = []; place = p } ∷ [], word_of_section (behind_section_word no_promise no_section))
section_alive limit ss s (in_guard g) rest =
    let later = guard_alive limit g (token DoubleColon [] somewhere ∷ rest) in
    (later.0, ss ++ closed_section (with_guard s later.1) ∷ [], within_guard later.2 (section_done limit ss (with_guard s later.1) rest))
section_alive limit ss s (has_promiser x p) rest =
    let o = with_promise s (new_promise x p None) in
    (token Semicolon [] somewhere ∷ rest, ss ++ closed_section o ∷ [], behind_promiser no_promisee no_attribute (section_done limit ss o rest))
section_alive limit ss s (in_promisee x p w) rest =
    let later = value_alive limit w (token Semicolon [] somewhere ∷ rest) in
    let o = with_promise s (new_promise x p (Some later.1)) in
    (later.0, ss ++ closed_section o ∷ [], within_promisee later.2 no_attribute (section_done limit ss o rest))
section_alive limit ss s (wants_attribute o) rest =
    let n = with_promise s (with_attributes o []) in
    (token Semicolon [] somewhere ∷ rest, ss ++ closed_section n ∷ [], before_attribute no_attribute (section_done limit ss n rest))
section_alive limit ss s (has_name o x p) rest =
    let n = with_promise s (with_attribute o x p (word [] somewhere)) in
    (token FatArrow [] somewhere ∷ token Word [] somewhere ∷ token Semicolon [] somewhere ∷ rest, ss ++ closed_section n ∷ [], behind_name (an_item a_word) semicolon_next (section_done limit ss n rest))
section_alive limit ss s (in_value o x p w) rest =
    let later = value_alive limit w (token Semicolon [] somewhere ∷ rest) in
    let n = with_promise s (with_attribute o x p later.1) in
    (later.0, ss ++ closed_section n ∷ [], within_value later.2 semicolon_next (section_done limit ss n rest))

pub bundle_alive : (limit : Levels) (ss : List SectionTree) (state : BundleState) (rest : List Token) → (us : List Token) × (all : List SectionTree) × BundleRest limit ss state us all rest
bundle_alive limit ss no_section_yet rest = (rest, ss, no_section_done limit ss rest)
bundle_alive limit ss (has_section_word x p) rest = (token Colon [] somewhere ∷ rest, ss ++ record { kind = x; promises = []; place = p } ∷ [], behind_section_word no_promise no_section)
bundle_alive limit ss (in_section s state) rest = section_alive limit ss s state rest

pub bundle_starts : {limit : Levels} {us rest : List Token} {all : List SectionTree} → BundleRest limit [] no_section_yet us all rest → Sections limit us all rest
bundle_starts (before_sections sections) = sections

-- Bodies.

pub data BodyRest : Levels → List AttributeTree → BodyState → List Token → List AttributeTree → List Token → Type 0 where
  before_attributes : {limit : Levels} {attrs more : List AttributeTree} {us rest : List Token} → BodyAttributes limit us more rest → BodyRest limit attrs between_attributes us (attrs ++ more) rest
  behind_body_name : {limit : Levels} {attrs more : List AttributeTree} {x y z : List ℕ} {p q r : Place} {v : ValueTree} {us vs rest : List Token} →
      Value limit us v (token Semicolon z r ∷ vs) → BodyAttributes limit vs more rest →
      BodyRest limit attrs (has_body_name x p) (token FatArrow y q ∷ us) (attrs ++ record { name = x; value = v; place = p } ∷ more) rest
  within_body_value : {limit : Levels} {attrs more : List AttributeTree} {x z : List ℕ} {p r : Place} {w : ValueState} {v : ValueTree} {us vs rest : List Token} →
      ValueRest limit w us v (token Semicolon z r ∷ vs) → BodyAttributes limit vs more rest →
      BodyRest limit attrs (in_body_value x p w) us (attrs ++ record { name = x; value = v; place = p } ∷ more) rest

abbrev pub BodyEarlier : Levels → List AttributeTree → BodyState → Token → Option BodyProgress → Type 0
BodyEarlier limit attrs state t None = Unit {0}
BodyEarlier limit attrs state t (Some (body_goes_on next to)) = (us rest : List Token) (all : List AttributeTree) → BodyRest limit next to us all rest → BodyRest limit attrs state (t ∷ us) all rest
BodyEarlier limit attrs state t (Some (body_ended all)) = IsCloseBrace t × ((rest : List Token) → BodyRest limit attrs state rest all rest)

body_done : (limit : Levels) (attrs : List AttributeTree) (rest : List Token) → BodyRest limit attrs between_attributes rest attrs rest
body_done limit attrs rest = subst (λ z. BodyRest limit attrs between_attributes rest z rest) (append-nil attrs) (before_attributes no_more)

body_name_first : {limit : Levels} {attrs all : List AttributeTree} {x : List ℕ} {p : Place} {us rest : List Token} →
    BodyRest limit attrs (has_body_name x p) us all rest → BodyRest limit attrs between_attributes (token Word x p ∷ us) all rest
body_name_first (behind_body_name v more) = before_attributes (one_more (attribute v) more)

body_value_first : {limit : Levels} {attrs all : List AttributeTree} {y : List ℕ} {q : Place} {us rest : List Token} (x : List ℕ) (p : Place) →
    BodyRest limit attrs (in_body_value y q value_start) us all rest → BodyRest limit attrs (has_body_name y q) (token FatArrow x p ∷ us) all rest
body_value_first {limit = limit} x p (within_body_value v more) = behind_body_name (value_starts limit v) more

in_body_value_earlier : {limit : Levels} {attrs : List AttributeTree} {y : List ℕ} {q : Place} {w next : ValueState} {t : Token} →
    ((us rest : List Token) (tree : ValueTree) → ValueRest limit next us tree rest → ValueRest limit w (t ∷ us) tree rest) →
    (us rest : List Token) (all : List AttributeTree) → BodyRest limit attrs (in_body_value y q next) us all rest → BodyRest limit attrs (in_body_value y q w) (t ∷ us) all rest
in_body_value_earlier h us rest all (within_body_value {z = z} {r = r} {v = v} {vs = vs} value more) = within_body_value (h us (token Semicolon z r ∷ vs) v value) more

body_semicolon : {limit : Levels} {attrs all : List AttributeTree} {y : List ℕ} {q : Place} {w : ValueState} {v : ValueTree} {us rest : List Token} (x : List ℕ) (p : Place) → ((rest : List Token) → ValueRest limit w rest v rest) →
    BodyRest limit (attrs ++ record { name = y; value = v; place = q } ∷ []) between_attributes us all rest → BodyRest limit attrs (in_body_value y q w) (token Semicolon x p ∷ us) all rest
body_semicolon {limit = limit} {attrs = attrs} {y = y} {q = q} {w = w} {v = v} {us = us} {rest = rest} x p h (before_attributes {more = more} attributes) =
    subst (λ z. BodyRest limit attrs (in_body_value y q w) (token Semicolon x p ∷ us) z rest) (sym (append_one attrs (record { name = y; value = v; place = q }) more))
    (within_body_value (h (token Semicolon x p ∷ us)) attributes)

body_value_earlier : (limit : Levels) (attrs : List AttributeTree) (y : List ℕ) (q : Place) (w : ValueState) (k : Kind) (x : List ℕ) (p : Place) (o : Option ValueProgress) →
    ValueEarlier limit w (token k x p) o → BodyEarlier limit attrs (in_body_value y q w) (token k x p) (body_value_next attrs y q o k)
body_value_earlier limit attrs y q w k x p None h = tt
body_value_earlier limit attrs y q w k x p (Some (value_goes_on next)) h = in_body_value_earlier h
body_value_earlier limit attrs y q w Semicolon x p (Some (value_ended v)) h = λ us rest all r. body_semicolon x p h r
body_value_earlier limit attrs y q w _ x p (Some (value_ended v)) h = tt

pub body_earlier : (limit : Levels) (attrs : List AttributeTree) (state : BodyState) (k : Kind) (x : List ℕ) (p : Place) → BodyEarlier limit attrs state (token k x p) (body_step limit attrs state k x p)
body_earlier limit attrs between_attributes Word x p = λ us rest all r. body_name_first r
body_earlier limit attrs between_attributes CloseBrace x p = (close_brace, body_done limit attrs)
body_earlier limit attrs between_attributes _ x p = tt
body_earlier limit attrs (has_body_name y q) FatArrow x p = λ us rest all r. body_value_first x p r
body_earlier limit attrs (has_body_name y q) _ x p = tt
body_earlier limit attrs (in_body_value y q w) k x p = body_value_earlier limit attrs y q w k x p (value_step limit w k x p) (value_earlier limit w k x p)

pub body_alive : (limit : Levels) (attrs : List AttributeTree) (state : BodyState) (rest : List Token) → (us : List Token) × (all : List AttributeTree) × BodyRest limit attrs state us all rest
body_alive limit attrs between_attributes rest = (rest, attrs, body_done limit attrs rest)
body_alive limit attrs (has_body_name x p) rest =
    (token FatArrow [] somewhere ∷ token Word [] somewhere ∷ token Semicolon [] somewhere ∷ rest, attrs ++ record { name = x; value = word [] somewhere; place = p } ∷ [], behind_body_name (an_item a_word) no_more)
body_alive limit attrs (in_body_value x p w) rest =
    let later = value_alive limit w (token Semicolon [] somewhere ∷ rest) in
    (later.0, attrs ++ record { name = x; value = later.1; place = p } ∷ [], within_body_value later.2 no_more)

pub body_starts : {limit : Levels} {us rest : List Token} {all : List AttributeTree} → BodyRest limit [] between_attributes us all rest → BodyAttributes limit us all rest
body_starts (before_attributes attributes) = attributes
