-- What the grammar reads as a policy, the machine reads as that policy.
use Rattle.std.proofs.Common.{◌≡◌, ℕ, List, [], ◌∷◌, ◌++◌, Option, Some, None, refl, ap, ◌∙◌, sym, append-nil}
use Rattle.cfa_base.specs.declared.places.Place.{Place}
use Rattle.cfa_base.specs.declared.tokens.Kind.TheVariants.{Word, FatArrow, DoubleColon, Comma, Semicolon, OpenBrace, CloseBrace, CloseParen}
use Rattle.cfa_base.specs.Tokens.{Token}
use Rattle.cfa_base.specs.Lexing.{content_of}
use Rattle.cfa_tree.specs.Tree.{ExprTree, ValueTree, AttributeTree, PromiseTree, SectionTree, NamedTree, BlockTree, PolicyTree}
use Rattle.cfa_tree.specs.Grammar.{token, Levels, dot, ampersand, not_atom, in_parentheses, class_name, Atoms, no_atom, next_atom, conj, Conjs, no_conj, next_conj, Guard, guard, Attribute, attribute, Attributes, no_attribute, last_attribute, next_attribute, Promisee, no_promisee, a_promisee, Promises, no_promise, new_guard, a_promise, Sections, no_section, a_section, Words, last_word, next_word, Params, no_params, empty_params, some_params, BodyAttributes, no_more, one_more, Policy, no_block, a_bundle, a_body, ReadsWithin}
use Rattle.cfa_tree.specs.Guards.{guard_start}
use Rattle.cfa_parser.specs.Values.{ValueState, ended, value_step}
use Rattle.cfa_parser.specs.Machine.{OpenSection, OpenPromise, SectionState, between_promises, has_word, in_guard, has_promiser, in_promisee, wants_attribute, in_value, no_section as no_section_yet, in_section, between_attributes, in_body_value, Heading, State, between_blocks, has_block_name, has_param, wants_first_param, wants_param, in_bundle, in_body, Machine, start, BlockWord, bundle_word, body_word, guard_next, with_guard, new_promise, with_attribute, with_promise, closed_section, guard_word, within, promisee_next, value_next, body_value_next, machine, named, with_param, new_heading, block_opened, closed_bundle, closed_body, bundle_next, body_next, step, run}
use Rattle.cfa_tree.specs.lemmas.Lists.{append_one}
use Rattle.cfa_tree.specs.lemmas.Levels.{left_of-none}
use Rattle.cfa_tree.specs.lemmas.GuardRuns.{guard_run}
use Rattle.cfa_parser.proofs.Openings.{with_attributes, with_params}
use Rattle.cfa_parser.proofs.ValueRuns.{Behind, taken, word_behind, value_run}

-- a token other than an open parenthesis ends a whole value
ended_by_word : {v : ValueTree} {s : ValueState} (limit : Levels) (x : List ℕ) (p : Place) → Behind v None [] s → value_step limit s Word x p ≡ Some (ended v)
ended_by_word limit x p taken = refl
ended_by_word limit x p word_behind = refl

ended_by_comma : {v : ValueTree} {s : ValueState} (limit : Levels) (x : List ℕ) (p : Place) → Behind v None [] s → value_step limit s Comma x p ≡ Some (ended v)
ended_by_comma limit x p taken = refl
ended_by_comma limit x p word_behind = refl

ended_by_semicolon : {v : ValueTree} {s : ValueState} (limit : Levels) (x : List ℕ) (p : Place) → Behind v None [] s → value_step limit s Semicolon x p ≡ Some (ended v)
ended_by_semicolon limit x p taken = refl
ended_by_semicolon limit x p word_behind = refl

abbrev section : List ℕ → Place → List PromiseTree → Option ExprTree → OpenSection
section kind place promises g = record { kind = kind; place = place; promises = promises; guard = g }

abbrev at : PolicyTree → Heading → List SectionTree → OpenSection → SectionState → Machine
at blocks h ss s state = machine blocks (in_bundle h ss (in_section s state))

module _ (limit : Levels) (blocks : PolicyTree) (h : Heading) where
  -- a machine that takes a word or a semicolon as one that waits for an attribute does
  record Waits (m : Machine) (ss : List SectionTree) (s : OpenSection) (o : OpenPromise) : Type 0 where
    word : (x : List ℕ) (p : Place) → step limit m (token Word x p) ≡ step limit (at blocks h ss s (wants_attribute o)) (token Word x p)
    semicolon : (x : List ℕ) (p : Place) → step limit m (token Semicolon x p) ≡ step limit (at blocks h ss s (wants_attribute o)) (token Semicolon x p)

  -- an attribute, up to what stands behind its value
  attribute_run : {ts rest : List Token} {a : AttributeTree} → Attribute limit ts a rest → (m : Machine) (ss : List SectionTree) (s : OpenSection) (o : OpenPromise) → Waits m ss s o →
      (v : ValueState) × Behind a.value None [] v × (run limit (Some m) ts ≡ run limit (Some (at blocks h ss s (in_value o a.name a.place v))) rest)
  attribute_run (attribute {x = x} {y = y} {p = p} {q = q} {ts = ts} {v = v} value) m ss s o waits =
      let r = value_run limit (λ w. at blocks h ss s (in_value o x p w)) (λ w next k y q e. ap (λ z. bundle_next blocks h (within ss (value_next s o x p z k))) e) value [] (left_of-none limit) in
      (r.0, r.1, ap (λ z. run limit z (token FatArrow y q ∷ ts)) (waits.word x p) ∙ r.2)

  attributes_run : {ts rest : List Token} {attrs : List AttributeTree} → Attributes limit ts attrs rest → (m : Machine) (ss : List SectionTree) (s : OpenSection) (o : OpenPromise) → Waits m ss s o →
      run limit (Some m) ts ≡ run limit (Some (at blocks h ss (with_promise s (with_attributes o attrs)) between_promises)) rest
  attributes_run (no_attribute {x = x} {p = p} {rest = rest}) m ss s o waits =
      ap (λ z. run limit z rest) (waits.semicolon x p)
      ∙ ap (λ z. run limit (Some (at blocks h ss (with_promise s (record { promiser = o.promiser; place = o.place; promisee = o.promisee; attributes = z })) between_promises)) rest) (sym (append-nil o.attributes))
  attributes_run (last_attribute {x = x} {p = p} {rest = rest} {a = a} one) m ss s o waits =
      let r = attribute_run one m ss s o waits in
      r.2 ∙ ap (λ z. run limit (bundle_next blocks h (within ss (value_next s o a.name a.place z Semicolon))) rest) (ended_by_semicolon limit x p r.1)
  attributes_run (next_attribute {x = x} {p = p} {us = us} {rest = rest} {a = a} {more = more} one others) m ss s o waits =
      let r = attribute_run one m ss s o waits in
      let o' = with_attribute o a.name a.place a.value in
      let later = attributes_run others (at blocks h ss s (wants_attribute o')) ss s o' (record { word = λ x p. refl; semicolon = λ x p. refl }) in
      r.2 ∙ (ap (λ z. run limit (bundle_next blocks h (within ss (value_next s o a.name a.place z Comma))) us) (ended_by_comma limit x p r.1)
      ∙ (later
      ∙ ap (λ z. run limit (Some (at blocks h ss (with_promise s (record { promiser = o.promiser; place = o.place; promisee = o.promisee; attributes = z })) between_promises)) rest) (append_one o.attributes a more)))

  -- behind the first word of a guard the machine goes on as within a guard
  guard_word_follows : {ts us rest : List Token} {es fs : List ExprTree} {x : List ℕ} {p : Place} (y : List ℕ) (q : Place) → Atoms limit ts es us → Conjs limit us fs (token DoubleColon x p ∷ rest) →
      (ss : List SectionTree) (s : OpenSection) → run limit (Some (at blocks h ss s (has_word y q))) ts ≡ run limit (Some (at blocks h ss s (in_guard (guard_word y)))) ts
  guard_word_follows y q (next_atom dot a more) cs ss s = refl
  guard_word_follows y q (next_atom ampersand a more) cs ss s = refl
  guard_word_follows y q no_atom (next_conj c more) ss s = refl
  guard_word_follows y q no_atom no_conj ss s = refl

  guard_begins : {ts rest : List Token} {e : ExprTree} {x : List ℕ} {p : Place} → Guard limit ts e (token DoubleColon x p ∷ rest) →
      (ss : List SectionTree) (s : OpenSection) → run limit (Some (at blocks h ss s between_promises)) ts ≡ run limit (Some (at blocks h ss s (in_guard guard_start))) ts
  guard_begins (guard (conj (not_atom o a) more) cs) ss s = refl
  guard_begins (guard (conj (in_parentheses o g) more) cs) ss s = refl
  guard_begins (guard (conj (class_name {x = y} {p = q}) more) cs) ss s = guard_word_follows y q more cs ss s

  promisee_run : {ts rest : List Token} {v : Option ValueTree} → Promisee limit ts v rest → (ss : List SectionTree) (s : OpenSection) (x : List ℕ) (p : Place) →
      (m : Machine) × Waits m ss s (new_promise x p v) × (run limit (Some (at blocks h ss s (has_promiser x p))) ts ≡ run limit (Some m) rest)
  promisee_run no_promisee ss s x p = (at blocks h ss s (has_promiser x p), record { word = λ y q. refl; semicolon = λ y q. refl }, refl)
  promisee_run (a_promisee {v = v} value) ss s x p =
      let r = value_run limit (λ w. at blocks h ss s (in_promisee x p w)) (λ w next k y q e. ap (λ z. bundle_next blocks h (within ss (promisee_next s x p z k y q))) e) value [] (left_of-none limit) in (
        at blocks h ss s (in_promisee x p r.0),
        record {
          word = λ y q. ap (λ z. bundle_next blocks h (within ss (promisee_next s x p z Word y q))) (ended_by_word limit y q r.1);
          semicolon = λ y q. ap (λ z. bundle_next blocks h (within ss (promisee_next s x p z Semicolon y q))) (ended_by_semicolon limit y q r.1);
        },
        r.2,
      )

  promises_run : {ts rest : List Token} {g : Option ExprTree} {more : List PromiseTree} → Promises limit ts g more rest → (ss : List SectionTree) (kind : List ℕ) (place : Place) (promises : List PromiseTree) →
      (last : Option ExprTree) × (run limit (Some (at blocks h ss (section kind place promises g) between_promises)) ts ≡ run limit (Some (at blocks h ss (section kind place (promises ++ more) last) between_promises)) rest)
  promises_run (no_promise {g = g} {rest = rest}) ss kind place promises =
      (g, ap (λ z. run limit (Some (at blocks h ss (section kind place z g) between_promises)) rest) (sym (append-nil promises)))
  promises_run (new_guard {x = x} {p = p} {us = us} {g = g} {e = e} one others) ss kind place promises =
      let s = section kind place promises g in
      let r = guard_run limit (λ w us. run limit (Some (at blocks h ss s (in_guard w))) us) (λ w next k y q us e. ap (λ z. run limit (bundle_next blocks h (within ss (guard_next s z k))) us) e) one [] (left_of-none limit) in
      let later = promises_run others ss kind place promises in
      (later.0, guard_begins one ss s ∙ (r.3 ∙ (ap (λ z. run limit (Some (at blocks h ss (with_guard s z) between_promises)) us) r.2 ∙ later.1)))
  promises_run (a_promise {x = x} {p = p} {vs = vs} {rest = rest} {g = g} {v = v} {attributes = attrs} {more = more} promisee attributes others) ss kind place promises =
      let s = section kind place promises g in
      let o = new_promise (content_of x) p v in
      let r = promisee_run promisee ss s (content_of x) p in
      let whole : PromiseTree = record { guard = g; promiser = content_of x; promisee = v; attributes = attrs; place = p } in
      let later = promises_run others ss kind place (promises ++ whole ∷ []) in
      (later.0, r.2 ∙ (attributes_run attributes r.0 ss s o r.1 ∙ (later.1 ∙ ap (λ z. run limit (Some (at blocks h ss (section kind place z later.0) between_promises)) rest) (append_one promises whole more))))

  -- the sections behind one, up to the brace that closes the bundle
  sections_run : {ts rest : List Token} {more : List SectionTree} {x : List ℕ} {p : Place} → Sections limit ts more (token CloseBrace x p ∷ rest) → (ss : List SectionTree) (s : OpenSection) →
      run limit (Some (at blocks h ss s between_promises)) ts ≡ run limit (Some (machine (blocks ++ closed_bundle h (ss ++ closed_section s ∷ more) ∷ []) between_blocks)) rest
  sections_run no_section ss s = refl
  sections_run {rest = rest} (a_section {x = x} {p = p} {promises = promises} {more = more} ps others) ss s =
      let r = promises_run ps (ss ++ closed_section s ∷ []) x p [] in
      let later = sections_run others (ss ++ closed_section s ∷ []) (section x p promises r.0) in
      r.1 ∙ (later ∙ ap (λ z. run limit (Some (machine (blocks ++ closed_bundle h z ∷ []) between_blocks)) rest) (append_one ss (closed_section s) (record { kind = x; promises = promises; place = p } ∷ more)))

  bundle_run : {ts rest : List Token} {more : List SectionTree} {x : List ℕ} {p : Place} → Sections limit ts more (token CloseBrace x p ∷ rest) →
      run limit (Some (machine blocks (in_bundle h [] no_section_yet))) ts ≡ run limit (Some (machine (blocks ++ closed_bundle h more ∷ []) between_blocks)) rest
  bundle_run no_section = refl
  bundle_run (a_section {x = x} {p = p} {promises = promises} ps others) =
      let r = promises_run ps [] x p [] in
      r.1 ∙ sections_run others [] (section x p promises r.0)

  body_run : {ts rest : List Token} {more : List AttributeTree} {x : List ℕ} {p : Place} → BodyAttributes limit ts more (token CloseBrace x p ∷ rest) → (attrs : List AttributeTree) →
      run limit (Some (machine blocks (in_body h attrs between_attributes))) ts ≡ run limit (Some (machine (blocks ++ closed_body h (attrs ++ more) ∷ []) between_blocks)) rest
  body_run {rest = rest} no_more attrs = ap (λ z. run limit (Some (machine (blocks ++ closed_body h z ∷ []) between_blocks)) rest) (sym (append-nil attrs))
  body_run {rest = rest} (one_more {x = y} {p = q} {us = us} {more = more} (attribute {x = x} {p = p} {v = v} value) others) attrs =
      let a : AttributeTree = record { name = x; value = v; place = p } in
      let r = value_run limit (λ w. machine blocks (in_body h attrs (in_body_value x p w))) (λ w next k y q e. ap (λ z. body_next blocks h (body_value_next attrs x p z k)) e) value [] (left_of-none limit) in
      r.2 ∙ (ap (λ z. run limit (body_next blocks h (body_value_next attrs x p z Semicolon)) us) (ended_by_semicolon limit y q r.1)
      ∙ (body_run others (attrs ++ a ∷ []) ∙ ap (λ z. run limit (Some (machine (blocks ++ closed_body h z ∷ []) between_blocks)) rest) (append_one attrs a more)))

module _ (limit : Levels) (blocks : PolicyTree) where
  words_run : {ts rest : List Token} {names : List NamedTree} {x : List ℕ} {p : Place} → Words ts names (token OpenBrace x p ∷ rest) → (h : Heading) (state : State) →
      ((x : List ℕ) (p : Place) → step limit (machine blocks state) (token Word x p) ≡ Some (machine blocks (has_param (with_param h (named x p))))) →
      run limit (Some (machine blocks state)) ts ≡ run limit (Some (machine blocks (block_opened h.block (with_params h names)))) rest
  words_run {rest = rest} {x = x} {p = p} (last_word {x = y} {y = z} {p = q} {q = r}) h state waits =
      ap (λ m. run limit m (token CloseParen z r ∷ token OpenBrace x p ∷ rest)) (waits y q)
  words_run {rest = rest} (next_word {x = x} {y = y} {p = p} {q = q} {ts = ts} {more = more} others) h state waits =
      ap (λ m. run limit m (token Comma y q ∷ ts)) (waits x p)
      ∙ (words_run others (with_param h (named x p)) (wants_param (with_param h (named x p))) (λ x p. refl)
      ∙ ap (λ z. run limit (Some (machine blocks (block_opened h.block (record { block = h.block; place = h.place; kind = h.kind; name = h.name; params = z })))) rest) (append_one h.params (named x p) more))

  params_run : {ts rest : List Token} {names : List NamedTree} {x : List ℕ} {p : Place} → Params ts names (token OpenBrace x p ∷ rest) → (w : BlockWord) (q : Place) (kind name : NamedTree) →
      run limit (Some (machine blocks (has_block_name (new_heading w q kind name)))) ts ≡ run limit (Some (machine blocks (block_opened w (record { block = w; place = q; kind = kind; name = name; params = names })))) rest
  params_run no_params w q kind name = refl
  params_run empty_params w q kind name = refl
  params_run (some_params words) w q kind name = words_run words (new_heading w q kind name) (wants_first_param (new_heading w q kind name)) (λ x p. refl)

pub policy_run : {limit : Levels} {ts : List Token} {more : List BlockTree} → Policy limit ts more → (blocks : PolicyTree) →
    run limit (Some (machine blocks between_blocks)) ts ≡ Some (machine (blocks ++ more) between_blocks)
policy_run no_block blocks = ap (λ z. Some (machine z between_blocks)) (sym (append-nil blocks))
policy_run {limit} (a_bundle {x = x} {y = y} {p = p} {q = q} {r = r} {names = names} {sections = sections} {more = more} params inside others) blocks =
    let h : Heading = record { block = bundle_word; place = p; kind = named x q; name = named y r; params = names } in
    params_run limit blocks params h.block p (named x q) (named y r)
    ∙ (bundle_run limit blocks h inside
    ∙ (policy_run others (blocks ++ closed_bundle h sections ∷ []) ∙ ap (λ z. Some (machine z between_blocks)) (append_one blocks (closed_bundle h sections) more)))
policy_run {limit} (a_body {x = x} {y = y} {p = p} {q = q} {r = r} {names = names} {attributes = attrs} {more = more} params inside others) blocks =
    let h : Heading = record { block = body_word; place = p; kind = named x q; name = named y r; params = names } in
    params_run limit blocks params h.block p (named x q) (named y r)
    ∙ (body_run limit blocks h inside []
    ∙ (policy_run others (blocks ++ closed_body h attrs ∷ []) ∙ ap (λ z. Some (machine z between_blocks)) (append_one blocks (closed_body h attrs) more)))

pub reads_run : {limit : Levels} {ts : List Token} {tree : PolicyTree} → ReadsWithin limit ts tree → run limit (Some start) ts ≡ Some (machine tree between_blocks)
reads_run r = policy_run r []
