-- What is left of a policy at a state of the machine. It is kept one token earlier, and some tokens lead each state to an
-- end.
use Rattle.std.proofs.Common.{◌≡◌, ℕ, Bool, true, false, List, [], ◌∷◌, ◌++◌, Option, Some, None, if◌then◌else◌, codes, refl, sym, subst, append-nil}
use Rattle.std.specs.Str.{bytes_eq}
use Rattle.std.proofs.lemmas.Slice.Eq.{bytes_eq-Decides}
use Rattle.cfa_base.specs.declared.places.Place.{Place}
use Rattle.cfa_base.specs.declared.tokens.Kind.{Kind}
use Rattle.cfa_base.specs.declared.tokens.Kind.TheVariants.{Word, Comma, OpenBrace, CloseBrace, OpenParen, CloseParen}
use Rattle.cfa_base.specs.Tokens.{Token}
use Rattle.cfa_tree.specs.Tree.{AttributeTree, SectionTree, NamedTree, PolicyTree}
use Rattle.cfa_tree.specs.Grammar.{token, Levels, Sections, no_section, Words, last_word, next_word, Params, no_params, empty_params, some_params, BodyAttributes, no_more, Policy, no_block, a_bundle, a_body, ReadsWithin}
use Rattle.cfa_parser.specs.Machine.{BundleState, BodyState, no_section as no_section_yet, between_attributes, BlockWord, bundle_word, body_word, Heading, State, between_blocks, has_block_word, has_kind, has_block_name, wants_first_param, has_param, wants_param, has_params, in_bundle, in_body, Machine, start, BundleProgress, goes_on, ended, bundle_step, BodyProgress, body_goes_on, body_ended, body_step, block_word, block_begun, named, with_param, new_heading, block_opened, closed_bundle, closed_body, bundle_next, body_next, heading_step, within_blocks, state_step, step, run}
use Rattle.cfa_tree.specs.lemmas.GuardRest.{somewhere}
use Rattle.cfa_tree.specs.lemmas.Lists.{append_one}
use Rattle.cfa_parser.proofs.Openings.{with_params}
use Rattle.cfa_parser.proofs.BundleRest.{BundleRest, IsCloseBrace, close_brace, BundleEarlier, bundle_earlier, bundle_alive, bundle_starts, BodyRest, BodyEarlier, body_earlier, body_alive, body_starts}

-- the rest of a policy behind the brace of a block
pub data BlockRest : Levels → PolicyTree → BlockWord → Heading → List Token → PolicyTree → Type 0 where
  bundle_rest : {limit : Levels} {blocks more : PolicyTree} {h : Heading} {c : List ℕ} {t : Place} {sections : List SectionTree} {us vs : List Token} →
      Sections limit us sections (token CloseBrace c t ∷ vs) → Policy limit vs more → BlockRest limit blocks bundle_word h us (blocks ++ closed_bundle h sections ∷ more)
  body_rest : {limit : Levels} {blocks more : PolicyTree} {h : Heading} {c : List ℕ} {t : Place} {attrs : List AttributeTree} {us vs : List Token} →
      BodyAttributes limit us attrs (token CloseBrace c t ∷ vs) → Policy limit vs more → BlockRest limit blocks body_word h us (blocks ++ closed_body h attrs ∷ more)

-- the rest of the parameters behind one of them
pub data WordsRest : List Token → List NamedTree → List Token → Type 0 where
  paren_next : {x : List ℕ} {p : Place} {rest : List Token} → WordsRest (token CloseParen x p ∷ rest) [] rest
  comma_next : {x : List ℕ} {p : Place} {us rest : List Token} {names : List NamedTree} → Words us names rest → WordsRest (token Comma x p ∷ us) names rest

pub data Rest : Levels → PolicyTree → State → List Token → PolicyTree → Type 0 where
  before_block : {limit : Levels} {blocks more : PolicyTree} {us : List Token} → Policy limit us more → Rest limit blocks between_blocks us (blocks ++ more)
  behind_block_word : {limit : Levels} {blocks all : PolicyTree} {w : BlockWord} {q p r t : Place} {x y o : List ℕ} {names : List NamedTree} {ts us : List Token} →
      Params ts names (token OpenBrace o t ∷ us) → BlockRest limit blocks w (with_params (new_heading w q (named x p) (named y r)) names) us all →
      Rest limit blocks (has_block_word w q) (token Word x p ∷ token Word y r ∷ ts) all
  behind_kind : {limit : Levels} {blocks all : PolicyTree} {w : BlockWord} {q r t : Place} {y o : List ℕ} {kind : NamedTree} {names : List NamedTree} {ts us : List Token} →
      Params ts names (token OpenBrace o t ∷ us) → BlockRest limit blocks w (with_params (new_heading w q kind (named y r)) names) us all →
      Rest limit blocks (has_kind w q kind) (token Word y r ∷ ts) all
  behind_block_name : {limit : Levels} {blocks all : PolicyTree} {h : Heading} {t : Place} {o : List ℕ} {names : List NamedTree} {ts us : List Token} →
      Params ts names (token OpenBrace o t ∷ us) → BlockRest limit blocks h.block (with_params h names) us all → Rest limit blocks (has_block_name h) ts all
  before_first_param : {limit : Levels} {blocks all : PolicyTree} {h : Heading} {t : Place} {o : List ℕ} {names : List NamedTree} {ts us : List Token} →
      Words ts names (token OpenBrace o t ∷ us) → BlockRest limit blocks h.block (with_params h names) us all → Rest limit blocks (wants_first_param h) ts all
  before_no_param : {limit : Levels} {blocks all : PolicyTree} {h : Heading} {t r : Place} {o x : List ℕ} {us : List Token} →
      BlockRest limit blocks h.block h us all → Rest limit blocks (wants_first_param h) (token CloseParen x r ∷ token OpenBrace o t ∷ us) all
  before_param : {limit : Levels} {blocks all : PolicyTree} {h : Heading} {t : Place} {o : List ℕ} {names : List NamedTree} {ts us : List Token} →
      Words ts names (token OpenBrace o t ∷ us) → BlockRest limit blocks h.block (with_params h names) us all → Rest limit blocks (wants_param h) ts all
  behind_param : {limit : Levels} {blocks all : PolicyTree} {h : Heading} {t : Place} {o : List ℕ} {names : List NamedTree} {ts us : List Token} →
      WordsRest ts names (token OpenBrace o t ∷ us) → BlockRest limit blocks h.block (with_params h names) us all → Rest limit blocks (has_param h) ts all
  behind_params : {limit : Levels} {blocks all : PolicyTree} {h : Heading} {t : Place} {o : List ℕ} {us : List Token} →
      BlockRest limit blocks h.block h us all → Rest limit blocks (has_params h) (token OpenBrace o t ∷ us) all
  within_bundle : {limit : Levels} {blocks more : PolicyTree} {h : Heading} {ss sections : List SectionTree} {state : BundleState} {c : List ℕ} {t : Place} {us vs : List Token} →
      BundleRest limit ss state us sections (token CloseBrace c t ∷ vs) → Policy limit vs more → Rest limit blocks (in_bundle h ss state) us (blocks ++ closed_bundle h sections ∷ more)
  within_body : {limit : Levels} {blocks more : PolicyTree} {h : Heading} {attrs all : List AttributeTree} {state : BodyState} {c : List ℕ} {t : Place} {us vs : List Token} →
      BodyRest limit attrs state us all (token CloseBrace c t ∷ vs) → Policy limit vs more → Rest limit blocks (in_body h attrs state) us (blocks ++ closed_body h all ∷ more)

-- one token earlier
abbrev Earlier : Levels → PolicyTree → State → Token → Option Machine → Type 0
Earlier limit blocks state t None = Unit {0}
Earlier limit blocks state t (Some next) = (us : List Token) (all : PolicyTree) → Rest limit next.blocks next.state us all → Rest limit blocks state (t ∷ us) all

-- the words that begin a block
data WordIs : List ℕ → Option BlockWord → Type 0 where
  is_bundle : WordIs (codes "bundle") (Some bundle_word)
  is_body : WordIs (codes "body") (Some body_word)
  is_neither : {x : List ℕ} → WordIs x None

word_test : (x : List ℕ) (a b : Bool) → (a ≡ true → x ≡ codes "bundle") → (b ≡ true → x ≡ codes "body") → WordIs x (if a then Some bundle_word else if b then Some body_word else None)
word_test x true b f g = subst (λ z. WordIs z (Some bundle_word)) (sym (f refl)) is_bundle
word_test x false true f g = subst (λ z. WordIs z (Some body_word)) (sym (g refl)) is_body
word_test x false false f g = is_neither

word_is : (x : List ℕ) → WordIs x (block_word x)
word_is x = word_test x (bytes_eq x (codes "bundle")) (bytes_eq x (codes "body")) (bytes_eq-Decides x (codes "bundle")).0 (bytes_eq-Decides x (codes "body")).0

bundle_first : {limit : Levels} {blocks all : PolicyTree} {p : Place} {us : List Token} → Rest limit blocks (has_block_word bundle_word p) us all → Rest limit blocks between_blocks (token Word (codes "bundle") p ∷ us) all
bundle_first (behind_block_word params (bundle_rest sections others)) = before_block (a_bundle params sections others)

body_first : {limit : Levels} {blocks all : PolicyTree} {p : Place} {us : List Token} → Rest limit blocks (has_block_word body_word p) us all → Rest limit blocks between_blocks (token Word (codes "body") p ∷ us) all
body_first (behind_block_word params (body_rest attributes others)) = before_block (a_body params attributes others)

begun_earlier : (limit : Levels) (blocks : PolicyTree) (p : Place) {x : List ℕ} {w : Option BlockWord} → WordIs x w → Earlier limit blocks between_blocks (token Word x p) (block_begun blocks w p)
begun_earlier limit blocks p is_bundle = λ us all r. bundle_first r
begun_earlier limit blocks p is_body = λ us all r. body_first r
begun_earlier limit blocks p is_neither = tt

-- behind the brace
bundle_opened : {limit : Levels} {blocks all : PolicyTree} {h : Heading} {us : List Token} → Rest limit blocks (in_bundle h [] no_section_yet) us all → BlockRest limit blocks bundle_word h us all
bundle_opened (within_bundle r others) = bundle_rest (bundle_starts r) others

body_opened : {limit : Levels} {blocks all : PolicyTree} {h : Heading} {us : List Token} → Rest limit blocks (in_body h [] between_attributes) us all → BlockRest limit blocks body_word h us all
body_opened (within_body r others) = body_rest (body_starts r) others

opened_rest : {limit : Levels} {blocks all : PolicyTree} {us : List Token} (w : BlockWord) (h : Heading) → Rest limit blocks (block_opened w h) us all → BlockRest limit blocks w h us all
opened_rest bundle_word h r = bundle_opened r
opened_rest body_word h r = body_opened r

-- no parameters more
no_more_params : {limit : Levels} {blocks all : PolicyTree} {us : List Token} (h : Heading) → BlockRest limit blocks h.block h us all → BlockRest limit blocks h.block (with_params h []) us all
no_more_params {limit} {blocks} {all} {us} h r =
    subst (λ z. BlockRest limit blocks h.block (record { block = h.block; place = h.place; kind = h.kind; name = h.name; params = z }) us all) (sym (append-nil h.params)) r

kind_first : {limit : Levels} {blocks all : PolicyTree} {w : BlockWord} {q : Place} {us : List Token} (x : List ℕ) (p : Place) → Rest limit blocks (has_kind w q (named x p)) us all → Rest limit blocks (has_block_word w q) (token Word x p ∷ us) all
kind_first x p (behind_kind params r) = behind_block_word params r

name_first : {limit : Levels} {blocks all : PolicyTree} {w : BlockWord} {q : Place} {kind : NamedTree} {us : List Token} (x : List ℕ) (p : Place) →
    Rest limit blocks (has_block_name (new_heading w q kind (named x p))) us all → Rest limit blocks (has_kind w q kind) (token Word x p ∷ us) all
name_first x p (behind_block_name params r) = behind_kind params r

paren_first : {limit : Levels} {blocks all : PolicyTree} {h : Heading} {us : List Token} (x : List ℕ) (p : Place) →
    Rest limit blocks (wants_first_param h) us all → Rest limit blocks (has_block_name h) (token OpenParen x p ∷ us) all
paren_first x p (before_first_param words r) = behind_block_name (some_params words) r
paren_first {h = h} x p (before_no_param r) = behind_block_name empty_params (no_more_params h r)

-- a parameter before others
one_param : {limit : Levels} {blocks all : PolicyTree} {us : List Token} (h : Heading) (n : NamedTree) (names : List NamedTree) →
    BlockRest limit blocks h.block (with_params (with_param h n) names) us all → BlockRest limit blocks h.block (with_params h (n ∷ names)) us all
one_param {limit} {blocks} {all} {us} h n names r =
    subst (λ z. BlockRest limit blocks h.block (record { block = h.block; place = h.place; kind = h.kind; name = h.name; params = z }) us all) (append_one h.params n names) r

first_param : {limit : Levels} {blocks all : PolicyTree} {h : Heading} {us : List Token} (x : List ℕ) (p : Place) →
    Rest limit blocks (has_param (with_param h (named x p))) us all → Rest limit blocks (wants_first_param h) (token Word x p ∷ us) all
first_param {h = h} x p (behind_param paren_next r) = before_first_param last_word (one_param h (named x p) [] r)
first_param {h = h} x p (behind_param (comma_next {names = names} words) r) = before_first_param (next_word words) (one_param h (named x p) names r)

further_param : {limit : Levels} {blocks all : PolicyTree} {h : Heading} {us : List Token} (x : List ℕ) (p : Place) →
    Rest limit blocks (has_param (with_param h (named x p))) us all → Rest limit blocks (wants_param h) (token Word x p ∷ us) all
further_param {h = h} x p (behind_param paren_next r) = before_param last_word (one_param h (named x p) [] r)
further_param {h = h} x p (behind_param (comma_next {names = names} words) r) = before_param (next_word words) (one_param h (named x p) names r)

comma_first : {limit : Levels} {blocks all : PolicyTree} {h : Heading} {us : List Token} (x : List ℕ) (p : Place) →
    Rest limit blocks (wants_param h) us all → Rest limit blocks (has_param h) (token Comma x p ∷ us) all
comma_first x p (before_param words r) = behind_param (comma_next words) r

params_closed : {limit : Levels} {blocks all : PolicyTree} {h : Heading} {us : List Token} (x : List ℕ) (p : Place) →
    Rest limit blocks (has_params h) us all → Rest limit blocks (has_param h) (token CloseParen x p ∷ us) all
params_closed {h = h} x p (behind_params r) = behind_param paren_next (no_more_params h r)

no_params_closed : {limit : Levels} {blocks all : PolicyTree} {h : Heading} {us : List Token} (x : List ℕ) (p : Place) →
    Rest limit blocks (has_params h) us all → Rest limit blocks (wants_first_param h) (token CloseParen x p ∷ us) all
no_params_closed x p (behind_params r) = before_no_param r

-- one token earlier, within a heading
abbrev HeadingEarlier : Levels → PolicyTree → State → Token → Option State → Type 0
HeadingEarlier limit blocks state t None = Unit {0}
HeadingEarlier limit blocks state t (Some next) = (us : List Token) (all : PolicyTree) → Rest limit blocks next us all → Rest limit blocks state (t ∷ us) all

heading_earlier : (limit : Levels) (blocks : PolicyTree) (state : State) (k : Kind) (x : List ℕ) (p : Place) → HeadingEarlier limit blocks state (token k x p) (heading_step state k x p)
heading_earlier limit blocks (has_block_word w q) Word x p = λ us all r. kind_first x p r
heading_earlier limit blocks (has_kind w q kind) Word x p = λ us all r. name_first x p r
heading_earlier limit blocks (has_block_name h) OpenParen x p = λ us all r. paren_first x p r
heading_earlier limit blocks (has_block_name h) OpenBrace x p = λ us all r. behind_block_name no_params (no_more_params h (opened_rest h.block h r))
heading_earlier limit blocks (wants_first_param h) Word x p = λ us all r. first_param x p r
heading_earlier limit blocks (wants_first_param h) CloseParen x p = λ us all r. no_params_closed x p r
heading_earlier limit blocks (has_param h) Comma x p = λ us all r. comma_first x p r
heading_earlier limit blocks (has_param h) CloseParen x p = λ us all r. params_closed x p r
heading_earlier limit blocks (wants_param h) Word x p = λ us all r. further_param x p r
heading_earlier limit blocks (has_params h) OpenBrace x p = λ us all r. behind_params (opened_rest h.block h r)
heading_earlier limit blocks _ _ x p = tt

heading_within : (limit : Levels) (blocks : PolicyTree) (state : State) (t : Token) (o : Option State) → HeadingEarlier limit blocks state t o → Earlier limit blocks state t (within_blocks blocks o)
heading_within limit blocks state t None h = tt
heading_within limit blocks state t (Some next) h = h

bundle_further : {limit : Levels} {blocks : PolicyTree} {h : Heading} {ss next : List SectionTree} {state to : BundleState} {t : Token} →
    ((us rest : List Token) (all : List SectionTree) → BundleRest limit next to us all rest → BundleRest limit ss state (t ∷ us) all rest) →
    (us : List Token) (all : PolicyTree) → Rest limit blocks (in_bundle h next to) us all → Rest limit blocks (in_bundle h ss state) (t ∷ us) all
bundle_further f us all (within_bundle {sections = sections} {c = c} {t = t} {vs = vs} r others) = within_bundle (f us (token CloseBrace c t ∷ vs) sections r) others

bundle_closed : {limit : Levels} {blocks : PolicyTree} {h : Heading} {ss sections : List SectionTree} {state : BundleState} {t : Token} → IsCloseBrace t →
    ((rest : List Token) → BundleRest limit ss state rest sections rest) →
    (us : List Token) (all : PolicyTree) → Rest limit (blocks ++ closed_bundle h sections ∷ []) between_blocks us all → Rest limit blocks (in_bundle h ss state) (t ∷ us) all
bundle_closed {limit} {blocks} {h} {ss} {sections} {state} (close_brace {x = x} {p = p}) f us all (before_block {more = more} others) =
    subst (λ z. Rest limit blocks (in_bundle h ss state) (token CloseBrace x p ∷ us) z) (sym (append_one blocks (closed_bundle h sections) more)) (within_bundle (f (token CloseBrace x p ∷ us)) others)

bundle_next_earlier : (limit : Levels) (blocks : PolicyTree) (h : Heading) (ss : List SectionTree) (state : BundleState) (t : Token) (o : Option BundleProgress) →
    BundleEarlier limit ss state t o → Earlier limit blocks (in_bundle h ss state) t (bundle_next blocks h o)
bundle_next_earlier limit blocks h ss state t None f = tt
bundle_next_earlier limit blocks h ss state t (Some (goes_on next to)) f = bundle_further f
bundle_next_earlier limit blocks h ss state t (Some (ended sections)) f = bundle_closed f.0 f.1

body_further : {limit : Levels} {blocks : PolicyTree} {h : Heading} {attrs next : List AttributeTree} {state to : BodyState} {t : Token} →
    ((us rest : List Token) (all : List AttributeTree) → BodyRest limit next to us all rest → BodyRest limit attrs state (t ∷ us) all rest) →
    (us : List Token) (all : PolicyTree) → Rest limit blocks (in_body h next to) us all → Rest limit blocks (in_body h attrs state) (t ∷ us) all
body_further f us all (within_body {all = attributes} {c = c} {t = t} {vs = vs} r others) = within_body (f us (token CloseBrace c t ∷ vs) attributes r) others

body_closed : {limit : Levels} {blocks : PolicyTree} {h : Heading} {attrs attributes : List AttributeTree} {state : BodyState} {t : Token} → IsCloseBrace t →
    ((rest : List Token) → BodyRest limit attrs state rest attributes rest) →
    (us : List Token) (all : PolicyTree) → Rest limit (blocks ++ closed_body h attributes ∷ []) between_blocks us all → Rest limit blocks (in_body h attrs state) (t ∷ us) all
body_closed {limit} {blocks} {h} {attrs} {attributes} {state} (close_brace {x = x} {p = p}) f us all (before_block {more = more} others) =
    subst (λ z. Rest limit blocks (in_body h attrs state) (token CloseBrace x p ∷ us) z) (sym (append_one blocks (closed_body h attributes) more)) (within_body (f (token CloseBrace x p ∷ us)) others)

body_next_earlier : (limit : Levels) (blocks : PolicyTree) (h : Heading) (attrs : List AttributeTree) (state : BodyState) (t : Token) (o : Option BodyProgress) →
    BodyEarlier limit attrs state t o → Earlier limit blocks (in_body h attrs state) t (body_next blocks h o)
body_next_earlier limit blocks h attrs state t None f = tt
body_next_earlier limit blocks h attrs state t (Some (body_goes_on next to)) f = body_further f
body_next_earlier limit blocks h attrs state t (Some (body_ended attributes)) f = body_closed f.0 f.1

earlier : (limit : Levels) (blocks : PolicyTree) (state : State) (k : Kind) (x : List ℕ) (p : Place) → Earlier limit blocks state (token k x p) (state_step limit blocks state k x p)
earlier limit blocks between_blocks Word x p = begun_earlier limit blocks p (word_is x)
earlier limit blocks between_blocks _ x p = tt
earlier limit blocks (in_bundle h ss state) k x p = bundle_next_earlier limit blocks h ss state (token k x p) (bundle_step limit ss state k x p) (bundle_earlier limit ss state k x p)
earlier limit blocks (in_body h attrs state) k x p = body_next_earlier limit blocks h attrs state (token k x p) (body_step limit attrs state k x p) (body_earlier limit attrs state k x p)
earlier limit blocks state k x p = heading_within limit blocks state (token k x p) (heading_step state k x p) (heading_earlier limit blocks state k x p)

-- all tokens earlier
abbrev Leads : Levels → Machine → List Token → List Token → PolicyTree → Option Machine → Type 0
Leads limit m ts us all None = Unit {0}
Leads limit m ts us all (Some next) = Rest limit next.blocks next.state us all → Rest limit m.blocks m.state (ts ++ us) all

leads_on : (limit : Levels) (m : Machine) (t : Token) (ts us : List Token) (all : PolicyTree) (o : Option Machine) → Earlier limit m.blocks m.state t o →
    ((next : Machine) → Leads limit next ts us all (run limit (Some next) ts)) → Leads limit m (t ∷ ts) us all (run limit o ts)
leads_on limit m t [] us all None one later = tt
leads_on limit m t (u ∷ ts) us all None one later = tt
leads_on limit m t ts us all (Some next) one later = both (run limit (Some next) ts) (later next)
  where
    both : (o : Option Machine) → Leads limit next ts us all o → Leads limit m (t ∷ ts) us all o
    both None f = tt
    both (Some last) f = λ r. one (ts ++ us) all (f r)

leads : (limit : Levels) (ts : List Token) (m : Machine) (us : List Token) (all : PolicyTree) → Leads limit m ts us all (run limit (Some m) ts)
leads limit [] m us all = λ r. r
leads limit (t ∷ ts) m us all = leads_on limit m t ts us all (step limit m t) (earlier limit m.blocks m.state t.kind t.text t.place) (λ next. leads limit ts next us all)

led : (limit : Levels) (m last : Machine) (ts us : List Token) (all : PolicyTree) (o : Option Machine) → o ≡ Some last → Leads limit m ts us all o → Rest limit last.blocks last.state us all → Rest limit m.blocks m.state (ts ++ us) all
led limit m last ts us all o is f = subst (λ z. Leads limit m ts us all z) is f

policy_of_rest : {limit : Levels} {us : List Token} {all : PolicyTree} → Rest limit [] between_blocks us all → Policy limit us all
policy_of_rest (before_block r) = r

-- what is left at a state that these tokens lead to makes them a policy
pub rest_reads : (limit : Levels) (ts us : List Token) (m : Machine) (all : PolicyTree) → run limit (Some start) ts ≡ Some m → Rest limit m.blocks m.state us all → ReadsWithin limit (ts ++ us) all
rest_reads limit ts us m all is r = policy_of_rest (led limit start m ts us all (run limit (Some start) ts) is (leads limit ts start us all) r)

opened_alive : (limit : Levels) (blocks : PolicyTree) (w : BlockWord) (h : Heading) → (all : PolicyTree) × BlockRest limit blocks w h (token CloseBrace [] somewhere ∷ []) all
opened_alive limit blocks bundle_word h = (blocks ++ closed_bundle h [] ∷ [], bundle_rest no_section no_block)
opened_alive limit blocks body_word h = (blocks ++ closed_body h [] ∷ [], body_rest no_more no_block)

pub alive : (limit : Levels) (blocks : PolicyTree) (state : State) → (us : List Token) × (all : PolicyTree) × Rest limit blocks state us all
alive limit blocks between_blocks = ([], blocks ++ [], before_block no_block)
alive limit blocks (has_block_word w q) =
    let h = new_heading w q (named [] somewhere) (named [] somewhere) in
    let r = opened_alive limit blocks w h in
    (token Word [] somewhere ∷ token Word [] somewhere ∷ token OpenBrace [] somewhere ∷ token CloseBrace [] somewhere ∷ [], r.0, behind_block_word no_params r.1)
alive limit blocks (has_kind w q kind) =
    let h = new_heading w q kind (named [] somewhere) in
    let r = opened_alive limit blocks w h in
    (token Word [] somewhere ∷ token OpenBrace [] somewhere ∷ token CloseBrace [] somewhere ∷ [], r.0, behind_kind no_params r.1)
alive limit blocks (has_block_name h) =
    let r = opened_alive limit blocks h.block h in
    (token OpenBrace [] somewhere ∷ token CloseBrace [] somewhere ∷ [], r.0, behind_block_name no_params (no_more_params h r.1))
alive limit blocks (wants_first_param h) =
    let r = opened_alive limit blocks h.block h in
    (token CloseParen [] somewhere ∷ token OpenBrace [] somewhere ∷ token CloseBrace [] somewhere ∷ [], r.0, before_no_param r.1)
alive limit blocks (has_param h) =
    let r = opened_alive limit blocks h.block h in
    (token CloseParen [] somewhere ∷ token OpenBrace [] somewhere ∷ token CloseBrace [] somewhere ∷ [], r.0, behind_param paren_next (no_more_params h r.1))
alive limit blocks (wants_param h) =
    let r = opened_alive limit blocks h.block (with_params h (named [] somewhere ∷ [])) in
    (token Word [] somewhere ∷ token CloseParen [] somewhere ∷ token OpenBrace [] somewhere ∷ token CloseBrace [] somewhere ∷ [], r.0, before_param last_word r.1)
alive limit blocks (has_params h) =
    let r = opened_alive limit blocks h.block h in
    (token OpenBrace [] somewhere ∷ token CloseBrace [] somewhere ∷ [], r.0, behind_params r.1)
alive limit blocks (in_bundle h ss state) =
    let r = bundle_alive limit ss state (token CloseBrace [] somewhere ∷ []) in
    (r.0, blocks ++ closed_bundle h r.1 ∷ [], within_bundle r.2 no_block)
alive limit blocks (in_body h attrs state) =
    let r = body_alive limit attrs state (token CloseBrace [] somewhere ∷ []) in
    (r.0, blocks ++ closed_body h r.1 ∷ [], within_body r.2 no_block)
