-- What is printed of a policy is read as that policy, places aside.
use Rattle.std.proofs.Common.{◌≡◌, refl, sym, ◌∙◌, ap, subst, ℕ, List, [], ◌∷◌, ◌++◌, map}
use Rattle.std.specs.Prelude.{IsTrue, codes}
use Rattle.std.specs.List.{flat_map}
use Rattle.std.proofs.lemmas.List.{append_assoc}
use Rattle.cfa_base.specs.declared.places.Place.{Place}
use Rattle.cfa_base.specs.declared.tokens.Kind.TheVariants.{Word, OpenBrace, CloseBrace}
use Rattle.cfa_base.specs.Tokens.{Token}
use Rattle.cfa_base.specs.Lexing.{is_word, place_past, place_after, first_place, ends}
use Rattle.cfa_base.specs.lemmas.Taking.{takes_word, takes_comma, takes_open_paren, takes_close_paren, takes_open_brace, takes_close_brace}
use Rattle.cfa_tree.specs.Grammar.{token, Levels, Words, last_word, next_word, Params, no_params, some_params, no_block, a_bundle, a_body, ReadsWithin}
use Rattle.cfa_tree.specs.Tree.{AttributeTree, SectionTree, NamedTree, bundle, body, PolicyTree}
use Rattle.cfa_tree.specs.Unplaced.{unplaced_attribute, unplaced_section, unplaced_named, unplaced}
use Rattle.cfa_printer.specs.Printing.{in_parentheses, printed_name, printed_params, printed_section, printed_body_attribute, printed}
use Rattle.cfa_printer.specs.Laws.{ReadsAs, PrintedReadsBack}
use Rattle.cfa_printer.proofs.PromisesAgain.{sections_again, body_attributes_again}
use Rattle.cfa_printer.proofs.Readable.{EachName, ReadablePolicy}
use Rattle.cfa_printer.proofs.ReadTrees.{spelled, from_policy}
use Rattle.cfa_printer.proofs.Standing.{Stands, Again, nothing, one_token, alone, begun, goes_on, ended, a_space, at_bytes, ends_word}
use Rattle.cfa_printer.proofs.ValuesAgain.{further}

-- Parameters.

abbrev NamesAgain : (List NamedTree → List Token → List Token → Type 0) → List NamedTree → Place → (bytes rest : List ℕ) → Type 0
NamesAgain Line names place bytes rest = Again (λ ns. map unplaced_named ns ≡ map unplaced_named names) Line place bytes rest

names_alike : (n m : NamedTree) (ns ms : List NamedTree) → n.name ≡ m.name → map unplaced_named ns ≡ map unplaced_named ms → map unplaced_named (n ∷ ns) ≡ map unplaced_named (m ∷ ms)
names_alike n m ns ms name more = cc

words_again : (n : NamedTree) (more : List NamedTree) → IsTrue (is_word n.name) → EachName more → (place : Place) (rest : List ℕ) →
    NamesAgain (λ ns us ts. Words us ns ts) (n ∷ more) place (n.name ++ (further (map printed_name more) ++ (41 ∷ rest))) rest
words_again n [] word words place rest =
    let tree : List NamedTree = record { name = n.name; place = place } ∷ [] in
    record {
      tree = tree;
      alike = refl;
      stands = begun (takes_word n.name (41 ∷ rest) word refl) (alone {Line = λ us ts. Words (token Word n.name place ∷ us) tree ts} (takes_close_paren rest) (λ ts. last_word)) (λ us ts h. h);
    }
words_again n (m ∷ more) word words place rest =
    let later = words_again m more words.0 words.1 (place_past (place_after (place_after place n.name) (44 ∷ [])) 32) rest in
    let again : NamedTree = record { name = n.name; place = place } in
    record {
      tree = again ∷ later.tree;
      alike = names_alike again n later.tree (m ∷ more) refl later.alike;
      stands = begun (takes_word n.name _ word refl)
          (begun {Line = λ us ts. Words (token Word n.name place ∷ us) (again ∷ later.tree) ts} (takes_comma _)
          (a_space refl (at_bytes (append_assoc m.name (further (map printed_name more)) (41 ∷ rest)) later.stands))
          (λ us ts h. next_word h))
          (λ us ts h. h);
    }

params_bytes : (first more rest : List ℕ) → in_parentheses (first ++ more) ++ rest ≡ 40 ∷ (first ++ (more ++ (41 ∷ rest)))
params_bytes first more rest = ap (λ x. 40 ∷ x) (append_assoc (first ++ more) (41 ∷ []) rest ∙ append_assoc first more (41 ∷ rest))

params_again : (names : List NamedTree) → EachName names → (place : Place) (rest : List ℕ) →
    NamesAgain (λ ns us ts. Params us ns ts) names place (printed_params names ++ rest) rest
params_again [] words place rest = record { tree = []; alike = refl; stands = nothing (λ ts. no_params) }
params_again (n ∷ more) words place rest =
    let all = words_again n more words.0 words.1 (place_after place (40 ∷ [])) rest in
    record {
      tree = all.tree;
      alike = all.alike;
      stands = at_bytes (params_bytes n.name (further (map printed_name more)) rest) (begun (takes_open_paren _) all.stands (λ us ts h. some_params h));
    }

params_end : (names : List NamedTree) (rest : List ℕ) → IsTrue (ends_word (printed_params names ++ (10 ∷ rest)))
params_end [] rest = refl
params_end (n ∷ more) rest = refl

-- Blocks.

-- the tokens of a block up to its first brace
abbrev HeadLine : (first kind name : List ℕ) (at kind_at name_at : Place) → List NamedTree → List Token → List Token → Type 0
HeadLine first kind name at kind_at name_at names us ts =
    (vs : List Token) × (brace : Place) × (us ≡ token Word first at ∷ token Word kind kind_at ∷ token Word name name_at ∷ vs) × Params vs names (token OpenBrace (123 ∷ []) brace ∷ ts)

head_again : (first kind name : List ℕ) (names : List NamedTree) → IsTrue (is_word first) → IsTrue (is_word kind) → IsTrue (is_word name) → EachName names → (place : Place) (rest : List ℕ) →
    let kind_at = place_past (place_after place first) 32 in
    let name_at = place_past (place_after kind_at kind) 32 in
    NamesAgain (HeadLine first kind name place kind_at name_at) names place
    (first ++ (32 ∷ (kind ++ (32 ∷ (name ++ (printed_params names ++ (10 ∷ 123 ∷ rest))))))) rest
head_again first kind name names word_first word_kind word_name words place rest =
    let kind_at : Place = place_past (place_after place first) 32 in
    let name_at : Place = place_past (place_after kind_at kind) 32 in
    let params = params_again names words (place_after name_at name) (10 ∷ 123 ∷ rest) in
    let brace : Place = place_past params.stands.behind 10 in
    record {
      tree = params.tree;
      alike = params.alike;
      stands = begun (takes_word first _ word_first refl) (a_space refl
          (begun {Line = λ us ts. HeadLine first kind name place kind_at name_at params.tree (token Word first place ∷ us) ts} (takes_word kind _ word_kind refl) (a_space refl
          (begun {Line = λ us ts. HeadLine first kind name place kind_at name_at params.tree (token Word first place ∷ token Word kind kind_at ∷ us) ts} (takes_word name _ word_name (params_end names (123 ∷ rest)))
          (ended {Line = λ us ts. Params us params.tree (token OpenBrace (123 ∷ []) brace ∷ ts)} params.stands (a_space refl (one_token (takes_open_brace rest))) (λ us ts h. h))
          (λ us ts h. (us, brace, refl, h))))
          (λ us ts h. h)))
          (λ us ts h. h);
    }

block_bytes : (first kind name params inside more : List ℕ) →
    ((first ++ (32 ∷ kind ++ (32 ∷ name ++ (params ++ codes "\n{\n")))) ++ (inside ++ codes "}\n")) ++ more
    ≡ first ++ (32 ∷ (kind ++ (32 ∷ (name ++ (params ++ (10 ∷ 123 ∷ 10 ∷ (inside ++ (125 ∷ 10 ∷ more))))))))
block_bytes first kind name params inside more =
    append_assoc _ (inside ++ codes "}\n") more
    ∙ (append_assoc first _ _ ∙ ap (λ x. first ++ (32 ∷ x))
    (append_assoc kind _ _ ∙ ap (λ x. kind ++ (32 ∷ x))
    (append_assoc name _ _ ∙ ap (λ x. name ++ x)
    (append_assoc params _ _ ∙ ap (λ x. params ++ (10 ∷ 123 ∷ 10 ∷ x))
    (append_assoc inside (codes "}\n") more)))))

-- a policy with nothing behind it
abbrev PolicyLine : Levels → PolicyTree → List Token → List Token → Type 0
PolicyLine levels tree us ts = ts ≡ [] → ReadsWithin levels us tree

no_block_left : (levels : Levels) (ts : List Token) → PolicyLine levels [] ts ts
no_block_left levels ts none = subst (λ (x : List Token). ReadsWithin levels x []) (sym none) no_block

bundle_alike : (k l n m : NamedTree) (ps qs : List NamedTree) (ss us : List SectionTree) (p q : Place) (more others : PolicyTree) →
    k.name ≡ l.name → n.name ≡ m.name → map unplaced_named ps ≡ map unplaced_named qs → map unplaced_section ss ≡ map unplaced_section us → unplaced more ≡ unplaced others →
    unplaced (bundle k n ps ss p ∷ more) ≡ unplaced (bundle l m qs us q ∷ others)
bundle_alike k l n m ps qs ss us p q more others kind name params sections same = cc

body_alike : (k l n m : NamedTree) (ps qs : List NamedTree) (bs cs : List AttributeTree) (p q : Place) (more others : PolicyTree) →
    k.name ≡ l.name → n.name ≡ m.name → map unplaced_named ps ≡ map unplaced_named qs → map unplaced_attribute bs ≡ map unplaced_attribute cs → unplaced more ≡ unplaced others →
    unplaced (body k n ps bs p ∷ more) ≡ unplaced (body l m qs cs q ∷ others)
body_alike k l n m ps qs bs cs p q more others kind name params attributes same = cc

-- a block by its head, what is in it, and the policy behind it
block_stands : {Head Inside : List Token → List Token → Type 0} {More Line : List Token → List Token → Type 0} {place : Place} {bytes inside more : List ℕ} →
    (head : Stands Head place bytes (10 ∷ inside)) → (within : Stands Inside (place_past head.behind 10) inside (125 ∷ 10 ∷ more)) →
    (later : Stands More (place_past (place_after within.behind (125 ∷ [])) 10) more []) →
    ((us vs ws xs : List Token) → Head us vs → Inside vs (token CloseBrace (125 ∷ []) within.behind ∷ ws) → More ws xs → Line us xs) → Stands Line place bytes []
block_stands {Head} {Inside} {More} head within later line =
    goes_on head
    (a_space refl (goes_on {Line = λ us ts. (ws : List Token) × Inside us (token CloseBrace (125 ∷ []) within.behind ∷ ws) × More ws ts} within
    (begun {Line = λ us ts. (ws : List Token) × (us ≡ token CloseBrace (125 ∷ []) within.behind ∷ ws) × More ws ts} (takes_close_brace _) (a_space refl later) (λ us ts h. (us, refl, h)))
    (λ us ts vs h k. (k.0, subst (λ (x : List Token). Inside us x) k.1 h, k.2))))
    (λ us ts vs h k. line us ts k.0 vs h k.1 k.2)

policy_again : (levels : Levels) (tree : PolicyTree) → ReadablePolicy levels tree → (place : Place) →
    Again (λ t. unplaced t ≡ unplaced tree) (PolicyLine levels) place (printed tree) []
policy_again levels [] r place = record { tree = []; alike = refl; stands = nothing (no_block_left levels) }
policy_again levels (bundle kind name params sections p ∷ more) r place =
    let inside : List ℕ = flat_map printed_section sections in
    let head = head_again (codes "bundle") kind.name name.name params refl r.0.0 r.0.1 r.0.2 place (10 ∷ (inside ++ (125 ∷ 10 ∷ printed more))) in
    let within = sections_again levels sections r.0.3 (place_past head.stands.behind 10) (125 ∷ 10 ∷ printed more) in
    let later = policy_again levels more r.1 (place_past (place_after within.stands.behind (125 ∷ [])) 10) in
    let kind_at : Place = place_past (place_after place (codes "bundle")) 32 in
    let name_at : Place = place_past (place_after kind_at kind.name) 32 in
    let kind_again : NamedTree = record { name = kind.name; place = kind_at } in
    let name_again : NamedTree = record { name = name.name; place = name_at } in
    let tree : PolicyTree = bundle kind_again name_again head.tree within.tree place ∷ later.tree in
    record {
      tree = tree;
      alike = bundle_alike kind_again kind name_again name head.tree params within.tree sections place p later.tree more refl refl head.alike within.alike later.alike;
      stands = at_bytes (block_bytes (codes "bundle") kind.name name.name (printed_params params) inside (printed more))
          (block_stands {Line = PolicyLine levels tree} head.stands within.stands later.stands
          (λ us vs ws xs h i m none. subst (λ (x : List Token). ReadsWithin levels x tree) (sym h.2) (a_bundle h.3 i (m none))));
    }
policy_again levels (body kind name params attributes p ∷ more) r place =
    let inside : List ℕ = flat_map printed_body_attribute attributes in
    let head = head_again (codes "body") kind.name name.name params refl r.0.0 r.0.1 r.0.2 place (10 ∷ (inside ++ (125 ∷ 10 ∷ printed more))) in
    let within = body_attributes_again levels attributes r.0.3 (place_past head.stands.behind 10) (125 ∷ 10 ∷ printed more) in
    let later = policy_again levels more r.1 (place_past (place_after within.stands.behind (125 ∷ [])) 10) in
    let kind_at : Place = place_past (place_after place (codes "body")) 32 in
    let name_at : Place = place_past (place_after kind_at kind.name) 32 in
    let kind_again : NamedTree = record { name = kind.name; place = kind_at } in
    let name_again : NamedTree = record { name = name.name; place = name_at } in
    let tree : PolicyTree = body kind_again name_again head.tree within.tree place ∷ later.tree in
    record {
      tree = tree;
      alike = body_alike kind_again kind name_again name head.tree params within.tree attributes place p later.tree more refl refl head.alike within.alike later.alike;
      stands = at_bytes (block_bytes (codes "body") kind.name name.name (printed_params params) inside (printed more))
          (block_stands {Line = PolicyLine levels tree} head.stands within.stands later.stands
          (λ us vs ws xs h i m none. subst (λ (x : List Token). ReadsWithin levels x tree) (sym h.2) (a_body h.3 i (m none))));
    }

readable_reads_back : (levels : Levels) (tree : PolicyTree) → ReadablePolicy levels tree → (file : ℕ) → ReadsAs levels file (printed tree) tree
readable_reads_back levels tree r file =
    let again = policy_again levels tree r (first_place file) in
    let reads = again.stands.reads [] ends in
    (reads.0, again.tree, reads.1, reads.2 refl, again.alike)

pub printed_reads_back : PrintedReadsBack
printed_reads_back levels place source tokens tree lexes reads file = readable_reads_back levels tree (from_policy reads (spelled lexes)) file
