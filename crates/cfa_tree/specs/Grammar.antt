-- The grammar of policies, as a relation with one case for each case of each of its lines. `Atom levels tokens tree rest`
-- says that an atom with this tree stands at the front of the tokens, and that rest is what stands after it; so do the
-- other lines. Each `!`, each `(` of a guard and each `(` of arguments opens a level, and `levels` says how many may
-- still be opened there.
use Rattle.std.specs.Prelude.{ℕ, suc, List, [], ◌∷◌, ◌++◌, Option, Some, None, codes}
use Rattle.cfa_base.specs.declared.places.Place.{Place}
use Rattle.cfa_base.specs.declared.tokens.Kind.{Kind}
use Rattle.cfa_base.specs.declared.tokens.Kind.TheVariants.{Word, Text, Ref, ListRef, FatArrow, ThinArrow, DoubleColon, Colon, Comma, Semicolon, OpenBrace, CloseBrace, OpenParen, CloseParen, Bang, Dot, And, Or}
use Rattle.cfa_base.specs.Tokens.{Token}
use Rattle.cfa_base.specs.Lexing.{content_of, name_of}
use Rattle.cfa_tree.specs.Tree.{ExprTree, class, negated, all_of, one_of, expr_trees, ValueTree, text, word, reference, list_reference, list, call, value_trees, AttributeTree, PromiseTree, SectionTree, NamedTree, BlockTree, bundle, body, PolicyTree}

-- a token of this kind, spelled so, at this place
abbrev pub token : Kind → List ℕ → Place → Token
token kind spelling place = record { kind = kind; text = spelling; place = place }

-- how many levels may still be opened: a number of them, or any
pub data Levels : Type 0 where
  at_most : ℕ → Levels
  unlimited : Levels

-- what is left within a level that is opened
pub data Opens : Levels → Levels → Type 0 where
  one_fewer : {n : ℕ} → Opens (at_most (suc n)) (at_most n)
  without_limit : Opens unlimited unlimited

-- the token between the atoms of a conj: `.` or `&`
pub data IsAnd : Kind → Type 0 where
  dot : IsAnd Dot
  ampersand : IsAnd And

-- one atom alone is itself
abbrev pub conj_of : List ExprTree → ExprTree
conj_of [] = all_of (expr_trees [])
conj_of (e ∷ []) = e
conj_of (e ∷ f ∷ es) = all_of (expr_trees (e ∷ f ∷ es))

-- one conj alone is itself
abbrev pub guard_of : List ExprTree → ExprTree
guard_of [] = one_of (expr_trees [])
guard_of (e ∷ []) = e
guard_of (e ∷ f ∷ es) = one_of (expr_trees (e ∷ f ∷ es))

mutual
  -- atom = "!" atom | "(" guard ")" | Word
  pub data Atom : Levels → List Token → ExprTree → List Token → Type 0 where
    not_atom : {levels inside : Levels} {x : List ℕ} {p : Place} {ts rest : List Token} {e : ExprTree} →
        Opens levels inside → Atom inside ts e rest → Atom levels (token Bang x p ∷ ts) (negated e) rest
    in_parentheses : {levels inside : Levels} {x y : List ℕ} {p q : Place} {ts rest : List Token} {e : ExprTree} →
        Opens levels inside → Guard inside ts e (token CloseParen y q ∷ rest) → Atom levels (token OpenParen x p ∷ ts) e rest
    class_name : {levels : Levels} {x : List ℕ} {p : Place} {rest : List Token} →
        Atom levels (token Word x p ∷ rest) (class x) rest

  -- { ( "." | "&" ) atom }
  pub data Atoms : Levels → List Token → List ExprTree → List Token → Type 0 where
    no_atom : {levels : Levels} {rest : List Token} → Atoms levels rest [] rest
    next_atom : {levels : Levels} {k : Kind} {x : List ℕ} {p : Place} {ts us rest : List Token} {e : ExprTree} {es : List ExprTree} →
        IsAnd k → Atom levels ts e us → Atoms levels us es rest → Atoms levels (token k x p ∷ ts) (e ∷ es) rest

  -- conj = atom { ( "." | "&" ) atom }
  pub data Conj : Levels → List Token → ExprTree → List Token → Type 0 where
    conj : {levels : Levels} {ts us rest : List Token} {e : ExprTree} {es : List ExprTree} →
        Atom levels ts e us → Atoms levels us es rest → Conj levels ts (conj_of (e ∷ es)) rest

  -- { ( "|" | "||" ) conj }
  pub data Conjs : Levels → List Token → List ExprTree → List Token → Type 0 where
    no_conj : {levels : Levels} {rest : List Token} → Conjs levels rest [] rest
    next_conj : {levels : Levels} {x : List ℕ} {p : Place} {ts us rest : List Token} {e : ExprTree} {es : List ExprTree} →
        Conj levels ts e us → Conjs levels us es rest → Conjs levels (token Or x p ∷ ts) (e ∷ es) rest

  -- guard = conj { ( "|" | "||" ) conj }
  pub data Guard : Levels → List Token → ExprTree → List Token → Type 0 where
    guard : {levels : Levels} {ts us rest : List Token} {e : ExprTree} {es : List ExprTree} →
        Conj levels ts e us → Conjs levels us es rest → Guard levels ts (guard_of (e ∷ es)) rest

mutual
  -- value = Text | Ref | ListRef | list | Word [ args ]
  pub data Value : Levels → List Token → ValueTree → List Token → Type 0 where
    a_list : {levels : Levels} {x : List ℕ} {p : Place} {ts rest : List Token} {vs : List ValueTree} →
        Items levels ts vs rest → Value levels (token OpenBrace x p ∷ ts) (list (value_trees vs) p) rest
    an_item : {levels : Levels} {ts rest : List Token} {v : ValueTree} → Item levels ts v rest → Value levels ts v rest

  -- item = Text | Ref | ListRef | Word [ args ]
  pub data Item : Levels → List Token → ValueTree → List Token → Type 0 where
    a_text : {levels : Levels} {x : List ℕ} {p : Place} {rest : List Token} →
        Item levels (token Text x p ∷ rest) (text (content_of x) p) rest
    a_reference : {levels : Levels} {x : List ℕ} {p : Place} {rest : List Token} →
        Item levels (token Ref x p ∷ rest) (reference (name_of x) p) rest
    a_list_reference : {levels : Levels} {x : List ℕ} {p : Place} {rest : List Token} →
        Item levels (token ListRef x p ∷ rest) (list_reference (name_of x) p) rest
    a_word : {levels : Levels} {x : List ℕ} {p : Place} {rest : List Token} →
        Item levels (token Word x p ∷ rest) (word x p) rest
    a_call : {levels : Levels} {x : List ℕ} {p : Place} {ts rest : List Token} {vs : List ValueTree} →
        Args levels ts vs rest → Item levels (token Word x p ∷ ts) (call x (value_trees vs) p) rest

  -- args = "(" [ value { "," value } ] ")"
  pub data Args : Levels → List Token → List ValueTree → List Token → Type 0 where
    no_args : {levels inside : Levels} {x y : List ℕ} {p q : Place} {rest : List Token} →
        Opens levels inside → Args levels (token OpenParen x p ∷ token CloseParen y q ∷ rest) [] rest
    some_args : {levels inside : Levels} {x : List ℕ} {p : Place} {ts us rest : List Token} {v : ValueTree} {vs : List ValueTree} →
        Opens levels inside → Value inside ts v us → MoreArgs inside us vs rest → Args levels (token OpenParen x p ∷ ts) (v ∷ vs) rest

  -- { "," value } ")"
  pub data MoreArgs : Levels → List Token → List ValueTree → List Token → Type 0 where
    args_end : {levels : Levels} {x : List ℕ} {p : Place} {rest : List Token} → MoreArgs levels (token CloseParen x p ∷ rest) [] rest
    next_arg : {levels : Levels} {x : List ℕ} {p : Place} {ts us rest : List Token} {v : ValueTree} {vs : List ValueTree} →
        Value levels ts v us → MoreArgs levels us vs rest → MoreArgs levels (token Comma x p ∷ ts) (v ∷ vs) rest

  -- list = "{" [ item { "," item } [ "," ] ] "}", behind its first brace
  pub data Items : Levels → List Token → List ValueTree → List Token → Type 0 where
    no_items : {levels : Levels} {x : List ℕ} {p : Place} {rest : List Token} → Items levels (token CloseBrace x p ∷ rest) [] rest
    some_items : {levels : Levels} {ts us rest : List Token} {v : ValueTree} {vs : List ValueTree} →
        Item levels ts v us → MoreItems levels us vs rest → Items levels ts (v ∷ vs) rest

  -- { "," item } [ "," ] "}"
  pub data MoreItems : Levels → List Token → List ValueTree → List Token → Type 0 where
    items_end : {levels : Levels} {x : List ℕ} {p : Place} {rest : List Token} → MoreItems levels (token CloseBrace x p ∷ rest) [] rest
    comma_end : {levels : Levels} {x y : List ℕ} {p q : Place} {rest : List Token} →
        MoreItems levels (token Comma x p ∷ token CloseBrace y q ∷ rest) [] rest
    next_item : {levels : Levels} {x : List ℕ} {p : Place} {ts us rest : List Token} {v : ValueTree} {vs : List ValueTree} →
        Item levels ts v us → MoreItems levels us vs rest → MoreItems levels (token Comma x p ∷ ts) (v ∷ vs) rest

-- attribute = Word "=>" value
pub data Attribute : Levels → List Token → AttributeTree → List Token → Type 0 where
  attribute : {levels : Levels} {x y : List ℕ} {p q : Place} {ts rest : List Token} {v : ValueTree} →
      Value levels ts v rest → Attribute levels (token Word x p ∷ token FatArrow y q ∷ ts) (record { name = x; value = v; place = p }) rest

-- [ attribute { "," attribute } [ "," ] ] ";"
pub data Attributes : Levels → List Token → List AttributeTree → List Token → Type 0 where
  no_attribute : {levels : Levels} {x : List ℕ} {p : Place} {rest : List Token} → Attributes levels (token Semicolon x p ∷ rest) [] rest
  last_attribute : {levels : Levels} {x : List ℕ} {p : Place} {ts rest : List Token} {a : AttributeTree} →
      Attribute levels ts a (token Semicolon x p ∷ rest) → Attributes levels ts (a ∷ []) rest
  next_attribute : {levels : Levels} {x : List ℕ} {p : Place} {ts us rest : List Token} {a : AttributeTree} {more : List AttributeTree} →
      Attribute levels ts a (token Comma x p ∷ us) → Attributes levels us more rest → Attributes levels ts (a ∷ more) rest

-- [ "->" value ]
pub data Promisee : Levels → List Token → Option ValueTree → List Token → Type 0 where
  no_promisee : {levels : Levels} {rest : List Token} → Promisee levels rest None rest
  a_promisee : {levels : Levels} {x : List ℕ} {p : Place} {ts rest : List Token} {v : ValueTree} →
      Value levels ts v rest → Promisee levels (token ThinArrow x p ∷ ts) (Some v) rest

-- { guard "::" | promise }, under the guard that holds there: it holds up to the next one or the end of the section
-- promise = Text [ "->" value ] [ attribute { "," attribute } [ "," ] ] ";"
pub data Promises : Levels → List Token → Option ExprTree → List PromiseTree → List Token → Type 0 where
  no_promise : {levels : Levels} {g : Option ExprTree} {rest : List Token} → Promises levels rest g [] rest
  new_guard : {levels : Levels} {x : List ℕ} {p : Place} {ts us rest : List Token} {g : Option ExprTree} {e : ExprTree} {more : List PromiseTree} →
      Guard levels ts e (token DoubleColon x p ∷ us) → Promises levels us (Some e) more rest → Promises levels ts g more rest
  a_promise : {levels : Levels} {x : List ℕ} {p : Place} {ts us vs rest : List Token} {g : Option ExprTree} {v : Option ValueTree}
      {attributes : List AttributeTree} {more : List PromiseTree} →
      Promisee levels ts v us → Attributes levels us attributes vs → Promises levels vs g more rest →
      Promises levels (token Text x p ∷ ts) g (record { guard = g; promiser = content_of x; promisee = v; attributes = attributes; place = p } ∷ more) rest

-- { section }
-- section = Word ":" { guard "::" | promise }
pub data Sections : Levels → List Token → List SectionTree → List Token → Type 0 where
  no_section : {levels : Levels} {rest : List Token} → Sections levels rest [] rest
  a_section : {levels : Levels} {x y : List ℕ} {p q : Place} {ts us rest : List Token} {promises : List PromiseTree} {more : List SectionTree} →
      Promises levels ts None promises us → Sections levels us more rest →
      Sections levels (token Word x p ∷ token Colon y q ∷ ts) (record { kind = x; promises = promises; place = p } ∷ more) rest

-- Word { "," Word } ")"
pub data Words : List Token → List NamedTree → List Token → Type 0 where
  last_word : {x y : List ℕ} {p q : Place} {rest : List Token} →
      Words (token Word x p ∷ token CloseParen y q ∷ rest) (record { name = x; place = p } ∷ []) rest
  next_word : {x y : List ℕ} {p q : Place} {ts rest : List Token} {more : List NamedTree} →
      Words ts more rest → Words (token Word x p ∷ token Comma y q ∷ ts) (record { name = x; place = p } ∷ more) rest

-- [ params ]
-- params = "(" [ Word { "," Word } ] ")"
pub data Params : List Token → List NamedTree → List Token → Type 0 where
  no_params : {rest : List Token} → Params rest [] rest
  empty_params : {x y : List ℕ} {p q : Place} {rest : List Token} → Params (token OpenParen x p ∷ token CloseParen y q ∷ rest) [] rest
  some_params : {x : List ℕ} {p : Place} {ts rest : List Token} {names : List NamedTree} →
      Words ts names rest → Params (token OpenParen x p ∷ ts) names rest

-- { attribute ";" }
pub data BodyAttributes : Levels → List Token → List AttributeTree → List Token → Type 0 where
  no_more : {levels : Levels} {rest : List Token} → BodyAttributes levels rest [] rest
  one_more : {levels : Levels} {x : List ℕ} {p : Place} {ts us rest : List Token} {a : AttributeTree} {more : List AttributeTree} →
      Attribute levels ts a (token Semicolon x p ∷ us) → BodyAttributes levels us more rest → BodyAttributes levels ts (a ∷ more) rest

-- policy = { bundle | body }
-- bundle = "bundle" Word Word [ params ] "{" { section } "}"
-- body = "body" Word Word [ params ] "{" { attribute ";" } "}"
pub data Policy : Levels → List Token → PolicyTree → Type 0 where
  no_block : {levels : Levels} → Policy levels [] []
  a_bundle : {levels : Levels} {x y o c : List ℕ} {p q r s t : Place} {ts us vs : List Token} {names : List NamedTree} {sections : List SectionTree} {more : List BlockTree} →
      Params ts names (token OpenBrace o s ∷ us) → Sections levels us sections (token CloseBrace c t ∷ vs) → Policy levels vs more →
      Policy levels (token Word (codes "bundle") p ∷ token Word x q ∷ token Word y r ∷ ts)
      (bundle (record { name = x; place = q }) (record { name = y; place = r }) names sections p ∷ more)
  a_body : {levels : Levels} {x y o c : List ℕ} {p q r s t : Place} {ts us vs : List Token} {names : List NamedTree} {attributes : List AttributeTree} {more : List BlockTree} →
      Params ts names (token OpenBrace o s ∷ us) → BodyAttributes levels us attributes (token CloseBrace c t ∷ vs) → Policy levels vs more →
      Policy levels (token Word (codes "body") p ∷ token Word x q ∷ token Word y r ∷ ts)
      (body (record { name = x; place = q }) (record { name = y; place = r }) names attributes p ∷ more)

-- the tokens are this policy, with no more levels open at once than these
abbrev pub ReadsWithin : Levels → List Token → PolicyTree → Type 0
ReadsWithin levels tokens tree = Policy levels tokens tree

-- some further tokens make them a policy, with no more levels open at once than these
abbrev pub BeginsWithin : Levels → List Token → Type 0
BeginsWithin levels tokens = (further : List Token) × (tree : PolicyTree) × ReadsWithin levels (tokens ++ further) tree

-- the levels that a policy may open at once
abbrev pub depth_limit : Levels
depth_limit = at_most 16

-- the tokens are this policy, however deep
abbrev pub Reads : List Token → PolicyTree → Type 0
Reads = ReadsWithin unlimited

-- some further tokens make them a policy, however deep
abbrev pub Begins : List Token → Type 0
Begins = BeginsWithin unlimited
