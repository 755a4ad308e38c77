-- A text has one answer: a first token that stops the reading is the same whichever way it is found.
use Rattle.std.proofs.Common.{◌≡◌, List, [], ◌∷◌, ◌++◌, refl, ap, ◌∙◌, sym, subst, append-nil, append_assoc, inl, inr}
use Rattle.cfa_base.specs.declared.places.Place.{Place}
use Rattle.cfa_base.specs.Tokens.{Token}
use Rattle.cfa_tree.specs.Tree.{PolicyTree}
use Rattle.cfa_tree.specs.Grammar.{Levels, unlimited, depth_limit, ReadsWithin, BeginsWithin, Reads, Begins}
use Rattle.cfa_parser.specs.Laws.{Answer, tree, unexpected, too_deep, Answers}
use Rattle.cfa_parser.specs.Machine.{between_blocks, start, machine}
use Rattle.cfa_parser.specs.Reading.{UnexpectedToken, UnexpectedAt, TooDeepAt}
use Rattle.cfa_tree.specs.lemmas.Lists.{append_one}
use Rattle.cfa_parser.proofs.Limits.{run_beyond}
use Rattle.cfa_parser.proofs.PolicyRuns.{reads_run}
use Rattle.cfa_parser.proofs.Readings.{one_tree, whole_reads}

-- what reads within a limit, reads without one
beyond : (limit : Levels) (ts : List Token) (t : PolicyTree) → ReadsWithin limit ts t → Reads ts t
beyond limit ts t r = whole_reads unlimited ts (machine t between_blocks) t (run_beyond limit ts start (machine t between_blocks) (reads_run r)) refl

begins_beyond : (limit : Levels) (ts : List Token) → BeginsWithin limit ts → Begins ts
begins_beyond limit ts b = (b.0, b.1, beyond limit (ts ++ b.0) b.1 b.2)

-- what begins, begins with each of its fronts
begins_front : (limit : Levels) (before : List Token) (here : Token) (after : List Token) → BeginsWithin limit (before ++ here ∷ after) → BeginsWithin limit (before ++ here ∷ [])
begins_front limit before here after b =
    (after ++ b.0, b.1, subst (λ z. ReadsWithin limit z b.1) (append_assoc before (here ∷ after) b.0 ∙ sym (append_one before here (after ++ b.0))) b.2)

reads_begins : (limit : Levels) (ts : List Token) (t : PolicyTree) → ReadsWithin limit ts t → BeginsWithin limit ts
reads_begins limit ts t r = ([], t, subst (λ z. ReadsWithin limit z t) (sym (append-nil ts)) r)

-- the tokens up to one begin no policy within the limit
record Stop (ts before : List Token) (here : Token) (after : List Token) : Type 0 where
  all : ts ≡ before ++ here ∷ after
  begins : BeginsWithin depth_limit before
  ends : ¬ BeginsWithin depth_limit (before ++ here ∷ [])

-- nothing begins that holds a stop
stop_ends_all : (ts before : List Token) (here : Token) (after : List Token) → Stop ts before here after → ¬ BeginsWithin depth_limit ts
stop_ends_all ts before here after s = λ b. s.ends (begins_front depth_limit before here after (subst (λ z. BeginsWithin depth_limit z) s.all b))

-- two ways to part a list: at the same place, or one before the other
data Parted : List Token → Token → List Token → Token → Type 0 where
  same_place : {before : List Token} {here : Token} → Parted before here before here
  earlier : {before : List Token} {here other : Token} (between : List Token) → Parted before here (before ++ here ∷ between) other
  later : {before : List Token} {here other : Token} (between : List Token) → Parted (before ++ here ∷ between) other before here

parted_more : (t : Token) {a b : List Token} {x y : Token} → Parted a x b y → Parted (t ∷ a) x (t ∷ b) y
parted_more t same_place = same_place
parted_more t (earlier between) = earlier between
parted_more t (later between) = later between

head_of : List Token → Token → Token
head_of [] d = d
head_of (t ∷ ts) d = t

parted : (a : List Token) (x : Token) (xs b : List Token) (y : Token) (ys : List Token) → a ++ x ∷ xs ≡ b ++ y ∷ ys → Parted a x b y
parted [] x xs [] y ys e = let same : x ≡ y = cc in subst (λ (z : Token). Parted [] x [] z) same same_place
parted [] x xs (u ∷ b) y ys e = let same : x ≡ u = cc in subst (λ (z : Token). Parted [] x (z ∷ b) y) same (earlier b)
parted (t ∷ a) x xs [] y ys e = let same : y ≡ t = cc in subst (λ (z : Token). Parted (z ∷ a) x [] y) same (later a)
parted (t ∷ a) x xs (u ∷ b) y ys e =
    let same : t ≡ u = cc in
    let rest : a ++ x ∷ xs ≡ b ++ y ∷ ys = cc in
    subst (λ (z : Token). Parted (t ∷ a) x (z ∷ b) y) same (parted_more t (parted a x xs b y ys rest))

-- a stop is the first, so there is one
abbrev SameStop : List Token → Token → List Token → Token → Type 0
SameStop a x b y = (a ≡ b) × (x ≡ y)

one_stop : {a b : List Token} {x y : Token} → Parted a x b y → BeginsWithin depth_limit a → ¬ BeginsWithin depth_limit (a ++ x ∷ []) → BeginsWithin depth_limit b → ¬ BeginsWithin depth_limit (b ++ y ∷ []) → SameStop a x b y
one_stop same_place ba ea bb eb = (refl, refl)
one_stop (earlier {before = before} {here = here} between) ba ea bb eb = absurd (ea (begins_front depth_limit before here between bb))
one_stop (later {before = before} {here = here} between) ba ea bb eb = absurd (eb (begins_front depth_limit before here between ba))

stop_of_unexpected : (ts : List Token) (place : Place) → (u : UnexpectedToken ts place) → Stop ts u.at.before u.at.here u.at.after
stop_of_unexpected ts place u =
    record { all = u.at.all; begins = u.at.begins; ends = λ b. u.none_begins (begins_beyond depth_limit (u.at.before ++ u.at.here ∷ []) b) }

stop_of_too_deep : (ts : List Token) (place : Place) → (d : TooDeepAt ts place) → Stop ts d.at.before d.at.here d.at.after
stop_of_too_deep ts place d = record { all = d.at.all; begins = d.at.begins; ends = d.none_within }

same_stop : (ts a : List Token) (x : Token) (xs b : List Token) (y : Token) (ys : List Token) → Stop ts a x xs → Stop ts b y ys → SameStop a x b y
same_stop ts a x xs b y ys s t = one_stop (parted a x xs b y ys (sym s.all ∙ t.all)) s.begins s.ends t.begins t.ends

unexpected_unread : (ts : List Token) (end place : Place) (t : PolicyTree) → UnexpectedAt ts end place → ¬ ReadsWithin depth_limit ts t
unexpected_unread ts end place t (inl u) = λ r. stop_ends_all ts u.at.before u.at.here u.at.after (stop_of_unexpected ts place u) (reads_begins depth_limit ts t r)
unexpected_unread ts end place t (inr e) = λ r. e.none_reads t (beyond depth_limit ts t r)

too_deep_unread : (ts : List Token) (place : Place) (t : PolicyTree) → TooDeepAt ts place → ¬ ReadsWithin depth_limit ts t
too_deep_unread ts place t d = λ r. stop_ends_all ts d.at.before d.at.here d.at.after (stop_of_too_deep ts place d) (reads_begins depth_limit ts t r)

both_unexpected : (ts : List Token) (end p q : Place) → UnexpectedAt ts end p → UnexpectedAt ts end q → p ≡ q
both_unexpected ts end p q (inl u) (inl v) =
    let s = same_stop ts u.at.before u.at.here u.at.after v.at.before v.at.here v.at.after (stop_of_unexpected ts p u) (stop_of_unexpected ts q v) in
    u.at.placed ∙ (ap (λ (t : Token). t.place) s.1 ∙ sym v.at.placed)
both_unexpected ts end p q (inl u) (inr f) = absurd (stop_ends_all ts u.at.before u.at.here u.at.after (stop_of_unexpected ts p u) f.begins)
both_unexpected ts end p q (inr e) (inl v) = absurd (stop_ends_all ts v.at.before v.at.here v.at.after (stop_of_unexpected ts q v) e.begins)
both_unexpected ts end p q (inr e) (inr f) = e.placed ∙ sym f.placed

both_too_deep : (ts : List Token) (p q : Place) → TooDeepAt ts p → TooDeepAt ts q → p ≡ q
both_too_deep ts p q d e =
    let s = same_stop ts d.at.before d.at.here d.at.after e.at.before e.at.here e.at.after (stop_of_too_deep ts p d) (stop_of_too_deep ts q e) in
    d.at.placed ∙ (ap (λ (t : Token). t.place) s.1 ∙ sym e.at.placed)

never_both : (ts : List Token) (end p q : Place) → UnexpectedAt ts end p → TooDeepAt ts q → ⊥
never_both ts end p q (inl u) d =
    let s = same_stop ts u.at.before u.at.here u.at.after d.at.before d.at.here d.at.after (stop_of_unexpected ts p u) (stop_of_too_deep ts q d) in
    u.none_begins (subst (λ (z : List Token). Begins (z ++ u.at.here ∷ [])) (sym s.0) (subst (λ (z : Token). Begins (d.at.before ++ z ∷ [])) (sym s.1) d.begins))
never_both ts end p q (inr e) d = stop_ends_all ts d.at.before d.at.here d.at.after (stop_of_too_deep ts q d) e.begins

pub one_answer : (ts : List Token) (end : Place) (a b : Answer) → Answers ts end a → Answers ts end b → a ≡ b
one_answer ts end (tree t) (tree u) r q = ap tree (one_tree depth_limit depth_limit ts t u r q)
one_answer ts end (tree t) (unexpected p) r q = absurd (unexpected_unread ts end p t q r)
one_answer ts end (tree t) (too_deep p) r q = absurd (too_deep_unread ts p t q r)
one_answer ts end (unexpected p) (tree t) q r = absurd (unexpected_unread ts end p t q r)
one_answer ts end (unexpected p) (unexpected q) a b = ap unexpected (both_unexpected ts end p q a b)
one_answer ts end (unexpected p) (too_deep q) a b = absurd (never_both ts end p q a b)
one_answer ts end (too_deep p) (tree t) q r = absurd (too_deep_unread ts p t q r)
one_answer ts end (too_deep p) (unexpected q) a b = absurd (never_both ts end q p b a)
one_answer ts end (too_deep p) (too_deep q) a b = ap too_deep (both_too_deep ts p q a b)
