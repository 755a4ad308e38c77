-- Where the code stops, the reading stops.
use Rattle.std.proofs.Common.{◌≡◌, ℕ, ◌+◌, ◌<◌, List, [], ◌∷◌, ◌++◌, length, get_or, take, drop, map, Option, Some, None, IsSome, refl, ap, ◌∙◌, sym, subst, inr, add-one, drop-cons}
use Rattle.std.specs.Prelude.{IfOk, IsErrOf, option_map}
use Rattle.std.specs.Option.{ok_or}
use Rattle.std.proofs.lemmas.Bool.{false≢true}
use Rattle.std.proofs.lemmas.List.{take_more, take-append-drop, map-append}
use Rattle.cfa_base.specs.declared.places.Place.{Place}
use Rattle.cfa_base.specs.Tokens as tokens
use Rattle.cfa_lexer.specs.declared.tokens.Token.{Token}
use Rattle.cfa_lexer.specs.Lexed.{plain}
use Rattle.cfa_tree.specs.declared.blocks.Policy.{Policy}
use Rattle.cfa_tree.specs.Plain.{plain_policy}
use Rattle.cfa_tree.specs.Grammar.{unlimited, depth_limit, ReadsWithin}
use Rattle.cfa_parser.specs.declared.errors.ParseErr.{ParseErr}
use Rattle.cfa_parser.specs.declared.errors.ParseErr.TheVariants.{Unexpected, TooDeep, NoMemory}
use Rattle.cfa_parser.specs.Machine.{Machine, start, step, run, whole}
use Rattle.cfa_parser.specs.Seen.{Refused, StopsAtToken}
use Rattle.cfa_parser.specs.Reading.{UnexpectedAt}
use Rattle.cfa_parser.proofs.Limits.{run_beyond}
use Rattle.cfa_parser.proofs.Readings.{run_append, run_begins, stop_ends, whole_reads, unended}

-- the token at an index of the program's tokens, with what stands before and after it
parted : (ts : List Token) (i : ℕ) (d t : Token) → i < length ts → t ≡ get_or ts i d → map plain ts ≡ map plain (take i ts) ++ plain t ∷ map plain (drop (i + 1) ts)
parted ts i d t below is =
    let rest : drop i ts ≡ t ∷ drop (i + 1) ts = rw (add-one, drop-cons ts i d, ← is) refl in
    let whole : ts ≡ take i ts ++ t ∷ drop (i + 1) ts = sym (take-append-drop i ts) ∙ ap (λ z. take i ts ++ z) rest in
    ap (map plain) whole ∙ map-append plain (take i ts) (t ∷ drop (i + 1) ts)

pub turn : (ts : List Token) (i : ℕ) (d t : Token) (m next : Machine) → i < length ts → t ≡ get_or ts i d → run depth_limit (Some start) (map plain (take i ts)) ≡ Some m →
    step depth_limit m (plain t) ≡ Some next → run depth_limit (Some start) (map plain (take (i + 1) ts)) ≡ Some next
turn ts i d t m next below is so_far steps =
    let more : map plain (take (i + 1) ts) ≡ map plain (take i ts) ++ plain t ∷ [] =
    ap (map plain) (take_more ts i d below ∙ ap (λ z. take i ts ++ z ∷ []) (sym is)) ∙ map-append plain (take i ts) (t ∷ []) in
    ap (run depth_limit (Some start)) more
    ∙ (run_append depth_limit (Some start) (map plain (take i ts)) (plain t ∷ [])
    ∙ (ap (λ z. run depth_limit z (plain t ∷ [])) so_far ∙ ap (λ z. run depth_limit z []) steps))

some_of : {A : Type 0} (o : Option A) → IsSome o → (a : A) × (o ≡ Some a)
some_of None h = absurd (false≢true h)
some_of (Some a) h = (a, refl)

pub stops : (ts : List Token) (i : ℕ) (d t : Token) (m : Machine) (e : ParseErr) → i < length ts → t ≡ get_or ts i d → run depth_limit (Some start) (map plain (take i ts)) ≡ Some m →
    Refused t.place (step depth_limit m (plain t)) (step unlimited m (plain t)) e → StopsAtToken (map plain ts) e
stops ts i d t m NoMemory below is so_far r = tt
stops ts i d t m (Unexpected place) below is so_far r =
    let before = map plain (take i ts) in
    record {
      at = record { before = before; here = plain t; after = map plain (drop (i + 1) ts); all = parted ts i d t below is; placed = r.0; begins = run_begins depth_limit before m so_far };
      none_begins = stop_ends unlimited before (plain t) m (run_beyond depth_limit before start m so_far) r.2;
    }
stops ts i d t m (TooDeep place) below is so_far r =
    let before = map plain (take i ts) in
    let next = some_of (step unlimited m (plain t)) r.2 in
    let there : run unlimited (Some start) (before ++ plain t ∷ []) ≡ Some next.0 =
    run_append unlimited (Some start) before (plain t ∷ [])
    ∙ (ap (λ z. run unlimited z (plain t ∷ [])) (run_beyond depth_limit before start m so_far) ∙ ap (λ z. run unlimited z []) next.1) in
    record {
      at = record { before = before; here = plain t; after = map plain (drop (i + 1) ts); all = parted ts i d t below is; placed = r.0; begins = run_begins depth_limit before m so_far };
      begins = run_begins unlimited (before ++ plain t ∷ []) next.0 there;
      none_within = stop_ends depth_limit before (plain t) m so_far r.1;
    }

-- tokens that end within a block
pub ends_open : (ts : List tokens.Token) (end : Place) (m : Machine) → run depth_limit (Some start) ts ≡ Some m → whole m ≡ None → UnexpectedAt ts end end
ends_open ts end m is open_yet =
    inr (record { placed = refl; begins = run_begins depth_limit ts m is; none_reads = λ tree. unended unlimited ts m tree (run_beyond depth_limit ts start m is) open_yet })

pub read_ok : (ts : List tokens.Token) (m : Machine) (p : Option Policy) (e : ParseErr) → run depth_limit (Some start) ts ≡ Some m → option_map plain_policy p ≡ whole m →
    IfOk (ok_or p e) (λ policy. ReadsWithin depth_limit ts (plain_policy policy))
read_ok ts m None e is ends = tt
read_ok ts m (Some policy) e is ends = whole_reads depth_limit ts m (plain_policy policy) is (sym ends)

pub read_err : (ts : List tokens.Token) (m : Machine) (p : Option Policy) (end : Place) → run depth_limit (Some start) ts ≡ Some m → option_map plain_policy p ≡ whole m →
    (place : Place) → IsErrOf (ok_or p (Unexpected end)) (Unexpected place) → UnexpectedAt ts end place
read_err ts m None end is ends place h =
    let same : end ≡ place = cc in
    subst (λ (z : Place). UnexpectedAt ts end z) same (ends_open ts end m is (sym ends))
read_err ts m (Some policy) end is ends place h = absurd (cc)
