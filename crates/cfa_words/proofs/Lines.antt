-- A line that the parser took gives what the definition says, and a line that it refused is refused.
use Rattle.std.proofs.Common.{◌≡◌, ◌∙◌, ◌⊎◌, ◌∷◌, [], List, ℕ, Bool, cond, Option, Some, None, true, false, refl, sym, ap, subst, codes, inl, inr}
use Rattle.std.specs.List.{list_all, slice_get}
use Rattle.std.specs.Option.{option_and_then}
use Rattle.std.specs.Str.{is_utf8}
use Rattle.clap.specs.Walk.{Text, rows_of}
use Rattle.clap.specs.Kinds.{Kinds, IsAmong}
use Rattle.clap.specs.Faults.{fault_of}
use Rattle.clap.specs.Simple.{matches_of}
use Rattle.clap.specs.Matches.{first_value, one_text}
use Rattle.clap.specs.Values.{bool_text}
use Rattle.clap.specs.declared.error.kind.ErrorKind.{ErrorKind}
use Rattle.clap.specs.declared.parser.matches.Found.{Found}
use Rattle.clap.proofs.WalkLemmas.{first_value-rows, one_text-rows}
use Rattle.cfa_words.specs.OfTheCode.{command_line, given_of, text_in, words_in}
use Rattle.cfa_words.specs.Words.{Given, Piece, any, classes, given, has_two, no_lock, nothing_given, pieces, plain, strict, unknown, whole, with_pieces}
use Rattle.cfa_words.specs.declared.words.Line.{Line}
use Rattle.cfa_words.proofs.Law.{Agrees, Shows, fits, mk}
use Rattle.cfa_words.proofs.Reading.{reading}

-- at most three words of their own are given
abbrev Fits : Option Given → Type 0
Fits None = Unit {0}
Fits (Some g) = fits g.words ≡ true

pieces_fit : (ps : List Piece) (ws : List Text) (n s : Bool) (c : Option Text) → fits ws ≡ true → Fits (with_pieces (mk ws n s c) ps)
pieces_fit [] ws n s c e = e
pieces_fit (plain w ∷ ps) [] n s c e = pieces_fit ps (w ∷ []) n s c refl
pieces_fit (plain w ∷ ps) (a ∷ []) n s c e = pieces_fit ps (a ∷ w ∷ []) n s c refl
pieces_fit (plain w ∷ ps) (a ∷ b ∷ []) n s c e = pieces_fit ps (a ∷ b ∷ w ∷ []) n s c refl
pieces_fit (plain w ∷ ps) (a ∷ b ∷ d ∷ more) n s c e = tt
pieces_fit (no_lock ∷ ps) ws true s c e = tt
pieces_fit (no_lock ∷ ps) ws false s c e = pieces_fit ps ws true s c e
pieces_fit (strict ∷ ps) ws n true c e = tt
pieces_fit (strict ∷ ps) ws n false c e = pieces_fit ps ws n true c e
pieces_fit (classes v ∷ ps) ws n s (Some t) e = tt
pieces_fit (classes v ∷ ps) ws n s None e = pieces_fit ps ws n s (Some v) e
pieces_fit (unknown ∷ ps) ws n s c e = tt

whole_fits : (o : Option Given) → Fits o → Fits (option_and_then whole o)
whole_fits None e = tt
whole_fits (Some g) e = go (has_two g.words)
  where
    go : (b : Bool) → Fits (cond b (Some g) None)
    go true = e
    go false = tt

given_fits : (words : List Text) → Fits (given words)
given_fits words = whole_fits (with_pieces nothing_given (pieces any words)) (pieces_fit (pieces any words) [] false false None refl)

-- at most three words are their first three
words_back : (ws : List Text) → fits ws ≡ true → words_in (slice_get ws 0 ∷ slice_get ws 1 ∷ slice_get ws 2 ∷ []) ≡ ws
words_back [] e = refl
words_back (a ∷ []) e = refl
words_back (a ∷ b ∷ []) e = refl
words_back (a ∷ b ∷ c ∷ []) e = refl
words_back (a ∷ b ∷ c ∷ d ∷ more) e = absurd (Rattle.std.proofs.Common.true≢false (sym e))

-- a line that reads the matches of these rows
pub record Reads (f : Found) (l : Line) : Type 0 where
  pub command : text_in l.command ≡ first_value f (codes "command")
  pub argument : text_in l.argument ≡ first_value f (codes "argument")
  pub extra : text_in l.extra ≡ first_value f (codes "extra")
  pub classes : text_in l.classes ≡ first_value f (codes "define")
  pub without_locks : (flag : Bool) → one_text f (codes "no-lock") ≡ Some (bool_text flag) → l.without_locks ≡ flag
  pub strict : (flag : Bool) → one_text f (codes "strict") ≡ Some (bool_text flag) → l.strict ≡ flag

line_is : (f : Found) (l : Line) (g : Given) → Reads f l → Shows g (rows_of f) → fits g.words ≡ true → given_of l ≡ g
line_is f l g r h e =
    let first : text_in l.command ≡ slice_get g.words 0 = r.command ∙ first_value-rows f (codes "command") ∙ h.command in
    let second : text_in l.argument ≡ slice_get g.words 1 = r.argument ∙ first_value-rows f (codes "argument") ∙ h.argument in
    let third : text_in l.extra ≡ slice_get g.words 2 = r.extra ∙ first_value-rows f (codes "extra") ∙ h.extra in
    let list : text_in l.classes ≡ g.classes = r.classes ∙ first_value-rows f (codes "define") ∙ h.defines in
    let locks : l.without_locks ≡ g.no_lock = r.without_locks g.no_lock (one_text-rows f (codes "no-lock") ∙ h.locks) in
    let strictly : l.strict ≡ g.strict = r.strict g.strict (one_text-rows f (codes "strict") ∙ h.strictly) in
    let all : words_in (text_in l.command ∷ text_in l.argument ∷ text_in l.extra ∷ []) ≡ g.words = (λ i. words_in (first i ∷ second i ∷ third i ∷ [])) ∙ words_back g.words e in
    λ i. record { words = all i; no_lock = locks i; strict = strictly i; classes = list i }

pub taken : (words : List Text) → list_all is_utf8 words ≡ true → (f : Found) (l : Line) → Reads f l → fault_of command_line words ≡ [] → rows_of f ≡ matches_of command_line words
    → Some (given_of l) ≡ given words
taken words u f l r fine is = go (given words) (given_fits words) (reading words u)
  where
    go : (o : Option Given) → Fits o → Agrees o (fault_of command_line words, matches_of command_line words) → Some (given_of l) ≡ o
    go None e a = absurd (a fine)
    go (Some g) e a = ap Some (line_is f l g r (subst (Shows g) (sym is) a.1) e)

pub refused : (words : List Text) → list_all is_utf8 words ≡ true → (k : ErrorKind) → IsAmong k (fault_of command_line words) → None ≡ given words
refused words u k among = go (given words) (reading words u)
  where
    none_among : (ks : Kinds) → ks ≡ [] → IsAmong k ks → ⊥
    none_among ks e h = subst (IsAmong k) e h

    go : (o : Option Given) → Agrees o (fault_of command_line words, matches_of command_line words) → None ≡ o
    go None a = refl
    go (Some g) a = absurd (none_among (fault_of command_line words) a.0 among)
