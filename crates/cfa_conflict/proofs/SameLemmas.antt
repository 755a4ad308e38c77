-- Acts that count as the same are equal.
use Rattle.std.proofs.Common.{◌≡◌, ℕ, List, [], ◌∷◌, Bool, true, false, ◌&&◌, Option, Some, None, refl, ap, ap₂}
use Rattle.std.proofs.lemmas.Bool.{false≢true, and_parts, eqb-true}
use Rattle.std.proofs.lemmas.Slice.Eq.{bytes_eq-Decides, slice_eq-Decides}
use Rattle.std.specs.Cmp.Lexicographic.{pointwise}
use Rattle.std.specs.Str.{bytes_eq}
use Rattle.cfa_base.specs.Index.{Text}
use Rattle.cfa_base.specs.lemmas.EqualTexts.{is_text}
use Rattle.cfa_acts.specs.declared.acts.Act.{Act}
use Rattle.cfa_acts.specs.declared.acts.Act.TheVariants.{Create, MakeDir, Delete, Content, Copy, Edit, Perms, Start, Stop, Enable, Disable, Restart, Bust}
use Rattle.cfa_acts.specs.Same.{is_same_mode, is_same_flag, is_same}

names_are : (xs ys : List Text) → pointwise bytes_eq xs ys ≡ true → xs ≡ ys
names_are xs ys = (slice_eq-Decides bytes_eq-Decides xs ys (pointwise bytes_eq xs ys) refl).0

mode_is : (a b : Option ℕ) → is_same_mode a b ≡ true → a ≡ b
mode_is (Some a) (Some b) is = ap Some (eqb-true a b is)
mode_is (Some a) None is = absurd (false≢true is)
mode_is None (Some b) is = absurd (false≢true is)
mode_is None None is = refl

flag_is : (a b : Bool) → is_same_flag a b ≡ true → a ≡ b
flag_is true true is = refl
flag_is true false is = absurd (false≢true is)
flag_is false true is = absurd (false≢true is)
flag_is false false is = refl

delete_is : (path other : Text) (a b : Bool) → (bytes_eq path other && is_same_flag a b) ≡ true → Delete path a ≡ Delete other b
delete_is path other a b is =
    let parts = and_parts (bytes_eq path other) (is_same_flag a b) is in
    let at = is_text path other parts.0 in
    let same = flag_is a b parts.1 in
    cc

-- acts that are made of two texts
texts_are : (make : Text → Text → Act) (first second one other : Text) → (bytes_eq first one && bytes_eq second other) ≡ true → make first second ≡ make one other
texts_are make first second one other is =
    let parts = and_parts (bytes_eq first one) (bytes_eq second other) is in
    ap₂ make (is_text first one parts.0) (is_text second other parts.1)

perms_are : (path other : Text) (mode m : Option ℕ) (owners os groups gs : List Text)
    → (bytes_eq path other && (is_same_mode mode m && (pointwise bytes_eq owners os && pointwise bytes_eq groups gs))) ≡ true
    → Perms path mode owners groups ≡ Perms other m os gs
perms_are path other mode m owners os groups gs is =
    let names = pointwise bytes_eq owners os && pointwise bytes_eq groups gs in
    let first = and_parts (bytes_eq path other) (is_same_mode mode m && names) is in
    let second = and_parts (is_same_mode mode m) names first.1 in
    let third = and_parts (pointwise bytes_eq owners os) (pointwise bytes_eq groups gs) second.1 in
    let at = is_text path other first.0 in
    let same_mode = mode_is mode m second.0 in
    let same_owners = names_are owners os third.0 in
    let same_groups = names_are groups gs third.1 in
    cc

same_is : (act other : Act) → is_same act other ≡ true → act ≡ other
same_is (Create path) (Create other) is = ap Create (is_text path other is)
same_is (Create path) _ is = absurd (false≢true is)
same_is (MakeDir path) (MakeDir other) is = ap MakeDir (is_text path other is)
same_is (MakeDir path) _ is = absurd (false≢true is)
same_is (Delete path with_directories) (Delete other with_too) is = delete_is path other with_directories with_too is
same_is (Delete path with_directories) _ is = absurd (false≢true is)
same_is (Content path bytes) (Content other content) is = texts_are Content path bytes other content is
same_is (Content path bytes) _ is = absurd (false≢true is)
same_is (Copy source path) (Copy from other) is = texts_are Copy source path from other is
same_is (Copy source path) _ is = absurd (false≢true is)
same_is (Edit path _) _ is = absurd (false≢true is)
same_is (Perms path mode owners groups) (Perms other m os gs) is = perms_are path other mode m owners os groups gs is
same_is (Perms path mode owners groups) _ is = absurd (false≢true is)
same_is (Start name) (Start other) is = ap Start (is_text name other is)
same_is (Start name) _ is = absurd (false≢true is)
same_is (Stop name) (Stop other) is = ap Stop (is_text name other is)
same_is (Stop name) _ is = absurd (false≢true is)
same_is (Enable name) (Enable other) is = ap Enable (is_text name other is)
same_is (Enable name) _ is = absurd (false≢true is)
same_is (Disable name) (Disable other) is = ap Disable (is_text name other is)
same_is (Disable name) _ is = absurd (false≢true is)
same_is (Restart name) _ is = absurd (false≢true is)
same_is (Bust _) _ is = absurd (false≢true is)

pub acts_are : (acts others : List Act) → pointwise is_same acts others ≡ true → acts ≡ others
acts_are [] [] is = refl
acts_are [] (other ∷ others) is = absurd (false≢true is)
acts_are (act ∷ acts) [] is = absurd (false≢true is)
acts_are (act ∷ acts) (other ∷ others) is =
    let parts = and_parts (is_same act other) (pointwise is_same acts others) is in
    let here = same_is act other parts.0 in
    let there = acts_are acts others parts.1 in
    cc
