-- Instances of one path and key text have the same acts.
use Rattle.std.proofs.Common.{◌≡◌, true, refl}
use Rattle.std.specs.List.{AllByRecursion as Each}
use Rattle.std.specs.Str.{bytes_eq}
use Rattle.std.proofs.lemmas.Bool.{and_parts, and_from}
use Rattle.std.proofs.lemmas.List.Elements.{recursion_from_All}
use Rattle.cfa_base.specs.lemmas.EqualTexts.{same_text, is_text}
use Rattle.cfa_resolve.specs.declared.instances.Instance.{Instance}
use Rattle.cfa_resolve.specs.declared.instances.Work.{Work}
use Rattle.cfa_resolve.specs.declared.instances.Work.TheVariants.{Acts, Call, Report}
use Rattle.cfa_states.specs.Tellers.{acts_of}
use Rattle.cfa_laws.specs.Keys.{IsGiven, AreGiven, IsKeyed}
use Rattle.cfa_convergence.specs.Keys.{AreAlike, KeysTellWorks}
use Rattle.cfa_convergence.specs.Conflicts.{HasActs, is_same}

pub is_itself : (i : Instance) → is_same i i ≡ true
is_itself i = and_from (bytes_eq i.path i.path) (bytes_eq i.text i.text) (same_text i.path) (same_text i.text)

-- what is_same tells: the other has the path and the key text
pub names_of : (i j : Instance) → is_same i j ≡ true → (j.path ≡ i.path) × (j.text ≡ i.text)
names_of i j e =
    let parts = and_parts (bytes_eq j.path i.path) (bytes_eq j.text i.text) e in
    (is_text j.path i.path parts.0, is_text j.text i.text parts.1)

pub acts_alike : (w v : Work) → AreAlike w v → acts_of w ≡ acts_of v
acts_alike (Acts acts) (Acts others) e = e
acts_alike (Acts acts) (Call name given) e = absurd e
acts_alike (Acts acts) (Report content) e = absurd e
acts_alike (Call name given) (Acts others) e = absurd e
acts_alike (Call name given) (Call other given') e = refl
acts_alike (Call name given) (Report content) e = absurd e
acts_alike (Report content) (Acts others) e = absurd e
acts_alike (Report content) (Call name given) e = absurd e
acts_alike (Report content) (Report other) e = refl

pub kind_alike : (w v : Work) → AreAlike w v → HasActs v → HasActs w
kind_alike (Acts acts) v e has = tt
kind_alike (Call name given) (Acts others) e has = e
kind_alike (Call name given) (Call other given') e has = has
kind_alike (Call name given) (Report content) e has = has
kind_alike (Report content) (Acts others) e has = e
kind_alike (Report content) (Call name given) e has = has
kind_alike (Report content) (Report other) e has = has

pub given_acts : (w : Work) → AreGiven w → Each IsGiven (acts_of w)
given_acts (Acts acts) given = recursion_from_All IsGiven acts given
given_acts (Call name arguments) given = tt
given_acts (Report content) given = tt

module _ (tell : KeysTellWorks) (i j : Instance) (key : IsKeyed i) (other : IsKeyed j) (same : is_same i j ≡ true) where
  alike : AreAlike j.work i.work
  alike = tell j i other key (names_of i j same).1

  -- they have the same acts
  pub one_acts : acts_of j.work ≡ acts_of i.work
  one_acts = acts_alike j.work i.work alike

  pub one_kind : HasActs i.work → HasActs j.work
  one_kind has = kind_alike j.work i.work alike has
